-- Words of writable definitions stand apart.
use Rattle.std.proofs.Common.{◌≡◌, ℕ, zero, suc, ◌<◌, ℤ, pos, negsuc, List, [], ◌∷◌, length, Bool, true, Option, Some, None, refl, codes, arith, false}
use Rattle.std.specs.List.{AllByRecursion}
use Rattle.std.proofs.lemmas.Bool.{and_from}
use Rattle.std.proofs.lemmas.Bool.Decides.{nat_tests}
use Rattle.isle_printer.specs.Number.{numeral, glyph}
use Rattle.isle_printer.proofs.Numerals.{list_all-numeral_by, numeral_not_empty}
use Rattle.isle_ast.specs.Tree.{Pattern, Patterns, NoPattern, APattern, Expr, Exprs, NoExpr, AnExpr, Lets, NoLet, ALet, IfLet, Def}
use Rattle.isle_ast.specs.Tree as tree
use Rattle.isle_ast.specs.Views.{patterns_of}
use Rattle.isle_ast.specs.declared.tree.AstBody.{AstBody}
use Rattle.isle_ast.specs.declared.tree.AstBody.TheVariants as body
use Rattle.isle_ast.specs.declared.tree.AstFields.{AstFields}
use Rattle.isle_ast.specs.declared.tree.AstFields.TheVariants as fields
use Rattle.isle_ast.specs.declared.tree.AstVariant.{AstVariant}
use Rattle.isle_writing.specs.Text.{truth_text, number_text}
use Rattle.isle_writing.specs.LaidDefs.{LaidDef, laid_defs}
use Rattle.isle_writing.specs.Writable.{is_plain_byte, IsPlain, IsWord, NamesOne, AreNames, IsPattern, ArePatterns, IsExpr, AreExprs, AreLets, IsCondition, AreFields, IsVariant, IsBody, NamesRule, IsNamed}
use Rattle.isle_writing.proofs.Pieces.{Piece, Blank, Closes, Spelt, ends_word, AreApart}
use Rattle.isle_writing.proofs.Laid.{mark_pieces, names_pieces, joined_pieces, pattern_pieces, patterns_pieces, expr_pieces, exprs_pieces, lets_pieces, named_pieces, shape_pieces, variant_pieces, variants_pieces, body_pieces, flags_pieces, rule_name_pieces, prio_pieces, iflets_pieces, def_pieces, laid_pieces}

-- ---- words

glyph_plain : (d : ℕ) → d < 16 → is_plain_byte (glyph d) ≡ true
glyph_plain d h = grind (arith, nat_tests)

pub numeral_word : (n : ℕ) → IsWord (numeral 10 n)
numeral_word n = (numeral_not_empty 10 n (omega arith), list_all-numeral_by is_plain_byte 10 n (omega arith) (omega arith) glyph_plain)

number_word : (n : ℤ) → IsWord (number_text n)
number_word (pos n) = numeral_word n
number_word (negsuc n) = (omega arith, and_from _ _ refl (numeral_word (suc n)).1)

truth_word : (b : Bool) → IsWord (truth_text b)
truth_word true = (omega arith, refl)
truth_word false = (omega arith, refl)

constant_word : (name : List ℕ) → IsPlain name → IsWord (36 ∷ name)
constant_word name h = (omega arith, and_from _ _ refl h)

fixed : (w : List ℕ) → 0 < length w → IsPlain w → IsWord w
fixed w h k = (h, k)

-- ---- in front of pieces that stand apart, these do

-- such pieces, the first of which is no word
abbrev pub Fits : List Piece → Type 0
Fits ps = (ends_word ps ≡ true) × AreApart ps

-- such pieces
mark_apart : (b : Bool) (w : List ℕ) (ps : List Piece) → IsWord w → AreApart ps → AreApart (mark_pieces b w ps)
mark_apart true w ps h k = (h, (refl, (refl, k)))
mark_apart false w ps h k = k

names_fit : (names : List (List ℕ)) (ps : List Piece) → AreNames names → Fits ps → Fits (names_pieces names ps)
names_fit [] ps h k = k
names_fit (n ∷ names) ps h k = let x = names_fit names ps h.1 k in (refl, (refl, (h.0.0, x)))

joined_apart : (names : List (List ℕ)) (ps : List Piece) → AreNames names → Fits ps → AreApart (joined_pieces names ps)
joined_apart [] ps h k = k.1
joined_apart (n ∷ names) ps h k = (h.0.0, names_fit names ps h.1 k)

mutual
  pattern_apart : (p : Pattern) (ps : List Piece) → IsPattern p → Fits ps → AreApart (pattern_pieces p ps)
  pattern_apart (tree.Int n) ps h k = (number_word n, k)
  pattern_apart (tree.Truth b) ps h k = (truth_word b, k)
  pattern_apart (tree.Const name) ps h k = (constant_word name h, k)
  pattern_apart tree.Wildcard ps h k = (fixed (codes "_") (omega arith) refl, k)
  pattern_apart (tree.Var name) ps h k = (h.0, k)
  pattern_apart (tree.Bind name p) ps h k = (h.0.0, (refl, (refl, (refl, pattern_apart p ps h.1 k))))
  pattern_apart (tree.And parts) ps h k = (fixed (codes "and") (omega arith) refl, patterns_fit parts (Closes ∷ ps) h (refl, k.1))
  pattern_apart (tree.Term name parts) ps h k = (h.0, patterns_fit parts (Closes ∷ ps) h.2 (refl, k.1))

  patterns_fit : (parts : Patterns) (ps : List Piece) → ArePatterns parts → Fits ps → Fits (patterns_pieces parts ps)
  patterns_fit NoPattern ps h k = k
  patterns_fit (APattern p others) ps h k = (refl, (refl, pattern_apart p (patterns_pieces others ps) h.0 (patterns_fit others ps h.1 k)))

mutual
  expr_apart : (e : Expr) (ps : List Piece) → IsExpr e → Fits ps → AreApart (expr_pieces e ps)
  expr_apart (tree.Number n) ps h k = (number_word n, k)
  expr_apart (tree.Fact b) ps h k = (truth_word b, k)
  expr_apart (tree.Constant name) ps h k = (constant_word name h, k)
  expr_apart (tree.Name name) ps h k = (h.0, k)
  expr_apart (tree.Let ls e) ps h k =
      (fixed (codes "let") (omega arith) refl, (refl, (refl, lets_fit ls (Closes ∷ Blank 32 ∷ expr_pieces e (Closes ∷ ps)) h.0 (refl, (refl, expr_apart e (Closes ∷ ps) h.1 (refl, k.1))))))
  expr_apart (tree.Call name es) ps h k = (h.0, exprs_fit es (Closes ∷ ps) h.2 (refl, k.1))

  exprs_fit : (es : Exprs) (ps : List Piece) → AreExprs es → Fits ps → Fits (exprs_pieces es ps)
  exprs_fit NoExpr ps h k = k
  exprs_fit (AnExpr e es) ps h k = (refl, (refl, expr_apart e (exprs_pieces es ps) h.0 (exprs_fit es ps h.1 k)))

  -- without blanks in front of the first
  lets_fit : (ls : Lets) (ps : List Piece) → AreLets ls → Fits ps → AreApart (lets_pieces [] ls ps)
  lets_fit NoLet ps h k = k.1
  lets_fit (ALet var ty e ls) ps h k =
      (h.0.0, (refl, (refl, (h.1.0, (refl, (refl, expr_apart e (Closes ∷ lets_pieces (32 ∷ []) ls ps) h.2 (refl, lets_after ls ps h.3 k)))))))

  -- after a blank
  lets_after : (ls : Lets) (ps : List Piece) → AreLets ls → Fits ps → AreApart (lets_pieces (32 ∷ []) ls ps)
  lets_after NoLet ps h k = k.1
  lets_after (ALet var ty e ls) ps h k =
      (refl, (h.0.0, (refl, (refl, (h.1.0, (refl, (refl, expr_apart e (Closes ∷ lets_pieces (32 ∷ []) ls ps) h.2 (refl, lets_after ls ps h.3 k))))))))

named_fit : (fs : List (List ℕ × List ℕ)) (ps : List Piece) → AllByRecursion (λ (f : List ℕ × List ℕ). NamesOne f.0 × NamesOne f.1) fs → Fits ps → Fits (named_pieces fs ps)
named_fit [] ps h k = k
named_fit (f ∷ fs) ps h k = (refl, (refl, (h.0.0.0, (refl, (refl, (h.0.1.0, (refl, (named_fit fs ps h.1 k).1)))))))

shape_fit : (fs : AstFields) (ps : List Piece) → AreFields fs → Fits ps → Fits (shape_pieces fs ps)
shape_fit fields.Unit ps h k = k
shape_fit (fields.Named []) ps h k = absurd h
shape_fit (fields.Named (f ∷ fs)) ps h k = named_fit (f ∷ fs) ps h k
shape_fit (fields.Tuple []) ps h k = absurd h
shape_fit (fields.Tuple (t ∷ ts)) ps h k = names_fit (t ∷ ts) ps h k

variant_apart : (name : List ℕ) (fs : AstFields) (ps : List Piece) → NamesOne name → AreFields fs → Fits ps → AreApart (variant_pieces name fs ps)
variant_apart name fields.Unit ps h g k = (h.0, k)
variant_apart name (fields.Named fs) ps h g k = (h.0, shape_fit (fields.Named fs) (Closes ∷ ps) g (refl, k.1))
variant_apart name (fields.Tuple ts) ps h g k = (h.0, shape_fit (fields.Tuple ts) (Closes ∷ ps) g (refl, k.1))

variants_fit : (vs : List AstVariant) (ps : List Piece) → AllByRecursion (λ (v : AstVariant). IsVariant v) vs → Fits ps → Fits (variants_pieces vs ps)
variants_fit [] ps h k = k
variants_fit (v ∷ vs) ps h k = (refl, (refl, (refl, (refl, variant_apart v.name v.fields (variants_pieces vs ps) h.0.0 h.0.1 (variants_fit vs ps h.1 k)))))

body_apart : (b : AstBody) (ps : List Piece) → IsBody b → Fits ps → AreApart (body_pieces b ps)
body_apart (body.Primitive name) ps h k = (fixed (codes "primitive") (omega arith) refl, (refl, (refl, (h.0, (refl, k.1)))))
body_apart (body.Enum vs) ps h k = (fixed (codes "enum") (omega arith) refl, variants_fit vs (Closes ∷ ps) h (refl, k.1))
body_apart (body.Struct fs) ps h k = (fixed (codes "struct") (omega arith) refl, shape_fit fs (Closes ∷ ps) h (refl, k.1))

flags_apart : (pure multi partial recursive : Bool) (ps : List Piece) → AreApart ps → AreApart (flags_pieces pure multi partial recursive ps)
flags_apart pure multi partial recursive ps k =
    mark_apart pure (codes "pure") _ (omega arith, refl)
    (mark_apart multi (codes "multi") _ (omega arith, refl) (mark_apart partial (codes "partial") _ (omega arith, refl) (mark_apart recursive (codes "rec") ps (omega arith, refl) k)))

rule_name_apart : (name : Option (List ℕ)) (ps : List Piece) → NamesRule name → AreApart ps → AreApart (rule_name_pieces name ps)
rule_name_apart None ps h k = k
rule_name_apart (Some name) ps h k = (h.0, (refl, (refl, k)))

prio_apart : (z : Bool) (n : ℤ) (ps : List Piece) → AreApart ps → AreApart (prio_pieces z n ps)
prio_apart true n ps k = (number_word n, (refl, (refl, k)))
prio_apart false (pos zero) ps k = k
prio_apart false (pos (suc n)) ps k = (number_word (pos (suc n)), (refl, (refl, k)))
prio_apart false (negsuc n) ps k = (number_word (negsuc n), (refl, (refl, k)))

iflets_apart : (is : List IfLet) (ps : List Piece) → AllByRecursion (λ (i : IfLet). IsCondition i) is → AreApart ps → AreApart (iflets_pieces is ps)
iflets_apart [] ps h k = k
iflets_apart (i ∷ is) ps h k =
    let others : AreApart (iflets_pieces is ps) = iflets_apart is ps h.1 k in (
      fixed (codes "if-let") (omega arith) refl,
      (
        refl,
        (
          refl,
          pattern_apart i.lhs (Blank 32 ∷ expr_pieces i.rhs (Closes ∷ Blank 32 ∷ iflets_pieces is ps)) h.0.0
              (refl, (refl, expr_apart i.rhs (Closes ∷ Blank 32 ∷ iflets_pieces is ps) h.0.1 (refl, (refl, others)))),
        ),
      ),
    )

def_apart : (z : Bool) (d : Def) (ps : List Piece) → IsNamed d → AreApart ps → AreApart (def_pieces z d ps)
def_apart z (tree.TypeDecl name is_extern is_nodebug b at) ps h k = (
  (omega arith, refl),
  (
    refl,
    (
      refl,
      (
        h.0.0,
        (
          refl,
          (
            refl,
            mark_apart is_extern (codes "extern") _ (omega arith, refl)
                (mark_apart is_nodebug (codes "nodebug") _ (omega arith, refl) (body_apart b (Closes ∷ Blank 10 ∷ ps) h.1 (refl, (refl, k)))),
          ),
        ),
      ),
    ),
  ),
)
def_apart z (tree.Decl term pure multi partial recursive args ret at) ps h k = (
  (omega arith, refl),
  (
    refl,
    (
      refl,
      flags_apart pure multi partial recursive _
          (h.0.0, (refl, (refl, joined_apart args (Closes ∷ Blank 32 ∷ Spelt ret ∷ Closes ∷ Blank 10 ∷ ps) h.1 (refl, (refl, (h.2.0, (refl, (refl, k)))))))),
    ),
  ),
)
def_apart z (tree.ExternConstructor term func at) ps h k =
    ((omega arith, refl), (refl, (refl, ((omega arith, refl), (refl, (refl, (h.0.0, (refl, (refl, (h.1.0, (refl, (refl, k))))))))))))
def_apart z (tree.ExternExtractor term func infallible at) ps h k =
    ((omega arith, refl), (refl, (refl, ((omega arith, refl), (refl, (refl, mark_apart infallible (codes "infallible") _ (omega arith, refl) (h.0.0, (refl, (refl, (h.1.0, (refl, (refl, k))))))))))))
def_apart z (tree.ExternConst name ty at) ps h k =
    ((omega arith, refl), (refl, (refl, ((omega arith, refl), (refl, (refl, (constant_word name h.0, (refl, (refl, (h.1.0, (refl, (refl, k))))))))))))
def_apart z (tree.Extractor term params p at) ps h k =
    ((omega arith, refl), (refl, (refl, (h.0.0, names_fit params (Closes ∷ Blank 32 ∷ pattern_pieces p (Closes ∷ Blank 10 ∷ ps)) h.1 (refl, (refl, pattern_apart p (Closes ∷ Blank 10 ∷ ps) h.2 (refl, (refl, k))))))))
def_apart z (tree.Converter from to term at) ps h k =
    ((omega arith, refl), (refl, (refl, (h.0.0, (refl, (refl, (h.1.0, (refl, (refl, (h.2.0, (refl, (refl, k))))))))))))
def_apart z (tree.Rule name prio term args iflets rhs at) ps h k = (
  (omega arith, refl),
  (
    refl,
    (
      refl,
      rule_name_apart name _ h.0 (prio_apart z prio _ (
        h.2.0,
        patterns_fit (patterns_of args) _ h.3
            (refl, (refl, iflets_apart iflets _ h.4 (expr_apart rhs (Closes ∷ Blank 10 ∷ ps) h.5 (refl, (refl, k))))),
      )),
    ),
  ),
)
def_apart z (tree.Passed head at) ps h k = absurd h

pub laid_apart : (ls : List LaidDef) → AllByRecursion (λ (d : Def). IsNamed d) (laid_defs ls) → AreApart (laid_pieces ls)
laid_apart [] h = tt
laid_apart (l ∷ ls) h = def_apart l.shows_zero l.def (laid_pieces ls) h.0 (laid_apart ls h.1)
