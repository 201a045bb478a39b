-- The bytes of a definition's pieces are its text.
use Rattle.std.proofs.Common.{◌≡◌, ℕ, zero, suc, ℤ, pos, negsuc, List, [], ◌∷◌, ◌++◌, Bool, true, false, Option, Some, None, refl, ap, ◌∙◌, append_assoc, codes}
use Rattle.isle_ast.specs.Tree.{Pattern, Patterns, NoPattern, APattern, Expr, Exprs, NoExpr, AnExpr, Lets, NoLet, ALet, IfLet, Def}
use Rattle.isle_ast.specs.Tree as tree
use Rattle.isle_ast.specs.Views.{patterns_of}
use Rattle.isle_ast.specs.declared.tree.AstBody.{AstBody}
use Rattle.isle_ast.specs.declared.tree.AstBody.TheVariants as body
use Rattle.isle_ast.specs.declared.tree.AstFields.{AstFields}
use Rattle.isle_ast.specs.declared.tree.AstFields.TheVariants as fields
use Rattle.isle_ast.specs.declared.tree.AstVariant.{AstVariant}
use Rattle.isle_writing.specs.Text.{mark_text, spaced, pattern_text, patterns_text, expr_text, exprs_text, lets_text, named_text, shape_text, variant_text, variants_text, body_text, flags_text, rule_name_text, prio_text, iflets_text, def_text, whole_def_text, whole_prio_text, parts_text, conclusion_text}
use Rattle.isle_writing.specs.LaidDefs.{LaidDef, laid_texts, text_by}
use Rattle.isle_writing.proofs.Pieces.{Piece, Closes, Blank, bytes_of}
use Rattle.isle_writing.proofs.Laid.{mark_pieces, names_pieces, joined_pieces, pattern_pieces, patterns_pieces, expr_pieces, exprs_pieces, gap_pieces, lets_pieces, named_pieces, shape_pieces, variant_pieces, variants_pieces, body_pieces, flags_pieces, rule_name_pieces, prio_pieces, iflets_pieces, def_pieces, laid_pieces}

mark_bytes : (b : Bool) (w : List ℕ) (ps : List Piece) → bytes_of (mark_pieces b w ps) ≡ mark_text b w ++ bytes_of ps
mark_bytes true w ps = simp append_assoc
mark_bytes false w ps = refl

names_bytes : (names : List (List ℕ)) (ps : List Piece) → bytes_of (names_pieces names ps) ≡ spaced (codes " ") names ++ bytes_of ps
names_bytes [] ps = refl
names_bytes (n ∷ names) ps = ap (λ z. 32 ∷ (n ++ z)) (names_bytes names ps) ∙ simp append_assoc

joined_bytes : (names : List (List ℕ)) (ps : List Piece) → bytes_of (joined_pieces names ps) ≡ spaced [] names ++ bytes_of ps
joined_bytes [] ps = refl
joined_bytes (n ∷ names) ps = ap (λ z. n ++ z) (names_bytes names ps) ∙ simp append_assoc

mutual
  pub pattern_bytes : (p : Pattern) (ps : List Piece) → bytes_of (pattern_pieces p ps) ≡ pattern_text p ++ bytes_of ps
  pattern_bytes (tree.Int n) ps = refl
  pattern_bytes (tree.Truth b) ps = refl
  pattern_bytes (tree.Const name) ps = refl
  pattern_bytes tree.Wildcard ps = refl
  pattern_bytes (tree.Var name) ps = refl
  pattern_bytes (tree.Bind name p) ps = ap (λ z. name ++ (32 ∷ 64 ∷ 32 ∷ z)) (pattern_bytes p ps) ∙ simp append_assoc
  pattern_bytes (tree.And parts) ps = ap (λ z. codes "(and" ++ z) (patterns_bytes parts (Closes ∷ ps)) ∙ simp append_assoc
  pattern_bytes (tree.Term name parts) ps = ap (λ z. 40 ∷ (name ++ z)) (patterns_bytes parts (Closes ∷ ps)) ∙ simp append_assoc

  pub patterns_bytes : (parts : Patterns) (ps : List Piece) → bytes_of (patterns_pieces parts ps) ≡ patterns_text parts ++ bytes_of ps
  patterns_bytes NoPattern ps = refl
  patterns_bytes (APattern p others) ps =
      ap (λ z. 32 ∷ z) (pattern_bytes p (patterns_pieces others ps) ∙ ap (λ z. pattern_text p ++ z) (patterns_bytes others ps)) ∙ simp append_assoc

gap_bytes : (gap : List ℕ) (ps : List Piece) → bytes_of (gap_pieces gap ps) ≡ gap ++ bytes_of ps
gap_bytes [] ps = refl
gap_bytes (b ∷ bs) ps = ap (λ z. b ∷ z) (gap_bytes bs ps)

mutual
  pub expr_bytes : (e : Expr) (ps : List Piece) → bytes_of (expr_pieces e ps) ≡ expr_text e ++ bytes_of ps
  expr_bytes (tree.Number n) ps = refl
  expr_bytes (tree.Fact b) ps = refl
  expr_bytes (tree.Constant name) ps = refl
  expr_bytes (tree.Name name) ps = refl
  expr_bytes (tree.Let ls e) ps =
      ap (λ z. codes "(let (" ++ z) (lets_bytes [] ls (Closes ∷ Blank 32 ∷ expr_pieces e (Closes ∷ ps)))
      ∙ ap (λ z. codes "(let (" ++ (lets_text [] ls ++ (41 ∷ 32 ∷ z))) (expr_bytes e (Closes ∷ ps)) ∙ simp append_assoc
  expr_bytes (tree.Call name es) ps = ap (λ z. 40 ∷ (name ++ z)) (exprs_bytes es (Closes ∷ ps)) ∙ simp append_assoc

  pub exprs_bytes : (es : Exprs) (ps : List Piece) → bytes_of (exprs_pieces es ps) ≡ exprs_text es ++ bytes_of ps
  exprs_bytes NoExpr ps = refl
  exprs_bytes (AnExpr e es) ps =
      ap (λ z. 32 ∷ z) (expr_bytes e (exprs_pieces es ps) ∙ ap (λ z. expr_text e ++ z) (exprs_bytes es ps)) ∙ simp append_assoc

  lets_bytes : (gap : List ℕ) (ls : Lets) (ps : List Piece) → bytes_of (lets_pieces gap ls ps) ≡ lets_text gap ls ++ bytes_of ps
  lets_bytes gap NoLet ps = refl
  lets_bytes gap (ALet var ty e ls) ps =
      gap_bytes gap _
      ∙ ap (λ z. gap ++ (40 ∷ (var ++ (32 ∷ (ty ++ (32 ∷ z)))))) (expr_bytes e (Closes ∷ lets_pieces (32 ∷ []) ls ps))
      ∙ ap (λ z. gap ++ (40 ∷ (var ++ (32 ∷ (ty ++ (32 ∷ (expr_text e ++ (41 ∷ z)))))))) (lets_bytes (32 ∷ []) ls ps)
      ∙ simp append_assoc

named_bytes : (fs : List (List ℕ × List ℕ)) (ps : List Piece) → bytes_of (named_pieces fs ps) ≡ named_text fs ++ bytes_of ps
named_bytes [] ps = refl
named_bytes (f ∷ fs) ps = ap (λ z. 32 ∷ 40 ∷ (f.0 ++ (32 ∷ (f.1 ++ (41 ∷ z))))) (named_bytes fs ps) ∙ simp append_assoc

shape_bytes : (fs : AstFields) (ps : List Piece) → bytes_of (shape_pieces fs ps) ≡ shape_text fs ++ bytes_of ps
shape_bytes fields.Unit ps = refl
shape_bytes (fields.Named fs) ps = named_bytes fs ps
shape_bytes (fields.Tuple ts) ps = names_bytes ts ps

variant_bytes : (name : List ℕ) (fs : AstFields) (ps : List Piece) → bytes_of (variant_pieces name fs ps) ≡ variant_text name fs ++ bytes_of ps
variant_bytes name fields.Unit ps = refl
variant_bytes name (fields.Named fs) ps = ap (λ z. 40 ∷ (name ++ z)) (named_bytes fs (Closes ∷ ps)) ∙ simp append_assoc
variant_bytes name (fields.Tuple ts) ps = ap (λ z. 40 ∷ (name ++ z)) (names_bytes ts (Closes ∷ ps)) ∙ simp append_assoc

variants_bytes : (vs : List AstVariant) (ps : List Piece) → bytes_of (variants_pieces vs ps) ≡ variants_text vs ++ bytes_of ps
variants_bytes [] ps = refl
variants_bytes (v ∷ vs) ps =
    ap (λ z. 10 ∷ 32 ∷ 32 ∷ z) (variant_bytes v.name v.fields (variants_pieces vs ps) ∙ ap (λ z. variant_text v.name v.fields ++ z) (variants_bytes vs ps)) ∙ simp append_assoc

body_bytes : (b : AstBody) (ps : List Piece) → bytes_of (body_pieces b ps) ≡ body_text b ++ bytes_of ps
body_bytes (body.Primitive name) ps = simp append_assoc
body_bytes (body.Enum vs) ps = ap (λ z. codes "(enum" ++ z) (variants_bytes vs (Closes ∷ ps)) ∙ simp append_assoc
body_bytes (body.Struct fs) ps = ap (λ z. codes "(struct" ++ z) (shape_bytes fs (Closes ∷ ps)) ∙ simp append_assoc

flags_bytes : (pure multi partial recursive : Bool) (ps : List Piece) → bytes_of (flags_pieces pure multi partial recursive ps) ≡ flags_text pure multi partial recursive ++ bytes_of ps
flags_bytes pure multi partial recursive ps =
    let m : List ℕ = mark_text multi (codes "multi") in
    let f : List ℕ = mark_text partial (codes "partial") in
    mark_bytes pure (codes "pure") _
    ∙ ap (λ z. mark_text pure (codes "pure") ++ z) (mark_bytes multi (codes "multi") _ ∙ ap (λ z. m ++ z) (mark_bytes partial (codes "partial") _ ∙ ap (λ z. f ++ z) (mark_bytes recursive (codes "rec") ps)))
    ∙ simp append_assoc

rule_name_bytes : (name : Option (List ℕ)) (ps : List Piece) → bytes_of (rule_name_pieces name ps) ≡ rule_name_text name ++ bytes_of ps
rule_name_bytes None ps = refl
rule_name_bytes (Some name) ps = simp append_assoc

-- a priority, by whether 0 is written
abbrev prio_by : Bool → ℤ → List ℕ
prio_by true n = whole_prio_text n
prio_by false n = prio_text n

prio_bytes : (z : Bool) (n : ℤ) (ps : List Piece) → bytes_of (prio_pieces z n ps) ≡ prio_by z n ++ bytes_of ps
prio_bytes true n ps = simp append_assoc
prio_bytes false (pos zero) ps = refl
prio_bytes false (pos (suc n)) ps = simp append_assoc
prio_bytes false (negsuc n) ps = simp append_assoc

iflets_bytes : (is : List IfLet) (ps : List Piece) → bytes_of (iflets_pieces is ps) ≡ iflets_text is ++ bytes_of ps
iflets_bytes [] ps = refl
iflets_bytes (i ∷ is) ps =
    ap (λ z. codes "(if-let " ++ z) (pattern_bytes i.lhs _)
    ∙ ap (λ z. codes "(if-let " ++ (pattern_text i.lhs ++ (32 ∷ z))) (expr_bytes i.rhs _ ∙ ap (λ z. expr_text i.rhs ++ (41 ∷ 32 ∷ z)) (iflets_bytes is ps))
    ∙ simp append_assoc

-- a rule, by whether a priority 0 is written
abbrev rule_by : Bool → Option (List ℕ) → ℤ → (term : List ℕ) → List Pattern → List IfLet → Expr → List ℕ
rule_by z name prio term args iflets rhs = codes "(rule " ++ (rule_name_text name ++ (prio_by z prio ++ (parts_text term args ++ conclusion_text iflets rhs)))

-- a definition
abbrev def_by : Bool → Def → List ℕ
def_by z (tree.TypeDecl name is_extern is_nodebug b at) = def_text (tree.TypeDecl name is_extern is_nodebug b at)
def_by z (tree.Decl term pure multi partial recursive args ret at) = def_text (tree.Decl term pure multi partial recursive args ret at)
def_by z (tree.ExternConstructor term func at) = def_text (tree.ExternConstructor term func at)
def_by z (tree.ExternExtractor term func infallible at) = def_text (tree.ExternExtractor term func infallible at)
def_by z (tree.ExternConst name ty at) = def_text (tree.ExternConst name ty at)
def_by z (tree.Extractor term params p at) = def_text (tree.Extractor term params p at)
def_by z (tree.Converter from to term at) = def_text (tree.Converter from to term at)
def_by z (tree.Rule name prio term args iflets rhs at) = rule_by z name prio term args iflets rhs
def_by z (tree.Passed head at) = def_text (tree.Passed head at)

plainly : (d : Def) → def_by false d ≡ def_text d
unfolding def_text
plainly (tree.TypeDecl name is_extern is_nodebug b at) = refl
plainly (tree.Decl term pure multi partial recursive args ret at) = refl
plainly (tree.ExternConstructor term func at) = refl
plainly (tree.ExternExtractor term func infallible at) = refl
plainly (tree.ExternConst name ty at) = refl
plainly (tree.Extractor term params p at) = refl
plainly (tree.Converter from to term at) = refl
plainly (tree.Rule name prio term args iflets rhs at) = refl
plainly (tree.Passed head at) = refl

wholly : (d : Def) → def_by true d ≡ whole_def_text d
unfolding whole_def_text
wholly (tree.TypeDecl name is_extern is_nodebug b at) = refl
wholly (tree.Decl term pure multi partial recursive args ret at) = refl
wholly (tree.ExternConstructor term func at) = refl
wholly (tree.ExternExtractor term func infallible at) = refl
wholly (tree.ExternConst name ty at) = refl
wholly (tree.Extractor term params p at) = refl
wholly (tree.Converter from to term at) = refl
wholly (tree.Rule name prio term args iflets rhs at) = refl
wholly (tree.Passed head at) = refl

either_way : (z : Bool) (d : Def) → def_by z d ≡ text_by z d
either_way true d = wholly d
either_way false d = plainly d

def_bytes : (z : Bool) (d : Def) (ps : List Piece) → bytes_of (def_pieces z d ps) ≡ def_by z d ++ bytes_of ps
unfolding def_text
def_bytes z (tree.TypeDecl name is_extern is_nodebug b at) ps =
    let one : List ℕ = mark_text is_extern (codes "extern") in
    let two : List ℕ = mark_text is_nodebug (codes "nodebug") in
    ap (λ z. codes "(type " ++ (name ++ (32 ∷ z))) (mark_bytes is_extern (codes "extern") _ ∙ ap (λ z. one ++ z) (mark_bytes is_nodebug (codes "nodebug") _ ∙ ap (λ z. two ++ z) (body_bytes b _)))
    ∙ simp append_assoc
def_bytes b (tree.Decl term pure multi partial recursive args ret at) ps =
    ap (λ z. codes "(decl " ++ z) (flags_bytes pure multi partial recursive _)
    ∙ ap (λ z. codes "(decl " ++ (flags_text pure multi partial recursive ++ (term ++ (codes " (" ++ z)))) (joined_bytes args _)
    ∙ simp append_assoc
def_bytes b (tree.ExternConstructor term func at) ps = simp append_assoc
def_bytes b (tree.ExternExtractor term func infallible at) ps = ap (λ z. codes "(extern extractor " ++ z) (mark_bytes infallible (codes "infallible") _) ∙ simp append_assoc
def_bytes b (tree.ExternConst name ty at) ps = simp append_assoc
def_bytes b (tree.Extractor term params p at) ps =
    ap (λ z. codes "(extractor (" ++ (term ++ z)) (names_bytes params _ ∙ ap (λ z. spaced (codes " ") params ++ (41 ∷ 32 ∷ z)) (pattern_bytes p _))
    ∙ simp append_assoc
def_bytes b (tree.Converter from to term at) ps = simp append_assoc
def_bytes b (tree.Rule name prio term args iflets rhs at) ps =
    let parts : List ℕ = patterns_text (patterns_of args) in
    ap (λ z. codes "(rule " ++ z) (rule_name_bytes name _ ∙ ap (λ z. rule_name_text name ++ z) (prio_bytes b prio _))
    ∙ ap (λ z. codes "(rule " ++ (rule_name_text name ++ (prio_by b prio ++ (40 ∷ (term ++ z))))) (patterns_bytes (patterns_of args) _)
    ∙ ap (λ z. codes "(rule " ++ (rule_name_text name ++ (prio_by b prio ++ (40 ∷ (term ++ (parts ++ (41 ∷ 32 ∷ z))))))) (iflets_bytes iflets _ ∙ ap (λ z. iflets_text iflets ++ z) (expr_bytes rhs _))
    ∙ simp append_assoc
def_bytes b (tree.Passed head at) ps = simp append_assoc

-- the bytes of the pieces of definitions are their text
pub laid_bytes : (ls : List LaidDef) → bytes_of (laid_pieces ls) ≡ laid_texts ls
laid_bytes [] = refl
laid_bytes (l ∷ ls) =
    def_bytes l.shows_zero l.def (laid_pieces ls)
    ∙ ap (λ t. t ++ bytes_of (laid_pieces ls)) (either_way l.shows_zero l.def)
    ∙ ap (λ t. text_by l.shows_zero l.def ++ t) (laid_bytes ls)
