-- The tokens of definitions spell them.
use Rattle.std.proofs.Common.{◌≡◌, ℕ, zero, suc, ℤ, pos, negsuc, List, [], ◌∷◌, Bool, true, false, Option, Some, None, refl, ap, codes}
use Rattle.std.specs.Prelude.{FitsSigned}
use Rattle.std.specs.Int.{w64}
use Rattle.std.specs.List.{AllByRecursion}
use Rattle.isle_lexer.specs.Lexeme.{Lexeme}
use Rattle.isle_lexer.specs.Word.{kind}
use Rattle.isle_lexer.specs.Word as word
use Rattle.isle_reading.specs.Names.{NameS, symbol}
use Rattle.isle_reading.specs.Relations.{Many, none, more, WordsFrom, no_word, a_word}
use Rattle.isle_ast.specs.Tree.{Pattern, Patterns, NoPattern, APattern, Expr, Exprs, NoExpr, AnExpr, Lets, NoLet, ALet, IfLet, Def}
use Rattle.isle_ast.specs.Tree as tree
use Rattle.isle_ast.specs.Views.{patterns_of}
use Rattle.isle_ast.specs.declared.tree.AstBody.{AstBody}
use Rattle.isle_ast.specs.declared.tree.AstBody.TheVariants as body
use Rattle.isle_ast.specs.declared.tree.AstFields.{AstFields}
use Rattle.isle_ast.specs.declared.tree.AstFields.TheVariants as fields
use Rattle.isle_ast.specs.declared.tree.AstVariant.{AstVariant}
use Rattle.isle_grammar.specs.Grammar as grammar
use Rattle.isle_grammar.specs.Grammar.{pattern_of, IsAnd, IsTerm, PatternS, word_pattern, bound, PatternsS, no_pattern, a_pattern, expr_of, ExprS, word_expr, let_in, call, ExprsS, no_expr, an_expr, LetsS, no_let, a_let, IfLetS, if_let, TailS}
use Rattle.isle_grammar.specs.Grammar.{FieldS, field, ShapeS, VariantS, BodyS, RuleNameS, unnamed, named_rule, PrioS, unwritten, written, no_flags, with_flag, no_marks, with_mark, DefS, type_decl, decl, extern_constructor, extern_extractor, extern_infallible, extern_const, extractor, convert, rule}
use Rattle.isle_writing.specs.Text.{truth_text, number_text}
use Rattle.isle_writing.specs.Erased.{placed}
use Rattle.isle_writing.specs.Writable.{NamesOne, AreNames, IsPattern, ArePatterns, IsExpr, AreExprs, AreLets, IsCondition, AreFields, IsVariant, IsBody, NamesRule, IsNamed}
use Rattle.isle_writing.specs.Spelt.{declares_flag}
use Rattle.isle_writing.proofs.Pieces.{Piece, Blank, Opens, Closes, Spelt, lexemes_at}
use Rattle.isle_writing.proofs.Laid.{mark_pieces, names_pieces, joined_pieces, pattern_pieces, patterns_pieces, expr_pieces, exprs_pieces, lets_pieces, named_pieces, shape_pieces, variant_pieces, variants_pieces, body_pieces, flags_pieces, rule_name_pieces, prio_pieces, iflets_pieces, def_pieces}
use Rattle.isle_writing.proofs.Numbers.{number_kind_is, wide}

-- the tokens of all these pieces spell something, and those of the last ones are after it
abbrev pub Leaves : (List Lexeme → List Lexeme → Type 0) → ℕ → List Piece → List Piece → Type 0
Leaves S at all ps = (end : ℕ) × S (lexemes_at at all) (lexemes_at end ps)

-- ---- words

truth_kind : (b : Bool) → kind (truth_text b) ≡ word.Truth b
unfolding kind
truth_kind true = refl
truth_kind false = refl

dollar_kind : (name : List ℕ) → kind (36 ∷ name) ≡ word.Dollar name
unfolding kind
dollar_kind name = refl

blank_kind : kind (codes "_") ≡ word.Underscore
unfolding kind
blank_kind = refl

names_read : (names : List (List ℕ)) (at : ℕ) (ps : List Piece) → AreNames names → Leaves (Many NameS names) at (names_pieces names (Closes ∷ ps)) ps
names_read [] at ps h = (_, none _ _)
names_read (n ∷ names) at ps h = let x = names_read names _ ps h.1 in (x.0, more _ _ _ _ _ (symbol _ _ _ h.0.1) x.1)

joined_read : (names : List (List ℕ)) (at : ℕ) (ps : List Piece) → AreNames names → Leaves (Many NameS names) at (joined_pieces names (Closes ∷ ps)) ps
joined_read [] at ps h = (_, none _ _)
joined_read (n ∷ names) at ps h = let x = names_read names _ ps h.1 in (x.0, more _ _ _ _ _ (symbol _ _ _ h.0.1) x.1)

-- ---- patterns

mutual
  pattern_read : (p : Pattern) (at : ℕ) (ps : List Piece) → IsPattern p → Leaves (PatternS p) at (pattern_pieces p ps) ps
  pattern_read (tree.Int n) at ps h = (_, word_pattern _ _ _ _ (ap (pattern_of (number_text n)) (number_kind_is n h)))
  pattern_read (tree.Truth b) at ps h = (_, word_pattern _ _ _ _ (ap (pattern_of (truth_text b)) (truth_kind b)))
  pattern_read (tree.Const name) at ps h = (_, word_pattern _ _ _ _ (ap (pattern_of (36 ∷ name)) (dollar_kind name)))
  pattern_read tree.Wildcard at ps h = (_, word_pattern _ _ _ _ (ap (pattern_of (codes "_")) blank_kind))
  pattern_read (tree.Var name) at ps h = (_, word_pattern _ _ _ _ h.1)
  pattern_read (tree.Bind name p) at ps h = let x = pattern_read p _ ps h.1 in (x.0, bound _ _ _ _ _ _ h.0.1 x.1)
  pattern_read (tree.And parts) at ps h = let x = patterns_read parts _ ps h in (x.0, grammar.list _ _ (codes "and") IsAnd parts _ _ refl x.1)
  pattern_read (tree.Term name parts) at ps h = let x = patterns_read parts _ ps h.2 in (x.0, grammar.list _ _ name (IsTerm name) parts _ _ h.1 x.1)

  patterns_read : (parts : Patterns) (at : ℕ) (ps : List Piece) → ArePatterns parts → Leaves (PatternsS parts) at (patterns_pieces parts (Closes ∷ ps)) ps
  patterns_read NoPattern at ps h = (_, no_pattern _ _)
  patterns_read (APattern p others) at ps h =
      let x = pattern_read p _ (patterns_pieces others (Closes ∷ ps)) h.0 in
      let y = patterns_read others x.0 ps h.1 in
      (y.0, a_pattern _ _ _ _ _ x.1 y.1)

args_read : (args : List Pattern) (at : ℕ) (ps : List Piece) → ArePatterns (patterns_of args) → Leaves (Many PatternS args) at (patterns_pieces (patterns_of args) (Closes ∷ ps)) ps
args_read [] at ps h = (_, none _ _)
args_read (p ∷ args) at ps h =
    let x = pattern_read p _ (patterns_pieces (patterns_of args) (Closes ∷ ps)) h.0 in
    let y = args_read args x.0 ps h.1 in
    (y.0, more _ _ _ _ _ x.1 y.1)

-- ---- expressions

mutual
  expr_read : (e : Expr) (at : ℕ) (ps : List Piece) → IsExpr e → Leaves (ExprS e) at (expr_pieces e ps) ps
  expr_read (tree.Number n) at ps h = (_, word_expr _ _ _ _ (ap (expr_of (number_text n)) (number_kind_is n h)))
  expr_read (tree.Fact b) at ps h = (_, word_expr _ _ _ _ (ap (expr_of (truth_text b)) (truth_kind b)))
  expr_read (tree.Constant name) at ps h = (_, word_expr _ _ _ _ (ap (expr_of (36 ∷ name)) (dollar_kind name)))
  expr_read (tree.Name name) at ps h = (_, word_expr _ _ _ _ h.1)
  expr_read (tree.Let ls e) at ps h =
      let x = lets_read ls _ (Blank 32 ∷ expr_pieces e (Closes ∷ ps)) h.0 in
      let y = expr_read e _ (Closes ∷ ps) h.1 in
      (_, let_in _ _ _ _ (codes "let") ls e _ _ _ refl x.1 y.1)
  expr_read (tree.Call name es) at ps h = let x = exprs_read es _ ps h.2 in (x.0, call _ _ _ _ _ _ _ h.1 x.1)

  exprs_read : (es : Exprs) (at : ℕ) (ps : List Piece) → AreExprs es → Leaves (ExprsS es) at (exprs_pieces es (Closes ∷ ps)) ps
  exprs_read NoExpr at ps h = (_, no_expr _ _)
  exprs_read (AnExpr e es) at ps h =
      let x = expr_read e _ (exprs_pieces es (Closes ∷ ps)) h.0 in
      let y = exprs_read es x.0 ps h.1 in
      (y.0, an_expr _ _ _ _ _ x.1 y.1)

  lets_read : (ls : Lets) (at : ℕ) (ps : List Piece) → AreLets ls → Leaves (LetsS ls) at (lets_pieces [] ls (Closes ∷ ps)) ps
  lets_read NoLet at ps h = (_, no_let _ _)
  lets_read (ALet var ty e ls) at ps h =
      let x = expr_read e _ (Closes ∷ lets_pieces (32 ∷ []) ls (Closes ∷ ps)) h.2 in
      let y = lets_more ls _ ps h.3 in
      (y.0, a_let _ _ _ _ _ _ _ _ _ _ _ (symbol _ _ _ h.0.1) (symbol _ _ _ h.1.1) x.1 y.1)

  lets_more : (ls : Lets) (at : ℕ) (ps : List Piece) → AreLets ls → Leaves (LetsS ls) at (lets_pieces (32 ∷ []) ls (Closes ∷ ps)) ps
  lets_more NoLet at ps h = (_, no_let _ _)
  lets_more (ALet var ty e ls) at ps h =
      let x = expr_read e _ (Closes ∷ lets_pieces (32 ∷ []) ls (Closes ∷ ps)) h.2 in
      let y = lets_more ls _ ps h.3 in
      (y.0, a_let _ _ _ _ _ _ _ _ _ _ _ (symbol _ _ _ h.0.1) (symbol _ _ _ h.1.1) x.1 y.1)

-- ---- parts of definitions

fields_read : (fs : List (List ℕ × List ℕ)) (at : ℕ) (ps : List Piece) → AllByRecursion (λ (f : List ℕ × List ℕ). NamesOne f.0 × NamesOne f.1) fs → Leaves (Many FieldS fs) at (named_pieces fs (Closes ∷ ps)) ps
fields_read [] at ps h = (_, none _ _)
fields_read (f ∷ fs) at ps h =
    let x = fields_read fs _ ps h.1 in
    (x.0, more _ _ _ _ _ (field _ _ f.0 f.1 _ _ _ (symbol _ _ _ h.0.0.1) (symbol _ _ _ h.0.1.1)) x.1)

shape_read : (fs : AstFields) (at : ℕ) (ps : List Piece) → AreFields fs → Leaves (ShapeS fs) at (shape_pieces fs (Closes ∷ ps)) ps
shape_read fields.Unit at ps h = (_, grammar.unit _ _)
shape_read (fields.Named []) at ps h = absurd h
shape_read (fields.Named (f ∷ fs)) at ps h = let x = fields_read (f ∷ fs) at ps h in (x.0, grammar.named _ _ _ _ x.1)
shape_read (fields.Tuple []) at ps h = absurd h
shape_read (fields.Tuple (t ∷ ts)) at ps h = let x = names_read (t ∷ ts) at ps h in (x.0, grammar.tuple _ _ _ _ x.1)

variant_read : (name : List ℕ) (fs : AstFields) (at : ℕ) (ps : List Piece) → NamesOne name → AreFields fs → Leaves (VariantS (record { name = name; fields = fs })) at (variant_pieces name fs ps) ps
variant_read name fields.Unit at ps h g = (_, grammar.plain _ _ _ (symbol _ _ _ h.1))
variant_read name (fields.Named fs) at ps h g = let x = shape_read (fields.Named fs) _ ps g in (x.0, grammar.shaped _ _ _ _ _ _ (symbol _ _ _ h.1) x.1)
variant_read name (fields.Tuple ts) at ps h g = let x = shape_read (fields.Tuple ts) _ ps g in (x.0, grammar.shaped _ _ _ _ _ _ (symbol _ _ _ h.1) x.1)

variants_read : (vs : List AstVariant) (at : ℕ) (ps : List Piece) → AllByRecursion (λ (v : AstVariant). IsVariant v) vs → Leaves (Many VariantS vs) at (variants_pieces vs (Closes ∷ ps)) ps
variants_read [] at ps h = (_, none _ _)
variants_read (v ∷ vs) at ps h =
    let x = variant_read v.name v.fields _ (variants_pieces vs (Closes ∷ ps)) h.0.0 h.0.1 in
    let y = variants_read vs x.0 ps h.1 in
    (y.0, more _ _ _ _ _ x.1 y.1)

body_read : (b : AstBody) (at : ℕ) (ps : List Piece) → IsBody b → Leaves (BodyS b) at (body_pieces b ps) ps
body_read (body.Primitive name) at ps h = (_, grammar.primitive _ _ _ (codes "primitive") _ _ _ refl (symbol _ _ _ h.1))
body_read (body.Enum vs) at ps h = let x = variants_read vs _ ps h in (x.0, grammar.enum _ _ (codes "enum") _ _ _ refl x.1)
body_read (body.Struct fs) at ps h = let x = shape_read fs _ ps h in (x.0, grammar.struct _ _ (codes "struct") _ _ _ refl x.1)

flags_read : (pure multi partial recursive : Bool) (at : ℕ) (ps : List Piece)
    → Leaves (WordsFrom with_flag 4 no_flags (record { pure = pure; multi = multi; partial = partial; recursive = recursive })) at (flags_pieces pure multi partial recursive ps) ps
flags_read true true true true at ps = (_, a_word _ _ _ _ _ _ _ _ refl (a_word _ _ _ _ _ _ _ _ refl (a_word _ _ _ _ _ _ _ _ refl (a_word _ _ _ _ _ _ _ _ refl (no_word _ _ _)))))
flags_read true true true false at ps = (_, a_word _ _ _ _ _ _ _ _ refl (a_word _ _ _ _ _ _ _ _ refl (a_word _ _ _ _ _ _ _ _ refl (no_word _ _ _))))
flags_read true true false true at ps = (_, a_word _ _ _ _ _ _ _ _ refl (a_word _ _ _ _ _ _ _ _ refl (a_word _ _ _ _ _ _ _ _ refl (no_word _ _ _))))
flags_read true true false false at ps = (_, a_word _ _ _ _ _ _ _ _ refl (a_word _ _ _ _ _ _ _ _ refl (no_word _ _ _)))
flags_read true false true true at ps = (_, a_word _ _ _ _ _ _ _ _ refl (a_word _ _ _ _ _ _ _ _ refl (a_word _ _ _ _ _ _ _ _ refl (no_word _ _ _))))
flags_read true false true false at ps = (_, a_word _ _ _ _ _ _ _ _ refl (a_word _ _ _ _ _ _ _ _ refl (no_word _ _ _)))
flags_read true false false true at ps = (_, a_word _ _ _ _ _ _ _ _ refl (a_word _ _ _ _ _ _ _ _ refl (no_word _ _ _)))
flags_read true false false false at ps = (_, a_word _ _ _ _ _ _ _ _ refl (no_word _ _ _))
flags_read false true true true at ps = (_, a_word _ _ _ _ _ _ _ _ refl (a_word _ _ _ _ _ _ _ _ refl (a_word _ _ _ _ _ _ _ _ refl (no_word _ _ _))))
flags_read false true true false at ps = (_, a_word _ _ _ _ _ _ _ _ refl (a_word _ _ _ _ _ _ _ _ refl (no_word _ _ _)))
flags_read false true false true at ps = (_, a_word _ _ _ _ _ _ _ _ refl (a_word _ _ _ _ _ _ _ _ refl (no_word _ _ _)))
flags_read false true false false at ps = (_, a_word _ _ _ _ _ _ _ _ refl (no_word _ _ _))
flags_read false false true true at ps = (_, a_word _ _ _ _ _ _ _ _ refl (a_word _ _ _ _ _ _ _ _ refl (no_word _ _ _)))
flags_read false false true false at ps = (_, a_word _ _ _ _ _ _ _ _ refl (no_word _ _ _))
flags_read false false false true at ps = (_, a_word _ _ _ _ _ _ _ _ refl (no_word _ _ _))
flags_read false false false false at ps = (_, no_word _ _ _)

marks_read : (is_extern is_nodebug : Bool) (at : ℕ) (ps : List Piece)
    → Leaves (WordsFrom with_mark 2 no_marks (record { is_extern = is_extern; is_nodebug = is_nodebug })) at (mark_pieces is_extern (codes "extern") (mark_pieces is_nodebug (codes "nodebug") ps)) ps
marks_read true true at ps = (_, a_word _ _ _ _ _ _ _ _ refl (a_word _ _ _ _ _ _ _ _ refl (no_word _ _ _)))
marks_read true false at ps = (_, a_word _ _ _ _ _ _ _ _ refl (no_word _ _ _))
marks_read false true at ps = (_, a_word _ _ _ _ _ _ _ _ refl (no_word _ _ _))
marks_read false false at ps = (_, no_word _ _ _)

rule_name_read : (name : Option (List ℕ)) (at : ℕ) (ps : List Piece) → NamesRule name → Leaves (RuleNameS name) at (rule_name_pieces name ps) ps
rule_name_read None at ps h = (_, unnamed _)
rule_name_read (Some name) at ps h = (_, named_rule _ _ _ h.1)

prio_read : (z : Bool) (n : ℤ) (at : ℕ) (ps : List Piece) → FitsSigned w64 n → Leaves (PrioS n) at (prio_pieces z n ps) ps
prio_read true n at ps h = (_, written _ _ _ _ (number_kind_is n (wide n h)) h)
prio_read false (pos zero) at ps h = (_, unwritten _)
prio_read false (pos (suc n)) at ps h = (_, written _ _ _ _ (number_kind_is (pos (suc n)) (wide (pos (suc n)) h)) h)
prio_read false (negsuc n) at ps h = (_, written _ _ _ _ (number_kind_is (negsuc n) (wide (negsuc n) h)) h)

tail_read : (is : List IfLet) (rhs : Expr) (at : ℕ) (ps : List Piece) → AllByRecursion (λ (i : IfLet). IsCondition i) is → IsExpr rhs
    → Leaves (TailS (is, rhs)) at (iflets_pieces is (expr_pieces rhs (Closes ∷ ps))) ps
tail_read [] rhs at ps h k = let x = expr_read rhs _ (Closes ∷ ps) k in (_, grammar.last _ _ _ _ x.1)
tail_read (i ∷ is) rhs at ps h k =
    let after : List Piece = iflets_pieces is (expr_pieces rhs (Closes ∷ ps)) in
    let p = pattern_read i.lhs _ (Blank 32 ∷ expr_pieces i.rhs (Closes ∷ Blank 32 ∷ after)) h.0.0 in
    let e = expr_read i.rhs _ (Closes ∷ Blank 32 ∷ after) h.0.1 in
    let x = tail_read is rhs _ ps h.1 k in
    (x.0, grammar.more i (is, rhs) _ _ _ (if_let _ _ _ (codes "if-let") i.lhs i.rhs _ _ _ refl p.1 e.1) x.1)

-- ---- definitions

-- the tokens of a definition spell it, at the place where they begin
pub def_read : (z : Bool) (d : Def) (file at : ℕ) (ps : List Piece) → IsNamed d → declares_flag d ≡ false
    → Leaves (DefS file (placed (record { file = file; offset = at }) d)) at (def_pieces z d ps) ps
def_read z (tree.TypeDecl name is_extern is_nodebug b spot) file at ps h no_flag =
    let m = marks_read is_extern is_nodebug _ (body_pieces b (Closes ∷ Blank 10 ∷ ps)) in
    let x = body_read b m.0 (Closes ∷ Blank 10 ∷ ps) h.1 in
    (_, type_decl _ _ _ (codes "type") name (record { is_extern = is_extern; is_nodebug = is_nodebug }) b _ _ _ _ refl (symbol _ _ _ h.0.1) m.1 x.1)
def_read z (tree.Decl term pure multi partial recursive args ret spot) file at ps h no_flag =
    let f = flags_read pure multi partial recursive _ (Spelt term ∷ Blank 32 ∷ Opens ∷ joined_pieces args (Closes ∷ Blank 32 ∷ Spelt ret ∷ Closes ∷ Blank 10 ∷ ps)) in
    let x = joined_read args _ (Blank 32 ∷ Spelt ret ∷ Closes ∷ Blank 10 ∷ ps) h.1 in
    (_, decl _ _ _ _ _ (codes "decl") term ret (record { pure = pure; multi = multi; partial = partial; recursive = recursive }) args _ _ _ _ refl f.1 h.0.1 no_flag x.1 (symbol _ _ _ h.2.1))
def_read z (tree.ExternConstructor term func spot) file at ps h no_flag =
    (_, extern_constructor _ _ _ _ (codes "extern") (codes "constructor") _ _ _ _ _ refl refl (symbol _ _ _ h.0.1) (symbol _ _ _ h.1.1))
def_read z (tree.ExternExtractor term func false spot) file at ps h no_flag =
    (_, extern_extractor _ _ _ _ (codes "extern") (codes "extractor") _ _ _ _ _ refl refl (symbol _ _ _ h.0.1) (symbol _ _ _ h.1.1))
def_read z (tree.ExternExtractor term func true spot) file at ps h no_flag =
    (_, extern_infallible _ _ _ _ _ (codes "extern") (codes "extractor") (codes "infallible") _ _ _ _ _ refl refl refl (symbol _ _ _ h.0.1) (symbol _ _ _ h.1.1))
def_read z (tree.ExternConst name ty spot) file at ps h no_flag =
    (_, extern_const _ _ _ _ _ (codes "extern") (codes "const") _ _ _ _ _ refl refl (dollar_kind name) (symbol _ _ _ h.1.1))
def_read z (tree.Extractor term params p spot) file at ps h no_flag =
    let x = names_read params _ (Blank 32 ∷ pattern_pieces p (Closes ∷ Blank 10 ∷ ps)) h.1 in
    let y = pattern_read p _ (Closes ∷ Blank 10 ∷ ps) h.2 in
    (_, extractor _ _ _ _ (codes "extractor") _ _ _ _ _ _ _ refl (symbol _ _ _ h.0.1) x.1 y.1)
def_read z (tree.Converter from to term spot) file at ps h no_flag =
    (_, convert _ _ _ (codes "convert") _ _ _ _ _ _ _ refl (symbol _ _ _ h.0.1) (symbol _ _ _ h.1.1) (symbol _ _ _ h.2.1))
def_read z (tree.Rule name prio term args iflets rhs spot) file at ps h no_flag =
    let behind : List Piece = iflets_pieces iflets (expr_pieces rhs (Closes ∷ Blank 10 ∷ ps)) in
    let head : List Piece = Opens ∷ Spelt term ∷ patterns_pieces (patterns_of args) (Closes ∷ Blank 32 ∷ behind) in
    let n = rule_name_read name _ (prio_pieces z prio head) h.0 in
    let p = prio_read z prio n.0 head h.1 in
    let a = args_read args _ (Blank 32 ∷ behind) h.3 in
    let t = tail_read iflets rhs _ (Blank 10 ∷ ps) h.4 h.5 in
    (_, rule _ _ _ (codes "rule") term name prio args iflets rhs _ _ _ _ _ _ refl n.1 p.1 (symbol _ _ _ h.2.1) a.1 t.1)
def_read z (tree.Passed head spot) file at ps h no_flag = absurd h
