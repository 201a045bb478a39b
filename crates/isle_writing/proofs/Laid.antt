-- Definitions as pieces, each in front of others.
use Rattle.std.specs.Prelude.{ℕ, zero, suc, ℤ, pos, negsuc, List, [], ◌∷◌, Bool, true, false, Option, Some, None, codes}
use Rattle.isle_ast.specs.Tree.{Pattern, Patterns, NoPattern, APattern, Expr, Exprs, NoExpr, AnExpr, Lets, NoLet, ALet, IfLet, Def}
use Rattle.isle_ast.specs.Tree as tree
use Rattle.isle_ast.specs.Views.{patterns_of}
use Rattle.isle_ast.specs.declared.tree.AstBody.{AstBody}
use Rattle.isle_ast.specs.declared.tree.AstBody.TheVariants as body
use Rattle.isle_ast.specs.declared.tree.AstFields.{AstFields}
use Rattle.isle_ast.specs.declared.tree.AstFields.TheVariants as fields
use Rattle.isle_ast.specs.declared.tree.AstVariant.{AstVariant}
use Rattle.isle_writing.specs.Text.{truth_text, number_text}
use Rattle.isle_writing.specs.LaidDefs.{LaidDef}
use Rattle.isle_writing.proofs.Pieces.{Piece, Blank, Opens, Closes, Sign, Spelt}

-- a word and a blank, if it is to stand there
abbrev pub mark_pieces : Bool → List ℕ → List Piece → List Piece
mark_pieces true word ps = Spelt word ∷ Blank 32 ∷ ps
mark_pieces false word ps = ps

-- names, each after a blank
abbrev pub names_pieces : List (List ℕ) → List Piece → List Piece
names_pieces [] ps = ps
names_pieces (name ∷ names) ps = Blank 32 ∷ Spelt name ∷ names_pieces names ps

-- names with blanks between them
abbrev pub joined_pieces : List (List ℕ) → List Piece → List Piece
joined_pieces [] ps = ps
joined_pieces (name ∷ names) ps = Spelt name ∷ names_pieces names ps

abbrev mutual
  pub pattern_pieces : Pattern → List Piece → List Piece
  pattern_pieces (tree.Int n) ps = Spelt (number_text n) ∷ ps
  pattern_pieces (tree.Truth b) ps = Spelt (truth_text b) ∷ ps
  pattern_pieces (tree.Const name) ps = Spelt (36 ∷ name) ∷ ps
  pattern_pieces tree.Wildcard ps = Spelt (codes "_") ∷ ps
  pattern_pieces (tree.Var name) ps = Spelt name ∷ ps
  pattern_pieces (tree.Bind name p) ps = Spelt name ∷ Blank 32 ∷ Sign ∷ Blank 32 ∷ pattern_pieces p ps
  pattern_pieces (tree.And parts) ps = Opens ∷ Spelt (codes "and") ∷ patterns_pieces parts (Closes ∷ ps)
  pattern_pieces (tree.Term name parts) ps = Opens ∷ Spelt name ∷ patterns_pieces parts (Closes ∷ ps)

  -- each after a blank
  pub patterns_pieces : Patterns → List Piece → List Piece
  patterns_pieces NoPattern ps = ps
  patterns_pieces (APattern p others) ps = Blank 32 ∷ pattern_pieces p (patterns_pieces others ps)

-- blanks
abbrev pub gap_pieces : List ℕ → List Piece → List Piece
gap_pieces [] ps = ps
gap_pieces (b ∷ bs) ps = Blank b ∷ gap_pieces bs ps

abbrev mutual
  pub expr_pieces : Expr → List Piece → List Piece
  expr_pieces (tree.Number n) ps = Spelt (number_text n) ∷ ps
  expr_pieces (tree.Fact b) ps = Spelt (truth_text b) ∷ ps
  expr_pieces (tree.Constant name) ps = Spelt (36 ∷ name) ∷ ps
  expr_pieces (tree.Name name) ps = Spelt name ∷ ps
  expr_pieces (tree.Let ls e) ps = Opens ∷ Spelt (codes "let") ∷ Blank 32 ∷ Opens ∷ lets_pieces [] ls (Closes ∷ Blank 32 ∷ expr_pieces e (Closes ∷ ps))
  expr_pieces (tree.Call name es) ps = Opens ∷ Spelt name ∷ exprs_pieces es (Closes ∷ ps)

  -- each after a blank
  pub exprs_pieces : Exprs → List Piece → List Piece
  exprs_pieces NoExpr ps = ps
  exprs_pieces (AnExpr e es) ps = Blank 32 ∷ expr_pieces e (exprs_pieces es ps)

  -- with blanks between them, and these bytes, which are blanks, in front of the first
  pub lets_pieces : List ℕ → Lets → List Piece → List Piece
  lets_pieces gap NoLet ps = ps
  lets_pieces gap (ALet var ty e ls) ps = gap_pieces gap (Opens ∷ Spelt var ∷ Blank 32 ∷ Spelt ty ∷ Blank 32 ∷ expr_pieces e (Closes ∷ lets_pieces (32 ∷ []) ls ps))

-- fields with names, each after a blank
abbrev pub named_pieces : List (List ℕ × List ℕ) → List Piece → List Piece
named_pieces [] ps = ps
named_pieces (f ∷ fs) ps = Blank 32 ∷ Opens ∷ Spelt f.0 ∷ Blank 32 ∷ Spelt f.1 ∷ Closes ∷ named_pieces fs ps

abbrev pub shape_pieces : AstFields → List Piece → List Piece
shape_pieces fields.Unit ps = ps
shape_pieces (fields.Named fs) ps = named_pieces fs ps
shape_pieces (fields.Tuple ts) ps = names_pieces ts ps

abbrev pub variant_pieces : List ℕ → AstFields → List Piece → List Piece
variant_pieces name fields.Unit ps = Spelt name ∷ ps
variant_pieces name (fields.Named fs) ps = Opens ∷ Spelt name ∷ named_pieces fs (Closes ∷ ps)
variant_pieces name (fields.Tuple ts) ps = Opens ∷ Spelt name ∷ names_pieces ts (Closes ∷ ps)

abbrev pub variants_pieces : List AstVariant → List Piece → List Piece
variants_pieces [] ps = ps
variants_pieces (v ∷ vs) ps = Blank 10 ∷ Blank 32 ∷ Blank 32 ∷ variant_pieces v.name v.fields (variants_pieces vs ps)

abbrev pub body_pieces : AstBody → List Piece → List Piece
body_pieces (body.Primitive name) ps = Opens ∷ Spelt (codes "primitive") ∷ Blank 32 ∷ Spelt name ∷ Closes ∷ ps
body_pieces (body.Enum vs) ps = Opens ∷ Spelt (codes "enum") ∷ variants_pieces vs (Closes ∷ ps)
body_pieces (body.Struct fs) ps = Opens ∷ Spelt (codes "struct") ∷ shape_pieces fs (Closes ∷ ps)

abbrev pub flags_pieces : (pure multi partial recursive : Bool) → List Piece → List Piece
flags_pieces pure multi partial recursive ps = mark_pieces pure (codes "pure") (mark_pieces multi (codes "multi") (mark_pieces partial (codes "partial") (mark_pieces recursive (codes "rec") ps)))

abbrev pub rule_name_pieces : Option (List ℕ) → List Piece → List Piece
rule_name_pieces None ps = ps
rule_name_pieces (Some name) ps = Spelt name ∷ Blank 32 ∷ ps

-- a priority, 0 only if it is to be written
abbrev pub prio_pieces : Bool → ℤ → List Piece → List Piece
prio_pieces true n ps = Spelt (number_text n) ∷ Blank 32 ∷ ps
prio_pieces false (pos zero) ps = ps
prio_pieces false (pos (suc n)) ps = Spelt (number_text (pos (suc n))) ∷ Blank 32 ∷ ps
prio_pieces false (negsuc n) ps = Spelt (number_text (negsuc n)) ∷ Blank 32 ∷ ps

abbrev pub iflets_pieces : List IfLet → List Piece → List Piece
iflets_pieces [] ps = ps
iflets_pieces (i ∷ is) ps = Opens ∷ Spelt (codes "if-let") ∷ Blank 32 ∷ pattern_pieces i.lhs (Blank 32 ∷ expr_pieces i.rhs (Closes ∷ Blank 32 ∷ iflets_pieces is ps))

-- a definition, each line of which ends, by whether a priority 0 is written
abbrev pub def_pieces : Bool → Def → List Piece → List Piece
def_pieces z (tree.TypeDecl name is_extern is_nodebug b at) ps =
    Opens ∷ Spelt (codes "type") ∷ Blank 32 ∷ Spelt name ∷ Blank 32 ∷ mark_pieces is_extern (codes "extern") (mark_pieces is_nodebug (codes "nodebug") (body_pieces b (Closes ∷ Blank 10 ∷ ps)))
def_pieces z (tree.Decl term pure multi partial recursive args ret at) ps =
    Opens ∷ Spelt (codes "decl") ∷ Blank 32 ∷ flags_pieces pure multi partial recursive (Spelt term ∷ Blank 32 ∷ Opens ∷ joined_pieces args (Closes ∷ Blank 32 ∷ Spelt ret ∷ Closes ∷ Blank 10 ∷ ps))
def_pieces z (tree.ExternConstructor term func at) ps =
    Opens ∷ Spelt (codes "extern") ∷ Blank 32 ∷ Spelt (codes "constructor") ∷ Blank 32 ∷ Spelt term ∷ Blank 32 ∷ Spelt func ∷ Closes ∷ Blank 10 ∷ ps
def_pieces z (tree.ExternExtractor term func infallible at) ps =
    Opens ∷ Spelt (codes "extern") ∷ Blank 32 ∷ Spelt (codes "extractor") ∷ Blank 32 ∷ mark_pieces infallible (codes "infallible") (Spelt term ∷ Blank 32 ∷ Spelt func ∷ Closes ∷ Blank 10 ∷ ps)
def_pieces z (tree.ExternConst name ty at) ps =
    Opens ∷ Spelt (codes "extern") ∷ Blank 32 ∷ Spelt (codes "const") ∷ Blank 32 ∷ Spelt (36 ∷ name) ∷ Blank 32 ∷ Spelt ty ∷ Closes ∷ Blank 10 ∷ ps
def_pieces z (tree.Extractor term params p at) ps =
    Opens ∷ Spelt (codes "extractor") ∷ Blank 32 ∷ Opens ∷ Spelt term ∷ names_pieces params (Closes ∷ Blank 32 ∷ pattern_pieces p (Closes ∷ Blank 10 ∷ ps))
def_pieces z (tree.Converter from to term at) ps =
    Opens ∷ Spelt (codes "convert") ∷ Blank 32 ∷ Spelt from ∷ Blank 32 ∷ Spelt to ∷ Blank 32 ∷ Spelt term ∷ Closes ∷ Blank 10 ∷ ps
def_pieces z (tree.Rule name prio term args iflets rhs at) ps =
    Opens ∷ Spelt (codes "rule") ∷ Blank 32 ∷ rule_name_pieces name (prio_pieces z prio (Opens ∷ Spelt term ∷ patterns_pieces (patterns_of args)
    (Closes ∷ Blank 32 ∷ iflets_pieces iflets (expr_pieces rhs (Closes ∷ Blank 10 ∷ ps)))))
def_pieces z (tree.Passed head at) ps = Opens ∷ Spelt head ∷ Closes ∷ Blank 10 ∷ ps

-- definitions, one after the other
abbrev pub laid_pieces : List LaidDef → List Piece
laid_pieces [] = []
laid_pieces (l ∷ ls) = def_pieces l.shows_zero l.def (laid_pieces ls)
