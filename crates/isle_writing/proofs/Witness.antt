-- Definitions that can be written, and their text: the layout at a glance.
use Rattle.std.proofs.Common.{◌≡◌, pos, negsuc, List, [], ◌∷◌, ◌++◌, true, false, Some, None, refl, codes, arith}
use Rattle.isle_ast.specs.Tree.{Pattern, NoPattern, APattern, Expr, NoExpr, AnExpr, NoLet, ALet, Def}
use Rattle.isle_ast.specs.Tree as tree
use Rattle.isle_ast.specs.declared.tree.AstBody.TheVariants as body
use Rattle.isle_ast.specs.declared.tree.AstFields.TheVariants as fields
use Rattle.isle_printer.specs.Number.{numeral}
use Rattle.isle_lexer.specs.Word.{kind}
use Rattle.isle_writing.specs.Text.{def_text, def_texts, whole_def_text}
use Rattle.isle_writing.specs.Erased.{no_place}
use Rattle.isle_writing.specs.Writable.{NamesOne, IsWritable, AreWritable}
use Rattle.isle_writing.specs.Spelt.{SpellsOnly, SpellsNone}
use Rattle.isle_writing.specs.LaidDefs.{laid_texts, plain, whole}
use Rattle.isle_writing.proofs.WrittenLaw.{laid_spelt, written_spelt}
use Rattle.isle_writing.proofs.Names.{names_one, plain_name}

abbrev definitions : List Def
definitions =
    tree.TypeDecl (codes "Reg") true false (body.Primitive (codes "Reg")) no_place
    ∷ tree.TypeDecl (codes "Op") false true (body.Enum (record { name = codes "Nop"; fields = fields.Unit } ∷ record { name = codes "Add"; fields = fields.Named ((codes "left", codes "Reg") ∷ []) } ∷ [])) no_place
    ∷ tree.Decl (codes "lower") true false true false (codes "Op" ∷ codes "Reg" ∷ []) (codes "Reg") no_place
    ∷ tree.ExternExtractor (codes "infallible") (codes "take") true no_place
    ∷ tree.ExternConst (codes "zero") (codes "Reg") no_place
    ∷ tree.Rule (Some (codes "first")) (negsuc 0) (codes "lower") (tree.Bind (codes "x") (tree.Term (codes "Op.Add") (APattern (tree.Const (codes "zero")) NoPattern)) ∷ tree.Wildcard ∷ [])
    (record { lhs = tree.Truth true; rhs = tree.Call (codes "fits") (AnExpr (tree.Name (codes "x")) NoExpr) } ∷ [])
    (tree.Let (ALet (codes "y") (codes "Reg") (tree.Number (negsuc 4)) NoLet) (tree.Name (codes "y"))) no_place
    ∷ []

-- how they are laid out
laid_out : def_texts definitions ≡
    codes "(type Reg extern (primitive Reg))\n"
    ++ (codes "(type Op nodebug (enum\n  Nop\n  (Add (left Reg))))\n"
    ++ (codes "(decl pure partial lower (Op Reg) Reg)\n"
    ++ (codes "(extern extractor infallible infallible take)\n"
    ++ (codes "(extern const $zero Reg)\n"
    ++ codes "(rule first -1 (lower x @ (Op.Add $zero) _) (if-let true (fits x)) (let ((y Reg -5)) y))\n"))))
unfolding def_text numeral
laid_out = refl

-- they can be written
can_be_written : AreWritable definitions
unfolding kind
can_be_written =
    let r : NamesOne (codes "Reg") = names_one (codes "Reg") (omega arith, refl) refl in
    let op : NamesOne (codes "Op") = names_one (codes "Op") (omega arith, refl) refl in
    let lower : NamesOne (codes "lower") = names_one (codes "lower") (omega arith, refl) refl in (
      ((r, r), omega arith),
      (
        ((op, ((names_one (codes "Nop") (omega arith, refl) refl, tt), ((names_one (codes "Add") (omega arith, refl) refl, ((names_one (codes "left") (omega arith, refl) refl, r), tt)), tt))), omega arith),
        (
          ((lower, (op, (r, tt)), r), omega arith),
          (
            ((names_one (codes "infallible") (omega arith, refl) refl, names_one (codes "take") (omega arith, refl) refl), omega arith),
            (
              ((refl, r), omega arith),
              (
                (
                  (
                    names_one (codes "first") (omega arith, refl) refl,
                    omega arith,
                    lower,
                    ((names_one (codes "x") (omega arith, refl) refl, ((omega arith, refl), refl, (refl, tt))), (tt, tt)),
                    ((tt, ((omega arith, refl), refl, (plain_name (codes "x") (omega arith, refl) refl refl, tt))), tt),
                    ((names_one (codes "y") (omega arith, refl) refl, r, omega arith, tt), plain_name (codes "y") (omega arith, refl) refl refl),
                  ),
                  omega arith,
                ),
                tt,
              ),
            ),
          ),
        ),
      ),
    )

-- so their text spells them
are_spelt : SpellsOnly (def_texts definitions) definitions
are_spelt = (written_spelt (def_texts definitions) definitions can_be_written refl).named refl

-- a term that is named as a flag
abbrev flagged : List Def
flagged = tree.Decl (codes "rec") false true false false [] (codes "Reg") no_place ∷ []

flagged_text : def_texts flagged ≡ codes "(decl multi rec () Reg)\n"
unfolding def_text
flagged_text = refl

-- whose text spells nothing
nothing_spelt : SpellsNone (codes "(decl multi rec () Reg)\n")
unfolding def_text kind
nothing_spelt = (written_spelt (def_texts flagged) flagged (((names_one (codes "rec") (omega arith, refl) refl, tt, names_one (codes "Reg") (omega arith, refl) refl), omega arith), tt) refl).flagged refl

-- a rule whose priority is 0
abbrev usual : Def
usual = tree.Rule None (pos 0) (codes "lower") (tree.Wildcard ∷ []) [] (tree.Call (codes "plain") NoExpr) no_place

-- its priority is written where that is asked for
either_way : laid_texts (whole usual ∷ plain usual ∷ []) ≡ codes "(rule 0 (lower _) (plain))\n(rule (lower _) (plain))\n"
unfolding def_text whole_def_text numeral
either_way = refl

-- and read back
zero_spelt : SpellsOnly (codes "(rule 0 (lower _) (plain))\n(rule (lower _) (plain))\n") (usual ∷ usual ∷ [])
unfolding def_text whole_def_text numeral kind
zero_spelt =
    let term = names_one (codes "lower") (omega arith, refl) refl in
    let rule : IsWritable usual = ((tt, omega arith, term, (tt, tt), tt, ((omega arith, refl), refl, tt)), omega arith) in
    (laid_spelt _ (whole usual ∷ plain usual ∷ []) (rule, (rule, tt)) refl).named refl
