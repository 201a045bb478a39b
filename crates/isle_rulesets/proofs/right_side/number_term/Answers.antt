use Rattle.std.proofs.Common.{◌≡◌, sym, ap, ◌∙◌, subst}
use Rattle.std.specs.Prelude.{IfOk}
use Rattle.std.specs.List.{AllByRecursion}
use Rattle.isle_core.specs.Making.{making_in}
use Rattle.isle_core.specs.Path.{paths_of}
use Rattle.isle_rulesets.specs.Keys.{key_path, IsThere, HasParts}
use Rattle.isle_rulesets.specs.Made.{seen, making_of, whole_key}
use Rattle.isle_rulesets.specs.Numbering.{Numbers}
use Rattle.isle_rulesets.proofs.RightSideLaws.{made_given, whole_has_parts}
use Rattle.isle_rulesets.proofs.right_side.number_term.Goals as goal

pub intern-requires : goal.intern-requires
intern-requires c = subst (HasParts (paths_of c.args.numbering.now.bindings)) (sym c.whole.ensures) (whole_has_parts (paths_of c.args.numbering.now.bindings) c.in-Some.made c.new.result (subst (AllByRecursion (IsThere (paths_of c.args.numbering.now.bindings))) (sym c.new.ensures) c.requires.there))

pub returns-in-Some : goal.returns-in-Some
returns-in-Some c =
    let makes : making_in c.args.terms.now c.args.term ≡ making_of c.in-Some.made = sym c.made_by.ensures ∙ ap seen c.in-Some.is in
    made_given c.intern.result c.args.terms.now c.args.term c.in-Some.made c.args.arguments.items c.args.numbering.now c.intern.new.self c.args.ordered.now.items makes
    (subst (λ k. IfOk c.intern.result (Numbers c.args.numbering.now c.intern.new.self (key_path (paths_of c.args.numbering.now.bindings) k))) (c.whole.ensures ∙ ap (whole_key c.in-Some.made) c.new.ensures) c.intern.ensures)
