use Rattle.std.proofs.Common.{◌≡◌, rules, true, false, None, sym, ◌∙◌}
use Rattle.std.specs.Prelude.{is_some}
use Rattle.isle_terms.specs.Whole.{whole}
use Rattle.isle_terms.proofs.TermSteps.{inside}
use Rattle.isle_terms.proofs.elaborated_terms.constructor_of.Goals as goal

pub returns-then-is_some : goal.returns-then-is_some
returns-then-is_some c =
    λ name e.
    let some : is_some c.rule.result ≡ true = search rules in
    let none : c.func.result ≡ None = search rules in
    inside (whole c.args.declarations.now) name c.rule.result true (sym none ∙ c.func.ensures name e) (c.rule.ensures name e) some

pub returns-else-is_some : goal.returns-else-is_some
returns-else-is_some c =
    λ name e.
    let some : is_some c.rule.result ≡ false = search rules in
    let none : c.func.result ≡ None = search rules in
    inside (whole c.args.declarations.now) name c.rule.result false (sym none ∙ c.func.ensures name e) (c.rule.ensures name e) some
