use Rattle.std.proofs.Common.{◌≡◌, ◌++◌, length, map, drop, rules, subst}
use Rattle.isle_core.specs.RuleViews.{pattern as elaborated}
use Rattle.isle_templates.specs.PutIn.{with_rest}
use Rattle.isle_templates.proofs.FillingSteps.{rest_begins}
use Rattle.isle_templates.proofs.filling.with_rest.Goals as goal

pub loop-place-init : goal.loop-place-init
loop-place-init c =
    let count : length c.args.parts.items ≡ c.len-place.result = search rules in
    subst (λ n. map elaborated c.args.parts.items ++ map elaborated (drop n c.args.args.now) ≡ with_rest (map elaborated c.args.parts.items) (map elaborated c.args.args.now)) count (rest_begins c.args.parts.items c.args.args.now)
