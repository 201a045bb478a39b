use Rattle.std.proofs.Common.{◌≤◌, ◌∙◌, length, subst}
use Rattle.std.proofs.lemmas.Option.{slice_get_past}
use Rattle.isle_core.proofs.SeesRules.{pattern-var}
use Rattle.isle_templates.proofs.SubstitutionSteps.{not_given}
use Rattle.isle_templates.proofs.filling.argument.Goals as goal

-- src/substitution.rt:14:1
pub returns-in-None : goal.returns-in-None
returns-in-None c =
    let past : length c.args.args.now ≤ c.args.param.0 = subst (λ i. length c.args.args.now ≤ i) c.index.ensures c.in-None.ensures.lookup.3 in
    pattern-var c.args.ty c.args.param ∙ not_given c.args.args.now c.args.ty c.args.param (slice_get_past c.args.args.now c.args.param.0 past)
