use Rattle.std.proofs.Common.{ap, ◌∙◌}
use Rattle.isle_scope.specs.Table.{held}
use Rattle.isle_rulesets.proofs.LetLaws.{named_held, none_held}
use Rattle.isle_rulesets.proofs.right_side.number_of.Goals as goal

pub unreachable-requires : goal.unreachable-requires
unreachable-requires c = none_held (λ x. x.now) c.get.result (held c.args.variables.now c.args.var.0) c.in-None.is (c.get.ensures ∙ ap (held c.args.variables.now) c.index.ensures) (named_held c.args.variables.now c.args.var.0 c.requires)
