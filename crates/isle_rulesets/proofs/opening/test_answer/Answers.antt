use Rattle.std.proofs.Common.{◌≡◌, rules}
use Rattle.isle_core.specs.declared.types.ReturnKind.TheVariants as return_kind
use Rattle.isle_rulesets.proofs.opening.test_answer.Goals as goal

pub returns-in-Option : goal.returns-in-Option
returns-in-Option c = let partial : c.args.kind ≡ return_kind.Option = search rules in rw partial c.constrain.ensures
