use Rattle.std.proofs.Common.{ap, ◌∙◌}
use Rattle.std.specs.Prelude.{is_some}
use Rattle.isle_scope.proofs.PlaceLaws.{has_place}
use Rattle.isle_scope.proofs.scope.Scope.has.Goals as goal

pub returns : goal.returns
returns c = c.is_some.ensures ∙ ap is_some c.place.ensures ∙ has_place c.args.self.now c.args.local
