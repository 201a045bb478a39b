use Rattle.std.proofs.Common.{take, ap, ◌∙◌}
use Rattle.isle_scope.specs.Log.{locals_of}
use Rattle.isle_scope.proofs.PlaceLaws.{locals-take}
use Rattle.isle_scope.proofs.scope.Scope.truncate.Goals as goal

pub returns : goal.returns
returns c = ap locals_of c.undo_to.ensures.fewer ∙ locals-take c.args.len c.self.inside.log.items ∙ ap (take c.args.len) c.self.view_is
