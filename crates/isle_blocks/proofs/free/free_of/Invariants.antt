use Rattle.std.proofs.Common.{◌≡◌, map, take}
use Rattle.isle_core.specs.Path.{paths_of}
use Rattle.isle_blocks.specs.Free.{is_free}
use Rattle.isle_blocks.proofs.free.free_of.Given as goal

abbrev pub invariant-loop-binding : goal.invariant-loop-binding
invariant-loop-binding l = l.free.items ≡ map is_free (paths_of (take l.binding-index l.bindings))
