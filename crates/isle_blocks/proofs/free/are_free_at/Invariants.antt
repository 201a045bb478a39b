use Rattle.std.proofs.Common.{◌≡◌, List, map, drop}
use Rattle.isle_core.specs.Path.{Path, at_all}
use Rattle.isle_blocks.specs.Free.{is_free, are_free}
use Rattle.isle_blocks.proofs.free.are_free_at.Given as goal

abbrev pub invariant-loop-binding : goal.invariant-loop-binding
invariant-loop-binding l = (ps : List Path) → l.free ≡ map is_free ps → are_free (at_all ps (drop l.binding-index l.bindings)) ≡ are_free (at_all ps l.bindings)
