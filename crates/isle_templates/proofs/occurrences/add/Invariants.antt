use Rattle.std.proofs.Common.{◌≡◌, ◌-◌, ℕ, suc, length}
use Rattle.isle_templates.specs.Occurrences.{times_kept}
use Rattle.isle_templates.proofs.occurrences.add.Given as goal

abbrev pub invariant-loop-times : goal.invariant-loop-times
invariant-loop-times l = (x : ℕ) → times_kept l.times.items x ≡ times_kept l.fn.times.items x

abbrev pub decreases-loop-times : goal.decreases-loop-times
decreases-loop-times l = suc l.parameter - length l.times.items
