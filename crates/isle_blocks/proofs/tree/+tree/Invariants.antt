use Rattle.std.proofs.Common.{◌≡◌, ◌≤◌, ◌+◌, ◌-◌, ◌*◌, length, drop, map}
use Rattle.isle_core.specs.BlockViews.{step, arm}
use Rattle.isle_blocks.specs.Pushed.{Grows}
use Rattle.isle_blocks.specs.Tables.{ground}
use Rattle.isle_blocks.specs.TreeSteps.{LeadsTo}
use Rattle.isle_blocks.specs.Ways.{way, group}
use Rattle.isle_blocks.proofs.ArmLaws.{ArmsLeft}
use Rattle.isle_blocks.proofs.tree.+tree.Given as goal

abbrev pub decreases-steps_of : goal.decreases-steps_of
decreases-steps_of l = 5 * l.depth + 1

abbrev pub decreases-next_step : goal.decreases-next_step
decreases-next_step l = 5 * l.depth

abbrev pub decreases-shared_step : goal.decreases-shared_step
decreases-shared_step l = 5 * l.depth + 4

abbrev pub decreases-arms_of : goal.decreases-arms_of
decreases-arms_of l = 5 * l.depth + 3

abbrev pub decreases-arm_of : goal.decreases-arm_of
decreases-arm_of l = 5 * l.depth + 2

abbrev pub invariant-arms_of-loop-gathered : goal.invariant-arms_of-loop-gathered
invariant-arms_of-loop-gathered l = record {
  arms : ArmsLeft (ground l.tables) l.source l.fn.bound (map group l.gathered-items) (map group (drop l.gathered-index l.gathered-items)) (map arm l.arms.items);
  same : l.bound ≡ l.fn.bound;
}

abbrev pub invariant-steps_of-loop-made : goal.invariant-steps_of-loop-made
invariant-steps_of-loop-made l = record {
  within : l.made ≤ length l.ways;
  leads : LeadsTo (ground l.tables) (map way l.ways) l.made l.fn.bound l.bound (map step l.steps.items);
  grows : Grows l.fn.bound l.bound;
}

abbrev pub decreases-steps_of-loop-made : goal.decreases-steps_of-loop-made
decreases-steps_of-loop-made l = length l.ways - l.made
