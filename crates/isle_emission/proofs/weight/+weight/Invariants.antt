use Rattle.std.proofs.Common.{◌≡◌, min, ◌+◌, ◌≤◌, drop}
use Rattle.isle_core.specs.BlockViews.{block, control}
use Rattle.isle_emission.specs.Views.{steps_block, match_arms}
use Rattle.isle_simulation.specs.BlockWeight.{steps_in, steps_within, steps_of}
use Rattle.isle_emission.proofs.weight.+weight.Given as goal

abbrev pub invariant-weight_up_to-loop-step : goal.invariant-weight_up_to-loop-step
invariant-weight_up_to-loop-step l = record {
  most : l.weight ≤ l.most;
  left : min (l.weight + steps_in (steps_block (drop l.step-index l.step-items))) l.most ≡ min (steps_in (block l.block)) l.most;
}

abbrev pub invariant-within_up_to-loop-arm : goal.invariant-within_up_to-loop-arm
invariant-within_up_to-loop-arm l = record {
  most : l.weight ≤ l.most;
  left : min (l.weight + steps_of (match_arms (drop l.arm-index l.arm-items))) l.most ≡ min (steps_within (control l.control)) l.most;
}
