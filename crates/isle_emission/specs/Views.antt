-- What contracts see of the lists in blocks.
use Rattle.std.specs.Prelude.{List, map}
use Rattle.isle_core.specs.declared.blocks.EvalStep.{EvalStep as CodeStep}
use Rattle.isle_core.specs.declared.blocks.MatchArm.{MatchArm as CodeArm}
use Rattle.isle_core.specs.Block.{Block, Arms}
use Rattle.isle_core.specs.BlockViews.{block_of, arms_of, step, arm}

-- the block of these steps
abbrev pub steps_block : List CodeStep → Block
steps_block xs = block_of (map step xs)

-- the arms of a match
abbrev pub match_arms : List CodeArm → Arms
match_arms xs = arms_of (map arm xs)
