use Rattle.std.proofs.Common.{length, ap, ◌∙◌}
use Rattle.isle_core.specs.Inputs.{bytes_each}
use Rattle.isle_build.proofs.SourceLaws.{front_tracked, left_generated}
use Rattle.isle_build.proofs.reading.split_inputs.Goals as goal

pub returns-clause-tracked : goal.returns-clause-tracked
returns-clause-tracked c =
    ap bytes_each c.split_at.ensures.front ∙ front_tracked c.args.names.now c.args.unit.now (length c.as_slice.result.now) (ap length c.as_slice.ensures) c.requires

pub returns-clause-generated : goal.returns-clause-generated
returns-clause-generated c =
    ap bytes_each c.split_at.ensures.back ∙ left_generated c.args.names.now c.args.unit.now (length c.as_slice.result.now) (ap length c.as_slice.ensures) c.requires
