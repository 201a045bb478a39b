use Rattle.std.proofs.Common.{[]}
use Rattle.isle_meta.proofs.CheckLaws.{found_checks}
use Rattle.isle_meta.specs.Told.{found_row}
use Rattle.isle_pulley_rows.specs.PulleyRows.{IsFirstOperation}
use Rattle.isle_pulley_rows.proofs.refused.check_rows.Goals as goal

pub returns : goal.returns
returns c = found_checks (IsFirstOperation [] c.args.ops.now c.args.extended.now) (found_row c.in_ok-found.found) c.checked.result c.in_ok-found.ensures c.checked.ensures
