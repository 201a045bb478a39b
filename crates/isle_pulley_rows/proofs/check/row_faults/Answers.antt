use Rattle.std.proofs.Common.{refl}
use Rattle.isle_pulley_rows.proofs.RefusedLaws.{row_told}
use Rattle.isle_pulley_rows.proofs.check.row_faults.Goals as goal

pub returns : goal.returns
returns c = λ earlier before term. row_told _ earlier before c.args.row.now c.args.repeated_term c.in_ok-repeated_part.repeated_part
    c.in_ok-bad_name.ensures refl term c.in_ok-repeated_part.ensures c.breaks_binary.ensures c.in_ok-results.ensures c.in_ok-field_type.ensures
