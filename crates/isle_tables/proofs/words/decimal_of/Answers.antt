use Rattle.std.proofs.Common.{rules, arith, ◌≡◌, ◌<◌, ◌*◌}
use Rattle.isle_tables.proofs.Counts.{few_digits}
use Rattle.isle_tables.proofs.words.decimal_of.Goals as goal

pub returns-in_err-checked_mul : goal.returns-in_err-checked_mul
returns-in_err-checked_mul c =
    let l : c.loop-digit.digit-index < 5 = search rules in
    let x = few_digits c.loop-digit.digit-index c.loop-digit.number l c.loop-digit.invariant.1 in
    absurd (c.in_err-checked_mul.ensures (omega (arith, x)))

pub returns-in_err-number : goal.returns-in_err-number
returns-in_err-number c =
    let l : c.loop-digit.digit-index < 5 = search rules in
    let x = few_digits c.loop-digit.digit-index c.loop-digit.number l c.loop-digit.invariant.1 in
    let ten : c.in_ok-checked_mul.field-0 ≡ c.loop-digit.number * 10 = search rules in
    let digit : c.from.result < 256 = search rules in
    absurd (c.in_err-number.ensures (omega (arith, x, ten, digit)))
