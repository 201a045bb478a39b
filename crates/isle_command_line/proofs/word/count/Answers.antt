use Rattle.std.proofs.Common.{rules, ◌≤◌, ◌^◌, arith, lit<}
use native.Mathlib.Nat.{pow-le-pow_right}
use Rattle.isle_command_line.proofs.word.count.Goals as goal

pub overflow_mul-value : goal.overflow_mul-value
overflow_mul-value c =
    let few : c.loop-digit.digit-index ≤ 17 = search rules in
    let most : 10 ^ c.loop-digit.digit-index ≤ 10 ^ 17 = pow-le-pow_right (lit< tt) {j = 17} few in
    omega (arith, c.loop-digit.invariant.small, most)

pub overflow_add-value : goal.overflow_add-value
overflow_add-value c =
    let few : c.loop-digit.digit-index ≤ 17 = search rules in
    let most : 10 ^ c.loop-digit.digit-index ≤ 10 ^ 17 = pow-le-pow_right (lit< tt) {j = 17} few in
    let small : c.from.result ≤ 255 = search rules in
    omega (arith, c.loop-digit.invariant.small, most, small)
