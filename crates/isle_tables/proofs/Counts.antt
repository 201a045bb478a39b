-- The number that a few decimal digits spell, one by one.
use Rattle.std.proofs.Common.{◌≡◌, ℕ, zero, ◌+◌, ◌*◌, ◌^◌, ◌<◌, ◌≤◌, List, refl, arith, Option, Some, None}
use Rattle.std.specs.Prelude.{if◌then◌else◌, fold}
use Rattle.std.specs.Char.{digit_value}
use Rattle.std.specs.List.{list_all}
use Rattle.std.proofs.Math.Nat.{pow-le-pow_right}
use Rattle.isle_lexer.specs.Integer.{is_decimal}

-- after a number, digits that are left
abbrev pub counted : ℕ → List ℕ → Option ℕ
counted n ds = if list_all is_decimal ds then Some (fold (λ n b. n * 10 + digit_value b) n ds) else None

most_digits : 10 ^ 4 ≡ 10000
most_digits = refl

-- what fewer than five digits spell
pub few_digits : (i n : ℕ) → i < 5 → n < 10 ^ i → n < 10000
few_digits i n l h =
    let ten : zero < 10 = omega arith in
    let below : i ≤ 4 = omega (arith, l) in
    let x : 10 ^ i ≤ 10 ^ 4 = pow-le-pow_right ten below in
    omega (arith, h, x, most_digits)
