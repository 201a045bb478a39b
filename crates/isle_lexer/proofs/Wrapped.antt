-- How the code wraps to 128 signed bits.
use Rattle.std.proofs.Common.{◌≡◌, ℕ, zero, suc, ◌+◌, ◌-◌, ◌^◌, ◌%◌, ◌<◌, ℤ, pos, ap, ◌∙◌, arith}
use Rattle.std.specs.Prelude.{neg_ℤ}
use Rattle.std.specs.Int.{w128, cast_signed, cast_unsigned}
use Rattle.std.proofs.lemmas.Int.{of_z-to_z}
use Rattle.isle_core.specs.Int.{wrapped}
use Rattle.isle_core.specs.declared.types.IntType.TheVariants.{I128}

-- a result as contracts see it
seen : (n : ℕ) (z : ℤ) → n < 2 ^ 128 → z ≡ cast_signed w128 n → cast_signed w128 (cast_unsigned w128 z) ≡ cast_signed w128 n
seen n z l e = ap (λ y. cast_signed w128 (cast_unsigned w128 y)) e ∙ ap (cast_signed w128) (of_z-to_z w128 n l)

pub wrapped_up : (n : ℕ) (z : ℤ) → n < 2 ^ 128 → z ≡ cast_signed w128 n → cast_signed w128 (cast_unsigned w128 z) ≡ wrapped I128 (pos n)
unfolding wrapped
wrapped_up n z l e = seen n z l e ∙ ap (cast_signed w128) (let m : n ≡ n % 2 ^ 128 = omega arith in m)

pub wrapped_down : (n r : ℕ) (z : ℤ) → n < 2 ^ 128 → r < 2 ^ 128 → (r + n) % 2 ^ 128 ≡ 0 → z ≡ cast_signed w128 r → cast_signed w128 (cast_unsigned w128 z) ≡ wrapped I128 (neg_ℤ (pos n))
unfolding wrapped
wrapped_down zero r z l k e f = seen r z k f ∙ ap (cast_signed w128) (let m : r ≡ 0 % 2 ^ 128 = omega arith in m)
wrapped_down (suc n) r z l k e f = seen r z k f ∙ ap (cast_signed w128) (let m : r ≡ 2 ^ 128 - 1 - n % 2 ^ 128 = omega arith in m)
