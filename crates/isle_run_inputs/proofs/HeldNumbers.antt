-- Numbers of a type, held as their 128 signed bits.
use Rattle.std.proofs.Common.{◌≡◌, ℕ, ◌<◌, ◌≤◌, ◌^◌, List, Bool, true, nat_lt, Some, sym, ap, ◌∙◌, arith, subst}
use Rattle.std.specs.Prelude.{ℤ, pos, negsuc, if◌then◌else◌, None}
use Rattle.std.proofs.lemmas.Bool.Decides.{nat_tests}
use Rattle.std.specs.Int.{Width, w8, w16, w32, w64, w128}
use Rattle.std.specs.Int.RustNames.{FitsSigned}
use Rattle.std.proofs.Math.Facts.{sfits_widen}
use mir.Val.{hbits}
use borrow.Author.Differences.{same_in, sum_is_lem, product_is}
use Rattle.isle_core.specs.declared.types.IntType.{IntType}
use Rattle.isle_core.specs.declared.types.IntType.TheVariants as int
use Rattle.isle_core.specs.Int.{IsBelow, wrapped}
use Rattle.isle_core.specs.HasType.{IsReduced}
use Rattle.isle_spelling.proofs.Wraps.{wraps, wraps_only}
use Rattle.isle_run_inputs.specs.ValuesAt.{is_of}

-- a number of 128 signed bits wraps to itself
kept : (n : ℤ) → FitsSigned w128 n → wrapped int.I128 n ≡ n
kept n f = sym (wraps_only int.I128 n n (record { within = f; congruent = (pos 0, same_in _ _ (omega (arith, sum_is_lem, product_is))) }))

-- a number from 0 on
below : (limit n : ℕ) → limit ≤ 2 ^ 127 → nat_lt n limit ≡ true → IsBelow limit (wrapped int.I128 (pos n))
below limit n small h =
    let lt : n < limit = grind (arith, nat_tests) in
    let fits : n < 2 ^ 127 = omega (arith, lt, small) in
    subst (IsBelow limit) (sym (kept (pos n) (record { sfits = fits }))) lt

-- a number of a signed width lies in 128 signed bits
wide : (w : Width) (n : ℤ) → FitsSigned w n → FitsSigned w128 n
wide w8 n f = sfits_widen tt f
wide w16 n f = sfits_widen tt f
wide w32 n f = sfits_widen tt f
wide w64 n f = sfits_widen tt f
wide w128 n f = f

-- whether a number lies in a signed width
abbrev pub lies : Width → ℤ → Bool
lies w (pos n) = nat_lt n (2 ^ hbits w)
lies w (negsuc n) = nat_lt n (2 ^ hbits w)

-- what the test tells
pub fits : (w : Width) (n : ℤ) → lies w n ≡ true → FitsSigned w n
fits w (pos n) h = record { sfits = grind (arith, nat_tests) }
fits w (negsuc n) h = record { sfits = grind (arith, nat_tests) }

-- a number of a signed type
within : (w : Width) (n : ℤ) → lies w n ≡ true → FitsSigned w (wrapped int.I128 n)
within w n h = subst (FitsSigned w) (sym (kept n (wide w n (fits w n h)))) (fits w n h)

-- a number of a type, held as the type holds it
pub held : (ty : IntType) (n : ℤ) → is_of ty n ≡ true → IsReduced ty (wrapped int.I128 n)
held int.U8 (pos n) h = below (2 ^ 8) n (omega arith) h
held int.U8 (negsuc n) h = absurd cc
held int.U16 (pos n) h = below (2 ^ 16) n (omega arith) h
held int.U16 (negsuc n) h = absurd cc
held int.U32 (pos n) h = below (2 ^ 32) n (omega arith) h
held int.U32 (negsuc n) h = absurd cc
held int.U64 (pos n) h = below (2 ^ 64) n (omega arith) h
held int.U64 (negsuc n) h = absurd cc
held int.USize (pos n) h = below (2 ^ 64) n (omega arith) h
held int.USize (negsuc n) h = absurd cc
held int.U128 n h = (wraps int.I128 n).within
held int.I8 (pos n) h = within w8 (pos n) h
held int.I8 (negsuc n) h = within w8 (negsuc n) h
held int.I16 (pos n) h = within w16 (pos n) h
held int.I16 (negsuc n) h = within w16 (negsuc n) h
held int.I32 (pos n) h = within w32 (pos n) h
held int.I32 (negsuc n) h = within w32 (negsuc n) h
held int.I64 (pos n) h = within w64 (pos n) h
held int.I64 (negsuc n) h = within w64 (negsuc n) h
held int.I128 n h = (wraps int.I128 n).within
held int.ISize (pos n) h = within w64 (pos n) h
held int.ISize (negsuc n) h = within w64 (negsuc n) h
