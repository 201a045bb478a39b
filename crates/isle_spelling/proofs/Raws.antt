-- A number of a primitive type is read from the word that it was spelled as.
use Rattle.std.proofs.Common.{◌≡◌, ℕ, zero, suc, List, [], ◌∷◌, map, Some, None, refl, arith}
use Rattle.std.specs.Prelude.{ℤ}
use Rattle.std.specs.Int.{w128, cast_unsigned}
use Rattle.std.specs.Int.RustNames.{FitsSigned}
use Rattle.std.specs.Int.Digits.{digits_of, AllBelowBase}
use Rattle.std.proofs.lemmas.Int.{to_z-of_z}
use Rattle.std.proofs.lemmas.Int.Digits.{all_below_base_digits_of}
use Rattle.std.proofs.lemmas.Bool.{ne_eqb, eq-eqb}
use Rattle.isle_printer.specs.Number.{numeral, glyph}
use Rattle.isle_printer.proofs.Readback.{numeral_again}
use Rattle.isle_spelling.specs.Literal.{parted, literal_of}
use Rattle.isle_spelling.specs.Raw.{raw_word, raw_of}
use Rattle.isle_spelling.proofs.Literals.{glyph_no_bar}

-- the word of a number is read as that number
pub raw_again : (z : ℤ) → FitsSigned w128 z → raw_of (raw_word z) ≡ Some z
unfolding raw_of
raw_again z h =
    let n = cast_unsigned w128 z in
    rw (numeral_again 16 n (omega arith) (omega arith), to_z-of_z w128 z h, eq-eqb n n refl) refl

parted_whole : (ds : List ℕ) → AllBelowBase 16 ds → parted (map glyph ds) ≡ (map glyph ds, [])
parted_whole [] all = refl
parted_whole (d ∷ ds) all = rw (ne_eqb (glyph d) 95 (glyph_no_bar d all.0), parted_whole ds all.1) refl

parted_digits : (n : ℕ) → parted (numeral 16 n) ≡ (numeral 16 n, [])
unfolding numeral
parted_digits zero = refl
parted_digits (suc n) = parted_whole (digits_of 16 (suc n)) (all_below_base_digits_of 16 (suc n) (omega arith))

-- it is no number with a type
pub raw_no_literal : (z : ℤ) → literal_of (raw_word z) ≡ None
unfolding literal_of
raw_no_literal z = rw (parted_digits (cast_unsigned w128 z)) refl
