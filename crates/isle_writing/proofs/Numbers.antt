-- Numbers in decimal are read back.
use Rattle.std.proofs.Common.{◌≡◌, ℕ, zero, suc, ◌+◌, ◌-◌, ◌*◌, ◌^◌, ◌%◌, ◌<◌, ℤ, pos, negsuc, List, [], ◌∷◌, length, map, Bool, true, false, Some, None, refl, ap, ap₂, ◌∙◌, arith, nat_lt}
use Rattle.std.specs.Prelude.{◌==◌, not, if◌then◌else◌, neg_ℤ, option_map, slice_index, drop, fold, FitsSigned}
use Rattle.std.specs.Char.{digit_value}
use Rattle.std.specs.Int.{w64, w128, cast_signed}
use Rattle.std.specs.Int.Digits.{digits_of, number_from_digits_after, AllBelowBase}
use Rattle.std.specs.List.{list_all}
use Rattle.std.proofs.lemmas.Int.{to_z-of_z, to_z_pos}
use Rattle.std.proofs.lemmas.Int.Digits.{number_digits_of, all_below_base_digits_of}
use Rattle.std.proofs.lemmas.Bool.{and_parts, and_from, lt-ltb}
use Rattle.std.proofs.lemmas.Bool.Decides.{nat_tests}
use Rattle.isle_core.specs.Int.{wrapped}
use Rattle.isle_core.specs.declared.types.IntType.TheVariants.{I128}
use Rattle.isle_lexer.specs.Integer.{is_decimal, plain_digits, spelt_number, number, named_base, base_of, behind_base, bounded, magnitude, signed_of, int_of}
use Rattle.isle_lexer.specs.Word.{Number, number_kind, kind}
use Rattle.isle_printer.specs.Number.{numeral, glyph}
use Rattle.isle_printer.proofs.Numerals.{numeral_not_empty}
use Rattle.isle_writing.specs.Text.{number_text}

-- ---- digits

glyph_decimal : (d : ℕ) → d < 10 → is_decimal (glyph d) ≡ true
glyph_decimal d h = grind (arith, nat_tests)

glyph_value : (d : ℕ) → d < 10 → digit_value (glyph d) ≡ d
glyph_value d h = grind (arith, nat_tests)

no_line : (b : ℕ) → is_decimal b ≡ true → not (b == 95) ≡ true
no_line b h = grind (arith, nat_tests)

below_ten : (b : ℕ) → is_decimal b ≡ true → nat_lt (digit_value b) 10 ≡ true
below_ten b h = grind (arith, nat_tests)

no_base : (b : ℕ) → is_decimal b ≡ true → named_base b ≡ 10
no_base b h = grind (arith, nat_tests)

glyphs_decimal : (ds : List ℕ) → AllBelowBase 10 ds → list_all is_decimal (map glyph ds) ≡ true
glyphs_decimal [] h = refl
glyphs_decimal (d ∷ ds) h = and_from _ _ (glyph_decimal d h.0) (glyphs_decimal ds h.1)

kept : (b : ℕ) (bs : List ℕ) → not (b == 95) ≡ true → plain_digits (b ∷ bs) ≡ b ∷ plain_digits bs
kept b bs h = rw (h) refl

all_kept : (bs : List ℕ) → list_all is_decimal bs ≡ true → plain_digits bs ≡ bs
all_kept [] h = refl
all_kept (b ∷ bs) h = let p = and_parts (is_decimal b) _ h in kept b bs (no_line b p.0) ∙ ap (λ z. b ∷ z) (all_kept bs p.1)

all_digits : (bs : List ℕ) → list_all is_decimal bs ≡ true → list_all (λ b. nat_lt (digit_value b) 10) bs ≡ true
all_digits [] h = refl
all_digits (b ∷ bs) h = let p = and_parts (is_decimal b) _ h in and_from _ _ (below_ten b p.0) (all_digits bs p.1)

spelt_after : (n : ℕ) (ds : List ℕ) → AllBelowBase 10 ds → fold (λ n b. n * 10 + digit_value b) n (map glyph ds) ≡ number_from_digits_after 10 n ds
spelt_after n [] h = refl
spelt_after n (d ∷ ds) h = ap (λ z. fold (λ n b. n * 10 + digit_value b) (n * 10 + z) (map glyph ds)) (glyph_value d h.0) ∙ spelt_after (n * 10 + d) ds h.1

-- ---- words of digits

base_ten : (w : List ℕ) → list_all is_decimal w ≡ true → base_of w ≡ 10
base_ten [] h = refl
base_ten (b ∷ []) h = by (b == 48)
  where
    by : (c : Bool) → (if c then named_base 0 else 10) ≡ 10
    by true = refl
    by false = refl
base_ten (b ∷ c ∷ w) h = by (b == 48) (no_base c (and_parts (is_decimal c) _ (and_parts (is_decimal b) _ h).1).0)
  where
    by : (x : Bool) → named_base c ≡ 10 → (if x then named_base c else 10) ≡ 10
    by true e = e
    by false e = refl

all_behind : (w : List ℕ) → base_of w ≡ 10 → behind_base w ≡ w
all_behind w e = rw (e) refl

some_there : (n : ℕ) → (suc n == 0) ≡ false
some_there n = grind (arith, nat_tests)

number_is : (w : List ℕ) → 0 < length w → list_all is_decimal w ≡ true → number 10 w ≡ Some (spelt_number 10 w)
number_is [] some h = absurd (omega arith)
number_is (b ∷ w) some h = rw (all_kept (b ∷ w) h, all_digits (b ∷ w) h, some_there (length w)) refl

bounded_is : (n : ℕ) → n < 2 ^ 128 → bounded (Some n) ≡ Some n
bounded_is n l = rw (lt-ltb n (2 ^ 128) l) refl

first_decimal : (w : List ℕ) → 0 < length w → list_all is_decimal w ≡ true → is_decimal (slice_index w 0) ≡ true
first_decimal [] some h = absurd (omega arith)
first_decimal (b ∷ w) some h = (and_parts (is_decimal b) _ h).0

magnitude_is : (w : List ℕ) (n : ℕ) → 0 < length w → list_all is_decimal w ≡ true → spelt_number 10 w ≡ n → n < 2 ^ 128 → magnitude w ≡ Some n
unfolding magnitude
magnitude_is w n some h e l =
    ap (λ (c : Bool). if c then bounded (number (base_of w) (behind_base w)) else None) (first_decimal w some h)
    ∙ ap₂ (λ b bs. bounded (number b bs)) (base_ten w h) (all_behind w (base_ten w h))
    ∙ ap bounded (number_is w some h ∙ ap Some e)
    ∙ bounded_is n l

-- ---- numerals

numeral_decimal : (n : ℕ) → list_all is_decimal (numeral 10 n) ≡ true
unfolding numeral
numeral_decimal zero = refl
numeral_decimal (suc n) = glyphs_decimal (digits_of 10 (suc n)) (all_below_base_digits_of 10 (suc n) (omega arith))

numeral_some : (n : ℕ) → 0 < length (numeral 10 n)
numeral_some n = numeral_not_empty 10 n (omega arith)

numeral_spelt : (n : ℕ) → spelt_number 10 (numeral 10 n) ≡ n
unfolding numeral
numeral_spelt zero = refl
numeral_spelt (suc n) = spelt_after 0 (digits_of 10 (suc n)) (all_below_base_digits_of 10 (suc n) (omega arith)) ∙ number_digits_of 10 (suc n) (omega arith)

numeral_magnitude : (n : ℕ) → n < 2 ^ 128 → magnitude (numeral 10 n) ≡ Some n
numeral_magnitude n l = magnitude_is (numeral 10 n) n (numeral_some n) (numeral_decimal n) (numeral_spelt n) l

-- ---- with a sign

wrapped_pos : (n : ℕ) → n < 2 ^ 127 → wrapped I128 (pos n) ≡ pos n
unfolding wrapped
wrapped_pos n l = let same : n % 2 ^ 128 ≡ n = omega arith in ap (cast_signed w128) same ∙ to_z_pos w128 n l

wrapped_negsuc : (n : ℕ) → n < 2 ^ 127 → wrapped I128 (negsuc n) ≡ negsuc n
unfolding wrapped
wrapped_negsuc n l = let same : 2 ^ 128 - 1 - n % 2 ^ 128 ≡ 2 ^ 128 - suc n = omega arith in ap (cast_signed w128) same ∙ to_z-of_z w128 (negsuc n) (omega (arith, l))

no_sign : (b : ℕ) → is_decimal b ≡ true → (b == 45) ≡ false
no_sign b h = grind (arith, nat_tests)

signed_pos : (n : ℕ) → n < 2 ^ 127 → signed_of (numeral 10 n) ≡ Some (pos n)
unfolding signed_of
signed_pos n l =
    let w : List ℕ = numeral 10 n in
    ap (λ (c : Bool). if c then option_map (λ n. neg_ℤ (pos n)) (magnitude (drop 1 w)) else option_map (λ n. pos n) (magnitude w)) (no_sign (slice_index w 0) (first_decimal w (numeral_some n) (numeral_decimal n)))
    ∙ ap (option_map (λ n. pos n)) (numeral_magnitude n (omega (arith, l)))

signed_negsuc : (n : ℕ) → n < 2 ^ 127 → signed_of (45 ∷ numeral 10 (suc n)) ≡ Some (negsuc n)
unfolding signed_of
signed_negsuc n l = ap (option_map (λ n. neg_ℤ (pos n))) (numeral_magnitude (suc n) (omega (arith, l)))

int_pos : (n : ℕ) → n < 2 ^ 127 → int_of (numeral 10 n) ≡ Some (pos n)
unfolding int_of
int_pos n l = ap (option_map (wrapped I128)) (signed_pos n l) ∙ ap Some (wrapped_pos n l)

int_negsuc : (n : ℕ) → n < 2 ^ 127 → int_of (45 ∷ numeral 10 (suc n)) ≡ Some (negsuc n)
unfolding int_of
int_negsuc n l = ap (option_map (wrapped I128)) (signed_negsuc n l) ∙ ap Some (wrapped_negsuc n l)

-- a number of 128 signed bits is read back
pub number_kind_is : (n : ℤ) → FitsSigned w128 n → kind (number_text n) ≡ Number n
unfolding kind
number_kind_is (pos n) h =
    let w : List ℕ = numeral 10 n in
    rw (first_decimal w (numeral_some n) (numeral_decimal n)) (ap number_kind (int_pos n (omega (arith, h))))
number_kind_is (negsuc n) h = ap number_kind (int_negsuc n (omega (arith, h)))

-- a number of 64 signed bits is one of 128
pub wide : (n : ℤ) → FitsSigned w64 n → FitsSigned w128 n
wide (pos n) h = omega (arith, h)
wide (negsuc n) h = omega (arith, h)
