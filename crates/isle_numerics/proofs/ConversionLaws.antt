-- A number is kept by a conversion that never fails, and lost by some number where there is none.
use Rattle.std.proofs.Common.{◌≡◌, ◌≢◌, inl, inr, ℕ, ◌^◌, ◌<◌, Bool, true, false, cond, not, ◌&&◌, ◌||◌, eqb, ltb, leb, List, [], ◌∷◌, ◌++◌, refl, sym, ap, ◌∙◌, arith}
use mathlib.Core.Path.{ap₂}
use Rattle.std.specs.Prelude.{ℤ, pos, negsuc}
use Rattle.std.specs.List.{Contains, list_all}
use Rattle.std.specs.Int.{Width}
use Rattle.std.specs.Int.RustNames.{FitsSigned}
use Rattle.std.proofs.lemmas.Bool.{lt-ltb, ltb-true, leb-true, leb-false, eqb-true}
use Rattle.std.proofs.lemmas.List.Folds.{list_all_at}
use lib.Pow.{pow_pos}
use mir.Val.{bits, hbits}
use Rattle.isle_core.specs.Int.{is_signed, width, IsBelow}
use Rattle.isle_numerics.specs.declared.conversion.Conversion.{Conversion}
use Rattle.isle_numerics.specs.declared.conversion.Conversion.TheVariants.{Into, TryInto, UnwrapInto, TruncateInto, CastSigned, CastUnsigned}
use Rattle.isle_numerics.specs.declared.numeric_type.NumericType.{NumericType}
use Rattle.isle_numerics.specs.NumericTypes.{numeric, numeric_types, IsNumeric, int_type}
use Rattle.isle_numerics.specs.Meaning.{limit}
use Rattle.isle_numerics.specs.Conversions.{is_lossless, have_one_sign, IsWithin, IsExactlyOne, IsConvertedAsNumbersAllow}

-- ---- what all items of a list pass, each of them does

passed_by : {X : Type 0} (b : Bool) (p : X → Bool) (xs : List X) (x : X) → p x ≡ b → list_all p xs ≡ true → Contains xs x → b ≡ true
passed_by true p xs x f e c = refl
passed_by false p xs x f e (k, h, is) = let not_all : list_all p xs ≡ false = list_all_at p xs k x h (ap p is ∙ f) in sym not_all ∙ e

pub passed : {X : Type 0} (p : X → Bool) (xs : List X) (x : X) → list_all p xs ≡ true → Contains xs x → p x ≡ true
passed p xs x e c = passed_by (p x) p xs x refl e c

-- ---- which numbers are of a type, as a test

test : Bool → ℕ → ℤ → Bool
test s l (pos n) = ltb n l
test s l (negsuc n) = s && ltb n l

to_test : (s : Bool) (w : Width) (z : ℤ) → cond s (FitsSigned w z) (IsBelow (2 ^ bits w) z) → test s (cond s (2 ^ hbits w) (2 ^ bits w)) z ≡ true
unfolding test
to_test true w (pos n) h = lt-ltb n (2 ^ hbits w) h.sfits
to_test true w (negsuc n) h = lt-ltb n (2 ^ hbits w) h.sfits
to_test false w (pos n) h = lt-ltb n (2 ^ bits w) h
to_test false w (negsuc n) h = absurd h

from_test : (s : Bool) (w : Width) (z : ℤ) → test s (cond s (2 ^ hbits w) (2 ^ bits w)) z ≡ true → cond s (FitsSigned w z) (IsBelow (2 ^ bits w) z)
unfolding test
from_test true w (pos n) h = record { sfits = ltb-true n (2 ^ hbits w) h }
from_test true w (negsuc n) h = record { sfits = ltb-true n (2 ^ hbits w) h }
from_test false w (pos n) h = ltb-true n (2 ^ bits w) h
from_test false w (negsuc n) h = absurd (let x : false ≡ true = h in cc)

limit_some : (s : Bool) (w : Width) → 0 < cond s (2 ^ hbits w) (2 ^ bits w)
limit_some true w = pow_pos (hbits w)
limit_some false w = pow_pos (bits w)

-- ---- a type's numbers are another's if its limit isn't above, and it isn't the only signed one

covers : Bool → Bool → ℕ → ℕ → Bool
covers s t l m = leb l m && (not s || t)

kept_by : (b c s t : Bool) (l m : ℕ) → leb l m ≡ b → (not s || t) ≡ c → (b && c) ≡ true → (z : ℤ) → test s l z ≡ true → test t m z ≡ true
unfolding test
kept_by true true s t l m e f g (pos n) h = lt-ltb n m (omega (arith, leb-true l m e, ltb-true n l h))
kept_by true true true true l m e f g (negsuc n) h = lt-ltb n m (omega (arith, leb-true l m e, ltb-true n l h))
kept_by true true true false l m e f g (negsuc n) h = absurd (let x : false ≡ true = f in cc)
kept_by true true false t l m e f g (negsuc n) h = absurd (let x : false ≡ true = h in cc)
kept_by true false s t l m e f g z h = absurd (let x : false ≡ true = g in cc)
kept_by false c s t l m e f g z h = absurd (let x : false ≡ true = g in cc)

lost_by : (b c s t : Bool) (l m : ℕ) → 0 < l → leb l m ≡ b → (not s || t) ≡ c → (b && c) ≡ false → ((z : ℤ) → test s l z ≡ true → test t m z ≡ true) → ⊥
unfolding test
lost_by true true s t l m some e f g h = let x : true ≡ false = g in absurd cc
lost_by true false true true l m some e f g h = let x : true ≡ false = f in absurd cc
lost_by true false true false l m some e f g h = let x : false ≡ true = h (negsuc 0) (lt-ltb 0 l some) in absurd cc
lost_by true false false t l m some e f g h = let x : true ≡ false = f in absurd cc
lost_by false c s t l m some e f g h =
    let x : ltb m m ≡ true = h (pos m) (lt-ltb m l (leb-false l m e)) in
    absurd (omega (arith, ltb-true m m x))

-- ---- the rule says which

same_truth : Bool → Bool → Bool
same_truth true b = b
same_truth false b = not b

same_truth_is : (a b : Bool) → same_truth a b ≡ true → a ≡ b
unfolding same_truth
same_truth_is true true e = refl
same_truth_is true false e = sym e
same_truth_is false true e = e
same_truth_is false false e = refl

covers_at : NumericType → NumericType → Bool
covers_at f g = covers (is_signed (int_type f)) (is_signed (int_type g)) (limit (int_type f)) (limit (int_type g))

same_type : NumericType → NumericType → Bool
same_type f g = same_truth f.signed g.signed && eqb f.byte_width g.byte_width

agrees : NumericType → NumericType → Bool
agrees f g = same_type f g || same_truth (is_lossless f g) (covers_at f g)

all_agree : list_all (λ f. list_all (agrees f) numeric_types) numeric_types ≡ true
unfolding agrees same_type same_truth covers_at covers
all_agree = refl

one_type : (a b : Bool) (f g : NumericType) → same_truth f.signed g.signed ≡ a → eqb f.byte_width g.byte_width ≡ b → (a && b) ≡ true → f ≡ g
one_type true true f g d e h = ap₂ numeric (same_truth_is f.signed g.signed d) (eqb-true f.byte_width g.byte_width e)
one_type true false f g d e h = absurd (let x : false ≡ true = h in cc)
one_type false b f g d e h = absurd (let x : false ≡ true = h in cc)

second : (a b : Bool) → (a ≡ true → ⊥) → (a || b) ≡ true → b ≡ true
second true b h e = absurd (h refl)
second false b h e = e

rule_is : (f g : NumericType) → IsNumeric f → IsNumeric g → f ≢ g → is_lossless f g ≡ covers_at f g
unfolding agrees same_type
rule_is f g m n other =
    let row = passed (λ (f : NumericType). list_all (agrees f) numeric_types) numeric_types f all_agree m in
    let cell = passed (agrees f) numeric_types g row n in
    same_truth_is (is_lossless f g) (covers_at f g) (second (same_type f g) (same_truth (is_lossless f g) (covers_at f g)) (λ e. other (one_type _ _ f g refl refl e)) cell)

-- ---- the list of conversions

is_into : Conversion → Bool
is_into Into = true
is_into TryInto = false
is_into UnwrapInto = false
is_into TruncateInto = false
is_into CastSigned = false
is_into CastUnsigned = false

none_into : (b c d : Bool) → list_all (λ (x : Conversion). not (is_into x)) (TryInto ∷ UnwrapInto ∷ (cond b (TruncateInto ∷ []) [] ++ cond c (cond d (CastSigned ∷ []) (CastUnsigned ∷ [])) [])) ≡ true
unfolding is_into
none_into true true true = refl
none_into true true false = refl
none_into true false d = refl
none_into false true true = refl
none_into false true false = refl
none_into false false d = refl

first_is : {X : Type 0} (x : X) (xs : List X) → Contains (x ∷ xs) x
first_is x xs = (0, omega arith, refl)

-- what stands in a list that is chosen by a truth
chosen : (b c d e : Bool) → List Conversion
chosen b c d e = cond b (Into ∷ []) (TryInto ∷ UnwrapInto ∷ (cond c (TruncateInto ∷ []) [] ++ cond d (cond e (CastSigned ∷ []) (CastUnsigned ∷ [])) []))

into_true : (b c d e : Bool) → Contains (chosen b c d e) Into → b ≡ true
unfolding chosen is_into
into_true true c d e h = refl
into_true false c d e h = passed (λ (x : Conversion). not (is_into x)) (chosen false c d e) Into (none_into c d e) h

true_into : (b c d e : Bool) → b ≡ true → Contains (chosen b c d e) Into
unfolding chosen
true_into true c d e h = first_is Into []
true_into false c d e h = absurd (let x : false ≡ true = h in cc)

only_into : list_all is_into (Into ∷ []) ≡ true
unfolding is_into
only_into = refl

one_of : (b c d e : Bool) → IsExactlyOne (Contains (chosen b c d e) Into) (Contains (chosen b c d e) TryInto)
unfolding chosen is_into
one_of true c d e = inl (first_is Into [], (λ h. let x : false ≡ true = passed is_into (Into ∷ []) TryInto only_into h in absurd cc))
one_of false c d e = inr ((λ h. let x : false ≡ true = into_true false c d e h in absurd cc), first_is TryInto (UnwrapInto ∷ (cond c (TruncateInto ∷ []) [] ++ cond d (cond e (CastSigned ∷ []) (CastUnsigned ∷ [])) [])))

-- ---- both together

lossless_within : (b : Bool) (f g : NumericType) → IsNumeric f → IsNumeric g → f ≢ g → is_lossless f g ≡ b → b ≡ true → IsWithin f g
unfolding covers_at covers
lossless_within b f g m n other is e z h =
    from_test (is_signed (int_type g)) (width (int_type g)) z
    (kept_by _ _ (is_signed (int_type f)) (is_signed (int_type g)) (limit (int_type f)) (limit (int_type g)) refl refl (sym (rule_is f g m n other) ∙ is ∙ e) z
    (to_test (is_signed (int_type f)) (width (int_type f)) z h))

within_lossless : (b : Bool) (f g : NumericType) → IsNumeric f → IsNumeric g → f ≢ g → is_lossless f g ≡ b → IsWithin f g → b ≡ true
unfolding covers_at covers
within_lossless true f g m n other is h = refl
within_lossless false f g m n other is h =
    absurd (lost_by _ _ (is_signed (int_type f)) (is_signed (int_type g)) (limit (int_type f)) (limit (int_type g)) (limit_some (is_signed (int_type f)) (width (int_type f))) refl refl (sym (rule_is f g m n other) ∙ is)
    (λ z t. to_test (is_signed (int_type g)) (width (int_type g)) z (h z (from_test (is_signed (int_type f)) (width (int_type f)) z t))))

pub converted : (f g : NumericType) → IsNumeric f → IsNumeric g → f ≢ g → IsConvertedAsNumbersAllow f g
unfolding chosen
converted f g m n other =
    let b = is_lossless f g in
    let c = have_one_sign f g in
    let d = eqb f.byte_width g.byte_width in
    record {
      one = one_of b c d g.signed;
      into = (
        (λ h. lossless_within b f g m n other refl (into_true b c d g.signed h)),
        (λ h. true_into b c d g.signed (within_lossless b f g m n other refl h)),
      );
    }
