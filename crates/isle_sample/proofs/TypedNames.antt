-- The names of terms are apart.
use Rattle.std.proofs.Common.{◌≡◌, ◌≢◌, ℕ, Bool, true, false, List, ◌∷◌, refl, sym, ap, ◌∙◌, arith}
use Rattle.std.specs.Str.{bytes_eq}
use Rattle.std.proofs.lemmas.Option.{same_Some}
use Rattle.std.proofs.lemmas.Slice.Eq.{bytes_eq-Decides}
use Rattle.isle_printer.specs.Number.{numeral, numeral_of}
use Rattle.isle_printer.proofs.Readback.{numeral_again}
use Rattle.isle_sample.specs.Sample.{term_name}

-- numbers of one spelling are one
numbers_same : (i j : ℕ) → numeral 10 i ≡ numeral 10 j → i ≡ j
numbers_same i j e = same_Some i j (sym (numeral_again 10 i (omega arith) (omega arith)) ∙ ap (numeral_of 10) e ∙ numeral_again 10 j (omega arith) (omega arith))

after_first : (x : ℕ) (xs ys : List ℕ) → x ∷ xs ≡ x ∷ ys → xs ≡ ys
after_first x xs ys e = cc

-- terms of one name have one number
pub names_same : (i j : ℕ) → term_name i ≡ term_name j → i ≡ j
unfolding term_name
names_same i j e = numbers_same i j (after_first 116 (numeral 10 i) (numeral 10 j) e)

-- a name is itself
pub own_name : (i : ℕ) → bytes_eq (term_name i) (term_name i) ≡ true
own_name i = (bytes_eq-Decides (term_name i) (term_name i)).1 refl

-- two numbers have two names
pub names_apart : (i j : ℕ) → i ≢ j → bytes_eq (term_name i) (term_name j) ≡ false
names_apart i j apart = by (bytes_eq (term_name i) (term_name j)) refl
  where
    by : (b : Bool) → bytes_eq (term_name i) (term_name j) ≡ b → b ≡ false
    by true e = absurd (apart (names_same i j ((bytes_eq-Decides (term_name i) (term_name j)).0 e)))
    by false e = refl
