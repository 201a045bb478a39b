-- What a table has where a local is bound last.
use Rattle.std.proofs.Common.{◌≡◌, ℕ, zero, suc, List, [], ◌∷◌, ◌++◌, take, drop, fold, Bool, true, false, Option, Some, None, refl, ap, ◌∙◌, length, arith}
use Rattle.std.specs.Prelude.{◌==◌, slice_get, if◌then◌else◌, zip}
use Rattle.isle_scope.specs.Scope.{last_from, last_place}
use Rattle.isle_scope.specs.Table.{at_place, newest, held}

drop_tail : {A : Type 0} (i : ℕ) (xs : List A) (x : A) (ys : List A) → drop i xs ≡ x ∷ ys → drop (suc i) xs ≡ ys
drop_tail zero [] x ys e = absurd cc
drop_tail zero (z ∷ xs) x ys e = cc
drop_tail (suc i) [] x ys e = absurd cc
drop_tail (suc i) (z ∷ xs) x ys e = drop_tail i xs x ys e

at_drop : {A : Type 0} (i : ℕ) (xs : List A) (x : A) (ys : List A) → drop i xs ≡ x ∷ ys → slice_get xs i ≡ Some x
at_drop zero [] x ys e = absurd cc
at_drop zero (z ∷ xs) x ys e = cc
at_drop (suc i) [] x ys e = absurd cc
at_drop (suc i) (z ∷ xs) x ys e = at_drop i xs x ys e

-- one local further
read_next : {A : Type 0} (xs : List A) (place : ℕ) (known : Option ℕ) (l : ℕ) (x : A) (n : ℕ) → slice_get xs place ≡ Some x
    → at_place xs (if l == n then Some place else known) ≡ newest n (at_place xs known) (l, x)
read_next xs place known l x n e = by (l == n)
  where
    by : (same : Bool) → at_place xs (if same then Some place else known) ≡ (if same then Some x else at_place xs known)
    by true = e
    by false = refl

reads_from : {A : Type 0} (xs : List A) (ls : List ℕ) (rest : List A) (place : ℕ) (known : Option ℕ) (n : ℕ) → drop place xs ≡ rest → length ls ≡ length rest
    → at_place xs (last_from place known ls n) ≡ fold (newest n) (at_place xs known) (zip ls rest)
reads_from xs [] [] place known n e same = refl
reads_from xs [] (x ∷ rest) place known n e same = absurd (omega (arith, same))
reads_from xs (l ∷ ls) [] place known n e same = absurd (omega (arith, same))
reads_from xs (l ∷ ls) (x ∷ rest) place known n e same =
    reads_from xs ls rest (suc place) (if l == n then Some place else known) n (drop_tail place xs x rest e) (omega (arith, same))
    ∙ ap (λ o. fold (newest n) o (zip ls rest)) (read_next xs place known l x n (at_drop place xs x rest e))

-- what stands where a local is bound last is what it holds
pub reads_last : {A : Type 0} (ls : List ℕ) (xs : List A) (n : ℕ) → length ls ≡ length xs → at_place xs (last_place ls n) ≡ held (zip ls xs) n
reads_last ls xs n same = reads_from xs ls xs 0 None n refl same

-- ---- both lists grow and shrink together

-- a binding more
pub zip_more : {A : Type 0} (ls : List ℕ) (xs : List A) (l : ℕ) (x : A) → length ls ≡ length xs → zip (ls ++ l ∷ []) (xs ++ x ∷ []) ≡ zip ls xs ++ (l, x) ∷ []
zip_more [] [] l x same = refl
zip_more [] (y ∷ xs) l x same = absurd (omega (arith, same))
zip_more (k ∷ ls) [] l x same = absurd (omega (arith, same))
zip_more (k ∷ ls) (y ∷ xs) l x same = ap (λ ps. (k, y) ∷ ps) (zip_more ls xs l x (omega (arith, same)))

-- fewer of them
pub zip_take : {A : Type 0} (n : ℕ) (ls : List ℕ) (xs : List A) → zip (take n ls) (take n xs) ≡ take n (zip ls xs)
zip_take zero ls xs = refl
zip_take (suc n) [] xs = refl
zip_take (suc n) (l ∷ ls) [] = refl
zip_take (suc n) (l ∷ ls) (x ∷ xs) = ap (λ ps. (l, x) ∷ ps) (zip_take n ls xs)

-- as many as locals
pub zip_length : {A : Type 0} (ls : List ℕ) (xs : List A) → length ls ≡ length xs → length (zip ls xs) ≡ length ls
zip_length [] xs same = refl
zip_length (l ∷ ls) [] same = absurd (omega (arith, same))
zip_length (l ∷ ls) (x ∷ xs) same = ap suc (zip_length ls xs (omega (arith, same)))
