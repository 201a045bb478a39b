-- A word's digits, from the left to the right.
use Rattle.std.proofs.Common.{mul-le-mul_left, ◌⊎◌, inl, inr, ◌≡◌, ℕ, suc, ◌+◌, ◌*◌, ◌^◌, ◌<◌, ◌≤◌, List, [], ◌∷◌, length, drop, get_or, Bool, true, false, not, ◌&&◌, ◌||◌, Option, Some, None, refl, ap, sym, ◌∙◌, arith}
use Rattle.std.specs.Prelude.{◌==◌, nat_lt, if◌then◌else◌, fold}
use Rattle.std.specs.Char.{digit_value}
use Rattle.std.specs.List.{list_all}
use Rattle.std.proofs.lemmas.List.{drop_more, drop_all}
use Rattle.std.proofs.lemmas.Bool.{cases_lt}
use Rattle.std.proofs.lemmas.Bool.Decides.{nat_tests}
use Rattle.isle_lexer.specs.Integer.{plain_digits, spelt_number, number, bounded, grown}

-- goes on if there is a number
abbrev pub onward : Option ℕ → (ℕ → Option ℕ) → Option ℕ
onward None next = None
onward (Some n) next = next n

-- the number that the digits that are left spell after a value; whether there was a digit
abbrev pub scanned : ℕ → List ℕ → ℕ → Bool → Option ℕ
scanned base [] n some = if some then Some n else None
scanned base (b ∷ bs) n some = if b == 95 then scanned base bs n some else onward (grown base n b) (λ m. scanned base bs m true)

-- the same of all of them at once
abbrev spelt : ℕ → Bool → ℕ → List ℕ → Option ℕ
spelt base some n ds = if (some || not (length ds == 0)) && list_all (λ b. nat_lt (digit_value b) base) ds then bounded (Some (fold (λ n b. n * base + digit_value b) n ds)) else None

small : (n : ℕ) → n < 2 ^ 128 → bounded (Some n) ≡ Some n
small n l = let e : nat_lt n (2 ^ 128) ≡ true = grind (arith, nat_tests) in ap (λ t. if t then Some n else None) e

large : (n : ℕ) → 2 ^ 128 ≤ n → bounded (Some n) ≡ None
large n l = let e : nat_lt n (2 ^ 128) ≡ false = grind (arith, nat_tests) in ap (λ t. if t then Some n else None) e

grows : (base n d : ℕ) → 1 ≤ base → n ≤ n * base + d
grows base n d l = omega (arith, mul-le-mul_left n l)

fold-grows : (base n : ℕ) (ds : List ℕ) → 1 ≤ base → n ≤ fold (λ n b. n * base + digit_value b) n ds
fold-grows base n [] l = omega arith
fold-grows base n (d ∷ ds) l = omega (arith, grows base n (digit_value d) l, fold-grows base (n * base + digit_value d) ds l)

some_digit : (n : ℕ) → not (suc n == 0) ≡ true
some_digit n = grind (arith, nat_tests)

scanned_is : (base : ℕ) (bs : List ℕ) (n : ℕ) (some : Bool) → 1 ≤ base → n < 2 ^ 128 → scanned base bs n some ≡ spelt base some n (plain_digits bs)
scanned_is base [] n true b l = sym (small n l)
scanned_is base [] n false b l = refl
scanned_is base (c ∷ bs) n some low l = by (c == 95) (scanned_is base bs n some low l) (λ m k. scanned_is base bs m true low k)
  where
    rest : List ℕ
    rest = plain_digits bs

    all : Bool
    all = list_all (λ b. nat_lt (digit_value b) base) rest

    whole : ℕ → Option ℕ
    whole m = bounded (Some (fold (λ n b. n * base + digit_value b) m rest))

    none : (t : Bool) (m : ℕ) → 2 ^ 128 ≤ m → None ≡ (if t then whole m else None)
    none true m big = sym (large (fold (λ n b. n * base + digit_value b) m rest) (omega (arith, fold-grows base m rest low)))
    none false m big = refl

    fits : (m : ℕ) → ((m : ℕ) → m < 2 ^ 128 → scanned base bs m true ≡ spelt base true m rest) → (m < 2 ^ 128) ⊎ (2 ^ 128 ≤ m) → onward (bounded (Some m)) (λ m. scanned base bs m true) ≡ (if all then whole m else None)
    fits m ih (inl k) = ap (λ o. onward o (λ m. scanned base bs m true)) (small m k) ∙ ih m k
    fits m ih (inr k) = ap (λ o. onward o (λ m. scanned base bs m true)) (large m k) ∙ none all m k

    digit : (some t : Bool) (m : ℕ) → ((m : ℕ) → m < 2 ^ 128 → scanned base bs m true ≡ spelt base true m rest) → onward (if t then bounded (Some m) else None) (λ m. scanned base bs m true) ≡ (if (some || true) && (t && all) then whole m else None)
    digit true true m ih = fits m ih (cases_lt m (2 ^ 128))
    digit false true m ih = fits m ih (cases_lt m (2 ^ 128))
    digit true false m ih = refl
    digit false false m ih = refl

    by : (t : Bool) → scanned base bs n some ≡ spelt base some n rest → ((m : ℕ) → m < 2 ^ 128 → scanned base bs m true ≡ spelt base true m rest)
        → (if t then scanned base bs n some else onward (grown base n c) (λ m. scanned base bs m true)) ≡ spelt base some n (if not t then c ∷ rest else rest)
    by true skip ih = skip
    by false skip ih = digit some (nat_lt (digit_value c) base) (n * base + digit_value c) ih
        ∙ ap (λ t. if (some || t) && (nat_lt (digit_value c) base && all) then whole (n * base + digit_value c) else None) (sym (some_digit (length rest)))

-- what a word's digits spell
pub number_is : (base : ℕ) (bs : List ℕ) → 1 ≤ base → scanned base bs 0 false ≡ bounded (number base bs)
number_is base bs l = scanned_is base bs 0 false l (omega arith) ∙ by (not (length (plain_digits bs) == 0) && list_all (λ b. nat_lt (digit_value b) base) (plain_digits bs)) (spelt_number base (plain_digits bs))
  where
    by : (t : Bool) (m : ℕ) → (if t then bounded (Some m) else None) ≡ bounded (if t then Some m else None)
    by true m = refl
    by false m = refl

-- one byte more
pub scanned-more : (base : ℕ) (bs : List ℕ) (i n : ℕ) (some : Bool) → i < length bs
    → scanned base (drop i bs) n some ≡ (if get_or bs i 0 == 95 then scanned base (drop (i + 1) bs) n some else onward (grown base n (get_or bs i 0)) (λ m. scanned base (drop (i + 1) bs) m true))
scanned-more base bs i n some l = ap (λ ds. scanned base ds n some) (drop_more bs i 0 l)

pub scanned-end : (base : ℕ) (bs : List ℕ) (i n : ℕ) (some : Bool) → length bs ≤ i → scanned base (drop i bs) n some ≡ (if some then Some n else None)
scanned-end base bs i n some l = ap (λ ds. scanned base ds n some) (drop_all i bs l)

-- a byte that is no digit, or one too many
pub scanned-stops : (base : ℕ) (bs : List ℕ) (i n : ℕ) (some : Bool) → i < length bs → (get_or bs i 0 == 95) ≡ false → None ≡ grown base n (get_or bs i 0) → scanned base (drop i bs) n some ≡ None
scanned-stops base bs i n some l e f = scanned-more base bs i n some l ∙ rw (e, ← f) refl
