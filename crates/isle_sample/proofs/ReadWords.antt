-- The words of the sample: its numbers, and the names of its terms.
use Rattle.std.proofs.Common.{◌≡◌, ℕ, zero, suc, ◌<◌, ◌⊎◌, inl, inr, pos, negsuc, List, Bool, true, false, refl, sym, subst, codes, arith}
use Rattle.std.specs.Prelude.{if◌then◌else◌, bytes_eq}
use Rattle.std.specs.List.{list_all}
use Rattle.std.proofs.lemmas.Bool.Decides.{nat_tests}
use Rattle.std.proofs.lemmas.Bool.{cases_eq}
use Rattle.isle_core.specs.Int.{wrapped}
use Rattle.isle_lexer.specs.Token.{is_word_byte}
use Rattle.isle_lexer.specs.Integer.{magnitude, signed_of, int_of}
use Rattle.isle_lexer.specs.Word.{Number, Truth, Underscore, Plain, kind, names, IsName, is_flag}
use Rattle.isle_printer.specs.Number.{numeral, glyph}
use Rattle.isle_printer.proofs.Numerals.{list_all-numeral_by, numeral_not_empty}
use Rattle.isle_sample.specs.Sample.{term_name}
use Rattle.isle_sample.proofs.TextPieces.{IsWord}

-- ---- digits are bytes of a word

glyph_in_word : (d : ℕ) → d < 16 → is_word_byte (glyph d) ≡ true
glyph_in_word d h = grind (arith, nat_tests)

-- a number is a word
pub numeral_word : (n : ℕ) → IsWord (numeral 10 n)
numeral_word n =
    let all : list_all is_word_byte (numeral 10 n) ≡ true =
    list_all-numeral_by is_word_byte 10 n (omega arith) (omega arith) glyph_in_word in
    (numeral_not_empty 10 n (omega arith), all)

-- so is a term's name
pub name_word : (i : ℕ) → IsWord (term_name i)
unfolding term_name
name_word i = let digits : IsWord (numeral 10 i) = numeral_word i in (omega arith, digits.1)

-- ---- a term's name

names_all : (a b c : Bool)
    → names (if a then Underscore else (if b then Truth true else (if c then Truth false else Plain))) ≡ true
names_all true b c = refl
names_all false true c = refl
names_all false false true = refl
names_all false false false = refl

-- it may stand as a name
pub name_is : (i : ℕ) → IsName (term_name i)
unfolding term_name kind
name_is i =
    let name : List ℕ = term_name i in
    names_all (bytes_eq name (codes "_")) (bytes_eq name (codes "true")) (bytes_eq name (codes "false"))

-- it is no flag
pub name_no_flag : (i : ℕ) → is_flag (term_name i) ≡ false
unfolding term_name
name_no_flag i = refl

-- ---- small numbers

-- what holds of each number below a bound
abbrev Below : (P : ℕ → Type 0) → ℕ → Type 0
Below P zero = Unit {0}
Below P (suc n) = P n × Below P n

below_at : (P : ℕ → Type 0) (n k : ℕ) → Below P n → k < n → P k
below_at P zero k h l = absurd (omega (arith, l))
below_at P (suc n) k h l = by (cases_eq k n) (below_at P n k h.1)
  where
    by : (k ≡ n) ⊎ (k ≡ n → ⊥) → (k < n → P k) → P k
    by (inl e) others = subst P (sym e) h.0
    by (inr d) others = others (omega (arith, l, d))

-- the decimal digits of a number spell it
abbrev IsSpelt : ℕ → Type 0
IsSpelt n = kind (numeral 10 n) ≡ Number (pos n)

first_eight : Below IsSpelt 8
unfolding numeral kind int_of signed_of magnitude wrapped
first_eight = (refl, (refl, (refl, (refl, (refl, (refl, (refl, (refl, tt))))))))

small_spelt : Below IsSpelt 16
unfolding numeral kind int_of signed_of magnitude wrapped
small_spelt = (refl, (refl, (refl, (refl, (refl, (refl, (refl, (refl, first_eight))))))))

-- a number below sixteen is read from its digits
pub small_number : (n : ℕ) → n < 16 → kind (numeral 10 n) ≡ Number (pos n)
small_number n l = below_at IsSpelt 16 n small_spelt l

-- what the last rule of a term gives
pub last_number : kind (codes "255") ≡ Number (pos 255)
unfolding kind int_of signed_of magnitude wrapped
last_number = refl

-- its priority
pub last_priority : kind (codes "-1") ≡ Number (negsuc 0)
unfolding kind int_of signed_of magnitude wrapped
last_priority = refl

-- the pattern that fits all
pub wildcard : kind (codes "_") ≡ Underscore
unfolding kind
wildcard = refl

-- the type of arguments and results
pub type_is_name : IsName (codes "u8")
unfolding kind
type_is_name = refl
