-- The names of constants, which stand after a `$`.
use Rattle.std.proofs.Common.{◌≡◌, ◌≢◌, ℕ, List, [], ◌∷◌, Bool, true, false, refl, ap, sym, ◌∙◌, Option, Some, None}
use Rattle.std.specs.Prelude.{◌==◌, ◌||◌, bytes_eq, codes, drop, slice_index, if◌then◌else◌, ℤ}
use Rattle.std.proofs.lemmas.Bool.Decides.{nat_tests}
use Rattle.std.proofs.Common.{arith}
use Rattle.isle_lexer.specs.Integer.{is_decimal, int_of}
use Rattle.isle_lexer.specs.Word.{WordKind, Truth, Dollar, Underscore, Plain, number_kind, symbol_kind, kind}
use Rattle.isle_grammar.specs.Reading.{constant_of}

-- a word with a `$` in front names what follows it
pub dollar_kind : (w name : List ℕ) → w ≡ 36 ∷ name → constant_of (kind w) ≡ Some name
unfolding kind
dollar_kind w name e = ap (λ z. constant_of (kind z)) e

number_none : (o : Option ℤ) → constant_of (number_kind o) ≡ None
number_none None = refl
number_none (Some n) = refl

symbol_none : (b c d : Bool) → constant_of (if b then Underscore else (if c then Truth true else (if d then Truth false else Plain))) ≡ None
symbol_none true c d = refl
symbol_none false true d = refl
symbol_none false false true = refl
symbol_none false false false = refl

kind_none : (b d : Bool) (o : Option ℤ) (w : List ℕ) → d ≡ false → constant_of (if b then number_kind o else (if d then Dollar (drop 1 w) else symbol_kind w)) ≡ None
kind_none true d o w e = number_none o
kind_none false true o w e = cc
kind_none false false o w e = symbol_none (bytes_eq w (codes "_")) (bytes_eq w (codes "true")) (bytes_eq w (codes "false"))

not_dollar : (w : List ℕ) → ((rest : List ℕ) → w ≢ 36 ∷ rest) → (slice_index w 0 == 36) ≡ false
not_dollar [] h = refl
not_dollar (c ∷ w) h = by (c == 36) refl
  where
    by : (b : Bool) → (c == 36) ≡ b → (c == 36) ≡ false
    by true e = let x : c ≡ 36 = grind (arith, nat_tests) in absurd (h w (ap (λ z. z ∷ w) x))
    by false e = e

-- any other word names none
pub other_kind : (w : List ℕ) → ((rest : List ℕ) → w ≢ 36 ∷ rest) → constant_of (kind w) ≡ None
unfolding kind
other_kind w h = kind_none (is_decimal (slice_index w 0) || (slice_index w 0 == 45)) (slice_index w 0 == 36) (int_of w) w (not_dollar w h)
