-- The names of types, functions, constants and fields are words.
use Rattle.std.proofs.Common.{◌≡◌, ℕ, List, [], ◌∷◌, Bool, true, false, refl, arith}
use Rattle.std.specs.Prelude.{MatchBool}
use Rattle.std.specs.List.{list_all}
use Rattle.std.proofs.lemmas.Bool.{and_parts, and_from}
use Rattle.std.proofs.lemmas.Bool.Decides.{nat_tests}
use Rattle.isle_printer.specs.Token.{is_word_byte, is_word}
use Rattle.isle_spelling.specs.Identifier.{IsIdentifier}
use Rattle.isle_spelling.specs.Names.{is_digit, is_decimal, IsName, IsFieldName}

-- an item
pub identifier_is_word : (name : List ℕ) → IsIdentifier name → is_word name ≡ true
identifier_is_word [] h = absurd (false_not_true h.begins)
  where
    false_not_true : false ≡ true → ⊥
    false_not_true e = cc
identifier_is_word (b ∷ bs) h = h.word

-- a constant, or a unit struct
pub name_is_word : (name : List ℕ) → IsName name → is_word name ≡ true
name_is_word name h = identifier_is_word name h.identifier

digit_in_word : (b : ℕ) → is_digit b ≡ true → is_word_byte b ≡ true
digit_in_word b h = grind (arith, nat_tests)

digits_in_word : (bs : List ℕ) → list_all is_digit bs ≡ true → list_all is_word_byte bs ≡ true
digits_in_word [] h = refl
digits_in_word (b ∷ bs) h =
    let parts = and_parts (is_digit b) _ h in
    and_from _ _ (digit_in_word b parts.0) (digits_in_word bs parts.1)

decimal_is_word : (name : List ℕ) → is_decimal name ≡ true → is_word name ≡ true
decimal_is_word [] h = absurd cc
decimal_is_word (b ∷ []) h = digits_in_word (b ∷ []) (and_from _ _ h refl)
decimal_is_word (b ∷ c ∷ bs) h = digits_in_word (b ∷ c ∷ bs) (and_parts _ _ h).1

-- a field
pub field_is_word : (name : List ℕ) → IsFieldName name → is_word name ≡ true
field_is_word name h = one (is_decimal name) refl h
  where
    one : (b : Bool) → is_decimal name ≡ b → MatchBool b (Unit {0}) (IsIdentifier name) → is_word name ≡ true
    one true e k = decimal_is_word name e
    one false e k = identifier_is_word name k
