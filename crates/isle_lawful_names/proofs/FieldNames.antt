-- The names of fields: identifiers, and the numbers of a tuple's.
use Rattle.std.proofs.Common.{◌≡◌, ℕ, zero, suc, ◌+◌, ◌<◌, ◌≤◌, ◌^◌, List, [], ◌∷◌, length, get_or, Bool, true, false, refl, sym, ap, subst, arith}
use Rattle.std.specs.Prelude.{MatchBool, ◌&&◌, not, ◌==◌}
use Rattle.std.specs.Fmt.{decimal}
use Rattle.std.specs.List.{AllByRecursion, list_all}
use Rattle.std.specs.Str.Parse.{AllDigits}
use Rattle.std.specs.Char.{digit_value}
use Rattle.std.proofs.lemmas.Bool.Decides.{nat_tests}
use Rattle.std.proofs.lemmas.Str.Parse.{digit_from_value}
use Rattle.std.proofs.lemmas.Fmt.{decimal_digit, decimal_is_IsNumeral, first_decimal}
use Rattle.isle_core.specs.declared.TypeId.{TypeId}
use Rattle.isle_core.specs.declared.types.Field.{Field}
use Rattle.isle_core.specs.declared.types.Fields.{Fields}
use Rattle.isle_core.specs.declared.types.Fields.TheVariants as fields
use Rattle.isle_core.specs.HasType.{tuple_fields, typed_fields}
use Rattle.isle_core.specs.Rule.{Environment}
use Rattle.isle_spelling.specs.Identifier.{IsIdentifier}
use Rattle.isle_spelling.specs.Names.{is_digit, is_decimal, IsFieldName}
use Rattle.isle_lawful_names.specs.LawfulNames.{IsFieldNamed, AreFieldsNamed}
use Rattle.isle_core.specs.TypedParts.{field_types}

-- ---- numbers

digit_is : (d : ℕ) → digit_value d < 10 → is_digit d ≡ true
digit_is d h = let r = digit_from_value d h in grind (arith, nat_tests)

digits_are : (ds : List ℕ) → AllDigits 10 ds → list_all is_digit ds ≡ true
digits_are [] h = refl
digits_are (d ∷ ds) h = rw (digit_is d h.0) (digits_are ds h.1)

not_zero : (d : ℕ) → 48 < d → not (d == 48) ≡ true
not_zero d h = grind (arith, nat_tests)

both : {a b : Bool} → a ≡ true → b ≡ true → (a && b) ≡ true
both {a} {b} h k = rw (h, k) refl

digits_number : (ds : List ℕ) → AllDigits 10 ds → 0 < length ds → 48 < get_or ds 0 0 → is_decimal ds ≡ true
digits_number [] h some first = absurd (omega (arith, some))
digits_number (d ∷ []) h some first = digit_is d h.0
digits_number (d ∷ e ∷ ds) h some first = both (not_zero d first) (digits_are (d ∷ e ∷ ds) h)

number_is : (n : ℕ) → n < 2 ^ 64 → is_decimal (decimal n) ≡ true
number_is zero small = ap is_decimal (decimal_digit 0 (omega arith))
number_is (suc n) small =
    let k = decimal_is_IsNumeral (suc n) small in
    digits_number (decimal (suc n)) k.0.1 k.0.0 (first_decimal (suc n) (omega arith) small)

-- ---- names of fields

pub number_named : (n : ℕ) → n < 2 ^ 64 → IsFieldName (decimal n)
number_named n small = subst (λ b. MatchBool b (Unit {0}) (IsIdentifier (decimal n))) (sym (number_is n small)) tt

pub identifier_named : (name : List ℕ) → IsIdentifier name → IsFieldName name
identifier_named name h = one (is_decimal name)
  where
    one : (b : Bool) → MatchBool b (Unit {0}) (IsIdentifier name)
    one true = tt
    one false = h

-- the name of a field with its type
abbrev IsTypedName : List ℕ × TypeId → Type 0
IsTypedName f = IsFieldName f.0

tuple_named : (i : ℕ) (tys : List TypeId) → i + length tys ≤ 256 → AllByRecursion IsTypedName (tuple_fields i tys)
tuple_named i [] few = tt
tuple_named i (ty ∷ tys) few = (number_named i (omega arith), tuple_named (suc i) tys (omega arith))

named : (env : Environment) (fs : List Field) → AllByRecursion (IsFieldNamed env.types) fs → AllByRecursion IsTypedName (typed_fields env (fields.Struct fs))
named env [] h = tt
named env (f ∷ fs) h = (identifier_named _ h.0, named env fs h.1)

-- the names of the fields of a variant or a struct
pub fields_named : (env : Environment) (fs : Fields) → AreFieldsNamed env.types fs → length (field_types fs) ≤ 256 → AllByRecursion IsTypedName (typed_fields env fs)
fields_named env fields.Unit h few = tt
fields_named env (fields.Struct fs) h few = named env fs h
fields_named env (fields.Tuple tys) h few = tuple_named 0 tys (omega arith)
