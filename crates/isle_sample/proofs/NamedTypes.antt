-- The names of builtin types may be emitted.
use Rattle.std.proofs.Common.{◌≡◌, ℕ, List, [], ◌∷◌, map, Bool, true, false, refl, sym, ap, ◌∙◌, subst}
use Rattle.std.specs.Prelude.{◌&&◌, ◌||◌, not, IsTrue, codes}
use Rattle.std.specs.List.{AllByRecursion, IsDistinct, list_all, list_any}
use Rattle.std.specs.Str.{bytes_eq}
use Rattle.std.proofs.lemmas.Bool.{and_parts}
use Rattle.isle_core.specs.declared.types.IntType.TheVariants.{U8, U16, U32, U64, U128, USize}
use Rattle.isle_core.specs.declared.types.IntType.TheVariants.{I8, I16, I32, I64, I128, ISize}
use Rattle.isle_core.specs.declared.types.BuiltinType.{BuiltinType}
use Rattle.isle_core.specs.declared.types.BuiltinType.TheVariants as builtin
use Rattle.isle_core.specs.declared.types.TypeDef.TheVariants as def
use Rattle.isle_core.specs.declared.types.TypeEnv.{TypeEnv}
use Rattle.isle_printer.specs.Token.{is_word_byte}
use Rattle.isle_spelling.specs.Identifier.{begins, used_words, kept_words}
use Rattle.isle_spelling.specs.Names.{is_numbered}
use Rattle.isle_types.specs.Builtins.{builtins}
use Rattle.isle_lawful_names.specs.LawfulNames.{type_words, IsTypeName, IsLawfulType, emitted_name, emitted_names}
use Rattle.isle_lawful_names.specs.LawfulNames.{IsLawfulConstant, IsNoType, AreLawful}

-- ---- each may be emitted

both_false : (b : Bool) → (b && false) ≡ false
both_false true = refl
both_false false = refl

-- a name that passes all tests, one by one
plain_name : (b : Bool) (text : List ℕ) → IsTrue (begins text) → IsTrue (list_all is_word_byte text)
    → list_any (bytes_eq text) used_words ≡ false → list_any (bytes_eq text) kept_words ≡ false
    → is_numbered (codes "v") text ≡ false → is_numbered (codes "arg") text ≡ false
    → list_any (bytes_eq text) type_words ≡ false → bytes_eq text (codes "C") ≡ false → IsTypeName b text
plain_name b text begin word unused free no_local no_arg no_word no_generic = record {
  name = record {
    identifier = record { begins = begin; word = word; unused = unused; free = free };
    no_local = no_local;
    no_arg = no_arg;
  };
  free = no_word;
  generic = ap (λ c. b && c) no_generic ∙ both_false b;
}

-- that of a builtin type does
one_named : (b : Bool) (types : TypeEnv) (ty : BuiltinType) → IsTypeName b (emitted_name types (def.Builtin ty))
one_named b types builtin.Bool = plain_name b (codes "bool") refl refl refl refl refl refl refl refl
one_named b types (builtin.Int U8) = plain_name b (codes "u8") refl refl refl refl refl refl refl refl
one_named b types (builtin.Int U16) = plain_name b (codes "u16") refl refl refl refl refl refl refl refl
one_named b types (builtin.Int U32) = plain_name b (codes "u32") refl refl refl refl refl refl refl refl
one_named b types (builtin.Int U64) = plain_name b (codes "u64") refl refl refl refl refl refl refl refl
one_named b types (builtin.Int U128) = plain_name b (codes "u128") refl refl refl refl refl refl refl refl
one_named b types (builtin.Int USize) = plain_name b (codes "usize") refl refl refl refl refl refl refl refl
one_named b types (builtin.Int I8) = plain_name b (codes "i8") refl refl refl refl refl refl refl refl
one_named b types (builtin.Int I16) = plain_name b (codes "i16") refl refl refl refl refl refl refl refl
one_named b types (builtin.Int I32) = plain_name b (codes "i32") refl refl refl refl refl refl refl refl
one_named b types (builtin.Int I64) = plain_name b (codes "i64") refl refl refl refl refl refl refl refl
one_named b types (builtin.Int I128) = plain_name b (codes "i128") refl refl refl refl refl refl refl refl
one_named b types (builtin.Int ISize) = plain_name b (codes "isize") refl refl refl refl refl refl refl refl

all_named : (b : Bool) (types : TypeEnv) (tys : List BuiltinType)
    → AllByRecursion (IsLawfulType b types) (map def.Builtin tys)
all_named b types [] = tt
all_named b types (ty ∷ tys) = (record { name = one_named b types ty; parts = tt }, all_named b types tys)

-- the builtin types, in order of their numbers
abbrev kinds : List BuiltinType
kinds =
    builtin.Bool ∷ builtin.Int U8 ∷ builtin.Int U16 ∷ builtin.Int U32 ∷ builtin.Int U64 ∷ builtin.Int U128
    ∷ builtin.Int USize ∷ builtin.Int I8 ∷ builtin.Int I16 ∷ builtin.Int I32 ∷ builtin.Int I64 ∷ builtin.Int I128
    ∷ builtin.Int ISize ∷ []

-- ---- no two are equal

-- whether no name stands again after itself
abbrev are_distinct : List (List ℕ) → Bool
are_distinct [] = true
are_distinct (name ∷ names) = not (list_any (bytes_eq name) names) && are_distinct names

none_so : (name : List ℕ) (names : List (List ℕ)) → not (list_any (bytes_eq name) names) ≡ true
    → AllByRecursion (λ y. bytes_eq name y ≡ false) names
none_so name [] e = tt
none_so name (other ∷ names) e = one (bytes_eq name other) refl e (λ f. none_so name names f)
  where
    one : (b : Bool) → bytes_eq name other ≡ b → not (b || list_any (bytes_eq name) names) ≡ true
        → (not (list_any (bytes_eq name) names) ≡ true → AllByRecursion (λ y. bytes_eq name y ≡ false) names)
        → (bytes_eq name other ≡ false) × AllByRecursion (λ y. bytes_eq name y ≡ false) names
    one true is f later = absurd cc
    one false is f later = (is, later f)

distinct_by : (names : List (List ℕ)) → are_distinct names ≡ true → IsDistinct bytes_eq names
unfolding IsDistinct
distinct_by [] e = tt
distinct_by (name ∷ names) e =
    let parts = and_parts (not (list_any (bytes_eq name) names)) (are_distinct names) e in
    (none_so name names parts.0, distinct_by names parts.1)

-- ---- all

-- if all types are the builtin ones, and there are no constants, all their names may be emitted
pub builtins_lawful : (b : Bool) (types : TypeEnv) → types.types ≡ builtins → types.consts ≡ [] → AreLawful b types
builtins_lawful b types are none = record {
  types = subst (AllByRecursion (IsLawfulType b types)) (sym are) (all_named b types kinds);
  constants = subst (AllByRecursion (IsLawfulConstant types)) (sym none) tt;
  apart = record {
    types =
        subst (λ ds. IsDistinct bytes_eq (emitted_names types ds)) (sym are)
        (distinct_by (emitted_names types builtins) refl);
    constants = subst (AllByRecursion (IsNoType types)) (sym none) tt;
  };
}
