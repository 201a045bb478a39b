-- Which names rows of formats and instructions may have, and which repeat.
use Rattle.std.specs.Prelude.{◌≡◌, ℕ, ◌-◌, List, [], ◌∷◌, ◌++◌, length, take, drop, Bool, true, false, ◌&&◌, ◌||◌, is_some, map, IsTrue, codes}
use Rattle.std.specs.List.{list_all, list_any}
use Rattle.std.specs.Str.{bytes_eq}
use denote.Ref.{Bor}
use Rattle.isle_printer.specs.Token.{is_word_byte}
use Rattle.isle_lawful_names.specs.LawfulNames.{IsTypeName}
use Rattle.isle_spelling.specs.Identifier.{begins}
use Rattle.isle_spelling.specs.Literal.{type_named}
use Rattle.isle_spelling.specs.Names.{is_numbered}
use Rattle.isle_numerics.specs.Definitions.{numeric_terms}

-- what contracts see of borrowed names
abbrev pub texts : List (Bor (List ℕ)) → List (List ℕ)
texts names = map (λ (name : Bor (List ℕ)). name.now) names

-- ---- names that repeat

-- whether the name is among these
abbrev pub is_among : List ℕ → List (List ℕ) → Bool
is_among name names = list_any (bytes_eq name) names

-- whether one of the names repeats one before it, or an earlier one
abbrev pub repeats_after : (earlier : List (List ℕ)) → List (List ℕ) → Bool
repeats_after earlier [] = false
repeats_after earlier (name ∷ names) = is_among name earlier || repeats_after (earlier ++ name ∷ []) names

-- whether a name stands among these twice
abbrev pub repeats : List (List ℕ) → Bool
repeats names = repeats_after [] names

-- ---- types of immediates

-- the types that the preludes give to something else
abbrev pub prelude_types : List (List ℕ)
prelude_types =
    codes "Type" ∷ codes "Value" ∷ codes "Inst" ∷ codes "ValueList" ∷ codes "ValueSlice" ∷ codes "BlockCall"
    ∷ codes "Block" ∷ codes "Opcode" ∷ codes "InstructionData" ∷ codes "MemFlagsData" ∷ []

-- whether it is a builtin type: bool, or one of integers
abbrev pub is_builtin : List ℕ → Bool
is_builtin name = bytes_eq name (codes "bool") || is_some (type_named name)

-- a type that immediates may have: a text in which terms have rules may declare it, it is no builtin type, the preludes give it to nothing
-- else, and it is no array of so many values or blocks
pub record IsImmediateType (name : List ℕ) : Type 0 where
  pub declared : IsTypeName true name
  pub own : is_builtin name ≡ false
  pub free : is_among name prelude_types ≡ false
  pub no_values : is_numbered (codes "ValueArray") name ≡ false
  pub no_blocks : is_numbered (codes "BlockArray") name ≡ false

-- ---- terms of instructions

-- the texts of letters, digits and _ that no term may have for a name
abbrev pub no_terms : List (List ℕ)
no_terms = codes "_" ∷ codes "true" ∷ codes "false" ∷ []

-- a name that stands for a term alone: letters, digits and _ that don't begin with a digit; it may be a word that Rust keeps, but not `true`
-- or `false`
pub record IsTermName (name : List ℕ) : Type 0 where
  pub begins : IsTrue (begins name)
  pub word : IsTrue (list_all is_word_byte name)
  pub free : is_among name no_terms ≡ false

-- the words of patterns, and the terms of the written preludes
abbrev pub prelude_terms : List (List ℕ)
prelude_terms =
    codes "and" ∷ codes "let" ∷ codes "make_inst" ∷ codes "make_skeleton_inst" ∷ codes "inst_data_value" ∷ codes "inst_data" ∷ []

-- whether it makes an array of so many values in a right side
abbrev pub is_array_constructor : List ℕ → Bool
is_array_constructor name = bytes_eq (drop (length name - 5) name) (codes "_ctor") && is_numbered (codes "value_array_") (take (length name - 5) name)

-- whether it makes or takes apart an array of so many values or blocks
abbrev pub is_array_term : List ℕ → Bool
is_array_term name = is_numbered (codes "value_array_") name || is_numbered (codes "block_array_") name || is_array_constructor name

-- whether the preludes give the term to something else
abbrev pub is_reserved_term : List ℕ → Bool
is_reserved_term name = is_among name prelude_terms || is_among name numeric_terms || is_array_term name
