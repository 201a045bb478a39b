-- Values and answers of the types of names.
use Rattle.std.specs.Prelude.{◌≡◌, ℕ, List, [], ◌∷◌, codes, IsTrue, Some}
use Rattle.std.specs.Int.{w128}
use Rattle.std.specs.Int.RustNames.{FitsSigned}
use Rattle.std.specs.List.{AllByRecursion}
use Rattle.isle_core.specs.declared.types.ReturnKind.TheVariants as kind
use Rattle.isle_core.specs.Value.{Value, Truth, Int, Opaque, Variant, Struct, FieldValues, NoField, Field, Answer, Plain, Found, Nothing, Several}
use Rattle.isle_core.specs.HasType.{IsReduced}
use Rattle.isle_printer.specs.Bytes.{same_bytes}
use Rattle.isle_tree.specs.declared.tree.TypeItem.{TypeItem}
use Rattle.isle_spelling.specs.Literal.{type_named}
use Rattle.isle_places.specs.DeclaredTypes.{Asked, These, Anything, Nowhere, takes_opaque, variant_asked, struct_asked}
use Rattle.isle_places.specs.Signatures.{Signature}

-- a value of the type of this name, and fields as a type asks for them: bool and the integer types take their own values, a type that
-- is declared its variants or its struct, another one any opaque number, variant or struct of its name
abbrev mutual
  pub IsNamed : List TypeItem → List ℕ → Value → Type 0
  IsNamed types name (Truth b) = IsTrue (same_bytes (codes "bool") name)
  IsNamed types name (Int ty n) = (type_named name ≡ Some ty) × IsReduced ty n
  IsNamed types name (Opaque ty n) = IsTrue (takes_opaque types name ty) × FitsSigned w128 n
  IsNamed types name (Variant ty variant fs) = AreAsked types (variant_asked types name ty variant) fs
  IsNamed types name (Struct ty fs) = AreAsked types (struct_asked types name ty) fs

  pub AreAsked : List TypeItem → Asked → FieldValues → Type 0
  AreAsked types Nowhere fs = ⊥
  AreAsked types Anything fs = Unit {0}
  AreAsked types (These []) NoField = Unit {0}
  AreAsked types (These (f ∷ more)) (Field name v fs) = IsTrue (same_bytes name f.0) × IsNamed types f.1 v × AreAsked types (These more) fs
  AreAsked types (These []) (Field name v fs) = ⊥
  AreAsked types (These (f ∷ more)) NoField = ⊥

-- as many values as names, each of its type
abbrev pub AreNamed : List TypeItem → List (List ℕ) → List Value → Type 0
AreNamed types [] [] = Unit {0}
AreNamed types (name ∷ names) (v ∷ vs) = IsNamed types name v × AreNamed types names vs
AreNamed types [] (v ∷ vs) = ⊥
AreNamed types (name ∷ names) [] = ⊥

-- an answer of the function's kind, with values of its types; if it answers several times, each time
abbrev pub AnswerFits : List TypeItem → Signature → Answer → Type 0
AnswerFits types s (Plain vs) = (s.kind ≡ kind.Plain) × AreNamed types s.results vs
AnswerFits types s (Found vs) = (s.kind ≡ kind.Option) × AreNamed types s.results vs
AnswerFits types s Nothing = s.kind ≡ kind.Option
AnswerFits types s (Several answers) = (s.kind ≡ kind.Iterator) × AllByRecursion (AreNamed types s.results) answers
