-- What the code tells of a row.
use Rattle.std.specs.Prelude.{◌≡◌, ◌↔◌, ℕ, List, Bool, false, map, IsTrue}
use Rattle.isle_meta.specs.declared.pulley.PulleyInst.{PulleyInst}
use Rattle.isle_meta.specs.declared.shapes.Shape.{Shape}
use Rattle.isle_meta.specs.declared.shapes.Shape.TheVariants.{BadName, RepeatedName, ReservedName, TyOperand, FormatIndex, ValueCount, BlockCount, RawBlockCount, ImmCount, ImmType, ImmShape, NoVarargs, NoTypevar, WrittenImm, AlignedMem, WrittenOperands, ImplicitOperand, AlternateWithoutXmm, BinaryOperands, Results, FieldType}
use Rattle.isle_pulley_rows.specs.declared.faults.Faults.{Faults}
use Rattle.isle_pulley_rows.specs.declared.terms.Termed.{Termed}
use Rattle.isle_pulley_rows.specs.PulleyRow.{row_terms}

-- whether the row is told to break the shape
abbrev pub told : Faults → Shape → Bool
told f BadName = f.bad_name
told f RepeatedName = f.repeated_name
told f ReservedName = false
told f TyOperand = false
told f FormatIndex = false
told f ValueCount = false
told f BlockCount = false
told f RawBlockCount = false
told f ImmCount = false
told f ImmType = false
told f ImmShape = false
told f NoVarargs = false
told f NoTypevar = false
told f WrittenImm = false
told f AlignedMem = false
told f WrittenOperands = false
told f ImplicitOperand = false
told f AlternateWithoutXmm = false
told f BinaryOperands = f.binary_operands
told f Results = f.results
told f FieldType = f.field_type

-- just the shapes that are broken are told
pub record Tells (f : Faults) (Broken : Shape → Type 0) : Type 0 where
  pub each : (shape : Shape) → IsTrue (told f shape) ↔ Broken shape

-- a row and its terms
abbrev pub TermsOf : Type 0
TermsOf = PulleyInst × List (List ℕ)

-- what the code has of a row and its terms
abbrev pub as_made : Termed → TermsOf
as_made t = (t.row.now, t.terms)

-- a row and the terms that it has
abbrev pub as_meant : PulleyInst → TermsOf
as_meant row = (row, row_terms row)

-- just these rows, each beside its terms
abbrev pub AreTermed : List Termed → List PulleyInst → Type 0
AreTermed ts rows = map as_made ts ≡ map as_meant rows
