-- What the code tells of a row.
use Rattle.std.specs.Prelude.{◌↔◌, ℕ, List, Bool, false, Option, option_map, IsTrue}
use denote.Ref.{Bor}
use Rattle.isle_meta.specs.declared.errors.Unsupported.{Unsupported}
use Rattle.isle_meta.specs.declared.faults.Faults.{Faults}
use Rattle.isle_meta.specs.declared.shapes.Shape.{Shape}
use Rattle.isle_meta.specs.declared.shapes.Shape.TheVariants.{BadName, RepeatedName, ReservedName, TyOperand, FormatIndex, ValueCount, BlockCount, RawBlockCount, ImmCount, ImmType, ImmShape, NoVarargs, NoTypevar, WrittenImm, AlignedMem, WrittenOperands, ImplicitOperand, AlternateWithoutXmm, BinaryOperands, Results, FieldType}

-- whether the row is told to break the shape
abbrev pub told : Faults → Shape → Bool
told f BadName = f.bad_name
told f RepeatedName = f.repeated_name
told f ReservedName = f.reserved_name
told f TyOperand = f.ty_operand
told f FormatIndex = f.format_index
told f ValueCount = f.value_count
told f BlockCount = f.block_count
told f RawBlockCount = f.raw_block_count
told f ImmCount = f.imm_count
told f ImmType = f.imm_type
told f ImmShape = f.imm_shape
told f NoVarargs = f.no_varargs
told f NoTypevar = f.no_typevar
told f WrittenImm = false
told f AlignedMem = false
told f WrittenOperands = false
told f ImplicitOperand = false
told f AlternateWithoutXmm = false
told f BinaryOperands = false
told f Results = false
told f FieldType = false

-- just the shapes that are broken are told
pub record Tells (f : Faults) (Broken : Shape → Type 0) : Type 0 where
  pub each : (shape : Shape) → IsTrue (told f shape) ↔ Broken shape

-- a row as it is found: its name, and its shape
abbrev pub Found : Type 0
Found = Option (Bor (List ℕ) × Shape)

-- the same as a record
abbrev pub found_row : Found → Option Unsupported
found_row found = option_map (λ (f : Bor (List ℕ) × Shape). record { row = f.0.now; shape = f.1 }) found
