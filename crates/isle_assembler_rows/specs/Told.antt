-- What the code tells of an instruction.
use Rattle.std.specs.Prelude.{◌↔◌, List, ◌++◌, Bool, false, not, IsTrue}
use Rattle.std.specs.Option.{option_to_list}
use Rattle.isle_assembler_rows.specs.declared.constructor.Constructor.{Constructor}
use Rattle.isle_assembler_rows.specs.declared.constructors.Chosen.{Chosen}
use Rattle.isle_assembler_rows.specs.declared.faults.Faults.{Faults}
use Rattle.isle_meta.specs.declared.shapes.Shape.{Shape}
use Rattle.isle_meta.specs.declared.shapes.Shape.TheVariants.{BadName, RepeatedName, ReservedName, TyOperand, FormatIndex, ValueCount, BlockCount, RawBlockCount, ImmCount, ImmType, ImmShape, NoVarargs, NoTypevar, WrittenImm, AlignedMem, WrittenOperands, ImplicitOperand, AlternateWithoutXmm, BinaryOperands, Results, FieldType}
use Rattle.isle_assembler_rows.specs.Constructors.{of_memory}

-- the constructors that are chosen, in order
abbrev pub listed : Chosen → List Constructor
listed chosen = option_to_list chosen.outside ++ of_memory (not chosen.in_memory)

-- whether the instruction is told to break the shape
abbrev pub told : Faults → Shape → Bool
told f BadName = f.bad_name
told f RepeatedName = f.repeated_name
told f ReservedName = false
told f TyOperand = false
told f FormatIndex = false
told f ValueCount = false
told f BlockCount = false
told f RawBlockCount = false
told f ImmCount = false
told f ImmType = false
told f ImmShape = false
told f NoVarargs = false
told f NoTypevar = false
told f WrittenImm = f.written_imm
told f AlignedMem = f.aligned_mem
told f WrittenOperands = f.written_operands
told f ImplicitOperand = f.implicit_operand
told f AlternateWithoutXmm = f.alternate_without_xmm
told f BinaryOperands = false
told f Results = false
told f FieldType = false

-- just the shapes that are broken are told
pub record Tells (f : Faults) (Broken : Shape → Type 0) : Type 0 where
  pub each : (shape : Shape) → IsTrue (told f shape) ↔ Broken shape
