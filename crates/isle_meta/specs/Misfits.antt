-- What the code tells of an instruction's names, and of the instruction beside its format.
use Rattle.std.specs.Prelude.{◌↔◌, List, IsTrue}
use Rattle.isle_meta.specs.declared.clif.Instruction.{Instruction}
use Rattle.isle_meta.specs.declared.clif.InstructionFormat.{InstructionFormat}
use Rattle.isle_meta.specs.declared.instructions.NameFaults.{NameFaults}
use Rattle.isle_meta.specs.declared.misfits.Misfits.{Misfits}
use Rattle.isle_meta.specs.InstructionRow as row

-- just the shapes that the instruction breaks beside this format are told
pub record Compares (m : Misfits) (f : InstructionFormat) (i : Instruction) : Type 0 where
  pub ty : IsTrue m.ty_operand ↔ row.TyOperand f i
  pub values : IsTrue m.value_count ↔ row.ValueCount f i
  pub blocks : IsTrue m.block_count ↔ row.BlockCount f i
  pub raw_blocks : IsTrue m.raw_block_count ↔ row.RawBlockCount f i
  pub imms : IsTrue m.imm_count ↔ row.ImmCount f i
  pub types : IsTrue m.imm_type ↔ row.ImmType f i
  pub varargs : IsTrue m.no_varargs ↔ row.NoVarargs f i

-- so beside its format among these, if it is there
pub record ComparesIn (m : Misfits) (formats : List InstructionFormat) (i : Instruction) : Type 0 where
  pub ty : IsTrue m.ty_operand ↔ row.OfFormat formats i (λ f. row.TyOperand f i)
  pub values : IsTrue m.value_count ↔ row.OfFormat formats i (λ f. row.ValueCount f i)
  pub blocks : IsTrue m.block_count ↔ row.OfFormat formats i (λ f. row.BlockCount f i)
  pub raw_blocks : IsTrue m.raw_block_count ↔ row.OfFormat formats i (λ f. row.RawBlockCount f i)
  pub imms : IsTrue m.imm_count ↔ row.OfFormat formats i (λ f. row.ImmCount f i)
  pub types : IsTrue m.imm_type ↔ row.OfFormat formats i (λ f. row.ImmType f i)
  pub varargs : IsTrue m.no_varargs ↔ row.OfFormat formats i (λ f. row.NoVarargs f i)

-- just the shapes that the names of an instruction break, after these, are told
pub record TellsNames (n : NameFaults) (before : List Instruction) (i : Instruction) : Type 0 where
  pub bad : IsTrue n.bad ↔ row.BadName i
  pub repeated : IsTrue n.repeated ↔ row.RepeatedName before i
  pub reserved : IsTrue n.reserved ↔ row.ReservedName i
