-- What is told of instructions, and the first that isn't supported.
use Rattle.std.proofs.Common.{◌≡◌, ℕ, ◌+◌, ◌<◌, ◌≤◌, List, [], ◌∷◌, ◌++◌, length, get_or, take, Bool, false, Option, Some, None, refl, sym, ap, ◌∙◌, subst}
use Rattle.std.specs.Prelude.{◌↔◌, ◌&&◌, ◌||◌, find, slice_get, IsTrue, IsSomeAnd}
use Rattle.std.specs.BTreeSet.{BTreeSet}
use denote.Ref.{Bor}
use Rattle.isle_lawful_names.specs.NameSet.{HasNames}
use Rattle.isle_lawful_names.proofs.NameSteps.{none_there}
use Rattle.isle_meta.specs.declared.clif.Instruction.{Instruction}
use Rattle.isle_meta.specs.declared.clif.InstructionFormat.{InstructionFormat}
use Rattle.isle_meta.specs.declared.faults.Faults.{Faults}
use Rattle.isle_meta.specs.declared.instructions.NameFaults.{NameFaults}
use Rattle.isle_meta.specs.declared.misfits.Misfits.{Misfits}
use Rattle.isle_meta.specs.declared.shapes.Shape.{Shape}
use Rattle.isle_meta.specs.declared.shapes.Shape.TheVariants.{BadName, RepeatedName, ReservedName, TyOperand, FormatIndex, ValueCount, BlockCount, RawBlockCount, ImmCount, ImmType, ImmShape, NoVarargs, NoTypevar, WrittenImm, AlignedMem, WrittenOperands, ImplicitOperand, AlternateWithoutXmm, BinaryOperands, Results, FieldType}
use Rattle.isle_meta.specs.InstructionRow as row
use Rattle.isle_meta.specs.Misfits.{Compares, ComparesIn, TellsNames}
use Rattle.isle_meta.specs.ClifRows.{InstructionBreaks, IsFirstInstruction}
use Rattle.isle_meta.specs.FirstRow.{shapes, unsupported}
use Rattle.isle_meta.specs.Told.{told, Tells}
use Rattle.isle_meta.proofs.FirstLaws.{no_shape, one_told}
use Rattle.isle_meta.proofs.FirstRows.{LeadsFrom, front_more, leads_begin, leads_end, leads_on, leads_out, never}

-- ---- beside the format

-- what is so of the format that is there is so of the instruction's
found_at : (t : Bool) (formats : List InstructionFormat) (i : Instruction) (f : InstructionFormat) (P : InstructionFormat → Type 0) → Some f ≡ slice_get formats i.format → (IsTrue t ↔ P f) → IsTrue t ↔ row.OfFormat formats i P
found_at t formats i f P e h = subst (λ (o : Option InstructionFormat). IsTrue t ↔ IsSomeAnd o P) e h

pub compares_in : (m : Misfits) (formats : List InstructionFormat) (i : Instruction) (f : InstructionFormat) → Some f ≡ slice_get formats i.format → Compares m f i → ComparesIn m formats i
compares_in m formats i f e c =
    record {
      ty = found_at m.ty_operand formats i f (λ g. row.TyOperand g i) e c.ty;
      values = found_at m.value_count formats i f (λ g. row.ValueCount g i) e c.values;
      blocks = found_at m.block_count formats i f (λ g. row.BlockCount g i) e c.blocks;
      raw_blocks = found_at m.raw_block_count formats i f (λ g. row.RawBlockCount g i) e c.raw_blocks;
      imms = found_at m.imm_count formats i f (λ g. row.ImmCount g i) e c.imms;
      types = found_at m.imm_type formats i f (λ g. row.ImmType g i) e c.types;
      varargs = found_at m.no_varargs formats i f (λ g. row.NoVarargs g i) e c.varargs;
    }

-- without a format nothing is so of it
none_at : (formats : List InstructionFormat) (i : Instruction) (P : InstructionFormat → Type 0) → None ≡ slice_get formats i.format → IsTrue false ↔ row.OfFormat formats i P
none_at formats i P e = subst (λ (o : Option InstructionFormat). IsTrue false ↔ IsSomeAnd o P) e never

pub compares_none : (formats : List InstructionFormat) (i : Instruction) → None ≡ slice_get formats i.format
    → ComparesIn (record { ty_operand = false; value_count = false; block_count = false; raw_block_count = false; imm_count = false; imm_type = false; no_varargs = false }) formats i
compares_none formats i e =
    record {
      ty = none_at formats i (λ g. row.TyOperand g i) e;
      values = none_at formats i (λ g. row.ValueCount g i) e;
      blocks = none_at formats i (λ g. row.BlockCount g i) e;
      raw_blocks = none_at formats i (λ g. row.RawBlockCount g i) e;
      imms = none_at formats i (λ g. row.ImmCount g i) e;
      types = none_at formats i (λ g. row.ImmType g i) e;
      varargs = none_at formats i (λ g. row.NoVarargs g i) e;
    }

-- three tests, each the same as another
pub three_tests : (a b c x y z : Bool) → a ≡ x → b ≡ y → c ≡ z → ((a || b) && c) ≡ ((x || y) && z)
three_tests a b c x y z e f g = rw (e, f, g) refl

-- types beside no fields don't differ
pub differ_none : (ts : List (List ℕ)) → false ≡ row.types_differ ts []
differ_none [] = refl
differ_none (t ∷ ts) = refl

-- ---- an instruction

pub instruction_told : (formats : List InstructionFormat) (before : List Instruction) (i : Instruction) (n : NameFaults) (m : Misfits) (missing : Bool) → TellsNames n before i → ComparesIn m formats i → (IsTrue missing ↔ row.FormatIndex formats i)
    → Tells (record { bad_name = n.bad; repeated_name = n.repeated; reserved_name = n.reserved; ty_operand = m.ty_operand; format_index = missing; value_count = m.value_count; block_count = m.block_count; raw_block_count = m.raw_block_count; imm_count = m.imm_count; imm_type = m.imm_type; imm_shape = false; no_varargs = m.no_varargs; no_typevar = false }) (InstructionBreaks formats before i)
instruction_told formats before i n m missing names c index = record { each = each }
  where
    faults : Faults
    faults = record { bad_name = n.bad; repeated_name = n.repeated; reserved_name = n.reserved; ty_operand = m.ty_operand; format_index = missing; value_count = m.value_count; block_count = m.block_count; raw_block_count = m.raw_block_count; imm_count = m.imm_count; imm_type = m.imm_type; imm_shape = false; no_varargs = m.no_varargs; no_typevar = false }

    each : (s : Shape) → IsTrue (told faults s) ↔ InstructionBreaks formats before i s
    each BadName = names.bad
    each RepeatedName = names.repeated
    each ReservedName = names.reserved
    each TyOperand = c.ty
    each FormatIndex = index
    each ValueCount = c.values
    each BlockCount = c.blocks
    each RawBlockCount = c.raw_blocks
    each ImmCount = c.imms
    each ImmType = c.types
    each ImmShape = never
    each NoVarargs = c.varargs
    each NoTypevar = never
    each WrittenImm = never
    each AlignedMem = never
    each WrittenOperands = never
    each ImplicitOperand = never
    each AlternateWithoutXmm = never
    each BinaryOperands = never
    each Results = never
    each FieldType = never

-- ---- instructions

-- the instructions before this place are known, and what is found from here on is found among all
pub record InstructionsFrom (formats : List InstructionFormat) (is : List Instruction) (k : ℕ) (names camels : BTreeSet (Bor (List ℕ))) : Type 0 where
  pub known : HasNames (row.own_names (take k is)) names
  pub cased : HasNames (row.camel_names (take k is)) camels
  pub leads : LeadsFrom (λ (i : Instruction). i.name) (InstructionBreaks formats) [] is k

pub instructions_begin : (formats : List InstructionFormat) (is : List Instruction) (names camels : BTreeSet (Bor (List ℕ))) → names.keys ≡ [] → camels.keys ≡ [] → InstructionsFrom formats is 0 names camels
instructions_begin formats is names camels e k = record { known = none_there names e; cased = none_there camels k; leads = leads_begin (λ (i : Instruction). i.name) (InstructionBreaks formats) [] is }

names_push : (is : List Instruction) (i : Instruction) → row.own_names (is ++ i ∷ []) ≡ row.own_names is ++ i.name ∷ []
names_push [] i = refl
names_push (g ∷ is) i = ap (λ ys. g.name ∷ ys) (names_push is i)

camels_push : (is : List Instruction) (i : Instruction) → row.camel_names (is ++ i ∷ []) ≡ row.camel_names is ++ i.camel_name ∷ []
camels_push [] i = refl
camels_push (g ∷ is) i = ap (λ ys. g.camel_name ∷ ys) (camels_push is i)

pub instructions_on : (formats : List InstructionFormat) (is : List Instruction) (k : ℕ) (i : Instruction) (faults : Faults) (oldn newn oldc newc : BTreeSet (Bor (List ℕ))) → k < length is → i ≡ get_or is k i
    → Tells faults (InstructionBreaks formats (take k is) i) → None ≡ find (told faults) shapes → HasNames (row.own_names (take k is) ++ i.name ∷ []) newn → HasNames (row.camel_names (take k is) ++ i.camel_name ∷ []) newc
    → InstructionsFrom formats is k oldn oldc → InstructionsFrom formats is (k + 1) newn newc
instructions_on formats is k i faults oldn newn oldc newc lt e t none has cased s =
    let more = front_more (λ (i : Instruction). i.name) (InstructionBreaks formats) [] is k i lt e in
    record {
      known = subst (λ ns. HasNames ns newn) (sym (names_push (take k is) i) ∙ ap row.own_names more) has;
      cased = subst (λ ns. HasNames ns newc) (sym (camels_push (take k is) i) ∙ ap row.camel_names more) cased;
      leads = leads_on (λ (i : Instruction). i.name) (InstructionBreaks formats) [] is k i lt e (no_shape faults (InstructionBreaks formats (take k is) i) t none) s.leads;
    }

pub instructions_out : (formats : List InstructionFormat) (is : List Instruction) (k : ℕ) (i : Instruction) (faults : Faults) (shape : Shape) (names camels : BTreeSet (Bor (List ℕ))) → k < length is → i ≡ get_or is k i
    → Tells faults (InstructionBreaks formats (take k is) i) → Some shape ≡ find (told faults) shapes → InstructionsFrom formats is k names camels → IsFirstInstruction formats is (Some (unsupported i.name shape))
instructions_out formats is k i faults shape names camels lt e t some s =
    leads_out (λ (i : Instruction). i.name) (InstructionBreaks formats) [] is k i shape lt e (one_told faults (InstructionBreaks formats (take k is) i) shape t some) s.leads

pub instructions_end : (formats : List InstructionFormat) (is : List Instruction) (k : ℕ) (names camels : BTreeSet (Bor (List ℕ))) → length is ≤ k → InstructionsFrom formats is k names camels → IsFirstInstruction formats is None
instructions_end formats is k names camels past s = leads_end (λ (i : Instruction). i.name) (InstructionBreaks formats) [] is k past s.leads
