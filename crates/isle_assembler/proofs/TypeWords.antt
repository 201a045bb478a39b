-- The types of operands, and the terms of constructors, as words of rule texts.
use Rattle.std.proofs.Common.{ℕ, List, [], ◌∷◌, ◌++◌, map, Bool, true, false, refl, arith, codes}
use Rattle.std.specs.Prelude.{◌&&◌, if◌then◌else◌}
use Rattle.isle_assembler_rows.specs.declared.constructor.Constructor.{Constructor}
use Rattle.isle_assembler_rows.specs.declared.constructor.Constructor.TheVariants.{RetMemorySideEffect, NoReturnSideEffect, RetGpr, RetXmm, RetValueRegs, ProducesFlagsSideEffect, ConsumesFlagsReturnsGpr}
use Rattle.isle_assembler.specs.declared.signature.Signature.{Signature}
use Rattle.isle_assembler.specs.declared.signature.Signature.TheVariants.{Raw, Made, Unaligned}
use Rattle.isle_meta.specs.declared.machine.Inst.{Inst}
use Rattle.isle_meta.specs.declared.machine.Operand.{Operand}
use Rattle.isle_meta.specs.declared.machine.OperandKind.{OperandKind}
use Rattle.isle_meta.specs.declared.machine.OperandKind.TheVariants.{Imm, Reg, FixedReg, RegMem, Mem}
use Rattle.isle_meta.specs.declared.machine.RegClass.{RegClass}
use Rattle.isle_meta.specs.declared.machine.RegClass.TheVariants.{Gpr, Xmm}
use Rattle.isle_printer.specs.Number.{numeral}
use Rattle.isle_writing.specs.Writable.{AreNames, IsPlain, NamesOne}
use Rattle.isle_writing.proofs.Names.{names_one, numeral_plain, plain_joined, word_joined}
use Rattle.isle_assembler_rows.specs.Constructors.{conversion, is_in_memory, place_type, result_type, suffix, temporary}
use Rattle.isle_assembler.specs.Signatures.{class_name, operand_type, param_types, taken, trap_types, type_by, type_in}
use Rattle.isle_meta.proofs.NameWords.{IsTerm, term_from}

-- ---- words that are written out

gpr_named : NamesOne (codes "Gpr")
gpr_named = names_one (codes "Gpr") (omega arith, refl) refl

xmm_named : NamesOne (codes "Xmm")
xmm_named = names_one (codes "Xmm") (omega arith, refl) refl

regs_named : NamesOne (codes "ValueRegs")
regs_named = names_one (codes "ValueRegs") (omega arith, refl) refl

amode_named : NamesOne (codes "SyntheticAmode")
amode_named = names_one (codes "SyntheticAmode") (omega arith, refl) refl

nothing_named : NamesOne (codes "SideEffectNoResult")
nothing_named = names_one (codes "SideEffectNoResult") (omega arith, refl) refl

trap_named : NamesOne (codes "TrapCode")
trap_named = names_one (codes "TrapCode") (omega arith, refl) refl

pub outputs_named : NamesOne (codes "AssemblerOutputs")
outputs_named = names_one (codes "AssemblerOutputs") (omega arith, refl) refl

-- ---- types of operands

class_named : (class : RegClass) → NamesOne (class_name class)
class_named Gpr = gpr_named
class_named Xmm = xmm_named

imm_named : (b : Bool) (n : ℕ) → NamesOne ((if b then codes "i" else codes "u") ++ numeral 10 n)
imm_named true n = names_one (codes "i" ++ numeral 10 n) (word_joined (codes "i") (numeral 10 n) (omega arith, refl) (numeral_plain n)) refl
imm_named false n = names_one (codes "u" ++ numeral 10 n) (word_joined (codes "u") (numeral 10 n) (omega arith, refl) (numeral_plain n)) refl

aligned_plain : (b : Bool) (n : ℕ) → IsPlain (codes "Mem" ++ ((if b then codes "Aligned" else []) ++ numeral 10 n))
aligned_plain true n = plain_joined (codes "MemAligned") (numeral 10 n) refl (numeral_plain n)
aligned_plain false n = plain_joined (codes "Mem") (numeral 10 n) refl (numeral_plain n)

place_word : (class : RegClass) (w : List ℕ) → IsPlain w → NamesOne (class_name class ++ w)
place_word Gpr w h = names_one (codes "Gpr" ++ w) (word_joined (codes "Gpr") w (omega arith, refl) h) refl
place_word Xmm w h = names_one (codes "Xmm" ++ w) (word_joined (codes "Xmm") w (omega arith, refl) h) refl

kind_named : (kind : OperandKind) (keeps : Bool) (o : Operand) → NamesOne (type_by kind keeps o)
kind_named Imm keeps o = imm_named o.sign_extended o.bits
kind_named (Reg class) keeps o = class_named class
kind_named (FixedReg class) keeps o = class_named class
kind_named (RegMem class) keeps o = place_word class _ (aligned_plain (keeps && o.align) o.bits)
kind_named Mem keeps o = amode_named

place_named : (c : Constructor) → NamesOne (place_type c)
place_named RetMemorySideEffect = amode_named
place_named NoReturnSideEffect = gpr_named
place_named RetGpr = gpr_named
place_named RetXmm = xmm_named
place_named RetValueRegs = regs_named
place_named ProducesFlagsSideEffect = gpr_named
place_named ConsumesFlagsReturnsGpr = gpr_named

chosen_named : (b : Bool) (c : Constructor) (keeps : Bool) (o : Operand) → NamesOne (if b then place_type c else operand_type keeps o)
chosen_named true c keeps o = place_named c
chosen_named false c keeps o = kind_named o.kind keeps o

type_named : (s : Signature) (o : Operand) → NamesOne (type_in s o)
type_named Raw o = kind_named o.kind true o
type_named (Made c) o = chosen_named _ c true o
type_named (Unaligned c) o = chosen_named _ c false o

trap_types_named : (b : Bool) → AreNames (trap_types b)
trap_types_named true = (trap_named, tt)
trap_types_named false = tt

types_named : (s : Signature) (os : List Operand) (more : List (List ℕ)) → AreNames more → AreNames (map (type_in s) os ++ more)
types_named s [] more h = h
types_named s (o ∷ os) more h = (type_named s o, types_named s os more h)

-- the types of a term's parameters
pub param_types_named : (s : Signature) (i : Inst) → AreNames (param_types s i)
param_types_named s i = types_named s (taken s i) (trap_types i.has_trap) (trap_types_named i.has_trap)

-- ---- terms of constructors

pub result_named : (c : Constructor) → NamesOne (result_type c)
result_named RetMemorySideEffect = nothing_named
result_named NoReturnSideEffect = nothing_named
result_named RetGpr = gpr_named
result_named RetXmm = xmm_named
result_named RetValueRegs = regs_named
result_named ProducesFlagsSideEffect = names_one (codes "ProducesFlags") (omega arith, refl) refl
result_named ConsumesFlagsReturnsGpr = names_one (codes "ConsumesFlags") (omega arith, refl) refl

defer_term : IsTerm (codes "defer_side_effect")
defer_term = term_from (codes "defer_side_effect") (omega arith, refl) refl refl

pub conversion_term : (c : Constructor) → IsTerm (conversion c)
conversion_term RetMemorySideEffect = defer_term
conversion_term NoReturnSideEffect = defer_term
conversion_term RetGpr = term_from (codes "emit_ret_gpr") (omega arith, refl) refl refl
conversion_term RetXmm = term_from (codes "emit_ret_xmm") (omega arith, refl) refl refl
conversion_term RetValueRegs = term_from (codes "emit_ret_value_regs") (omega arith, refl) refl refl
conversion_term ProducesFlagsSideEffect = term_from (codes "asm_produce_flags_side_effect") (omega arith, refl) refl refl
conversion_term ConsumesFlagsReturnsGpr = term_from (codes "asm_consumes_flags_returns_gpr") (omega arith, refl) refl refl

gpr_term : IsTerm (codes "temp_writable_gpr")
gpr_term = term_from (codes "temp_writable_gpr") (omega arith, refl) refl refl

pub temporary_term : (c : Constructor) → IsTerm (temporary c)
temporary_term RetMemorySideEffect = gpr_term
temporary_term NoReturnSideEffect = gpr_term
temporary_term RetGpr = gpr_term
temporary_term RetXmm = term_from (codes "temp_writable_xmm") (omega arith, refl) refl refl
temporary_term RetValueRegs = gpr_term
temporary_term ProducesFlagsSideEffect = gpr_term
temporary_term ConsumesFlagsReturnsGpr = gpr_term

suffix_by : (b : Bool) → IsPlain (if b then codes "_mem" else [])
suffix_by true = refl
suffix_by false = refl

-- what ends the name of a constructor's term
pub suffix_plain : (c : Constructor) → IsPlain (suffix c)
suffix_plain c = suffix_by (is_in_memory c)
