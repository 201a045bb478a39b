-- The definitions of instructions can be written.
use Rattle.std.proofs.Common.{◌≡◌, ℕ, zero, suc, List, [], ◌∷◌, ◌++◌, map, Bool, true, false, Option, Some, None, refl, codes, arith}
use Rattle.std.specs.Prelude.{◌||◌, IfSome, slice_get}
use Rattle.std.specs.List.{AllByRecursion}
use Rattle.isle_ast.specs.Tree as tree
use Rattle.isle_ast.specs.Views.{exprs_of, patterns_of}
use Rattle.isle_meta.specs.declared.clif.ClifOperand.{ClifOperand}
use Rattle.isle_meta.specs.declared.clif.Instruction.{Instruction}
use Rattle.isle_meta.specs.declared.clif.InstructionFormat.{InstructionFormat}
use Rattle.isle_spelling.specs.Identifier.{IsIdentifier}
use Rattle.isle_prelude.specs.ClifFiles.{data_expr, data_pattern, declaration, extractor, instruction_defs, making, making_rule, of_format, operand_names, parameters, typed_first, variables}
use Rattle.isle_prelude.specs.Manners.{Manner, by_results, lower_manner, lowered, lowered_typed, opt_manner, optimized, skeleton, type_variable, valued}
use Rattle.isle_prelude.specs.Operands.{operand_type}
use Rattle.isle_writing.specs.Writable.{AreNames, AreWritable, IsWritable, NamesOne}
use Rattle.isle_prelude.proofs.AllLaws.{all_at, all_joined}
use Rattle.isle_prelude.proofs.DataLaws.{IsDataNamed, data_makes, data_takes}
use Rattle.isle_prelude.proofs.FixedNames.{IsHead, head_from, inst_named, type_named, value_named}
use Rattle.isle_prelude.proofs.ManyLaws.{AllMake, AllTake, Makes, Takes, call_makes, name_makes, patterns_shallow, patterns_take, term_takes, variable_takes, variables_take}
use Rattle.isle_meta.proofs.NameWords.{identifiers_named}
use Rattle.isle_prelude.proofs.NameLaws.{term_named}
use Rattle.isle_prelude.proofs.OperandLaws.{operand_types_named}
use Rattle.isle_prelude.proofs.SupportedLaws.{IsNamedFormat, IsNamedInstruction}

-- ---- manners

-- what a manner names can be written
pub record IsManner (m : Manner) : Type 0 where
  pub ret : NamesOne m.ret
  pub taker : IsHead m.taker
  pub in_front : AllTake 2 m.in_front
  pub maker : IfSome m.maker IsHead

ty_identifier : IsIdentifier type_variable
ty_identifier = record { begins = refl; word = refl; unused = refl; free = refl }

value_taker : IsHead (codes "inst_data_value")
value_taker = head_from (codes "inst_data_value") (omega arith, refl) refl refl refl

head_of_make : IsHead (codes "make_inst")
head_of_make = head_from (codes "make_inst") (omega arith, refl) refl refl refl

head_of_skeleton : IsHead (codes "make_skeleton_inst")
head_of_skeleton = head_from (codes "make_skeleton_inst") (omega arith, refl) refl refl refl

valued_manner : IsManner valued
valued_manner = record { ret = value_named; taker = value_taker; in_front = (variable_takes 2 type_variable ty_identifier, tt); maker = head_of_make }

skeleton_manner : IsManner skeleton
skeleton_manner = record { ret = inst_named; taker = head_from (codes "inst_data") (omega arith, refl) refl refl refl; in_front = tt; maker = head_of_skeleton }

lowered_typed_manner : IsManner lowered_typed
lowered_typed_manner = record { ret = inst_named; taker = value_taker; in_front = (variable_takes 2 type_variable ty_identifier, tt); maker = tt }

lowered_manner : IsManner lowered
lowered_manner = record { ret = inst_named; taker = value_taker; in_front = (record { here = tt; shallow = omega arith }, tt); maker = tt }

optimized_manner : (results : ℕ) (has_effects : Bool) → IsManner (optimized results has_effects)
optimized_manner zero has_effects = skeleton_manner
optimized_manner (suc zero) false = valued_manner
optimized_manner (suc zero) true = skeleton_manner
optimized_manner (suc (suc n)) has_effects = skeleton_manner

-- the manners of a file can be written
abbrev pub AreManners : (Bool → Instruction → Option Manner) → Type 0
AreManners manner = (has_list : Bool) (i : Instruction) → IfSome (manner has_list i) IsManner

pub opt_manners : AreManners opt_manner
opt_manners true i = tt
opt_manners false i = optimized_manner i.value_results (i.can_trap || i.other_side_effects)

results_manner : (n : ℕ) → IsManner (by_results n)
results_manner zero = lowered_manner
results_manner (suc n) = lowered_typed_manner

pub lower_manners : AreManners lower_manner
lower_manners true i = lowered_manner
lower_manners false i = results_manner i.value_results

-- ---- an instruction

-- the names of an instruction and of its format
record IsInstruction (f : InstructionFormat) (i : Instruction) : Type 0 where
  name : NamesOne i.name
  data_names : IsDataNamed f i
  operands : AllByRecursion IsIdentifier (operand_names i)
  types : AreNames (map (λ (o : ClifOperand). operand_type o.class) i.operands_in)

parameters_named : (m : Manner) (i : Instruction) → AllByRecursion IsIdentifier (operand_names i) → AllByRecursion IsIdentifier (parameters m i)
parameters_named m i h = one m.is_typed
  where
    one : (b : Bool) → AllByRecursion IsIdentifier (typed_first b type_variable (operand_names i))
    one true = (ty_identifier, h)
    one false = h

types_named : (b : Bool) (names : List (List ℕ)) → AreNames names → AreNames (typed_first b (codes "Type") names)
types_named true names h = (type_named, h)
types_named false names h = h

declaration_writable : (m : Manner) (f : InstructionFormat) (i : Instruction) → IsManner m → IsInstruction f i → IsWritable (declaration m i)
declaration_writable m f i w n = ((n.name, types_named m.is_typed _ n.types, w.ret), omega arith)

extractor_writable : (m : Manner) (f : InstructionFormat) (i : Instruction) → IsManner m → IsInstruction f i → IsWritable (extractor m f i)
extractor_writable m f i w n =
    let whole : Takes 3 (tree.Term m.taker (patterns_of (m.in_front ++ (data_pattern f i ∷ [])))) =
    term_takes 2 m.taker (m.in_front ++ (data_pattern f i ∷ [])) w.taker (all_joined (Takes 2) m.in_front (data_pattern f i ∷ []) w.in_front (data_takes f i n.data_names n.operands, tt)) in
    ((n.name, identifiers_named (parameters m i) (parameters_named m i n.operands), whole.here), omega (arith, whole.shallow))

made : (b : Bool) (f : InstructionFormat) (i : Instruction) → IsInstruction f i → AllMake 2 (typed_first b (tree.Name type_variable) (data_expr f i ∷ []))
made true f i n = (name_makes 2 type_variable ty_identifier, (data_makes f i n.data_names n.operands, tt))
made false f i n = (data_makes f i n.data_names n.operands, tt)

rule_writable : (maker : List ℕ) (m : Manner) (f : InstructionFormat) (i : Instruction) → IsHead maker → IsInstruction f i → IsWritable (making_rule maker m f i)
rule_writable maker m f i h n =
    let args : AllTake 0 (variables (parameters m i)) = variables_take 0 (parameters m i) (parameters_named m i n.operands) in
    let right : Makes 3 (tree.Call maker (exprs_of (typed_first m.is_typed (tree.Name type_variable) (data_expr f i ∷ [])))) = call_makes 2 maker _ h (made m.is_typed f i n) in
    ((tt, omega arith, n.name, patterns_take 0 (variables (parameters m i)) args, tt, right.here), omega (arith, right.shallow, patterns_shallow 0 (variables (parameters m i)) args))

making_writable : (maker : Option (List ℕ)) (m : Manner) (f : InstructionFormat) (i : Instruction) → IfSome maker IsHead → IsInstruction f i
    → AreWritable (making maker m f i)
making_writable None m f i h n = tt
making_writable (Some maker) m f i h n = (rule_writable maker m f i h n, tt)

taken_writable : (o : Option Manner) (f : InstructionFormat) (i : Instruction) → IfSome o IsManner → IsInstruction f i → AreWritable (instruction_defs o f i)
taken_writable None f i w n = tt
taken_writable (Some m) f i w n = (declaration_writable m f i w n, (extractor_writable m f i w n, making_writable m.maker m f i w.maker n))

-- an instruction of supported tables, taken in a manner that can be written
pub instruction_writable : (manner : Bool → Instruction → Option Manner) (formats : List InstructionFormat) (i : Instruction) → AreManners manner
    → AllByRecursion IsNamedFormat formats → IsNamedInstruction formats i
    → AreWritable (of_format manner (slice_get formats i.format) i)
instruction_writable manner formats i w h n = one (slice_get formats i.format) refl
  where
    one : (o : Option InstructionFormat) → slice_get formats i.format ≡ o → AreWritable (of_format manner o i)
    one None e = tt
    one (Some f) e =
        let named : IsNamedFormat f = all_at IsNamedFormat formats i.format f e h in
        let whole : IsInstruction f i =
        record {
          name = term_named i.name n.name;
          data_names = (named.0, n.camel);
          operands = n.operands;
          types = operand_types_named f i named (n.types f e);
        } in
        taken_writable (manner f.has_value_list i) f i (w f.has_value_list i) whole
