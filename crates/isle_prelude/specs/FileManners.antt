-- How files take instructions, as the code says it.
use Rattle.std.specs.Prelude.{ℕ, zero, suc, List, Bool, true, false, ◌||◌, Option, Some, None, codes}
use Rattle.isle_meta.specs.declared.clif.Instruction.{Instruction}
use Rattle.isle_prelude.specs.Manners as manners
use Rattle.isle_prelude.specs.Manners.{lower_manner, opt_manner}
use Rattle.isle_prelude.specs.declared.manners.InstructionFile.{InstructionFile}
use Rattle.isle_prelude.specs.declared.manners.InstructionFile.TheVariants as file
use Rattle.isle_prelude.specs.declared.manners.Manner.{Manner}
use Rattle.isle_prelude.specs.declared.manners.Manner.TheVariants as case

-- what a manner is
abbrev pub manner : Manner → manners.Manner
manner case.Valued = manners.valued
manner case.Skeleton = manners.skeleton
manner case.LoweredTyped = manners.lowered_typed
manner case.Lowered = manners.lowered

-- the manners of a file
abbrev pub file_manner : InstructionFile → Bool → Instruction → Option manners.Manner
file_manner file.Opt = opt_manner
file_manner file.Lower = lower_manner

-- ---- which manner it is

-- in an optimizer, of so many results
abbrev pub optimized_case : ℕ → (has_effects : Bool) → Manner
optimized_case zero has_effects = case.Skeleton
optimized_case (suc zero) false = case.Valued
optimized_case (suc zero) true = case.Skeleton
optimized_case (suc (suc n)) has_effects = case.Skeleton

-- in an optimizer
abbrev pub opt_case : (has_list : Bool) → Instruction → Option Manner
opt_case true i = None
opt_case false i = Some (optimized_case i.value_results (i.can_trap || i.other_side_effects))

-- in lowering, of so many results
abbrev pub lowered_case : ℕ → Manner
lowered_case zero = case.Lowered
lowered_case (suc n) = case.LoweredTyped

-- in lowering
abbrev pub lower_case : (has_list : Bool) → Instruction → Option Manner
lower_case true i = Some case.Lowered
lower_case false i = Some (lowered_case i.value_results)

-- in a file
abbrev pub file_case : InstructionFile → (has_list : Bool) → Instruction → Option Manner
file_case file.Opt = opt_case
file_case file.Lower = lower_case

-- ---- what a manner writes

-- the type of the term
abbrev pub ret_of : Manner → List ℕ
ret_of case.Valued = codes "Value"
ret_of case.Skeleton = codes "Inst"
ret_of case.LoweredTyped = codes "Inst"
ret_of case.Lowered = codes "Inst"

-- whether the first argument is the type of the result
abbrev pub is_typed : Manner → Bool
is_typed case.Valued = true
is_typed case.Skeleton = false
is_typed case.LoweredTyped = true
is_typed case.Lowered = false

-- the extractor of data, and the type of the result
unfoldable pub typed_taker : List ℕ
typed_taker = codes "(inst_data_value ty "

-- the extractor of data, whatever the type
unfoldable pub untyped_taker : List ℕ
untyped_taker = codes "(inst_data_value _ "

-- the extractor of data alone
unfoldable pub plain_taker : List ℕ
plain_taker = codes "(inst_data "

-- what stands in front of the data in an extractor
abbrev pub taking_begin : Manner → List ℕ
taking_begin case.Valued = typed_taker
taking_begin case.Skeleton = plain_taker
taking_begin case.LoweredTyped = typed_taker
taking_begin case.Lowered = untyped_taker

-- the term that makes an instruction of data, and the type of the result
unfoldable pub typed_maker : List ℕ
typed_maker = codes "(make_inst ty "

-- the term that makes an instruction of data alone
unfoldable pub plain_maker : List ℕ
plain_maker = codes "(make_skeleton_inst "

-- what stands in front of the data in the rule that makes an instruction, if there is one
abbrev pub making_begin : Manner → Option (List ℕ)
making_begin case.Valued = Some typed_maker
making_begin case.Skeleton = Some plain_maker
making_begin case.LoweredTyped = None
making_begin case.Lowered = None
