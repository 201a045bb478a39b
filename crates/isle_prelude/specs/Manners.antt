-- How a file takes an instruction apart, and makes it.
use Rattle.std.specs.Prelude.{ℕ, zero, suc, List, [], ◌∷◌, Option, Some, None, Bool, true, false, ◌||◌, codes}
use Rattle.isle_ast.specs.Tree.{Pattern}
use Rattle.isle_ast.specs.Tree as tree
use Rattle.isle_meta.specs.declared.clif.Instruction.{Instruction}

-- the type of an instruction's term; whether its first argument is the type of its result; the extractor of its data, with the patterns in
-- front of the data; and the term that makes it of its data, if there is one
pub record Manner : Type 0 where
  pub ret : List ℕ
  pub is_typed : Bool
  pub taker : List ℕ
  pub in_front : List Pattern
  pub maker : Option (List ℕ)

-- the variable that stands for the type of an instruction's result
abbrev pub type_variable : List ℕ
type_variable = codes "ty"

-- an instruction with one result and no effect beside it
abbrev pub valued : Manner
valued = record {
  ret = codes "Value";
  is_typed = true;
  taker = codes "inst_data_value";
  in_front = tree.Var type_variable ∷ [];
  maker = Some (codes "make_inst");
}

-- another one, in an optimizer
abbrev pub skeleton : Manner
skeleton = record {
  ret = codes "Inst";
  is_typed = false;
  taker = codes "inst_data";
  in_front = [];
  maker = Some (codes "make_skeleton_inst");
}

-- one that is lowered, with results of a type
abbrev pub lowered_typed : Manner
lowered_typed = record {
  ret = codes "Inst";
  is_typed = true;
  taker = codes "inst_data_value";
  in_front = tree.Var type_variable ∷ [];
  maker = None;
}

-- one that is lowered, whatever its results
abbrev pub lowered : Manner
lowered = record {
  ret = codes "Inst";
  is_typed = false;
  taker = codes "inst_data_value";
  in_front = tree.Wildcard ∷ [];
  maker = None;
}

-- an instruction of so many results, by whether it does anything beside giving them
abbrev pub optimized : (results : ℕ) (has_effects : Bool) → Manner
optimized zero has_effects = skeleton
optimized (suc zero) false = valued
optimized (suc zero) true = skeleton
optimized (suc (suc n)) has_effects = skeleton

-- in an optimizer: instructions with a list of values are left out
abbrev pub opt_manner : (has_list : Bool) → Instruction → Option Manner
opt_manner true i = None
opt_manner false i = Some (optimized i.value_results (i.can_trap || i.other_side_effects))

-- in lowering, one without a list of values, by its number of results
abbrev pub by_results : ℕ → Manner
by_results zero = lowered
by_results (suc n) = lowered_typed

-- in lowering
abbrev pub lower_manner : (has_list : Bool) → Instruction → Option Manner
lower_manner true i = Some lowered
lower_manner false i = Some (by_results i.value_results)
