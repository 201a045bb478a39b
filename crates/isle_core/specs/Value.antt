-- Values of a run, and what calls answer, as pure trees.
use Rattle.std.specs.Prelude.{ℕ, ℤ, List, Bool}
use Rattle.isle_core.specs.declared.types.IntType.{IntType}
use Rattle.isle_core.specs.declared.values.Callee.{Callee}

-- a value: a truth, an integer, an opaque number of a type, or what a variant or struct makes
mutual
  pub data Value : Type 0 where
    Truth : Bool → Value
    Int : IntType → ℤ → Value
    Opaque : (ty : List ℕ) → ℤ → Value
    Variant : (ty variant : List ℕ) → FieldValues → Value
    Struct : (ty : List ℕ) → FieldValues → Value

  -- the fields in order, with their names
  pub data FieldValues : Type 0 where
    NoField : FieldValues
    Field : (name : List ℕ) → Value → FieldValues → FieldValues

-- what a call answers: its results, those of an option, nothing, or the results of each item
pub data Answer : Type 0 where
  Plain : List Value → Answer
  Found : List Value → Answer
  Nothing : Answer
  Several : List (List Value) → Answer

-- a call that was made
pub record Made : Type 0 where
  pub callee : Callee
  pub args : List Value

-- how a run ends
pub data End : Type 0 where
  Gives : Value → End
  GivesSome : Value → End
  GivesNone : End
  IsUnreachable : End
  GivesList : List Value → End

-- how a run ends, and the calls made in order
pub record Ran : Type 0 where
  pub end : End
  pub calls : List Made
