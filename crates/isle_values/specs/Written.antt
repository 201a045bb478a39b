-- Values as they are written, as pure trees.
use Rattle.std.specs.Prelude.{ℕ, ℤ, List, Bool}

mutual
  pub data Written : Type 0 where
    Truth : Bool → Written
    -- an integer, before any wrapping
    Number : ℤ → Written
    Made : (name : List ℕ) → Writtens → Written

  -- values in order
  pub data Writtens : Type 0 where
    NoValue : Writtens
    AValue : Written → Writtens → Writtens
