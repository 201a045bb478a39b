-- What the typing table judges inside a rule: each part of it where it stands.
use Rattle.std.specs.Prelude.{ℕ, Bool, Option}
use Rattle.isle_core.specs.declared.TypeId.{TypeId}
use Rattle.isle_declarations.specs.Signatures.{Signature}

-- a part of a pattern or of an expression, with the type that is expected there, if one is
pub data Site : Type 0 where
  -- an integer
  IntegerAt : (expected : Option TypeId) → Site
  -- `true` or `false`
  TruthAt : (expected : Option TypeId) → Site
  -- a part that no row looks at: a wildcard, `and` or `let`
  PartAt : Site
  -- a variable in a pattern, also one of `@`, and the type that it was bound at before, if it was
  MetAt : (expected : Option TypeId) (bound : Option (Option TypeId)) → Site
  -- a variable in an expression, and the type that it was bound at, if it was
  UsedAt : (expected : Option TypeId) (bound : Option (Option TypeId)) → Site
  -- a call of this term, if it is there, on so many arguments
  CalledAt : (expected : Option TypeId) (callee : Option Signature) (count : ℕ) → Site
  -- this term in a pattern, if it is there, on so many patterns
  TakenAt : (expected : Option TypeId) (callee : Option Signature) (count : ℕ) → Site
  -- a named constant in a pattern or in an expression, and its type, if it is declared
  ConstantAt : (in_pattern : Bool) (expected found : Option TypeId) → Site
  -- a variable of a `let`, and its type, if it is declared
  BoundAt : (ty : Option TypeId) → Site
