-- Elaborated patterns as pure trees.
use Rattle.std.specs.Prelude.{ℤ, Bool}
use Rattle.isle_base.specs.declared.ids.TypeId.{TypeId}
use Rattle.isle_base.specs.declared.ids.TermId.{TermId}
use Rattle.isle_base.specs.declared.ids.VarId.{VarId}
use Rattle.isle_base.specs.declared.ids.Sym.{Sym}

-- a pattern of a type
mutual
  pub data Pattern : Type 0 where
    BindPattern : TypeId → VarId → Pattern → Pattern
    Var : TypeId → VarId → Pattern
    ConstBool : Bool → Pattern
    ConstInt : TypeId → ℤ → Pattern
    ConstPrim : TypeId → Sym → Pattern
    Term : TypeId → TermId → Patterns → Pattern
    Wildcard : TypeId → Pattern
    And : TypeId → Patterns → Pattern

  -- patterns in order
  pub data Patterns : Type 0 where
    NoPattern : Patterns
    APattern : Pattern → Patterns → Patterns
