-- Elaborated expressions as pure trees.
use Rattle.std.specs.Prelude.{ℤ, Bool}
use Rattle.isle_base.specs.declared.ids.TypeId.{TypeId}
use Rattle.isle_base.specs.declared.ids.TermId.{TermId}
use Rattle.isle_base.specs.declared.ids.VarId.{VarId}
use Rattle.isle_base.specs.declared.ids.Sym.{Sym}

-- an expression of a type
mutual
  pub data Expr : Type 0 where
    Term : TypeId → TermId → Exprs → Expr
    Var : TypeId → VarId → Expr
    ConstBool : Bool → Expr
    ConstInt : TypeId → ℤ → Expr
    ConstPrim : TypeId → Sym → Expr
    Let : TypeId → LetBindings → Expr → Expr

  -- expressions in order
  pub data Exprs : Type 0 where
    NoExpr : Exprs
    AnExpr : Expr → Exprs → Exprs

  -- variables with their types and values, in order
  pub data LetBindings : Type 0 where
    NoBinding : LetBindings
    ABinding : VarId → TypeId → Expr → LetBindings → LetBindings
