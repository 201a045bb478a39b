-- A target program as a pure tree. What holds no statements is used as contracts see it.
use Rattle.std.specs.Prelude.{ℕ, List, Bool, Option}
use Rattle.isle_core.specs.declared.types.ReturnKind.{ReturnKind}
use Rattle.isle_tree.specs.declared.tree.Ty.{Ty}
use Rattle.isle_tree.specs.declared.tree.TraitFn.{TraitFn}
use Rattle.isle_tree.specs.declared.tree.TypeItem.{TypeItem}
use Rattle.isle_tree.specs.declared.tree.Operand.{Operand}
use Rattle.isle_tree.specs.declared.tree.Read.{Read}
use Rattle.isle_tree.specs.declared.tree.TCall.{TCall}
use Rattle.isle_tree.specs.declared.tree.TExpr.{TExpr}
use Rattle.isle_tree.specs.declared.tree.TPat.{TPat}

-- a statement, the statements of a body, and the arms of a match
mutual
  pub data Stmt : Type 0 where
    Let : (local : ℕ) → TExpr → Stmt
    LetList : (local : ℕ) → TCall → Stmt
    IfEq : Operand → Operand → Body → Stmt
    IfLet : TPat → Read → Body → Stmt
    Match : Read → Arms → Stmt
    Loop : (list item : ℕ) → Body → Stmt
    Return : TExpr → Stmt
    Extend : Read → Stmt
    Overflow : (inside : Bool) → (limit : ℕ) → Stmt
    Log : (term place : List ℕ) → Stmt
    Split : Body → (inside : Bool) → Stmt
    Tail : Option (List ℕ × List ℕ) → Stmt

  pub data Body : Type 0 where
    Done : Body
    Then : Stmt → Body → Body

  pub data Arms : Type 0 where
    NoArm : Arms
    Arm : TPat → Body → Arms → Arms

-- the function of a term
pub record Function : Type 0 where
  pub term : List ℕ
  pub params : List Ty
  pub result : List ℕ
  pub kind : ReturnKind
  pub body : Body

-- a program: its items in order
pub record Program : Type 0 where
  pub allow : Bool
  pub trait_fns : List TraitFn
  pub types : List TypeItem
  pub fns : List Function
