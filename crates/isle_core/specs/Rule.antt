-- Elaborated rules, and the environment that definitions give.
use Rattle.std.specs.Prelude.{ℤ, List, Option, ◌==◌, filter}
use Rattle.isle_base.specs.declared.ids.TypeId.{TypeId}
use Rattle.isle_base.specs.declared.ids.TermId.{TermId}
use Rattle.isle_base.specs.declared.ids.RuleId.{RuleId}
use Rattle.isle_base.specs.declared.ids.Sym.{Sym}
use Rattle.isle_core.specs.declared.position.Pos.{Pos}
use Rattle.isle_core.specs.declared.types.Term.{Term}
use Rattle.isle_core.specs.declared.types.TypeEnv.{TypeEnv}
use Rattle.isle_core.specs.Pattern.{Pattern}
use Rattle.isle_core.specs.Expr.{Expr}

-- a condition: the expression's value is matched
pub record IfLet : Type 0 where
  pub lhs : Pattern
  pub rhs : Expr

-- a rule of a term
pub record Rule : Type 0 where
  pub id : RuleId
  pub root_term : TermId
  pub args : List Pattern
  pub iflets : List IfLet
  pub rhs : Expr
  pub prio : ℤ
  pub pos : Pos
  pub name : Option Sym

-- types and constants, terms, rules and converters
pub record Environment : Type 0 where
  pub types : TypeEnv
  pub terms : List Term
  pub rules : List Rule
  pub converters : List (TypeId × TypeId × TermId)

-- the rules of a term, in order
abbrev pub rules_of : Environment → TermId → List Rule
rules_of env term = filter (λ (r : Rule). r.root_term.0 == term.0) env.rules
