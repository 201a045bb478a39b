-- Definitions as pure trees, in the grammar's shape.
use Rattle.std.specs.Prelude.{ℕ, ℤ, List, Bool, Option}
use Rattle.isle_core.specs.declared.position.Pos.{Pos}
use Rattle.isle_ast.specs.declared.tree.AstBody.{AstBody}

-- a pattern
mutual
  pub data Pattern : Type 0 where
    Int : ℤ → Pattern
    Truth : Bool → Pattern
    Const : (name : List ℕ) → Pattern
    Wildcard : Pattern
    Var : (name : List ℕ) → Pattern
    Bind : (name : List ℕ) → Pattern → Pattern
    And : Patterns → Pattern
    Term : (name : List ℕ) → Patterns → Pattern

  -- patterns in order
  pub data Patterns : Type 0 where
    NoPattern : Patterns
    APattern : Pattern → Patterns → Patterns

-- an expression
mutual
  pub data Expr : Type 0 where
    Number : ℤ → Expr
    Fact : Bool → Expr
    Constant : (name : List ℕ) → Expr
    Name : (name : List ℕ) → Expr
    Let : Lets → Expr → Expr
    Call : (name : List ℕ) → Exprs → Expr

  -- expressions in order
  pub data Exprs : Type 0 where
    NoExpr : Exprs
    AnExpr : Expr → Exprs → Exprs

  -- variables with their types and values, in order
  pub data Lets : Type 0 where
    NoLet : Lets
    ALet : (var ty : List ℕ) → Expr → Lets → Lets

-- a condition of a rule
pub record IfLet : Type 0 where
  pub lhs : Pattern
  pub rhs : Expr

-- a definition with its place
pub data Def : Type 0 where
  TypeDecl : (name : List ℕ) (is_extern is_nodebug : Bool) → AstBody → Pos → Def
  Decl : (term : List ℕ) (pure multi partial recursive : Bool) (args : List (List ℕ)) (ret : List ℕ) → Pos → Def
  ExternConstructor : (term func : List ℕ) → Pos → Def
  ExternExtractor : (term func : List ℕ) (infallible : Bool) → Pos → Def
  ExternConst : (name ty : List ℕ) → Pos → Def
  Extractor : (term : List ℕ) (params : List (List ℕ)) → Pattern → Pos → Def
  Converter : (from to term : List ℕ) → Pos → Def
  Rule : (name : Option (List ℕ)) (prio : ℤ) (term : List ℕ) (args : List Pattern) (iflets : List IfLet) → Expr → Pos → Def
  Passed : (head : List ℕ) → Pos → Def
