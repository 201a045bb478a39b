-- The types of expressions, and conditions over variables of types.
use Rattle.std.specs.Prelude.{◌≡◌, ℕ, List, [], ◌∷◌, ◌++◌, Bool, true, false, not, Some, IsTrue, IsSomeAnd, Contains, option_map, slice_get}
use Rattle.isle_base.specs.declared.ids.TypeId.{TypeId}
use Rattle.isle_core.specs.declared.types.Term.{Term}
use Rattle.isle_core.specs.declared.types.TermKind.{TermKind}
use Rattle.isle_core.specs.declared.types.TermKind.TheVariants as kind
use Rattle.isle_core.specs.declared.types.ConstructorKind.TheVariants as constructor
use Rattle.isle_core.specs.Expr as expr
use Rattle.isle_core.specs.Expr.{Expr, Exprs, NoExpr, AnExpr, LetBindings, NoBinding, ABinding}
use Rattle.isle_core.specs.Constants.{int_value, const_type}
use Rattle.isle_core.specs.Form.{form, form_types}
use Rattle.isle_core.specs.HasType.{HasType}
use Rattle.isle_core.specs.Making.{Making, MakesVariant, MakesStruct}
use Rattle.isle_core.specs.PatternType.{IsNumeric, IsPatternOf}
use Rattle.isle_core.specs.RightSide.{bool_type}
use Rattle.isle_core.specs.Rule.{IfLet, Environment}
use Rattle.isle_core.specs.TypedVariables.{typed_variables, let_variables, IsNew}
use Rattle.isle_core.specs.Value.{Truth}

-- ---- terms

-- which calls an expression may make: such that may answer nothing, and impure ones
pub record Allowed : Type 0 where
  pub nothing : Bool
  pub impure : Bool

-- those of a condition
abbrev pub in_condition : Allowed
in_condition = record { nothing = true; impure = false }

-- those of a right side
abbrev pub in_right_side : (nothing : Bool) → Allowed
in_right_side nothing = record { nothing = nothing; impure = true }

-- what a term makes has this type, and has these for its fields
abbrev pub IsMadeOf : Environment → Term → TypeId → Making → Type 0
IsMadeOf env t ty made = (ty ≡ t.ret_ty) × (option_map (form_types env) (form env made) ≡ Some t.arg_tys)

-- a term of this kind makes a value of a type, or has a constructor; it may answer nothing, or be impure, only where
-- that is allowed
abbrev pub IsTermKind : Environment → (allowed : Allowed) → Term → TermKind → Type 0
IsTermKind env allowed t (kind.Decl pure multi partial recursive (constructor.External func) extractor) = (IsTrue partial → IsTrue allowed.nothing) × (IsTrue (not pure) → IsTrue allowed.impure)
IsTermKind env allowed t (kind.Decl pure multi partial recursive constructor.Internal extractor) = (IsTrue partial → IsTrue allowed.nothing) × (IsTrue (not pure) → IsTrue allowed.impure)
IsTermKind env allowed t (kind.Variant ty variant) = IsMadeOf env t ty (MakesVariant ty variant)
IsTermKind env allowed t (kind.Struct ty) = IsMadeOf env t ty (MakesStruct ty)
IsTermKind env allowed t (kind.Decl pure multi partial recursive constructor.Absent extractor) = ⊥

-- ---- expressions

-- an expression of the type over these variables: a constant is one of its values or declared as one, a term gives the type, on
-- expressions of its types, and a `let` has the type of its inner expression
abbrev mutual
  pub IsExprOf : Environment → (allowed : Allowed) → List (TypeId × ℕ) → TypeId → Expr → Type 0
  IsExprOf env allowed vars ty (expr.Var of x) = (of ≡ ty) × Contains vars (ty, x.0)
  IsExprOf env allowed vars ty (expr.ConstBool b) = (bool_type ≡ ty) × HasType env (Truth b) ty
  IsExprOf env allowed vars ty (expr.ConstInt of n) = (of ≡ ty) × HasType env (int_value env ty n) ty × IsNumeric env ty
  IsExprOf env allowed vars ty (expr.ConstPrim of name) = (of ≡ ty) × (const_type env name ≡ Some ty)
  IsExprOf env allowed vars ty (expr.Term of term es) =
      (of ≡ ty) × IsSomeAnd (slice_get env.terms term.0) (λ (c : Term). IsTermKind env allowed c c.kind × (c.ret_ty ≡ ty) × AreExprsOf env allowed vars c.arg_tys es)
  IsExprOf env allowed vars ty (expr.Let of bindings inner) = (of ≡ ty) × AreBindingsOf env allowed vars bindings × IsExprOf env allowed (let_variables vars bindings) ty inner

  -- as many expressions as types, each of its type
  pub AreExprsOf : Environment → (allowed : Allowed) → List (TypeId × ℕ) → List TypeId → Exprs → Type 0
  AreExprsOf env allowed vars [] NoExpr = Unit {0}
  AreExprsOf env allowed vars (ty ∷ tys) (AnExpr e es) = IsExprOf env allowed vars ty e × AreExprsOf env allowed vars tys es
  AreExprsOf env allowed vars [] (AnExpr e es) = ⊥
  AreExprsOf env allowed vars (ty ∷ tys) NoExpr = ⊥

  -- each value of a `let` has the type of its variable, over those before it, and each variable has a new number
  pub AreBindingsOf : Environment → (allowed : Allowed) → List (TypeId × ℕ) → LetBindings → Type 0
  AreBindingsOf env allowed vars NoBinding = Unit {0}
  AreBindingsOf env allowed vars (ABinding x ty e bindings) = IsNew vars x.0 × IsExprOf env allowed vars ty e × AreBindingsOf env allowed ((ty, x.0) ∷ vars) bindings

-- ---- conditions

-- a condition over these variables: its expression, whose calls are pure, and its pattern have one type
pub record IsIfLetOf (env : Environment) (vars : List (TypeId × ℕ)) (c : IfLet) : Type 0 where
  pub ty : TypeId
  pub rhs : IsExprOf env in_condition vars ty c.rhs
  pub lhs : IsPatternOf env ty c.lhs

-- conditions in order, each over the variables of those before
abbrev pub AreIfLetsOf : Environment → List (TypeId × ℕ) → List IfLet → Type 0
AreIfLetsOf env vars [] = Unit {0}
AreIfLetsOf env vars (c ∷ cs) = IsIfLetOf env vars c × AreIfLetsOf env (vars ++ typed_variables c.lhs) cs
