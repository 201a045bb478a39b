-- Patterns as they are written, which use templates, for values of a type.
use Rattle.std.specs.Prelude.{◌≡◌, ℕ, List, [], ◌∷◌, Option, Some, None, IsSomeAnd, Contains, slice_get}
use Rattle.isle_base.specs.declared.ids.TypeId.{TypeId}
use Rattle.isle_base.specs.declared.ids.TermId.{TermId}
use Rattle.isle_core.specs.declared.types.Term.{Term}
use Rattle.isle_core.specs.Constants.{int_value, const_type}
use Rattle.isle_core.specs.HasType.{HasType}
use Rattle.isle_core.specs.Making.{making}
use Rattle.isle_core.specs.Pattern as pattern
use Rattle.isle_core.specs.Pattern.{Pattern, Patterns, NoPattern, APattern}
use Rattle.isle_core.specs.PatternType.{IsNumeric, IsPatternOf, OpensType, arguments_of, part_types}
use Rattle.isle_core.specs.RightSide.{bool_type}
use Rattle.isle_core.specs.Rule.{Environment}
use Rattle.isle_core.specs.TypedVariables.{typed_variables}
use Rattle.isle_core.specs.Value.{Truth}
use Rattle.isle_templates.specs.Substituted.{template_of}

-- a term that takes values of the type apart, by its template if it has one
abbrev pub Opens : Environment → Option Pattern → TypeId → TermId → Type 0
Opens env None ty term = OpensType ty (making env term) (slice_get env.terms term.0)
Opens env (Some template) ty term = IsSomeAnd (slice_get env.terms term.0) (λ (x : Term). x.ret_ty ≡ ty)

-- the types of what it takes them apart into: by a template, those of its parameters
abbrev pub opened_types : Environment → Option Pattern → TermId → Option (List TypeId)
opened_types env None term = part_types env (making env term) (slice_get env.terms term.0)
opened_types env (Some template) term = arguments_of (slice_get env.terms term.0)

-- a pattern for values of the type, which may use templates
abbrev mutual
  pub IsWrittenOf : Environment → List (Option Pattern) → TypeId → Pattern → Type 0
  IsWrittenOf env templates ty (pattern.Var of x) = of ≡ ty
  IsWrittenOf env templates ty (pattern.ConstBool b) = (bool_type ≡ ty) × HasType env (Truth b) ty
  IsWrittenOf env templates ty (pattern.ConstInt of n) = (of ≡ ty) × HasType env (int_value env ty n) ty × IsNumeric env ty
  IsWrittenOf env templates ty (pattern.ConstPrim of name) = (of ≡ ty) × (const_type env name ≡ Some ty)
  IsWrittenOf env templates ty (pattern.Wildcard of) = of ≡ ty
  IsWrittenOf env templates ty (pattern.Term of term ps) = (of ≡ ty) × Opens env (template_of templates term) ty term × AreWrittenPartsOf env templates (opened_types env (template_of templates term) term) ps
  IsWrittenOf env templates ty (pattern.BindPattern of x p) = (of ≡ ty) × IsWrittenOf env templates ty p
  IsWrittenOf env templates ty (pattern.And of ps) = (of ≡ ty) × AreWrittenEachOf env templates ty ps

  -- as many patterns as types, each for values of its type
  pub AreWrittenPartsOf : Environment → List (Option Pattern) → Option (List TypeId) → Patterns → Type 0
  AreWrittenPartsOf env templates (Some []) NoPattern = Unit {0}
  AreWrittenPartsOf env templates (Some (ty ∷ tys)) (APattern p ps) = IsWrittenOf env templates ty p × AreWrittenPartsOf env templates (Some tys) ps
  AreWrittenPartsOf env templates (Some []) (APattern p ps) = ⊥
  AreWrittenPartsOf env templates (Some (ty ∷ tys)) NoPattern = ⊥
  AreWrittenPartsOf env templates None ps = ⊥

  -- each for values of one type
  pub AreWrittenEachOf : Environment → List (Option Pattern) → TypeId → Patterns → Type 0
  AreWrittenEachOf env templates ty NoPattern = Unit {0}
  AreWrittenEachOf env templates ty (APattern p ps) = IsWrittenOf env templates ty p × AreWrittenEachOf env templates ty ps

-- a template of a term, with no other template in it: a pattern for what the term gives, and each parameter stands where its argument's type is
pub record IsTemplateOf (env : Environment) (t : Term) (template : Pattern) : Type 0 where
  pub whole : IsPatternOf env t.ret_ty template
  pub params : (ty : TypeId) (i : ℕ) → Contains (typed_variables template) (ty, i) → slice_get t.arg_tys i ≡ Some ty

-- each is one of its term
abbrev pub AreTemplates : Environment → List (Option Pattern) → Type 0
AreTemplates env templates = (term : TermId) (t : Term) (template : Pattern) → slice_get env.terms term.0 ≡ Some t → template_of templates term ≡ Some template → IsTemplateOf env t template

-- a template as it is written, which may use others; each parameter stands in it
pub record IsWrittenTemplate (env : Environment) (templates : List (Option Pattern)) (t : Term) (template : Pattern) : Type 0 where
  pub whole : IsWrittenOf env templates t.ret_ty template
  pub params : (ty : TypeId) (i : ℕ) → Contains (typed_variables template) (ty, i) → slice_get t.arg_tys i ≡ Some ty
  pub occurs : (ty : TypeId) (i : ℕ) → slice_get t.arg_tys i ≡ Some ty → Contains (typed_variables template) (ty, i)

-- each is one of its term
abbrev pub AreWrittenTemplates : Environment → List (Option Pattern) → Type 0
AreWrittenTemplates env templates = (term : TermId) (t : Term) (template : Pattern) → slice_get env.terms term.0 ≡ Some t → template_of templates term ≡ Some template → IsWrittenTemplate env templates t template
