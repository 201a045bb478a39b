-- Patterns for values of a type.
use Rattle.std.specs.Prelude.{◌≡◌, List, [], ◌∷◌, Option, Some, None, IsSomeAnd, option_map, slice_get}
use Rattle.isle_base.specs.declared.ids.TypeId.{TypeId}
use Rattle.isle_base.specs.declared.ids.VariantId.{VariantId}
use Rattle.isle_core.specs.declared.types.BuiltinType.TheVariants as builtin
use Rattle.isle_core.specs.declared.types.Term.{Term}
use Rattle.isle_core.specs.declared.types.TypeDef.{TypeDef}
use Rattle.isle_core.specs.declared.types.TypeDef.TheVariants as def
use Rattle.isle_core.specs.Constants.{int_value, const_type}
use Rattle.isle_core.specs.Form.{form, form_types, form_name}
use Rattle.isle_core.specs.BuiltRule.{IsExtractorKind}
use Rattle.isle_core.specs.HasType.{HasType}
use Rattle.isle_core.specs.Making.{Making, MakesVariant, MakesStruct, MakesNothing, making}
use Rattle.isle_core.specs.Pattern as pattern
use Rattle.isle_core.specs.Pattern.{Pattern, Patterns, NoPattern, APattern}
use Rattle.isle_core.specs.RightSide.{bool_type}
use Rattle.isle_core.specs.Rule.{Environment, Rule}
use Rattle.isle_core.specs.Value.{Truth}

-- ---- numbers and names

-- an integer type or a primitive one
abbrev pub IsNumericDef : TypeDef → Type 0
IsNumericDef (def.Builtin (builtin.Int ty)) = Unit {0}
IsNumericDef (def.Primitive name rust pos) = Unit {0}
IsNumericDef (def.Builtin builtin.Bool) = ⊥
IsNumericDef (def.Enum name is_extern is_nodebug variants pos) = ⊥
IsNumericDef (def.Struct name is_extern is_nodebug fields pos) = ⊥

-- so of the type of this number
abbrev pub IsNumeric : Environment → TypeId → Type 0
IsNumeric env ty = IsSomeAnd (slice_get env.types.types ty.0) IsNumericDef

-- no two variants of a type have one name
abbrev pub AreVariantsApart : Environment → Type 0
AreVariantsApart env = (ty : TypeId) (v w : VariantId) (name : _) → option_map (form_name env) (form env (MakesVariant ty v)) ≡ Some name → option_map (form_name env) (form env (MakesVariant ty w)) ≡ Some name → v ≡ w

-- ---- patterns

-- the type of what a term makes
abbrev pub IsOfMaking : TypeId → Making → Type 0
IsOfMaking ty (MakesVariant of variant) = of ≡ ty
IsOfMaking ty (MakesStruct of) = of ≡ ty
IsOfMaking ty MakesNothing = ⊥

-- a term that takes values of the type apart: it makes such, or it has an extractor and gives such
abbrev pub OpensType : TypeId → Making → Option Term → Type 0
OpensType ty (MakesVariant of variant) t = of ≡ ty
OpensType ty (MakesStruct of) t = of ≡ ty
OpensType ty MakesNothing t = IsSomeAnd t (λ (x : Term). IsExtractorKind x.kind × (x.ret_ty ≡ ty))

-- the types of a term's arguments
abbrev pub arguments_of : Option Term → Option (List TypeId)
arguments_of t = option_map (λ (x : Term). x.arg_tys) t

-- the types of what it takes them apart into: the fields of what it makes, or the results of its extractor
abbrev pub part_types : Environment → Making → Option Term → Option (List TypeId)
part_types env (MakesVariant ty variant) t = option_map (form_types env) (form env (MakesVariant ty variant))
part_types env (MakesStruct ty) t = option_map (form_types env) (form env (MakesStruct ty))
part_types env MakesNothing t = arguments_of t

-- a pattern for values of the type: a constant is one of them or declared as one, and a term has a pattern for each field of what it makes, or for each result of its extractor
abbrev mutual
  pub IsPatternOf : Environment → TypeId → Pattern → Type 0
  IsPatternOf env ty (pattern.Var of x) = of ≡ ty
  IsPatternOf env ty (pattern.ConstBool b) = (bool_type ≡ ty) × HasType env (Truth b) ty
  IsPatternOf env ty (pattern.ConstInt of n) = (of ≡ ty) × HasType env (int_value env ty n) ty × IsNumeric env ty
  IsPatternOf env ty (pattern.ConstPrim of name) = (of ≡ ty) × (const_type env name ≡ Some ty)
  IsPatternOf env ty (pattern.Wildcard of) = of ≡ ty
  IsPatternOf env ty (pattern.Term of term ps) = (of ≡ ty) × OpensType ty (making env term) (slice_get env.terms term.0) × ArePartsOf env (part_types env (making env term) (slice_get env.terms term.0)) ps
  IsPatternOf env ty (pattern.BindPattern of x p) = (of ≡ ty) × IsPatternOf env ty p
  IsPatternOf env ty (pattern.And of ps) = (of ≡ ty) × AreEachOf env ty ps

  -- as many patterns as types, each for values of its type
  pub ArePartsOf : Environment → Option (List TypeId) → Patterns → Type 0
  ArePartsOf env (Some []) NoPattern = Unit {0}
  ArePartsOf env (Some (ty ∷ tys)) (APattern p ps) = IsPatternOf env ty p × ArePartsOf env (Some tys) ps
  ArePartsOf env (Some []) (APattern p ps) = ⊥
  ArePartsOf env (Some (ty ∷ tys)) NoPattern = ⊥
  ArePartsOf env None ps = ⊥

  -- each for values of one type
  pub AreEachOf : Environment → TypeId → Patterns → Type 0
  AreEachOf env ty NoPattern = Unit {0}
  AreEachOf env ty (APattern p ps) = IsPatternOf env ty p × AreEachOf env ty ps

-- so of the patterns of arguments
abbrev pub ArePatternsOf : Environment → List TypeId → List Pattern → Type 0
ArePatternsOf env [] [] = Unit {0}
ArePatternsOf env (ty ∷ tys) (p ∷ ps) = IsPatternOf env ty p × ArePatternsOf env tys ps
ArePatternsOf env [] (p ∷ ps) = ⊥
ArePatternsOf env (ty ∷ tys) [] = ⊥

-- so of a rule of a term
abbrev pub FitsTerm : Environment → Term → Rule → Type 0
FitsTerm env t r = ArePatternsOf env t.arg_tys r.args
