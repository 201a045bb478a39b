-- The constraints of a type.
use Rattle.std.specs.Prelude.{◌≡◌, Some, IsSomeAnd}
use Rattle.isle_base.specs.declared.ids.TypeId.{TypeId}
use Rattle.isle_core.specs.declared.rule_sets.Constraint.{Constraint}
use Rattle.isle_core.specs.declared.rule_sets.Constraint.TheVariants as constraint
use Rattle.isle_core.specs.Form.{form}
use Rattle.isle_core.specs.Making.{MakesVariant, MakesStruct}
use Rattle.isle_core.specs.PatternType.{IsNumeric}
use Rattle.isle_core.specs.HasType.{HasType}
use Rattle.isle_core.specs.Value.{Truth}
use Rattle.isle_core.specs.Constants.{int_value, const_type}
use Rattle.isle_core.specs.Rule.{Environment}

-- a constraint on values of a type, with its integer reduced; Some is one of no value
abbrev pub IsConstraintOf : Environment → Constraint → TypeId → Type 0
IsConstraintOf env (constraint.ConstBool val) ty = HasType env (Truth val) ty
IsConstraintOf env (constraint.ConstInt val of) ty = (of ≡ ty) × HasType env (int_value env ty val) ty × IsNumeric env ty
IsConstraintOf env (constraint.ConstPrim val) ty = const_type env val ≡ Some ty
IsConstraintOf env (constraint.Variant of variant) ty = (of ≡ ty) × IsSomeAnd (form env (MakesVariant of variant)) (λ f. Unit {0})
IsConstraintOf env (constraint.Struct of) ty = (of ≡ ty) × IsSomeAnd (form env (MakesStruct of)) (λ f. Unit {0})
IsConstraintOf env constraint.Some ty = ⊥
