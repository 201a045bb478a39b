-- Each of several arms fits what its match reads where its constraint is met, and binds what is in its places.
use Rattle.std.proofs.Common.{◌≡◌, ℕ, List, [], ◌++◌, Bool, true, false, cond, Option, Some, None, refl, sym, ap, ◌∙◌, subst}
use Rattle.std.specs.Prelude.{option_map}
use Rattle.std.proofs.lemmas.List.{append-nil}
use Rattle.isle_core.specs.Answered.{item_of}
use Rattle.isle_core.specs.declared.BindingId.{BindingId}
use Rattle.isle_core.specs.declared.TypeId.{TypeId}
use Rattle.isle_core.specs.declared.rule_sets.Constraint.{Constraint}
use Rattle.isle_core.specs.declared.rule_sets.Constraint.TheVariants as constraint
use Rattle.isle_core.specs.ArmPlaces.{ArePlacesOf, bound_within}
use Rattle.isle_core.specs.BlockLawful.{Source, AValue, AnOption, IsConstraintOver}
use Rattle.isle_core.specs.Constants.{int_value}
use Rattle.isle_core.specs.ConstraintType.{IsConstraintOf}
use Rattle.isle_core.specs.Path.{at}
use Rattle.isle_core.specs.Rule.{Environment}
use Rattle.isle_core.specs.Setting.{Setting, paths_in}
use Rattle.isle_core.specs.Value.{Value, Truth, Int, Opaque, Variant, Struct}
use Rattle.isle_core.specs.ValueAt.{Held, Optional, Known, a_value, value_at, meets}
use Rattle.isle_tree.specs.declared.tree.TPat.TheVariants as pattern
use Rattle.isle_tree.specs.Run.{Around, Env, value_of, read_value, value_in, constant, are_same}
use Rattle.isle_simulation.specs.Operands.{constant as constant_operand}
use Rattle.isle_simulation.specs.Patterns.{pattern_of}
use Rattle.isle_simulation.proofs.ArmsRun.{FitsBy, IsForm, arm_fits, some_fits}
use Rattle.isle_simulation.proofs.LocalsAgree.{Agree, operand_reads, option_reads, written_reads}
use Rattle.isle_simulation.proofs.PathValues.{Grounds, IsValueAt, constraint_tests, IsConstant}
use Rattle.isle_simulation.proofs.Ready.{IsOptionReady, IsReadyIn}
use Rattle.isle_simulation.proofs.ResultsAt.{IsOptionAt}
use Rattle.isle_simulation.proofs.Written.{written, written_test, written_pattern, written_arm, match_read}

-- ---- what a match reads

-- what is read is what the block has there
abbrev pub ReadsOver : Environment → Source → (h g : Held) → Type 0
ReadsOver env (AValue ty) h g = IsValueAt env h g ty
ReadsOver env (AnOption tys) h g = IsOptionAt env h g tys

pub match_reads : (s : Setting) (u : Around) (bound : List ℕ) (known : Known) (locals : Env) (source : BindingId) (over : Source) (c : Constraint) → Grounds s u → Agree s u bound known locals → IsReadyIn s bound source over → IsConstraintOver s.env c over
    → ReadsOver s.env over (read_value u locals (match_read s bound source c)) (value_at s.env u.meaning u.args known (at (paths_in s) source))
match_reads s u bound known locals source (AValue ty) (constraint.ConstBool val) g a ready is = operand_reads s u bound known locals source ty g a ready
match_reads s u bound known locals source (AValue ty) (constraint.ConstInt val of) g a ready is = operand_reads s u bound known locals source ty g a ready
match_reads s u bound known locals source (AValue ty) (constraint.ConstPrim val) g a ready is = operand_reads s u bound known locals source ty g a ready
match_reads s u bound known locals source (AValue ty) (constraint.Variant of variant) g a ready is = written_reads s u bound known locals true source ty g a ready
match_reads s u bound known locals source (AValue ty) (constraint.Struct of) g a ready is = written_reads s u bound known locals true source ty g a ready
match_reads s u bound known locals source (AValue ty) constraint.Some g a ready is = absurd is
match_reads s u bound known locals source (AnOption tys) constraint.Some g a ready is = option_reads s u bound known locals source tys a ready.bound' ready.path
match_reads s u bound known locals source (AnOption tys) (constraint.ConstBool val) g a ready is = cc
match_reads s u bound known locals source (AnOption tys) (constraint.ConstInt val of) g a ready is = cc
match_reads s u bound known locals source (AnOption tys) (constraint.ConstPrim val) g a ready is = cc
match_reads s u bound known locals source (AnOption tys) (constraint.Variant of variant) g a ready is = cc
match_reads s u bound known locals source (AnOption tys) (constraint.Struct of) g a ready is = cc

-- ---- constants

number_constant : (u : Around) (locals : Env) (v : Value) → constant u.meaning (written (constant_operand v)) ≡ value_in (value_of u locals (written (constant_operand v)))
number_constant u locals (Truth b) = refl
number_constant u locals (Int ty n) = refl
number_constant u locals (Opaque ty n) = refl
number_constant u locals (Variant ty name fields) = refl
number_constant u locals (Struct ty fields) = refl

-- a pattern's constant is what its operand holds
test_constant : (env : Environment) (u : Around) (locals : Env) (c : Constraint) → IsConstant c → constant u.meaning (written_test env c) ≡ value_in (value_of u locals (written_test env c))
test_constant env u locals (constraint.ConstBool val) is = refl
test_constant env u locals (constraint.ConstInt val of) is = number_constant u locals (int_value env of val)
test_constant env u locals (constraint.ConstPrim val) is = refl
test_constant env u locals c is = absurd is

constant_fits : (s : Setting) (u : Around) (bound : List ℕ) (known : Known) (locals : Env) (source : BindingId) (ty : TypeId) (c : Constraint) (places : List (Option BindingId)) (h : Held) → Grounds s u → Agree s u bound known locals
    → IsConstraintOf s.env c ty → IsConstant c → places ≡ [] → (x : IsValueAt s.env h (value_at s.env u.meaning u.args known (at (paths_in s) source)) ty)
    → FitsBy s u bound known locals places (pattern.Const (written_test s.env c)) h (meets s.env u.meaning c (a_value x.v))
constant_fits s u bound known locals source ty c places h g a is constant' none x = by (meets s.env u.meaning c (a_value x.v)) tests
  where
    w : Value
    w = (constraint_tests s.env u c ty g.names g.constants is constant').w

    there : constant u.meaning (written_test s.env c) ≡ Some w
    there = test_constant s.env u locals c constant' ∙ ap value_in ((constraint_tests s.env u c ty g.names g.constants is constant').place locals)

    tests : are_same (value_in h) (constant u.meaning (written_test s.env c)) ≡ meets s.env u.meaning c (a_value x.v)
    tests = ap (λ y. are_same (value_in y) (constant u.meaning (written_test s.env c))) x.run ∙ ap (are_same (Some x.r)) there ∙ (constraint_tests s.env u c ty g.names g.constants is constant').met x.r x.v x.same x.typed

    by : (b : Bool) → are_same (value_in h) (constant u.meaning (written_test s.env c)) ≡ b → FitsBy s u bound known locals places (pattern.Const (written_test s.env c)) h b
    by false e = ap (λ y. cond y (Some []) None) e
    by true e = ([], ap (λ y. cond y (Some []) None) e, subst (λ ps. Agree s u (bound_within bound ps) known (locals ++ [])) (sym none) (subst (Agree s u bound known) (sym (append-nil locals)) a))

-- ---- any arm

option_fits : (s : Setting) (u : Around) (bound : List ℕ) (known : Known) (locals : Env) (source : BindingId) (tys : List TypeId) (places : List (Option BindingId)) (h : Held) → Agree s u bound known locals → IsOptionReady s bound source tys
    → ArePlacesOf s source constraint.Some places → IsOptionAt s.env h (value_at s.env u.meaning u.args known (at (paths_in s) source)) tys
    → FitsBy s u bound known locals places (written_arm s.env constraint.Some places) h (meets s.env u.meaning constraint.Some (value_at s.env u.meaning u.args known (at (paths_in s) source)))
option_fits s u bound known locals source tys places h a ready parts x =
    let p = some_fits s u bound known locals source tys places h a ready.path parts x in
    subst (λ y. FitsBy s u bound known locals places (written_arm s.env constraint.Some places) h (meets s.env u.meaning constraint.Some y)) (sym x.block)
    (subst (λ o. FitsBy s u bound known locals places (written_pattern o) h (meets s.env u.meaning constraint.Some (Optional (option_map item_of x.o)))) (sym p.spelled) p.fits)

-- whether an arm's pattern fits what is read is whether its constraint is met
pub fits_where_met : (s : Setting) (u : Around) (bound : List ℕ) (known : Known) (locals : Env) (source : BindingId) (over : Source) (c : Constraint) (places : List (Option BindingId)) (h : Held) → Grounds s u → Agree s u bound known locals → IsReadyIn s bound source over
    → ReadsOver s.env over h (value_at s.env u.meaning u.args known (at (paths_in s) source)) → IsConstraintOver s.env c over → ArePlacesOf s source c places
    → FitsBy s u bound known locals places (written_arm s.env c places) h (meets s.env u.meaning c (value_at s.env u.meaning u.args known (at (paths_in s) source)))
fits_where_met s u bound known locals source (AValue ty) c places h g a ready x is parts = one c is parts
  where
    met : (d : Constraint) → FitsBy s u bound known locals places (written_arm s.env d places) h (meets s.env u.meaning d (a_value x.v)) → FitsBy s u bound known locals places (written_arm s.env d places) h (meets s.env u.meaning d (value_at s.env u.meaning u.args known (at (paths_in s) source)))
    met d k = subst (λ y. FitsBy s u bound known locals places (written_arm s.env d places) h (meets s.env u.meaning d y)) (sym x.block) k

    form : (d : Constraint) → IsConstraintOf s.env d ty → ArePlacesOf s source d places → IsForm d → FitsBy s u bound known locals places (written_pattern (pattern_of s.env d places)) h (meets s.env u.meaning d (a_value x.v))
    form d is' parts' k =
        let p = arm_fits s u bound known locals source ty d places h g a ready.path is' parts' k x in
        subst (λ o. FitsBy s u bound known locals places (written_pattern o) h (meets s.env u.meaning d (a_value x.v))) (sym p.spelled) p.fits

    one : (d : Constraint) → IsConstraintOf s.env d ty → ArePlacesOf s source d places → FitsBy s u bound known locals places (written_arm s.env d places) h (meets s.env u.meaning d (value_at s.env u.meaning u.args known (at (paths_in s) source)))
    one (constraint.ConstBool val) is' parts' = met (constraint.ConstBool val) (constant_fits s u bound known locals source ty (constraint.ConstBool val) places h g a is' tt parts' x)
    one (constraint.ConstInt val of) is' parts' = met (constraint.ConstInt val of) (constant_fits s u bound known locals source ty (constraint.ConstInt val of) places h g a is' tt parts' x)
    one (constraint.ConstPrim val) is' parts' = met (constraint.ConstPrim val) (constant_fits s u bound known locals source ty (constraint.ConstPrim val) places h g a is' tt parts' x)
    one (constraint.Variant of variant) is' parts' = met (constraint.Variant of variant) (form (constraint.Variant of variant) is' parts' tt)
    one (constraint.Struct of) is' parts' = met (constraint.Struct of) (form (constraint.Struct of) is' parts' tt)
    one constraint.Some is' parts' = absurd is'
fits_where_met s u bound known locals source (AnOption tys) constraint.Some places h g a ready x is parts = option_fits s u bound known locals source tys places h a ready parts x
fits_where_met s u bound known locals source (AnOption tys) (constraint.ConstBool val) places h g a ready x is parts = cc
fits_where_met s u bound known locals source (AnOption tys) (constraint.ConstInt val of) places h g a ready x is parts = cc
fits_where_met s u bound known locals source (AnOption tys) (constraint.ConstPrim val) places h g a ready x is parts = cc
fits_where_met s u bound known locals source (AnOption tys) (constraint.Variant of variant) places h g a ready x is parts = cc
fits_where_met s u bound known locals source (AnOption tys) (constraint.Struct of) places h g a ready x is parts = cc
