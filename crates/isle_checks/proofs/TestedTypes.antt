-- The types of the paths that a rule tests, and what it may ask of them.
use Rattle.std.proofs.Common.{◌≡◌, ℕ, ◌+◌, zero, suc, List, [], ◌∷◌, length, Bool, true, false, cond, Option, Some, None, refl, sym, ap, ◌∙◌, subst, arith, ⊎_elim}
use Rattle.std.specs.Prelude.{Contains, IsSomeAnd, option_and_then, option_map, slice_get}
use Rattle.std.proofs.lemmas.List.Elements.{Contains-append_left, Contains-append_right, Contains-append_cases}
use Rattle.isle_core.specs.declared.TypeId.{TypeId}
use Rattle.isle_core.specs.declared.VariantId.{VariantId}
use Rattle.isle_core.specs.declared.rule_sets.Constraint.{Constraint}
use Rattle.isle_core.specs.declared.rule_sets.Constraint.TheVariants as constraint
use Rattle.isle_core.specs.declared.types.BuiltinType.TheVariants as builtin
use Rattle.isle_core.specs.declared.types.TypeDef.{TypeDef}
use Rattle.isle_core.specs.declared.types.TypeDef.TheVariants as def
use Rattle.isle_core.specs.Form.{form, form_types}
use Rattle.isle_core.specs.HasType.{IsOfDef}
use Rattle.isle_core.specs.declared.TermId.{TermId}
use Rattle.isle_core.specs.declared.types.Term.{Term}
use Rattle.isle_core.specs.Calling.{Calling, is_fallible, answers_often, extracting_of, extracting_kind}
use Rattle.isle_core.specs.Opening.{Opening, opening, opening_by, answer_path, result_path, part_path}
use Rattle.isle_core.specs.Making.{Making, MakesVariant, MakesStruct, MakesNothing, making}
use Rattle.isle_core.specs.OccurringConstants.{Constant, Truth, Number, Named, TypedConstant, pattern_constants, patterns_constants, args_constants}
use Rattle.isle_core.specs.Path.{Path, Nowhere, Arg, ConstBool, ConstInt, ConstPrim, Extracted, Called, Chosen, MadeVariant, MadeStruct, VariantField, StructField, Wrapped, Inner, Part}
use Rattle.isle_core.specs.Pattern as pattern
use Rattle.isle_core.specs.Pattern.{Pattern, Patterns, NoPattern, APattern}
use Rattle.isle_core.specs.PatternType.{IsNumericDef, OpensType, arguments_of, part_types, IsPatternOf, ArePartsOf, AreEachOf, ArePatternsOf}
use Rattle.isle_core.specs.Tests.{Is, HasItem, Places, met_tests, met_after, found_tests, opening_tests, tests, parts_tests, each_tests, after, args_tests}
use Rattle.isle_core.specs.Value as value
use Rattle.isle_core.specs.Rule.{Environment}
use Rattle.isle_core.proofs.Contained.{none_contained}
use Rattle.isle_core.specs.Constants.{const_type}
use Rattle.isle_core.specs.NamesApart.{IsPlainDef, AreConstantsPlain}
use Rattle.isle_checks.specs.PlainTypes.{IsPlainType}
use Rattle.isle_checks.proofs.FlatTests.{is_path, is_constraint, met_none}
use Rattle.isle_checks.proofs.PlacedLaws.{only_one}

-- ---- types of paths

-- the type of a field of what is made
abbrev pub field_type : Environment → Making → ℕ → Option TypeId
field_type env mk i = option_and_then (λ tys. slice_get tys i) (option_map (form_types env) (form env mk))

-- the type of the first result, or of the value if there is none
abbrev pub first_type : List TypeId → TypeId → TypeId
first_type [] ty = ty
first_type (of ∷ tys) ty = of

-- the type of an extractor's first result
abbrev pub answer_type : Option Term → Option TypeId
answer_type t = option_map (λ (x : Term). first_type x.arg_tys x.ret_ty) t

-- the type of a result of the extractor whose answer this is
abbrev pub result_type : Environment → ℕ → Path → Option TypeId
result_type env i (Extracted term p) = option_and_then (λ tys. slice_get tys i) (arguments_of (slice_get env.terms term.0))
result_type env i (Inner p) = result_type env i p
result_type env i Nowhere = None
result_type env i (Arg j) = None
result_type env i (ConstBool ty b) = None
result_type env i (ConstInt ty n) = None
result_type env i (ConstPrim name) = None
result_type env i (Called term ps instance) = None
result_type env i (Chosen p) = result_type env i p
result_type env i (MadeVariant ty variant ps) = None
result_type env i (MadeStruct ty ps) = None
result_type env i (VariantField variant j p) = None
result_type env i (StructField j p) = None
result_type env i (Wrapped p) = None
result_type env i (Part part p) = None

-- the type of an argument, a constant, a made value or a field, or of what a call gives, also of an item of it
abbrev pub path_type : Environment → List TypeId → Path → Option TypeId
path_type env tys (Arg i) = slice_get tys i
path_type env tys (VariantField variant i p) = option_and_then (λ ty. field_type env (MakesVariant ty variant) i) (path_type env tys p)
path_type env tys (StructField i p) = option_and_then (λ ty. field_type env (MakesStruct ty) i) (path_type env tys p)
path_type env tys (Extracted term p) = answer_type (slice_get env.terms term.0)
path_type env tys (Inner p) = path_type env tys p
path_type env tys (Part part p) = result_type env part p
path_type env tys Nowhere = None
path_type env tys (ConstBool ty b) = Some ty
path_type env tys (ConstInt ty n) = Some ty
path_type env tys (ConstPrim name) = const_type env name
path_type env tys (Called term ps instance) = option_map (λ (t : Term). t.ret_ty) (slice_get env.terms term.0)
path_type env tys (Chosen p) = path_type env tys p
path_type env tys (MadeVariant ty variant ps) = Some ty
path_type env tys (MadeStruct ty ps) = Some ty
path_type env tys (Wrapped p) = None

-- ---- constraints of types

-- what a constant asks of a value of a type
abbrev pub constant_test : TypeId → Constant → Constraint
constant_test ty (Truth b) = constraint.ConstBool b
constant_test ty (Number n) = constraint.ConstInt n ty
constant_test ty (Named name) = constraint.ConstPrim name

-- a constraint on values of a type: one of these constants, of a builtin or primitive type, what is made of the type, or that there is something
pub data IsOn (env : Environment) (known : List TypedConstant) (ty : TypeId) : Constraint → Type 0 where
  on_constant : (c : Constant) → Contains known (ty, c) → IsPlainType env ty → IsOn env known ty (constant_test ty c)
  on_variant : (variant : VariantId) → IsOn env known ty (constraint.Variant ty variant)
  on_struct : IsOn env known ty (constraint.Struct ty)
  on_some : IsOn env known ty constraint.Some

truths_plain : (env : Environment) (o : Option TypeDef) (b : _) → IsSomeAnd o (λ d. IsOfDef env d (value.Truth b)) → IsSomeAnd o IsPlainDef
truths_plain env None b h = h
truths_plain env (Some (def.Builtin builtin.Bool)) b h = tt
truths_plain env (Some (def.Builtin (builtin.Int ty))) b h = tt
truths_plain env (Some (def.Primitive name rust pos)) b h = tt
truths_plain env (Some (def.Enum name is_extern is_nodebug variants pos)) b h = h
truths_plain env (Some (def.Struct name is_extern is_nodebug fields pos)) b h = h

numbers_plain : (o : Option TypeDef) → IsSomeAnd o IsNumericDef → IsSomeAnd o IsPlainDef
numbers_plain None h = h
numbers_plain (Some (def.Builtin builtin.Bool)) h = tt
numbers_plain (Some (def.Builtin (builtin.Int ty))) h = tt
numbers_plain (Some (def.Primitive name rust pos)) h = tt
numbers_plain (Some (def.Enum name is_extern is_nodebug variants pos)) h = h
numbers_plain (Some (def.Struct name is_extern is_nodebug fields pos)) h = h

-- ---- what a rule tests

pub from_zero : (j : ℕ) → j + 0 ≡ j
from_zero j = omega arith

pub first : (i : ℕ) → 0 + i ≡ i
first i = omega arith

pub next : (j i : ℕ) → suc j + i ≡ j + suc i
next j i = omega arith

module _ (env : Environment) (plain : AreConstantsPlain env) (known : List TypedConstant) (tys : List TypeId) where
  -- a test of a path that has a type, by a constraint on values of the type
  pub record IsTyped (p : Path) (c : Constraint) : Type 0 where
    pub ty : TypeId
    pub is : path_type env tys p ≡ Some ty
    pub on : IsOn env known ty c

  -- these are among the known constants
  abbrev pub AreKnown : List TypedConstant → Type 0
  AreKnown cs = (c : TypedConstant) → Contains cs c → Contains known c

  this_typed : (at p : Path) (ty : TypeId) (c d : Constraint) → path_type env tys at ≡ Some ty → IsOn env known ty c → Is at c ≡ Is p d → IsTyped p d
  this_typed at p ty c d t on e = record { ty = ty; is = subst (λ x. path_type env tys x ≡ Some ty) (is_path at p c d e) t; on = subst (IsOn env known ty) (is_constraint at p c d e) on }

  -- a constant's test
  constant_typed : (at p : Path) (ty : TypeId) (c : Constant) (d : Constraint) → path_type env tys at ≡ Some ty → AreKnown ((ty, c) ∷ []) → IsPlainType env ty → Contains (Is at (constant_test ty c) ∷ []) (Is p d) → IsTyped p d
  constant_typed at p ty c d t k is h = this_typed at p ty (constant_test ty c) d t (on_constant c (k (ty, c) (head (ty, c))) is) (only_one _ _ h)
    where
      head : (x : TypedConstant) → Contains (x ∷ []) x
      head x = (0, omega arith, refl)

  -- the types of the parts
  abbrev pub PartsTyped : Opening → ℕ → Path → Option (List TypeId) → Type 0
  PartsTyped opened i at o = (j : ℕ) (ty : TypeId) → option_and_then (λ ts. slice_get ts j) o ≡ Some ty → path_type env tys (part_path opened (j + i) at) ≡ Some ty

  -- what is found is something of the type; that a list has an item is no constraint
  pub found_typed : (c : Calling) (at p : Path) (d : Constraint) (ty : TypeId) → path_type env tys at ≡ Some ty → Contains (found_tests c at) (Is p d) → IsTyped p d
  found_typed c at p d ty t k = by (answers_often c) (is_fallible c) k
    where
      no_item : (at p : Path) (d : Constraint) → HasItem at ≡ Is p d → ⊥
      no_item at p d e = cc

      by : (often fallible : Bool) → Contains (cond often (HasItem at ∷ []) (cond fallible (Is at constraint.Some ∷ []) [])) (Is p d) → IsTyped p d
      by true fallible l = absurd (no_item at p d (only_one _ _ l))
      by false true l = this_typed at p ty constraint.Some d t on_some (only_one _ _ l)
      by false false l = absurd (none_contained (Is p d) l)

  -- the test of what is taken apart, and the types of its parts
  opened_typed : (mk : Making) (term : TermId) (t : Option Term) (at p : Path) (ty : TypeId) (d : Constraint) → OpensType ty mk t → slice_get env.terms term.0 ≡ t → path_type env tys at ≡ Some ty → Contains (opening_tests (opening_by term mk (extracting_of env t) t) at) (Is p d) → IsTyped p d
  opened_typed (MakesVariant of variant) term t at p ty d is e h k = this_typed at p of (constraint.Variant of variant) d (h ∙ ap Some (sym is)) (on_variant variant) (only_one _ _ k)
  opened_typed (MakesStruct of) term t at p ty d is e h k = this_typed at p of (constraint.Struct of) d (h ∙ ap Some (sym is)) on_struct (only_one _ _ k)
  opened_typed MakesNothing term None at p ty d is e h k = absurd is
  opened_typed MakesNothing term (Some t) at p ty d is e h k = found_typed (extracting_kind env t.kind) (Extracted term at) p d (first_type t.arg_tys t.ret_ty) (ap answer_type e) k

  answer_typed : (c : Calling) (term : TermId) (at : Path) → path_type env tys (answer_path c (Extracted term at)) ≡ answer_type (slice_get env.terms term.0)
  answer_typed c term at = by (answers_often c) (is_fallible c)
    where
      by : (often fallible : Bool) → path_type env tys (cond often (Chosen (Extracted term at)) (cond fallible (Inner (Extracted term at)) (Extracted term at))) ≡ answer_type (slice_get env.terms term.0)
      by true fallible = refl
      by false true = refl
      by false false = refl

  part_of : (c : Calling) (term : TermId) (at : Path) (i : ℕ) → path_type env tys (Part i (answer_path c (Extracted term at))) ≡ option_and_then (λ ts. slice_get ts i) (arguments_of (slice_get env.terms term.0))
  part_of c term at i = by (answers_often c) (is_fallible c)
    where
      by : (often fallible : Bool) → path_type env tys (Part i (cond often (Chosen (Extracted term at)) (cond fallible (Inner (Extracted term at)) (Extracted term at)))) ≡ option_and_then (λ ts. slice_get ts i) (arguments_of (slice_get env.terms term.0))
      by true fallible = refl
      by false true = refl
      by false false = refl

  results_typed : (ts : List TypeId) (ret : TypeId) (c : Calling) (term : TermId) (t : Term) (at : Path) (j : ℕ) (ty : TypeId) → slice_get env.terms term.0 ≡ Some t → t.arg_tys ≡ ts → slice_get ts j ≡ Some ty → path_type env tys (result_path (length ts) j (answer_path c (Extracted term at))) ≡ Some ty
  results_typed [] ret c term t at j ty e is h = cc
  results_typed (of ∷ []) ret c term t at zero ty e is h = answer_typed c term at ∙ ap answer_type e ∙ ap (λ ts. Some (first_type ts t.ret_ty)) is ∙ h
  results_typed (of ∷ []) ret c term t at (suc j) ty e is h = cc
  results_typed (of ∷ (more ∷ ts)) ret c term t at j ty e is h = part_of c term at j ∙ ap (λ o. option_and_then (λ us. slice_get us j) (arguments_of o)) e ∙ ap (λ us. slice_get us j) is ∙ h

  pub parts_of : (mk : Making) (term : TermId) (t : Option Term) (at : Path) (ty : TypeId) → OpensType ty mk t → slice_get env.terms term.0 ≡ t → path_type env tys at ≡ Some ty → PartsTyped (opening_by term mk (extracting_of env t) t) 0 at (part_types env mk t)
  parts_of (MakesVariant of variant) term t at ty is e h j part k =
      ap (λ n. path_type env tys (VariantField variant n at)) (from_zero j) ∙ ap (option_and_then (λ x. field_type env (MakesVariant x variant) j)) (h ∙ ap Some (sym is)) ∙ k
  parts_of (MakesStruct of) term t at ty is e h j part k =
      ap (λ n. path_type env tys (StructField n at)) (from_zero j) ∙ ap (option_and_then (λ x. field_type env (MakesStruct x) j)) (h ∙ ap Some (sym is)) ∙ k
  parts_of MakesNothing term None at ty is e h j part k = absurd is
  parts_of MakesNothing term (Some t) at ty is e h j part k =
      ap (λ n. path_type env tys (result_path (length t.arg_tys) n (answer_path (extracting_kind env t.kind) (Extracted term at)))) (from_zero j) ∙ results_typed t.arg_tys t.ret_ty (extracting_kind env t.kind) term t at j part e refl k

  mutual
    pub pattern_typed : (q : Pattern) (at : Path) (ty : TypeId) (places : Places) (p : Path) (c : Constraint) → IsPatternOf env ty q → path_type env tys at ≡ Some ty → AreKnown (pattern_constants q) → Contains (tests env q at places) (Is p c) → IsTyped p c
    pattern_typed (pattern.Var of x) at ty places p c h t k is = absurd (met_none (places x.0) at p c is)
    pattern_typed (pattern.ConstBool b) at ty places p c h t k is =
        constant_typed at p ty (Truth b) c t (subst (λ x. AreKnown ((x, Truth b) ∷ [])) h.0 k) (truths_plain env (slice_get env.types.types ty.0) b h.1) is
    pattern_typed (pattern.ConstInt of n) at ty places p c h t k is =
        constant_typed at p ty (Number n) c t (subst (λ x. AreKnown ((x, Number n) ∷ [])) h.0 k) (numbers_plain (slice_get env.types.types ty.0) h.2) (subst (λ x. Contains (Is at (constraint.ConstInt n x) ∷ []) (Is p c)) h.0 is)
    pattern_typed (pattern.ConstPrim of name) at ty places p c h t k is =
        constant_typed at p ty (Named name) c t (subst (λ x. AreKnown ((x, Named name) ∷ [])) h.0 k) (plain name ty h.1) is
    pattern_typed (pattern.Wildcard of) at ty places p c h t k is = absurd (none_contained (Is p c) is)
    pattern_typed (pattern.Term of term qs) at ty places p c h t k is =
        ⊎_elim (λ d. opened_typed (making env term) term (slice_get env.terms term.0) at p ty c h.1 refl t d)
        (λ d. parts_typed qs (part_types env (making env term) (slice_get env.terms term.0)) (opening env term) at 0 places p c h.2 (parts_of (making env term) term (slice_get env.terms term.0) at ty h.1 refl t) k d)
        (Contains-append_cases (opening_tests (opening env term) at) (parts_tests env (opening env term) qs 0 at places) (Is p c) is)
    pattern_typed (pattern.BindPattern of x q) at ty places p c h t k is =
        let mid = met_after (places x.0) x.0 at places in
        ⊎_elim (λ d. absurd (met_none (places x.0) at p c d)) (λ d. pattern_typed q at ty mid p c h.1 t k d) (Contains-append_cases (met_tests (places x.0) at) (tests env q at mid) (Is p c) is)
    pattern_typed (pattern.And of qs) at ty places p c h t k is = each_typed qs at ty places p c h.1 t k is

    -- each of several patterns on one path
    each_typed : (qs : Patterns) (at : Path) (ty : TypeId) (places : Places) (p : Path) (c : Constraint) → AreEachOf env ty qs → path_type env tys at ≡ Some ty → AreKnown (patterns_constants qs) → Contains (each_tests env qs at places) (Is p c) → IsTyped p c
    each_typed NoPattern at ty places p c h t k is = absurd (none_contained (Is p c) is)
    each_typed (APattern q qs) at ty places p c h t k is =
        ⊎_elim (λ d. pattern_typed q at ty places p c h.0 t (λ x s. k x (Contains-append_left (pattern_constants q) (patterns_constants qs) x s)) d)
        (λ d. each_typed qs at ty (after env q at places) p c h.1 t (λ x s. k x (Contains-append_right (pattern_constants q) (patterns_constants qs) x s)) d)
        (Contains-append_cases (tests env q at places) (each_tests env qs at (after env q at places)) (Is p c) is)

    -- parts from the i-th on
    parts_typed : (qs : Patterns) (o : Option (List TypeId)) (opened : Opening) (at : Path) (i : ℕ) (places : Places) (p : Path) (c : Constraint) → ArePartsOf env o qs → PartsTyped opened i at o → AreKnown (patterns_constants qs) → Contains (parts_tests env opened qs i at places) (Is p c) → IsTyped p c
    parts_typed NoPattern o opened at i places p c h t k is = absurd (none_contained (Is p c) is)
    parts_typed (APattern q qs) (Some (ty ∷ ts)) opened at i places p c h t k is =
        let f = part_path opened i at in
        ⊎_elim (λ d. pattern_typed q f ty places p c h.0 (subst (λ n. path_type env tys (part_path opened n at) ≡ Some ty) (first i) (t 0 ty refl)) (λ x s. k x (Contains-append_left (pattern_constants q) (patterns_constants qs) x s)) d)
        (λ d. parts_typed qs (Some ts) opened at (suc i) (after env q f places) p c h.1 (λ j of e. subst (λ n. path_type env tys (part_path opened n at) ≡ Some of) (next j i) (t (suc j) of e)) (λ x s. k x (Contains-append_right (pattern_constants q) (patterns_constants qs) x s)) d)
        (Contains-append_cases (tests env q f places) (parts_tests env opened qs (suc i) at (after env q f places)) (Is p c) is)
    parts_typed (APattern q qs) (Some []) opened at i places p c h t k is = absurd h
    parts_typed (APattern q qs) None opened at i places p c h t k is = absurd h

  -- patterns on the arguments from the i-th on
  pub args_typed : (qs : List Pattern) (ts : List TypeId) (i : ℕ) (places : Places) (p : Path) (c : Constraint) → ArePatternsOf env ts qs → ((j : ℕ) → slice_get tys (j + i) ≡ slice_get ts j) → AreKnown (args_constants qs) → Contains (args_tests env qs i places) (Is p c) → IsTyped p c
  args_typed [] ts i places p c h t k is = absurd (none_contained (Is p c) is)
  args_typed (q ∷ qs) (ty ∷ ts) i places p c h t k is =
      ⊎_elim (λ d. pattern_typed q (Arg i) ty places p c h.0 (subst (λ n. slice_get tys n ≡ Some ty) (first i) (t 0)) (λ x s. k x (Contains-append_left (pattern_constants q) (args_constants qs) x s)) d)
      (λ d. args_typed qs ts (suc i) (after env q (Arg i) places) p c h.1 (λ j. subst (λ n. slice_get tys n ≡ slice_get ts j) (next j i) (t (suc j))) (λ x s. k x (Contains-append_right (pattern_constants q) (args_constants qs) x s)) d)
      (Contains-append_cases (tests env q (Arg i) places) (args_tests env qs (suc i) (after env q (Arg i) places)) (Is p c) is)
  args_typed (q ∷ qs) [] i places p c h t k is = absurd h
