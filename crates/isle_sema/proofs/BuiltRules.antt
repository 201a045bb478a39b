-- What typed rules are: built, in scope, on built terms, and of their term's types.
use Rattle.std.proofs.Common.{◌≡◌, ℕ, suc, ◌≤◌, List, [], ◌∷◌, ◌++◌, false, length, Option, Some, None, refl, sym, ap, ◌∙◌, subst, arith}
use Rattle.std.specs.Prelude.{All, option_map, slice_get}
use Rattle.std.specs.List.{AllByRecursion}
use Rattle.std.proofs.lemmas.List.{length-map}
use Rattle.std.proofs.lemmas.List.Elements.{All-from_recursion}
use Rattle.std.proofs.lemmas.Option.{same_Some}
use Rattle.isle_core.specs.declared.TermId.{TermId}
use Rattle.isle_core.specs.declared.TypeId.{TypeId}
use Rattle.isle_core.specs.declared.types.Fields.{Fields}
use Rattle.isle_core.specs.declared.types.Fields.TheVariants as fields
use Rattle.isle_core.specs.declared.types.Field.{Field}
use Rattle.isle_core.specs.declared.types.Term.{Term}
use Rattle.isle_core.specs.declared.types.TermKind.{TermKind}
use Rattle.isle_core.specs.declared.types.TermKind.TheVariants as kind
use Rattle.isle_core.specs.BuiltRule.{IsOpening, count, IsBuiltPattern, AreBuiltPatterns, IsBuiltIfLet, IsBuiltRule, CallsBuiltTerms}
use Rattle.isle_core.specs.CalledTerms.{is_made_kind}
use Rattle.isle_core.specs.Calling.{kind_of, may_be_nothing}
use Rattle.isle_core.specs.Form.{Form, form, form_types}
use Rattle.isle_core.specs.HasType.{tuple_fields, typed_fields}
use Rattle.isle_core.specs.Making.{Making, MakesVariant, MakesStruct, MakesNothing, making_kind, making_of, making}
use Rattle.isle_core.specs.Pattern as pattern
use Rattle.isle_core.specs.Pattern.{Pattern, Patterns, NoPattern, APattern}
use Rattle.isle_core.specs.PatternType.{OpensType, part_types, IsPatternOf, ArePartsOf, AreEachOf, ArePatternsOf}
use Rattle.isle_core.specs.Rule.{IfLet, Rule, Environment, rules_of}
use Rattle.isle_core.specs.Scope.{IsScopedRule}
use Rattle.isle_core.specs.ExprType.{in_condition, in_right_side, AreIfLetsOf}
use Rattle.isle_core.specs.TypedVariables.{typed_variables, rule_typed, HaveOneType}
use Rattle.isle_core.specs.TypedParts.{field_types}
use Rattle.isle_core.specs.Served.{IsTested}
use Rattle.isle_ast.specs.Tree.{Def}
use Rattle.isle_types.proofs.SoundTypes.{form_sound}
use Rattle.isle_sema.specs.Typing.{Typed}
use Rattle.isle_sema.proofs.TypedParts.{given_in}
use Rattle.isle_sema.proofs.TypedRules.{typed_rules, typed_of}
use Rattle.isle_sema.proofs.TypedSides.{built_expr, scoped_rule, built_terms, pure_terms}
use Rattle.isle_sema.proofs.TypedTerms.{typed_few}

-- ---- at most 256 parts

tuple_count : (i : ℕ) (tys : List TypeId) → length (tuple_fields i tys) ≡ length tys
tuple_count i [] = refl
tuple_count i (ty ∷ tys) = ap suc (tuple_count (suc i) tys)

fields_count : (env : Environment) (fs : Fields) → length (typed_fields env fs) ≡ length (field_types fs)
fields_count env fields.Unit = refl
fields_count env (fields.Struct named) = length-map named _ ∙ sym (length-map named (λ (f : Field). f.ty))
fields_count env (fields.Tuple tys) = tuple_count 0 tys

-- each form has few fields, and each term that no type makes few arguments
record HasFewParts (env : Environment) : Type 0 where
  forms : (mk : Making) (f : Form) → form env mk ≡ Some f → length (form_types env f) ≤ 256
  terms : (i : ℕ) (t : Term) → slice_get env.terms i ≡ Some t → is_made_kind t.kind ≡ false → length t.arg_tys ≤ 256

few_forms : (defs : List Def) (env : Environment) → Typed defs env → (mk : Making) (f : Form) → form env mk ≡ Some f → length (form_types env f) ≤ 256
few_forms defs env h mk f at =
    let g = given_in h in
    let few = (form_sound defs env mk f g.types g.types_kept at).typed.few in
    let long = length-map (typed_fields env f.fields) (λ (x : List ℕ × TypeId). x.1) in
    let same = fields_count env f.fields in
    omega (arith, few, long, same)

few_parts : (defs : List Def) (env : Environment) → Typed defs env → HasFewParts env
few_parts defs env h = record { forms = few_forms defs env h; terms = λ i t at other. typed_few defs env i t h at other }

unmade : (k : TermKind) → making_kind k ≡ MakesNothing → is_made_kind k ≡ false
unmade (kind.Decl pure multi partial recursive by x) e = refl
unmade (kind.Variant ty variant) e = absurd cc
unmade (kind.Struct ty) e = absurd cc

form_few : (env : Environment) (mk : Making) (o : Option Form) (tys : List TypeId) → HasFewParts env → form env mk ≡ o → option_map (form_types env) o ≡ Some tys → length tys ≤ 256
form_few env mk None tys few at e = absurd cc
form_few env mk (Some f) tys few at e = subst (λ xs. length xs ≤ 256) (same_Some (form_types env f) tys e) (few.forms mk f at)

-- so has what a term takes apart
types_few : (env : Environment) (i : ℕ) (mk : Making) (o : Option Term) (tys : List TypeId) → HasFewParts env → slice_get env.terms i ≡ o → making_of o ≡ mk → part_types env mk o ≡ Some tys → length tys ≤ 256
types_few env i (MakesVariant ty variant) o tys few at is e = form_few env (MakesVariant ty variant) (form env (MakesVariant ty variant)) tys few refl e
types_few env i (MakesStruct ty) o tys few at is e = form_few env (MakesStruct ty) (form env (MakesStruct ty)) tys few refl e
types_few env i MakesNothing None tys few at is e = absurd cc
types_few env i MakesNothing (Some t) tys few at is e = subst (λ xs. length xs ≤ 256) (same_Some t.arg_tys tys e) (few.terms i t at (unmade t.kind is))

parts_few : (env : Environment) (o : Option (List TypeId)) (ps : Patterns) → ((tys : List TypeId) → o ≡ Some tys → length tys ≤ 256) → ArePartsOf env o ps → count ps ≤ 256
parts_few env None ps few h = absurd h
parts_few env (Some tys) ps few h = let le = few tys refl in let same = as_many tys ps h in omega (arith, le, same)
  where
    as_many : (tys : List TypeId) (ps : Patterns) → ArePartsOf env (Some tys) ps → count ps ≡ length tys
    as_many [] NoPattern h = refl
    as_many (ty ∷ tys) (APattern p ps) h = ap suc (as_many tys ps h.1)
    as_many [] (APattern p ps) h = absurd h
    as_many (ty ∷ tys) NoPattern h = absurd h

-- ---- built patterns

is_opening : (ty : TypeId) (mk : Making) (o : Option Term) → OpensType ty mk o → IsOpening mk o
is_opening ty (MakesVariant of variant) o h = tt
is_opening ty (MakesStruct of) o h = tt
is_opening ty MakesNothing None h = absurd h
is_opening ty MakesNothing (Some t) h = h.0

mutual
  built_pattern : (env : Environment) (few : HasFewParts env) (ty : TypeId) (p : Pattern) → IsPatternOf env ty p → IsBuiltPattern env.terms p
  built_pattern env few ty (pattern.Var of x) h = tt
  built_pattern env few ty (pattern.ConstBool b) h = tt
  built_pattern env few ty (pattern.ConstInt of n) h = tt
  built_pattern env few ty (pattern.ConstPrim of name) h = tt
  built_pattern env few ty (pattern.Wildcard of) h = tt
  built_pattern env few ty (pattern.Term of term ps) h =
      let mk = making env term in
      let found = slice_get env.terms term.0 in
      (is_opening ty mk found h.1, parts_few env (part_types env mk found) ps (λ tys e. types_few env term.0 mk found tys few refl refl e) h.2, built_parts env few (part_types env mk found) ps h.2)
  built_pattern env few ty (pattern.BindPattern of x p) h = built_pattern env few ty p h.1
  built_pattern env few ty (pattern.And of ps) h = built_each env few ty ps h.1

  built_each : (env : Environment) (few : HasFewParts env) (ty : TypeId) (ps : Patterns) → AreEachOf env ty ps → AreBuiltPatterns env.terms ps
  built_each env few ty NoPattern h = tt
  built_each env few ty (APattern p ps) h = (built_pattern env few ty p h.0, built_each env few ty ps h.1)

  built_parts : (env : Environment) (few : HasFewParts env) (o : Option (List TypeId)) (ps : Patterns) → ArePartsOf env o ps → AreBuiltPatterns env.terms ps
  built_parts env few (Some []) NoPattern h = tt
  built_parts env few (Some (ty ∷ tys)) (APattern p ps) h = (built_pattern env few ty p h.0, built_parts env few (Some tys) ps h.1)
  built_parts env few (Some []) (APattern p ps) h = absurd h
  built_parts env few (Some (ty ∷ tys)) NoPattern h = absurd h
  built_parts env few None ps h = absurd h

built_patterns : (env : Environment) → HasFewParts env → (tys : List TypeId) (ps : List Pattern) → ArePatternsOf env tys ps → AllByRecursion (IsBuiltPattern env.terms) ps
built_patterns env few [] [] h = tt
built_patterns env few (ty ∷ tys) (p ∷ ps) h = (built_pattern env few ty p h.0, built_patterns env few tys ps h.1)
built_patterns env few [] (p ∷ ps) h = absurd h
built_patterns env few (ty ∷ tys) [] h = absurd h

-- ---- rules

-- typed conditions are built
built_iflets : (env : Environment) → HasFewParts env → (vars : List (TypeId × ℕ)) (cs : List IfLet) → AreIfLetsOf env vars cs → AllByRecursion (IsBuiltIfLet env.terms) cs
built_iflets env few vars [] h = tt
built_iflets env few vars (c ∷ cs) h = (
  record { lhs = built_pattern env few h.0.ty c.lhs h.0.lhs; rhs = built_expr env in_condition vars h.0.ty c.rhs h.0.rhs; calls = pure_terms env vars h.0.ty c.rhs h.0.rhs },
  built_iflets env few (vars ++ typed_variables c.lhs) cs h.1,
)

-- the rules are built
pub typed_built : (defs : List Def) (env : Environment) → Typed defs env → All (IsBuiltRule env.terms) env.rules
typed_built defs env h k d lt =
    let t = typed_rules defs env h k d lt in
    let few = few_parts defs env h in
    record {
      args = All-from_recursion (IsBuiltPattern env.terms) _ (built_patterns env few t.term.arg_tys _ t.typed.args);
      iflets = All-from_recursion (IsBuiltIfLet env.terms) _ (built_iflets env few _ _ t.typed.iflets);
      rhs = built_expr env (in_right_side (may_be_nothing (kind_of t.term.kind))) _ t.term.ret_ty _ t.typed.rhs;
    }

-- each variable of a condition and of a right side is in scope
pub typed_scoped : (defs : List Def) (env : Environment) → Typed defs env → All IsScopedRule env.rules
typed_scoped defs env h k d lt =
    let t = typed_rules defs env h k d lt in
    scoped_rule env (in_right_side (may_be_nothing (kind_of t.term.kind))) t.term.ret_ty _ t.typed.iflets t.typed.rhs

-- each term of a right side is built
pub typed_terms : (defs : List Def) (env : Environment) → Typed defs env → All (CallsBuiltTerms env.terms) env.rules
typed_terms defs env h k d lt = let t = typed_rules defs env h k d lt in built_terms env (in_right_side (may_be_nothing (kind_of t.term.kind))) _ t.term.ret_ty _ t.typed.rhs

-- ---- the rules of a term

-- they have patterns and conditions of its types
pub typed_tests : (defs : List Def) (env : Environment) (id : TermId) (t : Term) → Typed defs env → slice_get env.terms id.0 ≡ Some t → All (IsTested env t.arg_tys) (rules_of env id)
typed_tests defs env id t h at k d lt = let r = typed_of defs env id t h at k d lt in record { args = r.args; iflets = r.iflets }

-- each of their variables has one type
pub typed_variables_once : (defs : List Def) (env : Environment) (id : TermId) (t : Term) → Typed defs env → slice_get env.terms id.0 ≡ Some t → All (λ (r : Rule). HaveOneType (rule_typed r)) (rules_of env id)
typed_variables_once defs env id t h at k d lt = (typed_of defs env id t h at k d lt).variables
