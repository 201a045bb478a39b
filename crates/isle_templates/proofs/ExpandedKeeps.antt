-- A pattern whose templates are replaced has all variables that it had, if each template that it uses has all its parameters.
use Rattle.std.proofs.Common.{◌≡◌, ℕ, suc, List, [], ◌∷◌, Option, Some, None, refl, sym, subst, ⊎_elim}
use Rattle.std.specs.Prelude.{Contains, slice_get}
use Rattle.std.proofs.lemmas.List.Elements.{Contains-append_left, Contains-append_right, Contains-append_cases}
use Rattle.isle_base.specs.declared.ids.TypeId.{TypeId}
use Rattle.isle_base.specs.declared.ids.TermId.{TermId}
use Rattle.isle_core.proofs.Contained.{head_contained, tail_contained, contained_cases, none_contained}
use Rattle.isle_core.specs.declared.types.Term.{Term}
use Rattle.isle_core.specs.Pattern as pattern
use Rattle.isle_core.specs.Pattern.{Pattern, Patterns, NoPattern, APattern}
use Rattle.isle_core.specs.PatternType.{ArePatternsOf, arguments_of}
use Rattle.isle_core.specs.Rule.{Environment}
use Rattle.isle_core.specs.RuleViews.{patterns_of}
use Rattle.isle_core.specs.TypedVariables.{typed_variables, typed_within, all_typed}
use Rattle.isle_templates.specs.Substituted.{template_of, opened, expanded, all_expanded}
use Rattle.isle_templates.specs.Uses.{used_one, used_in, all_used_in}
use Rattle.isle_templates.specs.WrittenType.{opened_types, IsWrittenOf, AreWrittenPartsOf, AreWrittenEachOf, AreTemplates}
use Rattle.isle_templates.proofs.ExpandedTypes.{AreOfTypes, parts_typed}
use Rattle.isle_templates.proofs.ExpandedVariables.{variables_within}
use Rattle.isle_templates.proofs.SubstitutedKeeps.{substituted_keeps}

-- each parameter of a term stands in a template
abbrev pub HasParameters : Term → Pattern → Type 0
HasParameters t template = (ty : TypeId) (i : ℕ) → slice_get t.arg_tys i ≡ Some ty → Contains (typed_variables template) (ty, i)

-- each parameter of the term of this number stands in its template
abbrev pub IsComplete : Environment → List (Option Pattern) → TermId → Type 0
IsComplete env templates term = (t : Term) (template : Pattern) → slice_get env.terms term.0 ≡ Some t → template_of templates term ≡ Some template → HasParameters t template

-- so of each term that is used
abbrev pub AreComplete : Environment → List (Option Pattern) → List ℕ → Type 0
AreComplete env templates used = (term : TermId) → Contains used term.0 → IsComplete env templates term

-- a variable of patterns is one of the pattern at a place, which has a type
at_place : (env : Environment) (tys : List TypeId) (args : List Pattern) (v : TypeId × ℕ) → ArePatternsOf env tys args → Contains (all_typed args) v
    → (i : ℕ) × (ty : TypeId) × (q : Pattern) × (slice_get tys i ≡ Some ty) × (slice_get args i ≡ Some q) × Contains (typed_variables q) v
at_place env (ty ∷ tys) (q ∷ args) v h c = ⊎_elim
    (λ d. (0, ty, q, refl, refl, d))
    (λ d. let k = at_place env tys args v h.1 d in (suc k.0, k.1, k.2, k.3, k.4, k.5))
    (Contains-append_cases (typed_variables q) (all_typed args) v c)
at_place env [] [] v h c = absurd (none_contained v c)
at_place env [] (q ∷ args) v h c = absurd h
at_place env (ty ∷ tys) [] v h c = absurd h

module _ (env : Environment) (templates : List (Option Pattern)) (sound : AreTemplates env templates) (v : TypeId × ℕ) where
  -- the variables of patterns are those of a term on them
  opened_keeps : (ty : TypeId) (term : TermId) (o : Option Pattern) (t : Option Term) (args : List Pattern) → template_of templates term ≡ o → slice_get env.terms term.0 ≡ t → ((template : Pattern) → o ≡ Some template → AreOfTypes env (arguments_of t) args)
      → AreComplete env templates (used_one o term) → Contains (all_typed args) v → Contains (typed_variables (opened o ty term args)) v
  opened_keeps ty term None t args e there typed complete c = subst (λ vs. Contains vs v) (sym (variables_within args)) c
  opened_keeps ty term (Some template) (Some t) args e there typed complete c =
      let k = at_place env t.arg_tys args v (typed template refl) c in
      substituted_keeps args k.0 k.2 k.4 v k.5 template k.1 (complete term (head_contained term.0 []) t template there e k.1 k.0 k.3)
  opened_keeps ty term (Some template) None args e there typed complete c = absurd (typed template refl)

  mutual
    pub expanded_keeps : (ty : TypeId) (p : Pattern) → IsWrittenOf env templates ty p → AreComplete env templates (used_in templates p) → Contains (typed_variables p) v → Contains (typed_variables (expanded templates p)) v
    expanded_keeps ty (pattern.Var of x) h complete c = c
    expanded_keeps ty (pattern.ConstBool b) h complete c = c
    expanded_keeps ty (pattern.ConstInt of n) h complete c = c
    expanded_keeps ty (pattern.ConstPrim of name) h complete c = c
    expanded_keeps ty (pattern.Wildcard of) h complete c = c
    expanded_keeps ty (pattern.Term of term ps) h complete c =
        let own = used_one (template_of templates term) term in
        let args = all_expanded templates ps in
        opened_keeps of term (template_of templates term) (slice_get env.terms term.0) args refl refl
        (λ template e. subst (λ o. AreOfTypes env (opened_types env o term) args) e (parts_typed env templates sound _ ps h.2))
        (λ t d. complete t (Contains-append_left own (all_used_in templates ps) t.0 d))
        (parts_keep _ ps h.2 (λ t d. complete t (Contains-append_right own (all_used_in templates ps) t.0 d)) c)
    expanded_keeps ty (pattern.And of ps) h complete c = each_keeps ty ps h.1 complete c
    expanded_keeps ty (pattern.BindPattern of x p) h complete c = ⊎_elim
        (λ (e : (of, x.0) ≡ v). subst (λ w. Contains ((of, x.0) ∷ typed_variables (expanded templates p)) w) e (head_contained (of, x.0) (typed_variables (expanded templates p))))
        (λ d. tail_contained (of, x.0) (typed_variables (expanded templates p)) v (expanded_keeps ty p h.1 complete d))
        (contained_cases (of, x.0) (typed_variables p) v c)

    parts_keep : (o : Option (List TypeId)) (ps : Patterns) → AreWrittenPartsOf env templates o ps → AreComplete env templates (all_used_in templates ps) → Contains (typed_within ps) v → Contains (all_typed (all_expanded templates ps)) v
    parts_keep (Some []) NoPattern h complete c = c
    parts_keep (Some (ty ∷ tys)) (APattern p ps) h complete c =
        let first = typed_variables (expanded templates p) in
        let others = all_typed (all_expanded templates ps) in
        ⊎_elim
        (λ d. Contains-append_left first others v (expanded_keeps ty p h.0 (λ t k. complete t (Contains-append_left (used_in templates p) (all_used_in templates ps) t.0 k)) d))
        (λ d. Contains-append_right first others v (parts_keep (Some tys) ps h.1 (λ t k. complete t (Contains-append_right (used_in templates p) (all_used_in templates ps) t.0 k)) d))
        (Contains-append_cases (typed_variables p) (typed_within ps) v c)
    parts_keep (Some []) (APattern p ps) h complete c = absurd h
    parts_keep (Some (ty ∷ tys)) NoPattern h complete c = absurd h
    parts_keep None ps h complete c = absurd h

    each_keeps : (ty : TypeId) (ps : Patterns) → AreWrittenEachOf env templates ty ps → AreComplete env templates (all_used_in templates ps) → Contains (typed_within ps) v → Contains (typed_within (patterns_of (all_expanded templates ps))) v
    each_keeps ty NoPattern h complete c = c
    each_keeps ty (APattern p ps) h complete c =
        let first = typed_variables (expanded templates p) in
        let others = typed_within (patterns_of (all_expanded templates ps)) in
        ⊎_elim
        (λ d. Contains-append_left first others v (expanded_keeps ty p h.0 (λ t k. complete t (Contains-append_left (used_in templates p) (all_used_in templates ps) t.0 k)) d))
        (λ d. Contains-append_right first others v (each_keeps ty ps h.1 (λ t k. complete t (Contains-append_right (used_in templates p) (all_used_in templates ps) t.0 k)) d))
        (Contains-append_cases (typed_variables p) (typed_within ps) v c)
