-- The variables of a pattern whose templates are replaced are those that it had.
use Rattle.std.proofs.Common.{◌≡◌, ℕ, zero, suc, List, [], ◌∷◌, ◌++◌, Option, Some, None, refl, ap, subst, ⊎_elim}
use Rattle.std.specs.Prelude.{Contains, slice_get}
use Rattle.std.proofs.lemmas.List.Elements.{Contains-append_left, Contains-append_right, Contains-append_cases}
use Rattle.isle_base.specs.declared.ids.TypeId.{TypeId}
use Rattle.isle_base.specs.declared.ids.TermId.{TermId}
use Rattle.isle_core.proofs.Contained.{head_contained, tail_contained, contained_cases}
use Rattle.isle_core.specs.declared.types.Term.{Term}
use Rattle.isle_core.specs.Pattern as pattern
use Rattle.isle_core.specs.Pattern.{Pattern, Patterns, NoPattern, APattern}
use Rattle.isle_core.specs.PatternType.{ArePatternsOf, arguments_of}
use Rattle.isle_core.specs.Rule.{Environment}
use Rattle.isle_core.specs.RuleViews.{patterns_of}
use Rattle.isle_core.specs.TypedVariables.{typed_variables, typed_within, all_typed}
use Rattle.isle_templates.specs.Substituted.{template_of, opened, expanded, all_expanded}
use Rattle.isle_templates.specs.WrittenType.{opened_types, IsWrittenOf, AreWrittenPartsOf, AreWrittenEachOf, AreTemplates}
use Rattle.isle_templates.proofs.ExpandedTypes.{AreOfTypes, parts_typed}
use Rattle.isle_templates.proofs.SubstitutedVariables.{substituted_variables}

-- a place that has a type has a pattern
pub there_at : (env : Environment) (tys : List TypeId) (args : List Pattern) (i : ℕ) (ty : TypeId) → ArePatternsOf env tys args → slice_get tys i ≡ Some ty → (p : Pattern) × (slice_get args i ≡ Some p)
there_at env (t ∷ tys) (p ∷ args) zero ty h e = (p, refl)
there_at env (t ∷ tys) (p ∷ args) (suc i) ty h e = there_at env tys args i ty h.1 e
there_at env [] [] i ty h e = cc
there_at env [] (p ∷ args) i ty h e = absurd h
there_at env (t ∷ tys) [] i ty h e = absurd h

-- the variables of parts and of a list
pub variables_within : (qs : List Pattern) → typed_within (patterns_of qs) ≡ all_typed qs
variables_within [] = refl
variables_within (q ∷ qs) = ap (λ vs. typed_variables q ++ vs) (variables_within qs)

module _ (env : Environment) (templates : List (Option Pattern)) (sound : AreTemplates env templates) (v : TypeId × ℕ) where
  -- those of a term on patterns
  opened_variables : (ty : TypeId) (term : TermId) (o : Option Pattern) (t : Option Term) (args : List Pattern) → template_of templates term ≡ o → slice_get env.terms term.0 ≡ t → (((template : Pattern) → o ≡ Some template → AreOfTypes env (arguments_of t) args)) → Contains (typed_variables (opened o ty term args)) v
      → Contains (all_typed args) v
  opened_variables ty term None t args e there typed c = subst (λ vs. Contains vs v) (variables_within args) c
  opened_variables ty term (Some template) (Some t) args e there typed c =
      let is = sound term t template there e in
      substituted_variables args v template (λ of i k. there_at env t.arg_tys args i of (typed template refl) (is.params of i k)) c
  opened_variables ty term (Some template) None args e there typed c = absurd (typed template refl)

  mutual
    pub expanded_variables : (ty : TypeId) (p : Pattern) → IsWrittenOf env templates ty p → Contains (typed_variables (expanded templates p)) v → Contains (typed_variables p) v
    expanded_variables ty (pattern.Var of x) h c = c
    expanded_variables ty (pattern.ConstBool b) h c = c
    expanded_variables ty (pattern.ConstInt of n) h c = c
    expanded_variables ty (pattern.ConstPrim of name) h c = c
    expanded_variables ty (pattern.Wildcard of) h c = c
    expanded_variables ty (pattern.Term of term ps) h c =
        let args = all_expanded templates ps in
        parts_variables _ ps h.2
        (opened_variables of term (template_of templates term) (slice_get env.terms term.0) args refl refl
        (λ template e. subst (λ o. AreOfTypes env (opened_types env o term) args) e (parts_typed env templates sound _ ps h.2)) c)
    expanded_variables ty (pattern.And of ps) h c = each_variables ty ps h.1 c
    expanded_variables ty (pattern.BindPattern of x p) h c = ⊎_elim
        (λ (e : (of, x.0) ≡ v). subst (λ w. Contains ((of, x.0) ∷ typed_variables p) w) e (head_contained (of, x.0) (typed_variables p)))
        (λ d. tail_contained (of, x.0) (typed_variables p) v (expanded_variables ty p h.1 d))
        (contained_cases (of, x.0) (typed_variables (expanded templates p)) v c)

    parts_variables : (o : Option (List TypeId)) (ps : Patterns) → AreWrittenPartsOf env templates o ps → Contains (all_typed (all_expanded templates ps)) v → Contains (typed_within ps) v
    parts_variables (Some []) NoPattern h c = c
    parts_variables (Some (ty ∷ tys)) (APattern p ps) h c = ⊎_elim
        (λ d. Contains-append_left (typed_variables p) (typed_within ps) v (expanded_variables ty p h.0 d))
        (λ d. Contains-append_right (typed_variables p) (typed_within ps) v (parts_variables (Some tys) ps h.1 d))
        (Contains-append_cases (typed_variables (expanded templates p)) (all_typed (all_expanded templates ps)) v c)
    parts_variables (Some []) (APattern p ps) h c = absurd h
    parts_variables (Some (ty ∷ tys)) NoPattern h c = absurd h
    parts_variables None ps h c = absurd h

    each_variables : (ty : TypeId) (ps : Patterns) → AreWrittenEachOf env templates ty ps → Contains (typed_within (patterns_of (all_expanded templates ps))) v → Contains (typed_within ps) v
    each_variables ty NoPattern h c = c
    each_variables ty (APattern p ps) h c = ⊎_elim
        (λ d. Contains-append_left (typed_variables p) (typed_within ps) v (expanded_variables ty p h.0 d))
        (λ d. Contains-append_right (typed_variables p) (typed_within ps) v (each_variables ty ps h.1 d))
        (Contains-append_cases (typed_variables (expanded templates p)) (typed_within (patterns_of (all_expanded templates ps))) v c)
