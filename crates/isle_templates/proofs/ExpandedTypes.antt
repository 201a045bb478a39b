-- A written pattern whose templates are replaced is a pattern of its own type.
use Rattle.std.proofs.Common.{◌≡◌, ℕ, zero, suc, List, [], ◌∷◌, Option, Some, None, refl, sym, subst}
use Rattle.std.specs.Prelude.{IsSomeAnd, slice_get}
use Rattle.std.proofs.lemmas.Option.{same_Some}
use Rattle.isle_base.specs.declared.ids.TypeId.{TypeId}
use Rattle.isle_base.specs.declared.ids.TermId.{TermId}
use Rattle.isle_core.specs.declared.types.Term.{Term}
use Rattle.isle_core.specs.Pattern as pattern
use Rattle.isle_core.specs.Pattern.{Pattern, Patterns, NoPattern, APattern}
use Rattle.isle_core.specs.PatternType.{IsPatternOf, ArePartsOf, AreEachOf, ArePatternsOf, arguments_of}
use Rattle.isle_core.specs.Rule.{Environment}
use Rattle.isle_core.specs.RuleViews.{patterns_of}
use Rattle.isle_templates.specs.Substituted.{pattern_or, template_of, opened, expanded, all_expanded}
use Rattle.isle_templates.specs.WrittenType.{Opens, opened_types, IsWrittenOf, AreWrittenPartsOf, AreWrittenEachOf, AreTemplates}
use Rattle.isle_templates.proofs.SubstitutedTypes.{substituted_typed}

-- the pattern at a place is for values of the type at that place
given_at : (env : Environment) (tys : List TypeId) (args : List Pattern) (i : ℕ) (ty : TypeId) (other : Pattern) → ArePatternsOf env tys args → slice_get tys i ≡ Some ty → IsPatternOf env ty (pattern_or other (slice_get args i))
given_at env (t ∷ tys) (p ∷ args) zero ty other h e = subst (λ x. IsPatternOf env x p) (same_Some t ty e) h.0
given_at env (t ∷ tys) (p ∷ args) (suc i) ty other h e = given_at env tys args i ty other h.1 e
given_at env [] [] i ty other h e = cc
given_at env [] (p ∷ args) i ty other h e = absurd h
given_at env (t ∷ tys) [] i ty other h e = absurd h

-- patterns of types, one by one
parts_in_order : (env : Environment) (tys : List TypeId) (qs : List Pattern) → ArePatternsOf env tys qs → ArePartsOf env (Some tys) (patterns_of qs)
parts_in_order env [] [] h = tt
parts_in_order env (ty ∷ tys) (q ∷ qs) h = (h.0, parts_in_order env tys qs h.1)
parts_in_order env [] (q ∷ qs) h = absurd h
parts_in_order env (ty ∷ tys) [] h = absurd h

-- patterns that have these types, if there are any
abbrev pub AreOfTypes : Environment → Option (List TypeId) → List Pattern → Type 0
AreOfTypes env o qs = IsSomeAnd o (λ tys. ArePatternsOf env tys qs)

parts_of_types : (env : Environment) (o : Option (List TypeId)) (qs : List Pattern) → AreOfTypes env o qs → ArePartsOf env o (patterns_of qs)
parts_of_types env (Some tys) qs h = parts_in_order env tys qs h
parts_of_types env None qs h = absurd h

module _ (env : Environment) (templates : List (Option Pattern)) (sound : AreTemplates env templates) where
  -- a template with patterns of its parameters' types
  template_typed : (ty : TypeId) (term : TermId) (template : Pattern) (o : Option Term) (args : List Pattern) → slice_get env.terms term.0 ≡ o → template_of templates term ≡ Some template → IsSomeAnd o (λ (x : Term). x.ret_ty ≡ ty) → AreOfTypes env (arguments_of o) args
      → IsPatternOf env ty (opened (Some template) ty term args)
  template_typed ty term template (Some t) args there e gives typed =
      let is = sound term t template there e in
      substituted_typed env args ty template (subst (λ x. IsPatternOf env x template) gives is.whole) (λ of x c. given_at env t.arg_tys args x.0 of (pattern.Var of x) typed (is.params of x.0 c))
  template_typed ty term template None args there e gives typed = absurd gives

  -- a term on patterns of its parts' types
  opened_typed : (ty : TypeId) (term : TermId) (o : Option Pattern) (args : List Pattern) → template_of templates term ≡ o → Opens env o ty term → AreOfTypes env (opened_types env o term) args → IsPatternOf env ty (opened o ty term args)
  opened_typed ty term None args e opens typed = (refl, opens, parts_of_types env _ args typed)
  opened_typed ty term (Some template) args e opens typed = template_typed ty term template (slice_get env.terms term.0) args refl e opens typed

  mutual
    pub expanded_typed : (ty : TypeId) (p : Pattern) → IsWrittenOf env templates ty p → IsPatternOf env ty (expanded templates p)
    expanded_typed ty (pattern.Var of x) h = h
    expanded_typed ty (pattern.ConstBool b) h = h
    expanded_typed ty (pattern.ConstInt of n) h = h
    expanded_typed ty (pattern.ConstPrim of name) h = h
    expanded_typed ty (pattern.Wildcard of) h = h
    expanded_typed ty (pattern.Term of term ps) h =
        subst (λ x. IsPatternOf env ty (opened (template_of templates term) x term (all_expanded templates ps))) (sym h.0)
        (opened_typed ty term (template_of templates term) (all_expanded templates ps) refl h.1 (parts_typed (opened_types env (template_of templates term) term) ps h.2))
    expanded_typed ty (pattern.And of ps) h = (h.0, each_typed ty ps h.1)
    expanded_typed ty (pattern.BindPattern of x p) h = (h.0, expanded_typed ty p h.1)

    pub parts_typed : (o : Option (List TypeId)) (ps : Patterns) → AreWrittenPartsOf env templates o ps → AreOfTypes env o (all_expanded templates ps)
    parts_typed (Some []) NoPattern h = tt
    parts_typed (Some (ty ∷ tys)) (APattern p ps) h = (expanded_typed ty p h.0, parts_typed (Some tys) ps h.1)
    parts_typed (Some []) (APattern p ps) h = absurd h
    parts_typed (Some (ty ∷ tys)) NoPattern h = absurd h
    parts_typed None ps h = absurd h

    each_typed : (ty : TypeId) (ps : Patterns) → AreWrittenEachOf env templates ty ps → AreEachOf env ty (patterns_of (all_expanded templates ps))
    each_typed ty NoPattern h = tt
    each_typed ty (APattern p ps) h = (expanded_typed ty p h.0, each_typed ty ps h.1)
