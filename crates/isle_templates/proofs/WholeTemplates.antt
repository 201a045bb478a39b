-- Templates whose own templates are replaced are templates of their terms, at each depth.
use Rattle.std.proofs.Common.{◌≡◌, ℕ, zero, suc, List, [], ◌∷◌, length, map, Option, Some, None, refl, sym, ap, ◌∙◌, subst}
use Rattle.std.specs.Prelude.{slice_get, option_map, option_and_then}
use Rattle.std.proofs.lemmas.Option.{same_Some, slice_get-map}
use Rattle.isle_base.specs.declared.ids.TypeId.{TypeId}
use Rattle.isle_base.specs.declared.ids.TermId.{TermId}
use Rattle.isle_core.proofs.Contained.{none_contained}
use Rattle.isle_core.specs.declared.types.Term.{Term}
use Rattle.isle_core.specs.Pattern as pattern
use Rattle.isle_core.specs.Pattern.{Pattern, Patterns, NoPattern, APattern}
use Rattle.isle_core.specs.PatternType.{IsPatternOf}
use Rattle.isle_core.specs.Rule.{Environment}
use Rattle.isle_templates.specs.Substituted.{type_of, blank, template_of, expanded, templates_at, whole_templates}
use Rattle.isle_templates.specs.WrittenType.{Opens, opened_types, IsWrittenOf, AreWrittenPartsOf, AreWrittenEachOf, IsTemplateOf, AreTemplates, AreWrittenTemplates}
use Rattle.isle_templates.proofs.ExpandedTypes.{expanded_typed}
use Rattle.isle_templates.proofs.ExpandedVariables.{expanded_variables}

-- the type of a pattern is the one that its values have
written_type : (env : Environment) (templates : List (Option Pattern)) (ty : TypeId) (p : Pattern) → IsWrittenOf env templates ty p → type_of p ≡ ty
written_type env templates ty (pattern.Var of x) h = h
written_type env templates ty (pattern.ConstBool b) h = h.0
written_type env templates ty (pattern.ConstInt of n) h = h.0
written_type env templates ty (pattern.ConstPrim of name) h = h.0
written_type env templates ty (pattern.Wildcard of) h = h
written_type env templates ty (pattern.Term of term ps) h = h.0
written_type env templates ty (pattern.And of ps) h = h.0
written_type env templates ty (pattern.BindPattern of x p) h = h.0

-- the template of a term among changed ones
pub template_at : (f : Pattern → Pattern) (written : List (Option Pattern)) (term : TermId) → template_of (map (option_map f) written) term ≡ option_map f (template_of written term)
template_at f written term = ap (option_and_then (λ (t : Option Pattern). t)) (slice_get-map (option_map f) written term.0) ∙ pick (slice_get written term.0)
  where
    pick : (o : Option (Option Pattern)) → option_and_then (λ (t : Option Pattern). t) (option_map (option_map f) o) ≡ option_map f (option_and_then (λ (t : Option Pattern). t) o)
    pick None = refl
    pick (Some t) = refl

module _ (env : Environment) (f : Pattern → Pattern) where
  opens_changed : (o : Option Pattern) (ty : TypeId) (term : TermId) → Opens env o ty term → Opens env (option_map f o) ty term
  opens_changed None ty term h = h
  opens_changed (Some t) ty term h = h

  types_changed : (o : Option Pattern) (term : TermId) → opened_types env (option_map f o) term ≡ opened_types env o term
  types_changed None term = refl
  types_changed (Some t) term = refl

  module _ (written : List (Option Pattern)) where
    mutual
      written_changed : (ty : TypeId) (p : Pattern) → IsWrittenOf env written ty p → IsWrittenOf env (map (option_map f) written) ty p
      written_changed ty (pattern.Var of x) h = h
      written_changed ty (pattern.ConstBool b) h = h
      written_changed ty (pattern.ConstInt of n) h = h
      written_changed ty (pattern.ConstPrim of name) h = h
      written_changed ty (pattern.Wildcard of) h = h
      written_changed ty (pattern.Term of term ps) h =
          let same = sym (template_at f written term) in (
            h.0,
            subst (λ o. Opens env o ty term) same (opens_changed (template_of written term) ty term h.1),
            subst (λ o. AreWrittenPartsOf env (map (option_map f) written) (opened_types env o term) ps) same
                (subst (λ o. AreWrittenPartsOf env (map (option_map f) written) o ps) (sym (types_changed (template_of written term) term)) (parts_changed _ ps h.2)),
          )
      written_changed ty (pattern.And of ps) h = (h.0, each_changed ty ps h.1)
      written_changed ty (pattern.BindPattern of x p) h = (h.0, written_changed ty p h.1)

      parts_changed : (o : Option (List TypeId)) (ps : Patterns) → AreWrittenPartsOf env written o ps → AreWrittenPartsOf env (map (option_map f) written) o ps
      parts_changed (Some []) NoPattern h = tt
      parts_changed (Some (ty ∷ tys)) (APattern p ps) h = (written_changed ty p h.0, parts_changed (Some tys) ps h.1)
      parts_changed (Some []) (APattern p ps) h = absurd h
      parts_changed (Some (ty ∷ tys)) NoPattern h = absurd h
      parts_changed None ps h = absurd h

      each_changed : (ty : TypeId) (ps : Patterns) → AreWrittenEachOf env written ty ps → AreWrittenEachOf env (map (option_map f) written) ty ps
      each_changed ty NoPattern h = tt
      each_changed ty (APattern p ps) h = (written_changed ty p h.0, each_changed ty ps h.1)

module _ (env : Environment) (written : List (Option Pattern)) (sound : AreWrittenTemplates env written) where
  -- a template as it is written, at any depth
  pub written_at : (depth : ℕ) (ty : TypeId) (p : Pattern) → IsWrittenOf env written ty p → IsWrittenOf env (templates_at written depth) ty p
  written_at zero ty p h = written_changed env blank written ty p h
  written_at (suc depth) ty p h = written_changed env (expanded (templates_at written depth)) written ty p h

  -- a changed template is one of its term, if the change makes one of each
  changed_sound : (f : Pattern → Pattern) → ((t : Term) (template : Pattern) (term : TermId) → slice_get env.terms term.0 ≡ Some t → template_of written term ≡ Some template → IsTemplateOf env t (f template)) → AreTemplates env (map (option_map f) written)
  changed_sound f each term t template there e = pick (template_of written term) refl
    where
      pick : (o : Option Pattern) → template_of written term ≡ o → IsTemplateOf env t template
      pick None none = absurd (no_template (sym e ∙ template_at f written term ∙ ap (option_map f) none))
        where
          no_template : Some template ≡ None → ⊥
          no_template k = cc
      pick (Some old) is = subst (IsTemplateOf env t) (same_Some (f old) template (sym (ap (option_map f) is) ∙ sym (template_at f written term) ∙ e)) (each t old term there is)

  pub templates_sound : (depth : ℕ) → AreTemplates env (templates_at written depth)
  templates_sound zero = changed_sound blank (λ t template term there e. record {
    whole = written_type env written t.ret_ty template (sound term t template there e).whole;
    params = λ ty i c. absurd (none_contained (ty, i) c);
  })
  templates_sound (suc depth) = changed_sound (expanded (templates_at written depth)) (λ t template term there e.
      let is = sound term t template there e in
      let inner = templates_sound depth in
      let whole = written_at depth t.ret_ty template is.whole in
      record {
        whole = expanded_typed env (templates_at written depth) inner t.ret_ty template whole;
        params = λ ty i c. is.params ty i (expanded_variables env (templates_at written depth) inner (ty, i) t.ret_ty template whole c);
      })

  -- a rule's pattern with all templates replaced is a pattern of its own type
  pub whole_typed : (ty : TypeId) (p : Pattern) → IsWrittenOf env written ty p → IsPatternOf env ty (expanded (whole_templates written) p)
  whole_typed ty p h = expanded_typed env (whole_templates written) (templates_sound (length written)) ty p (written_at (length written) ty p h)
