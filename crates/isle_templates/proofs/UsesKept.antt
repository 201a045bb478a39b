-- Which terms patterns use stays as templates are changed, and a template's are where its term leads.
use Rattle.std.proofs.Common.{◌≡◌, ℕ, zero, suc, List, ◌++◌, map, Bool, true, false, Option, Some, None, refl, ap, ◌∙◌}
use Rattle.std.specs.Prelude.{Contains, slice_get, option_map, option_and_then}
use Rattle.std.specs.List.{list_any}
use Rattle.std.proofs.lemmas.List.Folds.{list_any_at}
use Rattle.std.proofs.lemmas.Option.{slice_get-map}
use Rattle.isle_base.specs.declared.ids.TermId.{TermId}
use Rattle.isle_core.proofs.ListLaws.{not_both}
use Rattle.isle_core.specs.Pattern as pattern
use Rattle.isle_core.specs.Pattern.{Pattern, Patterns, NoPattern, APattern}
use Rattle.isle_walks.specs.Walks.{nodes_or_none, next_of}
use Rattle.isle_templates.specs.Substituted.{blank, template_of, expanded, templates_at}
use Rattle.isle_templates.specs.Uses.{used_one, used_in, all_used_in, used_by, uses}
use Rattle.isle_templates.proofs.WholeTemplates.{template_at}

module _ (f : Pattern → Pattern) (written : List (Option Pattern)) where
  one_changed : (o : Option Pattern) (term : TermId) → used_one (option_map f o) term ≡ used_one o term
  one_changed None term = refl
  one_changed (Some t) term = refl

  mutual
    used_changed : (p : Pattern) → used_in (map (option_map f) written) p ≡ used_in written p
    used_changed (pattern.Var of x) = refl
    used_changed (pattern.ConstBool b) = refl
    used_changed (pattern.ConstInt of n) = refl
    used_changed (pattern.ConstPrim of name) = refl
    used_changed (pattern.Wildcard of) = refl
    used_changed (pattern.Term of term ps) =
        ap (λ o. used_one o term ++ all_used_in (map (option_map f) written) ps) (template_at f written term)
        ∙ ap (λ ns. ns ++ all_used_in (map (option_map f) written) ps) (one_changed (template_of written term) term)
        ∙ ap (λ ns. used_one (template_of written term) term ++ ns) (all_used_changed ps)
    used_changed (pattern.And of ps) = all_used_changed ps
    used_changed (pattern.BindPattern of x p) = used_changed p

    all_used_changed : (ps : Patterns) → all_used_in (map (option_map f) written) ps ≡ all_used_in written ps
    all_used_changed NoPattern = refl
    all_used_changed (APattern p ps) = ap (λ ns. ns ++ all_used_in (map (option_map f) written) ps) (used_changed p) ∙ ap (λ ns. used_in written p ++ ns) (all_used_changed ps)

-- at any depth a pattern uses the same terms
pub used_at : (written : List (Option Pattern)) (depth : ℕ) (p : Pattern) → used_in (templates_at written depth) p ≡ used_in written p
used_at written zero p = used_changed blank written p
used_at written (suc depth) p = used_changed (expanded (templates_at written depth)) written p

-- a term leads to those that its template uses
pub uses_at : (written : List (Option Pattern)) (term : TermId) → next_of (uses written) term.0 ≡ used_by written (template_of written term)
uses_at written term = ap nodes_or_none (slice_get-map (used_by written) written term.0) ∙ pick (slice_get written term.0)
  where
    pick : (o : Option (Option Pattern)) → nodes_or_none (option_map (used_by written) o) ≡ used_by written (option_and_then (λ (t : Option Pattern). t) o)
    pick None = refl
    pick (Some t) = refl

-- what no element passes
pub fails_at : {X : Type 0} (test : X → Bool) (xs : List X) (x : X) → list_any test xs ≡ false → Contains xs x → test x ≡ false
fails_at test xs x none c = pick (test x) refl
  where
    pick : (b : Bool) → test x ≡ b → test x ≡ false
    pick true e = absurd (not_both (list_any_at test xs c.0 x c.1 (ap test c.2 ∙ e)) none)
    pick false e = e
