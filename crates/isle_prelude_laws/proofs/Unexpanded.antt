-- A pattern that uses no template stays as it is.
use Rattle.std.proofs.Common.{◌≡◌, ℕ, zero, suc, List, [], ◌∷◌, length, map, Option, Some, None, refl, sym, ap, ◌∙◌}
use Rattle.std.specs.Prelude.{option_and_then, option_map, slice_get}
use Rattle.std.proofs.lemmas.Option.{slice_get-map}
use Rattle.isle_base.specs.declared.ids.TermId.{TermId}
use Rattle.isle_core.specs.Pattern as pattern
use Rattle.isle_core.specs.Pattern.{Pattern, Patterns, NoPattern, APattern}
use Rattle.isle_core.specs.RuleViews.{patterns_of}
use Rattle.isle_ast.specs.Tree as tree
use Rattle.isle_templates.specs.Substituted.{template_of, opened, expanded, all_expanded, templates_at, whole_templates}
use Rattle.isle_prelude_laws.proofs.NamedTrees.{Numbers, PatternNamed, PatternsNamed, EachTerm, EachTerms}

-- no term of the name has a template
abbrev pub HasNone : Numbers → List (Option Pattern) → List ℕ → Type 0
HasNone number ts name = (a : TermId) → number name ≡ Some a → template_of ts a ≡ None

-- the terms of a text have no template
abbrev pub IsUntemplated : Numbers → List (Option Pattern) → tree.Pattern → Type 0
IsUntemplated number ts p = EachTerm (HasNone number ts) p

-- so of texts in order
abbrev pub AreUntemplated : Numbers → List (Option Pattern) → tree.Patterns → Type 0
AreUntemplated number ts ps = EachTerms (HasNone number ts) ps

module _ (number : Numbers) (params : List (List ℕ)) (ts : List (Option Pattern)) where
  mutual
    same_expanded : (p : tree.Pattern) (q : Pattern) → IsUntemplated number ts p → PatternNamed number params p q → expanded ts q ≡ q
    same_expanded (tree.Var name) q none h = ap (expanded ts) h.2 ∙ sym h.2
    same_expanded (tree.Term name ps) q none h =
        ap (expanded ts) h.3 ∙ ap (λ o. opened o h.0 h.1 (all_expanded ts h.2)) (none.0 h.1 h.4) ∙ ap (pattern.Term h.0 h.1) (all_same ps h.2 none.1 h.5) ∙ sym h.3
    same_expanded (tree.Int n) q none h = absurd none
    same_expanded (tree.Truth b) q none h = absurd none
    same_expanded (tree.Const name) q none h = absurd none
    same_expanded tree.Wildcard q none h = absurd none
    same_expanded (tree.Bind name inner) q none h = absurd none
    same_expanded (tree.And parts) q none h = absurd none

    all_same : (ps : tree.Patterns) (qs : Patterns) → AreUntemplated number ts ps → PatternsNamed number params ps qs → patterns_of (all_expanded ts qs) ≡ qs
    all_same tree.NoPattern qs none h = ap (λ x. patterns_of (all_expanded ts x)) h ∙ sym h
    all_same (tree.APattern p ps) qs none h =
        ap (λ x. patterns_of (all_expanded ts x)) h.2 ∙ ap (λ x. APattern x (patterns_of (all_expanded ts h.1))) (same_expanded p h.0 none.0 h.3) ∙ ap (APattern h.0) (all_same ps h.1 none.1 h.4) ∙ sym h.2

-- ---- whole templates

pub later_template : (f : Pattern → Pattern) (ts : List (Option Pattern)) (term : TermId)
    → template_of (map (option_map f) ts) term ≡ option_map f (template_of ts term)
later_template f ts term = ap (option_and_then (λ (t : Option Pattern). t)) (slice_get-map (option_map f) ts term.0) ∙ by (slice_get ts term.0)
  where
    by : (o : Option (Option Pattern))
        → option_and_then (λ (t : Option Pattern). t) (option_map (option_map f) o) ≡ option_map f (option_and_then (λ (t : Option Pattern). t) o)
    by None = refl
    by (Some t) = refl

-- a term without a template has none at any depth
pub none_at : (ts : List (Option Pattern)) (depth : ℕ) (term : TermId) → template_of ts term ≡ None → template_of (templates_at ts depth) term ≡ None
none_at ts zero term h = later_template _ ts term ∙ ap (option_map _) h
none_at ts (suc depth) term h = later_template (expanded (templates_at ts depth)) ts term ∙ ap (option_map (expanded (templates_at ts depth))) h

abbrev mutual
  untemplated_at : (number : Numbers) (ts : List (Option Pattern)) (depth : ℕ) (p : tree.Pattern) → IsUntemplated number ts p
      → IsUntemplated number (templates_at ts depth) p
  untemplated_at number ts depth (tree.Term name ps) h = (λ a is. none_at ts depth a (h.0 a is), all_untemplated number ts depth ps h.1)
  untemplated_at number ts depth (tree.Var name) h = tt
  untemplated_at number ts depth (tree.Int n) h = h
  untemplated_at number ts depth (tree.Truth b) h = h
  untemplated_at number ts depth (tree.Const name) h = h
  untemplated_at number ts depth tree.Wildcard h = h
  untemplated_at number ts depth (tree.Bind name inner) h = h
  untemplated_at number ts depth (tree.And parts) h = h

  all_untemplated : (number : Numbers) (ts : List (Option Pattern)) (depth : ℕ) (ps : tree.Patterns) → AreUntemplated number ts ps
      → AreUntemplated number (templates_at ts depth) ps
  all_untemplated number ts depth tree.NoPattern h = tt
  all_untemplated number ts depth (tree.APattern p ps) h = (untemplated_at number ts depth p h.0, all_untemplated number ts depth ps h.1)

-- a template that uses no other is whole
pub whole_same : (number : Numbers) (params : List (List ℕ)) (ts : List (Option Pattern)) (term : TermId) (p : tree.Pattern) (q : Pattern)
    → IsUntemplated number ts p → PatternNamed number params p q → template_of ts term ≡ Some q → template_of (whole_templates ts) term ≡ Some q
whole_same number params [] term p q none h at = absurd cc
whole_same number params (t ∷ ts) term p q none h at =
    let all = t ∷ ts in
    let below = templates_at all (length ts) in
    let more : template_of (whole_templates all) term ≡ option_map (expanded below) (template_of all term) = later_template (expanded below) all term in
    more ∙ ap (option_map (expanded below)) at ∙ ap Some (same_expanded number params below p q (untemplated_at number all (length ts) p none) h)
