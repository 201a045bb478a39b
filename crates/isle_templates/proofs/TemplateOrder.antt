-- Where no template reaches itself, templates with those that they use replaced stay as they are, however deep more is replaced.
use Rattle.std.proofs.Common.{◌≡◌, ⊎_elim, ℕ, zero, suc, ◌+◌, ◌<◌, ◌≤◌, List, [], ◌∷◌, length, map, Option, Some, None, refl, sym, ap, ◌∙◌, subst, arith}
use Rattle.std.specs.Prelude.{Contains, slice_get, option_map, option_and_then}
use Rattle.std.proofs.lemmas.List.{length-map}
use Rattle.std.proofs.lemmas.List.Elements.{Contains-append_left, Contains-append_right, Contains-append_cases}
use Rattle.std.proofs.lemmas.Option.{slice_get-map, slice_get_within}
use Rattle.isle_base.specs.declared.ids.TermId.{TermId}
use Rattle.isle_core.proofs.Contained.{head_contained, contained_cases, none_contained}
use Rattle.isle_core.specs.Pattern as pattern
use Rattle.isle_core.specs.Pattern.{Pattern, Patterns, NoPattern, APattern}
use Rattle.isle_core.specs.RuleViews.{patterns_of}
use Rattle.isle_walks.specs.Walks.{nodes_or_none, next_of, AreNodes, IsOrdered, IsOrder}
use Rattle.isle_templates.specs.Substituted.{blank, template_of, opened, expanded, all_expanded, templates_at, whole_templates}
use Rattle.isle_templates.specs.Uses.{used_one, used_in, all_used_in, used_by, uses}

-- the template of a term among changed ones
template_changed : (f : Pattern → Pattern) (written : List (Option Pattern)) (term : TermId) → template_of (map (option_map f) written) term ≡ option_map f (template_of written term)
template_changed f written term = ap (option_and_then (λ (t : Option Pattern). t)) (slice_get-map (option_map f) written term.0) ∙ pick (slice_get written term.0)
  where
    pick : (o : Option (Option Pattern)) → option_and_then (λ (t : Option Pattern). t) (option_map (option_map f) o) ≡ option_map f (option_and_then (λ (t : Option Pattern). t) o)
    pick None = refl
    pick (Some t) = refl

-- a template is there at its term's number
pub template_there : (written : List (Option Pattern)) (term : TermId) (t : Pattern) → template_of written term ≡ Some t → slice_get written term.0 ≡ Some (Some t)
template_there written term t e = pick (slice_get written term.0) refl
  where
    pick : (o : Option (Option Pattern)) → slice_get written term.0 ≡ o → slice_get written term.0 ≡ Some (Some t)
    pick None is = let none : ◌≡◌ {A = Option Pattern} None (Some t) = sym (ap (option_and_then (λ (x : Option Pattern). x)) is) ∙ e in absurd cc
    pick (Some o) is = is ∙ ap Some (sym (ap (option_and_then (λ (x : Option Pattern). x)) is) ∙ e)

-- the terms that a template uses
pub next_used : (written : List (Option Pattern)) (term : TermId) (t : Pattern) → template_of written term ≡ Some t → next_of (uses written) term.0 ≡ used_in written t
next_used written term t e = ap nodes_or_none (slice_get-map (used_by written) written term.0 ∙ ap (option_map (used_by written)) (template_there written term t e))

module _ (written a b : List (Option Pattern)) (outside : (term : TermId) → template_of written term ≡ None → template_of a term ≡ template_of b term) where
  term_alike : (term : TermId) → (Contains (used_one (template_of written term) term) term.0 → template_of a term ≡ template_of b term) → template_of a term ≡ template_of b term
  term_alike term alike = pick (template_of written term) refl alike
    where
      pick : (o : Option Pattern) → template_of written term ≡ o → (Contains (used_one o term) term.0 → template_of a term ≡ template_of b term) → template_of a term ≡ template_of b term
      pick None e same = outside term e
      pick (Some t) e same = same (head_contained term.0 [])

  mutual
    -- a pattern is the same if the templates that it uses are
    pub expanded_alike : (p : Pattern) → ((term : TermId) → Contains (used_in written p) term.0 → template_of a term ≡ template_of b term) → expanded a p ≡ expanded b p
    expanded_alike (pattern.BindPattern ty x p) alike = ap (pattern.BindPattern ty x) (expanded_alike p alike)
    expanded_alike (pattern.Var ty x) alike = refl
    expanded_alike (pattern.ConstBool c) alike = refl
    expanded_alike (pattern.ConstInt ty n) alike = refl
    expanded_alike (pattern.ConstPrim ty name) alike = refl
    expanded_alike (pattern.Term ty term ps) alike =
        ap (λ o. opened o ty term (all_expanded a ps)) (term_alike term (λ c. alike term (Contains-append_left (used_one (template_of written term) term) (all_used_in written ps) term.0 c)))
        ∙ ap (opened (template_of b term) ty term) (all_alike ps (λ other c. alike other (Contains-append_right (used_one (template_of written term) term) (all_used_in written ps) other.0 c)))
    expanded_alike (pattern.Wildcard ty) alike = refl
    expanded_alike (pattern.And ty ps) alike = ap (λ qs. pattern.And ty (patterns_of qs)) (all_alike ps alike)

    all_alike : (ps : Patterns) → ((term : TermId) → Contains (all_used_in written ps) term.0 → template_of a term ≡ template_of b term) → all_expanded a ps ≡ all_expanded b ps
    all_alike NoPattern alike = refl
    all_alike (APattern p ps) alike =
        ap (λ q. q ∷ all_expanded a ps) (expanded_alike p (λ term c. alike term (Contains-append_left (used_in written p) (all_used_in written ps) term.0 c)))
        ∙ ap (λ qs. expanded b p ∷ qs) (all_alike ps (λ term c. alike term (Contains-append_right (used_in written p) (all_used_in written ps) term.0 c)))

module _ (written : List (Option Pattern)) where
  -- a term without a template has none at any depth
  none_at : (depth : ℕ) (term : TermId) → template_of written term ≡ None → template_of (templates_at written depth) term ≡ None
  none_at zero term e = template_changed blank written term ∙ ap (option_map blank) e
  none_at (suc depth) term e = template_changed (expanded (templates_at written depth)) written term ∙ ap (option_map (expanded (templates_at written depth))) e

  -- the templates of these terms are the same from a depth on
  abbrev AreSettled : List ℕ → ℕ → Type 0
  AreSettled terms depth = (term : TermId) → Contains terms term.0 → (d : ℕ) → depth ≤ d → template_of (templates_at written (suc d)) term ≡ template_of (templates_at written d) term

  -- and so is that of a term whose template uses only these, one deeper
  settled_next : (terms : List ℕ) (depth : ℕ) (term : TermId) → AreSettled terms depth → ((next : ℕ) → Contains (next_of (uses written) term.0) next → Contains terms next) → (d : ℕ) → depth ≤ d
      → template_of (templates_at written (suc (suc d))) term ≡ template_of (templates_at written (suc d)) term
  settled_next terms depth term settled leads d le = pick (template_of written term) refl
    where
      pick : (o : Option Pattern) → template_of written term ≡ o → template_of (templates_at written (suc (suc d))) term ≡ template_of (templates_at written (suc d)) term
      pick None e = none_at (suc (suc d)) term e ∙ sym (none_at (suc d) term e)
      pick (Some t) e =
          let same : expanded (templates_at written (suc d)) t ≡ expanded (templates_at written d) t =
          expanded_alike written (templates_at written (suc d)) (templates_at written d) (λ other none. none_at (suc d) other none ∙ sym (none_at d other none)) t
          (λ other c. settled other (leads other.0 (subst (λ xs. Contains xs other.0) (sym (next_used written term t e)) c)) d le) in
          template_changed (expanded (templates_at written (suc d))) written term
          ∙ ap (option_map (expanded (templates_at written (suc d)))) e
          ∙ ap Some same
          ∙ sym (template_changed (expanded (templates_at written d)) written term ∙ ap (option_map (expanded (templates_at written d))) e)

  settled_more : (terms : List ℕ) (depth node : ℕ) → AreSettled terms depth → ((next : ℕ) → Contains (next_of (uses written) node) next → Contains terms next) → AreSettled (node ∷ terms) (suc depth)
  settled_more terms depth node settled leads term c zero le = absurd (omega arith)
  settled_more terms depth node settled leads term c (suc d) le = ⊎_elim
      (λ (e : node ≡ term.0). settled_next terms depth term settled (λ next f. leads next (subst (λ n. Contains (next_of (uses written) n) next) (sym e) f)) d (omega arith))
      (λ f. settled term f (suc d) (omega arith))
      (contained_cases node terms term.0 c)

  -- so those of all terms in an order
  settled_all : (nodes before : List ℕ) (depth : ℕ) → IsOrdered (uses written) before nodes → AreSettled before depth → (term : TermId) → Contains nodes term.0 → (d : ℕ) → depth + length nodes ≤ d
      → template_of (templates_at written (suc d)) term ≡ template_of (templates_at written d) term
  settled_all [] before depth ordered settled term c d le = absurd (none_contained term.0 c)
  settled_all (node ∷ nodes) before depth ordered settled term c d le =
      let next = settled_more before depth node settled ordered.0 in
      ⊎_elim
      (λ (e : node ≡ term.0). next term (subst (Contains (node ∷ before)) e (head_contained node before)) d (omega arith))
      (λ f. settled_all nodes (node ∷ before) (suc depth) ordered.1 next term f d (omega arith))
      (contained_cases node nodes term.0 c)

  -- a template with those that it uses replaced has no more to replace
  pub whole_fixed : (order : List ℕ) → IsOrder (uses written) order → (term : TermId) → template_of (whole_templates written) term ≡ option_map (expanded (whole_templates written)) (template_of written term)
  whole_fixed order is term = pick (template_of written term) refl
    where
      pick : (o : Option Pattern) → template_of written term ≡ o → template_of (whole_templates written) term ≡ option_map (expanded (whole_templates written)) (template_of written term)
      pick None e = none_at (length written) term e ∙ sym (ap (option_map (expanded (whole_templates written))) e)
      pick (Some t) e =
          let there = slice_get_within written term.0 (Some t) (template_there written term t e) in
          let many : length (uses written) ≡ length written = length-map written (used_by written) in
          let count = is.many in
          let settled : template_of (templates_at written (suc (length written))) term ≡ template_of (templates_at written (length written)) term =
          settled_all order [] 0 is.ordered (λ other c. absurd (none_contained other.0 c)) term (is.all term.0 (omega (arith, many, there))) (length written) (omega (arith, many, count)) in
          sym settled ∙ template_changed (expanded (whole_templates written)) written term

  one_there : (term : TermId) (x : ℕ) → Contains (used_one (template_of written term) term) x → x < length written
  one_there term x c = pick (template_of written term) refl c
    where
      pick : (o : Option Pattern) → template_of written term ≡ o → Contains (used_one o term) x → x < length written
      pick None e d = absurd (none_contained x d)
      pick (Some t) e d = ⊎_elim
          (λ (f : term.0 ≡ x). subst (λ n. n < length written) f (slice_get_within written term.0 (Some t) (template_there written term t e)))
          (λ f. absurd (none_contained x f))
          (contained_cases term.0 [] x d)

  mutual
    used_there : (p : Pattern) (x : ℕ) → Contains (used_in written p) x → x < length written
    used_there (pattern.BindPattern ty y p) x c = used_there p x c
    used_there (pattern.Var ty y) x c = absurd (none_contained x c)
    used_there (pattern.ConstBool b) x c = absurd (none_contained x c)
    used_there (pattern.ConstInt ty n) x c = absurd (none_contained x c)
    used_there (pattern.ConstPrim ty name) x c = absurd (none_contained x c)
    used_there (pattern.Term ty term ps) x c = ⊎_elim (λ d. one_there term x d) (λ d. all_there ps x d) (Contains-append_cases (used_one (template_of written term) term) (all_used_in written ps) x c)
    used_there (pattern.Wildcard ty) x c = absurd (none_contained x c)
    used_there (pattern.And ty ps) x c = all_there ps x c

    all_there : (ps : Patterns) (x : ℕ) → Contains (all_used_in written ps) x → x < length written
    all_there NoPattern x c = absurd (none_contained x c)
    all_there (APattern p ps) x c = ⊎_elim (λ d. used_there p x d) (λ d. all_there ps x d) (Contains-append_cases (used_in written p) (all_used_in written ps) x c)

  -- a template uses terms that are there
  pub uses_there : AreNodes (uses written)
  uses_there node next c = subst (λ n. next < n) (sym (length-map written (used_by written))) (pick (slice_get written node) (subst (λ xs. Contains xs next) (ap nodes_or_none (slice_get-map (used_by written) written node)) c))
    where
      pick : (o : Option (Option Pattern)) → Contains (nodes_or_none (option_map (used_by written) o)) next → next < length written
      pick None d = absurd (none_contained next d)
      pick (Some None) d = absurd (none_contained next d)
      pick (Some (Some t)) d = used_there t next d
