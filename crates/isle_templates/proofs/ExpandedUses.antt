-- What a pattern uses once its templates are replaced, it uses by itself or through templates.
use Rattle.std.proofs.Common.{◌≡◌, ◌⊎◌, inl, inr, ⊎_elim, ℕ, zero, suc, List, [], ◌∷◌, length, Bool, true, false, Option, Some, None, refl, sym, ap, ◌∙◌}
use Rattle.std.specs.Prelude.{◌||◌, slice_get, option_map}
use Rattle.std.specs.List.{list_any}
use Rattle.isle_base.specs.declared.ids.TermId.{TermId}
use Rattle.isle_base.specs.declared.ids.TypeId.{TypeId}
use Rattle.isle_base.specs.declared.ids.VarId.{VarId}
use Rattle.isle_core.specs.Pattern as pattern
use Rattle.isle_core.specs.Pattern.{Pattern, Patterns, NoPattern, APattern}
use Rattle.isle_core.specs.RuleViews.{patterns_of}
use Rattle.isle_templates.specs.Substituted.{argument, blank, expanded, all_expanded, opened, pattern_or, substituted, all_substituted, template_of, templates_at, whole_templates}
use Rattle.isle_templates.proofs.WholeTemplates.{template_at}
use Rattle.isle_templates.specs.Multi.{marked, uses_one, uses_any, multi_by, multi_at, is_multi}
use Rattle.isle_templates.proofs.MarkedTerms.{plain_at}

one_true : (a b : Bool) → a || b ≡ true → (a ≡ true) ⊎ (b ≡ true)
one_true true b h = inl refl
one_true false b h = inr h

first_true : (a b : Bool) → a ≡ true → a || b ≡ true
first_true true b h = refl
first_true false b h = absurd cc

second_true : (a b : Bool) → b ≡ true → a || b ≡ true
second_true true b h = refl
second_true false b h = h

-- ---- patterns in place of parameters

module _ (f : ℕ → Bool) where
  one_there : (args : List Pattern) (n : ℕ) (p : Pattern) → slice_get args n ≡ Some p → uses_one f p ≡ true → list_any (uses_one f) args ≡ true
  one_there [] n p e h = absurd cc
  one_there (a ∷ args) zero p e h = let same : a ≡ p = cc in first_true (uses_one f a) (list_any (uses_one f) args) (ap (uses_one f) same ∙ h)
  one_there (a ∷ args) (suc n) p e h = second_true (uses_one f a) (list_any (uses_one f) args) (one_there args n p e h)

  argument_uses : (args : List Pattern) (ty : TypeId) (x : VarId) → uses_one f (argument args ty x) ≡ true → list_any (uses_one f) args ≡ true
  argument_uses args ty x h = by (slice_get args x.0) refl h
    where
      by : (o : Option Pattern) → slice_get args x.0 ≡ o → uses_one f (pattern_or (pattern.Var ty x) o) ≡ true → list_any (uses_one f) args ≡ true
      by None e k = absurd cc
      by (Some p) e k = one_there args x.0 p e k

  mutual
    -- a template with patterns in it uses what it uses, and what they use
    substituted_uses : (args : List Pattern) (p : Pattern) → uses_one f (substituted args p) ≡ true → (uses_one f p ≡ true) ⊎ (list_any (uses_one f) args ≡ true)
    substituted_uses args (pattern.BindPattern ty x p) h = ⊎_elim
        (λ k. inr (argument_uses args ty x k))
        (λ k. ⊎_elim (λ l. substituted_uses args p l) (λ l. absurd cc) (one_true (uses_one f (substituted args p)) false k))
        (one_true (uses_one f (argument args ty x)) (uses_one f (substituted args p) || false) h)
    substituted_uses args (pattern.Var ty x) h = inr (argument_uses args ty x h)
    substituted_uses args (pattern.ConstBool b) h = absurd cc
    substituted_uses args (pattern.ConstInt ty n) h = absurd cc
    substituted_uses args (pattern.ConstPrim ty name) h = absurd cc
    substituted_uses args (pattern.Term ty term ps) h = ⊎_elim
        (λ k. inl (first_true (f term.0) (uses_any f ps) k))
        (λ k. ⊎_elim (λ l. inl (second_true (f term.0) (uses_any f ps) l)) (λ l. inr l) (all_substituted_use args ps k))
        (one_true (f term.0) (uses_any f (all_substituted args ps)) h)
    substituted_uses args (pattern.Wildcard ty) h = absurd cc
    substituted_uses args (pattern.And ty ps) h = all_substituted_use args ps h

    all_substituted_use : (args : List Pattern) (ps : Patterns) → uses_any f (all_substituted args ps) ≡ true → (uses_any f ps ≡ true) ⊎ (list_any (uses_one f) args ≡ true)
    all_substituted_use args NoPattern h = absurd cc
    all_substituted_use args (APattern p ps) h = ⊎_elim
        (λ k. ⊎_elim (λ l. inl (first_true (uses_one f p) (uses_any f ps) l)) (λ l. inr l) (substituted_uses args p k))
        (λ k. ⊎_elim (λ l. inl (second_true (uses_one f p) (uses_any f ps) l)) (λ l. inr l) (all_substituted_use args ps k))
        (one_true (uses_one f (substituted args p)) (uses_any f (all_substituted args ps)) h)

  any_listed : (ps : List Pattern) → uses_any f (patterns_of ps) ≡ list_any (uses_one f) ps
  any_listed [] = refl
  any_listed (p ∷ ps) = ap (λ b. uses_one f p || b) (any_listed ps)

-- ---- templates in place of terms

module _ (written : List (Option Pattern)) (declared : List Bool) where
  -- what a template at this depth uses makes its term `multi`
  abbrev AreMade : ℕ → Type 0
  AreMade depth = (term : TermId) (t : Pattern) → template_of (templates_at written depth) term ≡ Some t → uses_one (marked declared) t ≡ true → multi_at written declared depth term.0 ≡ true

  -- a term that has no template at some depth has none
  none_written : (depth : ℕ) (term : TermId) → template_of (templates_at written depth) term ≡ None → template_of written term ≡ None
  none_written zero term e = by (template_of written term) (sym (template_at blank written term) ∙ e)
    where
      by : (o : Option Pattern) → option_map blank o ≡ None → o ≡ None
      by None k = refl
      by (Some t) k = absurd cc
  none_written (suc depth) term e = by (template_of written term) (sym (template_at (expanded (templates_at written depth)) written term) ∙ e)
    where
      by : (o : Option Pattern) → option_map (expanded (templates_at written depth)) o ≡ None → o ≡ None
      by None k = refl
      by (Some t) k = absurd cc

  -- a term on these patterns, or its template with them
  term_at : (depth : ℕ) (ty : TypeId) (term : TermId) (ps : Patterns) → AreMade depth → (list_any (uses_one (marked declared)) (all_expanded (templates_at written depth) ps) ≡ true → uses_any (multi_at written declared depth) ps ≡ true)
      → (o : Option Pattern) → template_of (templates_at written depth) term ≡ o → uses_one (marked declared) (opened o ty term (all_expanded (templates_at written depth) ps)) ≡ true → multi_at written declared depth term.0 || uses_any (multi_at written declared depth) ps ≡ true
  term_at depth ty term ps made within None e h = ⊎_elim
      (λ l. first_true (multi_at written declared depth term.0) (uses_any (multi_at written declared depth) ps) (plain_at written declared depth term (none_written depth term e) ∙ l))
      (λ l. second_true (multi_at written declared depth term.0) (uses_any (multi_at written declared depth) ps) (within (sym (any_listed (marked declared) (all_expanded (templates_at written depth) ps)) ∙ l)))
      (one_true (marked declared term.0) (uses_any (marked declared) (patterns_of (all_expanded (templates_at written depth) ps))) h)
  term_at depth ty term ps made within (Some t) e h = ⊎_elim
      (λ l. first_true (multi_at written declared depth term.0) (uses_any (multi_at written declared depth) ps) (made term t e l))
      (λ l. second_true (multi_at written declared depth term.0) (uses_any (multi_at written declared depth) ps) (within l))
      (substituted_uses (marked declared) (all_expanded (templates_at written depth) ps) t h)

  mutual
    expanded_at : (depth : ℕ) (p : Pattern) → AreMade depth → uses_one (marked declared) (expanded (templates_at written depth) p) ≡ true → uses_one (multi_at written declared depth) p ≡ true
    expanded_at depth (pattern.BindPattern ty x p) made h = expanded_at depth p made h
    expanded_at depth (pattern.Var ty x) made h = absurd cc
    expanded_at depth (pattern.ConstBool b) made h = absurd cc
    expanded_at depth (pattern.ConstInt ty n) made h = absurd cc
    expanded_at depth (pattern.ConstPrim ty name) made h = absurd cc
    expanded_at depth (pattern.Term ty term ps) made h = term_at depth ty term ps made (λ k. all_expanded_at depth ps made k) (template_of (templates_at written depth) term) refl h
    expanded_at depth (pattern.Wildcard ty) made h = absurd cc
    expanded_at depth (pattern.And ty ps) made h = all_expanded_at depth ps made (sym (any_listed (marked declared) (all_expanded (templates_at written depth) ps)) ∙ h)

    all_expanded_at : (depth : ℕ) (ps : Patterns) → AreMade depth → list_any (uses_one (marked declared)) (all_expanded (templates_at written depth) ps) ≡ true → uses_any (multi_at written declared depth) ps ≡ true
    all_expanded_at depth NoPattern made h = absurd cc
    all_expanded_at depth (APattern p ps) made h = ⊎_elim
        (λ k. first_true (uses_one (multi_at written declared depth) p) (uses_any (multi_at written declared depth) ps) (expanded_at depth p made k))
        (λ k. second_true (uses_one (multi_at written declared depth) p) (uses_any (multi_at written declared depth) ps) (all_expanded_at depth ps made k))
        (one_true (uses_one (marked declared) (expanded (templates_at written depth) p)) (list_any (uses_one (marked declared)) (all_expanded (templates_at written depth) ps)) h)

  made_by : (depth : ℕ) (term : TermId) (t : Pattern) → AreMade depth → (o : Option Pattern) → template_of written term ≡ o → option_map (expanded (templates_at written depth)) o ≡ Some t → uses_one (marked declared) t ≡ true → multi_at written declared (suc depth) term.0 ≡ true
  made_by depth term t made None is e h = absurd cc
  made_by depth term t made (Some q) is e h =
      let same : expanded (templates_at written depth) q ≡ t = cc in
      ap (multi_by (marked declared term.0) (multi_at written declared depth)) is ∙ expanded_at depth q made (ap (uses_one (marked declared)) same ∙ h)

  are_made : (depth : ℕ) → AreMade depth
  are_made zero term t e h = by (template_of written term) (sym (template_at blank written term) ∙ e)
    where
      by : (o : Option Pattern) → option_map blank o ≡ Some t → multi_at written declared 0 term.0 ≡ true
      by None k = absurd cc
      by (Some q) k = let same : blank q ≡ t = cc in let bad : false ≡ true = ap (uses_one (marked declared)) same ∙ h in absurd cc
  are_made (suc depth) term t e h = made_by depth term t (are_made depth) (template_of written term) refl (sym (template_at (expanded (templates_at written depth)) written term) ∙ e) h

  -- a pattern that uses a `multi` term once its templates are replaced uses one by itself or through templates
  pub expanded_uses : (p : Pattern) → uses_one (marked declared) (expanded (whole_templates written) p) ≡ true → uses_one (is_multi written declared) p ≡ true
  expanded_uses p h = expanded_at (length written) p (are_made (length written)) h
