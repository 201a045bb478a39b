-- The order of a rule's variables has each variable that stands in the rule.
use Rattle.std.proofs.Common.{◌≡◌, ◌⊎◌, inl, inr, ⊎_elim, ℕ, List, [], ◌∷◌, ◌++◌, cond, Option, Some, None, refl, subst}
use Rattle.std.specs.Prelude.{Contains, flat_map, fold, is_some}
use Rattle.std.proofs.lemmas.List.Elements.{Contains-append_left, Contains-append_right, Contains-append_cases, Contains-push}
use Rattle.std.proofs.lemmas.Option.{slice_get_within, get_or_from_slice_get}
use Rattle.isle_base.specs.declared.ids.TypeId.{TypeId}
use Rattle.isle_core.proofs.Contained.{head_contained, tail_contained, contained_cases, none_contained}
use Rattle.isle_core.specs.Pattern as pattern
use Rattle.isle_core.specs.Pattern.{Pattern, Patterns, NoPattern, APattern}
use Rattle.isle_core.specs.Rule.{Rule}
use Rattle.isle_core.specs.TypedVariables.{typed_variables, typed_within, all_typed}
use Rattle.isle_templates.specs.Renumbered.{pattern_variables, patterns_variables, rule_variables, place_of, joined, order_of}
use Rattle.isle_templates.proofs.NewNumbers.{place_at}
use Rattle.isle_templates.proofs.RenamedExprs.{AreAmong}

-- a variable joined to others is there, and so are they
joined_last : (xs : List ℕ) (x : ℕ) → Contains (joined xs x) x
joined_last xs x = pick (place_of xs x) refl
  where
    pick : (o : Option ℕ) → place_of xs x ≡ o → Contains (cond (is_some o) xs (xs ++ x ∷ [])) x
    pick None e = Contains-push xs x
    pick (Some i) e = let at = place_at xs x i e in (i, slice_get_within xs i x at, get_or_from_slice_get xs i x x at)

joined_keeps : (xs : List ℕ) (y x : ℕ) → Contains xs x → Contains (joined xs y) x
joined_keeps xs y x c = pick (place_of xs y)
  where
    pick : (o : Option ℕ) → Contains (cond (is_some o) xs (xs ++ y ∷ [])) x
    pick None = Contains-append_left xs (y ∷ []) x c
    pick (Some i) = c

all_joined : (xs start : List ℕ) (x : ℕ) → Contains start x ⊎ Contains xs x → Contains (fold joined start xs) x
all_joined [] start x c = ⊎_elim (λ d. d) (λ d. absurd (none_contained x d)) c
all_joined (y ∷ xs) start x c = all_joined xs (joined start y) x
    (⊎_elim
    (λ d. inl (joined_keeps start y x d))
    (λ d. ⊎_elim (λ (e : y ≡ x). inl (subst (λ z. Contains (joined start y) z) e (joined_last start y))) (λ f. inr f) (contained_cases y xs x d))
    c)

-- all that stand in a rule are in its order
pub order_among : (r : Rule) → AreAmong (order_of r) (rule_variables r)
order_among r x c = all_joined (rule_variables r) [] x (inr c)

-- the number of a pattern's variable is one of its variables
module _ (v : TypeId × ℕ) where
  mutual
    pub pattern_holds : (p : Pattern) → Contains (typed_variables p) v → Contains (pattern_variables p) v.1
    pattern_holds (pattern.Var of x) c = ⊎_elim
        (λ (e : (of, x.0) ≡ v). subst (λ u. Contains (x.0 ∷ []) u.1) e (head_contained x.0 []))
        (λ d. absurd (none_contained v d))
        (contained_cases (of, x.0) [] v c)
    pattern_holds (pattern.ConstBool b) c = absurd (none_contained v c)
    pattern_holds (pattern.ConstInt of n) c = absurd (none_contained v c)
    pattern_holds (pattern.ConstPrim of name) c = absurd (none_contained v c)
    pattern_holds (pattern.Wildcard of) c = absurd (none_contained v c)
    pattern_holds (pattern.Term of term ps) c = parts_hold ps c
    pattern_holds (pattern.And of ps) c = parts_hold ps c
    pattern_holds (pattern.BindPattern of x p) c = ⊎_elim
        (λ (e : (of, x.0) ≡ v). subst (λ u. Contains (x.0 ∷ pattern_variables p) u.1) e (head_contained x.0 (pattern_variables p)))
        (λ d. tail_contained x.0 (pattern_variables p) v.1 (pattern_holds p d))
        (contained_cases (of, x.0) (typed_variables p) v c)

    parts_hold : (ps : Patterns) → Contains (typed_within ps) v → Contains (patterns_variables ps) v.1
    parts_hold NoPattern c = absurd (none_contained v c)
    parts_hold (APattern p ps) c = ⊎_elim
        (λ d. Contains-append_left (pattern_variables p) (patterns_variables ps) v.1 (pattern_holds p d))
        (λ d. Contains-append_right (pattern_variables p) (patterns_variables ps) v.1 (parts_hold ps d))
        (Contains-append_cases (typed_variables p) (typed_within ps) v c)

  pub all_hold : (ps : List Pattern) → Contains (all_typed ps) v → Contains (flat_map pattern_variables ps) v.1
  all_hold [] c = absurd (none_contained v c)
  all_hold (p ∷ ps) c = ⊎_elim
      (λ d. Contains-append_left (pattern_variables p) (flat_map pattern_variables ps) v.1 (pattern_holds p d))
      (λ d. Contains-append_right (pattern_variables p) (flat_map pattern_variables ps) v.1 (all_hold ps d))
      (Contains-append_cases (typed_variables p) (all_typed ps) v c)
