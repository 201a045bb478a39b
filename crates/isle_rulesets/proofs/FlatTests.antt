-- The tests and the calls of a flat rule are its rule's, each once.
use Rattle.std.proofs.Common.{◌≡◌, ◌⊎◌, inl, inr, ⊎_elim, ℕ, zero, suc, List, [], ◌∷◌, ◌++◌, map, get_or, Bool, true, false, Some, eqb, eqb-true, not, refl, sym, ap, ◌∙◌, subst}
use Rattle.std.specs.Prelude.{Contains, filter, slice_get}
use Rattle.std.specs.List.{AllByRecursion}
use Rattle.std.proofs.lemmas.List.Elements.{All-contains, All-from_recursion, Contains-append_left, Contains-append_right, Contains-append_cases}
use Rattle.isle_core.specs.declared.BindingId.{BindingId}
use Rattle.isle_core.specs.declared.rule_sets.Constraint.{Constraint}
use Rattle.isle_core.specs.Path.{Path, Nowhere, at}
use Rattle.isle_core.specs.Tests.{Test, Is, Equal, HasItem, is_constraint}
use Rattle.isle_core.specs.RuleSet.{is_test, equal_test}
use Rattle.isle_core.specs.StandsFor.{EachOnce, AreFirsts, IsTrivial}
use Rattle.isle_core.proofs.Contained.{none_contained}
use Rattle.isle_rulesets.specs.Firsts.{are_two}
use Rattle.isle_rulesets.specs.Keys.{IsThere}
use Rattle.isle_rulesets.specs.PatternTests.{is_equality}
use Rattle.isle_rulesets.proofs.PlacedPaths.{there_once, append_once}
use Rattle.isle_rulesets.proofs.FirstLaws.{firsts_from, firsts_keep, firsts_once, firsts_map, map_contains, map_from}
use Rattle.isle_rulesets.proofs.LetLaws.{itself}
use Rattle.isle_rulesets.proofs.RuleTests.{IsSomewhere, Stands, filter_cases, filter_keeps}

-- a path that stands somewhere is there
pub at_there : (ps : List Path) (b : ℕ) (p : Path) → (p ≡ Nowhere → ⊥) → get_or ps b Nowhere ≡ p → slice_get ps b ≡ Some p
at_there [] b p h e = absurd (h (sym e))
at_there (q ∷ ps) zero p h e = ap Some e
at_there (q ∷ ps) (suc b) p h e = at_there ps b p h e

place_there : (ps : List Path) (b : BindingId) → IsSomewhere (at ps b) → IsThere ps b
place_there ps b w = (at ps b, at_there ps b.0 (at ps b) w refl)

is_parts : (p q : Path) (c d : Constraint) → Is p c ≡ Is q d → (p ≡ q) × (c ≡ d)
is_parts p q c d e = (cc, cc)

equal_parts : (p q r s : Path) → Equal p q ≡ Equal r s → (p ≡ r) × (q ≡ s)
equal_parts p q r s e = (cc, cc)

one_kind : (t : Test) → is_constraint t ≡ true → is_equality t ≡ true → ⊥
one_kind (Is p c) e f = cc
one_kind (Equal p q) e f = cc
one_kind (HasItem p) e f = cc

-- an equality with two numbers, or with one
two_or_one : (e : BindingId × BindingId) → (are_two e ≡ true) ⊎ (e.0 ≡ e.1)
two_or_one e = pick (eqb e.0.0 e.1.0) refl
  where
    pick : (b : Bool) → eqb e.0.0 e.1.0 ≡ b → (not b ≡ true) ⊎ (e.0 ≡ e.1)
    pick true same = inr (ap (λ n. record { 0 = n }) (eqb-true e.0.0 e.1.0 same))
    pick false same = inl refl

not_one : (a b : BindingId) → are_two (a, b) ≡ true → a ≡ b → ⊥
not_one a b e same = two_apart (eqb a.0 a.0) (itself a.0) (subst (λ (c : BindingId). not (eqb a.0 c.0) ≡ true) (sym same) e)
  where
    two_apart : (t : Bool) → t ≡ true → not t ≡ true → ⊥
    two_apart true f h = cc
    two_apart false f h = cc

-- ---- a rule's calls, where no path stands twice

-- the calls that stand first are those whose paths do
pub calls_first : (ps : List Path) (calls fs : List BindingId) → EachOnce ps → AllByRecursion (IsThere ps) calls → AreFirsts [] calls fs → AreFirsts [] (map (at ps) calls) (map (at ps) fs)
calls_first ps calls fs once there h = firsts_map (at ps) h (λ x y a b e. there_once ps x y once (stands x a) (stands y b) e)
  where
    stands : (x : BindingId) → Contains [] x ⊎ Contains calls x → IsThere ps x
    stands x a = ⊎_elim (λ c. absurd (none_contained x c)) (λ c. All-contains (IsThere ps) calls x (All-from_recursion (IsThere ps) calls there) c) a

-- ---- a rule's tests, where no path stands twice

module _ (ps : List Path) (once : EachOnce ps) (ts : List Test) (stand : (t : Test) → Contains ts t → Stands t) where
  constraint_there : (cs : List (BindingId × Constraint)) (c : BindingId × Constraint) → map (is_test ps) cs ≡ filter is_constraint ts → Contains cs c → IsThere ps c.0
  constraint_there cs c same k = place_there ps c.0 (stand (is_test ps c) (filter_cases is_constraint ts (is_test ps c) (subst (λ us. Contains us (is_test ps c)) same (map_contains (is_test ps) cs c k))).0)

  equal_there : (es : List (BindingId × BindingId)) (e : BindingId × BindingId) → map (equal_test ps) es ≡ filter is_equality ts → Contains es e → IsThere ps e.0 × IsThere ps e.1
  equal_there es e same k =
      let h = stand (equal_test ps e) (filter_cases is_equality ts (equal_test ps e) (subst (λ us. Contains us (equal_test ps e)) same (map_contains (equal_test ps) es e k))).0 in
      (place_there ps e.0 h.0, place_there ps e.1 h.1)

  -- the constraints that stand first are those whose paths do
  pub constraints_first : (cs fs : List (BindingId × Constraint)) → map (is_test ps) cs ≡ filter is_constraint ts → AreFirsts [] cs fs → AreFirsts [] (filter is_constraint ts) (map (is_test ps) fs)
  constraints_first cs fs same h =
      subst (λ us. AreFirsts [] us (map (is_test ps) fs)) same
      (firsts_map (is_test ps) h (λ x y a b e. apart x y (⊎_elim (λ c. absurd (none_contained x c)) (λ c. constraint_there cs x same c) a) (⊎_elim (λ c. absurd (none_contained y c)) (λ c. constraint_there cs y same c) b) e))
    where
      apart : (x y : BindingId × Constraint) → IsThere ps x.0 → IsThere ps y.0 → is_test ps x ≡ is_test ps y → x ≡ y
      apart x y a b e =
          let k = is_parts (at ps x.0) (at ps y.0) x.1 y.1 e in
          ap (λ n. (n, x.1)) (there_once ps x.0 y.0 once a b k.0) ∙ ap (λ c. (y.0, c)) k.1

  -- so of the equalities of two
  equals_first : (es fs : List (BindingId × BindingId)) → map (equal_test ps) es ≡ filter is_equality ts → AreFirsts [] (filter are_two es) fs → AreFirsts [] (map (equal_test ps) (filter are_two es)) (map (equal_test ps) fs)
  equals_first es fs same h =
      firsts_map (equal_test ps) h (λ x y a b e. apart x y (⊎_elim (λ c. absurd (none_contained x c)) (λ c. equal_there es x same (filter_cases are_two es x c).0) a) (⊎_elim (λ c. absurd (none_contained y c)) (λ c. equal_there es y same (filter_cases are_two es y c).0) b) e)
    where
      apart : (x y : BindingId × BindingId) → IsThere ps x.0 × IsThere ps x.1 → IsThere ps y.0 × IsThere ps y.1 → equal_test ps x ≡ equal_test ps y → x ≡ y
      apart x y a b e =
          let k = equal_parts (at ps x.0) (at ps x.1) (at ps y.0) (at ps y.1) e in
          ap (λ n. (n, x.1)) (there_once ps x.0 y.0 once a.0 b.0 k.0) ∙ ap (λ n. (y.0, n)) (there_once ps x.1 y.1 once a.1 b.1 k.1)

  module _ (cs fcs : List (BindingId × Constraint)) (es fes : List (BindingId × BindingId)) (same_cs : map (is_test ps) cs ≡ filter is_constraint ts) (same_es : map (equal_test ps) es ≡ filter is_equality ts) (first_cs : AreFirsts [] cs fcs) (first_es : AreFirsts [] (filter are_two es) fes) where
    -- a rule's test is one of the flat rule, or equates a path with itself, or is of an item
    pub tests_kept : (t : Test) → Contains ts t → Contains (map (is_test ps) fcs ++ map (equal_test ps) fes) t ⊎ IsTrivial t
    tests_kept (Is p c) k = inl (Contains-append_left (map (is_test ps) fcs) (map (equal_test ps) fes) (Is p c) (firsts_keep (filter is_constraint ts) (map (is_test ps) fcs) (Is p c) (constraints_first cs fcs same_cs first_cs) (filter_keeps is_constraint ts (Is p c) refl k)))
    tests_kept (Equal p q) k =
        let h = map_from (equal_test ps) es (Equal p q) (subst (λ us. Contains us (Equal p q)) (sym same_es) (filter_keeps is_equality ts (Equal p q) refl k)) in
        ⊎_elim
        (λ two. inl (Contains-append_right (map (is_test ps) fcs) (map (equal_test ps) fes) (Equal p q) (subst (Contains (map (equal_test ps) fes)) h.2 (map_contains (equal_test ps) fes h.0 (firsts_keep (filter are_two es) fes h.0 first_es (filter_keeps are_two es h.0 two h.1))))))
        (λ one. let k = equal_parts (at ps h.0.0) (at ps h.0.1) p q h.2 in inr (sym k.0 ∙ ap (at ps) one ∙ k.1)) (two_or_one h.0)
    tests_kept (HasItem p) k = inr tt

    -- a flat rule's test is one of the rule, and equates no path with itself
    pub tests_from : (t : Test) → Contains (map (is_test ps) fcs ++ map (equal_test ps) fes) t → Contains ts t × (IsTrivial t → ⊥)
    tests_from t k =
        ⊎_elim (λ c. let h = filter_cases is_constraint ts t (firsts_from t (constraints_first cs fcs same_cs first_cs) c) in (h.0, constraint_apart t h.1)) (λ c. equal_from (map_from (equal_test ps) fes t c)) (Contains-append_cases (map (is_test ps) fcs) (map (equal_test ps) fes) t k)
      where
        constraint_apart : (t : Test) → is_constraint t ≡ true → IsTrivial t → ⊥
        constraint_apart (Is p c) e h = absurd h
        constraint_apart (Equal p q) e h = cc
        constraint_apart (HasItem p) e h = cc

        equal_from : (e : BindingId × BindingId) × Contains fes e × (equal_test ps e ≡ t) → Contains ts t × (IsTrivial t → ⊥)
        equal_from k =
            let h = filter_cases are_two es k.0 (firsts_from k.0 first_es k.1) in
            let there = equal_there es k.0 same_es h.0 in
            subst (λ u. Contains ts u × (IsTrivial u → ⊥)) k.2
            ((filter_cases is_equality ts (equal_test ps k.0) (subst (λ us. Contains us (equal_test ps k.0)) same_es (map_contains (equal_test ps) es k.0 h.0))).0, λ one. not_one k.0.0 k.0.1 h.1 (there_once ps k.0.0 k.0.1 once there.0 there.1 one))

    -- no test stands twice
    pub tests_once : EachOnce (map (is_test ps) fcs ++ map (equal_test ps) fes)
    tests_once =
        append_once (map (is_test ps) fcs) (map (equal_test ps) fes) (firsts_once (constraints_first cs fcs same_cs first_cs)) (firsts_once (equals_first es fes same_es first_es))
        (λ t c d. one_kind t (filter_cases is_constraint ts t (firsts_from t (constraints_first cs fcs same_cs first_cs) c)).1 (let h = map_from (equal_test ps) fes t d in subst (λ u. is_equality u ≡ true) h.2 refl))
