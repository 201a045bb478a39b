-- The tests of flat rules as those of the rules that they are.
use Rattle.std.proofs.Common.{◌≡◌, ◌⊎◌, inl, inr, ⊎_elim, ℕ, List, [], ◌∷◌, ◌++◌, map, true, refl, sym, ap, subst}
use Rattle.std.specs.Prelude.{Contains}
use Rattle.std.proofs.lemmas.List.Elements.{Contains-append_left}
use Rattle.std.specs.List.{AllByRecursion}
use Rattle.isle_core.specs.declared.BindingId.{BindingId}
use Rattle.isle_core.specs.declared.rule_sets.Constraint.{Constraint}
use Rattle.isle_core.specs.declared.rule_sets.FlatRule.{FlatRule}
use Rattle.isle_core.specs.Path.{Path}
use Rattle.isle_core.specs.Rule.{Environment, Rule}
use Rattle.isle_core.specs.RuleSet.{is_test, equal_test, flat_tests}
use Rattle.isle_core.specs.StandsFor.{IsFlat, IsTrivial}
use Rattle.isle_core.specs.Tests.{Test, is_constraint, rule_tests}
use Rattle.isle_core.proofs.Contained.{head_contained, tail_contained, contained_cases, none_contained}
use Rattle.isle_core.proofs.RulePairs.{all_at}
use Rattle.isle_blocks.specs.AllTests.{AreAmong}
use Rattle.isle_run.specs.RuleWants.{TestsWithin}

-- the constraint that a test is of
pub record ConstraintOf (ps : List Path) (cs : List (BindingId × Constraint)) (x : Test) : Type 0 where
  pub of : BindingId × Constraint
  pub in' : Contains cs of
  pub is : is_test ps of ≡ x

pub constraint_of : (ps : List Path) (cs : List (BindingId × Constraint)) (x : Test) → Contains (map (is_test ps) cs) x → ConstraintOf ps cs x
constraint_of ps [] x h = absurd (none_contained x h)
constraint_of ps (y ∷ cs) x h = ⊎_elim
    (λ (e : is_test ps y ≡ x). record { of = y; in' = head_contained y cs; is = e })
    (λ d. let k = constraint_of ps cs x d in record { of = k.of; in' = tail_contained y cs k.of k.in'; is = k.is }) (contained_cases (is_test ps y) (map (is_test ps) cs) x h)

-- the test of a constraint among those of its list
test_in : (ps : List Path) (cs : List (BindingId × Constraint)) (c : BindingId × Constraint) → Contains cs c → Contains (map (is_test ps) cs) (is_test ps c)
test_in ps [] c h = absurd (none_contained c h)
test_in ps (y ∷ cs) c h = ⊎_elim
    (λ (e : y ≡ c). subst (λ z. Contains (is_test ps y ∷ map (is_test ps) cs) (is_test ps z)) e (head_contained (is_test ps y) (map (is_test ps) cs)))
    (λ d. tail_contained (is_test ps y) (map (is_test ps) cs) (is_test ps c) (test_in ps cs c d)) (contained_cases y cs c h)

-- what stands in one list after another
pub in_either : {A : Type 0} (xs ys : List A) (x : A) → Contains (xs ++ ys) x → Contains xs x ⊎ Contains ys x
in_either [] ys x c = inr c
in_either (y ∷ xs) ys x c = ⊎_elim
    (λ (e : y ≡ x). inl (subst (Contains (y ∷ xs)) e (head_contained y xs)))
    (λ d. ⊎_elim (λ k. inl (tail_contained y xs x k)) (λ k. inr k) (in_either xs ys x d)) (contained_cases y (xs ++ ys) x c)

-- each test of a rule whose flat rule has no equalities, and these constraints alone, is trivial or the other rule's
pub tests_within : (env : Environment) (ps : List Path) (h r : Rule) (m n : ℕ) (g f : FlatRule) → IsFlat env ps h m g → IsFlat env ps r n f → g.equals ≡ [] → AreAmong g.constraints f.constraints → TestsWithin env h r
tests_within env ps h r m n g f of is equals among = within (rule_tests env h) (λ y j. of.tested y j)
  where
    in_rule : (y : Test) → Contains (map (is_test ps) f.constraints) y → Contains (rule_tests env r) y
    in_rule y i = (is.no_other y (Contains-append_left (map (is_test ps) f.constraints) (map (equal_test ps) f.equals) y i)).0

    none : flat_tests ps g ≡ map (is_test ps) g.constraints ++ []
    none = ap (λ es. map (is_test ps) g.constraints ++ map (equal_test ps) es) equals

    here : (y : Test) → Contains (flat_tests ps g) y → IsTrivial y ⊎ ((is_constraint y ≡ true) × Contains (rule_tests env r) y)
    here y i =
        let j = ⊎_elim (λ l. l) (λ l. absurd (none_contained y l)) (in_either (map (is_test ps) g.constraints) [] y (subst (λ (us : List Test). Contains us y) none i)) in
        let found = constraint_of ps g.constraints y j in
        inr (subst (λ z. is_constraint z ≡ true) found.is refl, subst (Contains (rule_tests env r)) found.is (in_rule (is_test ps found.of) (test_in ps f.constraints found.of (all_at (Contains f.constraints) g.constraints found.of among found.in'))))

    within : (ts : List Test) → ((y : Test) → Contains ts y → Contains (flat_tests ps g) y ⊎ IsTrivial y) → AllByRecursion (λ (y : Test). IsTrivial y ⊎ ((is_constraint y ≡ true) × Contains (rule_tests env r) y)) ts
    within [] k = tt
    within (y ∷ ts) k = (⊎_elim (here y) (λ l. inl l) (k y (head_contained y ts)), within ts (λ z i. k z (tail_contained y ts z i)))
