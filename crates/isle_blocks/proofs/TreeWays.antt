-- What is known of ways after the tests that are made on them.
use Rattle.std.proofs.Common.{◌≡◌, inr, List, [], ◌∷◌, ◌++◌, map, refl, sym, ap, ◌∙◌, subst}
use Rattle.std.specs.Prelude.{Contains}
use Rattle.std.specs.List.{AllByRecursion}
use Rattle.isle_core.specs.declared.BindingId.{BindingId}
use Rattle.isle_core.specs.declared.rule_sets.Constraint.{Constraint}
use Rattle.isle_core.specs.declared.rule_sets.RuleSet.{RuleSet}
use Rattle.isle_core.specs.declared.types.Term.{Term}
use Rattle.isle_core.specs.ApartTests.{IsPut}
use Rattle.isle_core.specs.Path.{Path, at, paths_of}
use Rattle.isle_core.specs.Rule.{Environment}
use Rattle.isle_core.specs.RuleSet.{is_test}
use Rattle.isle_core.specs.Serializable.{AreTestable, IsTestable, constraint_tests, IsSerializableRule}
use Rattle.isle_core.specs.Tests.{Test, Is}
use Rattle.isle_core.proofs.Contained.{head_contained}
use Rattle.isle_blocks.specs.Arranged.{rules_of}
use Rattle.isle_blocks.specs.Tree.{Way, Tests, AllTest, Parts, none, same, other}
use Rattle.isle_blocks.proofs.LawBound.{came_behind, came_holds}

-- ---- ways after tests

-- the tests that are left of a way
abbrev pub left_tests : List Path → Way → List Test
left_tests ps w = map (is_test ps) (w.early ++ w.late)

-- a way after these tests: its rule is one of the set and ready, its tests are those made and those left, and these may be made now, in order
pub record IsAfter (env : Environment) (t : Term) (s : RuleSet) (before : List Test) (w : Way) : Type 0 where
  pub there : Contains s.rules w.rule
  pub rule : IsSerializableRule env t (paths_of s.bindings) w.rule
  pub testable : AreTestable env t (paths_of s.bindings) before (w.early ++ w.late)
  pub made : (x : Test) → Contains (constraint_tests (paths_of s.bindings) w.rule) x → Contains (came_behind before (left_tests (paths_of s.bindings) w)) x
  pub only : (x : Test) → Contains (came_behind before (left_tests (paths_of s.bindings) w)) x → Contains (constraint_tests (paths_of s.bindings) w.rule) x

-- so of each
abbrev pub AreAfter : Environment → Term → RuleSet → List Test → List Way → Type 0
AreAfter env t s before ws = AllByRecursion (IsAfter env t s before) ws

-- a way whose first test is made
pub after_test : (env : Environment) (t : Term) (s : RuleSet) (before : List Test) (source : BindingId) (w : Way) (c : Constraint) (left : Way) → Tests source w c left → IsAfter env t s before w
    → IsAfter env t s (is_test (paths_of s.bindings) (source, c) ∷ before) left
after_test env t s before source w c left k h =
    let ps = paths_of s.bindings in
    let all : w.early ++ w.late ≡ (source, c) ∷ (left.early ++ left.late) = ap (λ xs. xs ++ w.late) k.tests ∙ ap (λ xs. (source, c) ∷ (left.early ++ xs)) (sym k.late) in
    record {
      there = subst (Contains s.rules) (sym k.rule) h.there;
      rule = subst (IsSerializableRule env t ps) (sym k.rule) h.rule;
      testable = (subst (AreTestable env t ps before) all h.testable).1;
      made = λ x c'. subst (λ (xs : List (BindingId × Constraint)). Contains (came_behind before (map (is_test ps) xs)) x) all (h.made x (subst (λ f. Contains (constraint_tests ps f) x) k.rule c'));
      only = λ x c'. subst (λ f. Contains (constraint_tests ps f) x) (sym k.rule) (h.only x (subst (λ (xs : List (BindingId × Constraint)). Contains (came_behind before (map (is_test ps) xs)) x) (sym all) c'));
    }

-- its first test
pub first_test : (env : Environment) (t : Term) (s : RuleSet) (before : List Test) (source : BindingId) (w : Way) (c : Constraint) (left : Way) → Tests source w c left → IsAfter env t s before w
    → IsTestable env t (paths_of s.bindings) before (source, c)
first_test env t s before source w c left k h = (subst (λ (xs : List (BindingId × Constraint)). AreTestable env t (paths_of s.bindings) before (xs ++ w.late)) k.tests h.testable).0

-- it is one that the rule makes
pub test_put : (env : Environment) (t : Term) (s : RuleSet) (before : List Test) (source : BindingId) (w : Way) (c : Constraint) (left : Way) → Tests source w c left → IsAfter env t s before w
    → Contains (constraint_tests (paths_of s.bindings) w.rule) (Is (at (paths_of s.bindings) source) c)
test_put env t s before source w c left k h =
    let ps = paths_of s.bindings in
    let x = Is (at ps source) c in
    h.only x (subst (λ (xs : List (BindingId × Constraint)). Contains (came_behind before (map (is_test ps) (xs ++ w.late))) x) (sym k.tests) (came_holds before (x ∷ map (is_test ps) (left.early ++ w.late)) x (inr (head_contained x (map (is_test ps) (left.early ++ w.late))))))

-- ---- ways that test one source first

module _ (env : Environment) (t : Term) (s : RuleSet) where
  abbrev ps : List Path
  ps = paths_of s.bindings

  -- ways left after a test of this source against their constraints, each after its own
  abbrev pub AreLeft : List Test → BindingId → List (Constraint × Way) → Type 0
  AreLeft before source js = AllByRecursion (λ (j : Constraint × Way). IsTestable env t ps before (source, j.0) × IsPut s (at ps source) j.0 × IsAfter env t s (is_test ps (source, j.0) ∷ before) j.1) js

  pub left_after : (before : List Test) (source : BindingId) (ws : List Way) (js : List (Constraint × Way)) → AllTest source ws js → AreAfter env t s before ws → AreLeft before source js
  left_after before source [] [] k h = tt
  left_after before source (w ∷ ws) (j ∷ js) k h = (
    (
      first_test env t s before source w j.0 j.1 k.0 h.0,
      record { rule = w.rule; there = h.0.there; put = test_put env t s before source w j.0 j.1 k.0 h.0 },
      after_test env t s before source w j.0 j.1 k.0 h.0,
    ),
    left_after before source ws js k.1 h.1,
  )
  left_after before source [] (j ∷ js) k h = absurd k
  left_after before source (w ∷ ws) [] k h = absurd k

  -- the rules of ways that are left are those of the ways
  pub left_rules : (source : BindingId) (ws : List Way) (js : List (Constraint × Way)) → AllTest source ws js → map (λ (j : Constraint × Way). j.1.rule) js ≡ rules_of ws
  left_rules source [] [] k = refl
  left_rules source (w ∷ ws) (j ∷ js) k = ap (λ f. f ∷ map (λ (i : Constraint × Way). i.1.rule) js) k.0.rule ∙ ap (λ fs. w.rule ∷ fs) (left_rules source ws js k.1)
  left_rules source [] (j ∷ js) k = absurd k
  left_rules source (w ∷ ws) [] k = absurd k

  -- those of one constraint
  pub same_after : (before : List Test) (source : BindingId) (c : Constraint) (js others : List (Constraint × Way)) (ws : List Way) → Parts c js ws others → AreLeft before source js → AreAfter env t s (is_test ps (source, c) ∷ before) ws
  same_after before source c js others ws none h = tt
  same_after before source c js others ws (same j more rest vs e k) h =
      (subst (λ d. IsAfter env t s (is_test ps (source, d) ∷ before) j.1) e h.0.2, same_after before source c more rest vs k h.1)
  same_after before source c js others ws (other j more rest vs e k) h = same_after before source c more rest vs k h.1

  -- and the others
  pub others_left : (before : List Test) (source : BindingId) (c : Constraint) (js others : List (Constraint × Way)) (ws : List Way) → Parts c js ws others → AreLeft before source js → AreLeft before source others
  others_left before source c js others ws none h = tt
  others_left before source c js others ws (same j more rest vs e k) h = others_left before source c more rest vs k h.1
  others_left before source c js others ws (other j more rest vs e k) h = (h.0, others_left before source c more rest vs k h.1)

  -- the first way with the constraint
  pub some_left : (before : List Test) (source : BindingId) (c : Constraint) (js others : List (Constraint × Way)) (w : Way) (ws : List Way) → Parts c js (w ∷ ws) others → AreLeft before source js
      → IsTestable env t ps before (source, c) × IsPut s (at ps source) c
  some_left before source c js others w ws (same j more rest vs e k) h = (subst (λ d. IsTestable env t ps before (source, d)) e h.0.0, subst (IsPut s (at ps source)) e h.0.1)
  some_left before source c js others w ws (other j more rest vs e k) h = some_left before source c more rest w ws k h.1
