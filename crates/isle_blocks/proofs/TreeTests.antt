-- A tree tests what the rules of its ways test, and each of its Returns is that of one rule.
use Rattle.std.proofs.Common.{ℕ, List, [], ◌∷◌, ◌++◌, Bool, Option, refl, sym, subst}
use Rattle.std.specs.Prelude.{Contains}
use Rattle.std.specs.List.{AllByRecursion}
use Rattle.isle_core.specs.declared.BindingId.{BindingId}
use Rattle.isle_core.specs.declared.rule_sets.Constraint.{Constraint}
use Rattle.isle_core.specs.declared.rule_sets.RuleSet.{RuleSet}
use Rattle.isle_core.specs.Block.{Block, Return, Arms}
use Rattle.isle_blocks.specs.Nest.{Shows, last_binds, last_step, all_equated}
use Rattle.isle_blocks.specs.RuleTests.{IsRuleTest, TestsRules, DoesRules, ArmsTestRules}
use Rattle.isle_blocks.specs.Tree.{Way, Ground, way_step, AllTest, Parts, none, same, other, IsTree, own, last, shared, AreTrees, no_arm, arm}
use Rattle.isle_blocks.proofs.LawTests.{among, equated_tests, matched_tests, opened_tests}

-- the way is one of a rule of the set, and its tests are the rule's
pub record IsOf (s : RuleSet) (w : Way) : Type 0 where
  pub there : Contains s.rules w.rule
  pub early : AllByRecursion (Contains w.rule.constraints) w.early
  pub late : AllByRecursion (Contains w.rule.constraints) w.late

module _ (s : RuleSet) (several : Bool) (shows : Shows) (next items : ℕ → Option BindingId) where
  abbrev g : Ground
  g = record { several = several; bindings = s.bindings; shows = shows; next = next; items = items }

  -- a way's own step
  own_tests : (w : Way) (bound : List ℕ) → IsOf s w → DoesRules s (way_step g w bound).1
  own_tests w bound h =
      matched_tests s several w.rule h.there shows w.late (all_equated several s.bindings w.rule.equals (last_step several s.bindings next items w.rule)) h.late
      (equated_tests s several w.rule h.there w.rule.equals (last_step several s.bindings next items w.rule) (among w.rule.equals)
      (λ bound'. opened_tests s several (last_binds several s.bindings next items bound' w.rule) (Return w.rule.pos w.rule.result) (record { rule = w.rule; there = h.there; position = refl; gives = refl }))) bound

  -- a test of a source, and a way that is left after it
  abbrev IsLeftOf : BindingId → Constraint × Way → Type 0
  IsLeftOf source j = IsRuleTest s source j.0 × IsOf s j.1

  left_of_rules : (source : BindingId) (ws : List Way) (js : List (Constraint × Way)) → AllTest source ws js → AllByRecursion (IsOf s) ws → AllByRecursion (IsLeftOf source) js
  left_of_rules source [] [] k h = tt
  left_of_rules source (w ∷ ws) (j ∷ js) k h =
      let tests = subst (AllByRecursion (Contains w.rule.constraints)) k.0.tests h.0.early in (
        (
          record { rule = w.rule; there = h.0.there; tests = tests.0 },
          record {
            there = subst (Contains s.rules) (sym k.0.rule) h.0.there;
            early = subst (λ f. AllByRecursion (Contains f.constraints) j.1.early) (sym k.0.rule) tests.1;
            late = subst (λ f. AllByRecursion (Contains f.constraints) j.1.late) (sym k.0.rule) (subst (AllByRecursion (Contains w.rule.constraints)) (sym k.0.late) h.0.late);
          },
        ),
        left_of_rules source ws js k.1 h.1,
      )
  left_of_rules source [] (j ∷ js) k h = absurd k
  left_of_rules source (w ∷ ws) [] k h = absurd k

  -- those of one constraint, and the others
  pub record HaveParts (source : BindingId) (c : Constraint) (others : List (Constraint × Way)) (ws : List Way) : Type 0 where
    pub same_of : AllByRecursion (IsOf s) ws
    pub others_of : AllByRecursion (IsLeftOf source) others

  parts_of : (source : BindingId) (c : Constraint) (js others : List (Constraint × Way)) (ws : List Way) → Parts c js ws others → AllByRecursion (IsLeftOf source) js → HaveParts source c others ws
  parts_of source c js others ws none h = record { same_of = tt; others_of = tt }
  parts_of source c js others ws (same j more rest vs e k) h = let r = parts_of source c more rest vs k h.1 in record { same_of = (h.0.1, r.same_of); others_of = r.others_of }
  parts_of source c js others ws (other j more rest vs e k) h = let r = parts_of source c more rest vs k h.1 in record { same_of = r.same_of; others_of = (h.0, r.others_of) }

  -- the test of the first way of a constraint
  some_test : (source : BindingId) (c : Constraint) (js others : List (Constraint × Way)) (w : Way) (ws : List Way) → Parts c js (w ∷ ws) others → AllByRecursion (IsLeftOf source) js → IsRuleTest s source c
  some_test source c js others w ws (same j more rest vs e k) h = subst (IsRuleTest s source) e h.0.0
  some_test source c js others w ws (other j more rest vs e k) h = some_test source c more rest w ws k h.1

  both_of : (vs ws : List Way) → AllByRecursion (IsOf s) (vs ++ ws) → AllByRecursion (IsOf s) vs × AllByRecursion (IsOf s) ws
  both_of [] ws h = (tt, h)
  both_of (v ∷ vs) ws h = let k = both_of vs ws h.1 in ((h.0, k.0), k.1)

  mutual
    pub tree_tests : (ws : List Way) (bound : List ℕ) (b : Block) → IsTree g ws bound b → AllByRecursion (IsOf s) ws → TestsRules s b
    tree_tests ws bound b (none bound') h = tt
    tree_tests ws bound b (own w vs bound' more early tested k) h = (own_tests w bound h.0, tree_tests vs bound more k h.1)
    tree_tests ws bound b (last w vs bound' once early late equals) h = (own_tests w bound h.0, tt)
    tree_tests ws bound b (shared source w vs rest j js bound' arms more tests starts trees k) h =
        let both = both_of (w ∷ vs) rest h in
        (arms_test source (j ∷ js) _ arms trees (left_of_rules source (w ∷ vs) (j ∷ js) tests both.0), tree_tests rest _ more k both.1)

    arms_test : (source : BindingId) (js : List (Constraint × Way)) (bound : List ℕ) (arms : Arms) → AreTrees g source js bound arms → AllByRecursion (IsLeftOf source) js → ArmsTestRules s source arms
    arms_test source js bound arms (no_arm source' bound') h = tt
    arms_test source js bound arms (arm source' c js' others w vs bound' body more parts tree trees) h =
        let split = parts_of source c js others (w ∷ vs) parts h in
        (some_test source c js others w vs parts h, tree_tests (w ∷ vs) _ body tree split.same_of, arms_test source others bound more trees split.others_of)
