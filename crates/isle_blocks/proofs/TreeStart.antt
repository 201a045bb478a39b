-- The ways of rules none of whose tests is made.
use Rattle.std.proofs.Common.{◌≡◌, inr, ⊎_elim, ℕ, suc, ◌<◌, ◌≤◌, List, [], ◌∷◌, ◌++◌, Bool, true, false, map, length, get_or, sym, ◌∙◌, subst, arith}
use Rattle.std.specs.Prelude.{Contains}
use Rattle.std.specs.List.{AllByRecursion}
use Rattle.std.proofs.lemmas.List.Elements.{Contains-append_left, Contains-append_right, Contains-append_cases}
use Rattle.isle_core.specs.declared.BindingId.{BindingId}
use Rattle.isle_core.specs.declared.rule_sets.Binding.{Binding}
use Rattle.isle_core.specs.declared.rule_sets.Constraint.{Constraint}
use Rattle.isle_core.specs.declared.rule_sets.FlatRule.{FlatRule}
use Rattle.isle_core.specs.declared.rule_sets.RuleSet.{RuleSet}
use Rattle.isle_core.specs.declared.types.Term.{Term}
use Rattle.isle_core.specs.Path.{Path, at, paths_of}
use Rattle.isle_core.specs.Rule.{Environment}
use Rattle.isle_core.specs.RuleSet.{is_test}
use Rattle.isle_core.specs.Serializable.{AreTestable, IsSerializableRule}
use Rattle.isle_core.specs.StandsFor.{EachOnce}
use Rattle.isle_core.proofs.Contained.{head_contained, tail_contained, contained_cases, none_contained}
use Rattle.isle_core.proofs.RulePairs.{all_from, all_at}
use Rattle.isle_blocks.specs.AllTests.{AreAmong}
use Rattle.isle_blocks.specs.Arranged.{rules_of, IsArranged, AreArranged}
use Rattle.isle_blocks.specs.Free.{is_free}
use Rattle.isle_blocks.specs.Reordered.{IsReordered}
use Rattle.isle_blocks.specs.Tree.{Way}
use Rattle.isle_blocks.specs.Turns.{TurnsRise, rank}
use Rattle.isle_blocks.specs.Ways.{way_of}
use Rattle.isle_blocks.proofs.LawBound.{came_holds, came_from}
use Rattle.isle_blocks.proofs.MappedLists.{map_among}
use Rattle.isle_blocks.proofs.MovedTests.{RanksRise, testable_by_ranks}
use Rattle.isle_blocks.proofs.PartedTests.{parted_has, parted_from, early_free, none_late, late_chosen, parted_testable}
use Rattle.isle_blocks.proofs.Reorders.{permutation_reorders, reorder_all, reorder_has, reorder_keeps}
use Rattle.isle_blocks.proofs.TreeLawful.{AreFreeTests}
use Rattle.isle_blocks.proofs.TreeRules.{IsOn}
use Rattle.isle_blocks.proofs.TreeTests.{IsOf}
use Rattle.isle_blocks.proofs.TreeWays.{IsAfter}

-- all tests of a way's rule are left, in an order in which they may be made; of a term that answers several times the early ones are of free
-- paths, and of one that answers once all are early; the others are of paths with a chosen item
pub record IsStart (several : Bool) (bs : List Binding) (w : Way) : Type 0 where
  pub has : (c : BindingId × Constraint) → Contains w.rule.constraints c → Contains (w.early ++ w.late) c
  pub only : (c : BindingId × Constraint) → Contains (w.early ++ w.late) c → Contains w.rule.constraints c
  pub free : AreFreeTests several (paths_of bs) w
  pub whole : several ≡ false → w.late ≡ []
  pub chosen : AllByRecursion (λ (c : BindingId × Constraint). is_free (at (paths_of bs) c.0) ≡ false) w.late
  pub testable : (env : Environment) (t : Term) → EachOnce (paths_of bs) → AreTestable env t (paths_of bs) [] w.rule.constraints → AreTestable env t (paths_of bs) [] (w.early ++ w.late)

free_early : (several : Bool) (ps : List Path) (f : FlatRule) → AreFreeTests several ps (way_of several ps f)
free_early true ps f is = early_free ps f.constraints
free_early false ps f is = absurd cc

whole_early : (several : Bool) (ps : List Path) (f : FlatRule) → several ≡ false → (way_of several ps f).late ≡ []
whole_early false ps f is = none_late ps f.constraints
whole_early true ps f is = absurd cc

-- ---- arranged

ranks_rise : (turns : List ℕ) (cs : List (BindingId × Constraint)) → ((i j : ℕ) (d : BindingId × Constraint) → i ≤ j → j < length cs → rank turns (get_or cs i d).0 ≤ rank turns (get_or cs j d).0) → RanksRise turns cs
ranks_rise turns [] h = tt
ranks_rise turns (c ∷ cs) h = (each cs (λ j k. h 0 (suc j) c (omega arith) (omega arith)), ranks_rise turns cs (λ i j d a b. h (suc i) (suc j) d (omega arith) (omega arith)))
  where
    each : (ds : List (BindingId × Constraint)) → ((j : ℕ) → j < length ds → rank turns c.0 ≤ rank turns (get_or ds j c).0) → AllByRecursion (λ (d : BindingId × Constraint). rank turns c.0 ≤ rank turns d.0) ds
    each [] k = tt
    each (d ∷ ds) k = (k 0 (omega arith), each ds (λ j l. k (suc j) (omega arith)))

pub arranged_starts : (several : Bool) (bs : List Binding) (turns : List ℕ) (w : Way) → TurnsRise bs turns → IsArranged turns (way_of several (paths_of bs) w.rule) w → IsStart several bs w
arranged_starts several bs turns w rise h = record {
  has = λ c i. ⊎_elim (λ j. Contains-append_left w.early w.late c (reorder_keeps v.early w.early c order j)) (λ j. Contains-append_right w.early w.late c (subst (λ cs. Contains cs c) (sym h.late) j)) (Contains-append_cases v.early v.late c (parted_has several ps w.rule.constraints c i));
  only = λ c i. parted_from several ps w.rule.constraints c (⊎_elim (λ j. Contains-append_left v.early v.late c (reorder_has v.early w.early c order j)) (λ j. Contains-append_right v.early v.late c (subst (λ cs. Contains cs c) h.late j)) (Contains-append_cases w.early w.late c i));
  free = λ is. reorder_all (λ (c : BindingId × Constraint). is_free (at ps c.0) ≡ true) v.early w.early order (free_early several ps w.rule is);
  whole = λ is. h.late ∙ whole_early several ps w.rule is;
  chosen = subst (AllByRecursion (λ (c : BindingId × Constraint). is_free (at ps c.0) ≡ false)) (sym h.late) (late_chosen several ps w.rule.constraints);
  testable = λ env t once k. subst (λ cs. AreTestable env t ps [] (w.early ++ cs)) (sym h.late)
      (testable_by_ranks bs turns rise once env t v.early w.early v.late (ranks_rise turns w.early h.sorted) (λ c i. reorder_keeps v.early w.early c order i) (λ c i. reorder_has v.early w.early c order i) (parted_testable env t several ps w.rule.constraints k));
}
  where
    ps : List Path
    ps = paths_of bs

    v : Way
    v = way_of several ps w.rule

    order : IsReordered v.early w.early
    order = permutation_reorders v.early w.early h.tests

-- ---- what holds of such a way

pub start_on : (several : Bool) (bs : List Binding) (w : Way) → IsStart several bs w → IsOn [] w
start_on several bs w h = record { tests = λ c i. absurd (none_contained c i); all = λ c i. inr (h.has c i) }

pub start_among : (several : Bool) (bs : List Binding) (w : Way) → IsStart several bs w → AreAmong (w.early ++ w.late) w.rule.constraints
start_among several bs w h = all_from (Contains w.rule.constraints) (w.early ++ w.late) h.only

pub start_of : (several : Bool) (bs : List Binding) (s : RuleSet) (w : Way) → IsStart several bs w → Contains s.rules w.rule → IsOf s w
start_of several bs s w h there = record {
  there = there;
  early = all_from (Contains w.rule.constraints) w.early (λ c i. h.only c (Contains-append_left w.early w.late c i));
  late = all_from (Contains w.rule.constraints) w.late (λ c i. h.only c (Contains-append_right w.early w.late c i));
}

-- after no test
pub start_after : (several : Bool) (env : Environment) (t : Term) (s : RuleSet) (w : Way) → EachOnce (paths_of s.bindings) → IsStart several s.bindings w → Contains s.rules w.rule → IsSerializableRule env t (paths_of s.bindings) w.rule → IsAfter env t s [] w
start_after several env t s w once k there h =
    let ps = paths_of s.bindings in
    record {
      there = there;
      rule = h;
      testable = k.testable env t once h.constraints;
      made = λ x c. came_holds [] (map (is_test ps) (w.early ++ w.late)) x (inr (map_among (is_test ps) w.rule.constraints (w.early ++ w.late) k.has x c));
      only = λ x c. map_among (is_test ps) (w.early ++ w.late) w.rule.constraints k.only x (⊎_elim (λ i. absurd (none_contained x i)) (λ i. i) (came_from [] (map (is_test ps) (w.early ++ w.late)) x c));
    }

-- ---- of the ways of rules

pub rule_has : (ws : List Way) (w : Way) → Contains ws w → Contains (rules_of ws) w.rule
rule_has [] w c = absurd (none_contained w c)
rule_has (v ∷ ws) w c = ⊎_elim (λ (e : v ≡ w). subst (λ x. Contains (v.rule ∷ rules_of ws) x.rule) e (head_contained v.rule (rules_of ws))) (λ j. tail_contained v.rule (rules_of ws) w.rule (rule_has ws w j)) (contained_cases v ws w c)

-- a way of the rule
pub record HasWay (ws : List Way) (f : FlatRule) : Type 0 where
  pub way : Way
  pub there : Contains ws way
  pub rule : way.rule ≡ f

pub has_way : (ws : List Way) (f : FlatRule) → Contains (rules_of ws) f → HasWay ws f
has_way [] f c = absurd (none_contained f c)
has_way (w ∷ ws) f c = ⊎_elim (λ (e : w.rule ≡ f). record { way = w; there = head_contained w ws; rule = e }) (λ j. let r = has_way ws f j in record { way = r.way; there = tail_contained w ws r.way r.there; rule = r.rule }) (contained_cases w.rule (rules_of ws) f c)

module _ (several : Bool) (bs : List Binding) (fs : List FlatRule) (ws : List Way) (h : AreArranged several bs fs ws) where
  pub ways_order : IsReordered fs (rules_of ws)
  ways_order = permutation_reorders fs (rules_of ws) h.order

  pub way_starts : (w : Way) → Contains ws w → IsStart several bs w
  way_starts w c = arranged_starts several bs h.turns w h.rise (all_at (λ (v : Way). IsArranged h.turns (way_of several (paths_of bs) v.rule) v) ws w h.each c)

  pub way_there : (w : Way) → Contains ws w → Contains fs w.rule
  way_there w c = reorder_has fs (rules_of ws) w.rule ways_order (rule_has ws w c)

  pub rule_way : (f : FlatRule) → Contains fs f → HasWay ws f
  rule_way f c = has_way ws f (reorder_keeps fs (rules_of ws) f ways_order c)
