-- A rule's step tests what the rule tests, and its Return is the rule's.
use Rattle.std.proofs.Common.{ℕ, List, [], ◌∷◌, Bool, true, false, Option, Some, None}
use Rattle.std.specs.Prelude.{slice_get, Contains}
use Rattle.std.specs.List.{AllByRecursion}
use Rattle.isle_core.specs.declared.BindingId.{BindingId}
use Rattle.isle_core.specs.declared.rule_sets.Constraint.{Constraint}
use Rattle.isle_core.specs.declared.rule_sets.FlatRule.{FlatRule}
use Rattle.isle_core.specs.declared.rule_sets.RuleSet.{RuleSet}
use Rattle.isle_core.specs.ArmPlaces.{bound_within}
use Rattle.isle_core.specs.Bindable.{bound_by}
use Rattle.isle_core.specs.Block.{Control, Match, Equal, NoArm, Arm}
use Rattle.isle_core.specs.BlockViews.{SeenStep}
use Rattle.isle_core.proofs.Contained.{head_contained, tail_contained}
use Rattle.isle_blocks.specs.Needed.{list_before, needs}
use Rattle.isle_blocks.specs.Nest.{Shows, Behind, alone, open_by, opening, opened, all_matched, all_equated}
use Rattle.isle_blocks.specs.RuleTests.{DoesRules}

-- ---- what is among

weaker : {A : Type 0} (P Q : A → Type 0) (xs : List A) → ((x : A) → P x → Q x) → AllByRecursion P xs → AllByRecursion Q xs
weaker P Q [] k h = tt
weaker P Q (x ∷ xs) k h = (k x h.0, weaker P Q xs k h.1)

-- each item of a list is among its items
pub among : {A : Type 0} (xs : List A) → AllByRecursion (Contains xs) xs
among [] = tt
among (x ∷ xs) = (head_contained x xs, weaker (Contains xs) (Contains (x ∷ xs)) xs (tail_contained x xs) (among xs))

-- ---- a step

module _ (s : RuleSet) where
  open_tests : (list : Option BindingId) (b : BindingId) (t : SeenStep) → DoesRules s t.1 → DoesRules s (open_by list b t).1
  open_tests (Some list) b t h = (h, tt)
  open_tests None b t h = h

  opening_tests : (order : List BindingId) (c : Control) → DoesRules s c → DoesRules s (opening s.bindings order c).1
  opening_tests [] c h = h
  opening_tests (b ∷ order) c h = open_tests (list_before (slice_get s.bindings b.0)) b (opening s.bindings order c) (opening_tests order c h)

  pub opened_tests : (several : Bool) (order : List BindingId) (c : Control) → DoesRules s c → DoesRules s (opened several s.bindings order c).1
  opened_tests true order c h = opening_tests order c h
  opened_tests false order c h = h

  -- ---- a rule

  module _ (several : Bool) (f : FlatRule) (there : Contains s.rules f) where
    pub equated_tests : (es : List (BindingId × BindingId)) (inner : Behind) → AllByRecursion (Contains f.equals) es → ((bound : List ℕ) → DoesRules s (inner bound).1) → (bound : List ℕ) → DoesRules s (all_equated several s.bindings es inner bound).1
    equated_tests [] inner own h bound = h bound
    equated_tests (e ∷ es) inner own h bound =
        let ns = needs s.bindings bound (e.0 ∷ e.1 ∷ []) in
        let within = all_equated several s.bindings es inner (bound_by bound ns) in
        opened_tests several ns (Equal e.0 e.1 (alone within)) (record { rule = f; there = there; equated = own.0 }, (equated_tests es inner own.1 h (bound_by bound ns), tt))

    pub matched_tests : (shows : Shows) (cs : List (BindingId × Constraint)) (inner : Behind) → AllByRecursion (Contains f.constraints) cs → ((bound : List ℕ) → DoesRules s (inner bound).1) → (bound : List ℕ) → DoesRules s (all_matched several s.bindings shows cs inner bound).1
    matched_tests shows [] inner own h bound = h bound
    matched_tests shows (c ∷ cs) inner own h bound =
        let ns = needs s.bindings bound (c.0 ∷ []) in
        let inside = bound_within (bound_by bound ns) (shows c.0 c.1) in
        let within = all_matched several s.bindings shows cs inner inside in
        opened_tests several ns (Match c.0 (Arm c.1 (shows c.0 c.1) (alone within) NoArm)) (record { rule = f; there = there; tests = own.0 }, (matched_tests shows cs inner own.1 h inside, tt), tt)
