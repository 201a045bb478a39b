-- A tree's Loops are each of one rule, and within them stands no test that could stand outside.
use Rattle.std.proofs.Common.{◌≡◌, ℕ, List, [], ◌∷◌, ◌++◌, Bool, false, sym, refl, subst}
use Rattle.std.specs.Prelude.{Contains}
use Rattle.std.specs.List.{AllByRecursion}
use Rattle.isle_core.specs.declared.BindingId.{BindingId}
use Rattle.isle_core.specs.declared.rule_sets.Binding.{Binding}
use Rattle.isle_core.specs.declared.rule_sets.Constraint.{Constraint}
use Rattle.isle_core.specs.declared.rule_sets.FlatRule.{FlatRule}
use Rattle.isle_core.specs.declared.rule_sets.RuleSet.{RuleSet}
use Rattle.isle_core.specs.ArmPlaces.{bound_within}
use Rattle.isle_core.specs.Bindable.{bound_by}
use Rattle.isle_core.specs.Block.{Block, Stop, Step, Control, Match, Equal, Loop, Return, Arms, NoArm, Arm}
use Rattle.isle_core.specs.Path.{Path, at, paths_of}
use Rattle.isle_blocks.specs.Free.{is_free}
use Rattle.isle_blocks.specs.LoopsApart.{IsOfRule, DoesForRule, HaveArmsOfRule, HasLoopsApart, DoesLoopApart, HaveLoopsApart}
use Rattle.isle_blocks.specs.Needed.{needs}
use Rattle.isle_blocks.specs.Nest.{Shows, Behind, alone, opened, last_binds, last_step, all_matched, all_equated}
use Rattle.isle_blocks.specs.Tree.{Way, Ground, way_step, AllTest, Parts, none, same, other, IsTree, own, last, shared, AreTrees, no_arm, arm}
use Rattle.isle_blocks.proofs.OpenedSteps.{opened_holds}

-- what is of one rule of the set has its Loops apart
module _ (s : RuleSet) (f : FlatRule) (there : Contains s.rules f) where
  mutual
    rule_apart : (b : Block) → IsOfRule (paths_of s.bindings) f b → HasLoopsApart s b
    rule_apart Stop h = tt
    rule_apart (Step binds c more) h = (control_apart c h.0, rule_apart more h.1)

    pub control_apart : (c : Control) → DoesForRule (paths_of s.bindings) f c → DoesLoopApart s c
    control_apart (Match source arms) h = arms_apart arms h.1
    control_apart (Equal a b body) h = rule_apart body h
    control_apart (Loop result body) h = record { rule = f; there = there; only = h }
    control_apart (Return pos result) h = tt

    arms_apart : (arms : Arms) → HaveArmsOfRule (paths_of s.bindings) f arms → HaveLoopsApart s arms
    arms_apart NoArm h = tt
    arms_apart (Arm c places body arms) h = (rule_apart body h.0, arms_apart arms h.1)

-- ---- a rule's own step

-- each test is of a source for which an item is chosen
abbrev pub AreChosen : List Path → List (BindingId × Constraint) → Type 0
AreChosen ps cs = AllByRecursion (λ (c : BindingId × Constraint). is_free (at ps c.0) ≡ false) cs

module _ (ps : List Path) (f : FlatRule) (several : Bool) (bs : List Binding) where
  opened_of : (order : List BindingId) (c : Control) → DoesForRule ps f c → DoesForRule ps f (opened several bs order c).1
  opened_of order c h = opened_holds (DoesForRule ps f) (λ b s k. (k, tt)) several bs order c h

  equated_of : (es : List (BindingId × BindingId)) (inner : Behind) → ((bound : List ℕ) → DoesForRule ps f (inner bound).1) → (bound : List ℕ)
      → DoesForRule ps f (all_equated several bs es inner bound).1
  equated_of [] inner h bound = h bound
  equated_of (e ∷ es) inner h bound =
      let order = needs bs bound (e.0 ∷ e.1 ∷ []) in
      opened_of order (Equal e.0 e.1 (alone (all_equated several bs es inner (bound_by bound order)))) (equated_of es inner h (bound_by bound order), tt)

  matched_of : (shows : Shows) (cs : List (BindingId × Constraint)) (inner : Behind) → AreChosen ps cs
      → ((bound : List ℕ) → DoesForRule ps f (inner bound).1) → (bound : List ℕ) → DoesForRule ps f (all_matched several bs shows cs inner bound).1
  matched_of shows [] inner k h bound = h bound
  matched_of shows (c ∷ cs) inner k h bound =
      let order = needs bs bound (c.0 ∷ []) in
      let now = bound_within (bound_by bound order) (shows c.0 c.1) in
      opened_of order (Match c.0 (Arm c.1 (shows c.0 c.1) (alone (all_matched several bs shows cs inner now)) NoArm)) (k.0, ((matched_of shows cs inner k.1 h now, tt), tt))

-- a way's step is of its rule
way_of_rule : (g : Ground) (ps : List Path) (w : Way) (bound : List ℕ) → AreChosen ps w.late → DoesForRule ps w.rule (way_step g w bound).1
way_of_rule g ps w bound late =
    matched_of ps w.rule g.several g.bindings g.shows w.late (all_equated g.several g.bindings w.rule.equals (last_step g.several g.bindings g.next g.items w.rule)) late
    (equated_of ps w.rule g.several g.bindings w.rule.equals (last_step g.several g.bindings g.next g.items w.rule)
    (λ now. opened_of ps w.rule g.several g.bindings (last_binds g.several g.bindings g.next g.items now w.rule) (Return w.rule.pos w.rule.result) (refl, refl))) bound

-- ---- trees

module _ (s : RuleSet) (g : Ground) where
  -- its rule is one of the set, and its late tests are of sources for which items are chosen
  pub record IsChosenWay (w : Way) : Type 0 where
    pub there : Contains s.rules w.rule
    pub late : AreChosen (paths_of s.bindings) w.late

  own_apart : (w : Way) (bound : List ℕ) → IsChosenWay w → DoesLoopApart s (way_step g w bound).1
  own_apart w bound h = control_apart s w.rule h.there (way_step g w bound).1 (way_of_rule g (paths_of s.bindings) w bound h.late)

  abbrev AreLeft : List (Constraint × Way) → Type 0
  AreLeft js = AllByRecursion (λ (j : Constraint × Way). IsChosenWay j.1) js

  all_left : (source : BindingId) (ws : List Way) (js : List (Constraint × Way)) → AllTest source ws js → AllByRecursion IsChosenWay ws → AreLeft js
  all_left source [] [] k h = tt
  all_left source (w ∷ ws) (j ∷ js) k h = (record { there = subst (Contains s.rules) (sym k.0.rule) h.0.there; late = subst (AreChosen (paths_of s.bindings)) (sym k.0.late) h.0.late }, all_left source ws js k.1 h.1)
  all_left source [] (j ∷ js) k h = absurd k
  all_left source (w ∷ ws) [] k h = absurd k

  -- those of one constraint, and the others
  split_of : (c : Constraint) (js others : List (Constraint × Way)) (ws : List Way) → Parts c js ws others → AreLeft js
      → AllByRecursion IsChosenWay ws × AreLeft others
  split_of c js others ws none h = (tt, tt)
  split_of c js others ws (same j more rest vs e k) h = let r = split_of c more rest vs k h.1 in ((h.0, r.0), r.1)
  split_of c js others ws (other j more rest vs e k) h = let r = split_of c more rest vs k h.1 in (r.0, (h.0, r.1))

  both_of : (vs ws : List Way) → AllByRecursion IsChosenWay (vs ++ ws) → AllByRecursion IsChosenWay vs × AllByRecursion IsChosenWay ws
  both_of [] ws h = (tt, h)
  both_of (v ∷ vs) ws h = let k = both_of vs ws h.1 in ((h.0, k.0), k.1)

  mutual
    pub tree_loops : (ws : List Way) (bound : List ℕ) (b : Block) → IsTree g ws bound b → AllByRecursion IsChosenWay ws → HasLoopsApart s b
    tree_loops ws bound b (none bound') h = tt
    tree_loops ws bound b (own w vs bound' more early tested k) h = (own_apart w bound h.0, tree_loops vs bound more k h.1)
    tree_loops ws bound b (last w vs bound' once early late equals) h = (own_apart w bound h.0, tt)
    tree_loops ws bound b (shared source w vs rest j js bound' arms more tests starts trees k) h =
        let both = both_of (w ∷ vs) rest h in
        (arms_loop source (j ∷ js) _ arms trees (all_left source (w ∷ vs) (j ∷ js) tests both.0), tree_loops rest _ more k both.1)

    arms_loop : (source : BindingId) (js : List (Constraint × Way)) (bound : List ℕ) (arms : Arms) → AreTrees g source js bound arms → AreLeft js
        → HaveLoopsApart s arms
    arms_loop source js bound arms (no_arm source' bound') h = tt
    arms_loop source js bound arms (arm source' c js' others w vs bound' body more parts tree trees) h =
        let split = split_of c js others (w ∷ vs) parts h in
        (tree_loops (w ∷ vs) _ body tree split.0, arms_loop source others bound more trees split.1)
