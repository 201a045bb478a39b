-- The Loops of a tree go through new items.
use Rattle.std.proofs.Common.{◌≡◌, ℕ, List, [], ◌∷◌, ◌++◌, Bool, true, Option, sym, ap, subst}
use Rattle.std.specs.Prelude.{Contains}
use Rattle.std.specs.List.{AllByRecursion}
use Rattle.isle_core.specs.declared.BindingId.{BindingId}
use Rattle.isle_core.specs.declared.rule_sets.Binding.{Binding}
use Rattle.isle_core.specs.declared.rule_sets.Constraint.{Constraint}
use Rattle.isle_core.specs.declared.rule_sets.RuleSet.{RuleSet}
use Rattle.isle_core.specs.declared.types.Term.{Term}
use Rattle.isle_core.specs.ArmPlaces.{bound_within}
use Rattle.isle_core.specs.Bindable.{bound_by}
use Rattle.isle_core.specs.Block.{Block, Arms}
use Rattle.isle_core.specs.Calling.{kind_of, is_several}
use Rattle.isle_core.specs.Path.{Path, Chosen, at, paths_of}
use Rattle.isle_core.specs.Rule.{Environment}
use Rattle.isle_core.specs.RuleSet.{is_test}
use Rattle.isle_core.specs.Serializable.{AreTestable, constraint_tests}
use Rattle.isle_core.specs.Setting.{Setting, setting}
use Rattle.isle_core.specs.StandsFor.{EachOnce}
use Rattle.isle_core.specs.Tests.{Test}
use Rattle.isle_blocks.specs.declared.fields.Shown.{Shown}
use Rattle.isle_blocks.specs.Fields.{FieldKey, FindsFields, shows}
use Rattle.isle_blocks.specs.Followers.{FindsInners, FindsItems}
use Rattle.isle_blocks.specs.Nest.{last_step, all_equated}
use Rattle.isle_blocks.specs.Tree.{Way, Ground, way_step, source_needs, AllTest, Parts, none, same, other, IsTree, own, last, shared, AreTrees, no_arm, arm}
use Rattle.isle_blocks.proofs.NextLaws.{FindsNext}
use Rattle.isle_blocks.proofs.TreeWays.{IsAfter, AreAfter, AreLeft, left_after, same_after, others_left}
use Rattle.isle_core.specs.NewItems.{HasNewItemsFrom, ArmsNewItems}
use Rattle.isle_blocks.specs.CallsOnce.{HasCallsOnce}
use Rattle.isle_blocks.proofs.CalledItems.{AreEarly, early_needs, early_within, behind_start}
use Rattle.isle_blocks.proofs.NeededItems.{needs_anew}
use Rattle.isle_blocks.proofs.NewItemLaws.{test_needable, shows_plain, last_new, equated_new, matched_new}
use Rattle.isle_blocks.proofs.OpenedItems.{Covers, covers_by, covers_within, covers_plain, IsNewStep}

module _ (several : Bool) (env : Environment) (t : Term) (s : RuleSet) (found : FieldKey → Option BindingId) (counts : Shown → Option ℕ) (inners next items : ℕ → Option BindingId) (is : is_several (kind_of t.kind) ≡ several) (finds : FindsFields s.bindings found counts)
    (found_inners : FindsInners s.bindings inners) (found_items : FindsItems s.bindings items) (found_next : FindsNext s.bindings next) (once : EachOnce (paths_of s.bindings))
    (fits : (p : Path) → Contains (paths_of s.bindings) (Chosen p) → is_several (kind_of t.kind) ≡ true) where
  abbrev bs : List Binding
  bs = s.bindings

  abbrev ps : List Path
  ps = paths_of s.bindings

  abbrev st : Setting
  st = setting env t s.bindings

  abbrev g : Ground
  g = record { several = several; bindings = s.bindings; shows = shows found counts inners; next = next; items = items }

  abbrev CallsOnce : Way → Type 0
  CallsOnce w = is_several (kind_of t.kind) ≡ true → HasCallsOnce env ps w.rule

  own_new : (before : List Test) (bound : List ℕ) (w : Way) → AreEarly env bs [] bound → IsAfter env t s before w → CallsOnce w → w.early ≡ [] → IsNewStep st bound (way_step g w bound)
  own_new before bound w early h calls none_left =
      let all : w.early ++ w.late ≡ w.late = ap (λ xs. xs ++ w.late) none_left in
      matched_new several env t bs found counts inners next items is finds found_inners found_items found_next once fits w.late (all_equated several bs w.rule.equals (last_step several bs next items w.rule)) before bound early (subst (AreTestable env t ps before) all h.testable)
      (λ within j. equated_new several env t bs found counts inners next items is finds found_inners found_items found_next once fits w.rule.equals (last_step several bs next items w.rule) (constraint_tests ps w.rule) within j h.rule.equals
      (λ bound' j'. last_new several env t bs found counts inners next items is finds found_inners found_items found_next once fits w.rule bound' h.rule calls j'))

  both_after : (vs ws : List Way) (P : Way → Type 0) → AllByRecursion P (vs ++ ws) → AllByRecursion P vs × AllByRecursion P ws
  both_after [] ws P h = (tt, h)
  both_after (v ∷ vs) ws P h = let k = both_after vs ws P h.1 in ((h.0, k.0), k.1)

  left_calls_once : (source : BindingId) (ws : List Way) (js : List (Constraint × Way)) → AllTest source ws js → AllByRecursion CallsOnce ws → AllByRecursion (λ (j : Constraint × Way). CallsOnce j.1) js
  left_calls_once source [] [] k h = tt
  left_calls_once source (w ∷ ws) (j ∷ js) k h = (λ e. subst (HasCallsOnce env ps) (sym k.0.rule) (h.0 e), left_calls_once source ws js k.1 h.1)
  left_calls_once source [] (j ∷ js) k h = absurd k
  left_calls_once source (w ∷ ws) [] k h = absurd k

  same_calls_once : (c : Constraint) (js others : List (Constraint × Way)) (ws : List Way) → Parts c js ws others → AllByRecursion (λ (j : Constraint × Way). CallsOnce j.1) js → AllByRecursion CallsOnce ws × AllByRecursion (λ (j : Constraint × Way). CallsOnce j.1) others
  same_calls_once c js others ws none h = (tt, tt)
  same_calls_once c js others ws (same j more rest vs e k) h = let r = same_calls_once c more rest vs k h.1 in ((h.0, r.0), r.1)
  same_calls_once c js others ws (other j more rest vs e k) h = let r = same_calls_once c more rest vs k h.1 in (r.0, (h.0, r.1))

  mutual
    pub tree_new : (ws : List Way) (bound : List ℕ) (b : Block) (before : List Test) → IsTree g ws bound b → AreEarly env bs [] bound → AreAfter env t s before ws → AllByRecursion CallsOnce ws → (more : List ℕ) → Covers bs bound more → HasNewItemsFrom st more b
    tree_new ws bound b before (none bound') early h calls more cover = tt
    tree_new ws bound b before (own w vs bound' rest none_left tested k') early h calls more cover =
        let step = way_step g w bound in
        let good = own_new before bound w early h.0 calls.0 none_left in
        ((good.items more cover).0, tree_new vs bound rest before k' early h.1 calls.1 (bound_by more step.0) (covers_plain bs step.0 bound more good.plain cover))
    tree_new ws bound b before (last w vs bound' once' none_left late equals) early h calls more cover = (own_new before bound w early h.0 calls.0 none_left).items more cover
    tree_new ws bound b before (shared source w vs others j js bound' arms rest tests starts trees k') early h calls more cover =
        let ns = source_needs g bound source in
        let parts = both_after (w ∷ vs) others (IsAfter env t s before) h in
        let both = both_after (w ∷ vs) others CallsOnce calls in
        let lefts = left_after env t s before source (w ∷ vs) (j ∷ js) tests parts.0 in
        let need = needs_anew env bs [] [] bound (source ∷ []) (behind_start ps bound) (test_needable env t before (at ps source) j.0 lefts.0.0.test lefts.0.0.stands, tt) in
        let behind = early_needs env bs [] ns bound need early in
        let covers = covers_by bs ns bound more cover in (
          arms_new source (j ∷ js) (bound_by bound ns) arms before trees behind lefts (left_calls_once source (w ∷ vs) (j ∷ js) tests both.0) (bound_by more ns) covers,
          tree_new others (bound_by bound ns) rest before k' behind parts.1 both.1 (bound_by more ns) covers,
        )

    arms_new : (source : BindingId) (js : List (Constraint × Way)) (inner : List ℕ) (arms : Arms) (before : List Test) → AreTrees g source js inner arms → AreEarly env bs [] inner → AreLeft env t s before source js → AllByRecursion (λ (j : Constraint × Way). CallsOnce j.1) js
        → (more : List ℕ) → Covers bs inner more → ArmsNewItems st more arms
    arms_new source js inner arms before (no_arm source' bound') early h calls more cover = tt
    arms_new source js inner arms before (arm source' c js' rest w vs bound' body others parts tree trees) early h calls more cover =
        let places = shows found counts inners source c in
        let split = same_calls_once c js rest (w ∷ vs) parts calls in (
          tree_new (w ∷ vs) (bound_within inner places) body (is_test ps (source, c) ∷ before) tree (early_within env bs [] places inner (shows_plain bs found counts inners finds found_inners source c) early) (same_after env t s before source c js rest (w ∷ vs) parts h) split.0
              (bound_within more places) (covers_within bs places inner more cover),
          arms_new source rest inner others before trees early (others_left env t s before source c js rest (w ∷ vs) parts h) split.1 more cover,
        )
