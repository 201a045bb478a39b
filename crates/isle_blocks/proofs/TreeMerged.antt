-- A tree is merged: if steps of a rule's own aren't a Match, no two neighbours are a Match of one source.
use Rattle.std.proofs.Common.{◌≡◌, ℕ, List, [], ◌∷◌, ◌++◌, Bool, sym, ◌∙◌, subst}
use Rattle.std.specs.List.{AllByRecursion}
use Rattle.isle_core.specs.declared.BindingId.{BindingId}
use Rattle.isle_core.specs.declared.rule_sets.Binding.{Binding}
use Rattle.isle_core.specs.declared.rule_sets.Constraint.{Constraint}
use Rattle.isle_core.specs.ArmPlaces.{bound_within}
use Rattle.isle_core.specs.Bindable.{bound_by}
use Rattle.isle_core.specs.Block.{Block, Stop, Step, Control, Match, Equal, Loop, Return, Arms, NoArm, Arm}
use Rattle.isle_core.specs.BlockViews.{SeenStep}
use Rattle.isle_core.specs.Path.{Path, paths_of}
use Rattle.isle_core.specs.RuleSet.{is_test}
use Rattle.isle_core.specs.Tests.{Test}
use Rattle.isle_blocks.specs.Merged.{NoMatchNext, AreNeighboursApart, IsNewArm, IsMerged, IsMergedControl, AreMergedArms}
use Rattle.isle_blocks.specs.Needed.{needs}
use Rattle.isle_blocks.specs.Nest.{Shows, Behind, alone, opened, last_binds, last_step, all_matched, all_equated}
use Rattle.isle_blocks.specs.Tree.{Way, Ground, way_step, source_needs, Tests, AllTest, Parts, none, same, other, TestsFirst, StartApart, IsTree, own, last, shared, AreTrees, no_arm, arm}
use Rattle.isle_blocks.proofs.OpenedSteps.{opened_holds}

-- ---- a rule's own step

-- no Match
abbrev pub IsNoMatch : Control → Type 0
IsNoMatch (Match source arms) = ⊥
IsNoMatch (Equal a b body) = Unit {0}
IsNoMatch (Loop result body) = Unit {0}
IsNoMatch (Return pos result) = Unit {0}

-- it neither follows a Match nor is followed by one of its source
no_match_next : (source : BindingId) (binds : List BindingId) (c : Control) (more : Block) → IsNoMatch c → NoMatchNext source (Step binds c more)
no_match_next source binds (Equal a b body) more h = tt
no_match_next source binds (Loop result body) more h = tt
no_match_next source binds (Return pos result) more h = tt
no_match_next source binds (Match over arms) more h = absurd h

no_match_before : (c : Control) (more : Block) → IsNoMatch c → AreNeighboursApart c more
no_match_before (Equal a b body) more h = tt
no_match_before (Loop result body) more h = tt
no_match_before (Return pos result) more h = tt
no_match_before (Match over arms) more h = absurd h

-- ---- what is within it

stop_apart : (c : Control) → AreNeighboursApart c Stop
stop_apart (Match source arms) = tt
stop_apart (Equal a b body) = tt
stop_apart (Loop result body) = tt
stop_apart (Return pos result) = tt

alone_merged : (s : SeenStep) → IsMergedControl s.1 → IsMerged (alone s)
alone_merged s h = (h, stop_apart s.1, tt)

opened_merged : (several : Bool) (bs : List Binding) (order : List BindingId) (c : Control) → IsMergedControl c
    → IsMergedControl (opened several bs order c).1
opened_merged several bs order c h = opened_holds IsMergedControl (λ b s k. alone_merged s k) several bs order c h

equated_merged : (several : Bool) (bs : List Binding) (es : List (BindingId × BindingId)) (inner : Behind)
    → ((bound : List ℕ) → IsMergedControl (inner bound).1) → (bound : List ℕ) → IsMergedControl (all_equated several bs es inner bound).1
equated_merged several bs [] inner h bound = h bound
equated_merged several bs (e ∷ es) inner h bound =
    let order = needs bs bound (e.0 ∷ e.1 ∷ []) in
    let within = all_equated several bs es inner (bound_by bound order) in
    opened_merged several bs order (Equal e.0 e.1 (alone within)) (alone_merged within (equated_merged several bs es inner h (bound_by bound order)))

matched_merged : (several : Bool) (bs : List Binding) (shows : Shows) (cs : List (BindingId × Constraint)) (inner : Behind)
    → ((bound : List ℕ) → IsMergedControl (inner bound).1) → (bound : List ℕ) → IsMergedControl (all_matched several bs shows cs inner bound).1
matched_merged several bs shows [] inner h bound = h bound
matched_merged several bs shows (c ∷ cs) inner h bound =
    let order = needs bs bound (c.0 ∷ []) in
    let now = bound_within (bound_by bound order) (shows c.0 c.1) in
    let within = all_matched several bs shows cs inner now in
    opened_merged several bs order (Match c.0 (Arm c.1 (shows c.0 c.1) (alone within) NoArm)) (tt, alone_merged within (matched_merged several bs shows cs inner h now), tt)

way_merged : (g : Ground) (w : Way) (bound : List ℕ) → IsMergedControl (way_step g w bound).1
way_merged g w bound =
    matched_merged g.several g.bindings g.shows w.late (all_equated g.several g.bindings w.rule.equals (last_step g.several g.bindings g.next g.items w.rule))
    (equated_merged g.several g.bindings w.rule.equals (last_step g.several g.bindings g.next g.items w.rule) (λ now. opened_merged g.several g.bindings (last_binds g.several g.bindings g.next g.items now w.rule) (Return w.rule.pos w.rule.result) tt)) bound

-- ---- what stands first in it

opened_no_match : (several : Bool) (bs : List Binding) (order : List BindingId) (c : Control) → IsNoMatch c → IsNoMatch (opened several bs order c).1
opened_no_match several bs order c h = opened_holds IsNoMatch (λ b s k. tt) several bs order c h

equated_no_match : (several : Bool) (bs : List Binding) (es : List (BindingId × BindingId)) (inner : Behind) (bound : List ℕ) → IsNoMatch (inner bound).1
    → IsNoMatch (all_equated several bs es inner bound).1
equated_no_match several bs [] inner bound h = h
equated_no_match several bs (e ∷ es) inner bound h =
    let order = needs bs bound (e.0 ∷ e.1 ∷ []) in
    opened_no_match several bs order (Equal e.0 e.1 (alone (all_equated several bs es inner (bound_by bound order)))) tt

-- that of a way without late tests is no Match
pub untested_no_match : (g : Ground) (w : Way) (bound : List ℕ) → w.late ≡ [] → IsNoMatch (way_step g w bound).1
untested_no_match g w bound no_late =
    let equals = all_equated g.several g.bindings w.rule.equals (last_step g.several g.bindings g.next g.items w.rule) in
    subst (λ cs. IsNoMatch (all_matched g.several g.bindings g.shows cs equals bound).1) (sym no_late)
    (equated_no_match g.several g.bindings w.rule.equals (last_step g.several g.bindings g.next g.items w.rule) bound (opened_no_match g.several g.bindings (last_binds g.several g.bindings g.next g.items bound w.rule) (Return w.rule.pos w.rule.result) tt))

-- ---- trees

-- what is so of ways after tests where these are bound: it stays so after a test, and where a test's source may be read; and of a way
-- whose early tests are made, its own step is no Match
module _ (g : Ground) (Own : List Test → List ℕ → Way → Type 0)
    (own_left : (before : List Test) (bound : List ℕ) (source : BindingId) (w : Way) (c : Constraint) (left : Way) → Tests source w c left → Own before bound w
    → Own (is_test (paths_of g.bindings) (source, c) ∷ before) (bound_within (bound_by bound (source_needs g bound source)) (g.shows source c)) left)
    (own_more : (before : List Test) (bound : List ℕ) (source : BindingId) (v : Way) (c : Constraint) (left w : Way) → Tests source v c left → Own before bound v → Own before bound w → Own before (bound_by bound (source_needs g bound source)) w)
    (no_match : (before : List Test) (bound : List ℕ) (w : Way) → Own before bound w → w.early ≡ [] → IsNoMatch (way_step g w bound).1) where
  abbrev ps : List Path
  ps = paths_of g.bindings

  -- each of ways that are left after a test of the source
  abbrev AreLeft : List Test → List ℕ → BindingId → List (Constraint × Way) → Type 0
  AreLeft before bound source js = AllByRecursion (λ (j : Constraint × Way). Own (is_test ps (source, j.0) ∷ before) (bound_within bound (g.shows source j.0)) j.1) js

  left_own : (before : List Test) (bound : List ℕ) (source : BindingId) (ws : List Way) (js : List (Constraint × Way)) → AllTest source ws js
      → AllByRecursion (Own before bound) ws → AreLeft before (bound_by bound (source_needs g bound source)) source js
  left_own before bound source [] [] k h = tt
  left_own before bound source (w ∷ ws) (j ∷ js) k h = (own_left before bound source w j.0 j.1 k.0 h.0, left_own before bound source ws js k.1 h.1)
  left_own before bound source [] (j ∷ js) k h = absurd k
  left_own before bound source (w ∷ ws) [] k h = absurd k

  more_own : (before : List Test) (bound : List ℕ) (source : BindingId) (v : Way) (c : Constraint) (left : Way) (ws : List Way) → Tests source v c left
      → Own before bound v → AllByRecursion (Own before bound) ws → AllByRecursion (Own before (bound_by bound (source_needs g bound source))) ws
  more_own before bound source v c left [] k one h = tt
  more_own before bound source v c left (w ∷ ws) k one h = (own_more before bound source v c left w k one h.0, more_own before bound source v c left ws k one h.1)

  -- those of one constraint, and the others, which have another
  record HaveParts (before : List Test) (bound : List ℕ) (source : BindingId) (c : Constraint) (others : List (Constraint × Way)) (ws : List Way) : Type 0 where
    same_own : AllByRecursion (Own (is_test ps (source, c) ∷ before) (bound_within bound (g.shows source c))) ws
    others_own : AreLeft before bound source others
    apart : AllByRecursion (λ (j : Constraint × Way). j.0 ≡ c → ⊥) others

  split_of : (before : List Test) (bound : List ℕ) (source : BindingId) (c : Constraint) (js others : List (Constraint × Way)) (ws : List Way)
      → Parts c js ws others → AreLeft before bound source js → HaveParts before bound source c others ws
  split_of before bound source c js others ws none h = record { same_own = tt; others_own = tt; apart = tt }
  split_of before bound source c js others ws (same j more rest vs e k) h =
      let r = split_of before bound source c more rest vs k h.1 in
      record { same_own = (subst (λ d. Own (is_test ps (source, d) ∷ before) (bound_within bound (g.shows source d)) j.1) e h.0, r.same_own); others_own = r.others_own; apart = r.apart }
  split_of before bound source c js others ws (other j more rest vs e k) h =
      let r = split_of before bound source c more rest vs k h.1 in
      record { same_own = r.same_own; others_own = (h.0, r.others_own); apart = (e, r.apart) }

  -- if all have another constraint, so has the first of a constraint, and so have the others
  first_other : (c d : Constraint) (js others : List (Constraint × Way)) (w : Way) (ws : List Way) → Parts d js (w ∷ ws) others
      → AllByRecursion (λ (j : Constraint × Way). j.0 ≡ c → ⊥) js → d ≡ c → ⊥
  first_other c d js others w ws (same j more rest vs e k) h same' = h.0 (e ∙ same')
  first_other c d js others w ws (other j more rest vs e k) h same' = first_other c d more rest w ws k h.1 same'

  rest_other : (c d : Constraint) (js others : List (Constraint × Way)) (ws : List Way) → Parts d js ws others
      → AllByRecursion (λ (j : Constraint × Way). j.0 ≡ c → ⊥) js → AllByRecursion (λ (j : Constraint × Way). j.0 ≡ c → ⊥) others
  rest_other c d js others ws none h = tt
  rest_other c d js others ws (same j more rest vs e k) h = rest_other c d more rest vs k h.1
  rest_other c d js others ws (other j more rest vs e k) h = (h.0, rest_other c d more rest vs k h.1)

  new_arm : (c : Constraint) (source : BindingId) (js : List (Constraint × Way)) (bound : List ℕ) (arms : Arms) → AreTrees g source js bound arms
      → AllByRecursion (λ (j : Constraint × Way). j.0 ≡ c → ⊥) js → IsNewArm c arms
  new_arm c source js bound arms (no_arm source' bound') h = tt
  new_arm c source js bound arms (arm source' d js' others w vs bound' body more parts tree trees) h =
      (first_other c d js others w vs parts h, new_arm c source others bound more trees (rest_other c d js others (w ∷ vs) parts h))

  -- the steps of ways that don't test a source first aren't a Match of it at first
  starts_apart : (source : BindingId) (ws : List Way) (bound : List ℕ) (b : Block) (before : List Test) → IsTree g ws bound b
      → AllByRecursion (Own before bound) ws → StartApart source ws → NoMatchNext source b
  starts_apart source ws bound b before (none bound') h apart = tt
  starts_apart source ws bound b before (own w vs bound' more early tested k) h apart = no_match_next source (way_step g w bound).0 (way_step g w bound).1 more (no_match before bound w h.0 early)
  starts_apart source ws bound b before (last w vs bound' once early late equals) h apart = no_match_next source (way_step g w bound).0 (way_step g w bound).1 Stop (no_match before bound w h.0 early)
  starts_apart source ws bound b before (shared over w vs rest j js bound' arms more tests starts trees k) h apart = λ e. apart (subst (λ (cs : List (BindingId × Constraint)). TestsFirst source cs) (sym tests.0.tests) (sym e))

  both_own : (before : List Test) (bound : List ℕ) (vs ws : List Way) → AllByRecursion (Own before bound) (vs ++ ws)
      → AllByRecursion (Own before bound) vs × AllByRecursion (Own before bound) ws
  both_own before bound [] ws h = (tt, h)
  both_own before bound (v ∷ vs) ws h = let k = both_own before bound vs ws h.1 in ((h.0, k.0), k.1)

  mutual
    pub tree_merged : (ws : List Way) (bound : List ℕ) (b : Block) (before : List Test) → IsTree g ws bound b → AllByRecursion (Own before bound) ws
        → IsMerged b
    tree_merged ws bound b before (none bound') h = tt
    tree_merged ws bound b before (own w vs bound' more early tested k) h = (way_merged g w bound, no_match_before (way_step g w bound).1 more (no_match before bound w h.0 early), tree_merged vs bound more before k h.1)
    tree_merged ws bound b before (last w vs bound' once early late equals) h = (way_merged g w bound, no_match_before (way_step g w bound).1 Stop (no_match before bound w h.0 early), tt)
    tree_merged ws bound b before (shared source w vs rest j js bound' arms more tests starts trees k) h =
        let both = both_own before bound (w ∷ vs) rest h in
        let behind = more_own before bound source w j.0 j.1 rest tests.0 both.0.0 both.1 in (
          arms_merged source (j ∷ js) _ arms before trees (left_own before bound source (w ∷ vs) (j ∷ js) tests both.0),
          starts_apart source rest _ more before k behind starts,
          tree_merged rest _ more before k behind,
        )

    arms_merged : (source : BindingId) (js : List (Constraint × Way)) (bound : List ℕ) (arms : Arms) (before : List Test) → AreTrees g source js bound arms
        → AreLeft before bound source js → AreMergedArms arms
    arms_merged source js bound arms before (no_arm source' bound') h = tt
    arms_merged source js bound arms before (arm source' c js' others w vs bound' body more parts tree trees) h =
        let split = split_of before bound source c js others (w ∷ vs) parts h in
        (new_arm c source others bound more trees split.apart, tree_merged (w ∷ vs) _ body (is_test ps (source, c) ∷ before) tree split.same_own, arms_merged source others bound more before trees split.others_own)
