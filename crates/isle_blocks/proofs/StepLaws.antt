-- Steps before a tree make a tree.
use Rattle.std.proofs.Common.{◌≡◌, ℕ, suc, ◌+◌, ◌-◌, ◌<◌, ◌≤◌, List, [], ◌∷◌, ◌++◌, length, take, drop, get_or, map, Bool, true, false, cond, Some, None, refl, sym, ap, ◌∙◌, subst, arith}
use Rattle.std.specs.Prelude.{slice_get}
use Rattle.std.proofs.lemmas.List.{take_rest, drop-drop, drop-map, drop_more, drop_all, take-append-drop}
use Rattle.std.proofs.lemmas.Bool.{eqb-true, eq-eqb}
use Rattle.isle_core.specs.declared.BindingId.{BindingId}
use Rattle.isle_core.specs.declared.rule_sets.Constraint.{Constraint}
use Rattle.isle_core.specs.Bindable.{bound_by}
use Rattle.isle_core.specs.Block.{Block, Stop, Step}
use Rattle.isle_core.specs.BlockViews.{SeenStep, block_of}
use Rattle.isle_blocks.specs.declared.ways.Way.{Way as CodeWay}
use Rattle.isle_blocks.specs.Nest.{alone}
use Rattle.isle_blocks.specs.Tree.{Way, Ground, way_step, source_needs, Tests, AllTest, TestsFirst, StartApart, IsTree}
use Rattle.isle_blocks.specs.Tree.{no_tests}
use Rattle.isle_blocks.specs.Tree as tree
use Rattle.isle_blocks.specs.TreeSteps.{tests_first, run_length, steps_before, LeadsTo, Ends, LeadsOn, MayEnd, IsShared}
use Rattle.isle_blocks.specs.Ways.{way}

-- ---- one step after another

steps_push : (steps : List SeenStep) (s : SeenStep) (more : Block) → steps_before (steps ++ s ∷ []) more ≡ steps_before steps (Step s.0 s.1 more)
steps_push [] s more = refl
steps_push (t ∷ steps) s more = ap (Step t.0 t.1) (steps_push steps s more)

pub leads_more : (g : Ground) (ws : List Way) (made count : ℕ) (old mid new : List ℕ) (steps all : List SeenStep) (s : SeenStep) → all ≡ steps ++ s ∷ [] → LeadsTo g ws made old mid steps → LeadsTo g (drop made ws) count mid new (s ∷ [])
    → LeadsTo g ws (made + count) old new all
leads_more g ws made count old mid new steps all s longer h l = λ more k.
    subst (IsTree g ws old) (sym (ap (λ ss. steps_before ss more) longer ∙ steps_push steps s more)) (h (Step s.0 s.1 more) (l more (subst (λ vs. IsTree g vs new more) (sym (drop-drop count made ws)) k)))

-- after the last
pub leads_all : (g : Ground) (ws : List Way) (made : ℕ) (old new : List ℕ) (steps : List SeenStep) → length ws ≤ made → LeadsTo g ws made old new steps → IsTree g ws old (steps_before steps Stop)
leads_all g ws made old new steps le h = h Stop (subst (λ vs. IsTree g vs new Stop) (sym (drop_all made ws le)) (tree.none new))

-- or if one may be the last
pub leads_end : (g : Ground) (ws vs : List Way) (w : Way) (made : ℕ) (old mid : List ℕ) (steps all : List SeenStep) (s : SeenStep) → all ≡ steps ++ s ∷ [] → LeadsTo g ws made old mid steps → MayEnd g (drop made ws) mid s → drop made ws ≡ w ∷ vs
    → Ends g w → IsTree g ws old (steps_before all Stop)
leads_end g ws vs w made old mid steps all s longer h may is ends =
    subst (IsTree g ws old) (sym (ap (λ ss. steps_before ss Stop) longer ∙ steps_push steps s Stop)) (h (Step s.0 s.1 Stop) (may w vs is ends))

pub steps_seen : (steps : List SeenStep) → steps_before steps Stop ≡ block_of steps
steps_seen [] = refl
steps_seen (s ∷ steps) = ap (Step s.0 s.1) (steps_seen steps)

-- so the block of the steps is one
pub tree_seen : (g : Ground) (ws vs : List Way) (bound inner : List ℕ) (steps : List SeenStep) (b : Block) → b ≡ block_of steps → vs ≡ ws → inner ≡ bound → IsTree g vs inner (steps_before steps Stop) → IsTree g ws bound b
tree_seen g ws vs bound inner steps b seen is same h =
    subst (IsTree g ws bound) (steps_seen steps ∙ sym seen) (subst (λ xs. IsTree g xs bound (steps_before steps Stop)) is (subst (λ ls. IsTree g vs ls (steps_before steps Stop)) same h))

-- ---- the step of the first way

-- the first of the code's ways
pub first_way : (ws : List CodeWay) (w d : CodeWay) → 0 < length ws → w ≡ get_or ws 0 d → map way ws ≡ way w ∷ map way (drop 1 ws)
first_way [] w d lt is = absurd (omega (arith, lt))
first_way (v ∷ ws) w d lt is = ap (λ x. way x ∷ map way ws) (sym is)

-- those that are left
pub ways_left : (ws : List CodeWay) (i : ℕ) → map way (take (length ws - i) (drop i ws)) ≡ drop i (map way ws)
ways_left ws i = ap (map way) (take_rest ws i) ∙ sym (drop-map way i ws)

pub way_at : (ws : List CodeWay) (i : ℕ) (w d : CodeWay) → i < length ws → w ≡ get_or ws i d → drop i (map way ws) ≡ way w ∷ map way (drop (i + 1) ws)
way_at ws i w d lt is = drop-map way i ws ∙ ap (map way) (drop_more ws i d lt ∙ ap (λ v. v ∷ drop (i + 1) ws) (sym is))

-- what its tests begin with
pub starts_with : (w v : CodeWay) (x : BindingId × Constraint) → w ≡ v → Some x ≡ slice_get v.early.now 0 → (cs : List (BindingId × Constraint)) × (w.early.now ≡ x ∷ cs)
starts_with w v x is first = found w.early.now (first ∙ ap (λ (u : CodeWay). slice_get u.early.now 0) (sym is))
  where
    found : (cs : List (BindingId × Constraint)) → Some x ≡ slice_get cs 0 → (ds : List (BindingId × Constraint)) × (cs ≡ x ∷ ds)
    found [] e = cc
    found (c ∷ cs) e = let same : x ≡ c = cc in (cs, ap (λ d. d ∷ cs) (sym same))

pub starts_not : (w v : CodeWay) → w ≡ v → None ≡ slice_get v.early.now 0 → w.early.now ≡ []
starts_not w v is none = found w.early.now (none ∙ ap (λ (u : CodeWay). slice_get u.early.now 0) (sym is))
  where
    found : (cs : List (BindingId × Constraint)) → None ≡ slice_get cs 0 → cs ≡ []
    found [] e = refl
    found (c ∷ cs) e = cc

pub first_same : (v w : Way) (vs ws : List Way) → v ∷ vs ≡ w ∷ ws → v ≡ w
first_same v w vs ws e = cc

-- if something of a way is left, it has tests
something_left : (g : Ground) (w : Way) → w.early ≡ [] → (Ends g w → ⊥) → g.several ≡ false → no_tests w.late w.rule.equals ≡ false
something_left g w early goes several = pick w.late w.rule.equals refl refl
  where
    pick : (cs : List (BindingId × Constraint)) (es : List (BindingId × BindingId)) → w.late ≡ cs → w.rule.equals ≡ es → no_tests cs es ≡ false
    pick [] [] late equals = absurd (goes (several, record { early = early; late = late; equals = equals }))
    pick [] (e ∷ es) late equals = refl
    pick (c ∷ cs) es late equals = refl

pub own_leads : (g : Ground) (ws vs : List Way) (w : Way) (old new : List ℕ) (s : SeenStep) → ws ≡ w ∷ vs → w.early ≡ [] → s ≡ way_step g w old → new ≡ old → LeadsOn g ws 1 old new s
own_leads g ws vs w old new s is early step same = λ v rest e goes more k.
    subst (λ xs. IsTree g xs old (Step s.0 s.1 more)) (sym is)
    (subst (λ (t : SeenStep). IsTree g (w ∷ vs) old (Step t.0 t.1 more)) (sym step)
    (tree.own w vs old more early (something_left g w early (λ ends. goes (subst (Ends g) (first_same w v vs rest (sym is ∙ e)) ends))) (subst (λ bound. IsTree g vs bound more) same (subst (λ xs. IsTree g (drop 1 xs) new more) is k))))

pub own_ends : (g : Ground) (ws vs : List Way) (w : Way) (old : List ℕ) (s : SeenStep) → ws ≡ w ∷ vs → s ≡ way_step g w old → MayEnd g ws old s
own_ends g ws vs w old s is step = λ v rest e ends.
    subst (λ xs. IsTree g xs old (alone s)) (sym e)
    (subst (λ (t : SeenStep). IsTree g (v ∷ rest) old (alone t)) (sym (step ∙ ap (λ x. way_step g x old) (first_same w v vs rest (sym is ∙ e))))
    (tree.last v rest old ends.0 ends.1.early ends.1.late ends.1.equals))

-- ---- the step of ways that test one source first

-- ways that test the source first, up to one that doesn't, with what is left of them
record Run (source : BindingId) (ws : List Way) : Type 0 where
  js : List (Constraint × Way)
  tests : AllTest source ws js

-- what is left of a way after its first test
abbrev left_of : Way → List (BindingId × Constraint) → Way
left_of w early = record { rule = w.rule; early = early; late = w.late }

first_tests : (source : BindingId) (w : Way) (cs : List (BindingId × Constraint)) → w.early ≡ cs → tests_first source cs ≡ true → (j : Constraint × Way) × Tests source w j.0 j.1
first_tests source w [] is e = cc
first_tests source w (c ∷ cs) is e =
    let same : c.0 ≡ source = ap (λ n. record { 0 = n }) (eqb-true c.0.0 source.0 e) in
    ((c.1, left_of w cs), record { tests = is ∙ ap (λ (b : BindingId). (b, c.1) ∷ cs) same; rule = refl; late = refl })

run_of : (source : BindingId) (ws : List Way) → Run source (take (run_length source ws) ws)
run_of source [] = record { js = []; tests = tt }
run_of source (w ∷ ws) = pick (tests_first source w.early) refl (run_of source ws)
  where
    pick : (t : Bool) → tests_first source w.early ≡ t → Run source (take (run_length source ws) ws) → Run source (take (cond t (suc (run_length source ws)) 0) (w ∷ ws))
    pick true e r = let k = first_tests source w w.early refl e in record { js = k.0 ∷ r.js; tests = (k.1, r.tests) }
    pick false e r = record { js = []; tests = tt }

-- the way after them doesn't test the source first
run_apart : (source : BindingId) (ws : List Way) → StartApart source (drop (run_length source ws) ws)
run_apart source [] = tt
run_apart source (w ∷ ws) = pick (tests_first source w.early) refl (run_apart source ws)
  where
    none : (cs : List (BindingId × Constraint)) → tests_first source cs ≡ false → TestsFirst source cs → ⊥
    none [] e h = h
    none (c ∷ cs) e h = let bad = sym e ∙ eq-eqb c.0.0 source.0 (ap (λ (b : BindingId). b.0) h) in cc

    pick : (t : Bool) → tests_first source w.early ≡ t → StartApart source (drop (run_length source ws) ws) → StartApart source (drop (cond t (suc (run_length source ws)) 0) (w ∷ ws))
    pick true e h = h
    pick false e h = none w.early e

-- the first way is one of them
pub run_some : (source : BindingId) (c : Constraint) (cs : List (BindingId × Constraint)) (ws vs : List Way) (w : Way) → ws ≡ w ∷ vs → w.early ≡ (source, c) ∷ cs → 0 < run_length source ws
run_some source c cs ws vs w is early =
    let tests : tests_first source w.early ≡ true = ap (tests_first source) early ∙ eq-eqb source.0 source.0 refl in
    let all : run_length source ws ≡ suc (run_length source vs) = ap (run_length source) is ∙ ap (λ t. cond t (suc (run_length source vs)) 0) tests in
    omega (arith, all)

pub shared_leads : (g : Ground) (ws run : List Way) (count : ℕ) (source : BindingId) (old new : List ℕ) (s : SeenStep) → count ≡ run_length source ws → run ≡ take count ws → 0 < length run → new ≡ bound_by old (source_needs g old source) → IsShared g source run old s
    → LeadsOn g ws count old new s
shared_leads g ws run count source old new s long is some bound shared = λ w vs e goes more k.
    let r = run_of source ws in
    let front : take (run_length source ws) ws ≡ run = ap (λ n. take n ws) (sym long) ∙ sym is in
    subst (λ xs. IsTree g xs old (Step s.0 s.1 more)) (ap (λ xs. xs ++ drop count ws) is ∙ take-append-drop count ws)
    (shared r.js (subst (λ xs. AllTest source xs r.js) front r.tests) some (drop count ws) more (subst (λ n. StartApart source (drop n ws)) (sym long) (run_apart source ws)) (subst (λ b. IsTree g (drop count ws) b more) bound k))
