use Rattle.std.proofs.Common.{rules, ◌≡◌, ◌+◌, ◌-◌, ◌<◌, [], ◌∷◌, ◌++◌, length, take, drop, get_or, map, sym, ap, ◌∙◌, subst, arith}
use Rattle.std.proofs.lemmas.List.{map_push, take_rest, take-map, length-map, length-take-le, length-drop}
use Rattle.isle_core.specs.ArmPlaces.{bound_within}
use Rattle.isle_core.specs.Bindable.{bound_by}
use Rattle.isle_core.specs.Block.{NoArm}
use Rattle.isle_core.specs.BlockViews.{SeenArm, step, arm}
use Rattle.isle_blocks.specs.Gathered.{gather, AreShort}
use Rattle.isle_blocks.specs.Needed.{needs}
use Rattle.isle_blocks.specs.Tables.{ground, shows_in}
use Rattle.isle_blocks.specs.Tree.{IsTree, source_needs}
use Rattle.isle_blocks.specs.TreeSteps.{LeadsOn, MayEnd, HaveArms, arms_before}
use Rattle.isle_blocks.specs.Ways.{way, group}
use Rattle.isle_blocks.proofs.ArmLaws.{arms_more, arms_all, is_shared}
use Rattle.isle_blocks.proofs.GroupLaws.{AreGroupsShort, gathered_short, short_group}
use Rattle.isle_blocks.proofs.GrowsLaws.{grows_then, by_grows}
use Rattle.isle_blocks.proofs.ShortWays.{short_take, short_drop, left_short, some_depth}
use Rattle.isle_blocks.proofs.StepLaws.{leads_more, leads_all, leads_end, tree_seen, first_same, first_way, way_at, ways_left, starts_with, starts_not, own_leads, own_ends, run_some, shared_leads}
use Rattle.isle_blocks.proofs.tree.+tree.Goals as goal

pub arm_of-returns-clause-body : goal.arm_of-returns-clause-body
arm_of-returns-clause-body t c =
    let g = ground c.args.tables.now in
    let ws = map way c.args.of.1.now.ways.items in
    let bound = bound_within c.args.bound.now (shows_in c.args.tables.now c.args.of.0 c.args.of.1.now.constraint) in
    let inner : c.bind_places.new.bound ≡ bound = c.in_ok-bind_places.ensures.more ∙ ap (bound_within c.args.bound.now) (c.as_slice.ensures.value ∙ c.in_ok-places.ensures) in
    tree_seen g ws (map way c.as_slice-2.result.now) bound c.bind_places.new.bound (map step c.in_ok-steps.steps.items) _
    (ap (λ (a : SeenArm). a.2) c.arm_with.ensures ∙ c.block_of.ensures) (ap (map way) c.as_slice-2.ensures.value) inner c.in_ok-steps.ensures.tree

pub arms_of-arm_of-requires : goal.arms_of-arm_of-requires
arms_of-arm_of-requires t c =
    let gs = c.deref-gathered-items.result.now in
    let depth = c.args.depth in
    let all : gather [] (map way c.args.of.1.now) ≡ map group gs = sym c.in_ok-groups.ensures ∙ ap (map group) (sym c.deref-gathered-items.ensures.value) in (
      omega (arith, c.decreases),
      short_group depth gs c.loop-gathered.gathered-index c.gathered-item.result c.gathered-item.result c.loop-gathered-test.true c.gathered-item.is (subst (AreGroupsShort depth) all (gathered_short depth (map way c.args.of.1.now) c.requires)),
    )

pub arms_of-loop-gathered-preserved : goal.arms_of-loop-gathered-preserved
arms_of-loop-gathered-preserved t c =
    let g = ground c.args.tables.now in
    let source = c.args.of.0 in
    let gs = c.deref-gathered-items.result.now in
    let x = c.gathered-item.result in
    let a = c.in_ok-arm_of.field-0 in
    let pushed : c.push.new.self.items ≡ c.loop-gathered.arms.items ++ a ∷ [] = c.in_ok-push.ensures.items in
    let body = subst (λ b. IsTree g (group x).1 (bound_within b (g.shows source x.constraint)) (arm a).2) c.loop-gathered.invariant.same c.in_ok-arm_of.ensures.body in
    record {
      arms = arms_more g source c.args.bound.now (map group gs) gs c.loop-gathered.gathered-index x x (map arm c.loop-gathered.arms.items) (map arm c.push.new.self.items) (arm a)
          c.loop-gathered-test.true c.gathered-item.is (ap (map arm) pushed ∙ map_push arm c.loop-gathered.arms.items a) c.in_ok-arm_of.ensures.constraint c.in_ok-arm_of.ensures.places body c.loop-gathered.invariant.arms;
      same = c.in_ok-arm_of.ensures.bound ∙ c.loop-gathered.invariant.same;
    }

pub arms_of-returns-clause-arms : goal.arms_of-returns-clause-arms
arms_of-returns-clause-arms t c =
    let gs = c.deref-gathered-items.result.now in
    arms_all (ground c.args.tables.now) c.args.of.0 c.args.bound.now (map way c.args.of.1.now) gs c.loop-gathered.gathered-index (map arm c.loop-gathered.arms.items)
    (ap (map group) c.deref-gathered-items.ensures.value ∙ c.in_ok-groups.ensures) c.loop-gathered-test.false c.loop-gathered.invariant.arms

pub shared_step-returns-clause-step : goal.shared_step-returns-clause-step
shared_step-returns-clause-step t c =
    let g = ground c.args.tables.now in
    let source = c.args.of.0 in
    let bs = c.args.tables.now.bindings.now in
    let bound = c.args.bound.now in
    let order = c.push_needs.new.order.items in
    let arms = map arm c.in_ok-arms.arms.items in
    let reads : c.from_ref.result.now ≡ source ∷ [] = search rules in
    let needed : order ≡ source_needs g bound source = c.in_ok-push_needs.ensures.order ∙ ap (λ bs'. bs' ++ needs bs bound c.from_ref.result.now) c.new-order.ensures.items ∙ ap (needs bs bound) reads in
    let now : c.push_needs.new.bound ≡ bound_by bound (source_needs g bound source) = c.in_ok-push_needs.ensures.bound ∙ ap (λ rs. bound_by bound (needs bs bound rs)) reads in
    is_shared g source (map way c.args.of.1.now) bound arms order _ (c.step_of.ensures ∙ ap (λ k. (order, k)) c.match_over.ensures) needed
    (subst (λ b. HaveArms g source (map way c.args.of.1.now) b (arms_before arms NoArm)) now c.in_ok-arms.ensures.arms)

pub next_step-slice_bounds-run-end : goal.next_step-slice_bounds-run-end
next_step-slice_bounds-run-end t c = sym (length-take-le c.run_length-count.result c.args.ways.now c.run_length-count.ensures.within)

pub next_step-shared_step-requires : goal.next_step-shared_step-requires
next_step-shared_step-requires t c =
    let ws = map way c.args.ways.now in
    let w = c.index-ways-0.result in
    let n = c.run_length-count.result in
    let is : ws ≡ way w ∷ map way (drop 1 c.args.ways.now) = first_way c.args.ways.now w w c.requires.some c.index-ways-0.is in
    let early = starts_with w (get_or c.args.ways.now 0 w) c.in-Some.field-0.now c.index-ways-0.is c.in-Some.ensures.value in
    let deep : 0 < c.args.depth = some_depth c.args.depth ws (map way (drop 1 c.args.ways.now)) (way w) c.in-Some.field-0.now early.0 c.requires.short is early.1 in (
      omega (arith, c.decreases, deep),
      left_short c.args.depth (c.args.depth - 1) (map way (take n c.args.ways.now)) (omega (arith, deep)) (subst (AreShort c.args.depth) (take-map way n c.args.ways.now) (short_take c.args.depth n ws c.requires.short)),
    )

pub next_step-returns-in_ok-own_step-in-None-clause-step : goal.next_step-returns-in_ok-own_step-in-None-clause-step
next_step-returns-in_ok-own_step-in-None-clause-step t c =
    let ws = c.args.ways.now in
    let v = c.index-ways-0.result in
    let w = c.index-ways-0-in-None.result in
    let rest = map way (drop 1 ws) in
    let is : map way ws ≡ way w ∷ rest = first_way ws w w c.requires.some c.index-ways-0-in-None.is in
    let other : map way ws ≡ way v ∷ rest = first_way ws v v c.requires.some c.index-ways-0.is in
    let early : w.early.now ≡ [] = ap (λ x. x.early) (first_same (way w) (way v) rest rest (sym is ∙ other)) ∙ starts_not v (get_or ws 0 v) c.index-ways-0.is c.in-None.ensures.value in
    own_leads (ground c.args.tables.now) (map way ws) rest (way w) c.args.bound.now c.own_step.new.bound (step c.in_ok-own_step-in-None.field-0) is early c.in_ok-own_step-in-None.ensures.step c.in_ok-own_step-in-None.ensures.bound

pub next_step-returns-in_ok-own_step-in-None-clause-last : goal.next_step-returns-in_ok-own_step-in-None-clause-last
next_step-returns-in_ok-own_step-in-None-clause-last t c =
    let ws = c.args.ways.now in
    let w = c.index-ways-0-in-None.result in
    own_ends (ground c.args.tables.now) (map way ws) (map way (drop 1 ws)) (way w) c.args.bound.now (step c.in_ok-own_step-in-None.field-0) (first_way ws w w c.requires.some c.index-ways-0-in-None.is) c.in_ok-own_step-in-None.ensures.step

pub next_step-returns-in_ok-shared_step-in-Some-clause-count : goal.next_step-returns-in_ok-shared_step-in-Some-clause-count
next_step-returns-in_ok-shared_step-in-Some-clause-count t c =
    let ws = c.args.ways.now in
    let w = c.index-ways-0.result in
    let source = c.in-Some.field-0.now.0 in
    let early = starts_with w (get_or c.args.ways.now 0 w) c.in-Some.field-0.now c.index-ways-0.is c.in-Some.ensures.value in
    let some = run_some source c.in-Some.field-0.now.1 early.0 (map way ws) (map way (drop 1 ws)) (way w) (first_way ws w w c.requires.some c.index-ways-0.is) early.1 in
    (subst (λ n. 0 < n) (sym c.run_length-count.ensures.count) some, c.run_length-count.ensures.within)

pub next_step-returns-in_ok-shared_step-in-Some-clause-step : goal.next_step-returns-in_ok-shared_step-in-Some-clause-step
next_step-returns-in_ok-shared_step-in-Some-clause-step t c =
    let ws = c.args.ways.now in
    let w = c.index-ways-0.result in
    let n = c.run_length-count.result in
    let source = c.in-Some.field-0.now.0 in
    let early = starts_with w (get_or c.args.ways.now 0 w) c.in-Some.field-0.now c.index-ways-0.is c.in-Some.ensures.value in
    let some = run_some source c.in-Some.field-0.now.1 early.0 (map way ws) (map way (drop 1 ws)) (way w) (first_way ws w w c.requires.some c.index-ways-0.is) early.1 in
    let lt : 0 < n = subst (λ k. 0 < k) (sym c.run_length-count.ensures.count) some in
    let long : 0 < length (map way (take n ws)) = omega (arith, lt, length-map (take n ws) way, length-take-le n ws c.run_length-count.ensures.within) in
    shared_leads (ground c.args.tables.now) (map way ws) (map way (take n ws)) n source c.args.bound.now c.shared_step.new.bound (step c.in_ok-shared_step-in-Some.field-0) c.run_length-count.ensures.count
    (sym (take-map way n ws)) long c.in_ok-shared_step-in-Some.ensures.bound c.in_ok-shared_step-in-Some.ensures.step

pub next_step-returns-in_ok-shared_step-in-Some-clause-grows : goal.next_step-returns-in_ok-shared_step-in-Some-clause-grows
next_step-returns-in_ok-shared_step-in-Some-clause-grows t c =
    by_grows c.args.bound.now c.shared_step.new.bound (source_needs (ground c.args.tables.now) c.args.bound.now c.in-Some.field-0.now.0) c.in_ok-shared_step-in-Some.ensures.bound

pub steps_of-next_step-requires : goal.steps_of-next_step-requires
steps_of-next_step-requires t c =
    let ws = c.args.ways.now in
    let i = c.loop-made.made in
    let some : length (take (length ws - i) (drop i ws)) ≡ length ws - i = ap length (take_rest ws i) ∙ length-drop i ws in
    (omega (arith, c.decreases), (omega (arith, some, c.loop-made-test.true), subst (AreShort c.args.depth) (sym (ways_left ws i)) (short_drop c.args.depth i (map way ws) c.requires)))

pub steps_of-returns-then-ends-clause-tree : goal.steps_of-returns-then-ends-clause-tree
steps_of-returns-then-ends-clause-tree t c =
    let g = ground c.args.tables.now in
    let ws = c.args.ways.now in
    let i = c.loop-made.made in
    let w = c.index-ways-made.result in
    let s = c.in_ok-next.next.0 in
    let longer : map step c.push.new.self.items ≡ map step c.loop-made.steps.items ++ step s ∷ [] = ap (map step) c.in_ok-push.ensures.items ∙ map_push step c.loop-made.steps.items s in
    leads_end g (map way ws) (map way (drop (i + 1) ws)) (way w) i c.args.bound.now c.loop-made.bound (map step c.loop-made.steps.items) (map step c.push.new.self.items) (step s) longer c.loop-made.invariant.leads
    (subst (λ vs. MayEnd g vs c.loop-made.bound (step s)) (ways_left ws i) c.in_ok-next.ensures.last) (way_at ws i w w c.loop-made-test.true c.index-ways-made.is) (c.ends.ensures.0 c.if-ends.true)

pub steps_of-loop-made-preserved : goal.steps_of-loop-made-preserved
steps_of-loop-made-preserved t c =
    let g = ground c.args.tables.now in
    let ws = c.args.ways.now in
    let i = c.loop-made.made in
    let s = c.in_ok-next.next.0 in
    let n = c.in_ok-next.next.1 in
    let w = c.index-ways-made.result in
    let rest : length (take (length ws - i) (drop i ws)) ≡ length ws - i = ap length (take_rest ws i) ∙ length-drop i ws in
    let longer : map step c.push.new.self.items ≡ map step c.loop-made.steps.items ++ step s ∷ [] = ap (map step) c.in_ok-push.ensures.items ∙ map_push step c.loop-made.steps.items s in
    record {
      within = omega (arith, rest, c.in_ok-next.ensures.count.1, c.loop-made-test.true);
      leads = leads_more g (map way ws) i n c.args.bound.now c.loop-made.bound c.next_step.new.bound (map step c.loop-made.steps.items) (map step c.push.new.self.items) (step s) longer c.loop-made.invariant.leads
          (subst (λ vs. LeadsOn g vs n c.loop-made.bound c.next_step.new.bound (step s)) (ways_left ws i) c.in_ok-next.ensures.step (way w) (map way (drop (i + 1) ws)) (way_at ws i w w c.loop-made-test.true c.index-ways-made.is) (λ ends. let yes' = c.ends.ensures.1 ends in let no' = c.if-ends.false in cc));
      grows = grows_then c.loop-made.invariant.grows c.in_ok-next.ensures.grows;
    }

pub steps_of-returns-clause-tree : goal.steps_of-returns-clause-tree
steps_of-returns-clause-tree t c =
    leads_all (ground c.args.tables.now) (map way c.args.ways.now) c.loop-made.made c.args.bound.now c.loop-made.bound (map step c.loop-made.steps.items) (omega (arith, length-map c.args.ways.now way, c.loop-made-test.false)) c.loop-made.invariant.leads
