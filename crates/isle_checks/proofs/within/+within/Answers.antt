use Rattle.std.proofs.Common.{rules, ◌≡◌, ◌<◌, ◌∙◌, length, refl, subst, sym, ap, arith}
use Rattle.std.specs.BTreeMap.{values}
use Rattle.std.specs.Prelude.{Contains}
use Rattle.isle_checks.specs.declared.placed.Check.TheVariants as check
use Rattle.isle_checks.specs.Splitter.{HasKey}
use Rattle.isle_checks.proofs.FindLaws.{below_part}
use Rattle.isle_checks.proofs.WithinLaws.{none_past, past_more, left_there, all_past, listed_within, listed_rises, rest_within, rest_rises, found_within}
use Rattle.isle_checks.proofs.PartLaws.{parts_found_if}
use Rattle.isle_checks.proofs.within.+within.Goals as goal

pub by_keys-within-requires : goal.by_keys-within-requires
by_keys-within-requires t c =
    let group = c.args.group.now in
    let lists = c.in_ok-lists.lists in
    let list = c.in-Some.list.now in
    let h = c.in_ok-lists.ensures in
    let ordered = c.values-list-items.ensures.ordered in
    let all : c.into_iter-list-iterator.result ≡ values lists.under = search rules in
    let there : Contains (values lists.under) list = left_there group _ _ _ _ list _ _ c.in-Some.ensures.steps all c.loop-list.invariant in
    let falls : length c.as_slice.result.now < length group = subst (λ n. n < length group) (c.len.ensures ∙ sym (ap length c.as_slice.ensures)) c.if-len-group.true in
    (omega (arith, falls, c.decreases), rw c.as_slice.ensures (listed_rises (HasKey c.args.splitter) group lists list h ordered there, below_part group list _ _ (listed_within (HasKey c.args.splitter) group lists list h ordered there) c.loop-list.invariant.long c.requires.below))

pub by_keys-loop-list-init : goal.by_keys-loop-list-init
by_keys-loop-list-init t c = none_past c.args.group.now _ _ _ refl

pub by_keys-loop-list-preserved-in-Continue-branch-2 : goal.by_keys-loop-list-preserved-in-Continue-branch-2
by_keys-loop-list-preserved-in-Continue-branch-2 t c =
    let group = c.args.group.now in
    let lists = c.in_ok-lists.lists in
    let list = c.in-Some.list.now in
    let all : c.into_iter-list-iterator.result ≡ values lists.under = search rules in
    let there : Contains (values lists.under) list = left_there group _ _ _ _ list _ _ c.in-Some.ensures.steps all c.loop-list.invariant in
    past_more group _ _ _ list _ _ _ c.in-Some.ensures.steps (listed_within (HasKey c.args.splitter) group lists list c.in_ok-lists.ensures c.values-list-items.ensures.ordered there) (rw c.as_slice.ensures at c.in_ok-within.ensures) c.loop-list.invariant

pub by_keys-compare-requires-clause-rise : goal.by_keys-compare-requires-clause-rise
by_keys-compare-requires-clause-rise t c =
    let group = c.args.group.now in
    let lists = c.in_ok-lists.lists in
    let list = c.in-Some.list.now in
    let all : c.into_iter-list-iterator.result ≡ values lists.under = search rules in
    let there : Contains (values lists.under) list = left_there group _ _ _ _ list _ _ c.in-Some.ensures.steps all c.loop-list.invariant in
    rw c.as_slice-else-len-group.ensures (listed_rises (HasKey c.args.splitter) group lists list c.in_ok-lists.ensures c.values-list-items.ensures.ordered there)

pub by_keys-compare-requires-clause-below : goal.by_keys-compare-requires-clause-below
by_keys-compare-requires-clause-below t c =
    let group = c.args.group.now in
    let lists = c.in_ok-lists.lists in
    let list = c.in-Some.list.now in
    let all : c.into_iter-list-iterator.result ≡ values lists.under = search rules in
    let there : Contains (values lists.under) list = left_there group _ _ _ _ list _ _ c.in-Some.ensures.steps all c.loop-list.invariant in
    rw c.as_slice-else-len-group-2.ensures (below_part group list _ _ (listed_within (HasKey c.args.splitter) group lists list c.in_ok-lists.ensures c.values-list-items.ensures.ordered there) c.loop-list.invariant.long c.requires.below)

pub by_keys-loop-list-preserved : goal.by_keys-loop-list-preserved
by_keys-loop-list-preserved t c =
    let group = c.args.group.now in
    let lists = c.in_ok-lists.lists in
    let list = c.in-Some.list.now in
    let all : c.into_iter-list-iterator.result ≡ values lists.under = search rules in
    let there : Contains (values lists.under) list = left_there group _ _ _ _ list _ _ c.in-Some.ensures.steps all c.loop-list.invariant in
    past_more group _ _ _ list _ _ _ c.in-Some.ensures.steps (listed_within (HasKey c.args.splitter) group lists list c.in_ok-lists.ensures c.values-list-items.ensures.ordered there) (rw (c.as_slice-else-len-group.ensures, c.as_slice-else-len-group-2.ensures) at c.compare.ensures) c.loop-list.invariant

pub by_keys-compare-requires-2-clause-rise : goal.by_keys-compare-requires-2-clause-rise
by_keys-compare-requires-2-clause-rise t c = rw c.as_slice-2.ensures (rest_rises (HasKey c.args.splitter) c.args.group.now c.in_ok-lists.lists c.in_ok-lists.ensures)

pub by_keys-compare-requires-2-clause-below : goal.by_keys-compare-requires-2-clause-below
by_keys-compare-requires-2-clause-below t c = below_part c.args.group.now c.args.group.now _ _ (λ a k. k) c.loop-list.invariant.long c.requires.below

pub by_keys-compare-requires-3-clause-below : goal.by_keys-compare-requires-3-clause-below
by_keys-compare-requires-3-clause-below t c =
    rw c.as_slice-3.ensures (below_part c.args.group.now c.in_ok-lists.lists.rest _ _ (rest_within (HasKey c.args.splitter) c.args.group.now c.in_ok-lists.lists c.in_ok-lists.ensures) (c.compare-2.ensures.long ∙ c.loop-list.invariant.long) c.requires.below)

pub by_keys-returns : goal.by_keys-returns
by_keys-returns t c =
    let lists = c.in_ok-lists.lists in
    let all : c.into_iter-list-iterator.result ≡ values lists.under = search rules in
    let past = all_past c.args.group.now _ _ (values lists.under) _ _ c.in-None.ensures.steps.0 all c.loop-list.invariant in
    found_within c.args.splitter c.args.group.now lists c.in_ok-lists.ensures _ _ _ _ past (rw c.as_slice-2.ensures at c.compare-2.ensures) (rw c.as_slice-3.ensures at c.compare-3.ensures)

pub within-within-requires : goal.within-within-requires
within-within-requires t c =
    let p = c.in_ok-parts.ensures in
    (omega (arith, c.if-others-group.false, c.decreases), rw c.as_slice-others.ensures.value (p.others_rise, below_part c.args.group.now c.in_ok-parts.parts.others.items _ _ p.others_in refl c.requires.below))

pub within-compare-requires-2-clause-below : goal.within-compare-requires-2-clause-below
within-compare-requires-2-clause-below t c =
    let p = c.in_ok-parts.ensures in
    rw c.as_slice-keyed.ensures.value (below_part c.args.group.now c.in_ok-parts.parts.keyed.items _ _ p.keyed_in c.in_ok-within.ensures.long c.requires.below)

pub within-compare-requires-3-clause-below : goal.within-compare-requires-3-clause-below
within-compare-requires-3-clause-below t c =
    let p = c.in_ok-parts.ensures in
    rw c.as_slice-others.ensures.value (below_part c.args.group.now c.in_ok-parts.parts.others.items _ _ p.others_in (c.compare-2.ensures.long ∙ c.in_ok-within.ensures.long) c.requires.below)

pub within-by_keys-requires-2 : goal.within-by_keys-requires-2
within-by_keys-requires-2 t c =
    let p = c.in_ok-parts.ensures in
    let few = p.few in
    let long = c.compare-3.ensures.long ∙ c.compare-2.ensures.long ∙ c.in_ok-within.ensures.long in
    rw c.as_slice-keyed.ensures.value (omega (arith, few, c.decreases), (p.keyed_rise, below_part c.args.group.now c.in_ok-parts.parts.keyed.items _ _ p.keyed_in long c.requires.below))

pub within-returns : goal.within-returns
within-returns t c =
    let ks = c.as_slice-keyed.ensures.value in
    let os = c.as_slice-others.ensures.value in
    parts_found_if c.by_keys-2.result check.Overlaps c.args.group.now _ _ c.in_ok-parts.ensures _ _ _ _ _
    (rw os at c.in_ok-within.ensures) (rw (os, ks) at c.compare-2.ensures) (rw (os, ks) at c.compare-3.ensures) (rw ks at c.by_keys-2.ensures)
