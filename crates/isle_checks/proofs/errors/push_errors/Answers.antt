use Rattle.std.proofs.Common.{rules, ◌<◌, subst, sym}
use Rattle.isle_checks.specs.declared.placed.Check.TheVariants as check
use Rattle.isle_checks.specs.Errors.{places_of}
use Rattle.isle_checks.proofs.ErrorLaws.{told_below, maker_below, rule_joined, sound_alone}
use Rattle.isle_checks.proofs.errors.push_errors.Goals as goal

pub index-requires : goal.index-requires
index-requires c =
    let lt = told_below c.args.term.now.rules.now c.in_ok-unreachable.unreachable.items c.loop-place.place c.in_ok-unreachable.ensures c.loop-place-test.true in
    search rules

pub push_overlap-requires-clause-earlier : goal.push_overlap-requires-clause-earlier
push_overlap-requires-clause-earlier c =
    maker_below check.Overlaps c.args.multi c.args.term.now.rules.now c.in_ok-overlaps.overlaps.items c.loop-place.place c.index-in-loop-place.result.now (subst (λ n. c.loop-place.place < n) (sym c.in_ok-overlaps.ensures.long) c.loop-place-test.true) c.index-in-loop-place.ensures c.in_ok-overlaps.ensures

pub push_shadow-requires-clause-mask : goal.push_shadow-requires-clause-mask
push_shadow-requires-clause-mask c =
    maker_below check.Shadows c.args.multi c.args.term.now.rules.now c.in_ok-masks.masks.items c.loop-place.place c.index-in-loop-place-2.result.now (subst (λ n. c.loop-place.place < n) (sym c.in_ok-masks.ensures.long) c.loop-place-test.true) c.index-in-loop-place-2.ensures c.in_ok-masks.ensures

pub loop-place-preserved : goal.loop-place-preserved
loop-place-preserved c =
    rule_joined (places_of c.args.term.now.rules.now) c.in_ok-unreachable.unreachable.items c.in_ok-overlaps.overlaps.items c.in_ok-masks.masks.items c.loop-place.place c.index.result.now c.index-in-loop-place.result.now c.index-in-loop-place-2.result.now
    c.args.errors.now.items c.loop-place.errors.items c.push_unreachable.new.errors.items c.push_overlap.new.errors.items c.push_shadow.new.errors.items
    (told_below c.args.term.now.rules.now c.in_ok-unreachable.unreachable.items c.loop-place.place c.in_ok-unreachable.ensures c.loop-place-test.true) c.index.ensures
    (subst (λ n. c.loop-place.place < n) (sym c.in_ok-overlaps.ensures.long) c.loop-place-test.true) c.index-in-loop-place.ensures (subst (λ n. c.loop-place.place < n) (sym c.in_ok-masks.ensures.long) c.loop-place-test.true) c.index-in-loop-place-2.ensures
    c.loop-place.invariant c.in_ok-push_unreachable.ensures c.in_ok-push_overlap.ensures c.in_ok-push_shadow.ensures

pub returns-then-alone : goal.returns-then-alone
returns-then-alone c = sound_alone c.args.multi c.args.term.now.rules.now c.args.errors.now.items (c.in_ok-alone.ensures c.if-alone.true)
