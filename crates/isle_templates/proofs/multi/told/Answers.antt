use Rattle.std.proofs.Common.{◌≡◌, ◌<◌, rules, length, get_or}
use Rattle.std.specs.Prelude.{option_map}
use Rattle.std.proofs.lemmas.List.{length-map}
use Rattle.isle_core.specs.RuleViews.{pattern as elaborated}
use Rattle.isle_templates.specs.Written.{written_of}
use Rattle.isle_templates.proofs.MarkedTerms.{in_bounds, marks_begin, marks_next, marks_all}
use Rattle.isle_templates.proofs.multi.told.Goals as goal

pub loop-term-init : goal.loop-term-init
loop-term-init c = marks_begin c.args.written.now c.args.flags.items c.requires.flags

pub index-flag-requires : goal.index-flag-requires
index-flag-requires c =
    let inside : get_or c.args.order.now c.loop-term.term-index 0 < length c.args.written.now = in_bounds c.args.written.now c.args.order.now c.loop-term.term-index c.requires.order c.loop-term-test.true in
    let same : length (written_of c.args.written.now) ≡ length c.args.written.now = length-map c.args.written.now (option_map elaborated) in
    let many : length c.loop-term.table.items ≡ length (written_of c.args.written.now) = c.loop-term.invariant.many in
    search rules

pub offset_bounds-written-term : goal.offset_bounds-written-term
offset_bounds-written-term c =
    let inside : get_or c.args.order.now c.loop-term.term-index 0 < length c.args.written.now = in_bounds c.args.written.now c.args.order.now c.loop-term.term-index c.requires.order c.loop-term-test.true in
    search rules

pub bounds-written-term : goal.bounds-written-term
bounds-written-term c = in_bounds c.args.written.now c.args.order.now c.loop-term.term-index c.requires.order c.loop-term-test.true

pub index_mut-requires : goal.index_mut-requires
index_mut-requires c =
    let inside : get_or c.args.order.now c.loop-term.term-index 0 < length c.args.written.now = in_bounds c.args.written.now c.args.order.now c.loop-term.term-index c.requires.order c.loop-term-test.true in
    let same : length (written_of c.args.written.now) ≡ length c.args.written.now = length-map c.args.written.now (option_map elaborated) in
    let many : length c.loop-term.table.items ≡ length (written_of c.args.written.now) = c.loop-term.invariant.many in
    search rules

pub loop-term-preserved : goal.loop-term-preserved
loop-term-preserved c =
    marks_next c.args.written.now c.args.flags.items c.args.order.now c.loop-term.term-index c.loop-term.table.items c.index-flag.result.now c.multi_by-made.result c.index-written-term.result c.requires.order c.loop-term-test.true c.index-written-term.is
    (search rules) c.loop-term.invariant (search rules)

pub returns : goal.returns
returns c = marks_all (written_of c.args.written.now) c.args.flags.items c.args.order.now c.loop-term.term-index c.loop-term.table.items c.requires.order c.loop-term-test.false c.loop-term.invariant
