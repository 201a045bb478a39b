use Rattle.std.proofs.Common.{◌≡◌, ◌<◌, ◌+◌, rules, length, get_or, take, set, sym, subst}
use Rattle.std.specs.Prelude.{option_map}
use Rattle.std.proofs.lemmas.List.{length-map}
use Rattle.isle_core.specs.RuleViews.{pattern as elaborated}
use Rattle.isle_templates.specs.Standing.{StandFor}
use Rattle.isle_templates.specs.Written.{written_of}
use Rattle.isle_templates.proofs.FilledTable.{IsFilled, filled_begins, in_bounds, filled_next, filled_again, filled_all}
use Rattle.isle_templates.proofs.templates.filled.Goals.{in-Present, in-Absent+in_ok-made-in-Absent+in-Present-1, in-Absent+in_ok-made-in-Absent+in-Absent-1}
use Rattle.isle_templates.proofs.templates.filled.Goals as goal

pub loop-rank-init : goal.loop-rank-init
loop-rank-init c = filled_begins c.args.written.now c.in_ok-table.table.items c.in_ok-table.ensures

pub index-requires : goal.index-requires
index-requires c =
    let inside : get_or c.args.order.now c.loop-rank.rank 0 < length c.args.written.now = in_bounds c.args.written.now c.args.order.now c.loop-rank.rank c.requires c.loop-rank-test.true in
    let same : length (written_of c.args.written.now) ≡ length c.args.written.now = length-map c.args.written.now (option_map elaborated) in
    let many : length c.loop-rank.table.items ≡ length (written_of c.args.written.now) = c.loop-rank.invariant.many in
    search rules

pub offset_bounds-written-term : goal.offset_bounds-written-term
offset_bounds-written-term c =
    let inside : get_or c.args.order.now c.loop-rank.rank 0 < length c.args.written.now = in_bounds c.args.written.now c.args.order.now c.loop-rank.rank c.requires c.loop-rank-test.true in
    search rules

pub bounds-written-term : goal.bounds-written-term
bounds-written-term c = in_bounds c.args.written.now c.args.order.now c.loop-rank.rank c.requires c.loop-rank-test.true

pub index_mut-requires : goal.index_mut-requires
index_mut-requires c =
    let inside : get_or c.args.order.now c.loop-rank.rank 0 < length c.args.written.now = in_bounds c.args.written.now c.args.order.now c.loop-rank.rank c.requires c.loop-rank-test.true in
    let same : length (written_of c.args.written.now) ≡ length c.args.written.now = length-map c.args.written.now (option_map elaborated) in
    let many : length c.loop-rank.table.items ≡ length (written_of c.args.written.now) = c.loop-rank.invariant.many in
    search rules

pub loop-rank-preserved : goal.loop-rank-preserved
loop-rank-preserved c =
    let i = c.loop-rank.rank in
    let node = get_or c.args.order.now i 0 in
    let here : c.index.result.now ≡ get_or c.loop-rank.table.items node c.index.result.now = search rules in
    elim c.match-index.branch [
      | in-Present w ↦
          let same : c.loop-rank.table.items ≡ c.match-index.table.items = search rules in
          subst (λ items. IsFilled (written_of c.args.written.now) (take (i + 1) c.args.order.now) items (i + 1)) same
          (filled_again c.args.written.now c.args.order.now i c.loop-rank.table.items c.index.result.now _ c.requires c.loop-rank-test.true here w.in-Present.is c.loop-rank.invariant)
      | in-Absent+in_ok-made-in-Absent+in-Present-1 w ↦
          let same : set c.loop-rank.table.items node w.in_ok-made-in-Absent.made ≡ c.match-index.table.items = search rules in
          subst (λ items. IsFilled (written_of c.args.written.now) (take (i + 1) c.args.order.now) items (i + 1)) same
          (filled_next c.args.written.now c.args.order.now i c.loop-rank.table.items c.index.result.now w.in_ok-made-in-Absent.made w.index-written-term.result c.requires c.loop-rank-test.true w.index-written-term.is here w.in-Absent.is c.loop-rank.invariant
          (λ whole stands. w.in_ok-made-in-Absent.ensures whole (subst (λ table. StandFor whole table i) (sym w.as_slice.ensures.value) stands)))
      | in-Absent+in_ok-made-in-Absent+in-Absent-1 w ↦
          let same : set c.loop-rank.table.items node w.in_ok-made-in-Absent.made ≡ c.match-index.table.items = search rules in
          subst (λ items. IsFilled (written_of c.args.written.now) (take (i + 1) c.args.order.now) items (i + 1)) same
          (filled_next c.args.written.now c.args.order.now i c.loop-rank.table.items c.index.result.now w.in_ok-made-in-Absent.made w.index-written-term.result c.requires c.loop-rank-test.true w.index-written-term.is here w.in-Absent.is c.loop-rank.invariant
          (λ whole stands. w.in_ok-made-in-Absent.ensures whole (subst (λ table. StandFor whole table i) (sym w.as_slice.ensures.value) stands)))
    ]

pub returns : goal.returns
returns c = filled_all (written_of c.args.written.now) c.args.order.now c.loop-rank.rank c.loop-rank.table.items c.requires c.loop-rank-test.false c.loop-rank.auto.rank-end c.loop-rank.invariant
