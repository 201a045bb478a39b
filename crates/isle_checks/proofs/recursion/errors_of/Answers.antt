use Rattle.std.proofs.Common.{◌≡◌, ◌++◌, ◌∷◌, [], rules, sym, ap, ◌∙◌, true, false, not, ◌&&◌, Some, append-nil}
use Rattle.std.specs.Prelude.{slice_get}
use Rattle.isle_core.specs.ExternalSig.{is_recursive}
use Rattle.isle_walks.specs.Walks.{on_closed_walk}
use Rattle.isle_checks.proofs.PlaceLaws.{id_below}
use Rattle.isle_checks.proofs.ToldTerms.{term_at, closed_at, told_more, told_all}
use Rattle.isle_checks.proofs.WalkLaws.{leads_within}
use Rattle.isle_checks.proofs.recursion.errors_of.Goals.{then-told+in_ok-recursion_error+in_ok-push, else-told}
use Rattle.isle_checks.proofs.recursion.errors_of.Goals as goal

pub closed_walks-requires : goal.closed_walks-requires
closed_walks-requires c =
    let g = c.in_ok-graph.ensures in
    rw (c.as_slice.ensures.value, g.is) (leads_within c.args.terms.now c.args.sets.now g.table g.places c.requires.once)

pub bounds-terms-index : goal.bounds-terms-index
bounds-terms-index c =
    rw c.index.ensures (id_below c.args.sets.now _ c.loop-place.place c.index-sets-place.result _ c.requires.there c.loop-place-test.true c.index-sets-place.is)

pub offset_bounds-terms-index : goal.offset_bounds-terms-index
offset_bounds-terms-index c =
    let below = id_below c.args.sets.now _ c.loop-place.place c.index-sets-place.result _ c.requires.there c.loop-place-test.true c.index-sets-place.is in
    search (rules, below)

pub loop-place-preserved : goal.loop-place-preserved
loop-place-preserved c =
    let terms = c.args.terms.now in
    let sets = c.args.sets.now in
    let i = c.loop-place.place in
    let s = c.index-sets-place.result in
    let t = c.index-terms-index.result in
    let below = id_below sets _ i s _ c.requires.there c.loop-place-test.true c.index-sets-place.is in
    let found : slice_get terms s.0.0 ≡ Some t = ap (slice_get terms) (sym c.index.ensures) ∙ term_at terms c.index.result t _ (rw c.index.ensures below) c.index-terms-index.is in
    let told : c.index-in-loop-place.result.now && not c.is_recursive.result ≡ on_closed_walk c.in_ok-graph.graph.items i && not (is_recursive t.kind) =
    ap (λ b. b && not c.is_recursive.result) (closed_at c.in_ok-graph.graph.items c.in_ok-closed.closed.items sets terms i c.index-in-loop-place.result.now c.as_slice.result.now c.as_slice.ensures.value c.in_ok-graph.ensures c.loop-place-test.true c.index-in-loop-place.ensures c.in_ok-closed.ensures) ∙ ap (λ b. on_closed_walk c.in_ok-graph.graph.items i && not b) c.is_recursive.ensures in
    elim c.if-told.branch [
      | then-told+in_ok-recursion_error+in_ok-push w ↦
          rw w.errors-is
          (told_more terms sets c.in_ok-graph.graph.items i s _ t c.loop-place.errors.items w.push.new.self.items true c.in_ok-graph.ensures c.requires.once c.loop-place-test.true c.index-sets-place.is found (sym (search rules) ∙ told) (w.in_ok-push.ensures.items ∙ ap (λ e. c.loop-place.errors.items ++ e ∷ []) w.in_ok-recursion_error.ensures) c.loop-place.invariant)
      | else-told w ↦
          rw w.errors-is
          (told_more terms sets c.in_ok-graph.graph.items i s _ t c.loop-place.errors.items c.loop-place.errors.items false c.in_ok-graph.ensures c.requires.once c.loop-place-test.true c.index-sets-place.is found (sym (search rules) ∙ told) (sym (append-nil c.loop-place.errors.items)) c.loop-place.invariant)
    ]

pub returns : goal.returns
returns c = told_all c.args.terms.now c.args.sets.now c.loop-place.place c.loop-place.errors.items (search rules) c.loop-place.invariant
