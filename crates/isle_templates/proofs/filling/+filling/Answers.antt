use Rattle.std.proofs.Common.{◌≡◌, map, take, length, Some, rules, arith, sym, ap, ◌∙◌, subst}
use Rattle.std.proofs.lemmas.Result.{IfOk-weaker}
use Rattle.std.proofs.lemmas.List.{take_all, take-map}
use Rattle.isle_core.specs.RuleViews.{pattern as elaborated}
use Rattle.isle_templates.specs.PutIn.{put_in, with_rest}
use Rattle.isle_templates.specs.Standing.{kept_of, StandFor}
use Rattle.isle_templates.specs.Substituted.{expanded, substituted}
use Rattle.isle_templates.proofs.FillingSteps.{filled_enough, item_nodes, term_seen, and_seen}
use Rattle.isle_templates.proofs.KnownSteps.{kept_there, lighter_uses, weight}
use Rattle.isle_templates.proofs.filling.+filling.Goals as goal

pub each_filled-filled-requires : goal.each_filled-filled-requires
each_filled-filled-requires t c =
    let falls = item_nodes c.args.parts.now c.loop-p.p-index c.p-item.result c.loop-p-test.true c.p-item.is in
    (omega (arith, falls, c.decreases), tt)

pub each_filled-returns : goal.each_filled-returns
each_filled-returns t c = λ whole stands.
    c.loop-p.invariant whole stands ∙ ap (λ xs. map (λ p. substituted (map elaborated c.args.args.now) (expanded whole p)) (map elaborated xs)) (take_all c.loop-p.p-index c.args.parts.now c.loop-p-test.false)

pub filled-returns-in_ok-parts-in-Term : goal.filled-returns-in_ok-parts-in-Term
filled-returns-in_ok-parts-in-Term t c =
    IfOk-weaker c.term_filled.result _ _
    (λ p h whole stands. h whole stands ∙ term_seen whole (map elaborated c.args.args.now) c.args.template.now c.in-Term.ty c.in-Term.term c.in-Term.parts c.as_slice.result.now c.in_ok-parts-in-Term.parts.items c.in-Term.is c.as_slice.ensures (c.in_ok-parts-in-Term.ensures whole stands)) c.term_filled.ensures

pub filled-returns-in_ok-parts-in-And : goal.filled-returns-in_ok-parts-in-And
filled-returns-in_ok-parts-in-And t c = λ whole stands.
    and_seen whole (map elaborated c.args.args.now) c.args.template.now c.in-And.ty c.in-And.parts c.as_slice-in-And.result.now c.new.result c.in-And.is (search rules) (ap (map elaborated) {y = c.in_ok-parts-in-And.parts.items} (search rules) ∙ c.in_ok-parts-in-And.ensures whole stands)

pub term_filled-filled-requires : goal.term_filled-filled-requires
term_filled-filled-requires t c =
    let is : kept_of c.args.known.table.now c.args.known.below c.args.term ≡ Some c.in-Some.kept.now = search rules in
    let light = lighter_uses c.args.known.table.now c.args.known.below c.args.term.0 c.in-Some.kept.now is in
    let same : weight c.lower.result.below c.lower.result.table.now ≡ weight c.in-Some.kept.now.uses c.args.known.table.now = ap (λ n. weight n c.lower.result.table.now) c.lower.ensures.below ∙ ap (weight c.in-Some.kept.now.uses) c.lower.ensures.table in
    (omega (arith, light, same, c.decreases), tt)

pub term_filled-returns-in_ok-all-in-Some : goal.term_filled-returns-in_ok-all-in-Some
term_filled-returns-in_ok-all-in-Some t c =
    let is : kept_of c.args.known.table.now c.args.known.below c.args.term ≡ Some c.in-Some.kept.now = search rules in
    let parts = map elaborated c.args.parts.items in
    let args = map elaborated c.args.args.now in
    IfOk-weaker c.filled.result _ _
    (λ p h whole stands.
    kept_there (λ o. elaborated p ≡ put_in o c.args.ty c.args.term parts args) whole c.args.known.table.now c.args.known.below c.args.term c.in-Some.kept.now stands is
    (λ inner template below kept.
    let low : StandFor inner c.lower.result.table.now c.lower.result.below = subst (λ n. StandFor inner c.lower.result.table.now n) (sym c.lower.ensures.below) (subst (λ table. StandFor inner table c.in-Some.kept.now.uses) (sym c.lower.ensures.table) below) in
    let most = length c.in-Some.kept.now.times.items in
    let given : map elaborated c.as_slice.result.now ≡ with_rest parts (map elaborated (take most c.args.args.now)) = search rules in
    h inner low ∙ ap (λ ps. substituted ps (expanded inner (elaborated c.in-Some.kept.now.pattern))) (given ∙ ap (with_rest parts) (sym (take-map elaborated most c.args.args.now)))
    ∙ ap (substituted (with_rest parts (take most args))) (sym kept.whole) ∙ filled_enough template c.in-Some.kept.now.times.items parts args kept.times)) c.filled.ensures
