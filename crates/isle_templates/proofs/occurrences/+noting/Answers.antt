use Rattle.std.proofs.Common.{◌≡◌, ◌*◌, ◌≤◌, [], ◌∷◌, Some, rules, length, map, arith, subst}
use Rattle.std.proofs.lemmas.Result.{on_ok_weaker}
use Rattle.isle_core.specs.RuleViews.{pattern as elaborated}
use Rattle.isle_templates.specs.Occurrences.{AreAdded, times_in}
use Rattle.isle_templates.specs.Renumbered.{pattern_variables}
use Rattle.isle_templates.specs.Standing.{kept_of}
use Rattle.isle_templates.specs.Substituted.{expanded, opened}
use Rattle.isle_templates.proofs.ExpansionSteps.{term_seen, and_seen}
use Rattle.isle_templates.proofs.KnownSteps.{kept_there}
use Rattle.isle_templates.proofs.OccurrenceSteps.{bind_added, each_more, given, inside_same, not_given, opened_all, opened_more, own_added}
use Rattle.isle_templates.proofs.occurrences.+noting.Goals as goal

pub note-returns-in_ok-add-in-BindPattern : goal.note-returns-in_ok-add-in-BindPattern
note-returns-in_ok-add-in-BindPattern t c =
    on_ok_weaker c.note.result
    (λ h whole stands. bind_added whole c.args.p.now c.in-BindPattern.field-0 c.in-BindPattern.parameter c.in-BindPattern.inner c.get.result.now c.index.result c.args.often _ _ _ c.in-BindPattern.is (search rules) c.index.ensures c.in_ok-add-in-BindPattern.ensures (h whole stands)) c.note.ensures

pub note-returns-in-Term : goal.note-returns-in-Term
note-returns-in-Term t c =
    on_ok_weaker c.note_term.result
    (λ h whole stands. subst (λ q. AreAdded (λ x. c.args.often * times_in (pattern_variables q) x) c.args.times.now.items c.note_term.new.times.items)
    (term_seen whole c.args.p.now c.in-Term.field-0 c.in-Term.term c.in-Term.parts c.as_slice.result.now c.in-Term.is c.as_slice.ensures) (h whole c.in-Term.field-0 stands)) c.note_term.ensures

pub note-returns-in-And : goal.note-returns-in-And
note-returns-in-And t c =
    on_ok_weaker c.note_each.result
    (λ h whole stands. subst (λ q. AreAdded (λ x. c.args.often * times_in (pattern_variables q) x) c.args.times.now.items c.note_each.new.times.items)
    (and_seen whole c.args.p.now c.in-And.field-0 c.in-And.parts c.as_slice-in-And.result.now c.in-And.is (search rules)) (h whole stands)) c.note_each.ensures

pub note_each-loop-p-preserved : goal.note_each-loop-p-preserved
note_each-loop-p-preserved t c = λ whole stands. each_more c.args.often (expanded whole) c.args.parts.now c.loop-p.p-index c.p-item.result _ _ _ c.loop-p-test.true c.p-item.is (c.loop-p.invariant whole stands) (c.in_ok-note.ensures whole stands)

pub note_opened-loop-parameter-preserved : goal.note_opened-loop-parameter-preserved
note_opened-loop-parameter-preserved t c = λ whole stands.
    let args = map (expanded whole) (map elaborated c.args.args.now) in
    let arg = expanded whole (elaborated c.index-args-parameter.result) in
    opened_more c.args.often c.saturating_mul.result args c.args.kept.now.times.items c.loop-parameter.parameter (pattern_variables arg) c.args.times.now.items c.loop-parameter.times.items c.note.new.times.items
    (inside_same c.args.often c.times.result _ c.saturating_mul.result c.saturating_mul.ensures c.times.ensures)
    (given (expanded whole) c.args.args.now c.loop-parameter.parameter c.index-args-parameter.result c.loop-parameter-test.true c.index-args-parameter.is)
    (c.loop-parameter.invariant whole stands) (c.in_ok-note.ensures whole stands)

pub note_opened-loop-own-preserved : goal.note_opened-loop-own-preserved
note_opened-loop-own-preserved t c =
    let le : length c.args.args.now ≤ c.loop-own.own = c.loop-own.invariant.0 in (
      omega (arith, le),
      λ whole stands.
          let args = map (expanded whole) (map elaborated c.args.args.now) in
          opened_more c.args.often c.saturating_mul-in-loop-own.result args c.args.kept.now.times.items c.loop-own.own (c.loop-own.own ∷ []) c.args.times.now.items c.loop-own.times.items c.add.new.times.items
          (inside_same c.args.often c.times-in-loop-own.result _ c.saturating_mul-in-loop-own.result c.saturating_mul-in-loop-own.ensures c.times-in-loop-own.ensures)
          (not_given (expanded whole) c.args.args.now c.loop-own.own le)
          (c.loop-own.invariant.1 whole stands) (own_added c.loop-own.own c.saturating_mul-in-loop-own.result c.loop-own.times.items c.add.new.times.items c.in_ok-add.ensures),
    )

pub note_opened-returns : goal.note_opened-returns
note_opened-returns t c = λ whole inner template stands kept.
    let past : length c.args.kept.now.times.items ≤ c.loop-own.own = search rules in
    opened_all c.args.often (map (expanded whole) (map elaborated c.args.args.now)) template c.args.kept.now.times.items c.loop-own.own c.args.times.now.items c.loop-own.times.items kept.times past (c.loop-own.invariant.1 whole stands)

pub note_term-returns-in-Some : goal.note_term-returns-in-Some
note_term-returns-in-Some t c =
    let is : kept_of c.args.known.table.now c.args.known.below c.args.term ≡ Some c.in-Some.kept.now = search rules in
    on_ok_weaker c.note_opened.result
    (λ h whole ty stands.
    kept_there (λ o. AreAdded (λ x. c.args.often * times_in (pattern_variables (opened o ty c.args.term (map (expanded whole) (map elaborated c.args.parts.now)))) x) c.args.times.now.items c.note_opened.new.times.items)
    whole c.args.known.table.now c.args.known.below c.args.term c.in-Some.kept.now stands is (λ inner template below kept. h whole inner template stands kept)) c.note_opened.ensures
