use Rattle.std.proofs.Common.{◌≡◌, ◌≤◌, [], ◌∷◌, ◌++◌, true, false, map, take, Some, rules, refl, sym, ap, ◌∙◌, subst}
use Rattle.std.proofs.lemmas.Result.{IfOk-weaker}
use Rattle.isle_templates.specs.Arguments.{needed_one, needed, AreAccepted}
use Rattle.isle_templates.specs.Occurrences.{times_in}
use Rattle.isle_templates.specs.Renumbered.{pattern_variables}
use Rattle.isle_templates.specs.Standing.{kept_of, StandFor}
use Rattle.isle_core.specs.RuleViews.{pattern as elaborated}
use Rattle.isle_templates.specs.Counted.{IsCounted, AreTaken}
use Rattle.isle_templates.specs.Substituted.{expanded, substituted}
use Rattle.isle_templates.proofs.ExpansionSteps.{parts_more, too_many, some_base, place_is, arguments_more, too_many_opened, all_opened, term_seen, and_seen, large_opened, few_kept, few_times_kept}
use Rattle.isle_templates.proofs.KnownSteps.{counted_opened}
use Rattle.isle_templates.proofs.expansion.+expanding.Goals as goal

pub all_expanded-returns-then-not-branch : goal.all_expanded-returns-then-not-branch
all_expanded-returns-then-not-branch t c = λ whole stands.
    let p = expanded whole (elaborated c.p-item.result) in
    let before = map (expanded whole) (map elaborated (take c.loop-p.p-index c.args.parts.now)) in
    let refused : AreTaken false c.args.base (before ++ p ∷ []) c.push.new.self = subst (λ b. AreTaken b c.args.base (before ++ p ∷ []) c.push.new.self) c.if-not-branch.true (c.in_ok-push.ensures c.args.base before p (c.loop-p.invariant whole stands) (c.in_ok-part.ensures whole stands)) in
    too_many c.args.base (expanded whole) c.args.parts.now c.loop-p.p-index c.p-item.result c.loop-p-test.true c.p-item.is refused

pub all_expanded-loop-p-preserved : goal.all_expanded-loop-p-preserved
all_expanded-loop-p-preserved t c = λ whole stands.
    let p = expanded whole (elaborated c.p-item.result) in
    let before = map (expanded whole) (map elaborated (take c.loop-p.p-index c.args.parts.now)) in
    let taken : AreTaken true c.args.base (before ++ p ∷ []) c.push.new.self = subst (λ b. AreTaken b c.args.base (before ++ p ∷ []) c.push.new.self) c.if-not-branch.false (c.in_ok-push.ensures c.args.base before p (c.loop-p.invariant whole stands) (c.in_ok-part.ensures whole stands)) in
    parts_more c.args.base (expanded whole) c.args.parts.now c.loop-p.p-index c.p-item.result c.push.new.self c.loop-p-test.true c.p-item.is taken

pub expanded-returns-in-Term : goal.expanded-returns-in-Term
expanded-returns-in-Term t c =
    IfOk-weaker c.term_expanded.result _ _
    (λ found h whole stands. subst (λ q. IsCounted q found) (term_seen whole c.args.p.now c.in-Term.ty c.in-Term.term c.in-Term.parts c.as_slice.result.now c.in-Term.is c.as_slice.ensures) (h whole stands)) c.term_expanded.ensures

pub expanded-returns-in_ok-parts-in-And : goal.expanded-returns-in_ok-parts-in-And
expanded-returns-in_ok-parts-in-And t c = λ whole stands. subst (λ q. IsCounted q c.and_of.result) (and_seen whole c.args.p.now c.in-And.ty c.in-And.parts c.as_slice-in-And.result.now c.in-And.is (search rules)) (c.and_of.ensures _ (c.in_ok-parts-in-And.ensures whole stands))

pub opened-returns-then-kept-gt-MOST_NODES : goal.opened-returns-then-kept-gt-MOST_NODES
opened-returns-then-kept-gt-MOST_NODES t c = λ whole inner template stands below kept. large_opened inner template c.args.kept.now (map (expanded whole) (map elaborated c.args.args.now)) kept c.if-kept-gt-MOST_NODES.true

pub opened-returns-then-not-branch : goal.opened-returns-then-not-branch
opened-returns-then-not-branch t c = λ whole inner template stands below kept.
    let p = expanded whole (elaborated c.index-args-parameter.result) in
    let few : c.args.kept.now.nodes ≤ 4096 = search rules in
    let base = few_kept inner template c.args.kept.now kept few in
    let times = times_in (pattern_variables template) in
    let times_is : c.times-times.result ≡ times c.loop-parameter.parameter = c.times-times.ensures ∙ few_times_kept inner template c.args.kept.now kept few c.loop-parameter.parameter in
    let before = needed times 0 (map (expanded whole) (map elaborated (take c.loop-parameter.parameter c.args.args.now))) in
    let more = before ++ needed_one c.times-times.result p ∷ [] in
    let refused : AreAccepted false c.args.kept.now.nodes times more c.push_argument.new.self =
    subst (λ b. AreAccepted b c.args.kept.now.nodes times more c.push_argument.new.self) c.if-not-branch.true
    (c.in_ok-push_argument.ensures c.args.kept.now.nodes times before p (some_base template c.args.kept.now.nodes base)
    (times_is ∙ ap times (place_is times (expanded whole) c.args.args.now c.loop-parameter.parameter c.loop-parameter-test.true)) (c.loop-parameter.invariant whole inner template stands kept) (c.in_ok-part.ensures whole stands)) in
    too_many_opened template c.args.kept.now.nodes (pattern_variables template) (expanded whole) c.args.args.now c.loop-parameter.parameter c.index-args-parameter.result c.times-times.result base refl
    c.loop-parameter-test.true c.index-args-parameter.is times_is refused

pub opened-loop-parameter-preserved : goal.opened-loop-parameter-preserved
opened-loop-parameter-preserved t c = λ whole inner template stands kept.
    let p = expanded whole (elaborated c.index-args-parameter.result) in
    let few : c.args.kept.now.nodes ≤ 4096 = search rules in
    let base = few_kept inner template c.args.kept.now kept few in
    let times = times_in (pattern_variables template) in
    let times_is : c.times-times.result ≡ times c.loop-parameter.parameter = c.times-times.ensures ∙ few_times_kept inner template c.args.kept.now kept few c.loop-parameter.parameter in
    let before = needed times 0 (map (expanded whole) (map elaborated (take c.loop-parameter.parameter c.args.args.now))) in
    let more = before ++ needed_one c.times-times.result p ∷ [] in
    let accepted : AreAccepted true c.args.kept.now.nodes times more c.push_argument.new.self =
    subst (λ b. AreAccepted b c.args.kept.now.nodes times more c.push_argument.new.self) c.if-not-branch.false
    (c.in_ok-push_argument.ensures c.args.kept.now.nodes times before p (some_base template c.args.kept.now.nodes base)
    (times_is ∙ ap times (place_is times (expanded whole) c.args.args.now c.loop-parameter.parameter c.loop-parameter-test.true)) (c.loop-parameter.invariant whole inner template stands kept) (c.in_ok-part.ensures whole stands)) in
    arguments_more c.args.kept.now.nodes times (expanded whole) c.args.args.now c.loop-parameter.parameter c.index-args-parameter.result c.times-times.result c.push_argument.new.self c.loop-parameter-test.true c.index-args-parameter.is times_is accepted

pub opened-returns : goal.opened-returns
opened-returns t c = λ whole inner template stands below kept.
    let few : c.args.kept.now.nodes ≤ 4096 = search rules in
    let base = few_kept inner template c.args.kept.now kept few in
    let parts : c.as_slice-parts.result.now ≡ c.loop-parameter.found.patterns.items = search rules in
    let low : StandFor inner c.lower.result.table.now c.lower.result.below = subst (λ n. StandFor inner c.lower.result.table.now n) (sym c.lower.ensures.below) (subst (λ table. StandFor inner table c.args.kept.now.uses) (sym c.lower.ensures.table) below) in
    let made : elaborated c.in_ok-pattern.pattern ≡ substituted (map elaborated c.loop-parameter.found.patterns.items) template =
    c.in_ok-pattern.ensures inner low ∙ ap (λ xs. substituted (map elaborated xs) (expanded inner (elaborated c.args.kept.now.pattern))) parts ∙ ap (substituted (map elaborated c.loop-parameter.found.patterns.items)) (sym kept.whole) in
    all_opened template c.args.kept.now.nodes (pattern_variables template) (expanded whole) c.args.args.now c.loop-parameter.parameter c.loop-parameter.found c.in_ok-pattern.pattern base refl c.loop-parameter-test.false (c.loop-parameter.invariant whole inner template stands kept) made

pub term_expanded-returns-in-Some : goal.term_expanded-returns-in-Some
term_expanded-returns-in-Some t c =
    let is : kept_of c.args.known.table.now c.args.known.below c.args.term ≡ Some c.in-Some.kept.now = search rules in
    IfOk-weaker c.opened.result _ _
    (λ found h whole stands. counted_opened whole c.args.known.table.now c.args.known.below c.args.ty c.args.term _ c.in-Some.kept.now found stands is (λ inner template below kept. h whole inner template stands below kept)) c.opened.ensures

pub term_on-returns : goal.term_on-returns
term_on-returns t c = λ whole stands. c.term_of.ensures _ (c.in_ok-parts.ensures whole stands)
