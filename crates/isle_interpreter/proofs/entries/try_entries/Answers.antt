use Rattle.std.proofs.Common.{rules, ◌≡◌, [], true, false, inr, sym, ◌∙◌}
use Rattle.std.specs.List.{list_all}
use Rattle.isle_core.specs.ValueViews.{meaning}
use Rattle.isle_tree.specs.Views.{function, program}
use Rattle.isle_tree.specs.Calls.{body_calls}
use Rattle.isle_interpreter.specs.Entries.{entries, AreRight}
use Rattle.isle_places.specs.Places.{places}
use Rattle.isle_interpreter.specs.Served.{has}
use Rattle.isle_interpreter.proofs.EntryTests.{are_answered, is_missing, knows, known_of, are_given, is_free}
use Rattle.isle_interpreter.proofs.entries.try_entries.Goals as goal

pub returns-then-not-are_within-clause-bad : goal.returns-then-not-are_within-clause-bad
returns-then-not-are_within-clause-bad c =
    let all : list_all (has c.in-Ok.served) (body_calls (function c.args.f.now).body) ≡ false = search rules in
    let right : AreRight (program c.args.p.now) (function c.args.f.now) (meaning c.args.answers.now) [] (entries (meaning c.args.answers.now)) = search rules in
    inr (right, is_missing (program c.args.p.now) (function c.args.f.now) (entries (meaning c.args.answers.now)) c.in-Ok.served c.in-Ok.ensures.serves all, c.count.ensures.entries)

pub returns-then-not-branch-clause-bad : goal.returns-then-not-branch-clause-bad
returns-then-not-branch-clause-bad c =
    let all : list_all (knows (program c.args.p.now) c.in-Ok.served) (places (program c.args.p.now) (function c.args.f.now)) ≡ false =
    sym (known_of c.args.p.now c.in_ok-constants.constants c.in_ok-signatures.signatures (function c.args.f.now) c.in-Ok.served c.in_ok-are_known.field-0 (search rules) (search rules) c.in_ok-are_known.ensures) ∙ (search rules) in
    let right : AreRight (program c.args.p.now) (function c.args.f.now) (meaning c.args.answers.now) [] (entries (meaning c.args.answers.now)) = search rules in
    inr (right, is_free (program c.args.p.now) (function c.args.f.now) (entries (meaning c.args.answers.now)) c.in-Ok.served c.in-Ok.ensures.serves all, c.count-then-not-branch.ensures.entries)

pub returns-clause-answered : goal.returns-clause-answered
returns-clause-answered c =
    let all : list_all (has c.in-Ok.served) (body_calls (function c.args.f.now).body) ≡ true = search rules in
    are_answered (function c.args.f.now) (entries (meaning c.args.answers.now)) c.in-Ok.served c.in-Ok.ensures.serves all

pub returns-clause-given : goal.returns-clause-given
returns-clause-given c =
    let all : list_all (knows (program c.args.p.now) c.in-Ok.served) (places (program c.args.p.now) (function c.args.f.now)) ≡ true =
    sym (known_of c.args.p.now c.in_ok-constants.constants c.in_ok-signatures.signatures (function c.args.f.now) c.in-Ok.served c.in_ok-are_known.field-0 (search rules) (search rules) c.in_ok-are_known.ensures) ∙ (search rules) in
    are_given (program c.args.p.now) (function c.args.f.now) (entries (meaning c.args.answers.now)) c.in-Ok.served c.in-Ok.ensures.serves all
