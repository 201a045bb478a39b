use Rattle.std.proofs.Common.{rules, inr}
use Rattle.isle_core.specs.ValueViews.{meaning, ran}
use Rattle.isle_answers.specs.Views.{forms_seen}
use Rattle.isle_run.specs.Compiled.{attempt}
use Rattle.isle_run.proofs.RunRefusals.{refuses, refuses_left, under_forms}
use Rattle.isle_run.proofs.outcome.under_forms.Goals as goal

pub returns-in-Err-clause-err : goal.returns-in-Err-clause-err
returns-in-Err-clause-err c text spelt end =
    rw c.placed.ensures (refuses (attempt c.args.compiled.now c.args.term.now c.args.args.now) text (forms_seen c.args.forms.now) c.args.end c.in-Err.e spelt end (search rules))

pub returns-then-branch-clause-err : goal.returns-then-branch-clause-err
returns-then-branch-clause-err c text spelt end =
    inr
    (refuses_left (attempt c.args.compiled.now c.args.term.now c.args.args.now) text (forms_seen c.args.forms.now) c.args.end (meaning c.in_ok-answers.answers) c.in_ok-leaves_out.field-0 spelt end c.in_ok-answers.ensures.answers c.in-Ok.ensures.may
    (c.in_ok-leaves_out.ensures c.args.args.now) c.if-branch.true)

pub returns-clause-ok : goal.returns-clause-ok
returns-clause-ok c =
    under_forms (attempt c.args.compiled.now c.args.term.now c.args.args.now) (forms_seen c.args.forms.now) (meaning c.in_ok-answers.answers) c.in_ok-answers.answers.held c.in_ok-leaves_out.field-0 (ran c.in-Ok.outcome)
    c.in_ok-answers.ensures.answers c.in_ok-answers.ensures.held c.in-Ok.ensures.may
    (c.in_ok-leaves_out.ensures c.args.args.now) c.if-branch.false c.in-Ok.ensures.ran
