use Rattle.std.proofs.Common.{rules, ◌≡◌, Some}
use Rattle.std.proofs.lemmas.Result.{IfOk-weaker}
use Rattle.isle_core.specs.ValueViews.{values, meaning, end}
use Rattle.isle_tree.specs.Program.{Function}
use Rattle.isle_tree.specs.Run.{function_of}
use Rattle.isle_tree.specs.Views.{function, program}
use Rattle.isle_interpreter.specs.Ends.{EndFits}
use Rattle.isle_interpreter.specs.Judged.{Runs}
use Rattle.isle_interpreter.specs.Refusals.{MayRun, IsRefused}
use Rattle.isle_interpreter.specs.declared.run_error.RunError.{RunError}
use Rattle.isle_interpreter.proofs.Founds.{kind_fits}
use Rattle.isle_interpreter.proofs.OneRefusal.{not_refused}
use Rattle.isle_interpreter.proofs.Refusing.{early_refused, bad_refused, only_one, on_ok}
use Rattle.isle_interpreter.proofs.term.run_term.Goals as goal

fits : (c : goal.After-run_fitting) → MayRun (program c.args.p.now) c.args.name.now (values c.args.args.now) (meaning c.args.answers.now) (function c.in-Ok.f.now)
fits c =
    let there : function_of c.args.name.now (program c.args.p.now).fns ≡ Some (function c.in-Ok.f.now) = search rules in
    record { found = there; typed = c.in-Ok.ensures.typed; right = c.in-Ok-try_entries.ensures.right; answered = c.in-Ok-try_entries.ensures.answered; given = c.in-Ok-try_entries.ensures.given }

pub returns-in-Ok-try_entries-clause-may : goal.returns-in-Ok-try_entries-clause-may
returns-in-Ok-try_entries-clause-may c =
    on_ok c.run_fitting.result (Runs (program c.args.p.now) c.args.name.now (values c.args.args.now) (meaning c.args.answers.now)) (record { function = function c.in-Ok.f.now; may = fits c })

pub returns-in-Ok-try_entries-clause-ends : goal.returns-in-Ok-try_entries-clause-ends
returns-in-Ok-try_entries-clause-ends c =
    let fs = (program c.args.p.now).fns in
    let f = function c.in-Ok.f.now in
    IfOk-weaker c.run_fitting.result (λ o. EndFits f.kind (end o.end)) (λ o. (g : Function) → function_of c.args.name.now fs ≡ Some g → EndFits g.kind (end o.end))
    (λ o h g there. kind_fits c.args.name.now fs f g (end o.end) (fits c).found there h) c.run_fitting.ensures.ends

pub returns-in-Ok-try_entries-clause-never : goal.returns-in-Ok-try_entries-clause-never
returns-in-Ok-try_entries-clause-never c =
    let p = program c.args.p.now in
    let args = values c.args.args.now in
    let m = meaning c.args.answers.now in
    on_ok c.run_fitting.result ((d : RunError) → IsRefused p c.args.name.now args m d → ⊥) (λ d. not_refused p c.args.name.now args m (function c.in-Ok.f.now) d (fits c))

pub returns-in-Err-clause-refused : goal.returns-in-Err-clause-refused
returns-in-Err-clause-refused c = early_refused (program c.args.p.now) c.args.name.now (values c.args.args.now) (meaning c.args.answers.now) c.in-Err.e c.in-Err.ensures.refused

pub returns-in-Err-clause-only : goal.returns-in-Err-clause-only
returns-in-Err-clause-only c =
    let p = program c.args.p.now in
    let args = values c.args.args.now in
    let m = meaning c.args.answers.now in
    only_one p c.args.name.now args m c.in-Err.e (early_refused p c.args.name.now args m c.in-Err.e c.in-Err.ensures.refused)

pub returns-in-Err-try_entries-clause-refused : goal.returns-in-Err-try_entries-clause-refused
returns-in-Err-try_entries-clause-refused c =
    let p = program c.args.p.now in
    let f = function c.in-Ok.f.now in
    let there : function_of c.args.name.now p.fns ≡ Some f = search rules in
    bad_refused p c.args.name.now (values c.args.args.now) (meaning c.args.answers.now) f c.in-Err-try_entries.e there c.in-Ok.ensures.typed c.in-Err-try_entries.ensures.bad

pub returns-in-Err-try_entries-clause-only : goal.returns-in-Err-try_entries-clause-only
returns-in-Err-try_entries-clause-only c =
    let p = program c.args.p.now in
    let f = function c.in-Ok.f.now in
    let args = values c.args.args.now in
    let m = meaning c.args.answers.now in
    let there : function_of c.args.name.now p.fns ≡ Some f = search rules in
    only_one p c.args.name.now args m c.in-Err-try_entries.e (bad_refused p c.args.name.now args m f c.in-Err-try_entries.e there c.in-Ok.ensures.typed c.in-Err-try_entries.ensures.bad)
