use Rattle.std.proofs.Common.{rules, ◌≡◌, Some, None}
use Rattle.isle_core.specs.ValueViews.{values, meaning, ran}
use Rattle.isle_tree.specs.Run.{function_run}
use Rattle.isle_tree.specs.Views.{function, program}
use Rattle.isle_interpreter.proofs.Founds.{not_none, end_fits}
use Rattle.isle_interpreter.proofs.fitting.run_fitting.Goals as goal

pub unreachable-requires : goal.unreachable-requires
unreachable-requires c =
    let m = meaning c.args.answers.now in
    let held = c.args.answers.now.held in
    let none : None ≡ function_run (program c.args.p.now) m held (values c.args.args.now) (Some (function c.args.f.now)) = search rules in
    not_none (program c.args.p.now) c.args.term.now (values c.args.args.now) m held (function c.args.f.now) c.requires.well_formed c.requires.may none

pub returns-clause-ends : goal.returns-clause-ends
returns-clause-ends c =
    let m = meaning c.args.answers.now in
    let held = c.args.answers.now.held in
    let some : Some (ran c.in-Some.outcome) ≡ function_run (program c.args.p.now) m held (values c.args.args.now) (Some (function c.args.f.now)) = search rules in
    end_fits (program c.args.p.now) c.args.term.now (values c.args.args.now) m held (function c.args.f.now) (ran c.in-Some.outcome) c.requires.well_formed c.requires.may some
