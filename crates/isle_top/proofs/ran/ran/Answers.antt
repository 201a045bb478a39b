use Rattle.std.proofs.Common.{ℕ, List, Option, sym, subst}
use Rattle.std.specs.Prelude.{IsSomeAnd}
use Rattle.std.specs.Option.{option_copied}
use Rattle.isle_command_line.specs.Views.{seen_run}
use Rattle.isle_outside.specs.Directory.{Contents}
use Rattle.isle_top.specs.Inputs.{FailsTo}
use Rattle.isle_top.specs.Job.{surroundings}
use Rattle.isle_top.specs.RunLine.{FailsToRun, IsAnswersText}
use Rattle.isle_top.specs.Showing.{no_lines, of_trial, running}
use Rattle.isle_top.specs.Sourcing.{sourcing_of}
use Rattle.isle_top.specs.Tabling.{handed}
use Rattle.isle_top.specs.declared.refusal.Refusal.{Refusal}
use Rattle.isle_top.proofs.HadLaws.{read_late, trial_late}
use Rattle.isle_top.proofs.RunFails.{fails_source, fails_answers, fails_read}
use Rattle.isle_top.proofs.SourceLaws.{source_steady}
use Rattle.isle_top.proofs.Tries.{inputs_tried}
use Rattle.isle_run.specs.NoLines.{HasNoLines}
use Rattle.isle_top.proofs.ran.ran.Goals as goal

pub returns-in-Err-clause-err : goal.returns-in-Err-clause-err
returns-in-Err-clause-err g c =
    let r = seen_run c.args.run.now in
    fails_source (sourcing_of (handed c.args.tables.now) r.options r.source) (running r) (surroundings (g.D.Dir.files c.args.dir.now) (g.D.Dir.counts c.args.dir.now) (g.D.Dir.counts c.source_of.new.dir)) c.in-Err.e c.in-Err.ensures.err

pub returns-in-Err-answers_text-clause-err : goal.returns-in-Err-answers_text-clause-err
returns-in-Err-answers_text-clause-err g c =
    let r = seen_run c.args.run.now in
    let files : Option Contents = g.D.Dir.files c.args.dir.now in
    let before = g.D.Dir.counts c.args.dir.now in
    let mid = g.D.Dir.counts c.source_of.new.dir in
    let after = g.D.Dir.counts c.answers_text.new.dir in
    let answers : Option (List ℕ) = option_copied c.name_of.result in
    let e = c.in-Err-answers_text.e in
    let index = c.inputs_count-index.result in
    let unread : IsSomeAnd answers (λ name. FailsTo e index files name mid after) =
    subst (λ (fs : Option Contents). IsSomeAnd answers (λ name. FailsTo e index fs name mid after)) c.source_of.ensures.files c.in-Err-answers_text.ensures.err in
    let from = sourcing_of (handed c.args.tables.now) r.options r.source in
    subst (λ (refusal : Refusal). FailsToRun from (running r) (surroundings files before after) refusal) (sym c.of_read.ensures)
    (fails_answers from (source_steady c.args.tables.now r.options r.source) (running r) files before mid after c.in-Ok.files c.in-Ok.ensures.read c.in-Ok.ensures.tried answers index e
    c.name_of.ensures (c.inputs_count-index.ensures c.args.tables.now r.options) unread)

pub returns-in-Err-answers_text-clause-unasked : goal.returns-in-Err-answers_text-clause-unasked
returns-in-Err-answers_text-clause-unasked g c = λ early. absurd (read_late c.in-Err-answers_text.e c.of_read.result c.of_read.ensures early)

pub returns-in-Err-shown-clause-err : goal.returns-in-Err-shown-clause-err
returns-in-Err-shown-clause-err g c =
    let r = seen_run c.args.run.now in
    let files : Option Contents = g.D.Dir.files c.args.dir.now in
    let before = g.D.Dir.counts c.args.dir.now in
    let mid = g.D.Dir.counts c.source_of.new.dir in
    let after = g.D.Dir.counts c.answers_text.new.dir in
    let answers : Option (List ℕ) = option_copied c.name_of.result in
    let read = c.in-Ok-answers_text.ensures in
    let answered : IsAnswersText files answers c.in-Ok-answers_text.answers = subst (λ (fs : Option Contents). IsAnswersText fs answers c.in-Ok-answers_text.answers) c.source_of.ensures.files read.ok in
    let none : HasNoLines r.options c.in-Ok.files r.term r.values c.in-Ok-answers_text.answers c.in-Err-shown.fail = subst (λ (given : List ℕ). HasNoLines r.options c.in-Ok.files r.term r.values given c.in-Err-shown.fail) c.as_str.ensures c.in-Err-shown.ensures.err in
    let from = sourcing_of (handed c.args.tables.now) r.options r.source in
    subst (λ (refusal : Refusal). FailsToRun from (running r) (surroundings files before after) refusal) (sym c.of_trial.ensures)
    (fails_read from (source_steady c.args.tables.now r.options r.source) (running r) files before mid after c.in-Ok.files c.in-Ok.ensures.read c.in-Ok.ensures.tried answers c.in-Ok-answers_text.answers
    (of_trial c.in-Ok.files c.in-Err-shown.fail) c.name_of.ensures answered
    (inputs_tried from.inputs answers before mid after c.in-Ok.ensures.tried read.looks read.steady) (no_lines c.in-Err-shown.fail none))

pub returns-in-Err-shown-clause-unasked : goal.returns-in-Err-shown-clause-unasked
returns-in-Err-shown-clause-unasked g c = λ early. absurd (trial_late c.in-Ok.files c.in-Err-shown.fail c.of_trial.result c.of_trial.ensures early)
