use Rattle.std.proofs.Common.{rules, ◌≡◌, ◌≤◌, ◌+◌, ◌*◌, ◌^◌, length, refl, sym, subst}
use Rattle.isle_command_line.specs.Request.{Request, Build, Compile, Prelude, Isa, Sample, Run}
use Rattle.isle_command_line.specs.Views.{seen_command, seen_run}
use Rattle.isle_top.specs.declared.refusal.Refusal.TheVariants as refusal
use Rattle.isle_top.specs.Job.{Around, surroundings}
use Rattle.isle_top.specs.Jobs.{job_of}
use Rattle.isle_top.proofs.Replies.{build_replies, compile_fails, compile_replies, isa_replies, line_fails, never_asked, prelude_fails, prelude_replies, run_replies, sample_replies}
use Rattle.isle_top.proofs.ValidLines.{only_want, replied_unless}
use Rattle.isle_top.proofs.reply.reply.Goals as goal

pub returns-in-Ok-clause-ok : goal.returns-in-Ok-clause-ok
returns-in-Ok-clause-ok g c =
    let around : Around = record { files = g.D.Dir.files c.args.dir.now; before = g.D.Dir.counts c.args.dir.now; after = g.D.Dir.counts c.compiled.new.dir } in
    let is : seen_command c.args.line.now.command.now ≡ Compile c.in-Compile.options c.as_slice.result.now = search rules in
    compile_replies c.args.line.now.tables.now (seen_command c.args.line.now.command.now) c.in-Compile.options c.as_slice.result.now around is c.in-Ok.text.bytes.items c.in-Ok.ensures.ok c.in-Ok.ensures.tried

pub returns-in-Err-clause-err : goal.returns-in-Err-clause-err
returns-in-Err-clause-err g c =
    let around : Around = record { files = g.D.Dir.files c.args.dir.now; before = g.D.Dir.counts c.args.dir.now; after = g.D.Dir.counts c.compiled.new.dir } in
    let is : seen_command c.args.line.now.command.now ≡ Compile c.in-Compile.options c.as_slice.result.now = search rules in
    compile_fails c.args.line.now.tables.now (seen_command c.args.line.now.command.now) c.in-Compile.options c.as_slice.result.now around is c.in-Err.e c.in-Err.ensures.err

pub returns-in-Err-clause-complete : goal.returns-in-Err-clause-complete
returns-in-Err-clause-complete g c = λ valid calm.
    let around : Around = record { files = g.D.Dir.files c.args.dir.now; before = g.D.Dir.counts c.args.dir.now; after = g.D.Dir.counts c.compiled.new.dir } in
    let is : seen_command c.args.line.now.command.now ≡ Compile c.in-Compile.options c.as_slice.result.now = search rules in
    only_want c.args.line.now.tables.now (seen_command c.args.line.now.command.now) (refusal.Files c.in-Err.e) around.files around.before around.after valid
    (compile_fails c.args.line.now.tables.now (seen_command c.args.line.now.command.now) c.in-Compile.options c.as_slice.result.now around is c.in-Err.e c.in-Err.ensures.err) calm

pub returns-in-Run-clause-ok : goal.returns-in-Run-clause-ok
returns-in-Run-clause-ok g c =
    let around : Around = record { files = g.D.Dir.files c.args.dir.now; before = g.D.Dir.counts c.args.dir.now; after = g.D.Dir.counts c.ran.new.dir } in
    let is : seen_command c.args.line.now.command.now ≡ Run (seen_run c.in-Run.run') = search rules in
    run_replies c.args.line.now.tables.now (seen_command c.args.line.now.command.now) (seen_run c.in-Run.run') around c.ran.result is c.ran.ensures.ok c.ran.ensures.tried

pub returns-in-Run-clause-err : goal.returns-in-Run-clause-err
returns-in-Run-clause-err g c =
    let around : Around = record { files = g.D.Dir.files c.args.dir.now; before = g.D.Dir.counts c.args.dir.now; after = g.D.Dir.counts c.ran.new.dir } in
    let is : seen_command c.args.line.now.command.now ≡ Run (seen_run c.in-Run.run') = search rules in
    line_fails c.args.line.now.tables.now (seen_command c.args.line.now.command.now) (Run (seen_run c.in-Run.run')) around c.ran.result is c.ran.ensures.err

pub returns-in-Run-clause-complete : goal.returns-in-Run-clause-complete
returns-in-Run-clause-complete g c = λ valid calm.
    let around : Around = record { files = g.D.Dir.files c.args.dir.now; before = g.D.Dir.counts c.args.dir.now; after = g.D.Dir.counts c.ran.new.dir } in
    let is : seen_command c.args.line.now.command.now ≡ Run (seen_run c.in-Run.run') = search rules in
    replied_unless c.args.line.now.tables.now (seen_command c.args.line.now.command.now) c.ran.result around.files around.before around.after
    (line_fails c.args.line.now.tables.now (seen_command c.args.line.now.command.now) (Run (seen_run c.in-Run.run')) around c.ran.result is c.ran.ensures.err) valid calm

pub returns-in-Run-clause-given : goal.returns-in-Run-clause-given
returns-in-Run-clause-given g c =
    let is : seen_command c.args.line.now.command.now ≡ Run (seen_run c.in-Run.run') = search rules in
    subst (λ (a : Request). (g.D.Dir.counts c.ran.new.dir).given ≤ (g.D.Dir.counts c.args.dir.now).given + (2 ^ 24 + 1) * length (job_of c.args.line.now.tables.now a).inputs) (sym is) c.ran.ensures.given

pub returns-in-Build-clause-ok : goal.returns-in-Build-clause-ok
returns-in-Build-clause-ok g c =
    let around : Around = record { files = g.D.Dir.files c.args.dir.now; before = g.D.Dir.counts c.args.dir.now; after = g.D.Dir.counts c.built.new.dir } in
    let is : seen_command c.args.line.now.command.now ≡ Build c.in-Build.options c.as_str.result.now = search rules in
    build_replies c.args.line.now.tables.now (seen_command c.args.line.now.command.now) c.in-Build.options c.as_str.result.now around c.built.result is c.built.ensures.ok c.built.ensures.tried

pub returns-in-Build-clause-err : goal.returns-in-Build-clause-err
returns-in-Build-clause-err g c =
    let around : Around = record { files = g.D.Dir.files c.args.dir.now; before = g.D.Dir.counts c.args.dir.now; after = g.D.Dir.counts c.built.new.dir } in
    let is : seen_command c.args.line.now.command.now ≡ Build c.in-Build.options c.as_str.result.now = search rules in
    line_fails c.args.line.now.tables.now (seen_command c.args.line.now.command.now) (Build c.in-Build.options c.as_str.result.now) around c.built.result is c.built.ensures.err

pub returns-in-Build-clause-complete : goal.returns-in-Build-clause-complete
returns-in-Build-clause-complete g c = λ valid calm.
    let around : Around = record { files = g.D.Dir.files c.args.dir.now; before = g.D.Dir.counts c.args.dir.now; after = g.D.Dir.counts c.built.new.dir } in
    let is : seen_command c.args.line.now.command.now ≡ Build c.in-Build.options c.as_str.result.now = search rules in
    replied_unless c.args.line.now.tables.now (seen_command c.args.line.now.command.now) c.built.result around.files around.before around.after
    (line_fails c.args.line.now.tables.now (seen_command c.args.line.now.command.now) (Build c.in-Build.options c.as_str.result.now) around c.built.result is c.built.ensures.err) valid calm

pub returns-in-Sample-clause-ok : goal.returns-in-Sample-clause-ok
returns-in-Sample-clause-ok g c =
    let is : seen_command c.args.line.now.command.now ≡ Sample c.in-Sample.size = search rules in
    sample_replies c.args.line.now.tables.now (seen_command c.args.line.now.command.now) c.in-Sample.size (g.D.Dir.files c.args.dir.now) (g.D.Dir.counts c.args.dir.now) c.sample_reply.result is c.sample_reply.ensures.ok

pub returns-in-Sample-clause-err : goal.returns-in-Sample-clause-err
returns-in-Sample-clause-err g c =
    let around = surroundings (g.D.Dir.files c.args.dir.now) (g.D.Dir.counts c.args.dir.now) (g.D.Dir.counts c.args.dir.now) in
    let is : seen_command c.args.line.now.command.now ≡ Sample c.in-Sample.size = search rules in
    line_fails c.args.line.now.tables.now (seen_command c.args.line.now.command.now) (Sample c.in-Sample.size) around c.sample_reply.result is c.sample_reply.ensures.err

pub returns-in-Prelude-clause-ok : goal.returns-in-Prelude-clause-ok
returns-in-Prelude-clause-ok g c =
    let is : seen_command c.args.line.now.command.now ≡ Prelude c.in-Prelude.kind = search rules in
    prelude_replies c.args.line.now.tables.now (seen_command c.args.line.now.command.now) c.in-Prelude.kind (g.D.Dir.files c.args.dir.now) (g.D.Dir.counts c.args.dir.now) c.preluded.result is c.preluded.ensures.ok

pub returns-in-Prelude-clause-err : goal.returns-in-Prelude-clause-err
returns-in-Prelude-clause-err g c =
    let is : seen_command c.args.line.now.command.now ≡ Prelude c.in-Prelude.kind = search rules in
    prelude_fails c.args.line.now.tables.now (seen_command c.args.line.now.command.now) c.in-Prelude.kind (g.D.Dir.files c.args.dir.now) (g.D.Dir.counts c.args.dir.now) c.preluded.result is c.preluded.ensures.err

pub returns-in-Prelude-clause-complete : goal.returns-in-Prelude-clause-complete
returns-in-Prelude-clause-complete g c = λ valid calm.
    let files = g.D.Dir.files c.args.dir.now in
    let counts = g.D.Dir.counts c.args.dir.now in
    let is : seen_command c.args.line.now.command.now ≡ Prelude c.in-Prelude.kind = search rules in
    replied_unless c.args.line.now.tables.now (seen_command c.args.line.now.command.now) c.preluded.result files counts counts
    (prelude_fails c.args.line.now.tables.now (seen_command c.args.line.now.command.now) c.in-Prelude.kind files counts c.preluded.result is c.preluded.ensures.err) valid calm

pub returns-in-Isa-clause-ok : goal.returns-in-Isa-clause-ok
returns-in-Isa-clause-ok g c =
    let is : seen_command c.args.line.now.command.now ≡ Isa c.in-Isa.target = search rules in
    isa_replies c.args.line.now.tables.now (seen_command c.args.line.now.command.now) c.in-Isa.target (g.D.Dir.files c.args.dir.now) (g.D.Dir.counts c.args.dir.now) c.isa_reply.result is c.isa_reply.ensures.ok

pub returns-in-Isa-clause-err : goal.returns-in-Isa-clause-err
returns-in-Isa-clause-err g c =
    let around = surroundings (g.D.Dir.files c.args.dir.now) (g.D.Dir.counts c.args.dir.now) (g.D.Dir.counts c.args.dir.now) in
    let is : seen_command c.args.line.now.command.now ≡ Isa c.in-Isa.target = search rules in
    line_fails c.args.line.now.tables.now (seen_command c.args.line.now.command.now) (Isa c.in-Isa.target) around c.isa_reply.result is c.isa_reply.ensures.err

pub returns-in-Sample-clause-unasked : goal.returns-in-Sample-clause-unasked
returns-in-Sample-clause-unasked g c = never_asked c.sample_reply.result _ refl

pub returns-in-Prelude-clause-unasked : goal.returns-in-Prelude-clause-unasked
returns-in-Prelude-clause-unasked g c = never_asked c.preluded.result _ refl

pub returns-in-Isa-clause-unasked : goal.returns-in-Isa-clause-unasked
returns-in-Isa-clause-unasked g c = never_asked c.isa_reply.result _ refl
