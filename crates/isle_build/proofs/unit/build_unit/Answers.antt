use Rattle.std.proofs.Common.{◌≡◌, sym, subst, ◌∙◌}
use Rattle.isle_build.specs.Built.{FailsToBuild}
use Rattle.isle_build.specs.declared.build_error.BuildError.TheVariants as error
use Rattle.isle_build.proofs.FailureLaws.{files_no_text, texts_fail, texts_listed, texts_supported}
use Rattle.isle_build.proofs.unit.build_unit.Goals as goal

pub returns-in-Err-clause-err : goal.returns-in-Err-clause-err
returns-in-Err-clause-err g c =
    files_no_text c.args.tables.now c.args.options.now c.args.unit.now (g.D.Dir.files c.args.dir.now) (g.D.Dir.counts c.args.dir.now) (g.D.Dir.counts c.unit_files.new.dir) c.in-Err.fail c.in-Err.ensures.err

pub returns-in-Err-compile_texts-clause-err : goal.returns-in-Err-compile_texts-clause-err
returns-in-Err-compile_texts-clause-err g c =
    let before = g.D.Dir.counts c.args.dir.now in
    let after = g.D.Dir.counts c.unit_files.new.dir in
    let files = g.D.Dir.files c.args.dir.now in
    subst (FailsToBuild c.args.tables.now c.args.options.now c.args.unit.now files before after) (sym c.of_texts.ensures)
    (texts_fail c.in-Err-compile_texts.fail c.args.tables.now c.args.options.now c.args.unit.now files c.in-Ok.files before after
    c.in-Ok.ensures.ok c.in-Ok.ensures.tried c.in-Err-compile_texts.ensures.err)

pub returns-in-Err-compile_texts-clause-unlisted : goal.returns-in-Err-compile_texts-clause-unlisted
returns-in-Err-compile_texts-clause-unlisted g c = λ is.
    let same : c.of_texts.result ≡ error.NoUnit = cc in
    absurd (texts_listed c.in-Err-compile_texts.fail c.in-Ok.files (sym c.of_texts.ensures ∙ same))

pub returns-in-Err-compile_texts-clause-unasked : goal.returns-in-Err-compile_texts-clause-unasked
returns-in-Err-compile_texts-clause-unasked g c = λ found is.
    let same : c.of_texts.result ≡ error.Unsupported found = cc in
    absurd (texts_supported c.in-Err-compile_texts.fail c.in-Ok.files found (sym c.of_texts.ensures ∙ same))
