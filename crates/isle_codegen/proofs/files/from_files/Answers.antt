use Rattle.std.proofs.Common.{◌≡◌, map, length, sym, ap, ◌∙◌, subst}
use Rattle.std.proofs.lemmas.List.{length-map}
use Rattle.std.specs.String.{string_bytes}
use Rattle.isle_core.specs.Inputs.{bytes_each, IsTried}
use Rattle.isle_core.specs.Printed.{shown}
use Rattle.isle_codegen.specs.Causes.{printed, IsRefusal}
use Rattle.isle_codegen.proofs.Refusals.{of_read, read_cause}
use Rattle.isle_codegen.proofs.files.from_files.Goals as goal

pub returns-in-Ok-compile_texts-clause-ok : goal.returns-in-Ok-compile_texts-clause-ok
returns-in-Ok-compile_texts-clause-ok g c = record {
  source = c.in-Ok.files;
  read = record {
    named = c.in-Ok.ensures.names ∙ ap (λ ps. map (shown ps) (bytes_each c.args.inputs.now)) c.as_slice.ensures;
    read = c.in-Ok.ensures.texts;
  };
  compiles = c.in-Ok-compile_texts.ensures.ok;
  header = c.in-Ok-compile_texts.ensures.header;
}

pub returns-in-Err-clause-err : goal.returns-in-Err-clause-err
returns-in-Err-clause-err g c =
    let files = c.in-Ok.files in
    let names : files.file_names ≡ printed c.args.options.now (bytes_each c.args.inputs.now) =
    c.in-Ok.ensures.names ∙ ap (λ ps. map (shown ps) (bytes_each c.args.inputs.now)) c.as_slice.ensures in
    let tried : IsTried (length (bytes_each c.args.inputs.now)) (g.D.Dir.counts c.args.dir.now) (g.D.Dir.counts c.from_paths.new.dir) =
    subst (λ n. IsTried n (g.D.Dir.counts c.args.dir.now) (g.D.Dir.counts c.from_paths.new.dir)) (sym (length-map c.args.inputs.now string_bytes)) c.in-Ok.ensures.tried in
    read_cause c.with_files.result c.args.options.now (g.D.Dir.files c.args.dir.now) (bytes_each c.args.inputs.now) files.file_names files.file_texts (g.D.Dir.counts c.args.dir.now) (g.D.Dir.counts c.from_paths.new.dir)
    names (tried, c.in-Ok.ensures.steady) c.in-Ok.ensures.texts
    (subst (λ e. IsRefusal e files.file_names files.file_texts) (sym c.with_files.ensures) (of_read c.in-Err.fail files c.in-Err.ensures.err))
