use Rattle.std.proofs.Common.{ap, ◌∙◌}
use Rattle.isle_codegen.specs.Names.{are_file_names}
use Rattle.isle_codegen.proofs.LawfulNames.{files_named}
use Rattle.isle_run.specs.Compiled.{env_checked}
use Rattle.isle_run.specs.NoLines.{memory}
use Rattle.isle_trace.proofs.traced.of_checked.Goals as goal

pub of_program-requires-clause-names : goal.of_program-requires-clause-names
of_program-requires-clause-names c =
    ap are_file_names c.as_slice.ensures ∙ files_named c.args.files.now.file_names (env_checked c.args.checked.now) c.requires.checked.lawful.names

pub returns-in-Err-clause-err : goal.returns-in-Err-clause-err
returns-in-Err-clause-err c = memory
