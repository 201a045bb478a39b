use Rattle.std.proofs.Common.{sym, subst}
use Rattle.isle_codegen.specs.Causes.{IsRefusal}
use Rattle.isle_codegen.proofs.Refusals.{of_read}
use Rattle.isle_top.proofs.sampled.counted.Goals as goal

pub returns-in-Err-clause-err : goal.returns-in-Err-clause-err
returns-in-Err-clause-err c =
    subst (λ e. IsRefusal e c.args.source.file_names c.args.source.file_texts) (sym c.with_files.ensures) (of_read c.in-Err.fail c.args.source c.in-Err.ensures.err)
