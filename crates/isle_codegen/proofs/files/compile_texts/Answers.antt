use Rattle.std.proofs.Common.{subst}
use Rattle.isle_ast.specs.Views.{defs as seen}
use Rattle.isle_codegen.specs.Causes.{IsUncompiled}
use Rattle.isle_codegen.proofs.Refusals.{of_defs}
use Rattle.isle_codegen.proofs.files.compile_texts.Goals as goal

pub returns-clause-err : goal.returns-clause-err
returns-clause-err c =
    let files = c.args.files.now in
    of_defs c.in-Err-compile.fail files (seen c.in-Ok.defs.items) c.in-Ok.ensures.ok c.in-Ok.ensures.once
    (subst (λ ds. IsUncompiled c.in-Err-compile.fail files (seen ds)) c.as_slice.ensures.value c.in-Err-compile.ensures.err)
