use Rattle.std.proofs.Common.{rules, subst}
use Rattle.std.specs.Prelude.{List, ℕ}
use Rattle.isle_ast.specs.Views.{defs}
use Rattle.isle_codegen.specs.Source.{Source, GoesWrong}
use Rattle.isle_codegen.proofs.Placed.{source_placed}
use Rattle.isle_codegen.proofs.Refusals.{parse_refusal}
use Rattle.isle_codegen.proofs.source.parse_files.Goals as goal

pub returns-in-Ok-clause-placed : goal.returns-in-Ok-clause-placed
returns-in-Ok-clause-placed c =
    source_placed c.args.files.now (defs c.in-Ok.read.items) c.requires (subst (λ (texts : List (List ℕ)). Source 0 texts (defs c.in-Ok.read.items)) c.as_slice.ensures c.in-Ok.ensures.ok)

pub returns-in-Err-At-clause-err : goal.returns-in-Err-At-clause-err
returns-in-Err-At-clause-err c =
    parse_refusal c.parse_error.result c.args.files.now c.in-Err-At.at c.requires c.parse_error.ensures
    (subst (λ (texts : List (List ℕ)). GoesWrong 0 texts c.in-Err-At.at) c.as_slice.ensures (c.in-Err-At.ensures.fault c.in-Err-At.at c.in-Err-At.mismatch (search rules)))
