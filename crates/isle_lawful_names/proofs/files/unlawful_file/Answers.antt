use Rattle.std.proofs.Common.{[], ◌∷◌, ◌∙◌, sym, subst}
use Rattle.isle_lawful_names.specs.Claims.{OfFile}
use Rattle.isle_lawful_names.specs.Judges.{Judges}
use Rattle.isle_lawful_names.specs.Claims.{file_claims}
use Rattle.isle_lawful_names.proofs.FoundLaws.{leads_itself, one_on, one_out, one_end}
use Rattle.isle_lawful_names.proofs.files.unlawful_file.Goals as goal

pub loop-name-init : goal.loop-name-init
loop-name-init c = λ env. leads_itself env (file_claims c.args.names.now)

pub loop-name-preserved : goal.loop-name-preserved
loop-name-preserved c = λ env.
    one_on env OfFile c.args.names.now c.loop-name.name-index c.name-item.result c.file_found-found.result c.loop-name-test.true c.name-item.is
    (subst (λ n. Judges env (OfFile n ∷ []) c.file_found-found.result) c.as_str.ensures (c.file_found-found.ensures env)) (sym c.is_some.ensures ∙ c.if-is_some.false) (c.loop-name.invariant env)

pub returns-then-is_some : goal.returns-then-is_some
returns-then-is_some c = λ env.
    one_out env OfFile c.args.names.now c.loop-name.name-index c.name-item.result c.file_found-found.result c.loop-name-test.true c.name-item.is
    (subst (λ n. Judges env (OfFile n ∷ []) c.file_found-found.result) c.as_str.ensures (c.file_found-found.ensures env)) (sym c.is_some.ensures ∙ c.if-is_some.true) (c.loop-name.invariant env)

pub returns : goal.returns
returns c = λ env. one_end env OfFile c.args.names.now c.loop-name.name-index c.loop-name-test.false (c.loop-name.invariant env)
