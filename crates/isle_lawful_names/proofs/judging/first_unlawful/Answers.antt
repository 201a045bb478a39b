use Rattle.std.proofs.Common.{◌∙◌, sym, subst}
use Rattle.std.proofs.lemmas.Result.{IfOk-weaker}
use Rattle.isle_core.specs.Rule.{Environment}
use Rattle.isle_core.specs.RuleViews.{environment}
use Rattle.isle_lawful_names.specs.Claims.{file_claims}
use Rattle.isle_lawful_names.specs.Judges.{Judges, declared_claims}
use Rattle.isle_lawful_names.proofs.AllNames.{claims_split}
use Rattle.isle_lawful_names.proofs.FoundLaws.{judged_first, judged_then}
use Rattle.isle_lawful_names.proofs.judging.first_unlawful.Goals as goal

pub returns-then-is_some : goal.returns-then-is_some
returns-then-is_some c =
    let env : Environment = environment c.args.typeenv.now c.args.termenv.now in
    let names = c.args.files.now.file_names in
    let found = c.unlawful_file-found.result in
    let h = subst (λ ns. Judges env (file_claims ns) found) c.as_slice.ensures (c.unlawful_file-found.ensures env) in
    subst (λ cs. Judges env cs found) (sym (claims_split names env)) (judged_first env (file_claims names) (declared_claims env) found h (sym c.is_some.ensures ∙ c.if-is_some.true))

pub returns : goal.returns
returns c =
    let env : Environment = environment c.args.typeenv.now c.args.termenv.now in
    let names = c.args.files.now.file_names in
    let none = c.unlawful_file-found.result in
    let h = subst (λ ns. Judges env (file_claims ns) none) c.as_slice.ensures (c.unlawful_file-found.ensures env) in
    IfOk-weaker c.unlawful_declared.result _ _
    (λ found k. subst (λ cs. Judges env cs found) (sym (claims_split names env)) (judged_then env (file_claims names) (declared_claims env) none found h (sym c.is_some.ensures ∙ c.if-is_some.false) k)) c.unlawful_declared.ensures
