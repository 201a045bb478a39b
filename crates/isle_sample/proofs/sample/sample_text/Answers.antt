use Rattle.std.proofs.Common.{[], ◌∷◌, sym, subst}
use Rattle.std.specs.Prelude.{codes}
use Rattle.isle_codegen.specs.LawfulEnvironment.{AreAccepted}
use Rattle.isle_sample.proofs.SampleAccepted.{sample_accepted}
use Rattle.isle_sample.proofs.sample.sample_text.Goals as goal

pub returns-clause-accepted : goal.returns-clause-accepted
returns-clause-accepted c = subst (λ text. AreAccepted (codes "sample" ∷ []) (text ∷ [])) (sym c.in_ok-text.ensures) (sample_accepted c.args.n)
