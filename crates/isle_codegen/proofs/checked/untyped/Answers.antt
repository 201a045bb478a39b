use Rattle.std.proofs.Common.{subst}
use Rattle.isle_sema.specs.Typing.{fault, IsUntyped}
use Rattle.isle_codegen.proofs.Refusals.{typing_told}
use Rattle.isle_codegen.proofs.checked.untyped.Goals as goal

pub returns-in-Typing : goal.returns-in-Typing
returns-in-Typing c = λ files defs placed h.
    typing_told c.told_alone.result files defs c.in-Typing.error c.told_alone.ensures placed (subst (λ e. IsUntyped (fault defs) e) c.in-Typing.is h)
