use Rattle.isle_prelude_accepted.proofs.ProgramPrelude.{sample_compiled}
use Rattle.isle_prelude_accepted.proofs.laws.sample_compiled.Goals as goal

pub returns-clause-files : goal.returns-clause-files
returns-clause-files c = sample_compiled
