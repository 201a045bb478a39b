use Rattle.isle_prelude_accepted.proofs.CompiledPrelude.{files_compiled, texts_compiled}
use Rattle.isle_prelude_accepted.proofs.laws.prelude_compiled.Goals as goal

pub returns-clause-texts : goal.returns-clause-texts
returns-clause-texts c = texts_compiled

pub returns-clause-files : goal.returns-clause-files
returns-clause-files c = files_compiled
