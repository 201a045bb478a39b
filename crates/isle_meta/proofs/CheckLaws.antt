-- What a search found, and what a check answers.
use Rattle.std.proofs.Common.{Option, Result, Ok, Err, subst}
use Rattle.isle_meta.specs.Checked.{Answers, Checks}
use Rattle.isle_meta.specs.declared.errors.TableFail.{TableFail}
use Rattle.isle_meta.specs.declared.errors.TableFail.TheVariants as fail
use Rattle.isle_meta.specs.declared.errors.Unsupported.{Unsupported}

-- if the first row was searched for, a check answers with what was found
pub found_checks : (First : Option Unsupported → Type 0) (found : Option Unsupported) (r : Result (Unit {0}) TableFail) → First found → Answers found r → Checks First r
found_checks First found (Ok done) h e = subst First e h
found_checks First found (Err (fail.Unsupported row)) h e = subst First e h
found_checks First found (Err fail.Memory) h e = tt
