use Rattle.std.proofs.Common.{rules}
use Rattle.isle_build.specs.Built.{memory, unread, unsupported}
use Rattle.isle_build.proofs.files.listed_files.Goals as goal

pub returns-in-Err-Io-clause-err : goal.returns-in-Err-Io-clause-err
returns-in-Err-Io-clause-err g c = unread _ _ (search rules) (search rules)

pub returns-in-Err-Memory-input_files-clause-err : goal.returns-in-Err-Memory-input_files-clause-err
returns-in-Err-Memory-input_files-clause-err g c = memory (search rules)

pub returns-in-Err-Unsupported-clause-err : goal.returns-in-Err-Unsupported-clause-err
returns-in-Err-Unsupported-clause-err g c = unsupported _ (search rules)

pub returns-in-Err-Memory-clause-err : goal.returns-in-Err-Memory-clause-err
returns-in-Err-Memory-clause-err g c = memory (search rules)
