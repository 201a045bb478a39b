use Rattle.std.proofs.Common.{◌≡◌, ◌++◌, take}
use Rattle.isle_build.specs.GeneratedFiles.{generated_texts}
use Rattle.isle_core.specs.Inputs.{bytes_each}
use Rattle.isle_build.proofs.reading.push_texts.Given as goal

abbrev pub invariant-loop-name : goal.invariant-loop-name
invariant-loop-name l = l.texts.items ≡ l.fn.texts.items ++ generated_texts l.tables (bytes_each (take l.name-index l.names))
