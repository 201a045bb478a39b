use Rattle.std.proofs.Common.{take}
use Rattle.isle_lawful_names.specs.NameSet.{HasNames}
use Rattle.isle_meta.specs.TableNames.{texts}
use Rattle.isle_assembler_rows.proofs.rows.put_names.Given as goal

abbrev pub invariant-loop-name : goal.invariant-loop-name
invariant-loop-name l = HasNames (texts (take l.name-index l.names)) l.met
