use Rattle.std.proofs.Common.{ℕ, List, ◌++◌, take}
use Rattle.isle_lawful_names.specs.NameSet.{HasNames}
use Rattle.isle_meta.specs.TableNames.{texts}
use Rattle.isle_pulley_rows.proofs.refused.add_names.Given as goal

abbrev pub invariant-loop-name : goal.invariant-loop-name
invariant-loop-name l = (earlier : List (List ℕ)) → HasNames earlier l.initial.met → HasNames (earlier ++ texts (take l.name-index l.names)) l.met
