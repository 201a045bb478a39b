use Rattle.std.proofs.Common.{[], take}
use Rattle.isle_core.specs.ValueViews.{meaning}
use Rattle.isle_tree.specs.Views.{function, program}
use Rattle.isle_interpreter.specs.Entries.{entries, AreRight}
use Rattle.isle_interpreter.specs.Served.{Serves}
use Rattle.isle_interpreter.proofs.entries.all_right.Given as goal

abbrev pub invariant-loop-index : goal.invariant-loop-index
invariant-loop-index l = AreRight (program l.signatures) (function l.f) (meaning l.answers) [] (take l.index (entries (meaning l.answers))) × Serves (take l.index (entries (meaning l.answers))) l.served
