use Rattle.std.proofs.Common.{◌≡◌, take, map}
use Rattle.isle_core.specs.LineStarts.{starts_of}
use Rattle.isle_core.proofs.line_starts.LineStarts.new.Given as goal

abbrev pub invariant-loop-text : goal.invariant-loop-text
invariant-loop-text l = l.starts.items ≡ map starts_of (take l.text-index l.text-items)
