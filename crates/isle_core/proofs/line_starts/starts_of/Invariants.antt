use Rattle.std.proofs.Common.{◌≡◌, ◌≤◌, ◌-◌, ◌++◌, length}
use denote.Shadow.{shadow}
use denote.Text.{Utf8}
use Rattle.isle_core.specs.LineStarts.{starts_from, starts_of}
use Rattle.isle_core.proofs.line_starts.starts_of.Given as goal

abbrev pub invariant-loop-after : goal.invariant-loop-after
invariant-loop-after l =
    (length l.rest ≤ length l.text) × (l.starts.items ++ starts_from (length l.text - length l.rest) l.rest ≡ starts_of l.text) × shadow (Utf8 l.rest)

abbrev pub decreases-loop-after : goal.decreases-loop-after
decreases-loop-after l = length l.rest
