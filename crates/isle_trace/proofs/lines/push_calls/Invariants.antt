use Rattle.std.proofs.Common.{◌≡◌, ◌++◌, drop, map}
use Rattle.std.specs.String.{string_bytes}
use Rattle.isle_core.specs.ValueViews.{made}
use Rattle.isle_outcomes.specs.Lines.{call_lines}
use Rattle.isle_trace.proofs.lines.push_calls.Given as goal

abbrev pub invariant-loop-call : goal.invariant-loop-call
invariant-loop-call l = string_bytes l.fn.out ++ call_lines (map made l.calls) ≡ string_bytes l.out ++ call_lines (map made (drop l.call-index l.calls))
