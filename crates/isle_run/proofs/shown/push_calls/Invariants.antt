use Rattle.std.proofs.Common.{◌≡◌, ◌++◌, drop, map, string_bytes}
use Rattle.isle_core.specs.Terms.{impure_calls}
use Rattle.isle_core.specs.Rule.{Environment}
use Rattle.isle_core.specs.ValueViews.{made}
use Rattle.isle_outcomes.specs.Lines.{call_lines}
use Rattle.isle_run.proofs.shown.push_calls.Given as goal

abbrev pub invariant-loop-call : goal.invariant-loop-call
invariant-loop-call l =
    (env : Environment) → env.types ≡ l.types.0 → env.terms ≡ l.types.1 → string_bytes l.out ++ call_lines (impure_calls env (map made (drop l.call-index l.calls))) ≡ string_bytes l.fn.out ++ call_lines (impure_calls env (map made l.calls))
