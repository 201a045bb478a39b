use Rattle.std.proofs.Common.{◌≡◌, ◌++◌, drop, string_bytes}
use Rattle.isle_core.specs.ValueViews.{values}
use Rattle.isle_outcomes.specs.Lines.{more_text}
use Rattle.isle_outcomes.proofs.lines.push_more.Given as goal

abbrev pub invariant-loop-value : goal.invariant-loop-value
invariant-loop-value l = string_bytes l.out ++ more_text (values (drop l.value-index l.given)) ≡ string_bytes l.fn.out ++ more_text (values l.given)
