use Rattle.std.proofs.Common.{◌≡◌, ◌++◌, drop, string_bytes}
use Rattle.isle_core.specs.ValueViews.{values}
use Rattle.isle_outcomes.specs.Lines.{args_text}
use Rattle.isle_outcomes.proofs.lines.push_args.Given as goal

abbrev pub invariant-loop-arg : goal.invariant-loop-arg
invariant-loop-arg l = string_bytes l.out ++ args_text (values (drop l.arg-index l.args)) ≡ string_bytes l.fn.out ++ args_text (values l.args)
