use Rattle.std.proofs.Common.{◌≡◌, ◌++◌, drop}
use Rattle.isle_core.specs.ErrorLines.{shown_lines}
use Rattle.isle_core.proofs.errors.Errors.shown_lines.Given as goal

abbrev pub invariant-loop-error : goal.invariant-loop-error
invariant-loop-error l = l.out.items ++ shown_lines l.self.files (drop l.error-index l.error-items) ≡ shown_lines l.self.files l.error-items
