use Rattle.std.proofs.Common.{◌≡◌, ◌++◌, drop}
use Rattle.std.specs.String.{string_bytes}
use Rattle.isle_core.specs.ErrorLines.{error_lines}
use Rattle.isle_core.proofs.errors.Errors.lines.Given as goal

abbrev pub invariant-loop-error : goal.invariant-loop-error
invariant-loop-error l = string_bytes l.out ++ error_lines l.self.files (drop l.error-index l.error-items) ≡ error_lines l.self.files l.error-items
