use Rattle.std.proofs.Common.{ap, ◌∙◌}
use Rattle.std.specs.Prelude.{string_bytes}
use Rattle.isle_printer.proofs.Scans.{scan_blanks}
use Rattle.isle_printer.proofs.printer.push_blanks.Goals as goal

pub loop-preserved : goal.loop-preserved
loop-preserved c = rw c.in_ok-push_str.ensures.bytes (scan_blanks (string_bytes c.loop.text) _ c.requires.blanks (ap (λ x. x.state) c.loop.invariant ∙ c.requires.between) ∙ c.loop.invariant)
