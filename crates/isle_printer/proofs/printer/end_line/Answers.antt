use Rattle.std.proofs.Common.{ap, ◌∙◌}
use Rattle.std.specs.Prelude.{string_bytes}
use Rattle.std.proofs.lemmas.List.{append-nil}
use Rattle.isle_printer.specs.Token.{finished}
use Rattle.isle_printer.proofs.Scans.{scan-line}
use Rattle.isle_printer.proofs.printer.end_line.Goals as goal

pub returns-clause-ok : goal.returns-clause-ok
returns-clause-ok c = rw c.in_ok-push_str.ensures.bytes (ap (λ x. x.state) (scan-line (string_bytes c.part_from.new.text) c.in_ok-part_from.ensures.ok))

pub returns-clause-settled : goal.returns-clause-settled
returns-clause-settled c = rw c.in_ok-push_str.ensures.bytes (ap (λ x. x.state) (scan-line (string_bytes c.part_from.new.text) c.in_ok-part_from.ensures.ok))

pub returns-clause-same : goal.returns-clause-same
returns-clause-same c =
    rw c.in_ok-push_str.ensures.bytes (ap finished (scan-line (string_bytes c.part_from.new.text) c.in_ok-part_from.ensures.ok) ∙ append-nil _ ∙ c.in_ok-part_from.ensures.same)
