use Rattle.std.proofs.Common.{ap, ◌∙◌}
use Rattle.std.specs.Prelude.{string_bytes}
use Rattle.std.proofs.lemmas.List.{append-nil}
use Rattle.isle_printer.specs.Token.{finished}
use Rattle.isle_printer.proofs.Scans.{scan-line}
use Rattle.isle_printer.proofs.printer.Printer.line.Goals as goal

pub pad-requires : goal.pad-requires
pad-requires c = rw c.in_ok-push_str.ensures.bytes (ap (λ x. x.state) (scan-line (string_bytes c.part_from.new.text) c.in_ok-part_from.ensures.ok))

pub invariant_of-self-2 : goal.invariant_of-self-2
invariant_of-self-2 c = rw (c.pad.ensures, c.in_ok-push_str.ensures.bytes) (ap (λ x. x.state) (scan-line (string_bytes c.part_from.new.text) c.in_ok-part_from.ensures.ok))

pub returns : goal.returns
returns c =
    rw (c.pad.ensures, c.in_ok-push_str.ensures.bytes) (ap finished (scan-line (string_bytes c.part_from.new.text) c.in_ok-part_from.ensures.ok) ∙ append-nil _ ∙ c.in_ok-part_from.ensures.same ∙ c.self.view_is)
