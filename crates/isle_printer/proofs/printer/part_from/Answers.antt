use Rattle.std.proofs.Common.{sym}
use Rattle.std.proofs.lemmas.List.{append-nil}
use Rattle.isle_printer.proofs.Scans.{scan-parted, ends_apart, ends-Between}
use Rattle.isle_printer.proofs.printer.part_from.Goals as goal

pub returns-in_ok-push_str-clause-ok : goal.returns-in_ok-push_str-clause-ok
returns-in_ok-push_str-clause-ok c = rw (c.in_ok-push_str.ensures.bytes, scan-parted _ _ c.requires) (ends-Between c.args.next)

pub returns-in_ok-push_str-clause-settled : goal.returns-in_ok-push_str-clause-settled
returns-in_ok-push_str-clause-settled c = rw (c.in_ok-push_str.ensures.bytes, scan-parted _ _ c.requires)

pub returns-in_ok-push_str-clause-same : goal.returns-in_ok-push_str-clause-same
returns-in_ok-push_str-clause-same c = rw (c.in_ok-push_str.ensures.bytes, scan-parted _ _ c.requires) (append-nil _)

pub returns-else-meets-clause-ok : goal.returns-else-meets-clause-ok
returns-else-meets-clause-ok c = ends_apart c.args.last.now _ _ c.requires (sym c.if-meets.ensures)
