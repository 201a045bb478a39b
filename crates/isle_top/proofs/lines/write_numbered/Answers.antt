use Rattle.std.proofs.Common.{◌++◌}
use Rattle.isle_printer.specs.Number.{numeral}
use Rattle.isle_top.proofs.Pieces.{both_part}
use Rattle.isle_top.proofs.lines.write_numbered.Goals as goal

pub returns-in-Ok-clause-part : goal.returns-in-Ok-clause-part
returns-in-Ok-clause-part g c = both_part _ _ (g.S.Sink.taken c.write_all.new.sink) _ c.args.head.now (numeral 10 c.args.number ++ c.args.end.now) (rw (← c.as_bytes.ensures.value) c.in-Ok.ensures.ok) c.write_count.ensures.part
