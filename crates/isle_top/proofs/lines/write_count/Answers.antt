use Rattle.isle_printer.specs.Number.{numeral}
use Rattle.isle_top.proofs.Pieces.{both_part}
use Rattle.isle_top.proofs.lines.write_count.Goals as goal

pub returns-in-Ok-clause-part : goal.returns-in-Ok-clause-part
returns-in-Ok-clause-part g c = both_part _ _ (g.S.Sink.taken c.write_number.new.sink) _ (numeral 10 c.args.number) c.args.end.now c.in-Ok.ensures.ok (rw (← c.as_bytes.ensures.value) c.write_all.ensures.part)
