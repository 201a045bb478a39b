use Rattle.std.proofs.Common.{map}
use Rattle.isle_core.specs.ErrorLines.{masked}
use Rattle.isle_top.proofs.Pieces.{both_part}
use Rattle.isle_top.proofs.lines.write_name.Goals as goal

pub returns-in-Ok-clause-part : goal.returns-in-Ok-clause-part
returns-in-Ok-clause-part g c = both_part _ _ (g.S.Sink.taken c.write_masked.new.sink) _ (map masked c.args.name.now) c.args.end.now c.in-Ok.ensures.ok (rw (← c.as_bytes.ensures.value) c.write_all.ensures.part)
