use Rattle.std.proofs.Common.{map, ◌++◌}
use Rattle.isle_core.specs.ErrorLines.{masked}
use Rattle.isle_top.proofs.Pieces.{both_part}
use Rattle.isle_top.proofs.lines.write_named.Goals as goal

pub returns-in-Ok-clause-part : goal.returns-in-Ok-clause-part
returns-in-Ok-clause-part g c = both_part _ _ (g.S.Sink.taken c.write_all.new.sink) _ c.args.head.now (map masked c.args.name.now ++ c.args.end.now) (rw (← c.as_bytes.ensures.value) c.in-Ok.ensures.ok) c.write_name.ensures.part
