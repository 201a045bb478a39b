use Rattle.std.proofs.Common.{rules}
use Rattle.isle_interpreter.specs.Clashes.{held}
use Rattle.isle_interpreter.proofs.KeyOwners.{note_more}
use Rattle.isle_interpreter.proofs.clashes.note.Goals as goal

pub returns : goal.returns
returns c = note_more c.as_slice-key.result (held c.args.holder.now) c.joined-owner.result c.args.found.now c.insert.new.self (search rules) (search rules) c.in_ok-insert.ensures.updates.0
