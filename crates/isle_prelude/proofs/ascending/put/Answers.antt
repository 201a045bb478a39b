use Rattle.std.proofs.Common.{ap, ◌∙◌}
use Rattle.isle_prelude.specs.Lent.{lent}
use Rattle.isle_prelude.proofs.AscendingLaws.{insert_lent}
use Rattle.isle_prelude.proofs.ascending.put.Goals as goal

pub returns : goal.returns
returns c = ap lent c.in_ok-_is_new.ensures.keys ∙ insert_lent c.args.names.now.keys c.args.name
