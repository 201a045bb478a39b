use Rattle.std.proofs.Common.{sym}
use Rattle.isle_meta.proofs.NumberedLaws.{numbered_short, numbered_both, numbered_first}
use Rattle.isle_meta.proofs.kept_names.is_numbered.Goals as goal

pub returns-then-name-prefix : goal.returns-then-name-prefix
returns-then-name-prefix c = sym (numbered_short c.args.prefix.now c.args.name.now c.if-name-prefix.true)

pub returns-then-eq : goal.returns-then-eq
returns-then-eq c = numbered_both c.args.prefix.now c.args.name.now c.eq.result c.are_digits.result c.if-name-prefix.false c.eq.ensures c.if-eq.true c.are_digits.ensures

pub returns-else-eq : goal.returns-else-eq
returns-else-eq c = numbered_first c.args.prefix.now c.args.name.now c.eq.result c.if-name-prefix.false c.eq.ensures c.if-eq.false
