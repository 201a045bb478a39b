use Rattle.std.proofs.Common.{rules}
use Rattle.isle_declarations.proofs.WindowLaws.{no_window, whole_window, last_window}
use Rattle.isle_declarations.proofs.slots.window.Goals as goal

pub returns-in_default : goal.returns-in_default
returns-in_default c = no_window c.args.slots.now c.args.hash c.start.result c.start.ensures (search rules)

pub returns-in-Some-get : goal.returns-in-Some-get
returns-in-Some-get c =
    whole_window c.args.slots.now c.in-Some.rest.now c.in-Some-get.window.now c.args.hash c.start.result c.start.ensures (search rules) (search rules)

pub returns-in-None : goal.returns-in-None
returns-in-None c = last_window c.args.slots.now c.in-Some.rest.now c.args.hash c.start.result c.start.ensures (search rules) (search rules)
