use Rattle.std.proofs.Common.{rules, ◌≡◌, Some}
use Rattle.isle_tree.specs.Run.{function_of}
use Rattle.isle_tree.specs.Views.{function, program}
use Rattle.isle_interpreter.proofs.term.takes.Goals as goal

pub returns-in-Ok-clause-takes : goal.returns-in-Ok-clause-takes
returns-in-Ok-clause-takes c =
    let there : function_of c.args.term.now (program c.args.p.now).fns ≡ Some (function c.in-Ok.field-0.now) = search rules in
    record { function = function c.in-Ok.field-0.now; found = there; typed = c.in-Ok.ensures.typed }
