use Rattle.std.proofs.Common.{sym, ap}
use Rattle.isle_tree.specs.Views.{program}
use Rattle.isle_interpreter.specs.EntryViews.{entry, constant_entry}
use Rattle.isle_interpreter.proofs.EntryTests.{tells_as, tells_too}
use Rattle.isle_interpreter.proofs.entries.is_right.Goals as goal

pub returns-in-Constant-clause-right : goal.returns-in-Constant-clause-right
returns-in-Constant-clause-right c = tells_as (program c.args.signatures.now) c.args.served.now c.args.clashing.now (constant_entry c.in-Constant.constant.now) (entry c.args.given.now) c.is_right_constant.result (sym (ap entry c.in-Constant.is)) c.is_right_constant.ensures.right

pub returns-in-Cases-clause-right : goal.returns-in-Cases-clause-right
returns-in-Cases-clause-right c = tells_too (program c.args.signatures.now) c.args.served.now c.args.clashing.now (entry c.args.given.now) c.is_right_callee.result c.is_right_callee.ensures.right

pub returns-in-Turns-clause-right : goal.returns-in-Turns-clause-right
returns-in-Turns-clause-right c = tells_too (program c.args.signatures.now) c.args.served.now c.args.clashing.now (entry c.args.given.now) c.is_right_callee-in-Turns.result c.is_right_callee-in-Turns.ensures.right
