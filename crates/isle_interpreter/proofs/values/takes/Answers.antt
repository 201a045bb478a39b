use Rattle.std.proofs.Common.{rules}
use Rattle.isle_core.specs.ValueViews.{values}
use Rattle.isle_places.specs.Signatures.{type_names}
use Rattle.isle_interpreter.proofs.WrongNamed.{first_wrong_named, takes_apart}
use Rattle.isle_interpreter.proofs.values.takes.Goals as goal

pub returns-then-args-of : goal.returns-then-args-of
returns-then-args-of c = takes_apart c.args.types.now c.args.of.now.params.now c.args.args.now (search rules)

pub returns : goal.returns
returns c = first_wrong_named c.args.types.now (type_names c.args.of.now.params.now) (values c.args.args.now) c.in_ok-first_wrong.field-0 c.is_none.result c.in_ok-first_wrong.ensures c.is_none.ensures
