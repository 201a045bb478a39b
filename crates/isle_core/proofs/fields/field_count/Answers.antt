use Rattle.std.proofs.Common.{rules}
use Rattle.isle_core.proofs.TupleFields.{tuple_count}
use Rattle.isle_core.proofs.fields.field_count.Goals as goal

pub returns-in-Tuple : goal.returns-in-Tuple
returns-in-Tuple c = λ env. tuple_count env c.args.fields.now c.in-Tuple.tys _ c.in-Tuple.is (search rules)
