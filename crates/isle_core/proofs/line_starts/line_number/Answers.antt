use Rattle.std.proofs.Common.{leb, rules, subst, sym}
use Rattle.std.specs.List.Sorted.{IsPartitionedBy}
use Rattle.std.proofs.lemmas.List.Sorted.{IsPartitionPoint-from_clause}
use Rattle.isle_core.proofs.Lines.{starts_partitioned, line_is}
use Rattle.isle_core.proofs.line_starts.line_number.Goals as goal

pub returns : goal.returns
returns c = λ text is.
    let partitioned = subst (λ xs. IsPartitionedBy (λ s. leb s c.args.offset) xs) (sym is) (starts_partitioned text c.args.offset) in
    let point = IsPartitionPoint-from_clause (λ s. leb s c.args.offset) c.args.starts.now c.partition_point.result c.partition_point.ensures.partitioned partitioned (search rules) in
    line_is text c.args.offset c.partition_point.result (rw (← is) c.partition_point.ensures.bound) (rw (← is) point)
