use Rattle.std.proofs.Common.{◌≡◌, ◌≤◌, ◌-◌, ◌+◌, leb, rules, subst, sym, ap, ◌∙◌}
use Rattle.std.specs.List.Sorted.{IsPartitionedBy}
use Rattle.std.proofs.lemmas.List.Sorted.{IsPartitionPoint-from_clause}
use Rattle.isle_core.specs.LineStarts.{start_at, starts_of}
use Rattle.isle_core.proofs.Lines.{starts_partitioned}
use Rattle.isle_core.proofs.Columns.{column_is}
use Rattle.isle_core.proofs.line_starts.column_number.Goals as goal

pub overflow_sub-result : goal.overflow_sub-result
overflow_sub-result c =
    let text = c.args.text.now in
    let partitioned = subst (λ xs. IsPartitionedBy (λ s. leb s c.args.offset) xs) (sym c.requires.starts) (starts_partitioned text c.args.offset) in
    let point = IsPartitionPoint-from_clause (λ s. leb s c.args.offset) c.args.starts.now c.partition_point-before.result c.partition_point-before.ensures.partitioned partitioned (search rules) in
    let is = column_is text c.args.offset c.partition_point-before.result c.requires.within (rw (← c.requires.starts) c.partition_point-before.ensures.bound) (rw (← c.requires.starts) point) in
    let begins : c.start_at.result ≡ start_at (starts_of text) c.partition_point-before.result = c.start_at.ensures ∙ ap (λ xs. start_at xs c.partition_point-before.result) c.requires.starts in
    subst (λ n. n ≤ c.args.offset) (sym begins) is.0

pub returns : goal.returns
returns c =
    let text = c.args.text.now in
    let partitioned = subst (λ xs. IsPartitionedBy (λ s. leb s c.args.offset) xs) (sym c.requires.starts) (starts_partitioned text c.args.offset) in
    let point = IsPartitionPoint-from_clause (λ s. leb s c.args.offset) c.args.starts.now c.partition_point-before.result c.partition_point-before.ensures.partitioned partitioned (search rules) in
    let is = column_is text c.args.offset c.partition_point-before.result c.requires.within (rw (← c.requires.starts) c.partition_point-before.ensures.bound) (rw (← c.requires.starts) point) in
    let begins : c.start_at.result ≡ start_at (starts_of text) c.partition_point-before.result = c.start_at.ensures ∙ ap (λ xs. start_at xs c.partition_point-before.result) c.requires.starts in
    ap (λ n. 1 + (c.args.offset - n)) begins ∙ is.1
