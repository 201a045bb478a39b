use Rattle.std.proofs.Common.{◌≡◌, ◌++◌, map, drop}
use Rattle.isle_operand_names.specs.Names.{reads_names}
use Rattle.isle_operand_names.proofs.names.push_reads.Given as goal

abbrev pub invariant-loop-read : goal.invariant-loop-read
invariant-loop-read l = map (λ x. x.now) l.names.items ++ reads_names (drop l.read-index l.reads) ≡ map (λ x. x.now) l.fn.names.items ++ reads_names l.reads
