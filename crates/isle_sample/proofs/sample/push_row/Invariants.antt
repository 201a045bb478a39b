use Rattle.std.proofs.Common.{◌≡◌, ◌-◌, ◌++◌, string_bytes}
use Rattle.std.specs.List.{flat_map, range_with_len}
use Rattle.isle_sample.specs.Sample.{rule, row}
use Rattle.isle_sample.proofs.sample.push_row.Given as goal

abbrev pub invariant-loop-b : goal.invariant-loop-b
invariant-loop-b l = string_bytes l.text ++ flat_map (λ b. rule l.fn.term l.fn.a b) (range_with_len l.b (l.fn.count - l.b)) ≡ string_bytes l.fn.text ++ row l.fn.term l.fn.a l.fn.count
