use Rattle.std.proofs.Common.{◌≡◌, ◌-◌, ◌++◌, string_bytes}
use Rattle.std.specs.List.{flat_map, range_with_len}
use Rattle.isle_sample.specs.Sample.{row, rows}
use Rattle.isle_sample.proofs.sample.push_rows.Given as goal

abbrev pub invariant-loop-a : goal.invariant-loop-a
invariant-loop-a l = string_bytes l.text ++ flat_map (λ a. row l.fn.term a l.fn.count) (range_with_len l.a (l.fn.count - l.a)) ≡ string_bytes l.fn.text ++ rows l.fn.term l.fn.count
