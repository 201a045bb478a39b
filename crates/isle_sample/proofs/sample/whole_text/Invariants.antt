use Rattle.std.proofs.Common.{◌≡◌, ◌-◌, ◌++◌, string_bytes}
use Rattle.std.specs.List.{flat_map, range_with_len}
use Rattle.isle_sample.specs.Sample.{term_text, sample}
use Rattle.isle_sample.proofs.sample.whole_text.Given as goal

abbrev pub invariant-loop-term : goal.invariant-loop-term
invariant-loop-term l = string_bytes l.text ++ flat_map term_text (range_with_len l.term (l.fn.n - l.term)) ≡ sample l.fn.n
