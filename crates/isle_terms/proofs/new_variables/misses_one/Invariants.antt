use Rattle.std.proofs.Common.{◌≡◌, ℕ, List}
use Rattle.std.specs.Prelude.{drop, is_some, not}
use Rattle.std.specs.List.{list_any}
use Rattle.isle_declarations.specs.Symbols.{index_of}
use Rattle.isle_terms.proofs.new_variables.misses_one.Given as goal

abbrev pub invariant-loop-name : goal.invariant-loop-name
invariant-loop-name l = list_any (λ (name : List ℕ). not (is_some (index_of l.fn.names name))) l.fn.wanted ≡ list_any (λ (name : List ℕ). not (is_some (index_of l.fn.names name))) (drop l.name-index l.fn.wanted)
