use Rattle.std.proofs.Common.{◌≡◌, ◌++◌, ℕ, List, map, drop}
use Rattle.std.specs.Prelude.{filter_map}
use denote.Ref.{Bor}
use Rattle.isle_interpreter.specs.Clashes.{held, owner_at, clash_of, clashes}
use Rattle.isle_interpreter.proofs.clashes.shared.Given as goal

abbrev pub invariant-loop-holder : goal.invariant-loop-holder
invariant-loop-holder l = map (λ (n : Bor (List ℕ)). n.now) l.names.items ++ filter_map (clash_of (λ key. owner_at key (map held l.holders))) (map held (drop l.holder-index l.holders)) ≡ clashes (map held l.holders)
