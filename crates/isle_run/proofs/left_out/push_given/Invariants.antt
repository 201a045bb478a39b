use Rattle.std.proofs.Common.{◌≡◌, ◌++◌, ℕ, List, map}
use Rattle.std.specs.Prelude.{drop}
use Rattle.isle_core.specs.declared.values.Value.{Value as CodeValue}
use Rattle.isle_run.proofs.left_out.push_given.Given as goal

abbrev pub invariant-loop-constant : goal.invariant-loop-constant
invariant-loop-constant l =
    map (λ x. x.now) l.names.items ++ map (λ (c : List ℕ × CodeValue). c.0) (drop l.constant-index l.given) ≡ map (λ x. x.now) l.fn.names.items ++ map (λ (c : List ℕ × CodeValue). c.0) l.given
