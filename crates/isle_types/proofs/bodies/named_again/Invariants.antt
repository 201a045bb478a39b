use Rattle.std.proofs.Common.{◌≡◌, ℕ, List, map}
use Rattle.std.specs.Prelude.{drop}
use Rattle.isle_declarations.specs.Repeats.{repeats, repeats_after}
use Rattle.isle_types.proofs.bodies.named_again.Given as goal

abbrev pub invariant-loop-field : goal.invariant-loop-field
invariant-loop-field l = repeats (map (λ (f : List ℕ × List ℕ). f.0) l.fields) ≡ repeats_after l.before (map (λ (f : List ℕ × List ℕ). f.0) (drop l.field-index l.fields))
