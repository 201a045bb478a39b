use Rattle.std.proofs.Common.{◌≡◌, ℕ, List, [], ◌∷◌, fold}
use Rattle.std.specs.Prelude.{drop, flat_map}
use Rattle.isle_declarations.specs.Symbols.{added}
use Rattle.isle_declarations.proofs.type_interning.intern_named.Given as goal

abbrev pub invariant-loop-field : goal.invariant-loop-field
invariant-loop-field l =
    fold added l.fn.names (flat_map (λ (f : List ℕ × List ℕ). f.0 ∷ f.1 ∷ []) l.fn.fields) ≡ fold added l.names (flat_map (λ (f : List ℕ × List ℕ). f.0 ∷ f.1 ∷ []) (drop l.field-index l.fn.fields))
