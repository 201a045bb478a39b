-- What is needed for a made value.
use Rattle.std.proofs.Common.{◌≡◌, ℕ, suc, List, [], ◌∷◌, ◌++◌, false, cond, Some, sym, ap, ◌∙◌}
use Rattle.std.specs.Prelude.{slice_get}
use Rattle.isle_core.specs.declared.BindingId.{BindingId}
use Rattle.isle_core.specs.Setting.{Setting}
use Rattle.isle_simulation.specs.Completed.{local_parts, each_needed, needed, with_parts}
use Rattle.isle_simulation.specs.Operands.{is_bound}

-- its parts, and then it itself
pub needed_parts : (s : Setting) (depth less : ℕ) (bound : List ℕ) (b : BindingId) (parts : List BindingId) → depth ≡ suc less → is_bound bound b ≡ false → Some parts ≡ local_parts (slice_get s.bindings b.0)
    → each_needed (needed s less) bound parts ++ b ∷ [] ≡ needed s depth bound b
needed_parts s depth less bound b parts is free has =
    ap (with_parts (needed s less) bound b) has
    ∙ ap (λ c. cond c [] (with_parts (needed s less) bound b (local_parts (slice_get s.bindings b.0)))) (sym free)
    ∙ ap (λ d. needed s d bound b) (sym is)
