-- What counts if tests are told apart.
use Rattle.std.specs.Prelude.{◌≡◌, Bool, not, ◌==◌}
use Rattle.std.specs.declared.cmp.Ordering.{Ordering}
use Rattle.std.specs.declared.cmp.Ordering.TheVariants.{Equal}
use Rattle.isle_core.specs.declared.BindingId.{BindingId}

-- items that compare as equal are one
abbrev pub TellsApart : {A : Type 0} → (A → A → Ordering) → Type 0
TellsApart {A} cmp = (x y : A) → cmp x y ≡ Equal → x ≡ y

-- an equality of two bindings, and not of one with itself
abbrev pub are_two : BindingId × BindingId → Bool
are_two e = not (e.0.0 == e.1.0)
