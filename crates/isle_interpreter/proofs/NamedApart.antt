-- Values of another number than the names are not of their types.
use Rattle.std.proofs.Common.{◌≡◌, ℕ, suc, List, [], ◌∷◌, length, refl, ap}
use Rattle.isle_core.specs.declared.values.Value.{Value as CodeValue}
use Rattle.isle_core.specs.ValueViews.{values}
use Rattle.isle_tree.specs.declared.tree.TypeItem.{TypeItem}
use Rattle.isle_interpreter.specs.Named.{AreNamed}

pub named_apart : (types : List TypeItem) (names : List (List ℕ)) (vs : List CodeValue) → AreNamed types names (values vs) → length names ≡ length vs
named_apart types [] [] h = refl
named_apart types [] (v ∷ vs) h = absurd h
named_apart types (n ∷ names) [] h = absurd h
named_apart types (n ∷ names) (v ∷ vs) h = ap suc (named_apart types names vs h.1)
