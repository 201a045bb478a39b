-- Fields of another number are not those that a type asks for.
use Rattle.std.proofs.Common.{◌≡◌, ℕ, suc, ◌+◌, List, [], ◌∷◌, length, refl, ap}
use Rattle.isle_core.specs.declared.values.Value.{Value as CodeValue}
use Rattle.isle_outcomes.specs.Fields.{fields}
use Rattle.isle_tree.specs.declared.tree.TypeItem.{TypeItem}
use Rattle.isle_places.specs.DeclaredTypes.{These, tuple_fields}
use Rattle.isle_interpreter.specs.Named.{AreAsked}

pub asked_apart : (types : List TypeItem) (named : List (List ℕ × List ℕ)) (fs : List (List ℕ × CodeValue)) → AreAsked types (These named) (fields fs) → length named ≡ length fs
asked_apart types [] [] h = refl
asked_apart types [] (f ∷ fs) h = absurd h
asked_apart types (n ∷ named) [] h = absurd h
asked_apart types (n ∷ named) (f ∷ fs) h = ap suc (asked_apart types named fs h.2)

pub tuple_apart : (types : List TypeItem) (i : ℕ) (tys : List (List ℕ)) (fs : List (List ℕ × CodeValue)) → AreAsked types (These (tuple_fields i tys)) (fields fs) → length tys ≡ length fs
tuple_apart types i [] [] h = refl
tuple_apart types i [] (f ∷ fs) h = absurd h
tuple_apart types i (ty ∷ tys) [] h = absurd h
tuple_apart types i (ty ∷ tys) (f ∷ fs) h = ap suc (tuple_apart types (i + 1) tys fs h.2)
