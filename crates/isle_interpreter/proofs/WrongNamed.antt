-- Values among which one is wrong are not of their types.
use Rattle.std.proofs.Common.{◌≡◌, ℕ, zero, suc, List, [], ◌∷◌, length, Option, Some, None, Bool, true, refl, sym, subst, ◌∙◌}
use Rattle.std.specs.Prelude.{slice_get, ◌↔◌, IsTrue, false, not, is_some}
use Rattle.std.proofs.lemmas.List.{length-map}
use Rattle.isle_tree.specs.declared.tree.Ty.{Ty}
use Rattle.isle_tree.specs.declared.tree.TypeItem.{TypeItem}
use Rattle.isle_core.specs.Value.{Value}
use Rattle.isle_places.specs.Signatures.{type_names}
use Rattle.isle_interpreter.specs.Named.{IsNamed, AreNamed}
use Rattle.isle_interpreter.specs.Refusals.{IsWrongArg}
use Rattle.isle_interpreter.specs.FirstWrong.{IsFirstWrong}
use Rattle.isle_core.specs.declared.values.Value.{Value as CodeValue}
use Rattle.isle_core.specs.ValueViews.{values}
use Rattle.isle_interpreter.proofs.NamedApart.{named_apart}

pub named_at : (types : List TypeItem) (i : ℕ) (names : List (List ℕ)) (vs : List Value) (name : List ℕ) (v : Value) → AreNamed types names vs → slice_get names i ≡ Some name → slice_get vs i ≡ Some v → IsNamed types name v
named_at types i [] vs name v h e f = absurd cc
named_at types i (n ∷ names) [] name v h e f = absurd cc
named_at types zero (n ∷ names) (w ∷ vs) name v h e f =
    let this : n ≡ name = cc in
    let that : w ≡ v = cc in
    subst (λ x. IsNamed types x v) this (subst (IsNamed types n) that h.0)
named_at types (suc i) (n ∷ names) (w ∷ vs) name v h e f = named_at types i names vs name v h.1 e f

pub not_named : (types : List TypeItem) (names : List (List ℕ)) (vs : List Value) (i : ℕ) → IsWrongArg types names vs i → AreNamed types names vs → ⊥
not_named types names vs i w h = w.wrong (named_at types i names vs w.name w.arg h w.named w.given)

-- none is told, or they are not
pub first_wrong_named : (types : List TypeItem) (names : List (List ℕ)) (vs : List Value) (r : Option ℕ) (none : Bool) → IsFirstWrong types names vs r → is_some r ≡ not none → IsTrue none ↔ AreNamed types names vs
first_wrong_named types names vs None true h e = (λ t. h, λ t. refl)
first_wrong_named types names vs (Some i) false h e = (λ t. absurd cc, λ t. absurd (not_named types names vs i h t))
first_wrong_named types names vs None false h e = absurd cc
first_wrong_named types names vs (Some i) true h e = absurd cc

-- of another number
pub takes_apart : (types : List TypeItem) (tys : List Ty) (vs : List CodeValue) → (length vs ≡ length tys → ⊥) → IsTrue false ↔ AreNamed types (type_names tys) (values vs)
takes_apart types tys vs h = (λ t. absurd cc, λ t. absurd (h (sym (named_apart types (type_names tys) vs t) ∙ length-map tys (λ (ty : Ty). ty.name))))
