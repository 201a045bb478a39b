-- A value more is of its type.
use Rattle.std.proofs.Common.{◌≡◌, ℕ, zero, suc, ◌+◌, List, [], ◌∷◌, take, Some, subst, arith}
use Rattle.std.specs.Prelude.{slice_get}
use Rattle.isle_core.specs.Value.{Value}
use Rattle.isle_tree.specs.declared.tree.TypeItem.{TypeItem}
use Rattle.isle_interpreter.specs.Named.{IsNamed, AreNamed}

pub named_more : (types : List TypeItem) (i : ℕ) (names : List (List ℕ)) (vs : List Value) (name : List ℕ) (v : Value) → slice_get names i ≡ Some name → slice_get vs i ≡ Some v → AreNamed types (take i names) (take i vs) → IsNamed types name v → AreNamed types (take (suc i) names) (take (suc i) vs)
named_more types zero (n ∷ names) (w ∷ vs) name v e f h k = let same : name ≡ n = cc in let other : v ≡ w = cc in (subst (λ x. IsNamed types n x) other (subst (λ x. IsNamed types x v) same k), tt)
named_more types (suc i) (n ∷ names) (w ∷ vs) name v e f h k = (h.0, named_more types i names vs name v e f h.1 k)
named_more types i [] vs name v e f h k = absurd cc
named_more types i (n ∷ names) [] name v e f h k = absurd cc

pub named_next : (types : List TypeItem) (i : ℕ) (names : List (List ℕ)) (vs : List Value) (name : List ℕ) (v : Value) → slice_get names i ≡ Some name → slice_get vs i ≡ Some v → AreNamed types (take i names) (take i vs) → IsNamed types name v → AreNamed types (take (i + 1) names) (take (i + 1) vs)
named_next types i names vs name v e f h k = subst (λ n. AreNamed types (take n names) (take n vs)) next (named_more types i names vs name v e f h k)
  where
    next : suc i ≡ i + 1
    next = omega arith
