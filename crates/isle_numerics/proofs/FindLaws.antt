-- The operation of a name, in one list after another.
use Rattle.std.proofs.Common.{◌≡◌, ℕ, Bool, true, false, cond, refl, List, [], ◌∷◌, ◌++◌, Option, Some, None}
use Rattle.std.specs.Prelude.{find}
use Rattle.isle_printer.specs.Bytes.{same_bytes}
use Rattle.isle_numerics.specs.declared.operation.Operation.{Operation}
use Rattle.isle_numerics.specs.Operations.{row}
use Rattle.isle_numerics.specs.Table.{shared, own_operations, operations}
use Rattle.isle_numerics.specs.Meaning.{named}

first_by : {X : Type 0} (b : Bool) (y x : X) (one all : Option X) → (one ≡ Some x → all ≡ Some x) → cond b (Some y) one ≡ Some x → cond b (Some y) all ≡ Some x
first_by true y x one all rest e = e
first_by false y x one all rest e = rest e

first_in : {X : Type 0} (test : X → Bool) (xs ys : List X) (x : X) → find test xs ≡ Some x → find test (xs ++ ys) ≡ Some x
first_in test [] ys x e = cc
first_in test (y ∷ xs) ys x e = first_by (test y) y x (find test xs) (find test (xs ++ ys)) (first_in test xs ys x) e

later_by : {X : Type 0} (b : Bool) (y : X) (one all own : Option X) → (one ≡ None → all ≡ own) → cond b (Some y) one ≡ None → cond b (Some y) all ≡ own
later_by true y one all own rest e = cc
later_by false y one all own rest e = rest e

later_in : {X : Type 0} (test : X → Bool) (xs ys : List X) → find test xs ≡ None → find test (xs ++ ys) ≡ find test ys
later_in test [] ys e = refl
later_in test (y ∷ xs) ys e = later_by (test y) y (find test xs) (find test (xs ++ ys)) (find test ys) (later_in test xs ys) e

pub found_first : (signed : Bool) (name : List ℕ) (op : Operation) → named name shared ≡ Some op → named name (operations signed) ≡ Some op
found_first signed name op e = first_in (λ (op : Operation). same_bytes (row op).name name) shared (own_operations signed) op e

pub found_later : (signed : Bool) (name : List ℕ) → named name shared ≡ None → named name (operations signed) ≡ named name (own_operations signed)
found_later signed name e = later_in (λ (op : Operation). same_bytes (row op).name name) shared (own_operations signed) e
