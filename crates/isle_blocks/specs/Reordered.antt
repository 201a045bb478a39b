-- A list in another order.
use Rattle.std.specs.Prelude.{List, [], ◌∷◌}

-- one more somewhere in a list
pub data PutIn {A : Type 0} (x : A) : List A → List A → Type 0 where
  here : (ys : List A) → PutIn x ys (x ∷ ys)
  later : (y : A) (ys zs : List A) → PutIn x ys zs → PutIn x (y ∷ ys) (y ∷ zs)

-- the same ones, each as often
pub data IsReordered {A : Type 0} : List A → List A → Type 0 where
  nothing : IsReordered [] []
  more : (x : A) (xs ys zs : List A) → IsReordered xs ys → PutIn x ys zs → IsReordered (x ∷ xs) zs
