-- The items that a bind order opens: each anew, and only of lists within what is read.
use Rattle.std.proofs.Common.{◌≡◌, ⊎_elim, ℕ, suc, ◌<◌, List, [], ◌∷◌, ◌++◌, Some, None, sym, ap, ◌∙◌, arith}
use Rattle.std.specs.Prelude.{slice_get, Contains}
use Rattle.std.specs.List.{AllByRecursion}
use Rattle.std.proofs.lemmas.List.Elements.{Contains-push_cases}
use Rattle.isle_core.specs.declared.BindingId.{BindingId}
use Rattle.isle_core.specs.declared.rule_sets.Binding.{Binding}
use Rattle.isle_core.specs.declared.rule_sets.Binding.TheVariants as binding
use Rattle.isle_core.specs.Bindable.{bound_by}
use Rattle.isle_core.specs.Calling.{Calling, ByTurns, ByCases, NoCall, calling}
use Rattle.isle_core.specs.Rule.{Environment}
use Rattle.isle_core.specs.Path.{Path, Called, Chosen, MadeVariant, MadeStruct, Extracted, Part, Paths, NoPath, APath, at, paths_of}
use Rattle.isle_blocks.specs.Needed.{list_before}

-- ---- numbers

-- each has a lower number
abbrev pub AllUnder : ℕ → List BindingId → Type 0
AllUnder n order = AllByRecursion (λ (b : BindingId). b.0 < n) order

pub under_append : (n : ℕ) (xs ys : List BindingId) → AllUnder n xs → AllUnder n ys → AllUnder n (xs ++ ys)
under_append n [] ys h k = k
under_append n (x ∷ xs) ys h k = (h.0, under_append n xs ys h.1 k)

pub under_more : (m n : ℕ) (xs : List BindingId) → m < suc n → AllUnder m xs → AllUnder n xs
under_more m n [] lt h = tt
under_more m n (x ∷ xs) lt h = let low = h.0 in (omega (arith, low, lt), under_more m n xs lt h.1)

-- what lower numbers add is lower
pub under_bound : (n : ℕ) (order : List BindingId) (bound : List ℕ) → AllUnder n order → Contains (bound_by bound order) n → Contains bound n
under_bound n [] bound h k = k
under_bound n (b ∷ order) bound h k =
    ⊎_elim (λ j. j) (λ (e : b.0 ≡ n). let low = h.0 in absurd (omega (arith, low, e))) (Contains-push_cases bound b.0 n (under_bound n order (bound ++ b.0 ∷ []) h.1 k))

-- ---- lists within what is read

-- for an impure call nothing is needed: it is bound already
abbrev pub NeedCalled : Calling → (X : Type 0) → Type 0
NeedCalled (ByTurns callee kind) X = Unit {0}
NeedCalled (ByCases callee kind) X = X
NeedCalled NoCall X = X

-- each list whose item is needed for a path is one of these; not those within a field or an inner value, which tests have shown
abbrev mutual
  pub NeedLists : Environment → List Path → Path → Type 0
  NeedLists env qs (Chosen p) = Contains qs p × NeedLists env qs p
  NeedLists env qs (Called term ps k) = NeedCalled (calling env term) (AllNeedLists env qs ps)
  NeedLists env qs (MadeVariant ty variant ps) = AllNeedLists env qs ps
  NeedLists env qs (MadeStruct ty ps) = AllNeedLists env qs ps
  NeedLists env qs (Extracted term p) = NeedLists env qs p
  NeedLists env qs (Part i p) = NeedLists env qs p
  NeedLists env qs p = Unit {0}

  -- so for paths in order
  pub AllNeedLists : Environment → List Path → Paths → Type 0
  AllNeedLists env qs NoPath = Unit {0}
  AllNeedLists env qs (APath p ps) = NeedLists env qs p × AllNeedLists env qs ps

-- ---- items

-- an item that is not bound yet, of one of these lists
abbrev pub IsItemNew : List Path → List Binding → List ℕ → BindingId → Type 0
IsItemNew qs bs bound b = (source : BindingId) → slice_get bs b.0 ≡ Some (binding.Iterator source) → Contains qs (at (paths_of bs) source) × (Contains bound b.0 → ⊥)

-- so of each item of an order
abbrev pub AreItemsNew : List Path → List Binding → List ℕ → List BindingId → Type 0
AreItemsNew qs bs bound [] = Unit {0}
AreItemsNew qs bs bound (b ∷ order) = IsItemNew qs bs bound b × AreItemsNew qs bs (bound ++ b.0 ∷ []) order

pub items_append : (qs : List Path) (bs : List Binding) (xs ys : List BindingId) (bound : List ℕ) → AreItemsNew qs bs bound xs → AreItemsNew qs bs (bound_by bound xs) ys → AreItemsNew qs bs bound (xs ++ ys)
items_append qs bs [] ys bound h k = k
items_append qs bs (x ∷ xs) ys bound h k = (h.0, items_append qs bs xs ys (bound ++ x.0 ∷ []) h.1 k)

-- a binding that is no item
pub no_item : (qs : List Path) (bs : List Binding) (bound : List ℕ) (b : BindingId) → list_before (slice_get bs b.0) ≡ None → IsItemNew qs bs bound b
no_item qs bs bound b none = λ source e. let bad = sym none ∙ ap list_before e in absurd cc
