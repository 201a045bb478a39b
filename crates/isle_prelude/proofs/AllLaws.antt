-- What holds of each thing of a list that is made of others.
use Rattle.std.proofs.Common.{◌≡◌, ℕ, zero, suc, List, [], ◌∷◌, ◌++◌, map, Bool, true, false, Some, subst, cond, flat_map}
use Rattle.std.specs.Prelude.{filter, slice_get}
use Rattle.std.specs.List.{AllByRecursion}

module _ {X : Type 0} where
  pub all_joined : (P : X → Type 0) (xs ys : List X) → AllByRecursion P xs → AllByRecursion P ys → AllByRecursion P (xs ++ ys)
  all_joined P [] ys h k = k
  all_joined P (x ∷ xs) ys h k = (h.0, all_joined P xs ys h.1 k)

  pub all_front : (P : X → Type 0) (xs ys : List X) → AllByRecursion P (xs ++ ys) → AllByRecursion P xs
  all_front P [] ys h = tt
  all_front P (x ∷ xs) ys h = (h.0, all_front P xs ys h.1)

  pub all_behind : (P : X → Type 0) (xs ys : List X) → AllByRecursion P (xs ++ ys) → AllByRecursion P ys
  all_behind P [] ys h = h
  all_behind P (x ∷ xs) ys h = all_behind P xs ys h.1

  -- what follows for each
  pub all_to : (P Q : X → Type 0) → ((x : X) → P x → Q x) → (xs : List X) → AllByRecursion P xs → AllByRecursion Q xs
  all_to P Q f [] h = tt
  all_to P Q f (x ∷ xs) h = (f x h.0, all_to P Q f xs h.1)

  -- of those that pass a test
  pub all_kept : (P : X → Type 0) (test : X → Bool) (xs : List X) → AllByRecursion P xs → AllByRecursion P (filter test xs)
  all_kept P test [] h = tt
  all_kept P test (x ∷ xs) h = one (test x) h.0 (all_kept P test xs h.1)
    where
      one : (b : Bool) → P x → AllByRecursion P (filter test xs) → AllByRecursion P (cond b (x ∷ filter test xs) (filter test xs))
      one true p ps = (p, ps)
      one false p ps = ps

  -- of the one at a place
  pub all_at : (P : X → Type 0) (xs : List X) (i : ℕ) (x : X) → slice_get xs i ≡ Some x → AllByRecursion P xs → P x
  all_at P [] i x e h = absurd cc
  all_at P (y ∷ ys) zero x e h = one y e h.0
    where
      one : (y : X) → Some y ≡ Some x → P y → P x
      one y e p = let same : y ≡ x = cc in subst P same p
  all_at P (y ∷ ys) (suc i) x e h = all_at P ys i x e h.1

  module _ {Y : Type 0} where
    -- of what comes of each
    pub all_mapped : (P : X → Type 0) (Q : Y → Type 0) (f : X → Y) → ((x : X) → P x → Q (f x)) → (xs : List X) → AllByRecursion P xs → AllByRecursion Q (map f xs)
    all_mapped P Q f g [] h = tt
    all_mapped P Q f g (x ∷ xs) h = (g x h.0, all_mapped P Q f g xs h.1)

    -- of all that comes of each
    pub all_each : (P : X → Type 0) (Q : Y → Type 0) (f : X → List Y) → ((x : X) → P x → AllByRecursion Q (f x)) → (xs : List X) → AllByRecursion P xs
        → AllByRecursion Q (flat_map f xs)
    all_each P Q f g [] h = tt
    all_each P Q f g (x ∷ xs) h = joined (f x) (flat_map f xs) (g x h.0) (all_each P Q f g xs h.1)
      where
        joined : (ys zs : List Y) → AllByRecursion Q ys → AllByRecursion Q zs → AllByRecursion Q (ys ++ zs)
        joined [] zs h k = k
        joined (y ∷ ys) zs h k = (h.0, joined ys zs h.1 k)
