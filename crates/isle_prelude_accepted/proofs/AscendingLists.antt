-- Lists that are put in ascending order: they have the same things, each once.
use Rattle.std.proofs.Common.{◌≡◌, ◌⊎◌, inl, inr, ℕ, List, [], ◌∷◌, refl, sym, ap, ◌∙◌, subst}
use Rattle.std.specs.Prelude.{fold}
use Rattle.std.specs.List.{AllByRecursion}
use Rattle.std.specs.BTreeSet.{insert_key}
use Rattle.std.specs.Cmp.{IsTotalOrder}
use Rattle.std.specs.Cmp.Lexicographic.{slice_cmp}
use Rattle.std.specs.Ordering.{nat_cmp, match_ordering, ordering_reverse}
use Rattle.std.specs.declared.cmp.Ordering.{Ordering}
use Rattle.std.specs.declared.cmp.Ordering.TheVariants.{Less, Equal, Greater}
use Rattle.std.proofs.lemmas.Cmp.{nat_cmp_total, nat_list_cmp_total}
use Rattle.std.proofs.lemmas.Map.Lookups.{exact_unsigned, exact_bytes}
use Rattle.isle_prelude.specs.Ascending.{ascending, ascending_numbers}
use Rattle.isle_prelude_accepted.proofs.Has.{Has, AreApart, all_has}

module _ {K : Type 0} (R : K → K → Ordering) (o : IsTotalOrder R) (exact : (x y : K) → R x y ≡ Equal → x ≡ y) where
  -- each is less than those behind it
  Rises : List K → Type 0
  Rises [] = Unit {0}
  Rises (x ∷ xs) = AllByRecursion (λ y. R x y ≡ Less) xs × Rises xs

  less_trans : (x y : K) (zs : List K) → R x y ≡ Less → AllByRecursion (λ z. R y z ≡ Less) zs → AllByRecursion (λ z. R x z ≡ Less) zs
  less_trans x y [] e h = tt
  less_trans x y (z ∷ zs) e h = (o.trans x y z e h.0, less_trans x y zs e h.1)

  -- what holds of the new one and of the others holds of all
  all_inserted : (P : K → Type 0) (xs : List K) (k : K) → P k → AllByRecursion P xs → AllByRecursion P (insert_key R xs k)
  all_inserted P [] k p h = (p, tt)
  all_inserted P (x ∷ xs) k p h = by (R k x) (all_inserted P xs k p h.1)
    where
      by : (r : Ordering) → AllByRecursion P (insert_key R xs k) → AllByRecursion P (match_ordering r (k ∷ x ∷ xs) (x ∷ xs) (x ∷ insert_key R xs k))
      by Less rest = (p, h)
      by Equal rest = h
      by Greater rest = (h.0, rest)

  rises_inserted : (xs : List K) (k : K) → Rises xs → Rises (insert_key R xs k)
  unfolding Rises
  rises_inserted [] k h = (tt, tt)
  rises_inserted (x ∷ xs) k h = by (R k x) refl (rises_inserted xs k h.1)
    where
      by : (r : Ordering) → R k x ≡ r → Rises (insert_key R xs k) → Rises (match_ordering r (k ∷ x ∷ xs) (x ∷ xs) (x ∷ insert_key R xs k))
      by Less e rest = ((e, less_trans k x xs e h.0), h)
      by Equal e rest = h
      by Greater e rest = (all_inserted (λ y. R x y ≡ Less) xs k (o.antisymm x k ∙ ap ordering_reverse e) h.0, rest)

  own_inserted : (xs : List K) (k : K) → Has (insert_key R xs k) k
  own_inserted [] k = inl refl
  own_inserted (x ∷ xs) k = by (R k x) refl (own_inserted xs k)
    where
      by : (r : Ordering) → R k x ≡ r → Has (insert_key R xs k) k → Has (match_ordering r (k ∷ x ∷ xs) (x ∷ xs) (x ∷ insert_key R xs k)) k
      by Less e rest = inl refl
      by Equal e rest = inl (sym (exact k x e))
      by Greater e rest = inr rest

  kept_inserted : (xs : List K) (k y : K) → Has xs y → Has (insert_key R xs k) y
  kept_inserted [] k y i = absurd i
  kept_inserted (x ∷ xs) k y i = by (R k x) (λ j. kept_inserted xs k y j) i
    where
      by : (r : Ordering) → (Has xs y → Has (insert_key R xs k) y) → (x ≡ y) ⊎ Has xs y → Has (match_ordering r (k ∷ x ∷ xs) (x ∷ xs) (x ∷ insert_key R xs k)) y
      by Less rest j = inr j
      by Equal rest j = j
      by Greater rest (inl e) = inl e
      by Greater rest (inr j) = inr (rest j)

  inserted_from : (xs : List K) (k y : K) → Has (insert_key R xs k) y → (k ≡ y) ⊎ Has xs y
  inserted_from [] k y i = i
  inserted_from (x ∷ xs) k y i = by (R k x) (λ j. inserted_from xs k y j) i
    where
      by : (r : Ordering) → (Has (insert_key R xs k) y → (k ≡ y) ⊎ Has xs y) → Has (match_ordering r (k ∷ x ∷ xs) (x ∷ xs) (x ∷ insert_key R xs k)) y
          → (k ≡ y) ⊎ ((x ≡ y) ⊎ Has xs y)
      by Less rest j = j
      by Equal rest j = inr j
      by Greater rest (inl e) = inr (inl e)
      by Greater rest (inr j) = to (rest j)
        where
          to : (k ≡ y) ⊎ Has xs y → (k ≡ y) ⊎ ((x ≡ y) ⊎ Has xs y)
          to (inl e) = inl e
          to (inr l) = inr (inr l)

  -- ---- all of a list

  rises_all : (ks acc : List K) → Rises acc → Rises (fold (insert_key R) acc ks)
  rises_all [] acc h = h
  rises_all (k ∷ ks) acc h = rises_all ks (insert_key R acc k) (rises_inserted acc k h)

  pub stays : (ks acc : List K) (y : K) → Has acc y → Has (fold (insert_key R) acc ks) y
  stays [] acc y i = i
  stays (k ∷ ks) acc y i = stays ks (insert_key R acc k) y (kept_inserted acc k y i)

  pub all_there : (ks acc : List K) (y : K) → Has ks y → Has (fold (insert_key R) acc ks) y
  all_there [] acc y i = absurd i
  all_there (k ∷ ks) acc y i = by (λ j. all_there ks (insert_key R acc k) y j) i
    where
      by : (Has ks y → Has (fold (insert_key R) (insert_key R acc k) ks) y) → (k ≡ y) ⊎ Has ks y → Has (fold (insert_key R) (insert_key R acc k) ks) y
      by rest (inl e) = stays ks (insert_key R acc k) y (subst (Has (insert_key R acc k)) e (own_inserted acc k))
      by rest (inr j) = rest j

  pub all_from : (ks acc : List K) (y : K) → Has (fold (insert_key R) acc ks) y → Has acc y ⊎ Has ks y
  all_from [] acc y i = inl i
  all_from (k ∷ ks) acc y i = by (all_from ks (insert_key R acc k) y i)
    where
      to : (k ≡ y) ⊎ Has acc y → Has acc y ⊎ ((k ≡ y) ⊎ Has ks y)
      to (inl e) = inr (inl e)
      to (inr j) = inl j

      by : Has (insert_key R acc k) y ⊎ Has ks y → Has acc y ⊎ ((k ≡ y) ⊎ Has ks y)
      by (inl j) = to (inserted_from acc k y j)
      by (inr j) = inr (inr j)

  never_less : (x : K) → R x x ≡ Less → ⊥
  never_less x e = absurd (let turned : Less ≡ Greater = sym e ∙ o.antisymm x x ∙ ap ordering_reverse e in cc)

  rises_apart : (xs : List K) → Rises xs → AreApart xs
  unfolding Rises
  rises_apart [] h = tt
  rises_apart (x ∷ xs) h = ((λ i. never_less x (all_has (λ y. R x y ≡ Less) xs x h.0 i)), rises_apart xs h.1)

  nothing_rises : Rises []
  unfolding Rises
  nothing_rises = tt

  pub all_apart : (ks : List K) → AreApart (fold (insert_key R) [] ks)
  all_apart ks = rises_apart (fold (insert_key R) [] ks) (rises_all ks [] nothing_rises)

either_none : {A : Type 0} → ⊥ ⊎ A → A
either_none (inl a) = absurd a
either_none (inr a) = a

-- names in ascending order
pub ascending_apart : (names : List (List ℕ)) → AreApart (ascending names)
ascending_apart names = all_apart (slice_cmp nat_cmp) nat_list_cmp_total exact_bytes names

pub ascending_has : (names : List (List ℕ)) (name : List ℕ) → Has names name → Has (ascending names) name
ascending_has names name i = all_there (slice_cmp nat_cmp) nat_list_cmp_total exact_bytes names [] name i

pub ascending_from : (names : List (List ℕ)) (name : List ℕ) → Has (ascending names) name → Has names name
ascending_from names name i = either_none (all_from (slice_cmp nat_cmp) nat_list_cmp_total exact_bytes names [] name i)

-- so of numbers
pub numbers_apart : (ns : List ℕ) → AreApart (ascending_numbers ns)
numbers_apart ns = all_apart nat_cmp nat_cmp_total exact_unsigned ns

pub numbers_has : (ns : List ℕ) (n : ℕ) → Has ns n → Has (ascending_numbers ns) n
numbers_has ns n i = all_there nat_cmp nat_cmp_total exact_unsigned ns [] n i

pub numbers_from : (ns : List ℕ) (n : ℕ) → Has (ascending_numbers ns) n → Has ns n
numbers_from ns n i = either_none (all_from nat_cmp nat_cmp_total exact_unsigned ns [] n i)
