-- The table of the places of rule sets, one set after the other.
use Rattle.std.proofs.Common.{◌≡◌, ◌⊎◌, inl, inr, ⊎_elim, ℕ, zero, suc, ◌+◌, ◌<◌, ◌≤◌, List, [], ◌∷◌, length, get_or, Bool, true, false, ◌==◌, Option, Some, None, refl, sym, ap, ◌∙◌, subst, arith, eqb-true, eq-eqb, true≢false, slice_set}
use Rattle.std.specs.Prelude.{slice_get, slice_index_or, IsSomeAnd}
use Rattle.std.specs.List.{AllByRecursion}
use Rattle.isle_core.specs.declared.TermId.{TermId}
use Rattle.isle_core.specs.declared.rule_sets.RuleSet.{RuleSet}
use Rattle.isle_checks.specs.Graph.{IsAt, HasPlace, ArePlaces, ids_of}

-- what a table says of a term, by the first so many rule sets
abbrev pub HasPlaceBelow : List (TermId × RuleSet) → (i id : ℕ) → Option ℕ → Type 0
HasPlaceBelow sets i id None = (place : ℕ) → place < i → IsAt sets id place → ⊥
HasPlaceBelow sets i id (Some place) = IsAt sets id place

-- a table by the first so many rule sets
pub record ArePlacesBelow (count : ℕ) (sets : List (TermId × RuleSet)) (i : ℕ) (table : List (Option ℕ)) : Type 0 where
  pub many : length table ≡ count
  pub each : (id : ℕ) → id < count → HasPlaceBelow sets i id (slice_index_or table id None)

-- ---- one entry more

long_set : (t : List (Option ℕ)) (i : ℕ) (v : Option ℕ) → length (slice_set t i v) ≡ length t
long_set [] i v = refl
long_set (x ∷ t) zero v = refl
long_set (x ∷ t) (suc i) v = ap suc (long_set t i v)

at_set : (t : List (Option ℕ)) (i : ℕ) (v : Option ℕ) → i < length t → slice_index_or (slice_set t i v) i None ≡ v
at_set [] i v lt = absurd (omega (arith, lt))
at_set (x ∷ t) zero v lt = refl
at_set (x ∷ t) (suc i) v lt = at_set t i v (omega (arith, lt))

beside_set : (t : List (Option ℕ)) (i j : ℕ) (v : Option ℕ) → (j ≡ i → ⊥) → slice_index_or (slice_set t i v) j None ≡ slice_index_or t j None
beside_set [] i j v apart = refl
beside_set (x ∷ t) zero zero v apart = absurd (apart refl)
beside_set (x ∷ t) zero (suc j) v apart = refl
beside_set (x ∷ t) (suc i) zero v apart = refl
beside_set (x ∷ t) (suc i) (suc j) v apart = beside_set t i j v (λ e. apart (ap suc e))

-- ---- one rule set more

-- the rule set at a place is that of its term
pub item_at : (sets : List (TermId × RuleSet)) (i : ℕ) (s d : TermId × RuleSet) → i < length sets → s ≡ get_or sets i d → slice_get sets i ≡ Some s
item_at [] i s d lt is = absurd (omega (arith, lt))
item_at (x ∷ sets) zero s d lt is = ap Some (sym is)
item_at (x ∷ sets) (suc i) s d lt is = item_at sets i s d (omega (arith, lt)) is

pub id_below : (sets : List (TermId × RuleSet)) (count i : ℕ) (s d : TermId × RuleSet) → AllByRecursion (λ (id : ℕ). id < count) (ids_of sets) → i < length sets → s ≡ get_or sets i d → s.0.0 < count
id_below [] count i s d all lt is = absurd (omega (arith, lt))
id_below (x ∷ sets) count zero s d all lt is = subst (λ (y : TermId × RuleSet). y.0.0 < count) (sym is) all.0
id_below (x ∷ sets) count (suc i) s d all lt is = id_below sets count i s d all.1 (omega (arith, lt)) is

some_is : (sets : List (TermId × RuleSet)) (i id : ℕ) (s : TermId × RuleSet) → slice_get sets i ≡ Some s → s.0.0 ≡ id → IsAt sets id i
some_is sets i id s at e = subst (λ o. IsSomeAnd o (λ (y : TermId × RuleSet). y.0.0 ≡ id)) (sym at) e

is_some : (sets : List (TermId × RuleSet)) (i id : ℕ) (s : TermId × RuleSet) → slice_get sets i ≡ Some s → IsAt sets id i → s.0.0 ≡ id
is_some sets i id s at h = subst (λ o. IsSomeAnd o (λ (y : TermId × RuleSet). y.0.0 ≡ id)) at h

last : (place i : ℕ) → place < i + 1 → (place < i) ⊎ (place ≡ i)
last zero zero l = inr refl
last zero (suc i) l = inl (omega arith)
last (suc place) zero l = absurd (omega (arith, l))
last (suc place) (suc i) l = ⊎_elim (λ below. inl (omega (arith, below))) (λ e. inr (ap suc e)) (last place i (omega (arith, l)))

-- a table by one rule set more
pub places_more : (count : ℕ) (sets : List (TermId × RuleSet)) (i : ℕ) (s d : TermId × RuleSet) (table : List (Option ℕ)) → i < length sets → s ≡ get_or sets i d → s.0.0 < count → ArePlacesBelow count sets i table
    → ArePlacesBelow count sets (i + 1) (slice_set table s.0.0 (Some i))
places_more count sets i s d table lt is below h = record {
  many = long_set table s.0.0 (Some i) ∙ h.many;
  each = λ id l. by id l (id == s.0.0) refl;
}
  where
    at : slice_get sets i ≡ Some s
    at = item_at sets i s d lt is

    kept : (id : ℕ) (o : Option ℕ) → (id ≡ s.0.0 → ⊥) → HasPlaceBelow sets i id o → HasPlaceBelow sets (i + 1) id o
    kept id None apart none = λ place l k. ⊎_elim (λ below. none place below k) (λ e. apart (sym (is_some sets i id s at (subst (IsAt sets id) e k)))) (last place i l)
    kept id (Some place) apart k = k

    by : (id : ℕ) → id < count → (b : Bool) → id == s.0.0 ≡ b → HasPlaceBelow sets (i + 1) id (slice_index_or (slice_set table s.0.0 (Some i)) id None)
    by id l true e =
        let same : id ≡ s.0.0 = eqb-true id s.0.0 e in
        subst (HasPlaceBelow sets (i + 1) id) (sym (ap (λ n. slice_index_or (slice_set table s.0.0 (Some i)) n None) same ∙ at_set table s.0.0 (Some i) (subst (λ n. s.0.0 < n) (sym h.many) below)))
        (some_is sets i id s at (sym same))
    by id l false e =
        let apart : (id ≡ s.0.0 → ⊥) = λ same. true≢false (sym (eq-eqb id s.0.0 same) ∙ e) in
        subst (HasPlaceBelow sets (i + 1) id) (sym (beside_set table s.0.0 id (Some i) apart)) (kept id (slice_index_or table id None) apart (h.each id l))

-- a table by all of them
at_below : (sets : List (TermId × RuleSet)) (id place : ℕ) → IsAt sets id place → place < length sets
at_below [] id place h = absurd h
at_below (x ∷ sets) id zero h = omega arith
at_below (x ∷ sets) id (suc place) h = let l = at_below sets id place h in omega (arith, l)

pub places_all : (count : ℕ) (sets : List (TermId × RuleSet)) (i : ℕ) (table : List (Option ℕ)) → length sets ≤ i → ArePlacesBelow count sets i table → ArePlaces count sets table
places_all count sets i table le h = record { many = h.many; each = λ id l. by id (slice_index_or table id None) (h.each id l) }
  where
    by : (id : ℕ) (o : Option ℕ) → HasPlaceBelow sets i id o → HasPlace sets id o
    by id None none = λ place k. none place (let l = at_below sets id place k in omega (arith, l, le)) k
    by id (Some place) k = k
