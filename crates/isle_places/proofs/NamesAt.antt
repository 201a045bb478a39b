-- The names at places, as they are found.
use Rattle.std.proofs.Common.{◌≡◌, ◌⊎◌, ℕ, zero, suc, ◌<◌, List, [], ◌∷◌, length, Option, Some, None, inl, inr, refl, sym, subst, arith, ⊎_elim}
use Rattle.std.specs.Prelude.{Contains, flat_map, slice_index_or}
use Rattle.std.proofs.lemmas.List.Elements.{Contains-append_left, Contains-append_right, Contains-append_cases}
use Rattle.isle_tree.specs.declared.tree.Operand.{Operand}
use Rattle.isle_tree.specs.declared.tree.Operand.TheVariants as operand
use Rattle.isle_tree.specs.Program.{Function, Program}
use Rattle.isle_places.specs.Places.{Place, named_as, names_at, all_named, all_places, places, StandsAt}

-- ---- what lists contain

-- what may stand before others
abbrev pub before : {A : Type 0} → Option A → List A → List A
before None xs = xs
before (Some x) xs = x ∷ xs

pub contains_cases : {A : Type 0} (x y : A) (xs : List A) → Contains (x ∷ xs) y → (x ≡ y) ⊎ Contains xs y
contains_cases x y xs h = by h.0 h.1 h.2
  where
    by : (k : ℕ) → k < length (x ∷ xs) → slice_index_or (x ∷ xs) k y ≡ y → (x ≡ y) ⊎ Contains xs y
    by zero l e = inl e
    by (suc k) l e = inr (k, omega (arith, l), e)

pub first : {A : Type 0} (x : A) (xs : List A) → Contains (x ∷ xs) x
first x xs = Contains-append_left (x ∷ []) xs x (0, omega arith, refl)

pub later : {A : Type 0} (x y : A) (xs : List A) → Contains xs y → Contains (x ∷ xs) y
later x y xs h = Contains-append_right (x ∷ []) xs y h

pub nothing_there : {A : Type 0} (y : A) → Contains [] y → ⊥
nothing_there y h = absurd (omega (arith, h.1))

cons_kept : {A : Type 0} (o : Option A) (xs : List A) (y : A) → Contains xs y → Contains (before o xs) y
cons_kept None xs y h = h
cons_kept (Some x) xs y h = later x y xs h

-- a name at a place is among the names
pub named_there : (ps : List Place) (name ty : List ℕ) → Contains ps (operand.Name name, ty) → Contains (names_at ps) (name, ty)
named_there [] name ty h = absurd (nothing_there (operand.Name name, ty) h)
named_there (p ∷ ps) name ty h = ⊎_elim
    (λ here. subst (λ (x : Place). Contains (before (named_as x.0 x.1) (names_at ps)) (name, ty)) (sym here) (first (name, ty) (names_at ps)))
    (λ there. cons_kept (named_as p.0 p.1) (names_at ps) (name, ty) (named_there ps name ty there))
    (contains_cases p (operand.Name name, ty) ps h)

-- each of the names stands at a place
pub there_named : (ps : List Place) (name ty : List ℕ) → Contains (names_at ps) (name, ty) → Contains ps (operand.Name name, ty)
there_named [] name ty h = absurd (nothing_there (name, ty) h)
there_named (p ∷ ps) name ty h = by p.0 p.1 h (there_named ps name ty)
  where
    by : (o : Operand) (t : List ℕ) → Contains (before (named_as o t) (names_at ps)) (name, ty) → (Contains (names_at ps) (name, ty) → Contains ps (operand.Name name, ty)) → Contains {X = Place} ((o, t) ∷ ps) (operand.Name name, ty)
    by (operand.Name n) t k go = ⊎_elim
        (λ here. subst (λ (x : List ℕ × List ℕ). Contains {X = Place} ((operand.Name x.0, x.1) ∷ ps) (operand.Name name, ty)) (sym here) (first (operand.Name name, ty) ps))
        (λ there. later (operand.Name n, t) (operand.Name name, ty) ps (go there))
        (contains_cases (n, t) (name, ty) (names_at ps) k)
    by (operand.Local n) t k go = later (operand.Local n, t) (operand.Name name, ty) ps (go k)
    by (operand.Arg n) t k go = later (operand.Arg n, t) (operand.Name name, ty) ps (go k)
    by (operand.Bool b) t k go = later (operand.Bool b, t) (operand.Name name, ty) ps (go k)
    by (operand.Int of z) t k go = later (operand.Int of z, t) (operand.Name name, ty) ps (go k)
    by (operand.Raw z) t k go = later (operand.Raw z, t) (operand.Name name, ty) ps (go k)

-- ---- of all functions

flat_there : {A B : Type 0} (each : A → List B) (xs : List A) (x : A) (y : B) → Contains xs x → Contains (each x) y → Contains (flat_map each xs) y
flat_there each [] x y h k = absurd (nothing_there x h)
flat_there each (z ∷ xs) x y h k = ⊎_elim
    (λ here. Contains-append_left (each z) (flat_map each xs) y (subst (λ w. Contains (each w) y) (sym here) k))
    (λ there. Contains-append_right (each z) (flat_map each xs) y (flat_there each xs x y there k))
    (contains_cases z x xs h)

-- some function whose names have one
abbrev Having : {A B : Type 0} (each : A → List B) (xs : List A) (y : B) → Type 0
Having {A = A} each xs y = (x : A) × Contains xs x × Contains (each x) y

there_flat : {A B : Type 0} (each : A → List B) (xs : List A) (y : B) → Contains (flat_map each xs) y → Having each xs y
there_flat each [] y h = absurd (nothing_there y h)
there_flat each (z ∷ xs) y h = ⊎_elim
    (λ here. (z, first z xs, here))
    (λ there. let more = there_flat each xs y there in (more.0, later z more.0 xs more.1, more.2))
    (Contains-append_cases (each z) (flat_map each xs) y h)

pub stands_named : (p : Program) (g : Function) (name ty : List ℕ) → Contains p.fns g → StandsAt p g name ty → Contains (all_named p) (name, ty)
stands_named p g name ty h k = named_there (all_places p) name ty (flat_there (places p) p.fns g (operand.Name name, ty) h k)

-- a function in which a name stands at a place of this type
pub record Stands (p : Program) (name ty : List ℕ) : Type 0 where
  pub function : Function
  pub there : Contains p.fns function
  pub stands : StandsAt p function name ty

pub named_stands : (p : Program) (name ty : List ℕ) → Contains (all_named p) (name, ty) → Stands p name ty
named_stands p name ty h =
    let found = there_flat (places p) p.fns (operand.Name name, ty) (there_named (all_places p) name ty h) in
    record { function = found.0; there = found.1; stands = found.2 }
