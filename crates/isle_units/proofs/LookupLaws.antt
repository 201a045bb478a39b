-- What is found is the first unit of its name, and nothing is found just where no unit has it.
use Rattle.std.proofs.Common.{◌≡◌, ◌<◌, ℕ, zero, suc, List, [], ◌∷◌, Bool, true, false, cond, Option, Some, None, refl, sym, ◌∙◌, subst, arith}
use Rattle.std.specs.Prelude.{◌≢◌, find, slice_get}
use Rattle.std.specs.Str.{bytes_eq}
use Rattle.std.proofs.lemmas.Slice.Eq.{bytes_eq-Decides}
use Rattle.isle_units.specs.Lookup.{AreNamedElse, IsFirstNamed, LooksUp, first_named}
use Rattle.isle_units.specs.declared.compilation.IsleCompilation.{IsleCompilation}
use Rattle.isle_units.specs.declared.compilations.IsleCompilations.{IsleCompilations}

-- what a look-up among these gives
abbrev Finds : List ℕ → List IsleCompilation → Option IsleCompilation → Type 0
Finds name units None = AreNamedElse name units
Finds name units (Some u) = IsFirstNamed name units u

-- a unit of another name
other_name : (u : IsleCompilation) (name : List ℕ) → bytes_eq u.name name ≡ false → u.name ≢ name
other_name u name b e = let h : bytes_eq u.name name ≡ true = (bytes_eq-Decides u.name name).1 e in let bad : true ≡ false = sym h ∙ b in cc

-- a unit of another name in front
in_front : (name : List ℕ) (u : IsleCompilation) (units : List IsleCompilation) (r : Option IsleCompilation) → bytes_eq u.name name ≡ false → Finds name units r → Finds name (u ∷ units) r
in_front name u units None b h = each
  where
    each : (place : ℕ) (v : IsleCompilation) → slice_get (u ∷ units) place ≡ Some v → v.name ≢ name
    each zero v e = let same : u ≡ v = cc in subst (λ w. w.name ≢ name) same (other_name u name b)
    each (suc place) v e = h place v e
in_front name u units (Some w) b h = record {
  place = suc h.place;
  there = h.there;
  named = h.named;
  before = each;
}
  where
    each : (earlier : ℕ) (v : IsleCompilation) → earlier < suc h.place → slice_get (u ∷ units) earlier ≡ Some v → v.name ≢ name
    each zero v lt e = let same : u ≡ v = cc in subst (λ w. w.name ≢ name) same (other_name u name b)
    each (suc earlier) v lt e = h.before earlier v (omega arith) e

-- the unit in front has the name
here : (name : List ℕ) (u : IsleCompilation) (units : List IsleCompilation) → bytes_eq u.name name ≡ true → IsFirstNamed name (u ∷ units) u
here name u units b = record {
  place = 0;
  there = refl;
  named = (bytes_eq-Decides u.name name).0 b;
  before = λ earlier v lt e. absurd (omega arith);
}

finds_in : (name : List ℕ) (units : List IsleCompilation) → Finds name units (find (λ (u : IsleCompilation). bytes_eq u.name name) units)
finds_in name [] = λ place v e. absurd cc
finds_in name (u ∷ units) = pick (bytes_eq u.name name) refl (finds_in name units)
  where
    pick : (b : Bool) → bytes_eq u.name name ≡ b → Finds name units (find (λ (v : IsleCompilation). bytes_eq v.name name) units)
        → Finds name (u ∷ units) (cond b (Some u) (find (λ (v : IsleCompilation). bytes_eq v.name name) units))
    pick true b h = here name u units b
    pick false b h = in_front name u units (find (λ (v : IsleCompilation). bytes_eq v.name name) units) b h

looks_up_as : (name : List ℕ) (units : IsleCompilations) (r : Option IsleCompilation) → Finds name units.items r → LooksUp name units r
looks_up_as name units None h = h
looks_up_as name units (Some u) h = h

-- the first of a name is what a look-up gives
pub looks_up : (name : List ℕ) (units : IsleCompilations) → LooksUp name units (first_named name units)
looks_up name units = looks_up_as name units (first_named name units) (finds_in name units.items)
