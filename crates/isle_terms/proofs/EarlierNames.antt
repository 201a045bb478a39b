-- Names that stand earlier: those whose first place is before a place.
use Rattle.std.proofs.Common.{◌≡◌, ℕ, zero, suc, ◌+◌, Bool, true, false, cond, List, [], ◌∷◌, take, Option, Some, None, refl, sym, ap, ◌∙◌, arith}
use Rattle.std.specs.Prelude.{is_some, nat_lt, option_map}
use Rattle.std.specs.Str.{bytes_eq}
use Rattle.isle_declarations.specs.Symbols.{index_of}
use Rattle.isle_types.specs.TypeRows.{on}

none_first : (b : Bool) (o : Option ℕ) → false ≡ on (cond b (Some 0) (option_map (λ (n : ℕ). n + 1) o)) (λ (n : ℕ). nat_lt n 0)
none_first true o = refl
none_first false None = refl
none_first false (Some n) = grind arith

less : (n k : ℕ) → nat_lt (n + 1) (suc k) ≡ nat_lt n k
less n k = grind arith

later : (b : Bool) (o p : Option ℕ) (k : ℕ) → is_some p ≡ on o (λ (n : ℕ). nat_lt n k)
    → is_some (cond b (Some 0) (option_map (λ (n : ℕ). n + 1) p)) ≡ on (cond b (Some 0) (option_map (λ (n : ℕ). n + 1) o)) (λ (n : ℕ). nat_lt n (suc k))
later true o p k h = grind arith
later false None None k h = h
later false None (Some m) k h = h
later false (Some n) None k h = h ∙ sym (less n k)
later false (Some n) (Some m) k h = h ∙ sym (less n k)

-- a name is among the first so many if its first place is before them
pub earlier : (names : List (List ℕ)) (name : List ℕ) (k : ℕ) → is_some (index_of (take k names) name) ≡ on (index_of names name) (λ (n : ℕ). nat_lt n k)
earlier [] name zero = refl
earlier [] name (suc k) = refl
earlier (first ∷ names) name zero = none_first (bytes_eq first name) (index_of names name)
earlier (first ∷ names) name (suc k) = later (bytes_eq first name) (index_of names name) (index_of (take k names) name) k (earlier names name k)

-- one that has this place
pub placed_earlier : (names : List (List ℕ)) (name : List ℕ) (k n : ℕ) → Some n ≡ index_of names name → nat_lt n k ≡ is_some (index_of (take k names) name)
placed_earlier names name k n at = ap (λ o. on o (λ (m : ℕ). nat_lt m k)) at ∙ sym (earlier names name k)

-- one that has none
pub never_earlier : (names : List (List ℕ)) (name : List ℕ) (k : ℕ) → None ≡ index_of names name → false ≡ is_some (index_of (take k names) name)
never_earlier names name k none = ap (λ o. on o (λ (m : ℕ). nat_lt m k)) none ∙ sym (earlier names name k)
