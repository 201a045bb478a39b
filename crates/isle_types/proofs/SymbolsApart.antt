-- No text stands twice among symbols, and each name in definitions is one.
use Rattle.std.proofs.Common.{◌≡◌, ℕ, zero, suc, ◌+◌, Bool, true, false, cond, List, [], ◌∷◌, ◌++◌, Option, Some, None, refl, sym, ap, ◌∙◌}
use Rattle.std.specs.Prelude.{fold, flat_map, is_some, option_map, slice_get}
use Rattle.std.specs.List.{AllByRecursion, IsDistinct}
use Rattle.std.specs.Str.{bytes_eq}
use Rattle.std.proofs.lemmas.Slice.Eq.{bytes_eq-Decides}
use Rattle.isle_ast.specs.Tree.{Def}
use Rattle.isle_declarations.specs.Names.{def_names}
use Rattle.isle_declarations.specs.DeclaredTypes.{made_terms}
use Rattle.isle_declarations.specs.Symbols.{index_of, added, symbols}
use Rattle.isle_declarations.proofs.SymbolLaws.{met, kept, none_of}

-- ---- no text twice

-- a name that stands nowhere is not the first, and stands nowhere after it
pub nowhere : (first : Bool) (place : Option ℕ) → cond first (Some 0) (option_map (λ (n : ℕ). n + 1) place) ≡ None → (first ≡ false) × (place ≡ None)
nowhere true place e = absurd cc
nowhere false None e = (refl, refl)
nowhere false (Some n) e = absurd cc

apart_last : (first new : List ℕ) (names : List (List ℕ)) → bytes_eq first new ≡ false → AllByRecursion (λ y. bytes_eq first y ≡ false) names → AllByRecursion (λ y. bytes_eq first y ≡ false) (names ++ new ∷ [])
apart_last first new [] e h = (e, tt)
apart_last first new (x ∷ names) e h = (h.0, apart_last first new names e h.1)

distinct_last : (names : List (List ℕ)) (new : List ℕ) → index_of names new ≡ None → IsDistinct bytes_eq names → IsDistinct bytes_eq (names ++ new ∷ [])
unfolding IsDistinct
distinct_last [] new e h = (tt, tt)
distinct_last (first ∷ names) new e h =
    let apart = nowhere (bytes_eq first new) (index_of names new) e in
    (apart_last first new names apart.0 h.0, distinct_last names new apart.1 h.1)

distinct_if : (b : Bool) (names : List (List ℕ)) (new : List ℕ) → is_some (index_of names new) ≡ b → IsDistinct bytes_eq names → IsDistinct bytes_eq (cond b names (names ++ new ∷ []))
distinct_if true names new e h = h
distinct_if false names new e h = distinct_last names new (none_of (index_of names new) e) h

distinct_added : (more names : List (List ℕ)) → IsDistinct bytes_eq names → IsDistinct bytes_eq (fold added names more)
distinct_added [] names h = h
distinct_added (new ∷ more) names h = distinct_added more (added names new) (distinct_if (is_some (index_of names new)) names new refl h)

none_yet : IsDistinct bytes_eq []
unfolding IsDistinct
none_yet = tt

-- no symbol is there twice
pub distinct_symbols : (defs : List Def) → IsDistinct bytes_eq (symbols defs)
distinct_symbols defs = distinct_added (made_terms defs) (fold added [] (flat_map def_names defs)) (distinct_added (flat_map def_names defs) [] none_yet)

-- ---- one text at two places

not_behind : (first name : List ℕ) (names : List (List ℕ)) (j : ℕ) → AllByRecursion (λ y. bytes_eq first y ≡ false) names → first ≡ name → slice_get names j ≡ Some name → ⊥
not_behind first name [] zero h same e = cc
not_behind first name [] (suc j) h same e = cc
not_behind first name (y ∷ names) zero h same e =
    let there : y ≡ name = cc in
    let equal : bytes_eq first y ≡ true = (bytes_eq-Decides first y).1 (same ∙ sym there) in
    let differs : bytes_eq first y ≡ false = h.0 in
    cc
not_behind first name (y ∷ names) (suc j) h same e = not_behind first name names j h.1 same e

-- among distinct names one name has one place
pub one_place : (names : List (List ℕ)) (i j : ℕ) (name : List ℕ) → IsDistinct bytes_eq names → slice_get names i ≡ Some name → slice_get names j ≡ Some name → i ≡ j
unfolding IsDistinct
one_place [] zero j name d e f = absurd cc
one_place [] (suc i) j name d e f = absurd cc
one_place (x ∷ names) zero zero name d e f = refl
one_place (x ∷ names) zero (suc j) name d e f = let here : x ≡ name = cc in absurd (not_behind x name names j d.0 here f)
one_place (x ∷ names) (suc i) zero name d e f = let here : x ≡ name = cc in absurd (not_behind x name names i d.0 here e)
one_place (x ∷ names) (suc i) (suc j) name d e f = ap suc (one_place names i j name d.1 e f)

-- ---- names that are there

-- a name has a place among these
abbrev pub Stands : List (List ℕ) → List ℕ → Type 0
Stands names name = (n : ℕ) × (index_of names name ≡ Some n)

-- so have all
abbrev pub AllStand : List (List ℕ) → List (List ℕ) → Type 0
AllStand among names = AllByRecursion (Stands among) names

still_stand : (more among names : List (List ℕ)) → AllStand among names → AllStand (fold added among more) names
still_stand more among [] h = tt
still_stand more among (x ∷ names) h = ((h.0.0, kept more among x h.0.0 h.0.1), still_stand more among names h.1)

all_met : (names among : List (List ℕ)) → AllStand (fold added among names) names
all_met [] among = tt
all_met (x ∷ names) among = let m = met among x in ((m.0, kept names (added among x) x m.0 m.1), all_met names (added among x))

-- of lists one after the other
pub all_first : {X : Type 0} (P : X → Type 0) (xs ys : List X) → AllByRecursion P (xs ++ ys) → AllByRecursion P xs
all_first P [] ys h = tt
all_first P (x ∷ xs) ys h = (h.0, all_first P xs ys h.1)

pub all_last : {X : Type 0} (P : X → Type 0) (xs ys : List X) → AllByRecursion P (xs ++ ys) → AllByRecursion P ys
all_last P [] ys h = h
all_last P (x ∷ xs) ys h = all_last P xs ys h.1

-- of each part
pub all_parts : {X Y : Type 0} (P : Y → Type 0) (f : X → List Y) (xs : List X) → AllByRecursion P (flat_map f xs) → AllByRecursion (λ (x : X). AllByRecursion P (f x)) xs
all_parts P f [] h = tt
all_parts P f (x ∷ xs) h = (all_first P (f x) (flat_map f xs) h, all_parts P f xs (all_last P (f x) (flat_map f xs) h))

-- each name in a definition is a symbol
pub names_stand : (defs : List Def) → AllByRecursion (λ (d : Def). AllStand (symbols defs) (def_names d)) defs
names_stand defs = all_parts (Stands (symbols defs)) def_names defs (still_stand (made_terms defs) (fold added [] (flat_map def_names defs)) (flat_map def_names defs) (all_met (flat_map def_names defs) []))
