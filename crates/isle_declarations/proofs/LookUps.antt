-- Looking up a thing by its name is looking up its place.
use Rattle.std.proofs.Common.{◌≡◌, ℕ, suc, ◌+◌, ◌<◌, ◌≤◌, length, get_or, Bool, true, false, cond, List, [], ◌∷◌, map, Option, Some, None, refl, sym, ap, ◌∙◌, arith}
use Rattle.std.specs.Prelude.{option_map, slice_get, IfSome, MatchOption}
use Rattle.std.specs.Option.{option_copied}
use Rattle.std.specs.List.{HoldsAt, find}
use denote.Ref.{Bor}
use Rattle.std.specs.Str.{bytes_eq}
use Rattle.std.proofs.lemmas.Option.{same_Some}
use Rattle.std.proofs.lemmas.Slice.Eq.{bytes_eq-Decides}
pub use Rattle.isle_core.proofs.Got.{got}
use Rattle.isle_declarations.specs.Symbols.{index_of}
use Rattle.isle_declarations.specs.Signatures.{Signature, Extern, func_named, signature_named}
use Rattle.isle_declarations.specs.Heads.{terms_of, extern_terms}

-- what stands at a place, if there is one
abbrev pub at_place : {A : Type 0} → List A → Option ℕ → Option A
at_place xs None = None
at_place xs (Some n) = slice_get xs n

pub at_later : {A : Type 0} (x : A) (xs : List A) (o : Option ℕ) → at_place xs o ≡ at_place (x ∷ xs) (option_map (λ (n : ℕ). n + 1) o)
at_later x xs None = refl
at_later x xs (Some n) = let next : suc n ≡ n + 1 = omega arith in ap (slice_get (x ∷ xs)) next

found_from : {A : Type 0} (name_of : A → List ℕ) (x : A) (xs : List A) (name : List ℕ) (first : Bool) → find (λ (y : A). bytes_eq (name_of y) name) xs ≡ at_place xs (index_of (map name_of xs) name)
    → cond first (Some x) (find (λ (y : A). bytes_eq (name_of y) name) xs) ≡ at_place (x ∷ xs) (cond first (Some 0) (option_map (λ (n : ℕ). n + 1) (index_of (map name_of xs) name)))
found_from name_of x xs name true rest = refl
found_from name_of x xs name false rest = rest ∙ at_later x xs (index_of (map name_of xs) name)

-- the first thing of a name stands at the name's place
pub found_at : {A : Type 0} (name_of : A → List ℕ) (xs : List A) (name : List ℕ) → find (λ (y : A). bytes_eq (name_of y) name) xs ≡ at_place xs (index_of (map name_of xs) name)
found_at name_of [] name = refl
found_at name_of (x ∷ xs) name = found_from name_of x xs name (bytes_eq (name_of x) name) (found_at name_of xs name)

pub named_at : (sigs : List Signature) (name : List ℕ) → signature_named sigs name ≡ at_place sigs (index_of (terms_of sigs) name)
named_at sigs name = found_at (λ (s : Signature). s.term) sigs name

pub func_at : (xs : List Extern) (name : List ℕ) → func_named xs name ≡ option_map (λ (x : Extern). x.func) (at_place xs (index_of (extern_terms xs) name))
func_at xs name = ap (option_map (λ (x : Extern). x.func)) (found_at (λ (x : Extern). x.term) xs name)

first_is : (first : Signature) (name : List ℕ) (s : Signature) (b : Bool) (rest : Option Signature) → bytes_eq first.term name ≡ b → (rest ≡ Some s → s.term ≡ name) → cond b (Some first) rest ≡ Some s → s.term ≡ name
first_is first name s true rest same others e = ap (λ (x : Signature). x.term) (sym (same_Some first s e)) ∙ (bytes_eq-Decides first.term name).0 same
first_is first name s false rest same others e = others e

-- a declaration that is found is of the name
pub named_is : (sigs : List Signature) (name : List ℕ) (s : Signature) → signature_named sigs name ≡ Some s → s.term ≡ name
named_is [] name s e = cc
named_is (first ∷ sigs) name s e = first_is first name s (bytes_eq first.term name) (signature_named sigs name) refl (named_is sigs name s) e

-- ---- what is there, and what is not

-- what is behind a reference stands at the place
pub there : {X : Type 0} (xs : List X) (i : ℕ) (r : Option (Bor X)) (x : Bor X) → IfSome r (λ x. x.now ≡ get_or xs i x.now) → MatchOption r (length xs ≤ i) (λ x. (i < length xs) × HoldsAt (λ y. x.now ≡ y) xs i) → r ≡ Some x → slice_get xs i ≡ Some x.now
there xs i r x e h is = sym (got xs i r e h) ∙ ap option_copied is

-- if there is nothing at the place, nothing is left
pub past : {X : Type 0} (xs : List X) (i : ℕ) (r : Option (Bor X)) → MatchOption r (length xs ≤ i) (λ x. (i < length xs) × HoldsAt (λ y. x.now ≡ y) xs i) → r ≡ None → length xs ≤ i
past xs i None h e = h
past xs i (Some x) h e = cc
