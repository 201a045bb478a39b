-- Paths at places, after which others may join.
use Rattle.std.proofs.Common.{◌≡◌, ◌⊎◌, inl, inr, ⊎_elim, ℕ, zero, suc, List, [], ◌∷◌, ◌++◌, length, map, get_or, Some, refl, sym, ap, ◌∙◌, subst, append_assoc, append-nil}
use Rattle.std.specs.Prelude.{slice_get, Contains}
use Rattle.std.specs.List.{AllByRecursion}
use Rattle.std.proofs.lemmas.List.Elements.{Contains-append_cases}
use Rattle.std.proofs.lemmas.Option.{slice_get-get_or, get_or_from_slice_get, slice_get_within}
use Rattle.isle_core.specs.declared.BindingId.{BindingId}
use Rattle.isle_core.specs.Path.{Path, Paths, APath, Nowhere, at, at_all, paths_of}
use Rattle.isle_core.specs.StandsFor.{EachOnce}
use Rattle.isle_core.proofs.Contained.{head_contained, tail_contained}
use Rattle.isle_core.proofs.OptionLaws.{some_same}
use Rattle.isle_rulesets.specs.Keys.{IsThere}
use Rattle.isle_rulesets.specs.Numbering.{Numbered, Extends, MeetsLists}

-- ---- one item more

pub get_push : {A : Type 0} (xs : List A) (y : A) (b : ℕ) (x : A) → slice_get xs b ≡ Some x → slice_get (xs ++ y ∷ []) b ≡ Some x
get_push [] y b x e = cc
get_push (z ∷ xs) y zero x e = e
get_push (z ∷ xs) y (suc b) x e = get_push xs y b x e

pub get_last : {A : Type 0} (xs : List A) (y : A) → slice_get (xs ++ y ∷ []) (length xs) ≡ Some y
get_last [] y = refl
get_last (z ∷ xs) y = get_last xs y

pub get_either : {A : Type 0} (xs : List A) (y : A) (b : ℕ) (x : A) → slice_get (xs ++ y ∷ []) b ≡ Some x → (slice_get xs b ≡ Some x) ⊎ ((b ≡ length xs) × (y ≡ x))
get_either [] y zero x e = inr (refl, cc)
get_either [] y (suc b) x e = cc
get_either (z ∷ xs) y zero x e = inl e
get_either (z ∷ xs) y (suc b) x e = ⊎_elim (λ h. inl h) (λ h. inr (ap suc h.0, h.1)) (get_either xs y b x e)

pub place_of : {A : Type 0} (xs : List A) (x : A) → Contains xs x → (k : ℕ) × (slice_get xs k ≡ Some x)
place_of xs x c = (c.0, slice_get-get_or xs c.0 x c.1 ∙ ap Some c.2)

-- ---- paths of numbers

pub at_get : (ps : List Path) (b : ℕ) (p : Path) → slice_get ps b ≡ Some p → get_or ps b Nowhere ≡ p
at_get ps b p e = get_or_from_slice_get ps b p Nowhere e

pub there_at : (ps : List Path) (b : BindingId) → IsThere ps b → slice_get ps b.0 ≡ Some (at ps b)
there_at ps b h = h.1 ∙ ap Some (sym (at_get ps b.0 h.0 h.1))

pub contains_there : (ps : List Path) (b : ℕ) (p : Path) → slice_get ps b ≡ Some p → Contains ps p
contains_there ps b p e = (b, slice_get_within ps b p e, get_or_from_slice_get ps b p p e)

-- ---- more paths

pub extends_self : (ps : List Path) → Extends ps ps
extends_self ps = record { kept = λ b p e. e }

pub extends_more : (ps qs rs : List Path) → Extends ps qs → Extends qs rs → Extends ps rs
extends_more ps qs rs h k = record { kept = λ b p e. k.kept b p (h.kept b p e) }

pub push_extends : (ps qs : List Path) (p : Path) → qs ≡ ps ++ p ∷ [] → Extends ps qs
push_extends ps qs p e = record { kept = λ b q h. subst (λ rs. slice_get rs b ≡ Some q) (sym e) (get_push ps p b q h) }

pub at_kept : (ps qs : List Path) (b : BindingId) (p : Path) → Extends ps qs → slice_get ps b.0 ≡ Some p → at qs b ≡ p
at_kept ps qs b p x e = at_get qs b.0 p (x.kept b.0 p e)

pub contains_kept : (ps qs : List Path) (p : Path) → Extends ps qs → Contains ps p → Contains qs p
contains_kept ps qs p x c = let e = place_of ps p c in contains_there qs e.0 p (x.kept e.0 p e.1)

pub there_kept : (ps qs : List Path) (b : BindingId) → Extends ps qs → IsThere ps b → IsThere qs b
there_kept ps qs b x h = (h.0, x.kept b.0 h.0 h.1)

pub all_there_kept : (ps qs : List Path) (bs : List BindingId) → Extends ps qs → AllByRecursion (IsThere ps) bs → AllByRecursion (IsThere qs) bs
all_there_kept ps qs [] x h = tt
all_there_kept ps qs (b ∷ bs) x h = (there_kept ps qs b x h.0, all_there_kept ps qs bs x h.1)

pub at_same : (ps qs : List Path) (b : BindingId) → Extends ps qs → IsThere ps b → at qs b ≡ at ps b
at_same ps qs b x h = at_kept ps qs b h.0 x h.1 ∙ sym (at_get ps b.0 h.0 h.1)

pub all_at_same : (ps qs : List Path) (bs : List BindingId) → Extends ps qs → AllByRecursion (IsThere ps) bs → at_all qs bs ≡ at_all ps bs
all_at_same ps qs [] x h = refl
all_at_same ps qs (b ∷ bs) x h = ap (λ p. APath p (at_all qs bs)) (at_same ps qs b x h.0) ∙ ap (APath (at ps b)) (all_at_same ps qs bs x h.1)

-- ---- each path once

pub append_once : {A : Type 0} (xs ys : List A) → EachOnce xs → EachOnce ys → ((x : A) → Contains xs x → Contains ys x → ⊥) → EachOnce (xs ++ ys)
append_once [] ys h k apart = k
append_once (x ∷ xs) ys h k apart =
    (λ c. ⊎_elim h.0 (apart x (head_contained x xs)) (Contains-append_cases xs ys x c), append_once xs ys h.1 k (λ y c d. apart y (tail_contained x xs y c) d))

at_once : (ps : List Path) (a b : ℕ) (p : Path) → EachOnce ps → slice_get ps a ≡ Some p → slice_get ps b ≡ Some p → a ≡ b
at_once [] a b p h e f = cc
at_once (q ∷ ps) zero zero p h e f = refl
at_once (q ∷ ps) zero (suc b) p h e f = absurd (h.0 (contains_there ps b q (f ∙ ap Some (sym (some_same q p e)))))
at_once (q ∷ ps) (suc a) zero p h e f = absurd (h.0 (contains_there ps a q (e ∙ ap Some (sym (some_same q p f)))))
at_once (q ∷ ps) (suc a) (suc b) p h e f = ap suc (at_once ps a b p h.1 e f)

-- a path that stands at two numbers makes them one
pub there_once : (ps : List Path) (a b : BindingId) → EachOnce ps → IsThere ps a → IsThere ps b → at ps a ≡ at ps b → a ≡ b
there_once ps a b once h k e =
    let same : h.0 ≡ k.0 = sym (at_get ps a.0 h.0 h.1) ∙ e ∙ at_get ps b.0 k.0 k.1 in
    ap (λ n. record { 0 = n }) (at_once ps a.0 b.0 h.0 once h.1 (k.1 ∙ ap Some (sym same)))

first_same : (p q : Path) (ps qs : Paths) → APath p ps ≡ APath q qs → p ≡ q
first_same p q ps qs e = cc

rest_same : (p q : Path) (ps qs : Paths) → APath p ps ≡ APath q qs → ps ≡ qs
rest_same p q ps qs e = cc

-- so of numbers in order
pub all_there_once : (ps : List Path) (ms bs : List BindingId) → EachOnce ps → AllByRecursion (IsThere ps) ms → AllByRecursion (IsThere ps) bs → at_all ps ms ≡ at_all ps bs → ms ≡ bs
all_there_once ps [] [] once h k e = refl
all_there_once ps [] (b ∷ bs) once h k e = cc
all_there_once ps (a ∷ ms) [] once h k e = cc
all_there_once ps (a ∷ ms) (b ∷ bs) once h k e =
    let first = there_once ps a b once h.0 k.0 (first_same (at ps a) (at ps b) (at_all ps ms) (at_all ps bs) e) in
    ap (λ x. x ∷ ms) first ∙ ap (λ xs. b ∷ xs) (all_there_once ps ms bs once h.1 k.1 (rest_same (at ps a) (at ps b) (at_all ps ms) (at_all ps bs) e))

-- ---- lists that are met

-- none if nothing is done
pub meets_none : (n : Numbered) → MeetsLists n n []
meets_none n qs x = sym (append-nil (map (at qs) n.lists))

-- nor if they stay
pub meets_same : (old new : Numbered) → new.lists ≡ old.lists → MeetsLists old new []
meets_same old new e qs x = ap (map (at qs)) e ∙ sym (append-nil (map (at qs) old.lists))

-- those of both, one after the other
pub meets_then : (a b c : Numbered) (ls ms : List Path) → Extends (paths_of b.bindings) (paths_of c.bindings) → MeetsLists a b ls → MeetsLists b c ms → MeetsLists a c (ls ++ ms)
meets_then a b c ls ms more g h qs x = h qs x ∙ ap (λ ps. ps ++ ms) (g qs (extends_more (paths_of b.bindings) (paths_of c.bindings) qs more x)) ∙ append_assoc (map (at qs) a.lists) ls ms
