-- Names that are apart, as they are seen one after another.
use Rattle.std.proofs.Common.{◌≡◌, ℕ, ◌+◌, ◌<◌, List, [], ◌∷◌, ◌++◌, length, take, drop, map, get_or, Bool, true, false, cond, refl, sym, ap, ◌∙◌, subst}
use Rattle.std.specs.Prelude.{not, ◌||◌, ◌↔◌, IsTrue}
use Rattle.std.specs.List.{AllByRecursion, IsDistinct, list_any}
use Rattle.std.specs.Str.{bytes_eq}
use Rattle.std.specs.Ordering.{nat_cmp}
use Rattle.std.specs.Cmp.Lexicographic.{slice_cmp, nat_list_eq_equiv}
use Rattle.std.specs.BTreeSet.{BTreeSet, contains, Updates}
use Rattle.std.proofs.lemmas.List.{map-append, take_more, drop_more, take-append-drop}
use Rattle.std.proofs.lemmas.List.Folds.{list_any-append}
use Rattle.std.proofs.lemmas.Map.Keys.{IsDistinct-push, IsDistinct-head, IsDistinct-tail}
use Rattle.std.proofs.lemmas.Map.Text.{is_eq-slice_cmp}
use Rattle.std.specs.declared.cmp.Ordering.{Ordering}
use denote.Ref.{Bor}
use Rattle.isle_tree.specs.declared.tree.Function.{Function}
use Rattle.isle_tree.specs.declared.tree.TraitFn.{TraitFn}
use Rattle.isle_tree.specs.declared.tree.TypeItem.{TypeItem}
use Rattle.isle_tree.specs.Views.{function}
use Rattle.isle_tree.specs.WellFormed.{terms, fn_names, declared_names}

-- the order of names that a set keeps
abbrev pub name_cmp : Bor (List ℕ) → Bor (List ℕ) → Ordering
name_cmp x y = slice_cmp nat_cmp x.now y.now

-- what is known of those seen: they are apart, and the set has them
abbrev pub Seen : List (List ℕ) → BTreeSet (Bor (List ℕ)) → Type 0
Seen names seen = IsDistinct bytes_eq names × ((q : Bor (List ℕ)) → contains name_cmp seen q ≡ list_any (bytes_eq q.now) names)

-- none is seen
pub seen_none : (seen : BTreeSet (Bor (List ℕ))) → seen.keys ≡ [] → Seen [] seen
unfolding IsDistinct
seen_none seen e = (tt, λ q. rw e refl)

chosen : (b old any : Bool) → old ≡ any → cond b true old ≡ (any || (b || false))
chosen true old true e = refl
chosen true old false e = refl
chosen false old true e = e
chosen false old false e = e

-- one more is seen
pub seen_more : (before after : List (List ℕ)) (name : List ℕ) (key : Bor (List ℕ)) (old new : BTreeSet (Bor (List ℕ))) → after ≡ before ++ name ∷ [] → key.now ≡ name
    → contains name_cmp old key ≡ false → Updates name_cmp old new key true → Seen before old → Seen after new
seen_more before after name key old new more named fresh u h =
    let apart : list_any (bytes_eq name) before ≡ false = subst (λ t. list_any (bytes_eq t) before ≡ false) named (sym (h.1 key) ∙ fresh) in (
      subst (IsDistinct bytes_eq) (sym more) (IsDistinct-push nat_list_eq_equiv before name h.0 apart),
      λ q.
          let test : bytes_eq key.now q.now ≡ bytes_eq q.now name = nat_list_eq_equiv.symm key.now q.now ∙ ap (bytes_eq q.now) named in
          u.0 q
          ∙ ap (λ b. cond b true (contains name_cmp old q)) (is_eq-slice_cmp key.now q.now ∙ test)
          ∙ chosen (bytes_eq q.now name) (contains name_cmp old q) (list_any (bytes_eq q.now) before) (h.1 q)
          ∙ sym (list_any-append (bytes_eq q.now) before (name ∷ []))
          ∙ ap (list_any (bytes_eq q.now)) (sym more),
    )

-- the two answers of an insertion
pub not_told : (b r : Bool) → r ≡ not b → r ≡ false → b ≡ true
not_told true r e f = refl
not_told false r e f = absurd cc

pub told : (b r : Bool) → r ≡ not b → r ≡ true → b ≡ false
told false r e f = refl
told true r e f = absurd cc

-- ---- a name that was seen

at_middle : {A : Type 0} (P : A → Type 0) (xs ys : List A) (y : A) → AllByRecursion P (xs ++ y ∷ ys) → P y
at_middle P [] ys y all = all.0
at_middle P (x ∷ xs) ys y all = at_middle P xs ys y all.1

twice : (xs ys : List (List ℕ)) (y : List ℕ) → list_any (bytes_eq y) xs ≡ true → IsDistinct bytes_eq (xs ++ y ∷ ys) → ⊥
twice [] ys y any d = absurd cc
twice (x ∷ xs) ys y any d = one (bytes_eq y x) refl any (λ k. twice xs ys y k (IsDistinct-tail bytes_eq x (xs ++ y ∷ ys) d))
  where
    one : (b : Bool) → bytes_eq y x ≡ b → (b || list_any (bytes_eq y) xs) ≡ true → (list_any (bytes_eq y) xs ≡ true → ⊥) → ⊥
    one true is any inner =
        let differ : bytes_eq x y ≡ false = at_middle (λ z. bytes_eq x z ≡ false) xs ys y (IsDistinct-head bytes_eq x (xs ++ y ∷ ys) d) in
        let same : bytes_eq x y ≡ true = nat_list_eq_equiv.symm x y ∙ is in
        absurd cc
    one false is any inner = inner any

-- a name that is seen again
pub seen_again : (before rest all : List (List ℕ)) (name : List ℕ) (key : Bor (List ℕ)) (seen : BTreeSet (Bor (List ℕ))) → all ≡ before ++ name ∷ rest → key.now ≡ name
    → contains name_cmp seen key ≡ true → Seen before seen → IsTrue false ↔ IsDistinct bytes_eq all
seen_again before rest all name key seen parts named there h =
    let any : list_any (bytes_eq name) before ≡ true = subst (λ t. list_any (bytes_eq t) before ≡ true) named (sym (h.1 key) ∙ there) in
    (λ t. absurd cc, λ d. absurd (twice before rest name any (subst (IsDistinct bytes_eq) parts d)))

-- ---- the names of two lists

-- a list up to one of its items, and from there on
up_to : {A : Type 0} (xs : List A) (i : ℕ) (x : A) → i < length xs → x ≡ get_or xs i x → take (i + 1) xs ≡ take i xs ++ x ∷ []
up_to xs i x lt is = take_more xs i x lt ∙ ap (λ y. take i xs ++ y ∷ []) (sym is)

whole : {A : Type 0} (xs : List A) (i : ℕ) (x : A) → i < length xs → x ≡ get_or xs i x → xs ≡ take i xs ++ x ∷ drop (i + 1) xs
whole xs i x lt is = sym (take-append-drop i xs) ∙ ap (λ ys. take i xs ++ ys) (drop_more xs i x lt ∙ ap (λ y. y ∷ drop (i + 1) xs) (sym is))

-- the terms of the code's functions
abbrev pub terms_of : List Function → List (List ℕ)
terms_of fns = terms (map function fns)

terms-append : (xs ys : List Function) → terms_of (xs ++ ys) ≡ terms_of xs ++ terms_of ys
terms-append xs ys = ap terms (map-append function xs ys) ∙ map-append _ (map function xs) (map function ys)

pub terms_more : (fns : List Function) (i : ℕ) (f : Function) → i < length fns → f ≡ get_or fns i f → terms_of (take (i + 1) fns) ≡ terms_of (take i fns) ++ f.term ∷ []
terms_more fns i f lt is = ap terms_of (up_to fns i f lt is) ∙ terms-append (take i fns) (f ∷ [])

pub terms_whole : (fns : List Function) (i : ℕ) (f : Function) → i < length fns → f ≡ get_or fns i f → terms_of fns ≡ terms_of (take i fns) ++ f.term ∷ terms_of (drop (i + 1) fns)
terms_whole fns i f lt is = ap terms_of (whole fns i f lt is) ∙ terms-append (take i fns) (f ∷ drop (i + 1) fns)

names-append : (xs ys : List TraitFn) → fn_names (xs ++ ys) ≡ fn_names xs ++ fn_names ys
names-append xs ys = map-append _ xs ys

pub names_more : (fns : List TraitFn) (i : ℕ) (f : TraitFn) → i < length fns → f ≡ get_or fns i f → fn_names (take (i + 1) fns) ≡ fn_names (take i fns) ++ f.name ∷ []
names_more fns i f lt is = ap fn_names (up_to fns i f lt is) ∙ names-append (take i fns) (f ∷ [])

pub names_whole : (fns : List TraitFn) (i : ℕ) (f : TraitFn) → i < length fns → f ≡ get_or fns i f → fn_names fns ≡ fn_names (take i fns) ++ f.name ∷ fn_names (drop (i + 1) fns)
names_whole fns i f lt is = ap fn_names (whole fns i f lt is) ∙ names-append (take i fns) (f ∷ drop (i + 1) fns)

types-append : (xs ys : List TypeItem) → declared_names (xs ++ ys) ≡ declared_names xs ++ declared_names ys
types-append xs ys = map-append _ xs ys

pub types_more : (ts : List TypeItem) (i : ℕ) (t : TypeItem) → i < length ts → t ≡ get_or ts i t → declared_names (take (i + 1) ts) ≡ declared_names (take i ts) ++ t.name ∷ []
types_more ts i t lt is = ap declared_names (up_to ts i t lt is) ∙ types-append (take i ts) (t ∷ [])

pub types_whole : (ts : List TypeItem) (i : ℕ) (t : TypeItem) → i < length ts → t ≡ get_or ts i t → declared_names ts ≡ declared_names (take i ts) ++ t.name ∷ declared_names (drop (i + 1) ts)
types_whole ts i t lt is = ap declared_names (whole ts i t lt is) ∙ types-append (take i ts) (t ∷ drop (i + 1) ts)
