-- The first row that isn't supported, found row by row.
use Rattle.std.proofs.Common.{◌≡◌, ℕ, ◌+◌, ◌<◌, ◌≤◌, List, [], ◌∷◌, ◌++◌, length, get_or, take, drop, Bool, true, false, Option, Some, None, cond, refl, sym, ap, ◌∙◌, subst, append_assoc, append-nil, inl, inr, ⊎_elim}
use Rattle.std.specs.Prelude.{◌↔◌, ◌⊎◌, find, Contains, IsTrue}
use Rattle.std.specs.List.{AllByRecursion}
use Rattle.std.proofs.lemmas.List.{drop_more, take_more}
use Rattle.std.proofs.Math.ListN.{drop_of_length-le}
use Rattle.isle_core.proofs.Contained.{contained_cases, none_contained}
use Rattle.isle_core.proofs.OptionLaws.{some_same}
use Rattle.isle_meta.specs.declared.errors.Unsupported.{Unsupported}
use Rattle.isle_meta.specs.declared.shapes.Shape.{Shape}
use Rattle.isle_meta.specs.FirstRow.{shapes, unsupported, FirstOf, IsFirstRow, IsFirstShape}

-- ---- the first shape

-- a shape that nothing breaks
pub never : IsTrue false ↔ ⊥
never = (λ e. cc, λ h. absurd h)

-- if just what is broken is told, the first shape that is told is the first that is broken
pub told_first : (told : Shape → Bool) (Broken : Shape → Type 0) → ((s : Shape) → IsTrue (told s) ↔ Broken s) → (ss : List Shape) → IsFirstShape Broken ss (find told ss)
told_first told Broken each [] = refl
told_first told Broken each (s ∷ ss) = one (told s) refl (told_first told Broken each ss)
  where
    one : (b : Bool) → told s ≡ b → IsFirstShape Broken ss (find told ss)
        → (Broken s × (cond b (Some s) (find told ss) ≡ Some s)) ⊎ ((Broken s → ⊥) × IsFirstShape Broken ss (cond b (Some s) (find told ss)))
    one true e rest = inl ((each s).0 e, refl)
    one false e rest = inr (λ h. let k : told s ≡ true = (each s).1 h in absurd cc, rest)

-- a shape that is the first isn't none
pub shape_apart : (Broken : Shape → Type 0) (ss : List Shape) (shape : Shape) → IsFirstShape Broken ss (Some shape) → IsFirstShape Broken ss None → ⊥
shape_apart Broken [] shape h k = let same : Some shape ≡ None = h in absurd cc
shape_apart Broken (s ∷ ss) shape h (inl k) = let same : None ≡ Some s = k.1 in absurd cc
shape_apart Broken (s ∷ ss) shape (inl h) (inr k) = k.0 h.0
shape_apart Broken (s ∷ ss) shape (inr h) (inr k) = shape_apart Broken ss shape h.1 k.1

-- none of these shapes is broken
abbrev pub BreaksNone : (Broken : Shape → Type 0) → List Shape → Type 0
BreaksNone Broken ss = AllByRecursion (λ (shape : Shape). Broken shape → ⊥) ss

pub none_broken : (Broken : Shape → Type 0) (ss : List Shape) → IsFirstShape Broken ss None → BreaksNone Broken ss
none_broken Broken [] h = tt
none_broken Broken (s ∷ ss) (inl h) = let e : None ≡ Some s = h.1 in absurd cc
none_broken Broken (s ∷ ss) (inr h) = (h.0, none_broken Broken ss h.1)

-- nor is one among them
pub not_broken : (Broken : Shape → Type 0) (ss : List Shape) (shape : Shape) → BreaksNone Broken ss → Contains ss shape → Broken shape → ⊥
not_broken Broken [] shape h c b = none_contained shape c
not_broken Broken (s ∷ ss) shape h c b =
    ⊎_elim (λ (same : s ≡ shape). h.0 (subst Broken (sym same) b)) (λ there. not_broken Broken ss shape h.1 there b) (contained_cases s ss shape c)

-- ---- row by row

-- what is found from this place on is found among all
abbrev pub LeadsFrom : {R : Type 0} → (name_of : R → List ℕ) → (Breaks : List R → R → Shape → Type 0) → (before rs : List R) → (k : ℕ) → Type 0
LeadsFrom name_of Breaks before rs k =
    (found : Option Unsupported) → IsFirstRow name_of Breaks (before ++ take k rs) (drop k rs) found → IsFirstRow name_of Breaks before rs found

module _ {R : Type 0} (name_of : R → List ℕ) (Breaks : List R → R → Shape → Type 0) where
  pub leads_begin : (before rs : List R) → LeadsFrom name_of Breaks before rs 0
  leads_begin before rs found h = subst (λ bs. IsFirstRow name_of Breaks bs rs found) (append-nil before) h

  pub front_more : (before rs : List R) (k : ℕ) (r : R) → k < length rs → r ≡ get_or rs k r → (before ++ take k rs) ++ r ∷ [] ≡ before ++ take (k + 1) rs
  front_more before rs k r lt is =
      append_assoc before (take k rs) (r ∷ []) ∙ ap (λ xs. before ++ xs) (ap (λ x. take k rs ++ x ∷ []) is ∙ sym (take_more rs k r lt))

  left_split : (rs : List R) (k : ℕ) (r : R) → k < length rs → r ≡ get_or rs k r → drop k rs ≡ r ∷ drop (k + 1) rs
  left_split rs k r lt is = drop_more rs k r lt ∙ ap (λ x. x ∷ drop (k + 1) rs) (sym is)

  pub leads_on : (before rs : List R) (k : ℕ) (r : R) → k < length rs → r ≡ get_or rs k r → IsFirstShape (Breaks (before ++ take k rs) r) shapes None
      → LeadsFrom name_of Breaks before rs k → LeadsFrom name_of Breaks before rs (k + 1)
  leads_on before rs k r lt is none leads found h =
      leads found (subst (λ xs. IsFirstRow name_of Breaks (before ++ take k rs) xs found) (sym (left_split rs k r lt is))
      (inr (none, subst (λ bs. IsFirstRow name_of Breaks bs (drop (k + 1) rs) found) (sym (front_more before rs k r lt is)) h)))

  pub leads_out : (before rs : List R) (k : ℕ) (r : R) (shape : Shape) → k < length rs → r ≡ get_or rs k r → IsFirstShape (Breaks (before ++ take k rs) r) shapes (Some shape)
      → LeadsFrom name_of Breaks before rs k → IsFirstRow name_of Breaks before rs (Some (unsupported (name_of r) shape))
  leads_out before rs k r shape lt is some leads =
      leads _ (subst (λ xs. IsFirstRow name_of Breaks (before ++ take k rs) xs (Some (unsupported (name_of r) shape))) (sym (left_split rs k r lt is)) (inl (shape, some, refl)))

  pub leads_end : (before rs : List R) (k : ℕ) → length rs ≤ k → LeadsFrom name_of Breaks before rs k → IsFirstRow name_of Breaks before rs None
  leads_end before rs k past leads = leads None (subst (λ xs. IsFirstRow name_of Breaks (before ++ take k rs) xs None) (sym (drop_of_length-le rs past)) refl)

  -- ---- two lists

  -- a row of the first ones is the first of all
  pub first_front : (before xs ys : List R) (found : Unsupported) → IsFirstRow name_of Breaks before xs (Some found) → IsFirstRow name_of Breaks before (xs ++ ys) (Some found)
  first_front before [] ys found h = absurd cc
  first_front before (x ∷ xs) ys found (inl h) = inl h
  first_front before (x ∷ xs) ys found (inr h) = inr (h.0, first_front (before ++ x ∷ []) xs ys found h.1)

  -- if the first ones have none, that of the others is
  pub first_after : (before xs ys : List R) (found : Option Unsupported) → IsFirstRow name_of Breaks before xs None → IsFirstRow name_of Breaks (before ++ xs) ys found
      → IsFirstRow name_of Breaks before (xs ++ ys) found
  first_after before [] ys found h k = subst (λ bs. IsFirstRow name_of Breaks bs ys found) (append-nil before) k
  first_after before (x ∷ xs) ys found (inl h) k = let e : None ≡ Some (unsupported (name_of x) h.0) = h.2 in absurd cc
  first_after before (x ∷ xs) ys found (inr h) k =
      inr (h.0, first_after (before ++ x ∷ []) xs ys found h.1 (subst (λ bs. IsFirstRow name_of Breaks bs ys found) (sym (append_assoc before (x ∷ []) xs)) k))

  -- ---- rows that are all supported

  -- what is so of each row that breaks no shape is so of these
  pub each_row : (P : R → Type 0) → ((before : List R) (r : R) → BreaksNone (Breaks before r) shapes → P r) → (before rs : List R)
      → IsFirstRow name_of Breaks before rs None → AllByRecursion P rs
  each_row P one before [] h = tt
  each_row P one before (r ∷ rs) (inl h) = let e : None ≡ Some (unsupported (name_of r) h.0) = h.2 in absurd cc
  each_row P one before (r ∷ rs) (inr h) = (one before r (none_broken (Breaks before r) shapes h.0), each_row P one (before ++ r ∷ []) rs h.1)

  -- one of them breaks no shape after some of them
  pub row_there : (before rs : List R) (r : R) → IsFirstRow name_of Breaks before rs None → Contains rs r → (earlier : List R) × BreaksNone (Breaks earlier r) shapes
  row_there before [] r h c = absurd (none_contained r c)
  row_there before (x ∷ rs) r (inl h) c = let e : None ≡ Some (unsupported (name_of x) h.0) = h.2 in absurd cc
  row_there before (x ∷ rs) r (inr h) c =
      ⊎_elim (λ (same : x ≡ r). (before, subst (λ (y : R). BreaksNone (Breaks before y) shapes) same (none_broken (Breaks before x) shapes h.0)))
      (λ there. row_there (before ++ x ∷ []) rs r h.1 there) (contained_cases x rs r c)

  -- a row that is the first isn't none
  pub row_apart : (before rs : List R) (found : Unsupported) → IsFirstRow name_of Breaks before rs (Some found) → IsFirstRow name_of Breaks before rs None → ⊥
  row_apart before [] found h k = let same : Some found ≡ None = h in absurd cc
  row_apart before (r ∷ rs) found h (inl k) = let same : None ≡ Some (unsupported (name_of r) k.0) = k.2 in absurd cc
  row_apart before (r ∷ rs) found (inl h) (inr k) = shape_apart (Breaks before r) shapes h.0 h.1 k.0
  row_apart before (r ∷ rs) found (inr h) (inr k) = row_apart (before ++ r ∷ []) rs found h.1 k.1

-- of two searches
pub of_two_apart : (First Second : Option Unsupported → Type 0) (found : Unsupported) → (First (Some found) → First None → ⊥) → (Second (Some found) → Second None → ⊥)
    → FirstOf First Second (Some found) → FirstOf First Second None → ⊥
of_two_apart First Second found first second (inl h) k = first h k.0
of_two_apart First Second found first second (inr h) k = second h.1 k.1

-- ---- each search finds one thing

-- what is found is found once
abbrev pub FindsOne : {F : Type 0} → (Option F → Type 0) → Type 0
FindsOne {F = F} First = (a b : Option F) → First a → First b → a ≡ b

pub one_shape : (Broken : Shape → Type 0) (ss : List Shape) → FindsOne (IsFirstShape Broken ss)
one_shape Broken [] a b h k = h ∙ sym k
one_shape Broken (s ∷ ss) a b (inl h) (inl k) = h.1 ∙ sym k.1
one_shape Broken (s ∷ ss) a b (inl h) (inr k) = absurd (k.0 h.0)
one_shape Broken (s ∷ ss) a b (inr h) (inl k) = absurd (h.0 k.0)
one_shape Broken (s ∷ ss) a b (inr h) (inr k) = one_shape Broken ss a b h.1 k.1

pub one_row : {R : Type 0} (name_of : R → List ℕ) (Breaks : List R → R → Shape → Type 0) (before rs : List R) → FindsOne (IsFirstRow name_of Breaks before rs)
one_row name_of Breaks before [] a b h k = h ∙ sym k
one_row name_of Breaks before (r ∷ rs) a b (inl h) (inl k) =
    let same : Some h.0 ≡ Some k.0 = one_shape (Breaks before r) shapes (Some h.0) (Some k.0) h.1 k.1 in
    h.2 ∙ ap (λ (s : Shape). Some (unsupported (name_of r) s)) (some_same h.0 k.0 same) ∙ sym k.2
one_row name_of Breaks before (r ∷ rs) a b (inl h) (inr k) = absurd (shape_apart (Breaks before r) shapes h.0 h.1 k.0)
one_row name_of Breaks before (r ∷ rs) a b (inr h) (inl k) = absurd (shape_apart (Breaks before r) shapes k.0 k.1 h.0)
one_row name_of Breaks before (r ∷ rs) a b (inr h) (inr k) = one_row name_of Breaks (before ++ r ∷ []) rs a b h.1 k.1

-- of two searches
pub one_of_two : (First Second : Option Unsupported → Type 0) → FindsOne First → FindsOne Second → FindsOne (FirstOf First Second)
one_of_two First Second first second None None h k = refl
one_of_two First Second first second None (Some b) h (inl k) = first None (Some b) h.0 k
one_of_two First Second first second None (Some b) h (inr k) = second None (Some b) h.1 k.1
one_of_two First Second first second (Some a) None (inl h) k = first (Some a) None h k.0
one_of_two First Second first second (Some a) None (inr h) k = second (Some a) None h.1 k.1
one_of_two First Second first second (Some a) (Some b) (inl h) (inl k) = first (Some a) (Some b) h k
one_of_two First Second first second (Some a) (Some b) (inl h) (inr k) = let same : Some a ≡ None = first (Some a) None h k.0 in absurd cc
one_of_two First Second first second (Some a) (Some b) (inr h) (inl k) = let same : None ≡ Some b = first None (Some b) h.0 k in absurd cc
one_of_two First Second first second (Some a) (Some b) (inr h) (inr k) = second (Some a) (Some b) h.1 k.1
