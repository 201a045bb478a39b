-- Rules that are passed over, since none of them has a higher priority.
use Rattle.std.proofs.Common.{◌≡◌, ◌⊎◌, inl, inr, ⊎_elim, ℕ, zero, suc, ℤ, ◌+◌, ◌-◌, ◌<◌, ◌≤◌, List, [], ◌∷◌, ◌++◌, length, take, drop, refl, sym, ap, ◌∙◌, subst, arith, Option, Some, None}
use Rattle.std.specs.Prelude.{◌≤ℤ◌, Contains, slice_get}
use Rattle.std.proofs.lemmas.Int.{ints}
use Rattle.std.proofs.lemmas.List.{take-append-drop, length-append, length-drop}
use Rattle.std.proofs.lemmas.List.Elements.{Contains-append_right, Contains-append_cases}
use Rattle.isle_core.proofs.Contained.{none_contained}
use Rattle.isle_core.proofs.OptionLaws.{some_same}
use Rattle.isle_checks.specs.declared.placed.Check.TheVariants as check
use Rattle.isle_checks.specs.declared.placed.Placed.{Placed}
use Rattle.isle_checks.specs.Firsts.{Found, IsFirstMaker, NotesFirst}
use Rattle.isle_checks.specs.Lists.{Rises}
use Rattle.isle_checks.specs.Makes.{Makes}
use Rattle.isle_checks.specs.Ranked.{NoneAbove, AreTops, IsHighest, IsPassed, IsTail}
use Rattle.isle_checks.proofs.PlacedLaws.{only_one}

-- ---- what is left

pub rises_drop : (xs : List Placed) (n : ℕ) → Rises xs → Rises (drop n xs)
rises_drop xs zero h = h
rises_drop [] (suc n) h = tt
rises_drop (x ∷ xs) (suc n) h = rises_drop xs n h.1

in_parts : (xs : List Placed) (n : ℕ) (a : Placed) → Contains xs a → Contains (take n xs) a ⊎ Contains (drop n xs) a
in_parts xs n a c = Contains-append_cases (take n xs) (drop n xs) a (subst (λ ys. Contains ys a) (sym (take-append-drop n xs)) c)

in_whole : (xs : List Placed) (n : ℕ) (a : Placed) → Contains (drop n xs) a → Contains xs a
in_whole xs n a c = subst (λ ys. Contains ys a) (take-append-drop n xs) (Contains-append_right (take n xs) (drop n xs) a c)

module _ (xs ys : List Placed) (b : Placed) (t : IsTail b.rule.now.prio xs ys) where
  never : (a : Placed) → Contains (take t.count xs) a → Makes check.Shadows a b → ⊥
  never a c m = let low = t.low a c in let high = m.higher in omega (arith, ints, low, high)

  among : (a : Placed) → Contains ys a → Contains xs a
  among a c = in_whole xs t.count a (subst (λ zs. Contains zs a) t.is c)

  left : (a : Placed) → Contains xs a → Makes check.Shadows a b → Contains ys a
  left a c m = ⊎_elim (λ d. absurd (never a d m)) (λ d. subst (λ zs. Contains zs a) (sym t.is) d) (in_parts xs t.count a c)

  first_still : (r : Option ℕ) → IsFirstMaker check.Shadows ys b r → IsFirstMaker check.Shadows xs b r
  first_still None h = λ a c m. h a (left a c m) m
  first_still (Some i) h = ((h.0.0, among h.0.0 h.0.1, h.0.2, h.0.3), λ a c m. h.1 a (left a c m) m)

  -- the first that is left is the first of all
  pub notes_still : (old new : Found) → NotesFirst check.Shadows ys b old new → NotesFirst check.Shadows xs b old new
  notes_still old new h = (h.0, first_still h.0 h.1, h.2)

  pub tail_rises : Rises xs → Rises ys
  tail_rises h = subst Rises (sym t.is) (rises_drop xs t.count h)

-- ---- one rule more

-- an item of a list and one more is one of the list, or it is the one more
at_push : {X : Type 0} (xs : List X) (x y : X) (n : ℕ) → slice_get (xs ++ x ∷ []) n ≡ Some y → (slice_get xs n ≡ Some y) ⊎ ((n ≡ length xs) × (x ≡ y))
at_push [] x y zero e = inr (refl, some_same x y e)
at_push [] x y (suc n) e = absurd cc
at_push (z ∷ xs) x y zero e = inl e
at_push (z ∷ xs) x y (suc n) e = ⊎_elim (λ d. inl d) (λ d. inr (ap suc d.0, d.1)) (at_push xs x y n e)

before_end : {X : Type 0} (xs : List X) (y : X) (n : ℕ) → slice_get xs n ≡ Some y → n < length xs
before_end [] y n e = absurd cc
before_end (x ∷ xs) y zero e = omega arith
before_end (x ∷ xs) y (suc n) e = let lt = before_end xs y n e in omega (arith, lt)

at_last : {X : Type 0} (xs : List X) → (length xs ≡ 0) ⊎ ((n : ℕ) × (y : X) × (length xs ≡ n + 1) × (slice_get xs n ≡ Some y))
at_last [] = inl refl
at_last (x ∷ []) = inr (0, x, refl, refl)
at_last (x ∷ y ∷ xs) = ⊎_elim (λ e. absurd cc) (λ l. inr (suc l.0, l.1, (let e = l.2 in omega (arith, e)), l.3)) (at_last (y ∷ xs))

take_front : {X : Type 0} (xs : List X) (x : X) (n : ℕ) → n ≤ length xs → take n (xs ++ x ∷ []) ≡ take n xs
take_front xs x zero le = refl
take_front [] x (suc n) le = absurd (omega (arith, le))
take_front (y ∷ xs) x (suc n) le = ap (λ zs. y ∷ zs) (take_front xs x n (omega (arith, le)))

take_whole : {X : Type 0} (xs : List X) (n : ℕ) → n ≡ length xs → take n xs ≡ xs
take_whole [] zero e = refl
take_whole [] (suc n) e = absurd (omega (arith, e))
take_whole (x ∷ xs) zero e = absurd (omega (arith, e))
take_whole (x ∷ xs) (suc n) e = ap (λ zs. x ∷ zs) (take_whole xs n (omega (arith, e)))

no_rule : (rules : List Placed) (top : ℤ) → length rules ≡ 0 → NoneAbove top rules
no_rule [] top e a c = absurd (none_contained a c)
no_rule (x ∷ xs) top e a c = absurd (omega (arith, e))

module _ (rules tops : List Placed) (h : AreTops rules tops) (b top : Placed) (k : IsHighest tops b top) where
  -- what isn't above the last top isn't above the new one
  above_last : (t p : ℤ) → t ≤ℤ top.rule.now.prio → p ≤ℤ t → p ≤ℤ top.rule.now.prio
  above_last t p u v = omega (arith, ints, u, v)

  before : NoneAbove top.rule.now.prio rules
  before = ⊎_elim
      (λ e. no_rule rules top.rule.now.prio (sym h.long ∙ e))
      (λ l a c. above_last l.1.rule.now.prio a.rule.now.prio (k.last l.0 l.1 l.2 l.3) (h.each l.0 l.1 l.3 a (subst (λ xs. Contains xs a) (sym (take_whole rules (l.0 + 1) (sym l.2 ∙ h.long))) c)))
      (at_last tops)

  all : NoneAbove top.rule.now.prio (rules ++ b ∷ [])
  all a c = ⊎_elim (λ d. before a d) (λ d. subst (λ (x : Placed). x.rule.now.prio ≤ℤ top.rule.now.prio) (only_one b a d) k.own) (Contains-append_cases rules (b ∷ []) a c)

  of_place : (n : ℕ) (t : Placed) → (slice_get tops n ≡ Some t) ⊎ ((n ≡ length tops) × (top ≡ t)) → NoneAbove t.rule.now.prio (take (n + 1) (rules ++ b ∷ []))
  of_place n t (inl e) =
      let lt = before_end tops t n e in
      let long = h.long in
      subst (NoneAbove t.rule.now.prio) (sym (take_front rules b (n + 1) (omega (arith, lt, long)))) (h.each n t e)
  of_place n t (inr e) =
      let long = h.long in
      let more = length-append rules (b ∷ []) in
      let same = e.0 in
      subst (NoneAbove t.rule.now.prio) (sym (take_whole (rules ++ b ∷ []) (n + 1) (omega (arith, long, more, same)))) (subst (λ (x : Placed). NoneAbove x.rule.now.prio (rules ++ b ∷ [])) e.1 all)

  pub tops_push : AreTops (rules ++ b ∷ []) (tops ++ top ∷ [])
  tops_push = record {
    long = let p = length-append rules (b ∷ []) in let q = length-append tops (top ∷ []) in let long = h.long in omega (arith, p, q, long);
    each = λ n t e. of_place n t (at_push tops top t n e);
  }

-- ---- those that are passed over

-- as many as the tops tell
pub tail_of : (rules tops : List Placed) (prio : ℤ) (count : ℕ) → AreTops rules tops → IsPassed tops prio count → IsTail prio rules (drop count rules)
tail_of rules tops prio zero h p = record { count = 0; is = refl; low = λ a c. absurd (none_contained a c) }
tail_of rules tops prio (suc n) h p =
    let l = p.last n (omega arith) in
    let one : suc n ≡ n + 1 = omega arith in
    record { count = suc n; is = refl; low = λ a c. below l.0.rule.now.prio a (h.each n l.0 l.1 a (subst (λ m. Contains (take m rules) a) one c)) l.2 }
  where
    below : (t : ℤ) (a : Placed) → a.rule.now.prio ≤ℤ t → t ≤ℤ prio → a.rule.now.prio ≤ℤ prio
    below t a u v = omega (arith, ints, u, v)

-- what is left of a list is all of its length
pub rest_whole : {X : Type 0} (xs : List X) (n : ℕ) → take (length xs - n) (drop n xs) ≡ drop n xs
rest_whole xs n = take_whole (drop n xs) (length xs - n) (sym (length-drop n xs))
