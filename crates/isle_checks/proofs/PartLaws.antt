-- A group in two parts, and what was found in and between them.
use Rattle.std.proofs.Common.{◌≡◌, ◌⊎◌, inl, inr, ⊎_elim, ℕ, ◌+◌, ◌<◌, ◌≤◌, List, [], ◌∷◌, ◌++◌, length, get_or, take, sym, ap, ◌∙◌, subst, arith}
use Rattle.std.specs.Prelude.{Contains, OnOk, Result, Ok, Err}
use Rattle.std.proofs.lemmas.List.{take_more, length-append}
use Rattle.std.proofs.lemmas.List.Elements.{Contains-append_left, Contains-append_right, Contains-append_cases}
use Rattle.isle_checks.specs.declared.placed.Check.{Check}
use Rattle.isle_checks.specs.declared.placed.Placed.{Placed}
use Rattle.isle_checks.specs.Firsts.{Found, HasUpTo, IsMade, Finds}
use Rattle.isle_checks.specs.Lists.{Rises}
use Rattle.isle_checks.specs.Makes.{Makes}
use Rattle.isle_checks.specs.Parts.{AreParts, JoinsOne}
use Rattle.isle_checks.proofs.FindLaws.{Within, made_among, up_to_then}
use Rattle.isle_checks.proofs.ListLaws.{before_place}
use Rattle.isle_checks.proofs.PlacedLaws.{rises_push}

-- ---- one rule more

pub no_parts : AreParts [] [] []
no_parts = record { keyed_in = λ a c. c; others_in = λ a c. c; keyed_rise = tt; others_rise = tt; each = λ a c. inl c; few = omega arith }

module _ (front : List Placed) (b : Placed) (lt : (a : Placed) → Contains front a → a.place < b.place) where
  one_longer : (xs : List Placed) → length xs ≤ length front → length (xs ++ b ∷ []) ≤ length (front ++ b ∷ [])
  one_longer xs le = let p = length-append xs (b ∷ []) in let q = length-append front (b ∷ []) in omega (arith, p, q, le)

  as_long : (xs : List Placed) → length xs ≤ length front → length xs ≤ length (front ++ b ∷ [])
  as_long xs le = let q = length-append front (b ∷ []) in omega (arith, q, le)

  in_more : (xs : List Placed) → Within xs front → Within (xs ++ b ∷ []) (front ++ b ∷ [])
  in_more xs h a c = ⊎_elim (λ d. Contains-append_left front (b ∷ []) a (h a d)) (λ d. Contains-append_right front (b ∷ []) a d) (Contains-append_cases xs (b ∷ []) a c)

  in_still : (xs : List Placed) → Within xs front → Within xs (front ++ b ∷ [])
  in_still xs h a c = Contains-append_left front (b ∷ []) a (h a c)

  rise_more : (xs : List Placed) → Within xs front → Rises xs → Rises (xs ++ b ∷ [])
  rise_more xs h r = rises_push xs b r (λ a c. lt a (h a c))

  here : (xs : List Placed) (a : Placed) → Contains (b ∷ []) a → Contains (xs ++ b ∷ []) a
  here xs a d = Contains-append_right xs (b ∷ []) a d

  there : (xs : List Placed) (a : Placed) → Contains xs a → Contains (xs ++ b ∷ []) a
  there xs a d = Contains-append_left xs (b ∷ []) a d

  part_joins : (keyed others new_keyed new_others : List Placed) → JoinsOne b keyed others new_keyed new_others → AreParts front keyed others → AreParts (front ++ b ∷ []) new_keyed new_others
  part_joins keyed others new_keyed new_others (inl e) h = subst (λ os. AreParts (front ++ b ∷ []) new_keyed os) (sym e.1) (subst (λ ks. AreParts (front ++ b ∷ []) ks others) (sym e.0) (record {
    keyed_in = in_more keyed h.keyed_in;
    others_in = in_still others h.others_in;
    keyed_rise = rise_more keyed h.keyed_in h.keyed_rise;
    others_rise = h.others_rise;
    each = λ a c. ⊎_elim (λ d. ⊎_elim (λ k. inl (there keyed a k)) (λ o. inr o) (h.each a d)) (λ d. inl (here keyed a d)) (Contains-append_cases front (b ∷ []) a c);
    few = one_longer keyed h.few;
  }))
  part_joins keyed others new_keyed new_others (inr e) h = subst (λ os. AreParts (front ++ b ∷ []) new_keyed os) (sym e.1) (subst (λ ks. AreParts (front ++ b ∷ []) ks (others ++ b ∷ [])) (sym e.0) (record {
    keyed_in = in_still keyed h.keyed_in;
    others_in = in_more others h.others_in;
    keyed_rise = h.keyed_rise;
    others_rise = rise_more others h.others_in h.others_rise;
    each = λ a c. ⊎_elim (λ d. ⊎_elim (λ k. inl k) (λ o. inr (there others a o)) (h.each a d)) (λ d. inr (here others a d)) (Contains-append_cases front (b ∷ []) a c);
    few = as_long keyed h.few;
  }))

-- one rule of the group more
pub part_more : (group : List Placed) (i : ℕ) (b : Placed) (keyed others new_keyed new_others : List Placed) → Rises group → i < length group → b ≡ get_or group i b → JoinsOne b keyed others new_keyed new_others
    → AreParts (take i group) keyed others → AreParts (take (i + 1) group) new_keyed new_others
part_more group i b keyed others new_keyed new_others rise lt is joins h =
    let more : take (i + 1) group ≡ take i group ++ b ∷ [] = take_more group i b lt ∙ ap (λ x. take i group ++ x ∷ []) (sym is) in
    subst (λ front. AreParts front new_keyed new_others) (sym more) (part_joins (take i group) b (before_place group i b rise lt is) keyed others new_keyed new_others joins h)

-- ---- what was found

module _ (check : Check) (group ks os : List Placed) (p : AreParts group ks os) (f0 f1 f2 f3 f4 : Found) (a : Finds check os os f0 f1) (b : Finds check os ks f1 f2) (c : Finds check ks os f2 f3) (d : Finds check ks ks f3 f4) where
  from_third : (j i : ℕ) → HasUpTo f3 j i → HasUpTo f4 j i
  from_third j i u = up_to_then f3 f4 d.kept j i u

  from_second : (j i : ℕ) → HasUpTo f2 j i → HasUpTo f4 j i
  from_second j i u = from_third j i (up_to_then f2 f3 c.kept j i u)

  from_first : (j i : ℕ) → HasUpTo f1 j i → HasUpTo f4 j i
  from_first j i u = from_second j i (up_to_then f1 f2 b.kept j i u)

  made : (ms ns : List Placed) (i j : ℕ) → Within ms group → Within ns group → IsMade check ms ns i j → IsMade check group group i j
  made ms ns i j h k e = made_among check ms group ns group i j h k e

  of_parts : (x y : Placed) → Contains ks x ⊎ Contains os x → Contains ks y ⊎ Contains os y → Makes check x y → HasUpTo f4 y.place x.place
  of_parts x y (inl u) (inl v) m = d.complete x y u v m
  of_parts x y (inl u) (inr v) m = from_third y.place x.place (c.complete x y u v m)
  of_parts x y (inr u) (inl v) m = from_second y.place x.place (b.complete x y u v m)
  of_parts x y (inr u) (inr v) m = from_first y.place x.place (a.complete x y u v m)

  pub parts_found : Finds check group group f0 f4
  parts_found = record {
    long = d.long ∙ c.long ∙ b.long ∙ a.long;
    sound = λ j i has. ⊎_elim
        (λ k. ⊎_elim
        (λ l. ⊎_elim
        (λ m. ⊎_elim (λ n. inl n) (λ e. inr (made os os i j p.others_in p.others_in e)) (a.sound j i m))
        (λ e. inr (made os ks i j p.others_in p.keyed_in e))
        (b.sound j i l))
        (λ e. inr (made ks os i j p.keyed_in p.others_in e))
        (c.sound j i k))
        (λ e. inr (made ks ks i j p.keyed_in p.keyed_in e))
        (d.sound j i has);
    kept = λ j i has. from_first j i (a.kept j i has);
    complete = λ x y u v m. of_parts x y (p.each x u) (p.each y v) m;
  }

-- the same, where memory may have run out in the last step
pub parts_found_if : {A E : Type 0} (r : Result A E) (check : Check) (group ks os : List Placed) → AreParts group ks os → (f0 f1 f2 f3 f4 : Found) → Finds check os os f0 f1 → Finds check os ks f1 f2 → Finds check ks os f2 f3
    → OnOk r (Finds check ks ks f3 f4) → OnOk r (Finds check group group f0 f4)
parts_found_if (Ok x) check group ks os p f0 f1 f2 f3 f4 a b c d = parts_found check group ks os p f0 f1 f2 f3 f4 a b c d
parts_found_if (Err e) check group ks os p f0 f1 f2 f3 f4 a b c d = tt
