-- What was found among all rules of a list is the first for each.
use Rattle.std.proofs.Common.{◌≡◌, ⊎_elim, ℕ, zero, suc, ◌<◌, List, [], ◌∷◌, length, replicate, true, false, Option, Some, None, refl, sym, ap, ◌∙◌, subst, arith}
use Rattle.std.specs.Prelude.{◌<ℤ◌, IsSomeAnd, slice_get}
use Rattle.std.specs.Int.Signed.{<ℤ_irrefl}
use Rattle.isle_core.specs.declared.rule_sets.FlatRule.{FlatRule}
use Rattle.isle_core.proofs.OptionLaws.{some_same}
use Rattle.isle_checks.specs.declared.placed.Check.{Check}
use Rattle.isle_checks.specs.declared.placed.Check.TheVariants as check
use Rattle.isle_checks.specs.declared.placed.Placed.{Placed}
use Rattle.isle_checks.specs.Makes.{Makes, MakesOf, MakesAt}
use Rattle.isle_checks.specs.Firsts.{Found, Has, HasUpTo, IsMade, Finds, ArePlaced, AreBelow, IsFirst, AreFirstMakers, AreFirstsOfTerm}

length_of : {X : Type 0} (xs : List X) (i : ℕ) (x : X) → slice_get xs i ≡ Some x → i < length xs
length_of [] i x e = cc
length_of (y ∷ ys) zero x e = omega arith
length_of (y ∷ ys) (suc i) x e = let h = length_of ys i x e in omega (arith, h)

-- placed rules lie below the number of rules
pub placed_below : (rules : List FlatRule) (group : List Placed) (n : ℕ) → n ≡ length rules → ArePlaced rules group → AreBelow n group
placed_below rules group n e h a c = let lt = length_of rules a.place a.rule.now (h.each a c) in omega (arith, e, lt)

pub long_replicate : {X : Type 0} (n : ℕ) (x : X) → length (replicate n x) ≡ n
long_replicate zero x = refl
long_replicate (suc n) x = ap suc (long_replicate n x)

none_there : (n j i : ℕ) → Has (replicate n None) j i → ⊥
none_there zero j i h = cc
none_there (suc n) zero i h = cc
none_there (suc n) (suc j) i h = none_there n j i h

pub made_of : (check : Check) (i j : ℕ) (o p : Option FlatRule) → IsSomeAnd o (λ (f : FlatRule). IsSomeAnd p (λ (g : FlatRule). MakesOf check i f j g)) → (f : FlatRule) × (g : FlatRule) × (o ≡ Some f) × (p ≡ Some g) × MakesOf check i f j g
made_of check i j None p h = absurd h
made_of check i j (Some f) None h = absurd h
made_of check i j (Some f) (Some g) h = (f, g, refl, refl, h)

pub at_of : (check : Check) (rules : List FlatRule) (i j : ℕ) (f g : FlatRule) → slice_get rules i ≡ Some f → slice_get rules j ≡ Some g → MakesOf check i f j g → MakesAt check rules i j
at_of check rules i j f g e k m = subst (λ o. IsSomeAnd o (λ (x : FlatRule). IsSomeAnd (slice_get rules j) (λ (y : FlatRule). MakesOf check i x j y))) (sym e) (subst (λ o. IsSomeAnd o (λ (y : FlatRule). MakesOf check i f j y)) (sym k) m)

module _ (check : Check) (rules : List FlatRule) (group : List Placed) (old new : Found) (placed : ArePlaced rules group) (f : Finds check group group old new) where
  -- a pair that makes an error was found, by this place or an earlier one
  found_up_to : (i j : ℕ) → MakesAt check rules i j → HasUpTo new j i
  found_up_to i j m =
      let r = made_of check i j (slice_get rules i) (slice_get rules j) m in
      let a = placed.all i r.0 r.2 in
      let b = placed.all j r.1 r.3 in
      let makes : Makes check a.0 b.0 = rw (a.2, a.3, b.2, b.3) r.4 in
      subst (λ n. HasUpTo new n i) b.2 (subst (HasUpTo new b.0.place) a.2 (f.complete a.0 b.0 a.1 b.1 makes))

  made_at : (i j : ℕ) → IsMade check group group i j → MakesAt check rules i j
  made_at i j d = rw (← d.maker_place, ← d.other_place) (at_of check rules d.maker.place d.other.place d.maker.rule.now d.other.rule.now (placed.each d.maker d.maker_among) (placed.each d.other d.other_among) d.makes)

  pub are_firsts : (n : ℕ) → n ≡ length rules → old ≡ replicate n None → AreFirstMakers check rules new
  are_firsts n e none = record { long = f.long ∙ ap length none ∙ long_replicate n None ∙ e; each = λ j o h. first_of j o h }
    where
      no_old : (j i : ℕ) → Has old j i → ⊥
      no_old j i h = none_there n j i (subst (λ xs. Has xs j i) none h)

      some_one : (a b : Option ℕ) → Some a ≡ Some b → a ≡ b
      some_one a b q = cc

      none_some : (a : ℕ) → None ≡ Some a → ⊥
      none_some a q = cc

      first_of : (j : ℕ) (o : Option ℕ) → slice_get new j ≡ Some o → IsFirst (λ i. MakesAt check rules i j) o
      first_of j None h = λ i m. let u = found_up_to i j m in none_some u.k (some_one None (Some u.k) (sym h ∙ u.has))
      first_of j (Some i) h = (
        ⊎_elim (λ (k : Has old j i). absurd (no_old j i k)) (λ d. made_at i j d) (f.sound j i h),
        λ k m. let u = found_up_to k j m in let same : i ≡ u.k = some_same i u.k (some_one (Some i) (Some u.k) (sym h ∙ u.has)) in let le = u.le in omega (arith, same, le),
      )

-- ---- fewer than two rules

same_rule : (f g : FlatRule) → Some f ≡ Some g → f ≡ g
same_rule f g e = cc

not_of_itself : (c : Check) (i j : ℕ) (f g : FlatRule) → i ≡ j → f ≡ g → MakesOf c i f j g → ⊥
not_of_itself check.Overlaps i j f g e s m = let lt = m.earlier in omega (arith, e, lt)
not_of_itself check.Shadows i j f g e s m = <ℤ_irrefl (subst (λ (x : FlatRule). g.prio <ℤ x.prio) s m.higher)

no_pair : (c : Check) (rules : List FlatRule) (i j : ℕ) → length rules < 2 → MakesAt c rules i j → ⊥
no_pair c rules i j few m =
    let r = made_of c i j (slice_get rules i) (slice_get rules j) m in
    let one = length_of rules i r.0 r.2 in
    let other = length_of rules j r.1 r.3 in
    let same : i ≡ j = omega (arith, few, one, other) in
    not_of_itself c i j r.0 r.1 same (same_rule r.0 r.1 (sym r.2 ∙ ap (slice_get rules) same ∙ r.3)) r.4

few_first : (c : Check) (rules : List FlatRule) (n j : ℕ) (o : Option ℕ) → length rules < 2 → slice_get (replicate n None) j ≡ Some o → IsFirst (λ i. MakesAt c rules i j) o
few_first c rules n j None few h = λ i m. no_pair c rules i j few m
few_first c rules n j (Some i) few h = absurd (none_there n j i h)

-- of these none makes an error of one
pub few_rules : (c : Check) (rules : List FlatRule) (found : Found) → length rules < 2 → found ≡ replicate (length rules) None → AreFirstMakers c rules found
few_rules c rules found few none = record {
  long = ap length none ∙ long_replicate (length rules) None;
  each = λ j o at. few_first c rules (length rules) j o few (subst (λ xs. slice_get xs j ≡ Some o) none at);
}

-- ---- the rules of a term

first_where : (P : ℕ → Type 0) (o : Option ℕ) → IsFirst P o → IsFirst (λ i. (false ≡ false) × P i) o
first_where P None h = λ i m. h i m.1
first_where P (Some i) h = ((refl, h.0), λ k m. h.1 k m.1)

-- those of a term that answers at most once
pub firsts_of_single : (check : Check) (rules : List FlatRule) (found : Found) → AreFirstMakers check rules found → AreFirstsOfTerm check false rules found
firsts_of_single check rules found h = record { long = h.long; each = λ j o at. first_where (λ i. MakesAt check rules i j) o (h.each j o at) }

none_first : (P : ℕ → Type 0) (n j : ℕ) (o : Option ℕ) → slice_get (replicate n None) j ≡ Some o → IsFirst (λ i. (true ≡ false) × P i) o
none_first P n j None h = λ i m. cc
none_first P n j (Some i) h = absurd (none_there n j i h)

-- those of a term that answers several times
pub firsts_of_multi : (check : Check) (rules : List FlatRule) (found : Found) → found ≡ replicate (length rules) None → AreFirstsOfTerm check true rules found
firsts_of_multi check rules found none = record {
  long = ap length none ∙ long_replicate (length rules) None;
  each = λ j o at. none_first (λ i. MakesAt check rules i j) (length rules) j o (subst (λ xs. slice_get xs j ≡ Some o) none at);
}
