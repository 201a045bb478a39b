-- Noting a place that was found.
use Rattle.std.proofs.Common.{◌≡◌, ◌⊎◌, inl, inr, ⊎_elim, ℕ, zero, suc, ◌<◌, ◌≤◌, List, [], ◌∷◌, length, min, set, refl, sym, ap, ◌∙◌, subst, arith, Option, Some, None}
use Rattle.std.specs.Prelude.{slice_get}
use Rattle.isle_checks.specs.Firsts.{Found, earlier, Has, HasUpTo, Notes}

pub set_here : {X : Type 0} (xs : List X) (j : ℕ) (x : X) → j < length xs → slice_get (set xs j x) j ≡ Some x
set_here [] j x lt = absurd (omega arith)
set_here (y ∷ ys) zero x lt = refl
set_here (y ∷ ys) (suc j) x lt = set_here ys j x (omega arith)

pub set_elsewhere : {X : Type 0} (xs : List X) (j k : ℕ) (x : X) → (j ≡ k → ⊥) → slice_get (set xs j x) k ≡ slice_get xs k
set_elsewhere [] j k x differ = refl
set_elsewhere (y ∷ ys) zero zero x differ = absurd (differ refl)
set_elsewhere (y ∷ ys) zero (suc k) x differ = refl
set_elsewhere (y ∷ ys) (suc j) zero x differ = refl
set_elsewhere (y ∷ ys) (suc j) (suc k) x differ = set_elsewhere ys j k x (λ e. differ (ap suc e))

pub set_long : {X : Type 0} (xs : List X) (j : ℕ) (x : X) → length (set xs j x) ≡ length xs
set_long [] j x = refl
set_long (y ∷ ys) zero x = refl
set_long (y ∷ ys) (suc j) x = ap suc (set_long ys j x)

same_or_not : (j k : ℕ) → (j ≡ k) ⊎ (j ≡ k → ⊥)
same_or_not zero zero = inl refl
same_or_not zero (suc k) = inr (λ e. omega arith)
same_or_not (suc j) zero = inr (λ e. omega arith)
same_or_not (suc j) (suc k) = ⊎_elim (λ e. inl (ap suc e)) (λ n. inr (λ e. n (omega arith))) (same_or_not j k)

some_both : (a b : ℕ) → Some (Some a) ≡ Some (Some b) → a ≡ b
some_both a b e = cc

none_both : (a : ℕ) → Some None ≡ Some (Some a) → ⊥
none_both a e = cc

-- the place that is kept is the old one or the new one
kept_from : (o : Option ℕ) (p i : ℕ) → earlier o p ≡ i → (o ≡ Some i) ⊎ (i ≡ p)
kept_from None p i e = inr (sym e)
kept_from (Some k) p i e = ⊎_elim (λ (same : i ≡ k). inl (ap Some (sym same))) (λ same. inr same) (either k p i e)
  where
    either : (k p i : ℕ) → min k p ≡ i → (i ≡ k) ⊎ (i ≡ p)
    either zero p i e' = inl (omega arith)
    either (suc k) zero i e' = inr (omega arith)
    either (suc k) (suc p) zero e' = absurd (omega arith)
    either (suc k) (suc p) (suc i) e' = ⊎_elim (λ h. inl (ap suc h)) (λ h. inr (ap suc h)) (either k p i (omega (arith, e')))

-- it is no later than either
up_to_new : (o : Option ℕ) (p : ℕ) → earlier o p ≤ p
up_to_new None p = omega arith
up_to_new (Some k) p = omega arith

up_to_old : (k p : ℕ) → min k p ≤ k
up_to_old k p = omega arith

pub noted : (old new : Found) (j p : ℕ) (o : Option ℕ) → j < length old → slice_get old j ≡ Some o → new ≡ set old j (Some (earlier o p)) → Notes old new j p
noted old new j p o lt at is = record {
  long = ap length is ∙ set_long old j (Some (earlier o p));
  sound = λ k i h. ⊎_elim (λ (e : j ≡ k). sound_here k i e h) (λ n. inl (sym (there k n) ∙ h)) (same_or_not j k);
  kept = λ k i h. ⊎_elim (λ (e : j ≡ k). kept_here k i o at e h) (λ n. record { k = i; le = omega arith; has = there k n ∙ h }) (same_or_not j k);
  here = record { k = earlier o p; le = up_to_new o p; has = now };
}
  where
    now : slice_get new j ≡ Some (Some (earlier o p))
    now = ap (λ xs. slice_get xs j) is ∙ set_here old j (Some (earlier o p)) lt

    there : (k : ℕ) → (j ≡ k → ⊥) → slice_get new k ≡ slice_get old k
    there k n = ap (λ xs. slice_get xs k) is ∙ set_elsewhere old j k (Some (earlier o p)) n

    sound_here : (k i : ℕ) → j ≡ k → Has new k i → Has old k i ⊎ ((k ≡ j) × (i ≡ p))
    sound_here k i e h =
        let same : earlier o p ≡ i = some_both (earlier o p) i (sym now ∙ ap (slice_get new) e ∙ h) in
        ⊎_elim (λ (q : o ≡ Some i). inl (ap (slice_get old) (sym e) ∙ at ∙ ap Some q)) (λ q. inr (sym e, q)) (kept_from o p i same)

    kept_here : (k i : ℕ) (o' : Option ℕ) → slice_get old j ≡ Some o' → j ≡ k → Has old k i → HasUpTo new k i
    kept_here k i o' at' e h =
        let was : o ≡ Some i = some_of (sym at ∙ ap (slice_get old) e ∙ h) in
        record { k = earlier o p; le = subst (λ x. earlier x p ≤ i) (sym was) (up_to_old i p); has = ap (slice_get new) (sym e) ∙ now }
      where
        some_of : Some o ≡ Some (Some i) → o ≡ Some i
        some_of q = cc
