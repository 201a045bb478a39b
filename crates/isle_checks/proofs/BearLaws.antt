-- Which constraints stand among others.
use Rattle.std.proofs.Common.{◌≡◌, inl, inr, ⊎_elim, [], ◌∷◌, sym, ap, ◌∙◌, subst}
use Rattle.isle_core.specs.declared.BindingId.{BindingId}
use Rattle.isle_core.specs.declared.rule_sets.Constraint.{Constraint}
use Rattle.isle_checks.specs.Bears.{Constraints, HasOther, Agree, IsAmong, AreAmong}

-- another constraint on a binding that is among some
pub other_among : (xs : Constraints) (b : BindingId) (c d : Constraint) → IsAmong xs (b, d) → (d ≡ c → ⊥) → HasOther xs b c
other_among [] b c d h n = absurd h
other_among (x ∷ xs) b c d h n = ⊎_elim (λ (e : x ≡ (b, d)). inl (ap (λ (y : BindingId × Constraint). y.0) e, λ (s : x.1 ≡ c). n (ap (λ (y : BindingId × Constraint). y.1) (sym e) ∙ s))) (λ k. inr (other_among xs b c d k n)) h

-- what is among the first agrees with the second
pub agree_at : (xs ys : Constraints) (y : BindingId × Constraint) → Agree xs ys → IsAmong xs y → HasOther ys y.0 y.1 → ⊥
agree_at [] ys y h k o = absurd k
agree_at (x ∷ xs) ys y h k o = ⊎_elim (λ (e : x ≡ y). h.0 (subst (λ (z : BindingId × Constraint). HasOther ys z.0 z.1) (sym e) o)) (λ d. agree_at xs ys y h.1 d o) k

-- what is among the first is among the second
pub among_at : (xs ys : Constraints) (y : BindingId × Constraint) → AreAmong xs ys → IsAmong xs y → IsAmong ys y
among_at [] ys y h k = absurd k
among_at (x ∷ xs) ys y h k = ⊎_elim (λ (e : x ≡ y). subst (IsAmong ys) e h.0) (λ d. among_at xs ys y h.1 d) k
