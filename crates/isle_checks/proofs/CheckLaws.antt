-- A flat rule makes an error of another exactly if its rule does.
use Rattle.std.proofs.Common.{◌≡◌, inl, inr, ⊎_elim, ℕ, ◌<◌, List, [], ◌∷◌, map, refl, sym, ap, ◌∙◌, subst}
use Rattle.std.specs.Prelude.{Contains}
use Rattle.std.proofs.lemmas.List.Elements.{Contains-append_right, Contains-append_cases}
use Rattle.isle_core.specs.declared.BindingId.{BindingId}
use Rattle.isle_core.specs.declared.rule_sets.Constraint.{Constraint}
use Rattle.isle_core.specs.declared.rule_sets.FlatRule.{FlatRule}
use Rattle.isle_core.specs.Path.{Path, at}
use Rattle.isle_core.specs.Tests.{Is, Equal, rule_tests}
use Rattle.isle_core.specs.RuleSet.{is_test, equal_test, flat_tests}
use Rattle.isle_core.specs.StandsFor.{EachOnce, IsFlat}
use Rattle.isle_core.specs.Rule.{Environment, Rule}
use Rattle.isle_core.proofs.Contained.{head_contained, contained_cases, none_contained}
use Rattle.isle_checks.specs.Bears.{Constraints, IsOther, HasOther, Agree, IsAmong, AreAmong}
use Rattle.isle_checks.specs.Makes.{Overlap, Shadow}
use Rattle.isle_checks.specs.RuleChecks.{Overlaps, EquatesNone, Shadows}
use Rattle.isle_checks.proofs.BearLaws.{other_among, agree_at, among_at}
use Rattle.isle_checks.proofs.FlatTests.{IsReady, somewhere, same_binding, bears, tested_by}

-- the other constraint
record AnOther (xs : Constraints) (b : BindingId) (c : Constraint) : Type 0 where
  given : Constraint
  among : IsAmong xs (b, given)
  differs : given ≡ c → ⊥

other_of : (xs : Constraints) (b : BindingId) (c : Constraint) → HasOther xs b c → AnOther xs b c
other_of [] b c h = absurd h
other_of (x ∷ xs) b c h = ⊎_elim (λ (k : IsOther x b c). record { given = x.1; among = inl (ap (λ y. (y, x.1)) k.0); differs = k.1 }) (λ k. let o = other_of xs b c k in record { given = o.given; among = inr o.among; differs = o.differs }) h

agree_all : (xs ys : Constraints) → ((y : BindingId × Constraint) → IsAmong xs y → HasOther ys y.0 y.1 → ⊥) → Agree xs ys
agree_all [] ys h = tt
agree_all (x ∷ xs) ys h = (h x (inl refl), agree_all xs ys (λ y k. h y (inr k)))

among_all : (xs ys : Constraints) → ((y : BindingId × Constraint) → IsAmong xs y → IsAmong ys y) → AreAmong xs ys
among_all [] ys h = tt
among_all (x ∷ xs) ys h = (h x (inl refl), among_all xs ys (λ y k. h y (inr k)))

pub no_is : (ps : List Path) (xs : Constraints) (p q : Path) → Contains (map (is_test ps) xs) (Equal p q) → ⊥
no_is ps [] p q h = none_contained (Equal p q) h
no_is ps (x ∷ xs) p q h = ⊎_elim (λ (k : Is (at ps x.0) x.1 ≡ Equal p q). cc) (λ k. no_is ps xs p q k) (contained_cases (is_test ps x) (map (is_test ps) xs) (Equal p q) h)

module _ (env : Environment) (ps : List Path) (once : EachOnce ps) where
  -- a flat rule without equalities is that of a rule that equates nothing
  pub plain_rule : (r : Rule) (n : ℕ) (f : FlatRule) → IsFlat env ps r n f → f.equals ≡ [] → EquatesNone env r
  plain_rule r n f flat e p q h = ⊎_elim
      (λ k. ⊎_elim (λ d. absurd (no_is ps f.constraints p q d)) (λ d. absurd (none_contained (Equal p q) (subst (λ es. Contains (map (equal_test ps) es) (Equal p q)) e d))) (Contains-append_cases (map (is_test ps) f.constraints) (map (equal_test ps) f.equals) (Equal p q) k))
      (λ k. k)
      (flat.tested (Equal p q) h)

  pub plain_flat : (r : Rule) (n : ℕ) (f : FlatRule) → IsFlat env ps r n f → EquatesNone env r → f.equals ≡ []
  plain_flat r n f flat none = by f.equals refl
    where
      by : (es : List (BindingId × BindingId)) → f.equals ≡ es → f.equals ≡ []
      by [] e = e
      by (x ∷ es) e =
          let c : Contains (flat_tests ps f) (equal_test ps x) = Contains-append_right (map (is_test ps) f.constraints) (map (equal_test ps) f.equals) (equal_test ps x) (subst (λ xs. Contains (map (equal_test ps) xs) (equal_test ps x)) (sym e) (head_contained (equal_test ps x) (map (equal_test ps) es))) in
          let t = flat.no_other (equal_test ps x) c in
          absurd (t.1 (none (at ps x.0) (at ps x.1) t.0))

  module _ (q r : Rule) (m n : ℕ) (f g : FlatRule) (one : IsFlat env ps q m f) (other : IsFlat env ps r n g) (built : IsReady env q) (also_built : IsReady env r) where
    pub rules_overlap : (i j : ℕ) → Overlap i f j g → (i < j) × Overlaps env q r
    rules_overlap i j h = (
      h.earlier,
      record {
        prio = sym one.prio ∙ h.prio ∙ other.prio;
        agree = λ p c d k l differ.
            let x = bears env ps q m f one p c k in
            let y = bears env ps r n g other p d l in
            let same : y.binding ≡ x.binding = same_binding ps y.binding x.binding p once y.path x.path (somewhere env q p c built k) in
            agree_at f.constraints g.constraints (x.binding, c) h.agree x.among (other_among g.constraints x.binding c d (subst (λ b. IsAmong g.constraints (b, d)) same y.among) (λ e. differ (sym e)));
      },
    )

    pub flats_overlap : (i j : ℕ) → i < j → Overlaps env q r → Overlap i f j g
    flats_overlap i j lt h = record {
      earlier = lt;
      prio = one.prio ∙ h.prio ∙ sym other.prio;
      agree = agree_all f.constraints g.constraints (λ y k o.
          let d = other_of g.constraints y.0 y.1 o in
          h.agree (at ps y.0) y.1 d.given (tested_by env ps q m f one y k) (tested_by env ps r n g other (y.0, d.given) d.among) (λ e. d.differs (sym e)));
    }

    pub rules_shadow : Shadow f g → Shadows env q r
    rules_shadow h = record {
      higher = rw (← one.prio, ← other.prio) h.higher;
      plain = plain_rule q m f one h.plain;
      also_plain = plain_rule r n g other h.also_plain;
      among = λ p c k.
          let x = bears env ps q m f one p c k in
          subst (λ y. Contains (rule_tests env r) (Is y c)) x.path (tested_by env ps r n g other (x.binding, c) (among_at f.constraints g.constraints (x.binding, c) h.among x.among));
    }

    pub flats_shadow : Shadows env q r → Shadow f g
    flats_shadow h = record {
      higher = rw (one.prio, other.prio) h.higher;
      plain = plain_flat q m f one h.plain;
      also_plain = plain_flat r n g other h.also_plain;
      among = among_all f.constraints g.constraints (λ y k.
          let t = tested_by env ps q m f one y k in
          let x = bears env ps r n g other (at ps y.0) y.1 (h.among (at ps y.0) y.1 t) in
          subst (λ b. IsAmong g.constraints (b, y.1)) (same_binding ps x.binding y.0 (at ps y.0) once x.path refl (somewhere env q (at ps y.0) y.1 built t)) x.among);
    }
