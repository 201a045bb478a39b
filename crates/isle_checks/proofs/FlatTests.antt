-- The constraints of a flat rule are the tests of its rule.
use Rattle.std.proofs.Common.{◌≡◌, inl, inr, ⊎_elim, ℕ, zero, suc, List, [], ◌∷◌, map, get_or, Option, Some, None, refl, sym, ap, subst}
use Rattle.std.specs.Prelude.{Contains, slice_get}
use Rattle.std.proofs.lemmas.List.Elements.{Contains-append_left, Contains-append_cases}
use Rattle.isle_core.specs.declared.BindingId.{BindingId}
use Rattle.isle_core.specs.declared.rule_sets.Constraint.{Constraint}
use Rattle.isle_core.specs.declared.rule_sets.FlatRule.{FlatRule}
use Rattle.isle_core.specs.Path.{Path, Nowhere, at}
use Rattle.isle_core.specs.Tests.{Is, Equal, met_tests, rule_tests}
use Rattle.isle_core.specs.RuleSet.{is_test, equal_test}
use Rattle.isle_core.specs.StandsFor.{EachOnce, IsFlat}
use Rattle.isle_core.specs.BuiltRule.{IsBuiltRule}
use Rattle.isle_core.specs.Scope.{IsScopedRule}
use Rattle.isle_core.specs.Rule.{Environment, Rule}
use Rattle.isle_core.proofs.Contained.{head_contained, tail_contained, contained_cases, none_contained}
use Rattle.isle_core.proofs.OptionLaws.{some_same}
use Rattle.isle_rulesets.proofs.RuleTests.{rule_stands}
use Rattle.isle_checks.specs.Bears.{Constraints, IsAmong}
use Rattle.isle_checks.proofs.PlacedLaws.{only_one}

-- ---- paths that are tested are somewhere

pub is_path : (p q : Path) (c d : Constraint) → Is p c ≡ Is q d → p ≡ q
is_path p q c d e = cc

pub is_constraint : (p q : Path) (c d : Constraint) → Is p c ≡ Is q d → c ≡ d
is_constraint p q c d e = cc

pub met_none : (o : Option Path) (q p : Path) (c : Constraint) → Contains (met_tests o q) (Is p c) → ⊥
met_none None q p c h = none_contained (Is p c) h
met_none (Some x) q p c h = let e = only_one (Equal x q) (Is p c) h in cc

-- a rule of built forms, whose variables are bound
pub record IsReady (env : Environment) (r : Rule) : Type 0 where
  pub built : IsBuiltRule env.terms r
  pub scoped : IsScopedRule r

pub somewhere : (env : Environment) (r : Rule) (p : Path) (c : Constraint) → IsReady env r → Contains (rule_tests env r) (Is p c) → p ≡ Nowhere → ⊥
somewhere env r p c b h = rule_stands env r (Is p c) b.built b.scoped h

-- ---- a path stands at one place

there_of : (ps : List Path) (i : ℕ) (p : Path) → get_or ps i Nowhere ≡ p → (p ≡ Nowhere → ⊥) → slice_get ps i ≡ Some p
there_of [] i p e n = absurd (n (sym e))
there_of (q ∷ ps) zero p e n = ap Some e
there_of (q ∷ ps) (suc i) p e n = there_of ps i p e n

contains_at : (ps : List Path) (i : ℕ) (p : Path) → slice_get ps i ≡ Some p → Contains ps p
contains_at [] i p e = cc
contains_at (q ∷ ps) zero p e = subst (Contains (q ∷ ps)) (some_same q p e) (head_contained q ps)
contains_at (q ∷ ps) (suc i) p e = tail_contained q ps p (contains_at ps i p e)

one_place : (ps : List Path) (i j : ℕ) (p : Path) → EachOnce ps → slice_get ps i ≡ Some p → slice_get ps j ≡ Some p → i ≡ j
one_place [] i j p once e h = cc
one_place (q ∷ ps) zero zero p once e h = refl
one_place (q ∷ ps) zero (suc j) p once e h = absurd (once.0 (subst (Contains ps) (some_same p q (sym e)) (contains_at ps j p h)))
one_place (q ∷ ps) (suc i) zero p once e h = absurd (once.0 (subst (Contains ps) (some_same p q (sym h)) (contains_at ps i p e)))
one_place (q ∷ ps) (suc i) (suc j) p once e h = ap suc (one_place ps i j p once.1 e h)

pub same_binding : (ps : List Path) (b c : BindingId) (p : Path) → EachOnce ps → at ps b ≡ p → at ps c ≡ p → (p ≡ Nowhere → ⊥) → b ≡ c
same_binding ps b c p once e h n = ap (λ k. record { 0 = k }) (one_place ps b.0 c.0 p once (there_of ps b.0 p e n) (there_of ps c.0 p h n))

-- ---- constraints are tests

-- a constraint on a binding of this path
pub record BearsOn (ps : List Path) (xs : Constraints) (p : Path) (c : Constraint) : Type 0 where
  pub binding : BindingId
  pub path : at ps binding ≡ p
  pub among : IsAmong xs (binding, c)

bears_of : (ps : List Path) (xs : Constraints) (p : Path) (c : Constraint) → Contains (map (is_test ps) xs) (Is p c) → BearsOn ps xs p c
bears_of ps [] p c h = absurd (none_contained (Is p c) h)
bears_of ps (x ∷ xs) p c h = ⊎_elim
    (λ (e : Is (at ps x.0) x.1 ≡ Is p c). record { binding = x.0; path = is_path _ _ _ _ e; among = inl (ap (λ d. (x.0, d)) (is_constraint _ _ _ _ e)) })
    (λ k. let g = bears_of ps xs p c k in record { binding = g.binding; path = g.path; among = inr g.among })
    (contained_cases (is_test ps x) (map (is_test ps) xs) (Is p c) h)

no_equal : (ps : List Path) (es : List (BindingId × BindingId)) (p : Path) (c : Constraint) → Contains (map (equal_test ps) es) (Is p c) → ⊥
no_equal ps [] p c h = none_contained (Is p c) h
no_equal ps (e ∷ es) p c h = ⊎_elim (λ (k : Equal (at ps e.0) (at ps e.1) ≡ Is p c). cc) (λ k. no_equal ps es p c k) (contained_cases (equal_test ps e) (map (equal_test ps) es) (Is p c) h)

among_tests : (ps : List Path) (xs : Constraints) (y : BindingId × Constraint) → IsAmong xs y → Contains (map (is_test ps) xs) (Is (at ps y.0) y.1)
among_tests ps [] y h = absurd h
among_tests ps (x ∷ xs) y h = ⊎_elim (λ (e : x ≡ y). subst (λ (z : BindingId × Constraint). Contains (map (is_test ps) (x ∷ xs)) (Is (at ps z.0) z.1)) e (head_contained (is_test ps x) (map (is_test ps) xs))) (λ k. tail_contained (is_test ps x) (map (is_test ps) xs) (Is (at ps y.0) y.1) (among_tests ps xs y k)) h

module _ (env : Environment) (ps : List Path) (r : Rule) (n : ℕ) (f : FlatRule) (flat : IsFlat env ps r n f) where
  -- a rule's test of a path is a constraint of its flat rule
  pub bears : (p : Path) (c : Constraint) → Contains (rule_tests env r) (Is p c) → BearsOn ps f.constraints p c
  bears p c h = ⊎_elim
      (λ k. ⊎_elim (λ d. bears_of ps f.constraints p c d) (λ d. absurd (no_equal ps f.equals p c d)) (Contains-append_cases (map (is_test ps) f.constraints) (map (equal_test ps) f.equals) (Is p c) k))
      (λ k. absurd k)
      (flat.tested (Is p c) h)

  -- and the other way round
  pub tested_by : (y : BindingId × Constraint) → IsAmong f.constraints y → Contains (rule_tests env r) (Is (at ps y.0) y.1)
  tested_by y h = (flat.no_other (Is (at ps y.0) y.1) (Contains-append_left (map (is_test ps) f.constraints) (map (equal_test ps) f.equals) (Is (at ps y.0) y.1) (among_tests ps f.constraints y h))).0
