-- The rule sets of an environment are of terms that are there, each once.
use Rattle.std.proofs.Common.{◌≡◌, ℕ, zero, suc, ◌+◌, ◌<◌, List, [], ◌∷◌, length, map, Bool, true, false, cond, eqb, refl, sym, ap, ◌∙◌, subst, arith, eqb-true}
use Rattle.std.specs.Prelude.{filter}
use Rattle.std.specs.List.{AllByRecursion, IsDistinct, range_with_len}
use Rattle.isle_core.specs.declared.TermId.{TermId}
use Rattle.isle_core.specs.declared.rule_sets.RuleSet.{RuleSet}
use Rattle.isle_core.specs.Rule.{Environment}
use Rattle.isle_core.specs.Terms.{has_rules, term_ids}
use Rattle.isle_rulesets.specs.Grouping.{AreRuleSets}
use Rattle.isle_checks.specs.Graph.{ids_of}
use Rattle.isle_checks.proofs.RuleUses.{HaveHeads, rules_there}

abbrev numbers : List TermId → List ℕ
numbers ids = map (λ (id : TermId). id.0) ids

ids_are : (sets : List (TermId × RuleSet)) → ids_of sets ≡ numbers (map (λ (s : TermId × RuleSet). s.0) sets)
ids_are [] = refl
ids_are (s ∷ sets) = ap (λ ns. s.0.0 ∷ ns) (ids_are sets)

-- ---- there

kept_there : (count : ℕ) (p : TermId → Bool) (ids : List TermId) → ((id : TermId) → p id ≡ true → id.0 < count) → AllByRecursion (λ (n : ℕ). n < count) (numbers (filter p ids))
kept_there count p [] h = tt
kept_there count p (id ∷ ids) h = by (p id) refl (kept_there count p ids h)
  where
    by : (b : Bool) → p id ≡ b → AllByRecursion (λ (n : ℕ). n < count) (numbers (filter p ids)) → AllByRecursion (λ (n : ℕ). n < count) (numbers (cond b (id ∷ filter p ids) (filter p ids)))
    by true e rest = (h id e, rest)
    by false e rest = rest

pub sets_there : (env : Environment) (sets : List (TermId × RuleSet)) → AreRuleSets env sets → HaveHeads env → AllByRecursion (λ (n : ℕ). n < length env.terms) (ids_of sets)
sets_there env sets stand heads =
    subst (AllByRecursion (λ (n : ℕ). n < length env.terms)) (sym (ids_are sets ∙ ap numbers stand.ids))
    (kept_there (length env.terms) (has_rules env) (term_ids env) (λ id e. rules_there env id heads e))

-- ---- once

not_equal : (a b : ℕ) → (a ≡ b → ⊥) → eqb a b ≡ false
not_equal a b apart = by (eqb a b) refl
  where
    by : (x : Bool) → eqb a b ≡ x → x ≡ false
    by true e = absurd (apart (eqb-true a b e))
    by false e = refl

-- numbers from a place on lie after those before it
behind : (at start count : ℕ) → at < start → AllByRecursion (λ (n : ℕ). eqb at n ≡ false) (numbers (map (λ (i : ℕ). record { 0 = i }) (range_with_len start count)))
behind at start zero lt = tt
behind at start (suc count) lt = (not_equal at start (λ e. (let bad : start < start = subst (λ n. n < start) e lt in omega (arith, bad))), behind at (start + 1) count (omega (arith, lt)))

range_once : (start count : ℕ) → IsDistinct eqb (numbers (map (λ (i : ℕ). record { 0 = i }) (range_with_len start count)))
unfolding IsDistinct
range_once start zero = tt
range_once start (suc count) = (behind start (start + 1) count (omega arith), range_once (start + 1) count)

kept_all : (P : ℕ → Type 0) (p : TermId → Bool) (ids : List TermId) → AllByRecursion P (numbers ids) → AllByRecursion P (numbers (filter p ids))
kept_all P p [] h = tt
kept_all P p (id ∷ ids) h = by (p id) (kept_all P p ids h.1)
  where
    by : (b : Bool) → AllByRecursion P (numbers (filter p ids)) → AllByRecursion P (numbers (cond b (id ∷ filter p ids) (filter p ids)))
    by true rest = (h.0, rest)
    by false rest = rest

kept_once : (p : TermId → Bool) (ids : List TermId) → IsDistinct eqb (numbers ids) → IsDistinct eqb (numbers (filter p ids))
unfolding IsDistinct
kept_once p [] h = tt
kept_once p (id ∷ ids) h = by (p id) (kept_all (λ (n : ℕ). eqb id.0 n ≡ false) p ids h.0) (kept_once p ids h.1)
  where
    by : (b : Bool) → AllByRecursion (λ (n : ℕ). eqb id.0 n ≡ false) (numbers (filter p ids)) → IsDistinct eqb (numbers (filter p ids)) → IsDistinct eqb (numbers (cond b (id ∷ filter p ids) (filter p ids)))
    by true all rest = (all, rest)
    by false all rest = rest

pub sets_once : (env : Environment) (sets : List (TermId × RuleSet)) → AreRuleSets env sets → IsDistinct eqb (ids_of sets)
sets_once env sets stand =
    subst (IsDistinct eqb) (sym (ids_are sets ∙ ap numbers stand.ids)) (kept_once (has_rules env) (term_ids env) (range_once 0 (length env.terms)))
