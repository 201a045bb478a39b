-- No term of a sample uses another one.
use Rattle.std.proofs.Common.{◌≡◌, ℕ, List, [], ◌∷◌, ◌++◌, false, refl, sym, ap, ◌∙◌, subst, true≢false}
use Rattle.std.specs.Prelude.{◌↔◌, ◌==◌, IsTrue, Contains}
use Rattle.std.specs.List.{AllByRecursion}
use Rattle.isle_core.specs.declared.TermId.{TermId}
use Rattle.isle_core.specs.CalledTerms.{CalledTerm, called, called_in}
use Rattle.isle_core.specs.Rule.{Environment, Rule, rules_of}
use Rattle.isle_core.specs.Terms.{with_rules}
use Rattle.isle_core.proofs.Contained.{none_contained}
use Rattle.isle_checks.specs.RuleErrors.{AreUnmarkedTerms, IsRecursionOf}
use Rattle.isle_checks.specs.RuleWalks.{RulesUse, IsRuleWalk, IsUnmarkedTerm}
use Rattle.isle_checks.proofs.TermErrors.{all_filter}
use Rattle.isle_sample.proofs.SampleLines.{lines}
use Rattle.isle_sample.proofs.SampleEnvironment.{IsSampleEnvironment}
use Rattle.isle_sample.proofs.CleanRules.{all_rules}

-- a rule calls no term
abbrev CallsNone : Environment → Rule → Type 0
CallsNone env r = called_in env r ≡ []

-- rules of which none calls one
none_called : (env : Environment) (rules : List Rule) → AllByRecursion (CallsNone env) rules → called env rules ≡ []
none_called env [] h = refl
none_called env (r ∷ rules) h = ap (λ xs. xs ++ called env rules) h.0 ∙ none_called env rules h.1

module _ (env : Environment) (none : AllByRecursion (CallsNone env) env.rules) where
  none_used : (one other : TermId) → RulesUse env one other → ⊥
  none_used one other use_of =
      let call : CalledTerm = record { term = other; role = use_of.0 } in
      let of_one = all_filter (CallsNone env) (λ (r : Rule). r.root_term.0 == one.0) env.rules none in
      none_contained call (subst (λ xs. Contains xs call) (none_called env (rules_of env one) of_one) use_of.1)

  no_walk : (from : TermId) (between : List TermId) (to : TermId) → IsRuleWalk env from between to → ⊥
  no_walk from [] to walk = none_used from to walk
  no_walk from (next ∷ rest) to walk = none_used from next walk.0

  none_unmarked : (ids : List TermId) → AreUnmarkedTerms env ids []
  none_unmarked [] = refl
  none_unmarked (id ∷ ids) =
      let never : IsTrue false ↔ IsUnmarkedTerm env id =
      (λ e. absurd (true≢false (sym e)), λ u. absurd (no_walk id u.0.0 id u.0.1)) in
      (false, [], never, none_unmarked ids, refl)

-- no term of a sample uses itself without being marked so
pub sample_unmarked : (n : ℕ) (env : Environment) → IsSampleEnvironment n env → IsRecursionOf env []
sample_unmarked n env h =
    let each = all_rules (CallsNone env) (λ number i a b at. refl) (λ number i at. refl) 0 0 (lines n) in
    let none = subst (AllByRecursion (CallsNone env)) (sym h.rules) each in
    ([], none_unmarked env none (with_rules env), refl)
