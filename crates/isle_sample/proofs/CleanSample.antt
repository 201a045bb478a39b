-- Nothing is wrong with the rules of a sample.
use Rattle.std.proofs.Common.{ℕ, ◌*◌, List, sym, subst}
use Rattle.std.specs.Prelude.{◌==◌}
use Rattle.std.specs.List.{AllByRecursion}
use Rattle.isle_core.specs.declared.TermId.{TermId}
use Rattle.isle_core.specs.Rule.{Environment, Rule, rules_of}
use Rattle.isle_checks.specs.CheckList.{IsClean}
use Rattle.isle_checks.specs.RuleChecks.{Unreachable, Overlaps, Shadows}
use Rattle.isle_checks.proofs.TermErrors.{all_filter}
use Rattle.isle_sample.proofs.SampleLines.{lines}
use Rattle.isle_sample.proofs.SampleEnvironment.{IsSampleEnvironment}
use Rattle.isle_sample.proofs.CleanLines.{lines_rise}
use Rattle.isle_sample.proofs.CleanPairs.{ArePairs, some_at, pairs_none, pairs_numbered}
use Rattle.isle_sample.proofs.CleanTests.{TestsLittle, reachable, no_shadow}
use Rattle.isle_sample.proofs.CleanRules.{AreApart, all_little, all_apart}
use Rattle.isle_sample.proofs.CleanErrors.{AreFlawless, clean}

-- rules that test little, no two of which overlap
flawless : (env : Environment) (rules : List Rule) → AllByRecursion (TestsLittle env) rules
    → ArePairs (λ q r. Overlaps env q r → ⊥) rules → AreFlawless env rules
flawless env rules little apart = record {
  reachable = λ j u.
      let found = some_at (TestsLittle env) (Unreachable env) rules j little u in
      reachable env found.0 found.1 found.2;
  apart = λ i j o. pairs_none (Overlaps env) rules i j apart o.0 o.1;
  shown = λ i j s.
      let first = some_at (TestsLittle env) _ rules i little s in
      let second = some_at (TestsLittle env) (Shadows env first.0) rules j little first.2 in
      no_shadow env first.0 second.0 first.1 second.1 second.2;
}

-- the rules of one term of all that test little, no two of one term overlapping
of_term : (env : Environment) (id : TermId) → AllByRecursion (TestsLittle env) env.rules
    → ArePairs (AreApart env) env.rules → AreFlawless env (rules_of env id)
of_term env id little apart =
    flawless env (rules_of env id) (all_filter (TestsLittle env) (λ (r : Rule). r.root_term.0 == id.0) env.rules little)
    (pairs_numbered (λ (r : Rule). r.root_term.0) id.0 (λ q r. Overlaps env q r → ⊥) env.rules apart)

-- the environment of a sample is clean
pub sample_clean : (n : ℕ) (env : Environment) → IsSampleEnvironment n env → IsClean env
sample_clean n env h =
    clean env λ id. of_term env id
    (subst (AllByRecursion (TestsLittle env)) (sym h.rules) (all_little env 0 0 (lines n)))
    (subst (ArePairs (AreApart env)) (sym h.rules) (all_apart env 0 (18 * n) 0 0 (lines n) (lines_rise n)))
