-- An environment is clean if no rule of a term is unreachable, no two overlap and none shadows another.
use Rattle.std.proofs.Common.{ℕ, zero, suc, List, [], ◌∷◌, length, Bool, false, None, refl, sym, true≢false}
use Rattle.isle_core.specs.declared.TermId.{TermId}
use Rattle.isle_core.specs.Rule.{Environment, Rule, rules_of}
use Rattle.isle_core.specs.Terms.{with_rules}
use Rattle.isle_checks.specs.CheckList.{AreErrorsAt, AreErrorsBelow, AreErrorsOfTerms, is_multi, IsClean}
use Rattle.isle_checks.specs.RuleChecks.{UnreachableAt, OverlapsAt, ShadowsAt}

-- nothing is wrong with these rules
pub record AreFlawless (env : Environment) (rules : List Rule) : Type 0 where
  pub reachable : (j : ℕ) → UnreachableAt env rules j → ⊥
  pub apart : (i j : ℕ) → OverlapsAt env rules i j → ⊥
  pub shown : (i j : ℕ) → ShadowsAt env rules i j → ⊥

none_at : (env : Environment) (multi : Bool) (rules : List Rule) (j : ℕ) → AreFlawless env rules
    → AreErrorsAt env multi rules j []
none_at env multi rules j h = record {
  unreachable = false;
  is_unreachable = (λ e. absurd (true≢false (sym e)), λ u. absurd (h.reachable j u));
  overlap = None;
  first_overlap = λ i o. h.apart i j o.1;
  shadow = None;
  first_shadow = λ i s. h.shown i j s.1;
  are = refl;
}

none_below : (env : Environment) (multi : Bool) (rules : List Rule) (n : ℕ) → AreFlawless env rules
    → AreErrorsBelow env multi rules n []
none_below env multi rules zero h = refl
none_below env multi rules (suc n) h = ([], [], none_below env multi rules n h, none_at env multi rules n h, refl)

none_of_terms : (env : Environment) (ids : List TermId) → ((id : TermId) → AreFlawless env (rules_of env id))
    → AreErrorsOfTerms env ids []
none_of_terms env [] h = refl
none_of_terms env (id ∷ ids) h =
    let rules = rules_of env id in
    ([], [], none_below env (is_multi env id) rules (length rules) (h id), none_of_terms env ids h, refl)

-- if so of the rules of each term, the environment is clean
pub clean : (env : Environment) → ((id : TermId) → AreFlawless env (rules_of env id)) → IsClean env
clean env h = ([], none_of_terms env (with_rules env) h, refl)
