-- The errors of rule sets are those of rules, and there is one list of them.
use Rattle.std.proofs.Common.{◌≡◌, ◌↔◌, List, [], ◌∷◌, map, Bool, true, false, refl, sym, ap, ◌∙◌, subst, true≢false}
use Rattle.std.specs.Prelude.{IsTrue, slice_get}
use Rattle.isle_core.specs.declared.TermId.{TermId}
use Rattle.isle_core.specs.declared.errors.Error.{Error}
use Rattle.isle_core.specs.declared.position.Pos.{Pos}
use Rattle.isle_core.specs.declared.rule_sets.RuleSet.{RuleSet}
use Rattle.isle_core.specs.Rule.{Environment}
use Rattle.isle_core.specs.Terms.{with_rules}
use Rattle.isle_rulesets.specs.Grouping.{AreRuleSets}
use Rattle.isle_checks.specs.Recursions.{told_before, AreUnmarked, recursion_error, IsRecursionList}
use Rattle.isle_checks.specs.RuleErrors.{AreUnmarkedTerms, IsRecursionOf}
use Rattle.isle_checks.proofs.RuleUses.{HaveHeads}
use Rattle.isle_checks.proofs.RuleWalkLaws.{same_unmarked}

module _ (env : Environment) (sets : List (TermId × RuleSet)) (stand : AreRuleSets env sets) (heads : HaveHeads env) where
  told_by_rules : (some : List (TermId × RuleSet)) (ps : List Pos) → AreUnmarked env.terms sets some ps → AreUnmarkedTerms env (map (λ (s : TermId × RuleSet). s.0) some) ps
  told_by_rules [] ps h = h
  told_by_rules (s ∷ some) ps h =
      let same = same_unmarked env sets stand heads s.0 in
      (h.0, h.1, (λ t. same.0 (h.2.0 t), λ u. h.2.1 (same.1 u)), told_by_rules some h.1 h.3, h.4)

  -- what is known of rule sets is told of the rules that they stand for
  pub list_of_rules : (errors : List Error) → IsRecursionList env.terms sets errors → IsRecursionOf env errors
  list_of_rules errors h = (h.0, subst (λ (ids : List TermId). AreUnmarkedTerms env ids h.0) stand.ids (told_by_rules sets h.0 h.1), h.2)

one_truth : {P : Type 0} (a b : Bool) → IsTrue a ↔ P → IsTrue b ↔ P → a ≡ b
one_truth true true h k = refl
one_truth true false h k = absurd (true≢false (sym (k.1 (h.0 refl))))
one_truth false true h k = absurd (true≢false (sym (h.1 (k.0 refl))))
one_truth false false h k = refl

unmarked_once : (env : Environment) (ids : List TermId) (ps qs : List Pos) → AreUnmarkedTerms env ids ps → AreUnmarkedTerms env ids qs → ps ≡ qs
unmarked_once env [] ps qs h k = h ∙ sym k
unmarked_once env (id ∷ ids) ps qs h k =
    h.4 ∙ ap (λ b. told_before b (slice_get env.terms id.0) h.1) (one_truth h.0 k.0 h.2 k.2)
    ∙ ap (told_before k.0 (slice_get env.terms id.0)) (unmarked_once env ids h.1 k.1 h.3 k.3) ∙ sym k.4

-- there is one list of the errors
pub recursion_once : (env : Environment) (errors others : List Error) → IsRecursionOf env errors → IsRecursionOf env others → errors ≡ others
recursion_once env errors others h k = h.2 ∙ ap (map recursion_error) (unmarked_once env (with_rules env) h.0 k.0 h.1 k.1) ∙ sym k.2
