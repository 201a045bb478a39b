-- The errors of rules are one list.
use Rattle.std.proofs.Common.{◌≡◌, ℕ, zero, suc, List, [], ◌∷◌, ◌++◌, length, map, Bool, true, false, Option, Some, None, refl, sym, ap, ◌∙◌, arith}
use Rattle.std.specs.Prelude.{◌↔◌, IsTrue}
use Rattle.isle_core.specs.declared.TermId.{TermId}
use Rattle.isle_core.specs.declared.errors.Error.{Error}
use Rattle.isle_core.specs.Terms.{with_rules}
use Rattle.isle_core.specs.Rule.{Environment, Rule, rules_of}
use Rattle.isle_checks.specs.Firsts.{IsFirst}
use Rattle.isle_checks.specs.CheckList.{RuleError, errors_of, positions, told, is_multi, AreErrorsAt, AreErrorsBelow, AreErrorsOfTerms, IsCheckList, IsClean}

-- the first place is one
first_once : (P : ℕ → Type 0) (o p : Option ℕ) → IsFirst P o → IsFirst P p → o ≡ p
first_once P None None h k = refl
first_once P None (Some j) h k = absurd (h j k.0)
first_once P (Some i) None h k = absurd (k i h.0)
first_once P (Some i) (Some j) h k = let le = h.1 j k.0 in let ge = k.1 i h.0 in ap Some {y = j} (omega (arith, le, ge))

-- what holds exactly if something does is one truth
truth_once : (P : Type 0) (u v : Bool) → IsTrue u ↔ P → IsTrue v ↔ P → u ≡ v
truth_once P true v h k = sym (k.1 (h.0 refl))
truth_once P false true h k = h.1 (k.0 refl)
truth_once P false false h k = refl

at_once : (env : Environment) (multi : Bool) (rules : List Rule) (j : ℕ) (es fs : List RuleError) → AreErrorsAt env multi rules j es → AreErrorsAt env multi rules j fs → es ≡ fs
at_once env multi rules j es fs h k =
    h.are
    ∙ ap (λ u. errors_of (positions rules) j u h.overlap h.shadow) (truth_once _ h.unreachable k.unreachable h.is_unreachable k.is_unreachable)
    ∙ ap (λ o. errors_of (positions rules) j k.unreachable o h.shadow) (first_once _ h.overlap k.overlap h.first_overlap k.first_overlap)
    ∙ ap (errors_of (positions rules) j k.unreachable k.overlap) (first_once _ h.shadow k.shadow h.first_shadow k.first_shadow)
    ∙ sym k.are

joined : (front other last next es fs : List RuleError) → front ≡ other → last ≡ next → es ≡ front ++ last → fs ≡ other ++ next → es ≡ fs
joined front other last next es fs a b e f = e ∙ ap (λ xs. xs ++ last) a ∙ ap (λ xs. other ++ xs) b ∙ sym f

below_once : (env : Environment) (multi : Bool) (rules : List Rule) (n : ℕ) (es fs : List RuleError) → AreErrorsBelow env multi rules n es → AreErrorsBelow env multi rules n fs → es ≡ fs
below_once env multi rules zero es fs h k = h ∙ sym k
below_once env multi rules (suc n) es fs h k = joined h.0 k.0 h.1 k.1 es fs (below_once env multi rules n h.0 k.0 h.2 k.2) (at_once env multi rules n h.1 k.1 h.3 k.3) h.4 k.4

terms_once : (env : Environment) (ids : List TermId) (es fs : List RuleError) → AreErrorsOfTerms env ids es → AreErrorsOfTerms env ids fs → es ≡ fs
terms_once env [] es fs h k = h ∙ sym k
terms_once env (id ∷ ids) es fs h k =
    joined h.0 k.0 h.1 k.1 es fs (below_once env (is_multi env id) (rules_of env id) (length (rules_of env id)) h.0 k.0 h.2 k.2) (terms_once env ids h.1 k.1 h.3 k.3) h.4 k.4

-- errors that say what is wrong with the rules of an environment say the same, words aside
pub list_once : (env : Environment) (errors others : List Error) → IsCheckList env errors → IsCheckList env others → map told errors ≡ map told others
list_once env errors others h k = h.2 ∙ ap (map Some) (terms_once env (with_rules env) h.0 k.0 h.1 k.1) ∙ sym k.2

nil_of : (errors : List Error) → map told errors ≡ [] → errors ≡ []
nil_of [] e = refl
nil_of (x ∷ errors) e = cc

-- if nothing is wrong there are none
pub none_wrong : (env : Environment) (errors : List Error) → IsClean env → IsCheckList env errors → errors ≡ []
none_wrong env errors h k = nil_of errors (sym (list_once env [] errors h k))
