-- Rules that are found one after the other: what is left.
use Rattle.std.proofs.Common.{◌≡◌, ℕ, ◌+◌, ◌<◌, ◌≤◌, List, [], ◌∷◌, ◌++◌, length, map, get_or, Option, Some, None, refl, sym, ap, ◌∙◌, subst}
use Rattle.std.specs.Prelude.{Contains, drop, option_map}
use Rattle.std.proofs.lemmas.List.{length-map, get_or-map, drop_more, drop_all, map-append, append-nil}
use Rattle.isle_core.specs.declared.rules.Rule.{Rule as CodeRule}
use Rattle.isle_core.specs.RuleViews.{rule as elaborated_rule}
use Rattle.isle_declarations.specs.declared.collected.RuleDef.{RuleDef as CodeRuleDef}
use Rattle.isle_declarations.specs.Collected.{rule as seen}
use Rattle.isle_declarations.specs.Signatures.{RuleDef}
use Rattle.isle_types.specs.declared.row.Row.{Row}
use Rattle.isle_types.specs.Fault.{or_later}
use Rattle.isle_terms.specs.TermPass.{tree_before}
use Rattle.isle_terms.specs.Whole.{Whole}
use Rattle.isle_terms.proofs.TermSteps.{before, one_before}
use Rattle.isle_sema.specs.RulePass.{rules_pass}
use Rattle.isle_sema.specs.RulesFound.{IsRuleMade, AreRulesMade, rules_fault}
use Rattle.isle_sema.specs.Taken.{row_of}

-- what all rules come to is what was found, and what is left from the i-th on
pub record AreLeft (w : Whole) (all : List RuleDef) (i : ℕ) (left : List RuleDef) (found : List CodeRule) : Type 0 where
  pub fault : rules_fault w all ≡ rules_fault w left
  pub made : rules_pass w 0 all ≡ before (map elaborated_rule found) (rules_pass w i left)

-- the rules from the i-th on are that one and the rest
rules_are : (rs : List CodeRuleDef) (i : ℕ) (r d : CodeRuleDef) → i < length rs → r ≡ get_or rs i d → map seen (drop i rs) ≡ seen r ∷ map seen (drop (i + 1) rs)
rules_are rs i r d lt is = ap (map seen) (drop_more rs i d lt ∙ ap (λ y. y ∷ drop (i + 1) rs) (sym is))

-- it is among those of all
pub rule_contained : (rs : List CodeRuleDef) (i : ℕ) (r d : CodeRuleDef) → i < length rs → r ≡ get_or rs i d → Contains (map seen rs) (seen r)
rule_contained rs i r d lt is = (i, subst (λ n. i < n) (sym (length-map rs seen)) lt, get_or-map seen rs i d (seen r) lt ∙ ap seen (sym is))

fault_step : (w : Whole) (r : RuleDef) (rs : List RuleDef) → row_of w r ≡ None → rules_fault w (r ∷ rs) ≡ rules_fault w rs
fault_step w r rs none = ap (λ o. or_later (option_map (λ (row : Row). (row, r.pos)) o) (rules_fault w rs)) none

-- a rule that breaks none
pub rule_more : (w : Whole) (all : List RuleDef) (rs : List CodeRuleDef) (i : ℕ) (found more : List CodeRule) (r d : CodeRuleDef) (x : CodeRule) → i < length rs → r ≡ get_or rs i d → more ≡ found ++ x ∷ []
    → IsRuleMade w i (seen r) x → AreLeft w all i (map seen (drop i rs)) found → AreLeft w all (i + 1) (map seen (drop (i + 1) rs)) more
rule_more w all rs i found more r d x lt is added one h =
    let rest = map seen (drop (i + 1) rs) in
    record {
      fault = h.fault ∙ ap (rules_fault w) (rules_are rs i r d lt is) ∙ fault_step w (seen r) rest one.sound;
      made =
          h.made ∙ ap (λ ys. before (map elaborated_rule found) (rules_pass w i ys)) (rules_are rs i r d lt is)
          ∙ ap (λ o. before (map elaborated_rule found) (tree_before o (rules_pass w (i + 1) rest))) one.made
          ∙ one_before (map elaborated_rule found) (elaborated_rule x) (rules_pass w (i + 1) rest)
          ∙ ap (λ ys. before ys (rules_pass w (i + 1) rest)) (sym (map-append elaborated_rule found (x ∷ [])) ∙ ap (map elaborated_rule) (sym added));
    }

-- one that breaks a row
pub rule_broken : (w : Whole) (all : List RuleDef) (rs : List CodeRuleDef) (i : ℕ) (found : List CodeRule) (r d : CodeRuleDef) (row : Row) → i < length rs → r ≡ get_or rs i d → row_of w (seen r) ≡ Some row
    → AreLeft w all i (map seen (drop i rs)) found → rules_fault w all ≡ Some (row, r.pos)
rule_broken w all rs i found r d row lt is broken h =
    let rest = map seen (drop (i + 1) rs) in
    h.fault ∙ ap (rules_fault w) (rules_are rs i r d lt is) ∙ ap (λ o. or_later (option_map (λ (x : Row). (x, r.pos)) o) (rules_fault w rest)) broken

-- after the last
pub rules_end : (w : Whole) (all : List RuleDef) (rs : List CodeRuleDef) (i : ℕ) (found : List CodeRule) → length rs ≤ i → AreLeft w all i (map seen (drop i rs)) found → AreRulesMade w all found
rules_end w all rs i found le h =
    let none : map seen (drop i rs) ≡ [] = ap (map seen) (drop_all i rs le) in
    record {
      sound = h.fault ∙ ap (rules_fault w) none;
      made = h.made ∙ ap (λ ys. before (map elaborated_rule found) (rules_pass w i ys)) none ∙ ap Some (append-nil (map elaborated_rule found));
    }
