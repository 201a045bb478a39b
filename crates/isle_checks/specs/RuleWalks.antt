-- Which terms the rules of terms use, and closed walks of them.
use Rattle.std.specs.Prelude.{◌≡◌, List, [], ◌∷◌, true, false, Contains}
use Rattle.isle_core.specs.declared.TermId.{TermId}
use Rattle.isle_core.specs.CalledTerms.{Role, called}
use Rattle.isle_core.specs.Rule.{Environment, rules_of}
use Rattle.isle_core.specs.Terms.{has_rules}
use Rattle.isle_checks.specs.Recursions.{is_marked}

-- a rule of the one term calls the other, as a constructor or as an extractor, and the other has rules
abbrev pub RulesUse : Environment → (one other : TermId) → Type 0
RulesUse env one other = (role : Role) × Contains (called env (rules_of env one)) (record { term = other; role = role }) × (has_rules env other ≡ true)

-- a walk leads from the one term through these to the other, each using the next
abbrev pub IsRuleWalk : Environment → (from : TermId) → List TermId → (to : TermId) → Type 0
IsRuleWalk env from [] to = RulesUse env from to
IsRuleWalk env from (next ∷ rest) to = RulesUse env from next × IsRuleWalk env next rest to

-- a term is on a closed walk: one leads from it back to it
abbrev pub IsOnRuleWalk : Environment → TermId → Type 0
IsOnRuleWalk env id = (between : List TermId) × IsRuleWalk env id between id

-- a term is on a closed walk of rules and not marked with `rec`
abbrev pub IsUnmarkedTerm : Environment → TermId → Type 0
IsUnmarkedTerm env id = IsOnRuleWalk env id × (is_marked env.terms id ≡ false)
