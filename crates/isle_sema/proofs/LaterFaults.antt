-- The fault of extractors and rules, by what is found of each.
use Rattle.std.proofs.Common.{◌≡◌, [], Option, Some, None, Result, Ok, Err, sym, ap, ◌∙◌}
use Rattle.std.specs.Global.{Vec}
use Rattle.isle_core.specs.declared.position.Pos.{Pos}
use Rattle.isle_core.specs.declared.rules.Rule.{Rule as CodeRule}
use Rattle.isle_declarations.specs.Signatures.{rule_defs}
use Rattle.isle_types.specs.declared.row.Row.{Row}
use Rattle.isle_terms.specs.Whole.{Whole}
use Rattle.isle_sema.specs.declared.fault.Fault.{Fault}
use Rattle.isle_sema.specs.declared.templates.Extractors.{Extractors}
use Rattle.isle_sema.specs.Fault.{OfExtractors, OfRules, or_later, fault_in, later_fault}
use Rattle.isle_sema.specs.RulesFound.{rules_fault, AreRulesFound}
use Rattle.isle_sema.specs.TakenAt.{AreRulesAt}
use Rattle.isle_sema.specs.TemplatesChecked.{AreTaken}
use Rattle.isle_sema.proofs.RuleLaws.{rules_fault_is}

-- that of extractors comes first
pub extractors_first : (w : Whole) (f : Row × Pos) → fault_in OfExtractors w ≡ Some f → later_fault w ≡ Some f
extractors_first w f h = ap (λ o. or_later o (fault_in OfRules w)) h

-- after none of extractors it is that of rules
pub rules_behind : (w : Whole) (o : Option (Row × Pos)) → fault_in OfExtractors w ≡ None → rules_fault w (rule_defs w.defs) ≡ o → later_fault w ≡ o
rules_behind w o none h = ap (λ x. or_later x (fault_in OfRules w)) none ∙ rules_fault_is w [] w.defs ∙ h

-- what is found of rules, after templates that are taken
pub rules_given : (w : Whole) (taken : Extractors) (found : Result (Vec CodeRule) Fault) → AreTaken w taken → AreRulesFound w (rule_defs w.defs) found → AreRulesAt w found
rules_given w taken (Err fault) t h = rules_behind w (Some (fault.row, fault.pos)) t.sound h
rules_given w taken (Ok rules) t h = record { sound = rules_behind w None t.sound h.sound; treed = t.treed; made = h.made }
