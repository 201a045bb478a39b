use Rattle.std.proofs.Common.{◌≡◌, take}
use Rattle.isle_core.specs.Rule.{Environment}
use Rattle.isle_rulesets.specs.Grouping.{AreRuleSets}
use Rattle.isle_checks.specs.Built.{AreBuilt}
use Rattle.isle_checks.specs.CheckList.{TellTerms}
use Rattle.isle_checks.proofs.TermErrors.{ids_of}
use Rattle.isle_checks.proofs.overlap.errors_of.Given as goal

abbrev pub invariant-loop-set : goal.invariant-loop-set
invariant-loop-set l = (env : Environment) → env.terms ≡ l.terms → AreBuilt env → AreRuleSets env l.sets → TellTerms env (ids_of (take l.set-index l.sets)) l.errors.items
