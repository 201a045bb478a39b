use Rattle.std.proofs.Common.{◌≡◌, length}
use Rattle.isle_core.specs.Rule.{Environment}
use Rattle.isle_lawful_names.specs.Judges.{AreRuled}
use Rattle.isle_lawful_names.proofs.TermSteps.{TermsFrom}
use Rattle.isle_lawful_names.proofs.terms.in_terms.Given as goal

abbrev pub invariant-loop-id : goal.invariant-loop-id
invariant-loop-id l = (env : Environment) → env.types ≡ l.types → AreRuled (length l.terms) env.rules l.ruled → TermsFrom env l.terms l.id l.names
