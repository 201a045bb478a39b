use Rattle.std.proofs.Common.{ℕ, List}
use Rattle.isle_lawful_names.specs.NameSet.{HasNames}
use Rattle.isle_meta.proofs.RepeatedTerms.{TermsFrom}
use Rattle.isle_meta.proofs.repeats.has_repeated_term.Given as goal

abbrev pub invariant-loop-term : goal.invariant-loop-term
invariant-loop-term l = (earlier : List (List ℕ)) → HasNames earlier l.fn.met → TermsFrom earlier l.terms l.term-index l.met l.found
