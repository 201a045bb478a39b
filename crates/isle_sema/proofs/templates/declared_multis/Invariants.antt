use Rattle.std.proofs.Common.{◌≡◌, map, take}
use Rattle.isle_declarations.specs.Signatures.{Signature}
use Rattle.isle_declarations.specs.TermViews.{term_def}
use Rattle.isle_sema.proofs.templates.declared_multis.Given as goal

abbrev pub invariant-loop-term : goal.invariant-loop-term
invariant-loop-term l = l.flags.items ≡ map (λ (s : Signature). s.multi) (map term_def (take l.term-index l.terms))
