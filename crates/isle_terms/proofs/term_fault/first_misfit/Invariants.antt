use Rattle.std.proofs.Common.{◌≡◌, take}
use Rattle.isle_ast.specs.Views.{defs as seen}
use Rattle.isle_terms.specs.ConverterViews.{AreMet}
use Rattle.isle_terms.specs.Misfits.{AreCounted}
use Rattle.isle_terms.specs.TermFault.{term_fault}
use Rattle.isle_terms.specs.Whole.{whole_of}
use Rattle.isle_terms.proofs.FaultSteps.{fault_from}
use Rattle.isle_terms.proofs.term_fault.first_misfit.Given as goal

abbrev pub invariant-loop-given : goal.invariant-loop-given
invariant-loop-given l =
    (term_fault (whole_of (seen l.names.declarations.now)) ≡ fault_from l.given-index l.names.declarations.now)
    × AreCounted (seen (take l.given-index l.names.declarations.now)) l.counts
    × AreMet (seen l.names.declarations.now) (seen (take l.given-index l.names.declarations.now)) l.found
