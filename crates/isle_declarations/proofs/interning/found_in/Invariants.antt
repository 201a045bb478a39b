use Rattle.isle_declarations.proofs.Gathered.{AreGathered}
use Rattle.isle_declarations.proofs.interning.found_in.Given as goal

abbrev pub invariant-loop-given : goal.invariant-loop-given
invariant-loop-given l = AreGathered l.defs l.given-index l.symbols l.signatures.items l.externs.items l.extractors.items l.rules.items
