use Rattle.std.proofs.Common.{drop}
use Rattle.isle_checks.proofs.MakerLaws.{AreLeft}
use Rattle.isle_checks.proofs.notes.first_maker.Given as goal

abbrev pub invariant-loop-maker : goal.invariant-loop-maker
invariant-loop-maker l = AreLeft l.check l.makers l.other (drop l.maker-index l.makers)
