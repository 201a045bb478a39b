use Rattle.std.proofs.Common.{rules, ◌<◌, subst, sym}
use Rattle.isle_checks.proofs.MakerLaws.{at_contained}
use Rattle.isle_checks.proofs.FindLaws.{find_more}
use Rattle.isle_checks.proofs.notes.compare.Goals as goal

pub note_first-requires-clause-below : goal.note_first-requires-clause-below
note_first-requires-clause-below c =
    subst (λ n. c.other-item.result.place < n) (sym c.loop-other.invariant.long) (c.requires.below c.other-item.result (at_contained c.args.others.now c.loop-other.other-index c.other-item.result (search rules) c.other-item.is))

pub loop-other-preserved : goal.loop-other-preserved
loop-other-preserved c =
    find_more c.args.check c.args.makers.now c.args.others.now c.loop-other.other-index c.other-item.result c.args.found.now.items c.loop-other.found.items c.note_first.new.found.items c.note_first.ensures.0 (search rules) c.other-item.is c.loop-other.invariant c.note_first.ensures.1 c.note_first.ensures.2
