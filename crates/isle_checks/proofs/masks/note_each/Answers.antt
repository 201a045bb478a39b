use Rattle.std.proofs.Common.{rules, ◌<◌, subst, sym}
use Rattle.isle_checks.specs.declared.placed.Check.TheVariants as check
use Rattle.isle_checks.specs.Lists.{listing}
use Rattle.isle_checks.proofs.FindLaws.{find_next}
use Rattle.isle_checks.proofs.MakerLaws.{at_contained}
use Rattle.isle_checks.proofs.MaskLaws.{candidates_found}
use Rattle.isle_checks.proofs.masks.note_each.Goals as goal

pub note_mask-requires-clause-below : goal.note_mask-requires-clause-below
note_mask-requires-clause-below c =
    subst (λ n. c.other-item.result.place < n) (sym c.loop-other.invariant.long) (c.requires.below c.other-item.result (at_contained c.args.group.now c.loop-other.other-index c.other-item.result (search rules) c.other-item.is))

pub loop-other-preserved : goal.loop-other-preserved
loop-other-preserved c =
    find_next check.Shadows c.args.group.now c.args.group.now c.loop-other.other-index c.other-item.result c.args.found.now.items c.loop-other.found.items c.note_mask.new.found.items (search rules) c.other-item.is c.loop-other.invariant
    (candidates_found c.args.group.now (listing c.args.lists.now) c.other-item.result c.loop-other.found.items c.note_mask.new.found.items c.requires.lists c.note_mask.ensures)
