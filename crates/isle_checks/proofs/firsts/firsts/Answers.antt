use Rattle.std.proofs.Common.{rules, length, ◌∙◌, ap, None}
use Rattle.isle_checks.proofs.FirstLaws.{placed_below, long_replicate, are_firsts}
use Rattle.isle_checks.proofs.firsts.firsts.Goals as goal

pub note-requires-clause-below : goal.note-requires-clause-below
note-requires-clause-below c =
    rw c.as_slice.ensures.value (placed_below c.args.rules.now c.in_ok-group.group.items _ (ap length c.in_ok-found.ensures ∙ long_replicate (length c.args.rules.now) None) c.in_ok-group.ensures)

pub returns : goal.returns
returns c =
    are_firsts c.args.check c.args.rules.now c.in_ok-group.group.items c.in_ok-found.found.items _ c.in_ok-group.ensures (rw c.as_slice.ensures.value at c.in_ok-note.ensures) (length c.args.rules.now) (search rules) c.in_ok-found.ensures
