use Rattle.std.proofs.Common.{◌<◌, ◌∷◌, [], subst, sym, None}
use Rattle.isle_checks.specs.declared.placed.Check.TheVariants as check
use Rattle.isle_checks.specs.Lists.{listing}
use Rattle.isle_checks.specs.Masks.{under_each}
use Rattle.isle_checks.proofs.FindLaws.{one_found, noted_long, find_makers}
use Rattle.isle_checks.proofs.RankLaws.{notes_still, tail_rises}
use Rattle.isle_checks.proofs.masks.note_mask.Goals as goal

pub note_first-requires-clause-rise : goal.note_first-requires-clause-rise
note_first-requires-clause-rise c = tail_rises c.args.lists.now.rest c.above.result.now c.args.other.now c.above.ensures (c.requires.rise None)

pub note_each_under-requires-clause-below : goal.note_each_under-requires-clause-below
note_each_under-requires-clause-below c =
    let noted = c.note_first.ensures in
    subst (λ n. c.args.other.now.place < n) (sym (noted_long c.args.found.now.items c.note_first.new.found.items c.args.other.now.place noted.0 noted.2)) c.requires.below

pub returns : goal.returns
returns c =
    let noted = notes_still c.args.lists.now.rest c.above.result.now c.args.other.now c.above.ensures c.args.found.now.items c.note_first.new.found.items c.note_first.ensures in
    let lists = listing c.args.lists.now in
    let xs = c.args.other.now.rule.now.constraints in
    let rest = one_found check.Shadows c.args.lists.now.rest c.args.other.now c.args.found.now.items c.note_first.new.found.items noted.0 noted.1 noted.2 in
    let each = rw c.as_slice.ensures at c.note_each_under.ensures in
    find_makers check.Shadows c.args.found.now.items c.note_first.new.found.items c.note_each_under.new.found.items (lists None) (under_each lists xs) (c.args.other.now ∷ []) rest each
