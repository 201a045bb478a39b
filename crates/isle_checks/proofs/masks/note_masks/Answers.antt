use Rattle.std.proofs.Common.{rules, ◌∙◌, refl, subst, sym}
use Rattle.isle_checks.specs.Lists.{AreLists, listing}
use Rattle.isle_checks.specs.Masks.{BearsKey}
use Rattle.isle_checks.proofs.FindLaws.{below_part}
use Rattle.isle_checks.proofs.MaskLaws.{one_priority_found, plain_found}
use Rattle.isle_checks.proofs.masks.note_masks.Goals as goal

pub returns-then-have_one_priority : goal.returns-then-have_one_priority
returns-then-have_one_priority c = one_priority_found c.args.group.now c.args.found.now.items (c.have_one_priority.ensures (search rules))

pub note_each-requires-clause-lists : goal.note_each-requires-clause-lists
note_each-requires-clause-lists c = subst (λ plain. AreLists BearsKey plain (listing c.in_ok-lists.lists)) (c.as_slice.ensures.value ∙ sym c.as_slice-2.ensures.value) c.in_ok-lists.ensures

pub note_each-requires-clause-below : goal.note_each-requires-clause-below
note_each-requires-clause-below c = rw c.as_slice-2.ensures.value (below_part c.args.group.now c.in_ok-plain.plain.items _ _ c.in_ok-plain.ensures.from refl c.requires.below)

pub returns : goal.returns
returns c = plain_found c.args.group.now c.in_ok-plain.plain.items c.args.found.now.items c.note_each.new.found.items c.in_ok-plain.ensures (rw c.as_slice-2.ensures.value at c.note_each.ensures)
