use Rattle.std.proofs.Common.{rules, ◌≡◌, ap, sym, subst, ◌∷◌, [], Some}
use Rattle.std.specs.BTreeMap.{get}
use Rattle.isle_checks.specs.declared.lists.Key.TheVariants as key
use Rattle.isle_checks.specs.declared.placed.Check.TheVariants as check
use Rattle.isle_checks.specs.Firsts.{Finds}
use Rattle.isle_checks.specs.Lists.{Rises, key_cmp}
use Rattle.isle_checks.proofs.FindLaws.{one_found}
use Rattle.isle_checks.proofs.ListLaws.{items_of}
use Rattle.isle_checks.proofs.RankLaws.{notes_still, tail_rises}
use Rattle.isle_checks.proofs.masks.note_under.Goals as goal

pub note_first-requires-clause-rise : goal.note_first-requires-clause-rise
note_first-requires-clause-rise c =
    let k = key.Constraint c.args.x.now.0 c.args.x.now.1 in
    let there : get key_cmp c.args.lists.now.under k ≡ Some c.in-Some.makers.now = search rules in
    tail_rises c.in-Some.makers.now c.above.result.now c.args.other.now c.above.ensures (subst Rises (ap items_of there) (c.requires.rise (Some k)))

pub returns-in-Some : goal.returns-in-Some
returns-in-Some c =
    let there : get key_cmp c.args.lists.now.under (key.Constraint c.args.x.now.0 c.args.x.now.1) ≡ Some c.in-Some.makers.now = search rules in
    let noted = notes_still c.in-Some.makers.now c.above.result.now c.args.other.now c.above.ensures c.args.found.now.items c.note_first.new.found.items c.note_first.ensures in
    subst (λ ms. Finds check.Shadows ms (c.args.other.now ∷ []) c.args.found.now.items c.note_first.new.found.items) (sym (ap items_of there))
    (one_found check.Shadows c.in-Some.makers.now c.args.other.now c.args.found.now.items c.note_first.new.found.items noted.0 noted.1 noted.2)
