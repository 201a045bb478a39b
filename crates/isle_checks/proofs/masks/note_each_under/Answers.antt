use Rattle.std.proofs.Common.{rules, ◌<◌, ◌∙◌, drop, subst, sym}
use Rattle.std.proofs.lemmas.List.{drop_all}
use Rattle.isle_checks.specs.Lists.{listing}
use Rattle.isle_checks.proofs.MaskLaws.{more_compared, all_compared}
use Rattle.isle_checks.proofs.masks.note_each_under.Goals as goal

pub loop-x-init : goal.loop-x-init
loop-x-init c = (λ new h. h, search rules)

pub note_under-requires-clause-below : goal.note_under-requires-clause-below
note_under-requires-clause-below c = subst (λ n. c.args.other.now.place < n) (sym c.loop-x.invariant.1) c.requires.below

pub loop-x-preserved : goal.loop-x-preserved
loop-x-preserved c = (
  more_compared (listing c.args.lists.now) c.args.constraints.now c.args.other.now c.loop-x.x-index _ c.args.found.now.items c.loop-x.found.items c.note_under.new.found.items c.loop-x-test.true c.note_under.ensures c.loop-x.invariant.0,
  c.note_under.ensures.long ∙ c.loop-x.invariant.1,
)

pub returns : goal.returns
returns c = all_compared (listing c.args.lists.now) c.args.constraints.now (drop c.loop-x.x-index c.args.constraints.now) c.args.other.now c.args.found.now.items c.loop-x.found.items (drop_all c.loop-x.x-index c.args.constraints.now (search rules)) c.loop-x.invariant.0
