use Rattle.std.proofs.Common.{rules}
use Rattle.isle_templates.specs.Arguments.{needed_one}
use Rattle.isle_templates.proofs.CountedSteps.{none_accepted, not_accepted, accepted}
use Rattle.isle_templates.proofs.counted.Parts.push_argument.Goals as goal

pub returns-in_default : goal.returns-in_default
returns-in_default c = λ base of ps p some is are h. none_accepted base of ps p c.args.times c.args.part some is c.in_default.is h

pub returns-then-nodes-gt-MOST_NODES : goal.returns-then-nodes-gt-MOST_NODES
returns-then-nodes-gt-MOST_NODES c = λ base of ps p some is are h. not_accepted base of ps (needed_one c.args.times p) c.args.times c.args.self.now c.args.part c.in-Some.field-0 c.saturating_mul-more.result c.saturating_add-nodes.result is c.in-Some.is are h (search rules) c.saturating_add-nodes.ensures c.if-nodes-gt-MOST_NODES.true

pub returns : goal.returns
returns c = λ base of ps p some is are h. accepted base of ps (needed_one c.args.times p) c.args.times c.args.self.now (record { patterns = c.push.new.self; nodes = c.saturating_add-nodes.result; small = c.if-nodes-gt-MOST_NODES.false }) c.args.part c.in-Some.field-0 c.saturating_mul-more.result is c.in-Some.is are h (search rules) c.saturating_add-nodes.ensures c.in_ok-push.ensures.items
