use Rattle.isle_templates.proofs.CountedSteps.{none_taken, not_taken, taken}
use Rattle.isle_templates.proofs.counted.Parts.push.Goals as goal

pub returns-in_default : goal.returns-in_default
returns-in_default c = λ base ps p are h. none_taken base ps p c.args.part c.in_default.is h

pub returns-then-nodes-gt-MOST_NODES : goal.returns-then-nodes-gt-MOST_NODES
returns-then-nodes-gt-MOST_NODES c = λ base ps p are h. not_taken base ps p c.args.self.now c.args.part c.in-Some.field-0 c.saturating_add-nodes.result c.in-Some.is are h c.saturating_add-nodes.ensures c.if-nodes-gt-MOST_NODES.true

pub returns : goal.returns
returns c = λ base ps p are h. taken base ps p c.args.self.now (record { patterns = c.push.new.self; nodes = c.saturating_add-nodes.result; small = c.if-nodes-gt-MOST_NODES.false }) c.args.part c.in-Some.field-0 c.in-Some.is are h c.saturating_add-nodes.ensures c.in_ok-push.ensures.items
