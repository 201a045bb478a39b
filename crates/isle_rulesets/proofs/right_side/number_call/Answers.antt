use Rattle.std.proofs.Common.{rules}
use Rattle.isle_rulesets.proofs.RightSideLaws.{impure_given, pure_given}
use Rattle.isle_rulesets.proofs.right_side.number_call.Goals as goal

pub returns-then-is_pure : goal.returns-then-is_pure
returns-then-is_pure c =
    pure_given c.ordered_call.result c.args.numbering.now c.pure_call.new.self c.args.ordered.now.items c.ordered_call.new.ordered.items c.args.terms.now c.args.term c.index-terms-index.result c.kind_of-often.result c.counts.result c.args.parameters.items c.in_ok-call.call.number c.in_ok-call.call.value
    c.requires.kind c.requires.called (search rules) (search rules) (search rules) (search rules) c.counts.ensures c.ordered_call.ensures.value c.ordered_call.ensures.joins

pub returns : goal.returns
returns c =
    impure_given c.ordered_call-2.result c.args.numbering.now c.call.new.self c.args.ordered.now.items c.ordered_call-2.new.ordered.items c.args.terms.now c.args.term c.index-terms-index.result c.kind_of-often.result c.args.parameters.items c.in_ok-call-2.call.number c.in_ok-call-2.call.value
    c.requires.kind c.requires.called (search rules) (search rules) (search rules) (search rules) c.ordered_call-2.ensures.value c.ordered_call-2.ensures.joins
