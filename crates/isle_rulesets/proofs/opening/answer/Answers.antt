use Rattle.isle_rulesets.proofs.OpenedLaws.{answers_given}
use Rattle.isle_rulesets.proofs.opening.answer.Goals as goal

pub returns : goal.returns
returns c = answers_given c.answered.result c.args.numbering.now c.answered.new.self c.args.tests.now c.test_answer.new.tests c.args.kind c.args.call c.in_ok-test_answer.ensures c.answered.ensures
