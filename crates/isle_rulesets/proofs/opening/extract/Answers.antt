use Rattle.std.proofs.Common.{◌≡◌, Some, rules, subst}
use Rattle.std.specs.Prelude.{slice_get}
use Rattle.isle_core.specs.declared.types.ReturnKind.{ReturnKind}
use Rattle.isle_core.specs.Path.{Path, paths_of}
use Rattle.isle_rulesets.specs.Opened.{Answers}
use Rattle.isle_rulesets.proofs.OpenedLaws.{opens_extractor, one_result, many_results, answer_there}
use Rattle.isle_rulesets.proofs.opening.extract.Goals as goal

pub returns-then-as_slice-eq1-clause-there : goal.returns-then-as_slice-eq1-clause-there
returns-then-as_slice-eq1-clause-there c =
    answer_there c.intern.new.self c.answer.new.numbering c.args.tests.now c.answer.new.tests c.how_often.result _ c.in_ok-call.call c.in_ok-answer.answer c.in_ok-call.ensures.found c.in_ok-answer.ensures

pub returns-then-as_slice-eq1-clause-opens : goal.returns-then-as_slice-eq1-clause-opens
returns-then-as_slice-eq1-clause-opens c =
    opens_extractor c.args.terms.now c.args.numbering.now c.intern.new.self c.answer.new.numbering c.args.tests.now c.answer.new.tests c.args.term c.index-terms-index.result c.args.source c.in_ok-call.call c.in_ok-answer.answer _
    c.requires.kind c.requires.makes (search rules) c.in_ok-call.ensures
    (subst (λ (a : ReturnKind). (p : Path) → slice_get (paths_of c.intern.new.self.bindings) c.in_ok-call.call.0 ≡ Some p → Answers c.intern.new.self c.answer.new.numbering c.args.tests.now c.answer.new.tests a p c.in_ok-answer.answer) c.how_often.ensures c.in_ok-answer.ensures)
    (one_result _ c.in_ok-answer.answer (search rules))

pub returns-else-as_slice-eq1-clause-there : goal.returns-else-as_slice-eq1-clause-there
returns-else-as_slice-eq1-clause-there c =
    answer_there c.intern.new.self c.answer.new.numbering c.args.tests.now c.answer.new.tests c.how_often.result _ c.in_ok-call.call c.in_ok-answer.answer c.in_ok-call.ensures.found c.in_ok-answer.ensures

pub returns-else-as_slice-eq1-clause-opens : goal.returns-else-as_slice-eq1-clause-opens
returns-else-as_slice-eq1-clause-opens c =
    opens_extractor c.args.terms.now c.args.numbering.now c.intern.new.self c.answer.new.numbering c.args.tests.now c.answer.new.tests c.args.term c.index-terms-index.result c.args.source c.in_ok-call.call c.in_ok-answer.answer _
    c.requires.kind c.requires.makes (search rules) c.in_ok-call.ensures
    (subst (λ (a : ReturnKind). (p : Path) → slice_get (paths_of c.intern.new.self.bindings) c.in_ok-call.call.0 ≡ Some p → Answers c.intern.new.self c.answer.new.numbering c.args.tests.now c.answer.new.tests a p c.in_ok-answer.answer) c.how_often.ensures c.in_ok-answer.ensures)
    (many_results _ c.in_ok-answer.answer (search rules))
