use Rattle.isle_rulesets.specs.Numbering.{next_call}
use Rattle.std.proofs.Common.{suc}
use Rattle.isle_rulesets.proofs.CallLaws.{call_valued}
use Rattle.isle_rulesets.proofs.numbering.Numbering.call.Goals as goal

pub answered-requires : goal.answered-requires
answered-requires c = (next_call c.args.self.now c.args.term c.args.parameters, c.in_ok-number.ensures.found)

pub returns : goal.returns
returns c =
    let p = next_call c.args.self.now c.args.term c.args.parameters in
    call_valued c.args.self.now c.push_call.new.self c.answered.new.self p c.args.kind (suc c.args.self.now.calls) c.in_ok-number.number c.in_ok-value.value c.in_ok-number.ensures c.in_ok-value.ensures
