use Rattle.isle_rulesets.specs.Numbering.{same_call}
use Rattle.isle_rulesets.proofs.CallLaws.{key_called, call_valued}
use Rattle.isle_rulesets.proofs.numbering.Numbering.pure_call.Goals as goal

pub answered-requires : goal.answered-requires
answered-requires c = (same_call c.args.self.now c.args.term c.args.parameters, c.in_ok-number.ensures.found)

pub returns : goal.returns
returns c =
    let p = same_call c.args.self.now c.args.term c.args.parameters in
    call_valued c.args.self.now c.intern.new.self c.answered.new.self p c.args.kind c.args.self.now.calls c.in_ok-number.number c.in_ok-value.value (key_called c.args.self.now c.intern.new.self p c.in_ok-number.number c.in_ok-number.ensures) c.in_ok-value.ensures
