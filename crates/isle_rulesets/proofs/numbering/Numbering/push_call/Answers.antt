use Rattle.std.proofs.Common.{◌+◌, rules}
use Rattle.isle_rulesets.specs.Numbering.{Numbered, known}
use Rattle.isle_rulesets.proofs.CallLaws.{call_more}
use Rattle.isle_rulesets.proofs.LateLaws.{keeps_call, keeps_failed}
use Rattle.isle_rulesets.proofs.numbering.Numbering.push_call.Goals as goal

pub invariant_of-self-2 : goal.invariant_of-self-2
invariant_of-self-2 c =
    let old : Numbered = record { bindings = c.self.inside.bindings.items; calls = c.self.inside.calls; lists = c.self.inside.lists.items } in
    keeps_call old _ _ c.args.term c.args.parameters c.self.inside.calls (c.self.inside.calls + 1) c.self.inside.late.items c.push_binding.new.late.items
    (call_more old c.push_binding.new.bindings.items (known c.self.inside.arguments c.self.inside.numbers) c.args.term c.args.parameters c.len.result (c.self.inside.calls + 1) c.self.invariant.numbered (search rules) (search rules) (search rules)).0
    (search rules) (search rules) c.self.invariant.told c.in_ok-push_binding.ensures.told

pub returns : goal.returns
returns c =
    let old : Numbered = record { bindings = c.self.inside.bindings.items; calls = c.self.inside.calls; lists = c.self.inside.lists.items } in
    rw (← c.self.view_is)
    (call_more old c.push_binding.new.bindings.items (known c.self.inside.arguments c.self.inside.numbers) c.args.term c.args.parameters c.len.result (c.self.inside.calls + 1) c.self.invariant.numbered (search rules) (search rules) (search rules)).1

pub invariant_of-self : goal.invariant_of-self
invariant_of-self c =
    let old : Numbered = record { bindings = c.self.inside.bindings.items; calls = c.self.inside.calls; lists = c.self.inside.lists.items } in
    keeps_failed old c.push_binding.new.bindings.items _ c.self.inside.late.items c.push_binding.new.late.items c.self.invariant c.in_err-push_binding.ensures.kept c.in_err-push_binding.ensures.untold
