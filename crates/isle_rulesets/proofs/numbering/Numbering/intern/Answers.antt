use Rattle.std.proofs.Common.{◌≡◌, rules, sym, ap, ◌∙◌, subst, true}
use Rattle.isle_core.specs.Path.{paths_of}
use Rattle.isle_rulesets.specs.Keys.{key_binding, HasParts}
use Rattle.isle_rulesets.specs.Numbering.{Numbered, known, is_next}
use Rattle.isle_rulesets.proofs.LateLaws.{keeps_key, keeps_back, keeps_failed, taken_back}
use Rattle.isle_rulesets.proofs.NumberingLaws.{numbered_more, argument_more, map_puts, numbered_back}
use Rattle.isle_rulesets.proofs.numbering.Numbering.intern.Goals as goal

pub invariant_of-self-then-is_next : goal.invariant_of-self-then-is_next
invariant_of-self-then-is_next c =
    let is : is_next c.self.inside.arguments c.len.result c.args.key ≡ true = ap (λ n. is_next c.self.inside.arguments n c.args.key) (sym c.index.ensures) ∙ sym c.is_next.ensures ∙ c.if-is_next.true in
    keeps_key (record { bindings = c.self.inside.bindings.items; calls = c.self.inside.calls; lists = c.self.inside.lists.items }) _ _ c.args.key c.self.inside.late.items c.push_binding.new.late.items c.key_turn-is_late.result
    (argument_more (record { bindings = c.self.inside.bindings.items; calls = c.self.inside.calls; lists = c.self.inside.lists.items }) c.push_binding.new.bindings.items c.self.inside.numbers c.args.key c.self.inside.arguments c.len.result c.len-self-inside.result c.self.invariant.numbered (subst (λ (n : Numbered). HasParts (paths_of n.bindings) c.args.key) (sym c.self.view_is) c.requires) (search rules) (search rules) (search rules) (search rules) is).0
    (search rules) c.self.invariant.told (search rules) c.in_ok-push_binding.ensures.told

pub returns-then-is_next : goal.returns-then-is_next
returns-then-is_next c =
    let is : is_next c.self.inside.arguments c.len.result c.args.key ≡ true = ap (λ n. is_next c.self.inside.arguments n c.args.key) (sym c.index.ensures) ∙ sym c.is_next.ensures ∙ c.if-is_next.true in
    rw (← c.self.view_is)
    (argument_more (record { bindings = c.self.inside.bindings.items; calls = c.self.inside.calls; lists = c.self.inside.lists.items }) c.push_binding.new.bindings.items c.self.inside.numbers c.args.key c.self.inside.arguments c.len.result c.len-self-inside.result c.self.invariant.numbered (subst (λ (n : Numbered). HasParts (paths_of n.bindings) c.args.key) (sym c.self.view_is) c.requires) (search rules) (search rules) (search rules) (search rules) is).1

pub invariant_of-self-in-Ok : goal.invariant_of-self-in-Ok
invariant_of-self-in-Ok c =
    keeps_key (record { bindings = c.self.inside.bindings.items; calls = c.self.inside.calls; lists = c.self.inside.lists.items }) _ _ c.args.key c.self.inside.late.items c.push_binding.new.late.items c.key_turn-is_late.result
    (numbered_more (record { bindings = c.self.inside.bindings.items; calls = c.self.inside.calls; lists = c.self.inside.lists.items }) c.push_binding.new.bindings.items (known c.self.inside.arguments c.self.inside.numbers) (known c.self.inside.arguments c.put.new.numbers) c.args.key c.len.result c.self.invariant.numbered (subst (λ (n : Numbered). HasParts (paths_of n.bindings) c.args.key) (sym c.self.view_is) c.requires) (search rules) (search rules) (search rules)
    (map_puts c.self.inside.arguments c.self.inside.numbers c.put.new.numbers c.args.key (record { 0 = c.len.result }) (search rules) c.in-Ok.ensures.updates)).0
    (search rules) c.self.invariant.told (search rules) c.in_ok-push_binding.ensures.told

pub returns-in-Ok : goal.returns-in-Ok
returns-in-Ok c =
    rw (← c.self.view_is)
    (numbered_more (record { bindings = c.self.inside.bindings.items; calls = c.self.inside.calls; lists = c.self.inside.lists.items }) c.push_binding.new.bindings.items (known c.self.inside.arguments c.self.inside.numbers) (known c.self.inside.arguments c.put.new.numbers) c.args.key c.len.result c.self.invariant.numbered (subst (λ (n : Numbered). HasParts (paths_of n.bindings) c.args.key) (sym c.self.view_is) c.requires) (search rules) (search rules) (search rules)
    (map_puts c.self.inside.arguments c.self.inside.numbers c.put.new.numbers c.args.key (record { 0 = c.len.result }) (search rules) c.in-Ok.ensures.updates)).1

pub invariant_of-self-in-Err : goal.invariant_of-self-in-Err
invariant_of-self-in-Err c =
    keeps_back (record { bindings = c.self.inside.bindings.items; calls = c.self.inside.calls; lists = c.self.inside.lists.items }) _ _ (key_binding c.args.key) c.self.inside.late.items c.push_binding.new.late.items c.truncate-in-Err.new.self.items c.key_turn-is_late.result c.len.result
    (numbered_back (record { bindings = c.self.inside.bindings.items; calls = c.self.inside.calls; lists = c.self.inside.lists.items }) c.push_binding.new.bindings.items c.truncate.new.self.items c.self.inside.arguments c.self.inside.numbers c.put.new.numbers (key_binding c.args.key) c.len.result
    c.self.invariant.numbered (search rules) (search rules) (search rules) (search rules))
    (taken_back c.self.inside.bindings.items c.push_binding.new.bindings.items c.truncate.new.self.items (key_binding c.args.key) c.len.result (search rules) (search rules) (search rules))
    c.self.invariant.told c.in_ok-push_binding.ensures.told (search rules) (search rules)

pub invariant_of-self : goal.invariant_of-self
invariant_of-self c =
    keeps_failed (record { bindings = c.self.inside.bindings.items; calls = c.self.inside.calls; lists = c.self.inside.lists.items }) c.push_binding.new.bindings.items _ c.self.inside.late.items c.push_binding.new.late.items c.self.invariant c.in_err-push_binding.ensures.kept c.in_err-push_binding.ensures.untold
