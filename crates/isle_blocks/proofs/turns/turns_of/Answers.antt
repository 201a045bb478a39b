use Rattle.std.proofs.Common.{◌+◌, ◌≤◌, sym, subst, arith}
use Rattle.std.specs.Prelude.{Contains}
use Rattle.isle_blocks.specs.Turns.{turn_at}
use Rattle.isle_blocks.proofs.TurnLaws.{RiseTo, rise_more, long_more, rise_all}
use Rattle.isle_blocks.proofs.turns.turns_of.Goals as goal

pub loop-binding-preserved : goal.loop-binding-preserved
loop-binding-preserved c =
    let x = c.binding-item.result in
    let turn = c.turn_after-turn.result in
    let items = c.in_ok-push.ensures.items in
    let old = c.loop-binding.turns.items in
    record {
      long = long_more old c.push.new.self.items turn c.loop-binding.binding-index items c.loop-binding.invariant.long;
      rise = subst (RiseTo (c.loop-binding.binding-index + 1) c.args.bindings.now) (sym items)
          (rise_more c.args.bindings.now c.loop-binding.binding-index x x old turn c.loop-binding-test.true c.binding-item.is c.loop-binding.invariant.long c.loop-binding.invariant.rise
          (λ part i. subst (λ ts. turn_at ts part.0 ≤ turn) c.as_slice-in-loop-binding.ensures.value (c.turn_after-turn.ensures part (subst (λ bs. Contains bs part) (sym c.parts.ensures) i))));
    }

pub returns : goal.returns
returns c = rise_all c.args.bindings.now c.loop-binding.turns.items c.loop-binding.binding-index (omega (arith, c.loop-binding-test.false, c.loop-binding.auto.binding-index-end)) c.loop-binding.invariant.rise
