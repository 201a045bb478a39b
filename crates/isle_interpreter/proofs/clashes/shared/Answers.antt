use Rattle.std.proofs.Common.{ℕ, List, map, ◌∙◌}
use denote.Ref.{Bor}
use Rattle.std.specs.Prelude.{option_map}
use Rattle.isle_interpreter.specs.Clashes.{held, owner_at, at_key, clash_of, clashes}
use Rattle.isle_interpreter.proofs.HeldSteps.{given_step, clash_alike}
use Rattle.isle_interpreter.proofs.clashes.shared.Goals as goal

pub loop-holder-preserved : goal.loop-holder-preserved
loop-holder-preserved c =
    let hs = map held c.args.holders.now in
    given_step (clash_of (λ key. owner_at key hs)) held c.args.holders.now c.loop-holder.holder-index c.holder-item.result c.holder-item.result (option_map (λ (n : Bor (List ℕ)). n.now) c.clash.result) (map (λ (n : Bor (List ℕ)). n.now) c.loop-holder.names.items) (map (λ (n : Bor (List ℕ)). n.now) c.push_name.new.names.items)
    (clashes hs) c.loop-holder-test.true c.holder-item.is (c.clash.ensures ∙ clash_alike (λ key. owner_at key hs) (at_key c.in_ok-owners.owners) (held c.holder-item.result) c.in_ok-owners.ensures) c.in_ok-push_name.ensures c.loop-holder.invariant
