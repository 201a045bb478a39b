use Rattle.std.proofs.Common.{rules, ◌≡◌, ◌-◌, ◌+◌, ℕ, List, map, drop, ap, ◌∙◌}
use Rattle.isle_core.specs.ValueViews.{const}
use Rattle.isle_interpreter.specs.Clashes.{const_in, at_constant}
use Rattle.isle_interpreter.proofs.HeldSteps.{constants_more}
use Rattle.isle_interpreter.proofs.holders.by_constant.Goals as goal

pub loop-index-preserved : goal.loop-index-preserved
loop-index-preserved c =
    let consts = c.args.consts.now in
    let i = c.loop-index.index in
    let next : i ≡ i - 1 + 1 = search rules in
    let were : (name : List ℕ) → at_constant c.loop-index.found name ≡ const_in (map const (drop (i - 1 + 1) consts)) name = λ name. c.loop-index.invariant name ∙ ap (λ n. const_in (map const (drop n consts)) name) next in
    constants_more consts (i - 1) c.index-consts-index.result _ _ c.as_str.result c.loop-index.found c.insert.new.self (search rules) c.index-consts-index.is (search rules) c.as_str.ensures were c.in_ok-insert.ensures.updates
