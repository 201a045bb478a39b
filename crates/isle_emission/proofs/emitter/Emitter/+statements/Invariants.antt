use Rattle.std.proofs.Common.{◌≡◌, ◌++◌, List, ℕ, Option, drop, map}
use Rattle.isle_core.specs.BlockViews.{block_of, arms_of, step, arm}
use Rattle.isle_tree.specs.Program.{Body}
use Rattle.isle_tree.specs.Views.{stmt}
use Rattle.isle_emission.specs.BodyOnto.{body_onto}
use Rattle.isle_emission.specs.Built.{IsBuilt, AreCasesBuilt}
use Rattle.isle_emission.specs.Cases.{cases_onto}
use Rattle.isle_emission.specs.Emitter.{setting_in, manner_in}
use Rattle.isle_emission.specs.MadeBodies.{made_body, made_each}
use Rattle.isle_emission.proofs.emitter.Emitter.+statements.Given as goal

abbrev pub invariant-step_stmts-loop-step : goal.invariant-step_stmts-loop-step
invariant-step_stmts-loop-step l = record {
  stmts : (end : Option Body) → body_onto (map stmt l.out.items) (made_body (manner_in l.self) (setting_in l.self) l.bound (block_of (map step (drop l.step-index l.steps))) end)
      ≡ made_body (manner_in l.self) (setting_in l.self) l.fn.bound (block_of (map step l.steps)) end;
  bound : (more : List ℕ) × (l.bound ≡ l.fn.bound ++ more);
  built : IsBuilt (setting_in l.self) l.bound (block_of (map step (drop l.step-index l.steps)));
}

abbrev pub invariant-push_arms-loop-arm : goal.invariant-push_arms-loop-arm
invariant-push_arms-loop-arm l = record {
  arms : cases_onto l.cases.items (made_each (manner_in l.self) (setting_in l.self) l.bound (arms_of (map arm (drop l.arm-index l.arms)))) ≡ made_each (manner_in l.self) (setting_in l.self) l.fn.bound (arms_of (map arm l.arms));
  bound : l.bound ≡ l.fn.bound;
  built : AreCasesBuilt (setting_in l.self) l.bound (arms_of (map arm (drop l.arm-index l.arms)));
}
