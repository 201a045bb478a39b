-- Blocks as pure trees.
use Rattle.std.specs.Prelude.{List, Option}
use Rattle.isle_base.specs.declared.ids.BindingId.{BindingId}
use Rattle.isle_core.specs.declared.position.Pos.{Pos}
use Rattle.isle_core.specs.declared.rule_sets.Constraint.{Constraint}

-- steps in order: what is bound, and what is done then
mutual
  pub data Block : Type 0 where
    Stop : Block
    Step : (bind_order : List BindingId) → Control → Block → Block

  pub data Control : Type 0 where
    Match : (source : BindingId) → Arms → Control
    Equal : (a b : BindingId) → Block → Control
    Loop : (result : BindingId) → Block → Control
    Return : Pos → (result : BindingId) → Control

  -- constraints with the bindings of the parts that they show
  pub data Arms : Type 0 where
    NoArm : Arms
    Arm : Constraint → List (Option BindingId) → Block → Arms → Arms
