-- A constant that a block tests for stands in its function.
use Rattle.std.proofs.Common.{◌≡◌, inl, inr, ℕ, List, [], ◌∷◌, ◌++◌, Bool, true, false, Option, Some, None, sym, ◌∙◌, subst}
use Rattle.std.specs.Prelude.{Contains}
use Rattle.std.proofs.lemmas.List.Elements.{Contains-append_left, Contains-append_right}
use Rattle.isle_core.specs.declared.options.CodegenOptions.{CodegenOptions}
use Rattle.isle_core.specs.declared.BindingId.{BindingId}
use Rattle.isle_core.specs.declared.Sym.{Sym}
use Rattle.isle_core.specs.declared.files.Files.{Files}
use Rattle.isle_core.specs.declared.rule_sets.Binding.{Binding}
use Rattle.isle_core.specs.declared.rule_sets.Constraint.{Constraint}
use Rattle.isle_core.specs.declared.rule_sets.Constraint.TheVariants as constraint
use Rattle.isle_core.specs.declared.types.Term.{Term}
use Rattle.isle_core.specs.ArmPlaces.{bound_within}
use Rattle.isle_core.specs.Bindable.{bound_by}
use Rattle.isle_core.specs.Block as block
use Rattle.isle_core.specs.Block.{Block, Stop, Step, Control}
use Rattle.isle_core.specs.BlockLawful.{IsLawfulBlock}
use Rattle.isle_core.specs.Rule.{Environment}
use Rattle.isle_core.specs.Setting.{Setting, setting, gives_several}
use Rattle.isle_core.specs.Terms.{sym_text}
use Rattle.isle_core.proofs.Contained.{head_contained}
use Rattle.isle_blocks.specs.AllTests.{HoldsTest, DoesTest, HasTestWithin, HasArm}
use Rattle.isle_tree.specs.Program.{Body, Done, Then, Function}
use Rattle.isle_simulation.specs.Completed.{completed, completed_control, completed_arms, step_binds}
use Rattle.isle_simulation.specs.Manner.{Manner, manner_of, has_closure, closed_if, arm_manner}
use Rattle.isle_simulation.specs.Telling.{Telling}
use Rattle.isle_simulation.specs.TermFunction.{tail_in, term_function}
use Rattle.isle_simulation.proofs.Made.{function_made}
use Rattle.isle_core.proofs.OptionLaws.{some_same}
use Rattle.isle_simulation.proofs.Written.{arm_body, written_operand, written_arm, match_read, told_each, arm_stmt, bound_stmt, lets, stop_before, told_before, told_body, told_control, function_of}
use Rattle.isle_operand_names.specs.Names.{operand_names, read_names, pattern_names, patterns_names, stmt_names, body_names, arms_names}

module _ (env : Environment) (t : Term) (bs : List Binding) (source : BindingId) (c : Sym) where
  abbrev s : Setting
  s = setting env t bs

  abbrev Test : Constraint
  Test = constraint.ConstPrim c

  abbrev name : List ℕ
  name = sym_text env c

  -- ---- bind orders that are completed

  arm_kept : (bound : List ℕ) (arms : block.Arms) → HasArm Test arms → HasArm Test (completed_arms s bound arms)
  arm_kept bound block.NoArm h = absurd h
  arm_kept bound (block.Arm d places body arms) (inl same) = inl same
  arm_kept bound (block.Arm d places body arms) (inr h) = inr (arm_kept bound arms h)

  mutual
    completed_holds : (bound : List ℕ) (b : Block) → HoldsTest source Test b → HoldsTest source Test (completed s bound b)
    completed_holds bound Stop h = h
    completed_holds bound (Step binds k more) (inl h) = inl (does_hold (bound_by bound (step_binds s bound binds k)) k h)
    completed_holds bound (Step binds k more) (inr h) = inr (completed_holds (bound_by bound (step_binds s bound binds k)) more h)

    does_hold : (bound : List ℕ) (k : Control) → DoesTest source Test k → DoesTest source Test (completed_control s bound k)
    does_hold bound (block.Match over arms) (inl h) = inl (h.0, arm_kept bound arms h.1)
    does_hold bound (block.Match over arms) (inr h) = inr (arms_hold bound arms h)
    does_hold bound (block.Equal a b body) h = completed_holds bound body h
    does_hold bound (block.Loop result body) h = completed_holds (bound ++ result.0 ∷ []) body h
    does_hold bound (block.Return place result) h = absurd h

    arms_hold : (bound : List ℕ) (arms : block.Arms) → HasTestWithin source Test arms → HasTestWithin source Test (completed_arms s bound arms)
    arms_hold bound block.NoArm h = absurd h
    arms_hold bound (block.Arm d places body arms) (inl h) = inl (completed_holds (bound_within bound places) body h)
    arms_hold bound (block.Arm d places body arms) (inr h) = inr (arms_hold bound arms h)

  -- ---- statements

  abbrev IsNamedIn : Body → Type 0
  IsNamedIn b = Contains (body_names b) name

  in_lets : (bound : List ℕ) (binds : List BindingId) (more : Body) → IsNamedIn more → IsNamedIn (lets s bound binds more)
  in_lets bound [] more h = h
  in_lets bound (b ∷ binds) more h = Contains-append_right (stmt_names (bound_stmt s bound b)) (body_names (lets s (bound ++ b.0 ∷ []) binds more)) name (in_lets (bound ++ b.0 ∷ []) binds more h)

  in_told : (telling : Telling) (k : Control) (after : Body) → IsNamedIn after → IsNamedIn (told_before telling k after)
  in_told None k after h = h
  in_told (Some line) (block.Match over arms) after h = h
  in_told (Some line) (block.Equal a b body) after h = h
  in_told (Some line) (block.Loop result body) after h = h
  in_told (Some line) (block.Return place result) after h = h

  in_stop : (manner : Manner) (several : Bool) (k : Control) (after : Body) → IsNamedIn after → IsNamedIn (stop_before manner several k after)
  in_stop manner true (block.Return place result) after h = h
  in_stop manner true (block.Match over arms) after h = h
  in_stop manner true (block.Equal a b body) after h = h
  in_stop manner true (block.Loop result body) after h = h
  in_stop manner false k after h = h

  -- in a closure, or not
  in_closure : (own within : Bool) (inside : Body) → IsNamedIn inside → IsNamedIn (closed_if own within inside)
  in_closure true within inside h = Contains-append_left (body_names inside) [] name h
  in_closure false within inside h = h

  -- inside an arm
  within_arm : (bound : List ℕ) (over : BindingId) (d : Constraint) (places : List (Option BindingId)) (inside : Body) → IsNamedIn inside → Contains (stmt_names (arm_stmt s bound over d places inside)) name
  within_arm bound over (constraint.ConstBool val) places inside h = Contains-append_right _ (body_names inside) name h
  within_arm bound over (constraint.ConstInt val of) places inside h = Contains-append_right _ (body_names inside) name h
  within_arm bound over (constraint.ConstPrim val) places inside h = Contains-append_right _ (body_names inside) name h
  within_arm bound over (constraint.Variant of variant) places inside h = Contains-append_right _ (body_names inside) name h
  within_arm bound over (constraint.Struct of) places inside h = Contains-append_right _ (body_names inside) name h
  within_arm bound over constraint.Some places inside h = Contains-append_right _ (body_names inside) name h

  -- the arm that tests for it
  tested_arm : (bound : List ℕ) (over : BindingId) (d : Constraint) (places : List (Option BindingId)) (inside : Body) → d ≡ Test → Contains (stmt_names (arm_stmt s bound over d places inside)) name
  tested_arm bound over d places inside same = subst (λ (x : Constraint). Contains (stmt_names (arm_stmt s bound over x places inside)) name) (sym same) here
    where
      here : Contains (stmt_names (arm_stmt s bound over Test places inside)) name
      here = Contains-append_left (operand_names (written_operand s bound over) ++ name ∷ []) (body_names inside) name (Contains-append_right (operand_names (written_operand s bound over)) (name ∷ []) name (head_contained name []))

  -- of several arms the pattern of that which tests for it
  pattern_names_it : (manner : Manner) (arms : block.Arms) (bound : List ℕ) → HasArm Test arms → Contains (patterns_names (told_each manner s bound arms)) name
  pattern_names_it manner block.NoArm bound h = absurd h
  pattern_names_it manner (block.Arm d places body arms) bound (inl same) =
      Contains-append_left (pattern_names (written_arm s.env d places)) (patterns_names (told_each manner s bound arms)) name
      (subst (λ (x : Constraint). Contains (pattern_names (written_arm s.env x places)) name) (sym same) (head_contained name []))
  pattern_names_it manner (block.Arm d places body arms) bound (inr h) = Contains-append_right (pattern_names (written_arm s.env d places)) (patterns_names (told_each manner s bound arms)) name (pattern_names_it manner arms bound h)

  mutual
    block_names_it : (manner : Manner) (b : Block) (bound : List ℕ) (end : Body) → HoldsTest source Test b → IsNamedIn (told_body manner s bound b end)
    block_names_it manner Stop bound end h = absurd h
    block_names_it manner (Step binds k more) bound end (inl h) =
        let now = bound_by bound binds in
        let rest = stop_before manner (gives_several s) k (told_body manner s now more end) in
        in_lets bound binds _ (in_told manner.telling k (Then (told_control manner s now k) rest) (Contains-append_left (stmt_names (told_control manner s now k)) (body_names rest) name (control_names_it manner k now h)))
    block_names_it manner (Step binds k more) bound end (inr h) =
        let now = bound_by bound binds in
        let rest = stop_before manner (gives_several s) k (told_body manner s now more end) in
        in_lets bound binds _ (in_told manner.telling k (Then (told_control manner s now k) rest)
        (Contains-append_right (stmt_names (told_control manner s now k)) (body_names rest) name (in_stop manner (gives_several s) k (told_body manner s now more end) (block_names_it manner more now end h))))

    control_names_it : (manner : Manner) (k : Control) (bound : List ℕ) → DoesTest source Test k → Contains (stmt_names (told_control manner s bound k)) name
    control_names_it manner (block.Match over (block.Arm d places body block.NoArm)) bound (inl (e, inl same)) = tested_arm bound over d places (arm_body manner body (told_body (arm_manner manner body) s (bound_within bound places) body Done)) same
    control_names_it manner (block.Match over (block.Arm d places body block.NoArm)) bound (inl (e, inr h)) = absurd h
    control_names_it manner (block.Match over (block.Arm d places body block.NoArm)) bound (inr (inl h)) = within_arm bound over d places _ (in_closure (has_closure manner body) manner.inside _ (block_names_it (arm_manner manner body) body (bound_within bound places) Done h))
    control_names_it manner (block.Match over (block.Arm d places body block.NoArm)) bound (inr (inr h)) = absurd h
    control_names_it manner (block.Match over (block.Arm d places body (block.Arm e others inside arms))) bound (inl h) =
        let those = told_each manner s bound (block.Arm d places body (block.Arm e others inside arms)) in
        let read = match_read s bound over d in
        Contains-append_left (read_names read ++ patterns_names those) (arms_names those) name
        (Contains-append_right (read_names read) (patterns_names those) name (pattern_names_it manner (block.Arm d places body (block.Arm e others inside arms)) bound h.1))
    control_names_it manner (block.Match over (block.Arm d places body (block.Arm e others inside arms))) bound (inr h) =
        let those = told_each manner s bound (block.Arm d places body (block.Arm e others inside arms)) in
        Contains-append_right (read_names (match_read s bound over d) ++ patterns_names those) (arms_names those) name
        (arms_name_it manner (block.Arm d places body (block.Arm e others inside arms)) bound h)
    control_names_it manner (block.Match over block.NoArm) bound (inl h) = absurd h.1
    control_names_it manner (block.Match over block.NoArm) bound (inr h) = absurd h
    control_names_it manner (block.Equal a b body) bound h =
        Contains-append_right (operand_names (written_operand s bound a) ++ operand_names (written_operand s bound b)) (body_names (told_body manner s bound body Done)) name (block_names_it manner body bound Done h)
    control_names_it manner (block.Loop result body) bound h = block_names_it manner body (bound ++ result.0 ∷ []) Done h
    control_names_it manner (block.Return place result) bound h = absurd h

    arms_name_it : (manner : Manner) (arms : block.Arms) (bound : List ℕ) → HasTestWithin source Test arms → Contains (arms_names (told_each manner s bound arms)) name
    arms_name_it manner block.NoArm bound h = absurd h
    arms_name_it manner (block.Arm d places body arms) bound (inl h) =
        Contains-append_left (body_names (arm_body manner body (told_body (arm_manner manner body) s (bound_within bound places) body Done))) (arms_names (told_each manner s bound arms)) name (in_closure (has_closure manner body) manner.inside _ (block_names_it (arm_manner manner body) body (bound_within bound places) Done h))
    arms_name_it manner (block.Arm d places body arms) bound (inr h) =
        Contains-append_right (body_names (arm_body manner body (told_body (arm_manner manner body) s (bound_within bound places) body Done))) (arms_names (told_each manner s bound arms)) name (arms_name_it manner arms bound h)

  -- so of the function of a block
  pub function_names_it : (options : CodegenOptions) (files : Files) (b : Block) (f : Function) → IsLawfulBlock s b → HoldsTest source Test b → term_function options files s b ≡ Some f → IsNamedIn f.body
  function_names_it options files b f lawful holds given =
      subst (λ (g : Function). IsNamedIn g.body) (some_same (function_of options files env t bs b) f (sym (function_made options files env t bs b lawful) ∙ given))
      (block_names_it (manner_of options files s) (completed s [] b) [] (tail_in files env t b) (completed_holds [] b holds))
