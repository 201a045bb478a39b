-- The statements of a block's steps are those that it gives.
use Rattle.std.proofs.Common.{◌≡◌, ℕ, List, [], ◌∷◌, ◌++◌, Bool, true, false, Option, Some, refl, sym, ap, ◌∙◌}
use Rattle.std.specs.Prelude.{option_map}
use Rattle.isle_core.specs.declared.BindingId.{BindingId}
use Rattle.isle_core.specs.declared.files.Files.{Files}
use Rattle.isle_core.specs.declared.options.CodegenOptions.{CodegenOptions}
use Rattle.isle_core.specs.declared.rule_sets.Constraint.{Constraint}
use Rattle.isle_core.specs.declared.rule_sets.Constraint.TheVariants as constraint
use Rattle.isle_core.specs.ArmPlaces.{bound_within}
use Rattle.isle_core.specs.Bindable.{bound_by}
use Rattle.isle_core.specs.Block as block
use Rattle.isle_core.specs.Block.{Block, Control, Arms}
use Rattle.isle_core.specs.Calling.{kind_of}
use Rattle.isle_core.specs.Setting.{Setting, gives_several}
use Rattle.isle_tree.specs.declared.tree.Operand.{Operand}
use Rattle.isle_tree.specs.declared.tree.Read.{Read}
use Rattle.isle_tree.specs.declared.tree.TPat.{TPat}
use Rattle.isle_tree.specs.Program as tree
use Rattle.isle_tree.specs.Program.{Stmt, Body, Done, Function}
use Rattle.isle_simulation.specs.Completed.{completed, completed_control, completed_arms}
use Rattle.isle_simulation.specs.Manner.{Manner, has_closure, closed_if}
use Rattle.isle_simulation.proofs.CompletedArms.{arm_of, arm_by}
use Rattle.isle_simulation.specs.OperandOf.{IsOperandOf}
use Rattle.isle_simulation.specs.Operands.{tested, operand_of}
use Rattle.isle_simulation.specs.Patterns.{pattern_of}
use Rattle.isle_simulation.specs.ReadOf.{IsReadBy}
use Rattle.isle_simulation.specs.Statements.{read_in, computed, bound_expr, binds_list, let_of, lets, stmt_before, if_eq, if_let, return_of, stop_before, loop_of, plain_read, arm_stmt, match_of, arm_before, told_body, told_control, told_each}
use Rattle.isle_simulation.specs.StatementsOf.{IsLetOf, HasLets, no_let, one_let, HasStop, stops, goes_on, answers_once, HasLine, silent, told, no_result, StandsInArm, as_they_are, in_a_closure, AreStatements, ended, step, IsStatement, test, taken, matched, equal, loop, returned, returned_some, extended, IsArm, arm, AreArms, no_arm, one_arm, IsFunctionOf}
use Rattle.isle_simulation.specs.Telling.{Telling, told_before}
use Rattle.isle_simulation.specs.TermFunction.{function_with, term_function}
use Rattle.isle_simulation.proofs.ComputedExprs.{computed_found}
use Rattle.isle_simulation.proofs.LocalsAre.{step_found}
use Rattle.isle_simulation.proofs.OperandsAre.{none_some, operand_found, read_found, plain_found, by_found}

-- ---- what stands around

let_found : (s : Setting) (bound : List ℕ) (b : BindingId) (st : Stmt) → IsLetOf s bound b st → let_of (binds_list s b) b.0 (bound_expr s bound b) ≡ Some st
let_found s bound b st h =
    ap (λ o. let_of (binds_list s b) b.0 (computed s bound b o)) h.there
    ∙ ap (let_of (binds_list s b) b.0) (computed_found s bound b h.computes)
    ∙ ap Some (sym h.is)

lets_found : (s : Setting) {bound : List ℕ} {bs : List BindingId} {others all : Body} → HasLets s bound bs others all → lets s bound bs (Some others) ≡ Some all
lets_found s (no_let bound others) = refl
lets_found s (one_let bound b bs st others all h k) =
    ap (λ o. stmt_before o (lets s (bound ++ b.0 ∷ []) bs (Some others))) (let_found s bound b st h) ∙ ap (stmt_before (Some st)) (lets_found s k)

line_found : (s : Setting) (inner : List ℕ) {telling : Telling} {c : Control} {others all : Body} → HasLine telling c others all → told_before telling (completed_control s inner c) (Some others) ≡ Some all
line_found s inner (silent c others) = refl
line_found s inner (told line pos result others) = refl
line_found s inner (no_result line (block.Match source arms) others e) = refl
line_found s inner (no_result line (block.Equal a b body) others e) = refl
line_found s inner (no_result line (block.Loop result body) others e) = refl
line_found s inner (no_result line (block.Return pos result) others e) = absurd cc

stop_found : (s : Setting) (inner : List ℕ) (manner : Manner) {several : Bool} {c : Control} {others all : Body} → HasStop manner several c others all → stop_before manner several (completed_control s inner c) (Some others) ≡ Some all
stop_found s inner manner (stops pos result others) = refl
stop_found s inner manner (answers_once c others) = refl
stop_found s inner manner (goes_on false c others e) = refl
stop_found s inner manner (goes_on true (block.Match source arms) others e) = refl
stop_found s inner manner (goes_on true (block.Equal a b body) others e) = refl
stop_found s inner manner (goes_on true (block.Loop result body) others e) = refl
stop_found s inner manner (goes_on true (block.Return pos result) others e) = absurd cc

-- a test of the one arm, by its constraint
test_found : (s : Setting) (bound : List ℕ) (source : BindingId) (c : Constraint) (places : List (Option BindingId)) (a b : Operand) (inside : Body) → IsOperandOf s bound source a → tested s.env c ≡ Some b → arm_stmt s bound source c places (Some inside) ≡ Some (tree.IfEq a b inside)
test_found s bound source c places a b inside h e = of c e
  where
    both : (o : Option Operand) → o ≡ Some b → if_eq (operand_of s.env s.bindings bound source) o (Some inside) ≡ Some (tree.IfEq a b inside)
    both o e = ap (λ x. if_eq x o (Some inside)) (operand_found s bound source h) ∙ ap (λ x. if_eq (Some a) x (Some inside)) e

    of : (d : Constraint) → tested s.env d ≡ Some b → arm_stmt s bound source d places (Some inside) ≡ Some (tree.IfEq a b inside)
    of (constraint.ConstBool val) e = both (tested s.env (constraint.ConstBool val)) e
    of (constraint.ConstInt val ty) e = both (tested s.env (constraint.ConstInt val ty)) e
    of (constraint.ConstPrim val) e = both (tested s.env (constraint.ConstPrim val)) e
    of (constraint.Variant ty variant) e = absurd (none_some b e)
    of (constraint.Struct ty) e = absurd (none_some b e)
    of constraint.Some e = absurd (none_some b e)

-- a test by the pattern of the one arm
taken_found : (s : Setting) (bound : List ℕ) (source : BindingId) (c : Constraint) (places : List (Option BindingId)) (pat : TPat) (r : Read) (inside : Body) → pattern_of s.env c places ≡ Some pat → IsReadBy s bound source c r → arm_stmt s bound source c places (Some inside) ≡ Some (tree.IfLet pat r inside)
taken_found s bound source c places pat r inside e h = of c e h
  where
    both : (p : Option TPat) (o : Option Read) → p ≡ Some pat → o ≡ Some r → if_let p o (Some inside) ≡ Some (tree.IfLet pat r inside)
    both p o e f = ap (λ x. if_let x o (Some inside)) e ∙ ap (λ x. if_let (Some pat) x (Some inside)) f

    of : (d : Constraint) → pattern_of s.env d places ≡ Some pat → IsReadBy s bound source d r → arm_stmt s bound source d places (Some inside) ≡ Some (tree.IfLet pat r inside)
    of (constraint.Variant ty variant) e h = both (pattern_of s.env (constraint.Variant ty variant) places) (read_in s bound true source) e (read_found s bound true source r h)
    of (constraint.Struct ty) e h = both (pattern_of s.env (constraint.Struct ty) places) (read_in s bound true source) e (read_found s bound true source r h)
    of constraint.Some e h = both (pattern_of s.env constraint.Some places) (plain_read (operand_of s.env s.bindings bound source)) e (plain_found s bound source r h)
    of (constraint.ConstBool val) e h = absurd (none_some pat e)
    of (constraint.ConstInt val ty) e h = absurd (none_some pat e)
    of (constraint.ConstPrim val) e h = absurd (none_some pat e)

-- a result
result_found : (s : Setting) (bound : List ℕ) (k : _) (result : BindingId) (r : Read) (st : Stmt) → kind_of s.term.kind ≡ k → return_of k (Some r) ≡ Some st → read_in s bound false result ≡ Some r → return_of (kind_of s.term.kind) (read_in s bound false result) ≡ Some st
result_found s bound k result r st e is h = ap (λ x. return_of x (read_in s bound false result)) e ∙ ap (return_of k) h ∙ is

inside_found : (manner : Manner) (b : Block) {made inside : Body} → StandsInArm manner b made inside → closed_if (has_closure manner b) manner.inside made ≡ inside
inside_found manner b (as_they_are made e) = ap (λ x. closed_if x manner.inside made) e
inside_found manner b (in_a_closure made e) = ap (λ x. closed_if x manner.inside made) e

-- ---- blocks

mutual
  block_found : (s : Setting) {manner : Manner} {bound : List ℕ} {b : Block} {end all : Body} → AreStatements s manner bound b end all → told_body manner s bound (completed s bound b) (Some end) ≡ Some all
  block_found s (ended manner bound end) = refl
  block_found s (step manner bound binds c more bs st end rest stopped lined all locals does after stop line ls) =
      let inner = bound_by bound bs in
      ap (λ xs. lets s bound xs (told_before manner.telling (completed_control s (bound_by bound xs) c) (stmt_before (told_control manner s (bound_by bound xs) (completed_control s (bound_by bound xs) c))
      (stop_before manner (gives_several s) (completed_control s (bound_by bound xs) c) (told_body manner s (bound_by bound xs) (completed s (bound_by bound xs) more) (Some end)))))) (step_found s bound binds c bs locals)
      ∙ ap (λ o. lets s bound bs (told_before manner.telling (completed_control s inner c) (stmt_before (told_control manner s inner (completed_control s inner c)) (stop_before manner (gives_several s) (completed_control s inner c) o)))) (block_found s after)
      ∙ ap (λ o. lets s bound bs (told_before manner.telling (completed_control s inner c) (stmt_before (told_control manner s inner (completed_control s inner c)) o))) (stop_found s inner manner stop)
      ∙ ap (λ o. lets s bound bs (told_before manner.telling (completed_control s inner c) (stmt_before o (Some stopped)))) (control_found s does)
      ∙ ap (lets s bound bs) (line_found s inner line)
      ∙ lets_found s ls

  control_found : (s : Setting) {manner : Manner} {bound : List ℕ} {c : Control} {st : Stmt} → IsStatement s manner bound c st → told_control manner s bound (completed_control s bound c) ≡ Some st
  control_found s (test manner bound source c places body a b inside h e k) = ap (arm_stmt s bound source c places) (arm_found s k) ∙ test_found s bound source c places a b inside h e
  control_found s (taken manner bound source c places body pat r inside e h k) = ap (arm_stmt s bound source c places) (arm_found s k) ∙ taken_found s bound source c places pat r inside e h
  control_found s (matched manner bound source c d places others body inside more r arms h k) =
      ap (λ o. match_of o (told_each manner s bound (completed_arms s bound (block.Arm c places body (block.Arm d others inside more))))) (by_found s bound source c r h) ∙ ap (match_of (Some r)) (arms_found s k)
  control_found s (equal manner bound a b body o q inside h k body_is) =
      ap (λ x. if_eq x (operand_of s.env s.bindings bound b) (told_body manner s bound (completed s bound body) (Some Done))) (operand_found s bound a h)
      ∙ ap (λ x. if_eq (Some o) x (told_body manner s bound (completed s bound body) (Some Done))) (operand_found s bound b k)
      ∙ ap (if_eq (Some o) (Some q)) (block_found s body_is)
  control_found s (loop manner bound result body list inside e k) =
      let w = bound ++ result.0 ∷ [] in
      ap (λ x. loop_of x result.0 (told_body manner s w (completed s w body) (Some Done))) e ∙ ap (loop_of (Some list) result.0) (block_found s k)
  control_found s (returned manner bound pos result r e h) = result_found s bound _ result r _ e refl (read_found s bound false result r h)
  control_found s (returned_some manner bound pos result r e h) = result_found s bound _ result r _ e refl (read_found s bound false result r h)
  control_found s (extended manner bound pos result r e h) = result_found s bound _ result r _ e refl (read_found s bound false result r h)

  arm_found : (s : Setting) {manner : Manner} {bound : List ℕ} {b : Block} {inside : Body} → IsArm s manner bound b inside → arm_of manner s bound b ≡ Some inside
  arm_found s (arm manner bound body made inside h k) =
      arm_by manner s bound body
      ∙ ap (option_map (closed_if (has_closure manner body) manner.inside)) (block_found s h) ∙ ap Some (inside_found manner body k)

  arms_found : (s : Setting) {manner : Manner} {bound : List ℕ} {xs : Arms} {all : tree.Arms} → AreArms s manner bound xs all → told_each manner s bound (completed_arms s bound xs) ≡ Some all
  arms_found s (no_arm manner bound) = refl
  arms_found s (one_arm manner bound c places body more pat inside arms e h k) =
      let w = bound_within bound places in
      ap (λ o. arm_before o (arm_of manner s w body) (told_each manner s bound (completed_arms s bound more))) e
      ∙ ap (λ o. arm_before (Some pat) o (told_each manner s bound (completed_arms s bound more))) (arm_found s h)
      ∙ ap (arm_before (Some pat) (Some inside)) (arms_found s k)

-- the function of a term with this block is the one that the block gives
pub function_found : (options : CodegenOptions) (files : Files) (s : Setting) (b : Block) (f : Function) → IsFunctionOf options files s b f → term_function options files s b ≡ Some f
function_found options files s b f h = ap (option_map (function_with s.env s.term)) (block_found s h.statements) ∙ ap Some (sym h.is)
