-- The statements that a lawful block gives are those of its steps.
use Rattle.std.proofs.Common.{◌≡◌, ℕ, List, [], ◌∷◌, ◌++◌, Bool, true, false, Option, Some, None, refl, sym, subst, ◌∙◌}
use Rattle.std.specs.Prelude.{option_map, slice_get}
use Rattle.isle_core.specs.declared.BindingId.{BindingId}
use Rattle.isle_core.specs.declared.files.Files.{Files}
use Rattle.isle_core.specs.declared.options.CodegenOptions.{CodegenOptions}
use Rattle.isle_core.specs.declared.rule_sets.Binding.{Binding}
use Rattle.isle_core.specs.declared.rule_sets.Constraint.{Constraint}
use Rattle.isle_core.specs.declared.rule_sets.Constraint.TheVariants as constraint
use Rattle.isle_core.specs.declared.types.ReturnKind.{ReturnKind}
use Rattle.isle_core.specs.declared.types.ReturnKind.TheVariants as return_kind
use Rattle.isle_core.specs.ArmPlaces.{bound_within}
use Rattle.isle_core.specs.Bindable.{bound_by}
use Rattle.isle_core.specs.Block as block
use Rattle.isle_core.specs.Block.{Block, Control, Arms}
use Rattle.isle_core.specs.BlockLawful.{IsLawfulBlock}
use Rattle.isle_core.specs.Calling.{kind_of}
use Rattle.isle_core.specs.Setting.{Setting, gives_several}
use Rattle.isle_core.proofs.OptionLaws.{some_same}
use Rattle.isle_tree.specs.declared.tree.Operand.{Operand}
use Rattle.isle_tree.specs.declared.tree.Read.{Read}
use Rattle.isle_tree.specs.declared.tree.TExpr.{TExpr}
use Rattle.isle_tree.specs.declared.tree.TPat.{TPat}
use Rattle.isle_tree.specs.Program as tree
use Rattle.isle_tree.specs.Program.{Stmt, IfEq, IfLet, Match, Loop, Return, Body, Done, Then, Function}
use Rattle.isle_simulation.specs.Completed.{step_binds, completed, completed_control, completed_arms}
use Rattle.isle_simulation.specs.Manner.{Manner, has_closure, closed_if, arm_manner}
use Rattle.isle_simulation.proofs.CompletedArms.{arm_of, arm_by}
use Rattle.isle_simulation.specs.Operands.{tested, operand_of}
use Rattle.isle_simulation.specs.Patterns.{pattern_of, arm_pattern}
use Rattle.isle_simulation.specs.ReadOf.{IsReadBy}
use Rattle.isle_simulation.specs.Statements.{read_in, computed, bound_expr, binds_list, local_stmt, let_of, lets, stmt_before, if_eq, if_let, return_of, stop_before, looped_local, loop_of, plain_read, arm_stmt, match_read, match_of, arm_before, told_body, told_control, told_each}
use Rattle.isle_simulation.specs.StatementsOf.{IsLetOf, HasLets, no_let, one_let, HasStop, stops, goes_on, answers_once, HasLine, silent, told, no_result, StandsInArm, as_they_are, in_a_closure, AreStatements, ended, step, IsStatement, test, taken, matched, equal, loop, returned, returned_some, extended, IsArm, arm, AreArms, no_arm, one_arm, IsFunctionOf}
use Rattle.isle_simulation.specs.Telling.{Telling, told_before}
use Rattle.isle_simulation.specs.TermFunction.{function_with, root_body, tail_in, term_function}
use Rattle.isle_simulation.proofs.ComputedExprs.{computed_is}
use Rattle.isle_simulation.proofs.LocalsAre.{HasLocals, ControlHasLocals, ArmsHaveLocals, lawful_has_locals}
use Rattle.isle_simulation.proofs.OperandsAre.{none_some, operand_is, read_is, plain_is, by_is}

-- ---- parts that are there

-- a statement before others is there with both
stmt_parts : (o : Option Stmt) (rest : Option Body) (all : Body) → stmt_before o rest ≡ Some all → (st : Stmt) × (o ≡ Some st) × ((others : Body) × (rest ≡ Some others) × (all ≡ Then st others))
stmt_parts (Some st) (Some others) all e = (st, refl, (others, refl, sym (some_same _ all e)))
stmt_parts (Some st) None all e = absurd (none_some all e)
stmt_parts None rest all e = absurd (none_some all e)

if_eq_parts : (a b : Option Operand) (o : Option Body) (st : Stmt) → if_eq a b o ≡ Some st → (x : Operand) × (a ≡ Some x) × ((y : Operand) × (b ≡ Some y) × ((inside : Body) × (o ≡ Some inside) × (st ≡ IfEq x y inside)))
if_eq_parts (Some x) (Some y) (Some inside) st e = (x, refl, (y, refl, (inside, refl, sym (some_same _ st e))))
if_eq_parts (Some x) (Some y) None st e = absurd (none_some st e)
if_eq_parts (Some x) None o st e = absurd (none_some st e)
if_eq_parts None b o st e = absurd (none_some st e)

if_let_parts : (p : Option TPat) (r : Option Read) (o : Option Body) (st : Stmt) → if_let p r o ≡ Some st → (pat : TPat) × (p ≡ Some pat) × ((x : Read) × (r ≡ Some x) × ((inside : Body) × (o ≡ Some inside) × (st ≡ IfLet pat x inside)))
if_let_parts (Some pat) (Some x) (Some inside) st e = (pat, refl, (x, refl, (inside, refl, sym (some_same _ st e))))
if_let_parts (Some pat) (Some x) None st e = absurd (none_some st e)
if_let_parts (Some pat) None o st e = absurd (none_some st e)
if_let_parts None r o st e = absurd (none_some st e)

loop_parts : (l : Option ℕ) (item : ℕ) (o : Option Body) (st : Stmt) → loop_of l item o ≡ Some st → (list : ℕ) × (l ≡ Some list) × ((inside : Body) × (o ≡ Some inside) × (st ≡ Loop list item inside))
loop_parts (Some list) item (Some inside) st e = (list, refl, (inside, refl, sym (some_same _ st e)))
loop_parts (Some list) item None st e = absurd (none_some st e)
loop_parts None item o st e = absurd (none_some st e)

match_parts : (r : Option Read) (o : Option tree.Arms) (st : Stmt) → match_of r o ≡ Some st → (x : Read) × (r ≡ Some x) × ((arms : tree.Arms) × (o ≡ Some arms) × (st ≡ Match x arms))
match_parts (Some x) (Some arms) st e = (x, refl, (arms, refl, sym (some_same _ st e)))
match_parts (Some x) None st e = absurd (none_some st e)
match_parts None o st e = absurd (none_some st e)

arm_parts : (p : Option TPat) (o : Option Body) (rest : Option tree.Arms) (all : tree.Arms) → arm_before p o rest ≡ Some all
    → (pat : TPat) × (p ≡ Some pat) × ((inside : Body) × (o ≡ Some inside) × ((arms : tree.Arms) × (rest ≡ Some arms) × (all ≡ tree.Arm pat inside arms)))
arm_parts (Some pat) (Some inside) (Some arms) all e = (pat, refl, (inside, refl, (arms, refl, sym (some_same _ all e))))
arm_parts (Some pat) (Some inside) None all e = absurd (none_some all e)
arm_parts (Some pat) None rest all e = absurd (none_some all e)
arm_parts None o rest all e = absurd (none_some all e)

-- ---- what stands around

let_is : (s : Setting) (bound : List ℕ) (b : BindingId) (st : Stmt) → let_of (binds_list s b) b.0 (bound_expr s bound b) ≡ Some st → IsLetOf s bound b st
let_is s bound b st e = one (slice_get s.bindings b.0) refl e
  where
    made : (x : Binding) → slice_get s.bindings b.0 ≡ Some x → (o : Option TExpr) → computed s bound b (Some x) ≡ o → option_map (local_stmt (binds_list s b) b.0) o ≡ Some st → IsLetOf s bound b st
    made x there (Some e) is same = record { form = x; there = there; expr = e; computes = computed_is s bound b x e is; is = sym (some_same _ st same) }
    made x there None is same = absurd (none_some st same)

    one : (o : Option Binding) → slice_get s.bindings b.0 ≡ o → let_of (binds_list s b) b.0 (computed s bound b o) ≡ Some st → IsLetOf s bound b st
    one (Some x) there same = made x there (computed s bound b (Some x)) refl same
    one None there same = absurd (none_some st same)

-- lets before others
record HasLetsBefore (s : Setting) (bound : List ℕ) (bs : List BindingId) (rest : Option Body) (all : Body) : Type 0 where
  others : Body
  there : rest ≡ Some others
  lets : HasLets s bound bs others all

lets_are : (s : Setting) (bs : List BindingId) (bound : List ℕ) (rest : Option Body) (all : Body) → lets s bound bs rest ≡ Some all → HasLetsBefore s bound bs rest all
lets_are s [] bound rest all e = record { others = all; there = e; lets = no_let bound all }
lets_are s (b ∷ bs) bound rest all e =
    let h = stmt_parts (let_of (binds_list s b) b.0 (bound_expr s bound b)) (lets s (bound ++ b.0 ∷ []) bs rest) all e in
    let k = lets_are s bs (bound ++ b.0 ∷ []) rest h.2.0 h.2.1 in
    record { others = k.others; there = k.there; lets = subst (HasLets s bound (b ∷ bs) k.others) (sym h.2.2) (one_let bound b bs h.0 k.others h.2.0 (let_is s bound b h.0 h.1) k.lets) }

line_is : (telling : Telling) (s : Setting) (inner : List ℕ) (c : Control) (rest : Option Body) (all : Body) → told_before telling (completed_control s inner c) rest ≡ Some all → (others : Body) × (rest ≡ Some others) × HasLine telling c others all
line_is None s inner c rest all e = (all, e, silent c all)
line_is (Some line) s inner (block.Match source arms) rest all e = (all, e, no_result line (block.Match source arms) all refl)
line_is (Some line) s inner (block.Equal a b body) rest all e = (all, e, no_result line (block.Equal a b body) all refl)
line_is (Some line) s inner (block.Loop result body) rest all e = (all, e, no_result line (block.Loop result body) all refl)
line_is (Some line) s inner (block.Return pos result) (Some others) all e = (others, refl, subst (HasLine (Some line) (block.Return pos result) others) (some_same _ all e) (told line pos result others))
line_is (Some line) s inner (block.Return pos result) None all e = absurd (none_some all e)

stop_is : (manner : Manner) (several : Bool) (s : Setting) (inner : List ℕ) (c : Control) (rest : Option Body) (all : Body) → stop_before manner several (completed_control s inner c) rest ≡ Some all → (others : Body) × (rest ≡ Some others) × HasStop manner several c others all
stop_is manner false s inner c rest all e = (all, e, answers_once c all)
stop_is manner true s inner (block.Match source arms) rest all e = (all, e, goes_on true (block.Match source arms) all refl)
stop_is manner true s inner (block.Equal a b body) rest all e = (all, e, goes_on true (block.Equal a b body) all refl)
stop_is manner true s inner (block.Loop result body) rest all e = (all, e, goes_on true (block.Loop result body) all refl)
stop_is manner true s inner (block.Return pos result) (Some others) all e = (others, refl, subst (HasStop manner true (block.Return pos result) others) (some_same _ all e) (stops pos result others))
stop_is manner true s inner (block.Return pos result) None all e = absurd (none_some all e)

result_is : (s : Setting) (manner : Manner) (bound : List ℕ) (pos : _) (b : BindingId) (st : Stmt) → return_of (kind_of s.term.kind) (read_in s bound false b) ≡ Some st → IsStatement s manner bound (block.Return pos b) st
result_is s manner bound pos b st e = one (kind_of s.term.kind) refl (read_in s bound false b) refl e
  where
    one : (k : ReturnKind) → kind_of s.term.kind ≡ k → (o : Option Read) → read_in s bound false b ≡ o → return_of k o ≡ Some st → IsStatement s manner bound (block.Return pos b) st
    one return_kind.Plain k (Some r) is e = subst (IsStatement s manner bound (block.Return pos b)) (some_same _ st e) (returned manner bound pos b r k (read_is s bound false b r is))
    one return_kind.Option k (Some r) is e = subst (IsStatement s manner bound (block.Return pos b)) (some_same _ st e) (returned_some manner bound pos b r k (read_is s bound false b r is))
    one return_kind.Iterator k (Some r) is e = subst (IsStatement s manner bound (block.Return pos b)) (some_same _ st e) (extended manner bound pos b r k (read_is s bound false b r is))
    one return_kind.Plain k None is e = absurd (none_some st e)
    one return_kind.Option k None is e = absurd (none_some st e)
    one return_kind.Iterator k None is e = absurd (none_some st e)

mapped_some : {A : Type 0} (f : A → A) (o : Option A) (y : A) → option_map f o ≡ Some y → (x : A) × (o ≡ Some x) × (f x ≡ y)
mapped_some f (Some x) y e = (x, refl, some_same (f x) y e)
mapped_some f None y e = absurd (none_some y e)

in_closure : (manner : Manner) (b : Block) (own : Bool) (made : Body) → has_closure manner b ≡ own → StandsInArm manner b made (closed_if own manner.inside made)
in_closure manner b true made e = in_a_closure made e
in_closure manner b false made e = as_they_are made e

-- it is the arm's, if the statements of the body are its statements in each manner
arm_is : (s : Setting) (manner : Manner) (bound : List ℕ) (b : Block) (inside : Body) → ((m : Manner) (made : Body) → told_body m s bound (completed s bound b) (Some Done) ≡ Some made → AreStatements s m bound b Done made)
    → arm_of manner s bound b ≡ Some inside → IsArm s manner bound b inside
arm_is s manner bound b inside are e =
    let made = mapped_some (closed_if (has_closure manner b) manner.inside) (told_body (arm_manner manner b) s bound (completed s bound b) (Some Done)) inside (sym (arm_by manner s bound b) ∙ e) in
    arm manner bound b made.0 inside (are (arm_manner manner b) made.0 made.1) (subst (StandsInArm manner b made.0) made.2 (in_closure manner b (has_closure manner b) made.0 refl))

tested_is : (s : Setting) (manner : Manner) (bound : List ℕ) (source : BindingId) (c : Constraint) (places : List (Option BindingId)) (body : Block) (o : Option Body) (st : Stmt)
    → ((inside : Body) → o ≡ Some inside → IsArm s manner (bound_within bound places) body inside) → if_eq (operand_of s.env s.bindings bound source) (tested s.env c) o ≡ Some st
    → IsStatement s manner bound (block.Match source (block.Arm c places body block.NoArm)) st
tested_is s manner bound source c places body o st does e =
    let h = if_eq_parts (operand_of s.env s.bindings bound source) (tested s.env c) o st e in
    subst (IsStatement s manner bound (block.Match source (block.Arm c places body block.NoArm))) (sym h.2.2.2)
    (test manner bound source c places body h.0 h.2.0 h.2.2.0 (operand_is s bound source h.0 h.1) h.2.1 (does h.2.2.0 h.2.2.1))

taken_is : (s : Setting) (manner : Manner) (bound : List ℕ) (source : BindingId) (c : Constraint) (places : List (Option BindingId)) (body : Block) (r : Option Read) (o : Option Body) (st : Stmt)
    → ((inside : Body) → o ≡ Some inside → IsArm s manner (bound_within bound places) body inside) → ((x : Read) → r ≡ Some x → IsReadBy s bound source c x) → if_let (pattern_of s.env c places) r o ≡ Some st
    → IsStatement s manner bound (block.Match source (block.Arm c places body block.NoArm)) st
taken_is s manner bound source c places body r o st does reads e =
    let h = if_let_parts (pattern_of s.env c places) r o st e in
    subst (IsStatement s manner bound (block.Match source (block.Arm c places body block.NoArm))) (sym h.2.2.2)
    (taken manner bound source c places body h.0 h.2.0 h.2.2.0 h.1 (reads h.2.0 h.2.1) (does h.2.2.0 h.2.2.1))

one_arm_is : (s : Setting) (manner : Manner) (bound : List ℕ) (source : BindingId) (c : Constraint) (places : List (Option BindingId)) (body : Block) (o : Option Body) (st : Stmt)
    → ((inside : Body) → o ≡ Some inside → IsArm s manner (bound_within bound places) body inside) → arm_stmt s bound source c places o ≡ Some st → IsStatement s manner bound (block.Match source (block.Arm c places body block.NoArm)) st
one_arm_is s manner bound source (constraint.ConstBool val) places body o st does e = tested_is s manner bound source (constraint.ConstBool val) places body o st does e
one_arm_is s manner bound source (constraint.ConstInt val ty) places body o st does e = tested_is s manner bound source (constraint.ConstInt val ty) places body o st does e
one_arm_is s manner bound source (constraint.ConstPrim val) places body o st does e = tested_is s manner bound source (constraint.ConstPrim val) places body o st does e
one_arm_is s manner bound source (constraint.Variant ty variant) places body o st does e = taken_is s manner bound source (constraint.Variant ty variant) places body (read_in s bound true source) o st does (read_is s bound true source) e
one_arm_is s manner bound source (constraint.Struct ty) places body o st does e = taken_is s manner bound source (constraint.Struct ty) places body (read_in s bound true source) o st does (read_is s bound true source) e
one_arm_is s manner bound source constraint.Some places body o st does e = taken_is s manner bound source constraint.Some places body (plain_read (operand_of s.env s.bindings bound source)) o st does (plain_is s bound source) e

-- ---- blocks

mutual
  block_is : (b : Block) (s : Setting) (manner : Manner) (bound : List ℕ) (end all : Body) → HasLocals s bound b → told_body manner s bound (completed s bound b) (Some end) ≡ Some all → AreStatements s manner bound b end all
  block_is block.Stop s manner bound end all h e = subst (AreStatements s manner bound block.Stop end) (some_same end all e) (ended manner bound end)
  block_is (block.Step binds c more) s manner bound end all h e =
      let bs = step_binds s bound binds c in
      let inner = bound_by bound bs in
      let after = told_body manner s inner (completed s inner more) (Some end) in
      let stopped = stop_before manner (gives_several s) (completed_control s inner c) after in
      let stated = stmt_before (told_control manner s inner (completed_control s inner c)) stopped in
      let ls = lets_are s bs bound (told_before manner.telling (completed_control s inner c) stated) all e in
      let line = line_is manner.telling s inner c stated ls.others ls.there in
      let parts = stmt_parts (told_control manner s inner (completed_control s inner c)) stopped line.0 line.1 in
      let stop = stop_is manner (gives_several s) s inner c after parts.2.0 parts.2.1 in
      step manner bound binds c more bs parts.0 end stop.0 parts.2.0 ls.others all h.0
      (control_is c s manner inner parts.0 h.1 parts.1)
      (block_is more s manner inner end stop.0 h.2 stop.1)
      stop.2
      (subst (λ x. HasLine manner.telling c x ls.others) parts.2.2 line.2)
      ls.lets

  control_is : (c : Control) (s : Setting) (manner : Manner) (bound : List ℕ) (st : Stmt) → ControlHasLocals s bound c → told_control manner s bound (completed_control s bound c) ≡ Some st → IsStatement s manner bound c st
  control_is (block.Match source block.NoArm) s manner bound st h e = absurd (none_some st e)
  control_is (block.Match source (block.Arm c places body block.NoArm)) s manner bound st h e =
      one_arm_is s manner bound source c places body (arm_of manner s (bound_within bound places) body) st (λ inside same. arm_is s manner (bound_within bound places) body inside (λ m made e. block_is body s m (bound_within bound places) Done made h.0 e) same) e
  control_is (block.Match source (block.Arm c places body (block.Arm d others inside more))) s manner bound st h e =
      let w = bound_within bound places in
      let arms = arm_before (arm_pattern s.env c places) (arm_of manner s w body) (told_each manner s bound (completed_arms s bound (block.Arm d others inside more))) in
      let parts = match_parts (match_read s bound source c) arms st e in
      subst (IsStatement s manner bound (block.Match source (block.Arm c places body (block.Arm d others inside more)))) (sym parts.2.2)
      (matched manner bound source c d places others body inside more parts.0 parts.2.0 (by_is s bound source c parts.0 parts.1) (arms_are (block.Arm c places body (block.Arm d others inside more)) s manner bound parts.2.0 h parts.2.1))
  control_is (block.Equal a b body) s manner bound st h e =
      let parts = if_eq_parts (operand_of s.env s.bindings bound a) (operand_of s.env s.bindings bound b) (told_body manner s bound (completed s bound body) (Some Done)) st e in
      subst (IsStatement s manner bound (block.Equal a b body)) (sym parts.2.2.2)
      (equal manner bound a b body parts.0 parts.2.0 parts.2.2.0 (operand_is s bound a parts.0 parts.1) (operand_is s bound b parts.2.0 parts.2.1) (block_is body s manner bound Done parts.2.2.0 h parts.2.2.1))
  control_is (block.Loop result body) s manner bound st h e =
      let w = bound ++ result.0 ∷ [] in
      let parts = loop_parts (looped_local s result) result.0 (told_body manner s w (completed s w body) (Some Done)) st e in
      subst (IsStatement s manner bound (block.Loop result body)) (sym parts.2.2) (loop manner bound result body parts.0 parts.2.0 parts.1 (block_is body s manner w Done parts.2.0 h parts.2.1))
  control_is (block.Return pos result) s manner bound st h e = result_is s manner bound pos result st e

  arms_are : (arms : Arms) (s : Setting) (manner : Manner) (bound : List ℕ) (all : tree.Arms) → ArmsHaveLocals s bound arms → told_each manner s bound (completed_arms s bound arms) ≡ Some all → AreArms s manner bound arms all
  arms_are block.NoArm s manner bound all h e = subst (AreArms s manner bound block.NoArm) (some_same tree.NoArm all e) (no_arm manner bound)
  arms_are (block.Arm c places body arms) s manner bound all h e =
      let w = bound_within bound places in
      let parts = arm_parts (arm_pattern s.env c places) (arm_of manner s w body) (told_each manner s bound (completed_arms s bound arms)) all e in
      subst (AreArms s manner bound (block.Arm c places body arms)) (sym parts.2.2.2)
      (one_arm manner bound c places body arms parts.0 parts.2.0 parts.2.2.0 parts.1 (arm_is s manner w body parts.2.0 (λ m made e. block_is body s m w Done made h.0 e) parts.2.1) (arms_are arms s manner bound parts.2.2.0 h.1 parts.2.2.1))

-- the function that a lawful block gives is that of its term with this block
pub function_is : (options : CodegenOptions) (files : Files) (s : Setting) (b : Block) (f : Function) → IsLawfulBlock s b → term_function options files s b ≡ Some f → IsFunctionOf options files s b f
function_is options files s b f lawful e = one (root_body options files s b) refl e
  where
    one : (o : Option Body) → root_body options files s b ≡ o → option_map (function_with s.env s.term) o ≡ Some f → IsFunctionOf options files s b f
    one (Some body) is same = record { body = body; statements = block_is b s _ [] (tail_in files s.env s.term b) body (lawful_has_locals s b lawful) is; is = sym (some_same _ f same) }
    one None is same = absurd (none_some f same)
