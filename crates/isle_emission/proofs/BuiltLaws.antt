-- Where a block has all its statements, all of it is built.
use Rattle.std.proofs.Common.{ℕ, List, [], ◌∷◌, ◌++◌, Bool, true, false, Option, Some, None, refl}
use Rattle.std.specs.Prelude.{IsSome, option_map}
use Rattle.isle_core.specs.declared.BindingId.{BindingId}
use Rattle.isle_core.specs.declared.rule_sets.Constraint.{Constraint}
use Rattle.isle_core.specs.declared.rule_sets.Constraint.TheVariants as constraint
use Rattle.isle_core.specs.declared.types.ReturnKind.{ReturnKind}
use Rattle.isle_core.specs.declared.types.ReturnKind.TheVariants as kind
use Rattle.isle_core.specs.ArmPlaces.{bound_within}
use Rattle.isle_core.specs.Bindable.{bound_by}
use Rattle.isle_core.specs.Block.{Block, Stop, Step, Control, Match, Equal, Loop, Return, Arms, NoArm, Arm}
use Rattle.isle_core.specs.Calling.{kind_of}
use Rattle.isle_core.specs.Setting.{Setting, gives_several}
use Rattle.isle_tree.specs.declared.tree.Operand.{Operand}
use Rattle.isle_tree.specs.declared.tree.Read.{Read}
use Rattle.isle_tree.specs.declared.tree.TPat.{TPat}
use Rattle.isle_tree.specs.Program as tree
use Rattle.isle_tree.specs.Program.{Stmt, Overflow, Body, Done}
use Rattle.isle_simulation.specs.Completed.{step_binds, completed, completed_control}
use Rattle.isle_simulation.specs.References.{is_reference_in, read_as}
use Rattle.isle_simulation.specs.Operands.{operand_of, tested}
use Rattle.isle_simulation.specs.Patterns.{pattern_of, arm_pattern}
use Rattle.isle_simulation.specs.Statements.{read_in, plain_read, bound_expr, binds_list, local_stmt, let_of, lets, stmt_before, stop_before, if_eq, if_let, return_of, loop_of, looped_local, arm_stmt, match_read, match_of, arm_before}
use Rattle.isle_simulation.specs.Manner.{Manner, arm_manner}
use Rattle.isle_simulation.proofs.CompletedArms.{arm_of}
use Rattle.isle_simulation.specs.Telling.{Telling, line_before, told_before}
use Rattle.isle_emission.specs.Built.{AreComputed, IsTested, IsBuilt, IsBuiltControl, AreBuilt, AreCasesBuilt}
use Rattle.isle_emission.specs.MadeBodies.{made_body, made_control, made_arms, made_each}

-- ---- what statements are made of

pub some_of : {A B : Type 0} (f : A → B) (o : Option A) → IsSome (option_map f o) → IsSome o
some_of f (Some x) h = refl
some_of f None h = absurd cc

before_some : (o : Option Stmt) (r : Option Body) → IsSome (stmt_before o r) → IsSome o × IsSome r
before_some (Some s) (Some ss) h = (refl, refl)
before_some (Some s) None h = absurd cc
before_some None r h = absurd cc

lets_some : (s : Setting) (bound : List ℕ) (binds : List BindingId) (r : Option Body) → IsSome (lets s bound binds r) → AreComputed s bound binds × IsSome r
lets_some s bound [] r h = (tt, h)
lets_some s bound (b ∷ bs) r h =
    let k = before_some (let_of (binds_list s b) b.0 (bound_expr s bound b)) (lets s (bound ++ b.0 ∷ []) bs r) h in
    let more = lets_some s (bound ++ b.0 ∷ []) bs r k.1 in
    ((some_of (local_stmt (binds_list s b) b.0) (bound_expr s bound b) k.0, more.0), more.1)

told_some : (telling : Telling) (c : Control) (o : Option Body) → IsSome (told_before telling c o) → IsSome o
told_some None c o h = h
told_some (Some line) (Match source arms) o h = h
told_some (Some line) (Equal a b body) o h = h
told_some (Some line) (Loop result body) o h = h
told_some (Some line) (Return place result) o h = some_of (line_before (line place)) o h

stop_some : (manner : Manner) (several : Bool) (c : Control) (o : Option Body) → IsSome (stop_before manner several c o) → IsSome o
stop_some manner false c o h = h
stop_some manner true (Match source arms) o h = h
stop_some manner true (Equal a b body) o h = h
stop_some manner true (Loop result body) o h = h
stop_some manner true (Return place result) o h = (before_some (Some (Overflow manner.inside manner.limit)) o h).1

return_some : (k : ReturnKind) (r : Option Read) → IsSome (return_of k r) → IsSome r
return_some k (Some r) h = refl
return_some kind.Plain None h = absurd cc
return_some kind.Option None h = absurd cc
return_some kind.Iterator None h = absurd cc

loop_some : (o : Option ℕ) (item : ℕ) (i : Option Body) → IsSome (loop_of o item i) → IsSome o × IsSome i
loop_some (Some list) item (Some i) h = (refl, refl)
loop_some (Some list) item None h = absurd cc
loop_some None item i h = absurd cc

-- both operands of a test, and what is within
equal_some : (a b : Option Operand) (i : Option Body) → IsSome (if_eq a b i) → IsSome a × IsSome b × IsSome i
equal_some (Some a) (Some b) (Some i) h = (refl, refl, refl)
equal_some (Some a) (Some b) None h = absurd cc
equal_some (Some a) None i h = absurd cc
equal_some None b i h = absurd cc

equal_there : (a b : Option Operand) (i : Option Body) → IsSome (if_eq a b i) → IsSome (if_eq a b (Some Done)) × IsSome i
equal_there (Some a) (Some b) (Some i) h = (refl, refl)
equal_there (Some a) (Some b) None h = absurd cc
equal_there (Some a) None i h = absurd cc
equal_there None b i h = absurd cc

fits_there : (p : Option TPat) (r : Option Read) (i : Option Body) → IsSome (if_let p r i) → IsSome (if_let p r (Some Done)) × IsSome i
fits_there (Some p) (Some r) (Some i) h = (refl, refl)
fits_there (Some p) (Some r) None h = absurd cc
fits_there (Some p) None i h = absurd cc
fits_there None r i h = absurd cc

test_some : (s : Setting) (bound : List ℕ) (source : BindingId) (c : Constraint) (places : List (Option BindingId)) (i : Option Body) → IsSome (arm_stmt s bound source c places i) → IsTested s bound source c places × IsSome i
test_some s bound source (constraint.ConstBool val) places i h = equal_there (operand_of s.env s.bindings bound source) (tested s.env (constraint.ConstBool val)) i h
test_some s bound source (constraint.ConstInt val ty) places i h = equal_there (operand_of s.env s.bindings bound source) (tested s.env (constraint.ConstInt val ty)) i h
test_some s bound source (constraint.ConstPrim val) places i h = equal_there (operand_of s.env s.bindings bound source) (tested s.env (constraint.ConstPrim val)) i h
test_some s bound source (constraint.Variant ty variant) places i h = fits_there (pattern_of s.env (constraint.Variant ty variant) places) (read_in s bound true source) i h
test_some s bound source (constraint.Struct ty) places i h = fits_there (pattern_of s.env (constraint.Struct ty) places) (read_in s bound true source) i h
test_some s bound source constraint.Some places i h = fits_there (pattern_of s.env constraint.Some places) (plain_read (operand_of s.env s.bindings bound source)) i h

-- what a match reads, and its arms
match_some : (r : Option Read) (o : Option tree.Arms) → IsSome (match_of r o) → IsSome r × IsSome o
match_some (Some r) (Some arms) h = (refl, refl)
match_some (Some r) None h = absurd cc
match_some None o h = absurd cc

-- the pattern of an arm, what is within, and the other arms
arm_some : (p : Option TPat) (i : Option Body) (o : Option tree.Arms) → IsSome (arm_before p i o) → IsSome p × IsSome i × IsSome o
arm_some (Some p) (Some i) (Some arms) h = (refl, refl, refl)
arm_some (Some p) (Some i) None h = absurd cc
arm_some (Some p) None o h = absurd cc
arm_some None i o h = absurd cc

-- ---- blocks

mutual
  pub block_built : (manner : Manner) (b : Block) (s : Setting) (bound : List ℕ) (end : Option Body) → IsSome (made_body manner s bound b end) → IsBuilt s bound b
  block_built manner Stop s bound end h = tt
  block_built manner (Step binds c more) s bound end h =
      let bs = step_binds s bound binds c in
      let inner = bound_by bound bs in
      let rest = made_body manner s inner more end in
      let stop = stop_before manner (gives_several s) (completed_control s inner c) rest in
      let then = stmt_before (made_control manner s inner c) stop in
      let l = lets_some s bound bs (told_before manner.telling (completed_control s inner c) then) h in
      let t = told_some manner.telling (completed_control s inner c) then l.1 in
      let k = before_some (made_control manner s inner c) stop t in
      (l.0, control_built manner c s inner k.0, block_built manner more s inner end (stop_some manner (gives_several s) (completed_control s inner c) rest k.1))

  control_built : (manner : Manner) (c : Control) (s : Setting) (bound : List ℕ) → IsSome (made_control manner s bound c) → IsBuiltControl s bound c
  control_built manner (Match source arms) s bound h = arms_built manner arms s bound source h
  control_built manner (Equal a b body) s bound h =
      let k = equal_some (operand_of s.env s.bindings bound a) (operand_of s.env s.bindings bound b) (made_body manner s bound body (Some Done)) h in
      (k.0, k.1, block_built manner body s bound (Some Done) k.2)
  control_built manner (Loop result body) s bound h =
      let k = loop_some (looped_local s result) result.0 (made_body manner s (bound ++ result.0 ∷ []) body (Some Done)) h in
      (k.0, block_built manner body s (bound ++ result.0 ∷ []) (Some Done) k.1)
  control_built manner (Return place result) s bound h =
      some_of (read_as false (is_reference_in s result)) (operand_of s.env s.bindings bound result) (return_some (kind_of s.term.kind) (read_in s bound false result) h)

  arms_built : (manner : Manner) (arms : Arms) (s : Setting) (bound : List ℕ) (source : BindingId) → IsSome (made_arms manner s bound source arms) → AreBuilt s bound source arms
  arms_built manner NoArm s bound source h = cc
  arms_built manner (Arm c places body NoArm) s bound source h =
      let k = test_some s bound source c places (arm_of manner s (bound_within bound places) body) h in
      (k.0, block_built (arm_manner manner (completed s (bound_within bound places) body)) body s (bound_within bound places) (Some Done) (some_of _ _ k.1))
  arms_built manner (Arm c places body (Arm d others inside arms)) s bound source h =
      let k = match_some (match_read s bound source c) (made_each manner s bound (Arm c places body (Arm d others inside arms))) h in
      let l = arm_some (arm_pattern s.env c places) (arm_of manner s (bound_within bound places) body) (made_each manner s bound (Arm d others inside arms)) k.1 in
      (k.0, l.0, block_built (arm_manner manner (completed s (bound_within bound places) body)) body s (bound_within bound places) (Some Done) (some_of _ _ l.1), cases_built manner (Arm d others inside arms) s bound l.2)

  cases_built : (manner : Manner) (arms : Arms) (s : Setting) (bound : List ℕ) → IsSome (made_each manner s bound arms) → AreCasesBuilt s bound arms
  cases_built manner NoArm s bound h = tt
  cases_built manner (Arm c places body arms) s bound h =
      let k = arm_some (arm_pattern s.env c places) (arm_of manner s (bound_within bound places) body) (made_each manner s bound arms) h in
      (k.0, block_built (arm_manner manner (completed s (bound_within bound places) body)) body s (bound_within bound places) (Some Done) (some_of _ _ k.1), cases_built manner arms s bound k.2)
