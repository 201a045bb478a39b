-- The function of a term has the shape of its block.
use Rattle.std.proofs.Common.{◌≡◌, ℕ, List, [], ◌∷◌, ◌++◌, Bool, true, false, cond, Option, Some, None, refl, sym, ap, ◌∙◌, subst}
use Rattle.std.specs.Prelude.{option_map, slice_get}
use Rattle.isle_core.specs.declared.options.CodegenOptions.{CodegenOptions}
use Rattle.isle_core.specs.Calling.{kind_of}
use Rattle.isle_core.specs.declared.BindingId.{BindingId}
use Rattle.isle_core.specs.declared.Sym.{Sym}
use Rattle.isle_core.specs.declared.TypeId.{TypeId}
use Rattle.isle_core.specs.declared.files.Files.{Files}
use Rattle.isle_core.specs.declared.rule_sets.Binding.{Binding}
use Rattle.isle_core.specs.declared.rule_sets.Constraint.{Constraint}
use Rattle.isle_core.specs.declared.rule_sets.Constraint.TheVariants as constraint
use Rattle.isle_core.specs.declared.types.ReturnKind.{ReturnKind}
use Rattle.isle_core.specs.declared.types.ReturnKind.TheVariants as return_kind
use Rattle.isle_core.specs.declared.types.Term.{Term}
use Rattle.isle_core.specs.ArmPlaces.{bound_within}
use Rattle.isle_core.specs.Bindable.{bound_by}
use Rattle.isle_core.specs.Block as block
use Rattle.isle_core.specs.Block.{Block, Stop, Step, Control, Arms, Arm, NoArm}
use Rattle.isle_core.specs.BlockLawful.{Source, AValue, AnOption, IsConstraintOver, IsLawfulBlock}
use Rattle.isle_core.specs.Places.{place_in}
use Rattle.isle_core.specs.Rule.{Environment}
use Rattle.isle_core.specs.Setting.{Setting, setting, gives_several}
use Rattle.isle_core.specs.Terms.{sym_text}
use Rattle.isle_tree.specs.declared.tree.Read.{Read}
use Rattle.isle_tree.specs.declared.tree.Read.TheVariants as read
use Rattle.isle_tree.specs.declared.tree.TBind.{TBind}
use Rattle.isle_tree.specs.declared.tree.TPat.{TPat}
use Rattle.isle_tree.specs.declared.tree.TPat.TheVariants as pattern
use Rattle.isle_tree.specs.declared.tree.TExpr.TheVariants as expr
use Rattle.isle_tree.specs.Program.{Body, Done, Then}
use Rattle.isle_simulation.specs.Bare.{bare, bare_before, bare_arms}
use Rattle.isle_simulation.specs.Completed.{step_binds, completed, completed_control, completed_arms}
use Rattle.isle_simulation.specs.Manner.{bare_manner}
use Rattle.isle_simulation.specs.Patterns.{pattern_named, some_pattern, pattern_of}
use Rattle.isle_simulation.specs.References.{is_reference_in, read_as}
use Rattle.isle_simulation.specs.OperandOf.{IsOperandOf}
use Rattle.isle_simulation.specs.ReadOf.{IsReadOf, IsPlainOf, IsReadBy}
use Rattle.isle_simulation.specs.Shape.{IsResultOf, IsTestedBy, AreSteps, HasShape, DoesControl, DoArms, IsGivenOf}
use Rattle.isle_simulation.specs.Statements.{plain_read, binds_list, local_stmt, looped_local, list_local}
use Rattle.isle_simulation.specs.TermFunction.{ends_in_return, mark_of, tail_body, log_lines}
use Rattle.isle_simulation.proofs.ArmsRun.{ArmPattern, arm_pattern}
use Rattle.isle_simulation.proofs.CompletedReady.{completed_ready}
use Rattle.isle_simulation.proofs.CompletedRuns.{Adds, adds_none, adds_step, adds_within, operands_same, adds_both}
use Rattle.isle_simulation.proofs.OperandsAre.{operand_is, read_is, plain_is}
use Rattle.isle_simulation.proofs.Made.{over_value, over_option, test_there, operand_there, option_there, some_made, pattern_there, arm_there}
use Rattle.isle_simulation.proofs.Ready.{IsReady, IsReadyIn, IsOptionReady, IsReadyFrom, IsReadyControl, AreReadyArms}
use Rattle.isle_simulation.proofs.Written.{written_operand, written_read, written_pattern, match_read as written_match, told_each, block_body, control_stmt, lets, written_body, logged_function, result_stmt, stop_before, written_list, bound_expr}
use Rattle.isle_simulation.proofs.LoggedLaws.{logged_bare}
use Rattle.isle_tree.specs.declared.tree.TExpr.{TExpr}
use Rattle.isle_simulation.proofs.LocalStmts.{local_by}

-- ---- operands

-- the operand in a completed block is that in the block
operand_shape : (s : Setting) (bound more : List ℕ) (b : BindingId) (ty : TypeId) → Adds s bound more → IsReady s more b ty → IsOperandOf s bound b (written_operand s more b)
operand_shape s bound more b ty a h = operand_is s bound b (written_operand s more b) (sym (operands_same s bound more b a) ∙ operand_there s more b ty h)

read_shape : (s : Setting) (bound more : List ℕ) (wanted : Bool) (b : BindingId) (ty : TypeId) → Adds s bound more → IsReady s more b ty → IsReadOf s bound wanted b (written_read s more wanted b)
read_shape s bound more wanted b ty a h =
    read_is s bound wanted b (written_read s more wanted b) (ap (option_map (read_as wanted (is_reference_in s b))) (sym (operands_same s bound more b a) ∙ operand_there s more b ty h))

-- so of what is read as it is
plain_shape : (s : Setting) (bound more : List ℕ) (b : BindingId) (ty : TypeId) → Adds s bound more → IsReady s more b ty → IsPlainOf s bound b (read.Plain (written_operand s more b))
plain_shape s bound more b ty a h = record { operand = written_operand s more b; stands = operand_shape s bound more b ty a h; is = refl }

-- so of an option, which is read as it is
option_shape : (s : Setting) (bound more : List ℕ) (b : BindingId) (tys : List TypeId) → Adds s bound more → IsOptionReady s more b tys → IsPlainOf s bound b (read.Plain (written_operand s more b))
option_shape s bound more b tys a h = plain_is s bound b (read.Plain (written_operand s more b)) (ap plain_read (sym (operands_same s bound more b a) ∙ option_there s more b tys h))

-- a variant or a struct is taken apart behind a reference
form_tested : (s : Setting) (bound : List ℕ) (b : BindingId) (ty : Sym) (variant : Option Sym) (more : Bool) (binds : List TBind) (r : Read) → IsReadOf s bound true b r → IsTestedBy s bound b (pattern_named s.env ty variant more binds) r
form_tested s bound b ty (Some variant) more binds r h = h
form_tested s bound b ty None more binds r h = h

arm_tested : (s : Setting) (bound : List ℕ) (b : BindingId) (c : Constraint) (places : List (Option BindingId)) (p : ArmPattern s.env c places) (r : Read) → IsReadOf s bound true b r → IsTestedBy s bound b (written_pattern (pattern_of s.env c places)) r
arm_tested s bound b c places p r h = subst (λ o. IsTestedBy s bound b (written_pattern o) r) (sym p.is) (form_tested s bound b p.f.ty p.f.variant _ p.binds r h)

some_tested : (s : Setting) (bound : List ℕ) (b : BindingId) (o : Option TPat) (local : Option ℕ) (r : Read) → o ≡ Some (pattern.Some local) → IsPlainOf s bound b r → IsTestedBy s bound b (written_pattern o) r
some_tested s bound b o local r e h = subst (λ x. IsTestedBy s bound b (written_pattern x) r) (sym e) h

-- what a match of several arms reads
match_shape : (s : Setting) (bound more : List ℕ) (source : BindingId) (over : Source) (c : Constraint) → Adds s bound more → IsReadyIn s more source over → IsConstraintOver s.env c over → IsReadBy s bound source c (written_match s more source c)
match_shape s bound more source (AValue ty) (constraint.ConstBool val) a ready is = plain_shape s bound more source ty a ready
match_shape s bound more source (AValue ty) (constraint.ConstInt val of) a ready is = plain_shape s bound more source ty a ready
match_shape s bound more source (AValue ty) (constraint.ConstPrim val) a ready is = plain_shape s bound more source ty a ready
match_shape s bound more source (AValue ty) (constraint.Variant of variant) a ready is = read_shape s bound more true source ty a ready
match_shape s bound more source (AValue ty) (constraint.Struct of) a ready is = read_shape s bound more true source ty a ready
match_shape s bound more source (AValue ty) constraint.Some a ready is = absurd is
match_shape s bound more source (AnOption tys) constraint.Some a ready is = option_shape s bound more source tys a ready
match_shape s bound more source (AnOption tys) (constraint.ConstBool val) a ready is = absurd cc
match_shape s bound more source (AnOption tys) (constraint.ConstInt val of) a ready is = absurd cc
match_shape s bound more source (AnOption tys) (constraint.ConstPrim val) a ready is = absurd cc
match_shape s bound more source (AnOption tys) (constraint.Variant of variant) a ready is = absurd cc
match_shape s bound more source (AnOption tys) (constraint.Struct of) a ready is = absurd cc

-- a statement and others do what a step does, and the steps after it
abbrev AreResultSteps : Setting → List ℕ → Body → Control → Block → Type 0
AreResultSteps s bound (Then st ss) c more = DoesControl s bound st c × AreSteps s bound ss more
AreResultSteps s bound Done c more = ⊥

result_steps : (s : Setting) (outer : List ℕ) (binds : List BindingId) (bound : List ℕ) (body : Body) (c : Control) (more : Block) → bound_by outer binds ≡ bound → AreResultSteps s bound body c more → AreSteps s outer body (Step binds c more)
result_steps s outer binds bound (Then st ss) c more e h = rw e h
result_steps s outer binds bound Done c more e h = absurd h

result_shape : (s : Setting) (bound : List ℕ) (kind : ReturnKind) → kind_of s.term.kind ≡ kind → (pos : _) (b : BindingId) (r : Read) (after : Body) (more : Block) → IsReadOf s bound false b r → AreSteps s bound after more
    → AreResultSteps s bound (bare_before (result_stmt kind r) after) (block.Return pos b) more
result_shape s bound return_kind.Plain e pos b r after more h k = (subst (λ x. IsResultOf s bound x b (expr.Read r)) (sym e) h, k)
result_shape s bound return_kind.Option e pos b r after more h k = (subst (λ x. IsResultOf s bound x b (expr.Some r)) (sym e) h, k)
result_shape s bound return_kind.Iterator e pos b r after more h k = (subst (λ x. IsGivenOf s bound x b r) (sym e) h, k)

stop_bare : (limit : ℕ) (several : Bool) (c : Control) (after : Body) → bare (stop_before (bare_manner limit) several c after) ≡ bare after
stop_bare limit true (block.Return place result) after = refl
stop_bare limit true (block.Match source arms) after = refl
stop_bare limit true (block.Equal a b body) after = refl
stop_bare limit true (block.Loop result body) after = refl
stop_bare limit false c after = refl

written_loop : (o : Option ℕ) (list : ℕ) → o ≡ Some list → o ≡ Some (written_list o)
written_loop o list e = rw e refl

-- ---- statements

local_bare : (often : Bool) (n : ℕ) (e : TExpr) (after : Body) → bare_before (local_stmt often n e) after ≡ after
local_bare often n e after = local_by (λ st. bare_before st after ≡ after) often n e refl (λ borrow call is. refl)

-- lets are not bare
lets_bare : (s : Setting) (bound : List ℕ) (binds : List BindingId) (more : Body) → bare (lets s bound binds more) ≡ bare more
lets_bare s bound [] more = refl
lets_bare s bound (x ∷ binds) more = local_bare (binds_list s x) x.0 (bound_expr s bound x (slice_get s.bindings x.0)) (bare (lets s (bound ++ x.0 ∷ []) binds more)) ∙ lets_bare s (bound ++ x.0 ∷ []) binds more

module _ (limit : ℕ) where
  mutual
    block_shape : (b : Block) (s : Setting) (bound more made : List ℕ) (end : Body) → Adds s bound more → IsReadyFrom s more made (completed s more b) → bare end ≡ Done
        → AreSteps s bound (bare (block_body limit s more (completed s more b) end)) b
    block_shape Stop s bound more made end a k e = subst (λ body. AreSteps s bound body Stop) (sym e) tt
    block_shape (Step binds c rest) s bound more made end a k e =
        let bs = step_binds s more binds c in
        let inner = bound_by more bs in
        let after = adds_step s binds c bound more a in
        let body = block_body limit s inner (completed s inner rest) end in
        subst (λ x. AreSteps s bound x (Step binds c rest)) (sym (lets_bare s more bs (Then (control_stmt limit s inner (completed_control s inner c)) (stop_before (bare_manner limit) (gives_several s) (completed_control s inner c) body)) ∙ ap (bare_before (control_stmt limit s inner (completed_control s inner c))) (stop_bare limit (gives_several s) (completed_control s inner c) body)))
        (control_shape c rest s bound binds (bound_by bound binds) inner _ (bare body) refl after k.2 (block_shape rest s (bound_by bound binds) inner _ end after k.3 e))

    control_shape : (c : Control) (rest : Block) (s : Setting) (outer : List ℕ) (binds : List BindingId) (bound more made : List ℕ) (after : Body) → bound_by outer binds ≡ bound → Adds s bound more
        → IsReadyControl s more made (completed_control s more c) → AreSteps s bound after rest
        → AreSteps s outer (bare_before (control_stmt limit s more (completed_control s more c)) after) (Step binds c rest)
    control_shape (block.Match source (Arm (constraint.ConstBool val) places body NoArm)) rest s outer binds bound more made after e a k h =
        let v = over_value s more source (constraint.ConstBool val) k.1.0 (λ e. cc) k.1.1 k.1.2.0 in
        rw e ((operand_shape s bound more source v.ty a v.ready, (test_there s.env (constraint.ConstBool val) tt, block_shape body s (bound_within bound places) (bound_within more places) made Done (adds_within s places bound more a) k.1.2.2 refl)), h)
    control_shape (block.Match source (Arm (constraint.ConstInt val of) places body NoArm)) rest s outer binds bound more made after e a k h =
        let v = over_value s more source (constraint.ConstInt val of) k.1.0 (λ e. cc) k.1.1 k.1.2.0 in
        rw e ((operand_shape s bound more source v.ty a v.ready, (test_there s.env (constraint.ConstInt val of) tt, block_shape body s (bound_within bound places) (bound_within more places) made Done (adds_within s places bound more a) k.1.2.2 refl)), h)
    control_shape (block.Match source (Arm (constraint.ConstPrim val) places body NoArm)) rest s outer binds bound more made after e a k h =
        let v = over_value s more source (constraint.ConstPrim val) k.1.0 (λ e. cc) k.1.1 k.1.2.0 in
        rw e ((operand_shape s bound more source v.ty a v.ready, (test_there s.env (constraint.ConstPrim val) tt, block_shape body s (bound_within bound places) (bound_within more places) made Done (adds_within s places bound more a) k.1.2.2 refl)), h)
    control_shape (block.Match source (Arm (constraint.Variant of variant) places body NoArm)) rest s outer binds bound more made after e a k h =
        let v = over_value s more source (constraint.Variant of variant) k.1.0 (λ e. cc) k.1.1 k.1.2.0 in
        let p = arm_pattern s source v.ty (constraint.Variant of variant) places v.is k.1.2.1 tt in
        rw e ((arm_tested s bound source (constraint.Variant of variant) places p _ (read_shape s bound more true source v.ty a v.ready), (pattern_there (pattern_of s.env (constraint.Variant of variant) places) _ p.is, block_shape body s (bound_within bound places) (bound_within more places) made Done (adds_within s places bound more a) k.1.2.2 refl)), h)
    control_shape (block.Match source (Arm (constraint.Struct of) places body NoArm)) rest s outer binds bound more made after e a k h =
        let v = over_value s more source (constraint.Struct of) k.1.0 (λ e. cc) k.1.1 k.1.2.0 in
        let p = arm_pattern s source v.ty (constraint.Struct of) places v.is k.1.2.1 tt in
        rw e ((arm_tested s bound source (constraint.Struct of) places p _ (read_shape s bound more true source v.ty a v.ready), (pattern_there (pattern_of s.env (constraint.Struct of) places) _ p.is, block_shape body s (bound_within bound places) (bound_within more places) made Done (adds_within s places bound more a) k.1.2.2 refl)), h)
    control_shape (block.Match source (Arm constraint.Some places body NoArm)) rest s outer binds bound more made after e a k h =
        let v = over_option s more source k.1.0 k.1.1 k.1.2.0 in
        let p = some_made places k.1.2.1.0 in
        rw e ((some_tested s bound source (some_pattern places) p.0 _ p.1 (option_shape s bound more source v.0 a v.1), (pattern_there (some_pattern places) _ p.1, block_shape body s (bound_within bound places) (bound_within more places) made Done (adds_within s places bound more a) k.1.2.2 refl)), h)
    control_shape (block.Match source (Arm c places body (Arm d others inside arms))) rest s outer binds bound more made after e a k h =
        rw e ((match_shape s bound more source k.1.0 c a k.1.1 k.1.2.0, each_shape (Arm c places body (Arm d others inside arms)) s bound more made source k.1.0 a k.1.2), h)
    control_shape (block.Match source NoArm) rest s outer binds bound more made after e a k h = absurd k.0
    control_shape (block.Equal x y body) rest s outer binds bound more made after e a k h =
        rw e ((operand_shape s bound more x k.0.0 a k.0.1, operand_shape s bound more y k.0.0 a k.0.2, block_shape body s bound more made Done a k.1 refl), h)
    control_shape (block.Loop result body) rest s outer binds bound more made after e a k h =
        rw e ((written_loop (looped_local s result) k.0.source.0 (ap list_local k.0.is), refl, block_shape body s (bound ++ result.0 ∷ []) (more ++ result.0 ∷ []) made Done (adds_both s bound more result a) k.1 refl), h)
    control_shape (block.Return pos result) rest s outer binds bound more made after e a k h =
        result_steps s outer binds bound _ (block.Return pos result) rest e (result_shape s bound (kind_of s.term.kind) refl pos result (written_read s more false result) after rest (read_shape s bound more false result s.term.ret_ty a k) h)

    -- each of several arms
    each_shape : (arms : Arms) (s : Setting) (bound more made : List ℕ) (source : BindingId) (over : Source) → Adds s bound more → AreReadyArms s more made source over (completed_arms s more arms)
        → DoArms s bound (bare_arms (told_each (bare_manner limit) s more (completed_arms s more arms))) arms
    each_shape NoArm s bound more made source over a k = tt
    each_shape (Arm c places body arms) s bound more made source over a k =
        (arm_there s source over c places k.0 k.1, block_shape body s (bound_within bound places) (bound_within more places) made Done (adds_within s places bound more a) k.2 refl, each_shape arms s bound more made source over a k.3)

-- what stands after the steps has no step
mark_bare : (mark : Option (Option (List ℕ × List ℕ))) → bare (tail_body mark) ≡ Done
mark_bare None = refl
mark_bare (Some mark) = refl

tail_bare : (mark : Option (Option (List ℕ × List ℕ))) (x : Bool) → bare (cond x Done (tail_body mark)) ≡ Done
tail_bare mark true = refl
tail_bare mark false = mark_bare mark

-- the statements of a term's function are its block's steps
pub written_shape : (options : CodegenOptions) (files : Files) (env : Environment) (t : Term) (bs : List Binding) (b : Block) → IsLawfulBlock (setting env t bs) b → HasShape (setting env t bs) (logged_function options files env t bs b).body b
written_shape options files env t bs b h =
    subst (λ (body : Body). AreSteps (setting env t bs) [] body b) (sym (logged_bare (written_body options files env t bs b) (log_lines options files (setting env t bs) b)))
    (block_shape options.max_returns b (setting env t bs) [] [] [] _ (adds_none (setting env t bs) []) (completed_ready (setting env t bs) b h) (tail_bare (mark_of (kind_of t.kind) (sym_text env t.name) (place_in files t.decl_pos)) (ends_in_return b)))
