-- The statements of a block fit the kind of their function.
use Rattle.std.proofs.Common.{◌≡◌, ℕ, List, [], ◌∷◌, ◌++◌, Bool, true, false, Option, Some, None, slice_get, refl, ◌⊎◌, cond, inl, inr, ⊎_elim, sym, subst}
use Rattle.isle_core.specs.Calling.{kind_of, may_be_nothing, AnswersOnce, is_several}
use Rattle.isle_core.specs.declared.BindingId.{BindingId}
use Rattle.isle_core.specs.declared.Sym.{Sym}
use Rattle.isle_core.specs.declared.types.ReturnKind.{ReturnKind}
use Rattle.isle_core.specs.declared.types.ReturnKind.TheVariants as return_kind
use Rattle.isle_core.specs.declared.types.Term.{Term}
use Rattle.isle_core.specs.declared.rule_sets.Binding.{Binding}
use Rattle.isle_core.specs.declared.rule_sets.Binding.TheVariants as binding
use Rattle.isle_core.specs.declared.rule_sets.Constraint.{Constraint}
use Rattle.isle_core.specs.declared.rule_sets.Constraint.TheVariants as constraint
use Rattle.isle_core.specs.ArmPlaces.{bound_within}
use Rattle.isle_core.specs.Block as block
use Rattle.isle_core.specs.Block.{Block, Stop, Step, Control}
use Rattle.isle_core.specs.BlockLawful.{Source}
use Rattle.isle_core.specs.Bindable.{bound_by}
use Rattle.isle_core.specs.Form.{Form, form}
use Rattle.isle_core.specs.Making.{MakesVariant, MakesStruct}
use Rattle.isle_core.specs.Path.{at}
use Rattle.isle_core.specs.Rule.{Environment}
use Rattle.isle_core.specs.Setting.{Setting, paths_in, gives_several}
use Rattle.isle_tree.specs.declared.tree.Read.{Read}
use Rattle.isle_tree.specs.Program.{Stmt, Body, Done, Then}
use Rattle.isle_tree.specs.WellFormed.{FitsLet, FitsStmt, FitsBody, FitsArms, FitsEnding, FitsFunction}
use Rattle.isle_simulation.specs.Completed.{completed, step_binds}
use Rattle.isle_simulation.specs.Manner.{bare_manner}
use Rattle.isle_simulation.specs.Statements.{made_named, binds_list}
use Rattle.isle_simulation.specs.TermFunction.{ends_in_return, mark_of, tail_body, tail_of}
use Rattle.isle_simulation.proofs.Ready.{IsReadyBind, AreReadyBinds, IsReadyFrom, IsReadyControl, AreReadyArms}
use Rattle.isle_simulation.proofs.Written.{arm_stmt, told_each, block_body, bound_expr, call_expr, extraction_expr, control_stmt, lets, made_expr, written_read, result_stmt, stop_before, bound_stmt}
use Rattle.isle_simulation.proofs.LocalStmts.{local_by}

result_fits : (kind : ReturnKind) (r : Read) → FitsStmt kind false (result_stmt kind r)
result_fits return_kind.Plain r = tt
result_fits return_kind.Option r = tt
result_fits return_kind.Iterator r = tt

-- so the last of a function that answers once
last_fits : (kind : ReturnKind) → AnswersOnce kind → (r : Read) → FitsEnding kind (Then (result_stmt kind r) Done)
last_fits return_kind.Plain once r = tt
last_fits return_kind.Option once r = tt
last_fits return_kind.Iterator once r = absurd once

-- a stop stands where several results are given
stop_fits : (limit : ℕ) (kind : ReturnKind) (c : Control) (after : Body) → FitsBody kind false after → FitsBody kind false (stop_before (bare_manner limit) (is_several kind) c after)
stop_fits limit return_kind.Plain c after h = h
stop_fits limit return_kind.Option c after h = h
stop_fits limit return_kind.Iterator (block.Return pos result) after h = ((tt, refl), h)
stop_fits limit return_kind.Iterator (block.Match source arms) after h = h
stop_fits limit return_kind.Iterator (block.Equal a b body) after h = h
stop_fits limit return_kind.Iterator (block.Loop result body) after h = h

-- and in no other function
no_stop : (limit : ℕ) (kind : ReturnKind) → AnswersOnce kind → (c : Control) (after : Body) → stop_before (bare_manner limit) (is_several kind) c after ≡ after
no_stop limit return_kind.Plain once c after = refl
no_stop limit return_kind.Option once c after = refl
no_stop limit return_kind.Iterator once c after = absurd once

option_kind : (kind : ReturnKind) → may_be_nothing kind ≡ true → kind ≡ return_kind.Option
option_kind return_kind.Plain e = cc
option_kind return_kind.Option e = refl
option_kind return_kind.Iterator e = cc

-- ---- inside a function

call_fits : (s : Setting) (kind : ReturnKind) (bound : List ℕ) (o : Option Term) (callee : _) (parameters : List BindingId) → FitsLet kind (call_expr s bound o callee parameters)
call_fits s kind bound None callee parameters = tt
call_fits s kind bound (Some t) callee parameters = tt

extraction_fits : (s : Setting) (kind : ReturnKind) (bound : List ℕ) (o : Option Term) (callee : _) (parameter : BindingId) → FitsLet kind (extraction_expr s bound o callee parameter)
extraction_fits s kind bound None callee parameter = tt
extraction_fits s kind bound (Some t) callee parameter = tt

named_fits : (kind : ReturnKind) (env : Environment) (ty : Sym) (variant : Option Sym) (fs : List (List ℕ × Read)) → FitsLet kind (made_named env ty variant fs)
named_fits kind env ty (Some variant) fs = tt
named_fits kind env ty None [] = tt
named_fits kind env ty None (f ∷ fs) = tt

made_fits : (s : Setting) (kind : ReturnKind) (bound : List ℕ) (o : Option Form) (parts : List BindingId) → FitsLet kind (made_expr s bound o parts)
made_fits s kind bound None parts = tt
made_fits s kind bound (Some f) parts = named_fits kind s.env f.ty f.variant _

-- ? stands only in a function that may answer nothing
bound_fits : (s : Setting) (bound : List ℕ) (b : BindingId) (o : Option Binding) → IsReadyBind s bound (at (paths_in s) b) o → FitsLet (kind_of s.term.kind) (bound_expr s bound b o)
bound_fits s bound b (Some (binding.Constructor term parameters k)) is = call_fits s (kind_of s.term.kind) bound (slice_get s.env.terms term.0) _ parameters
bound_fits s bound b (Some (binding.Extractor term parameter)) is = extraction_fits s (kind_of s.term.kind) bound (slice_get s.env.terms term.0) _ parameter
bound_fits s bound b (Some (binding.MatchSome source)) is = option_kind (kind_of s.term.kind) is.fits
bound_fits s bound b (Some (binding.MatchTuple source field)) is = tt
bound_fits s bound b (Some (binding.Argument index)) is = tt
bound_fits s bound b (Some (binding.ConstBool val ty)) is = tt
bound_fits s bound b (Some (binding.ConstInt val ty)) is = tt
bound_fits s bound b (Some (binding.ConstPrim val)) is = tt
bound_fits s bound b (Some (binding.MakeVariant ty variant fields)) is = made_fits s (kind_of s.term.kind) bound (form s.env (MakesVariant ty variant)) fields
bound_fits s bound b (Some (binding.MakeStruct ty fields)) is = made_fits s (kind_of s.term.kind) bound (form s.env (MakesStruct ty)) fields
bound_fits s bound b o is = absurd is

stmt_fits : (s : Setting) (bound : List ℕ) (b : BindingId) → IsReadyBind s bound (at (paths_in s) b) (slice_get s.bindings b.0) → FitsStmt (kind_of s.term.kind) false (bound_stmt s bound b)
stmt_fits s bound b is =
    local_by (FitsStmt (kind_of s.term.kind) false) (binds_list s b) b.0 (bound_expr s bound b (slice_get s.bindings b.0)) (bound_fits s bound b (slice_get s.bindings b.0) is) (λ borrow call e. tt)

lets_fit : (s : Setting) (bound : List ℕ) (binds : List BindingId) (more : Body) → AreReadyBinds s bound binds → FitsBody (kind_of s.term.kind) false more → FitsBody (kind_of s.term.kind) false (lets s bound binds more)
lets_fit s bound [] more k h = h
lets_fit s bound (b ∷ binds) more k h = (stmt_fits s bound b k.0, lets_fit s (bound ++ b.0 ∷ []) binds more k.1 h)

arm_fits : (s : Setting) (bound : List ℕ) (source : BindingId) (c : Constraint) (places : List (Option BindingId)) (inside : Body) → FitsBody (kind_of s.term.kind) false inside → FitsStmt (kind_of s.term.kind) false (arm_stmt s bound source c places inside)
arm_fits s bound source (constraint.ConstBool val) places inside h = h
arm_fits s bound source (constraint.ConstInt val ty) places inside h = h
arm_fits s bound source (constraint.ConstPrim val) places inside h = h
arm_fits s bound source (constraint.Variant ty variant) places inside h = h
arm_fits s bound source (constraint.Struct ty) places inside h = h
arm_fits s bound source constraint.Some places inside h = h

-- ---- a whole function

-- a statement more before the last
fits_more : (kind : ReturnKind) (st : Stmt) (ss : Body) → FitsStmt kind false st → FitsEnding kind ss → FitsEnding kind (Then st ss)
fits_more kind st Done h k = absurd k
fits_more kind st (Then u ss) h k = (h, k)

lets_before : (s : Setting) (bound : List ℕ) (binds : List BindingId) (more : Body) → AreReadyBinds s bound binds → FitsEnding (kind_of s.term.kind) more → FitsEnding (kind_of s.term.kind) (lets s bound binds more)
lets_before s bound [] more k h = h
lets_before s bound (b ∷ binds) more k h =
    fits_more (kind_of s.term.kind) (bound_stmt s bound b) (lets s (bound ++ b.0 ∷ []) binds more)
    (stmt_fits s bound b k.0) (lets_before s (bound ++ b.0 ∷ []) binds more k.1 h)

tail_fits : (kind : ReturnKind) → AnswersOnce kind → (name place : List ℕ) → FitsEnding kind (tail_body (mark_of kind name place))
tail_fits return_kind.Plain once name place = tt
tail_fits return_kind.Option once name place = tt
tail_fits return_kind.Iterator once name place = absurd once

-- a completed block ends in a Return if the block does
completed_ends : (b : Block) (s : Setting) (bound : List ℕ) → ends_in_return (completed s bound b) ≡ ends_in_return b
completed_ends Stop s bound = refl
completed_ends (Step binds (block.Return pos result) Stop) s bound = refl
completed_ends (Step binds (block.Match source arms) Stop) s bound = refl
completed_ends (Step binds (block.Equal x y body) Stop) s bound = refl
completed_ends (Step binds (block.Loop result body) Stop) s bound = refl
completed_ends (Step binds c (Step ds d more)) s bound = completed_ends (Step ds d more) s (bound_by bound (step_binds s bound binds c))

-- an ending is a function's statements if it answers at most once
ending_fits : (kind : ReturnKind) → AnswersOnce kind → (b : Body) → FitsEnding kind b → FitsFunction kind b
ending_fits return_kind.Plain once b h = h
ending_fits return_kind.Option once b h = h
ending_fits return_kind.Iterator once b h = absurd once

-- one kind or another
by_kind : (kind : ReturnKind) → AnswersOnce kind ⊎ (kind ≡ return_kind.Iterator)
by_kind return_kind.Plain = inl tt
by_kind return_kind.Option = inl tt
by_kind return_kind.Iterator = inr refl

module _ (limit : ℕ) where
  mutual
    block_fits : (b : Block) (s : Setting) (bound made : List ℕ) → IsReadyFrom s bound made b → FitsBody (kind_of s.term.kind) false (block_body limit s bound b Done)
    block_fits Stop s bound made k = tt
    block_fits (Step binds c more) s bound made k =
        lets_fit s bound binds (Then (control_stmt limit s (bound_by bound binds) c) (stop_before (bare_manner limit) (gives_several s) c (block_body limit s (bound_by bound binds) more Done))) k.0
        (control_fits c s (bound_by bound binds) _ k.2, stop_fits limit (kind_of s.term.kind) c _ (block_fits more s (bound_by bound binds) _ k.3))

    control_fits : (c : Control) (s : Setting) (bound made : List ℕ) → IsReadyControl s bound made c → FitsStmt (kind_of s.term.kind) false (control_stmt limit s bound c)
    control_fits (block.Match source (block.Arm c places body block.NoArm)) s bound made k = arm_fits s bound source c places (block_body limit s (bound_within bound places) body Done) (block_fits body s (bound_within bound places) made k.1.2.2)
    control_fits (block.Match source (block.Arm c places body (block.Arm d others inside arms))) s bound made k = each_fits (block.Arm c places body (block.Arm d others inside arms)) s bound made source k.1.0 k.1.2
    control_fits (block.Match source block.NoArm) s bound made k = absurd k.0
    control_fits (block.Equal x y body) s bound made k = block_fits body s bound made k.1
    control_fits (block.Loop result body) s bound made k = block_fits body s (bound ++ result.0 ∷ []) made k.1
    control_fits (block.Return pos result) s bound made k = result_fits (kind_of s.term.kind) (written_read s bound false result)

    -- each of several arms
    each_fits : (arms : block.Arms) (s : Setting) (bound made : List ℕ) (source : BindingId) (over : Source) → AreReadyArms s bound made source over arms → FitsArms (kind_of s.term.kind) false (told_each (bare_manner limit) s bound arms)
    each_fits block.NoArm s bound made source over k = tt
    each_fits (block.Arm c places body arms) s bound made source over k = (block_fits body s (bound_within bound places) made k.2, each_fits arms s bound made source over k.3)

  -- a block before an end that fits
  block_before : (b : Block) (s : Setting) → AnswersOnce (kind_of s.term.kind) → (bound made : List ℕ) (end : Body) → IsReadyFrom s bound made b → FitsEnding (kind_of s.term.kind) end → FitsEnding (kind_of s.term.kind) (block_body limit s bound b end)
  block_before Stop s once bound made end k h = h
  block_before (Step binds c more) s once bound made end k h =
      let after = block_body limit s (bound_by bound binds) more end in
      lets_before s bound binds (Then (control_stmt limit s (bound_by bound binds) c) (stop_before (bare_manner limit) (gives_several s) c after)) k.0
      (subst (λ x. FitsEnding (kind_of s.term.kind) (Then (control_stmt limit s (bound_by bound binds) c) x)) (sym (no_stop limit (kind_of s.term.kind) once c after))
      (fits_more (kind_of s.term.kind) (control_stmt limit s (bound_by bound binds) c) after (control_fits c s (bound_by bound binds) _ k.2) (block_before more s once (bound_by bound binds) _ end k.3 h)))

  -- a block whose last step is a Return
  return_last : (b : Block) (s : Setting) → AnswersOnce (kind_of s.term.kind) → (bound made : List ℕ) → IsReadyFrom s bound made b → ends_in_return b ≡ true → FitsEnding (kind_of s.term.kind) (block_body limit s bound b Done)
  return_last Stop s once bound made k e = cc
  return_last (Step binds (block.Return pos result) Stop) s once bound made k e =
      lets_before s bound binds (Then (control_stmt limit s (bound_by bound binds) (block.Return pos result)) (stop_before (bare_manner limit) (gives_several s) (block.Return pos result) Done)) k.0
      (subst (λ x. FitsEnding (kind_of s.term.kind) (Then (control_stmt limit s (bound_by bound binds) (block.Return pos result)) x)) (sym (no_stop limit (kind_of s.term.kind) once (block.Return pos result) Done))
      (last_fits (kind_of s.term.kind) once (written_read s (bound_by bound binds) false result)))
  return_last (Step binds (block.Match source arms) Stop) s once bound made k e = cc
  return_last (Step binds (block.Equal x y body) Stop) s once bound made k e = cc
  return_last (Step binds (block.Loop result body) Stop) s once bound made k e = cc
  return_last (Step binds c (Step ds d more)) s once bound made k e =
      let after = block_body limit s (bound_by bound binds) (Step ds d more) Done in
      lets_before s bound binds (Then (control_stmt limit s (bound_by bound binds) c) (stop_before (bare_manner limit) (gives_several s) c after)) k.0
      (subst (λ x. FitsEnding (kind_of s.term.kind) (Then (control_stmt limit s (bound_by bound binds) c) x)) (sym (no_stop limit (kind_of s.term.kind) once c after))
      (fits_more (kind_of s.term.kind) (control_stmt limit s (bound_by bound binds) c) after (control_fits c s (bound_by bound binds) _ k.2) (return_last (Step ds d more) s once (bound_by bound binds) _ k.3 e)))

  -- a completed block with the tail of its kind
  pub function_fits : (b : Block) (s : Setting) (name place : List ℕ) → IsReadyFrom s [] [] (completed s [] b)
      → FitsFunction (kind_of s.term.kind) (block_body limit s [] (completed s [] b) (tail_of (kind_of s.term.kind) name place b))
  function_fits b s name place k =
      let c = completed s [] b in
      ⊎_elim (λ once. ending_fits (kind_of s.term.kind) once _ (one once (ends_in_return b) refl))
      (λ several. subst (λ x. FitsFunction (kind_of s.term.kind) (block_body limit s [] c x)) (sym (none_behind (kind_of s.term.kind) several (ends_in_return b))) (list_fits (kind_of s.term.kind) several _ (block_fits c s [] [] k)))
      (by_kind (kind_of s.term.kind))
    where
      one : AnswersOnce (kind_of s.term.kind) → (x : Bool) → ends_in_return b ≡ x → FitsEnding (kind_of s.term.kind) (block_body limit s [] (completed s [] b) (tail_of (kind_of s.term.kind) name place b))
      one once true is = rw is (return_last (completed s [] b) s once [] [] k (rw (completed_ends b s []) is))
      one once false is = rw is (block_before (completed s [] b) s once [] [] _ k (tail_fits (kind_of s.term.kind) once name place))

      -- if several results are given there is no tail
      none_behind : (kind : ReturnKind) → kind ≡ return_kind.Iterator → (x : Bool) → cond x Done (tail_body (mark_of kind name place)) ≡ Done
      none_behind return_kind.Iterator e true = refl
      none_behind return_kind.Iterator e false = refl
      none_behind return_kind.Plain e x = cc
      none_behind return_kind.Option e x = cc

      list_fits : (kind : ReturnKind) → kind ≡ return_kind.Iterator → (body : Body) → FitsBody kind false body → FitsFunction kind body
      list_fits return_kind.Iterator e body h = h
      list_fits return_kind.Plain e body h = cc
      list_fits return_kind.Option e body h = cc
