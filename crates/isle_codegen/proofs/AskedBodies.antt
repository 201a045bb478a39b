-- The body of a block's function has no more calls of extractors and pure terms than the block.
use Rattle.std.proofs.Common.{◌≡◌, ℕ, zero, suc, ◌+◌, ◌≤◌, List, [], ◌∷◌, ◌++◌, length, Bool, true, false, cond, Option, Some, None, refl, sym, ap, ◌∙◌, subst, arith}
use Rattle.std.specs.Prelude.{slice_get, option_map}
use Rattle.isle_core.specs.declared.BindingId.{BindingId}
use Rattle.isle_core.specs.declared.Sym.{Sym}
use Rattle.isle_core.specs.declared.TermId.{TermId}
use Rattle.isle_core.specs.declared.files.Files.{Files}
use Rattle.isle_core.specs.declared.options.CodegenOptions.{CodegenOptions}
use Rattle.isle_core.specs.declared.rule_sets.Binding.{Binding}
use Rattle.isle_core.specs.declared.rule_sets.Binding.TheVariants as binding
use Rattle.isle_core.specs.declared.rule_sets.Constraint.{Constraint}
use Rattle.isle_core.specs.declared.rule_sets.Constraint.TheVariants as constraint
use Rattle.isle_core.specs.declared.types.ReturnKind.{ReturnKind}
use Rattle.isle_core.specs.declared.types.ReturnKind.TheVariants as return_kind
use Rattle.isle_core.specs.declared.types.Term.{Term}
use Rattle.isle_core.specs.declared.values.Callee.{Callee}
use Rattle.isle_core.specs.ArmPlaces.{bound_within}
use Rattle.isle_core.specs.Bindable.{bound_by}
use Rattle.isle_core.specs.Block as block
use Rattle.isle_core.specs.Block.{Block, Control, Arms}
use Rattle.isle_core.specs.Calling.{Calling, ByTurns, ByCases, NoCall, calling, kind_of}
use Rattle.isle_core.specs.Form.{Form}
use Rattle.isle_core.specs.HoldsImpure.{takes_turn}
use Rattle.isle_core.specs.Rule.{Environment}
use Rattle.isle_core.specs.Setting.{Setting, gives_several}
use Rattle.isle_core.specs.Terms.{is_impure}
use Rattle.isle_core.proofs.OptionLaws.{some_same}
use Rattle.isle_blocks.specs.AskedCalls.{if_pure, asked_one, asked_binds, asked_calls, asked_control, asked_arms}
use Rattle.isle_blocks.specs.LoopFree.{HasNoLoop, HasNoLoopWithin, HaveNoLoop}
use Rattle.isle_blocks.proofs.NeedsAsked.{asked_append as binds_append}
use Rattle.isle_tree.specs.declared.tree.Operand.{Operand}
use Rattle.isle_tree.specs.declared.tree.Read.{Read}
use Rattle.isle_tree.specs.declared.tree.TExpr.{TExpr}
use Rattle.isle_tree.specs.declared.tree.TExpr.TheVariants as expr
use Rattle.isle_tree.specs.declared.tree.TPat.{TPat}
use Rattle.isle_tree.specs.Calls.{expr_calls, stmt_calls, body_calls, arms_calls}
use Rattle.isle_tree.specs.Program as tree
use Rattle.isle_tree.specs.Program.{Stmt, Let, Overflow, Body, Done, Then, Function}
use Rattle.isle_simulation.specs.Completed.{local_parts, each_needed, with_parts, needed, needs, read_for, read_by, with_needs, completed_binds, step_binds, completed, completed_control, completed_arms}
use Rattle.isle_simulation.specs.LogLines.{LogLine}
use Rattle.isle_simulation.specs.Manner.{Manner, manner_of, has_closure, closed_if, arm_manner, arm_body}
use Rattle.isle_simulation.specs.Operands.{is_bound}
use Rattle.isle_simulation.specs.Patterns.{arm_pattern}
use Rattle.isle_simulation.specs.Statements.{callee_of, call_on, call_of, extraction_of, inner_of, part_of, read_of, made_named, made_of, made_in, computed, bound_expr, stmt_before, binds_list, local_stmt, let_of, lets, if_eq, if_let, return_of, stop_before, looped_local, loop_of, read_in, arm_stmt, match_read, match_of, arm_before, told_body, told_control, told_arms, told_each}
use Rattle.isle_simulation.specs.Telling.{Telling, told_before, line_before}
use Rattle.isle_simulation.specs.TermFunction.{ends_in_return, tail_body, mark_in, tail_in, root_body, function_with, term_function}
use Rattle.isle_simulation.proofs.NamelessLaws.{turned_impure}
use Rattle.isle_codegen.specs.Asking.{asked_callees, IsLoopFree, IsFreeStmt, AreFreeArms}
use Rattle.isle_codegen.proofs.AskedFlow.{asked_append}

-- ---- what bound locals compute

-- a pure call counts at most once
pure_at_most : (b : Bool) → if_pure b ≤ 1
pure_at_most true = omega arith
pure_at_most false = omega arith

call_on_calls : (borrow : Bool) (o : Option Callee) (args : Option (List Read)) (x : TExpr) → call_on borrow o args ≡ Some x → (c : Callee) × (o ≡ Some c) × (expr_calls x ≡ c ∷ [])
call_on_calls borrow (Some c) (Some args) x e = (c, refl, ap expr_calls (sym (some_same _ x e)))
call_on_calls borrow (Some c) None x e = absurd cc
call_on_calls borrow None args x e = absurd cc

call_of_calls : (s : Setting) (bound : List ℕ) (t : Option Term) (o : Option Callee) (parameters : List BindingId) (x : TExpr) → call_of s bound t o parameters ≡ Some x → (c : Callee) × (o ≡ Some c) × (expr_calls x ≡ c ∷ [])
call_of_calls s bound None o parameters x e = absurd cc
call_of_calls s bound (Some t) o parameters x e = call_on_calls _ o _ x e

extraction_calls : (s : Setting) (bound : List ℕ) (t : Option Term) (o : Option Callee) (parameter : BindingId) (x : TExpr) → extraction_of s bound t o parameter ≡ Some x → (c : Callee) × (o ≡ Some c) × (expr_calls x ≡ c ∷ [])
extraction_calls s bound None o parameter x e = absurd cc
extraction_calls s bound (Some t) o parameter x e = call_on_calls _ o _ x e

-- what goes to a term that isn't impure is a pure call
callee_asked : (env : Environment) (term : TermId) (d : Calling) (c : Callee) → calling env term ≡ d → callee_of d ≡ Some c → if_pure (is_impure env c) ≤ if_pure (takes_turn d)
callee_asked env term (ByTurns callee kind) c e is =
    let none : if_pure (is_impure env c) ≡ 0 = ap if_pure (turned_impure env term c kind (e ∙ ap (λ x. ByTurns x kind) (some_same callee c is))) in
    omega (arith, none)
callee_asked env term (ByCases callee kind) c e is = pure_at_most (is_impure env c)
callee_asked env term NoCall c e is = absurd cc

inner_calls : (as_ref : Bool) (o : Option Operand) (x : TExpr) → inner_of as_ref o ≡ Some x → expr_calls x ≡ []
inner_calls as_ref (Some o) x e = ap expr_calls (sym (some_same _ x e))
inner_calls as_ref None x e = absurd cc

part_calls : (part : ℕ) (o : Option Operand) (x : TExpr) → part_of part o ≡ Some x → expr_calls x ≡ []
part_calls part (Some o) x e = ap expr_calls (sym (some_same _ x e))
part_calls part None x e = absurd cc

read_calls : (o : Option Operand) (x : TExpr) → read_of o ≡ Some x → expr_calls x ≡ []
read_calls (Some o) x e = ap expr_calls (sym (some_same _ x e))
read_calls None x e = absurd cc

named_calls : (env : Environment) (ty : Sym) (variant : Option Sym) (fs : List (List ℕ × Read)) → expr_calls (made_named env ty variant fs) ≡ []
named_calls env ty (Some variant) fs = refl
named_calls env ty None [] = refl
named_calls env ty None (f ∷ fs) = refl

mapped_calls : (env : Environment) (f : Form) (o : Option (List (List ℕ × Read))) (x : TExpr) → option_map (made_of env f) o ≡ Some x → expr_calls x ≡ []
mapped_calls env f (Some fields) x e = ap expr_calls (sym (some_same _ x e)) ∙ named_calls env f.ty f.variant fields
mapped_calls env f None x e = absurd cc

made_calls : (s : Setting) (bound : List ℕ) (f : Option Form) (parts : List BindingId) (x : TExpr) → made_in s bound f parts ≡ Some x → expr_calls x ≡ []
made_calls s bound None parts x e = absurd cc
made_calls s bound (Some f) parts x e = mapped_calls s.env f _ x e

none_asked : (env : Environment) (cs : List Callee) (n : ℕ) → cs ≡ [] → asked_callees env cs ≤ n
none_asked env cs n e = let none : asked_callees env cs ≡ 0 = ap (asked_callees env) e in omega (arith, none)

-- a local's call is one of an extractor or a pure term only where its binding is
computed_asked : (s : Setting) (bound : List ℕ) (b : BindingId) (o : Option Binding) (x : TExpr) → computed s bound b o ≡ Some x → asked_callees s.env (expr_calls x) ≤ asked_one s.env o
computed_asked s bound b (Some (binding.Constructor term parameters instance)) x e =
    let k = call_of_calls s bound (slice_get s.env.terms term.0) (callee_of (calling s.env term)) parameters x e in
    let one = callee_asked s.env term (calling s.env term) k.0 refl k.1 in
    let all : asked_callees s.env (expr_calls x) ≡ if_pure (is_impure s.env k.0) + 0 = ap (asked_callees s.env) k.2 in
    omega (arith, one, all)
computed_asked s bound b (Some (binding.Extractor term parameter)) x e =
    let k = extraction_calls s bound (slice_get s.env.terms term.0) _ parameter x e in
    let one = pure_at_most (is_impure s.env k.0) in
    let all : asked_callees s.env (expr_calls x) ≡ if_pure (is_impure s.env k.0) + 0 = ap (asked_callees s.env) k.2 in
    omega (arith, one, all)
computed_asked s bound b (Some (binding.MatchSome source)) x e = none_asked s.env (expr_calls x) 0 (inner_calls _ _ x e)
computed_asked s bound b (Some (binding.MakeVariant ty variant fields)) x e = none_asked s.env (expr_calls x) 0 (made_calls s bound _ fields x e)
computed_asked s bound b (Some (binding.MakeStruct ty fields)) x e = none_asked s.env (expr_calls x) 0 (made_calls s bound _ fields x e)
computed_asked s bound b (Some (binding.Argument index)) x e = none_asked s.env (expr_calls x) 0 (read_calls _ x e)
computed_asked s bound b (Some (binding.ConstBool val ty)) x e = none_asked s.env (expr_calls x) 0 (read_calls _ x e)
computed_asked s bound b (Some (binding.ConstInt val ty)) x e = none_asked s.env (expr_calls x) 0 (read_calls _ x e)
computed_asked s bound b (Some (binding.ConstPrim val)) x e = none_asked s.env (expr_calls x) 0 (read_calls _ x e)
computed_asked s bound b (Some (binding.MatchTuple source field)) x e = none_asked s.env (expr_calls x) 0 (part_calls field.0 _ x e)
computed_asked s bound b (Some (binding.Iterator source)) x e = absurd cc
computed_asked s bound b (Some (binding.MatchVariant source variant field)) x e = absurd cc
computed_asked s bound b (Some (binding.ExtractStruct source field)) x e = absurd cc
computed_asked s bound b (Some (binding.MakeSome inner)) x e = absurd cc
computed_asked s bound b None x e = absurd cc

local_calls : (often : Bool) (n : ℕ) (x : TExpr) → stmt_calls (local_stmt often n x) ≡ expr_calls x
local_calls false n x = refl
local_calls true n (expr.Call borrow call) = refl
local_calls true n (expr.Read r) = refl
local_calls true n (expr.Variant ty variant fields) = refl
local_calls true n (expr.Struct ty fields) = refl
local_calls true n (expr.Some r) = refl
local_calls true n (expr.Try source as_ref) = refl
local_calls true n (expr.Tuple source part) = refl

-- ---- what is made

module _ (s : Setting) where
  -- a statement has no more than so many, and no loop only if this holds
  record StmtAsks (n : ℕ) (Free : Type 0) (t : Stmt) : Type 0 where
    asks : asked_callees s.env (stmt_calls t) ≤ n
    free : IsFreeStmt t → Free

  -- so has each that is made
  abbrev MakesStmt : ℕ → Type 0 → Option Stmt → Type 0
  MakesStmt n Free o = (t : Stmt) → o ≡ Some t → StmtAsks n Free t

  -- a body has no more than so many beside what follows, and no loop only if this holds
  record BodyAsks (n : ℕ) (Free : Type 0) (b : Body) (end : Option Body) : Type 0 where
    rest : Body
    is : end ≡ Some rest
    asks : asked_callees s.env (body_calls b) ≤ n + asked_callees s.env (body_calls rest)
    free : IsLoopFree b → Free × IsLoopFree rest

  abbrev MakesBody : ℕ → Type 0 → (made end : Option Body) → Type 0
  MakesBody n Free made end = (b : Body) → made ≡ Some b → BodyAsks n Free b end

  -- and arms
  record ArmsAsk (n : ℕ) (Free : Type 0) (arms : tree.Arms) : Type 0 where
    asks : asked_callees s.env (arms_calls arms) ≤ n
    free : AreFreeArms arms → Free

  abbrev MakesArms : ℕ → Type 0 → Option tree.Arms → Type 0
  MakesArms n Free o = (arms : tree.Arms) → o ≡ Some arms → ArmsAsk n Free arms

  -- a statement before a body
  then_asks : (n k : ℕ) (F G : Type 0) (o : Option Stmt) (made end : Option Body) → MakesStmt n F o → MakesBody k G made end → MakesBody (n + k) (F × G) (stmt_before o made) end
  then_asks n k F G (Some t) (Some ss) end h j b e =
      let one = h t refl in
      let more = j ss refl in
      let sum = asked_append s.env (stmt_calls t) (body_calls ss) in
      let first = one.asks in
      let behind = more.asks in
      let same = some_same (Then t ss) b e in
      record {
        rest = more.rest;
        is = more.is;
        asks = subst (λ x. asked_callees s.env (body_calls x) ≤ (n + k) + asked_callees s.env (body_calls more.rest)) same (omega (arith, sum, first, behind));
        free = λ f. let g = subst IsLoopFree (sym same) f in let r = more.free g.1 in ((one.free g.0, r.0), r.1);
      }
  then_asks n k F G (Some t) None end h j b e = absurd cc
  then_asks n k F G None made end h j b e = absurd cc

  -- more room
  more_asks : (n k : ℕ) (F G : Type 0) (made end : Option Body) → n ≤ k → (F → G) → MakesBody n F made end → MakesBody k G made end
  more_asks n k F G made end le g h b e =
      let r = h b e in
      let asks = r.asks in
      record { rest = r.rest; is = r.is; asks = omega (arith, le, asks); free = λ f. let x = r.free f in (g x.0, x.1) }

  more_stmt : (n k : ℕ) (F G : Type 0) (o : Option Stmt) → n ≤ k → (F → G) → MakesStmt n F o → MakesStmt k G o
  more_stmt n k F G o le g h t e =
      let r = h t e in
      let asks = r.asks in
      record { asks = omega (arith, le, asks); free = λ f. g (r.free f) }

  lined_asks : (n : ℕ) (F : Type 0) (l : LogLine) (made end : Option Body) → MakesBody n F made end → MakesBody n F (option_map (line_before l) made) end
  lined_asks n F l (Some ss) end h b e =
      let r = h ss refl in
      let same = some_same (line_before l ss) b e in
      record {
        rest = r.rest;
        is = r.is;
        asks = subst (λ x. asked_callees s.env (body_calls x) ≤ n + asked_callees s.env (body_calls r.rest)) same r.asks;
        free = λ f. r.free (subst IsLoopFree (sym same) f).1;
      }
  lined_asks n F l None end h b e = absurd cc

  told_asks : (n : ℕ) (F : Type 0) (telling : Telling) (c : Control) (made end : Option Body) → MakesBody n F made end → MakesBody n F (told_before telling c made) end
  told_asks n F None c made end h = h
  told_asks n F (Some line) (block.Match source arms) made end h = h
  told_asks n F (Some line) (block.Equal a b body) made end h = h
  told_asks n F (Some line) (block.Loop result body) made end h = h
  told_asks n F (Some line) (block.Return pos result) made end h = lined_asks n F (line pos) made end h

  overflow_asks : (inside : Bool) (limit : ℕ) → MakesStmt 0 (Unit {0}) (Some (Overflow inside limit))
  overflow_asks inside limit t e = record { asks = let none : asked_callees s.env (stmt_calls t) ≡ 0 = ap (λ x. asked_callees s.env (stmt_calls x)) (sym (some_same (Overflow inside limit) t e)) in omega (arith, none); free = λ f. tt }

  stop_asks : (n : ℕ) (F : Type 0) (manner : Manner) (several : Bool) (c : Control) (made end : Option Body) → MakesBody n F made end → MakesBody n F (stop_before manner several c made) end
  stop_asks n F manner true (block.Return pos result) made end h =
      let stop = Overflow manner.inside manner.limit in
      more_asks (0 + n) n (Unit {0} × F) F (stmt_before (Some stop) made) end (omega arith) (λ f. f.1) (then_asks 0 n (Unit {0}) F (Some stop) made end (overflow_asks manner.inside manner.limit) h)
  stop_asks n F manner true (block.Match source arms) made end h = h
  stop_asks n F manner true (block.Equal a b body) made end h = h
  stop_asks n F manner true (block.Loop result body) made end h = h
  stop_asks n F manner false c made end h = h

  -- the locals of a bind order
  let_asks : (often : Bool) (n k : ℕ) (o : Option TExpr) → ((x : TExpr) → o ≡ Some x → asked_callees s.env (expr_calls x) ≤ k) → MakesStmt k (Unit {0}) (let_of often n o)
  let_asks often n k (Some x) h t e = record {
    asks = subst (λ cs. asked_callees s.env cs ≤ k) (sym (local_calls often n x) ∙ ap stmt_calls (some_same (local_stmt often n x) t e)) (h x refl);
    free = λ f. tt;
  }
  let_asks often n k None h t e = absurd cc

  lets_ask : (n : ℕ) (F : Type 0) (order : List BindingId) (bound : List ℕ) (made end : Option Body) → MakesBody n F made end → MakesBody (asked_binds s.env s.bindings order + n) F (lets s bound order made) end
  lets_ask n F [] bound made end h = more_asks n (0 + n) F F made end (omega arith) (λ f. f) h
  lets_ask n F (b ∷ order) bound made end h =
      let one = asked_one s.env (slice_get s.bindings b.0) in
      let others = asked_binds s.env s.bindings order in
      more_asks (one + (others + n)) ((one + others) + n) (Unit {0} × F) F (stmt_before (let_of (binds_list s b) b.0 (bound_expr s bound b)) (lets s (bound ++ b.0 ∷ []) order made)) end (omega arith) (λ f. f.1)
      (then_asks one (others + n) (Unit {0}) F (let_of (binds_list s b) b.0 (bound_expr s bound b)) (lets s (bound ++ b.0 ∷ []) order made) end
      (let_asks (binds_list s b) b.0 one (bound_expr s bound b) (computed_asked s bound b (slice_get s.bindings b.0))) (lets_ask n F order (bound ++ b.0 ∷ []) made end h))

  -- ---- tests

  done_none : (rest : Body) → Some Done ≡ Some rest → asked_callees s.env (body_calls rest) ≡ 0
  done_none rest e = ap (λ x. asked_callees s.env (body_calls x)) (sym (some_same Done rest e))

  inside_asks : (n : ℕ) (F : Type 0) (b : Body) → BodyAsks n F b (Some Done) → (asked_callees s.env (body_calls b) ≤ n) × (IsLoopFree b → F)
  inside_asks n F b h =
      let none = done_none h.rest h.is in
      let asks = h.asks in
      (omega (arith, none, asks), λ f. (h.free f).0)

  -- statements in a closure of their own, or as they are
  closure_asks : (n : ℕ) (F : Type 0) (own inside : Bool) (made : Option Body) → MakesBody n F made (Some Done) → MakesBody n F (option_map (closed_if own inside) made) (Some Done)
  closure_asks n F true inside (Some x) h b e =
      let k = inside_asks n F x (h x refl) in
      let same = some_same (Then (tree.Split x inside) Done) b e in
      let sum = asked_append s.env (body_calls x) [] in
      let asks = k.0 in
      record {
        rest = Done;
        is = refl;
        asks = subst (λ y. asked_callees s.env (body_calls y) ≤ n + 0) same (omega (arith, sum, asks));
        free = λ f. (k.1 (subst IsLoopFree (sym same) f).0, tt);
      }
  closure_asks n F false inside (Some x) h b e = h b e
  closure_asks n F own inside None h b e = absurd cc

  if_eq_asks : (n : ℕ) (F : Type 0) (o q : Option Operand) (made : Option Body) → MakesBody n F made (Some Done) → MakesStmt n F (if_eq o q made)
  if_eq_asks n F (Some o) (Some q) (Some b) h t e =
      let k = inside_asks n F b (h b refl) in
      let same = some_same (tree.IfEq o q b) t e in
      record { asks = subst (λ x. asked_callees s.env (stmt_calls x) ≤ n) same k.0; free = λ f. k.1 (subst IsFreeStmt (sym same) f) }
  if_eq_asks n F (Some o) (Some q) None h t e = absurd cc
  if_eq_asks n F (Some o) None made h t e = absurd cc
  if_eq_asks n F None q made h t e = absurd cc

  if_let_asks : (n : ℕ) (F : Type 0) (o : Option TPat) (r : Option Read) (made : Option Body) → MakesBody n F made (Some Done) → MakesStmt n F (if_let o r made)
  if_let_asks n F (Some o) (Some r) (Some b) h t e =
      let k = inside_asks n F b (h b refl) in
      let same = some_same (tree.IfLet o r b) t e in
      record { asks = subst (λ x. asked_callees s.env (stmt_calls x) ≤ n) same k.0; free = λ f. k.1 (subst IsFreeStmt (sym same) f) }
  if_let_asks n F (Some o) (Some r) None h t e = absurd cc
  if_let_asks n F (Some o) None made h t e = absurd cc
  if_let_asks n F None r made h t e = absurd cc

  loop_asks : (n : ℕ) (F : Type 0) (list : Option ℕ) (item : ℕ) (made : Option Body) → MakesBody n F made (Some Done) → MakesStmt n ⊥ (loop_of list item made)
  loop_asks n F (Some list) item (Some b) h t e =
      let k = inside_asks n F b (h b refl) in
      let same = some_same (tree.Loop list item b) t e in
      record { asks = subst (λ x. asked_callees s.env (stmt_calls x) ≤ n) same k.0; free = λ f. subst IsFreeStmt (sym same) f }
  loop_asks n F (Some list) item None h t e = absurd cc
  loop_asks n F None item made h t e = absurd cc

  return_asks : (kind : ReturnKind) (r : Option Read) → MakesStmt 0 (Unit {0}) (return_of kind r)
  return_asks return_kind.Plain (Some r) t e = record { asks = none_asked s.env (stmt_calls t) 0 (ap stmt_calls (sym (some_same _ t e))); free = λ f. tt }
  return_asks return_kind.Option (Some r) t e = record { asks = none_asked s.env (stmt_calls t) 0 (ap stmt_calls (sym (some_same _ t e))); free = λ f. tt }
  return_asks return_kind.Iterator (Some r) t e = record { asks = none_asked s.env (stmt_calls t) 0 (ap stmt_calls (sym (some_same _ t e))); free = λ f. tt }
  return_asks kind None t e = absurd cc

  arm_asks : (n : ℕ) (F : Type 0) (bound : List ℕ) (source : BindingId) (c : Constraint) (places : List (Option BindingId)) (made : Option Body) → MakesBody n F made (Some Done) → MakesStmt n F (arm_stmt s bound source c places made)
  arm_asks n F bound source (constraint.ConstBool val) places made h = if_eq_asks n F _ _ made h
  arm_asks n F bound source (constraint.ConstInt val ty) places made h = if_eq_asks n F _ _ made h
  arm_asks n F bound source (constraint.ConstPrim val) places made h = if_eq_asks n F _ _ made h
  arm_asks n F bound source (constraint.Variant ty variant) places made h = if_let_asks n F _ _ made h
  arm_asks n F bound source (constraint.Struct ty) places made h = if_let_asks n F _ _ made h
  arm_asks n F bound source constraint.Some places made h = if_let_asks n F _ _ made h

  before_arms : (n k : ℕ) (F G : Type 0) (o : Option TPat) (made : Option Body) (arms : Option tree.Arms) → MakesBody n F made (Some Done) → MakesArms k G arms → MakesArms (n + k) (F × G) (arm_before o made arms)
  before_arms n k F G (Some o) (Some b) (Some more) h j arms e =
      let one = inside_asks n F b (h b refl) in
      let others = j more refl in
      let same = some_same (tree.Arm o b more) arms e in
      let sum = asked_append s.env (body_calls b) (arms_calls more) in
      let first = one.0 in
      let rest = others.asks in
      record {
        asks = subst (λ x. asked_callees s.env (arms_calls x) ≤ n + k) same (omega (arith, sum, first, rest));
        free = λ f. let g = subst AreFreeArms (sym same) f in (one.1 g.0, others.free g.1);
      }
  before_arms n k F G (Some o) (Some b) None h j arms e = absurd cc
  before_arms n k F G (Some o) None more h j arms e = absurd cc
  before_arms n k F G None made more h j arms e = absurd cc

  match_asks : (n : ℕ) (F : Type 0) (r : Option Read) (arms : Option tree.Arms) → MakesArms n F arms → MakesStmt n F (match_of r arms)
  match_asks n F (Some r) (Some arms) h t e =
      let k = h arms refl in
      let same = some_same (tree.Match r arms) t e in
      record { asks = subst (λ x. asked_callees s.env (stmt_calls x) ≤ n) same k.asks; free = λ f. k.free (subst IsFreeStmt (sym same) f) }
  match_asks n F (Some r) None h t e = absurd cc
  match_asks n F None arms h t e = absurd cc

  no_arm_asks : MakesArms 0 (Unit {0}) (Some tree.NoArm)
  no_arm_asks arms e = record { asks = none_asked s.env (arms_calls arms) 0 (ap arms_calls (sym (some_same _ arms e))); free = λ f. tt }

  -- ---- blocks

  mutual
    body_asks : (manner : Manner) (b : Block) (bound : List ℕ) (end : Option Body) → MakesBody (asked_calls s.env s.bindings b) (HasNoLoop b) (told_body manner s bound b end) end
    body_asks manner block.Stop bound end = λ b e. record { rest = b; is = e; asks = omega arith; free = λ f. (tt, f) }
    body_asks manner (block.Step order c more) bound end =
        let after = bound_by bound order in
        let within = asked_control s.env s.bindings c in
        let behind = asked_calls s.env s.bindings more in
        let rest = stop_before manner (gives_several s) c (told_body manner s after more end) in
        let own = stmt_before (told_control manner s after c) rest in
        lets_ask (within + behind) (HasNoLoopWithin c × HasNoLoop more) order bound (told_before manner.telling c own) end
        (told_asks (within + behind) (HasNoLoopWithin c × HasNoLoop more) manner.telling c own end
        (then_asks within behind (HasNoLoopWithin c) (HasNoLoop more) (told_control manner s after c) rest end (control_asks manner c after)
        (stop_asks behind (HasNoLoop more) manner (gives_several s) c (told_body manner s after more end) end (body_asks manner more after end))))

    control_asks : (manner : Manner) (c : Control) (bound : List ℕ) → MakesStmt (asked_control s.env s.bindings c) (HasNoLoopWithin c) (told_control manner s bound c)
    control_asks manner (block.Match source arms) bound = arms_ask manner arms bound source
    control_asks manner (block.Equal a b body) bound = if_eq_asks (asked_calls s.env s.bindings body) (HasNoLoop body) _ _ (told_body manner s bound body (Some Done)) (body_asks manner body bound (Some Done))
    control_asks manner (block.Loop result body) bound = loop_asks (asked_calls s.env s.bindings body) (HasNoLoop body) (looped_local s result) result.0 (told_body manner s (bound ++ result.0 ∷ []) body (Some Done)) (body_asks manner body (bound ++ result.0 ∷ []) (Some Done))
    control_asks manner (block.Return pos result) bound = return_asks (kind_of s.term.kind) (read_in s bound false result)

    arms_ask : (manner : Manner) (arms : Arms) (bound : List ℕ) (source : BindingId) → MakesStmt (asked_arms s.env s.bindings arms) (HaveNoLoop arms) (told_arms manner s bound source arms)
    arms_ask manner block.NoArm bound source = λ t e. absurd cc
    arms_ask manner (block.Arm c places body block.NoArm) bound source =
        let n = asked_calls s.env s.bindings body in
        let made = told_body (arm_manner manner body) s (bound_within bound places) body (Some Done) in
        more_stmt n (n + 0) (HasNoLoop body) (HasNoLoop body × Unit {0}) (arm_stmt s bound source c places (arm_body manner body made)) (omega arith) (λ f. (f, tt))
        (arm_asks n (HasNoLoop body) bound source c places (arm_body manner body made) (closure_asks n (HasNoLoop body) (has_closure manner body) manner.inside made (body_asks (arm_manner manner body) body (bound_within bound places) (Some Done))))
    arms_ask manner (block.Arm c places body (block.Arm d others inside arms)) bound source =
        let made = told_body (arm_manner manner body) s (bound_within bound places) body (Some Done) in
        match_asks (asked_arms s.env s.bindings (block.Arm c places body (block.Arm d others inside arms))) (HaveNoLoop (block.Arm c places body (block.Arm d others inside arms))) (match_read s bound source c) _
        (before_arms (asked_calls s.env s.bindings body) (asked_arms s.env s.bindings (block.Arm d others inside arms)) (HasNoLoop body) (HaveNoLoop (block.Arm d others inside arms)) (arm_pattern s.env c places)
        (arm_body manner body made) (told_each manner s bound (block.Arm d others inside arms)) (closure_asks (asked_calls s.env s.bindings body) (HasNoLoop body) (has_closure manner body) manner.inside made (body_asks (arm_manner manner body) body (bound_within bound places) (Some Done))) (each_ask manner (block.Arm d others inside arms) bound))

    each_ask : (manner : Manner) (arms : Arms) (bound : List ℕ) → MakesArms (asked_arms s.env s.bindings arms) (HaveNoLoop arms) (told_each manner s bound arms)
    each_ask manner block.NoArm bound = no_arm_asks
    each_ask manner (block.Arm c places body arms) bound =
        let made = told_body (arm_manner manner body) s (bound_within bound places) body (Some Done) in
        before_arms (asked_calls s.env s.bindings body) (asked_arms s.env s.bindings arms) (HasNoLoop body) (HaveNoLoop arms) (arm_pattern s.env c places) (arm_body manner body made) (told_each manner s bound arms)
        (closure_asks (asked_calls s.env s.bindings body) (HasNoLoop body) (has_closure manner body) manner.inside made (body_asks (arm_manner manner body) body (bound_within bound places) (Some Done))) (each_ask manner arms bound)

  -- ---- made values have locals

  parts_unasked : (o : Option Binding) (parts : List BindingId) → local_parts o ≡ Some parts → asked_one s.env o ≡ 0
  parts_unasked (Some (binding.MakeVariant ty variant fields)) parts e = refl
  parts_unasked (Some (binding.MakeStruct ty fields)) parts e = refl
  parts_unasked o parts e = cc

  each_unasked : (one : List ℕ → BindingId → List BindingId) → ((bound : List ℕ) (b : BindingId) → asked_binds s.env s.bindings (one bound b) ≡ 0) → (bound : List ℕ) (order : List BindingId) → asked_binds s.env s.bindings (each_needed one bound order) ≡ 0
  each_unasked one ok bound [] = refl
  each_unasked one ok bound (b ∷ order) =
      let own = ok bound b in
      let rest = each_unasked one ok (bound_by bound (one bound b)) order in
      let sum = binds_append s.env s.bindings (one bound b) (each_needed one (bound_by bound (one bound b)) order) in
      omega (arith, own, rest, sum)

  with_unasked : (one : List ℕ → BindingId → List BindingId) → ((bound : List ℕ) (b : BindingId) → asked_binds s.env s.bindings (one bound b) ≡ 0) → (bound : List ℕ) (b : BindingId) (t : Bool) (o : Option (List BindingId)) → local_parts (slice_get s.bindings b.0) ≡ o
      → asked_binds s.env s.bindings (cond t [] (with_parts one bound b o)) ≡ 0
  with_unasked one ok bound b true o e = refl
  with_unasked one ok bound b false None e = refl
  with_unasked one ok bound b false (Some parts) e =
      let own = parts_unasked (slice_get s.bindings b.0) parts e in
      let rest = each_unasked one ok bound parts in
      let sum = binds_append s.env s.bindings (each_needed one bound parts) (b ∷ []) in
      omega (arith, own, rest, sum)

  needed_unasked : (depth : ℕ) (bound : List ℕ) (b : BindingId) → asked_binds s.env s.bindings (needed s depth bound b) ≡ 0
  needed_unasked zero bound b = refl
  needed_unasked (suc depth) bound b = with_unasked (needed s depth) (needed_unasked depth) bound b (is_bound bound b) (local_parts (slice_get s.bindings b.0)) refl

  needs_unasked : (bound : List ℕ) (order : List BindingId) → asked_binds s.env s.bindings (needs s bound order) ≡ 0
  needs_unasked bound order = each_unasked (needed s (length s.bindings)) (needed_unasked (length s.bindings)) bound order

  binds_same : (bound : List ℕ) (order : List BindingId) → asked_binds s.env s.bindings (completed_binds s bound order) ≡ asked_binds s.env s.bindings order
  binds_same bound [] = refl
  binds_same bound (b ∷ order) =
      let before = needs s bound (read_for (slice_get s.bindings b.0)) in
      let rest = completed_binds s (bound_by bound (with_needs s bound b)) order in
      let none = needs_unasked bound (read_for (slice_get s.bindings b.0)) in
      let more = binds_same (bound_by bound (with_needs s bound b)) order in
      let sum = binds_append s.env s.bindings (before ++ b ∷ []) rest in
      let own = binds_append s.env s.bindings before (b ∷ []) in
      omega (arith, none, more, sum, own)

  step_same : (bound : List ℕ) (order : List BindingId) (c : Control) → asked_binds s.env s.bindings (step_binds s bound order c) ≡ asked_binds s.env s.bindings order
  step_same bound order c =
      let first = completed_binds s bound order in
      let last = needs s (bound_by bound first) (read_by c) in
      let sum = binds_append s.env s.bindings first last in
      let own = binds_same bound order in
      let none = needs_unasked (bound_by bound first) (read_by c) in
      omega (arith, sum, own, none)

  mutual
    completed_same : (b : Block) (bound : List ℕ) → (asked_calls s.env s.bindings (completed s bound b) ≡ asked_calls s.env s.bindings b) × (HasNoLoop (completed s bound b) → HasNoLoop b)
    completed_same block.Stop bound = (refl, λ f. f)
    completed_same (block.Step order c more) bound =
        let after = bound_by bound (step_binds s bound order c) in
        let own = step_same bound order c in
        let within = control_same c after in
        let rest = completed_same more after in
        let first = within.0 in
        let behind = rest.0 in
        (omega (arith, own, first, behind), λ f. (within.1 f.0, rest.1 f.1))

    control_same : (c : Control) (bound : List ℕ) → (asked_control s.env s.bindings (completed_control s bound c) ≡ asked_control s.env s.bindings c) × (HasNoLoopWithin (completed_control s bound c) → HasNoLoopWithin c)
    control_same (block.Match source arms) bound = arms_same arms bound
    control_same (block.Equal a b body) bound = completed_same body bound
    control_same (block.Loop result body) bound = ((completed_same body (bound ++ result.0 ∷ [])).0, λ f. f)
    control_same (block.Return pos result) bound = (refl, λ f. f)

    arms_same : (arms : Arms) (bound : List ℕ) → (asked_arms s.env s.bindings (completed_arms s bound arms) ≡ asked_arms s.env s.bindings arms) × (HaveNoLoop (completed_arms s bound arms) → HaveNoLoop arms)
    arms_same block.NoArm bound = (refl, λ f. f)
    arms_same (block.Arm c places body arms) bound =
        let one = completed_same body (bound_within bound places) in
        let rest = arms_same arms bound in
        let first = one.0 in
        let behind = rest.0 in
        (omega (arith, first, behind), λ f. (one.1 f.0, rest.1 f.1))

  -- ---- functions

  tail_none : (files : Files) (b : Block) → asked_callees s.env (body_calls (tail_in files s.env s.term b)) ≡ 0
  tail_none files b = pick (ends_in_return b) (mark_in files s.env s.term)
    where
      pick : (t : Bool) (mark : _) → asked_callees s.env (body_calls (cond t Done (tail_body mark))) ≡ 0
      pick true mark = refl
      pick false (Some mark) = refl
      pick false None = refl

  -- the function of a block asks no more than the block, and has no loop only where the block has none
  pub function_asks : (options : CodegenOptions) (files : Files) (b : Block) (f : Function) → term_function options files s b ≡ Some f → (asked_callees s.env (body_calls f.body) ≤ asked_calls s.env s.bindings b) × (IsLoopFree f.body → HasNoLoop b)
  function_asks options files b f e = pick (root_body options files s b) refl e
    where
      pick : (o : Option Body) → root_body options files s b ≡ o → option_map (function_with s.env s.term) o ≡ Some f → (asked_callees s.env (body_calls f.body) ≤ asked_calls s.env s.bindings b) × (IsLoopFree f.body → HasNoLoop b)
      pick None is e' = absurd cc
      pick (Some body) is e' =
          let all = body_asks (manner_of options files s) (completed s [] b) [] (Some (tail_in files s.env s.term b)) body is in
          let whole = completed_same b [] in
          let same : body ≡ f.body = ap (λ (g : Function). g.body) (some_same (function_with s.env s.term body) f e') in
          let tail : asked_callees s.env (body_calls all.rest) ≡ 0 = ap (λ x. asked_callees s.env (body_calls x)) (sym (some_same _ all.rest all.is)) ∙ tail_none files b in
          let asks = all.asks in
          let count = whole.0 in
          (subst (λ x. asked_callees s.env (body_calls x) ≤ asked_calls s.env s.bindings b) same (omega (arith, tail, asks, count)), λ free. whole.1 (all.free (subst IsLoopFree (sym same) free)).0)
