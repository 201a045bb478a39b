-- The function of a term that answers several times gives the first results of its block, but for calls of pure terms and the type names of
-- opaque numbers.
use Rattle.std.proofs.Common.{◌≡◌, inl, inr, ℕ, zero, suc, ◌≤◌, List, [], ◌∷◌, ◌++◌, length, map, Bool, true, false, cond, Option, Some, None, refl, sym, ap, ◌∙◌, subst, arith}
use Rattle.std.specs.Prelude.{option_map, slice_get}
use Rattle.std.specs.List.{AllByRecursion}
use Rattle.std.proofs.lemmas.List.{length-map}
use Rattle.std.proofs.lemmas.List.Elements.{Contains-append_left}
use Rattle.std.proofs.lemmas.Option.{slice_get-map, same_Some}
use Rattle.isle_core.specs.declared.options.CodegenOptions.{CodegenOptions}
use Rattle.isle_core.specs.Answered.{Item, item_of}
use Rattle.isle_core.specs.Calling.{Calling, ByTurns, ByCases, NoCall, calling, kind_of, is_several, may_be_nothing}
use Rattle.isle_core.specs.declared.BindingId.{BindingId}
use Rattle.isle_core.specs.declared.TypeId.{TypeId}
use Rattle.isle_core.specs.declared.files.Files.{Files}
use Rattle.isle_core.specs.declared.rule_sets.Binding.{Binding}
use Rattle.isle_core.specs.declared.rule_sets.Binding.TheVariants as binding
use Rattle.isle_core.specs.declared.rule_sets.Constraint.{Constraint}
use Rattle.isle_core.specs.declared.rule_sets.Constraint.TheVariants as constraint
use Rattle.isle_core.specs.declared.types.ReturnKind.{ReturnKind}
use Rattle.isle_core.specs.declared.types.ReturnKind.TheVariants as return_kind
use Rattle.isle_core.specs.declared.types.Term.{Term}
use Rattle.isle_core.specs.ArmPlaces.{ArePlacesOf, bound_within}
use Rattle.isle_core.specs.Bindable.{bound_by}
use Rattle.isle_core.specs.Block as block
use Rattle.isle_core.specs.Block.{Block, Stop, Step, Control, Arms, Arm, NoArm}
use Rattle.isle_core.specs.BlockLawful.{Source, IsLawfulBlock}
use Rattle.isle_core.specs.BlockRun.{bind_one, bind_all}
use Rattle.isle_core.specs.CallRun as went
use Rattle.isle_core.specs.CallRun.{Went, then_go, take_turn, make_call, make}
use Rattle.isle_core.specs.ConstraintType.{IsConstraintOf}
use Rattle.isle_core.specs.Cut.{cut_after, room_after_one, cut_run}
use Rattle.isle_core.specs.HasType.{HaveTypes}
use Rattle.isle_core.specs.Meaning.{Meaning}
use Rattle.isle_core.specs.Space.{Space, space_of}
use Rattle.isle_core.specs.NamesApart.{ValuesConstants}
use Rattle.isle_core.specs.Nameless.{nameless, nameless_made, nameless_ran}
use Rattle.isle_core.specs.Occurrences.{occurrences, after_control}
use Rattle.isle_core.specs.Parts.{Given, nothing_given}
use Rattle.isle_core.specs.Places.{place_in}
use Rattle.isle_core.specs.Path.{Path, Chosen, Inner, at, paths_of, Called}
use Rattle.isle_core.specs.PathType.{IsListOf}
use Rattle.isle_core.specs.Rule.{Environment}
use Rattle.isle_core.specs.SameInRun.{same_in_run}
use Rattle.isle_core.specs.Setting.{Setting, setting, gives_several, paths_in}
use Rattle.isle_core.specs.SeveralRun.{choosing, give_held, behind_calls, on_turns, on_items, list_of, several_run, several_control, several_arms, several_outcome}
use Rattle.isle_core.specs.Terms.{sym_text, impure_calls}
use Rattle.isle_core.specs.Value.{Value, Made, Ran, GivesList}
use Rattle.isle_core.specs.ValueAt.{Held, One, Optional, Listed, Known, a_value, nothing_known, chosen_held, item_at, value_at, meets, equal_held, values_at}
use Rattle.isle_core.proofs.SamePathLaws.{same_self}
use Rattle.isle_tree.specs.declared.tree.Operand.{Operand}
use Rattle.isle_tree.specs.declared.tree.Read.{Read}
use Rattle.isle_tree.specs.declared.tree.Read.TheVariants as read
use Rattle.isle_tree.specs.declared.tree.TPat.{TPat}
use Rattle.isle_tree.specs.Program.{IfEq, IfLet, Loop, Body, Done, Then, Function, Program}
use Rattle.isle_tree.specs.Run.{Around, State, Env, bind, look, value_of, read_value, on_list, fit, fitted, Flow, Goes, then_run, after_scope, run_items, run_stmt, run_body, run_arms, ended, nothing_done, around, function_run}
use Rattle.isle_simulation.specs.Completed.{completed}
use Rattle.isle_simulation.specs.Emitted.{HasPureExtractors, HasPureConstructors, impure_ran, AreSameRuns, AnswersBindings, RunsAsSeveral}
use Rattle.isle_core.specs.NewItems.{IsNewItem, HasNewItems, HasNewItemsFrom, ControlNewItems, ArmsNewItems}
use Rattle.isle_simulation.specs.Manner.{bare_manner}
use Rattle.isle_simulation.specs.Operands.{is_bound}
use Rattle.isle_simulation.specs.Patterns.{pattern_of}
use Rattle.isle_simulation.specs.RustNames.{HasRustNames}
use Rattle.isle_simulation.specs.Statements.{list_local}
use Rattle.isle_simulation.specs.TermFunction.{is_return, ends_in_return, mark_of, tail_body}
use Rattle.isle_simulation.proofs.ArmsRun.{FitsBy, IsForm, ArmFits, arm_fits, some_fits}
use Rattle.isle_simulation.proofs.BindsRun.{LetsRun, lets_run}
use Rattle.isle_simulation.proofs.ClosedItems.{IsClosed, none_closed, ready_items, over_items, binds_closed, within_closed, loop_closed, none_of_it, completed_new}
use Rattle.isle_simulation.proofs.CompletedReady.{completed_ready}
use Rattle.isle_simulation.proofs.CompletedRuns.{adds_none}
use Rattle.isle_simulation.proofs.CompletedSeveral.{several_same}
use Rattle.isle_simulation.proofs.CutLaws.{values_in, cut_within, block_appends}
use Rattle.isle_simulation.proofs.EachArm.{ReadsOver, match_reads, fits_where_met}
use Rattle.isle_simulation.proofs.ItemsWithin.{choosing_same}
use Rattle.isle_simulation.proofs.KnownAlong.{KnowsOnly, kept_only, new_unanswered}
use Rattle.isle_simulation.proofs.LocalsAgree.{Stands, Agree, none_agree, bind_agrees, operand_reads, option_reads, written_reads}
use Rattle.isle_simulation.proofs.Made.{over_value, over_option}
use Rattle.isle_simulation.proofs.NamelessLaws.{AreSameCalls, run_same}
use Rattle.isle_simulation.proofs.OneBind.{done, Keeps}
use Rattle.isle_simulation.proofs.PathTypes.{one_listed}
use Rattle.isle_simulation.proofs.PathValues.{Grounds, constraint_tests, IsConstant}
use Rattle.isle_simulation.proofs.Ready.{IsReady, IsOptionReady, IsReadyIn, IsLoopReady, IsReadyBind, AreReadyBinds, IsReadyFrom, IsReadyControl, AreReadyArms}
use Rattle.isle_simulation.proofs.ResultsAt.{AreResultsAt, value_of_one}
use Rattle.isle_simulation.proofs.ResultsGiven.{IsSoFar, GivesSo, AnyLocals, gives_then, gives_scope, gives_by, gives_any, gives_same, step_then, step_alone, result_gives, list_gives}
use Rattle.isle_simulation.proofs.Written.{written_operand, written_read, written_test, written_pattern, written_arm, match_read, told_each, written_list, stop_before, block_body, control_stmt, written_body}
use Rattle.isle_core.specs.Readable.{IsInPlace}

-- ---- bindings go on

-- an inner value
abbrev IsInner : Path → Type 0
IsInner (Inner p) = Unit {0}
IsInner p = ⊥

-- a run goes on
abbrev DoesGo : Went → Type 0
DoesGo (went.Goes known made) = Unit {0}
DoesGo (went.Ends o) = ⊥

call_goes : (m : Meaning) (c : Calling) (instance : ℕ) (vs : Option (List Value)) (known : Known) (made : List Made) → DoesGo (make_call m c instance vs known made)
call_goes m (ByTurns callee kind) instance vs known made = one (known.answers instance) vs
  where
    one : (o : _) (ws : Option (List Value)) → DoesGo (take_turn m callee instance o ws known made)
    one (Some a) ws = tt
    one None (Some ws) = tt
    one None None = tt
call_goes m (ByCases callee kind) instance vs known made = tt
call_goes m NoCall instance vs known made = tt

then_goes : (w : Went) (go : Known → List Made → Went) → DoesGo w → ((known : Known) (made : List Made) → DoesGo (go known made)) → DoesGo (then_go w go)
then_goes (went.Goes known made) go h k = k known made
then_goes (went.Ends o) go h k = absurd h

one_goes : (p : Path) (env : Environment) (m : Meaning) (args : List Value) (known : Known) (made : List Made) → (IsInner p → ⊥) → DoesGo (bind_one env m args p known made)
one_goes (Called term ps instance) env m args known made h = then_goes (make env m args (Called term ps instance) known made) _ (call_goes m (calling env term) instance (values_at env m args known ps) known made) (λ k c. tt)
one_goes (Inner p) env m args known made h = absurd (h tt)
one_goes p env m args known made h = tt

place_inner : (p : Path) → IsInPlace p → IsInner p → ⊥
place_inner (Inner p) h k = h
place_inner p h k = absurd k

not_both : (kind : ReturnKind) → may_be_nothing kind ≡ true → is_several kind ≡ true → ⊥
not_both return_kind.Plain e f = absurd cc
not_both return_kind.Option e f = absurd cc
not_both return_kind.Iterator e f = absurd cc

-- no inner value is bound if several results are given
no_inner : (s : Setting) (bound : List ℕ) (p : Path) (o : Option Binding) → gives_several s ≡ true → IsReadyBind s bound p o → IsInner p → ⊥
no_inner s bound p (Some (binding.Constructor term parameters instance)) several is k = subst IsInner is.path k
no_inner s bound p (Some (binding.Extractor term parameter)) several is k = subst IsInner is.path k
no_inner s bound p (Some (binding.MatchSome source)) several is k = not_both (kind_of s.term.kind) is.fits several
no_inner s bound p (Some (binding.MatchTuple source field)) several is k = subst IsInner is.path k
no_inner s bound p (Some (binding.Argument index)) several is k = place_inner p is.0 k
no_inner s bound p (Some (binding.ConstBool val ty)) several is k = place_inner p is.0 k
no_inner s bound p (Some (binding.ConstInt val ty)) several is k = place_inner p is.0 k
no_inner s bound p (Some (binding.ConstPrim val)) several is k = place_inner p is.0 k
no_inner s bound p (Some (binding.MakeVariant ty variant fields)) several is k = subst IsInner is.path k
no_inner s bound p (Some (binding.MakeStruct ty fields)) several is k = subst IsInner is.path k
no_inner s bound p o several is k = absurd is

binds_go : (s : Setting) (m : Meaning) (args : List Value) (binds : List BindingId) (bound : List ℕ) (known : Known) (made : List Made) → gives_several s ≡ true → AreReadyBinds s bound binds → DoesGo (bind_all s.env m args (paths_in s) binds known made)
binds_go s m args [] bound known made several h = tt
binds_go s m args (b ∷ binds) bound known made several h =
    then_goes (bind_one s.env m args (at (paths_in s) b) known made) (bind_all s.env m args (paths_in s) binds)
    (one_goes (at (paths_in s) b) s.env m args known made (no_inner s bound (at (paths_in s) b) (slice_get s.bindings b.0) several h.0))
    (λ k c. binds_go s m args binds (bound ++ b.0 ∷ []) k c several h.1)

-- ---- what is known

-- after a step no more calls were answered than those that it may have bound
only_after : (several : Bool) (env : Environment) (ps : List Path) (made : List ℕ) (c : Control) (known : Known) → several ≡ true → KnowsOnly made known → KnowsOnly (after_control several env ps made c) known
only_after true env ps made (block.Match source arms) known e only k apart = only k (λ d. apart (Contains-append_left made _ k d))
only_after true env ps made (block.Equal a b body) known e only k apart = only k (λ d. apart (Contains-append_left made _ k d))
only_after true env ps made (block.Loop result body) known e only k apart = only k (λ d. apart (Contains-append_left made _ k d))
only_after true env ps made (block.Return pos result) known e only k apart = only k apart
only_after false env ps made c known e only k apart = cc

-- ---- items

typed_at : (env : Environment) (tys : List TypeId) (vss : List (List Value)) (j : ℕ) (vs : List Value) → AllByRecursion (λ ws. HaveTypes env ws tys) vss → slice_get vss j ≡ Some vs → HaveTypes env vs tys
typed_at env tys [] j vs h e = cc
typed_at env tys (ws ∷ vss) zero vs h e = subst (λ xs. HaveTypes env xs tys) (same_Some ws vs e) h.0
typed_at env tys (ws ∷ vss) (suc j) vs h e = typed_at env tys vss j vs h.1 e

like_at : (rss vss : List (List Value)) (j : ℕ) (rs vs : List Value) → map (map nameless) rss ≡ map (map nameless) vss → slice_get rss j ≡ Some rs → slice_get vss j ≡ Some vs → map nameless rs ≡ map nameless vs
like_at rss vss j rs vs same e f =
    let both : option_map (map nameless) (slice_get rss j) ≡ option_map (map nameless) (slice_get vss j) = sym (slice_get-map (map nameless) rss j) ∙ ap (λ xs. slice_get xs j) same ∙ slice_get-map (map nameless) vss j in
    same_Some (map nameless rs) (map nameless vs) (sym (ap (option_map (map nameless)) e) ∙ both ∙ ap (option_map (map nameless)) f)

-- an item of a list stands for it
item_stands : (env : Environment) (t : Term) (p : Path) (tys : List TypeId) (vs rs : List Value) (g : Held) → IsListOf env t p tys → map nameless rs ≡ map nameless vs → HaveTypes env vs tys → g ≡ One (item_of vs) → Stands env t (Chosen p) (One (item_of rs)) g
item_stands env t p tys vs rs g of same typed there = record {
  value = λ ty k. value_of_one env (One (item_of rs)) g ty (results (ty ∷ []) k);
  tuple = λ tys' k. results tys' k.1;
  option = λ tys' k. absurd k;
  list = λ tys' k. absurd k;
}
  where
    results : (tys' : List TypeId) → IsListOf env t p tys' → AreResultsAt env (One (item_of rs)) g tys'
    results tys' k = record { vs = vs; rs = rs; run = refl; block = there; same = same; typed = subst (HaveTypes env vs) (one_listed env t p tys tys' of k) typed }

-- ---- blocks

module _ (s : Setting) (u : Around) (space : Space) (g : Grounds s u) (several : gives_several s ≡ true) (at_entry : u.held ≡ Some space.held) where
  abbrev room_left : ℕ
  room_left = room_after_one space

  -- what a block gives from there
  abbrev block_given : Block → Known → Given → Given
  block_given = several_run s.env u.meaning u.args (paths_in s)

  -- what a step does, and its stop
  abbrev step_flow : List ℕ → Control → Env → State → Flow
  step_flow bound c locals st = run_body u (Then (control_stmt space.limit s bound c) (stop_before (bare_manner space.limit) (gives_several s) c Done)) locals st

  -- an item is chosen of a list that nothing bound holds an item of
  item_agrees : (bound : List ℕ) (result : BindingId) (known : Known) (locals : Env) (place : ℕ) (x : IsNewItem s bound result) (tys : List TypeId) (vss : List (List Value)) (vs rs : List Value) → IsClosed s bound → is_bound bound x.source ≡ true → Agree s u bound known locals
      → IsListOf s.env s.term (at (paths_in s) x.source) tys → value_at s.env u.meaning u.args known (at (paths_in s) x.source) ≡ Listed (map item_of vss) → slice_get vss place ≡ Some vs → map nameless rs ≡ map nameless vs → HaveTypes s.env vs tys
      → Agree s u (bound ++ result.0 ∷ []) (choosing known (at (paths_in s) x.source) place) (bind locals result.0 (One (item_of rs)))
  item_agrees bound result known locals place x tys vss vs rs closed there a of held here same typed =
      bind_agrees s u bound now locals result (One (item_of rs)) (record { by = λ c e. subst (Stands s.env s.term (at (paths_in s) c) (look locals c.0)) (sym (still c e)) (a.by c e) })
      (subst (λ q. Stands s.env s.term q (One (item_of rs)) (value_at s.env u.meaning u.args now q)) (sym x.path) (item_stands s.env s.term list tys vs rs (value_at s.env u.meaning u.args now (Chosen list)) of same typed chosen))
    where
      list : Path
      list = at (paths_in s) x.source

      now : Known
      now = choosing known list place

      still : (c : BindingId) → is_bound bound c ≡ true → value_at s.env u.meaning u.args now (at (paths_in s) c) ≡ value_at s.env u.meaning u.args known (at (paths_in s) c)
      still c e = choosing_same (at (paths_in s) c) s.env u.meaning u.args known list place (none_of_it s bound result c x closed e)

      chosen : value_at s.env u.meaning u.args now (Chosen list) ≡ One (item_of vs)
      chosen =
          ap (λ b. chosen_held (cond b place (known.choice list)) (value_at s.env u.meaning u.args now list)) (same_self list)
          ∙ ap (chosen_held place) (still x.source there ∙ held)
          ∙ ap item_at (slice_get-map item_of vss place ∙ ap (option_map item_of) here)

  -- a step after its lets, and the steps after it
  step_gives : (bound : List ℕ) (binds : List BindingId) (c : Control) (more : Block) (locals : Env) (known : Known) (given those : _) (so : Given) (w : Went) → bind_all s.env u.meaning u.args (paths_in s) binds known so.calls ≡ w → DoesGo w → LetsRun s u bound binds known given those locals w
      → ((later : Known) (all behind : List Made) (after : Env) → AreSameCalls s.env behind all → Keeps (occurrences s.env (paths_in s) binds) known later → Agree s u (bound_by bound binds) later after
      → GivesSo s.env room_left (λ e. e ≡ after) (step_flow (bound_by bound binds) c after (done given behind)) (several_control s.env u.meaning u.args (paths_in s) c later (record { results = so.results; calls = all }))
      × ((h : Given) (given' : List Value) (those' : List Made) → length h.results ≤ room_left → IsSoFar s.env h given' those' → GivesSo s.env room_left AnyLocals (run_body u (block_body space.limit s (bound_by bound binds) more Done) after (done given' those')) (block_given more later h)))
      → GivesSo s.env room_left AnyLocals (run_body u (block_body space.limit s bound (Step binds c more) Done) locals (done given those)) (block_given (Step binds c more) known so)
  step_gives bound binds c more locals known given those so (went.Ends o) e go is rest = absurd go
  step_gives bound binds c more locals known given those so (went.Goes later all) e go is rest =
      let inner = bound_by bound binds in
      let k = rest later all is.behind is.after is.same is.keeps is.agree in
      let stmt = control_stmt space.limit s inner c in
      let others = block_body space.limit s inner more Done in
      let here : Given = record { results = so.results; calls = all } in
      let h = several_control s.env u.meaning u.args (paths_in s) c later here in
      subst (λ x. GivesSo s.env room_left AnyLocals (run_body u (block_body space.limit s bound (Step binds c more) Done) locals (done given those)) (behind_calls x so (λ now l. block_given more now (several_control s.env u.meaning u.args (paths_in s) c now l)))) (sym e)
      (gives_by s.env room_left AnyLocals (run_body u (block_body space.limit s bound (Step binds c more) Done) locals (done given those)) (then_run (step_flow inner c is.after (done given is.behind)) (run_body u others)) (block_given more later h)
      (is.runs (Then stmt (stop_before (bare_manner space.limit) (gives_several s) c others)) ∙ step_then u (bare_manner space.limit) (gives_several s) c stmt others is.after (done given is.behind))
      (gives_then s.env room_left (λ e. e ≡ is.after) AnyLocals (step_flow inner c is.after (done given is.behind)) (run_body u others) h (block_given more later h) k.0
      (λ after given' those' same le l. subst (λ x. GivesSo s.env room_left AnyLocals (run_body u others x (done given' those')) (block_given more later h)) (sym same) (k.1 h given' those' le l))
      (block_appends more s.env u.meaning u.args (paths_in s) later h)))

  -- two values that are compared, and the body after that
  equal_gives : (a b : Operand) (bound : List ℕ) (body : Block) (locals : Env) (known : Known) (so : Given) (given those : _) (r q : Value) (x : Bool) → value_of u locals a ≡ a_value r → value_of u locals b ≡ a_value q → same_in_run r q ≡ x
      → length so.results ≤ room_left → IsSoFar s.env so given those → GivesSo s.env room_left AnyLocals (run_body u (block_body space.limit s bound body Done) locals (done given those)) (block_given body known so)
      → GivesSo s.env room_left (λ e. e ≡ locals) (run_stmt u (IfEq a b (block_body space.limit s bound body Done)) locals (done given those)) (cond x (block_given body known so) so)
  equal_gives a b bound body locals known so given those r q true e f same le l runs =
      gives_by s.env room_left (λ e. e ≡ locals) _ (after_scope locals (run_body u (block_body space.limit s bound body Done) locals (done given those))) (block_given body known so) (rw (e, f, same) refl)
      (gives_scope s.env room_left AnyLocals locals (run_body u (block_body space.limit s bound body Done) locals (done given those)) (block_given body known so) runs)
  equal_gives a b bound body locals known so given those r q false e f same le l runs =
      gives_by s.env room_left (λ e. e ≡ locals) _ (Goes locals (done given those)) so (rw (e, f, same) refl) (gives_same s.env room_left locals so given those le l)

  -- an arm that tests for a constant
  constant_gives : (bound : List ℕ) (source : BindingId) (ty : TypeId) (c : Constraint) (places : List (Option BindingId)) (body : Block) (locals : Env) (known : Known) (so : Given) (given those : _) → length so.results ≤ room_left → IsSoFar s.env so given those → Agree s u bound known locals
      → IsReady s bound source ty → IsConstraintOf s.env c ty → IsConstant c → GivesSo s.env room_left AnyLocals (run_body u (block_body space.limit s (bound_within bound places) body Done) locals (done given those)) (block_given body known so)
      → GivesSo s.env room_left (λ e. e ≡ locals) (run_stmt u (IfEq (written_operand s bound source) (written_test s.env c) (block_body space.limit s (bound_within bound places) body Done)) locals (done given those))
      (several_control s.env u.meaning u.args (paths_in s) (block.Match source (Arm c places body NoArm)) known so)
  constant_gives bound source ty c places body locals known so given those le l a ready is constant runs =
      let v = operand_reads s u bound known locals source ty g a ready in
      let w = constraint_tests s.env u c ty g.names g.constants is constant in
      let f = run_stmt u (IfEq (written_operand s bound source) (written_test s.env c) (block_body space.limit s (bound_within bound places) body Done)) locals (done given those) in
      subst (λ h. GivesSo s.env room_left (λ e. e ≡ locals) f (cond (meets s.env u.meaning c h) (block_given body known so) so)) (sym v.block)
      (equal_gives (written_operand s bound source) (written_test s.env c) (bound_within bound places) body locals known so given those v.r w.w (meets s.env u.meaning c (a_value v.v)) v.run (w.place locals) (w.met v.r v.v v.same v.typed) le l runs)

  -- an arm that tests by a pattern
  pattern_gives : (bound : List ℕ) (source : BindingId) (c : Constraint) (places : List (Option BindingId)) (body : Block) (locals : Env) (known : Known) (so : Given) (given those : _) (q : Read) (h : Held) → length so.results ≤ room_left → IsSoFar s.env so given those
      → value_at s.env u.meaning u.args known (at (paths_in s) source) ≡ h → ArmFits s u bound known locals c places (read_value u locals q) h
      → ((inner : Env) → Agree s u (bound_within bound places) known inner → GivesSo s.env room_left AnyLocals (run_body u (block_body space.limit s (bound_within bound places) body Done) inner (done given those)) (block_given body known so))
      → GivesSo s.env room_left (λ e. e ≡ locals) (run_stmt u (IfLet (written_pattern (pattern_of s.env c places)) q (block_body space.limit s (bound_within bound places) body Done)) locals (done given those))
      (several_control s.env u.meaning u.args (paths_in s) (block.Match source (Arm c places body NoArm)) known so)
  pattern_gives bound source c places body locals known so given those q h le l held fits runs =
      subst (λ x. GivesSo s.env room_left (λ e. e ≡ locals) (run_stmt u (IfLet (written_pattern (pattern_of s.env c places)) q inside) locals (done given those)) (cond (meets s.env u.meaning c x) (block_given body known so) so)) (sym held)
      (subst (λ p. GivesSo s.env room_left (λ e. e ≡ locals) (run_stmt u (IfLet (written_pattern p) q inside) locals (done given those)) (cond (meets s.env u.meaning c h) (block_given body known so) so)) (sym fits.spelled)
      (by fits.pat (meets s.env u.meaning c h) fits.fits))
    where
      inside : Body
      inside = block_body space.limit s (bound_within bound places) body Done

      next : Option Env → Flow
      next o = fitted o (λ more. after_scope locals (run_body u inside (locals ++ more) (done given those))) (Goes locals (done given those))

      by : (pat : TPat) (x : Bool) → FitsBy s u bound known locals places pat (read_value u locals q) x → GivesSo s.env room_left (λ e. e ≡ locals) (run_stmt u (IfLet pat q inside) locals (done given those)) (cond x (block_given body known so) so)
      by pat false k = gives_by s.env room_left (λ e. e ≡ locals) _ (Goes locals (done given those)) so (ap next k) (gives_same s.env room_left locals so given those le l)
      by pat true k =
          gives_by s.env room_left (λ e. e ≡ locals) _ (after_scope locals (run_body u inside (locals ++ k.0) (done given those))) (block_given body known so) (ap next k.1)
          (gives_scope s.env room_left AnyLocals locals (run_body u inside (locals ++ k.0) (done given those)) (block_given body known so) (runs (locals ++ k.0) k.2))

  -- so of a variant or a struct
  form_gives : (bound : List ℕ) (source : BindingId) (ty : TypeId) (c : Constraint) (places : List (Option BindingId)) (body : Block) (locals : Env) (known : Known) (so : Given) (given those : _) → length so.results ≤ room_left → IsSoFar s.env so given those → Agree s u bound known locals
      → IsReady s bound source ty → IsConstraintOf s.env c ty → ArePlacesOf s source c places → IsForm c
      → ((inner : Env) → Agree s u (bound_within bound places) known inner → GivesSo s.env room_left AnyLocals (run_body u (block_body space.limit s (bound_within bound places) body Done) inner (done given those)) (block_given body known so))
      → GivesSo s.env room_left (λ e. e ≡ locals) (run_stmt u (IfLet (written_pattern (pattern_of s.env c places)) (written_read s bound true source) (block_body space.limit s (bound_within bound places) body Done)) locals (done given those))
      (several_control s.env u.meaning u.args (paths_in s) (block.Match source (Arm c places body NoArm)) known so)
  form_gives bound source ty c places body locals known so given those le l a ready is parts form runs =
      let v = written_reads s u bound known locals true source ty g a ready in
      let q = written_read s bound true source in
      pattern_gives bound source c places body locals known so given those q (a_value v.v) le l v.block (arm_fits s u bound known locals source ty c places (read_value u locals q) g a ready.path is parts form v) runs

  -- and of an option
  some_gives : (bound : List ℕ) (source : BindingId) (tys : List TypeId) (places : List (Option BindingId)) (body : Block) (locals : Env) (known : Known) (so : Given) (given those : _) → length so.results ≤ room_left → IsSoFar s.env so given those → Agree s u bound known locals
      → IsOptionReady s bound source tys → ArePlacesOf s source constraint.Some places
      → ((inner : Env) → Agree s u (bound_within bound places) known inner → GivesSo s.env room_left AnyLocals (run_body u (block_body space.limit s (bound_within bound places) body Done) inner (done given those)) (block_given body known so))
      → GivesSo s.env room_left (λ e. e ≡ locals) (run_stmt u (IfLet (written_pattern (pattern_of s.env constraint.Some places)) (read.Plain (written_operand s bound source)) (block_body space.limit s (bound_within bound places) body Done)) locals (done given those))
      (several_control s.env u.meaning u.args (paths_in s) (block.Match source (Arm constraint.Some places body NoArm)) known so)
  some_gives bound source tys places body locals known so given those le l a ready parts runs =
      let o = option_reads s u bound known locals source tys a ready.bound' ready.path in
      let h = value_of u locals (written_operand s bound source) in
      pattern_gives bound source constraint.Some places body locals known so given those (read.Plain (written_operand s bound source)) (Optional (option_map item_of o.o)) le l o.block (some_fits s u bound known locals source tys places h a ready.path parts o) runs

  -- a loop, whose body gives so at each item
  loop_gives : (bound : List ℕ) (result : BindingId) (body : Block) (locals : Env) (known : Known) (so : Given) (given those : _) (k : IsLoopReady s bound result) (x : IsNewItem s bound result) → IsClosed s bound → length so.results ≤ room_left → IsSoFar s.env so given those → Agree s u bound known locals
      → ((place : ℕ) (inner : Env) (so' : Given) (given' those' : _) → length so'.results ≤ room_left → IsSoFar s.env so' given' those' → Agree s u (bound ++ result.0 ∷ []) (choosing known (at (paths_in s) x.source) place) inner
      → GivesSo s.env room_left AnyLocals (run_body u (block_body space.limit s (bound ++ result.0 ∷ []) body Done) inner (done given' those')) (block_given body (choosing known (at (paths_in s) x.source) place) so'))
      → GivesSo s.env room_left (λ e. e ≡ locals) (run_stmt u (control_stmt space.limit s bound (block.Loop result body)) locals (done given those)) (several_control s.env u.meaning u.args (paths_in s) (block.Loop result body) known so)
  loop_gives bound result body locals known so given those k x closed le l a turns =
      let same : k.source ≡ x.source = same_source (same_Some (binding.Iterator k.source) (binding.Iterator x.source) (sym k.is ∙ x.is)) in
      let of : IsListOf s.env s.term list k.tys = subst (λ (b : BindingId). IsListOf s.env s.term (at (paths_in s) b) k.tys) same k.list in
      let there : is_bound bound x.source ≡ true = subst (λ (b : BindingId). is_bound bound b ≡ true) same k.bound' in
      let h = (a.by x.source there).list k.tys of in
      let go = λ (i : Item) (t : State). run_body u inside (bind locals result.0 (One i)) t in
      let count : length h.rss ≡ length h.vss = sym (length-map h.rss (map nameless)) ∙ ap length h.same ∙ length-map h.vss (map nameless) in
      let given_so : several_control s.env u.meaning u.args (paths_in s) (block.Loop result body) known so ≡ on_turns list (map item_of h.vss) 0 known so (block_given body) =
      ap (λ p. on_items (list_of p) (value_at s.env u.meaning u.args known (list_of p)) known so (block_given body)) x.path ∙ ap (λ y. on_items list y known so (block_given body)) h.block in
      let flow : run_stmt u (control_stmt space.limit s bound (block.Loop result body)) locals (done given those) ≡ run_items go locals (map item_of h.rss) (done given those) =
      ap (λ o. run_stmt u (Loop (written_list (list_local o)) result.0 inside) locals (done given those)) x.is ∙ ap (λ y. on_list y (λ is. run_items go locals is (done given those))) h.run in
      subst (GivesSo s.env room_left (λ e. e ≡ locals) (run_stmt u (control_stmt space.limit s bound (block.Loop result body)) locals (done given those))) (sym given_so)
      (gives_by s.env room_left (λ e. e ≡ locals) _ (run_items go locals (map item_of h.rss) (done given those)) (on_turns list (map item_of h.vss) 0 known so (block_given body)) flow
      (list_gives s.env room_left list known locals go (block_given body) (λ now l'. block_appends body s.env u.meaning u.args (paths_in s) now l') h.rss h.vss so given those count
      (λ j rs vs so' given' those' e f le' l'.
      turns j (bind locals result.0 (One (item_of rs))) so' given' those' le' l'
      (item_agrees bound result known locals j x k.tys h.vss vs rs closed there a of h.block f (like_at h.rss h.vss j rs vs h.same e f) (typed_at s.env k.tys h.vss j vs h.typed f))) le l))
    where
      list : Path
      list = at (paths_in s) x.source

      inside : Body
      inside = block_body space.limit s (bound ++ result.0 ∷ []) body Done

      same_source : {b c : BindingId} → binding.Iterator b ≡ binding.Iterator c → b ≡ c
      same_source e = cc

  -- one of several arms, and those after it
  arm_gives : (bound : List ℕ) (places : List (Option BindingId)) (body : Block) (pat : TPat) (x : Bool) (h : Held) (locals : Env) (known : Known) (so : Given) (given those : _) (others : Flow) (rest : Given) → FitsBy s u bound known locals places pat h x
      → ((inner : Env) → Agree s u (bound_within bound places) known inner → GivesSo s.env room_left AnyLocals (run_body u (block_body space.limit s (bound_within bound places) body Done) inner (done given those)) (block_given body known so))
      → GivesSo s.env room_left (λ e. e ≡ locals) others rest
      → GivesSo s.env room_left (λ e. e ≡ locals) (fitted (fit u pat h) (λ more. after_scope locals (run_body u (block_body space.limit s (bound_within bound places) body Done) (locals ++ more) (done given those))) others) (cond x (block_given body known so) rest)
  arm_gives bound places body pat false h locals known so given those others rest k runs next =
      gives_by s.env room_left (λ e. e ≡ locals) _ others rest (ap (λ o. fitted o (λ more. after_scope locals (run_body u (block_body space.limit s (bound_within bound places) body Done) (locals ++ more) (done given those))) others) k) next
  arm_gives bound places body pat true h locals known so given those others rest k runs next =
      let inside = block_body space.limit s (bound_within bound places) body Done in
      gives_by s.env room_left (λ e. e ≡ locals) _ (after_scope locals (run_body u inside (locals ++ k.0) (done given those))) (block_given body known so) (ap (λ o. fitted o (λ more. after_scope locals (run_body u inside (locals ++ more) (done given those))) others) k.1)
      (gives_scope s.env room_left AnyLocals locals (run_body u inside (locals ++ k.0) (done given those)) (block_given body known so) (runs (locals ++ k.0) k.2))

  -- an arm of a constant binds nothing
  within_agrees : (bound : List ℕ) (places : List (Option BindingId)) (known : Known) (locals : Env) → places ≡ [] → Agree s u bound known locals → Agree s u (bound_within bound places) known locals
  within_agrees bound places known locals e a = subst (λ ps. Agree s u (bound_within bound ps) known locals) (sym e) a

  -- what a step does that gives no result
  only_stmt : (bound : List ℕ) (c : Control) (locals : Env) (given those : _) (h : Given) → is_return c ≡ false → GivesSo s.env room_left (λ e. e ≡ locals) (run_stmt u (control_stmt space.limit s bound c) locals (done given those)) h
      → GivesSo s.env room_left (λ e. e ≡ locals) (step_flow bound c locals (done given those)) h
  only_stmt bound c locals given those h e x =
      gives_by s.env room_left (λ y. y ≡ locals) (step_flow bound c locals (done given those)) (run_stmt u (control_stmt space.limit s bound c) locals (done given those)) h (step_alone u (bare_manner space.limit) (gives_several s) c (control_stmt space.limit s bound c) locals (done given those) e) x

  mutual
    block_gives : (b : Block) (bound made : List ℕ) (locals : Env) (known : Known) (so : Given) (given those : _) → KnowsOnly made known → length so.results ≤ room_left → IsSoFar s.env so given those → IsReadyFrom s bound made b → HasNewItemsFrom s bound b → IsClosed s bound → Agree s u bound known locals
        → GivesSo s.env room_left AnyLocals (run_body u (block_body space.limit s bound b Done) locals (done given those)) (block_given b known so)
    block_gives Stop bound made locals known so given those only le l k n closed a = gives_any s.env room_left (λ e. e ≡ locals) (Goes locals (done given those)) so (gives_same s.env room_left locals so given those le l)
    block_gives (Step binds c more) bound made locals known so given those only le l k n closed a =
        let ps = paths_in s in
        let ks = occurrences s.env ps binds in
        let new = new_unanswered made ks known only k.1 in
        let inner = bound_by bound binds in
        let inside = binds_closed s binds bound closed k.0 in
        step_gives bound binds c more locals known given those so (bind_all s.env u.meaning u.args ps binds known so.calls) refl (binds_go s u.meaning u.args binds bound known so.calls several k.0)
        (lets_run s u bound binds known given so.calls those locals g l.made k.0 k.1.once new a)
        (λ later all behind after same keeps agree.
        let only' = kept_only made ks known later only keeps in (
          control_gives c inner (made ++ ks) after later (record { results = so.results; calls = all }) given behind only' le (record { given' = l.given'; made = same }) k.2 n.0 inside agree,
          λ h given' those' le' l'.
              block_gives more inner (after_control (gives_several s) s.env ps (made ++ ks) c) after later h given' those' (only_after (gives_several s) s.env ps (made ++ ks) c later several only') le' l' k.3 n.1 inside agree,
        ))

    control_gives : (c : Control) (bound made : List ℕ) (locals : Env) (known : Known) (so : Given) (given those : _) → KnowsOnly made known → length so.results ≤ room_left → IsSoFar s.env so given those → IsReadyControl s bound made c → ControlNewItems s bound c → IsClosed s bound → Agree s u bound known locals
        → GivesSo s.env room_left (λ e. e ≡ locals) (step_flow bound c locals (done given those)) (several_control s.env u.meaning u.args (paths_in s) c known so)
    control_gives (block.Match source (Arm (constraint.ConstBool val) places body NoArm)) bound made locals known so given those only le l k n closed a =
        let x = over_value s bound source (constraint.ConstBool val) k.1.0 (λ e. cc) k.1.1 k.1.2.0 in
        only_stmt bound (block.Match source (Arm (constraint.ConstBool val) places body NoArm)) locals given those _ refl
        (constant_gives bound source x.ty (constraint.ConstBool val) places body locals known so given those le l a x.ready x.is tt
        (block_gives body (bound_within bound places) made locals known so given those only le l k.1.2.2 n.0 (within_closed s bound source (constraint.ConstBool val) places (ready_items s bound source x.ty closed x.ready) k.1.2.1 closed) (within_agrees bound places known locals k.1.2.1 a)))
    control_gives (block.Match source (Arm (constraint.ConstInt val of) places body NoArm)) bound made locals known so given those only le l k n closed a =
        let x = over_value s bound source (constraint.ConstInt val of) k.1.0 (λ e. cc) k.1.1 k.1.2.0 in
        only_stmt bound (block.Match source (Arm (constraint.ConstInt val of) places body NoArm)) locals given those _ refl
        (constant_gives bound source x.ty (constraint.ConstInt val of) places body locals known so given those le l a x.ready x.is tt
        (block_gives body (bound_within bound places) made locals known so given those only le l k.1.2.2 n.0 (within_closed s bound source (constraint.ConstInt val of) places (ready_items s bound source x.ty closed x.ready) k.1.2.1 closed) (within_agrees bound places known locals k.1.2.1 a)))
    control_gives (block.Match source (Arm (constraint.ConstPrim val) places body NoArm)) bound made locals known so given those only le l k n closed a =
        let x = over_value s bound source (constraint.ConstPrim val) k.1.0 (λ e. cc) k.1.1 k.1.2.0 in
        only_stmt bound (block.Match source (Arm (constraint.ConstPrim val) places body NoArm)) locals given those _ refl
        (constant_gives bound source x.ty (constraint.ConstPrim val) places body locals known so given those le l a x.ready x.is tt
        (block_gives body (bound_within bound places) made locals known so given those only le l k.1.2.2 n.0 (within_closed s bound source (constraint.ConstPrim val) places (ready_items s bound source x.ty closed x.ready) k.1.2.1 closed) (within_agrees bound places known locals k.1.2.1 a)))
    control_gives (block.Match source (Arm (constraint.Variant of variant) places body NoArm)) bound made locals known so given those only le l k n closed a =
        let x = over_value s bound source (constraint.Variant of variant) k.1.0 (λ e. cc) k.1.1 k.1.2.0 in
        only_stmt bound (block.Match source (Arm (constraint.Variant of variant) places body NoArm)) locals given those _ refl
        (form_gives bound source x.ty (constraint.Variant of variant) places body locals known so given those le l a x.ready x.is k.1.2.1 tt
        (λ inner agree. block_gives body (bound_within bound places) made inner known so given those only le l k.1.2.2 n.0 (within_closed s bound source (constraint.Variant of variant) places (ready_items s bound source x.ty closed x.ready) k.1.2.1 closed) agree))
    control_gives (block.Match source (Arm (constraint.Struct of) places body NoArm)) bound made locals known so given those only le l k n closed a =
        let x = over_value s bound source (constraint.Struct of) k.1.0 (λ e. cc) k.1.1 k.1.2.0 in
        only_stmt bound (block.Match source (Arm (constraint.Struct of) places body NoArm)) locals given those _ refl
        (form_gives bound source x.ty (constraint.Struct of) places body locals known so given those le l a x.ready x.is k.1.2.1 tt
        (λ inner agree. block_gives body (bound_within bound places) made inner known so given those only le l k.1.2.2 n.0 (within_closed s bound source (constraint.Struct of) places (ready_items s bound source x.ty closed x.ready) k.1.2.1 closed) agree))
    control_gives (block.Match source (Arm constraint.Some places body NoArm)) bound made locals known so given those only le l k n closed a =
        let x = over_option s bound source k.1.0 k.1.1 k.1.2.0 in
        only_stmt bound (block.Match source (Arm constraint.Some places body NoArm)) locals given those _ refl
        (some_gives bound source x.0 places body locals known so given those le l a x.1 k.1.2.1
        (λ inner agree. block_gives body (bound_within bound places) made inner known so given those only le l k.1.2.2 n.0 (within_closed s bound source constraint.Some places (closed.by source x.1.bound') k.1.2.1 closed) agree))
    control_gives (block.Match source (Arm c places body (Arm d others inside arms))) bound made locals known so given those only le l k n closed a =
        let h = read_value u locals (match_read s bound source c) in
        let x = match_reads s u bound known locals source k.1.0 c g a k.1.1 k.1.2.0 in
        only_stmt bound (block.Match source (Arm c places body (Arm d others inside arms))) locals given those _ refl
        (arms_give (Arm c places body (Arm d others inside arms)) bound made source k.1.0 h locals known so given those only le l k.1.1 x k.1.2 n closed a)
    control_gives (block.Match source NoArm) bound made locals known so given those only le l k n closed a = absurd k.0
    control_gives (block.Equal x y body) bound made locals known so given those only le l k n closed a =
        let v = operand_reads s u bound known locals x k.0.0 g a k.0.1 in
        let w = operand_reads s u bound known locals y k.0.0 g a k.0.2 in
        let r = block_gives body bound made locals known so given those only le l k.1 n closed a in
        let f = step_flow bound (block.Equal x y body) locals (done given those) in
        let inner = block_given body known so in
        subst (λ h. GivesSo s.env room_left (λ e. e ≡ locals) f (cond (equal_held h (value_at s.env u.meaning u.args known (at (paths_in s) y))) inner so)) (sym v.block)
        (subst (λ h. GivesSo s.env room_left (λ e. e ≡ locals) f (cond (equal_held (a_value v.v) h) inner so)) (sym w.block)
        (only_stmt bound (block.Equal x y body) locals given those (cond (equal_held (a_value v.v) (a_value w.v)) inner so) refl
        (equal_gives (written_operand s bound x) (written_operand s bound y) bound body locals known so given those v.r w.r _ v.run w.run (run_same s.env k.0.0 v.r w.r v.v w.v v.same w.same v.typed w.typed) le l r)))
    control_gives (block.Loop result body) bound made locals known so given those only le l k n closed a =
        let inside = loop_closed s bound result n.0.source n.0.path (subst (λ (b : BindingId). is_bound bound b ≡ true) (one_source k.0.source n.0.source (sym k.0.is ∙ n.0.is)) k.0.bound') closed in
        only_stmt bound (block.Loop result body) locals given those _ refl
        (loop_gives bound result body locals known so given those k.0 n.0 closed le l a
        (λ place inner so' given' those' le' l' agree. block_gives body (bound ++ result.0 ∷ []) made inner (choosing known (at (paths_in s) n.0.source) place) so' given' those' only le' l' k.1 n.1 inside agree))
      where
        one_source : (b c : BindingId) → Some (binding.Iterator b) ≡ Some (binding.Iterator c) → b ≡ c
        one_source b c e = cc
    control_gives (block.Return pos result) bound made locals known so given those only le l k n closed a =
        let v = written_reads s u bound known locals false result s.term.ret_ty g a k in
        subst (λ h. GivesSo s.env room_left (λ e. e ≡ locals) (step_flow bound (block.Return pos result) locals (done given those)) (give_held h so)) (sym v.block)
        (result_gives s.env u space (kind_of s.term.kind) (gives_several s) pos result (written_read s bound false result) v.r v.v locals so given those several several at_entry le l v.run v.same)

    -- several arms over what is read
    arms_give : (arms : Arms) (bound made : List ℕ) (source : BindingId) (over : Source) (h : Held) (locals : Env) (known : Known) (so : Given) (given those : _) → KnowsOnly made known → length so.results ≤ room_left → IsSoFar s.env so given those → IsReadyIn s bound source over
        → ReadsOver s.env over h (value_at s.env u.meaning u.args known (at (paths_in s) source)) → AreReadyArms s bound made source over arms → ArmsNewItems s bound arms → IsClosed s bound → Agree s u bound known locals
        → GivesSo s.env room_left (λ e. e ≡ locals) (run_arms u (told_each (bare_manner space.limit) s bound arms) h locals (done given those)) (several_arms s.env u.meaning u.args (paths_in s) arms (value_at s.env u.meaning u.args known (at (paths_in s) source)) known so)
    arms_give NoArm bound made source over h locals known so given those only le l ready x k n closed a = gives_same s.env room_left locals so given those le l
    arms_give (Arm c places body arms) bound made source over h locals known so given those only le l ready x k n closed a =
        arm_gives bound places body (written_arm s.env c places) (meets s.env u.meaning c (value_at s.env u.meaning u.args known (at (paths_in s) source))) h locals known so given those _ _
        (fits_where_met s u bound known locals source over c places h g a ready x k.0 k.1)
        (λ inner agree. block_gives body (bound_within bound places) made inner known so given those only le l k.2 n.0 (within_closed s bound source c places (over_items s bound source over closed ready) k.1 closed) agree)
        (arms_give arms bound made source over h locals known so given those only le l ready x k.3 n.1 closed a)

-- ---- functions

-- a list in a run that is the same but for names
list_ran : (env : Environment) (given vs : List Value) (those calls : List Made) → map nameless given ≡ map nameless vs → AreSameCalls env those calls
    → AreSameRuns env (Some (record { end = GivesList given; calls = those })) (Some (record { end = GivesList vs; calls = calls }))
list_ran env given vs those calls e f =
    ap (λ x. Some (record { end = GivesList x; calls = map nameless_made (impure_calls env those) })) e ∙ ap (λ x. Some (record { end = GivesList (map nameless vs); calls = x })) f

-- the run of statements that give so
ran_so : (env : Environment) (space : Space) (L : Env → Type 0) (f : Flow) (h : Given) → GivesSo env (room_after_one space) L f h → AreSameRuns env (ended return_kind.Iterator f) (Some (cut_run space h))
ran_so env space L f h (inl x) =
    ap (λ y. option_map (λ (q : Ran). nameless_ran (impure_ran env q)) (ended return_kind.Iterator y)) x.is
    ∙ list_ran env x.given (values_in h.results) x.those h.calls x.so.given' x.so.made
    ∙ ap (λ (c : List Value × List Made). Some (nameless_ran (record { end = GivesList c.0; calls = c.1 }))) (sym (cut_within (room_after_one space) h.results h.calls x.within))
ran_so env space L f h (inr x) =
    ap (λ y. option_map (λ (q : Ran). nameless_ran (impure_ran env q)) (ended return_kind.Iterator y)) x.is
    ∙ list_ran env x.given (cut_after (room_after_one space) h.results h.calls).0 x.those (cut_after (room_after_one space) h.results h.calls).1 x.given' x.made

-- of a term that answers several times
ran_several : (env : Environment) (space : Space) (kind : ReturnKind) (name place : List ℕ) (x : Bool) (f : Body → Flow) (h : Given) → is_several kind ≡ true → GivesSo env (room_after_one space) AnyLocals (f Done) h
    → AreSameRuns env (ended kind (f (cond x Done (tail_body (mark_of kind name place))))) (Some (cut_run space h))
ran_several env space return_kind.Iterator name place true f h e x = ran_so env space AnyLocals (f Done) h x
ran_several env space return_kind.Iterator name place false f h e x = ran_so env space AnyLocals (f Done) h x
ran_several env space return_kind.Plain name place y f h e x = cc
ran_several env space return_kind.Option name place y f h e x = cc

-- the statements of a lawful block give what the block gives, in whatever function they stand
several_flow : (options : CodegenOptions) (files : Files) (env : Environment) (t : Term) (bs : List Binding) (b : Block) → is_several (kind_of t.kind) ≡ true → HasRustNames env → HasPureExtractors env bs → HasPureConstructors env → IsLawfulBlock (setting env t bs) b → HasNewItems (setting env t bs) b
    → (p : Program) (args : List Value) (m : Meaning) (held : ℕ) → HaveTypes env args t.arg_tys → AnswersBindings env m bs → ValuesConstants env m → (f : Function)
    → AreSameRuns env (ended (kind_of t.kind) (run_body (around p m args (Some held) f) (written_body options files env t bs b) [] nothing_done)) (Some (cut_run (space_of options held) (several_outcome env m args (paths_of bs) b)))
several_flow options files env t bs b several names pure pure_made h n p args m held k answers values f =
    let s = setting env t bs in
    let u = around p m args (Some held) f in
    let grounds : Grounds s u = record { asks = refl; typed = k; answers = answers; constants = values; names = names; pure = pure; pure_made = pure_made } in
    let c = completed s [] b in
    let r = block_gives s u (space_of options held) grounds several refl c [] [] [] nothing_known nothing_given [] [] (λ j apart. refl) (omega arith) (record { given' = refl; made = refl }) (completed_ready s b h)
    (completed_new b s [] [] (adds_none s []) n) (none_closed s) (none_agree s u nothing_known) in
    ran_several env (space_of options held) (kind_of t.kind) (sym_text env t.name) (place_in files t.decl_pos) (ends_in_return b) (λ end. run_body u (block_body options.max_returns s [] c end) [] nothing_done) (several_run env m args (paths_of bs) c nothing_known nothing_given) several r
    ∙ ap (λ x. Some (nameless_ran (cut_run (space_of options held) x))) (several_same s m args b [] nothing_known nothing_given)

-- so a function of its kind whose statements run as these
pub written_several : (options : CodegenOptions) (files : Files) (env : Environment) (t : Term) (bs : List Binding) (b : Block) → is_several (kind_of t.kind) ≡ true → HasRustNames env → HasPureExtractors env bs → HasPureConstructors env → IsLawfulBlock (setting env t bs) b → HasNewItems (setting env t bs) b
    → (f : Function) → f.kind ≡ kind_of t.kind → ((w : Around) → run_body w f.body [] nothing_done ≡ run_body w (written_body options files env t bs b) [] nothing_done) → RunsAsSeveral options env t bs b f
written_several options files env t bs b several names pure pure_made h n f of alike p args m held e k answers values =
    let w = around p m args (Some held) f in
    ap (λ g. option_map (λ (q : Ran). nameless_ran (impure_ran env q)) (function_run p m held args g)) e
    ∙ ap (λ x. option_map (λ (q : Ran). nameless_ran (impure_ran env q)) (ended x (run_body w f.body [] nothing_done))) of
    ∙ ap (λ x. option_map (λ (q : Ran). nameless_ran (impure_ran env q)) (ended (kind_of t.kind) x)) (alike w)
    ∙ several_flow options files env t bs b several names pure pure_made h n p args m held k answers values f
