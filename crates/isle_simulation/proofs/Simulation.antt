-- The function of a term runs as its block, but for calls of pure terms and the type names of opaque numbers.
use Rattle.std.proofs.Common.{◌≡◌, ℕ, List, [], ◌++◌, map, Bool, true, false, cond, Option, Some, refl, sym, ap, ◌∙◌, subst}
use Rattle.std.specs.Prelude.{option_map}
use Rattle.isle_core.specs.declared.options.CodegenOptions.{CodegenOptions}
use Rattle.isle_core.specs.Answered.{item_of}
use Rattle.isle_core.specs.Calling.{kind_of, is_several, AnswersOnce}
use Rattle.isle_core.specs.declared.BindingId.{BindingId}
use Rattle.isle_core.specs.declared.TypeId.{TypeId}
use Rattle.isle_core.specs.declared.files.Files.{Files}
use Rattle.isle_core.specs.declared.rule_sets.Binding.{Binding}
use Rattle.isle_core.specs.declared.rule_sets.Constraint.{Constraint}
use Rattle.isle_core.specs.declared.rule_sets.Constraint.TheVariants as constraint
use Rattle.isle_core.specs.declared.types.ReturnKind.{ReturnKind}
use Rattle.isle_core.specs.declared.types.ReturnKind.TheVariants as return_kind
use Rattle.isle_core.specs.declared.types.Term.{Term}
use Rattle.isle_core.specs.ArmPlaces.{ArePlacesOf, bound_within}
use Rattle.isle_core.specs.ConstraintType.{IsConstraintOf}
use Rattle.isle_core.specs.Value.{Value, Made, Ran, Gives, GivesSome, GivesNone, IsUnreachable}
use Rattle.isle_core.specs.SameInRun.{same_in_run}
use Rattle.isle_core.specs.Meaning.{Meaning}
use Rattle.isle_core.specs.Nameless.{nameless, nameless_made, nameless_end, nameless_ran}
use Rattle.isle_core.specs.Outcome.{Result, Value', Failure, Unmatched, Prescription}
use Rattle.isle_core.specs.Path.{at, paths_of}
use Rattle.isle_core.specs.ValueAt.{Held, Optional, Known, a_value, nothing_known, value_at, meets, equal_held}
use Rattle.isle_core.specs.Places.{place_in}
use Rattle.isle_core.specs.Block as block
use Rattle.isle_core.specs.Block.{Block, Stop, Step, Control, Arms, Arm, NoArm}
use Rattle.isle_core.specs.CallRun as went
use Rattle.isle_core.specs.CallRun.{Went, then_go, result_of}
use Rattle.isle_core.specs.RuleSet.{gave}
use Rattle.isle_core.specs.BlockRun.{bind_all, block_run, control_run, arms_run, block_outcome}
use Rattle.isle_core.specs.Bindable.{bound_by}
use Rattle.isle_core.specs.BlockLawful.{Source, IsLawfulBlock}
use Rattle.isle_core.specs.Occurrences.{occurrences, after_block, after_control, after_arms}
use Rattle.isle_core.specs.Terms.{sym_text, impure_calls}
use Rattle.isle_core.specs.Rule.{Environment}
use Rattle.isle_core.specs.HasType.{HaveTypes}
use Rattle.isle_core.specs.NamesApart.{ValuesConstants}
use Rattle.isle_core.specs.Setting.{Setting, setting, gives_several, paths_in}
use Rattle.isle_tree.specs.declared.tree.Operand.{Operand}
use Rattle.isle_tree.specs.declared.tree.Read.{Read}
use Rattle.isle_tree.specs.declared.tree.Read.TheVariants as read
use Rattle.isle_tree.specs.declared.tree.TPat.{TPat}
use Rattle.isle_tree.specs.Program.{IfEq, IfLet, Body, Done, Then, Function, Program}
use Rattle.isle_tree.specs.Run.{Around, Env, value_of, read_value, fit, fitted, Flow, Goes, then_run, after_scope, run_stmt, run_body, run_arms, ended, nothing_done, around, function_run}
use Rattle.isle_simulation.specs.Completed.{completed}
use Rattle.isle_simulation.specs.Manner.{bare_manner}
use Rattle.isle_simulation.specs.Patterns.{pattern_of}
use Rattle.isle_simulation.specs.TermFunction.{ends_in_return, mark_of, tail_body}
use Rattle.isle_simulation.specs.Ends.{end_of as ending}
use Rattle.isle_simulation.specs.Emitted.{HasPureExtractors, HasPureConstructors, impure_ran, AreSameRuns, RunsAsBlock, ran_with, AnswersBindings, ran_of}
use Rattle.isle_simulation.specs.RustNames.{HasRustNames}
use Rattle.isle_simulation.proofs.ArmsRun.{FitsBy, IsForm, ArmFits, arm_fits, some_fits}
use Rattle.isle_simulation.proofs.BindsRun.{LetsRun, lets_run}
use Rattle.isle_simulation.proofs.EachArm.{ReadsOver, match_reads, fits_where_met}
use Rattle.isle_simulation.proofs.OneBind.{AreUnanswered, Keeps, done, EndsSo, ends_on, ends_as_well}
use Rattle.isle_simulation.proofs.CompletedReady.{completed_ready}
use Rattle.isle_simulation.proofs.CompletedRuns.{completed_runs}
use Rattle.isle_simulation.proofs.KnownAlong.{KnowsOnly, IsLater, WentOn, kept_grows, kept_only, new_unanswered, on_left, on_right, on_first, on_between, same_later, goes_twice}
use Rattle.isle_simulation.proofs.LocalsAgree.{Agree, none_agree, agree_later, operand_reads, option_reads, written_reads}
use Rattle.isle_simulation.proofs.Made.{over_value, over_option}
use Rattle.isle_simulation.proofs.NamelessLaws.{AreSameCalls, run_same}
use Rattle.isle_simulation.proofs.PathValues.{Grounds, constraint_tests, IsConstant}
use Rattle.isle_simulation.proofs.Ready.{IsReady, IsOptionReady, IsReadyIn, IsReadyFrom, IsReadyControl, AreReadyArms}
use Rattle.isle_simulation.proofs.Written.{written_operand, written_read, written_test, written_pattern, written_arm, match_read, told_each, block_body, control_stmt, end_of, result_stmt, stop_before, written_body}

-- ---- how statements go

-- statements go on to what follows, whatever that is
record GoesOn (env : Environment) (u : Around) (f : Body → Flow) (calls : List Made) : Type 0 where
  after : Env
  those : List Made
  is : (end : Body) → f end ≡ run_body u end after (done [] those)
  same : AreSameCalls env those calls

-- statements go as a block that went so
abbrev RunsSo : Environment → ReturnKind → Around → (Body → Flow) → Went → Type 0
RunsSo env kind u f (went.Goes later calls) = GoesOn env u f calls
RunsSo env kind u f (went.Ends o) = (end : Body) → EndsSo [] env kind (f end) o

-- a statement goes on with the locals that were there
record StaysSo (env : Environment) (locals : Env) (f : Flow) (calls : List Made) : Type 0 where
  those : List Made
  is : f ≡ Goes locals (done [] those)
  same : AreSameCalls env those calls

-- a statement goes as a step that went so
abbrev DoesSo : Environment → ReturnKind → Env → Flow → Went → Type 0
DoesSo env kind locals f (went.Goes later calls) = StaysSo env locals f calls
DoesSo env kind locals f (went.Ends o) = EndsSo [] env kind f o

runs_by : (env : Environment) (kind : ReturnKind) (u : Around) (f h : Body → Flow) (w : Went) → ((end : Body) → f end ≡ h end) → RunsSo env kind u h w → RunsSo env kind u f w
runs_by env kind u f h (went.Goes later calls) e r = record { after = r.after; those = r.those; is = λ end. e end ∙ r.is end; same = r.same }
runs_by env kind u f h (went.Ends o) e r = λ end. ends_as_well [] env kind (f end) (h end) o (e end) (r end)

does_by : (env : Environment) (kind : ReturnKind) (locals : Env) (f h : Flow) (w : Went) → f ≡ h → DoesSo env kind locals h w → DoesSo env kind locals f w
does_by env kind locals f h (went.Goes later calls) e r = record { those = r.those; is = e ∙ r.is; same = r.same }
does_by env kind locals f h (went.Ends o) e r = ends_as_well [] env kind f h o e r

-- after a body stand the outer locals
scope_does : (env : Environment) (kind : ReturnKind) (u : Around) (locals : Env) (f : Body → Flow) (w : Went) → RunsSo env kind u f w → DoesSo env kind locals (after_scope locals (f Done)) w
scope_does env kind u locals f (went.Goes later calls) r = record { those = r.those; is = ap (after_scope locals) (r.is Done); same = r.same }
scope_does env kind u locals f (went.Ends o) r = let e = r Done in record { end = e.end; those = e.those; is = ap (after_scope locals) e.is; same = e.same; calls = e.calls }

-- no stop stands where one result is given
no_stop : (limit : ℕ) (several : Bool) → several ≡ false → (c : Control) (after : Body) → stop_before (bare_manner limit) several c after ≡ after
no_stop limit false e c after = refl
no_stop limit true e c after = cc

return_does : (env : Environment) (u : Around) (kind : ReturnKind) → is_several kind ≡ false → (q : Read) (r v : Value) (locals : Env) (calls those : List Made) → read_value u locals q ≡ a_value r → nameless r ≡ nameless v → AreSameCalls env those calls
    → EndsSo [] env kind (run_stmt u (result_stmt kind q) locals (done [] those)) (record { result = Value' v; calls = calls })
return_does env u return_kind.Plain few q r v locals calls those e same made = record { end = Gives r; those = those; is = rw e refl; same = ap Gives same; calls = made }
return_does env u return_kind.Option few q r v locals calls those e same made = record { end = GivesSome r; those = those; is = rw e refl; same = ap GivesSome same; calls = made }
return_does env u return_kind.Iterator few q r v locals calls those e same made = cc

-- ---- blocks

-- a statement goes as a step, and only these calls may have been answered then
record Does (env : Environment) (kind : ReturnKind) (locals : Env) (known : Known) (made : List ℕ) (f : Flow) (w : Went) : Type 0 where
  runs : DoesSo env kind locals f w
  goes : WentOn known made w

-- a test that doesn't hold
skip : (env : Environment) (kind : ReturnKind) (locals : Env) (known : Known) (made more : List ℕ) (f : Flow) (w : Went) (calls those : List Made) → KnowsOnly made known → AreSameCalls env those calls → f ≡ Goes locals (done [] those) → w ≡ went.Goes known calls → Does env kind locals known (made ++ more) f w
skip env kind locals known made more f w calls those only same e is =
    subst (Does env kind locals known (made ++ more) f) (sym is) (record { runs = record { those = those; is = e; same = same }; goes = on_left made more known known (same_later known made only) })

module _ (limit : ℕ) (s : Setting) (u : Around) (g : Grounds s u) (few : gives_several s ≡ false) where
  -- the statements of a block go as the block, whatever follows them
  record Runs (bound made : List ℕ) (b : Block) (locals : Env) (known : Known) (calls those : List Made) : Type 0 where
    runs : RunsSo s.env (kind_of s.term.kind) u (λ end. run_body u (block_body limit s bound b end) locals (done [] those)) (block_run s.env u.meaning u.args (paths_in s) b known calls)
    goes : WentOn known (after_block (gives_several s) s.env (paths_in s) made b) (block_run s.env u.meaning u.args (paths_in s) b known calls)

  -- a statement, and the steps after it
  record RunsAfter (bound made : List ℕ) (known : Known) (f : Flow) (w : Went) (more : Block) : Type 0 where
    runs : RunsSo s.env (kind_of s.term.kind) u (λ end. then_run f (run_body u (block_body limit s bound more end))) (then_go w (block_run s.env u.meaning u.args (paths_in s) more))
    goes : WentOn known (after_block (gives_several s) s.env (paths_in s) made more) (then_go w (block_run s.env u.meaning u.args (paths_in s) more))

  runs_after : (bound made : List ℕ) (known : Known) (f : Flow) (w : Went) (more : Block) (locals : Env) → Does s.env (kind_of s.term.kind) locals known made f w
      → ((last : Known) (all behind : List Made) → AreSameCalls s.env behind all → IsLater known made last → Runs bound made more locals last all behind) → RunsAfter bound made known f w more
  runs_after bound made known f (went.Goes last all) more locals is h =
      let r = h last all is.runs.those is.runs.same is.goes in
      record {
        runs = runs_by s.env (kind_of s.term.kind) u (λ end. then_run f (run_body u (block_body limit s bound more end))) (λ end. run_body u (block_body limit s bound more end) locals (done [] is.runs.those)) (block_run s.env u.meaning u.args (paths_in s) more last all)
            (λ end. ap (λ x. then_run x (run_body u (block_body limit s bound more end))) is.runs.is) r.runs;
        goes = goes_twice known last (after_block (gives_several s) s.env (paths_in s) made more) (block_run s.env u.meaning u.args (paths_in s) more last all) is.goes.grows r.goes;
      }
  runs_after bound made known f (went.Ends o) more locals is h = record { runs = λ end. ends_on [] s.env (kind_of s.term.kind) f o (run_body u (block_body limit s bound more end)) is.runs; goes = tt }

  -- a step, after its lets
  step_runs : (bound made : List ℕ) (binds : List BindingId) (c : Control) (more : Block) (locals : Env) (known : Known) (calls those : List Made) (w : Went) → bind_all s.env u.meaning u.args (paths_in s) binds known calls ≡ w → AreUnanswered known (occurrences s.env (paths_in s) binds)
      → LetsRun s u bound binds known [] those locals w
      → ((later : Known) (all behind : List Made) (after : Env) → AreSameCalls s.env behind all → Keeps (occurrences s.env (paths_in s) binds) known later → Agree s u (bound_by bound binds) later after
      → Does s.env (kind_of s.term.kind) after later (after_control (gives_several s) s.env (paths_in s) (made ++ occurrences s.env (paths_in s) binds) c) (run_stmt u (control_stmt limit s (bound_by bound binds) c) after (done [] behind)) (control_run s.env u.meaning u.args (paths_in s) c later all)
      × ((last : Known) (all' behind' : List Made) → AreSameCalls s.env behind' all' → IsLater later (after_control (gives_several s) s.env (paths_in s) (made ++ occurrences s.env (paths_in s) binds) c) last → Runs (bound_by bound binds) (after_control (gives_several s) s.env (paths_in s) (made ++ occurrences s.env (paths_in s) binds) c) more after last all' behind'))
      → Runs bound made (Step binds c more) locals known calls those
  step_runs bound made binds c more locals known calls those (went.Ends o) e new is rest = record {
    runs = subst (λ x. RunsSo s.env (kind_of s.term.kind) u (λ end. run_body u (block_body limit s bound (Step binds c more) end) locals (done [] those)) (then_go (then_go x (control_run s.env u.meaning u.args (paths_in s) c)) (block_run s.env u.meaning u.args (paths_in s) more))) (sym e)
        (λ end. is (Then (control_stmt limit s (bound_by bound binds) c) (stop_before (bare_manner limit) (gives_several s) c (block_body limit s (bound_by bound binds) more end))));
    goes = subst (λ x. WentOn known (after_block (gives_several s) s.env (paths_in s) made (Step binds c more)) (then_go (then_go x (control_run s.env u.meaning u.args (paths_in s) c)) (block_run s.env u.meaning u.args (paths_in s) more))) (sym e) tt;
  }
  step_runs bound made binds c more locals known calls those (went.Goes later all) e new is rest =
      let ps = paths_in s in
      let ks = occurrences s.env ps binds in
      let k = rest later all is.behind is.after is.same is.keeps is.agree in
      let f = run_stmt u (control_stmt limit s (bound_by bound binds) c) is.after (done [] is.behind) in
      let w = control_run s.env u.meaning u.args ps c later all in
      let r = runs_after (bound_by bound binds) (after_control (gives_several s) s.env ps (made ++ ks) c) later f w more is.after k.0 k.1 in
      record {
        runs = subst (λ x. RunsSo s.env (kind_of s.term.kind) u (λ end. run_body u (block_body limit s bound (Step binds c more) end) locals (done [] those)) (then_go (then_go x (control_run s.env u.meaning u.args ps c)) (block_run s.env u.meaning u.args ps more))) (sym e)
            (runs_by s.env (kind_of s.term.kind) u (λ end. run_body u (block_body limit s bound (Step binds c more) end) locals (done [] those)) (λ end. then_run f (run_body u (block_body limit s (bound_by bound binds) more end))) (then_go w (block_run s.env u.meaning u.args ps more))
            (λ end. is.runs (Then (control_stmt limit s (bound_by bound binds) c) (stop_before (bare_manner limit) (gives_several s) c (block_body limit s (bound_by bound binds) more end)))
            ∙ ap (λ x. then_run f (run_body u x)) (no_stop limit (gives_several s) few c (block_body limit s (bound_by bound binds) more end))) r.runs);
        goes = subst (λ x. WentOn known (after_block (gives_several s) s.env ps made (Step binds c more)) (then_go (then_go x (control_run s.env u.meaning u.args ps c)) (block_run s.env u.meaning u.args ps more))) (sym e)
            (goes_twice known later (after_block (gives_several s) s.env ps made (Step binds c more)) (then_go w (block_run s.env u.meaning u.args ps more)) (kept_grows ks known later new is.keeps) r.goes);
      }

  -- two values that are compared, and the body after that
  equal_does : (a b : Operand) (bound made more : List ℕ) (body : Block) (locals : Env) (known : Known) (calls those : List Made) (r q : Value) (x : Bool) → value_of u locals a ≡ a_value r → value_of u locals b ≡ a_value q → same_in_run r q ≡ x
      → KnowsOnly made known → AreSameCalls s.env those calls → Runs bound made body locals known calls those
      → WentOn known (made ++ more) (block_run s.env u.meaning u.args (paths_in s) body known calls)
      → Does s.env (kind_of s.term.kind) locals known (made ++ more) (run_stmt u (IfEq a b (block_body limit s bound body Done)) locals (done [] those)) (cond x (block_run s.env u.meaning u.args (paths_in s) body known calls) (went.Goes known calls))
  equal_does a b bound made more body locals known calls those r q true e f same only made' runs goes = record {
    runs = does_by s.env (kind_of s.term.kind) locals _ (after_scope locals (run_body u (block_body limit s bound body Done) locals (done [] those))) (block_run s.env u.meaning u.args (paths_in s) body known calls) (rw (e, f, same) refl)
        (scope_does s.env (kind_of s.term.kind) u locals (λ end. run_body u (block_body limit s bound body end) locals (done [] those)) (block_run s.env u.meaning u.args (paths_in s) body known calls) runs.runs);
    goes = goes;
  }
  equal_does a b bound made more body locals known calls those r q false e f same only made' runs goes = skip s.env (kind_of s.term.kind) locals known made more _ (went.Goes known calls) calls those only made' (rw (e, f, same) refl) refl

  arm_goes : (made : List ℕ) (body : Block) (known : Known) (w : Went) → WentOn known (after_block (gives_several s) s.env (paths_in s) made body) w → WentOn known (made ++ (after_block (gives_several s) s.env (paths_in s) made body ++ [])) w
  arm_goes made body known w h = on_right made (after_block (gives_several s) s.env (paths_in s) made body ++ []) known w (on_first (after_block (gives_several s) s.env (paths_in s) made body) [] known w h)

  -- an arm that tests for a constant
  constant_does : (bound made : List ℕ) (source : BindingId) (ty : TypeId) (c : Constraint) (places : List (Option BindingId)) (body : Block) (locals : Env) (known : Known) (calls those : List Made) → KnowsOnly made known → AreSameCalls s.env those calls → Agree s u bound known locals
      → IsReady s bound source ty → IsConstraintOf s.env c ty → IsConstant c → Runs (bound_within bound places) made body locals known calls those
      → Does s.env (kind_of s.term.kind) locals known (after_control (gives_several s) s.env (paths_in s) made (block.Match source (Arm c places body NoArm))) (run_stmt u (IfEq (written_operand s bound source) (written_test s.env c) (block_body limit s (bound_within bound places) body Done)) locals (done [] those))
      (control_run s.env u.meaning u.args (paths_in s) (block.Match source (Arm c places body NoArm)) known calls)
  constant_does bound made source ty c places body locals known calls those only same a ready is constant runs =
      let v = operand_reads s u bound known locals source ty g a ready in
      let w = constraint_tests s.env u c ty g.names g.constants is constant in
      let after = after_block (gives_several s) s.env (paths_in s) made body in
      subst (λ h. Does s.env (kind_of s.term.kind) locals known (made ++ (after ++ [])) (run_stmt u (IfEq (written_operand s bound source) (written_test s.env c) (block_body limit s (bound_within bound places) body Done)) locals (done [] those)) (cond (meets s.env u.meaning c h) (block_run s.env u.meaning u.args (paths_in s) body known calls) (went.Goes known calls))) (sym v.block)
      (equal_does (written_operand s bound source) (written_test s.env c) (bound_within bound places) made (after ++ []) body locals known calls those v.r w.w (meets s.env u.meaning c (a_value v.v)) v.run (w.place locals) (w.met v.r v.v v.same v.typed) only same runs
      (arm_goes made body known (block_run s.env u.meaning u.args (paths_in s) body known calls) runs.goes))

  -- an arm that tests by a pattern
  pattern_does : (bound made : List ℕ) (source : BindingId) (c : Constraint) (places : List (Option BindingId)) (body : Block) (locals : Env) (known : Known) (calls those : List Made) (q : Read) (h : Held) → KnowsOnly made known → AreSameCalls s.env those calls
      → value_at s.env u.meaning u.args known (at (paths_in s) source) ≡ h → ArmFits s u bound known locals c places (read_value u locals q) h → ((inner : Env) → Agree s u (bound_within bound places) known inner → Runs (bound_within bound places) made body inner known calls those)
      → Does s.env (kind_of s.term.kind) locals known (after_control (gives_several s) s.env (paths_in s) made (block.Match source (Arm c places body NoArm))) (run_stmt u (IfLet (written_pattern (pattern_of s.env c places)) q (block_body limit s (bound_within bound places) body Done)) locals (done [] those))
      (control_run s.env u.meaning u.args (paths_in s) (block.Match source (Arm c places body NoArm)) known calls)
  pattern_does bound made source c places body locals known calls those q h only same held fits runs =
      subst (λ x. Does s.env (kind_of s.term.kind) locals known (made ++ (after ++ [])) (run_stmt u (IfLet (written_pattern (pattern_of s.env c places)) q inside) locals (done [] those)) (cond (meets s.env u.meaning c x) w (went.Goes known calls))) (sym held)
      (subst (λ p. Does s.env (kind_of s.term.kind) locals known (made ++ (after ++ [])) (run_stmt u (IfLet (written_pattern p) q inside) locals (done [] those)) (cond (meets s.env u.meaning c h) w (went.Goes known calls))) (sym fits.spelled)
      (by fits.pat (meets s.env u.meaning c h) fits.fits))
    where
      after : List ℕ
      after = after_block (gives_several s) s.env (paths_in s) made body

      inside : Body
      inside = block_body limit s (bound_within bound places) body Done

      w : Went
      w = block_run s.env u.meaning u.args (paths_in s) body known calls

      by : (pat : TPat) (x : Bool) → FitsBy s u bound known locals places pat (read_value u locals q) x → Does s.env (kind_of s.term.kind) locals known (made ++ (after ++ [])) (run_stmt u (IfLet pat q inside) locals (done [] those)) (cond x w (went.Goes known calls))
      by pat false k = skip s.env (kind_of s.term.kind) locals known made (after ++ []) _ (went.Goes known calls) calls those only same (ap (λ o. fitted o (λ more. after_scope locals (run_body u inside (locals ++ more) (done [] those))) (Goes locals (done [] those))) k) refl
      by pat true k =
          let r = runs (locals ++ k.0) k.2 in
          record {
            runs = does_by s.env (kind_of s.term.kind) locals _ (after_scope locals (run_body u inside (locals ++ k.0) (done [] those))) w (ap (λ o. fitted o (λ more. after_scope locals (run_body u inside (locals ++ more) (done [] those))) (Goes locals (done [] those))) k.1)
                (scope_does s.env (kind_of s.term.kind) u locals (λ end. run_body u (block_body limit s (bound_within bound places) body end) (locals ++ k.0) (done [] those)) w r.runs);
            goes = arm_goes made body known w r.goes;
          }

  -- so of a variant or a struct
  form_does : (bound made : List ℕ) (source : BindingId) (ty : TypeId) (c : Constraint) (places : List (Option BindingId)) (body : Block) (locals : Env) (known : Known) (calls those : List Made) → KnowsOnly made known → AreSameCalls s.env those calls → Agree s u bound known locals
      → IsReady s bound source ty → IsConstraintOf s.env c ty → ArePlacesOf s source c places → IsForm c → ((inner : Env) → Agree s u (bound_within bound places) known inner → Runs (bound_within bound places) made body inner known calls those)
      → Does s.env (kind_of s.term.kind) locals known (after_control (gives_several s) s.env (paths_in s) made (block.Match source (Arm c places body NoArm))) (run_stmt u (IfLet (written_pattern (pattern_of s.env c places)) (written_read s bound true source) (block_body limit s (bound_within bound places) body Done)) locals (done [] those))
      (control_run s.env u.meaning u.args (paths_in s) (block.Match source (Arm c places body NoArm)) known calls)
  form_does bound made source ty c places body locals known calls those only same a ready is parts form runs =
      let v = written_reads s u bound known locals true source ty g a ready in
      let q = written_read s bound true source in
      pattern_does bound made source c places body locals known calls those q (a_value v.v) only same v.block (arm_fits s u bound known locals source ty c places (read_value u locals q) g a ready.path is parts form v) runs

  -- and of an option
  some_does : (bound made : List ℕ) (source : BindingId) (tys : List TypeId) (places : List (Option BindingId)) (body : Block) (locals : Env) (known : Known) (calls those : List Made) → KnowsOnly made known → AreSameCalls s.env those calls → Agree s u bound known locals
      → IsOptionReady s bound source tys → ArePlacesOf s source constraint.Some places → ((inner : Env) → Agree s u (bound_within bound places) known inner → Runs (bound_within bound places) made body inner known calls those)
      → Does s.env (kind_of s.term.kind) locals known (after_control (gives_several s) s.env (paths_in s) made (block.Match source (Arm constraint.Some places body NoArm))) (run_stmt u (IfLet (written_pattern (pattern_of s.env constraint.Some places)) (read.Plain (written_operand s bound source)) (block_body limit s (bound_within bound places) body Done)) locals (done [] those))
      (control_run s.env u.meaning u.args (paths_in s) (block.Match source (Arm constraint.Some places body NoArm)) known calls)
  some_does bound made source tys places body locals known calls those only same a ready parts runs =
      let o = option_reads s u bound known locals source tys a ready.bound' ready.path in
      let h = value_of u locals (written_operand s bound source) in
      pattern_does bound made source constraint.Some places body locals known calls those (read.Plain (written_operand s bound source)) (Optional (option_map item_of o.o)) only same o.block (some_fits s u bound known locals source tys places h a ready.path parts o) runs

  -- one of several arms, and those after it
  arm_does : (bound made : List ℕ) (places : List (Option BindingId)) (body : Block) (pat : TPat) (x : Bool) (h : Held) (locals : Env) (known : Known) (calls those : List Made) (rest : List ℕ) (others : Flow) (w : Went) → FitsBy s u bound known locals places pat h x
      → ((inner : Env) → Agree s u (bound_within bound places) known inner → Runs (bound_within bound places) made body inner known calls those) → Does s.env (kind_of s.term.kind) locals known (made ++ rest) others w
      → Does s.env (kind_of s.term.kind) locals known (made ++ (after_block (gives_several s) s.env (paths_in s) made body ++ rest))
      (fitted (fit u pat h) (λ more. after_scope locals (run_body u (block_body limit s (bound_within bound places) body Done) (locals ++ more) (done [] those))) others) (cond x (block_run s.env u.meaning u.args (paths_in s) body known calls) w)
  arm_does bound made places body pat false h locals known calls those rest others w k runs next = record {
    runs = does_by s.env (kind_of s.term.kind) locals _ others w (ap (λ o. fitted o (λ more. after_scope locals (run_body u (block_body limit s (bound_within bound places) body Done) (locals ++ more) (done [] those))) others) k) next.runs;
    goes = on_between made (after_block (gives_several s) s.env (paths_in s) made body) rest known w next.goes;
  }
  arm_does bound made places body pat true h locals known calls those rest others w k runs next =
      let inside = block_body limit s (bound_within bound places) body Done in
      let went_so = block_run s.env u.meaning u.args (paths_in s) body known calls in
      let after = after_block (gives_several s) s.env (paths_in s) made body in
      let r = runs (locals ++ k.0) k.2 in
      record {
        runs = does_by s.env (kind_of s.term.kind) locals _ (after_scope locals (run_body u inside (locals ++ k.0) (done [] those))) went_so (ap (λ o. fitted o (λ more. after_scope locals (run_body u inside (locals ++ more) (done [] those))) others) k.1)
            (scope_does s.env (kind_of s.term.kind) u locals (λ end. run_body u (block_body limit s (bound_within bound places) body end) (locals ++ k.0) (done [] those)) went_so r.runs);
        goes = on_right made (after ++ rest) known went_so (on_first after rest known went_so r.goes);
      }

  -- an arm of a constant binds nothing
  within_agrees : (bound : List ℕ) (places : List (Option BindingId)) (known : Known) (locals : Env) → places ≡ [] → Agree s u bound known locals → Agree s u (bound_within bound places) known locals
  within_agrees bound places known locals e a = subst (λ ps. Agree s u (bound_within bound ps) known locals) (sym e) a

  mutual
    block_runs : (b : Block) (bound made : List ℕ) (locals : Env) (known : Known) (calls those : List Made) → KnowsOnly made known → AreSameCalls s.env those calls → IsReadyFrom s bound made b → Agree s u bound known locals → Runs bound made b locals known calls those
    block_runs Stop bound made locals known calls those only same k a = record { runs = record { after = locals; those = those; is = λ end. refl; same = same }; goes = same_later known made only }
    block_runs (Step binds c more) bound made locals known calls those only same k a =
        let ks = occurrences s.env (paths_in s) binds in
        let new = new_unanswered made ks known only k.1 in
        step_runs bound made binds c more locals known calls those (bind_all s.env u.meaning u.args (paths_in s) binds known calls) refl new
        (lets_run s u bound binds known [] calls those locals g same k.0 k.1.once new a)
        (λ later all behind after same' keeps agree. (
          control_runs c (bound_by bound binds) (made ++ ks) after later all behind (kept_only made ks known later only keeps) same' k.2 agree,
          λ last all' behind' same'' is. block_runs more (bound_by bound binds) (after_control (gives_several s) s.env (paths_in s) (made ++ ks) c) after last all' behind' is.only same'' k.3 (agree_later s u (bound_by bound binds) later last after is.grows agree),
        ))

    control_runs : (c : Control) (bound made : List ℕ) (locals : Env) (known : Known) (calls those : List Made) → KnowsOnly made known → AreSameCalls s.env those calls → IsReadyControl s bound made c → Agree s u bound known locals
        → Does s.env (kind_of s.term.kind) locals known (after_control (gives_several s) s.env (paths_in s) made c) (run_stmt u (control_stmt limit s bound c) locals (done [] those)) (control_run s.env u.meaning u.args (paths_in s) c known calls)
    control_runs (block.Match source (Arm (constraint.ConstBool val) places body NoArm)) bound made locals known calls those only same k a =
        let x = over_value s bound source (constraint.ConstBool val) k.1.0 (λ e. cc) k.1.1 k.1.2.0 in
        constant_does bound made source x.ty (constraint.ConstBool val) places body locals known calls those only same a x.ready x.is tt
        (block_runs body (bound_within bound places) made locals known calls those only same k.1.2.2 (within_agrees bound places known locals k.1.2.1 a))
    control_runs (block.Match source (Arm (constraint.ConstInt val of) places body NoArm)) bound made locals known calls those only same k a =
        let x = over_value s bound source (constraint.ConstInt val of) k.1.0 (λ e. cc) k.1.1 k.1.2.0 in
        constant_does bound made source x.ty (constraint.ConstInt val of) places body locals known calls those only same a x.ready x.is tt
        (block_runs body (bound_within bound places) made locals known calls those only same k.1.2.2 (within_agrees bound places known locals k.1.2.1 a))
    control_runs (block.Match source (Arm (constraint.ConstPrim val) places body NoArm)) bound made locals known calls those only same k a =
        let x = over_value s bound source (constraint.ConstPrim val) k.1.0 (λ e. cc) k.1.1 k.1.2.0 in
        constant_does bound made source x.ty (constraint.ConstPrim val) places body locals known calls those only same a x.ready x.is tt
        (block_runs body (bound_within bound places) made locals known calls those only same k.1.2.2 (within_agrees bound places known locals k.1.2.1 a))
    control_runs (block.Match source (Arm (constraint.Variant of variant) places body NoArm)) bound made locals known calls those only same k a =
        let x = over_value s bound source (constraint.Variant of variant) k.1.0 (λ e. cc) k.1.1 k.1.2.0 in
        form_does bound made source x.ty (constraint.Variant of variant) places body locals known calls those only same a x.ready x.is k.1.2.1 tt
        (λ inner agree. block_runs body (bound_within bound places) made inner known calls those only same k.1.2.2 agree)
    control_runs (block.Match source (Arm (constraint.Struct of) places body NoArm)) bound made locals known calls those only same k a =
        let x = over_value s bound source (constraint.Struct of) k.1.0 (λ e. cc) k.1.1 k.1.2.0 in
        form_does bound made source x.ty (constraint.Struct of) places body locals known calls those only same a x.ready x.is k.1.2.1 tt
        (λ inner agree. block_runs body (bound_within bound places) made inner known calls those only same k.1.2.2 agree)
    control_runs (block.Match source (Arm constraint.Some places body NoArm)) bound made locals known calls those only same k a =
        let x = over_option s bound source k.1.0 k.1.1 k.1.2.0 in
        some_does bound made source x.0 places body locals known calls those only same a x.1 k.1.2.1
        (λ inner agree. block_runs body (bound_within bound places) made inner known calls those only same k.1.2.2 agree)
    control_runs (block.Match source (Arm c places body (Arm d others inside arms))) bound made locals known calls those only same k a =
        let h = read_value u locals (match_read s bound source c) in
        let x = match_reads s u bound known locals source k.1.0 c g a k.1.1 k.1.2.0 in
        arms_run_so (Arm c places body (Arm d others inside arms)) bound made source k.1.0 h locals known calls those only same k.1.1 x k.1.2 a
    control_runs (block.Match source NoArm) bound made locals known calls those only same k a = absurd k.0
    control_runs (block.Equal x y body) bound made locals known calls those only same k a =
        let v = operand_reads s u bound known locals x k.0.0 g a k.0.1 in
        let w = operand_reads s u bound known locals y k.0.0 g a k.0.2 in
        let r = block_runs body bound made locals known calls those only same k.1 a in
        let after = after_block (gives_several s) s.env (paths_in s) made body in
        let f = run_stmt u (IfEq (written_operand s bound x) (written_operand s bound y) (block_body limit s bound body Done)) locals (done [] those) in
        let inner = block_run s.env u.meaning u.args (paths_in s) body known calls in
        subst (λ h. Does s.env (kind_of s.term.kind) locals known (made ++ after) f (cond (equal_held h (value_at s.env u.meaning u.args known (at (paths_in s) y))) inner (went.Goes known calls))) (sym v.block)
        (subst (λ h. Does s.env (kind_of s.term.kind) locals known (made ++ after) f (cond (equal_held (a_value v.v) h) inner (went.Goes known calls))) (sym w.block)
        (equal_does (written_operand s bound x) (written_operand s bound y) bound made after body locals known calls those v.r w.r _ v.run w.run (run_same s.env k.0.0 v.r w.r v.v w.v v.same w.same v.typed w.typed) only same r
        (on_right made after known inner r.goes)))
    control_runs (block.Loop result body) bound made locals known calls those only same k a = absurd (let bad : false ≡ true = sym few ∙ k.0.several in cc)
    control_runs (block.Return pos result) bound made locals known calls those only same k a =
        let v = written_reads s u bound known locals false result s.term.ret_ty g a k in
        record {
          runs = subst (λ h. EndsSo [] s.env (kind_of s.term.kind) (run_stmt u (result_stmt (kind_of s.term.kind) (written_read s bound false result)) locals (done [] those)) (record { result = result_of h; calls = calls })) (sym v.block)
              (return_does s.env u (kind_of s.term.kind) few (written_read s bound false result) v.r v.v locals calls those v.run v.same same);
          goes = tt;
        }

    -- several arms over what is read
    arms_run_so : (arms : Arms) (bound made : List ℕ) (source : BindingId) (over : Source) (h : Held) (locals : Env) (known : Known) (calls those : List Made) → KnowsOnly made known → AreSameCalls s.env those calls → IsReadyIn s bound source over
        → ReadsOver s.env over h (value_at s.env u.meaning u.args known (at (paths_in s) source)) → AreReadyArms s bound made source over arms → Agree s u bound known locals
        → Does s.env (kind_of s.term.kind) locals known (made ++ after_arms (gives_several s) s.env (paths_in s) made arms) (run_arms u (told_each (bare_manner limit) s bound arms) h locals (done [] those))
        (arms_run s.env u.meaning u.args (paths_in s) arms (value_at s.env u.meaning u.args known (at (paths_in s) source)) known calls)
    arms_run_so NoArm bound made source over h locals known calls those only same ready x k a = skip s.env (kind_of s.term.kind) locals known made [] _ (went.Goes known calls) calls those only same refl refl
    arms_run_so (Arm c places body arms) bound made source over h locals known calls those only same ready x k a =
        arm_does bound made places body (written_arm s.env c places) (meets s.env u.meaning c (value_at s.env u.meaning u.args known (at (paths_in s) source))) h locals known calls those (after_arms (gives_several s) s.env (paths_in s) made arms) _ _
        (fits_where_met s u bound known locals source over c places h g a ready x k.0 k.1) (λ inner agree. block_runs body (bound_within bound places) made inner known calls those only same k.2 agree)
        (arms_run_so arms bound made source over h locals known calls those only same ready x k.3 a)

-- ---- functions

-- a block whose last step is a Return ends
returns : (b : Block) (env : Environment) (m : Meaning) (args : List Value) (bs : List Binding) (known : Known) (made : List Made) → ends_in_return b ≡ true → (o : Prescription) × (block_run env m args (paths_of bs) b known made ≡ went.Ends o)
returns Stop env m args bs known made e = cc
returns (Step binds (block.Return pos result) Stop) env m args bs known made e = ended_by (bind_all env m args (paths_of bs) binds known made)
  where
    ended_by : (w : Went) → (o : Prescription) × (then_go (then_go w (control_run env m args (paths_of bs) (block.Return pos result))) (block_run env m args (paths_of bs) Stop) ≡ went.Ends o)
    ended_by (went.Goes later calls) = (_, refl)
    ended_by (went.Ends o) = (o, refl)
returns (Step binds (block.Match source arms) Stop) env m args bs known made e = cc
returns (Step binds (block.Equal x y body) Stop) env m args bs known made e = cc
returns (Step binds (block.Loop result body) Stop) env m args bs known made e = cc
returns (Step binds c (Step ds d more)) env m args bs known made e =
    ended_after (then_go (bind_all env m args (paths_of bs) binds known made) (control_run env m args (paths_of bs) c)) (block_run env m args (paths_of bs) (Step ds d more)) (λ known' made'. returns (Step ds d more) env m args bs known' made' e)
  where
    ended_after : (w : Went) (go : Known → List Made → Went) → ((known' : Known) (made' : List Made) → (o : Prescription) × (go known' made' ≡ went.Ends o)) → (o : Prescription) × (then_go w go ≡ went.Ends o)
    ended_after (went.Goes known' made') go h = h known' made'
    ended_after (went.Ends o) go h = (o, refl)

-- a run that ends is the same but for names
ran_same : (env : Environment) (kind : ReturnKind) (f : Flow) (o : Prescription) → EndsSo [] env kind f o → AreSameRuns env (ended kind f) (Some (ran_with o.calls (end_of kind o.result)))
ran_same env kind f o e =
    ap (λ x. option_map (λ (q : Ran). nameless_ran (impure_ran env q)) (ended kind x)) e.is ∙ ap (λ x. Some (record { end = x; calls = map nameless_made (impure_calls env e.those) })) e.same ∙ ap (λ x. Some (record { end = nameless_end (end_of kind o.result); calls = x })) e.calls

-- after a block that goes on stands the tail of its kind
tail_runs : (env : Environment) (u : Around) (kind : ReturnKind) → AnswersOnce kind → (x : Bool) (name place : List ℕ) (f : Body → Flow) (w : Went) → (x ≡ true → (o : Prescription) × (w ≡ went.Ends o)) → RunsSo env kind u f w
    → AreSameRuns env (ended kind (f (cond x Done (tail_body (mark_of kind name place))))) (Some (ran_with (gave kind w).calls (end_of kind (gave kind w).result)))
tail_runs env u kind once x name place f (went.Ends o) h r = ran_same env kind (f (cond x Done (tail_body (mark_of kind name place)))) o (r (cond x Done (tail_body (mark_of kind name place))))
tail_runs env u kind once true name place f (went.Goes known made) h r = let k = h refl in cc
tail_runs env u return_kind.Plain once false name place f (went.Goes known made) h r =
    ap (λ x. option_map (λ (q : Ran). nameless_ran (impure_ran env q)) (ended return_kind.Plain x)) (r.is (tail_body (mark_of return_kind.Plain name place))) ∙ ap (λ x. Some (record { end = IsUnreachable; calls = x })) r.same
tail_runs env u return_kind.Option once false name place f (went.Goes known made) h r =
    ap (λ x. option_map (λ (q : Ran). nameless_ran (impure_ran env q)) (ended return_kind.Option x)) (r.is (tail_body (mark_of return_kind.Option name place))) ∙ ap (λ x. Some (record { end = GivesNone; calls = x })) r.same
tail_runs env u return_kind.Iterator once false name place f (went.Goes known made) h r = absurd once

few_of : (kind : ReturnKind) → AnswersOnce kind → is_several kind ≡ false
few_of return_kind.Plain once = refl
few_of return_kind.Option once = refl
few_of return_kind.Iterator once = absurd once

-- the end that a kind has
pub ends_as : (kind : ReturnKind) → AnswersOnce kind → (r : Result) → ending kind r ≡ Some (end_of kind r)
ends_as return_kind.Plain once (Value' v) = refl
ends_as return_kind.Plain once Failure = refl
ends_as return_kind.Plain once Unmatched = refl
ends_as return_kind.Option once (Value' v) = refl
ends_as return_kind.Option once Failure = refl
ends_as return_kind.Option once Unmatched = refl
ends_as return_kind.Iterator once r = absurd once

-- the statements of a lawful block run as the block, in whatever function they stand and whatever its list of results holds at entry
pub written_flow : (options : CodegenOptions) (files : Files) (env : Environment) (t : Term) (bs : List Binding) (b : Block) → AnswersOnce (kind_of t.kind) → HasRustNames env → HasPureExtractors env bs → HasPureConstructors env → IsLawfulBlock (setting env t bs) b
    → (p : Program) (args : List Value) (m : Meaning) → HaveTypes env args t.arg_tys → AnswersBindings env m bs → ValuesConstants env m → (held : Option ℕ) (f : Function)
    → AreSameRuns env (ended (kind_of t.kind) (run_body (around p m args held f) (written_body options files env t bs b) [] nothing_done)) (ran_of t (block_outcome env m args (paths_of bs) b (kind_of t.kind)))
written_flow options files env t bs b once names pure pure_made h p args m k answers values held g =
    let kind = kind_of t.kind in
    let name = sym_text env t.name in
    let place = place_in files t.decl_pos in
    let s = setting env t bs in
    let u = around p m args held g in
    let grounds : Grounds s u = record { asks = refl; typed = k; answers = answers; constants = values; names = names; pure = pure; pure_made = pure_made } in
    let c = completed s [] b in
    let f : Body → Flow = λ end. run_body u (block_body options.max_returns s [] c end) [] (done [] []) in
    let r = block_runs options.max_returns s u grounds (few_of (kind_of t.kind) once) c [] [] [] nothing_known [] [] (λ j apart. refl) refl (completed_ready s b h) (none_agree s u nothing_known) in
    let outcome = block_outcome env m args (paths_of bs) b kind in
    tail_runs env u kind once (ends_in_return b) name place f (block_run env m args (paths_of bs) b nothing_known []) (λ x. returns b env m args bs nothing_known [] x) (subst (RunsSo env kind u f) (completed_runs s m args [] b nothing_known []) r.runs)
    ∙ ap (λ x. option_map nameless_ran (option_map (ran_with outcome.calls) x)) (sym (ends_as kind once outcome.result))

-- so a function of its kind whose statements run as these
pub written_runs : (options : CodegenOptions) (files : Files) (env : Environment) (t : Term) (bs : List Binding) (b : Block) → AnswersOnce (kind_of t.kind) → HasRustNames env → HasPureExtractors env bs → HasPureConstructors env → IsLawfulBlock (setting env t bs) b
    → (f : Function) → f.kind ≡ kind_of t.kind → ((w : Around) → run_body w f.body [] nothing_done ≡ run_body w (written_body options files env t bs b) [] nothing_done) → RunsAsBlock env t bs b f
written_runs options files env t bs b once names pure pure_made h f of alike p args m held e k answers values =
    let w = around p m args (Some held) f in
    ap (λ g. option_map (λ (q : Ran). nameless_ran (impure_ran env q)) (function_run p m held args g)) e
    ∙ ap (λ x. option_map (λ (q : Ran). nameless_ran (impure_ran env q)) (ended x (run_body w f.body [] nothing_done))) of
    ∙ ap (λ x. option_map (λ (q : Ran). nameless_ran (impure_ran env q)) (ended (kind_of t.kind) x)) (alike w)
    ∙ written_flow options files env t bs b once names pure pure_made h p args m k answers values (Some held) f
