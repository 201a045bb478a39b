-- The lets of a bind order do what binding does.
use Rattle.std.proofs.Common.{◌≡◌, ℕ, zero, suc, List, [], ◌∷◌, ◌++◌, Bool, Option, Some, None, refl, sym, ap, ◌∙◌, subst}
use Rattle.std.specs.Prelude.{slice_get}
use Rattle.std.proofs.lemmas.List.Elements.{Contains-append_left, Contains-append_right}
use Rattle.isle_core.specs.declared.BindingId.{BindingId}
use Rattle.isle_core.specs.declared.TermId.{TermId}
use Rattle.isle_core.specs.declared.rule_sets.Binding.{Binding}
use Rattle.isle_core.specs.declared.rule_sets.Binding.TheVariants as binding
use Rattle.isle_core.specs.Value.{Value, Made}
use Rattle.isle_core.specs.Meaning.{Meaning}
use Rattle.isle_core.specs.Calling.{Calling, ByTurns, ByCases, NoCall, calling, extracting, kind_of}
use Rattle.isle_core.specs.CalledTerms.{Extractor}
use Rattle.isle_core.specs.Making.{MakesVariant, MakesStruct}
use Rattle.isle_core.specs.Lawful.{RoleFits, AnswersFit}
use Rattle.isle_core.specs.Path.{MadeVariant, MadeStruct, at}
use Rattle.isle_core.specs.ValueAt.{Known}
use Rattle.isle_core.specs.CallRun as went
use Rattle.isle_core.specs.CallRun.{Went, then_go}
use Rattle.isle_core.specs.BlockRun.{bind_one, bind_all}
use Rattle.isle_core.specs.StandsFor.{EachOnce}
use Rattle.isle_core.specs.Bindable.{bound_by}
use Rattle.isle_core.specs.ExternalCall.{IsCall, IsExtraction}
use Rattle.isle_core.specs.Occurrences.{occurrence, occurrence_at, occurrences}
use Rattle.isle_core.specs.Rule.{Environment}
use Rattle.isle_core.specs.Setting.{Setting, paths_in}
use Rattle.isle_core.proofs.Contained.{head_contained}
use Rattle.isle_tree.specs.Program.{Body}
use Rattle.isle_tree.specs.Run.{Around, State, Env, bind, then_run, run_let, run_stmt, run_body}
use Rattle.isle_tree.specs.declared.tree.TExpr.{TExpr}
use Rattle.isle_simulation.specs.Emitted.{AnswersBindings}
use Rattle.isle_simulation.specs.References.{is_reference_in}
use Rattle.isle_simulation.specs.Statements.{callee_of, local_stmt, binds_list}
use Rattle.isle_simulation.proofs.LocalsAgree.{Agree, agree_later, bind_agrees}
use Rattle.isle_simulation.proofs.LocalStmts.{local_by}
use Rattle.isle_simulation.proofs.MadeBinds.{made_binds, variant_over, struct_over}
use Rattle.isle_simulation.proofs.NamelessLaws.{AreSameCalls}
use Rattle.isle_simulation.proofs.OneBind.{AreUnanswered, Keeps, keeps_all, once_parts, done, EndsSo, ends_on, ends_as_well, BindsOne, plain_binds, call_binds, case_binds, extractor_binds, inner_binds, part_binds}
use Rattle.isle_simulation.proofs.PathTypes.{tuple_many}
use Rattle.isle_simulation.proofs.PathValues.{Grounds}
use Rattle.isle_simulation.proofs.Ready.{IsReadyBind, AreReadyBinds}
use Rattle.isle_simulation.proofs.Written.{bound_expr, bound_stmt, lets}

-- ---- bindings in order

same_term : (x y : TermId) (ps qs : _) (j k : ℕ) → Some (binding.Constructor x ps j) ≡ Some (binding.Constructor y qs k) → x ≡ y
same_term x y ps qs j k e = cc

-- the call among bindings is answered
binding_answers : (env : Environment) (m : Meaning) (bs : List Binding) (i : ℕ) (term : TermId) (parameters : _) (k : ℕ) → AnswersBindings env m bs → slice_get bs i ≡ Some (binding.Constructor term parameters k) → AnswersFit env m term
binding_answers env m [] i term parameters k h e = cc
binding_answers env m (binding.Constructor x qs j ∷ bs) zero term parameters k h e = subst (AnswersFit env m) (same_term x term qs parameters j k e) h.0
binding_answers env m (b ∷ bs) zero term parameters k h e = cc
binding_answers env m (binding.Constructor x qs j ∷ bs) (suc i) term parameters k h e = binding_answers env m bs i term parameters k h.1 e
binding_answers env m (binding.ConstPrim val ∷ bs) (suc i) term parameters k h e = binding_answers env m bs i term parameters k h.1 e
binding_answers env m (binding.Extractor x q ∷ bs) (suc i) term parameters k h e = binding_answers env m bs i term parameters k h.1 e
binding_answers env m (b ∷ bs) (suc i) term parameters k h e = binding_answers env m bs i term parameters k h e

same_extractor : (x y : TermId) (p q : BindingId) → Some (binding.Extractor x p) ≡ Some (binding.Extractor y q) → x ≡ y
same_extractor x y p q e = cc

-- so is that of an extractor
extraction_answers : (env : Environment) (m : Meaning) (bs : List Binding) (i : ℕ) (term : TermId) (parameter : BindingId) → AnswersBindings env m bs → slice_get bs i ≡ Some (binding.Extractor term parameter) → RoleFits env m term Extractor
extraction_answers env m [] i term parameter h e = cc
extraction_answers env m (binding.Extractor x q ∷ bs) zero term parameter h e = subst (λ y. RoleFits env m y Extractor) (same_extractor x term q parameter e) h.0
extraction_answers env m (b ∷ bs) zero term parameter h e = cc
extraction_answers env m (binding.Constructor x qs j ∷ bs) (suc i) term parameter h e = extraction_answers env m bs i term parameter h.1 e
extraction_answers env m (binding.ConstPrim val ∷ bs) (suc i) term parameter h e = extraction_answers env m bs i term parameter h.1 e
extraction_answers env m (binding.Extractor x q ∷ bs) (suc i) term parameter h e = extraction_answers env m bs i term parameter h.1 e
extraction_answers env m (b ∷ bs) (suc i) term parameter h e = extraction_answers env m bs i term parameter h e

-- a binding that may be bound
bound_binds : (s : Setting) (u : Around) (bound : List ℕ) (b : BindingId) (o : Option Binding) (known : Known) (given : List Value) (made those : List Made) (locals : Env)
    → slice_get s.bindings b.0 ≡ o → Grounds s u → AreSameCalls s.env those made → Agree s u bound known locals → AreUnanswered known (occurrence_at s.env (at (paths_in s) b)) → IsReadyBind s bound (at (paths_in s) b) o
    → BindsOne s u given b.0 (at (paths_in s) b) known locals (run_let u b.0 (bound_expr s bound b o) locals (done given those)) (bind_one s.env u.meaning u.args (at (paths_in s) b) known made)
bound_binds s u bound b (Some (binding.Constructor term parameters k)) known given made those locals at_b g same a new is = one (calling s.env term) refl is.external
  where
    one : (c : Calling) → calling s.env term ≡ c → IsCall is.kind c → BindsOne s u given b.0 (at (paths_in s) b) known locals (run_let u b.0 (bound_expr s bound b (Some (binding.Constructor term parameters k))) locals (done given those)) (bind_one s.env u.meaning u.args (at (paths_in s) b) known made)
    one (ByTurns callee kind) c of =
        let none : known.answers k ≡ None = subst (AreUnanswered known) (ap (occurrence_at s.env) is.path ∙ ap (λ d. occurrence d k) c) new k (head_contained k []) in
        subst (λ x. BindsOne s u given b.0 x known locals (run_let u b.0 (bound_expr s bound b (Some (binding.Constructor term parameters k))) locals (done given those)) (bind_one s.env u.meaning u.args x known made)) (sym is.path)
        (call_binds s u bound b.0 term parameters k callee kind is.called known given made those locals g same a c is.found is.args (binding_answers s.env u.meaning s.bindings b.0 term parameters k g.answers at_b) none)
    one (ByCases callee kind) c of =
        subst (λ x. BindsOne s u given b.0 x known locals (run_let u b.0 (bound_expr s bound b (Some (binding.Constructor term parameters k))) locals (done given those)) (bind_one s.env u.meaning u.args x known made)) (sym is.path)
        (case_binds s u bound b.0 term parameters k callee kind is.called known given made those locals g same a c is.found is.args (binding_answers s.env u.meaning s.bindings b.0 term parameters k g.answers at_b))
    one NoCall c of = absurd of
bound_binds s u bound b (Some (binding.Extractor term parameter)) known given made those locals at_b g same a new is = one (extracting s.env term) refl is.external
  where
    one : (c : Calling) → extracting s.env term ≡ c → IsExtraction is.kind c → BindsOne s u given b.0 (at (paths_in s) b) known locals (run_let u b.0 (bound_expr s bound b (Some (binding.Extractor term parameter))) locals (done given those)) (bind_one s.env u.meaning u.args (at (paths_in s) b) known made)
    one (ByCases callee kind) c of =
        subst (λ x. BindsOne s u given b.0 x known locals (run_let u b.0 (bound_expr s bound b (Some (binding.Extractor term parameter))) locals (done given those)) (bind_one s.env u.meaning u.args x known made)) (sym is.path)
        (extractor_binds s u bound b.0 term parameter callee kind is.called known given made those locals g same a c is.found is.arg (extraction_answers s.env u.meaning s.bindings b.0 term parameter g.answers at_b) (g.pure b.0 term parameter callee at_b (ap callee_of c)))
    one (ByTurns callee kind) c of = absurd of
    one NoCall c of = absurd of
bound_binds s u bound b (Some (binding.MatchSome source)) known given made those locals at_b g same a new is =
    subst (λ x. BindsOne s u given b.0 x known locals (run_let u b.0 (bound_expr s bound b (Some (binding.MatchSome source))) locals (done given those)) (bind_one s.env u.meaning u.args x known made)) (sym is.path)
    (inner_binds s u bound b.0 source is.tys known given made those locals (is_reference_in s source) same a is.option is.bound' is.fits)
bound_binds s u bound b (Some (binding.MatchTuple source field)) known given made those locals at_b g same a new is =
    subst (λ x. BindsOne s u given b.0 x known locals (run_let u b.0 (bound_expr s bound b (Some (binding.MatchTuple source field))) locals (done given those)) (bind_one s.env u.meaning u.args x known made)) (sym is.path)
    (part_binds s u bound b.0 source field.0 is.tys is.ty known given made those locals same a is.tuple (tuple_many s.env s.term (at (paths_in s) source) is.tys is.tuple) is.there is.bound')
bound_binds s u bound b (Some (binding.Argument index)) known given made those locals at_b g same a new is = plain_binds s u b known given made those locals g same is
bound_binds s u bound b (Some (binding.ConstBool val ty)) known given made those locals at_b g same a new is = plain_binds s u b known given made those locals g same is
bound_binds s u bound b (Some (binding.ConstInt val ty)) known given made those locals at_b g same a new is = plain_binds s u b known given made those locals g same is
bound_binds s u bound b (Some (binding.ConstPrim val)) known given made those locals at_b g same a new is = plain_binds s u b known given made those locals g same is
bound_binds s u bound b (Some (binding.MakeVariant ty variant fields)) known given made those locals at_b g same a new is =
    made_binds s u bound b.0 (at (paths_in s) b) (MadeVariant ty variant) (MakesVariant ty variant) fields known given made those locals g same a (variant_over s u known made ty variant) is
bound_binds s u bound b (Some (binding.MakeStruct ty fields)) known given made those locals at_b g same a new is =
    made_binds s u bound b.0 (at (paths_in s) b) (MadeStruct ty) (MakesStruct ty) fields known given made those locals g same a (struct_over s u known made ty g) is
bound_binds s u bound b o known given made those locals at_b g same a new is = absurd is

-- the lets go on, with locals that agree
pub record LetsGo (s : Setting) (u : Around) (bound : List ℕ) (binds : List BindingId) (known : Known) (given : List Value) (those : List Made) (locals : Env) (later : Known) (calls : List Made) : Type 0 where
  pub after : Env
  pub behind : List Made
  pub runs : (more : Body) → run_body u (lets s bound binds more) locals (done given those) ≡ run_body u more after (done given behind)
  pub same : AreSameCalls s.env behind calls
  pub agree : Agree s u (bound_by bound binds) later after
  pub keeps : Keeps (occurrences s.env (paths_in s) binds) known later

-- the lets of bindings do what binding them does
abbrev pub LetsRun : Setting → Around → (bound : List ℕ) → (binds : List BindingId) → Known → (given : List Value) → (those : List Made) → Env → Went → Type 0
LetsRun s u bound binds known given those locals (went.Goes later calls) = LetsGo s u bound binds known given those locals later calls
LetsRun s u bound binds known given those locals (went.Ends o) = (more : Body) → EndsSo given s.env (kind_of s.term.kind) (run_body u (lets s bound binds more) locals (done given those)) o

-- a list is bound as anything else is
local_runs : (u : Around) (often : Bool) (n : ℕ) (e : TExpr) (locals : Env) (st : State) → run_stmt u (local_stmt often n e) locals st ≡ run_let u n e locals st
local_runs u often n e locals st = local_by (λ stmt. run_stmt u stmt locals st ≡ run_let u n e locals st) often n e refl (λ borrow call is. ap (λ x. run_let u n x locals st) (sym is))

-- one let before others
lets_then : (s : Setting) (u : Around) (bound : List ℕ) (b : BindingId) (binds : List BindingId) (known : Known) (given : List Value) (those : List Made) (locals : Env) (w : Went) (go : Known → List Made → Went)
    → Agree s u bound known locals → BindsOne s u given b.0 (at (paths_in s) b) known locals (run_stmt u (bound_stmt s bound b) locals (done given those)) w
    → ((later : Known) (calls behind : List Made) (after : Env) → AreSameCalls s.env behind calls → Keeps (occurrence_at s.env (at (paths_in s) b)) known later → Agree s u (bound ++ b.0 ∷ []) later after → LetsRun s u (bound ++ b.0 ∷ []) binds later given behind after (go later calls))
    → LetsRun s u bound (b ∷ binds) known given those locals (then_go w go)
lets_then s u bound b binds known given those locals (went.Ends o) go a is rest = λ more. ends_on given s.env (kind_of s.term.kind) (run_stmt u (bound_stmt s bound b) locals (done given those)) o (run_body u (lets s (bound ++ b.0 ∷ []) binds more)) is
lets_then s u bound b binds known given those locals (went.Goes later calls) go a is rest = one (go later calls) (rest later calls is.those (bind locals b.0 is.h) is.made is.keeps agree)
  where
    agree : Agree s u (bound ++ b.0 ∷ []) later (bind locals b.0 is.h)
    agree = bind_agrees s u bound later locals b is.h (agree_later s u bound known later locals is.grows a) is.stands

    first : (more : Body) → run_body u (lets s bound (b ∷ binds) more) locals (done given those) ≡ run_body u (lets s (bound ++ b.0 ∷ []) binds more) (bind locals b.0 is.h) (done given is.those)
    first more = ap (λ f. then_run f (run_body u (lets s (bound ++ b.0 ∷ []) binds more))) is.is

    here : List ℕ
    here = occurrence_at s.env (at (paths_in s) b)

    others : List ℕ
    others = occurrences s.env (paths_in s) binds

    one : (w : Went) → LetsRun s u (bound ++ b.0 ∷ []) binds later given is.those (bind locals b.0 is.h) w → LetsRun s u bound (b ∷ binds) known given those locals w
    one (went.Goes last all) h = record {
      after = h.after;
      behind = h.behind;
      runs = λ more. first more ∙ h.runs more;
      same = h.same;
      agree = h.agree;
      keeps = record { by = λ k not_k. h.keeps.by k (λ c. not_k (Contains-append_right here others k c)) ∙ is.keeps.by k (λ c. not_k (Contains-append_left here others k c)); choice = h.keeps.choice ∙ is.keeps.choice };
    }
    one (went.Ends o) h = λ more. ends_as_well given s.env (kind_of s.term.kind) _ (run_body u (lets s (bound ++ b.0 ∷ []) binds more) (bind locals b.0 is.h) (done given is.those)) o (first more) (h more)

pub lets_run : (s : Setting) (u : Around) (bound : List ℕ) (binds : List BindingId) (known : Known) (given : List Value) (made those : List Made) (locals : Env)
    → Grounds s u → AreSameCalls s.env those made → AreReadyBinds s bound binds → EachOnce (occurrences s.env (paths_in s) binds) → AreUnanswered known (occurrences s.env (paths_in s) binds) → Agree s u bound known locals
    → LetsRun s u bound binds known given those locals (bind_all s.env u.meaning u.args (paths_in s) binds known made)
lets_run s u bound [] known given made those locals g same is once new a = record { after = locals; behind = those; runs = λ more. refl; same = same; agree = a; keeps = keeps_all [] known }
lets_run s u bound (b ∷ binds) known given made those locals g same is once new a =
    let p = at (paths_in s) b in
    let here = occurrence_at s.env p in
    let others = occurrences s.env (paths_in s) binds in
    let parts = once_parts here others once in
    lets_then s u bound b binds known given those locals (bind_one s.env u.meaning u.args p known made) (bind_all s.env u.meaning u.args (paths_in s) binds) a
    (subst (λ f. BindsOne s u given b.0 p known locals f (bind_one s.env u.meaning u.args p known made)) (sym (local_runs u (binds_list s b) b.0 (bound_expr s bound b (slice_get s.bindings b.0)) locals (done given those)))
    (bound_binds s u bound b (slice_get s.bindings b.0) known given made those locals refl g same a (λ k c. new k (Contains-append_left here others k c)) is.0))
    (λ later calls behind after same' keeps agree. lets_run s u (bound ++ b.0 ∷ []) binds later given calls behind after g same' is.1 parts.0
    (λ k c. keeps.by k (λ d. parts.1 k d c) ∙ new k (Contains-append_right here others k c)) agree)
