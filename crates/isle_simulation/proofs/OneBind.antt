-- The let of a binding does what binding it does.
use Rattle.std.proofs.Common.{◌≡◌, ◌⊎◌, inl, inr, ℕ, List, [], ◌∷◌, ◌++◌, map, Bool, true, false, cond, eqb, Option, Some, None, refl, sym, ap, ◌∙◌, subst}
use Rattle.std.specs.Prelude.{Contains, option_map, slice_get}
use Rattle.std.proofs.lemmas.Bool.{eq-eqb, eqb-true}
use Rattle.std.proofs.lemmas.List.Elements.{Contains-append_right}
use Rattle.isle_core.specs.declared.types.ReturnKind.{ReturnKind}
use Rattle.isle_core.specs.declared.types.ReturnKind.TheVariants as return_kind
use Rattle.isle_core.specs.declared.BindingId.{BindingId}
use Rattle.isle_core.specs.declared.TermId.{TermId}
use Rattle.isle_core.specs.declared.TypeId.{TypeId}
use Rattle.isle_core.specs.declared.types.Term.{Term}
use Rattle.isle_core.specs.declared.values.Callee.{Callee}
use Rattle.isle_core.specs.Value.{Value, Answer, Made, End, GivesNone}
use Rattle.isle_core.specs.Meaning.{turn, case}
use Rattle.isle_core.specs.Answered.{answer_held, item_of}
use Rattle.isle_core.specs.CalledTerms.{Extractor}
use Rattle.isle_core.specs.Calling.{ByTurns, ByCases, calling, extracting, kind_of, may_be_nothing}
use Rattle.isle_core.specs.Match.{with}
use Rattle.isle_core.specs.Nameless.{nameless, nameless_made, nameless_end}
use Rattle.isle_core.specs.Outcome.{Failure, Prescription}
use Rattle.isle_core.specs.HasType.{HasType, HaveTypes}
use Rattle.isle_core.specs.Lawful.{RoleFits, AnswersFit}
use Rattle.isle_core.specs.Path.{Path, Paths, Arg, ConstBool, ConstInt, ConstPrim, Extracted, Called, Inner, Part, at, at_all}
use Rattle.isle_core.specs.ValueAt.{Held, Absent, One, Optional, Listed, Known, answered_too, a_value, call_held, case_held, extracted_held, held as held_value, inner_held, part_held, value_at, values_at}
use Rattle.isle_core.specs.CallRun as went
use Rattle.isle_core.specs.CallRun.{Went, unless_nothing}
use Rattle.isle_core.specs.BlockRun.{bind_one}
use Rattle.isle_core.specs.StandsFor.{EachOnce}
use Rattle.isle_core.specs.Bindable.{IsPlain}
use Rattle.isle_core.specs.Occurrences.{occurrence, occurrence_at}
use Rattle.isle_core.specs.PathType.{AreTuple, IsPathOf, IsTupleOf, IsOptionOf, IsListOf}
use Rattle.isle_core.specs.Readable.{IsInPlace}
use Rattle.isle_core.specs.Rule.{Environment}
use Rattle.isle_core.specs.Setting.{Setting, paths_in}
use Rattle.isle_core.specs.Terms.{is_impure}
use Rattle.isle_core.proofs.Contained.{head_contained, contained_cases, none_contained}
use Rattle.isle_core.proofs.AnsweredByTurn.{turn_is, turn_held, turn_typed}
use Rattle.isle_tree.specs.declared.tree.Read.TheVariants as read
use Rattle.isle_tree.specs.declared.tree.TExpr.{TExpr}
use Rattle.isle_tree.specs.declared.tree.TExpr.TheVariants as expr
use Rattle.isle_tree.specs.Run.{Around, State, Env, Flow, bind, value_of, read_values, Goes, Ends, then_run, run_bind, run_call, run_called, run_try, part_of, run_part, run_let}
use Rattle.isle_simulation.proofs.AnsweredByCase.{constructor_answers, extractor_answers}
use Rattle.isle_simulation.proofs.HeldAnswers.{kind_there, held_kind, results_there, held_case, held_extracted}
use Rattle.isle_simulation.proofs.BoundTests.{found}
use Rattle.isle_core.proofs.HeldStays.{IsThere, Grows}
use Rattle.isle_simulation.proofs.LocalsAgree.{Stands, Agree, option_reads, tuple_reads, operands_read}
use Rattle.isle_simulation.proofs.NamelessLaws.{AreSameCalls, turn_like, impure_push, pure_push, turned_impure}
use Rattle.isle_simulation.proofs.PathTypes.{one_type, one_within}
use Rattle.isle_simulation.proofs.PathValues.{Grounds, IsValueAt, constant_valued, path_reads}
use Rattle.isle_simulation.proofs.Ready.{IsSpelled, IsReady, AreReady}
use Rattle.isle_simulation.proofs.ResultsAt.{AreResultsAt, value_of_one, are_tuples, part_is}
use Rattle.isle_simulation.proofs.Written.{written_operand, written_place, callee_of, reads, call_expr, extraction_expr, end_of}

-- ---- occurrences

-- none of these was answered
abbrev pub AreUnanswered : Known → List ℕ → Type 0
AreUnanswered known ks = (k : ℕ) → Contains ks k → known.answers k ≡ None

-- all others stay as they are, and the items that are chosen
pub record Keeps (ks : List ℕ) (known later : Known) : Type 0 where
  pub by : (k : ℕ) → (Contains ks k → ⊥) → later.answers k ≡ known.answers k
  pub choice : later.choice ≡ known.choice

pub keeps_all : (ks : List ℕ) (known : Known) → Keeps ks known known
keeps_all ks known = record { by = λ k c. refl; choice = refl }

-- two parts of a list without repeats
pub once_parts : (xs ys : List ℕ) → EachOnce (xs ++ ys) → EachOnce ys × ((k : ℕ) → Contains xs k → Contains ys k → ⊥)
once_parts [] ys once = (once, λ k c d. none_contained k c)
once_parts (x ∷ xs) ys once =
    let rest = once_parts xs ys once.1 in
    (rest.0, λ k c d. apart k d (contained_cases x xs k c) rest.1)
  where
    apart : (k : ℕ) → Contains ys k → (x ≡ k) ⊎ Contains xs k → ((j : ℕ) → Contains xs j → Contains ys j → ⊥) → ⊥
    apart k d (inl same) others = once.0 (Contains-append_right xs ys x (subst (Contains ys) (sym same) d))
    apart k d (inr c) others = others k c d

-- ---- one binding

-- these results were given, and these calls made
abbrev pub done : List Value → List Made → State
done given made = record { made = made; given = given }

-- a flow ends as a run with this outcome
pub record EndsSo (given : List Value) (env : Environment) (kind : ReturnKind) (f : Flow) (o : Prescription) : Type 0 where
  pub end : End
  pub those : List Made
  pub is : f ≡ Ends end (done given those)
  pub same : nameless_end end ≡ nameless_end (end_of kind o.result)
  pub calls : AreSameCalls env those o.calls

-- what follows an end is never reached
pub ends_on : (given : List Value) (env : Environment) (kind : ReturnKind) (f : Flow) (o : Prescription) (go : Env → State → Flow) → EndsSo given env kind f o → EndsSo given env kind (then_run f go) o
ends_on given env kind f o go e = record { end = e.end; those = e.those; is = ap (λ x. then_run x go) e.is; same = e.same; calls = e.calls }

pub ends_as_well : (given : List Value) (env : Environment) (kind : ReturnKind) (f g : Flow) (o : Prescription) → f ≡ g → EndsSo given env kind g o → EndsSo given env kind f o
ends_as_well given env kind f g o is e = record { end = e.end; those = e.those; is = is ∙ e.is; same = e.same; calls = e.calls }

-- a let goes on with its local, which holds what stands at the path
pub record GoesSo (s : Setting) (u : Around) (given : List Value) (n : ℕ) (p : Path) (known : Known) (locals : Env) (f : Flow) (later : Known) (calls : List Made) : Type 0 where
  pub h : Held
  pub those : List Made
  pub is : f ≡ Goes (bind locals n h) (done given those)
  pub made : AreSameCalls s.env those calls
  pub stands : Stands s.env s.term p h (value_at s.env u.meaning u.args later p)
  pub grows : Grows known later
  pub keeps : Keeps (occurrence_at s.env p) known later

-- the let of a binding does what binding it does
abbrev pub BindsOne : Setting → Around → (given : List Value) → (n : ℕ) → Path → Known → Env → Flow → Went → Type 0
BindsOne s u given n p known locals f (went.Goes later calls) = GoesSo s u given n p known locals f later calls
BindsOne s u given n p known locals f (went.Ends o) = EndsSo given s.env (kind_of s.term.kind) f o

pub same_known : (known : Known) → Grows known known
same_known known = record { by = λ k a e. e; choice = refl }

-- an argument or a constant
plain_run : (env : Environment) (u : Around) (p : Path) (known : Known) (made : List Made) → IsInPlace p → bind_one env u.meaning u.args p known made ≡ went.Goes known made
plain_run env u (Arg i) known made h = refl
plain_run env u (ConstBool ty b) known made h = refl
plain_run env u (ConstInt ty n) known made h = refl
plain_run env u (ConstPrim name) known made h = refl
plain_run env u p known made h = absurd h

pub no_option : (env : Environment) (t : Term) (p : Path) (tys : List TypeId) → IsInPlace p → IsOptionOf env t p tys → ⊥
no_option env t (Arg i) tys h k = k
no_option env t (ConstBool of b) tys h k = k
no_option env t (ConstInt of n) tys h k = k
no_option env t (ConstPrim name) tys h k = k
no_option env t p tys h k = absurd h

pub no_tuple : (env : Environment) (t : Term) (p : Path) (tys : List TypeId) → IsInPlace p → IsTupleOf env t p tys → ⊥
no_tuple env t (Arg i) tys h k = k
no_tuple env t (ConstBool of b) tys h k = k
no_tuple env t (ConstInt of n) tys h k = k
no_tuple env t (ConstPrim name) tys h k = k
no_tuple env t p tys h k = absurd h

pub no_list : (env : Environment) (t : Term) (p : Path) (tys : List TypeId) → IsInPlace p → IsListOf env t p tys → ⊥
no_list env t (Arg i) tys h k = k
no_list env t (ConstBool of b) tys h k = k
no_list env t (ConstInt of n) tys h k = k
no_list env t (ConstPrim name) tys h k = k
no_list env t p tys h k = absurd h

pub spelled : (p : Path) → IsInPlace p → IsSpelled p
spelled (Arg i) h = tt
spelled (ConstBool ty b) h = tt
spelled (ConstInt ty n) h = tt
spelled (ConstPrim name) h = tt
spelled p h = absurd h

no_occurrence : (env : Environment) (p : Path) (known : Known) → Keeps (occurrence_at env p) known known
no_occurrence env p known = keeps_all (occurrence_at env p) known

-- a path has one type, so its value is of each
of_types : (env : Environment) (t : Term) (p : Path) (h g : Held) (ty : TypeId) → IsPathOf env t p ty → (x : IsValueAt env h g ty) → (of : TypeId) → IsPathOf env t p of → IsValueAt env (a_value x.r) g of
of_types env t p h g ty k x of l = record { v = x.v; r = x.r; run = refl; block = x.block; same = x.same; typed = subst (HasType env x.v) (one_type env t p ty of k l) x.typed }

pub plain_binds : (s : Setting) (u : Around) (b : BindingId) (known : Known) (given : List Value) (made those : List Made) (locals : Env) → Grounds s u → AreSameCalls s.env those made → IsPlain s.env s.term (at (paths_in s) b)
    → BindsOne s u given b.0 (at (paths_in s) b) known locals (run_let u b.0 (expr.Read (read.Plain (written_place s b))) locals (done given those)) (bind_one s.env u.meaning u.args (at (paths_in s) b) known made)
plain_binds s u b known given made those locals g same k =
    let p = at (paths_in s) b in
    let x = path_reads s.env u s.term b.0 p k.1.0 known locals g.typed g.names g.constants (constant_valued s.env u.meaning s.bindings b g.answers) k.1.1 (spelled p k.0) in
    subst (BindsOne s u given b.0 p known locals (run_let u b.0 (expr.Read (read.Plain (written_place s b))) locals (done given those))) (sym (plain_run s.env u p known made k.0)) (record {
      h = a_value x.r;
      those = those;
      is = ap (λ y. run_bind b.0 y locals (done given those)) x.run;
      made = same;
      stands = record { value = λ ty of. of_types s.env s.term p (value_of u locals (written_place s b)) (value_at s.env u.meaning u.args known p) k.1.0 k.1.1 x ty of; tuple = λ tys of. absurd (no_tuple s.env s.term p tys k.0 of); option = λ tys of. absurd (no_option s.env s.term p tys k.0 of); list = λ tys of. absurd (no_list s.env s.term p tys k.0 of) };
      grows = same_known known;
      keeps = no_occurrence s.env p known;
    })

-- ---- a call

with_here : (known : Known) (k : ℕ) (a : Answer) → with known.answers k a k ≡ Some a
with_here known k a = ap (λ b. cond b (Some a) (known.answers k)) (eq-eqb k k refl)

with_else : (known : Known) (k j : ℕ) (a : Answer) → (k ≡ j → ⊥) → with known.answers k a j ≡ known.answers j
with_else known k j a ne = one (eqb k j) refl
  where
    one : (b : Bool) → eqb k j ≡ b → cond b (Some a) (known.answers j) ≡ known.answers j
    one true e = absurd (ne (eqb-true k j e))
    one false e = refl

with_grows : (known : Known) (k : ℕ) (a : Answer) → known.answers k ≡ None → Grows known (answered_too known k a)
with_grows known k a new = record { by = λ j c e. with_else known k j a (λ (same : k ≡ j). let bad : None ≡ Some c = sym new ∙ ap known.answers same ∙ e in cc) ∙ e; choice = refl }

with_keeps : (known : Known) (k : ℕ) (a : Answer) → Keeps (k ∷ []) known (answered_too known k a)
with_keeps known k a = record { by = λ j not_k. with_else known k j a (λ (same : k ≡ j). not_k (subst (Contains (k ∷ [])) same (head_contained k []))); choice = refl }

bind_there : (n : ℕ) (h : Held) (locals : Env) (s : State) → IsThere h → run_bind n h locals s ≡ Goes (bind locals n h) s
bind_there n Absent locals s t = absurd t
bind_there n (One i) locals s t = refl
bind_there n (Optional o) locals s t = refl
bind_there n (Listed is) locals s t = refl

-- a call whose occurrence is new takes its turn
call_run : (env : Environment) (u : Around) (term : TermId) (ps : Paths) (k : ℕ) (callee : Callee) (kind : ReturnKind) (vs : List Value) (known : Known) (made : List Made) → calling env term ≡ ByTurns callee kind → known.answers k ≡ None → values_at env u.meaning u.args known ps ≡ Some vs
    → bind_one env u.meaning u.args (Called term ps k) known made ≡ went.Goes (answered_too known k (turn u.meaning callee made)) (made ++ record { callee = callee; args = vs } ∷ [])
call_run env u term ps k callee kind vs known made c new held = rw (c, new, held) refl

same_args : (callee : Callee) (rs vs : List Value) → map nameless rs ≡ map nameless vs → nameless_made (record { callee = callee; args = rs }) ≡ nameless_made (record { callee = callee; args = vs })
same_args callee rs vs e = ap (λ xs. record { callee = callee; args = xs }) e

pub call_binds : (s : Setting) (u : Around) (bound : List ℕ) (n : ℕ) (term : TermId) (parameters : List BindingId) (k : ℕ) (callee : Callee) (kind : ReturnKind) (called : Term) (known : Known) (given : List Value) (made those : List Made) (locals : Env)
    → Grounds s u → AreSameCalls s.env those made → Agree s u bound known locals → calling s.env term ≡ ByTurns callee kind → slice_get s.env.terms term.0 ≡ Some called → AreReady s bound parameters called.arg_tys → AnswersFit s.env u.meaning term → known.answers k ≡ None
    → BindsOne s u given n (Called term (at_all (paths_in s) parameters) k) known locals (run_let u n (call_expr s bound (slice_get s.env.terms term.0) (callee_of (calling s.env term)) parameters) locals (done given those)) (bind_one s.env u.meaning u.args (Called term (at_all (paths_in s) parameters) k) known made)
call_binds s u bound n term parameters k callee kind called known given made those locals g same a c found' r fit new =
    let l = operands_read s u bound known locals called.arg_tys parameters g a r in
    let ps = at_all (paths_in s) parameters in
    let answered = answer_held (turn u.meaning callee made) in
    let later = answered_too known k (turn u.meaning callee made) in
    let is = turn_held s.env u.meaning term callee kind fit c made in
    let held : value_at s.env u.meaning u.args later (Called term ps k) ≡ answered = rw (c, with_here known k (turn u.meaning callee made)) refl in
    let impure = turned_impure s.env term callee kind c in
    let here : List Made = those ++ record { callee = callee; args = l.rs } ∷ [] in
    subst (BindsOne s u given n (Called term ps k) known locals (run_let u n (call_expr s bound (slice_get s.env.terms term.0) (callee_of (calling s.env term)) parameters) locals (done given those))) (sym (call_run s.env u term ps k callee kind l.vs known made c new l.block)) (record {
      h = answered;
      those = here;
      is =
          ap (λ o. run_let u n (call_expr s bound o (callee_of (calling s.env term)) parameters) locals (done given those)) found'
          ∙ ap (λ d. run_call u n (callee_of d) (read_values u locals (reads s bound called.arg_tys parameters)) locals (done given those)) c
          ∙ ap (λ vs. run_call u n callee vs locals (done given those)) l.run
          ∙ ap (λ k. run_called n (k callee l.rs those) locals (done given those)) g.asks
          ∙ ap (λ x. run_bind n (answer_held x) locals (done given here)) (turn_is s.env u.meaning term callee kind fit c l.rs those ∙ turn_like s.env u.meaning callee those made impure same)
          ∙ bind_there n answered locals (done given here) (kind_there kind answered is);
      made = impure_push s.env those made (record { callee = callee; args = l.rs }) (record { callee = callee; args = l.vs }) impure same (same_args callee l.rs l.vs l.same);
      stands = held_kind kind answered (value_at s.env u.meaning u.args later (Called term ps k)) held is s.env s.term term callee c (turn_typed s.env u.meaning term callee kind fit c made) ps k;
      grows = with_grows known k (turn u.meaning callee made) new;
      keeps = subst (λ d. Keeps (occurrence d k) known later) (sym c) (with_keeps known k (turn u.meaning callee made));
    })

-- ---- a call of a pure term

-- nothing is made by such a call
case_run : (env : Environment) (u : Around) (term : TermId) (ps : Paths) (k : ℕ) (callee : Callee) (kind : ReturnKind) (known : Known) (made : List Made) → calling env term ≡ ByCases callee kind
    → bind_one env u.meaning u.args (Called term ps k) known made ≡ went.Goes known made
case_run env u term ps k callee kind known made c = rw c refl

pub case_binds : (s : Setting) (u : Around) (bound : List ℕ) (n : ℕ) (term : TermId) (parameters : List BindingId) (k : ℕ) (callee : Callee) (kind : ReturnKind) (called : Term) (known : Known) (given : List Value) (made those : List Made) (locals : Env)
    → Grounds s u → AreSameCalls s.env those made → Agree s u bound known locals → calling s.env term ≡ ByCases callee kind → slice_get s.env.terms term.0 ≡ Some called
    → AreReady s bound parameters called.arg_tys → AnswersFit s.env u.meaning term
    → BindsOne s u given n (Called term (at_all (paths_in s) parameters) k) known locals (run_let u n (call_expr s bound (slice_get s.env.terms term.0) (callee_of (calling s.env term)) parameters) locals (done given those)) (bind_one s.env u.meaning u.args (Called term (at_all (paths_in s) parameters) k) known made)
case_binds s u bound n term parameters k callee kind called known given made those locals g same a c found' r fit =
    let l = operands_read s u bound known locals called.arg_tys parameters g a r in
    let ps = at_all (paths_in s) parameters in
    let x = constructor_answers s.env u.meaning term callee kind called fit c found' in
    let answered = answer_held (case u.meaning callee l.vs) in
    let held : value_at s.env u.meaning u.args known (Called term ps k) ≡ answered = ap (λ d. call_held u.meaning d (known.answers k) (values_at s.env u.meaning u.args known ps)) c ∙ ap (case_held u.meaning (ByCases callee kind)) l.block in
    let here : List Made = those ++ record { callee = callee; args = l.rs } ∷ [] in
    subst (BindsOne s u given n (Called term ps k) known locals (run_let u n (call_expr s bound (slice_get s.env.terms term.0) (callee_of (calling s.env term)) parameters) locals (done given those))) (sym (case_run s.env u term ps k callee kind known made c)) (record {
      h = answered;
      those = here;
      is =
          ap (λ o. run_let u n (call_expr s bound o (callee_of (calling s.env term)) parameters) locals (done given those)) found'
          ∙ ap (λ d. run_call u n (callee_of d) (read_values u locals (reads s bound called.arg_tys parameters)) locals (done given those)) c
          ∙ ap (λ vs. run_call u n callee vs locals (done given those)) l.run
          ∙ ap (λ k. run_called n (k callee l.rs those) locals (done given those)) g.asks
          ∙ ap (λ y. run_bind n (answer_held y) locals (done given here)) (x.is l.rs l.vs those l.same)
          ∙ bind_there n answered locals (done given here) (results_there s.env kind (called.ret_ty ∷ []) answered (x.holds l.vs));
      made = pure_push s.env those made (record { callee = callee; args = l.rs }) (g.pure_made term callee kind c) same;
      stands = held_case kind answered (value_at s.env u.meaning u.args known (Called term ps k)) held s.env s.term term callee called c found' (x.holds l.vs) ps k;
      grows = same_known known;
      keeps = keeps_all _ known;
    })

-- ---- a call of an extractor

pub extractor_binds : (s : Setting) (u : Around) (bound : List ℕ) (n : ℕ) (term : TermId) (parameter : BindingId) (callee : Callee) (kind : ReturnKind) (called : Term) (known : Known) (given : List Value) (made those : List Made) (locals : Env)
    → Grounds s u → AreSameCalls s.env those made → Agree s u bound known locals → extracting s.env term ≡ ByCases callee kind → slice_get s.env.terms term.0 ≡ Some called → IsReady s bound parameter called.ret_ty
    → RoleFits s.env u.meaning term Extractor → is_impure s.env callee ≡ false
    → BindsOne s u given n (Extracted term (at (paths_in s) parameter)) known locals (run_let u n (extraction_expr s bound (slice_get s.env.terms term.0) (callee_of (extracting s.env term)) parameter) locals (done given those)) (bind_one s.env u.meaning u.args (Extracted term (at (paths_in s) parameter)) known made)
extractor_binds s u bound n term parameter callee kind called known given made those locals g same a c found' r fit pure =
    let l = operands_read s u bound known locals (called.ret_ty ∷ []) (parameter ∷ []) g a (r, tt) in
    let p = at (paths_in s) parameter in
    let x = extractor_answers s.env u.meaning term callee kind called fit c found' in
    let answered = answer_held (case u.meaning callee l.vs) in
    let held : value_at s.env u.meaning u.args known (Extracted term p) ≡ answered = ap (λ d. extracted_held u.meaning d (value_at s.env u.meaning u.args known p)) c ∙ ap (case_held u.meaning (ByCases callee kind)) l.block in
    let here : List Made = those ++ record { callee = callee; args = l.rs } ∷ [] in
    record {
      h = answered;
      those = here;
      is =
          ap (λ o. run_let u n (extraction_expr s bound o (callee_of (extracting s.env term)) parameter) locals (done given those)) found'
          ∙ ap (λ d. run_call u n (callee_of d) (read_values u locals (reads s bound (called.ret_ty ∷ []) (parameter ∷ []))) locals (done given those)) c
          ∙ ap (λ vs. run_call u n callee vs locals (done given those)) l.run
          ∙ ap (λ k. run_called n (k callee l.rs those) locals (done given those)) g.asks
          ∙ ap (λ y. run_bind n (answer_held y) locals (done given here)) (x.is l.rs l.vs those l.same)
          ∙ bind_there n answered locals (done given here) (results_there s.env kind called.arg_tys answered (x.holds l.vs));
      made = pure_push s.env those made (record { callee = callee; args = l.rs }) pure same;
      stands = held_extracted kind answered (value_at s.env u.meaning u.args known (Extracted term p)) held s.env s.term term callee called c found' (x.holds l.vs) p;
      grows = same_known known;
      keeps = keeps_all _ known;
    }

-- ---- an inner value

-- a failure of a term that may answer nothing
nothing_ends : (kind : ReturnKind) → may_be_nothing kind ≡ true → end_of kind Failure ≡ GivesNone
nothing_ends return_kind.Plain e = refl
nothing_ends return_kind.Option e = refl
nothing_ends return_kind.Iterator e = refl

both_options : (q o : Option (List Value)) → option_map (map nameless) q ≡ option_map (map nameless) o → (P : Option (List Value) → Option (List Value) → Type 0) → P None None → ((rs vs : List Value) → map nameless rs ≡ map nameless vs → P (Some rs) (Some vs)) → P q o
both_options None None e P n h = n
both_options (Some rs) (Some vs) e P n h = h rs vs cc
both_options None (Some vs) e P n h = cc
both_options (Some rs) None e P n h = cc

-- what is within an option of results stands for its inner value
pub within_stands : (env : Environment) (t : Term) (p : Path) (tys : List TypeId) (vs rs : List Value) (g : Held) → IsOptionOf env t p tys → map nameless rs ≡ map nameless vs → HaveTypes env vs tys → g ≡ One (item_of vs) → Stands env t (Inner p) (One (item_of rs)) g
within_stands env t p tys vs rs g of same typed there = record {
  value = λ ty k. value_of_one env (One (item_of rs)) g ty (results (ty ∷ []) k);
  tuple = λ tys' k. results tys' k.1;
  option = λ tys' k. absurd k;
  list = λ tys' k. absurd k;
}
  where
    results : (tys' : List TypeId) → IsOptionOf env t p tys' → AreResultsAt env (One (item_of rs)) g tys'
    results tys' k = record { vs = vs; rs = rs; run = refl; block = there; same = same; typed = subst (HaveTypes env vs) (one_within env t p tys tys' of k) typed }

pub inner_binds : (s : Setting) (u : Around) (bound : List ℕ) (n : ℕ) (source : BindingId) (tys : List TypeId) (known : Known) (given : List Value) (made those : List Made) (locals : Env) (as_ref : Bool)
    → AreSameCalls s.env those made → Agree s u bound known locals → IsOptionOf s.env s.term (at (paths_in s) source) tys → Contains bound source.0 → may_be_nothing (kind_of s.term.kind) ≡ true
    → BindsOne s u given n (Inner (at (paths_in s) source)) known locals (run_let u n (expr.Try (written_operand s bound source) as_ref) locals (done given those)) (bind_one s.env u.meaning u.args (Inner (at (paths_in s) source)) known made)
inner_binds s u bound n source tys known given made those locals as_ref same a of c fits =
    let x = option_reads s u bound known locals source tys a (found bound source.0 c) of in
    both_options x.q x.o x.same (λ q o. Held' o → Place q → ((vs : List Value) → o ≡ Some vs → HaveTypes s.env vs tys) → BindsOne s u given n (Inner path) known locals (run_let u n e locals (done given those)) (bind_one s.env u.meaning u.args (Inner path) known made))
    (λ held place typed. none held place) (λ rs vs like held place typed. some rs vs like held place (typed vs refl)) x.block x.run x.typed
  where
    path : Path
    path = at (paths_in s) source

    e : TExpr
    e = expr.Try (written_operand s bound source) as_ref

    Held' : Option (List Value) → Type 0
    Held' o = value_at s.env u.meaning u.args known path ≡ Optional (option_map item_of o)

    Place : Option (List Value) → Type 0
    Place q = value_of u locals (written_operand s bound source) ≡ Optional (option_map item_of q)

    none : Held' None → Place None → BindsOne s u given n (Inner path) known locals (run_let u n e locals (done given those)) (bind_one s.env u.meaning u.args (Inner path) known made)
    none held place =
        subst (BindsOne s u given n (Inner path) known locals (run_let u n e locals (done given those))) (sym (ap (λ h. unless_nothing h known made) held)) (record {
          end = GivesNone;
          those = those;
          is = ap (λ h. run_try n h locals (done given those)) place;
          same = ap nameless_end (sym (nothing_ends (kind_of s.term.kind) fits));
          calls = same;
        })

    some : (rs vs : List Value) → map nameless rs ≡ map nameless vs → Held' (Some vs) → Place (Some rs) → HaveTypes s.env vs tys
        → BindsOne s u given n (Inner path) known locals (run_let u n e locals (done given those)) (bind_one s.env u.meaning u.args (Inner path) known made)
    some rs vs like held place typed =
        subst (BindsOne s u given n (Inner path) known locals (run_let u n e locals (done given those))) (sym (ap (λ h. unless_nothing h known made) held)) (record {
          h = One (item_of rs);
          those = those;
          is = ap (λ h. run_try n h locals (done given those)) place;
          made = same;
          stands = within_stands s.env s.term path tys vs rs (value_at s.env u.meaning u.args known (Inner path)) of like typed (ap inner_held held);
          grows = same_known known;
          keeps = keeps_all _ known;
        })

-- ---- a part of a tuple

-- a part has one type
part_types : (env : Environment) (t : Term) (p : Path) (part : ℕ) (ty of : TypeId) → IsPathOf env t (Part part p) ty → IsPathOf env t (Part part p) of → ty ≡ of
part_types env t p part ty of h k = one_type env t (Part part p) ty of h k

pub part_binds : (s : Setting) (u : Around) (bound : List ℕ) (n : ℕ) (source : BindingId) (part : ℕ) (tys : List TypeId) (ty : TypeId) (known : Known) (given : List Value) (made those : List Made) (locals : Env)
    → AreSameCalls s.env those made → Agree s u bound known locals → IsTupleOf s.env s.term (at (paths_in s) source) tys → AreTuple tys → slice_get tys part ≡ Some ty → Contains bound source.0
    → BindsOne s u given n (Part part (at (paths_in s) source)) known locals (run_let u n (expr.Tuple (written_operand s bound source) part) locals (done given those)) (bind_one s.env u.meaning u.args (Part part (at (paths_in s) source)) known made)
part_binds s u bound n source part tys ty known given made those locals same a of several at' c =
    let path = at (paths_in s) source in
    let x = tuple_reads s u bound known locals source tys a (found bound source.0 c) of in
    let tuples = are_tuples s.env tys x.vs x.rs several x.same x.typed in
    let y = part_is s.env tys x.vs x.rs part ty x.same x.typed at' in
    let held : value_at s.env u.meaning u.args known (Part part path) ≡ a_value y.v = ap (part_held part) (x.block ∙ ap One tuples.1) ∙ ap held_value y.block in
    record {
      h = a_value y.r;
      those = those;
      is = ap (λ h. run_part n (part_of part h) locals (done given those)) (x.run ∙ ap One tuples.0) ∙ ap (λ o. run_part n o locals (done given those)) y.run;
      made = same;
      stands = record {
        value = λ of' k. record { v = y.v; r = y.r; run = refl; block = held; same = y.same; typed = subst (HasType s.env y.v) (part_types s.env s.term path part ty of' (tys, of, at') k) y.typed };
        tuple = λ tys' k. absurd k;
        option = λ tys' k. absurd k;
        list = λ tys' k. absurd k;
      };
      grows = same_known known;
      keeps = keeps_all _ known;
    }
