-- A meaning that has the answers of another one runs a function whose calls those answer in the same way.
use Rattle.std.proofs.Common.{◌≡◌, ℕ, zero, List, [], ◌∷◌, ◌++◌, map, Bool, true, false, Option, Some, None, refl, sym, ap, ◌∙◌, subst, arith}
use Rattle.std.specs.Prelude.{find, cond, option_map, Contains, if◌then◌else◌}
use Rattle.std.specs.List.{AllByRecursion}
use Rattle.std.specs.Str.{bytes_eq}
use Rattle.std.proofs.lemmas.Slice.Eq.{bytes_eq-Decides}
use Rattle.std.proofs.lemmas.List.Elements.{recursion_from_All, Contains-append_left, Contains-append_right}
use Rattle.isle_core.specs.declared.types.ReturnKind.{ReturnKind}
use Rattle.isle_core.specs.declared.types.ReturnKind.TheVariants as kind
use Rattle.isle_core.specs.declared.values.Callee.{Callee}
use Rattle.isle_core.specs.Value.{Value, Made, GivesSome}
use Rattle.isle_core.specs.SameInRun.{same_in_run}
use Rattle.isle_core.specs.Meaning.{PureAnswers, TurnAnswers, Meaning, turns_of, cases_of}
use Rattle.isle_core.specs.Answered.{Item, Held, Absent, One, Optional, Listed, a_value, an_option, answer_held, answer}
use Rattle.isle_core.specs.Having.{const_of, HasConst, HasCases, HasTurns, HasAnswers}
use Rattle.isle_core.specs.Terms.{goes_to}
use Rattle.isle_core.specs.ValueAt.{value_before}
use Rattle.isle_tree.specs.declared.tree.Operand.{Operand}
use Rattle.isle_tree.specs.declared.tree.Operand.TheVariants as operand
use Rattle.isle_tree.specs.declared.tree.Read.{Read}
use Rattle.isle_tree.specs.declared.tree.Read.TheVariants as read
use Rattle.isle_tree.specs.declared.tree.TPat.{TPat}
use Rattle.isle_tree.specs.declared.tree.TPat.TheVariants as pattern
use Rattle.isle_tree.specs.declared.tree.TExpr.{TExpr}
use Rattle.isle_tree.specs.declared.tree.TExpr.TheVariants as expr
use Rattle.isle_tree.specs.Program.{Program, Stmt, Let, LetList, IfEq, IfLet, Match, Loop, Return, Extend, Overflow, Log, Split, Tail, Body, Done, Then, Arms, NoArm, Arm, Function}
use Rattle.isle_tree.specs.WellFormed.{FitsStmt, FitsBody, FitsArms, FitsLast, FitsEnding, FitsFunction}
use Rattle.isle_tree.specs.Caller.{with_call}
use Rattle.isle_tree.specs.Run.{Around, State, nothing_done, one_given, Env, Flow, Goes, Ends, Leaves, Stuck, look, value_of, name_value, bind, read_value, read_values, field_before, read_fields, on_value, on_list, value_in, constant, are_same, fit, fitted, then_run, after_scope, after_closure, run_bind, run_call, run_try, run_variant, run_struct, part_of, run_part, run_let, ends_with, run_return, run_items, run_stmt, run_body, run_arms, ended, around, held_run, function_run}
use Rattle.isle_interpreter.specs.Entries.{Constant, Cases, Turns, entries, IsUnanswered}
use Rattle.isle_tree.specs.Calls.{expr_calls, stmt_calls, body_calls, arms_calls}
use Rattle.isle_operand_names.specs.Names.{operand_names, read_names, reads_names, fields_names, expr_names, pattern_names, patterns_names, stmt_names, body_names, arms_names}
use Rattle.isle_interpreter.specs.Refusals.{AreAnswered}
use Rattle.isle_interpreter.proofs.AnswersHold.{goes_same, both_unanswered, no_constants, no_turns, no_cases}
use Rattle.isle_interpreter.proofs.Answering.{by_turns, by_cases}

-- what is found passes the test, and is as all are
found : {A : Type 0} (P : A → Type 0) (test : A → Bool) (xs : List A) (x : A) → AllByRecursion P xs → find test xs ≡ Some x → P x × (test x ≡ true)
found P test [] x all e = absurd cc
found P test (y ∷ xs) x all e = by (test y) refl (found P test xs x all.1) e
  where
    by : (b : Bool) → test y ≡ b → (find test xs ≡ Some x → P x × (test x ≡ true)) → cond b (Some y) (find test xs) ≡ Some x → P x × (test x ≡ true)
    by true is others e = let same : y ≡ x = cc in (subst P same all.0, subst (λ z. test z ≡ true) same is)
    by false is others e = others e

module _ (m given : Meaning) (has : HasAnswers m given) where
  has_turns : (callee : Callee) (t : TurnAnswers) → turns_of given callee ≡ Some t → turns_of m callee ≡ Some t
  has_turns callee t e =
      let there = found (HasTurns m) (λ (a : TurnAnswers). goes_to callee (Some a.callee)) given.turns t (recursion_from_All (HasTurns m) given.turns has.turns) e in
      subst (λ c. turns_of m c ≡ Some t) (goes_same callee t.callee there.1) there.0

  has_cases : (callee : Callee) (a : PureAnswers) → cases_of given callee ≡ Some a → (cases_of m callee ≡ Some a) × (turns_of m callee ≡ None)
  has_cases callee a e =
      let there = found (HasCases m) (λ (a : PureAnswers). goes_to callee (Some a.callee)) given.pure a (recursion_from_All (HasCases m) given.pure has.cases) e in
      subst (λ c. (cases_of m c ≡ Some a) × (turns_of m c ≡ None)) (goes_same callee a.callee there.1) there.0

  unanswered : (callee : Callee) → turns_of given callee ≡ None → cases_of given callee ≡ None → IsUnanswered callee (entries given)
  unanswered callee t c =
      both_unanswered callee (map (λ c. Constant c.0 c.1) given.consts) (map Cases given.pure ++ map Turns given.turns) (no_constants callee given.consts)
      (both_unanswered callee (map Cases given.pure) (map Turns given.turns) (no_cases callee given.pure c) (no_turns callee given.turns t))

  -- a callee with an entry is answered alike
  same_answer : (callee : Callee) → (IsUnanswered callee (entries given) → ⊥) → (vs : List Value) (made : List Made) → answer m callee vs made ≡ answer given callee vs made
  same_answer callee some vs made = turns (turns_of given callee) refl
    where
      cases : turns_of given callee ≡ None → (o : Option PureAnswers) → cases_of given callee ≡ o → answer m callee vs made ≡ answer given callee vs made
      cases t None e = absurd (some (unanswered callee t e))
      cases t (Some a) e =
          let h = has_cases callee a e in
          by_cases m callee vs made a h.1 h.0 ∙ sym (by_cases given callee vs made a t e)

      turns : (o : Option TurnAnswers) → turns_of given callee ≡ o → answer m callee vs made ≡ answer given callee vs made
      turns None e = cases e (cases_of given callee) refl
      turns (Some t) e = by_turns m callee vs made t (has_turns callee t e) ∙ sym (by_turns given callee vs made t e)

  has_const : (name : List ℕ) (v : Value) → const_of given name ≡ Some v → const_of m name ≡ Some v
  has_const name v e = by (find (λ (c : List ℕ × Value). bytes_eq name c.0) given.consts) refl e
    where
      by : (o : Option (List ℕ × Value)) → find (λ (c : List ℕ × Value). bytes_eq name c.0) given.consts ≡ o → option_map (λ (c : List ℕ × Value). c.1) o ≡ Some v → const_of m name ≡ Some v
      by None f g = absurd cc
      by (Some c) f g =
          let there = found (HasConst m) (λ (c : List ℕ × Value). bytes_eq name c.0) given.consts c (recursion_from_All (HasConst m) given.consts has.consts) f in
          subst (λ n. const_of m n ≡ Some v) (sym ((bytes_eq-Decides name c.0).0 there.1)) (there.0 ∙ g)

  -- a name with an entry stands for the same
  same_name : (name : List ℕ) → (const_of given name ≡ None → const_of m name ≡ None) → const_of m name ≡ const_of given name
  same_name name none = by (const_of given name) refl
    where
      by : (o : Option Value) → const_of given name ≡ o → const_of m name ≡ const_of given name
      by None e = none e ∙ sym e
      by (Some v) e = has_const name v e ∙ sym e

  -- ---- statements

  -- these names stand for the same
  abbrev Same : List (List ℕ) → Type 0
  Same names = (name : List ℕ) → Contains names name → const_of m name ≡ const_of given name

  front_same : (xs ys : List (List ℕ)) → Same (xs ++ ys) → Same xs
  front_same xs ys same name there = same name (Contains-append_left xs ys name there)

  back_same : (xs ys : List (List ℕ)) → Same (xs ++ ys) → Same ys
  back_same xs ys same name there = same name (Contains-append_right xs ys name there)

  first_same : (name : List ℕ) → Same (name ∷ []) → const_of m name ≡ const_of given name
  first_same name same = same name (zero, omega arith, refl)

  same_constant : (o : Operand) → Same (operand_names o) → constant m o ≡ constant given o
  same_constant (operand.Name name) same = ap (λ o. Some (name_value o name)) (first_same name same)
  same_constant (operand.Local n) same = refl
  same_constant (operand.Arg n) same = refl
  same_constant (operand.Bool b) same = refl
  same_constant (operand.Int ty z) same = refl
  same_constant (operand.Raw z) same = refl

  -- these callees are answered alike
  abbrev Alike : List Callee → Type 0
  Alike cs = (callee : Callee) → Contains cs callee → (vs : List Value) (made : List Made) → answer m callee vs made ≡ answer given callee vs made

  front : (cs ds : List Callee) → Alike (cs ++ ds) → Alike cs
  front cs ds alike callee there = alike callee (Contains-append_left cs ds callee there)

  back : (cs ds : List Callee) → Alike (cs ++ ds) → Alike ds
  back cs ds alike callee there = alike callee (Contains-append_right cs ds callee there)

  module _ (p : Program) (f : Function) (args : List Value) (held : Option ℕ) where
    abbrev one : Around
    one = around p m args held f

    abbrev other : Around
    other = around p given args held f

    same_operand : (env : Env) (o : Operand) → Same (operand_names o) → value_of one env o ≡ value_of other env o
    same_operand env (operand.Name name) same = ap (λ o. a_value (name_value o name)) (first_same name same)
    same_operand env (operand.Local n) same = refl
    same_operand env (operand.Arg n) same = refl
    same_operand env (operand.Bool b) same = refl
    same_operand env (operand.Int ty z) same = refl
    same_operand env (operand.Raw z) same = refl

    same_read : (env : Env) (r : Read) → Same (read_names r) → read_value one env r ≡ read_value other env r
    same_read env (read.Plain o) same = same_operand env o same
    same_read env (read.Borrow o) same = same_operand env o same
    same_read env (read.Clone o) same = same_operand env o same

    same_reads : (env : Env) (rs : List Read) → Same (reads_names rs) → read_values one env rs ≡ read_values other env rs
    same_reads env [] same = refl
    same_reads env (r ∷ rs) same =
        ap (λ h. value_before h (read_values one env rs)) (same_read env r (front_same (read_names r) (reads_names rs) same))
        ∙ ap (value_before (read_value other env r)) (same_reads env rs (back_same (read_names r) (reads_names rs) same))

    same_fields : (env : Env) (fs : List (List ℕ × Read)) → Same (fields_names fs) → read_fields one env fs ≡ read_fields other env fs
    same_fields env [] same = refl
    same_fields env (f ∷ fs) same =
        ap (λ h. field_before f.0 h (read_fields one env fs)) (same_read env f.1 (front_same (read_names f.1) (fields_names fs) same))
        ∙ ap (field_before f.0 (read_value other env f.1)) (same_fields env fs (back_same (read_names f.1) (fields_names fs) same))

    same_call : (n : ℕ) (callee : Callee) (o : Option (List Value)) (env : Env) (s : State) → Alike (callee ∷ []) → run_call one n callee o env s ≡ run_call other n callee o env s
    same_call n callee None env s alike = refl
    same_call n callee (Some vs) env s alike =
        ap (λ a. run_bind n (answer_held a) env (record { made = with_call s.made callee vs; given = s.given })) (alike callee (zero, omega arith, refl) vs s.made)

    same_let : (n : ℕ) (e : TExpr) (env : Env) (s : State) → Alike (expr_calls e) → Same (expr_names e) → run_let one n e env s ≡ run_let other n e env s
    same_let n (expr.Call borrow call) env s alike same =
        same_call n call.callee (read_values one env call.args) env s alike ∙ ap (λ o. run_call other n call.callee o env s) (same_reads env call.args same)
    same_let n (expr.Read r) env s alike same = ap (λ h. run_bind n h env s) (same_read env r same)
    same_let n (expr.Some r) env s alike same = ap (λ h. on_value h (λ v. Goes (bind env n (an_option (Some v))) s)) (same_read env r same)
    same_let n (expr.Try source as_ref) env s alike same = ap (λ h. run_try n h env s) (same_operand env source same)
    same_let n (expr.Variant ty variant fields) env s alike same = ap (λ o. run_variant n ty variant o env s) (same_fields env fields same)
    same_let n (expr.Struct ty fields) env s alike same = ap (λ o. run_struct n ty o env s) (same_fields env fields same)
    same_let n (expr.Tuple source part) env s alike same = ap (λ h. run_part n (part_of part h) env s) (same_operand env source same)

    same_return : (e : TExpr) (env : Env) (s : State) → Same (expr_names e) → run_return one e env s ≡ run_return other e env s
    same_return (expr.Read r) env s same = ap (λ h. ends_with h s) (same_read env r same)
    same_return (expr.Some r) env s same = ap (λ h. on_value h (λ v. Ends (GivesSome v) s)) (same_read env r same)
    same_return (expr.Call borrow call) env s same = refl
    same_return (expr.Try source as_ref) env s same = refl
    same_return (expr.Variant ty variant fields) env s same = refl
    same_return (expr.Struct ty fields) env s same = refl
    same_return (expr.Tuple o k) env s same = refl

    same_fit : (pat : TPat) (h : Held) → Same (pattern_names pat) → fit one pat h ≡ fit other pat h
    same_fit (pattern.Const o) h same = ap (λ c. if are_same (value_in h) c then Some [] else None) (same_constant o same)
    same_fit (pattern.Variant ty variant binds more) h same = refl
    same_fit (pattern.Struct ty binds more) h same = refl
    same_fit (pattern.Some local) h same = refl

    then_same : (flow after : Flow) (go next : Env → State → Flow) → flow ≡ after → ((env : Env) (s : State) → go env s ≡ next env s) → then_run flow go ≡ then_run after next
    then_same flow after go next e same = by flow ∙ ap (λ f. then_run f next) e
      where
        by : (f : Flow) → then_run f go ≡ then_run f next
        by (Goes env s) = same env s
        by (Ends end s) = refl
        by (Leaves s) = refl
        by Stuck = refl

    same_fitted : (o : Option Env) (env : Env) (otherwise : Flow) (go next : Env → Flow) → ((bound : Env) → go bound ≡ next bound) → fitted o (λ bound. after_scope env (go bound)) otherwise ≡ fitted o (λ bound. after_scope env (next bound)) otherwise
    same_fitted None env otherwise go next same = refl
    same_fitted (Some bound) env otherwise go next same = ap (after_scope env) (same bound)

    same_test : (a b : Operand) (env : Env) (met missed : Flow) → Same (operand_names a) → Same (operand_names b)
        → on_value (value_of one env a) (λ v. on_value (value_of one env b) (λ u. if same_in_run v u then met else missed)) ≡ on_value (value_of other env a) (λ v. on_value (value_of other env b) (λ u. if same_in_run v u then met else missed))
    same_test a b env met missed left right =
        ap (λ h. on_value h (λ v. on_value (value_of one env b) (λ u. if same_in_run v u then met else missed))) (same_operand env a left)
        ∙ ap (λ h. on_value (value_of other env a) (λ v. on_value h (λ u. if same_in_run v u then met else missed))) (same_operand env b right)

    same_pattern : (pat : TPat) (r : Read) (env : Env) (met : Env → Flow) (missed : Flow) → Same (pattern_names pat) → Same (read_names r) → fitted (fit one pat (read_value one env r)) met missed ≡ fitted (fit other pat (read_value other env r)) met missed
    same_pattern pat r env met missed left right =
        ap (λ o. fitted o met missed) (same_fit pat (read_value one env r) left ∙ ap (fit other pat) (same_read env r right))

    same_items : (go next : Item → State → Flow) (env : Env) (is : List Item) (s : State) → ((i : Item) (t : State) → go i t ≡ next i t) → run_items go env is s ≡ run_items next env is s
    same_items go next env [] s same = refl
    same_items go next env (i ∷ is) s same = then_same (go i s) (next i s) (λ inner t. run_items go env is t) (λ inner t. run_items next env is t) (same i s) (λ inner t. same_items go next env is t same)

    same_list : (h : Held) (go next : List Item → Flow) → ((is : List Item) → go is ≡ next is) → on_list h go ≡ on_list h next
    same_list (Listed is) go next same = same is
    same_list (One i) go next same = refl
    same_list (Optional o) go next same = refl
    same_list Absent go next same = refl

    module _ (of : ReturnKind) where
      mutual
        same_stmt : (closed : Bool) (t : Stmt) (env : Env) (s : State) → FitsStmt of closed t → Alike (stmt_calls t) → Same (stmt_names t) → run_stmt one t env s ≡ run_stmt other t env s
        same_stmt closed (Let n e) env s fits alike same = same_let n e env s alike same
        same_stmt closed (IfEq a b inside) env s fits alike same =
            let own = front_same (operand_names a ++ operand_names b) (body_names inside) same in
            ap (λ flow. on_value (value_of one env a) (λ v. on_value (value_of one env b) (λ u. if same_in_run v u then after_scope env flow else Goes env s)))
            (same_body closed inside env s fits alike (back_same (operand_names a ++ operand_names b) (body_names inside) same))
            ∙ same_test a b env (after_scope env (run_body other inside env s)) (Goes env s) (front_same (operand_names a) (operand_names b) own) (back_same (operand_names a) (operand_names b) own)
        same_stmt closed (Return e) env s fits alike same = same_return e env s same
        same_stmt closed (Tail texts) env s fits alike same = refl
        same_stmt closed (LetList n call) env s fits alike same =
            same_call n call.callee (read_values one env call.args) env s alike ∙ ap (λ o. run_call other n call.callee o env s) (same_reads env call.args same)
        same_stmt closed (IfLet pat r inside) env s fits alike same =
            let own = front_same (pattern_names pat ++ read_names r) (body_names inside) same in
            same_fitted (fit one pat (read_value one env r)) env (Goes env s) (λ more. run_body one inside (env ++ more) s) (λ more. run_body other inside (env ++ more) s)
            (λ more. same_body closed inside (env ++ more) s fits alike (back_same (pattern_names pat ++ read_names r) (body_names inside) same))
            ∙ same_pattern pat r env (λ more. after_scope env (run_body other inside (env ++ more) s)) (Goes env s) (front_same (pattern_names pat) (read_names r) own) (back_same (pattern_names pat) (read_names r) own)
        same_stmt closed (Match r arms) env s fits alike same =
            let own = front_same (read_names r ++ patterns_names arms) (arms_names arms) same in
            ap (λ h. run_arms one arms h env s) (same_read env r (front_same (read_names r) (patterns_names arms) own))
            ∙ same_arms closed arms (read_value other env r) env s fits alike (back_same (read_names r) (patterns_names arms) own) (back_same (read_names r ++ patterns_names arms) (arms_names arms) same)
        same_stmt closed (Loop list item inside) env s fits alike same =
            same_list (look env list) (λ is. run_items (λ i t. run_body one inside (bind env item (One i)) t) env is s) (λ is. run_items (λ i t. run_body other inside (bind env item (One i)) t) env is s)
            (λ is. same_items (λ i t. run_body one inside (bind env item (One i)) t) (λ i t. run_body other inside (bind env item (One i)) t) env is s (λ i t. same_body closed inside (bind env item (One i)) t fits alike same))
        same_stmt closed (Extend r) env s fits alike same = ap (λ h. on_value h (λ v. Goes env (one_given s v))) (same_read env r same)
        same_stmt closed (Overflow inside limit) env s fits alike same = refl
        same_stmt closed (Log term place) env s fits alike same = refl
        same_stmt closed (Split inside within) env s fits alike same = ap (after_closure within env) (same_body true inside env s fits.2 alike same)

        same_body : (closed : Bool) (b : Body) (env : Env) (s : State) → FitsBody of closed b → Alike (body_calls b) → Same (body_names b) → run_body one b env s ≡ run_body other b env s
        same_body closed Done env s fits alike same = refl
        same_body closed (Then t ss) env s fits alike same =
            then_same (run_stmt one t env s) (run_stmt other t env s) (run_body one ss) (run_body other ss)
            (same_stmt closed t env s fits.0 (front (stmt_calls t) (body_calls ss) alike) (front_same (stmt_names t) (body_names ss) same))
            (λ inner u. same_body closed ss inner u fits.1 (back (stmt_calls t) (body_calls ss) alike) (back_same (stmt_names t) (body_names ss) same))

        same_arms : (closed : Bool) (arms : Arms) (h : Held) (env : Env) (s : State) → FitsArms of closed arms → Alike (arms_calls arms) → Same (patterns_names arms) → Same (arms_names arms) → run_arms one arms h env s ≡ run_arms other arms h env s
        same_arms closed NoArm h env s fits alike named same = refl
        same_arms closed (Arm pat inside arms) h env s fits alike named same =
            same_fitted (fit one pat h) env (run_arms one arms h env s) (λ more. run_body one inside (env ++ more) s) (λ more. run_body other inside (env ++ more) s)
            (λ more. same_body closed inside (env ++ more) s fits.0 (front (body_calls inside) (arms_calls arms) alike) (front_same (body_names inside) (arms_names arms) same))
            ∙ ap (λ o. fitted o (λ more. after_scope env (run_body other inside (env ++ more) s)) (run_arms one arms h env s)) (same_fit pat h (front_same (pattern_names pat) (patterns_names arms) named))
            ∙ ap (fitted (fit other pat h) (λ more. after_scope env (run_body other inside (env ++ more) s)))
            (same_arms closed arms h env s fits.1 (back (body_calls inside) (arms_calls arms) alike) (back_same (pattern_names pat) (patterns_names arms) named) (back_same (body_names inside) (arms_names arms) same))

      same_last : (t : Stmt) (env : Env) (s : State) → FitsLast of t → Same (stmt_names t) → run_stmt one t env s ≡ run_stmt other t env s
      same_last (Return e) env s fits same = same_return e env s same
      same_last (Tail texts) env s fits same = refl
      same_last (Let n e) env s fits same = absurd fits
      same_last (LetList n call) env s fits same = absurd fits
      same_last (IfEq a b inside) env s fits same = absurd fits
      same_last (IfLet pat r inside) env s fits same = absurd fits
      same_last (Match r arms) env s fits same = absurd fits
      same_last (Loop list item inside) env s fits same = absurd fits
      same_last (Extend r) env s fits same = absurd fits
      same_last (Overflow inside limit) env s fits same = absurd fits
      same_last (Log term place) env s fits same = absurd fits
      same_last (Split inside within) env s fits same = absurd fits

      same_ending : (b : Body) (env : Env) (s : State) → FitsEnding of b → Alike (body_calls b) → Same (body_names b) → run_body one b env s ≡ run_body other b env s
      same_ending Done env s fits alike same = absurd fits
      same_ending (Then t Done) env s fits alike same =
          then_same (run_stmt one t env s) (run_stmt other t env s) (run_body one Done) (run_body other Done) (same_last t env s fits (front_same (stmt_names t) [] same)) (λ inner u. refl)
      same_ending (Then t (Then u ss)) env s fits alike same =
          then_same (run_stmt one t env s) (run_stmt other t env s) (run_body one (Then u ss)) (run_body other (Then u ss))
          (same_stmt false t env s fits.0 (front (stmt_calls t) (body_calls (Then u ss)) alike) (front_same (stmt_names t) (body_names (Then u ss)) same))
          (λ inner x. same_ending (Then u ss) inner x fits.1 (back (stmt_calls t) (body_calls (Then u ss)) alike) (back_same (stmt_names t) (body_names (Then u ss)) same))

    -- the statements of a function
    same_function : (of : ReturnKind) (b : Body) → FitsFunction of b → Alike (body_calls b) → Same (body_names b) → run_body one b [] nothing_done ≡ run_body other b [] nothing_done
    same_function kind.Plain b fits alike same = same_ending kind.Plain b [] nothing_done fits alike same
    same_function kind.Option b fits alike same = same_ending kind.Option b [] nothing_done fits alike same
    same_function kind.Iterator b fits alike same = same_body kind.Iterator false b [] nothing_done fits alike same

    -- the two runs are one, if names without an entry have no value under the one either
    pub same_held : FitsFunction f.kind f.body → AreAnswered f (entries given)
        → ((name : List ℕ) → Contains (body_names f.body) name → const_of given name ≡ None → const_of m name ≡ None) → held_run p m args held f ≡ held_run p given args held f
    same_held fits some none = ap (ended f.kind) (same_function f.kind f.body fits (λ callee there. same_answer callee (some callee there)) (λ name there. same_name name (none name there)))

  -- so in a program
  pub same_run : (p : Program) (f : Function) (args : List Value) (held : ℕ) → FitsFunction f.kind f.body → AreAnswered f (entries given)
      → ((name : List ℕ) → Contains (body_names f.body) name → const_of given name ≡ None → const_of m name ≡ None) → function_run p m held args (Some f) ≡ function_run p given held args (Some f)
  same_run p f args held fits some none = same_held p f args (Some held) fits some none
