-- The calls of an expression have their arguments where they are reached.
use Rattle.std.proofs.Common.{◌≡◌, ℕ, ◌+◌, ◌≤◌, List, [], ◌∷◌, Bool, true, false, ◌&&◌, cond, Option, Some, sym, subst, arith}
use Rattle.std.specs.Prelude.{◌||◌}
use Rattle.isle_base.specs.declared.ids.TermId.{TermId}
use Rattle.isle_core.specs.Value.{Value, Made}
use Rattle.isle_core.specs.Making.{Making, MakesVariant, MakesStruct, MakesNothing, making}
use Rattle.isle_core.specs.Meaning.{Meaning}
use Rattle.isle_core.specs.Calling.{AnswersOnce, calling, answers_often, is_ordered, instance_of, impure, impure_all, impure_bindings}
use Rattle.isle_core.specs.HoldsImpure.{holds_impure}
use Rattle.isle_core.specs.Choice.{first_items}
use Rattle.isle_core.specs.Expr as expr
use Rattle.isle_core.specs.Expr.{Expr, Exprs, NoExpr, AnExpr, LetBindings, NoBinding, ABinding}
use Rattle.isle_core.specs.Match.{Names, with}
use Rattle.isle_core.specs.Eval.{Evaluated, Answered, Failed, EvaluatedAll, AllAnswered, OneFailed, Bound, AllBound, NotBound, evaluated, evaluated_all, bound}
use Rattle.isle_core.specs.Path.{Path, Paths}
use Rattle.isle_core.specs.OrderedCalls.{if_ordered, calls, calls_all, calls_bindings}
use Rattle.isle_core.specs.RightSide.{term_path, call_path, path, paths, let_places}
use Rattle.isle_core.specs.Tests.{Places}
use Rattle.isle_core.specs.ValueAt.{Known, value_at, values_at}
use Rattle.isle_core.specs.CallRun.{Went, Goes, Ends, run_call, run_calls}
use Rattle.isle_core.specs.Rule.{Environment}
use Rattle.isle_core.proofs.PatternTests.{Agree, with_agrees}
use Rattle.isle_core.proofs.AnsweredTerms.{HasAnsweredCalls, AreAnsweredCalls, HaveAnsweredBindings}
use Rattle.isle_core.proofs.KnownAnswers.{Fresh, places_more, agree_still, path_up_to, with_up_to, let_up_to, PlacesUpTo}
use Rattle.isle_core.proofs.CallsFollow.{Reached, ReachedAll, ReachedNames, Follows, FollowsAll, FollowsBound, expr_follows, exprs_follow, bindings_follow}
use Rattle.isle_core.proofs.FirstCalls.{IsReady, IfGoes, AreReady, ready_append}
use Rattle.isle_core.proofs.HeldStays.{AreThere}

-- what holds after a value that was reached
behind_one : (env : Environment) (m : Meaning) (args : List Value) (n n' : ℕ) (known : Known) (p : Path) (r : Evaluated) (w : Went) (P : Known → List Made → Type 0) → Follows env m args n n' known p r w → ((v : Value) (known' : Known) (made : List Made) → Reached env m args n n' known known' p v → P known' made) → IfGoes w P
behind_one env m args n n' known p (Answered v made) (Goes known' made') P h k = k v known' made' h.0
behind_one env m args n n' known p (Failed made) (Ends o) P h k = tt
behind_one env m args n n' known p (Answered v made) (Ends o) P h k = absurd h
behind_one env m args n n' known p (Failed made) (Goes known' made') P h k = absurd h

-- so after several
behind_all : (env : Environment) (m : Meaning) (args : List Value) (n n' : ℕ) (known : Known) (ps : Paths) (r : EvaluatedAll) (w : Went) (P : Known → List Made → Type 0) → FollowsAll env m args n n' known ps r w → ((vs : List Value) (known' : Known) (made : List Made) → ReachedAll env m args n n' known known' ps vs → P known' made) → IfGoes w P
behind_all env m args n n' known ps (AllAnswered vs made) (Goes known' made') P h k = k vs known' made' h.0
behind_all env m args n n' known ps (OneFailed made) (Ends o) P h k = tt
behind_all env m args n n' known ps (AllAnswered vs made) (Ends o) P h k = absurd h
behind_all env m args n n' known ps (OneFailed made) (Goes known' made') P h k = absurd h

-- and after those of a `let`
behind_bound : (env : Environment) (m : Meaning) (args : List Value) (n n' : ℕ) (known : Known) (places : Places) (r : Bound) (w : Went) (P : Known → List Made → Type 0) → FollowsBound env m args n n' known places r w → ((names : Names) (known' : Known) (made : List Made) → ReachedNames env m args n n' known known' names places → P known' made) → IfGoes w P
behind_bound env m args n n' known places (AllBound names made) (Goes known' made') P h k = k names known' made' h.0
behind_bound env m args n n' known places (NotBound made) (Ends o) P h k = tt
behind_bound env m args n n' known places (AllBound names made) (Ends o) P h k = absurd h
behind_bound env m args n n' known places (NotBound made) (Goes known' made') P h k = absurd h

none_ready : (env : Environment) (m : Meaning) (args : List Value) (w : Went) → IfGoes w (AreReady env m args [])
none_ready env m args (Goes known made) = tt
none_ready env m args (Ends o) = tt

-- a term whose arguments are there
term_ready : (mk : Making) (env : Environment) (m : Meaning) (args : List Value) (term : TermId) (ps : Paths) (k : ℕ) (vs : List Value) (known : Known) → values_at env m args known ps ≡ Some vs → IsReady env m args (term_path mk term ps k) known
term_ready (MakesVariant ty variant) env m args term ps k vs known e = tt
term_ready (MakesStruct ty) env m args term ps k vs known e = tt
term_ready MakesNothing env m args term ps k vs known e = subst (λ (o : Option (List Value)). AreThere o) (sym e) tt

ordered_ready : (b : Bool) (env : Environment) (m : Meaning) (args : List Value) (p : Path) (known : Known) (made : List Made) → IsReady env m args p known → AreReady env m args (cond b (p ∷ []) []) known made
ordered_ready true env m args p known made h = (h, none_ready env m args (run_call env m args p known made))
ordered_ready false env m args p known made h = tt

mutual
  -- the calls of an expression may be run
  pub expr_ready : (e : Expr) (env : Environment) (m : Meaning) (args : List Value) (n : ℕ) (known : Known) (names : Names) (places : Places) (made : List Made) → HasAnsweredCalls AnswersOnce env m places n e → Agree (value_at env m args known) names places → PlacesUpTo n places → Fresh n known
      → AreReady env m args (calls env e places n) known made
  expr_ready (expr.Var ty x) env m args n known names places made t a b fr = tt
  expr_ready (expr.ConstBool c) env m args n known names places made t a b fr = tt
  expr_ready (expr.ConstInt ty k) env m args n known names places made t a b fr = tt
  expr_ready (expr.ConstPrim ty name) env m args n known names places made t a b fr = tt
  expr_ready (expr.Term ty term es) env m args n known names places made t a b fr =
      let ps = paths env es places n in
      let k = n + impure_all env es in
      let c = calling env term in
      let p = call_path env term ps k in
      ready_append env m args (calls_all env es places n) (if_ordered env c p) known made (exprs_ready es env m args n known names places made t.1 a b fr)
      (behind_all env m args n k known ps (evaluated_all env m first_items es names places n made) (run_calls env m args (calls_all env es places n) known made) (AreReady env m args (if_ordered env c p)) (exprs_follow es first_items places n env m args n known names places made t.1 a b fr)
      (λ vs known' made' h. ordered_ready (is_ordered c || (answers_often c && holds_impure env p)) env m args p known' made' (term_ready (making env term) env m args term ps (instance_of c k) vs known' h.held)))
  expr_ready (expr.Let ty bs inner) env m args n known names places made t a b fr =
      let n1 = n + impure_bindings env bs in
      let mid = let_places env bs places n in
      ready_append env m args (calls_bindings env bs places n) (calls env inner mid n1) known made (bindings_ready bs env m args n known names places made t.0 a b fr)
      (behind_bound env m args n n1 known mid (bound env m first_items bs names places n made) (run_calls env m args (calls_bindings env bs places n) known made) (AreReady env m args (calls env inner mid n1)) (bindings_follow bs first_items places n env m args n known names places made t.0 a b fr)
      (λ names' known' made' h. expr_ready inner env m args n1 known' names' mid made' t.1 h.agree (let_up_to bs env places n b) h.fresh))

  -- so of expressions in order
  exprs_ready : (es : Exprs) (env : Environment) (m : Meaning) (args : List Value) (n : ℕ) (known : Known) (names : Names) (places : Places) (made : List Made) → AreAnsweredCalls AnswersOnce env m places n es → Agree (value_at env m args known) names places → PlacesUpTo n places → Fresh n known
      → AreReady env m args (calls_all env es places n) known made
  exprs_ready NoExpr env m args n known names places made t a b fr = tt
  exprs_ready (AnExpr e es) env m args n known names places made t a b fr =
      let n1 = n + impure env e in
      let p = path env e places n in
      let le : n ≤ n + impure env e = omega arith in
      ready_append env m args (calls env e places n) (calls_all env es places n1) known made (expr_ready e env m args n known names places made t.0 a b fr)
      (behind_one env m args n n1 known p (evaluated env m first_items e names places n made) (run_calls env m args (calls env e places n) known made) (AreReady env m args (calls_all env es places n1)) (expr_follows e first_items places n env m args n known names places made t.0 a b fr)
      (λ v known' made' h. exprs_ready es env m args n1 known' names places made' t.1 (agree_still env m args n known known' names places b h.kept a) (places_more places n n1 le b) h.fresh))

  -- so of the values of a `let`
  bindings_ready : (bs : LetBindings) (env : Environment) (m : Meaning) (args : List Value) (n : ℕ) (known : Known) (names : Names) (places : Places) (made : List Made) → HaveAnsweredBindings AnswersOnce env m places n bs → Agree (value_at env m args known) names places → PlacesUpTo n places → Fresh n known
      → AreReady env m args (calls_bindings env bs places n) known made
  bindings_ready NoBinding env m args n known names places made t a b fr = tt
  bindings_ready (ABinding x ty e more) env m args n known names places made t a b fr =
      let n1 = n + impure env e in
      let p = path env e places n in
      let mid = with places x.0 p in
      let le : n ≤ n + impure env e = omega arith in
      ready_append env m args (calls env e places n) (calls_bindings env more mid n1) known made (expr_ready e env m args n known names places made t.0 a b fr)
      (behind_one env m args n n1 known p (evaluated env m first_items e names places n made) (run_calls env m args (calls env e places n) known made) (AreReady env m args (calls_bindings env more mid n1)) (expr_follows e first_items places n env m args n known names places made t.0 a b fr)
      (λ v known' made' h. bindings_ready more env m args n1 known' (with names x.0 v) mid made' t.1 (with_agrees (value_at env m args known') names places x.0 v p h.held (agree_still env m args n known known' names places b h.kept a)) (with_up_to n1 x.0 p places (path_up_to e env places n b) (places_more places n n1 le b)) h.fresh))
