-- The impure calls of a rule's right side have occurrences after those of the rules before, as many as it makes.
use Rattle.std.proofs.Common.{◌≡◌, ⊎_elim, ℕ, suc, ◌+◌, ◌<◌, ◌≤◌, List, [], ◌∷◌, Bool, true, false, cond, arith}
use Rattle.std.specs.Prelude.{Contains, ◌||◌, ◌&&◌}
use Rattle.std.specs.List.{AllByRecursion}
use Rattle.isle_base.specs.declared.ids.TermId.{TermId}
use Rattle.isle_core.specs.Calling.{Calling, ByTurns, ByCases, NoCall, calling, answers_often, is_ordered, instance_of, one_more, impure, impure_all, impure_bindings}
use Rattle.isle_core.specs.Expr as expr
use Rattle.isle_core.specs.Expr.{Expr, Exprs, NoExpr, AnExpr, LetBindings, NoBinding, ABinding}
use Rattle.isle_core.specs.HoldsImpure.{holds_impure}
use Rattle.isle_core.specs.Making.{Making, MakesVariant, MakesStruct, MakesNothing, making}
use Rattle.isle_core.specs.Match.{with}
use Rattle.isle_core.specs.Occurrences.{occurrence, occurrence_at}
use Rattle.isle_core.specs.OrderedCalls.{calls, calls_all, calls_bindings, if_ordered}
use Rattle.isle_core.specs.Path.{Path, Paths}
use Rattle.isle_core.specs.RightSide.{term_path, call_path, path, paths, let_places}
use Rattle.isle_core.specs.Rule.{Environment}
use Rattle.isle_core.specs.Tests.{Places}
use Rattle.isle_core.proofs.Contained.{contained_cases, none_contained}
use Rattle.isle_core.proofs.ExprPaths.{all_append}

module _ (env : Environment) where
  -- the occurrence of a call is one of k after n
  abbrev pub IsInRange : (n k : ℕ) → Path → Type 0
  IsInRange n k p = (j : ℕ) → Contains (occurrence_at env p) j → (n < j) × (j ≤ n + k)

  wider : (n k l : ℕ) (ps : List Path) → k ≤ l → AllByRecursion (IsInRange n k) ps → AllByRecursion (IsInRange n l) ps
  wider n k l [] le h = tt
  wider n k l (p ∷ ps) le h = ((λ j c. let r = h.0 j c in let up = r.1 in (r.0, omega arith)), wider n k l ps le h.1)

  later : (n k l : ℕ) (ps : List Path) → AllByRecursion (IsInRange (n + k) l) ps → AllByRecursion (IsInRange n (k + l)) ps
  later n k l [] h = tt
  later n k l (p ∷ ps) h = ((λ j c. let r = h.0 j c in let low = r.0 in let up = r.1 in (omega arith, omega arith)), later n k l ps h.1)

  turn_range : (c : Calling) (n k j : ℕ) → Contains (occurrence c (instance_of c (n + k))) j → (n < j) × (j ≤ n + one_more c k)
  turn_range (ByTurns callee kind) n k j h = ⊎_elim (λ (e : suc (n + k) ≡ j). (omega arith, omega arith)) (λ d. absurd (none_contained j d)) (contained_cases (suc (n + k)) [] j h)
  turn_range (ByCases callee kind) n k j h = absurd (none_contained j h)
  turn_range NoCall n k j h = absurd (none_contained j h)

  term_range : (mk : Making) (term : TermId) (ps : Paths) (n k : ℕ) → IsInRange n (one_more (calling env term) k) (term_path mk term ps (instance_of (calling env term) (n + k)))
  term_range (MakesVariant ty variant) term ps n k j h = absurd (none_contained j h)
  term_range (MakesStruct ty) term ps n k j h = absurd (none_contained j h)
  term_range MakesNothing term ps n k j h = turn_range (calling env term) n k j h

  one_range : (n k : ℕ) (counts : Bool) (p : Path) → IsInRange n k p → AllByRecursion (IsInRange n k) (cond counts (p ∷ []) [])
  one_range n k true p h = (h, tt)
  one_range n k false p h = tt

  grows : (c : Calling) (k : ℕ) → k ≤ one_more c k
  grows (ByTurns callee kind) k = omega arith
  grows (ByCases callee kind) k = omega arith
  grows NoCall k = omega arith

  mutual
    pub calls_range : (e : Expr) (places : Places) (n : ℕ) → AllByRecursion (IsInRange n (impure env e)) (calls env e places n)
    calls_range (expr.Var ty x) places n = tt
    calls_range (expr.ConstBool v) places n = tt
    calls_range (expr.ConstInt ty v) places n = tt
    calls_range (expr.ConstPrim ty name) places n = tt
    calls_range (expr.Term ty term es) places n =
        let c = calling env term in
        let k = impure_all env es in
        let p = call_path env term (paths env es places n) (n + k) in
        all_append (IsInRange n (one_more c k)) (calls_all env es places n) (if_ordered env c p) (wider n k (one_more c k) (calls_all env es places n) (grows c k) (all_range es places n))
        (one_range n (one_more c k) (is_ordered c || (answers_often c && holds_impure env p)) p (term_range (making env term) term (paths env es places n) n k))
    calls_range (expr.Let ty bs inner) places n =
        let k = impure_bindings env bs in
        let l = impure env inner in
        let mid = let_places env bs places n in
        all_append (IsInRange n (k + l)) (calls_bindings env bs places n) (calls env inner mid (n + k)) (wider n k (k + l) (calls_bindings env bs places n) (omega arith) (bindings_range bs places n)) (later n k l (calls env inner mid (n + k)) (calls_range inner mid (n + k)))

    all_range : (es : Exprs) (places : Places) (n : ℕ) → AllByRecursion (IsInRange n (impure_all env es)) (calls_all env es places n)
    all_range NoExpr places n = tt
    all_range (AnExpr e es) places n =
        let k = impure env e in
        let l = impure_all env es in
        all_append (IsInRange n (k + l)) (calls env e places n) (calls_all env es places (n + k)) (wider n k (k + l) (calls env e places n) (omega arith) (calls_range e places n)) (later n k l (calls_all env es places (n + k)) (all_range es places (n + k)))

    bindings_range : (bs : LetBindings) (places : Places) (n : ℕ) → AllByRecursion (IsInRange n (impure_bindings env bs)) (calls_bindings env bs places n)
    bindings_range NoBinding places n = tt
    bindings_range (ABinding x ty e bs) places n =
        let k = impure env e in
        let l = impure_bindings env bs in
        let next = with places x.0 (path env e places n) in
        all_append (IsInRange n (k + l)) (calls env e places n) (calls_bindings env bs next (n + k)) (wider n k (k + l) (calls env e places n) (omega arith) (calls_range e places n)) (later n k l (calls_bindings env bs next (n + k)) (bindings_range bs next (n + k)))
