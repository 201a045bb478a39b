-- A rule's paths stand on its own calls: on pure ones, and on the impure ones of its right side.
use Rattle.std.proofs.Common.{◌≡◌, ℕ, zero, suc, ◌+◌, ◌≤◌, ◌<◌, List, [], ◌∷◌, ◌++◌, Bool, true, false, cond, Option, Some, None, arith}
use Rattle.std.specs.Prelude.{◌||◌, ◌&&◌}
use Rattle.std.specs.List.{AllByRecursion}
use Rattle.isle_base.specs.declared.ids.TermId.{TermId}
use Rattle.isle_base.specs.declared.ids.TypeId.{TypeId}
use Rattle.isle_core.specs.declared.rule_sets.Constraint.TheVariants as constraint
use Rattle.isle_core.specs.Calling.{Calling, ByTurns, ByCases, NoCall, calling, answers_often, is_fallible, is_ordered, instance_of, one_more, impure, impure_all, impure_bindings}
use Rattle.isle_core.specs.Expr as expr
use Rattle.isle_core.specs.Expr.{Expr, Exprs, NoExpr, AnExpr, LetBindings, NoBinding, ABinding}
use Rattle.isle_core.specs.ExprType.{AreIfLetsOf}
use Rattle.isle_core.specs.HoldsImpure.{holds_impure}
use Rattle.isle_core.specs.Making.{Making, MakesVariant, MakesStruct, MakesNothing, making}
use Rattle.isle_core.specs.Match.{with}
use Rattle.isle_core.specs.Opening.{Opening, AsVariant, AsStruct, ByExtractor, opening, result_path, part_path}
use Rattle.isle_core.specs.OrderedCalls.{calls, calls_all, calls_bindings, if_ordered}
use Rattle.isle_core.specs.Path.{Path, Arg, Extracted, Chosen, Inner, Paths}
use Rattle.isle_core.specs.Pattern as pattern
use Rattle.isle_core.specs.Pattern.{Pattern, Patterns, NoPattern, APattern}
use Rattle.isle_core.specs.RightSide.{path_or, term_path, call_path, answer_path, path, paths, let_places}
use Rattle.isle_core.specs.Rule.{Environment, IfLet, Rule}
use Rattle.isle_core.specs.Tests.{Test, Is, HasItem, Places, no_places, met_tests, met_after, found_tests, opening_tests, after, after_parts, after_each, tests, parts_tests, each_tests, args_tests, args_after, called_tests, all_called_tests, bindings_called_tests, iflets_tests, iflets_after, rule_tests, rule_places}
use Rattle.isle_core.specs.TypedVariables.{typed_variables, all_typed}
use Rattle.isle_core.specs.Served.{IsTested}
use Rattle.isle_core.proofs.ConditionTests.{no_impure}
use Rattle.isle_core.proofs.ExprPaths.{IsPlaceSo, ArePlacedSo, all_append, with_placed}
use Rattle.isle_core.proofs.OtherAnswers.{AreOf, AllAreOf, IsTestOf}

-- among these are that of pure calls, and the k after n
pub record Within (S : ℕ → Type 0) (n k : ℕ) : Type 0 where
  pub pure : S 0
  pub own : (j : ℕ) → n < j → j ≤ n + k → S j

-- those of a part
fewer : (S : ℕ → Type 0) (n k l : ℕ) → l ≤ k → Within S n k → Within S n l
fewer S n k l le h = record { pure = h.pure; own = λ j lt up. h.own j lt (omega arith) }

pub front : (S : ℕ → Type 0) (n k l : ℕ) → Within S n (k + l) → Within S n k
front S n k l h = fewer S n (k + l) k (omega arith) h

pub rest : (S : ℕ → Type 0) (n k l : ℕ) → Within S n (k + l) → Within S (n + k) l
rest S n k l h = record { pure = h.pure; own = λ j lt up. h.own j (omega arith) (omega arith) }

pub arguments : (S : ℕ → Type 0) (c : Calling) (n k : ℕ) → Within S n (one_more c k) → Within S n k
arguments S (ByTurns callee kind) n k h = fewer S n (suc k) k (omega arith) h
arguments S (ByCases callee kind) n k h = h
arguments S NoCall n k h = h

pub instance_within : (S : ℕ → Type 0) (c : Calling) (n k : ℕ) → Within S n (one_more c k) → S (instance_of c (n + k))
instance_within S (ByTurns callee kind) n k h = h.own (suc (n + k)) (omega arith) (omega arith)
instance_within S (ByCases callee kind) n k h = h.pure
instance_within S NoCall n k h = h.pure

tests_append : (S : ℕ → Type 0) (xs ys : List Test) → AllByRecursion (IsTestOf S) xs → AllByRecursion (IsTestOf S) ys → AllByRecursion (IsTestOf S) (xs ++ ys)
tests_append S [] ys h k = k
tests_append S (x ∷ xs) ys h k = (h.0, tests_append S xs ys h.1 k)

pub place_or : (S : ℕ → Type 0) (o : Option Path) → IsPlaceSo (AreOf S) o → AreOf S (path_or o)
place_or S None h = tt
place_or S (Some p) h = h

answer_of : (S : ℕ → Type 0) (c : Calling) (p : Path) → AreOf S p → AreOf S (answer_path c p)
answer_of S c p h = pick (answers_often c) (is_fallible c)
  where
    pick : (often fallible : Bool) → AreOf S (cond often (Chosen p) (cond fallible (Inner p) p))
    pick true fallible = h
    pick false true = h
    pick false false = h

pub term_of : (S : ℕ → Type 0) (made : Making) (term : TermId) (ps : Paths) (k : ℕ) → S k → AllAreOf S ps → AreOf S (term_path made term ps k)
term_of S (MakesVariant ty variant) term ps k s h = h
term_of S (MakesStruct ty) term ps k s h = h
term_of S MakesNothing term ps k s h = (s, h)

ordered_of : (S : ℕ → Type 0) (counts : Bool) (p : Path) → AreOf S p → AllByRecursion (AreOf S) (cond counts (p ∷ []) [])
ordered_of S true p h = (h, tt)
ordered_of S false p h = tt

found_of : (S : ℕ → Type 0) (c : Calling) (p : Path) → AreOf S p → AllByRecursion (IsTestOf S) (found_tests c p)
found_of S c p h = pick (answers_often c) (is_fallible c)
  where
    pick : (often fallible : Bool) → AllByRecursion (IsTestOf S) (cond often (HasItem p ∷ []) (cond fallible (Is p constraint.Some ∷ []) []))
    pick true fallible = (h, tt)
    pick false true = (h, tt)
    pick false false = tt

module _ (S : ℕ → Type 0) (env : Environment) where
  -- ---- right sides

  mutual
    -- the path of an expression after n calls
    pub path_of : (e : Expr) (places : Places) (n : ℕ) → Within S n (impure env e) → ArePlacedSo (AreOf S) places → AreOf S (path env e places n)
    path_of (expr.Var ty x) places n l b = place_or S (places x.0) (b.by x.0)
    path_of (expr.ConstBool v) places n l b = tt
    path_of (expr.ConstInt ty v) places n l b = tt
    path_of (expr.ConstPrim ty name) places n l b = tt
    path_of (expr.Term ty term es) places n l b =
        let k = n + impure_all env es in
        answer_of S (calling env term) (call_path env term (paths env es places n) k)
        (term_of S (making env term) term (paths env es places n) (instance_of (calling env term) k) (instance_within S (calling env term) n (impure_all env es) l) (paths_of es places n (arguments S (calling env term) n (impure_all env es) l) b))
    path_of (expr.Let ty bs inner) places n l b = path_of inner (let_places env bs places n) (n + impure_bindings env bs) (rest S n (impure_bindings env bs) (impure env inner) l) (let_of bs places n (front S n (impure_bindings env bs) (impure env inner) l) b)

    pub paths_of : (es : Exprs) (places : Places) (n : ℕ) → Within S n (impure_all env es) → ArePlacedSo (AreOf S) places → AllAreOf S (paths env es places n)
    paths_of NoExpr places n l b = tt
    paths_of (AnExpr e es) places n l b = (path_of e places n (front S n (impure env e) (impure_all env es) l) b, paths_of es places (n + impure env e) (rest S n (impure env e) (impure_all env es) l) b)

    pub let_of : (bs : LetBindings) (places : Places) (n : ℕ) → Within S n (impure_bindings env bs) → ArePlacedSo (AreOf S) places → ArePlacedSo (AreOf S) (let_places env bs places n)
    let_of NoBinding places n l b = b
    let_of (ABinding x ty e bs) places n l b = let_of bs (with places x.0 (path env e places n)) (n + impure env e) (rest S n (impure env e) (impure_bindings env bs) l) (with_placed (AreOf S) places x.0 (path env e places n) (path_of e places n (front S n (impure env e) (impure_bindings env bs) l) b) b)

  mutual
    -- and those of its calls in order
    pub calls_of : (e : Expr) (places : Places) (n : ℕ) → Within S n (impure env e) → ArePlacedSo (AreOf S) places → AllByRecursion (AreOf S) (calls env e places n)
    calls_of (expr.Var ty x) places n l b = tt
    calls_of (expr.ConstBool v) places n l b = tt
    calls_of (expr.ConstInt ty v) places n l b = tt
    calls_of (expr.ConstPrim ty name) places n l b = tt
    calls_of (expr.Term ty term es) places n l b =
        let c = calling env term in
        let k = n + impure_all env es in
        let p = call_path env term (paths env es places n) k in
        all_append (AreOf S) (calls_all env es places n) (if_ordered env c p) (all_calls_of es places n (arguments S c n (impure_all env es) l) b)
        (ordered_of S (is_ordered c || (answers_often c && holds_impure env p)) p
        (term_of S (making env term) term (paths env es places n) (instance_of c k) (instance_within S c n (impure_all env es) l) (paths_of es places n (arguments S c n (impure_all env es) l) b)))
    calls_of (expr.Let ty bs inner) places n l b =
        all_append (AreOf S) (calls_bindings env bs places n) (calls env inner (let_places env bs places n) (n + impure_bindings env bs)) (bindings_calls_of bs places n (front S n (impure_bindings env bs) (impure env inner) l) b)
        (calls_of inner (let_places env bs places n) (n + impure_bindings env bs) (rest S n (impure_bindings env bs) (impure env inner) l) (let_of bs places n (front S n (impure_bindings env bs) (impure env inner) l) b))

    pub all_calls_of : (es : Exprs) (places : Places) (n : ℕ) → Within S n (impure_all env es) → ArePlacedSo (AreOf S) places → AllByRecursion (AreOf S) (calls_all env es places n)
    all_calls_of NoExpr places n l b = tt
    all_calls_of (AnExpr e es) places n l b =
        all_append (AreOf S) (calls env e places n) (calls_all env es places (n + impure env e)) (calls_of e places n (front S n (impure env e) (impure_all env es) l) b) (all_calls_of es places (n + impure env e) (rest S n (impure env e) (impure_all env es) l) b)

    pub bindings_calls_of : (bs : LetBindings) (places : Places) (n : ℕ) → Within S n (impure_bindings env bs) → ArePlacedSo (AreOf S) places → AllByRecursion (AreOf S) (calls_bindings env bs places n)
    bindings_calls_of NoBinding places n l b = tt
    bindings_calls_of (ABinding x ty e bs) places n l b =
        let next = with places x.0 (path env e places n) in
        all_append (AreOf S) (calls env e places n) (calls_bindings env bs next (n + impure env e)) (calls_of e places n (front S n (impure env e) (impure_bindings env bs) l) b)
        (bindings_calls_of bs next (n + impure env e) (rest S n (impure env e) (impure_bindings env bs) l) (with_placed (AreOf S) places x.0 (path env e places n) (path_of e places n (front S n (impure env e) (impure_bindings env bs) l) b) b))

  -- ---- patterns

  met_of : (o : Option Path) (x : ℕ) (p : Path) (places : Places) → AreOf S p → ArePlacedSo (AreOf S) places → ArePlacedSo (AreOf S) (met_after o x p places)
  met_of None x p places h b = with_placed (AreOf S) places x p h b
  met_of (Some q) x p places h b = b

  met_tests_of : (o : Option Path) (p : Path) → IsPlaceSo (AreOf S) o → AreOf S p → AllByRecursion (IsTestOf S) (met_tests o p)
  met_tests_of None p k h = tt
  met_tests_of (Some q) p k h = ((k, h), tt)

  result_of : (count i : ℕ) (p : Path) → AreOf S p → AreOf S (result_path count i p)
  result_of zero i p h = h
  result_of (suc zero) i p h = h
  result_of (suc (suc count)) i p h = h

  pub part_of : (opened : Opening) (i : ℕ) (p : Path) → AreOf S p → AreOf S (part_path opened i p)
  part_of (AsVariant ty variant) i p h = h
  part_of (AsStruct ty) i p h = h
  part_of (ByExtractor term c count) i p h = result_of count i (answer_path c (Extracted term p)) (answer_of S c (Extracted term p) h)

  opening_of : (opened : Opening) (p : Path) → AreOf S p → AllByRecursion (IsTestOf S) (opening_tests opened p)
  opening_of (AsVariant ty variant) p h = (h, tt)
  opening_of (AsStruct ty) p h = (h, tt)
  opening_of (ByExtractor term c count) p h = found_of S c (Extracted term p) h

  mutual
    pub after_of : (q : Pattern) (p : Path) (places : Places) → AreOf S p → ArePlacedSo (AreOf S) places → ArePlacedSo (AreOf S) (after env q p places)
    after_of (pattern.Var ty x) p places h b = met_of (places x.0) x.0 p places h b
    after_of (pattern.ConstBool v) p places h b = b
    after_of (pattern.ConstInt ty v) p places h b = b
    after_of (pattern.ConstPrim ty name) p places h b = b
    after_of (pattern.Wildcard ty) p places h b = b
    after_of (pattern.Term ty term qs) p places h b = parts_of qs (opening env term) 0 p places h b
    after_of (pattern.BindPattern ty x q) p places h b = after_of q p (met_after (places x.0) x.0 p places) h (met_of (places x.0) x.0 p places h b)
    after_of (pattern.And ty qs) p places h b = each_of qs p places h b

    each_of : (qs : Patterns) (p : Path) (places : Places) → AreOf S p → ArePlacedSo (AreOf S) places → ArePlacedSo (AreOf S) (after_each env qs p places)
    each_of NoPattern p places h b = b
    each_of (APattern q qs) p places h b = each_of qs p (after env q p places) h (after_of q p places h b)

    parts_of : (qs : Patterns) (opened : Opening) (i : ℕ) (p : Path) (places : Places) → AreOf S p → ArePlacedSo (AreOf S) places → ArePlacedSo (AreOf S) (after_parts env opened qs i p places)
    parts_of NoPattern opened i p places h b = b
    parts_of (APattern q qs) opened i p places h b = parts_of qs opened (suc i) p (after env q (part_path opened i p) places) h (after_of q (part_path opened i p) places (part_of opened i p h) b)

  mutual
    pub tests_of : (q : Pattern) (p : Path) (places : Places) → AreOf S p → ArePlacedSo (AreOf S) places → AllByRecursion (IsTestOf S) (tests env q p places)
    tests_of (pattern.Var ty x) p places h b = met_tests_of (places x.0) p (b.by x.0) h
    tests_of (pattern.ConstBool v) p places h b = (h, tt)
    tests_of (pattern.ConstInt ty v) p places h b = (h, tt)
    tests_of (pattern.ConstPrim ty name) p places h b = (h, tt)
    tests_of (pattern.Wildcard ty) p places h b = tt
    tests_of (pattern.Term ty term qs) p places h b = tests_append S (opening_tests (opening env term) p) (parts_tests env (opening env term) qs 0 p places) (opening_of (opening env term) p h) (parts_tests_of qs (opening env term) 0 p places h b)
    tests_of (pattern.BindPattern ty x q) p places h b =
        tests_append S (met_tests (places x.0) p) (tests env q p (met_after (places x.0) x.0 p places)) (met_tests_of (places x.0) p (b.by x.0) h) (tests_of q p (met_after (places x.0) x.0 p places) h (met_of (places x.0) x.0 p places h b))
    tests_of (pattern.And ty qs) p places h b = each_tests_of qs p places h b

    each_tests_of : (qs : Patterns) (p : Path) (places : Places) → AreOf S p → ArePlacedSo (AreOf S) places → AllByRecursion (IsTestOf S) (each_tests env qs p places)
    each_tests_of NoPattern p places h b = tt
    each_tests_of (APattern q qs) p places h b = tests_append S (tests env q p places) (each_tests env qs p (after env q p places)) (tests_of q p places h b) (each_tests_of qs p (after env q p places) h (after_of q p places h b))

    parts_tests_of : (qs : Patterns) (opened : Opening) (i : ℕ) (p : Path) (places : Places) → AreOf S p → ArePlacedSo (AreOf S) places → AllByRecursion (IsTestOf S) (parts_tests env opened qs i p places)
    parts_tests_of NoPattern opened i p places h b = tt
    parts_tests_of (APattern q qs) opened i p places h b =
        tests_append S (tests env q (part_path opened i p) places) (parts_tests env opened qs (suc i) p (after env q (part_path opened i p) places)) (tests_of q (part_path opened i p) places (part_of opened i p h) b)
        (parts_tests_of qs opened (suc i) p (after env q (part_path opened i p) places) h (after_of q (part_path opened i p) places (part_of opened i p h) b))

  args_tests_of : (qs : List Pattern) (i : ℕ) (places : Places) → ArePlacedSo (AreOf S) places → AllByRecursion (IsTestOf S) (args_tests env qs i places)
  args_tests_of [] i places b = tt
  args_tests_of (q ∷ qs) i places b = tests_append S (tests env q (Arg i) places) (args_tests env qs (suc i) (after env q (Arg i) places)) (tests_of q (Arg i) places tt b) (args_tests_of qs (suc i) (after env q (Arg i) places) (after_of q (Arg i) places tt b))

  pub args_of : (qs : List Pattern) (i : ℕ) (places : Places) → ArePlacedSo (AreOf S) places → ArePlacedSo (AreOf S) (args_after env qs i places)
  args_of [] i places b = b
  args_of (q ∷ qs) i places b = args_of qs (suc i) (after env q (Arg i) places) (after_of q (Arg i) places tt b)

  -- ---- conditions

  -- one of no impure call is within each
  pub none_within : (n k : ℕ) → S 0 → k ≡ 0 → Within S n k
  none_within n k s none = record { pure = s; own = λ j lt up. let bad : ⊥ = omega arith in absurd bad }

  -- a sum is none if both parts are
  left_none : (a b : ℕ) → a + b ≡ 0 → a ≡ 0
  left_none a b e = omega arith

  right_none : (a b : ℕ) → a + b ≡ 0 → b ≡ 0
  right_none a b e = omega arith

  args_none : (c : Calling) (n : ℕ) → one_more c n ≡ 0 → n ≡ 0
  args_none (ByTurns callee kind) n e = cc
  args_none (ByCases callee kind) n e = e
  args_none NoCall n e = e

  instance_none : (c : Calling) (n : ℕ) → S 0 → one_more c n ≡ 0 → S (instance_of c 0)
  instance_none (ByTurns callee kind) n s e = cc
  instance_none (ByCases callee kind) n s e = s
  instance_none NoCall n s e = s

  mutual
    called_of : (e : Expr) (places : Places) → S 0 → impure env e ≡ 0 → ArePlacedSo (AreOf S) places → AllByRecursion (IsTestOf S) (called_tests env e places)
    called_of (expr.Var ty x) places s e b = tt
    called_of (expr.ConstBool v) places s e b = tt
    called_of (expr.ConstInt ty v) places s e b = tt
    called_of (expr.ConstPrim ty name) places s e b = tt
    called_of (expr.Term ty term es) places s e b =
        let c = calling env term in
        let none = args_none c (impure_all env es) e in
        tests_append S (all_called_tests env es places) (found_tests c (call_path env term (paths env es places 0) 0)) (all_called_of es places s none b)
        (found_of S c (call_path env term (paths env es places 0) 0)
        (term_of S (making env term) term (paths env es places 0) (instance_of c 0) (instance_none c (impure_all env es) s e) (paths_of es places 0 (none_within 0 (impure_all env es) s none) b)))
    called_of (expr.Let ty bs inner) places s e b =
        let first = left_none (impure_bindings env bs) (impure env inner) e in
        tests_append S (bindings_called_tests env bs places) (called_tests env inner (let_places env bs places 0)) (bindings_called_of bs places s first b)
        (called_of inner (let_places env bs places 0) s (right_none (impure_bindings env bs) (impure env inner) e) (let_of bs places 0 (none_within 0 (impure_bindings env bs) s first) b))

    all_called_of : (es : Exprs) (places : Places) → S 0 → impure_all env es ≡ 0 → ArePlacedSo (AreOf S) places → AllByRecursion (IsTestOf S) (all_called_tests env es places)
    all_called_of NoExpr places s e b = tt
    all_called_of (AnExpr x es) places s e b =
        tests_append S (called_tests env x places) (all_called_tests env es places) (called_of x places s (left_none (impure env x) (impure_all env es) e) b) (all_called_of es places s (right_none (impure env x) (impure_all env es) e) b)

    bindings_called_of : (bs : LetBindings) (places : Places) → S 0 → impure_bindings env bs ≡ 0 → ArePlacedSo (AreOf S) places → AllByRecursion (IsTestOf S) (bindings_called_tests env bs places)
    bindings_called_of NoBinding places s e b = tt
    bindings_called_of (ABinding x ty v bs) places s e b =
        let first = left_none (impure env v) (impure_bindings env bs) e in
        tests_append S (called_tests env v places) (bindings_called_tests env bs (with places x.0 (path env v places 0))) (called_of v places s first b)
        (bindings_called_of bs (with places x.0 (path env v places 0)) s (right_none (impure env v) (impure_bindings env bs) e) (with_placed (AreOf S) places x.0 (path env v places 0) (path_of v places 0 (none_within 0 (impure env v) s first) b) b))

  iflets_of : (cs : List IfLet) (vars : List (TypeId × ℕ)) (places : Places) → S 0 → AreIfLetsOf env vars cs → ArePlacedSo (AreOf S) places → AllByRecursion (IsTestOf S) (iflets_tests env cs places) × ArePlacedSo (AreOf S) (iflets_after env cs places)
  iflets_of [] vars places s h b = (tt, b)
  iflets_of (c ∷ cs) vars places s h b =
      let q = path env c.rhs places 0 in
      let none = no_impure env vars h.0.ty c.rhs h.0.rhs in
      let stands = path_of c.rhs places 0 (none_within 0 (impure env c.rhs) s none) b in
      let own = tests_append S (called_tests env c.rhs places) (tests env c.lhs q places) (called_of c.rhs places s none b) (tests_of c.lhs q places stands b) in
      let more = iflets_of cs (vars ++ typed_variables c.lhs) (after env c.lhs q places) s h.1 (after_of c.lhs q places stands b) in
      (tests_append S (called_tests env c.rhs places ++ tests env c.lhs q places) (iflets_tests env cs (after env c.lhs q places)) own more.0, more.1)

  -- ---- rules

  pub no_places_of : ArePlacedSo (AreOf S) no_places
  no_places_of = record { by = λ x. tt }

  -- the tests of a rule stand on no impure call, nor do its variables' places
  pub rule_of : (tys : List TypeId) (r : Rule) → S 0 → IsTested env tys r → AllByRecursion (IsTestOf S) (rule_tests env r) × ArePlacedSo (AreOf S) (rule_places env r)
  rule_of tys r s h =
      let places = args_of r.args 0 no_places no_places_of in
      let more = iflets_of r.iflets (all_typed r.args) (args_after env r.args 0 no_places) s h.iflets places in
      (tests_append S (args_tests env r.args 0 no_places) (iflets_tests env r.iflets (args_after env r.args 0 no_places)) (args_tests_of r.args 0 no_places no_places_of) more.0, more.1)
