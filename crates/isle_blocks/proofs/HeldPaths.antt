-- A list with the paths that a rule speaks of holds what these are made over, and what the rule tests, calls and gives.
use Rattle.std.proofs.Common.{◌≡◌, ⊎_elim, ℕ, zero, suc, ◌+◌, List, [], ◌∷◌, ◌++◌, Bool, true, false, cond, Option, Some, None, sym, subst, arith}
use Rattle.std.specs.Prelude.{◌||◌, ◌&&◌, Contains, slice_get}
use Rattle.std.specs.List.{AllByRecursion}
use Rattle.std.proofs.lemmas.List.Elements.{Contains-append_left, Contains-append_right}
use Rattle.isle_core.specs.declared.TermId.{TermId}
use Rattle.isle_core.specs.declared.TypeId.{TypeId}
use Rattle.isle_core.specs.declared.rule_sets.Constraint.TheVariants as constraint
use Rattle.isle_core.specs.declared.types.ReturnKind.TheVariants as return_kind
use Rattle.isle_core.specs.declared.types.Term.{Term}
use Rattle.isle_core.specs.Calling.{Calling, ByTurns, ByCases, NoCall, answers_often, is_fallible, is_ordered, one_more, calling, extracting, instance_of, impure, impure_all, impure_bindings}
use Rattle.isle_core.specs.Expr as expr
use Rattle.isle_core.specs.Expr.{Expr, Exprs, NoExpr, AnExpr, LetBindings, NoBinding, ABinding}
use Rattle.isle_core.specs.ExprType.{AreIfLetsOf}
use Rattle.isle_core.specs.HoldsImpure.{holds_impure}
use Rattle.isle_core.specs.Iterators.{calls_multi}
use Rattle.isle_core.specs.Making.{Making, MakesVariant, MakesStruct, MakesNothing, making}
use Rattle.isle_core.specs.Match.{with}
use Rattle.isle_core.specs.Opening.{Opening, AsVariant, AsStruct, ByExtractor, opening_by, opening, answer_path, part_path}
use Rattle.isle_core.specs.OrderedCalls.{if_ordered, calls, calls_all, calls_bindings, rule_calls}
use Rattle.isle_core.specs.Path.{Path, Nowhere, Arg, Extracted, Called, Chosen, Inner, Paths}
use Rattle.isle_core.specs.Pattern as pattern
use Rattle.isle_core.specs.Pattern.{Pattern, Patterns, NoPattern, APattern}
use Rattle.isle_core.specs.RightSide.{path_or, term_path, call_path, path, paths, let_places}
use Rattle.isle_core.specs.Rule.{Environment, IfLet, Rule}
use Rattle.isle_core.specs.RulePaths.{with_inner, expr_paths, exprs_paths, bindings_paths, opening_paths, pattern_paths, parts_paths, each_paths, args_paths, iflets_paths, rule_paths}
use Rattle.isle_core.specs.Served.{IsTested}
use Rattle.isle_core.specs.Tests.{Test, Is, Equal, HasItem, Places, no_places, met_tests, met_after, found_tests, opening_tests, tests, parts_tests, each_tests, after, after_parts, after_each, args_tests, args_after, called_tests, all_called_tests, bindings_called_tests, iflets_tests, iflets_after, rule_tests, rule_places, rule_result}
use Rattle.isle_core.specs.TypedVariables.{typed_variables, all_typed}
use Rattle.isle_core.proofs.ChosenItems.{call_first}
use Rattle.isle_core.proofs.ConditionTests.{no_impure}
use Rattle.isle_core.proofs.Contained.{head_contained, tail_contained, contained_cases, none_contained}
use Rattle.isle_core.proofs.ExprPaths.{IsPlaceSo, ArePlacedSo, all_append, with_placed, path_so}
use Rattle.isle_blocks.specs.RuleReads.{AllAmong, IsOver}
use Rattle.isle_blocks.proofs.EachOrdered.{IsEach, each_append, each_none}

-- ---- tests

tests_append : (P : Test → Type 0) (xs ys : List Test) → AllByRecursion P xs → AllByRecursion P ys → AllByRecursion P (xs ++ ys)
tests_append P [] ys h k = k
tests_append P (x ∷ xs) ys h k = (h.0, tests_append P xs ys h.1 k)

-- ---- numbers of impure calls

both_none : (m n : ℕ) → m + n ≡ 0 → (m ≡ 0) × (n ≡ 0)
both_none m n e = (omega (arith, e), omega (arith, e))

arguments_none : (c : Calling) (n : ℕ) → one_more c n ≡ 0 → n ≡ 0
arguments_none (ByTurns callee kind) n e = cc
arguments_none (ByCases callee kind) n e = e
arguments_none NoCall n e = e

module _ (env : Environment) (l : List Path) (somewhere : Contains l Nowhere → ⊥) where
  -- ---- what the list holds

  -- a path of the list with what it is made over, and with its item if it calls a term that answers several times
  pub record IsHeld (p : Path) : Type 0 where
    pub itself : Contains l p
    pub over : IsOver l p
    pub chosen : calls_multi env p ≡ true → Contains l (Chosen p)

  -- what a test is of stands in the list
  abbrev pub IsTestHeld : Test → Type 0
  IsTestHeld (Is p c) = Contains l p
  IsTestHeld (Equal p q) = Contains l p × Contains l q
  IsTestHeld (HasItem p) = Unit {0}

  -- a call, with its inner value if it may be answered by nothing
  pub record IsCallHeld (p : Path) : Type 0 where
    pub itself : Contains l p
    pub inner : (term : TermId) (qs : Paths) (instance : ℕ) → p ≡ Called term qs instance → is_fallible (calling env term) ≡ true → Contains l (Inner p)

  -- these stand in the list
  abbrev Among : List Path → Type 0
  Among xs = (p : Path) → Contains xs p → Contains l p

  left : (xs ys : List Path) → Among (xs ++ ys) → Among xs
  left xs ys h p c = h p (Contains-append_left xs ys p c)

  right : (xs ys : List Path) → Among (xs ++ ys) → Among ys
  right xs ys h p c = h p (Contains-append_right xs ys p c)

  first : (p : Path) (xs : List Path) → Among (p ∷ xs) → Contains l p
  first p xs h = h p (head_contained p xs)

  rest : (p : Path) (xs : List Path) → Among (p ∷ xs) → Among xs
  rest p xs h q c = h q (tail_contained p xs q c)

  front : (xs ys : List Path) → AllByRecursion IsHeld (xs ++ ys) → AllByRecursion IsHeld xs
  front [] ys h = tt
  front (x ∷ xs) ys h = (h.0, front xs ys h.1)

  behind : (xs ys : List Path) → AllByRecursion IsHeld (xs ++ ys) → AllByRecursion IsHeld ys
  behind [] ys h = h
  behind (x ∷ xs) ys h = behind xs ys h.1

  -- ---- calls

  inner_held : (c : Calling) (p : Path) → IsOver l p → (calls_multi env p ≡ true → answers_often c ≡ true) → Among (with_inner c p) → AllByRecursion IsHeld (with_inner c p)
  inner_held c p over multi = pick (answers_often c) (is_fallible c) multi
    where
      pick : (often fallible : Bool) → (calls_multi env p ≡ true → often ≡ true) → Among (cond often (p ∷ Chosen p ∷ []) (cond fallible (p ∷ Inner p ∷ []) (p ∷ [])))
          → AllByRecursion IsHeld (cond often (p ∷ Chosen p ∷ []) (cond fallible (p ∷ Inner p ∷ []) (p ∷ [])))
      pick true fallible m h =
          let own = first p (Chosen p ∷ []) h in
          let item = first (Chosen p) [] (rest p (Chosen p ∷ []) h) in
          (record { itself = own; over = over; chosen = λ e. item }, (record { itself = item; over = own; chosen = λ e. absurd cc }, tt))
      pick false true m h =
          let own = first p (Inner p ∷ []) h in
          let value = first (Inner p) [] (rest p (Inner p ∷ []) h) in
          (record { itself = own; over = over; chosen = λ e. let bad = m e in absurd cc }, (record { itself = value; over = own; chosen = λ e. absurd cc }, tt))
      pick false false m h = (record { itself = first p [] h; over = over; chosen = λ e. let bad = m e in absurd cc }, tt)

  answer_held : (c : Calling) (p : Path) → AllByRecursion IsHeld (with_inner c p) → IsHeld (answer_path c p)
  answer_held c p = pick (answers_often c) (is_fallible c)
    where
      pick : (often fallible : Bool) → AllByRecursion IsHeld (cond often (p ∷ Chosen p ∷ []) (cond fallible (p ∷ Inner p ∷ []) (p ∷ []))) → IsHeld (cond often (Chosen p) (cond fallible (Inner p) p))
      pick true fallible h = h.1.0
      pick false true h = h.1.0
      pick false false h = h.0

  term_over : (mk : Making) (term : TermId) (ps : Paths) (k : ℕ) → AllAmong l ps → IsOver l (term_path mk term ps k)
  term_over (MakesVariant ty variant) term ps k h = h
  term_over (MakesStruct ty) term ps k h = h
  term_over MakesNothing term ps k h = h

  term_multi : (mk : Making) (term : TermId) (ps : Paths) (k : ℕ) → calls_multi env (term_path mk term ps k) ≡ true → answers_often (calling env term) ≡ true
  term_multi (MakesVariant ty variant) term ps k e = cc
  term_multi (MakesStruct ty) term ps k e = cc
  term_multi MakesNothing term ps k e = e

  -- ---- expressions

  place_held : (o : Option Path) → IsPlaceSo IsHeld o → Contains l (path_or o) → IsHeld (path_or o)
  place_held None h c = absurd (somewhere c)
  place_held (Some p) h c = h

  arguments_among : (es : Exprs) (places : Places) (n : ℕ) → AllByRecursion IsHeld (exprs_paths env es places n) → AllAmong l (paths env es places n)
  arguments_among NoExpr places n h = tt
  arguments_among (AnExpr e es) places n h =
      let more = exprs_paths env es places (n + impure env e) in
      ((path_so IsHeld env e places n (front (expr_paths env e places n) more h)).itself, arguments_among es places (n + impure env e) (behind (expr_paths env e places n) more h))

  -- the variables of a `let` stand at paths that are held
  let_held : (bs : LetBindings) (places : Places) (n : ℕ) → ArePlacedSo IsHeld places → AllByRecursion IsHeld (bindings_paths env bs places n) → ArePlacedSo IsHeld (let_places env bs places n)
  let_held NoBinding places n a h = a
  let_held (ABinding x ty e bs) places n a h =
      let p = path env e places n in
      let more = bindings_paths env bs (with places x.0 p) (n + impure env e) in
      let_held bs (with places x.0 p) (n + impure env e) (with_placed IsHeld places x.0 p (path_so IsHeld env e places n (front (expr_paths env e places n) more h)) a) (behind (expr_paths env e places n) more h)

  mutual
    expr_held : (e : Expr) (places : Places) (n : ℕ) → ArePlacedSo IsHeld places → Among (expr_paths env e places n) → AllByRecursion IsHeld (expr_paths env e places n)
    expr_held (expr.Var ty x) places n a h = (place_held (places x.0) (a.by x.0) (first (path_or (places x.0)) [] h), tt)
    expr_held (expr.ConstBool b) places n a h = (record { itself = first _ [] h; over = tt; chosen = λ e. absurd cc }, tt)
    expr_held (expr.ConstInt ty k) places n a h = (record { itself = first _ [] h; over = tt; chosen = λ e. absurd cc }, tt)
    expr_held (expr.ConstPrim ty name) places n a h = (record { itself = first _ [] h; over = tt; chosen = λ e. absurd cc }, tt)
    expr_held (expr.Term ty term es) places n a h =
        let k = instance_of (calling env term) (n + impure_all env es) in
        let ps = paths env es places n in
        let own = with_inner (calling env term) (term_path (making env term) term ps k) in
        let args = exprs_held es places n a (left (exprs_paths env es places n) own h) in
        all_append IsHeld (exprs_paths env es places n) own args
        (inner_held (calling env term) (term_path (making env term) term ps k) (term_over (making env term) term ps k (arguments_among es places n args)) (term_multi (making env term) term ps k) (right (exprs_paths env es places n) own h))
    expr_held (expr.Let ty bs inner) places n a h =
        let mid = let_places env bs places n in
        let more = expr_paths env inner mid (n + impure_bindings env bs) in
        let values = bindings_held bs places n a (left (bindings_paths env bs places n) more h) in
        all_append IsHeld (bindings_paths env bs places n) more values (expr_held inner mid (n + impure_bindings env bs) (let_held bs places n a values) (right (bindings_paths env bs places n) more h))

    exprs_held : (es : Exprs) (places : Places) (n : ℕ) → ArePlacedSo IsHeld places → Among (exprs_paths env es places n) → AllByRecursion IsHeld (exprs_paths env es places n)
    exprs_held NoExpr places n a h = tt
    exprs_held (AnExpr e es) places n a h =
        let more = exprs_paths env es places (n + impure env e) in
        all_append IsHeld (expr_paths env e places n) more (expr_held e places n a (left (expr_paths env e places n) more h)) (exprs_held es places (n + impure env e) a (right (expr_paths env e places n) more h))

    bindings_held : (bs : LetBindings) (places : Places) (n : ℕ) → ArePlacedSo IsHeld places → Among (bindings_paths env bs places n) → AllByRecursion IsHeld (bindings_paths env bs places n)
    bindings_held NoBinding places n a h = tt
    bindings_held (ABinding x ty e bs) places n a h =
        let p = path env e places n in
        let more = bindings_paths env bs (with places x.0 p) (n + impure env e) in
        let value = expr_held e places n a (left (expr_paths env e places n) more h) in
        all_append IsHeld (expr_paths env e places n) more value
        (bindings_held bs (with places x.0 p) (n + impure env e) (with_placed IsHeld places x.0 p (path_so IsHeld env e places n value) a) (right (expr_paths env e places n) more h))

  -- ---- patterns

  -- what holds of what a pattern calls and gives, of its variables' places, and of its tests
  record Opens (xs : List Path) (variables : Places) (ts : List Test) : Type 0 where
    paths : AllByRecursion IsHeld xs
    places : ArePlacedSo IsHeld variables
    tests : AllByRecursion IsTestHeld ts

  -- what takes a path apart is called, if it is, and its answer stands in the list
  abbrev IsOpened : Opening → Path → Type 0
  IsOpened (AsVariant ty variant) p = Unit {0}
  IsOpened (AsStruct ty) p = Unit {0}
  IsOpened (ByExtractor term c count) p = Contains l (Extracted term p) × IsHeld (answer_path c (Extracted term p))

  found_held : (c : Calling) (p : Path) → Contains l p → AllByRecursion IsTestHeld (found_tests c p)
  found_held c p h = pick (answers_often c) (is_fallible c)
    where
      pick : (often fallible : Bool) → AllByRecursion IsTestHeld (cond often (HasItem p ∷ []) (cond fallible (Is p constraint.Some ∷ []) []))
      pick true fallible = (tt, tt)
      pick false true = (h, tt)
      pick false false = tt

  opening_held : (term : TermId) (mk : Making) (t : Option Term) (p : Path) → IsHeld p → Among (opening_paths (opening_by term mk (extracting env term) t) p)
      → AllByRecursion IsHeld (opening_paths (opening_by term mk (extracting env term) t) p) × IsOpened (opening_by term mk (extracting env term) t) p
  opening_held term (MakesVariant ty variant) t p own h = (tt, tt)
  opening_held term (MakesStruct ty) t p own h = (tt, tt)
  opening_held term MakesNothing t p own h =
      let c = extracting env term in
      let all = inner_held c (Extracted term p) own.itself (λ e. e) h in
      (all, (h (Extracted term p) (call_first (answers_often c) (is_fallible c) (Extracted term p)), answer_held c (Extracted term p) all))

  opened_tests : (o : Opening) (p : Path) → IsHeld p → IsOpened o p → AllByRecursion IsTestHeld (opening_tests o p)
  opened_tests (AsVariant ty variant) p own h = (own.itself, tt)
  opened_tests (AsStruct ty) p own h = (own.itself, tt)
  opened_tests (ByExtractor term c count) p own h = found_held c (Extracted term p) h.0

  part_held : (o : Opening) (i : ℕ) (p : Path) → IsHeld p → IsOpened o p → Contains l (part_path o i p) → IsHeld (part_path o i p)
  part_held (AsVariant ty variant) i p own h c = record { itself = c; over = own.itself; chosen = λ e. absurd cc }
  part_held (AsStruct ty) i p own h c = record { itself = c; over = own.itself; chosen = λ e. absurd cc }
  part_held (ByExtractor term of zero) i p own h c = record { itself = c; over = h.1.itself; chosen = λ e. absurd cc }
  part_held (ByExtractor term of (suc zero)) i p own h c = h.1
  part_held (ByExtractor term of (suc (suc count))) i p own h c = record { itself = c; over = h.1.itself; chosen = λ e. absurd cc }

  met_held : (o : Option Path) (x : ℕ) (p : Path) (places : Places) → IsHeld p → ArePlacedSo IsHeld places → ArePlacedSo IsHeld (met_after o x p places)
  met_held None x p places h a = with_placed IsHeld places x p h a
  met_held (Some q) x p places h a = a

  met_tests_held : (o : Option Path) (p : Path) → IsPlaceSo IsHeld o → IsHeld p → AllByRecursion IsTestHeld (met_tests o p)
  met_tests_held None p k h = tt
  met_tests_held (Some q) p k h = ((k.itself, h.itself), tt)

  mutual
    pattern_opens : (q : Pattern) (p : Path) (places : Places) → IsHeld p → ArePlacedSo IsHeld places → Among (pattern_paths env q p) → Opens (pattern_paths env q p) (after env q p places) (tests env q p places)
    pattern_opens (pattern.Var ty x) p places h a k = record { paths = tt; places = met_held (places x.0) x.0 p places h a; tests = met_tests_held (places x.0) p (a.by x.0) h }
    pattern_opens (pattern.ConstBool b) p places h a k = record { paths = tt; places = a; tests = (h.itself, tt) }
    pattern_opens (pattern.ConstInt ty n) p places h a k = record { paths = tt; places = a; tests = (h.itself, tt) }
    pattern_opens (pattern.ConstPrim ty name) p places h a k = record { paths = tt; places = a; tests = (h.itself, tt) }
    pattern_opens (pattern.Wildcard ty) p places h a k = record { paths = tt; places = a; tests = tt }
    pattern_opens (pattern.Term ty term qs) p places h a k =
        let o = opening env term in
        let open' = opening_held term (making env term) (slice_get env.terms term.0) p h (left (opening_paths o p) (parts_paths env o qs 0 p) k) in
        let parts = parts_open qs o 0 p places h open'.1 a (right (opening_paths o p) (parts_paths env o qs 0 p) k) in
        record {
          paths = all_append IsHeld (opening_paths o p) (parts_paths env o qs 0 p) open'.0 parts.paths;
          places = parts.places;
          tests = tests_append IsTestHeld (opening_tests o p) (parts_tests env o qs 0 p places) (opened_tests o p h open'.1) parts.tests;
        }
    pattern_opens (pattern.BindPattern ty x q) p places h a k =
        let r = pattern_opens q p (met_after (places x.0) x.0 p places) h (met_held (places x.0) x.0 p places h a) k in
        record { paths = r.paths; places = r.places; tests = tests_append IsTestHeld (met_tests (places x.0) p) (tests env q p (met_after (places x.0) x.0 p places)) (met_tests_held (places x.0) p (a.by x.0) h) r.tests }
    pattern_opens (pattern.And ty qs) p places h a k = each_open qs p places h a k

    parts_open : (qs : Patterns) (o : Opening) (i : ℕ) (p : Path) (places : Places) → IsHeld p → IsOpened o p → ArePlacedSo IsHeld places → Among (parts_paths env o qs i p)
        → Opens (parts_paths env o qs i p) (after_parts env o qs i p places) (parts_tests env o qs i p places)
    parts_open NoPattern o i p places h open' a k = record { paths = tt; places = a; tests = tt }
    parts_open (APattern q qs) o i p places h open' a k =
        let r = part_path o i p in
        let inside = pattern_paths env q r in
        let more = parts_paths env o qs (suc i) p in
        let own = part_held o i p h open' (first r (inside ++ more) k) in
        let one = pattern_opens q r places own a (left inside more (rest r (inside ++ more) k)) in
        let others = parts_open qs o (suc i) p (after env q r places) h open' one.places (right inside more (rest r (inside ++ more) k)) in
        record {
          paths = (own, all_append IsHeld inside more one.paths others.paths);
          places = others.places;
          tests = tests_append IsTestHeld (tests env q r places) (parts_tests env o qs (suc i) p (after env q r places)) one.tests others.tests;
        }

    each_open : (qs : Patterns) (p : Path) (places : Places) → IsHeld p → ArePlacedSo IsHeld places → Among (each_paths env qs p) → Opens (each_paths env qs p) (after_each env qs p places) (each_tests env qs p places)
    each_open NoPattern p places h a k = record { paths = tt; places = a; tests = tt }
    each_open (APattern q qs) p places h a k =
        let one = pattern_opens q p places h a (left (pattern_paths env q p) (each_paths env qs p) k) in
        let others = each_open qs p (after env q p places) h one.places (right (pattern_paths env q p) (each_paths env qs p) k) in
        record {
          paths = all_append IsHeld (pattern_paths env q p) (each_paths env qs p) one.paths others.paths;
          places = others.places;
          tests = tests_append IsTestHeld (tests env q p places) (each_tests env qs p (after env q p places)) one.tests others.tests;
        }

  args_open : (qs : List Pattern) (i : ℕ) (places : Places) → ArePlacedSo IsHeld places → Among (args_paths env qs i) → Opens (args_paths env qs i) (args_after env qs i places) (args_tests env qs i places)
  args_open [] i places a k = record { paths = tt; places = a; tests = tt }
  args_open (q ∷ qs) i places a k =
      let inside = pattern_paths env q (Arg i) in
      let more = args_paths env qs (suc i) in
      let own : IsHeld (Arg i) = record { itself = first (Arg i) (inside ++ more) k; over = tt; chosen = λ e. absurd cc } in
      let one = pattern_opens q (Arg i) places own a (left inside more (rest (Arg i) (inside ++ more) k)) in
      let others = args_open qs (suc i) (after env q (Arg i) places) one.places (right inside more (rest (Arg i) (inside ++ more) k)) in
      record {
        paths = (own, all_append IsHeld inside more one.paths others.paths);
        places = others.places;
        tests = tests_append IsTestHeld (tests env q (Arg i) places) (args_tests env qs (suc i) (after env q (Arg i) places)) one.tests others.tests;
      }

  -- ---- conditions

  mutual
    called_held : (e : Expr) (places : Places) → impure env e ≡ 0 → Among (expr_paths env e places 0) → AllByRecursion IsTestHeld (called_tests env e places)
    called_held (expr.Var ty x) places e k = tt
    called_held (expr.ConstBool v) places e k = tt
    called_held (expr.ConstInt ty v) places e k = tt
    called_held (expr.ConstPrim ty name) places e k = tt
    called_held (expr.Term ty term es) places e k =
        let c = calling env term in
        let ps = paths env es places 0 in
        let none = arguments_none c (impure_all env es) e in
        let p = call_path env term ps (0 + impure_all env es) in
        let zero' : 0 + impure_all env es ≡ 0 = omega (arith, none) in
        let call = right (exprs_paths env es places 0) (with_inner c p) k p (call_first (answers_often c) (is_fallible c) p) in
        tests_append IsTestHeld (all_called_tests env es places) (found_tests c (call_path env term ps 0)) (all_called_held es places none (left (exprs_paths env es places 0) (with_inner c p) k))
        (found_held c (call_path env term ps 0) (subst (λ n. Contains l (call_path env term ps n)) zero' call))
    called_held (expr.Let ty bs inner) places e k =
        let none = both_none (impure_bindings env bs) (impure env inner) e in
        let mid = let_places env bs places 0 in
        let more = expr_paths env inner mid (0 + impure_bindings env bs) in
        let first' = none.0 in
        let zero' : 0 + impure_bindings env bs ≡ 0 = omega (arith, first') in
        tests_append IsTestHeld (bindings_called_tests env bs places) (called_tests env inner mid) (bindings_called_held bs places none.0 (left (bindings_paths env bs places 0) more k))
        (called_held inner mid none.1 (subst (λ n. Among (expr_paths env inner mid n)) zero' (right (bindings_paths env bs places 0) more k)))

    all_called_held : (es : Exprs) (places : Places) → impure_all env es ≡ 0 → Among (exprs_paths env es places 0) → AllByRecursion IsTestHeld (all_called_tests env es places)
    all_called_held NoExpr places e k = tt
    all_called_held (AnExpr x es) places e k =
        let none = both_none (impure env x) (impure_all env es) e in
        let more = exprs_paths env es places (0 + impure env x) in
        let first' = none.0 in
        let zero' : 0 + impure env x ≡ 0 = omega (arith, first') in
        tests_append IsTestHeld (called_tests env x places) (all_called_tests env es places) (called_held x places none.0 (left (expr_paths env x places 0) more k))
        (all_called_held es places none.1 (subst (λ n. Among (exprs_paths env es places n)) zero' (right (expr_paths env x places 0) more k)))

    bindings_called_held : (bs : LetBindings) (places : Places) → impure_bindings env bs ≡ 0 → Among (bindings_paths env bs places 0) → AllByRecursion IsTestHeld (bindings_called_tests env bs places)
    bindings_called_held NoBinding places e k = tt
    bindings_called_held (ABinding x ty v bs) places e k =
        let none = both_none (impure env v) (impure_bindings env bs) e in
        let mid = with places x.0 (path env v places 0) in
        let more = bindings_paths env bs mid (0 + impure env v) in
        let first' = none.0 in
        let zero' : 0 + impure env v ≡ 0 = omega (arith, first') in
        tests_append IsTestHeld (called_tests env v places) (bindings_called_tests env bs mid) (called_held v places none.0 (left (expr_paths env v places 0) more k))
        (bindings_called_held bs mid none.1 (subst (λ n. Among (bindings_paths env bs mid n)) zero' (right (expr_paths env v places 0) more k)))

  iflets_open : (cs : List IfLet) (vars : List (TypeId × ℕ)) (places : Places) → AreIfLetsOf env vars cs → ArePlacedSo IsHeld places → Among (iflets_paths env cs places) → Opens (iflets_paths env cs places) (iflets_after env cs places) (iflets_tests env cs places)
  iflets_open [] vars places t a k = record { paths = tt; places = a; tests = tt }
  iflets_open (c ∷ cs) vars places t a k =
      let q = path env c.rhs places 0 in
      let made = expr_paths env c.rhs places 0 in
      let taken = pattern_paths env c.lhs q in
      let more = iflets_paths env cs (after env c.lhs q places) in
      let own = left (made ++ taken) more k in
      let value = expr_held c.rhs places 0 a (left made taken own) in
      let one = pattern_opens c.lhs q places (path_so IsHeld env c.rhs places 0 value) a (right made taken own) in
      let others = iflets_open cs (vars ++ typed_variables c.lhs) (after env c.lhs q places) t.1 one.places (right (made ++ taken) more k) in
      let called = called_held c.rhs places (no_impure env vars t.0.ty c.rhs t.0.rhs) (left made taken own) in
      record {
        paths = all_append IsHeld (made ++ taken) more (all_append IsHeld made taken value one.paths) others.paths;
        places = others.places;
        tests = tests_append IsTestHeld (called_tests env c.rhs places ++ tests env c.lhs q places) (iflets_tests env cs (after env c.lhs q places)) (tests_append IsTestHeld (called_tests env c.rhs places) (tests env c.lhs q places) called one.tests) others.tests;
      }

  -- ---- ordered calls

  same_term : (a b : TermId) (xs ys : Paths) (i j : ℕ) → Called a xs i ≡ Called b ys j → a ≡ b
  same_term a b xs ys i j h = cc

  fallible_inner : (c : Calling) (p : Path) → is_fallible c ≡ true → Contains (with_inner c p) (Inner p)
  fallible_inner (ByTurns callee return_kind.Plain) p e = absurd cc
  fallible_inner (ByTurns callee return_kind.Option) p e = tail_contained p (Inner p ∷ []) (Inner p) (head_contained (Inner p) [])
  fallible_inner (ByTurns callee return_kind.Iterator) p e = absurd cc
  fallible_inner (ByCases callee return_kind.Plain) p e = absurd cc
  fallible_inner (ByCases callee return_kind.Option) p e = tail_contained p (Inner p ∷ []) (Inner p) (head_contained (Inner p) [])
  fallible_inner (ByCases callee return_kind.Iterator) p e = absurd cc
  fallible_inner NoCall p e = absurd cc

  call_held : (mk : Making) (term : TermId) (ps : Paths) (k : ℕ) → Among (with_inner (calling env term) (term_path mk term ps k)) → IsCallHeld (term_path mk term ps k)
  call_held (MakesVariant ty variant) term ps k h = record { itself = h _ (call_first (answers_often (calling env term)) (is_fallible (calling env term)) _); inner = λ of qs instance is. absurd cc }
  call_held (MakesStruct ty) term ps k h = record { itself = h _ (call_first (answers_often (calling env term)) (is_fallible (calling env term)) _); inner = λ of qs instance is. absurd cc }
  call_held MakesNothing term ps k h = record {
    itself = h (Called term ps k) (call_first (answers_often (calling env term)) (is_fallible (calling env term)) (Called term ps k));
    inner = λ of qs instance is fallible. h (Inner (Called term ps k)) (fallible_inner (calling env term) (Called term ps k) (subst (λ x. is_fallible (calling env x) ≡ true) (sym (same_term term of ps qs k instance is)) fallible));
  }

  ordered_held : (b : Bool) (p : Path) → IsCallHeld p → IsEach IsCallHeld (cond b (p ∷ []) [])
  ordered_held true p h q c = ⊎_elim (λ (same : p ≡ q). subst IsCallHeld same h) (λ j. absurd (none_contained q j)) (contained_cases p [] q c)
  ordered_held false p h q c = absurd (none_contained q c)

  mutual
    calls_held : (e : Expr) (places : Places) (n : ℕ) → Among (expr_paths env e places n) → IsEach IsCallHeld (calls env e places n)
    calls_held (expr.Var ty x) places n h = each_none IsCallHeld
    calls_held (expr.ConstBool b) places n h = each_none IsCallHeld
    calls_held (expr.ConstInt ty k) places n h = each_none IsCallHeld
    calls_held (expr.ConstPrim ty name) places n h = each_none IsCallHeld
    calls_held (expr.Term ty term es) places n h =
        let c = calling env term in
        let k = instance_of c (n + impure_all env es) in
        let ps = paths env es places n in
        let p = term_path (making env term) term ps k in
        each_append IsCallHeld (calls_all env es places n) (if_ordered env c p) (all_calls_held es places n (left (exprs_paths env es places n) (with_inner c p) h))
        (ordered_held (is_ordered c || (answers_often c && holds_impure env p)) p (call_held (making env term) term ps k (right (exprs_paths env es places n) (with_inner c p) h)))
    calls_held (expr.Let ty bs inner) places n h =
        let mid = let_places env bs places n in
        let more = expr_paths env inner mid (n + impure_bindings env bs) in
        each_append IsCallHeld (calls_bindings env bs places n) (calls env inner mid (n + impure_bindings env bs)) (bindings_calls_held bs places n (left (bindings_paths env bs places n) more h))
        (calls_held inner mid (n + impure_bindings env bs) (right (bindings_paths env bs places n) more h))

    all_calls_held : (es : Exprs) (places : Places) (n : ℕ) → Among (exprs_paths env es places n) → IsEach IsCallHeld (calls_all env es places n)
    all_calls_held NoExpr places n h = each_none IsCallHeld
    all_calls_held (AnExpr e es) places n h =
        let more = exprs_paths env es places (n + impure env e) in
        each_append IsCallHeld (calls env e places n) (calls_all env es places (n + impure env e)) (calls_held e places n (left (expr_paths env e places n) more h)) (all_calls_held es places (n + impure env e) (right (expr_paths env e places n) more h))

    bindings_calls_held : (bs : LetBindings) (places : Places) (n : ℕ) → Among (bindings_paths env bs places n) → IsEach IsCallHeld (calls_bindings env bs places n)
    bindings_calls_held NoBinding places n h = each_none IsCallHeld
    bindings_calls_held (ABinding x ty e bs) places n h =
        let mid = with places x.0 (path env e places n) in
        let more = bindings_paths env bs mid (n + impure env e) in
        each_append IsCallHeld (calls env e places n) (calls_bindings env bs mid (n + impure env e)) (calls_held e places n (left (expr_paths env e places n) more h)) (bindings_calls_held bs mid (n + impure env e) (right (expr_paths env e places n) more h))

  -- ---- rules

  -- what holds of a rule whose paths the list has
  pub record IsRuleHeld (r : Rule) (n : ℕ) : Type 0 where
    pub paths : AllByRecursion IsHeld (rule_paths env r n)
    pub tests : AllByRecursion IsTestHeld (rule_tests env r)
    pub calls : IsEach IsCallHeld (rule_calls env r n)
    pub result : Contains l (rule_result env r n)

  pub rule_held : (tys : List TypeId) (r : Rule) (n : ℕ) → IsTested env tys r → Among (rule_paths env r n) → IsRuleHeld r n
  rule_held tys r n t h =
      let one = args_paths env r.args 0 in
      let mid = args_after env r.args 0 no_places in
      let two = iflets_paths env r.iflets mid in
      let three = expr_paths env r.rhs (rule_places env r) n in
      let args = args_open r.args 0 no_places (record { by = λ x. tt }) (left one (two ++ three) h) in
      let conditions = iflets_open r.iflets (all_typed r.args) mid t.iflets args.places (left two three (right one (two ++ three) h)) in
      let last = right two three (right one (two ++ three) h) in
      let value = expr_held r.rhs (rule_places env r) n conditions.places last in
      record {
        paths = all_append IsHeld one (two ++ three) args.paths (all_append IsHeld two three conditions.paths value);
        tests = tests_append IsTestHeld (args_tests env r.args 0 no_places) (iflets_tests env r.iflets mid) args.tests conditions.tests;
        calls = calls_held r.rhs (rule_places env r) n last;
        result = (path_so IsHeld env r.rhs (rule_places env r) n value).itself;
      }
