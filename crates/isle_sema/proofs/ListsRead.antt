-- The lists whose items the tests, calls and result of a flat rule read are lists of the rule, and so are those within its lists.
use Rattle.std.proofs.Common.{◌≡◌, ⊎_elim, ℕ, zero, suc, ◌+◌, Bool, true, false, cond, List, [], ◌∷◌, ◌++◌, map, Option, Some, None, refl, sym, ap, ◌∙◌, subst, arith}
use Rattle.std.specs.Prelude.{◌&&◌, ◌||◌, Contains, slice_get, not}
use Rattle.std.specs.List.{AllByRecursion}
use Rattle.std.proofs.lemmas.List.Elements.{Contains-append_left, Contains-append_right}
use Rattle.isle_core.specs.declared.TermId.{TermId}
use Rattle.isle_core.specs.declared.TypeId.{TypeId}
use Rattle.isle_core.specs.declared.rule_sets.Constraint.TheVariants as constraint
use Rattle.isle_core.specs.declared.rule_sets.FlatRule.{FlatRule}
use Rattle.isle_core.specs.declared.types.Term.{Term}
use Rattle.isle_core.specs.declared.types.TermKind.{TermKind}
use Rattle.isle_core.specs.declared.types.TermKind.TheVariants as kind
use Rattle.isle_core.specs.Calling.{Calling, answers_often, is_fallible, calling, calling_by, calling_of, extracting, kind_of, pure_callee, instance_of, impure, impure_all, impure_bindings, is_ordered}
use Rattle.isle_core.specs.Expr as expr
use Rattle.isle_core.specs.Expr.{Expr, Exprs, NoExpr, AnExpr, LetBindings, NoBinding, ABinding}
use Rattle.isle_core.specs.ExprType.{in_condition, IsExprOf, AreExprsOf, AreBindingsOf, AreIfLetsOf}
use Rattle.isle_core.specs.HoldsImpure.{holds_impure}
use Rattle.isle_core.specs.Iterators.{calls_multi}
use Rattle.isle_core.specs.Making.{Making, MakesVariant, MakesStruct, MakesNothing, making_kind, making, making_of}
use Rattle.isle_core.specs.Match.{with}
use Rattle.isle_core.specs.Opening.{Opening, AsVariant, AsStruct, ByExtractor, opening_by, opening, answer_path, result_path, part_path}
use Rattle.isle_core.specs.OrderedCalls.{if_ordered, calls, calls_all, calls_bindings, rule_calls}
use Rattle.isle_core.specs.Path.{Path, Arg, Called, Chosen, Inner, Extracted, Paths, at}
use Rattle.isle_core.specs.Pattern as pattern
use Rattle.isle_core.specs.Pattern.{Pattern, Patterns, NoPattern, APattern}
use Rattle.isle_core.specs.RightSide.{path_or, path, paths as all_paths, term_path, call_path, let_places}
use Rattle.isle_core.specs.Rule.{IfLet, Rule, Environment}
use Rattle.isle_core.specs.RulePaths.{opening_paths, pattern_paths, parts_paths, each_paths, args_paths, iflets_paths, with_inner, expr_paths, exprs_paths, bindings_paths, rule_paths}
use Rattle.isle_core.specs.RuleSet.{flat_tests}
use Rattle.isle_core.specs.StandsFor.{IsFlat}
use Rattle.isle_core.specs.Tests.{Test, Is, Equal, HasItem, Places, no_places, met_tests, met_after, found_tests, opening_tests, tests, parts_tests, each_tests, after, after_parts, after_each, args_tests, args_after, called_tests, all_called_tests, bindings_called_tests, iflets_tests, iflets_after, rule_tests, rule_places, rule_result}
use Rattle.isle_core.specs.Terms.{impure_callee}
use Rattle.isle_core.specs.TypedVariables.{typed_variables, let_variables, all_typed}
use Rattle.isle_core.proofs.ChoiceLists.{ListsWithin, AllListsWithin}
use Rattle.isle_core.proofs.ChosenItems.{call_first}
use Rattle.isle_core.proofs.ConditionTests.{no_impure, some_of}
use Rattle.isle_core.proofs.Contained.{tail_contained, none_contained}
use Rattle.isle_core.proofs.ExprPaths.{IsPlaceSo, ArePlacedSo, with_placed, path_so}
use Rattle.isle_core.proofs.FirstItems.{firsts_hold, among_firsts}
use Rattle.isle_core.proofs.ListLaws.{filter_from, filter_keeps}
use Rattle.isle_core.proofs.RulePairs.{all_from, all_at}
use Rattle.isle_templates.specs.TypedRule.{IsRuleOf}

all_joined : {A : Type 0} (P : A → Type 0) (xs ys : List A) → AllByRecursion P xs → AllByRecursion P ys → AllByRecursion P (xs ++ ys)
all_joined P [] ys h k = k
all_joined P (x ∷ xs) ys h k = (h.0, all_joined P xs ys h.1 k)

-- the lists within what a test reads are among these
abbrev pub ReadsLists : List Path → Test → Type 0
ReadsLists before (Is p c) = ListsWithin before p
ReadsLists before (Equal p q) = ListsWithin before p × ListsWithin before q
ReadsLists before (HasItem p) = ListsWithin before p

-- so of each test, each call and the result of a flat rule whose bindings have these paths, and of each of its lists
pub record ReadsItsLists (ps : List Path) (f : FlatRule) : Type 0 where
  pub tests : AllByRecursion (ReadsLists (map (at ps) f.iterators)) (flat_tests ps f)
  pub lists : AllByRecursion (ListsWithin (map (at ps) f.iterators)) (map (at ps) f.iterators)
  pub ordered : AllByRecursion (ListsWithin (map (at ps) f.iterators)) (map (at ps) f.ordered)
  pub result : ListsWithin (map (at ps) f.iterators) (at ps f.result)

-- the extractor of an opening is how its term is called
abbrev IsOpenedBy : Environment → Opening → Type 0
IsOpenedBy env (AsVariant ty variant) = Unit {0}
IsOpenedBy env (AsStruct ty) = Unit {0}
IsOpenedBy env (ByExtractor term c count) = extracting env term ≡ c

opened_by : (env : Environment) (term : TermId) (mk : Making) (c : Calling) (o : Option Term) → extracting env term ≡ c → IsOpenedBy env (opening_by term mk c o)
opened_by env term (MakesVariant ty variant) c o e = tt
opened_by env term (MakesStruct ty) c o e = tt
opened_by env term MakesNothing c o e = e

-- what a type makes is not called
no_making : (env : Environment) (o : Option Term) (mk : Making) → making_of o ≡ mk → answers_often (calling_of env o) ≡ true → mk ≡ MakesNothing
no_making env None mk e often = cc
no_making env (Some t) mk e often = of_kind t.kind e often
  where
    of_kind : (k : TermKind) → making_kind k ≡ mk → answers_often (calling_by (kind_of k) (impure_callee env t k) (pure_callee env t k)) ≡ true → mk ≡ MakesNothing
    of_kind (kind.Decl pure multi partial recursive by how) f g = sym f
    of_kind (kind.Variant ty variant) f g = cc
    of_kind (kind.Struct ty) f g = cc

module _ (env : Environment) (before : List Path) where
  -- the lists among these are among all
  abbrev AreListed : List Path → Type 0
  AreListed xs = (p : Path) → Contains xs p → calls_multi env p ≡ true → Contains before p

  -- ---- answers

  inner_within : (often fallible : Bool) (p : Path) → (often ≡ true → Contains before p) → ListsWithin before p → AllByRecursion (ListsWithin before) (cond often (p ∷ Chosen p ∷ []) (cond fallible (p ∷ Inner p ∷ []) (p ∷ [])))
  inner_within true fallible p h k = (k, ((h refl, k), tt))
  inner_within false true p h k = (k, (k, tt))
  inner_within false false p h k = (k, tt)

  answer_within : (often fallible : Bool) (p : Path) → (often ≡ true → Contains before p) → ListsWithin before p → ListsWithin before (cond often (Chosen p) (cond fallible (Inner p) p))
  answer_within true fallible p h k = (h refl, k)
  answer_within false true p h k = k
  answer_within false false p h k = k

  result_within : (count i : ℕ) (p : Path) → ListsWithin before p → ListsWithin before (result_path count i p)
  result_within zero i p h = h
  result_within (suc zero) i p h = h
  result_within (suc (suc count)) i p h = h

  -- the answer of an extractor, if it is a list, is listed
  extracted_listed : (term : TermId) (c : Calling) (p : Path) → extracting env term ≡ c → AreListed (with_inner c (Extracted term p)) → answers_often c ≡ true → Contains before (Extracted term p)
  extracted_listed term c p is h often = h (Extracted term p) (call_first (answers_often c) (is_fallible c) (Extracted term p)) (ap answers_often is ∙ often)

  part_within : (opened : Opening) (i : ℕ) (p : Path) → IsOpenedBy env opened → AreListed (opening_paths opened p) → ListsWithin before p → ListsWithin before (part_path opened i p)
  part_within (AsVariant ty variant) i p is h k = k
  part_within (AsStruct ty) i p is h k = k
  part_within (ByExtractor term c count) i p is h k = result_within count i (answer_path c (Extracted term p)) (answer_within (answers_often c) (is_fallible c) (Extracted term p) (extracted_listed term c p is h) k)

  found_reads : (often fallible : Bool) (p : Path) → ListsWithin before p → AllByRecursion (ReadsLists before) (cond often (HasItem p ∷ []) (cond fallible (Is p constraint.Some ∷ []) []))
  found_reads true fallible p h = (h, tt)
  found_reads false true p h = (h, tt)
  found_reads false false p h = tt

  -- ---- patterns

  -- these paths, what tests read, and where variables stand after them
  record IsRead (xs : List Path) (ts : List Test) (places : Places) : Type 0 where
    paths : AllByRecursion (ListsWithin before) xs
    tests : AllByRecursion (ReadsLists before) ts
    placed : ArePlacedSo (ListsWithin before) places

  read_more : (xs ys : List Path) (ts us : List Test) (mid later : Places) → IsRead xs ts mid → IsRead ys us later → IsRead (xs ++ ys) (ts ++ us) later
  read_more xs ys ts us mid later h k = record { paths = all_joined (ListsWithin before) xs ys h.paths k.paths; tests = all_joined (ReadsLists before) ts us h.tests k.tests; placed = k.placed }

  -- a path more, which no test reads
  path_more : (p : Path) (xs : List Path) (ts : List Test) (places : Places) → ListsWithin before p → IsRead xs ts places → IsRead (p ∷ xs) ts places
  path_more p xs ts places h k = record { paths = (h, k.paths); tests = k.tests; placed = k.placed }

  met_read : (o : Option Path) (x : ℕ) (p : Path) (places : Places) → IsPlaceSo (ListsWithin before) o → ListsWithin before p → ArePlacedSo (ListsWithin before) places → IsRead [] (met_tests o p) (met_after o x p places)
  met_read None x p places o h a = record { paths = tt; tests = tt; placed = with_placed (ListsWithin before) places x p h a }
  met_read (Some q) x p places o h a = record { paths = tt; tests = ((o, h), tt); placed = a }

  opening_read : (opened : Opening) (p : Path) (places : Places) → IsOpenedBy env opened → AreListed (opening_paths opened p) → ListsWithin before p → ArePlacedSo (ListsWithin before) places → IsRead (opening_paths opened p) (opening_tests opened p) places
  opening_read (AsVariant ty variant) p places is l h a = record { paths = tt; tests = (h, tt); placed = a }
  opening_read (AsStruct ty) p places is l h a = record { paths = tt; tests = (h, tt); placed = a }
  opening_read (ByExtractor term c count) p places is l h a =
      let q = Extracted term p in
      record { paths = inner_within (answers_often c) (is_fallible c) q (extracted_listed term c p is l) h; tests = found_reads (answers_often c) (is_fallible c) q h; placed = a }

  mutual
    -- a pattern on a path
    pattern_read : (q : Pattern) (p : Path) (places : Places) → ListsWithin before p → ArePlacedSo (ListsWithin before) places → AreListed (pattern_paths env q p) → IsRead (pattern_paths env q p) (tests env q p places) (after env q p places)
    pattern_read (pattern.Var ty x) p places h a l = met_read (places x.0) x.0 p places (a.by x.0) h a
    pattern_read (pattern.ConstBool b) p places h a l = record { paths = tt; tests = (h, tt); placed = a }
    pattern_read (pattern.ConstInt ty n) p places h a l = record { paths = tt; tests = (h, tt); placed = a }
    pattern_read (pattern.ConstPrim ty name) p places h a l = record { paths = tt; tests = (h, tt); placed = a }
    pattern_read (pattern.Wildcard ty) p places h a l = record { paths = tt; tests = tt; placed = a }
    pattern_read (pattern.Term ty term qs) p places h a l =
        let opened = opening env term in
        let own = opening_paths opened p in
        let others = parts_paths env opened qs 0 p in
        let is = opened_by env term (making env term) (extracting env term) (slice_get env.terms term.0) refl in
        let listed : AreListed own = λ x c. l x (Contains-append_left own others x c) in
        read_more own others (opening_tests opened p) (parts_tests env opened qs 0 p places) places (after_parts env opened qs 0 p places) (opening_read opened p places is listed h a)
        (parts_read qs opened 0 p places is listed h a (λ x c. l x (Contains-append_right own others x c)))
    pattern_read (pattern.BindPattern ty x q) p places h a l =
        let mid = met_after (places x.0) x.0 p places in
        let m = met_read (places x.0) x.0 p places (a.by x.0) h a in
        read_more [] (pattern_paths env q p) (met_tests (places x.0) p) (tests env q p mid) mid (after env q p mid) m (pattern_read q p mid h m.placed l)
    pattern_read (pattern.And ty qs) p places h a l = each_read qs p places h a l

    -- parts, each on its path
    parts_read : (qs : Patterns) (opened : Opening) (i : ℕ) (p : Path) (places : Places) → IsOpenedBy env opened → AreListed (opening_paths opened p) → ListsWithin before p → ArePlacedSo (ListsWithin before) places → AreListed (parts_paths env opened qs i p)
        → IsRead (parts_paths env opened qs i p) (parts_tests env opened qs i p places) (after_parts env opened qs i p places)
    parts_read NoPattern opened i p places is o h a l = record { paths = tt; tests = tt; placed = a }
    parts_read (APattern q qs) opened i p places is o h a l =
        let r = part_path opened i p in
        let mid = after env q r places in
        let own = pattern_paths env q r in
        let others = parts_paths env opened qs (suc i) p in
        let within = part_within opened i p is o h in
        let one = pattern_read q r places within a (λ x c. l x (tail_contained r (own ++ others) x (Contains-append_left own others x c))) in
        path_more r (own ++ others) (tests env q r places ++ parts_tests env opened qs (suc i) p mid) (after_parts env opened qs (suc i) p mid) within
        (read_more own others (tests env q r places) (parts_tests env opened qs (suc i) p mid) mid (after_parts env opened qs (suc i) p mid) one
        (parts_read qs opened (suc i) p mid is o h one.placed (λ x c. l x (tail_contained r (own ++ others) x (Contains-append_right own others x c)))))

    -- several patterns on one path
    each_read : (qs : Patterns) (p : Path) (places : Places) → ListsWithin before p → ArePlacedSo (ListsWithin before) places → AreListed (each_paths env qs p) → IsRead (each_paths env qs p) (each_tests env qs p places) (after_each env qs p places)
    each_read NoPattern p places h a l = record { paths = tt; tests = tt; placed = a }
    each_read (APattern q qs) p places h a l =
        let mid = after env q p places in
        let own = pattern_paths env q p in
        let others = each_paths env qs p in
        let one = pattern_read q p places h a (λ x c. l x (Contains-append_left own others x c)) in
        read_more own others (tests env q p places) (each_tests env qs p mid) mid (after_each env qs p mid) one (each_read qs p mid h one.placed (λ x c. l x (Contains-append_right own others x c)))

  -- patterns on arguments
  args_read : (qs : List Pattern) (i : ℕ) (places : Places) → ArePlacedSo (ListsWithin before) places → AreListed (args_paths env qs i) → IsRead (args_paths env qs i) (args_tests env qs i places) (args_after env qs i places)
  args_read [] i places a l = record { paths = tt; tests = tt; placed = a }
  args_read (q ∷ qs) i places a l =
      let mid = after env q (Arg i) places in
      let own = pattern_paths env q (Arg i) in
      let others = args_paths env qs (suc i) in
      let one = pattern_read q (Arg i) places tt a (λ x c. l x (tail_contained (Arg i) (own ++ others) x (Contains-append_left own others x c))) in
      path_more (Arg i) (own ++ others) (tests env q (Arg i) places ++ args_tests env qs (suc i) mid) (args_after env qs (suc i) mid) tt
      (read_more own others (tests env q (Arg i) places) (args_tests env qs (suc i) mid) mid (args_after env qs (suc i) mid) one
      (args_read qs (suc i) mid one.placed (λ x c. l x (tail_contained (Arg i) (own ++ others) x (Contains-append_right own others x c)))))

  -- ---- expressions

  place_within : (o : Option Path) → IsPlaceSo (ListsWithin before) o → ListsWithin before (path_or o)
  place_within None h = tt
  place_within (Some p) h = h

  -- the value of a term on such paths
  value_within : (mk : Making) (term : TermId) (qs : Paths) (k : ℕ) → AllListsWithin before qs → ListsWithin before (term_path mk term qs k)
  value_within MakesNothing term qs k h = h
  value_within (MakesVariant ty variant) term qs k h = h
  value_within (MakesStruct ty) term qs k h = h

  -- only a call is a list
  call_listed : (term : TermId) (mk : Making) (qs : Paths) (k : ℕ) → making env term ≡ mk → AreListed (with_inner (calling env term) (term_path mk term qs k)) → answers_often (calling env term) ≡ true → Contains before (term_path mk term qs k)
  call_listed term MakesNothing qs k e l often = l (Called term qs k) (call_first (answers_often (calling env term)) (is_fallible (calling env term)) (Called term qs k)) often
  call_listed term (MakesVariant ty variant) qs k e l often = let bad : MakesVariant ty variant ≡ MakesNothing = no_making env (slice_get env.terms term.0) (MakesVariant ty variant) e often in absurd cc
  call_listed term (MakesStruct ty) qs k e l often = let bad : MakesStruct ty ≡ MakesNothing = no_making env (slice_get env.terms term.0) (MakesStruct ty) e often in absurd cc

  ordered_within : (b : Bool) (p : Path) → ListsWithin before p → AllByRecursion (ListsWithin before) (cond b (p ∷ []) [])
  ordered_within true p h = (h, tt)
  ordered_within false p h = tt

  -- the paths of an expression and its ordered calls
  record IsSideRead (xs cs : List Path) : Type 0 where
    paths : AllByRecursion (ListsWithin before) xs
    calls : AllByRecursion (ListsWithin before) cs

  side_more : (xs ys cs ds : List Path) → IsSideRead xs cs → IsSideRead ys ds → IsSideRead (xs ++ ys) (cs ++ ds)
  side_more xs ys cs ds h k = record { paths = all_joined (ListsWithin before) xs ys h.paths k.paths; calls = all_joined (ListsWithin before) cs ds h.calls k.calls }

  mutual
    expr_read : (e : Expr) (places : Places) (n : ℕ) → ArePlacedSo (ListsWithin before) places → AreListed (expr_paths env e places n) → IsSideRead (expr_paths env e places n) (calls env e places n)
    expr_read (expr.Var ty x) places n a l = record { paths = (place_within (places x.0) (a.by x.0), tt); calls = tt }
    expr_read (expr.ConstBool b) places n a l = record { paths = (tt, tt); calls = tt }
    expr_read (expr.ConstInt ty v) places n a l = record { paths = (tt, tt); calls = tt }
    expr_read (expr.ConstPrim ty name) places n a l = record { paths = (tt, tt); calls = tt }
    expr_read (expr.Term ty term es) places n a l =
        let qs = all_paths env es places n in
        let k = instance_of (calling env term) (n + impure_all env es) in
        let q = term_path (making env term) term qs k in
        let own = with_inner (calling env term) q in
        let others = exprs_paths env es places n in
        let inner = exprs_read es places n a (λ x c. l x (Contains-append_left others own x c)) in
        let value = value_within (making env term) term qs k inner.1 in
        side_more others own (calls_all env es places n) (if_ordered env (calling env term) q) inner.0
        (record { paths = inner_within (answers_often (calling env term)) (is_fallible (calling env term)) q (call_listed term (making env term) qs k refl (λ x c. l x (Contains-append_right others own x c))) value; calls = ordered_within (is_ordered (calling env term) || (answers_often (calling env term) && holds_impure env q)) q value })
    expr_read (expr.Let ty bs e) places n a l =
        let mid = let_places env bs places n in
        let m = n + impure_bindings env bs in
        let own = bindings_paths env bs places n in
        let others = expr_paths env e mid m in
        let first = bindings_read bs places n a (λ x c. l x (Contains-append_left own others x c)) in
        side_more own others (calls_bindings env bs places n) (calls env e mid m) first.0 (expr_read e mid m first.1 (λ x c. l x (Contains-append_right own others x c)))

    -- so of expressions in order, and where their values stand
    exprs_read : (es : Exprs) (places : Places) (n : ℕ) → ArePlacedSo (ListsWithin before) places → AreListed (exprs_paths env es places n) → IsSideRead (exprs_paths env es places n) (calls_all env es places n) × AllListsWithin before (all_paths env es places n)
    exprs_read NoExpr places n a l = (record { paths = tt; calls = tt }, tt)
    exprs_read (AnExpr e es) places n a l =
        let m = n + impure env e in
        let own = expr_paths env e places n in
        let others = exprs_paths env es places m in
        let one = expr_read e places n a (λ x c. l x (Contains-append_left own others x c)) in
        let rest = exprs_read es places m a (λ x c. l x (Contains-append_right own others x c)) in
        (side_more own others (calls env e places n) (calls_all env es places m) one rest.0, (path_so (ListsWithin before) env e places n one.paths, rest.1))

    -- so of the values of a `let`, and where variables stand after them
    bindings_read : (bs : LetBindings) (places : Places) (n : ℕ) → ArePlacedSo (ListsWithin before) places → AreListed (bindings_paths env bs places n) → IsSideRead (bindings_paths env bs places n) (calls_bindings env bs places n) × ArePlacedSo (ListsWithin before) (let_places env bs places n)
    bindings_read NoBinding places n a l = (record { paths = tt; calls = tt }, a)
    bindings_read (ABinding x ty e bs) places n a l =
        let p = path env e places n in
        let mid = with places x.0 p in
        let m = n + impure env e in
        let own = expr_paths env e places n in
        let others = bindings_paths env bs mid m in
        let one = expr_read e places n a (λ y c. l y (Contains-append_left own others y c)) in
        let rest = bindings_read bs mid m (with_placed (ListsWithin before) places x.0 p (path_so (ListsWithin before) env e places n one.paths) a) (λ y c. l y (Contains-append_right own others y c)) in
        (side_more own others (calls env e places n) (calls_bindings env bs mid m) one rest.0, rest.1)

  -- ---- conditions

  mutual
    -- the tests of the calls of a condition's expression
    called_read : (vars : List (TypeId × ℕ)) (ty : TypeId) (e : Expr) (places : Places) → IsExprOf env in_condition vars ty e → ArePlacedSo (ListsWithin before) places → AreListed (expr_paths env e places 0) → AllByRecursion (ReadsLists before) (called_tests env e places)
    called_read vars ty (expr.Var of x) places h a l = tt
    called_read vars ty (expr.ConstBool b) places h a l = tt
    called_read vars ty (expr.ConstInt of v) places h a l = tt
    called_read vars ty (expr.ConstPrim of name) places h a l = tt
    called_read vars ty (expr.Term of term es) places h a l =
        let c = some_of (slice_get env.terms term.0) _ h.1 in
        let qs = all_paths env es places 0 in
        let listed : AreListed (exprs_paths env es places 0) = λ x d. l x (Contains-append_left (exprs_paths env es places 0) (with_inner (calling env term) (call_path env term qs (0 + impure_all env es))) x d) in
        let q = call_path env term qs 0 in
        all_joined (ReadsLists before) (all_called_tests env es places) (found_tests (calling env term) q) (all_called_read vars c.0.arg_tys es places c.2.2 a listed)
        (found_reads (answers_often (calling env term)) (is_fallible (calling env term)) q (value_within (making env term) term qs (instance_of (calling env term) 0) (exprs_read es places 0 a listed).1))
    called_read vars ty (expr.Let of bs e) places h a l =
        let mid = let_places env bs places 0 in
        let none = no_impure env vars ty (expr.Let of bs e) h in
        let none_there : 0 + impure_bindings env bs ≡ 0 = omega (arith, none) in
        let own = bindings_paths env bs places 0 in
        let others = expr_paths env e mid (0 + impure_bindings env bs) in
        let listed : AreListed own = λ x c. l x (Contains-append_left own others x c) in
        all_joined (ReadsLists before) (bindings_called_tests env bs places) (called_tests env e mid) (bindings_called_read vars bs places h.1 a listed)
        (called_read (let_variables vars bs) ty e mid h.2 (bindings_read bs places 0 a listed).1 (subst (λ n. AreListed (expr_paths env e mid n)) none_there (λ x c. l x (Contains-append_right own others x c))))

    all_called_read : (vars : List (TypeId × ℕ)) (tys : List TypeId) (es : Exprs) (places : Places) → AreExprsOf env in_condition vars tys es → ArePlacedSo (ListsWithin before) places → AreListed (exprs_paths env es places 0) → AllByRecursion (ReadsLists before) (all_called_tests env es places)
    all_called_read vars tys NoExpr places h a l = tt
    all_called_read vars (ty ∷ tys) (AnExpr e es) places h a l =
        let none = no_impure env vars ty e h.0 in
        let none_there : 0 + impure env e ≡ 0 = omega (arith, none) in
        let own = expr_paths env e places 0 in
        let others = exprs_paths env es places (0 + impure env e) in
        all_joined (ReadsLists before) (called_tests env e places) (all_called_tests env es places) (called_read vars ty e places h.0 a (λ x c. l x (Contains-append_left own others x c)))
        (all_called_read vars tys es places h.1 a (subst (λ n. AreListed (exprs_paths env es places n)) none_there (λ x c. l x (Contains-append_right own others x c))))
    all_called_read vars [] (AnExpr e es) places h a l = absurd h

    bindings_called_read : (vars : List (TypeId × ℕ)) (bs : LetBindings) (places : Places) → AreBindingsOf env in_condition vars bs → ArePlacedSo (ListsWithin before) places → AreListed (bindings_paths env bs places 0) → AllByRecursion (ReadsLists before) (bindings_called_tests env bs places)
    bindings_called_read vars NoBinding places h a l = tt
    bindings_called_read vars (ABinding x of e bs) places h a l =
        let p = path env e places 0 in
        let mid = with places x.0 p in
        let none = no_impure env vars of e h.1 in
        let none_there : 0 + impure env e ≡ 0 = omega (arith, none) in
        let own = expr_paths env e places 0 in
        let others = bindings_paths env bs mid (0 + impure env e) in
        let listed : AreListed own = λ y c. l y (Contains-append_left own others y c) in
        all_joined (ReadsLists before) (called_tests env e places) (bindings_called_tests env bs mid) (called_read vars of e places h.1 a listed)
        (bindings_called_read ((of, x.0) ∷ vars) bs mid h.2 (with_placed (ListsWithin before) places x.0 p (path_so (ListsWithin before) env e places 0 (expr_read e places 0 a listed).paths) a)
        (subst (λ n. AreListed (bindings_paths env bs mid n)) none_there (λ y c. l y (Contains-append_right own others y c))))

  iflets_read : (cs : List IfLet) (vars : List (TypeId × ℕ)) (places : Places) → AreIfLetsOf env vars cs → ArePlacedSo (ListsWithin before) places → AreListed (iflets_paths env cs places) → IsRead (iflets_paths env cs places) (iflets_tests env cs places) (iflets_after env cs places)
  iflets_read [] vars places h a l = record { paths = tt; tests = tt; placed = a }
  iflets_read (c ∷ cs) vars places h a l =
      let q = path env c.rhs places 0 in
      let mid = after env c.lhs q places in
      let value = expr_paths env c.rhs places 0 in
      let parts = pattern_paths env c.lhs q in
      let others = iflets_paths env cs mid in
      let listed : AreListed value = λ x d. l x (Contains-append_left (value ++ parts) others x (Contains-append_left value parts x d)) in
      let side = expr_read c.rhs places 0 a listed in
      let one = pattern_read c.lhs q places (path_so (ListsWithin before) env c.rhs places 0 side.paths) a (λ x d. l x (Contains-append_left (value ++ parts) others x (Contains-append_right value parts x d))) in
      let called = called_tests env c.rhs places in
      read_more (value ++ parts) others (called ++ tests env c.lhs q places) (iflets_tests env cs mid) mid (iflets_after env cs mid)
      (read_more value parts called (tests env c.lhs q places) places mid (record { paths = side.paths; tests = called_read vars h.0.ty c.rhs places h.0.rhs a listed; placed = a }) one)
      (iflets_read cs (vars ++ typed_variables c.lhs) mid h.1 one.placed (λ x d. l x (Contains-append_right (value ++ parts) others x d)))

-- ---- rules

-- what a typed rule reads of lists whose items are chosen: its paths, its tests, its ordered calls, and its result
record IsRuleRead (env : Environment) (before : List Path) (r : Rule) (n : ℕ) : Type 0 where
  paths : AllByRecursion (ListsWithin before) (rule_paths env r n)
  tests : AllByRecursion (ReadsLists before) (rule_tests env r)
  ordered : AllByRecursion (ListsWithin before) (rule_calls env r n)
  result : ListsWithin before (rule_result env r n)

rule_read : (env : Environment) (before : List Path) (t : Term) (r : Rule) (n : ℕ) → IsRuleOf env t r → ((p : Path) → Contains (rule_paths env r n) p → calls_multi env p ≡ true → Contains before p) → IsRuleRead env before r n
rule_read env before t r n h l =
    let first = args_paths env r.args 0 in
    let bound = args_after env r.args 0 no_places in
    let conditions = iflets_paths env r.iflets bound in
    let places = rule_places env r in
    let right = expr_paths env r.rhs places n in
    let args = args_read env before r.args 0 no_places (record { by = λ x. tt }) (λ x c. l x (Contains-append_left first (conditions ++ right) x c)) in
    let iflets = iflets_read env before r.iflets (all_typed r.args) bound h.iflets args.placed (λ x c. l x (Contains-append_right first (conditions ++ right) x (Contains-append_left conditions right x c))) in
    let side = expr_read env before r.rhs places n iflets.placed (λ x c. l x (Contains-append_right first (conditions ++ right) x (Contains-append_right conditions right x c))) in
    record {
      paths = all_joined (ListsWithin before) first (conditions ++ right) args.paths (all_joined (ListsWithin before) conditions right iflets.paths side.paths);
      tests = all_joined (ReadsLists before) (args_tests env r.args 0 no_places) (iflets_tests env r.iflets bound) args.tests iflets.tests;
      ordered = side.calls;
      result = path_so (ListsWithin before) env r.rhs places n side.paths;
    }

-- a flat rule that is a typed rule reads the items of its own lists alone
pub flat_reads : (env : Environment) (t : Term) (ps : List Path) (r : Rule) (n : ℕ) (f : FlatRule) → IsFlat env ps r n f → IsRuleOf env t r → ReadsItsLists ps f
flat_reads env t ps r n f flat h =
    let before = map (at ps) f.iterators in
    let paths = rule_paths env r n in
    let own : (p : Path) → Contains paths p → calls_multi env p ≡ true → Contains before p = λ p c e. ⊎_elim (λ d. absurd (none_contained p d)) (λ d. d) (firsts_hold p flat.iterators (filter_keeps (calls_multi env) paths p c e)) in
    let k = rule_read env before t r n h own in
    record {
      tests = all_from (ReadsLists before) (flat_tests ps f) (λ y c. all_at (ReadsLists before) (rule_tests env r) y k.tests (flat.no_other y c).0);
      lists = all_from (ListsWithin before) before (λ p c. all_at (ListsWithin before) paths p k.paths (filter_from (calls_multi env) paths p (among_firsts p flat.iterators c)).0);
      ordered = all_from (ListsWithin before) (map (at ps) f.ordered) (λ p c. all_at (ListsWithin before) (rule_calls env r n) p k.ordered (among_firsts p flat.ordered c));
      result = subst (ListsWithin before) (sym flat.result) k.result;
    }
