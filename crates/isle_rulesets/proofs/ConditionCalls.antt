-- An expression of a condition calls only pure terms: its paths are the same after any impure calls, it makes none, and its
-- calls in order are those that must find something.
use Rattle.std.proofs.Common.{◌≡◌, ℕ, ◌+◌, List, [], ◌∷◌, ◌++◌, map, Bool, true, false, cond, Option, Some, None, refl, sym, ap, ◌∙◌, subst, arith}
use Rattle.std.specs.Prelude.{◌||◌, IsSomeAnd, slice_get, filter}
use Rattle.std.proofs.lemmas.List.{map-append}
use Rattle.std.proofs.lemmas.List.Elements.{filter-append}
use Rattle.isle_core.specs.declared.TermId.{TermId}
use Rattle.isle_core.specs.declared.types.ReturnKind.{ReturnKind}
use Rattle.isle_core.specs.declared.types.ReturnKind.TheVariants as return_kind
use Rattle.isle_core.specs.declared.types.Term.{Term}
use Rattle.isle_core.specs.declared.types.TermKind.{TermKind}
use Rattle.isle_core.specs.declared.types.TermKind.TheVariants as kind
use Rattle.isle_core.specs.declared.types.ConstructorKind.TheVariants as constructor
use Rattle.isle_core.specs.declared.values.Callee.{Callee}
use Rattle.isle_core.specs.declared.values.Callee.TheVariants.{External, Internal}
use Rattle.isle_core.specs.BuiltRule.{IsBuiltKind, IsPureKind, HasTerms, AllHaveTerms, BindingsHaveTerms, HasBuiltTerms, AllHaveBuiltTerms, BindingsHaveBuiltTerms}
use Rattle.isle_core.specs.Calling.{Calling, ByCases, NoCall, kind_by, calling, calling_of, calling_by, kind_of, pure_callee, instance_of, one_more, impure, impure_all, impure_bindings}
use Rattle.isle_core.specs.Expr as expr
use Rattle.isle_core.specs.Expr.{Expr, Exprs, NoExpr, AnExpr, LetBindings, NoBinding, ABinding}
use Rattle.isle_core.specs.Making.{Making, MakesVariant, MakesStruct, MakesNothing, making}
use Rattle.isle_core.specs.Match.{with}
use Rattle.isle_core.specs.Path.{Path, Paths, APath}
use Rattle.isle_core.specs.RightSide.{term_path, answer_path, call_path, path, paths, let_places}
use Rattle.isle_core.specs.RulePaths.{with_inner, expr_paths, exprs_paths, bindings_paths}
use Rattle.isle_core.specs.Terms.{sym_text, impure_callee}
use Rattle.isle_core.specs.Tests.{Test, HasItem, Places, found_tests, called_tests, all_called_tests, bindings_called_tests}
use Rattle.isle_core.specs.Rule.{Environment}
use Rattle.isle_rulesets.specs.Conditions.{is_something}
use Rattle.isle_rulesets.specs.Late.{is_own, has_turn, have_turn, HasNoTurns}
use Rattle.isle_rulesets.specs.Met.{call_met, list_met, expr_calls, exprs_calls, bindings_calls, expr_lists, exprs_lists, bindings_lists}
use Rattle.isle_rulesets.proofs.TurnLaws.{place_turn, with_turn, answer_turn}

-- ---- pure terms are built

kind_built : (k : TermKind) → IsPureKind k → IsBuiltKind k
kind_built (kind.Decl true multi partial recursive constructor.Internal extractor) h = tt
kind_built (kind.Decl true multi partial recursive (constructor.External func) extractor) h = tt
kind_built (kind.Variant ty variant) h = tt
kind_built (kind.Struct ty) h = tt
kind_built k h = absurd h

some_built : (o : Option Term) → IsSomeAnd o (λ (t : Term). IsPureKind t.kind) → IsSomeAnd o (λ (t : Term). IsBuiltKind t.kind)
some_built None h = absurd h
some_built (Some t) h = kind_built t.kind h

mutual
  -- so those of an expression
  pub terms_built : (e : Expr) (terms : List Term) → HasTerms IsPureKind terms e → HasBuiltTerms terms e
  terms_built (expr.Var ty x) terms h = tt
  terms_built (expr.ConstBool v) terms h = tt
  terms_built (expr.ConstInt ty v) terms h = tt
  terms_built (expr.ConstPrim ty name) terms h = tt
  terms_built (expr.Term ty term es) terms h = (some_built (slice_get terms term.0) h.0, all_built es terms h.1)
  terms_built (expr.Let ty bs inner) terms h = (bindings_built bs terms h.0, terms_built inner terms h.1)

  all_built : (es : Exprs) (terms : List Term) → AllHaveTerms IsPureKind terms es → AllHaveBuiltTerms terms es
  all_built NoExpr terms h = tt
  all_built (AnExpr e es) terms h = (terms_built e terms h.0, all_built es terms h.1)

  bindings_built : (bs : LetBindings) (terms : List Term) → BindingsHaveTerms IsPureKind terms bs → BindingsHaveBuiltTerms terms bs
  bindings_built NoBinding terms h = tt
  bindings_built (ABinding x ty e bs) terms h = (terms_built e terms h.0, bindings_built bs terms h.1)

-- ---- how pure terms are called

-- by cases, or not at all
data IsPureCalling : Calling → Type 0 where
  by_cases : (callee : Callee) (kind : ReturnKind) → IsPureCalling (ByCases callee kind)
  not_called : IsPureCalling NoCall

kind_pure : (env : Environment) (t : Term) (k : TermKind) → IsPureKind k → IsPureCalling (calling_by (kind_of k) (impure_callee env t k) (pure_callee env t k))
kind_pure env t (kind.Decl true multi partial recursive constructor.Internal extractor) h = by_cases (Internal (sym_text env t.name)) (kind_by multi partial)
kind_pure env t (kind.Decl true multi partial recursive (constructor.External func) extractor) h = by_cases (External (sym_text env func)) (kind_by multi partial)
kind_pure env t (kind.Variant ty variant) h = not_called
kind_pure env t (kind.Struct ty) h = not_called
kind_pure env t k h = absurd h

-- the occurrence of no impure call
instance_none : {c : Calling} (n : ℕ) → IsPureCalling c → instance_of c n ≡ 0
instance_none n (by_cases callee kind) = refl
instance_none n not_called = refl

term_turn : (mk : Making) (term : TermId) (ps : Paths) (k : ℕ) → k ≡ 0 → have_turn ps ≡ false → has_turn (term_path mk term ps k) ≡ false
term_turn (MakesVariant ty variant) term ps k none h = h
term_turn (MakesStruct ty) term ps k none h = h
term_turn MakesNothing term ps k none h = ap (λ n. is_own n || have_turn ps) none ∙ h

pure_of : (env : Environment) (o : Option Term) → IsSomeAnd o (λ (t : Term). IsPureKind t.kind) → IsPureCalling (calling_of env o)
pure_of env None h = absurd h
pure_of env (Some t) h = kind_pure env t t.kind h

same_instance : {c : Calling} (n m : ℕ) → IsPureCalling c → instance_of c n ≡ instance_of c m
same_instance n m (by_cases callee kind) = refl
same_instance n m not_called = refl

counts_none : {c : Calling} (n : ℕ) → IsPureCalling c → one_more c n ≡ n
counts_none n (by_cases callee kind) = refl
counts_none n not_called = refl

-- tests of a kind to which it does not belong that a list has an item
abbrev pub SkipsItems : (Test → Bool) → Type 0
SkipsItems keep = (p : Path) → keep (HasItem p) ≡ false

asked_of : {c : Calling} (keep : Test → Bool) (p : Path) → SkipsItems keep → IsPureCalling c → has_turn p ≡ false → filter keep (map is_something (call_met c p)) ≡ filter keep (found_tests c p)
asked_of keep p skips (by_cases callee return_kind.Plain) none = refl
asked_of keep p skips (by_cases callee return_kind.Option) none = refl
asked_of keep p skips (by_cases callee return_kind.Iterator) none = ap (λ b. filter keep (map is_something (cond b (p ∷ []) []))) none ∙ sym (ap (λ b. cond b (HasItem p ∷ []) []) (skips p))
asked_of keep p skips not_called none = refl

module _ (env : Environment) (terms : List Term) (same : env.terms ≡ terms) where
  pure_call : (term : TermId) → IsSomeAnd (slice_get terms term.0) (λ (t : Term). IsPureKind t.kind) → IsPureCalling (calling env term)
  pure_call term h = pure_of env (slice_get env.terms term.0) (subst (λ ts. IsSomeAnd (slice_get ts term.0) (λ (t : Term). IsPureKind t.kind)) (sym same) h)

  call_same : (term : TermId) (ps : Paths) (n m : ℕ) → IsSomeAnd (slice_get terms term.0) (λ (t : Term). IsPureKind t.kind) → call_path env term ps n ≡ call_path env term ps m
  call_same term ps n m h = ap (term_path (making env term) term ps) (same_instance n m (pure_call term h))

  call_equal : (term : TermId) (ps qs : Paths) (n m : ℕ) → IsSomeAnd (slice_get terms term.0) (λ (t : Term). IsPureKind t.kind) → ps ≡ qs → call_path env term ps n ≡ call_path env term qs m
  call_equal term ps qs n m h e = ap (λ rs. call_path env term rs n) e ∙ call_same term qs n m h

  -- ---- no call counts

  mutual
    pub none_impure : (e : Expr) → HasTerms IsPureKind terms e → impure env e ≡ 0
    none_impure (expr.Var ty x) h = refl
    none_impure (expr.ConstBool v) h = refl
    none_impure (expr.ConstInt ty v) h = refl
    none_impure (expr.ConstPrim ty name) h = refl
    none_impure (expr.Term ty term es) h = counts_none (impure_all env es) (pure_call term h.0) ∙ all_none_impure es h.1
    none_impure (expr.Let ty bs inner) h =
        let first = bindings_none_impure bs h.0 in
        let second = none_impure inner h.1 in
        omega (arith, first, second)

    all_none_impure : (es : Exprs) → AllHaveTerms IsPureKind terms es → impure_all env es ≡ 0
    all_none_impure NoExpr h = refl
    all_none_impure (AnExpr e es) h =
        let first = none_impure e h.0 in
        let second = all_none_impure es h.1 in
        omega (arith, first, second)

    bindings_none_impure : (bs : LetBindings) → BindingsHaveTerms IsPureKind terms bs → impure_bindings env bs ≡ 0
    bindings_none_impure NoBinding h = refl
    bindings_none_impure (ABinding x ty e bs) h =
        let first = none_impure e h.0 in
        let second = bindings_none_impure bs h.1 in
        omega (arith, first, second)

  -- ---- the paths are the same after any impure calls

  mutual
    pub path_same : (e : Expr) (places : Places) (n m : ℕ) → HasTerms IsPureKind terms e → path env e places n ≡ path env e places m
    path_same (expr.Var ty x) places n m h = refl
    path_same (expr.ConstBool v) places n m h = refl
    path_same (expr.ConstInt ty v) places n m h = refl
    path_same (expr.ConstPrim ty name) places n m h = refl
    path_same (expr.Term ty term es) places n m h = ap (answer_path (calling env term)) (call_equal term (paths env es places n) (paths env es places m) (n + impure_all env es) (m + impure_all env es) h.0 (paths_same es places n m h.1))
    path_same (expr.Let ty bs inner) places n m h =
        ap (λ mid. path env inner mid (n + impure_bindings env bs)) (places_same bs places n m h.0) ∙ path_same inner (let_places env bs places m) (n + impure_bindings env bs) (m + impure_bindings env bs) h.1

    paths_same : (es : Exprs) (places : Places) (n m : ℕ) → AllHaveTerms IsPureKind terms es → paths env es places n ≡ paths env es places m
    paths_same NoExpr places n m h = refl
    paths_same (AnExpr e es) places n m h =
        ap (λ p. APath p (paths env es places (n + impure env e))) (path_same e places n m h.0) ∙ ap (APath (path env e places m)) (paths_same es places (n + impure env e) (m + impure env e) h.1)

    places_same : (bs : LetBindings) (places : Places) (n m : ℕ) → BindingsHaveTerms IsPureKind terms bs → let_places env bs places n ≡ let_places env bs places m
    places_same NoBinding places n m h = refl
    places_same (ABinding x ty e bs) places n m h =
        ap (λ p. let_places env bs (with places x.0 p) (n + impure env e)) (path_same e places n m h.0) ∙ places_same bs (with places x.0 (path env e places m)) (n + impure env e) (m + impure env e) h.1

  -- so are those of all within it
  mutual
    pub all_same : (e : Expr) (places : Places) (n m : ℕ) → HasTerms IsPureKind terms e → expr_paths env e places n ≡ expr_paths env e places m
    all_same (expr.Var ty x) places n m h = refl
    all_same (expr.ConstBool v) places n m h = refl
    all_same (expr.ConstInt ty v) places n m h = refl
    all_same (expr.ConstPrim ty name) places n m h = refl
    all_same (expr.Term ty term es) places n m h =
        ap (λ ps. ps ++ with_inner (calling env term) (call_path env term (paths env es places n) (n + impure_all env es))) (exprs_same es places n m h.1)
        ∙ ap (λ p. exprs_paths env es places m ++ with_inner (calling env term) p) (call_equal term (paths env es places n) (paths env es places m) (n + impure_all env es) (m + impure_all env es) h.0 (paths_same es places n m h.1))
    all_same (expr.Let ty bs inner) places n m h =
        let k = n + impure_bindings env bs in
        let l = m + impure_bindings env bs in
        ap (λ ps. ps ++ expr_paths env inner (let_places env bs places n) k) (bindings_same bs places n m h.0)
        ∙ ap (λ mid. bindings_paths env bs places m ++ expr_paths env inner mid k) (places_same bs places n m h.0) ∙ ap (λ ps. bindings_paths env bs places m ++ ps) (all_same inner (let_places env bs places m) k l h.1)

    exprs_same : (es : Exprs) (places : Places) (n m : ℕ) → AllHaveTerms IsPureKind terms es → exprs_paths env es places n ≡ exprs_paths env es places m
    exprs_same NoExpr places n m h = refl
    exprs_same (AnExpr e es) places n m h =
        ap (λ ps. ps ++ exprs_paths env es places (n + impure env e)) (all_same e places n m h.0) ∙ ap (λ ps. expr_paths env e places m ++ ps) (exprs_same es places (n + impure env e) (m + impure env e) h.1)

    bindings_same : (bs : LetBindings) (places : Places) (n m : ℕ) → BindingsHaveTerms IsPureKind terms bs → bindings_paths env bs places n ≡ bindings_paths env bs places m
    bindings_same NoBinding places n m h = refl
    bindings_same (ABinding x ty e bs) places n m h =
        let k = n + impure env e in
        let l = m + impure env e in
        ap (λ ps. ps ++ bindings_paths env bs (with places x.0 (path env e places n)) k) (all_same e places n m h.0)
        ∙ ap (λ p. expr_paths env e places m ++ bindings_paths env bs (with places x.0 p) k) (path_same e places n m h.0) ∙ ap (λ ps. expr_paths env e places m ++ ps) (bindings_same bs (with places x.0 (path env e places m)) k l h.1)

  -- and its lists
  mutual
    pub lists_same : (e : Expr) (places : Places) (n m : ℕ) → HasTerms IsPureKind terms e → expr_lists env e places n ≡ expr_lists env e places m
    lists_same (expr.Var ty x) places n m h = refl
    lists_same (expr.ConstBool v) places n m h = refl
    lists_same (expr.ConstInt ty v) places n m h = refl
    lists_same (expr.ConstPrim ty name) places n m h = refl
    lists_same (expr.Term ty term es) places n m h =
        ap (λ ls. ls ++ list_met (calling env term) (call_path env term (paths env es places n) (n + impure_all env es))) (all_lists_same es places n m h.1)
        ∙ ap (λ p. exprs_lists env es places m ++ list_met (calling env term) p) (call_equal term (paths env es places n) (paths env es places m) (n + impure_all env es) (m + impure_all env es) h.0 (paths_same es places n m h.1))
    lists_same (expr.Let ty bs inner) places n m h =
        let k = n + impure_bindings env bs in
        let l = m + impure_bindings env bs in
        ap (λ ls. ls ++ expr_lists env inner (let_places env bs places n) k) (bindings_lists_same bs places n m h.0)
        ∙ ap (λ mid. bindings_lists env bs places m ++ expr_lists env inner mid k) (places_same bs places n m h.0) ∙ ap (λ ls. bindings_lists env bs places m ++ ls) (lists_same inner (let_places env bs places m) k l h.1)

    all_lists_same : (es : Exprs) (places : Places) (n m : ℕ) → AllHaveTerms IsPureKind terms es → exprs_lists env es places n ≡ exprs_lists env es places m
    all_lists_same NoExpr places n m h = refl
    all_lists_same (AnExpr e es) places n m h =
        ap (λ ls. ls ++ exprs_lists env es places (n + impure env e)) (lists_same e places n m h.0) ∙ ap (λ ls. expr_lists env e places m ++ ls) (all_lists_same es places (n + impure env e) (m + impure env e) h.1)

    bindings_lists_same : (bs : LetBindings) (places : Places) (n m : ℕ) → BindingsHaveTerms IsPureKind terms bs → bindings_lists env bs places n ≡ bindings_lists env bs places m
    bindings_lists_same NoBinding places n m h = refl
    bindings_lists_same (ABinding x ty e bs) places n m h =
        let k = n + impure env e in
        let l = m + impure env e in
        ap (λ ls. ls ++ bindings_lists env bs (with places x.0 (path env e places n)) k) (lists_same e places n m h.0)
        ∙ ap (λ p. expr_lists env e places m ++ bindings_lists env bs (with places x.0 p) k) (path_same e places n m h.0) ∙ ap (λ ls. expr_lists env e places m ++ ls) (bindings_lists_same bs (with places x.0 (path env e places m)) k l h.1)

  -- ---- the calls in order must find something

  call_turn : (term : TermId) (ps : Paths) (n : ℕ) → IsSomeAnd (slice_get terms term.0) (λ (t : Term). IsPureKind t.kind) → have_turn ps ≡ false → has_turn (call_path env term ps n) ≡ false
  call_turn term ps n h none = term_turn (making env term) term ps (instance_of (calling env term) n) (instance_none n (pure_call term h)) none

  -- the path of such an expression has no impure call within it
  mutual
    pub path_turn : (e : Expr) (places : Places) (n : ℕ) → HasNoTurns places → HasTerms IsPureKind terms e → has_turn (path env e places n) ≡ false
    path_turn (expr.Var ty x) places n b h = place_turn (places x.0) (b x.0)
    path_turn (expr.ConstBool v) places n b h = refl
    path_turn (expr.ConstInt ty v) places n b h = refl
    path_turn (expr.ConstPrim ty name) places n b h = refl
    path_turn (expr.Term ty term es) places n b h =
        answer_turn (calling env term) (call_path env term (paths env es places n) (n + impure_all env es)) (call_turn term (paths env es places n) (n + impure_all env es) h.0 (paths_turn es places n b h.1))
    path_turn (expr.Let ty bs inner) places n b h = path_turn inner (let_places env bs places n) (n + impure_bindings env bs) (let_turn bs places n b h.0) h.1

    paths_turn : (es : Exprs) (places : Places) (n : ℕ) → HasNoTurns places → AllHaveTerms IsPureKind terms es → have_turn (paths env es places n) ≡ false
    paths_turn NoExpr places n b h = refl
    paths_turn (AnExpr e es) places n b h = ap (λ t. t || have_turn (paths env es places (n + impure env e))) (path_turn e places n b h.0) ∙ paths_turn es places (n + impure env e) b h.1

    let_turn : (bs : LetBindings) (places : Places) (n : ℕ) → HasNoTurns places → BindingsHaveTerms IsPureKind terms bs → HasNoTurns (let_places env bs places n)
    let_turn NoBinding places n b h = b
    let_turn (ABinding x ty e bs) places n b h = let_turn bs (with places x.0 (path env e places n)) (n + impure env e) (with_turn places x.0 (path env e places n) b (path_turn e places n b h.0)) h.1

  split : (keep : Test → Bool) (xs ys : List Test) (us vs : List Test) → filter keep xs ≡ filter keep us → filter keep ys ≡ filter keep vs → filter keep (xs ++ ys) ≡ filter keep (us ++ vs)
  split keep xs ys us vs e f = filter-append keep xs ys ∙ ap (λ ts. ts ++ filter keep ys) e ∙ ap (λ ts. filter keep us ++ ts) f ∙ sym (filter-append keep us vs)

  mutual
    pub calls_asked : (keep : Test → Bool) (e : Expr) (places : Places) (n : ℕ) → SkipsItems keep → HasNoTurns places → HasTerms IsPureKind terms e → filter keep (map is_something (expr_calls env e places n)) ≡ filter keep (called_tests env e places)
    calls_asked keep (expr.Var ty x) places n skips b h = refl
    calls_asked keep (expr.ConstBool v) places n skips b h = refl
    calls_asked keep (expr.ConstInt ty v) places n skips b h = refl
    calls_asked keep (expr.ConstPrim ty name) places n skips b h = refl
    calls_asked keep (expr.Term ty term es) places n skips b h =
        let c = calling env term in
        let k = n + impure_all env es in
        let p = call_path env term (paths env es places n) k in
        let q = call_path env term (paths env es places 0) 0 in
        let here : p ≡ q = call_equal term (paths env es places n) (paths env es places 0) k 0 h.0 (paths_same es places n 0 h.1) in
        let none = call_turn term (paths env es places n) k h.0 (paths_turn es places n b h.1) in
        ap (filter keep) (map-append is_something (exprs_calls env es places n) (call_met c p))
        ∙ split keep (map is_something (exprs_calls env es places n)) (map is_something (call_met c p)) (all_called_tests env es places) (found_tests c q) (all_calls_asked keep es places n skips b h.1)
        (asked_of keep p skips (pure_call term h.0) none ∙ ap (λ r. filter keep (found_tests c r)) here)
    calls_asked keep (expr.Let ty bs inner) places n skips b h =
        let k = n + impure_bindings env bs in
        let after = let_places env bs places n in
        ap (filter keep) (map-append is_something (bindings_calls env bs places n) (expr_calls env inner after k))
        ∙ split keep (map is_something (bindings_calls env bs places n)) (map is_something (expr_calls env inner after k)) (bindings_called_tests env bs places) (called_tests env inner (let_places env bs places 0))
        (bindings_calls_asked keep bs places n skips b h.0) (calls_asked keep inner after k skips (let_turn bs places n b h.0) h.1 ∙ ap (λ others. filter keep (called_tests env inner others)) (places_same bs places n 0 h.0))

    all_calls_asked : (keep : Test → Bool) (es : Exprs) (places : Places) (n : ℕ) → SkipsItems keep → HasNoTurns places → AllHaveTerms IsPureKind terms es → filter keep (map is_something (exprs_calls env es places n)) ≡ filter keep (all_called_tests env es places)
    all_calls_asked keep NoExpr places n skips b h = refl
    all_calls_asked keep (AnExpr e es) places n skips b h =
        let k = n + impure env e in
        ap (filter keep) (map-append is_something (expr_calls env e places n) (exprs_calls env es places k))
        ∙ split keep (map is_something (expr_calls env e places n)) (map is_something (exprs_calls env es places k)) (called_tests env e places) (all_called_tests env es places) (calls_asked keep e places n skips b h.0) (all_calls_asked keep es places k skips b h.1)

    bindings_calls_asked : (keep : Test → Bool) (bs : LetBindings) (places : Places) (n : ℕ) → SkipsItems keep → HasNoTurns places → BindingsHaveTerms IsPureKind terms bs → filter keep (map is_something (bindings_calls env bs places n)) ≡ filter keep (bindings_called_tests env bs places)
    bindings_calls_asked keep NoBinding places n skips b h = refl
    bindings_calls_asked keep (ABinding x ty e bs) places n skips b h =
        let own = path env e places n in
        let mid = with places x.0 own in
        let k = n + impure env e in
        ap (filter keep) (map-append is_something (expr_calls env e places n) (bindings_calls env bs mid k))
        ∙ split keep (map is_something (expr_calls env e places n)) (map is_something (bindings_calls env bs mid k)) (called_tests env e places) (bindings_called_tests env bs (with places x.0 (path env e places 0))) (calls_asked keep e places n skips b h.0)
        (bindings_calls_asked keep bs mid k skips (with_turn places x.0 own b (path_turn e places n b h.0)) h.1 ∙ ap (λ p. filter keep (bindings_called_tests env bs (with places x.0 p))) (path_same e places n 0 h.0))
