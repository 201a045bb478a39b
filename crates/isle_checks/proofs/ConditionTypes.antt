-- What conditions test, and so a rule: paths that have types, by constraints on values of these.
use Rattle.std.proofs.Common.{◌≡◌, ⊎_elim, ℕ, suc, ◌+◌, List, [], ◌∷◌, ◌++◌, Bool, true, false, cond, eqb, Option, Some, None, refl, sym, ap, ◌∙◌, subst, arith}
use Rattle.std.specs.Prelude.{Contains, IsSomeAnd, option_map, slice_get}
use Rattle.std.proofs.lemmas.Bool.{eqb-true, eq-eqb, ne_eqb}
use Rattle.std.proofs.lemmas.List.{append-nil, append_assoc}
use Rattle.std.proofs.lemmas.List.Elements.{Contains-append_left, Contains-append_right, Contains-append_cases}
use Rattle.std.proofs.lemmas.Option.{same_Some}
use Rattle.isle_core.specs.declared.TermId.{TermId}
use Rattle.isle_core.specs.declared.TypeId.{TypeId}
use Rattle.isle_core.specs.declared.rule_sets.Constraint.{Constraint}
use Rattle.isle_core.specs.declared.types.Term.{Term}
use Rattle.isle_core.specs.declared.types.TermKind.{TermKind}
use Rattle.isle_core.specs.declared.types.TermKind.TheVariants as kind
use Rattle.isle_core.specs.Calling.{Calling, is_fallible, answers_often, calling, instance_of, impure, impure_all, impure_bindings}
use Rattle.isle_core.specs.Expr as expr
use Rattle.isle_core.specs.Expr.{Expr, Exprs, NoExpr, AnExpr, LetBindings, NoBinding, ABinding}
use Rattle.isle_core.specs.ExprType.{Allowed, in_condition, IsTermKind, IsExprOf, AreExprsOf, AreBindingsOf, AreIfLetsOf}
use Rattle.isle_core.specs.Making.{making_kind, making_of, making}
use Rattle.isle_core.specs.Match.{with}
use Rattle.isle_core.specs.NamesApart.{AreConstantsPlain}
use Rattle.isle_core.specs.OccurringConstants.{TypedConstant, expr_constants, pattern_constants, args_constants, iflets_constants, rule_constants}
use Rattle.isle_core.specs.Opening.{Opening, opening, answer_path, part_path}
use Rattle.isle_core.specs.Path.{Path, Arg, Chosen, Inner, Paths}
use Rattle.isle_core.specs.Pattern as pattern
use Rattle.isle_core.specs.Pattern.{Pattern, Patterns, NoPattern, APattern}
use Rattle.isle_core.specs.PatternType.{part_types, IsPatternOf, ArePartsOf, AreEachOf, ArePatternsOf}
use Rattle.isle_core.specs.RightSide.{path_or, term_path, call_path, path, paths, let_places}
use Rattle.isle_core.specs.Rule.{Environment, IfLet, Rule}
use Rattle.isle_core.specs.Tests.{Is, Places, no_places, met_after, found_tests, tests, after, after_parts, after_each, called_tests, all_called_tests, bindings_called_tests, args_tests, args_after, iflets_tests, rule_tests}
use Rattle.isle_core.specs.TypedVariables.{typed_variables, typed_within, all_typed, let_variables, iflets_typed, rule_typed, HaveOneType, IsNew}
use Rattle.isle_core.specs.Served.{IsTested}
use Rattle.isle_core.proofs.Contained.{contained_cases, none_contained}
use Rattle.isle_checks.proofs.TestedTypes.{path_type, from_zero, first, next, IsTyped, AreKnown, PartsTyped, found_typed, parts_of, pattern_typed, args_typed}

-- ---- terms of expressions

some_of : {A : Type 0} (o : Option A) (P : A → Type 0) → IsSomeAnd o P → (x : A) × (o ≡ Some x) × P x
some_of None P h = absurd h
some_of (Some x) P h = (x, refl, h)

-- variables are among those that conditions leave
iflets_keep : (vars : List (TypeId × ℕ)) (cs : List IfLet) (v : TypeId × ℕ) → Contains vars v → Contains (iflets_typed vars cs) v
iflets_keep vars [] v c = c
iflets_keep vars (i ∷ cs) v c = iflets_keep (vars ++ typed_variables i.lhs) cs v (Contains-append_left vars (typed_variables i.lhs) v c)

module _ (env : Environment) (plain : AreConstantsPlain env) (known : List TypedConstant) (tys : List TypeId) where
  -- the path has the type
  abbrev IsAt : Path → TypeId → Type 0
  IsAt p ty = path_type env tys p ≡ Some ty

  -- each of these variables stands at a path of its type
  abbrev AreAt : List (TypeId × ℕ) → Places → Type 0
  AreAt vars places = (ty : TypeId) (x : ℕ) → Contains vars (ty, x) → (p : Path) × (places x ≡ Some p) × IsAt p ty

  -- ---- expressions

  -- a term's value
  term_at : (allowed : Allowed) (term : TermId) (c : Term) (ps : Paths) (n : ℕ) → slice_get env.terms term.0 ≡ Some c → IsTermKind env allowed c c.kind → IsAt (term_path (making env term) term ps n) c.ret_ty
  term_at allowed term c ps n there h = subst (λ o. IsAt (term_path (making_of o) term ps n) c.ret_ty) (sym there) (by c.kind h)
    where
      by : (k : TermKind) → IsTermKind env allowed c k → IsAt (term_path (making_kind k) term ps n) c.ret_ty
      by (kind.Decl pure multi partial recursive how x) h = ap (option_map (λ (t : Term). t.ret_ty)) there
      by (kind.Variant ty variant) h = ap Some h.0
      by (kind.Struct ty) h = ap Some h.0

  answer_at : (c : Calling) (p : Path) (ty : TypeId) → IsAt p ty → IsAt (answer_path c p) ty
  answer_at c p ty h = by (answers_often c) (is_fallible c)
    where
      by : (often fallible : Bool) → IsAt (cond often (Chosen p) (cond fallible (Inner p) p)) ty
      by true fallible = h
      by false true = h
      by false false = h

  place_at : (o : Option Path) (p : Path) (ty : TypeId) → o ≡ Some p → IsAt p ty → IsAt (path_or o) ty
  place_at o p ty e h = subst (λ x. IsAt (path_or x) ty) (sym e) h

  -- a variable of a `let` more
  let_at : (vars : List (TypeId × ℕ)) (places : Places) (x : ℕ) (of : TypeId) (p : Path) → IsNew vars x → IsAt p of → AreAt vars places → AreAt ((of, x) ∷ vars) (with places x p)
  let_at vars places x of p new h k ty y c =
      ⊎_elim (λ (e : (of, x) ≡ (ty, y)). subst (λ (v : TypeId × ℕ). (q : Path) × (with places x p v.1 ≡ Some q) × IsAt q v.0) e (p, ap (λ b. cond b (Some p) (places x)) (eq-eqb x x refl), h))
      (λ d. subst (λ b. (q : Path) × (cond b (Some p) (places y) ≡ Some q) × IsAt q ty) (sym (ne_eqb x y (λ e. new ty (subst (λ z. Contains {X = TypeId × ℕ} vars (ty, z)) (sym e) d)))) (k ty y d))
      (contained_cases {A = TypeId × ℕ} (of, x) vars (ty, y) c)

  mutual
    expr_at : (vars : List (TypeId × ℕ)) (places : Places) (e : Expr) (n : ℕ) (ty : TypeId) → AreAt vars places → IsExprOf env in_condition vars ty e → IsAt (path env e places n) ty
    expr_at vars places (expr.Var of x) n ty a h = let k = a ty x.0 h.1 in place_at (places x.0) k.0 ty k.1 k.2
    expr_at vars places (expr.ConstBool b) n ty a h = ap Some h.0
    expr_at vars places (expr.ConstInt of k) n ty a h = ap Some h.0
    expr_at vars places (expr.ConstPrim of name) n ty a h = h.1
    expr_at vars places (expr.Term of term es) n ty a h =
        let c = some_of (slice_get env.terms term.0) _ h.1 in
        let p = call_path env term (paths env es places n) (n + impure_all env es) in
        subst (IsAt (path env (expr.Term of term es) places n)) c.2.1 (answer_at (calling env term) p c.0.ret_ty (term_at in_condition term c.0 (paths env es places n) (instance_of (calling env term) (n + impure_all env es)) c.1 c.2.0))
    expr_at vars places (expr.Let of bs inner) n ty a h = expr_at (let_variables vars bs) (let_places env bs places n) inner (n + impure_bindings env bs) ty (bindings_at vars places bs n a h.1) h.2

    bindings_at : (vars : List (TypeId × ℕ)) (places : Places) (bs : LetBindings) (n : ℕ) → AreAt vars places → AreBindingsOf env in_condition vars bs → AreAt (let_variables vars bs) (let_places env bs places n)
    bindings_at vars places NoBinding n a h = a
    bindings_at vars places (ABinding x ty e bs) n a h =
        let p = path env e places n in
        bindings_at ((ty, x.0) ∷ vars) (with places x.0 p) bs (n + impure env e) (let_at vars places x.0 ty p h.0 (expr_at vars places e n ty a h.1) a) h.2

  mutual
    -- what the calls of an expression are tested for
    calls_typed : (vars : List (TypeId × ℕ)) (places : Places) (e : Expr) (ty : TypeId) (p : Path) (d : Constraint) → AreAt vars places → IsExprOf env in_condition vars ty e → Contains (called_tests env e places) (Is p d) → IsTyped env plain known tys p d
    calls_typed vars places (expr.Var of x) ty p d a h k = absurd (none_contained (Is p d) k)
    calls_typed vars places (expr.ConstBool b) ty p d a h k = absurd (none_contained (Is p d) k)
    calls_typed vars places (expr.ConstInt of n) ty p d a h k = absurd (none_contained (Is p d) k)
    calls_typed vars places (expr.ConstPrim of name) ty p d a h k = absurd (none_contained (Is p d) k)
    calls_typed vars places (expr.Term of term es) ty p d a h k =
        let c = some_of (slice_get env.terms term.0) _ h.1 in
        let q = call_path env term (paths env es places 0) 0 in
        ⊎_elim (λ l. all_calls_typed vars places es c.0.arg_tys p d a c.2.2 l)
        (λ l. found_typed env plain known tys (calling env term) q p d c.0.ret_ty (term_at in_condition term c.0 (paths env es places 0) (instance_of (calling env term) 0) c.1 c.2.0) l)
        (Contains-append_cases (all_called_tests env es places) (found_tests (calling env term) q) (Is p d) k)
    calls_typed vars places (expr.Let of bs inner) ty p d a h k =
        ⊎_elim (λ l. bindings_calls_typed vars places bs p d a h.1 l) (λ l. calls_typed (let_variables vars bs) (let_places env bs places 0) inner ty p d (bindings_at vars places bs 0 a h.1) h.2 l)
        (Contains-append_cases (bindings_called_tests env bs places) (called_tests env inner (let_places env bs places 0)) (Is p d) k)

    all_calls_typed : (vars : List (TypeId × ℕ)) (places : Places) (es : Exprs) (ts : List TypeId) (p : Path) (d : Constraint) → AreAt vars places → AreExprsOf env in_condition vars ts es → Contains (all_called_tests env es places) (Is p d) → IsTyped env plain known tys p d
    all_calls_typed vars places NoExpr ts p d a h k = absurd (none_contained (Is p d) k)
    all_calls_typed vars places (AnExpr e es) (ty ∷ ts) p d a h k =
        ⊎_elim (λ l. calls_typed vars places e ty p d a h.0 l) (λ l. all_calls_typed vars places es ts p d a h.1 l) (Contains-append_cases (called_tests env e places) (all_called_tests env es places) (Is p d) k)
    all_calls_typed vars places (AnExpr e es) [] p d a h k = absurd h

    bindings_calls_typed : (vars : List (TypeId × ℕ)) (places : Places) (bs : LetBindings) (p : Path) (d : Constraint) → AreAt vars places → AreBindingsOf env in_condition vars bs → Contains (bindings_called_tests env bs places) (Is p d) → IsTyped env plain known tys p d
    bindings_calls_typed vars places NoBinding p d a h k = absurd (none_contained (Is p d) k)
    bindings_calls_typed vars places (ABinding x ty e bs) p d a h k =
        let q = path env e places 0 in
        ⊎_elim (λ l. calls_typed vars places e ty p d a h.1 l) (λ l. bindings_calls_typed ((ty, x.0) ∷ vars) (with places x.0 q) bs p d (let_at vars places x.0 ty q h.0 (expr_at vars places e 0 ty a h.1) a) h.2 l)
        (Contains-append_cases (called_tests env e places) (bindings_called_tests env bs (with places x.0 q)) (Is p d) k)

  -- ---- patterns

  module _ (all : List (TypeId × ℕ)) (one : HaveOneType all) where
    -- a path of a variable has each type that the variable has, and each of these variables has a path
    record ArePlaced (vars : List (TypeId × ℕ)) (places : Places) : Type 0 where
      held : (x : ℕ) (p : Path) (ty : TypeId) → places x ≡ Some p → Contains all (ty, x) → IsAt p ty
      there : (ty : TypeId) (x : ℕ) → Contains vars (ty, x) → (p : Path) × (places x ≡ Some p)

    -- these are among all
    abbrev AreWithin : List (TypeId × ℕ) → Type 0
    AreWithin vars = (v : TypeId × ℕ) → Contains vars v → Contains all v

    placed_at : (vars : List (TypeId × ℕ)) (places : Places) → AreWithin vars → ArePlaced vars places → AreAt vars places
    placed_at vars places within h ty x c = let k = h.there ty x c in (k.0, k.1, h.held x k.0 ty k.1 (within (ty, x) c))

    none_placed : ArePlaced [] no_places
    none_placed = record { held = λ x p ty e c. cc; there = λ ty x c. absurd (none_contained (ty, x) c) }

    -- with no variable more
    no_more : (vars : List (TypeId × ℕ)) (places : Places) → ArePlaced vars places → ArePlaced (vars ++ []) places
    no_more vars places h = subst (λ vs. ArePlaced vs places) (sym (append-nil vars)) h

    regrouped : (vars xs ys : List (TypeId × ℕ)) (places : Places) → ArePlaced ((vars ++ xs) ++ ys) places → ArePlaced (vars ++ (xs ++ ys)) places
    regrouped vars xs ys places h = subst (λ vs. ArePlaced vs places) (append_assoc vars xs ys) h

    -- one that has a path
    one_more : (vars : List (TypeId × ℕ)) (of : TypeId) (x : ℕ) (p : Path) (places : Places) → places x ≡ Some p → ArePlaced vars places → ArePlaced (vars ++ (of, x) ∷ []) places
    one_more vars of x p places e h = record {
      held = h.held;
      there = λ ty y c. ⊎_elim (λ d. h.there ty y d)
          (λ d. ⊎_elim (λ (s : (of, x) ≡ (ty, y)). subst (λ (v : TypeId × ℕ). (q : Path) × (places v.1 ≡ Some q)) s (p, e)) (λ n. absurd (none_contained (ty, y) n)) (contained_cases {A = TypeId × ℕ} (of, x) [] (ty, y) d))
          (Contains-append_cases {X = TypeId × ℕ} vars ((of, x) ∷ []) (ty, y) c);
    }

    -- one that is new
    new_placed : (vars : List (TypeId × ℕ)) (of : TypeId) (x : ℕ) (p : Path) (places : Places) → IsAt p of → Contains all (of, x) → ArePlaced vars places → ArePlaced vars (with places x p)
    new_placed vars of x p places at within h = record {
      held = λ y q ty e c. held_by y q ty (eqb x y) refl e c;
      there = λ ty y c. there_by y (eqb x y) (h.there ty y c);
    }
      where
        held_by : (y : ℕ) (q : Path) (ty : TypeId) (b : Bool) → eqb x y ≡ b → cond b (Some p) (places y) ≡ Some q → Contains all (ty, y) → IsAt q ty
        held_by y q ty false same e c = h.held y q ty e c
        held_by y q ty true same e c = subst (λ r. IsAt r ty) (same_Some p q e) (at ∙ ap Some (one of ty y (subst (λ z. Contains {X = TypeId × ℕ} all (of, z)) (eqb-true x y same) within) c))

        there_by : (y : ℕ) (b : Bool) → (q : Path) × (places y ≡ Some q) → (q : Path) × (cond b (Some p) (places y) ≡ Some q)
        there_by y false k = k
        there_by y true k = (p, refl)

    met_placed : (vars : List (TypeId × ℕ)) (o : Option Path) (of : TypeId) (x : ℕ) (p : Path) (places : Places) → places x ≡ o → IsAt p of → Contains all (of, x) → ArePlaced vars places → ArePlaced (vars ++ (of, x) ∷ []) (met_after o x p places)
    met_placed vars None of x p places e at within h = one_more vars of x p (with places x p) (ap (λ b. cond b (Some p) (places x)) (eq-eqb x x refl)) (new_placed vars of x p places at within h)
    met_placed vars (Some r) of x p places e at within h = one_more vars of x r places e h

    -- the variable of a pattern is among all
    head_within : (of : TypeId) (x : ℕ) (vs : List (TypeId × ℕ)) → AreWithin ((of, x) ∷ vs) → Contains all (of, x)
    head_within of x vs w = w (of, x) (0, omega arith, refl)

    left_within : (xs ys : List (TypeId × ℕ)) → AreWithin (xs ++ ys) → AreWithin xs
    left_within xs ys w v c = w v (Contains-append_left xs ys v c)

    right_within : (xs ys : List (TypeId × ℕ)) → AreWithin (xs ++ ys) → AreWithin ys
    right_within xs ys w v c = w v (Contains-append_right xs ys v c)

    mutual
      pattern_placed : (q : Pattern) (at : Path) (ty : TypeId) (vars : List (TypeId × ℕ)) (places : Places) → IsPatternOf env ty q → IsAt at ty → AreWithin (typed_variables q) → ArePlaced vars places → ArePlaced (vars ++ typed_variables q) (after env q at places)
      pattern_placed (pattern.Var of x) at ty vars places h t w a = met_placed vars (places x.0) of x.0 at places refl (t ∙ ap Some (sym h)) (head_within of x.0 [] w) a
      pattern_placed (pattern.ConstBool b) at ty vars places h t w a = no_more vars places a
      pattern_placed (pattern.ConstInt of n) at ty vars places h t w a = no_more vars places a
      pattern_placed (pattern.ConstPrim of name) at ty vars places h t w a = no_more vars places a
      pattern_placed (pattern.Wildcard of) at ty vars places h t w a = no_more vars places a
      pattern_placed (pattern.Term of term qs) at ty vars places h t w a =
          let there = slice_get env.terms term.0 in
          parts_placed qs (part_types env (making env term) there) (opening env term) at 0 vars places h.2 (parts_of env plain known tys (making env term) term there at ty h.1 refl t) w a
      pattern_placed (pattern.BindPattern of x q) at ty vars places h t w a =
          let mid = met_after (places x.0) x.0 at places in
          regrouped vars ((of, x.0) ∷ []) (typed_variables q) (after env q at mid)
          (pattern_placed q at ty (vars ++ (of, x.0) ∷ []) mid h.1 t (right_within ((of, x.0) ∷ []) (typed_variables q) w) (met_placed vars (places x.0) of x.0 at places refl (t ∙ ap Some (sym h.0)) (head_within of x.0 (typed_variables q) w) a))
      pattern_placed (pattern.And of qs) at ty vars places h t w a = each_placed qs at ty vars places h.1 t w a

      each_placed : (qs : Patterns) (at : Path) (ty : TypeId) (vars : List (TypeId × ℕ)) (places : Places) → AreEachOf env ty qs → IsAt at ty → AreWithin (typed_within qs) → ArePlaced vars places → ArePlaced (vars ++ typed_within qs) (after_each env qs at places)
      each_placed NoPattern at ty vars places h t w a = no_more vars places a
      each_placed (APattern q qs) at ty vars places h t w a =
          let mid = after env q at places in
          regrouped vars (typed_variables q) (typed_within qs) (after_each env qs at mid)
          (each_placed qs at ty (vars ++ typed_variables q) mid h.1 t (right_within (typed_variables q) (typed_within qs) w) (pattern_placed q at ty vars places h.0 t (left_within (typed_variables q) (typed_within qs) w) a))

      parts_placed : (qs : Patterns) (o : Option (List TypeId)) (opened : Opening) (at : Path) (i : ℕ) (vars : List (TypeId × ℕ)) (places : Places) → ArePartsOf env o qs → PartsTyped env plain known tys opened i at o → AreWithin (typed_within qs) → ArePlaced vars places
          → ArePlaced (vars ++ typed_within qs) (after_parts env opened qs i at places)
      parts_placed NoPattern o opened at i vars places h t w a = no_more vars places a
      parts_placed (APattern q qs) (Some (ty ∷ ts)) opened at i vars places h t w a =
          let f = part_path opened i at in
          let mid = after env q f places in
          regrouped vars (typed_variables q) (typed_within qs) (after_parts env opened qs (suc i) at mid)
          (parts_placed qs (Some ts) opened at (suc i) (vars ++ typed_variables q) mid h.1 (λ j of e. subst (λ n. path_type env tys (part_path opened n at) ≡ Some of) (next j i) (t (suc j) of e)) (right_within (typed_variables q) (typed_within qs) w)
          (pattern_placed q f ty vars places h.0 (subst (λ n. path_type env tys (part_path opened n at) ≡ Some ty) (first i) (t 0 ty refl)) (left_within (typed_variables q) (typed_within qs) w) a))
      parts_placed (APattern q qs) (Some []) opened at i vars places h t w a = absurd h
      parts_placed (APattern q qs) None opened at i vars places h t w a = absurd h

    -- after patterns of arguments from the i-th on
    args_placed : (qs : List Pattern) (ts : List TypeId) (i : ℕ) (vars : List (TypeId × ℕ)) (places : Places) → ArePatternsOf env ts qs → ((j : ℕ) → slice_get tys (j + i) ≡ slice_get ts j) → AreWithin (all_typed qs) → ArePlaced vars places → ArePlaced (vars ++ all_typed qs) (args_after env qs i places)
    args_placed [] ts i vars places h t w a = no_more vars places a
    args_placed (q ∷ qs) (ty ∷ ts) i vars places h t w a =
        let mid = after env q (Arg i) places in
        regrouped vars (typed_variables q) (all_typed qs) (args_after env qs (suc i) mid)
        (args_placed qs ts (suc i) (vars ++ typed_variables q) mid h.1 (λ j. subst (λ n. slice_get tys n ≡ slice_get ts j) (next j i) (t (suc j))) (right_within (typed_variables q) (all_typed qs) w)
        (pattern_placed q (Arg i) ty vars places h.0 (subst (λ n. slice_get tys n ≡ Some ty) (first i) (t 0)) (left_within (typed_variables q) (all_typed qs) w) a))
    args_placed (q ∷ qs) [] i vars places h t w a = absurd h

    -- ---- conditions

    conditions_typed : (cs : List IfLet) (vars : List (TypeId × ℕ)) (places : Places) (p : Path) (d : Constraint) → AreIfLetsOf env vars cs → AreWithin (iflets_typed vars cs) → ArePlaced vars places → AreKnown env plain known tys (iflets_constants cs) → Contains (iflets_tests env cs places) (Is p d) → IsTyped env plain known tys p d
    conditions_typed [] vars places p d h w a k is = absurd (none_contained (Is p d) is)
    conditions_typed (c ∷ cs) vars places p d h w a k is =
        let q = path env c.rhs places 0 in
        let mid = after env c.lhs q places in
        let more = vars ++ typed_variables c.lhs in
        let later : AreWithin more = λ v m. w v (iflets_keep more cs v m) in
        let now = placed_at vars places (left_within vars (typed_variables c.lhs) later) a in
        let own = expr_constants c.rhs ++ pattern_constants c.lhs in
        let at = expr_at vars places c.rhs 0 h.0.ty now h.0.rhs in
        ⊎_elim
        (λ l. ⊎_elim (λ m. calls_typed vars places c.rhs h.0.ty p d now h.0.rhs m)
        (λ m. pattern_typed env plain known tys c.lhs q h.0.ty places p d h.0.lhs at (λ x s. k x (Contains-append_left own (iflets_constants cs) x (Contains-append_right (expr_constants c.rhs) (pattern_constants c.lhs) x s))) m)
        (Contains-append_cases (called_tests env c.rhs places) (tests env c.lhs q places) (Is p d) l))
        (λ l. conditions_typed cs more mid p d h.1 w (pattern_placed c.lhs q h.0.ty vars places h.0.lhs at (right_within vars (typed_variables c.lhs) later) a) (λ x s. k x (Contains-append_right own (iflets_constants cs) x s)) l)
        (Contains-append_cases (called_tests env c.rhs places ++ tests env c.lhs q places) (iflets_tests env cs mid) (Is p d) is)

  -- a typed rule tests paths that have types, by constraints on values of these
  pub rule_tests_typed : (r : Rule) (p : Path) (c : Constraint) → IsTested env tys r → HaveOneType (rule_typed r) → AreKnown env plain known tys (rule_constants r) → Contains (rule_tests env r) (Is p c) → IsTyped env plain known tys p c
  rule_tests_typed r p c h one k is =
      let all = rule_typed r in
      let within : AreWithin all one (all_typed r.args) = λ v d. iflets_keep (all_typed r.args) r.iflets v d in
      ⊎_elim
      (λ l. args_typed env plain known tys r.args tys 0 no_places p c h.args (λ j. ap (slice_get tys) (from_zero j)) (λ x s. k x (Contains-append_left (args_constants r.args ++ iflets_constants r.iflets) (expr_constants r.rhs) x (Contains-append_left (args_constants r.args) (iflets_constants r.iflets) x s))) l)
      (λ l. conditions_typed all one r.iflets (all_typed r.args) (args_after env r.args 0 no_places) p c h.iflets (λ v d. d) (args_placed all one r.args tys 0 [] no_places h.args (λ j. ap (slice_get tys) (from_zero j)) within (none_placed all one))
      (λ x s. k x (Contains-append_left (args_constants r.args ++ iflets_constants r.iflets) (expr_constants r.rhs) x (Contains-append_right (args_constants r.args) (iflets_constants r.iflets) x s))) l)
      (Contains-append_cases (args_tests env r.args 0 no_places) (iflets_tests env r.iflets (args_after env r.args 0 no_places)) (Is p c) is)
