-- A lawful term is answered with its kind, by turns or by cases.
use Rattle.std.proofs.Common.{◌≡◌, ⊎_elim, ℕ, zero, suc, ◌+◌, List, [], ◌∷◌, ◌++◌, Bool, true, false, cond, eqb, Option, Some, None, T, map, refl, sym, ap, subst}
use Rattle.std.proofs.Math.Dec.{eqb_refl}
use Rattle.std.specs.Prelude.{IsSomeAnd, IsSome, All, slice_get, slice_index_or, Contains}
use Rattle.std.specs.List.{AllByRecursion}
use Rattle.std.proofs.lemmas.List.Elements.{recursion_from_All, Contains-append_left, Contains-append_right, Contains-append_cases}
use Rattle.isle_core.proofs.Contained.{head_contained, contained_cases, none_contained}
use Rattle.isle_base.specs.declared.ids.TermId.{TermId}
use Rattle.isle_base.specs.declared.ids.TypeId.{TypeId}
use Rattle.isle_core.specs.declared.types.Term.{Term}
use Rattle.isle_core.specs.declared.types.TermKind.{TermKind}
use Rattle.isle_core.specs.declared.types.TermKind.TheVariants as term_kind
use Rattle.isle_core.specs.declared.types.ConstructorKind.TheVariants as constructor
use Rattle.isle_core.specs.declared.values.Callee.{Callee}
use Rattle.isle_core.specs.declared.values.Callee.TheVariants.{External, Internal}
use Rattle.isle_core.specs.declared.types.ReturnKind.{ReturnKind}
use Rattle.isle_core.specs.declared.types.ReturnKind.TheVariants as return_kind
use Rattle.isle_core.specs.Value.{Value, Answer, Plain, Found, Nothing, Several, Made}
use Rattle.isle_core.specs.Meaning.{Meaning, TurnAnswers, turns_of, turn_at, times, turn, cases_of, case}
use Rattle.isle_core.specs.Answered.{Item, AValue, ATuple, Held, Absent, One, Optional, Listed, a_value, an_option, item_of, answer_held}
use Rattle.isle_core.specs.Calling.{Calling, ByTurns, ByCases, NoCall, HasKind, kind_of, kind_by, pure_callee, calling_by, calling_of, calling, impure, impure_bindings}
use Rattle.isle_core.specs.Terms.{sym_text, impure_callee}
use Rattle.isle_core.specs.HasType.{HasType, HaveTypes}
use Rattle.isle_core.specs.Lawful.{Fits, all_turns, CallingFits, CalledTermFits}
use Rattle.isle_core.specs.Single.{AreOften}
use Rattle.isle_core.specs.CalledTerms.{Constructor, CalledTerm, is_made_kind, is_made_term, is_made, unless_made, called_by, called_by_all, called_by_bindings}
use Rattle.isle_core.specs.BuiltRule.{IsBuiltExpr, AreBuiltExprs, AreBuiltBindings, IsBuiltKind, HasBuiltTerms, AllHaveBuiltTerms, BindingsHaveBuiltTerms}
use Rattle.isle_base.specs.declared.ids.Sym.{Sym}
use Rattle.isle_core.specs.Having.{const_of}
use Rattle.isle_core.specs.Making.{Making, MakesVariant, MakesStruct, MakesNothing, making_kind, making_of, making}
use Rattle.isle_core.specs.OccurringConstants.{TypedConstant, Named, expr_constants, exprs_constants, bindings_constants}
use Rattle.isle_core.specs.Scope.{IsInScope, AreInScope, AreLetsInScope, let_scope}
use Rattle.isle_core.specs.Expr as expr
use Rattle.isle_core.specs.Expr.{Expr, Exprs, NoExpr, AnExpr, LetBindings, NoBinding, ABinding}
use Rattle.isle_core.specs.Path.{Path}
use Rattle.isle_core.specs.Match.{with}
use Rattle.isle_core.specs.RightSide.{path, let_places}
use Rattle.isle_core.specs.Tests.{Places}
use Rattle.isle_core.specs.Rule.{Environment}
use Rattle.isle_core.proofs.PatternTests.{case_fits}

-- ---- a turn

-- what the answer of a term holds: a value, an option of one if the term is partial, or a list of values if it is `multi`
abbrev pub IsOfKind : ReturnKind → Held → Type 0
IsOfKind return_kind.Plain h = (v : Value) × (h ≡ a_value v)
IsOfKind return_kind.Option h = (o : Option Value) × (h ≡ an_option o)
IsOfKind return_kind.Iterator h = (vs : List Value) × (h ≡ Listed (map AValue vs))

-- an item is a value of the type
abbrev pub IsItemOf : Environment → TypeId → Item → Type 0
IsItemOf env ty (AValue v) = HasType env v ty
IsItemOf env ty (ATuple vs) = ⊥

-- what is held is a value of the type, an option of one, or a list of such
abbrev pub IsHeldOf : Environment → TypeId → Held → Type 0
IsHeldOf env ty (One (AValue v)) = HasType env v ty
IsHeldOf env ty (One (ATuple vs)) = ⊥
IsHeldOf env ty (Optional (Some (AValue v))) = HasType env v ty
IsHeldOf env ty (Optional (Some (ATuple vs))) = ⊥
IsHeldOf env ty (Optional None) = Unit {0}
IsHeldOf env ty (Listed is) = AllByRecursion (IsItemOf env ty) is
IsHeldOf env ty Absent = ⊥

-- items with one result of the type each
items_typed : (env : Environment) (ty : TypeId) (items : List (List Value)) → AllByRecursion (λ vs. HaveTypes env vs (ty ∷ [])) items → AllByRecursion (IsItemOf env ty) (map item_of items)
items_typed env ty [] h = tt
items_typed env ty ((v ∷ []) ∷ items) h = (h.0.0, items_typed env ty items h.1)
items_typed env ty ([] ∷ items) h = absurd h.0
items_typed env ty ((v ∷ w ∷ vs) ∷ items) h = absurd h.0.1

items_values : (env : Environment) (ty : TypeId) (items : List (List Value)) → AllByRecursion (λ vs. HaveTypes env vs (ty ∷ [])) items → (vs : List Value) × (map item_of items ≡ map AValue vs)
items_values env ty [] h = ([], refl)
items_values env ty ((v ∷ []) ∷ items) h = let more = items_values env ty items h.1 in (v ∷ more.0, ap (λ is. AValue v ∷ is) more.1)
items_values env ty ([] ∷ items) h = absurd h.0
items_values env ty ((v ∷ w ∷ vs) ∷ items) h = absurd h.0.1

fits_type : (env : Environment) (kind : ReturnKind) (ty : TypeId) (a : Answer) → Fits env kind (ty ∷ []) a → IsHeldOf env ty (answer_held a)
fits_type env return_kind.Option ty (Found (v ∷ [])) h = h.0
fits_type env return_kind.Option ty Nothing h = tt
fits_type env return_kind.Plain ty (Plain (v ∷ [])) h = h.0
fits_type env return_kind.Option ty (Found []) h = absurd h
fits_type env return_kind.Option ty (Found (v ∷ w ∷ vs)) h = absurd h.1
fits_type env return_kind.Option ty (Plain vs) h = absurd h
fits_type env return_kind.Option ty (Several items) h = absurd h
fits_type env return_kind.Plain ty (Plain []) h = absurd h
fits_type env return_kind.Plain ty (Plain (v ∷ w ∷ vs)) h = absurd h.1
fits_type env return_kind.Plain ty (Found vs) h = absurd h
fits_type env return_kind.Plain ty Nothing h = absurd h
fits_type env return_kind.Plain ty (Several items) h = absurd h
fits_type env return_kind.Iterator ty (Plain vs) h = absurd h
fits_type env return_kind.Iterator ty (Found vs) h = absurd h
fits_type env return_kind.Iterator ty Nothing h = absurd h
fits_type env return_kind.Iterator ty (Several items) h = items_typed env ty items h

fits_kind : (env : Environment) (kind : ReturnKind) (ty : TypeId) (a : Answer) → Fits env kind (ty ∷ []) a → IsOfKind kind (answer_held a)
fits_kind env return_kind.Option ty (Found (v ∷ [])) h = (Some v, refl)
fits_kind env return_kind.Option ty Nothing h = (None, refl)
fits_kind env return_kind.Plain ty (Plain (v ∷ [])) h = (v, refl)
fits_kind env return_kind.Option ty (Found []) h = absurd h
fits_kind env return_kind.Option ty (Found (v ∷ w ∷ vs)) h = absurd h.1
fits_kind env return_kind.Option ty (Plain vs) h = absurd h
fits_kind env return_kind.Option ty (Several items) h = absurd h
fits_kind env return_kind.Plain ty (Plain []) h = absurd h
fits_kind env return_kind.Plain ty (Plain (v ∷ w ∷ vs)) h = absurd h.1
fits_kind env return_kind.Plain ty (Found vs) h = absurd h
fits_kind env return_kind.Plain ty Nothing h = absurd h
fits_kind env return_kind.Plain ty (Several items) h = absurd h
fits_kind env return_kind.Iterator ty (Plain vs) h = absurd h
fits_kind env return_kind.Iterator ty (Found vs) h = absurd h
fits_kind env return_kind.Iterator ty Nothing h = absurd h
fits_kind env return_kind.Iterator ty (Several items) h = let values = items_values env ty items h in (values.0, ap Listed values.1)

turn_in : (P : Answer → Type 0) (turns : List Answer) (n : ℕ) (rest : Answer) → P rest → AllByRecursion P turns → P (slice_index_or turns n rest)
turn_in P [] n rest h k = h
turn_in P (a ∷ turns) zero rest h k = k.0
turn_in P (a ∷ turns) (suc n) rest h k = turn_in P turns n rest h k.1

turn_at_fits : (env : Environment) (ty : TypeId) (kind : ReturnKind) (o : Option TurnAnswers) (n : ℕ) → IsSomeAnd o (λ a. All (Fits env kind (ty ∷ [])) (all_turns a)) → IsOfKind kind (answer_held (turn_at o n))
turn_at_fits env ty kind None n h = absurd h
turn_at_fits env ty kind (Some a) n h =
    let each = recursion_from_All (Fits env kind (ty ∷ [])) (all_turns a) h in
    fits_kind env kind ty (slice_index_or a.turns n a.rest) (turn_in (Fits env kind (ty ∷ [])) a.turns n a.rest each.0 each.1)

-- a turn that fits is of its type
pub turn_type : (env : Environment) (ty : TypeId) (kind : ReturnKind) (o : Option TurnAnswers) (n : ℕ) → IsSomeAnd o (λ a. All (Fits env kind (ty ∷ [])) (all_turns a)) → IsHeldOf env ty (answer_held (turn_at o n))
turn_type env ty kind None n h = absurd h
turn_type env ty kind (Some a) n h =
    let each = recursion_from_All (Fits env kind (ty ∷ [])) (all_turns a) h in
    fits_type env kind ty (slice_index_or a.turns n a.rest) (turn_in (Fits env kind (ty ∷ [])) a.turns n a.rest each.0 each.1)

-- the term is answered by turns or by cases, as often as is asked, and each answer is of its kind
abbrev pub IsAnswered : (ReturnKind → Type 0) → Meaning → Calling → Type 0
IsAnswered K m (ByTurns callee kind) = K kind × ((made : List Made) → IsOfKind kind (answer_held (turn m callee made)))
IsAnswered K m (ByCases callee kind) = K kind × ((vs : List Value) → IsOfKind kind (answer_held (case m callee vs)))
IsAnswered K m NoCall = ⊥

-- turns that fit are of the term's kind
pub turns_fit : (env : Environment) (m : Meaning) (ty : TypeId) (callee : Callee) (kind : ReturnKind) → CallingFits env m (ty ∷ []) (ByTurns callee kind) → (made : List Made) → IsOfKind kind (answer_held (turn m callee made))
turns_fit env m ty callee kind h made = turn_at_fits env ty kind (turns_of m callee) (times callee made) h

-- so are cases
cases_fit : (env : Environment) (m : Meaning) (ty : TypeId) (callee : Callee) (kind : ReturnKind) → CallingFits env m (ty ∷ []) (ByCases callee kind) → (vs : List Value) → IsOfKind kind (answer_held (case m callee vs))
cases_fit env m ty callee kind h vs = fits_kind env kind ty (case m callee vs) (case_fits env (ty ∷ []) kind (cases_of m callee) vs h.0)

-- ---- a term

-- a term that is made is not called, and any other one is answered
abbrev pub IsTermAnswered : (ReturnKind → Type 0) → Meaning → Making → Calling → Type 0
IsTermAnswered K m (MakesVariant ty variant) c = c ≡ NoCall
IsTermAnswered K m (MakesStruct ty) c = c ≡ NoCall
IsTermAnswered K m MakesNothing c = IsAnswered K m c

kind_answered : (K : ReturnKind → Type 0) (env : Environment) (m : Meaning) (ty : TypeId) (t : Term) (k : TermKind) → IsBuiltKind k
    → (is_made_kind k ≡ false → HasKind K (calling_by (kind_of k) (impure_callee env t k) (pure_callee env t k)))
    → (is_made_kind k ≡ false → CallingFits env m (ty ∷ []) (calling_by (kind_of k) (impure_callee env t k) (pure_callee env t k)))
    → IsTermAnswered K m (making_kind k) (calling_by (kind_of k) (impure_callee env t k) (pure_callee env t k))
kind_answered K env m ty t (term_kind.Decl false multi partial recursive constructor.Internal extractor) i once h = (once refl, turns_fit env m ty (Internal (sym_text env t.name)) (kind_by multi partial) (h refl))
kind_answered K env m ty t (term_kind.Decl false multi partial recursive (constructor.External func) extractor) i once h = (once refl, turns_fit env m ty (External (sym_text env func)) (kind_by multi partial) (h refl))
kind_answered K env m ty t (term_kind.Decl true multi partial recursive constructor.Internal extractor) i once h = (once refl, cases_fit env m ty (Internal (sym_text env t.name)) (kind_by multi partial) (h refl))
kind_answered K env m ty t (term_kind.Decl true multi partial recursive (constructor.External func) extractor) i once h = (once refl, cases_fit env m ty (External (sym_text env func)) (kind_by multi partial) (h refl))
kind_answered K env m ty t (term_kind.Variant of variant) i once h = refl
kind_answered K env m ty t (term_kind.Struct of) i once h = refl
kind_answered K env m ty t k i once h = absurd i

term_answered : (K : ReturnKind → Type 0) (env : Environment) (m : Meaning) (o : Option Term) → IsSomeAnd o (λ (t : Term). IsBuiltKind t.kind) → (is_made_term o ≡ false → HasKind K (calling_of env o))
    → (is_made_term o ≡ false → IsSomeAnd o (λ (t : Term). CallingFits env m (t.ret_ty ∷ []) (calling_of env o))) → IsTermAnswered K m (making_of o) (calling_of env o)
term_answered K env m None i once h = absurd i
term_answered K env m (Some t) i once h = kind_answered K env m t.ret_ty t t.kind i once h

-- a term that is not made is called where it stands
pub called_here : (env : Environment) (term : TermId) → is_made env term ≡ false → Contains {X = CalledTerm} (unless_made env Constructor term) (record { term = term; role = Constructor })
called_here env term e =
    let o : CalledTerm = record { term = term; role = Constructor } in
    subst (λ b. Contains (cond b [] (o ∷ [])) o) (sym e) (head_contained o [])

-- ---- an expression

-- a variable that has a path
abbrev pub IsPlaced : Option Path → Type 0
IsPlaced None = ⊥
IsPlaced (Some p) = Unit {0}

-- a built expression after n impure calls, whose variables have paths, whose named constants have values and whose calls are answered
abbrev mutual
  pub HasAnsweredCalls : (ReturnKind → Type 0) → Environment → Meaning → Places → ℕ → Expr → Type 0
  HasAnsweredCalls K env m places n (expr.Var ty x) = IsPlaced (places x.0)
  HasAnsweredCalls K env m places n (expr.ConstBool b) = Unit {0}
  HasAnsweredCalls K env m places n (expr.ConstInt ty k) = Unit {0}
  HasAnsweredCalls K env m places n (expr.ConstPrim ty name) = IsSome (const_of m (sym_text env name))
  HasAnsweredCalls K env m places n (expr.Term ty term es) = IsTermAnswered K m (making env term) (calling env term) × AreAnsweredCalls K env m places n es
  HasAnsweredCalls K env m places n (expr.Let ty bs inner) = HaveAnsweredBindings K env m places n bs × HasAnsweredCalls K env m (let_places env bs places n) (n + impure_bindings env bs) inner

  -- so of expressions in order
  pub AreAnsweredCalls : (ReturnKind → Type 0) → Environment → Meaning → Places → ℕ → Exprs → Type 0
  AreAnsweredCalls K env m places n NoExpr = Unit {0}
  AreAnsweredCalls K env m places n (AnExpr e es) = HasAnsweredCalls K env m places n e × AreAnsweredCalls K env m places (n + impure env e) es

  -- so of the values of a `let`
  pub HaveAnsweredBindings : (ReturnKind → Type 0) → Environment → Meaning → Places → ℕ → LetBindings → Type 0
  HaveAnsweredBindings K env m places n NoBinding = Unit {0}
  HaveAnsweredBindings K env m places n (ABinding x ty e more) = HasAnsweredCalls K env m places n e × HaveAnsweredBindings K env m (with places x.0 (path env e places n)) (n + impure env e) more

picked_true : (b : Bool) (p : Path) (o : Option Path) → T b → IsPlaced (cond b (Some p) o)
picked_true true p o t = tt
picked_true false p o t = absurd t

picked_old : (b : Bool) (p : Path) (o : Option Path) → IsPlaced o → IsPlaced (cond b (Some p) o)
picked_old true p o h = tt
picked_old false p o h = h

-- one variable more has a path
with_placed : (scope : List ℕ) (places : Places) (x : ℕ) (p : Path) → ((y : ℕ) → Contains scope y → IsPlaced (places y)) → (y : ℕ) → Contains (scope ++ x ∷ []) y → IsPlaced (with places x p y)
with_placed scope places x p h y c = ⊎_elim
    (λ d. picked_old (eqb x y) p (places y) (h y d))
    (λ d. ⊎_elim (λ (e : x ≡ y). subst (λ k. IsPlaced (with places x p k)) e (picked_true (eqb x x) p (places x) (eqb_refl x))) (λ k. absurd (none_contained y k)) (contained_cases x [] y d))
    (Contains-append_cases scope (x ∷ []) y c)

-- those of a `let` do
let_placed : (bs : LetBindings) (env : Environment) (scope : List ℕ) (places : Places) (n : ℕ) → ((y : ℕ) → Contains scope y → IsPlaced (places y)) → (y : ℕ) → Contains (let_scope scope bs) y → IsPlaced (let_places env bs places n y)
let_placed NoBinding env scope places n h y c = h y c
let_placed (ABinding x ty e more) env scope places n h y c =
    let_placed more env (scope ++ x.0 ∷ []) (with places x.0 (path env e places n)) (n + impure env e) (with_placed scope places x.0 (path env e places n) h) y c

-- the meaning answers what is called among these terms, as often as is asked, and each name among these constants has a value
pub record Supplies (K : ReturnKind → Type 0) (env : Environment) (m : Meaning) (terms : List CalledTerm) (constants : List TypedConstant) : Type 0 where
  pub answers : (o : CalledTerm) → Contains terms o → CalledTermFits env m o
  pub often : AreOften K env terms
  pub named : (ty : TypeId) (name : Sym) → Contains constants (ty, Named name) → IsSome (const_of m (sym_text env name))

-- so of a part of both
pub supplies_less : (K : ReturnKind → Type 0) (env : Environment) (m : Meaning) (terms others : List CalledTerm) (constants those : List TypedConstant) → ((o : CalledTerm) → Contains others o → Contains terms o) → ((c : TypedConstant) → Contains those c → Contains constants c)
    → Supplies K env m terms constants → Supplies K env m others those
supplies_less K env m terms others constants those f g s = record { answers = λ o k. s.answers o (f o k); often = λ o k. s.often o (f o k); named = λ ty name k. s.named ty name (g (ty, Named name) k) }

mutual
  -- terms that are called lawfully are answered
  pub calls_answered : (e : Expr) (K : ReturnKind → Type 0) (env : Environment) (m : Meaning) (scope : List ℕ) (places : Places) (n : ℕ) → ((x : ℕ) → Contains scope x → IsPlaced (places x))
      → IsBuiltExpr e → IsInScope scope e → HasBuiltTerms env.terms e → Supplies K env m (called_by env e) (expr_constants e) → HasAnsweredCalls K env m places n e
  calls_answered (expr.Var ty x) K env m scope places n p b v i h = p x.0 v
  calls_answered (expr.ConstBool c) K env m scope places n p b v i h = tt
  calls_answered (expr.ConstInt ty k) K env m scope places n p b v i h = tt
  calls_answered (expr.ConstPrim ty name) K env m scope places n p b v i h = h.named ty name (head_contained (ty, Named name) [])
  calls_answered (expr.Term ty term es) K env m scope places n p b v i h =
      let o : CalledTerm = record { term = term; role = Constructor } in (
        term_answered K env m (slice_get env.terms term.0) i.0 (λ e. h.often o (Contains-append_right (called_by_all env es) (unless_made env Constructor term) o (called_here env term e)))
            (λ e. h.answers o (Contains-append_right (called_by_all env es) (unless_made env Constructor term) o (called_here env term e))),
        all_calls_answered es K env m scope places n p b v i.1 (supplies_less K env m (called_by env (expr.Term ty term es)) (called_by_all env es) (exprs_constants es) (exprs_constants es) (λ q k. Contains-append_left (called_by_all env es) (unless_made env Constructor term) q k) (λ c k. k) h),
      )
  calls_answered (expr.Let ty bs inner) K env m scope places n p b v i h =
      let e = expr.Let ty bs inner in (
        bindings_answered bs K env m scope places n p b.0 v.0 i.0
            (supplies_less K env m (called_by env e) (called_by_bindings env bs) (expr_constants e) (bindings_constants bs) (λ o k. Contains-append_left (called_by_bindings env bs) (called_by env inner) o k) (λ c k. Contains-append_left (bindings_constants bs) (expr_constants inner) c k) h),
        calls_answered inner K env m (let_scope scope bs) (let_places env bs places n) (n + impure_bindings env bs) (let_placed bs env scope places n p) b.1 v.1 i.1
            (supplies_less K env m (called_by env e) (called_by env inner) (expr_constants e) (expr_constants inner) (λ o k. Contains-append_right (called_by_bindings env bs) (called_by env inner) o k) (λ c k. Contains-append_right (bindings_constants bs) (expr_constants inner) c k) h),
      )

  -- so of expressions in order
  pub all_calls_answered : (es : Exprs) (K : ReturnKind → Type 0) (env : Environment) (m : Meaning) (scope : List ℕ) (places : Places) (n : ℕ) → ((x : ℕ) → Contains scope x → IsPlaced (places x))
      → AreBuiltExprs es → AreInScope scope es → AllHaveBuiltTerms env.terms es → Supplies K env m (called_by_all env es) (exprs_constants es) → AreAnsweredCalls K env m places n es
  all_calls_answered NoExpr K env m scope places n p b v i h = tt
  all_calls_answered (AnExpr e es) K env m scope places n p b v i h =
      let terms = called_by_all env (AnExpr e es) in
      let constants = exprs_constants (AnExpr e es) in (
        calls_answered e K env m scope places n p b.0 v.0 i.0
            (supplies_less K env m terms (called_by env e) constants (expr_constants e) (λ o k. Contains-append_left (called_by env e) (called_by_all env es) o k) (λ c k. Contains-append_left (expr_constants e) (exprs_constants es) c k) h),
        all_calls_answered es K env m scope places (n + impure env e) p b.1 v.1 i.1
            (supplies_less K env m terms (called_by_all env es) constants (exprs_constants es) (λ o k. Contains-append_right (called_by env e) (called_by_all env es) o k) (λ c k. Contains-append_right (expr_constants e) (exprs_constants es) c k) h),
      )

  -- so of the values of a `let`
  pub bindings_answered : (bs : LetBindings) (K : ReturnKind → Type 0) (env : Environment) (m : Meaning) (scope : List ℕ) (places : Places) (n : ℕ) → ((x : ℕ) → Contains scope x → IsPlaced (places x))
      → AreBuiltBindings bs → AreLetsInScope scope bs → BindingsHaveBuiltTerms env.terms bs → Supplies K env m (called_by_bindings env bs) (bindings_constants bs) → HaveAnsweredBindings K env m places n bs
  bindings_answered NoBinding K env m scope places n p b v i h = tt
  bindings_answered (ABinding x ty e more) K env m scope places n p b v i h =
      let terms = called_by_bindings env (ABinding x ty e more) in
      let constants = bindings_constants (ABinding x ty e more) in (
        calls_answered e K env m scope places n p b.0 v.0 i.0
            (supplies_less K env m terms (called_by env e) constants (expr_constants e) (λ o k. Contains-append_left (called_by env e) (called_by_bindings env more) o k) (λ c k. Contains-append_left (expr_constants e) (bindings_constants more) c k) h),
        bindings_answered more K env m (scope ++ x.0 ∷ []) (with places x.0 (path env e places n)) (n + impure env e) (with_placed scope places x.0 (path env e places n) p) b.1 v.1 i.1
            (supplies_less K env m terms (called_by_bindings env more) constants (bindings_constants more) (λ o k. Contains-append_right (called_by env e) (called_by_bindings env more) o k) (λ c k. Contains-append_right (expr_constants e) (bindings_constants more) c k) h),
      )
