-- What follows the values of a right side is what follows its ordered calls.
use Rattle.std.proofs.Common.{◌≡◌, ℕ, ◌+◌, ◌≤◌, suc, List, [], ◌∷◌, ◌++◌, Bool, true, false, cond, eqb, Option, Some, None, refl, sym, ap, ◌∙◌, subst, arith}
use Rattle.std.specs.Prelude.{IsSome, ◌||◌}
use mathlib.Core.Path.{fun_ext}
use Rattle.isle_base.specs.declared.ids.TermId.{TermId}
use Rattle.isle_core.specs.declared.types.ReturnKind.{ReturnKind}
use Rattle.isle_core.specs.declared.values.Callee.{Callee}
use Rattle.isle_core.specs.Answered.{a_value}
use Rattle.isle_core.specs.Calling.{Calling, ByTurns, ByCases, NoCall, calling, extracting, instance_of, one_more, impure, impure_all, impure_bindings}
use Rattle.isle_core.specs.Choice.{Choice}
use Rattle.isle_core.specs.Constants.{int_value}
use Rattle.isle_core.specs.Expr as expr
use Rattle.isle_core.specs.Expr.{Expr, Exprs, NoExpr, AnExpr, LetBindings, NoBinding, ABinding}
use Rattle.isle_core.specs.Form.{made_value}
use Rattle.isle_core.specs.Having.{const_of}
use Rattle.isle_core.specs.HoldsImpure.{takes_turn, holds_impure, hold_impure}
use Rattle.isle_core.specs.Making.{Making, MakesVariant, MakesStruct, MakesNothing, making}
use Rattle.isle_core.specs.Match.{Names, with}
use Rattle.isle_core.specs.Meaning.{Meaning}
use Rattle.isle_core.specs.Opening.{answer_path}
use Rattle.isle_core.specs.OrderedCalls.{if_ordered, calls, calls_all, calls_bindings}
use Rattle.isle_core.specs.Parts.{Given, Taken, Next, on_term, on_named, each_value, each_values, each_binding}
use Rattle.isle_core.specs.Path.{Path, ConstPrim, Called, Chosen, Inner, MadeVariant, MadeStruct, VariantField, StructField, Extracted, Wrapped, Part, Paths, NoPath, APath}
use Rattle.isle_core.specs.RightSide.{Places, path_or, term_path, call_path, path, paths, let_places}
use Rattle.isle_core.specs.Rule.{Environment}
use Rattle.isle_core.specs.SeveralSet.{Rest, behind_call, behind_ordered}
use Rattle.isle_core.specs.Terms.{sym_text}
use Rattle.isle_core.specs.Value.{Value, Truth, Answer}
use Rattle.isle_core.specs.ValueAt.{Known, none_made, held as held_value, made_held, field_held, inner_held, chosen_held, extracted_held, wrapped_held, part_held, value_before, call_held, value_at, values_at}
use Rattle.isle_core.proofs.AnsweredTerms.{IsPlaced, IsTermAnswered, HasAnsweredCalls, AreAnsweredCalls, HaveAnsweredBindings}
use Rattle.isle_core.proofs.KnownAnswers.{AreUpTo, fresh_more, up_to_more, IsPlaceUpTo, PlacesUpTo, places_more, one_more_up, path_up_to, paths_up_to, with_up_to, let_up_to}
use Rattle.isle_core.proofs.ListFollows.{NextSo, HasItem, turn_each, case_each}
use Rattle.isle_core.proofs.PatternTests.{StandsAt, Agree, with_agrees}
use Rattle.isle_core.proofs.TakenItems.{TakesOf, AllTake, GoesThrough, through_self, through_on, takes_on, KeptTo, kept_to_self, kept_to_on, settled_stays, GoesSo}

-- as often as may be
abbrev pub AnyOften : ReturnKind → Type 0
AnyOften kind = Unit {0}

-- ---- calls one after the other

behind_append : (env : Environment) (m : Meaning) (args : List Value) (ps qs : List Path) (done : List Path) (known : Known) (g : Given) (rest : Rest)
    → behind_ordered env m args (ps ++ qs) done known g rest ≡ behind_ordered env m args ps done known g (λ now here so. behind_ordered env m args qs now here so rest)
behind_append env m args [] qs done known g rest = refl
behind_append env m args (p ∷ ps) qs done known g rest =
    ap (behind_call env m args p done known g) (fun_ext (λ now. fun_ext (λ here. fun_ext (λ so. behind_append env m args ps qs now here so rest))))

-- ---- places

-- the lists within a place are settled
abbrev pub TakesPlace : Environment → List Path → Option Path → Type 0
TakesPlace env done None = Unit {0}
TakesPlace env done (Some p) = TakesOf env done p

-- so of each variable's
pub record PlacesTake (env : Environment) (done : List Path) (places : Places) : Type 0 where
  pub by : (x : ℕ) → TakesPlace env done (places x)

place_takes : (env : Environment) (done later : List Path) (o : Option Path) → GoesThrough done later → TakesPlace env done o → TakesPlace env later o
place_takes env done later None g h = tt
place_takes env done later (Some p) g h = takes_on p env done later g h

places_take_on : (env : Environment) (done later : List Path) (places : Places) → GoesThrough done later → PlacesTake env done places → PlacesTake env later places
places_take_on env done later places g h = record { by = λ x. place_takes env done later (places x) g (h.by x) }

place_with : (env : Environment) (done : List Path) (b : Bool) (p : Path) (o : Option Path) → TakesOf env done p → TakesPlace env done o → TakesPlace env done (cond b (Some p) o)
place_with env done true p o h k = h
place_with env done false p o h k = k

with_takes : (env : Environment) (done : List Path) (places : Places) (x : ℕ) (p : Path) → TakesOf env done p → PlacesTake env done places → PlacesTake env done (with places x p)
with_takes env done places x p h k = record { by = λ y. place_with env done (eqb x y) p (places y) h (k.by y) }

path_takes : (env : Environment) (done : List Path) (o : Option Path) → TakesPlace env done o → TakesOf env done (path_or o)
path_takes env done None h = tt
path_takes env done (Some p) h = h

stands_on : (env : Environment) (m : Meaning) (args : List Value) (n : ℕ) (done : List Path) (known later : Known) (v : Option Value) (o : Option Path) → IsPlaceUpTo n o → TakesPlace env done o → KeptTo env n done known later
    → StandsAt (value_at env m args known) v o → StandsAt (value_at env m args later) v o
stands_on env m args n done known later None None up t k h = tt
stands_on env m args n done known later (Some v) (Some p) up t k h = settled_stays p env m args n done known later up t k ∙ h
stands_on env m args n done known later None (Some p) up t k h = absurd h
stands_on env m args n done known later (Some v) None up t k h = absurd h

-- names agree with such places still
agree_on : (env : Environment) (m : Meaning) (args : List Value) (n : ℕ) (done : List Path) (known later : Known) (names : Names) (places : Places) → PlacesUpTo n places → PlacesTake env done places → KeptTo env n done known later
    → Agree (value_at env m args known) names places → Agree (value_at env m args later) names places
agree_on env m args n done known later names places up t k a = record { by = λ x. stands_on env m args n done known later (names x) (places x) (up.by x) (t.by x) k (a.by x) }

-- ---- lists without an impure call

call_early : (m : Meaning) (c : Calling) (o p : Option Answer) (vs : Option (List Value)) → takes_turn c ≡ false → call_held m c o vs ≡ call_held m c p vs
call_early m (ByTurns callee kind) o p vs e = cc
call_early m (ByCases callee kind) o p vs e = refl
call_early m NoCall o p vs e = refl

neither : (a b : Bool) → (a || b) ≡ false → (a ≡ false) × (b ≡ false)
neither true b e = absurd cc
neither false b e = (refl, e)

module _ (env : Environment) (m : Meaning) (args : List Value) (choice : Choice) (known : Known) (same : (q : Path) → holds_impure env q ≡ false → known.choice q ≡ choice q) where
  mutual
    -- what stands at a path without an impure call is what stands there before all calls
    early_stays : (p : Path) → holds_impure env p ≡ false → value_at env m args known p ≡ value_at env m args (none_made choice) p
    early_stays (Called term ps k) e =
        let two = neither (takes_turn (calling env term)) (hold_impure env ps) e in
        call_early m (calling env term) (known.answers k) None (values_at env m args known ps) two.0 ∙ ap (call_held m (calling env term) None) (all_early ps two.1)
    early_stays (Chosen p) e = ap (λ i. chosen_held i (value_at env m args known p)) (same p e) ∙ ap (chosen_held (choice p)) (early_stays p e)
    early_stays (Inner p) e = ap inner_held (early_stays p e)
    early_stays (MadeVariant ty variant ps) e = ap (made_held env (MakesVariant ty variant)) (all_early ps e)
    early_stays (MadeStruct ty ps) e = ap (made_held env (MakesStruct ty)) (all_early ps e)
    early_stays (VariantField variant i p) e = ap (field_held i) (early_stays p e)
    early_stays (StructField i p) e = ap (field_held i) (early_stays p e)
    early_stays (Extracted term p) e = ap (extracted_held m (extracting env term)) (early_stays p e)
    early_stays (Wrapped p) e = ap wrapped_held (early_stays p e)
    early_stays (Part i p) e = ap (part_held i) (early_stays p e)
    early_stays p e = refl

    all_early : (ps : Paths) → hold_impure env ps ≡ false → values_at env m args known ps ≡ values_at env m args (none_made choice) ps
    all_early NoPath e = refl
    all_early (APath p ps) e =
        let two = neither (holds_impure env p) (hold_impure env ps) e in
        ap (λ h. value_before h (values_at env m args known ps)) (early_stays p two.0) ∙ ap (value_before (value_at env m args (none_made choice) p)) (all_early ps two.1)

-- ---- what goes along after more calls

goes_more : (env : Environment) (m : Meaning) (args : List Value) (choice : Choice) (n n' : ℕ) (taken : Taken) (done : List Path) (known : Known) → n ≤ n' → GoesSo env m args choice n taken done known → GoesSo env m args choice n' taken done known
goes_more env m args choice n n' taken done known le g = record {
  fresh = fresh_more n n' known le g.fresh;
  up_to = λ q among. up_to_more q n n' le (g.up_to q among);
  reads = g.reads;
  some = g.some;
  none = g.none;
  early = g.early;
  there = g.there;
  found = g.found;
}

module _ (env : Environment) (m : Meaning) (args : List Value) (choice : Choice) where
  -- values that were reached stand at their paths
  pub record ReachedAll (n n' : ℕ) (done later : List Path) (known known' : Known) (taken : Taken) (ps : Paths) (vs : List Value) : Type 0 where
    pub held : values_at env m args known' ps ≡ Some vs
    pub kept : KeptTo env n done known known'
    pub state : GoesSo env m args choice n' taken later known'
    pub takes : AllTake env later ps
    pub through : GoesThrough done later

  -- names that were reached stand at their places
  pub record ReachedNames (n n' : ℕ) (done later : List Path) (known known' : Known) (taken : Taken) (places : Places) (names : Names) : Type 0 where
    pub agree : Agree (value_at env m args known') names places
    pub kept : KeptTo env n done known known'
    pub state : GoesSo env m args choice n' taken later known'
    pub takes : PlacesTake env later places
    pub through : GoesThrough done later

  -- what follows values in order, and what follows names, is what follows the calls
  abbrev AllSo : (n n' : ℕ) → List Path → Known → Paths → (List Value → Taken → Given → Given) → Rest → Type 0
  AllSo n n' done known ps next rest =
      (vs : List Value) (taken : Taken) (later : List Path) (known' : Known) (g : Given) → ReachedAll n n' done later known known' taken ps vs → next vs taken g ≡ rest later known' g

  abbrev NamesSo : (n n' : ℕ) → List Path → Known → Places → (Names → Taken → Given → Given) → Rest → Type 0
  NamesSo n n' done known places next rest =
      (names : Names) (taken : Taken) (later : List Path) (known' : Known) (g : Given) → ReachedNames n n' done later known known' taken places names → next names taken g ≡ rest later known' g

  -- seen from after calls
  so_behind : (n k n' : ℕ) (done later : List Path) (known known' : Known) (p : Path) (next : Next) (rest : Rest) → n ≤ k → KeptTo env n done known known' → GoesThrough done later → NextSo env m args choice n n' done known p next rest → NextSo env m args choice k n' later known' p next rest
  so_behind n k n' done later known known' p next rest le kept through so v taken more known2 g h =
      so v taken more known2 g (record { held = h.held; kept = kept_to_on env n k done later known known' known2 le through kept h.kept; state = h.state; takes = h.takes; through = through_on through h.through })

  -- ---- a term

  -- of each pure call without an impure one that answers several times the chosen item is there
  abbrev ItemThere : TermId → Path → Type 0
  ItemThere term p = (callee : Callee) (kind : ReturnKind) → calling env term ≡ ByCases callee kind → HasItem env m args choice kind (none_made choice) p

  item_known : (kind : ReturnKind) (known : Known) (p : Path) → ((q : Path) → holds_impure env q ≡ false → known.choice q ≡ choice q) → HasItem env m args choice kind (none_made choice) p → HasItem env m args choice kind known p
  item_known kind known p same h several early = let old = h several early in (old.0, early_stays env m args choice known same (Chosen p) early ∙ old.1)

  made_each : (n k n' : ℕ) (done later : List Path) (known known' : Known) (taken : Taken) (g : Given) (mk : Making) (p : Path) (ps : Paths) (vs : List Value) (next : Next) (rest : Rest) → k ≤ n' → value_at env m args known' p ≡ made_held env mk (values_at env m args known' ps)
      → TakesOf env later p → ReachedAll n k done later known known' taken ps vs → NextSo env m args choice n n' done known p next rest → next (made_value env mk vs) taken g ≡ rest later known' g
  made_each n k n' done later known known' taken g mk p ps vs next rest le at takes r so =
      so (made_value env mk vs) taken later known' g (record { held = at ∙ ap (made_held env mk) r.held; kept = r.kept; state = goes_more env m args choice k n' taken later known' le r.state; takes = takes; through = r.through })

  term_each : (mk : Making) (c : Calling) (n k : ℕ) (done later : List Path) (known known' : Known) (taken : Taken) (g : Given) (term : TermId) (ps : Paths) (vs : List Value) (next : Next) (rest : Rest) → n ≤ k → calling env term ≡ c → IsTermAnswered AnyOften m mk c
      → ItemThere term (term_path mk term ps (instance_of c k)) → AreUpTo k ps → ReachedAll n k done later known known' taken ps vs → NextSo env m args choice n (one_more c k) done known (answer_path c (term_path mk term ps (instance_of c k))) next rest
      → on_term env m choice mk c (term_path mk term ps (instance_of c k)) vs taken g next ≡ behind_ordered env m args (if_ordered env c (term_path mk term ps (instance_of c k))) later known' g rest
  term_each (MakesVariant ty variant) NoCall n k done later known known' taken g term ps vs next rest le e t item up r so =
      made_each n k k done later known known' taken g (MakesVariant ty variant) (MadeVariant ty variant ps) ps vs next rest (omega arith) refl r.takes r so
  term_each (MakesStruct ty) NoCall n k done later known known' taken g term ps vs next rest le e t item up r so = made_each n k k done later known known' taken g (MakesStruct ty) (MadeStruct ty ps) ps vs next rest (omega arith) refl r.takes r so
  term_each (MakesVariant ty variant) (ByTurns callee kind) n k done later known known' taken g term ps vs next rest le e t item up r so = cc
  term_each (MakesVariant ty variant) (ByCases callee kind) n k done later known known' taken g term ps vs next rest le e t item up r so = cc
  term_each (MakesStruct ty) (ByTurns callee kind) n k done later known known' taken g term ps vs next rest le e t item up r so = cc
  term_each (MakesStruct ty) (ByCases callee kind) n k done later known known' taken g term ps vs next rest le e t item up r so = cc
  term_each MakesNothing (ByTurns callee kind) n k done later known known' taken g term ps vs next rest le e t item up r so =
      turn_each env m args choice k later known' taken g term ps callee kind vs next rest e (t.1 g.calls) r.held up r.takes r.state
      (so_behind n k (suc k) done later known known' (answer_path (ByTurns callee kind) (Called term ps (suc k))) next rest le r.kept r.through so)
  term_each MakesNothing (ByCases callee kind) n k done later known known' taken g term ps vs next rest le e t item up r so =
      case_each env m args choice k later known' taken g term ps callee vs next rest r.held up r.takes r.state kind e (t.1 vs) (item_known kind known' (Called term ps 0) r.state.early (item callee kind e))
      (so_behind n k k done later known known' (answer_path (ByCases callee kind) (Called term ps 0)) next rest le r.kept r.through so)
  term_each MakesNothing NoCall n k done later known known' taken g term ps vs next rest le e t item up r so = absurd t

  -- ---- expressions

  -- so of each call of an expression
  abbrev mutual
    pub HasItems : Places → ℕ → Expr → Type 0
    HasItems places n (expr.Var ty x) = Unit {0}
    HasItems places n (expr.ConstBool b) = Unit {0}
    HasItems places n (expr.ConstInt ty k) = Unit {0}
    HasItems places n (expr.ConstPrim ty name) = Unit {0}
    HasItems places n (expr.Term ty term es) = ItemThere term (call_path env term (paths env es places n) (n + impure_all env es)) × AllHaveItems places n es
    HasItems places n (expr.Let ty bs inner) = BindingsHaveItems places n bs × HasItems (let_places env bs places n) (n + impure_bindings env bs) inner

    pub AllHaveItems : Places → ℕ → Exprs → Type 0
    AllHaveItems places n NoExpr = Unit {0}
    AllHaveItems places n (AnExpr e es) = HasItems places n e × AllHaveItems places (n + impure env e) es

    pub BindingsHaveItems : Places → ℕ → LetBindings → Type 0
    BindingsHaveItems places n NoBinding = Unit {0}
    BindingsHaveItems places n (ABinding x ty e more) = HasItems places n e × BindingsHaveItems (with places x.0 (path env e places n)) (n + impure env e) more

  named_each : (n : ℕ) (done : List Path) (known : Known) (taken : Taken) (g : Given) (p : Path) (o : Option Value) (next : Next) (rest : Rest) → IsSome o → value_at env m args known p ≡ held_value o → TakesOf env done p → GoesSo env m args choice n taken done known
      → NextSo env m args choice n (n + 0) done known p next rest → on_named o taken g next ≡ rest done known g
  named_each n done known taken g p (Some v) next rest i at takes state so =
      so v taken done known g (record { held = at; kept = kept_to_self env n done known; state = goes_more env m args choice n (n + 0) taken done known (omega arith) state; takes = takes; through = through_self done })
  named_each n done known taken g p None next rest i at takes state so = cc

  var_each : (n : ℕ) (done : List Path) (known : Known) (taken : Taken) (g : Given) (o : Option Value) (q : Option Path) (next : Next) (rest : Rest) → IsPlaced q → StandsAt (value_at env m args known) o q → TakesPlace env done q → GoesSo env m args choice n taken done known
      → NextSo env m args choice n (n + 0) done known (path_or q) next rest → on_named o taken g next ≡ rest done known g
  var_each n done known taken g (Some v) (Some p) next rest i h takes state so = named_each n done known taken g p (Some v) next rest refl h takes state so
  var_each n done known taken g None (Some p) next rest i h takes state so = absurd h
  var_each n done known taken g o None next rest i h takes state so = absurd i

  mutual
    -- what follows the values of an expression
    pub each_follows : (e : Expr) (n : ℕ) (names : Names) (places : Places) (taken : Taken) (done : List Path) (known : Known) (g : Given) (next : Next) (rest : Rest) → HasAnsweredCalls AnyOften env m places n e → HasItems places n e → Agree (value_at env m args known) names places
        → PlacesUpTo n places → PlacesTake env done places → GoesSo env m args choice n taken done known → NextSo env m args choice n (n + impure env e) done known (path env e places n) next rest
        → each_value env m choice e names places n taken g next ≡ behind_ordered env m args (calls env e places n) done known g rest
    each_follows (expr.Var ty x) n names places taken done known g next rest t items a up takes state so = var_each n done known taken g (names x.0) (places x.0) next rest t (a.by x.0) (takes.by x.0) state so
    each_follows (expr.ConstBool b) n names places taken done known g next rest t items a up takes state so =
        so (Truth b) taken done known g (record { held = refl; kept = kept_to_self env n done known; state = goes_more env m args choice n (n + 0) taken done known (omega arith) state; takes = tt; through = through_self done })
    each_follows (expr.ConstInt ty k) n names places taken done known g next rest t items a up takes state so =
        so (int_value env ty k) taken done known g (record { held = refl; kept = kept_to_self env n done known; state = goes_more env m args choice n (n + 0) taken done known (omega arith) state; takes = tt; through = through_self done })
    each_follows (expr.ConstPrim ty name) n names places taken done known g next rest t items a up takes state so =
        named_each n done known taken g (ConstPrim name) (const_of m (sym_text env name)) next rest t refl tt state so
    each_follows (expr.Term ty term es) n names places taken done known g next rest t items a up takes state so =
        let c = calling env term in
        let ps = paths env es places n in
        let k = n + impure_all env es in
        let p = call_path env term ps k in
        let le : n ≤ n + impure_all env es = omega arith in
        let so1 : NextSo env m args choice n (one_more c k) done known (answer_path c p) next rest = subst (λ j. NextSo env m args choice n j done known (answer_path c p) next rest) (sym (one_more_up c n (impure_all env es))) so in
        all_follow es n names places taken done known g (λ vs now given. on_term env m choice (making env term) c p vs now given next) (λ later here given. behind_ordered env m args (if_ordered env c p) later here given rest) t.1 items.1 a up takes state
        (λ vs now later here given r. term_each (making env term) c n k done later known here now given term ps vs next rest le refl t.0 items.0 (paths_up_to es env places n up) r so1)
        ∙ sym (behind_append env m args (calls_all env es places n) (if_ordered env c p) done known g rest)
    each_follows (expr.Let ty bs inner) n names places taken done known g next rest t items a up takes state so =
        let n1 = n + impure_bindings env bs in
        let mid = let_places env bs places n in
        let q = path env inner mid n1 in
        let le : n ≤ n + impure_bindings env bs = omega arith in
        let assoc : n + (impure_bindings env bs + impure env inner) ≡ n + impure_bindings env bs + impure env inner = omega arith in
        bindings_follow bs n names places taken done known g (λ all now given. each_value env m choice inner all mid n1 now given next) (λ later here given. behind_ordered env m args (calls env inner mid n1) later here given rest) t.0 items.0 a up takes state
        (λ all now later here given r. each_follows inner n1 all mid now later here given next rest t.1 items.1 r.agree (let_up_to bs env places n up) r.takes r.state
        (subst (λ j. NextSo env m args choice n1 j later here q next rest) assoc (so_behind n n1 (n + (impure_bindings env bs + impure env inner)) done later known here q next rest le r.kept r.through so)))
        ∙ sym (behind_append env m args (calls_bindings env bs places n) (calls env inner mid n1) done known g rest)

    -- so of expressions in order
    all_follow : (es : Exprs) (n : ℕ) (names : Names) (places : Places) (taken : Taken) (done : List Path) (known : Known) (g : Given) (next : List Value → Taken → Given → Given) (rest : Rest) → AreAnsweredCalls AnyOften env m places n es → AllHaveItems places n es
        → Agree (value_at env m args known) names places → PlacesUpTo n places → PlacesTake env done places → GoesSo env m args choice n taken done known → AllSo n (n + impure_all env es) done known (paths env es places n) next rest
        → each_values env m choice es names places n taken g next ≡ behind_ordered env m args (calls_all env es places n) done known g rest
    all_follow NoExpr n names places taken done known g next rest t items a up takes state so =
        so [] taken done known g (record { held = refl; kept = kept_to_self env n done known; state = goes_more env m args choice n (n + 0) taken done known (omega arith) state; takes = tt; through = through_self done })
    all_follow (AnExpr e es) n names places taken done known g next rest t items a up takes state so =
        let n1 = n + impure env e in
        let p = path env e places n in
        let ps = paths env es places n1 in
        let le : n ≤ n + impure env e = omega arith in
        let assoc : n + impure env e + impure_all env es ≡ n + (impure env e + impure_all env es) = omega arith in
        each_follows e n names places taken done known g (λ v now given. each_values env m choice es names places n1 now given (λ vs. next (v ∷ vs))) (λ later here given. behind_ordered env m args (calls_all env es places n1) later here given rest) t.0 items.0 a up takes state
        (λ v now later here given r. all_follow es n1 names places now later here given (λ vs. next (v ∷ vs)) rest t.1 items.1 (agree_on env m args n done known here names places up takes r.kept a) (places_more places n n1 le up)
        (places_take_on env done later places r.through takes) r.state
        (λ vs now2 more here2 given2 h. so (v ∷ vs) now2 more here2 given2 (record {
          held = ap (λ x. value_before x (values_at env m args here2 ps)) (settled_stays p env m args n1 later here here2 (path_up_to e env places n up) r.takes h.kept ∙ r.held) ∙ ap (value_before (a_value v)) h.held;
          kept = kept_to_on env n n1 done later known here here2 le r.through r.kept h.kept;
          state = subst (λ j. GoesSo env m args choice j now2 more here2) assoc h.state;
          takes = (takes_on p env later more h.through r.takes, h.takes);
          through = through_on r.through h.through;
        })))
        ∙ sym (behind_append env m args (calls env e places n) (calls_all env es places n1) done known g rest)

    -- so of the values of a `let`
    bindings_follow : (bs : LetBindings) (n : ℕ) (names : Names) (places : Places) (taken : Taken) (done : List Path) (known : Known) (g : Given) (next : Names → Taken → Given → Given) (rest : Rest) → HaveAnsweredBindings AnyOften env m places n bs → BindingsHaveItems places n bs
        → Agree (value_at env m args known) names places → PlacesUpTo n places → PlacesTake env done places → GoesSo env m args choice n taken done known → NamesSo n (n + impure_bindings env bs) done known (let_places env bs places n) next rest
        → each_binding env m choice bs names places n taken g next ≡ behind_ordered env m args (calls_bindings env bs places n) done known g rest
    bindings_follow NoBinding n names places taken done known g next rest t items a up takes state so =
        so names taken done known g (record { agree = a; kept = kept_to_self env n done known; state = goes_more env m args choice n (n + 0) taken done known (omega arith) state; takes = takes; through = through_self done })
    bindings_follow (ABinding x ty e more) n names places taken done known g next rest t items a up takes state so =
        let n1 = n + impure env e in
        let p = path env e places n in
        let mid = with places x.0 p in
        let le : n ≤ n + impure env e = omega arith in
        let assoc : n + impure env e + impure_bindings env more ≡ n + (impure env e + impure_bindings env more) = omega arith in
        each_follows e n names places taken done known g (λ v now given. each_binding env m choice more (with names x.0 v) mid n1 now given next) (λ later here given. behind_ordered env m args (calls_bindings env more mid n1) later here given rest) t.0 items.0 a up takes state
        (λ v now later here given r. bindings_follow more n1 (with names x.0 v) mid now later here given next rest t.1 items.1
        (with_agrees (value_at env m args here) names places x.0 v p r.held (agree_on env m args n done known here names places up takes r.kept a)) (with_up_to n1 x.0 p places (path_up_to e env places n up) (places_more places n n1 le up))
        (with_takes env later places x.0 p r.takes (places_take_on env done later places r.through takes)) r.state
        (λ all now2 then2 here2 given2 h. so all now2 then2 here2 given2 (record {
          agree = h.agree;
          kept = kept_to_on env n n1 done later known here here2 le r.through r.kept h.kept;
          state = subst (λ j. GoesSo env m args choice j now2 then2 here2) assoc h.state;
          takes = h.takes;
          through = through_on r.through h.through;
        })))
        ∙ sym (behind_append env m args (calls env e places n) (calls_bindings env more mid n1) done known g rest)
