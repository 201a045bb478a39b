-- Flows of a well-formed function: none is stuck, and each that ends does so as the function's kind does.
use Rattle.std.proofs.Common.{◌≡◌, ℕ, zero, suc, ◌<◌, List, [], ◌∷◌, ◌++◌, length, Bool, true, false, Option, Some, None, refl, sym, subst, arith, rules}
use Rattle.std.specs.Prelude.{nat_lt, if◌then◌else◌, Contains, IsSome, slice_get}
use Rattle.std.specs.List.{AllByRecursion}
use Rattle.std.proofs.lemmas.Bool.Decides.{nat_tests}
use Rattle.std.proofs.lemmas.List.Elements.{Contains-append_left, Contains-append_right}
use Rattle.isle_core.specs.declared.types.ReturnKind.{ReturnKind}
use Rattle.isle_core.specs.declared.types.ReturnKind.TheVariants as kind
use Rattle.isle_core.specs.declared.values.Callee.{Callee}
use Rattle.isle_core.specs.Value.{Value, Made, GivesNone, GivesList}
use Rattle.isle_core.specs.SameInRun.{same_in_run}
use Rattle.isle_core.specs.Meaning.{Meaning}
use Rattle.isle_core.specs.Answered.{Item, AValue, ATuple, Held, Absent, One, Optional, Listed, a_value, answer_held, answer}
use Rattle.isle_tree.specs.declared.holds.Holds.{Holds}
use Rattle.isle_tree.specs.declared.holds.Holds.TheVariants as holds
use Rattle.isle_tree.specs.declared.holds.Item.{Item as ItemHeld}
use Rattle.isle_tree.specs.declared.holds.Item.TheVariants as item
use Rattle.isle_tree.specs.declared.tree.TCall.{TCall}
use Rattle.isle_tree.specs.WellFormed.{Locals, Callables, IsRead, are_values, callee_holds, inner_holds, once_holds, list_holds, each_holds, part_holds, after_let, GivesSeveral}
use Rattle.isle_tree.specs.Caller.{by_meaning, with_call}
use Rattle.isle_tree.specs.Run.{Around, State, Env, Flow, Goes, Ends, Leaves, Stuck, bind, read_values, fitted, on_value, on_list, then_run, after_scope, after_closure, run_bind, run_call, run_try, part_of, run_part, run_items, stops}
use Rattle.isle_interpreter.specs.Ends.{EndFits}
use Rattle.isle_interpreter.proofs.AnswersHold.{IsItem, HoldsIn}
use Rattle.isle_interpreter.proofs.LocalsHold.{Agree, HoldsIfKnown, one_more, HasValue, HaveValues, told_values, Bound, both_agree}

-- ---- what is called answers with its kind and its results

-- each callee that may be called answers so
abbrev pub Answering : Callables → Meaning → List Callee → Type 0
Answering fns m callees = (c : Callee) → Contains callees c → (count : ℕ) (h : Holds) → callee_holds fns c count ≡ Some h → (vs : List Value) (made : List Made) → HoldsIn h (answer_held (answer m c vs made))

-- what is answered once, and what is answered several times
pub once_is : (o : Option Holds) → IsSome (once_holds o) → once_holds o ≡ o
once_is None some = refl
once_is (Some (holds.One x)) some = refl
once_is (Some (holds.Optional x)) some = refl
once_is (Some (holds.Several x)) some = absurd cc

pub list_is : (o : Option Holds) → IsSome (list_holds o) → list_holds o ≡ o
list_is None some = refl
list_is (Some (holds.One x)) some = absurd cc
list_is (Some (holds.Optional x)) some = absurd cc
list_is (Some (holds.Several x)) some = refl

-- what is said of two parts is said of each
pub front_answering : (fns : Callables) (m : Meaning) (xs ys : List Callee) → Answering fns m (xs ++ ys) → Answering fns m xs
front_answering fns m xs ys h c k = h c (Contains-append_left xs ys c k)

pub rest_answering : (fns : Callables) (m : Meaning) (xs ys : List Callee) → Answering fns m (xs ++ ys) → Answering fns m ys
rest_answering fns m xs ys h c k = h c (Contains-append_right xs ys c k)

-- a part of a tuple of as many values
record HasPart (o : Option Value) : Type 0 where
  v : Value
  is : o ≡ Some v

part_there : (vs : List Value) (part : ℕ) → part < length vs → HasPart (slice_get vs part)
part_there [] part l = absurd (omega (arith, l))
part_there (v ∷ vs) zero l = record { v = v; is = refl }
part_there (v ∷ vs) (suc part) l = part_there vs part (omega (arith, l))

-- ---- statements go on or end

module _ (of : ReturnKind) (closed : Bool) where
  -- a flow that goes on with these locals, or ends as the kind does; inside a closure it may leave that
  abbrev pub Well : Locals → Flow → Type 0
  Well bound (Goes env st) = Agree bound env
  Well bound (Ends end st) = EndFits of end
  Well bound (Leaves st) = closed ≡ true
  Well bound Stuck = ⊥

  -- if the locals don't count
  abbrev pub NotStuck : Flow → Type 0
  NotStuck (Goes env st) = Unit {0}
  NotStuck (Ends end st) = EndFits of end
  NotStuck (Leaves st) = closed ≡ true
  NotStuck Stuck = ⊥

  pub well_left : (bound : Locals) (env : Env) (flow : Flow) → Agree bound env → NotStuck flow → Well bound (after_scope env flow)
  well_left bound env (Goes inner st) a h = a
  well_left bound env (Ends end st) a h = h
  well_left bound env (Leaves st) a h = h
  well_left bound env Stuck a h = h

  pub well_fitted : (bound ls : Locals) (env : Env) (o : Option Env) (go : Env → Flow) (other : Flow) → Agree bound env → Bound ls o → ((inner : Env) → Agree (bound ++ ls) inner → NotStuck (go inner)) → Well bound other
      → Well bound (fitted o (λ more. after_scope env (go (env ++ more))) other)
  well_fitted bound ls env None go other a k next left = left
  well_fitted bound ls env (Some more) go other a k next left = well_left bound env (go (env ++ more)) a (next (env ++ more) (both_agree bound ls env more a k))

  pub well_bind : (n : ℕ) (h : Holds) (g : Held) (bound : Locals) (env : Env) (st : State) → Agree bound env → HoldsIn h g → Well (bound ++ (n, h) ∷ []) (run_bind n g env st)
  well_bind n h (One i) bound env st a k = one_more bound env n h (One i) a k
  well_bind n h (Listed is) bound env st a k = one_more bound env n h (Listed is) a k
  well_bind n h (Optional o) bound env st a k = one_more bound env n h (Optional o) a k
  well_bind n (holds.One x) Absent bound env st a k = absurd k
  well_bind n (holds.Optional x) Absent bound env st a k = absurd k
  well_bind n (holds.Several x) Absent bound env st a k = absurd k

  -- what is bound to what a place holds
  pub well_known : (n : ℕ) (o : Option Holds) (g : Held) (bound : Locals) (env : Env) (st : State) → Agree bound env → IsSome o → HoldsIfKnown o g → Well (after_let o n bound) (run_bind n g env st)
  well_known n None g bound env st a e t = absurd cc
  well_known n (Some h) g bound env st a e t = well_bind n h g bound env st a t

  pub well_try : (n : ℕ) (o : Option Holds) (g : Held) (bound : Locals) (env : Env) (st : State) → Agree bound env → IsSome (inner_holds o) → HoldsIfKnown o g → of ≡ kind.Option → Well (after_let (inner_holds o) n bound) (run_try n g env st)
  well_try n None g bound env st a e t k = absurd cc
  well_try n (Some (holds.One x)) g bound env st a e t k = absurd cc
  well_try n (Some (holds.Several x)) g bound env st a e t k = absurd cc
  well_try n (Some (holds.Optional x)) (Optional (Some i)) bound env st a e t k = one_more bound env n (holds.One x) (One i) a t
  well_try n (Some (holds.Optional x)) (Optional None) bound env st a e t k = subst (λ x. EndFits x GivesNone) (sym k) tt
  well_try n (Some (holds.Optional x)) (One i) bound env st a e t k = absurd t
  well_try n (Some (holds.Optional x)) (Listed is) bound env st a e t k = absurd t
  well_try n (Some (holds.Optional x)) Absent bound env st a e t k = absurd t

  pub well_part : (n part : ℕ) (o : Option Holds) (g : Held) (bound : Locals) (env : Env) (st : State) → Agree bound env → IsSome (part_holds part o) → HoldsIfKnown o g → Well (after_let (part_holds part o) n bound) (run_part n (part_of part g) env st)
  well_part n part None g bound env st a e t = absurd cc
  well_part n part (Some (holds.One item.Value)) g bound env st a e t = absurd cc
  well_part n part (Some (holds.Optional x)) g bound env st a e t = absurd cc
  well_part n part (Some (holds.Several x)) g bound env st a e t = absurd cc
  well_part n part (Some (holds.One (item.Tuple count))) (One (AValue v)) bound env st a e t = absurd t
  well_part n part (Some (holds.One (item.Tuple count))) (Optional o) bound env st a e t = absurd t
  well_part n part (Some (holds.One (item.Tuple count))) (Listed is) bound env st a e t = absurd t
  well_part n part (Some (holds.One (item.Tuple count))) Absent bound env st a e t = absurd t
  well_part n part (Some (holds.One (item.Tuple count))) (One (ATuple vs)) bound env st a e t = by (nat_lt part count) refl e
    where
      below : nat_lt part count ≡ true → part < count
      below f = grind (arith, nat_tests)

      by : (b : Bool) → nat_lt part count ≡ b → IsSome (if b then Some (holds.One item.Value) else None) → Well (after_let (if b then Some (holds.One item.Value) else None) n bound) (run_part n (slice_get vs part) env st)
      by true f g =
          let low = below f in
          let same : length vs ≡ count = t in
          let there = part_there vs part (omega (arith, low, same)) in
          subst (λ o. Well (bound ++ (n, holds.One item.Value) ∷ []) (run_part n o env st)) (sym there.is) (one_more bound env n (holds.One item.Value) (a_value there.v) a tt)
      by false f g = absurd cc

  pub well_call : (fns : Callables) (w : Around) (n : ℕ) (call : TCall) (bound : Locals) (env : Env) (st : State) → w.caller ≡ by_meaning w.meaning → AllByRecursion IsRead call.args → Agree bound env
      → Answering fns w.meaning (call.callee ∷ [])
      → (o : Option Holds) → o ≡ (if are_values (length w.args) bound call.args then callee_holds fns call.callee (length call.args) else None) → IsSome o
      → Well (after_let o n bound) (run_call w n call.callee (read_values w env call.args) env st)
  well_call fns w n call bound env st asks is a answering o e some = by (are_values (length w.args) bound call.args) refl e
    where
      holding : (b : Option Holds) → callee_holds fns call.callee (length call.args) ≡ b → o ≡ b → HaveValues (read_values w env call.args) → Well (after_let o n bound) (run_call w n call.callee (read_values w env call.args) env st)
      holding None f g have = absurd cc
      holding (Some h) f g have =
          let held_so = answering call.callee (search rules) (length call.args) h f have.vs st.made in
          rw (g, have.are, asks) (well_bind n h (answer_held (answer w.meaning call.callee have.vs st.made)) bound env (record { made = with_call st.made call.callee have.vs; given = st.given }) a held_so)

      by : (b : Bool) → are_values (length w.args) bound call.args ≡ b → o ≡ (if b then callee_holds fns call.callee (length call.args) else None) → Well (after_let o n bound) (run_call w n call.callee (read_values w env call.args) env st)
      by true f g = holding (callee_holds fns call.callee (length call.args)) refl g (told_values w bound env call.args is a f)
      by false f g = absurd cc

  -- a test runs what is inside it, or goes on
  pub well_test : (bound : Locals) (env : Env) (st : State) (g h : Held) (inside : Flow) → Agree bound env → HasValue g → HasValue h → NotStuck inside
      → Well bound (on_value g (λ v. on_value h (λ u. if same_in_run v u then after_scope env inside else Goes env st)))
  well_test bound env st g h inside a one two k =
      subst (λ x. Well bound (on_value x (λ v. on_value h (λ u. if same_in_run v u then after_scope env inside else Goes env st)))) (sym one.is)
      (subst (λ x. Well bound (on_value x (λ u. if same_in_run one.v u then after_scope env inside else Goes env st))) (sym two.is) (by (same_in_run one.v two.v)))
    where
      by : (b : Bool) → Well bound (if b then after_scope env inside else Goes env st)
      by true = well_left bound env inside a k
      by false = a

  -- ---- loops

  pub then_well : (bound : Locals) (flow : Flow) (go : Env → State → Flow) → Well bound flow → ((env : Env) (st : State) → Agree bound env → NotStuck (go env st)) → NotStuck (then_run flow go)
  then_well bound (Goes env st) go h next = next env st h
  then_well bound (Ends end st) go h next = h
  then_well bound (Leaves st) go h next = h
  then_well bound Stuck go h next = h

  then_goes : (bound : Locals) (flow : Flow) (go : Env → State → Flow) → NotStuck flow → ((env : Env) (st : State) → Well bound (go env st)) → Well bound (then_run flow go)
  then_goes bound (Goes env st) go h next = next env st
  then_goes bound (Ends end st) go h next = h
  then_goes bound (Leaves st) go h next = h
  then_goes bound Stuck go h next = h

  -- what is done with each item goes on or ends
  well_items : (x : ItemHeld) (go : Item → State → Flow) (bound : Locals) (env : Env) (is : List Item) (st : State) → Agree bound env → AllByRecursion (IsItem x) is → ((i : Item) (t : State) → IsItem x i → NotStuck (go i t)) → Well bound (run_items go env is st)
  well_items x go bound env [] st a are next = a
  well_items x go bound env (i ∷ is) st a are next = then_goes bound (go i st) (λ inner t. run_items go env is t) (next i st are.0) (λ inner t. well_items x go bound env is t a are.1 next)

  pub well_loop : (n : ℕ) (inside : Env → State → Flow) (o : Option Holds) (g : Held) (bound : Locals) (env : Env) (st : State) → Agree bound env → IsSome (each_holds o) → HoldsIfKnown o g
      → ((inner : Env) (t : State) → Agree (after_let (each_holds o) n bound) inner → NotStuck (inside inner t)) → Well bound (on_list g (λ is. run_items (λ i t. inside (bind env n (One i)) t) env is st))
  well_loop n inside None g bound env st a e t next = absurd cc
  well_loop n inside (Some (holds.One x)) g bound env st a e t next = absurd cc
  well_loop n inside (Some (holds.Optional x)) g bound env st a e t next = absurd cc
  well_loop n inside (Some (holds.Several x)) (Listed is) bound env st a e t next =
      well_items x (λ i t. inside (bind env n (One i)) t) bound env is st a t (λ i t k. next (bind env n (One i)) t (one_more bound env n (holds.One x) (One i) a k))
  well_loop n inside (Some (holds.Several x)) (One i) bound env st a e t next = absurd t
  well_loop n inside (Some (holds.Several x)) (Optional o) bound env st a e t next = absurd t
  well_loop n inside (Some (holds.Several x)) Absent bound env st a e t next = absurd t

  -- ---- stops and closures

  -- inside a closure that is left, outside all of them the function ends with its list
  pub well_stopped : (within : Bool) (bound : Locals) (st : State) → GivesSeveral of → within ≡ closed → Well bound (stops within st)
  well_stopped true bound st gives is = sym is
  well_stopped false bound st gives is = list_fits of gives
    where
      list_fits : (k : ReturnKind) → GivesSeveral k → EndFits k (GivesList st.given)
      list_fits kind.Plain h = absurd h
      list_fits kind.Option h = absurd h
      list_fits kind.Iterator h = tt

  -- a stop at a full list
  pub well_stop : (within full : Bool) (bound : Locals) (env : Env) (st : State) → Agree bound env → GivesSeveral of → within ≡ closed → Well bound (if full then stops within st else Goes env st)
  well_stop within false bound env st a gives is = a
  well_stop within true bound env st a gives is = well_stopped within bound st gives is

-- after a closure, which may be left
pub well_closure : (of : ReturnKind) (closed within : Bool) (bound : Locals) (env : Env) (flow : Flow) → Agree bound env → GivesSeveral of → within ≡ closed → NotStuck of true flow → Well of closed bound (after_closure within env flow)
well_closure of closed within bound env (Goes inner st) a gives is h = a
well_closure of closed within bound env (Ends end st) a gives is h = h
well_closure of closed within bound env (Leaves st) a gives is h = well_stopped of closed within bound st gives is
well_closure of closed within bound env Stuck a gives is h = absurd h
