-- A rule's own step asks no more than what it binds anew, and once for each inner value of its ordered calls.
use Rattle.std.proofs.Common.{◌≡◌, ◌⊎◌, inl, inr, ⊎_elim, ℕ, ◌+◌, ◌≤◌, List, [], ◌∷◌, ◌++◌, Bool, true, false, cond, eqb, Option, Some, None, refl, sym, ap, ◌∙◌, subst, arith}
use Rattle.std.specs.Prelude.{◌||◌, slice_get, Contains}
use Rattle.std.specs.List.{AllByRecursion}
use Rattle.std.proofs.lemmas.Bool.{eqb-true}
use Rattle.isle_core.specs.declared.BindingId.{BindingId}
use Rattle.isle_core.specs.declared.rule_sets.Binding.{Binding}
use Rattle.isle_core.specs.declared.rule_sets.Binding.TheVariants as binding
use Rattle.isle_core.specs.declared.rule_sets.Constraint.{Constraint}
use Rattle.isle_core.specs.declared.rule_sets.FlatRule.{FlatRule}
use Rattle.isle_core.specs.ArmPlaces.{bound_within}
use Rattle.isle_core.specs.Bindable.{bound_by}
use Rattle.isle_core.specs.Block.{Control, Match, Equal, Return, NoArm, Arm}
use Rattle.isle_core.specs.BlockViews.{SeenStep}
use Rattle.isle_core.specs.Rule.{Environment}
use Rattle.isle_core.specs.StandsFor.{EachOnce}
use Rattle.isle_core.proofs.Contained.{head_contained, tail_contained, contained_cases}
use Rattle.isle_blocks.specs.AskedCalls.{asked_one, asked_binds, asked_control}
use Rattle.isle_blocks.specs.LoopFree.{HasNoLoopWithin}
use Rattle.isle_blocks.specs.Needed.{list_before, is_bound, needs, parameters_of}
use Rattle.isle_blocks.specs.Nest.{with_inner, call_binds, binds, was_bound, left_one, left_calls, left_item, items_left, left_items, last_binds, alone, open_by, opening, opened, Shows, Behind, last_step, all_matched, all_equated}
use Rattle.isle_blocks.proofs.LeftCounts.{is_used, used_push, left_of, order_less, places_less, push_one}
use Rattle.isle_blocks.proofs.NeedsAsked.{one_at_most, item_not_asked, inner_not_asked, asked_append, is_none, plain, IsClosed, needs_ask}
use Rattle.isle_blocks.proofs.NeedsSo.{option_before}
use Rattle.isle_blocks.proofs.NextLaws.{FindsNext}
use Rattle.isle_blocks.proofs.PushedBinds.{bound_append}

-- ---- steps

-- how many calls of extractors and pure terms a step has
abbrev pub asked_step : Environment → List Binding → SeenStep → ℕ
asked_step env bs s = asked_binds env bs s.0 + asked_control env bs s.1

open_asks : (env : Environment) (bs : List Binding) (list : Option BindingId) (b : BindingId) (t : SeenStep) → asked_step env bs (open_by list b t) ≤ asked_one env (slice_get bs b.0) + asked_step env bs t
open_asks env bs (Some list) b t = omega arith
open_asks env bs None b t = omega arith

opening_asks : (env : Environment) (bs : List Binding) (order : List BindingId) (c : Control) → asked_step env bs (opening bs order c) ≤ asked_binds env bs order + asked_control env bs c
opening_asks env bs [] c = omega arith
opening_asks env bs (b ∷ order) c =
    let one = open_asks env bs (list_before (slice_get bs b.0)) b (opening bs order c) in
    let rest = opening_asks env bs order c in
    omega (arith, one, rest)

-- as many as its order and what is done then
pub opened_asks : (env : Environment) (bs : List Binding) (several : Bool) (order : List BindingId) (c : Control) → asked_step env bs (opened several bs order c) ≤ asked_binds env bs order + asked_control env bs c
opened_asks env bs true order c = opening_asks env bs order c
opened_asks env bs false order c = omega arith

-- ---- without Loop

-- none of an order is an item
abbrev pub HasNoItem : List Binding → List BindingId → Type 0
HasNoItem bs order = AllByRecursion (λ (b : BindingId). list_before (slice_get bs b.0) ≡ None) order

-- of a term that answers several times, the step has no Loop
abbrev pub IsLoopFree : Bool → SeenStep → Type 0
IsLoopFree several s = several ≡ true → HasNoLoopWithin s.1

open_free : (bs : List Binding) (list : Option BindingId) (b : BindingId) (t : SeenStep) → HasNoLoopWithin (open_by list b t).1 → (list ≡ None) × HasNoLoopWithin t.1
open_free bs (Some list) b t h = absurd h
open_free bs None b t h = (refl, h)

opening_free : (bs : List Binding) (order : List BindingId) (c : Control) → HasNoLoopWithin (opening bs order c).1 → HasNoItem bs order × HasNoLoopWithin c
opening_free bs [] c h = (tt, h)
opening_free bs (b ∷ order) c h =
    let one = open_free bs (list_before (slice_get bs b.0)) b (opening bs order c) h in
    let rest = opening_free bs order c one.1 in
    ((one.0, rest.0), rest.1)

pub opened_free : (bs : List Binding) (several : Bool) (order : List BindingId) (c : Control) → IsLoopFree several (opened several bs order c) → several ≡ true → HasNoLoopWithin c
opened_free bs true order c h e = (opening_free bs order c (h e)).1
opened_free bs false order c h e = cc

all_none : (bs : List Binding) (order : List BindingId) → ((b : BindingId) → list_before (slice_get bs b.0) ≡ None) → HasNoItem bs order
all_none bs [] h = tt
all_none bs (b ∷ order) h = (h b, all_none bs order h)

-- so its order has no item
opened_plain : (bs : List Binding) (several : Bool) (order : List BindingId) (c : Control) → (several ≡ false → (b : BindingId) → list_before (slice_get bs b.0) ≡ None) → IsLoopFree several (opened several bs order c) → HasNoItem bs order
opened_plain bs true order c none h = (opening_free bs order c (h refl)).0
opened_plain bs false order c none h = all_none bs order (none refl)

none_behind : (bs : List Binding) (xs ys : List BindingId) → HasNoItem bs (xs ++ ys) → HasNoItem bs ys
none_behind bs [] ys h = h
none_behind bs (x ∷ xs) ys h = none_behind bs xs ys h.1

none_before : (bs : List Binding) (xs ys : List BindingId) → HasNoItem bs (xs ++ ys) → HasNoItem bs xs
none_before bs [] ys h = tt
none_before bs (x ∷ xs) ys h = (h.0, none_before bs xs ys h.1)

-- ---- calls with their inner values

-- an inner value
abbrev pub inner : List Binding → ℕ → Bool
inner bs n = cond (plain bs n) false true

module _ (env : Environment) (bs : List Binding) (l : List ℕ) where
  -- if a call is one of an extractor or a pure term, its inner value is in the list, and not used yet
  abbrev IsPaired : List ℕ → BindingId → Type 0
  IsPaired used c = (asked_one env (slice_get bs c.0) ≡ 0) ⊎ ((b : BindingId) × (slice_get bs b.0 ≡ Some (binding.MatchSome c)) × Contains l b.0 × (is_used used b.0 ≡ false))

  some_inner : (x y : BindingId) → Some (binding.MatchSome x) ≡ Some (binding.MatchSome y) → x ≡ y
  some_inner x y e = cc

  still_apart : (used : List ℕ) (b c d e : BindingId) → slice_get bs b.0 ≡ Some (binding.MatchSome c) → slice_get bs e.0 ≡ Some (binding.MatchSome d) → (c ≡ d → ⊥) → is_used used e.0 ≡ false → is_used (used ++ b.0 ∷ []) e.0 ≡ false
  still_apart used b c d e at_b at_e apart free = used_push used b.0 e.0 ∙ ap (λ t. t || eqb b.0 e.0) free ∙ pick (eqb b.0 e.0) refl
    where
      pick : (t : Bool) → eqb b.0 e.0 ≡ t → eqb b.0 e.0 ≡ false
      pick true is = absurd (apart (some_inner c d (sym at_b ∙ ap (slice_get bs) (eqb-true b.0 e.0 is) ∙ at_e)))
      pick false is = is

  still_paired : (used : List ℕ) (b c : BindingId) (cs : List BindingId) → slice_get bs b.0 ≡ Some (binding.MatchSome c) → (Contains cs c → ⊥) → AllByRecursion (IsPaired used) cs → AllByRecursion (IsPaired (used ++ b.0 ∷ [])) cs
  still_paired used b c [] at_b new h = tt
  still_paired used b c (d ∷ cs) at_b new h = (
    ⊎_elim (λ none. inl none) (λ k. inr (k.0, k.1, k.2, still_apart used b c d k.0 at_b k.1 (λ same. new (subst (Contains (d ∷ cs)) (sym same) (head_contained d cs))) k.3)) h.0,
    still_paired used b c cs at_b (λ k. new (tail_contained d cs c k)) h.1,
  )

  -- different calls ask no more than there are inner values in the list
  paired_ask : (used : List ℕ) (cs : List BindingId) → EachOnce cs → AllByRecursion (IsPaired used) cs → asked_binds env bs cs ≤ left_of (inner bs) used l
  paired_ask used [] once h = omega arith
  paired_ask used (c ∷ cs) once h = ⊎_elim
      (λ none. let rest = paired_ask used cs once.1 h.1 in omega (arith, rest, none))
      (λ k.
      let rest = paired_ask (used ++ k.0.0 ∷ []) cs once.1 (still_paired used k.0 c cs k.1 once.0 h.1) in
      let one = push_one (inner bs) used k.0.0 l k.2 (ap (λ o. cond (is_none (option_before o)) false true) k.1) k.3 in
      let most = one_at_most env (slice_get bs c.0) in
      omega (arith, rest, one, most)) h.0

  -- ---- ordered calls

  module _ (next : ℕ → Option BindingId) (finds : FindsNext bs next) where
    -- what a call is made on is in the list; and if it is pure, what stands directly after it is its inner value, which is in the list, or its item
    pub data IsFollowed (c : BindingId) : Type 0 where
      unasked : asked_one env (slice_get bs c.0) ≡ 0 → IsFollowed c
      by_inner : (b : BindingId) → next c.0 ≡ Some b → slice_get bs b.0 ≡ Some (binding.MatchSome c) → Contains l b.0 → IsFollowed c
      by_item : (b : BindingId) → next c.0 ≡ Some b → slice_get bs b.0 ≡ Some (binding.Iterator c) → IsFollowed c

    pub record IsCallRead (c : BindingId) : Type 0 where
      pub parameters : AllByRecursion (λ (p : BindingId). Contains l p.0) (parameters_of (slice_get bs c.0))
      pub followed : IsFollowed c

    -- a call, and what stands after it, which isn't one
    with_inner_asks : (c : BindingId) (o : Option BindingId) → next c.0 ≡ o → asked_binds env bs (with_inner o c) ≡ asked_one env (slice_get bs c.0)
    with_inner_asks c None e = omega arith
    with_inner_asks c (Some b) e =
        let none : asked_one env (slice_get bs b.0) ≡ 0 = ⊎_elim
        (λ is. inner_not_asked env (slice_get bs b.0) c (ap option_before is)) (λ is. item_not_asked env (slice_get bs b.0) c (ap list_before is)) (finds.found c b e).0 in
        omega (arith, none)

    -- calls in order ask for themselves and for what they bind anew
    calls_ask : IsClosed bs l → (bound : List ℕ) (cs : List BindingId) → AllByRecursion IsCallRead cs
        → asked_binds env bs (binds bs next bound cs) + left_of (plain bs) (bound_by bound (binds bs next bound cs)) l ≤ left_of (plain bs) bound l + asked_binds env bs cs
    calls_ask closed bound [] h = omega arith
    calls_ask closed bound (c ∷ cs) h =
        let before = needs bs bound (parameters_of (slice_get bs c.0)) in
        let own = with_inner (next c.0) c in
        let order = before ++ own in
        let rest = binds bs next (bound_by bound order) cs in
        let first = needs_ask env bs l closed bound (parameters_of (slice_get bs c.0)) h.0.parameters in
        let itself = with_inner_asks c (next c.0) refl in
        let less = order_less (plain bs) l (bound_by bound before) own in
        let more = calls_ask closed (bound_by bound order) cs h.1 in
        let sum = asked_append env bs order rest in
        let parts = asked_append env bs before own in
        let now : left_of (plain bs) (bound_by bound order) l ≡ left_of (plain bs) (bound_by (bound_by bound before) own) l = ap (λ used. left_of (plain bs) used l) (bound_append bound before own) in
        let all : left_of (plain bs) (bound_by bound (order ++ rest)) l ≡ left_of (plain bs) (bound_by (bound_by bound order) rest) l = ap (λ used. left_of (plain bs) used l) (bound_append bound order rest) in
        omega (arith, first, itself, less, more, sum, parts, now, all)

    -- ---- those that are left

    one_has : (t : Bool) (c : BindingId) (ls cs : List BindingId) (x : BindingId) → (Contains ls x → Contains cs x) → Contains (left_one t c ++ ls) x → Contains (c ∷ cs) x
    one_has true c ls cs x h k = tail_contained c cs x (h k)
    one_has false c ls cs x h k = ⊎_elim (λ (e : c ≡ x). subst (Contains (c ∷ cs)) e (head_contained c cs)) (λ j. tail_contained c cs x (h j)) (contained_cases c ls x k)

    left_has : (bound : List ℕ) (cs : List BindingId) (x : BindingId) → Contains (left_calls next bound cs) x → Contains cs x
    left_has bound [] x k = k
    left_has bound (c ∷ cs) x k = one_has (was_bound next bound c) c (left_calls next bound cs) cs x (left_has bound cs x) k

    one_once : (t : Bool) (c : BindingId) (ls : List BindingId) → (Contains ls c → ⊥) → EachOnce ls → EachOnce (left_one t c ++ ls)
    one_once true c ls new h = h
    one_once false c ls new h = (new, h)

    left_once : (bound : List ℕ) (cs : List BindingId) → EachOnce cs → EachOnce (left_calls next bound cs)
    left_once bound [] h = tt
    left_once bound (c ∷ cs) h = one_once (was_bound next bound c) c (left_calls next bound cs) (λ k. h.0 (left_has bound cs c k)) (left_once bound cs h.1)

    one_read : (t : Bool) (c : BindingId) (ls : List BindingId) → IsCallRead c → AllByRecursion IsCallRead ls → AllByRecursion IsCallRead (left_one t c ++ ls)
    one_read true c ls one h = h
    one_read false c ls one h = (one, h)

    left_read : (bound : List ℕ) (cs : List BindingId) → AllByRecursion IsCallRead cs → AllByRecursion IsCallRead (left_calls next bound cs)
    left_read bound [] h = tt
    left_read bound (c ∷ cs) h = one_read (was_bound next bound c) c (left_calls next bound cs) h.0 (left_read bound cs h.1)

    -- if no item is bound, each call has its inner value
    followed_paired : (c : BindingId) → HasNoItem bs (with_inner (next c.0) c) → IsFollowed c → IsPaired [] c
    followed_paired c plain' (unasked none) = inl none
    followed_paired c plain' (by_inner b e is k) = inr (b, is, k, refl)
    followed_paired c plain' (by_item b e is) =
        let own : HasNoItem bs (c ∷ b ∷ []) = subst (λ o. HasNoItem bs (with_inner o c)) e plain' in
        let bad : Some c ≡ None = sym (ap list_before is) ∙ own.1.0 in
        absurd cc

    all_paired : (bound : List ℕ) (cs : List BindingId) → AllByRecursion IsCallRead cs → HasNoItem bs (binds bs next bound cs) → AllByRecursion (IsPaired []) cs
    all_paired bound [] h plain' = tt
    all_paired bound (c ∷ cs) h plain' =
        let before = needs bs bound (parameters_of (slice_get bs c.0)) in
        let order = call_binds bs next bound c in
        let rest = binds bs next (bound_by bound order) cs in (
          followed_paired c (none_behind bs before (with_inner (next c.0) c) (none_before bs order rest plain')) h.0.followed,
          all_paired (bound_by bound order) cs h.1 (none_behind bs order rest plain'),
        )

    -- ---- rules

    module _ (several : Bool) (shows : Shows) (items : ℕ → Option BindingId) (no_items : several ≡ false → (b : BindingId) → list_before (slice_get bs b.0) ≡ None) where
      -- the list has what a rule compares, the items of its lists, what its calls are made on with their inner values, and its result
      pub record IsRuleRead (f : FlatRule) : Type 0 where
        pub equals : AllByRecursion (λ (e : BindingId × BindingId). Contains l e.0.0 × Contains l e.1.0) f.equals
        pub lists : AllByRecursion (λ (x : BindingId). (b : BindingId) → items x.0 ≡ Some b → Contains l b.0) f.iterators
        pub calls : AllByRecursion IsCallRead f.ordered
        pub once : EachOnce f.ordered
        pub result : Contains l f.result.0

      item_read : (called : Bool) (o : Option BindingId) (more : List BindingId) → ((b : BindingId) → o ≡ Some b → Contains l b.0) → AllByRecursion (λ (b : BindingId). Contains l b.0) more → AllByRecursion (λ (b : BindingId). Contains l b.0) (left_item called o ++ more)
      item_read true o more h k = k
      item_read false None more h k = k
      item_read false (Some b) more h k = (h b refl, k)

      items_read : (called : List ℕ) (ls : List BindingId) → AllByRecursion (λ (x : BindingId). (b : BindingId) → items x.0 ≡ Some b → Contains l b.0) ls → AllByRecursion (λ (b : BindingId). Contains l b.0) (items_left items called ls)
      items_read called [] h = tt
      items_read called (x ∷ ls) h = item_read (is_bound called x) (items x.0) (items_left items called ls) h.0 (items_read called ls h.1)

      lists_read : (of : Bool) (f : FlatRule) → IsRuleRead f → AllByRecursion (λ (b : BindingId). Contains l b.0) (left_items of items f)
      lists_read true f h = items_read (bound_by [] f.ordered) f.iterators h.lists
      lists_read false f h = tt

      -- a rule's lists, its calls and its result
      last_binds_ask : IsClosed bs l → (bound : List ℕ) (f : FlatRule) → IsRuleRead f → HasNoItem bs (last_binds several bs next items bound f) → asked_binds env bs (last_binds several bs next items bound f) ≤ left_of (plain bs) bound l + left_of (inner bs) [] l
      last_binds_ask closed bound f h plain' =
          let listed = needs bs bound (left_items several items f) in
          let after = bound_by bound listed in
          let left = left_calls next after f.ordered in
          let called = binds bs next after left in
          let end = needs bs (bound_by after called) (f.result ∷ []) in
          let reads = left_read after f.ordered h.calls in
          let a = needs_ask env bs l closed bound (left_items several items f) (lists_read several f h) in
          let b = calls_ask closed after left reads in
          let c = needs_ask env bs l closed (bound_by after called) (f.result ∷ []) (h.result, tt) in
          let pairs = paired_ask [] left (left_once after f.ordered h.once) (all_paired after left reads (none_before bs called end (none_behind bs listed (called ++ end) plain'))) in
          let sum = asked_append env bs listed (called ++ end) in
          let parts = asked_append env bs called end in
          omega (arith, a, b, c, pairs, sum, parts)

      -- what a step that follows asks where these are bound, if it has no Loop
      abbrev pub BehindAsks : Behind → Type 0
      BehindAsks behind = (bound : List ℕ) → IsLoopFree several (behind bound) → asked_step env bs (behind bound) ≤ left_of (plain bs) bound l + left_of (inner bs) [] l

      last_asks : IsClosed bs l → (f : FlatRule) → IsRuleRead f → BehindAsks (last_step several bs next items f)
      last_asks closed f h bound free =
          let order = last_binds several bs next items bound f in
          let ends = Return f.pos f.result in
          let one = opened_asks env bs several order ends in
          let all = last_binds_ask closed bound f h (opened_plain bs several order ends no_items free) in
          omega (arith, one, all)

      equated_ask : IsClosed bs l → (es : List (BindingId × BindingId)) (behind : Behind) → AllByRecursion (λ (e : BindingId × BindingId). Contains l e.0.0 × Contains l e.1.0) es → BehindAsks behind → BehindAsks (all_equated several bs es behind)
      equated_ask closed [] behind reads h bound free = h bound free
      equated_ask closed (e ∷ es) behind reads h bound free =
          let order = needs bs bound (e.0 ∷ e.1 ∷ []) in
          let within = all_equated several bs es behind (bound_by bound order) in
          let check = Equal e.0 e.1 (alone within) in
          let one = opened_asks env bs several order check in
          let first = needs_ask env bs l closed bound (e.0 ∷ e.1 ∷ []) (reads.0.0, (reads.0.1, tt)) in
          let rest = equated_ask closed es behind reads.1 h (bound_by bound order) (λ is. (opened_free bs several order check free is).0) in
          omega (arith, one, first, rest)

      matched_ask : IsClosed bs l → (cs : List (BindingId × Constraint)) (behind : Behind) → AllByRecursion (λ (c : BindingId × Constraint). Contains l c.0.0) cs → BehindAsks behind → BehindAsks (all_matched several bs shows cs behind)
      matched_ask closed [] behind reads h bound free = h bound free
      matched_ask closed (c ∷ cs) behind reads h bound free =
          let order = needs bs bound (c.0 ∷ []) in
          let inside = bound_within (bound_by bound order) (shows c.0 c.1) in
          let within = all_matched several bs shows cs behind inside in
          let check = Match c.0 (Arm c.1 (shows c.0 c.1) (alone within) NoArm) in
          let one = opened_asks env bs several order check in
          let first = needs_ask env bs l closed bound (c.0 ∷ []) (reads.0, tt) in
          let less = places_less (plain bs) l (bound_by bound order) (shows c.0 c.1) in
          let rest = matched_ask closed cs behind reads.1 h inside (λ is. (opened_free bs several order check free is).0.0) in
          omega (arith, one, first, less, rest)

      -- the step of a rule from after its early tests on
      pub own_asks : IsClosed bs l → (late : List (BindingId × Constraint)) (f : FlatRule) → IsRuleRead f → AllByRecursion (λ (c : BindingId × Constraint). Contains l c.0.0) late
          → BehindAsks (all_matched several bs shows late (all_equated several bs f.equals (last_step several bs next items f)))
      own_asks closed late f h reads = matched_ask closed late (all_equated several bs f.equals (last_step several bs next items f)) reads (equated_ask closed f.equals (last_step several bs next items f) h.equals (last_asks closed f h))
