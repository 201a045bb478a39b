-- What is needed asks no more than what it binds anew.
use Rattle.std.proofs.Common.{◌≡◌, ℕ, zero, suc, ◌+◌, ◌<◌, ◌≤◌, List, [], ◌∷◌, ◌++◌, length, Bool, true, false, cond, eqb, Option, Some, None, refl, sym, ap, ◌∙◌, subst, arith}
use Rattle.std.specs.Prelude.{◌||◌, slice_get, Contains}
use Rattle.std.specs.List.{AllByRecursion}
use Rattle.std.proofs.lemmas.Bool.{eqb-true}
use Rattle.isle_core.specs.declared.BindingId.{BindingId}
use Rattle.isle_core.specs.declared.rule_sets.Binding.{Binding}
use Rattle.isle_core.specs.declared.rule_sets.Binding.TheVariants as binding
use Rattle.isle_core.specs.Bindable.{bound_by}
use Rattle.isle_core.specs.Calling.{calling}
use Rattle.isle_core.specs.HoldsImpure.{takes_turn}
use Rattle.isle_core.specs.Rule.{Environment}
use Rattle.isle_blocks.specs.AskedCalls.{if_pure, asked_one, asked_binds}
use Rattle.isle_blocks.specs.Needed.{parts_of, list_before, with_list, is_bound, each_needed, with_parts, unbound, needed, needs}
use Rattle.isle_blocks.proofs.LeftCounts.{is_used, used_push, left_of, push_less, push_one}
use Rattle.isle_blocks.proofs.NeedsSo.{option_before, no_inner}
use Rattle.isle_blocks.proofs.OrderItems.{AllUnder, under_append, under_more}
use Rattle.isle_blocks.proofs.PushedBinds.{bound_append}

-- ---- one binding

-- one binding is asked at most once
pub one_at_most : (env : Environment) (o : Option Binding) → asked_one env o ≤ 1
one_at_most env (Some (binding.Extractor term parameter)) = omega arith
one_at_most env (Some (binding.Constructor term parameters instance)) = pick (takes_turn (calling env term))
  where
    pick : (b : Bool) → if_pure b ≤ 1
    pick true = omega arith
    pick false = omega arith
one_at_most env (Some y) = omega arith
one_at_most env None = omega arith

-- an item isn't a call
pub item_not_asked : (env : Environment) (o : Option Binding) (source : BindingId) → list_before o ≡ Some source → asked_one env o ≡ 0
item_not_asked env (Some (binding.Iterator list)) source e = refl
item_not_asked env o source e = cc

-- nor is an inner value
pub inner_not_asked : (env : Environment) (o : Option Binding) (source : BindingId) → option_before o ≡ Some source → asked_one env o ≡ 0
inner_not_asked env (Some (binding.MatchSome option)) source e = refl
inner_not_asked env o source e = cc

-- an item stands after its list
item_form : (o : Option Binding) (source : BindingId) → list_before o ≡ Some source → o ≡ Some (binding.Iterator source)
item_form (Some (binding.Iterator list)) source e = cc
item_form o source e = cc

-- ---- orders

pub asked_append : (env : Environment) (bs : List Binding) (xs ys : List BindingId) → asked_binds env bs (xs ++ ys) ≡ asked_binds env bs xs + asked_binds env bs ys
asked_append env bs [] ys = omega arith
asked_append env bs (x ∷ xs) ys = let k = asked_append env bs xs ys in omega (arith, k)

lower_apart : (m n : ℕ) → m < n → eqb m n ≡ false
lower_apart m n lt = pick (eqb m n) refl
  where
    pick : (b : Bool) → eqb m n ≡ b → eqb m n ≡ false
    pick true e = let same = eqb-true m n e in absurd (omega (arith, lt, same))
    pick false e = e

-- one more doesn't use another
unused_push : (used : List ℕ) (k n : ℕ) → is_used used n ≡ false → k < n → is_used (used ++ k ∷ []) n ≡ false
unused_push used k n free lt = used_push used k n ∙ ap (λ b. b || eqb k n) free ∙ lower_apart k n lt

-- nor do lower ones
unused_after : (used : List ℕ) (n : ℕ) (order : List BindingId) → is_used used n ≡ false → AllUnder n order → is_used (bound_by used order) n ≡ false
unused_after used n [] free h = free
unused_after used n (b ∷ order) free h = unused_after (used ++ b.0 ∷ []) n order (unused_push used b.0 n free h.0) h.1

-- whether a binding that stands after an option stands after none
abbrev pub is_none : Option BindingId → Bool
is_none None = true
is_none (Some b) = false

-- a binding that is no inner value
abbrev pub plain : List Binding → ℕ → Bool
plain bs n = is_none (option_before (slice_get bs n))

-- ---- among what is read

-- what a binding of the list is made over stands in the list, before it, and so does the list of an item
pub record IsClosed (bs : List Binding) (l : List ℕ) : Type 0 where
  pub parts : (b : BindingId) (parts : List BindingId) → Contains l b.0 → parts_of bs (slice_get bs b.0) ≡ Some parts → AllByRecursion (λ (p : BindingId). Contains l p.0 × (p.0 < b.0)) parts
  pub lists : (b source : BindingId) → Contains l b.0 → slice_get bs b.0 ≡ Some (binding.Iterator source) → source.0 < b.0

module _ (env : Environment) (bs : List Binding) (l : List ℕ) where
  -- an order asks no more than it binds anew
  abbrev pub Asks : List ℕ → List BindingId → Type 0
  Asks bound order = asked_binds env bs order + left_of (plain bs) (bound_by bound order) l ≤ left_of (plain bs) bound l

  pub asks_append : (bound : List ℕ) (xs ys : List BindingId) → Asks bound xs → Asks (bound_by bound xs) ys → Asks bound (xs ++ ys)
  asks_append bound xs ys h k =
      subst (λ now. asked_binds env bs (xs ++ ys) + left_of (plain bs) now l ≤ left_of (plain bs) bound l) (sym (bound_append bound xs ys))
      (let e = asked_append env bs xs ys in omega (arith, h, k, e))

  -- so of what is needed for one
  record OneAsks (bound : List ℕ) (b : BindingId) (order : List BindingId) : Type 0 where
    asks : Asks bound order
    under : AllUnder (suc b.0) order

  -- and for several
  record EachAsks (bound : List ℕ) (reads order : List BindingId) : Type 0 where
    asks : Asks bound order
    under : (n : ℕ) → AllUnder n reads → AllUnder n order

  nothing_asks : (bound : List ℕ) (b : BindingId) → OneAsks bound b []
  nothing_asks bound b = record { asks = omega arith; under = tt }

  each_asks : (one : List ℕ → BindingId → List BindingId) → ((bound : List ℕ) (b : BindingId) → Contains l b.0 → OneAsks bound b (one bound b)) → (bound : List ℕ) (reads : List BindingId) → AllByRecursion (λ (b : BindingId). Contains l b.0) reads
      → EachAsks bound reads (each_needed one bound reads)
  each_asks one ok bound [] h = record { asks = omega arith; under = λ n k. tt }
  each_asks one ok bound (b ∷ reads) h =
      let r = ok bound b h.0 in
      let rest = each_asks one ok (bound_by bound (one bound b)) reads h.1 in
      record {
        asks = asks_append bound (one bound b) (each_needed one (bound_by bound (one bound b)) reads) r.asks rest.asks;
        under = λ n k. let low = k.0 in under_append n (one bound b) (each_needed one (bound_by bound (one bound b)) reads) (under_more (suc b.0) n (one bound b) (omega (arith, low)) r.under) (rest.under n k.1);
      }

  -- the binding itself, directly after its list if it is an item
  itself_asks : IsClosed bs l → (bound : List ℕ) (b : BindingId) (o : Option BindingId) → Contains l b.0 → is_used bound b.0 ≡ false → plain bs b.0 ≡ true → list_before (slice_get bs b.0) ≡ o → OneAsks bound b (with_list o b)
  itself_asks closed bound b None c free is e =
      let one = push_one (plain bs) bound b.0 l c is free in
      let most = one_at_most env (slice_get bs b.0) in
      record { asks = omega (arith, one, most); under = (omega arith, tt) }
  itself_asks closed bound b (Some source) c free is e =
      let low = closed.lists b source c (item_form (slice_get bs b.0) source e) in
      let before = push_less (plain bs) bound source.0 l in
      let one = push_one (plain bs) (bound ++ source.0 ∷ []) b.0 l c is (unused_push bound source.0 b.0 free low) in
      let most = one_at_most env (slice_get bs source.0) in
      let none = item_not_asked env (slice_get bs b.0) source e in
      record { asks = omega (arith, before, one, most, none); under = (omega (arith, low), (omega arith, tt)) }

  split : (b : BindingId) (parts : List BindingId) → AllByRecursion (λ (p : BindingId). Contains l p.0 × (p.0 < b.0)) parts → AllByRecursion (λ (p : BindingId). Contains l p.0) parts × AllUnder b.0 parts
  split b [] h = (tt, tt)
  split b (p ∷ parts) h = let k = split b parts h.1 in ((h.0.0, k.0), (h.0.1, k.1))

  -- what is needed for one, if this is what is needed for its parts
  behind_parts : IsClosed bs l → (one : List ℕ → BindingId → List BindingId) → ((bound : List ℕ) (b : BindingId) → Contains l b.0 → OneAsks bound b (one bound b)) → (bound : List ℕ) (b : BindingId) → Contains l b.0 → is_bound bound b ≡ false
      → (o : Option (List BindingId)) → parts_of bs (slice_get bs b.0) ≡ o → OneAsks bound b (with_parts one bound (with_list (list_before (slice_get bs b.0)) b) o)
  behind_parts closed one ok bound b c free None e = nothing_asks bound b
  behind_parts closed one ok bound b c free (Some parts) e =
      let order = each_needed one bound parts in
      let all = split b parts (closed.parts b parts c e) in
      let r = each_asks one ok bound parts all.0 in
      let low = r.under b.0 all.1 in
      let own = itself_asks closed (bound_by bound order) b (list_before (slice_get bs b.0)) c (unused_after bound b.0 order free low) (ap is_none (no_inner bs (slice_get bs b.0) parts e)) refl in
      record {
        asks = asks_append bound order (with_list (list_before (slice_get bs b.0)) b) r.asks own.asks;
        under = under_append (suc b.0) order (with_list (list_before (slice_get bs b.0)) b) (under_more b.0 (suc b.0) order (omega arith) low) own.under;
      }

  unless_bound : IsClosed bs l → (one : List ℕ → BindingId → List BindingId) → ((bound : List ℕ) (b : BindingId) → Contains l b.0 → OneAsks bound b (one bound b)) → (bound : List ℕ) (b : BindingId) → Contains l b.0
      → (t : Bool) → is_bound bound b ≡ t → OneAsks bound b (cond t [] (unbound bs one bound b (slice_get bs b.0)))
  unless_bound closed one ok bound b c true e = nothing_asks bound b
  unless_bound closed one ok bound b c false e = behind_parts closed one ok bound b c e (parts_of bs (slice_get bs b.0)) refl

  needed_asks : IsClosed bs l → (depth : ℕ) (bound : List ℕ) (b : BindingId) → Contains l b.0 → OneAsks bound b (needed bs depth bound b)
  needed_asks closed zero bound b c = nothing_asks bound b
  needed_asks closed (suc depth) bound b c = unless_bound closed (needed bs depth) (needed_asks closed depth) bound b c (is_bound bound b) refl

  -- what is needed for bindings of the list
  pub needs_ask : IsClosed bs l → (bound : List ℕ) (reads : List BindingId) → AllByRecursion (λ (b : BindingId). Contains l b.0) reads → Asks bound (needs bs bound reads)
  needs_ask closed bound reads h = (each_asks (needed bs (length bs)) (λ now b k. needed_asks closed (length bs) now b k) bound reads h).asks
