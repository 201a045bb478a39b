-- A tree asks no more than what its ways have left: each call once for each of them.
use Rattle.std.proofs.Common.{◌≡◌, ℕ, ◌+◌, ◌≤◌, List, [], ◌∷◌, ◌++◌, Bool, true, false, Option, None, map, sym, subst, arith}
use Rattle.std.specs.Prelude.{slice_get, Contains}
use Rattle.std.specs.List.{AllByRecursion}
use Rattle.isle_core.specs.declared.BindingId.{BindingId}
use Rattle.isle_core.specs.declared.rule_sets.Binding.{Binding}
use Rattle.isle_core.specs.declared.rule_sets.Constraint.{Constraint}
use Rattle.isle_core.specs.ArmPlaces.{bound_within}
use Rattle.isle_core.specs.Bindable.{bound_by}
use Rattle.isle_core.specs.Block.{Block, Arms}
use Rattle.isle_core.specs.Rule.{Environment}
use Rattle.isle_blocks.specs.AskedCalls.{asked_binds, asked_calls, asked_arms}
use Rattle.isle_blocks.specs.LoopFree.{HasNoLoop, HasNoLoopWithin, HaveNoLoop}
use Rattle.isle_blocks.specs.Needed.{list_before}
use Rattle.isle_blocks.specs.Nest.{Shows}
use Rattle.isle_blocks.specs.Tree.{Way, Ground, way_step, source_needs, AllTest, Parts, none, same, other, IsTree, own, last, shared, AreTrees, no_arm, arm}
use Rattle.isle_blocks.proofs.LeftCounts.{left_of, order_less, places_less}
use Rattle.isle_blocks.proofs.NeedsAsked.{plain, IsClosed, needs_ask}
use Rattle.isle_blocks.proofs.NextLaws.{FindsNext}
use Rattle.isle_blocks.proofs.StepsAsked.{asked_step, inner, IsRuleRead, own_asks}

-- ---- what is left

-- how many of the list are not bound, and how many are inner values
abbrev pub room : List Binding → List ℕ → List ℕ → ℕ
room bs bound l = left_of (plain bs) bound l + left_of (inner bs) [] l

-- so of lists together
abbrev pub rooms : List Binding → List ℕ → List (List ℕ) → ℕ
rooms bs bound [] = 0
rooms bs bound (l ∷ ls) = room bs bound l + rooms bs bound ls

-- no more is left if more is bound
order_rooms : (bs : List Binding) (bound : List ℕ) (order : List BindingId) (ls : List (List ℕ)) → rooms bs (bound_by bound order) ls ≤ rooms bs bound ls
order_rooms bs bound order [] = omega arith
order_rooms bs bound order (l ∷ ls) = let one = order_less (plain bs) l bound order in let rest = order_rooms bs bound order ls in omega (arith, one, rest)

places_rooms : (bs : List Binding) (bound : List ℕ) (places : List (Option BindingId)) (ls : List (List ℕ)) → rooms bs (bound_within bound places) ls ≤ rooms bs bound ls
places_rooms bs bound places [] = omega arith
places_rooms bs bound places (l ∷ ls) = let one = places_less (plain bs) l bound places in let rest = places_rooms bs bound places ls in omega (arith, one, rest)

module _ (env : Environment) (several : Bool) (bs : List Binding) (shows : Shows) (next items : ℕ → Option BindingId) (finds : FindsNext bs next) (no_items : several ≡ false → (b : BindingId) → list_before (slice_get bs b.0) ≡ None) where
  abbrev g : Ground
  g = record { several = several; bindings = bs; shows = shows; next = next; items = items }

  -- ---- what ways read

  -- the list holds what a way reads
  pub record IsWayRead (w : Way) (l : List ℕ) : Type 0 where
    pub closed : IsClosed bs l
    pub early : AllByRecursion (λ (c : BindingId × Constraint). Contains l c.0.0) w.early
    pub late : AllByRecursion (λ (c : BindingId × Constraint). Contains l c.0.0) w.late
    pub rule : IsRuleRead env bs l next finds several shows items no_items w.rule

  -- a list for each way, in order
  abbrev pub AreWaysRead : List Way → List (List ℕ) → Type 0
  AreWaysRead [] [] = Unit {0}
  AreWaysRead (w ∷ ws) (l ∷ ls) = IsWayRead w l × AreWaysRead ws ls
  AreWaysRead [] (l ∷ ls) = ⊥
  AreWaysRead (w ∷ ws) [] = ⊥

  -- the lists of some ways and of others
  record AreSplit (vs ws : List Way) (ls : List (List ℕ)) : Type 0 where
    first : List (List ℕ)
    second : List (List ℕ)
    first_read : AreWaysRead vs first
    second_read : AreWaysRead ws second
    sum : (bound : List ℕ) → rooms bs bound first + rooms bs bound second ≡ rooms bs bound ls

  split_ways : (vs ws : List Way) (ls : List (List ℕ)) → AreWaysRead (vs ++ ws) ls → AreSplit vs ws ls
  split_ways [] ws ls h = record { first = []; second = ls; first_read = tt; second_read = h; sum = λ bound. omega arith }
  split_ways (v ∷ vs) ws [] h = absurd h
  split_ways (v ∷ vs) ws (l ∷ ls) h =
      let k = split_ways vs ws ls h.1 in
      record { first = l ∷ k.first; second = k.second; first_read = (h.0, k.first_read); second_read = k.second_read; sum = λ bound. let rest = k.sum bound in omega (arith, rest) }

  -- what is left of ways after a test
  abbrev left_ways : List (Constraint × Way) → List Way
  left_ways js = map (λ (j : Constraint × Way). j.1) js

  left_read : (source : BindingId) (ws : List Way) (js : List (Constraint × Way)) (ls : List (List ℕ)) → AllTest source ws js → AreWaysRead ws ls → AreWaysRead (left_ways js) ls
  left_read source [] [] ls k h = h
  left_read source [] (j ∷ js) ls k h = absurd k
  left_read source (w ∷ ws) [] ls k h = absurd k
  left_read source (w ∷ ws) (j ∷ js) [] k h = absurd h
  left_read source (w ∷ ws) (j ∷ js) (l ∷ ls) k h = (
    record {
      closed = h.0.closed;
      early = (subst (AllByRecursion (λ (c : BindingId × Constraint). Contains l c.0.0)) k.0.tests h.0.early).1;
      late = subst (AllByRecursion (λ (c : BindingId × Constraint). Contains l c.0.0)) (sym k.0.late) h.0.late;
      rule = subst (IsRuleRead env bs l next finds several shows items no_items) (sym k.0.rule) h.0.rule;
    },
    left_read source ws js ls k.1 h.1,
  )

  -- those of one constraint, and the others
  split_parts : (c : Constraint) (js others : List (Constraint × Way)) (ws : List Way) (ls : List (List ℕ)) → Parts c js ws others → AreWaysRead (left_ways js) ls → AreSplit ws (left_ways others) ls
  split_parts c js others ws ls none h = record { first = []; second = ls; first_read = tt; second_read = h; sum = λ bound. omega arith }
  split_parts c js others ws [] (same j more rest vs e k) h = absurd h
  split_parts c js others ws (l ∷ ls) (same j more rest vs e k) h =
      let r = split_parts c more rest vs ls k h.1 in
      record { first = l ∷ r.first; second = r.second; first_read = (h.0, r.first_read); second_read = r.second_read; sum = λ bound. let other' = r.sum bound in omega (arith, other') }
  split_parts c js others ws [] (other j more rest vs e k) h = absurd h
  split_parts c js others ws (l ∷ ls) (other j more rest vs e k) h =
      let r = split_parts c more rest vs ls k h.1 in
      record { first = r.first; second = l ∷ r.second; first_read = r.first_read; second_read = (h.0, r.second_read); sum = λ bound. let other' = r.sum bound in omega (arith, other') }

  -- ---- trees

  -- a way's own step
  way_asks : (w : Way) (l : List ℕ) (bound : List ℕ) → IsWayRead w l → (several ≡ true → HasNoLoopWithin (way_step g w bound).1) → asked_step env bs (way_step g w bound) ≤ room bs bound l
  way_asks w l bound h free = own_asks env bs l next finds several shows items no_items h.closed w.late w.rule h.rule h.late bound free

  -- what the source of a shared step is read with is left by the first of its ways
  source_asks : (source : BindingId) (w : Way) (ws : List Way) (j : Constraint × Way) (js : List (Constraint × Way)) (ls : List (List ℕ)) (bound : List ℕ) → AllTest source (w ∷ ws) (j ∷ js) → AreWaysRead (w ∷ ws) ls
      → asked_binds env bs (source_needs g bound source) + rooms bs (bound_by bound (source_needs g bound source)) ls ≤ rooms bs bound ls
  source_asks source w ws j js [] bound k h = absurd h
  source_asks source w ws j js (l ∷ ls) bound k h =
      let read = (subst (AllByRecursion (λ (c : BindingId × Constraint). Contains l c.0.0)) k.0.tests h.0.early).0 in
      let first = needs_ask env bs l h.0.closed bound (source ∷ []) (read, tt) in
      let rest = order_rooms bs bound (source_needs g bound source) ls in
      omega (arith, first, rest)

  mutual
    pub tree_asks : (ws : List Way) (ls : List (List ℕ)) (bound : List ℕ) (b : Block) → IsTree g ws bound b → AreWaysRead ws ls → (several ≡ true → HasNoLoop b) → asked_calls env bs b ≤ rooms bs bound ls
    tree_asks ws ls bound b (none bound') h free = omega arith
    tree_asks ws [] bound b (own w vs bound' more early tested k) h free = absurd h
    tree_asks ws (l ∷ ls) bound b (own w vs bound' more early tested k) h free =
        let one = way_asks w l bound h.0 (λ is. (free is).0) in
        let rest = tree_asks vs ls bound more k h.1 (λ is. (free is).1) in
        omega (arith, one, rest)
    tree_asks ws [] bound b (last w vs bound' once early late equals) h free = absurd h
    tree_asks ws (l ∷ ls) bound b (last w vs bound' once early late equals) h free =
        let one = way_asks w l bound h.0 (λ is. (free is).0) in
        omega (arith, one)
    tree_asks ws ls bound b (shared source w vs rest j js bound' arms more tests starts trees k) h free =
        let both = split_ways (w ∷ vs) rest ls h in
        let after = bound_by bound (source_needs g bound source) in
        let first = source_asks source w vs j js both.first bound tests both.first_read in
        let inside = arms_ask source (j ∷ js) both.first after arms trees (left_read source (w ∷ vs) (j ∷ js) both.first tests both.first_read) (λ is. (free is).0) in
        let behind = tree_asks rest both.second after more k both.second_read (λ is. (free is).1) in
        let less = order_rooms bs bound (source_needs g bound source) both.second in
        let sum = both.sum bound in
        omega (arith, first, inside, behind, less, sum)

    arms_ask : (source : BindingId) (js : List (Constraint × Way)) (ls : List (List ℕ)) (bound : List ℕ) (arms : Arms) → AreTrees g source js bound arms → AreWaysRead (left_ways js) ls → (several ≡ true → HaveNoLoop arms) → asked_arms env bs arms ≤ rooms bs bound ls
    arms_ask source js ls bound arms (no_arm source' bound') h free = omega arith
    arms_ask source js ls bound arms (arm source' c js' others w vs bound' body more parts tree trees) h free =
        let both = split_parts c js others (w ∷ vs) ls parts h in
        let inside = tree_asks (w ∷ vs) both.first (bound_within bound (shows source c)) body tree both.first_read (λ is. (free is).0) in
        let less = places_rooms bs bound (shows source c) both.first in
        let rest = arms_ask source others both.second bound more trees both.second_read (λ is. (free is).1) in
        let sum = both.sum bound in
        omega (arith, inside, less, rest, sum)
