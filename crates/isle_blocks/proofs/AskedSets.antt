-- A tree asks no more than lists are long together that hold what its rules read.
use Rattle.std.proofs.Common.{◌≡◌, ℕ, ◌+◌, ◌<◌, ◌≤◌, List, [], ◌∷◌, length, take, Bool, true, false, Option, Some, None, map, refl, sym, ap, ◌∙◌, subst, arith}
use Rattle.std.specs.Prelude.{slice_get, Contains}
use Rattle.std.specs.List.{AllByRecursion}
use Rattle.std.proofs.lemmas.List.{length-map}
use Rattle.isle_core.specs.declared.BindingId.{BindingId}
use Rattle.isle_core.specs.declared.TermId.{TermId}
use Rattle.isle_core.specs.declared.rule_sets.Binding.{Binding}
use Rattle.isle_core.specs.declared.rule_sets.Binding.TheVariants as binding
use Rattle.isle_core.specs.declared.rule_sets.Constraint.{Constraint}
use Rattle.isle_core.specs.declared.rule_sets.FlatRule.{FlatRule}
use Rattle.isle_core.specs.declared.rule_sets.RuleSet.{RuleSet}
use Rattle.isle_core.specs.declared.types.ReturnKind.{ReturnKind}
use Rattle.isle_core.specs.declared.types.ReturnKind.TheVariants as return_kind
use Rattle.isle_core.specs.declared.types.Term.{Term}
use Rattle.isle_core.specs.Block.{Block}
use Rattle.isle_core.specs.Calling.{Calling, ByTurns, ByCases, NoCall, calling, kind_of, is_several}
use Rattle.isle_core.specs.ExternalCall.{IsCall}
use Rattle.isle_core.specs.HoldsImpure.{takes_turn}
use Rattle.isle_core.specs.Path.{Path, Called, Chosen, Inner, Paths, at, at_all, path_over, paths_of}
use Rattle.isle_core.specs.Rule.{Environment}
use Rattle.isle_core.specs.Serializable.{IsSerializableCall, AreSerializableCalls, IsSerializableRule, IsSerializable, constraint_tests}
use Rattle.isle_core.specs.StandsFor.{EachOnce}
use Rattle.isle_core.specs.Tests.{Test}
use Rattle.isle_core.proofs.BindingPaths.{IsThere, at_before, binding_at, contains_at}
use Rattle.isle_core.proofs.Contained.{head_contained, tail_contained}
use Rattle.isle_core.proofs.RulePairs.{all_from, all_at}
use Rattle.isle_blocks.specs.AskedBound.{AsksAtMost}
use Rattle.isle_blocks.specs.AskedCalls.{if_pure, asked_one}
use Rattle.isle_blocks.specs.Fields.{shows}
use Rattle.isle_blocks.specs.Followers.{FindsItems}
use Rattle.isle_blocks.specs.LoopFree.{HasNoLoop}
use Rattle.isle_blocks.specs.Needed.{parts_of, list_before, parameters_of}
use Rattle.isle_blocks.specs.Nest.{Shows, next_of}
use Rattle.isle_blocks.specs.Arranged.{rules_of}
use Rattle.isle_blocks.specs.Reordered.{PutIn, here, later, IsReordered, nothing, more}
use Rattle.isle_blocks.specs.RuleReads.{IsCallAmong, IsListAmong, HoldsReads, HoldAllReads, lengths, AlwaysAnswers, OrdersCallsOnce}
use Rattle.isle_blocks.specs.Tree.{Way, Ground, IsTree}
use Rattle.isle_blocks.proofs.Grown.{IsTreeOf}
use Rattle.isle_blocks.proofs.ItemPaths.{item_path}
use Rattle.isle_blocks.proofs.LeftCounts.{both_kinds}
use Rattle.isle_blocks.proofs.NeedsAsked.{plain, IsClosed}
use Rattle.isle_blocks.proofs.NextLaws.{FindsNext, HasNext, has_none, has_inner, has_item, has_next, finds_next}
use Rattle.isle_blocks.proofs.MappedLists.{map_has}
use Rattle.isle_blocks.proofs.PlacesRead.{place, places, at_place, places_closed}
use Rattle.isle_blocks.proofs.Reorders.{reorder_all}
use Rattle.isle_blocks.proofs.StepsAsked.{inner, IsFollowed, unasked, by_inner, by_item, IsCallRead, IsRuleRead}
use Rattle.isle_blocks.proofs.TreeAsked.{rooms, IsWayRead, AreWaysRead, tree_asks}
use Rattle.isle_blocks.proofs.TreeStart.{start_of, ways_order, way_starts, way_there}
use Rattle.isle_blocks.proofs.TreeTests.{IsOf}

-- ---- lists in another order

-- lists for rules, as long together
record Holding (ps : List Path) (fs : List FlatRule) (count : ℕ) : Type 0 where
  lists : List (List Path)
  held : HoldAllReads ps fs lists
  sum : lengths lists ≡ count

put_held : (ps : List Path) (f : FlatRule) (fs gs : List FlatRule) (l : List Path) (ls : List (List Path)) → PutIn f fs gs → HoldsReads ps l f → HoldAllReads ps fs ls → Holding ps gs (length l + lengths ls)
put_held ps f fs gs l ls (here fs') one h = record { lists = l ∷ ls; held = (one, h); sum = refl }
put_held ps f fs gs l [] (later g fs' gs' k) one h = absurd h
put_held ps f fs gs l (m ∷ ls) (later g fs' gs' k) one h =
    let r = put_held ps f fs' gs' l ls k one h.1 in
    record { lists = m ∷ r.lists; held = (h.0, r.held); sum = let sum = r.sum in omega (arith, sum) }

reorder_held : (ps : List Path) (fs gs : List FlatRule) (ls : List (List Path)) → IsReordered fs gs → HoldAllReads ps fs ls → Holding ps gs (lengths ls)
reorder_held ps fs gs [] nothing h = record { lists = []; held = tt; sum = refl }
reorder_held ps fs gs (l ∷ ls) nothing h = absurd h
reorder_held ps fs gs [] (more f fs' ys gs' k i) h = absurd h
reorder_held ps fs gs (l ∷ ls) (more f fs' ys gs' k i) h =
    let rest = reorder_held ps fs' ys ls k h.1 in
    let all = put_held ps f ys gs l rest.lists i h.0 rest.held in
    record { lists = all.lists; held = all.held; sum = let a = rest.sum in let b = all.sum in omega (arith, a, b) }

-- ---- ordered calls

-- a binding of a call's path is that call
called_asked : (env : Environment) (qs : List Path) (x : Binding) (term : TermId) (parameters : Paths) (instance : ℕ) → path_over qs x ≡ Called term parameters instance → asked_one env (Some x) ≡ if_pure (takes_turn (calling env term))
called_asked env qs (binding.Constructor of ps k) term parameters instance e = ap (λ t. if_pure (takes_turn (calling env t))) (same of term e)
  where
    same : (a b : TermId) → Called a (at_all qs ps) k ≡ Called b parameters instance → a ≡ b
    same a b h = cc
called_asked env qs x term parameters instance e = cc

-- one that always answers and isn't pure is impure
plain_turn : (c : Calling) → IsCall return_kind.Plain c → (AlwaysAnswers c → ⊥) → if_pure (takes_turn c) ≡ 0
plain_turn (ByTurns callee kind) h apart = refl
plain_turn (ByCases callee return_kind.Plain) h apart = absurd (apart tt)
plain_turn (ByCases callee return_kind.Option) h apart = cc
plain_turn (ByCases callee return_kind.Iterator) h apart = cc
plain_turn NoCall h apart = absurd h

each_once : {A B : Type 0} (f : A → B) (xs : List A) → EachOnce (map f xs) → EachOnce xs
each_once f [] h = tt
each_once f (x ∷ xs) h = (λ c. h.0 (map_has f xs x c), each_once f xs h.1)

module _ (env : Environment) (t : Term) (s : RuleSet) (several : Bool) (shown : Shows) (next items : ℕ → Option BindingId) (finds : FindsNext s.bindings next) (found_items : FindsItems s.bindings items) (once : EachOnce (paths_of s.bindings))
    (no_items : several ≡ false → (b : BindingId) → list_before (slice_get s.bindings b.0) ≡ None) where
  abbrev ps : List Path
  ps = paths_of s.bindings

  abbrev g : Ground
  g = record { several = several; bindings = s.bindings; shows = shown; next = next; items = items }

  -- a rule that is ready, whose calls are ordered once
  record IsReady (f : FlatRule) : Type 0 where
    rule : IsSerializableRule env t ps f
    calls : OrdersCallsOnce env ps f

  both_ready : (fs : List FlatRule) → AllByRecursion (IsSerializableRule env t ps) fs → AllByRecursion (OrdersCallsOnce env ps) fs → AllByRecursion IsReady fs
  both_ready [] h k = tt
  both_ready (f ∷ fs) h k = (record { rule = h.0; calls = k.0 }, both_ready fs h.1 k.1)

  -- ---- one rule

  module _ (l : List Path) (f : FlatRule) (h : HoldsReads ps l f) where
    abbrev own : List ℕ
    own = places ps l

    closed : IsClosed s.bindings own
    closed = places_closed s.bindings l once h.over

    read_at : (b : BindingId) → Contains l (at ps b) → Contains own b.0
    read_at b c = at_place s.bindings l once h.over b c

    firsts : (b : BindingId) (parts : List BindingId) → AllByRecursion (λ (p : BindingId). Contains own p.0 × (p.0 < b.0)) parts → AllByRecursion (λ (p : BindingId). Contains own p.0) parts
    firsts b [] k = tt
    firsts b (p ∷ parts) k = (k.0.0, firsts b parts k.1)

    parameters_read : (c : BindingId) (o : Option Binding) → slice_get s.bindings c.0 ≡ o → Contains own c.0 → AllByRecursion (λ (p : BindingId). Contains own p.0) (parameters_of o)
    parameters_read c (Some (binding.Constructor term parameters instance)) e k = firsts c parameters (closed.parts c parameters k (ap (parts_of s.bindings) e))
    parameters_read c o e k = tt

    followed : (tests : List Test) (done : List Path) (c : BindingId) (ready : IsSerializableCall env t tests ps done (at ps c)) → IsCallAmong ps l (at ps c) → (AlwaysAnswers (calling env ready.term) → ⊥) → IsFollowed env s.bindings own next finds c
    followed tests done c ready among apart = pick ready.kind (has_next env t tests s.bindings next done c finds once ready) ready.external
      where
        pick : (kind : ReturnKind) → HasNext s.bindings next c kind → IsCall kind (calling env ready.term) → IsFollowed env s.bindings own next finds c
        pick kind (has_none e i j) external =
            let x = binding_at s.bindings c (subst IsThere (sym ready.path) tt) in
            unasked (ap (asked_one env) x.1 ∙ called_asked env (take c.0 ps) x.0 ready.term ready.parameters ready.instance (sym (at_before s.bindings c x.0 x.1) ∙ ready.path) ∙ plain_turn (calling env ready.term) external apart)
        pick kind (has_inner b e is path j) external = by_inner b e is (read_at b (subst (Contains l) (sym path) (among.inner (contains_at ps b.0 (Inner (at ps c)) tt path))))
        pick kind (has_item b e is path i) external = by_item b e is

    calls_read : (tests : List Test) (done : List Path) (cs : List BindingId) → AreSerializableCalls env t tests ps done (map (at ps) cs) → AllByRecursion (λ (b : BindingId). IsCallAmong ps l (at ps b)) cs
        → ((term : TermId) (qs : Paths) (instance : ℕ) → Contains (map (at ps) cs) (Called term qs instance) → AlwaysAnswers (calling env term) → ⊥) → AllByRecursion (IsCallRead env s.bindings own next finds) cs
    calls_read tests done [] ready among apart = tt
    calls_read tests done (c ∷ cs) ready among apart = (
      record {
        parameters = parameters_read c (slice_get s.bindings c.0) refl (read_at c among.0.itself);
        followed = followed tests done c ready.0 among.0 (apart ready.0.term ready.0.parameters ready.0.instance (subst (Contains (map (at ps) (c ∷ cs))) ready.0.path (head_contained (at ps c) (map (at ps) cs))));
      },
      calls_read tests (at ps c ∷ done) cs ready.1 among.1 (λ term qs instance k. apart term qs instance (tail_contained (at ps c) (map (at ps) cs) (Called term qs instance) k)),
    )

    lists_read : (ls : List BindingId) → AllByRecursion (λ (b : BindingId). IsListAmong ps l (at ps b)) ls → AllByRecursion (λ (x : BindingId). (b : BindingId) → items x.0 ≡ Some b → Contains own b.0) ls
    lists_read [] k = tt
    lists_read (x ∷ ls) k = (
      λ b e.
          let is = found_items.found x.0 b e in
          let path = item_path s.bindings x b is.0 is.1 in
          read_at b (subst (Contains l) (sym path) (k.0.item (contains_at ps b.0 (Chosen (at ps x)) tt path))),
      lists_read ls k.1,
    )

    equals_read : (es : List (BindingId × BindingId)) → AllByRecursion (λ (e : BindingId × BindingId). Contains l (at ps e.0) × Contains l (at ps e.1)) es → AllByRecursion (λ (e : BindingId × BindingId). Contains own e.0.0 × Contains own e.1.0) es
    equals_read [] k = tt
    equals_read (e ∷ es) k = ((read_at e.0 k.0.0, read_at e.1 k.0.1), equals_read es k.1)

    rule_read : IsReady f → IsRuleRead env s.bindings own next finds several shown items no_items f
    rule_read ready = record {
      equals = equals_read f.equals h.equals;
      lists = lists_read f.iterators h.lists;
      calls = calls_read (constraint_tests ps f) [] f.ordered ready.rule.calls h.calls ready.calls.apart;
      once = each_once (at ps) f.ordered ready.calls.once;
      result = read_at f.result h.result;
    }

    tests_read : (cs : List (BindingId × Constraint)) → AllByRecursion (Contains f.constraints) cs → AllByRecursion (λ (c : BindingId × Constraint). Contains own c.0.0) cs
    tests_read [] k = tt
    tests_read (c ∷ cs) k = (read_at c.0 (all_at (λ (x : BindingId × Constraint). Contains l (at ps x.0)) f.constraints c h.tests k.0), tests_read cs k.1)

  -- ---- ways

  way_read : (w : Way) (l : List Path) → IsOf s w → IsReady w.rule → HoldsReads ps l w.rule → IsWayRead env several s.bindings shown next items finds no_items w (places ps l)
  way_read w l is ready h = record {
    closed = closed l w.rule h;
    early = tests_read l w.rule h w.early is.early;
    late = tests_read l w.rule h w.late is.late;
    rule = rule_read l w.rule h ready;
  }

  ways_read : (ws : List Way) (ls : List (List Path)) → AllByRecursion (IsOf s) ws → AllByRecursion IsReady (rules_of ws) → HoldAllReads ps (rules_of ws) ls → AreWaysRead env several s.bindings shown next items finds no_items ws (map (places ps) ls)
  ways_read [] [] is ready h = tt
  ways_read [] (l ∷ ls) is ready h = absurd h
  ways_read (w ∷ ws) [] is ready h = absurd h
  ways_read (w ∷ ws) (l ∷ ls) is ready h = (way_read w l is.0 ready.0 h.0, ways_read ws ls is.1 ready.1 h.1)

  -- if nothing is bound, no more is left than the lists are long
  all_rooms : (ls : List (List Path)) → rooms s.bindings [] (map (places ps) ls) ≤ lengths ls
  all_rooms [] = omega arith
  all_rooms (l ∷ ls) =
      let one = both_kinds (plain s.bindings) (inner s.bindings) (λ n. refl) (places ps l) in
      let long = length-map l (place ps) in
      let rest = all_rooms ls in
      omega (arith, one, long, rest)

  -- ---- trees

  pub tree_bound : (ws : List Way) (b : Block) → IsTree g ws [] b → AllByRecursion (IsOf s) ws → IsReordered s.rules (rules_of ws) → AllByRecursion (IsSerializableRule env t ps) s.rules → AllByRecursion (OrdersCallsOnce env ps) s.rules
      → (several ≡ true → HasNoLoop b) → AsksAtMost env s b
  tree_bound ws b tree is order rules calls free ls h =
      let held = reorder_held ps s.rules (rules_of ws) ls order h in
      let ready = reorder_all IsReady s.rules (rules_of ws) order (both_ready s.rules rules calls) in
      let asks = tree_asks env several s.bindings shown next items finds no_items ws (map (places ps) held.lists) [] b tree (ways_read ws held.lists is ready held.held) free in
      let most = all_rooms held.lists in
      let sum = held.sum in
      omega (arith, asks, most, sum)

-- ---- items

-- where items stand only in terms that answer several times, a set of one that doesn't has none
pub none_listed : (t : Term) (s : RuleSet) → ((p : Path) → Contains (paths_of s.bindings) (Chosen p) → is_several (kind_of t.kind) ≡ true) → is_several (kind_of t.kind) ≡ false → (b : BindingId) → list_before (slice_get s.bindings b.0) ≡ None
none_listed t s fits answers_once b = pick (slice_get s.bindings b.0) refl
  where
    pick : (o : Option Binding) → slice_get s.bindings b.0 ≡ o → list_before o ≡ None
    pick (Some (binding.Iterator source)) e =
        let often = fits (at (take b.0 (paths_of s.bindings)) source) (contains_at (paths_of s.bindings) b.0 (Chosen (at (take b.0 (paths_of s.bindings)) source)) tt (at_before s.bindings b (binding.Iterator source) e)) in
        let bad = sym often ∙ answers_once in
        absurd cc
    pick (Some y) e = refl
    pick None e = refl

-- ---- by the code's tables

pub tree_of_asks : (several : Bool) (s : RuleSet) (b : Block) → IsTreeOf several s.bindings s.rules b → (env : Environment) (t : Term) → IsSerializable env t s → is_several (kind_of t.kind) ≡ several
    → AllByRecursion (OrdersCallsOnce env (paths_of s.bindings)) s.rules → (several ≡ true → HasNoLoop b) → AsksAtMost env s b
tree_of_asks several s b k env t h is calls free =
    let finds = finds_next s.bindings k.inners k.items k.found_inners k.found_items in
    tree_bound env t s several (shows k.found k.counts k.inners) (next_of k.inners k.items) k.items finds k.found_items h.once (λ no. none_listed t s h.items (is ∙ no))
    k.ways b k.is_tree (all_from (IsOf s) k.ways (λ w c. start_of several s.bindings s w (way_starts several s.bindings s.rules k.ways k.arranged w c) (way_there several s.bindings s.rules k.ways k.arranged w c)))
    (ways_order several s.bindings s.rules k.ways k.arranged) h.rules calls free
