-- A walk of as many steps as there are nodes passes one of them twice, so a node is on a closed walk.
use Rattle.std.proofs.Common.{◌≡◌, ◌⊎◌, inl, inr, ⊎_elim, ℕ, zero, suc, ◌<◌, ◌≤◌, List, [], ◌∷◌, length, Bool, true, false, ◌||◌, ◌==◌, eqb, refl, sym, ap, ◌∙◌, subst, arith, Contains, true≢false, eq-eqb, eqb-true}
use Rattle.std.specs.List.{list_any, AllByRecursion, IsDistinct}
use Rattle.std.proofs.lemmas.List.Folds.{list_any_at, Any-from_list_any}
use Rattle.std.proofs.lemmas.Map.Keys.{IsDistinct-cons}
use Rattle.std.proofs.lemmas.Map.Steps.{length-le_from_distinct_below}
use Rattle.std.proofs.lemmas.Map.Views.{Contains-from_any}
use Rattle.isle_core.proofs.Contained.{contained_cases, none_contained}
use Rattle.isle_walks.specs.Walks.{next_of, reaches, on_closed_walk, walks, AreNodes}
use Rattle.isle_walks.specs.Ways.{IsWayFrom}

pub or_true : (b : Bool) → (b || true) ≡ true
or_true true = refl
or_true false = refl

-- an answer that one of the items gives
pub any_true : (p : ℕ → Bool) (xs : List ℕ) (x : ℕ) → Contains xs x → p x ≡ true → list_any p xs ≡ true
any_true p xs x c e = list_any_at p xs c.0 x c.1 (ap p c.2 ∙ e)

-- a node reaches what stands on a way from it
reaches_on_way : (graph : List (List ℕ)) (from : ℕ) (nodes : List ℕ) (to : ℕ) → IsWayFrom graph from nodes → Contains nodes to → reaches graph (length nodes) from to ≡ true
reaches_on_way graph from [] to way c = absurd (none_contained to c)
reaches_on_way graph from (next ∷ rest) to way c =
    let test : ℕ → Bool = λ n. (n == to) || reaches graph (length rest) n to in
    ⊎_elim (λ is. any_true test (next_of graph from) next way.0 (ap (λ b. b || reaches graph (length rest) next to) (eq-eqb next to is)))
    (λ inside. any_true test (next_of graph from) next way.0 (ap (λ b. (next == to) || b) (reaches_on_way graph next rest to way.1 inside) ∙ or_true (next == to)))
    (contained_cases next rest to c)

-- more steps reach as much
pub reaches_more : (graph : List (List ℕ)) (steps more from to : ℕ) → steps ≤ more → reaches graph steps from to ≡ true → reaches graph more from to ≡ true
reaches_more graph zero more from to le e = absurd (true≢false (sym e))
reaches_more graph (suc steps) zero from to le e = absurd (omega arith)
reaches_more graph (suc steps) (suc more) from to le e =
    let found = Any-from_list_any (λ n. (n == to) || reaches graph steps n to) (next_of graph from) e in
    any_true (λ n. (n == to) || reaches graph more n to) (next_of graph from) found.1 (found.0, found.2, found.3)
    (also (found.1 == to) (reaches graph steps found.1 to) (reaches graph more found.1 to) (reaches_more graph steps more found.1 to (omega arith)) found.4)
  where
    also : (a b c : Bool) → (b ≡ true → c ≡ true) → (a || b) ≡ true → (a || c) ≡ true
    also true b c h e = refl
    also false b c h e = h e

-- a way that comes back within as many steps as there are nodes is closed
closed_way : (graph : List (List ℕ)) (node : ℕ) (nodes : List ℕ) → IsWayFrom graph node nodes → length nodes ≤ length graph → Contains nodes node → on_closed_walk graph node ≡ true
closed_way graph node nodes way le c = reaches_more graph (length nodes) (length graph) node node le (reaches_on_way graph node nodes node way c)

pub none_equal : (x : ℕ) (xs : List ℕ) → list_any (eqb x) xs ≡ false → AllByRecursion (λ y. eqb x y ≡ false) xs
none_equal x [] e = tt
none_equal x (y ∷ ys) e = both (eqb x y) (list_any (eqb x) ys) (none_equal x ys) e
  where
    both : (a b : Bool) → (b ≡ false → AllByRecursion (λ z. eqb x z ≡ false) ys) → (a || b) ≡ false → (a ≡ false) × AllByRecursion (λ z. eqb x z ≡ false) ys
    both true b h e = absurd (true≢false e)
    both false b h e = (refl, h e)

pub none_distinct : IsDistinct eqb []
unfolding IsDistinct
none_distinct = tt

-- a way of no more steps than there are nodes passes no node twice, or one of its nodes is on a closed walk
closed_or_distinct : (graph : List (List ℕ)) (from : ℕ) (nodes : List ℕ) → IsWayFrom graph from nodes → length nodes ≤ length graph → ((node : ℕ) × (on_closed_walk graph node ≡ true)) ⊎ IsDistinct eqb (from ∷ nodes)
closed_or_distinct graph from [] way le = inr (IsDistinct-cons eqb from [] tt none_distinct)
closed_or_distinct graph from (next ∷ rest) way le = ⊎_elim inl
    (λ distinct. again (list_any (eqb from) (next ∷ rest)) refl distinct)
    (closed_or_distinct graph next rest way.1 (omega arith))
  where
    again : (b : Bool) → list_any (eqb from) (next ∷ rest) ≡ b → IsDistinct eqb (next ∷ rest) → ((node : ℕ) × (on_closed_walk graph node ≡ true)) ⊎ IsDistinct eqb (from ∷ next ∷ rest)
    again true e distinct = inl (from, closed_way graph from (next ∷ rest) way le (Contains-from_any eqb-true from (next ∷ rest) e))
    again false e distinct = inr (IsDistinct-cons eqb from (next ∷ rest) (none_equal from (next ∷ rest) e) distinct)

-- what a way passes is there
way_below : (graph : List (List ℕ)) (from : ℕ) (nodes : List ℕ) → AreNodes graph → IsWayFrom graph from nodes → from < length graph → (node : ℕ) → Contains (from ∷ nodes) node → node < length graph
way_below graph from [] there way lt node c = ⊎_elim (λ is. subst (λ n. n < length graph) is lt) (λ d. absurd (none_contained node d)) (contained_cases from [] node c)
way_below graph from (next ∷ rest) there way lt node c = ⊎_elim (λ is. subst (λ n. n < length graph) is lt) (way_below graph next rest there way.1 (there from next way.0) node) (contained_cases from (next ∷ rest) node c)

-- a way of as many steps as there are nodes shows a closed walk
pub long_way_closed : (graph : List (List ℕ)) (from : ℕ) (nodes : List ℕ) → AreNodes graph → IsWayFrom graph from nodes → from < length graph → length nodes ≡ length graph → (node : ℕ) × (on_closed_walk graph node ≡ true)
long_way_closed graph from nodes there way lt long = ⊎_elim (λ found. found)
    (λ distinct.
    let few = length-le_from_distinct_below (from ∷ nodes) (length graph) distinct (λ q e. way_below graph from nodes there way lt q (Contains-from_any eqb-true q (from ∷ nodes) e)) in
    absurd (omega arith))
    (closed_or_distinct graph from nodes way (omega arith))

-- the nodes that a walk passes after its first
way_of : (graph : List (List ℕ)) (steps from : ℕ) → walks graph steps from ≡ true → (nodes : List ℕ) × IsWayFrom graph from nodes × (length nodes ≡ steps)
way_of graph zero from e = ([], tt, refl)
way_of graph (suc steps) from e =
    let found = Any-from_list_any (walks graph steps) (next_of graph from) e in
    let more = way_of graph steps found.1 found.4 in
    (found.1 ∷ more.0, ((found.0, found.2, found.3), more.1), ap suc more.2)

-- if no node is on a closed walk, none is of as many steps as there are nodes
pub no_long_walk : (graph : List (List ℕ)) → AreNodes graph → ((node : ℕ) → on_closed_walk graph node ≡ false) → (from : ℕ) → from < length graph → walks graph (length graph) from ≡ false
no_long_walk graph there none from lt = by (walks graph (length graph) from) refl
  where
    by : (b : Bool) → walks graph (length graph) from ≡ b → b ≡ false
    by true e =
        let way = way_of graph (length graph) from e in
        let closed = long_way_closed graph from way.0 there way.1 lt way.2 in
        absurd (true≢false (sym closed.1 ∙ none closed.0))
    by false e = refl
