-- How the path of a search in depth grows and shrinks, and that it shows a closed walk when it is too long.
use Rattle.std.proofs.Common.{◌≡◌, inl, inr, ⊎_elim, ℕ, ◌+◌, ◌<◌, List, [], ◌∷◌, ◌++◌, length, true, false, sym, ap, ◌∙◌, subst, arith, Contains, ◌≢◌, true≢false}
use Rattle.std.proofs.lemmas.List.{length_push}
use Rattle.std.proofs.lemmas.List.Elements.{Contains-append_left, Contains-push, Contains-push_cases}
use Rattle.isle_core.proofs.Contained.{head_contained, tail_contained, contained_cases, none_contained}
use Rattle.isle_walks.specs.Walks.{next_of, on_closed_walk, AreNodes}
use Rattle.isle_walks.specs.Ways.{IsWayFrom, IsWay}
use Rattle.isle_walks.specs.Sound.{has, LeadsInto, IsOpen}
use Rattle.isle_walks.proofs.ClosedWalks.{long_way_closed}
use Rattle.isle_walks.proofs.Orders.{has_last, has_others, grows_by}

-- a way that goes on
way_from_more : (graph : List (List ℕ)) (from : ℕ) (rest : List ℕ) (node next : ℕ) → IsWayFrom graph from (rest ++ node ∷ []) → Contains (next_of graph node) next → IsWayFrom graph from ((rest ++ node ∷ []) ++ next ∷ [])
way_from_more graph from [] node next way leads = (way.0, (leads, tt))
way_from_more graph from (first ∷ rest) node next way leads = (way.0, way_from_more graph first rest node next way.1 leads)

way_more : (graph : List (List ℕ)) (rest : List ℕ) (node next : ℕ) → IsWay graph (rest ++ node ∷ []) → Contains (next_of graph node) next → IsWay graph ((rest ++ node ∷ []) ++ next ∷ [])
way_more graph [] node next way leads = (leads, tt)
way_more graph (first ∷ rest) node next way leads = way_from_more graph first rest node next way leads

-- a way without its last node
way_from_less : (graph : List (List ℕ)) (from : ℕ) (rest : List ℕ) (node : ℕ) → IsWayFrom graph from (rest ++ node ∷ []) → IsWayFrom graph from rest
way_from_less graph from [] node way = tt
way_from_less graph from (first ∷ rest) node way = (way.0, way_from_less graph first rest node way.1)

way_less : (graph : List (List ℕ)) (rest : List ℕ) (node : ℕ) → IsWay graph (rest ++ node ∷ []) → IsWay graph rest
way_less graph [] node way = tt
way_less graph (first ∷ rest) node way = way_from_less graph first rest node way

-- a way goes on from its second node
way_behind : (graph : List (List ℕ)) (from : ℕ) (nodes : List ℕ) → IsWayFrom graph from nodes → IsWay graph nodes
way_behind graph from [] way = tt
way_behind graph from (next ∷ rest) way = way.1

-- a node that leads only to nodes that are done stands on a path of others only at its end
module _ (graph : List (List ℕ)) (order : List ℕ) (node : ℕ) (leads : LeadsInto graph order node) where
  leads_to_none : (rest : List ℕ) → IsWayFrom graph node (rest ++ node ∷ []) → ((other : ℕ) → Contains (rest ++ node ∷ []) other → has order other ≡ false) → ⊥
  leads_to_none [] way left = true≢false (sym (leads node way.0) ∙ left node (head_contained node []))
  leads_to_none (next ∷ rest) way left = true≢false (sym (leads next way.0) ∙ left next (head_contained next (rest ++ node ∷ [])))

  not_before : (path : List ℕ) → IsWay graph (path ++ node ∷ []) → ((other : ℕ) → Contains (path ++ node ∷ []) other → has order other ≡ false) → Contains path node → ⊥
  not_before [] way left c = none_contained node c
  not_before (first ∷ rest) way left c =
      let others = λ (other : ℕ) (d : Contains (rest ++ node ∷ []) other). left other (tail_contained first (rest ++ node ∷ []) other d) in
      ⊎_elim
      (λ is. leads_to_none rest (subst (λ n. IsWayFrom graph n (rest ++ node ∷ [])) is way) others)
      (not_before rest (way_behind graph first (rest ++ node ∷ []) way) others)
      (contained_cases first rest node c)

-- a path begins with one node that isn't done
pub open_one : (graph : List (List ℕ)) (order : List ℕ) (start : ℕ) → start < length graph → has order start ≡ false → IsOpen graph order (start ∷ []) start
open_one graph order start lt new = record {
  way = tt;
  few = omega arith;
  there = λ node c. subst (λ n. n < length graph) (single node c) lt;
  left = λ node c. ap (has order) (sym (single node c)) ∙ new;
  held = inr (head_contained start []);
}
  where
    single : (node : ℕ) → Contains (start ∷ []) node → start ≡ node
    single node c = ⊎_elim (λ is. is) (λ d. absurd (none_contained node d)) (contained_cases start [] node c)

module _ (graph : List (List ℕ)) (order path : List ℕ) (start node : ℕ) (opened : IsOpen graph order (path ++ node ∷ []) start) where
  -- the last node is there and not done
  pub last_there : node < length graph
  last_there = opened.there node (Contains-push path node)

  pub last_left : has order node ≡ false
  last_left = opened.left node (Contains-push path node)

  -- the path grows by a node that isn't done
  pub open_more : (next : ℕ) → AreNodes graph → Contains (next_of graph node) next → has order next ≡ false → length path + 1 ≢ length graph → IsOpen graph order ((path ++ node ∷ []) ++ next ∷ []) start
  open_more next nodes leads new short = record {
    way = way_more graph path node next opened.way leads;
    few = let long = length_push path node in let longer = length_push (path ++ node ∷ []) next in let few = opened.few in omega arith;
    there = λ other c. ⊎_elim (opened.there other) (λ is. subst (λ n. n < length graph) is (nodes node next leads)) (Contains-push_cases (path ++ node ∷ []) next other c);
    left = λ other c. ⊎_elim (opened.left other) (λ is. ap (has order) (sym is) ∙ new) (Contains-push_cases (path ++ node ∷ []) next other c);
    held = ⊎_elim inl (λ c. inr (Contains-append_left (path ++ node ∷ []) (next ∷ []) start c)) opened.held;
  }

  -- the last node leaves the path, and is done
  pub open_less : LeadsInto graph order node → IsOpen graph (order ++ node ∷ []) path start
  open_less leads = record {
    way = way_less graph path node opened.way;
    few = let long = length_push path node in let few = opened.few in omega arith;
    there = λ other c. opened.there other (Contains-append_left path (node ∷ []) other c);
    left = λ other c. has_others order node other (differs other c) ∙ opened.left other (Contains-append_left path (node ∷ []) other c);
    held = ⊎_elim (λ e. inl (grows_by order node start e))
        (λ c. ⊎_elim inr (λ is. inl (subst (λ n. has (order ++ node ∷ []) n ≡ true) is (has_last order node))) (Contains-push_cases path node start c))
        opened.held;
  }
    where
      differs : (other : ℕ) → Contains path other → (other ≡ node → ⊥)
      differs other c is = not_before graph order node leads path opened.way opened.left (subst (Contains path) is c)

  -- a path of all nodes whose last one leads on shows a closed walk
  pub too_long : (next : ℕ) → AreNodes graph → Contains (next_of graph node) next → length path + 1 ≡ length graph → (on : ℕ) × (on_closed_walk graph on ≡ true)
  too_long next nodes leads long = all path (way_more graph path node next opened.way leads) opened.there long
    where
      all : (rest : List ℕ) → IsWay graph ((rest ++ node ∷ []) ++ next ∷ []) → ((other : ℕ) → Contains (rest ++ node ∷ []) other → other < length graph) → length rest + 1 ≡ length graph → (on : ℕ) × (on_closed_walk graph on ≡ true)
      all [] way there is = long_way_closed graph node (next ∷ []) nodes way (there node (head_contained node [])) (omega arith)
      all (first ∷ rest) way there is = long_way_closed graph first ((rest ++ node ∷ []) ++ next ∷ []) nodes way (there first (head_contained first (rest ++ node ∷ [])))
          (let one = length_push rest node in let two = length_push (rest ++ node ∷ []) next in omega arith)
