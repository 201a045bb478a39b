-- Where all nodes are in order, none is on a closed walk.
use Rattle.std.proofs.Common.{◌≡◌, ◌⊎◌, inl, inr, ⊎_elim, ℕ, zero, suc, ◌≤◌, List, [], ◌∷◌, length, Bool, true, false, ◌||◌, ◌==◌, eqb, refl, sym, ap, ◌∙◌, subst, Contains, true≢false, eqb-true}
use Rattle.std.proofs.lemmas.Bool.{cases_lt}
use Rattle.std.proofs.lemmas.Cmp.{nat_eq_equiv}
use Rattle.std.proofs.lemmas.List.Folds.{Any-from_list_any}
use Rattle.std.proofs.lemmas.Map.Views.{list_any-from_Contains}
use Rattle.std.proofs.lemmas.Option.{slice_get_past}
use Rattle.std.specs.List.{list_any}
use Rattle.isle_core.proofs.Contained.{head_contained, contained_cases, none_contained}
use Rattle.isle_walks.specs.Walks.{next_of, nodes_or_none, reaches, on_closed_walk, IsOrdered, IsOrder}
use Rattle.isle_walks.specs.Sound.{has}
use Rattle.isle_walks.proofs.ClosedWalks.{or_true}

pub either_true : (a b : Bool) → (a || b) ≡ true → (a ≡ true) ⊎ (b ≡ true)
either_true true b e = inl refl
either_true false b e = inr e

-- what these nodes reach is among them, and none of them reaches itself
abbrev AreSettled : List (List ℕ) → List ℕ → Type 0
AreSettled graph nodes = (from : ℕ) → has nodes from ≡ true → (steps to : ℕ) → reaches graph steps from to ≡ true → (has nodes to ≡ true) × (to ≡ from → ⊥)

-- a node reaches what it leads to, and what that reaches
reached : (graph : List (List ℕ)) (nodes : List ℕ) (node : ℕ) → AreSettled graph nodes → ((next : ℕ) → Contains (next_of graph node) next → Contains nodes next) → (steps to : ℕ) → reaches graph steps node to ≡ true → has nodes to ≡ true
reached graph nodes node settled leads zero to e = absurd (true≢false (sym e))
reached graph nodes node settled leads (suc steps) to e =
    let found = Any-from_list_any (λ n. (n == to) || reaches graph steps n to) (next_of graph node) e in
    let inside = list_any-from_Contains nat_eq_equiv found.1 nodes (leads found.1 (found.0, found.2, found.3)) in
    ⊎_elim (λ is. ap (has nodes) (sym (eqb-true found.1 to is)) ∙ inside) (λ on. (settled found.1 inside steps to on).0) (either_true (found.1 == to) (reaches graph steps found.1 to) found.4)

settled_more : (graph : List (List ℕ)) (nodes : List ℕ) (node : ℕ) → AreSettled graph nodes → ((next : ℕ) → Contains (next_of graph node) next → Contains nodes next) → AreSettled graph (node ∷ nodes)
settled_more graph nodes node settled leads from e steps to on = by (has nodes from) refl
  where
    among : has nodes to ≡ true → has (node ∷ nodes) to ≡ true
    among h = ap (λ b. eqb to node || b) h ∙ or_true (eqb to node)

    by : (b : Bool) → has nodes from ≡ b → (has (node ∷ nodes) to ≡ true) × (to ≡ from → ⊥)
    by true h = let rest = settled from h steps to on in (among rest.0, rest.1)
    by false h =
        let same : from ≡ node = ⊎_elim (eqb-true from node) (λ t. absurd (true≢false (sym t ∙ h))) (either_true (eqb from node) (has nodes from) e) in
        let inside = reached graph nodes node settled leads steps to (subst (λ n. reaches graph steps n to ≡ true) same on) in
        (among inside, λ is. true≢false (sym inside ∙ ap (has nodes) is ∙ h))

-- what stands after these in an order reaches nothing twice
ordered_settled : (graph : List (List ℕ)) (before order : List ℕ) → AreSettled graph before → IsOrdered graph before order → (node : ℕ) → Contains order node → (nodes : List ℕ) × AreSettled graph nodes × (has nodes node ≡ true)
ordered_settled graph before [] settled ordered node c = absurd (none_contained node c)
ordered_settled graph before (first ∷ rest) settled ordered node c =
    let more = settled_more graph before first settled ordered.0 in
    ⊎_elim (λ is. (first ∷ before, more, list_any-from_Contains nat_eq_equiv node (first ∷ before) (subst (Contains (first ∷ before)) is (head_contained first before))))
    (ordered_settled graph (first ∷ before) rest more ordered.1 node)
    (contained_cases first rest node c)

-- a node that isn't there leads nowhere
nowhere : (graph : List (List ℕ)) (steps node to : ℕ) → length graph ≤ node → reaches graph steps node to ≡ false
nowhere graph zero node to past = refl
nowhere graph (suc steps) node to past = ap (λ nodes. list_any (λ n. (n == to) || reaches graph steps n to) (nodes_or_none nodes)) (slice_get_past graph node past)

pub not_true : (b : Bool) → (b ≡ true → ⊥) → b ≡ false
not_true true never = absurd (never refl)
not_true false never = refl

-- an order shows that no node is on a closed walk
pub none_closed : (graph : List (List ℕ)) (order : List ℕ) → IsOrder graph order → (node : ℕ) → on_closed_walk graph node ≡ false
none_closed graph order is node = ⊎_elim
    (λ lt.
    let settled = ordered_settled graph [] order (λ from e. absurd (true≢false (sym e))) is.ordered node (is.all node lt) in
    not_true (on_closed_walk graph node) (λ on. (settled.1 node settled.2 (length graph) node on).1 refl))
    (nowhere graph (length graph) node node)
    (cases_lt node (length graph))
