-- What the first node tells that a node leads to and that isn't done.
use Rattle.std.proofs.Common.{◌≡◌, ⊎_elim, ℕ, ◌<◌, ◌≤◌, List, length, Bool, true, false, sym, ap, ◌∙◌, subst, arith, Contains, get_or, slice_get, slice_index, slice_index_or, slice_set, Option, Some, None, MatchOption, Bor, HoldsAt, option_copied}
use Rattle.std.proofs.lemmas.Bool.{cases_lt}
use Rattle.std.proofs.lemmas.List.{get_or_default, get_or-set_same}
use Rattle.std.proofs.lemmas.List.Elements.{Contains-get_or}
use Rattle.std.proofs.lemmas.Option.{slice_get-get_or, slice_get_past}
use Rattle.isle_walks.specs.Walks.{next_of, nodes_or_none, AreNodes}
use Rattle.isle_walks.specs.Sound.{has, LeadsInto, AreFirstIn, IsSoundAt}
use Rattle.isle_walks.proofs.Orders.{sound_looked}

-- what stands at a node of a graph
pub next_of_is : (graph : List (List ℕ)) (node : ℕ) (nodes : List ℕ) → node < length graph → nodes ≡ get_or graph node nodes → nodes ≡ next_of graph node
next_of_is graph node nodes lt is = is ∙ sym (ap nodes_or_none (slice_get-get_or graph node nodes lt))

-- what stands there leads to nodes that are there
pub next_below : (graph : List (List ℕ)) (node : ℕ) (nodes : List ℕ) → AreNodes graph → nodes ≡ next_of graph node → (place : ℕ) → place < length nodes → slice_index nodes place < length graph
next_below graph node nodes there is place lt = there node (slice_index nodes place) (subst (λ xs. Contains xs (slice_index nodes place)) is (Contains-get_or nodes place 0 lt))

-- an item that is copied from where it stands
pub copied_is : (nodes : List ℕ) (place : ℕ) (got : Option (Bor ℕ)) → MatchOption got (length nodes ≤ place) (λ x. (place < length nodes) × HoldsAt (λ y. x.now ≡ y) nodes place) → option_copied got ≡ slice_get nodes place
copied_is nodes place None past = sym (slice_get_past nodes place past)
copied_is nodes place (Some x) here = ap Some (here.1 0) ∙ sym (slice_get-get_or nodes place 0 here.0)

-- a node's next ones have been gone over from the first that wasn't looked at up to a place: those before it are done
module _ (graph : List (List ℕ)) (looked : List ℕ) (done : List Bool) (order : List ℕ) (node begin place : ℕ) (nodes : List ℕ) (marks : List Bool)
    (sound : IsSoundAt graph looked done order) (there : node < length graph) (are : nodes ≡ next_of graph node) (marks_are : marks ≡ done) (begins : begin ≡ slice_index_or looked node begin)
    (within : place ≤ length nodes) (passed : (k : ℕ) → begin ≤ k → k < place → slice_index_or marks (slice_index nodes k) false ≡ true)
  where
    -- so they are looked at
    pub looked_on : IsSoundAt graph (slice_set looked node place) done order
    looked_on = sound_looked graph looked done order sound node place there (subst (λ xs. place ≤ length xs) are within) again
      where
        again : (k : ℕ) → slice_index looked node ≤ k → k < place → slice_index_or done (slice_index (next_of graph node) k) false ≡ true
        again k from to =
            let places = sound.places in
            let first : begin ≡ slice_index looked node = begins ∙ get_or_default looked node begin 0 (omega arith) in
            subst (λ xs. slice_index_or done (slice_index xs k) false ≡ true) are
            (subst (λ ms. slice_index_or ms (slice_index nodes k) false ≡ true) marks_are (passed k (omega arith) to))

    all_first : AreFirstIn order (next_of graph node) place
    all_first k lt =
        let places = sound.places in
        looked_on.firsts node k (subst (λ n. k < n) (sym (get_or-set_same looked node place 0 (omega arith))) lt)

    -- and what stands there is not done, or all are
    pub left_there : (found : Option ℕ) → found ≡ slice_get nodes place → (place < length nodes → slice_index_or marks (slice_index nodes place) false ≡ false) → MatchOption found (LeadsInto graph order node) (λ next. Contains (next_of graph node) next × (has order next ≡ false))
    left_there found is left = ⊎_elim
        (λ lt. subst Tells (sym (is ∙ slice_get-get_or nodes place 0 lt)) (
          subst (λ xs. Contains xs (slice_index nodes place)) are (Contains-get_or nodes place 0 lt),
          sym (sound.marked (slice_index nodes place)) ∙ subst (λ ms. slice_index_or ms (slice_index nodes place) false ≡ false) marks_are (left lt),
        ))
        (λ le. subst Tells (sym (is ∙ slice_get_past nodes place le)) (λ next c.
        let here = c.1 in
        let long = ap length are in
        ap (has order) (sym (get_or_default (next_of graph node) c.0 0 next c.1 ∙ c.2)) ∙ all_first c.0 (omega arith)))
        (cases_lt place (length nodes))
      where
        Tells : Option ℕ → Type 0
        Tells o = MatchOption o (LeadsInto graph order node) (λ next. Contains (next_of graph node) next × (has order next ≡ false))
