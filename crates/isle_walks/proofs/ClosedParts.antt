-- The last part of a path that no node waits for: whether its nodes are on closed walks.
use Rattle.std.proofs.Common.{◌≡◌, ◌≢◌, ◌⊎◌, inl, inr, ⊎_elim, ℕ, ◌+◌, ◌-◌, ◌<◌, ◌≤◌, List, [], ◌∷◌, ◌++◌, length, Bool, true, false, ◌||◌, eqb, refl, sym, ap, ◌∙◌, subst, arith, Contains, slice_index, drop, length-drop, get_or-drop, true≢false, eqb-true}
use Rattle.std.specs.List.{list_any}
use Rattle.std.proofs.lemmas.Bool.{cases_eq}
use Rattle.std.proofs.lemmas.Cmp.{nat_eq_equiv}
use Rattle.std.proofs.lemmas.List.{get_or_default}
use Rattle.std.proofs.lemmas.List.Elements.{Contains-push, Contains-get_or}
use Rattle.std.proofs.lemmas.Map.Views.{Contains-from_any, list_any-from_Contains}
use Rattle.isle_core.proofs.Contained.{contained_cases, none_contained}
use Rattle.isle_walks.specs.Walks.{next_of, on_closed_walk, AreNodes}
use Rattle.isle_walks.specs.Ways.{Reaches}
use Rattle.isle_walks.specs.Sound.{has}
use Rattle.isle_walks.specs.Parts.{mark_of, IsDone, IsSearchedAt}
use Rattle.isle_walks.specs.declared.parts.Mark.{Mark}
use Rattle.isle_walks.specs.declared.parts.Part.{Part}
use Rattle.isle_walks.proofs.NoneClosed.{not_true}
use Rattle.isle_walks.proofs.Reaching.{reaches_first, reaches_on, closed_within, not_closed}
use Rattle.isle_walks.proofs.RisingParts.{to_last}
use Rattle.isle_walks.proofs.EnterStep.{opened_not_done, same_place}

same_test : (x y : ℕ) → eqb x y ≡ eqb y x
same_test x y = ⊎_elim (λ is. ap (eqb x) (sym is) ∙ ap (λ z. eqb z x) is) (λ differs. not_true (eqb x y) (λ e. differs (eqb-true x y e)) ∙ sym (not_true (eqb y x) (λ e. differs (sym (eqb-true y x e))))) (cases_eq x y)

-- a list is asked for a node from either side
pub has_same : (nodes : List ℕ) (node : ℕ) → list_any (λ (other : ℕ). eqb other node) nodes ≡ has nodes node
has_same [] node = refl
has_same (first ∷ rest) node = ap (λ b. b || list_any (λ (other : ℕ). eqb other node) rest) (same_test first node) ∙ ap (λ b. eqb node first || b) (has_same rest node)

single : (nodes : List ℕ) → length nodes ≡ 1 → (node : ℕ) → Contains nodes node → nodes ≡ node ∷ []
single [] long node c = absurd (omega arith)
single (first ∷ []) long node c = ⊎_elim (λ is. ap (λ n. n ∷ []) is) (λ d. absurd (none_contained node d)) (contained_cases first [] node c)
single (first ∷ second ∷ rest) long node c = absurd (omega arith)

module _ (graph : List (List ℕ)) (marks : List Mark) (path : List ℕ) (rest : List Part) (last : Part) (waiting : List ℕ) (searched : IsSearchedAt graph marks path (rest ++ last ∷ []) waiting) (ended : List ℕ) (ended_is : ended ≡ drop last.begin path) where
  pub begins : last.begin < length path
  begins = (searched.parted.within last (Contains-push rest last)).0

  -- the nodes that end are those of the last part
  pub in_end : (place : ℕ) → last.begin ≤ place → place < length path → Contains ended (slice_index path place)
  in_end place le lt =
      let long = length-drop last.begin path in
      let at : last.begin + (place - last.begin) ≡ place = omega arith in
      subst (λ xs. Contains xs (slice_index path place)) (sym ended_is)
      (subst (Contains (drop last.begin path)) (get_or-drop last.begin path (place - last.begin) 0 ∙ ap (slice_index path) at)
      (Contains-get_or (drop last.begin path) (place - last.begin) 0 (omega arith)))

  pub place_of : (node : ℕ) → Contains ended node → (place : ℕ) × (last.begin ≤ place) × (place < length path) × (slice_index path place ≡ node)
  place_of node c =
      let d = subst (λ xs. Contains xs node) ended_is c in
      let long = length-drop last.begin path in
      let within = d.1 in
      (last.begin + d.0, omega arith, omega arith, sym (get_or-drop last.begin path d.0 0) ∙ get_or_default (drop last.begin path) d.0 0 node d.1 ∙ d.2)

  pub end_cases : (node : ℕ) → Contains ended node ⊎ (Contains ended node → ⊥)
  end_cases node = by (has ended node) refl
    where
      by : (b : Bool) → has ended node ≡ b → Contains ended node ⊎ (Contains ended node → ⊥)
      by true e = inl (Contains-from_any eqb-true node ended e)
      by false e = inr (λ c. true≢false (sym (list_any-from_Contains nat_eq_equiv node ended c) ∙ e))

  -- a place of the path has a node of its own
  pub place_once : (place other : ℕ) → place < length path → other < length path → slice_index path place ≡ slice_index path other → place ≡ other
  place_once place other lt within is = same_place place other (sym (searched.marked.placed place lt) ∙ ap (mark_of marks) is ∙ searched.marked.placed other within)

  -- they are not done
  pub not_done : (node : ℕ) → Contains ended node → IsDone marks node → ⊥
  not_done node c done =
      let at = place_of node c in
      opened_not_done at.0 done.0 (sym (searched.marked.placed at.0 at.2) ∙ ap (mark_of marks) at.3 ∙ done.1)

  module _ (none : length waiting ≡ last.from) where
    -- they lead to one another, and to nodes that are done
    pub goes : (node : ℕ) → Contains ended node → (next : ℕ) → Contains (next_of graph node) next → IsDone marks next ⊎ Contains ended next
    goes node c next leads =
        let at = place_of node c in
        let own = Contains-push rest last in
        ⊎_elim inl
        (⊎_elim
        (λ behind. inr (subst (Contains ended) behind.2 (in_end behind.0 (behind.3 last own at.1) behind.1)))
        (λ awaited. let from = awaited.3 last own at.1 in let within = awaited.1 in absurd (omega arith)))
        (searched.followed at.0 at.2 next (subst (λ n. Contains (next_of graph n) next) (sym at.3) leads))

    -- one that is alone is on a closed walk where it leads to itself
    alone : AreNodes graph → (node : ℕ) → ended ≡ node ∷ [] → (b : Bool) → has (next_of graph node) node ≡ b → on_closed_walk graph node ≡ b
    alone nodes node is true e =
        let round = reaches_first graph node node node (Contains-from_any eqb-true node (next_of graph node) e) (inl refl) in
        closed_within graph node round.0 nodes round.1
    alone nodes node is false e = not_closed graph (IsDone marks) searched.marked.settled node (not_done node (own node refl))
        (λ next leads. ⊎_elim (λ done. done)
        (λ inside. absurd (true≢false (sym (list_any-from_Contains nat_eq_equiv node (next_of graph node) (subst (Contains (next_of graph node)) (only next inside) leads)) ∙ e)))
        (goes node (own node refl) next leads))
      where
        own : (other : ℕ) → node ≡ other → Contains ended other
        own other same = subst (λ xs. Contains xs other) (sym is) (0, omega arith, same)

        only : (other : ℕ) → Contains ended other → other ≡ node
        only other c = ⊎_elim sym (λ d. absurd (none_contained other d)) (contained_cases node [] other (subst (λ xs. Contains xs other) is c))

    -- one that isn't alone is
    module _ (nodes : AreNodes graph) (several : length ended ≢ 1) where
      round : (place other : ℕ) → last.begin ≤ place → place < length path → last.begin ≤ other → other < length path → (place ≡ other → ⊥) → on_closed_walk graph (slice_index path place) ≡ true
      round place other le lt other_le other_lt differs =
          let there = to_last graph path rest last waiting searched.parted place other lt other_lt other_le in
          let back = to_last graph path rest last waiting searched.parted other place other_lt lt le in
          let reached = ⊎_elim {C = Reaches graph (slice_index path place) (slice_index path other)} (λ is. absurd (differs (place_once place other lt other_lt is))) (λ r. r) there in
          let again = reaches_on graph (slice_index path place) (slice_index path other) (slice_index path place) reached back in
          closed_within graph (slice_index path place) again.0 nodes again.1

      not_alone : (node : ℕ) → Contains ended node → on_closed_walk graph node ≡ true
      not_alone node c =
          let at = place_of node c in
          let long = ap length ended_is ∙ length-drop last.begin path in
          let within = begins in
          let le = at.1 in
          let lt = at.2 in
          subst (λ n. on_closed_walk graph n ≡ true) at.3
          (⊎_elim
          (λ is. round at.0 (last.begin + 1) at.1 at.2 (omega arith) (omega arith) (λ e. omega arith))
          (λ differs. round at.0 last.begin at.1 at.2 (omega arith) begins differs)
          (cases_eq at.0 last.begin))

    pub told_closed : AreNodes graph → (closed : Bool) → (length ended ≢ 1 → closed ≡ true) → ((node : ℕ) → ended ≡ node ∷ [] → closed ≡ has (next_of graph node) node) → (node : ℕ) → Contains ended node → on_closed_walk graph node ≡ closed
    told_closed nodes closed more one node c = ⊎_elim
        (λ long. let is = single ended long node c in alone nodes node is (has (next_of graph node) node) refl ∙ sym (one node is))
        (λ several. not_alone nodes several node c ∙ sym (more several))
        (cases_eq (length ended) 1)
