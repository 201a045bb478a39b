-- What nodes reach. A node that reaches itself does so within as many steps as there are nodes.
use Rattle.std.proofs.Common.{◌≡◌, ◌⊎◌, inl, inr, ⊎_elim, ℕ, zero, suc, ◌<◌, List, [], ◌∷◌, length, Bool, true, false, ◌||◌, ◌==◌, eqb, refl, sym, ap, ◌∙◌, subst, Contains, true≢false, eq-eqb, eqb-true}
use Rattle.std.specs.List.{list_any, IsDistinct}
use Rattle.std.proofs.lemmas.List.Folds.{Any-from_list_any}
use Rattle.std.proofs.lemmas.Map.Keys.{IsDistinct-cons, IsDistinct-tail}
use Rattle.std.proofs.lemmas.Map.Steps.{length-le_from_distinct_below}
use Rattle.std.proofs.lemmas.Map.Views.{Contains-from_any}
use Rattle.isle_core.proofs.Contained.{contained_cases, none_contained}
use Rattle.isle_walks.specs.Walks.{next_of, reaches, on_closed_walk, AreNodes}
use Rattle.isle_walks.specs.Ways.{IsWayTo, Reaches, LeadsTo}
use Rattle.isle_walks.proofs.ClosedWalks.{or_true, any_true, reaches_more, none_equal, none_distinct}
use Rattle.isle_walks.proofs.NoneClosed.{either_true, not_true}

-- a node reaches what a node leads to that it leads to
pub reaches_first : (graph : List (List ℕ)) (from next to : ℕ) → Contains (next_of graph from) next → LeadsTo graph next to → Reaches graph from to
reaches_first graph from next to c leads = ⊎_elim
    (λ is. (suc zero, any_true (λ n. (n == to) || false) (next_of graph from) next c (ap (λ b. b || false) (eq-eqb next to is))))
    (λ more. (suc more.0, any_true (λ n. (n == to) || reaches graph more.0 n to) (next_of graph from) next c (ap (λ b. (next == to) || b) more.1 ∙ or_true (next == to))))
    leads

-- the first step of a walk
pub first_step : (graph : List (List ℕ)) (steps from to : ℕ) → reaches graph (suc steps) from to ≡ true → (next : ℕ) × Contains (next_of graph from) next × ((next ≡ to) ⊎ (reaches graph steps next to ≡ true))
first_step graph steps from to e =
    let found = Any-from_list_any (λ n. (n == to) || reaches graph steps n to) (next_of graph from) e in
    (found.1, (found.0, found.2, found.3), ⊎_elim (λ is. inl (eqb-true found.1 to is)) inr (either_true (found.1 == to) (reaches graph steps found.1 to) found.4))

-- a walk goes on
walk_on : (graph : List (List ℕ)) (steps from middle to : ℕ) → reaches graph steps from middle ≡ true → LeadsTo graph middle to → Reaches graph from to
walk_on graph zero from middle to e leads = absurd (true≢false (sym e))
walk_on graph (suc steps) from middle to e leads =
    let step = first_step graph steps from middle e in
    reaches_first graph from step.0 to step.1 (⊎_elim (λ is. subst (λ n. LeadsTo graph n to) (sym is) leads) (λ more. inr (walk_on graph steps step.0 middle to more leads)) step.2)

pub reaches_on : (graph : List (List ℕ)) (from middle to : ℕ) → Reaches graph from middle → LeadsTo graph middle to → Reaches graph from to
reaches_on graph from middle to reached leads = walk_on graph reached.0 from middle to reached.1 leads

pub leads_reach : (graph : List (List ℕ)) (from middle to : ℕ) → LeadsTo graph from middle → Reaches graph middle to → Reaches graph from to
leads_reach graph from middle to leads reached = ⊎_elim (λ is. subst (λ n. Reaches graph n to) (sym is) reached) (λ first. reaches_on graph from middle to first (inr reached)) leads

pub leads_on : (graph : List (List ℕ)) (from middle to : ℕ) → LeadsTo graph from middle → LeadsTo graph middle to → LeadsTo graph from to
leads_on graph from middle to leads more = ⊎_elim (λ is. subst (λ n. LeadsTo graph n to) (sym is) more) (λ first. inr (reaches_on graph from middle to first more)) leads

-- what is led from to itself is reached through a way without repeats
module _ (graph : List (List ℕ)) (to : ℕ) where
  way_to : (steps from : ℕ) → reaches graph steps from to ≡ true → (nodes : List ℕ) × IsWayTo graph from nodes to
  way_to zero from e = absurd (true≢false (sym e))
  way_to (suc steps) from e =
      let step = first_step graph steps from to e in
      ⊎_elim (λ is. (step.0 ∷ [], (step.1, is))) (λ more. let rest = way_to steps step.0 more in (step.0 ∷ rest.0, (step.1, rest.1))) step.2

  -- a way from one of the nodes of another
  way_from : (first : ℕ) (nodes : List ℕ) (from : ℕ) → IsWayTo graph first nodes to → IsDistinct eqb (first ∷ nodes) → Contains (first ∷ nodes) from → (rest : List ℕ) × IsWayTo graph from rest to × IsDistinct eqb (from ∷ rest)
  way_from first [] from way distinct c = ⊎_elim
      (λ is. ([], sym is ∙ way, subst (λ n. IsDistinct eqb (n ∷ [])) is distinct))
      (λ d. absurd (none_contained from d))
      (contained_cases first [] from c)
  way_from first (next ∷ rest) from way distinct c = ⊎_elim
      (λ is. (next ∷ rest, subst (λ n. IsWayTo graph n (next ∷ rest) to) is way, subst (λ n. IsDistinct eqb (n ∷ next ∷ rest)) is distinct))
      (way_from next rest from way.1 (IsDistinct-tail eqb first (next ∷ rest) distinct))
      (contained_cases first (next ∷ rest) from c)

  short_way : (from : ℕ) (nodes : List ℕ) → IsWayTo graph from nodes to → (rest : List ℕ) × IsWayTo graph from rest to × IsDistinct eqb (from ∷ rest)
  short_way from [] way = ([], way, IsDistinct-cons eqb from [] tt none_distinct)
  short_way from (next ∷ nodes) way = longer (short_way next nodes way.1)
    where
      longer : (rest : List ℕ) × IsWayTo graph next rest to × IsDistinct eqb (next ∷ rest) → (rest : List ℕ) × IsWayTo graph from rest to × IsDistinct eqb (from ∷ rest)
      longer behind = by (list_any (eqb from) (next ∷ behind.0)) refl
        where
          by : (b : Bool) → list_any (eqb from) (next ∷ behind.0) ≡ b → (rest : List ℕ) × IsWayTo graph from rest to × IsDistinct eqb (from ∷ rest)
          by true e = way_from next behind.0 from behind.1 behind.2 (Contains-from_any eqb-true from (next ∷ behind.0) e)
          by false e = (next ∷ behind.0, (way.0, behind.1), IsDistinct-cons eqb from (next ∷ behind.0) (none_equal from (next ∷ behind.0) e) behind.2)

  -- a way is a walk of one step more
  way_walk : (prior from : ℕ) (nodes : List ℕ) → Contains (next_of graph prior) from → IsWayTo graph from nodes to → reaches graph (suc (length nodes)) prior to ≡ true
  way_walk prior from [] c way = any_true (λ n. (n == to) || false) (next_of graph prior) from c (ap (λ b. b || false) (eq-eqb from to way))
  way_walk prior from (next ∷ rest) c way = any_true (λ n. (n == to) || reaches graph (suc (length rest)) n to) (next_of graph prior) from c
      (ap (λ b. (from == to) || b) (way_walk from next rest way.0 way.1) ∙ or_true (from == to))

  way_there : AreNodes graph → (from : ℕ) (nodes : List ℕ) → from < length graph → IsWayTo graph from nodes to → (node : ℕ) → Contains (from ∷ nodes) node → node < length graph
  way_there there from [] lt way node c = ⊎_elim (λ is. subst (λ n. n < length graph) is lt) (λ d. absurd (none_contained node d)) (contained_cases from [] node c)
  way_there there from (next ∷ rest) lt way node c = ⊎_elim (λ is. subst (λ n. n < length graph) is lt) (way_there there next rest (there from next way.0) way.1 node) (contained_cases from (next ∷ rest) node c)

-- a node that reaches itself is on a closed walk
pub closed_within : (graph : List (List ℕ)) (node steps : ℕ) → AreNodes graph → reaches graph steps node node ≡ true → on_closed_walk graph node ≡ true
closed_within graph node zero there e = absurd (true≢false (sym e))
closed_within graph node (suc steps) there e =
    let step = first_step graph steps node node e in
    let way = ⊎_elim {C = (nodes : List ℕ) × IsWayTo graph step.0 nodes node} (λ is. ([], is)) (way_to graph node steps step.0) step.2 in
    let short = short_way graph node step.0 way.0 way.1 in
    let few = length-le_from_distinct_below (step.0 ∷ short.0) (length graph) short.2 (λ q among. way_there graph node there step.0 short.0 (there node step.0 step.1) short.1 q (Contains-from_any eqb-true q (step.0 ∷ short.0) among)) in
    reaches_more graph (suc (length short.0)) (length graph) node node few (way_walk graph node node step.0 short.0 step.1 short.1)

-- from nodes that lead only to one another a walk leads to no others
stays : (graph : List (List ℕ)) (Among : ℕ → Type 0) → ((node : ℕ) → Among node → (next : ℕ) → Contains (next_of graph node) next → Among next) → (steps from to : ℕ) → Among from → reaches graph steps from to ≡ true → Among to
stays graph Among settled zero from to among e = absurd (true≢false (sym e))
stays graph Among settled (suc steps) from to among e =
    let step = first_step graph steps from to e in
    let next = settled from among step.0 step.1 in
    ⊎_elim (λ is. subst Among is next) (stays graph Among settled steps step.0 to next) step.2

-- a node that leads only to such nodes, and is none of them, is on no closed walk
pub not_closed : (graph : List (List ℕ)) (Among : ℕ → Type 0) → ((node : ℕ) → Among node → (next : ℕ) → Contains (next_of graph node) next → Among next) → (node : ℕ) → (Among node → ⊥) → ((next : ℕ) → Contains (next_of graph node) next → Among next) → on_closed_walk graph node ≡ false
not_closed graph Among settled node outside leads = not_true (on_closed_walk graph node) (never (length graph))
  where
    never : (steps : ℕ) → reaches graph steps node node ≡ true → ⊥
    never zero e = true≢false (sym e)
    never (suc steps) e =
        let step = first_step graph steps node node e in
        let next = leads step.0 step.1 in
        outside (⊎_elim (λ is. subst Among is next) (stays graph Among settled steps step.0 node next) step.2)
