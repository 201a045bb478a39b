-- How a search in depth begins, looks at nodes, puts a node that is done after its order, and ends.
use Rattle.std.proofs.Common.{◌≡◌, ◌⊎◌, inl, inr, ⊎_elim, ℕ, ◌<◌, ◌≤◌, List, [], ◌∷◌, ◌++◌, length, Bool, true, false, ◌||◌, eqb, refl, sym, ap, ◌∙◌, subst, arith, Contains, replicate, slice_index, slice_index_or, slice_set, length-set, true≢false, eq-eqb, eqb-true, le_antisymm}
use Rattle.std.proofs.lemmas.Bool.{cases_eq, cases_lt}
use Rattle.std.proofs.lemmas.Cmp.{nat_eq_equiv}
use Rattle.std.proofs.lemmas.List.{get_or_past, get_or-replicate, get_or-set_same, get_or-set_other, length-replicate}
use Rattle.std.proofs.lemmas.List.Folds.{list_any-append}
use Rattle.std.proofs.lemmas.Map.Keys.{IsDistinct-push}
use Rattle.std.proofs.lemmas.Map.Steps.{length-le_from_distinct_below, le-length_from_below}
use Rattle.std.proofs.lemmas.Map.Views.{Contains-from_any, list_any-from_Contains}
use Rattle.isle_core.proofs.Contained.{head_contained, tail_contained, contained_cases, none_contained}
use Rattle.isle_walks.specs.Walks.{next_of, IsOrdered, IsOrder}
use Rattle.isle_walks.specs.Sound.{has, LeadsInto, IsSoundAt, Grows}
use Rattle.isle_walks.proofs.ClosedWalks.{or_true, none_distinct}

or_false : (b : Bool) → (b || false) ≡ b
or_false true = refl
or_false false = refl

-- a node that is put after others is among them, and they stay
pub has_last : (nodes : List ℕ) (node : ℕ) → has (nodes ++ node ∷ []) node ≡ true
has_last nodes node = list_any-append (eqb node) nodes (node ∷ []) ∙ ap (λ b. has nodes node || (b || false)) (eq-eqb node node refl) ∙ or_true (has nodes node)

pub has_others : (nodes : List ℕ) (last node : ℕ) → (node ≡ last → ⊥) → has (nodes ++ last ∷ []) node ≡ has nodes node
has_others nodes last node differs = list_any-append (eqb node) nodes (last ∷ []) ∙ by (eqb node last) refl
  where
    by : (b : Bool) → eqb node last ≡ b → (has nodes node || (b || false)) ≡ has nodes node
    by true e = absurd (differs (eqb-true node last e))
    by false e = or_false (has nodes node)

pub grows_by : (nodes : List ℕ) (last : ℕ) → Grows nodes (nodes ++ last ∷ [])
grows_by nodes last node e = list_any-append (eqb node) nodes (last ∷ []) ∙ ap (λ b. b || (eqb node last || false)) e

-- a node whose next ones are in an order may stand after it
ordered_more : (graph : List (List ℕ)) (before order : List ℕ) (node : ℕ) → IsOrdered graph before order → ((next : ℕ) → Contains (next_of graph node) next → Contains order next ⊎ Contains before next) → IsOrdered graph before (order ++ node ∷ [])
ordered_more graph before [] node ordered leads = (λ next c. ⊎_elim (λ inside. absurd (none_contained next inside)) (λ d. d) (leads next c), tt)
ordered_more graph before (first ∷ rest) node ordered leads = (
  ordered.0,
  ordered_more graph (first ∷ before) rest node ordered.1
      (λ next c. ⊎_elim
      (λ inside. ⊎_elim (λ is. inr (subst (Contains (first ∷ before)) is (head_contained first before))) inl (contained_cases first rest next inside))
      (λ d. inr (tail_contained first before next d))
      (leads next c)),
)

pub same_everywhere : {A : Type 0} (n : ℕ) (x : A) (place : ℕ) → slice_index_or (replicate n x) place x ≡ x
same_everywhere n x place = ⊎_elim (λ lt. get_or-replicate n place x x lt)
    (λ le. get_or_past (replicate n x) place x (let long = length-replicate n x in omega arith))
    (cases_lt place n)

-- a search begins with no node done
pub sound_new : (graph : List (List ℕ)) (looked : List ℕ) (done : List Bool) → looked ≡ replicate (length graph) 0 → done ≡ replicate (length graph) false → IsSoundAt graph looked done []
sound_new graph looked done looked_is done_is = record {
  places = ap length looked_is ∙ length-replicate (length graph) 0;
  marks = ap length done_is ∙ length-replicate (length graph) false;
  marked = λ node. ap (λ xs. slice_index_or xs node false) done_is ∙ same_everywhere (length graph) false node;
  within = λ node. let none = none_looked node in omega arith;
  firsts = λ node place lt. let none = none_looked node in absurd (omega arith);
  ordered = tt;
  once = none_distinct;
}
  where
    none_looked : (node : ℕ) → slice_index looked node ≡ 0
    none_looked node = ap (λ xs. slice_index xs node) looked_is ∙ same_everywhere (length graph) 0 node

module _ (graph : List (List ℕ)) (looked : List ℕ) (done : List Bool) (order : List ℕ) (sound : IsSoundAt graph looked done order) where
  -- only nodes that are there are done
  pub done_below : (node : ℕ) → has order node ≡ true → node < length graph
  done_below node e = ⊎_elim (λ lt. lt)
      (λ le. let marks = sound.marks in absurd (true≢false (sym e ∙ sym (sound.marked node) ∙ get_or_past done node false (omega arith))))
      (cases_lt node (length graph))

  -- no more nodes are done than there are
  pub done_few : length order ≤ length graph
  done_few = length-le_from_distinct_below order (length graph) sound.once done_below

  -- nodes are looked at that are done
  pub sound_looked : (node place : ℕ) → node < length graph → place ≤ length (next_of graph node) → ((k : ℕ) → slice_index looked node ≤ k → k < place → slice_index_or done (slice_index (next_of graph node) k) false ≡ true) → IsSoundAt graph (slice_set looked node place) done order
  sound_looked node place there within more = record {
    places = length-set looked node place ∙ sound.places;
    marks = sound.marks;
    marked = sound.marked;
    within = λ other. ⊎_elim
        (λ is. subst (λ n. n ≤ length (next_of graph other)) (sym (at other is)) (subst (λ n. place ≤ length (next_of graph n)) (sym is) within))
        (λ differs. subst (λ n. n ≤ length (next_of graph other)) (sym (get_or-set_other looked node other place 0 differs)) (sound.within other))
        (cases_eq other node);
    firsts = λ other k lt. ⊎_elim
        (λ is. subst (λ n. has order (slice_index (next_of graph n) k) ≡ true) (sym is) (first k (subst (λ n. k < n) (at other is) lt)))
        (λ differs. sound.firsts other k (subst (λ n. k < n) (get_or-set_other looked node other place 0 differs) lt))
        (cases_eq other node);
    ordered = sound.ordered;
    once = sound.once;
  }
    where
      at : (other : ℕ) → other ≡ node → slice_index (slice_set looked node place) other ≡ place
      at other is = ap (λ n. slice_index (slice_set looked node place) n) is ∙ get_or-set_same looked node place 0 (let places = sound.places in omega arith)

      first : (k : ℕ) → k < place → has order (slice_index (next_of graph node) k) ≡ true
      first k lt = ⊎_elim (sound.firsts node k) (λ le. sym (sound.marked (slice_index (next_of graph node) k)) ∙ more k le lt) (cases_lt k (slice_index looked node))

  -- a node is done whose next ones are
  pub sound_closed : (node : ℕ) → node < length graph → has order node ≡ false → LeadsInto graph order node → IsSoundAt graph looked (slice_set done node true) (order ++ node ∷ [])
  sound_closed node there new leads = record {
    places = sound.places;
    marks = length-set done node true ∙ sound.marks;
    marked = λ other. ⊎_elim
        (λ is. subst (λ n. slice_index_or (slice_set done node true) n false ≡ has (order ++ node ∷ []) n) (sym is)
        (get_or-set_same done node true false (let marks = sound.marks in omega arith) ∙ sym (has_last order node)))
        (λ differs. get_or-set_other done node other true false differs ∙ sound.marked other ∙ sym (has_others order node other differs))
        (cases_eq other node);
    within = sound.within;
    firsts = λ other k lt. grows_by order node (slice_index (next_of graph other) k) (sound.firsts other k lt);
    ordered = ordered_more graph [] order node sound.ordered (λ next c. inl (Contains-from_any eqb-true next order (leads next c)));
    once = IsDistinct-push nat_eq_equiv order node sound.once new;
  }

  -- if all nodes are done, they are in order
  pub order_found : ((node : ℕ) → node < length graph → has order node ≡ true) → IsOrder graph order
  order_found all = record {
    ordered = sound.ordered;
    all = λ node lt. Contains-from_any eqb-true node order (all node lt);
    there = λ node c. done_below node (list_any-from_Contains nat_eq_equiv node order c);
    many = le_antisymm done_few (le-length_from_below order (length graph) all);
  }
