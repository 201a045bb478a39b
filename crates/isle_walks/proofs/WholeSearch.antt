-- How a search for closed walks begins, and what it tells at its end.
use Rattle.std.proofs.Common.{◌≡◌, ℕ, ◌<◌, List, [], length, Bool, refl, sym, ap, ◌∙◌, subst, arith, Contains, map, replicate, option_map, Some, slice_get}
use Rattle.std.specs.List.{range_with_len}
use Rattle.std.proofs.lemmas.List.{length-replicate, length-map}
use Rattle.std.proofs.lemmas.List.FromFn.{length-range_with_len, get_or-range_with_len}
use Rattle.std.proofs.lemmas.Option.{slice_get-map, slice_get-get_or}
use Rattle.isle_core.proofs.Contained.{none_contained}
use Rattle.isle_walks.specs.Walks.{AreClosedTold}
use Rattle.isle_walks.specs.Parts.{mark_of, tells_closed, IsDone, AreAllDone, IsMarked, AreRising, IsSearchedAt, IsIdleAt}
use Rattle.isle_walks.specs.declared.parts.Mark.{Mark}
use Rattle.isle_walks.specs.declared.parts.Mark.TheVariants.{New, Opened, Done}
use Rattle.isle_walks.specs.declared.parts.Part.{Part}
use Rattle.isle_walks.proofs.Orders.{same_everywhere}
use Rattle.isle_walks.proofs.EnterStep.{opened_not_new, new_not_done}

-- a search begins with all nodes new, and all of them wait
module _ (graph : List (List ℕ)) (marks : List Mark) (path : List ℕ) (parts : List Part) (waiting : List ℕ) (marks_are : marks ≡ replicate (length graph) New) (path_is : path ≡ []) (parts_are : parts ≡ []) (waiting_is : waiting ≡ range_with_len 0 (length graph)) where
  all_new : (node : ℕ) → mark_of marks node ≡ New
  all_new node = ap (λ ms. mark_of ms node) marks_are ∙ same_everywhere (length graph) New node

  no_place : (place : ℕ) → place < length path → ⊥
  no_place place lt = let long = ap length path_is in omega arith

  no_part : (part : Part) → Contains parts part → ⊥
  no_part part c = none_contained part (subst (λ ps. Contains ps part) parts_are c)

  none_done : (node : ℕ) → IsDone marks node → ⊥
  none_done node done = new_not_done done.0 (sym (all_new node) ∙ done.1)

  pub new_searched : IsSearchedAt graph marks path parts waiting
  new_searched = record {
    marked = record {
      many = ap length marks_are ∙ length-replicate (length graph) New;
      placed = λ place lt. absurd (no_place place lt);
      opened = λ node place e. absurd (opened_not_new place (sym e ∙ all_new node));
      told = λ node closed e. absurd (none_done node (closed, e));
      settled = λ node done. absurd (none_done node done);
    };
    waits = record {
      known = λ node lt e. subst (λ xs. Contains xs node) (sym waiting_is) (node, (let long = length-range_with_len 0 (length graph) in omega arith), get_or-range_with_len 0 (length graph) node node lt ∙ (omega arith));
      there = λ node c.
          let d = subst (λ xs. Contains xs node) waiting_is c in
          let long = length-range_with_len 0 (length graph) in
          let lt = d.1 in
          let is = sym (get_or-range_with_len 0 (length graph) d.0 node (omega arith)) ∙ d.2 in
          omega arith;
    };
    parted = record {
      linked = λ from to lt. absurd (no_place from lt);
      reached = λ part c. absurd (no_part part c);
      rising = subst AreRising (sym parts_are) tt;
      within = λ part c. absurd (no_part part c);
      covered = λ place lt. absurd (no_place place lt);
    };
    followed = λ place lt. absurd (no_place place lt);
  }

-- a search ends with no part left, and nothing that waits: all nodes are done
pub all_done : (graph : List (List ℕ)) (marks : List Mark) (path : List ℕ) (parts : List Part) (waiting : List ℕ) → IsSearchedAt graph marks path parts waiting → IsIdleAt parts waiting → parts ≡ [] → AreAllDone graph marks
all_done graph marks path parts waiting searched idle none node lt = by (mark_of marks node) refl
  where
    by : (mark : Mark) → mark_of marks node ≡ mark → IsDone marks node
    by New e =
        let empty = idle.none none in
        let c = searched.waits.known node lt e in
        let within = c.1 in
        absurd (omega arith)
    by (Opened place) e =
        let some = searched.parted.covered place (searched.marked.opened node place e).0 in
        absurd (none_contained some.0 (subst (λ ps. Contains ps some.0) none some.1))
    by (Done closed) e = (closed, e)

-- then each mark tells whether its node is on a closed walk
pub all_told : (graph : List (List ℕ)) (marks : List Mark) (path : List ℕ) (closed : List Bool) → IsMarked graph marks path → AreAllDone graph marks → closed ≡ map tells_closed marks → AreClosedTold graph closed
all_told graph marks path closed marked done is = record {
  many = ap length is ∙ length-map marks tells_closed ∙ marked.many;
  told = λ node lt.
      let many = marked.many in
      let at = done node lt in
      ap (λ xs. slice_get xs node) is ∙ slice_get-map tells_closed marks node ∙ ap (option_map tells_closed) (slice_get-get_or marks node New (omega arith)) ∙ ap Some (ap tells_closed at.1 ∙ sym (marked.told node at.0 at.1));
}
