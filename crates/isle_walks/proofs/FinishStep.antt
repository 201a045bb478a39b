-- The last part of a path, which no node waits for any more, ends: its nodes are done.
use Rattle.std.proofs.Common.{◌≡◌, ◌≢◌, ◌⊎◌, inl, inr, ⊎_elim, ℕ, ◌+◌, ◌-◌, ◌<◌, List, [], ◌∷◌, ◌++◌, length, Bool, true, sym, ap, ◌∙◌, subst, arith, Contains, slice_index, take, drop, sum_by, get_or-take, length-drop}
use Rattle.std.proofs.lemmas.Bool.{cases_lt}
use Rattle.std.proofs.lemmas.List.{length-take-le, length_push, get_or_past, take_all}
use Rattle.std.proofs.lemmas.List.Elements.{Contains-append_left, Contains-push}
use Rattle.isle_walks.specs.Walks.{next_of, on_closed_walk, AreNodes}
use Rattle.isle_walks.specs.Ways.{LeadsTo, Reaches}
use Rattle.isle_walks.specs.Sound.{has}
use Rattle.isle_walks.specs.Parts.{mark_of, IsDone, IsMarked, AreWaiting, AreParted, AreFollowed, BeginsIn, IsBehind, IsAwaited, IsSearchedAt, IsIdleAt, left_at}
use Rattle.isle_walks.specs.declared.parts.Mark.{Mark}
use Rattle.isle_walks.specs.declared.parts.Mark.TheVariants.{New, Done}
use Rattle.isle_walks.specs.declared.parts.Part.{Part}
use Rattle.isle_walks.proofs.RisingParts.{rising_less, before_last, among_rest}
use Rattle.isle_walks.proofs.EnterStep.{opened_not_new, opened_not_done, new_not_done, leads_at}
use Rattle.isle_walks.proofs.WorkLeft.{no_more}
use Rattle.isle_walks.proofs.ClosedParts.{begins, in_end, place_of, end_cases, place_once, not_done, goes, told_closed}

same_truth : (closed other : Bool) → Done closed ≡ Done other → closed ≡ other
same_truth closed other e = cc

module _ (graph : List (List ℕ)) (marks marks' : List Mark) (path : List ℕ) (rest : List Part) (last : Part) (waiting : List ℕ) (searched : IsSearchedAt graph marks path (rest ++ last ∷ []) waiting) (none : length waiting ≡ last.from)
    (ended : List ℕ) (ended_is : ended ≡ drop last.begin path) (closed : Bool)
    (marked : (node : ℕ) → Contains ended node → mark_of marks' node ≡ Done closed) (same : (node : ℕ) → (Contains ended node → ⊥) → mark_of marks' node ≡ mark_of marks node)
  where
    inside : last.begin < length path
    inside = begins graph marks path rest last waiting searched ended ended_is

    kept : (place : ℕ) → place < last.begin → slice_index (take last.begin path) place ≡ slice_index path place
    kept place lt = get_or-take last.begin path place 0 lt

    kept_many : length (take last.begin path) ≡ last.begin
    kept_many = length-take-le last.begin path (let within = inside in omega arith)

    stays : (part : Part) → Contains rest part → Contains (rest ++ last ∷ []) part
    stays part c = Contains-append_left rest (last ∷ []) part c

    done_stays : (node : ℕ) → IsDone marks node → IsDone marks' node
    done_stays node done = (done.0, same node (λ c. not_done graph marks path rest last waiting searched ended ended_is node c done) ∙ done.1)

    -- a node that is marked as not done is as it was
    not_ended : (node : ℕ) → (Done closed ≡ mark_of marks' node → ⊥) → Contains ended node → ⊥
    not_ended node differs c = differs (sym (marked node c))

    -- what stands on the path before the part doesn't end
    stands : (place : ℕ) → place < last.begin → Contains ended (slice_index path place) → ⊥
    stands place lt c =
        let at = place_of graph marks path rest last waiting searched ended ended_is (slice_index path place) c in
        let within = inside in
        let le = at.1 in
        let is = place_once graph marks path rest last waiting searched ended ended_is at.0 place at.2 (omega arith) at.3 in
        omega arith

    finish_marked : length marks' ≡ length marks → ((node : ℕ) → Contains ended node → on_closed_walk graph node ≡ closed) → IsMarked graph marks' (take last.begin path)
    finish_marked many told = record {
      many = many ∙ searched.marked.many;
      placed = λ place lt.
          let long = kept_many in
          let within = inside in
          let before : place < last.begin = omega arith in
          ap (mark_of marks') (kept place before) ∙ same (slice_index path place) (stands place before) ∙ searched.marked.placed place (omega arith);
      opened = λ node place e.
          let outside = not_ended node (λ d. opened_not_done place closed (sym e ∙ sym d)) in
          let was = searched.marked.opened node place (sym (same node outside) ∙ e) in
          let long = kept_many in
          ⊎_elim
          (λ before. (omega arith, kept place before ∙ was.1))
          (λ le. absurd (outside (subst (Contains ended) was.1 (in_end graph marks path rest last waiting searched ended ended_is place le was.0))))
          (cases_lt place last.begin);
      told = λ node truth e. ⊎_elim
          (λ c. told node c ∙ same_truth closed truth (sym (marked node c) ∙ e))
          (λ outside. searched.marked.told node truth (sym (same node outside) ∙ e))
          (end_cases graph marks path rest last waiting searched ended ended_is node);
      settled = λ node done next leads. ⊎_elim
          (λ c. ⊎_elim (done_stays next) (λ d. (closed, marked next d)) (goes graph marks path rest last waiting searched ended ended_is none node c next leads))
          (λ outside. done_stays next (searched.marked.settled node (done.0, sym (same node outside) ∙ done.1) next leads))
          (end_cases graph marks path rest last waiting searched ended ended_is node);
    }

    finish_waits : AreWaiting graph marks' waiting
    finish_waits = record {
      known = λ node lt e.
          let outside = not_ended node (λ d. new_not_done closed (sym e ∙ sym d)) in
          searched.waits.known node lt (sym (same node outside) ∙ e);
      there = searched.waits.there;
    }

    finish_linked : (from to : ℕ) → from < last.begin → to < last.begin → LeadsTo graph (slice_index (take last.begin path) from) (slice_index (take last.begin path) to) ⊎ BeginsIn rest to from
    finish_linked from to from_lt to_lt =
        let within = inside in
        ⊎_elim
        (λ leads. inl (leads_at graph (slice_index path from) (slice_index path to) (slice_index (take last.begin path) from) (slice_index (take last.begin path) to) (kept from from_lt) (kept to to_lt) leads))
        (λ found. let found_begins = found.3 in inr (found.0, among_rest graph path rest last waiting searched.parted found.0 found.1 (omega arith), found.2, found.3))
        (searched.parted.linked from to (omega arith) (omega arith))

    finish_parted : AreParted graph (take last.begin path) rest waiting
    finish_parted = record {
      linked = λ from to from_lt to_lt. let long = kept_many in finish_linked from to (omega arith) (omega arith);
      reached = λ part c place from lt.
          let before = before_last rest last searched.parted.rising part c in
          subst (λ a. Reaches graph a (slice_index waiting place)) (sym (kept part.begin before.0)) (searched.parted.reached part (stays part c) place from lt);
      rising = rising_less rest last searched.parted.rising;
      within = λ part c.
          let before = before_last rest last searched.parted.rising part c in
          let within = searched.parted.within part (stays part c) in
          let long = kept_many in
          (omega arith, within.1);
      covered = λ place lt.
          let long = kept_many in
          let within = inside in
          let found = searched.parted.covered place (omega arith) in
          let found_begins = found.2 in
          (found.0, among_rest graph path rest last waiting searched.parted found.0 found.1 (omega arith), found.2);
    }

    finish_followed : AreFollowed graph marks' (take last.begin path) rest waiting
    finish_followed place lt next leads =
        let long = kept_many in
        let within = inside in
        let before : place < last.begin = omega arith in
        by (searched.followed place (omega arith) next (subst (λ n. Contains (next_of graph n) next) (kept place before) leads))
      where
        by : IsDone marks next ⊎ (IsBehind path (rest ++ last ∷ []) place next ⊎ IsAwaited (rest ++ last ∷ []) waiting place next) → IsDone marks' next ⊎ (IsBehind (take last.begin path) rest place next ⊎ IsAwaited rest waiting place next)
        by (inl done) = inl (done_stays next done)
        by (inr (inl behind)) = ⊎_elim
            (λ early.
            let long = kept_many in
            inr (inl (behind.0, omega arith, kept behind.0 early ∙ behind.2, λ part d. behind.3 part (stays part d))))
            (λ le. inl (closed, marked next (subst (Contains ended) behind.2 (in_end graph marks path rest last waiting searched ended ended_is behind.0 le behind.1))))
            (cases_lt behind.0 last.begin)
        by (inr (inr awaited)) = inr (inr (awaited.0, awaited.1, awaited.2, λ part d. awaited.3 part (stays part d)))

-- all that is known then
pub finish_searched : (graph : List (List ℕ)) (marks marks' : List Mark) (path : List ℕ) (rest : List Part) (last : Part) (waiting : List ℕ) → AreNodes graph → IsSearchedAt graph marks path (rest ++ last ∷ []) waiting → length waiting ≡ last.from
    → (ended : List ℕ) → ended ≡ drop last.begin path → (closed : Bool) → (length ended ≢ 1 → closed ≡ true) → ((node : ℕ) → ended ≡ node ∷ [] → closed ≡ has (next_of graph node) node)
    → length marks' ≡ length marks → ((node : ℕ) → Contains ended node → mark_of marks' node ≡ Done closed) → ((node : ℕ) → (Contains ended node → ⊥) → mark_of marks' node ≡ mark_of marks node)
    → IsSearchedAt graph marks' (take last.begin path) rest waiting
finish_searched graph marks marks' path rest last waiting nodes searched none ended ended_is closed more one many marked same = record {
  marked = finish_marked graph marks marks' path rest last waiting searched none ended ended_is closed marked same many (told_closed graph marks path rest last waiting searched ended ended_is none nodes closed more one);
  waits = finish_waits graph marks marks' path rest last waiting searched none ended ended_is closed marked same;
  parted = finish_parted graph marks marks' path rest last waiting searched none ended ended_is closed marked same;
  followed = finish_followed graph marks marks' path rest last waiting searched none ended ended_is closed marked same;
}

-- the nodes of a path are there
path_there : (graph : List (List ℕ)) (marks : List Mark) (path : List ℕ) → IsMarked graph marks path → (place : ℕ) → place < length path → slice_index path place < length graph
path_there graph marks path marked place lt = ⊎_elim (λ there. there)
    (λ le. let many = marked.many in absurd (opened_not_new place (sym (marked.placed place lt) ∙ get_or_past marks (slice_index path place) New (omega arith))))
    (cases_lt (slice_index path place) (length graph))

-- the same of the lists that the code makes
module _ (graph : List (List ℕ)) (marks : List Mark) (path : List ℕ) (parts rest : List Part) (last : Part) (waiting : List ℕ) (searched : IsSearchedAt graph marks path parts waiting) (parts_are : parts ≡ rest ++ last ∷ []) (copied : List ℕ) (copied_is : copied ≡ path) where
  of_parts : IsSearchedAt graph marks path (rest ++ last ∷ []) waiting
  of_parts = subst (λ ps. IsSearchedAt graph marks path ps waiting) parts_are searched

  pub begins_within : last.begin < length copied
  begins_within = let long = ap length copied_is in let within = (of_parts.parted.within last (Contains-push rest last)).0 in omega arith

  ended_are : take (length copied - last.begin) (drop last.begin copied) ≡ drop last.begin path
  ended_are = let long = length-drop last.begin copied in take_all (length copied - last.begin) (drop last.begin copied) (omega arith) ∙ ap (drop last.begin) copied_is

  -- the nodes that end are there
  pub ended_there : (node : ℕ) → Contains (take (length copied - last.begin) (drop last.begin copied)) node → node < length graph
  ended_there node c =
      let at = place_of graph marks path rest last waiting of_parts (take (length copied - last.begin) (drop last.begin copied)) ended_are node c in
      subst (λ n. n < length graph) at.3 (path_there graph marks path of_parts.marked at.0 at.2)

  module _ (nodes : AreNodes graph) (idle : IsIdleAt parts waiting) (closed : Bool) (more : length (take (length copied - last.begin) (drop last.begin copied)) ≢ 1 → closed ≡ true)
      (one : (node : ℕ) → take (length copied - last.begin) (drop last.begin copied) ≡ node ∷ [] → closed ≡ has (next_of graph node) node) (marks' : List Mark) (many : length marks' ≡ length marks)
      (marked : (node : ℕ) → Contains (take (length copied - last.begin) (drop last.begin copied)) node → mark_of marks' node ≡ Done closed)
      (same : (node : ℕ) → (Contains (take (length copied - last.begin) (drop last.begin copied)) node → ⊥) → mark_of marks' node ≡ mark_of marks node)
    where
      pub finished : (path' : List ℕ) → path' ≡ take last.begin path → IsSearchedAt graph marks' path' rest waiting
      finished path' path_is = subst (λ xs. IsSearchedAt graph marks' xs rest waiting) (sym path_is)
          (finish_searched graph marks marks' path rest last waiting nodes of_parts (idle.some rest last parts_are) (take (length copied - last.begin) (drop last.begin copied)) ended_are closed more one many marked same)

      pub finished_less : left_at graph marks' rest waiting < left_at graph marks parts waiting
      finished_less =
          let fewer = ap length parts_are ∙ length_push rest last in
          let no_new = no_more (sum_by length graph + 1) marks marks' many stays_new in
          omega arith
        where
          stays_new : (node : ℕ) → mark_of marks' node ≡ New → mark_of marks node ≡ New
          stays_new node e = ⊎_elim (λ c. absurd (new_not_done closed (sym e ∙ marked node c))) (λ outside. sym (same node outside) ∙ e)
              (end_cases graph marks path rest last waiting of_parts (take (length copied - last.begin) (drop last.begin copied)) ended_are node)
