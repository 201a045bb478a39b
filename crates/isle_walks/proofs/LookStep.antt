-- The last node that waits, if it is not new: it is looked at, or the last part joins the one before it.
use Rattle.std.proofs.Common.{◌≡◌, ◌⊎◌, inl, inr, ⊎_elim, ℕ, ◌-◌, ◌<◌, ◌≤◌, List, [], ◌∷◌, ◌++◌, length, take, Bool, sym, ap, ◌∙◌, subst, arith, Contains, slice_index}
use Rattle.std.proofs.lemmas.Bool.{cases_lt}
use Rattle.std.proofs.lemmas.List.{get_or_push, length_push, get_or_append_left}
use Rattle.std.proofs.lemmas.List.Elements.{Contains-append_left, Contains-push_cases}
use Rattle.isle_core.proofs.Contained.{none_contained}
use Rattle.isle_walks.specs.Ways.{LeadsTo, Reaches}
use Rattle.isle_walks.specs.Parts.{mark_of, IsDone, AreWaiting, AreParted, AreFollowed, BeginsIn, IsBehind, IsAwaited, IsSearchedAt, IsLast, IsNextAt}
use Rattle.isle_walks.specs.declared.parts.Mark.{Mark}
use Rattle.isle_walks.specs.declared.parts.Mark.TheVariants.{New, Opened, Done}
use Rattle.isle_walks.specs.declared.parts.Part.{Part}
use Rattle.isle_walks.proofs.Reaching.{reaches_on}
use Rattle.isle_walks.proofs.EnterStep.{opened_not_new, new_not_done}
use Rattle.isle_walks.proofs.RisingParts.{last_cases, front_is, rising_less, at_most, among_rest, next_reached}

-- a node that is done, or on the path in the last part, waits no more
module _ (graph : List (List ℕ)) (marks : List Mark) (path : List ℕ) (parts : List Part) (before : List ℕ) (node : ℕ) (searched : IsSearchedAt graph marks path parts (before ++ node ∷ [])) (room : (part : Part) → Contains parts part → part.from ≤ length before) where
  still : (place : ℕ) → place < length before → slice_index (before ++ node ∷ []) place ≡ slice_index before place
  still place lt = get_or_append_left before (node ∷ []) 0 place lt

  look_waits : (mark_of marks node ≡ New → ⊥) → AreWaiting graph marks before
  look_waits looked = record {
    known = λ other lt e. ⊎_elim (λ c. c) (λ is. absurd (looked (ap (mark_of marks) is ∙ e))) (Contains-push_cases before node other (searched.waits.known other lt e));
    there = λ other c. searched.waits.there other (Contains-append_left before (node ∷ []) other c);
  }

  look_parted : AreParted graph path parts before
  look_parted = record {
    linked = searched.parted.linked;
    reached = λ part c place from lt. subst (Reaches graph (slice_index path part.begin)) (still place lt) (searched.parted.reached part c place from (let long = length_push before node in omega arith));
    rising = searched.parted.rising;
    within = λ part c. ((searched.parted.within part c).0, room part c);
    covered = searched.parted.covered;
  }

  look_followed : ((place : ℕ) → place < length path → IsDone marks node ⊎ IsBehind path parts place node) → AreFollowed graph marks path parts before
  look_followed here place lt next c = by (searched.followed place lt next c)
    where
      at_node : node ≡ next → IsDone marks node ⊎ IsBehind path parts place node → IsDone marks next ⊎ (IsBehind path parts place next ⊎ IsAwaited parts before place next)
      at_node is (inl done) = inl (subst (IsDone marks) is done)
      at_node is (inr behind) = inr (inl (subst (IsBehind path parts place) is behind))

      by : IsDone marks next ⊎ (IsBehind path parts place next ⊎ IsAwaited parts (before ++ node ∷ []) place next) → IsDone marks next ⊎ (IsBehind path parts place next ⊎ IsAwaited parts before place next)
      by (inl done) = inl done
      by (inr (inl behind)) = inr (inl behind)
      by (inr (inr awaited)) = ⊎_elim
          (λ waits. inr (inr (awaited.0, waits, sym (still awaited.0 waits) ∙ awaited.2, awaited.3)))
          (λ le.
          let long = length_push before node in
          let within = awaited.1 in
          at_node (sym (get_or_push before node 0 awaited.0 (omega arith)) ∙ awaited.2) (here place lt))
          (cases_lt awaited.0 (length before))

  pub look_searched : (mark_of marks node ≡ New → ⊥) → ((place : ℕ) → place < length path → IsDone marks node ⊎ IsBehind path parts place node) → IsSearchedAt graph marks path parts before
  look_searched looked here = record {
    marked = searched.marked;
    waits = look_waits looked;
    parted = look_parted;
    followed = look_followed here;
  }

  -- a place that no part begins after is in the last part
  pub in_last : (at : ℕ) → at < length path → slice_index path at ≡ node → (last : Part) → IsLast parts last → last.begin ≤ at → (place : ℕ) → place < length path → IsDone marks node ⊎ IsBehind path parts place node
  in_last at lt is last is_last behind place there = inr (at, lt, is, λ part c le. none_behind part c)
    where
      none_behind : (part : Part) → Contains parts part → part.begin ≤ at
      none_behind part c = ⊎_elim
          (λ none. absurd (none_contained part (subst (λ ps. Contains ps part) none c)))
          (λ some.
          let begins = ap (λ (p : Part). p.begin) (is_last some.0 some.1 some.2) in
          let most = at_most graph path some.0 some.1 (before ++ node ∷ []) (subst (λ ps. AreParted graph path ps (before ++ node ∷ [])) some.2 searched.parted) part (subst (λ ps. Contains ps part) some.2 c) in
          omega arith)
          (last_cases parts)

-- a node that is on the path before the last part: that part joins the one before it
module _ (graph : List (List ℕ)) (path : List ℕ) (rest : List Part) (last : Part) (before : List ℕ) (node : ℕ) (parted : AreParted graph path (rest ++ last ∷ []) (before ++ node ∷ [])) (room : (part : Part) → Contains (rest ++ last ∷ []) part → part.from ≤ length before)
    (at : ℕ) (lt : at < length path) (is : slice_index path at ≡ node) (early : at < last.begin)
  where
    among : (part : Part) → Contains (rest ++ last ∷ []) part → part.begin < last.begin → Contains rest part
    among = among_rest graph path rest last (before ++ node ∷ []) parted

    stays : (part : Part) → Contains rest part → Contains (rest ++ last ∷ []) part
    stays part c = Contains-append_left rest (last ∷ []) part c

    join_linked : (from to : ℕ) → from < length path → to < length path → LeadsTo graph (slice_index path from) (slice_index path to) ⊎ BeginsIn rest to from
    join_linked from to from_lt to_lt = ⊎_elim inl (λ found. by found.0 found.2 found.3 (Contains-push_cases rest last found.0 found.1)) (parted.linked from to from_lt to_lt)
      where
        by : (part : Part) → to < part.begin → part.begin ≤ from → Contains rest part ⊎ (last ≡ part) → LeadsTo graph (slice_index path from) (slice_index path to) ⊎ BeginsIn rest to from
        by part behind within (inl kept) = inr (part, kept, behind, within)
        by part behind within (inr last_is) =
            let begins = ap (λ (p : Part). p.begin) last_is in
            let reached = subst (Reaches graph (slice_index path from)) (sym is) (next_reached graph path (rest ++ last ∷ []) before node parted room from from_lt) in
            ⊎_elim
            (λ leads. inl (inr (reaches_on graph (slice_index path from) (slice_index path at) (slice_index path to) reached leads)))
            (λ found.
            let found_begins = found.3 in
            inr (found.0, among found.0 found.1 (omega arith), found.2, omega arith))
            (parted.linked at to lt to_lt)

    join_parted : AreParted graph path rest (before ++ node ∷ [])
    join_parted = record {
      linked = join_linked;
      reached = λ part c. parted.reached part (stays part c);
      rising = rising_less rest last parted.rising;
      within = λ part c. parted.within part (stays part c);
      covered = λ place there.
          let found = parted.covered place there in
          let first = parted.covered at lt in
          let first_begins = first.2 in
          ⊎_elim
          (λ kept. (found.0, kept, found.2))
          (λ last_is.
          let begins = ap (λ (p : Part). p.begin) last_is in
          let found_begins = found.2 in
          (first.0, among first.0 first.1 (omega arith), omega arith))
          (Contains-push_cases rest last found.0 found.1);
    }

    join_followed : (marks : List Mark) → AreFollowed graph marks path (rest ++ last ∷ []) (before ++ node ∷ []) → AreFollowed graph marks path rest (before ++ node ∷ [])
    join_followed marks followed place there next c = by (followed place there next c)
      where
        by : IsDone marks next ⊎ (IsBehind path (rest ++ last ∷ []) place next ⊎ IsAwaited (rest ++ last ∷ []) (before ++ node ∷ []) place next) → IsDone marks next ⊎ (IsBehind path rest place next ⊎ IsAwaited rest (before ++ node ∷ []) place next)
        by (inl done) = inl done
        by (inr (inl behind)) = inr (inl (behind.0, behind.1, behind.2, λ part d. behind.3 part (stays part d)))
        by (inr (inr awaited)) = inr (inr (awaited.0, awaited.1, awaited.2, λ part d. awaited.3 part (stays part d)))

-- all that is known then
pub join_searched : (graph : List (List ℕ)) (marks : List Mark) (path : List ℕ) (rest : List Part) (last : Part) (before : List ℕ) (node : ℕ) → IsSearchedAt graph marks path (rest ++ last ∷ []) (before ++ node ∷ []) → ((part : Part) → Contains (rest ++ last ∷ []) part → part.from ≤ length before)
    → (at : ℕ) → at < length path → slice_index path at ≡ node → at < last.begin → IsSearchedAt graph marks path rest (before ++ node ∷ [])
join_searched graph marks path rest last before node searched room at lt is early = record {
  marked = searched.marked;
  waits = searched.waits;
  parted = join_parted graph path rest last before node searched.parted room at lt is early;
  followed = join_followed graph path rest last before node searched.parted room at lt is early marks searched.followed;
}

-- the same of the lists that the code makes
module _ {graph : List (List ℕ)} {marks : List Mark} {path : List ℕ} {parts : List Part} {waiting : List ℕ} {node : ℕ} (searched : IsSearchedAt graph marks path parts waiting) (next : IsNextAt parts waiting node) where
  here : IsSearchedAt graph marks path parts (next.before ++ node ∷ [])
  here = subst (IsSearchedAt graph marks path parts) next.last searched

  module _ {rest : List ℕ} (many : ℕ) (count : many ≡ length waiting) (rest_is : rest ≡ take (many - 1) waiting) where
    left_is : next.before ≡ rest
    left_is = sym (front_is waiting next.before rest node many next.last count rest_is)

    -- the node is done
    pub done_looked : (closed : Bool) → mark_of marks node ≡ Done closed → IsSearchedAt graph marks path parts rest
    done_looked closed is = subst (IsSearchedAt graph marks path parts) left_is (look_searched graph marks path parts next.before node here next.room (λ e. new_not_done closed (sym e ∙ is)) (λ place lt. inl (closed, is)))

    -- the node is on the path, in the last part
    pub opened_looked : (place : ℕ) (last : Part) → mark_of marks node ≡ Opened place → last.begin ≤ place → IsLast parts last → IsSearchedAt graph marks path parts rest
    opened_looked place last is le is_last =
        let at = searched.marked.opened node place is in
        subst (IsSearchedAt graph marks path parts) left_is
        (look_searched graph marks path parts next.before node here next.room (λ e. opened_not_new place (sym is ∙ e))
        (in_last graph marks path parts next.before node here next.room place at.0 at.1 last is_last le))

  -- the node is on the path before the last part
  module _ (place : ℕ) (last : Part) (is : mark_of marks node ≡ Opened place) (early : place < last.begin) (is_last : IsLast parts last) {rest : List Part} (many : ℕ) (count : many ≡ length parts) (rest_is : rest ≡ take (many - 1) parts) where
    parted_last : (front : List Part) × (own : Part) × (parts ≡ front ++ own ∷ [])
    parted_last = ⊎_elim
        (λ none.
        let at = searched.marked.opened node place is in
        let some = searched.parted.covered place at.0 in
        absurd (none_contained some.0 (subst (λ ps. Contains ps some.0) none some.1)))
        (λ found. found)
        (last_cases parts)

    rest_front : rest ≡ parted_last.0
    rest_front = front_is parts parted_last.0 rest parted_last.1 many parted_last.2 count rest_is

    pub joined : IsSearchedAt graph marks path rest waiting
    joined =
        let at = searched.marked.opened node place is in
        let begins = ap (λ (p : Part). p.begin) (is_last parted_last.0 parted_last.1 parted_last.2) in
        subst (λ ps. IsSearchedAt graph marks path ps waiting) (sym rest_front)
        (subst (IsSearchedAt graph marks path parted_last.0) (sym next.last)
        (join_searched graph marks path parted_last.0 parted_last.1 next.before node (subst (λ ps. IsSearchedAt graph marks path ps (next.before ++ node ∷ [])) parted_last.2 here) (subst (λ ps. (part : Part) → Contains ps part → part.from ≤ length next.before) parted_last.2 next.room)
        place at.0 at.1 (omega arith)))

    pub joined_fewer : length rest < length parts
    joined_fewer =
        let rest_many = ap length rest_front in
        let parts_many = ap length parted_last.2 ∙ length_push parted_last.0 parted_last.1 in
        omega arith
