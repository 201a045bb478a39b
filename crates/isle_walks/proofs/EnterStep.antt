-- A new node that is put on the path of a search for closed walks, as a part of its own.
use Rattle.std.proofs.Common.{◌≡◌, ◌⊎◌, inl, inr, ⊎_elim, ℕ, ◌+◌, ◌-◌, ◌<◌, ◌≤◌, List, [], ◌∷◌, ◌++◌, length, Bool, refl, sym, ap, ◌∙◌, subst, arith, Contains, slice_index, slice_set, length-set, length-append}
use Rattle.std.proofs.lemmas.Bool.{cases_eq, cases_lt}
use Rattle.std.proofs.lemmas.List.{get_or_push, length_push, get_or_append_left, get_or-append-add, get_or-append_right, get_or_default, get_or-set_same, get_or-set_other}
use Rattle.std.proofs.lemmas.List.Elements.{Contains-append_left, Contains-append_cases, Contains-push, Contains-push_cases, Contains-get_or}
use Rattle.isle_walks.specs.Walks.{next_of, AreNodes}
use Rattle.isle_walks.specs.Ways.{LeadsTo, Reaches}
use Rattle.isle_walks.specs.Parts.{mark_of, IsDone, IsMarked, AreWaiting, AreParted, AreFollowed, BeginsIn, IsBehind, IsAwaited, IsSearchedAt, IsNextAt}
use Rattle.isle_walks.specs.declared.parts.Mark.{Mark}
use Rattle.isle_walks.specs.declared.parts.Mark.TheVariants.{New, Opened, Done}
use Rattle.isle_walks.specs.declared.parts.Part.{Part}
use Rattle.isle_walks.proofs.Reaching.{reaches_first, reaches_on}
use Rattle.isle_walks.proofs.RisingParts.{rising_more, next_reached}

pub opened_not_new : (place : ℕ) → Opened place ≡ New → ⊥
opened_not_new place e = cc

pub opened_not_done : (place : ℕ) (closed : Bool) → Opened place ≡ Done closed → ⊥
opened_not_done place closed e = cc

pub new_not_done : (closed : Bool) → New ≡ Done closed → ⊥
new_not_done closed e = cc

pub same_place : (place other : ℕ) → Opened place ≡ Opened other → place ≡ other
same_place place other e = cc

pub leads_at : (graph : List (List ℕ)) (from to from' to' : ℕ) → from' ≡ from → to' ≡ to → LeadsTo graph from to → LeadsTo graph from' to'
leads_at graph from to from' to' from_is to_is leads = subst (λ a. LeadsTo graph a to') (sym from_is) (subst (LeadsTo graph from) (sym to_is) leads)

-- the marks, of which the node's is new
module _ (graph : List (List ℕ)) (marks marks' : List Mark) (path : List ℕ) (node : ℕ) (there : node < length graph) (marked : IsMarked graph marks path) (new : mark_of marks node ≡ New) (marks_are : marks' ≡ slice_set marks node (Opened (length path))) where
  at_node : (other : ℕ) → other ≡ node → mark_of marks' other ≡ Opened (length path)
  at_node other is = ap (mark_of marks') is ∙ ap (λ ms. mark_of ms node) marks_are ∙ get_or-set_same marks node (Opened (length path)) New (let many = marked.many in omega arith)

  at_other : (other : ℕ) → (other ≡ node → ⊥) → mark_of marks' other ≡ mark_of marks other
  at_other other differs = ap (λ ms. mark_of ms other) marks_are ∙ get_or-set_other marks node other (Opened (length path)) New differs

  done_stays : (other : ℕ) → IsDone marks other → IsDone marks' other
  done_stays other done = (done.0, at_other other (λ is. new_not_done done.0 (sym new ∙ ap (mark_of marks) (sym is) ∙ done.1)) ∙ done.1)

  was_done : (other : ℕ) (closed : Bool) → mark_of marks' other ≡ Done closed → mark_of marks other ≡ Done closed
  was_done other closed e = sym (at_other other (λ is. opened_not_done (length path) closed (sym (at_node other is) ∙ e))) ∙ e

  last_place : (place : ℕ) → length path ≡ place → slice_index (path ++ node ∷ []) place ≡ node
  last_place place is = get_or_push path node 0 place is

  enter_marked : IsMarked graph marks' (path ++ node ∷ [])
  enter_marked = record {
    many = ap length marks_are ∙ length-set marks node (Opened (length path)) ∙ marked.many;
    placed = λ place lt. ⊎_elim
        (λ old. ap (mark_of marks') (get_or_append_left path (node ∷ []) 0 place old)
        ∙ at_other (slice_index path place) (λ is. opened_not_new place (sym (marked.placed place old) ∙ ap (mark_of marks) is ∙ new))
        ∙ marked.placed place old)
        (λ le.
        let long = length_push path node in
        let is : length path ≡ place = omega arith in
        at_node (slice_index (path ++ node ∷ []) place) (last_place place is) ∙ ap Opened is)
        (cases_lt place (length path));
    opened = λ other place e. ⊎_elim
        (λ is.
        let here = same_place (length path) place (sym (at_node other is) ∙ e) in
        let long = length_push path node in
        (omega arith, last_place place here ∙ sym is))
        (λ differs.
        let was = marked.opened other place (sym (at_other other differs) ∙ e) in
        let long = length_push path node in
        let lt = was.0 in
        (omega arith, get_or_append_left path (node ∷ []) 0 place was.0 ∙ was.1))
        (cases_eq other node);
    told = λ other closed e. marked.told other closed (was_done other closed e);
    settled = λ other done next c. done_stays next (marked.settled other (done.0, was_done other done.0 done.1) next c);
  }

  -- what waits
  enter_waits : (before : List ℕ) → AreNodes graph → AreWaiting graph marks (before ++ node ∷ []) → AreWaiting graph marks' (before ++ next_of graph node)
  enter_waits before nodes waits = record {
    known = λ other lt e. ⊎_elim
        (λ is. absurd (opened_not_new (length path) (sym (at_node other is) ∙ e)))
        (λ differs. ⊎_elim (Contains-append_left before (next_of graph node) other) (λ is. absurd (differs (sym is))) (Contains-push_cases before node other (waits.known other lt (sym (at_other other differs) ∙ e))))
        (cases_eq other node);
    there = λ other c. ⊎_elim (λ d. waits.there other (Contains-append_left before (node ∷ []) other d)) (nodes node other) (Contains-append_cases before (next_of graph node) other c);
  }

-- the parts
module _ (graph : List (List ℕ)) (path : List ℕ) (parts : List Part) (before : List ℕ) (node : ℕ) (parted : AreParted graph path parts (before ++ node ∷ [])) (room : (part : Part) → Contains parts part → part.from ≤ length before)
    (own : Part) (begin_is : own.begin ≡ length path) (from_is : own.from ≡ length before)
  where
    kept : (place : ℕ) → place < length path → slice_index (path ++ node ∷ []) place ≡ slice_index path place
    kept place lt = get_or_append_left path (node ∷ []) 0 place lt

    at_last : (place : ℕ) → length path ≤ place → place < length (path ++ node ∷ []) → slice_index (path ++ node ∷ []) place ≡ node
    at_last place le lt = get_or_push path node 0 place (let long = length_push path node in omega arith)

    reaches_node : (place : ℕ) → place < length path → Reaches graph (slice_index path place) node
    reaches_node = next_reached graph path parts before node parted room

    -- the node reaches what now waits for it
    from_node : (place : ℕ) → length before ≤ place → place < length (before ++ next_of graph node) → Reaches graph node (slice_index (before ++ next_of graph node) place)
    from_node place le lt =
        let long = length-append before (next_of graph node) in
        let leads = subst (Contains (next_of graph node)) (sym (get_or-append_right before (next_of graph node) (length before) place 0 refl le)) (Contains-get_or (next_of graph node) (place - length before) 0 (omega arith)) in
        reaches_first graph node (slice_index (before ++ next_of graph node) place) (slice_index (before ++ next_of graph node) place) leads (inl refl)

    enter_linked : (from to : ℕ) → from < length (path ++ node ∷ []) → to < length (path ++ node ∷ []) → (from < length path) ⊎ (length path ≤ from) → (to < length path) ⊎ (length path ≤ to) → LeadsTo graph (slice_index (path ++ node ∷ []) from) (slice_index (path ++ node ∷ []) to) ⊎ BeginsIn (parts ++ own ∷ []) to from
    enter_linked from to from_lt to_lt (inl from_old) (inl to_old) = ⊎_elim
        (λ leads. inl (leads_at graph (slice_index path from) (slice_index path to) (slice_index (path ++ node ∷ []) from) (slice_index (path ++ node ∷ []) to) (kept from from_old) (kept to to_old) leads))
        (λ begins. inr (begins.0, Contains-append_left parts (own ∷ []) begins.0 begins.1, begins.2, begins.3))
        (parted.linked from to from_old to_old)
    enter_linked from to from_lt to_lt (inl from_old) (inr to_new) = inl (leads_at graph (slice_index path from) node (slice_index (path ++ node ∷ []) from) (slice_index (path ++ node ∷ []) to) (kept from from_old) (at_last to to_new to_lt) (inr (reaches_node from from_old)))
    enter_linked from to from_lt to_lt (inr from_new) (inl to_old) = inr (own, Contains-push parts own, omega arith, omega arith)
    enter_linked from to from_lt to_lt (inr from_new) (inr to_new) = inl (inl (at_last from from_new from_lt ∙ sym (at_last to to_new to_lt)))

    enter_reached : (part : Part) → (place : ℕ) → part.from ≤ place → place < length (before ++ next_of graph node) → Contains parts part ⊎ (own ≡ part) → Reaches graph (slice_index (path ++ node ∷ []) part.begin) (slice_index (before ++ next_of graph node) place)
    enter_reached part place from lt (inl old) =
        let within = parted.within part old in
        let long = length_push before node in
        subst (λ a. Reaches graph a (slice_index (before ++ next_of graph node) place)) (sym (kept part.begin within.0))
        (⊎_elim
        (λ waited. subst (Reaches graph (slice_index path part.begin)) (get_or_append_left before (node ∷ []) 0 place waited ∙ sym (get_or_append_left before (next_of graph node) 0 place waited)) (parted.reached part old place from (omega arith)))
        (λ le. reaches_on graph (slice_index path part.begin) node (slice_index (before ++ next_of graph node) place) (reaches_node part.begin within.0) (inr (from_node place le lt)))
        (cases_lt place (length before)))
    enter_reached part place from lt (inr is) =
        let begins = ap (λ (p : Part). p.begin) is in
        let froms = ap (λ (p : Part). p.from) is in
        let long = length_push path node in
        subst (λ a. Reaches graph a (slice_index (before ++ next_of graph node) place)) (sym (at_last part.begin (omega arith) (omega arith))) (from_node place (omega arith) lt)

    enter_within : (part : Part) → Contains parts part ⊎ (own ≡ part) → (part.begin < length (path ++ node ∷ [])) × (part.from ≤ length (before ++ next_of graph node))
    enter_within part (inl old) =
        let within = parted.within part old in
        let from = room part old in
        let long = length_push path node in
        let longer = length-append before (next_of graph node) in
        (omega arith, omega arith)
    enter_within part (inr is) =
        let begins = ap (λ (p : Part). p.begin) is in
        let froms = ap (λ (p : Part). p.from) is in
        let long = length_push path node in
        let longer = length-append before (next_of graph node) in
        (omega arith, omega arith)

    enter_parted : AreParted graph (path ++ node ∷ []) (parts ++ own ∷ []) (before ++ next_of graph node)
    enter_parted = record {
      linked = λ from to from_lt to_lt. enter_linked from to from_lt to_lt (cases_lt from (length path)) (cases_lt to (length path));
      reached = λ part c place from lt. enter_reached part place from lt (Contains-push_cases parts own part c);
      rising = rising_more parts own parted.rising (λ part c. let within = parted.within part c in let from = room part c in (omega arith, omega arith));
      within = λ part c. enter_within part (Contains-push_cases parts own part c);
      covered = λ place lt. ⊎_elim
          (λ old. let part = parted.covered place old in (part.0, Contains-append_left parts (own ∷ []) part.0 part.1, part.2))
          (λ le. (own, Contains-push parts own, omega arith))
          (cases_lt place (length path));
    }

    -- what the nodes of the path lead to
    module _ (marks marks' : List Mark) (stays : (other : ℕ) → IsDone marks other → IsDone marks' other) (place next : ℕ) where
      -- a part that doesn't begin after an old place is old
      old_part : place < length path → (part : Part) → Contains (parts ++ own ∷ []) part → part.begin ≤ place → Contains parts part
      old_part old part c le = ⊎_elim (λ d. d) (λ is. let begins = ap (λ (p : Part). p.begin) is in absurd (omega arith)) (Contains-push_cases parts own part c)

      old_followed : place < length path → IsDone marks next ⊎ (IsBehind path parts place next ⊎ IsAwaited parts (before ++ node ∷ []) place next) → IsDone marks' next ⊎ (IsBehind (path ++ node ∷ []) (parts ++ own ∷ []) place next ⊎ IsAwaited (parts ++ own ∷ []) (before ++ next_of graph node) place next)
      old_followed old (inl done) = inl (stays next done)
      old_followed old (inr (inl behind)) =
          let long = length_push path node in
          let within = behind.1 in
          inr (inl (behind.0, omega arith, kept behind.0 behind.1 ∙ behind.2, λ part c le. behind.3 part (old_part old part c le) le))
      old_followed old (inr (inr awaited)) =
          let long = length_push path node in
          let longer = length_push before node in
          let longest = length-append before (next_of graph node) in
          let within = awaited.1 in
          ⊎_elim
          (λ waits. inr (inr (
            awaited.0,
            omega arith,
            get_or_append_left before (next_of graph node) 0 awaited.0 waits ∙ sym (get_or_append_left before (node ∷ []) 0 awaited.0 waits) ∙ awaited.2,
            λ part c le. awaited.3 part (old_part old part c le) le,
          )))
          (λ past. inr (inl (
            length path,
            omega arith,
            at_last (length path) (omega arith) (omega arith) ∙ sym (get_or_push before node 0 awaited.0 (omega arith)) ∙ awaited.2,
            λ part c le. omega arith,
          )))
          (cases_lt awaited.0 (length before))

      new_followed : length path ≤ place → place < length (path ++ node ∷ []) → Contains (next_of graph node) next → IsAwaited (parts ++ own ∷ []) (before ++ next_of graph node) place next
      new_followed le lt c =
          let longer = length-append before (next_of graph node) in
          let within = c.1 in (
            length before + c.0,
            omega arith,
            get_or-append-add before (next_of graph node) c.0 0 ∙ get_or_default (next_of graph node) c.0 0 next c.1 ∙ c.2,
            λ part d begins. ⊎_elim (λ old. let from = room part old in omega arith) (λ is. let froms = ap (λ (p : Part). p.from) is in omega arith) (Contains-push_cases parts own part d),
          )

    enter_followed : (marks marks' : List Mark) → ((other : ℕ) → IsDone marks other → IsDone marks' other) → AreFollowed graph marks path parts (before ++ node ∷ []) → AreFollowed graph marks' (path ++ node ∷ []) (parts ++ own ∷ []) (before ++ next_of graph node)
    enter_followed marks marks' stays followed place lt next c = ⊎_elim
        (λ old. old_followed marks marks' stays place next old (followed place old next (subst (λ n. Contains (next_of graph n) next) (kept place old) c)))
        (λ le. inr (inr (new_followed marks marks' stays place next le lt (subst (λ n. Contains (next_of graph n) next) (at_last place le lt) c))))
        (cases_lt place (length path))

-- all that is known
pub enter_searched : (graph : List (List ℕ)) (marks marks' : List Mark) (path : List ℕ) (parts : List Part) (before : List ℕ) (node : ℕ) (own : Part)
    → AreNodes graph → IsSearchedAt graph marks path parts (before ++ node ∷ []) → mark_of marks node ≡ New → ((part : Part) → Contains parts part → part.from ≤ length before)
    → marks' ≡ slice_set marks node (Opened (length path)) → own.begin ≡ length path → own.from ≡ length before
    → IsSearchedAt graph marks' (path ++ node ∷ []) (parts ++ own ∷ []) (before ++ next_of graph node)
enter_searched graph marks marks' path parts before node own nodes searched new room marks_are begin_is from_is =
    let there = searched.waits.there node (Contains-push before node) in
    record {
      marked = enter_marked graph marks marks' path node there searched.marked new marks_are;
      waits = enter_waits graph marks marks' path node there searched.marked new marks_are before nodes searched.waits;
      parted = enter_parted graph path parts before node searched.parted room own begin_is from_is;
      followed = enter_followed graph path parts before node searched.parted room own begin_is from_is marks marks' (done_stays graph marks marks' path node there searched.marked new marks_are) searched.followed;
    }

-- the same of the lists that the code makes
pub entered : {graph : List (List ℕ)} {marks : List Mark} {path path' : List ℕ} {parts parts' : List Part} {waiting popped waiting' nexts : List ℕ} {node place : ℕ} {own : Part}
    → AreNodes graph → IsSearchedAt graph marks path parts waiting → (next : IsNextAt parts waiting node) → mark_of marks node ≡ New → place ≡ length path → popped ≡ next.before → own.begin ≡ length path → own.from ≡ length popped
    → path' ≡ path ++ node ∷ [] → parts' ≡ parts ++ own ∷ [] → waiting' ≡ popped ++ nexts → nexts ≡ next_of graph node → IsSearchedAt graph (slice_set marks node (Opened place)) path' parts' waiting'
entered {graph} {marks} {path} {path'} {parts} {parts'} {waiting} {popped} {waiting'} {nexts} {node} {place} {own} nodes searched next new place_is popped_is begin_is from_is path_is parts_are waiting_is nexts_are =
    subst (IsSearchedAt graph (slice_set marks node (Opened place)) path' parts') (sym (waiting_is ∙ ap (λ xs. xs ++ nexts) popped_is ∙ ap (λ xs. next.before ++ xs) nexts_are))
    (subst (λ ps. IsSearchedAt graph (slice_set marks node (Opened place)) path' ps (next.before ++ next_of graph node)) (sym parts_are)
    (subst (λ xs. IsSearchedAt graph (slice_set marks node (Opened place)) xs (parts ++ own ∷ []) (next.before ++ next_of graph node)) (sym path_is)
    (enter_searched graph marks (slice_set marks node (Opened place)) path parts next.before node own nodes (subst (IsSearchedAt graph marks path parts) next.last searched) new next.room (ap (λ p. slice_set marks node (Opened p)) place_is) begin_is (from_is ∙ ap length popped_is))))
