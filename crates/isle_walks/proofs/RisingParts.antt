-- Parts that begin one after the other, and what the last of them tells.
use Rattle.std.proofs.Common.{◌≡◌, ◌⊎◌, inl, inr, ⊎_elim, ℕ, ◌+◌, ◌-◌, ◌<◌, ◌≤◌, List, [], ◌∷◌, ◌++◌, length, take, refl, sym, ap, ◌∙◌, subst, arith, Contains, get_or, slice_index}
use Rattle.std.proofs.lemmas.List.{get_or_push, length_push, take-append-le, take_all, take_more, length-take-le}
use Rattle.std.proofs.lemmas.List.Elements.{Contains-append_left, Contains-push, Contains-push_cases}
use Rattle.isle_core.proofs.Contained.{head_contained, tail_contained, contained_cases, none_contained}
use Rattle.isle_walks.specs.Ways.{LeadsTo, Reaches}
use Rattle.isle_walks.specs.Parts.{IsBefore, AreRising, AreParted, IsLast, IsNextAt}
use Rattle.isle_walks.specs.declared.parts.Part.{Part}
use Rattle.isle_walks.proofs.Reaching.{leads_reach}

-- a list has no items, or a last one
pub last_cases : {X : Type 0} (xs : List X) → (xs ≡ []) ⊎ ((rest : List X) × (last : X) × (xs ≡ rest ++ last ∷ []))
last_cases [] = inl refl
last_cases {X} (x ∷ xs) = ⊎_elim {C = (x ∷ xs ≡ []) ⊎ ((rest : List X) × (last : X) × (x ∷ xs ≡ rest ++ last ∷ []))}
    (λ is. inr ([], x, ap (λ ys. x ∷ ys) is))
    (λ found. inr (x ∷ found.0, found.1, ap (λ ys. x ∷ ys) found.2))
    (last_cases xs)

-- what is left when the last item is taken off
pub front_is : {X : Type 0} (xs before rest : List X) (last : X) (many : ℕ) → xs ≡ before ++ last ∷ [] → many ≡ length xs → rest ≡ take (many - 1) xs → rest ≡ before
front_is xs before rest last many is count taken =
    let long = ap length is ∙ length_push before last in
    taken ∙ ap (take (many - 1)) is ∙ take-append-le (many - 1) before (last ∷ []) (omega arith) ∙ take_all (many - 1) before (omega arith)

-- a part more, after all others
pub rising_more : (parts : List Part) (last : Part) → AreRising parts → ((part : Part) → Contains parts part → IsBefore part last) → AreRising (parts ++ last ∷ [])
rising_more [] last rising before = (λ part c. absurd (none_contained part c), tt)
rising_more (first ∷ rest) last rising before = (
  λ part c. ⊎_elim (rising.0 part) (λ is. subst (IsBefore first) is (before first (head_contained first rest))) (Contains-push_cases rest last part c),
  rising_more rest last rising.1 (λ part c. before part (tail_contained first rest part c)),
)

-- all parts but the last
pub rising_less : (rest : List Part) (last : Part) → AreRising (rest ++ last ∷ []) → AreRising rest
rising_less [] last rising = tt
rising_less (first ∷ rest) last rising = (λ part c. rising.0 part (Contains-append_left rest (last ∷ []) part c), rising_less rest last rising.1)

-- the last part is after all others
pub before_last : (rest : List Part) (last : Part) → AreRising (rest ++ last ∷ []) → (part : Part) → Contains rest part → IsBefore part last
before_last [] last rising part c = absurd (none_contained part c)
before_last (first ∷ rest) last rising part c = ⊎_elim
    (λ is. subst (λ p. IsBefore p last) is (rising.0 last (Contains-push rest last)))
    (before_last rest last rising.1 part)
    (contained_cases first rest part c)

module _ (graph : List (List ℕ)) (path : List ℕ) (rest : List Part) (last : Part) (waiting : List ℕ) (parted : AreParted graph path (rest ++ last ∷ []) waiting) where
  -- no part begins after the last one
  pub at_most : (part : Part) → Contains (rest ++ last ∷ []) part → part.begin ≤ last.begin
  at_most part c = ⊎_elim
      (λ d. let before = before_last rest last parted.rising part d in omega arith)
      (λ is. subst (λ p. p.begin ≤ last.begin) is (omega arith))
      (Contains-push_cases rest last part c)

  -- a part that doesn't begin after the last one's begin is among the others
  pub among_rest : (part : Part) → Contains (rest ++ last ∷ []) part → part.begin < last.begin → Contains rest part
  among_rest part c lt = ⊎_elim (λ d. d) (λ is. let same = ap (λ (p : Part). p.begin) is in absurd (omega arith)) (Contains-push_cases rest last part c)

  -- all nodes of the path lead to those of the last part
  pub to_last : (from to : ℕ) → from < length path → to < length path → last.begin ≤ to → LeadsTo graph (slice_index path from) (slice_index path to)
  to_last from to lt within behind = ⊎_elim (λ leads. leads) (λ found. let most = at_most found.0 found.1 in absurd (omega arith)) (parted.linked from to lt within)

-- all nodes of the path reach the last node that waits
pub next_reached : (graph : List (List ℕ)) (path : List ℕ) (parts : List Part) (before : List ℕ) (node : ℕ) → AreParted graph path parts (before ++ node ∷ []) → ((part : Part) → Contains parts part → part.from ≤ length before) → (place : ℕ) → place < length path → Reaches graph (slice_index path place) node
next_reached graph path parts before node parted room place lt = ⊎_elim
    (λ none. let some = parted.covered place lt in absurd (none_contained some.0 (subst (λ ps. Contains ps some.0) none some.1)))
    (λ some. of_last some.0 some.1
    (subst (λ ps. AreParted graph path ps (before ++ node ∷ [])) some.2 parted)
    (room some.1 (subst (λ ps. Contains ps some.1) (sym some.2) (Contains-push some.0 some.1))))
    (last_cases parts)
  where
    of_last : (rest : List Part) (last : Part) → AreParted graph path (rest ++ last ∷ []) (before ++ node ∷ []) → last.from ≤ length before → Reaches graph (slice_index path place) node
    of_last rest last of from =
        let c = Contains-push rest last in
        let long = length_push before node in
        let begins = (of.within last c).0 in
        leads_reach graph (slice_index path place) (slice_index path last.begin) node (to_last graph path rest last (before ++ node ∷ []) of place last.begin lt begins (omega arith))
        (subst (Reaches graph (slice_index path last.begin)) (get_or_push before node 0 (length before) refl) (of.reached last c (length before) from (omega arith)))

-- if a node waits for the last part, the last node that waits is the next one
module _ (graph : List (List ℕ)) (path : List ℕ) (parts : List Part) (waiting : List ℕ) (last : Part) (many : ℕ) (parted : AreParted graph path parts waiting)
    (none : parts ≡ [] → (last.begin ≡ 0) × (last.from ≡ 0)) (some : IsLast parts last) (count : many ≡ length waiting) (differs : many ≡ last.from → ⊥)
  where
    waits_behind : last.from < many
    waits_behind = ⊎_elim
        (λ nothing. let from = (none nothing).1 in omega arith)
        (λ found.
        let froms = ap (λ (p : Part). p.from) (some found.0 found.1 found.2) in
        let within = (parted.within found.1 (subst (λ ps. Contains ps found.1) (sym found.2) (Contains-push found.0 found.1))).1 in
        omega arith)
        (last_cases parts)

    pub waits_some : 1 ≤ many
    waits_some = let behind = waits_behind in omega arith

    room : (part : Part) → Contains parts part → part.from ≤ many - 1
    room part c = ⊎_elim
        (λ nothing. absurd (none_contained part (subst (λ ps. Contains ps part) nothing c)))
        (λ found. of_last found.0 found.1 (some found.0 found.1 found.2) (subst AreRising found.2 parted.rising) (Contains-push_cases found.0 found.1 part (subst (λ ps. Contains ps part) found.2 c)))
        (last_cases parts)
      where
        of_last : (rest : List Part) (own : Part) → last ≡ own → AreRising (rest ++ own ∷ []) → Contains rest part ⊎ (own ≡ part) → part.from ≤ many - 1
        of_last rest own last_is rising (inl d) =
            let froms = ap (λ (p : Part). p.from) last_is in
            let before = before_last rest own rising part d in
            let behind = waits_behind in
            omega arith
        of_last rest own last_is rising (inr own_is) =
            let froms = ap (λ (p : Part). p.from) (last_is ∙ own_is) in
            let behind = waits_behind in
            omega arith

    pub next_is : (node : ℕ) → node ≡ get_or waiting (many - 1) node → IsNextAt parts waiting node
    next_is node is =
        let behind = waits_behind in
        let short : length (take (many - 1) waiting) ≡ many - 1 = length-take-le (many - 1) waiting (omega arith) in
        record {
          before = take (many - 1) waiting;
          last = sym (take_all (many - 1 + 1) waiting (omega arith)) ∙ take_more waiting (many - 1) node (omega arith) ∙ ap (λ x. take (many - 1) waiting ++ x ∷ []) (sym is);
          room = λ part c. let le = room part c in omega arith;
        }
