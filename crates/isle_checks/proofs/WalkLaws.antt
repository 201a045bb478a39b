-- Walks of terms are ways through the graph of their rule sets.
use Rattle.std.proofs.Common.{◌≡◌, inl, inr, ⊎_elim, ℕ, zero, suc, ◌<◌, List, [], ◌∷◌, length, Bool, true, false, cond, Option, Some, None, refl, sym, ap, ◌∙◌, subst, arith, true≢false, eq-eqb}
use Rattle.std.specs.Prelude.{slice_get, slice_index_or, IsSomeAnd, Contains, option_to_list, eqb}
use Rattle.std.specs.List.{AllByRecursion, IsDistinct}
use Rattle.std.proofs.lemmas.List.Elements.{All-contains, All-from_recursion, Contains-append_cases, Contains-append_left, Contains-append_right}
use Rattle.isle_core.proofs.Contained.{head_contained, tail_contained, contained_cases, none_contained}
use Rattle.isle_core.specs.declared.TermId.{TermId}
use Rattle.isle_core.specs.declared.rule_sets.Binding.{Binding}
use Rattle.isle_core.specs.declared.rule_sets.Binding.TheVariants as binding
use Rattle.isle_core.specs.declared.rule_sets.RuleSet.{RuleSet}
use Rattle.isle_core.specs.declared.types.Term.{Term}
use Rattle.isle_core.proofs.OptionLaws.{some_same}
use Rattle.isle_walks.specs.Walks.{next_of, reaches, on_closed_walk, AreNodes}
use Rattle.isle_walks.specs.Ways.{Reaches}
use Rattle.isle_walks.proofs.Reaching.{reaches_first, first_step, closed_within}
use Rattle.isle_checks.specs.ClosedWalks.{is_declared, used, used_by, uses_of, Uses, IsWalk, IsOnClosedWalk}
use Rattle.isle_checks.specs.Graph.{IsAt, HasPlace, ArePlaces, places_of, graph_by, ids_of}

-- ---- rule sets and their places

-- a rule set of a list stands at some place
pub set_at : (sets : List (TermId × RuleSet)) (s : TermId × RuleSet) → Contains sets s → (place : ℕ) × (slice_get sets place ≡ Some s)
set_at [] s c = absurd (none_contained s c)
set_at (x ∷ sets) s c = ⊎_elim (λ (e : x ≡ s). (0, ap Some e)) (λ d. let k = set_at sets s d in (suc k.0, k.1)) (contained_cases x sets s c)

-- and one that stands at a place is one of the list
pub at_contained : (sets : List (TermId × RuleSet)) (place : ℕ) (s : TermId × RuleSet) → slice_get sets place ≡ Some s → Contains sets s
at_contained [] place s e = cc
at_contained (x ∷ sets) zero s e = subst (λ y. Contains (x ∷ sets) y) (some_same x s e) (head_contained x sets)
at_contained (x ∷ sets) (suc place) s e = tail_contained x sets s (at_contained sets place s e)

-- the rule set that stands at the place of a term
pub set_there : (sets : List (TermId × RuleSet)) (id place : ℕ) → IsAt sets id place → (s : TermId × RuleSet) × (slice_get sets place ≡ Some s) × (s.0.0 ≡ id)
set_there sets id place h = by (slice_get sets place) refl h
  where
    by : (o : Option (TermId × RuleSet)) → slice_get sets place ≡ o → IsSomeAnd o (λ (s : TermId × RuleSet). s.0.0 ≡ id) → (s : TermId × RuleSet) × (slice_get sets place ≡ Some s) × (s.0.0 ≡ id)
    by None e k = absurd k
    by (Some s) e k = (s, e, k)

id_contained : (sets : List (TermId × RuleSet)) (place : ℕ) (s : TermId × RuleSet) → slice_get sets place ≡ Some s → Contains (ids_of sets) s.0.0
id_contained [] place s e = cc
id_contained (x ∷ sets) zero s e = subst (λ (y : TermId × RuleSet). Contains (ids_of (x ∷ sets)) y.0.0) (some_same x s e) (head_contained x.0.0 (ids_of sets))
id_contained (x ∷ sets) (suc place) s e = tail_contained x.0.0 (ids_of sets) s.0.0 (id_contained sets place s e)

apart_from : (n : ℕ) (ns : List ℕ) (k : ℕ) → AllByRecursion (λ y. eqb n y ≡ false) ns → Contains ns k → n ≡ k → ⊥
apart_from n ns k d c e = true≢false (sym (eq-eqb n k e) ∙ All-contains (λ y. eqb n y ≡ false) ns k (All-from_recursion (λ y. eqb n y ≡ false) ns d) c)

-- no two places are of one term
same_place : (sets : List (TermId × RuleSet)) (i j : ℕ) (s t : TermId × RuleSet) → IsDistinct eqb (ids_of sets) → slice_get sets i ≡ Some s → slice_get sets j ≡ Some t → s.0.0 ≡ t.0.0 → i ≡ j
unfolding IsDistinct
same_place [] i j s t d a b e = cc
same_place (x ∷ sets) zero zero s t d a b e = refl
same_place (x ∷ sets) zero (suc j) s t d a b e = absurd (apart_from x.0.0 (ids_of sets) t.0.0 d.0 (id_contained sets j t b) (ap (λ (y : TermId × RuleSet). y.0.0) (some_same x s a) ∙ e))
same_place (x ∷ sets) (suc i) zero s t d a b e = absurd (apart_from x.0.0 (ids_of sets) s.0.0 d.0 (id_contained sets i s a) (ap (λ (y : TermId × RuleSet). y.0.0) (some_same x t b) ∙ sym e))
same_place (x ∷ sets) (suc i) (suc j) s t d a b e = ap suc (same_place sets i j s t d.1 a b e)

-- no two rule sets are of one term
pub one_place : (sets : List (TermId × RuleSet)) (i j : ℕ) (s t : TermId × RuleSet) → IsDistinct eqb (ids_of sets) → slice_get sets i ≡ Some s → slice_get sets j ≡ Some t → s.0.0 ≡ t.0.0 → s ≡ t
one_place sets i j s t d a b e = some_same s t (sym a ∙ ap (slice_get sets) (same_place sets i j s t d a b e) ∙ b)

-- ---- the uses of a rule set

used_declared : (terms : List Term) (id other : TermId) → Contains (used terms id) other → is_declared (slice_get terms other.0) ≡ true
used_declared terms id other c = by (is_declared (slice_get terms id.0)) refl c
  where
    by : (b : Bool) → is_declared (slice_get terms id.0) ≡ b → Contains (cond b (id ∷ []) []) other → is_declared (slice_get terms other.0) ≡ true
    by true e k = ⊎_elim (λ (is : id ≡ other). subst (λ (x : TermId). is_declared (slice_get terms x.0) ≡ true) is e) (λ d. absurd (none_contained other d)) (contained_cases id [] other k)
    by false e k = absurd (none_contained other k)

by_declared : (terms : List Term) (b : Binding) (other : TermId) → Contains (used_by terms b) other → is_declared (slice_get terms other.0) ≡ true
by_declared terms (binding.Constructor term parameters instance) other c = used_declared terms term other c
by_declared terms (binding.Extractor term parameter) other c = used_declared terms term other c
by_declared terms (binding.ConstBool val ty) other c = absurd (none_contained other c)
by_declared terms (binding.ConstInt val ty) other c = absurd (none_contained other c)
by_declared terms (binding.ConstPrim val) other c = absurd (none_contained other c)
by_declared terms (binding.Argument index) other c = absurd (none_contained other c)
by_declared terms (binding.Iterator source) other c = absurd (none_contained other c)
by_declared terms (binding.MakeVariant ty variant fields) other c = absurd (none_contained other c)
by_declared terms (binding.MakeStruct ty fields) other c = absurd (none_contained other c)
by_declared terms (binding.MatchVariant source variant field) other c = absurd (none_contained other c)
by_declared terms (binding.ExtractStruct source field) other c = absurd (none_contained other c)
by_declared terms (binding.MakeSome inner) other c = absurd (none_contained other c)
by_declared terms (binding.MatchSome source) other c = absurd (none_contained other c)
by_declared terms (binding.MatchTuple source field) other c = absurd (none_contained other c)

-- what bindings use is declared
pub uses_declared : (terms : List Term) (bs : List Binding) (other : TermId) → Contains (uses_of terms bs) other → is_declared (slice_get terms other.0) ≡ true
uses_declared terms [] other c = absurd (none_contained other c)
uses_declared terms (b ∷ bs) other c = ⊎_elim (by_declared terms b other) (uses_declared terms bs other) (Contains-append_cases (used_by terms b) (uses_of terms bs) other c)

declared_below : (terms : List Term) (n : ℕ) → is_declared (slice_get terms n) ≡ true → n < length terms
declared_below [] n e = cc
declared_below (t ∷ terms) zero e = omega arith
declared_below (t ∷ terms) (suc n) e = let l = declared_below terms n e in omega (arith, l)

-- ---- one step

-- the places of terms are those of each
option_contained : (o : Option ℕ) (p : ℕ) → o ≡ Some p → Contains (option_to_list o) p
option_contained None p e = cc
option_contained (Some q) p e = subst (λ x. Contains (q ∷ []) x) (some_same q p e) (head_contained q [])

contained_option : (o : Option ℕ) (p : ℕ) → Contains (option_to_list o) p → o ≡ Some p
contained_option None p c = absurd (none_contained p c)
contained_option (Some q) p c = ⊎_elim (λ (e : q ≡ p). ap Some e) (λ d. absurd (none_contained p d)) (contained_cases q [] p c)

place_contained : (table : List (Option ℕ)) (ids : List TermId) (id : TermId) (p : ℕ) → Contains ids id → slice_index_or table id.0 None ≡ Some p → Contains (places_of table ids) p
place_contained table [] id p c e = absurd (none_contained id c)
place_contained table (x ∷ ids) id p c e = ⊎_elim
    (λ (is : x ≡ id). Contains-append_left (option_to_list (slice_index_or table x.0 None)) (places_of table ids) p (option_contained (slice_index_or table x.0 None) p (ap (λ (y : TermId). slice_index_or table y.0 None) is ∙ e)))
    (λ d. Contains-append_right (option_to_list (slice_index_or table x.0 None)) (places_of table ids) p (place_contained table ids id p d e))
    (contained_cases x ids id c)

contained_place : (table : List (Option ℕ)) (ids : List TermId) (p : ℕ) → Contains (places_of table ids) p → (id : TermId) × Contains ids id × (slice_index_or table id.0 None ≡ Some p)
contained_place table [] p c = absurd (none_contained p c)
contained_place table (x ∷ ids) p c = ⊎_elim
    (λ d. (x, head_contained x ids, contained_option (slice_index_or table x.0 None) p d))
    (λ d. let k = contained_place table ids p d in (k.0, tail_contained x ids k.0 k.1, k.2))
    (Contains-append_cases (option_to_list (slice_index_or table x.0 None)) (places_of table ids) p c)

next_is : (terms : List Term) (table : List (Option ℕ)) (sets : List (TermId × RuleSet)) (i : ℕ) (s : TermId × RuleSet) → slice_get sets i ≡ Some s → next_of (graph_by terms table sets) i ≡ places_of table (uses_of terms s.1.bindings)
next_is terms table [] i s e = cc
next_is terms table (x ∷ sets) zero s e = ap (λ (y : TermId × RuleSet). places_of table (uses_of terms y.1.bindings)) (some_same x s e)
next_is terms table (x ∷ sets) (suc i) s e = next_is terms table sets i s e

none_next : (terms : List Term) (table : List (Option ℕ)) (sets : List (TermId × RuleSet)) (i : ℕ) → slice_get sets i ≡ None → next_of (graph_by terms table sets) i ≡ []
none_next terms table [] i e = refl
none_next terms table (x ∷ sets) zero e = cc
none_next terms table (x ∷ sets) (suc i) e = none_next terms table sets i e

pub long_graph : (terms : List Term) (table : List (Option ℕ)) (sets : List (TermId × RuleSet)) → length (graph_by terms table sets) ≡ length sets
long_graph terms table [] = refl
long_graph terms table (x ∷ sets) = ap suc (long_graph terms table sets)

at_within : (sets : List (TermId × RuleSet)) (i : ℕ) (s : TermId × RuleSet) → slice_get sets i ≡ Some s → i < length sets
at_within [] i s e = cc
at_within (x ∷ sets) zero s e = omega arith
at_within (x ∷ sets) (suc i) s e = let l = at_within sets i s e in omega (arith, l)

numbered : ℕ → TermId
numbered n = record { 0 = n }

same_id : (a b : TermId) → a.0 ≡ b.0 → a ≡ b
unfolding numbered
same_id a b e = ap numbered e

module _ (terms : List Term) (sets : List (TermId × RuleSet)) (table : List (Option ℕ)) (places : ArePlaces (length terms) sets table) (once : IsDistinct eqb (ids_of sets)) where
  abbrev pub graph : List (List ℕ)
  graph = graph_by terms table sets

  -- the table has the place of a used term with a rule set
  placed : (t : TermId × RuleSet) (j : ℕ) → slice_get sets j ≡ Some t → t.0.0 < length terms → slice_index_or table t.0.0 None ≡ Some j
  placed t j at lt = by (slice_index_or table t.0.0 None) refl (places.each t.0.0 lt)
    where
      by : (o : Option ℕ) → slice_index_or table t.0.0 None ≡ o → HasPlace sets t.0.0 o → o ≡ Some j
      by None e none = absurd (none j (subst (λ x. IsSomeAnd x (λ (s : TermId × RuleSet). s.0.0 ≡ t.0.0)) (sym at) refl))
      by (Some p) e h = let k = set_there sets t.0.0 p h in ap Some (same_place sets p j k.0 t once k.1 at k.2)

  -- a use is a step of the graph
  step_of : (i j : ℕ) (s t : TermId × RuleSet) → slice_get sets i ≡ Some s → slice_get sets j ≡ Some t → Contains (uses_of terms s.1.bindings) t.0 → Contains (next_of graph i) j
  step_of i j s t at to c =
      subst (λ ns. Contains ns j) (sym (next_is terms table sets i s at)) (place_contained table (uses_of terms s.1.bindings) t.0 j c (placed t j to (declared_below terms t.0.0 (uses_declared terms s.1.bindings t.0 c))))

  use_of : (i j : ℕ) (s : TermId × RuleSet) → slice_get sets i ≡ Some s → Contains (next_of graph i) j → (t : TermId × RuleSet) × (slice_get sets j ≡ Some t) × Contains (uses_of terms s.1.bindings) t.0
  use_of i j s at c =
      let k = contained_place table (uses_of terms s.1.bindings) j (subst (λ ns. Contains ns j) (next_is terms table sets i s at) c) in
      let lt = declared_below terms k.0.0 (uses_declared terms s.1.bindings k.0 k.1) in
      let h = set_there sets k.0.0 j (subst (HasPlace sets k.0.0) k.2 (places.each k.0.0 lt)) in
      (h.0, h.1, subst (Contains (uses_of terms s.1.bindings)) (same_id k.0 h.0.0 (sym h.2)) k.1)

  -- a step leads to a rule set that is there
  pub leads_within : AreNodes graph
  leads_within i j c = by (slice_get sets i) refl
    where
      by : (o : Option (TermId × RuleSet)) → slice_get sets i ≡ o → j < length graph
      by None e = absurd (none_contained j (subst (λ ns. Contains ns j) (none_next terms table sets i e) c))
      by (Some s) e = let k = use_of i j s e c in subst (λ n. j < n) (sym (long_graph terms table sets)) (at_within sets j k.0 k.1)

  -- ---- walks

  -- the rule set of a listed term is the one at its place
  its_set : (i : ℕ) (s : TermId × RuleSet) (set : RuleSet) → slice_get sets i ≡ Some s → Contains sets (s.0, set) → set ≡ s.1
  its_set i s set at c = let k = set_at sets (s.0, set) c in ap (λ (x : TermId × RuleSet). x.1) (one_place sets k.0 i (s.0, set) s once k.1 at refl)

  way_of : (i j : ℕ) (s t : TermId × RuleSet) (between : List TermId) → slice_get sets i ≡ Some s → slice_get sets j ≡ Some t → IsWalk terms sets s.0 between t.0 → Reaches graph i j
  way_of i j s t [] at to walk =
      reaches_first graph i j j (step_of i j s t at to (subst (λ (x : RuleSet). Contains (uses_of terms x.bindings) t.0) (its_set i s walk.0 at walk.1) walk.2)) (inl refl)
  way_of i j s t (next ∷ rest) at to walk =
      let first = walk.0 in
      let there = set_at sets (next, first.3.0) first.3.1 in
      reaches_first graph i there.0 j (step_of i there.0 s (next, first.3.0) at there.1 (subst (λ (x : RuleSet). Contains (uses_of terms x.bindings) next) (its_set i s first.0 at first.1) first.2)) (inr (way_of there.0 j (next, first.3.0) t rest there.1 to walk.1))

  walk_of : (steps i j : ℕ) (s t : TermId × RuleSet) → slice_get sets i ≡ Some s → slice_get sets j ≡ Some t → reaches graph steps i j ≡ true → (between : List TermId) × IsWalk terms sets s.0 between t.0
  walk_of zero i j s t at to e = absurd (true≢false (sym e))
  walk_of (suc steps) i j s t at to e =
      let first = first_step graph steps i j e in
      let mid = use_of i first.0 s at first.1 in
      let uses : Uses terms sets s.0 mid.0.0 = (s.1, at_contained sets i s at, mid.2, (mid.0.1, at_contained sets first.0 mid.0 mid.1)) in
      ⊎_elim
      (λ is. ([], subst (λ (x : TermId × RuleSet). Uses terms sets s.0 x.0) (some_same mid.0 t (sym mid.1 ∙ ap (slice_get sets) is ∙ to)) uses))
      (λ more. let rest = walk_of steps first.0 j mid.0 t mid.1 to more in (mid.0.0 ∷ rest.0, (uses, rest.1)))
      first.2

  -- a rule set's place is on a closed walk exactly if its term is
  pub closed_term : (i : ℕ) (s : TermId × RuleSet) → slice_get sets i ≡ Some s → on_closed_walk graph i ≡ true → IsOnClosedWalk terms sets s.0
  closed_term i s at e = walk_of (length graph) i i s s at at e

  pub term_closed : (i : ℕ) (s : TermId × RuleSet) → slice_get sets i ≡ Some s → IsOnClosedWalk terms sets s.0 → on_closed_walk graph i ≡ true
  term_closed i s at walk = let way = way_of i i s s walk.0 at at walk.1 in closed_within graph i way.0 leads_within way.1
