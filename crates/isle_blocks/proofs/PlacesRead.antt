-- The places of the paths that rules read.
use Rattle.std.proofs.Common.{◌≡◌, ⊎_elim, ℕ, suc, ◌<◌, List, [], ◌∷◌, length, get_or, take, Bool, true, false, cond, Option, Some, map, refl, sym, ap, ◌∙◌, subst, arith}
use Rattle.std.specs.Prelude.{slice_get, Contains}
use Rattle.std.specs.List.{AllByRecursion}
use Rattle.std.proofs.lemmas.Option.{slice_get_within}
use Rattle.isle_core.specs.declared.BindingId.{BindingId}
use Rattle.isle_core.specs.declared.rule_sets.Binding.{Binding}
use Rattle.isle_core.specs.declared.rule_sets.Binding.TheVariants as binding
use Rattle.isle_core.specs.Path.{Path, Nowhere, at, at_all, path_over, paths_of}
use Rattle.isle_core.specs.SamePath.{same_path}
use Rattle.isle_core.specs.StandsFor.{EachOnce}
use Rattle.isle_core.proofs.BindingPaths.{IsThere, at_before, contains_at, paths_count, place_once, taken}
use Rattle.isle_core.proofs.Contained.{head_contained, tail_contained, contained_cases, none_contained}
use Rattle.isle_core.proofs.RulePairs.{all_at}
use Rattle.isle_core.proofs.SamePathLaws.{same_sound, same_self}
use Rattle.isle_blocks.specs.Needed.{list_parts, parts_of}
use Rattle.isle_blocks.specs.RuleReads.{AllAmong, IsOver}
use Rattle.isle_blocks.proofs.MappedLists.{map_has}
use Rattle.isle_blocks.proofs.NeedsAsked.{IsClosed}

-- ---- the place of a path

-- where a path first stands, or how many there are
abbrev pub place : List Path → Path → ℕ
place [] p = 0
place (q ∷ ps) p = cond (same_path q p) 0 (suc (place ps p))

-- the places of paths
abbrev pub places : List Path → List Path → List ℕ
places ps l = map (place ps) l

-- a path that stands somewhere is at its place
place_has : (ps : List Path) (p : Path) → Contains ps p → get_or ps (place ps p) Nowhere ≡ p
place_has [] p c = absurd (none_contained p c)
place_has (q ∷ ps) p c = pick (same_path q p) refl (place_has ps p)
  where
    pick : (b : Bool) → same_path q p ≡ b → (Contains ps p → get_or ps (place ps p) Nowhere ≡ p) → get_or (q ∷ ps) (cond b 0 (suc (place ps p))) Nowhere ≡ p
    pick true e rest = same_sound q p e
    pick false e rest = ⊎_elim (λ (same : q ≡ p). let bad = sym (subst (λ x. same_path q x ≡ true) same (same_self q)) ∙ e in absurd cc) rest (contained_cases q ps p c)

-- what is within is a place of its path
place_found : (ps : List Path) (p : Path) → place ps p < length ps → get_or ps (place ps p) Nowhere ≡ p
place_found [] p lt = absurd (omega (arith, lt))
place_found (q ∷ ps) p lt = pick (same_path q p) refl (place_found ps p) lt
  where
    pick : (b : Bool) → same_path q p ≡ b → (place ps p < length ps → get_or ps (place ps p) Nowhere ≡ p) → cond b 0 (suc (place ps p)) < length (q ∷ ps) → get_or (q ∷ ps) (cond b 0 (suc (place ps p))) Nowhere ≡ p
    pick true e rest lt' = same_sound q p e
    pick false e rest lt' = rest (omega (arith, lt'))

-- a path has one place
place_is : (ps : List Path) (i : ℕ) (p : Path) → EachOnce ps → IsThere p → get_or ps i Nowhere ≡ p → place ps p ≡ i
place_is ps i p once h e =
    let there = place_has ps p (contains_at ps i p h e) in
    sym (place_once ps i (place ps p) once (subst IsThere (sym e) h) (e ∙ sym there))

-- ---- lists of places

of_path : (ps l : List Path) (n : ℕ) → Contains (places ps l) n → (p : Path) × Contains l p × (place ps p ≡ n)
of_path ps [] n c = absurd (none_contained n c)
of_path ps (q ∷ l) n c = ⊎_elim
    (λ (same : place ps q ≡ n). (q, head_contained q l, same))
    (λ d. let r = of_path ps l n d in (r.0, tail_contained q l r.0 r.1, r.2)) (contained_cases (place ps q) (places ps l) n c)

-- what the list has is somewhere
over_there : (l : List Path) (p : Path) → IsOver l p → IsThere p
over_there l Nowhere h = h
over_there l p h = tt

module _ (bs : List Binding) (l : List Path) (once : EachOnce (paths_of bs)) (over : AllByRecursion (IsOver l) l) where
  there : (p : Path) → Contains l p → IsThere p
  there p c = over_there l p (all_at (IsOver l) l p over c)

  -- a binding whose path the list has is at one of its places
  pub at_place : (b : BindingId) → Contains l (at (paths_of bs) b) → Contains (places (paths_of bs) l) b.0
  at_place b c = subst (Contains (places (paths_of bs) l)) (place_is (paths_of bs) b.0 (at (paths_of bs) b) once (there (at (paths_of bs) b) c) refl) (map_has (place (paths_of bs)) l (at (paths_of bs) b) c)

  -- so are those of paths
  pub all_places : (qs : List BindingId) → AllAmong l (at_all (paths_of bs) qs) → AllByRecursion (λ (q : BindingId). Contains (places (paths_of bs) l) q.0) qs
  all_places [] h = tt
  all_places (q ∷ qs) h = (at_place q h.0, all_places qs h.1)

  -- ---- what a binding is made over

  -- what a binding at a place of the list is made over is there, too
  path_there : (b : BindingId) (x : Binding) → slice_get bs b.0 ≡ Some x → Contains (places (paths_of bs) l) b.0 → IsOver l (path_over (take b.0 (paths_of bs)) x)
  path_there b x e c =
      let p = of_path (paths_of bs) l b.0 c in
      let low = slice_get_within bs b.0 x e in
      let count = paths_count bs in
      let same = p.2 in
      let found = place_found (paths_of bs) p.0 (omega (arith, low, count, same)) in
      let is : at (paths_of bs) b ≡ p.0 = ap (λ n. get_or (paths_of bs) n Nowhere) (sym p.2) ∙ found in
      subst (IsOver l) (sym is ∙ at_before bs b x e) (all_at (IsOver l) l p.0 over p.1)

  -- one that stands before another
  abbrev StandsBefore : BindingId → BindingId → Type 0
  StandsBefore b q = Contains (places (paths_of bs) l) q.0 × (q.0 < b.0)

  before_at : (b q : BindingId) → Contains l (at (take b.0 (paths_of bs)) q) → StandsBefore b q
  before_at b q c =
      let t = taken (paths_of bs) b.0 q.0 (there (at (take b.0 (paths_of bs)) q) c) in
      (at_place q (subst (Contains l) t.1 c), t.0)

  all_before : (b : BindingId) (qs : List BindingId) → AllAmong l (at_all (take b.0 (paths_of bs)) qs) → AllByRecursion (StandsBefore b) qs
  all_before b [] h = tt
  all_before b (q ∷ qs) h = (before_at b q h.0, all_before b qs h.1)

  later : (a b : BindingId) (qs : List BindingId) → a.0 < b.0 → AllByRecursion (StandsBefore a) qs → AllByRecursion (StandsBefore b) qs
  later a b [] lt h = tt
  later a b (q ∷ qs) lt h = let low = h.0.1 in ((h.0.0, omega (arith, low, lt)), later a b qs lt h.1)

  same_parts : (xs ys : List BindingId) → Some xs ≡ Some ys → xs ≡ ys
  same_parts xs ys e = cc

  -- what a list is made over
  list_before_it : (b : BindingId) (o : Option Binding) (parts : List BindingId) → slice_get bs b.0 ≡ o → Contains (places (paths_of bs) l) b.0 → list_parts o ≡ Some parts → AllByRecursion (StandsBefore b) parts
  list_before_it b (Some (binding.Constructor term parameters instance)) parts e c h = subst (AllByRecursion (StandsBefore b)) (same_parts parameters parts h) (all_before b parameters (path_there b (binding.Constructor term parameters instance) e c))
  list_before_it b (Some (binding.Extractor term parameter)) parts e c h = subst (AllByRecursion (StandsBefore b)) (same_parts (parameter ∷ []) parts h) (before_at b parameter (path_there b (binding.Extractor term parameter) e c), tt)
  list_before_it b o parts e c h = cc

  -- what any binding is
  parts_before : (b : BindingId) (o : Option Binding) (parts : List BindingId) → slice_get bs b.0 ≡ o → Contains (places (paths_of bs) l) b.0 → parts_of bs o ≡ Some parts → AllByRecursion (StandsBefore b) parts
  parts_before b (Some (binding.Constructor term parameters instance)) parts e c h = subst (AllByRecursion (StandsBefore b)) (same_parts parameters parts h) (all_before b parameters (path_there b (binding.Constructor term parameters instance) e c))
  parts_before b (Some (binding.Extractor term parameter)) parts e c h = subst (AllByRecursion (StandsBefore b)) (same_parts (parameter ∷ []) parts h) (before_at b parameter (path_there b (binding.Extractor term parameter) e c), tt)
  parts_before b (Some (binding.MakeVariant ty variant fields)) parts e c h = subst (AllByRecursion (StandsBefore b)) (same_parts fields parts h) (all_before b fields (path_there b (binding.MakeVariant ty variant fields) e c))
  parts_before b (Some (binding.MakeStruct ty [])) parts e c h = cc
  parts_before b (Some (binding.MakeStruct ty (f ∷ fields))) parts e c h = subst (AllByRecursion (StandsBefore b)) (same_parts (f ∷ fields) parts h) (all_before b (f ∷ fields) (path_there b (binding.MakeStruct ty (f ∷ fields)) e c))
  parts_before b (Some (binding.MatchTuple source field)) parts e c h = subst (AllByRecursion (StandsBefore b)) (same_parts (source ∷ []) parts h) (before_at b source (path_there b (binding.MatchTuple source field) e c), tt)
  parts_before b (Some (binding.Iterator source)) parts e c h =
      let list = before_at b source (path_there b (binding.Iterator source) e c) in
      later source b parts list.1 (list_before_it source (slice_get bs source.0) parts refl list.0 h)
  parts_before b o parts e c h = cc

  pub places_closed : IsClosed bs (places (paths_of bs) l)
  places_closed = record {
    parts = λ b parts c h. parts_before b (slice_get bs b.0) parts refl c h;
    lists = λ b source c e. (before_at b source (path_there b (binding.Iterator source) e c)).1;
  }
