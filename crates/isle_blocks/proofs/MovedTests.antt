-- Tests that may be made in one order may be made in another one in which parts are tested after what they are part of.
use Rattle.std.proofs.Common.{◌≡◌, ◌⊎◌, inl, inr, ⊎_elim, ℕ, zero, suc, ◌<◌, ◌≤◌, List, [], ◌∷◌, ◌++◌, map, take, Option, Some, None, refl, sym, ◌∙◌, subst, arith}
use Rattle.std.specs.Prelude.{Contains, slice_get}
use Rattle.std.specs.List.{AllByRecursion}
use Rattle.isle_core.specs.declared.BindingId.{BindingId}
use Rattle.isle_core.specs.declared.rule_sets.Binding.{Binding}
use Rattle.isle_core.specs.declared.rule_sets.Binding.TheVariants as binding
use Rattle.isle_core.specs.declared.rule_sets.Constraint.{Constraint}
use Rattle.isle_core.specs.declared.rule_sets.Constraint.TheVariants as constraint
use Rattle.isle_core.specs.declared.types.Term.{Term}
use Rattle.isle_core.specs.Calling.{Calling, ByTurns, ByCases, NoCall, calling}
use Rattle.isle_core.specs.Path.{Path, Nowhere, Arg, ConstBool, ConstInt, ConstPrim, Extracted, Called, Chosen, MadeVariant, MadeStruct, VariantField, StructField, Wrapped, Inner, Part, Paths, NoPath, APath, at, at_all, path_over, paths_of}
use Rattle.isle_core.specs.Rule.{Environment}
use Rattle.isle_core.specs.RuleSet.{is_test}
use Rattle.isle_core.specs.Serializable.{StandsWithin, StandsCalled, StandsOn, AllStandOn, IsTest, IsTestable, AreTestable}
use Rattle.isle_core.specs.StandsFor.{EachOnce}
use Rattle.isle_core.specs.Tests.{Test, Is}
use Rattle.isle_core.proofs.BindingPaths.{IsThere, at_before, place_once, binding_at, path_there, option_there, taken}
use Rattle.isle_core.proofs.Contained.{head_contained, tail_contained, contained_cases, none_contained}
use Rattle.isle_core.proofs.RulePairs.{all_from, all_at}
use Rattle.isle_core.specs.BindingParts.{over}
use Rattle.isle_blocks.specs.Turns.{turn_at, TurnsRise, rank}
use Rattle.isle_blocks.proofs.LawBound.{came_behind, came_holds, came_from}
use Rattle.isle_blocks.proofs.MappedLists.{map_among}

-- ---- what a path needs

-- of each path on which a test may be needed before this one is read
abbrev mutual
  pub AllWithin : (Path → Type 0) → Path → Type 0
  AllWithin P Nowhere = Unit {0}
  AllWithin P (Arg i) = Unit {0}
  AllWithin P (ConstBool ty b) = Unit {0}
  AllWithin P (ConstInt ty n) = Unit {0}
  AllWithin P (ConstPrim name) = Unit {0}
  AllWithin P (Extracted term p) = AllWithin P p
  AllWithin P (Called term ps instance) = AllWithinEach P ps
  AllWithin P (Chosen p) = AllWithin P p
  AllWithin P (MadeVariant ty variant ps) = AllWithinEach P ps
  AllWithin P (MadeStruct ty ps) = AllWithinEach P ps
  AllWithin P (VariantField variant field p) = P p
  AllWithin P (StructField field p) = P p
  AllWithin P (Wrapped p) = Unit {0}
  AllWithin P (Inner p) = P p
  AllWithin P (Part part p) = AllWithin P p

  pub AllWithinEach : (Path → Type 0) → Paths → Type 0
  AllWithinEach P NoPath = Unit {0}
  AllWithinEach P (APath p ps) = AllWithin P p × AllWithinEach P ps

mutual
  pub within_map : (P Q : Path → Type 0) → ((p : Path) → P p → Q p) → (p : Path) → AllWithin P p → AllWithin Q p
  within_map P Q f Nowhere h = tt
  within_map P Q f (Arg i) h = tt
  within_map P Q f (ConstBool ty b) h = tt
  within_map P Q f (ConstInt ty n) h = tt
  within_map P Q f (ConstPrim name) h = tt
  within_map P Q f (Extracted term p) h = within_map P Q f p h
  within_map P Q f (Called term ps instance) h = within_each P Q f ps h
  within_map P Q f (Chosen p) h = within_map P Q f p h
  within_map P Q f (MadeVariant ty variant ps) h = within_each P Q f ps h
  within_map P Q f (MadeStruct ty ps) h = within_each P Q f ps h
  within_map P Q f (VariantField variant field p) h = f p h
  within_map P Q f (StructField field p) h = f p h
  within_map P Q f (Wrapped p) h = tt
  within_map P Q f (Inner p) h = f p h
  within_map P Q f (Part part p) h = within_map P Q f p h

  within_each : (P Q : Path → Type 0) → ((p : Path) → P p → Q p) → (ps : Paths) → AllWithinEach P ps → AllWithinEach Q ps
  within_each P Q f NoPath h = tt
  within_each P Q f (APath p ps) h = (within_map P Q f p h.0, within_each P Q f ps h.1)

-- what is so of all paths
mutual
  pub within_all : (P : Path → Type 0) → ((p : Path) → P p) → (p : Path) → AllWithin P p
  within_all P f Nowhere = tt
  within_all P f (Arg i) = tt
  within_all P f (ConstBool ty b) = tt
  within_all P f (ConstInt ty n) = tt
  within_all P f (ConstPrim name) = tt
  within_all P f (Extracted term p) = within_all P f p
  within_all P f (Called term ps instance) = each_all P f ps
  within_all P f (Chosen p) = within_all P f p
  within_all P f (MadeVariant ty variant ps) = each_all P f ps
  within_all P f (MadeStruct ty ps) = each_all P f ps
  within_all P f (VariantField variant field p) = f p
  within_all P f (StructField field p) = f p
  within_all P f (Wrapped p) = tt
  within_all P f (Inner p) = f p
  within_all P f (Part part p) = within_all P f p

  each_all : (P : Path → Type 0) → ((p : Path) → P p) → (ps : Paths) → AllWithinEach P ps
  each_all P f NoPath = tt
  each_all P f (APath p ps) = (within_all P f p, each_all P f ps)

-- the tests of a path are among others
abbrev pub AreStill : List Test → List Test → Path → Type 0
AreStill tests more p = (c : Constraint) → Contains tests (Is p c) → Contains more (Is p c)

called_still : (c : Calling) (A B C : Type 0) → (B → C) → StandsCalled c A B → StandsCalled c A C
called_still (ByTurns callee kind) A B C f s = s
called_still (ByCases callee kind) A B C f s = f s
called_still NoCall A B C f s = absurd s

inner_still : (tests more : List Test) (done : List Path) (p : Path) → AreStill tests more p → StandsWithin tests done p → StandsWithin more done p
inner_still tests more done (Called term ps instance) h s = ⊎_elim (λ made. inl made) (λ test. inr (h constraint.Some test)) s
inner_still tests more done (Extracted term p) h s = h constraint.Some s
inner_still tests more done Nowhere h s = tt
inner_still tests more done (Arg i) h s = tt
inner_still tests more done (ConstBool ty b) h s = tt
inner_still tests more done (ConstInt ty n) h s = tt
inner_still tests more done (ConstPrim name) h s = tt
inner_still tests more done (Chosen p) h s = tt
inner_still tests more done (MadeVariant ty variant ps) h s = tt
inner_still tests more done (MadeStruct ty ps) h s = tt
inner_still tests more done (VariantField variant field p) h s = tt
inner_still tests more done (StructField field p) h s = tt
inner_still tests more done (Wrapped p) h s = tt
inner_still tests more done (Inner p) h s = tt
inner_still tests more done (Part part p) h s = tt

-- what may be read after some tests may be read after others among which those are that it needs
mutual
  pub stands_still : (env : Environment) (tests more : List Test) (done : List Path) (p : Path) → AllWithin (AreStill tests more) p → StandsOn env tests done p → StandsOn env more done p
  stands_still env tests more done Nowhere h s = tt
  stands_still env tests more done (Arg i) h s = tt
  stands_still env tests more done (ConstBool ty b) h s = tt
  stands_still env tests more done (ConstInt ty n) h s = tt
  stands_still env tests more done (ConstPrim name) h s = tt
  stands_still env tests more done (Extracted term p) h s = stands_still env tests more done p h s
  stands_still env tests more done (Called term ps instance) h s = called_still (calling env term) (Contains done (Called term ps instance)) (AllStandOn env tests done ps) (AllStandOn env more done ps) (λ each. all_still env tests more done ps h each) s
  stands_still env tests more done (Chosen p) h s = (stands_still env tests more done p h s.0, s.1)
  stands_still env tests more done (MadeVariant ty variant ps) h s = all_still env tests more done ps h s
  stands_still env tests more done (MadeStruct ty ps) h s = all_still env tests more done ps h s
  stands_still env tests more done (VariantField variant field p) h s = (s.0, h (constraint.Variant s.0 variant) s.1)
  stands_still env tests more done (StructField field p) h s = (s.0, h (constraint.Struct s.0) s.1)
  stands_still env tests more done (Wrapped p) h s = tt
  stands_still env tests more done (Inner p) h s = inner_still tests more done p h s
  stands_still env tests more done (Part part p) h s = stands_still env tests more done p h s

  all_still : (env : Environment) (tests more : List Test) (done : List Path) (ps : Paths) → AllWithinEach (AreStill tests more) ps → AllStandOn env tests done ps → AllStandOn env more done ps
  all_still env tests more done NoPath h s = tt
  all_still env tests more done (APath p ps) h s = (stands_still env tests more done p h.0 s.0, all_still env tests more done ps h.1 s.1)

-- ---- more tests

-- if some tests are among others, what may be tested after those may be tested after these
pub testable_more : (env : Environment) (t : Term) (ps : List Path) (tests more : List Test) (c : BindingId × Constraint) → ((x : Test) → Contains tests x → Contains more x) → IsTestable env t ps tests c → IsTestable env t ps more c
testable_more env t ps tests more c h k = record {
  test = k.test;
  stands = stands_still env tests more [] (at ps c.0) (within_all (AreStill tests more) (λ p d i. h (Is p d) i) (at ps c.0)) k.stands;
}

pub either_later : (tests more : List Test) (y : Test) → ((x : Test) → Contains tests x → Contains more x) → (x : Test) → Contains (y ∷ tests) x → Contains (y ∷ more) x
either_later tests more y h x i = ⊎_elim (λ (e : y ≡ x). subst (Contains (y ∷ more)) e (head_contained y more)) (λ j. tail_contained y more x (h x j)) (contained_cases y tests x i)

pub all_testable_more : (env : Environment) (t : Term) (ps : List Path) (tests more : List Test) (cs : List (BindingId × Constraint)) → ((x : Test) → Contains tests x → Contains more x) → AreTestable env t ps tests cs → AreTestable env t ps more cs
all_testable_more env t ps tests more [] h k = tt
all_testable_more env t ps tests more (c ∷ cs) h k =
    (testable_more env t ps tests more c h k.0, all_testable_more env t ps (is_test ps c ∷ tests) (is_test ps c ∷ more) cs (either_later tests more (is_test ps c) h) k.1)

-- ---- tests after one another

testable_first : (env : Environment) (t : Term) (ps : List Path) (before : List Test) (cs ds : List (BindingId × Constraint)) → AreTestable env t ps before (cs ++ ds) → AreTestable env t ps before cs
testable_first env t ps before [] ds h = tt
testable_first env t ps before (c ∷ cs) ds h = (h.0, testable_first env t ps (is_test ps c ∷ before) cs ds h.1)

testable_rest : (env : Environment) (t : Term) (ps : List Path) (before : List Test) (cs ds : List (BindingId × Constraint)) → AreTestable env t ps before (cs ++ ds) → AreTestable env t ps (came_behind before (map (is_test ps) cs)) ds
testable_rest env t ps before [] ds h = h
testable_rest env t ps before (c ∷ cs) ds h = testable_rest env t ps (is_test ps c ∷ before) cs ds h.1

pub testable_both : (env : Environment) (t : Term) (ps : List Path) (before : List Test) (cs ds : List (BindingId × Constraint)) → AreTestable env t ps before cs → AreTestable env t ps (came_behind before (map (is_test ps) cs)) ds → AreTestable env t ps before (cs ++ ds)
testable_both env t ps before [] ds h k = k
testable_both env t ps before (c ∷ cs) ds h k = (h.0, testable_both env t ps (is_test ps c ∷ before) cs ds h.1 k)

-- each may be tested after all of them
each_testable : (env : Environment) (t : Term) (ps : List Path) (before : List Test) (cs : List (BindingId × Constraint)) → AreTestable env t ps before cs → AllByRecursion (IsTestable env t ps (came_behind before (map (is_test ps) cs))) cs
each_testable env t ps before [] h = tt
each_testable env t ps before (c ∷ cs) h = (
  testable_more env t ps before (came_behind (is_test ps c ∷ before) (map (is_test ps) cs)) c (λ x i. came_holds (is_test ps c ∷ before) (map (is_test ps) cs) x (inl (tail_contained (is_test ps c) before x i))) h.0,
  each_testable env t ps (is_test ps c ∷ before) cs h.1,
)

-- ---- ranks

-- none of the others has a smaller rank
abbrev pub RanksFrom : List ℕ → BindingId → List (BindingId × Constraint) → Type 0
RanksFrom turns b cs = AllByRecursion (λ (c : BindingId × Constraint). rank turns b ≤ rank turns c.0) cs

-- each stands after those of smaller ranks
abbrev pub RanksRise : List ℕ → List (BindingId × Constraint) → Type 0
RanksRise turns [] = Unit {0}
RanksRise turns (c ∷ cs) = RanksFrom turns c.0 cs × RanksRise turns cs

-- ---- parts stand after what they are part of

is_there : (P : Type 0) (p : Path) → (p ≡ Nowhere → P) → (IsThere p → P) → P
is_there P Nowhere none there = none refl
is_there P (Arg i) none there = there tt
is_there P (ConstBool ty b) none there = there tt
is_there P (ConstInt ty n) none there = there tt
is_there P (ConstPrim name) none there = there tt
is_there P (Extracted term p) none there = there tt
is_there P (Called term ps instance) none there = there tt
is_there P (Chosen p) none there = there tt
is_there P (MadeVariant ty variant ps) none there = there tt
is_there P (MadeStruct ty ps) none there = there tt
is_there P (VariantField variant field p) none there = there tt
is_there P (StructField field p) none there = there tt
is_there P (Wrapped p) none there = there tt
is_there P (Inner p) none there = there tt
is_there P (Part part p) none there = there tt

module _ (bs : List Binding) (turns : List ℕ) (rise : TurnsRise bs turns) (once : EachOnce (paths_of bs)) where
  abbrev ps : List Path
  ps = paths_of bs

  -- the binding of this path has a smaller number than this one, and no later turn
  abbrev pub IsBefore : ℕ → Path → Type 0
  IsBefore i p = (b : BindingId) → at ps b ≡ p → IsThere p → (b.0 < i) × (turn_at turns b.0 ≤ turn_at turns i)

  part_before : (i : ℕ) (x : Binding) (part : BindingId) → slice_get bs i ≡ Some x → Contains (over x) part → IsBefore i (at (take i ps) part)
  part_before i x part is among b e there =
      let t = taken ps i part.0 there in
      let same : b.0 ≡ part.0 = place_once ps b.0 part.0 once (subst IsThere (sym e) there) (e ∙ t.1) in
      (subst (λ n. n < i) (sym same) t.0, subst (λ n. turn_at turns n ≤ turn_at turns i) (sym same) (rise i x part is among t.0))

  -- so of all within it
  abbrev AllBefore : ℕ → Type 0
  AllBefore n = (b : BindingId) → b.0 < n → AllWithin (IsBefore b.0) (at ps b)

  within_part : (i : ℕ) (x : Binding) (part : BindingId) → AllBefore i → slice_get bs i ≡ Some x → Contains (over x) part → AllWithin (IsBefore i) (at (take i ps) part)
  within_part i x part before is among =
      let p = at (take i ps) part in
      is_there (AllWithin (IsBefore i) p) p
      (λ e. subst (AllWithin (IsBefore i)) (sym e) tt)
      (λ there.
      let t = taken ps i part.0 there in
      let later = rise i x part is among t.0 in
      subst (AllWithin (IsBefore i)) (sym t.1)
      (within_map (IsBefore part.0) (IsBefore i) (λ q h b e k. let r = h b e k in (omega (arith, r.0, t.0), omega (arith, r.1, later))) (at ps part) (before part t.0)))

  within_parts : (i : ℕ) (x : Binding) (parts : List BindingId) → AllBefore i → slice_get bs i ≡ Some x → ((part : BindingId) → Contains parts part → Contains (over x) part) → AllWithinEach (IsBefore i) (at_all (take i ps) parts)
  within_parts i x [] before is among = tt
  within_parts i x (part ∷ parts) before is among =
      (within_part i x part before is (among part (head_contained part parts)), within_parts i x parts before is (λ y c. among y (tail_contained part parts y c)))

  within_over : (i : ℕ) (x : Binding) → AllBefore i → slice_get bs i ≡ Some x → AllWithin (IsBefore i) (path_over (take i ps) x)
  within_over i (binding.ConstBool val ty) before is = tt
  within_over i (binding.ConstInt val ty) before is = tt
  within_over i (binding.ConstPrim val) before is = tt
  within_over i (binding.Argument index) before is = tt
  within_over i (binding.Extractor term parameter) before is = within_part i (binding.Extractor term parameter) parameter before is (head_contained parameter [])
  within_over i (binding.Constructor term parameters instance) before is = within_parts i (binding.Constructor term parameters instance) parameters before is (λ y c. c)
  within_over i (binding.Iterator source) before is = within_part i (binding.Iterator source) source before is (head_contained source [])
  within_over i (binding.MakeVariant ty variant fields) before is = within_parts i (binding.MakeVariant ty variant fields) fields before is (λ y c. c)
  within_over i (binding.MakeStruct ty fields) before is = within_parts i (binding.MakeStruct ty fields) fields before is (λ y c. c)
  within_over i (binding.MatchVariant source variant field) before is = part_before i (binding.MatchVariant source variant field) source is (head_contained source [])
  within_over i (binding.ExtractStruct source field) before is = part_before i (binding.ExtractStruct source field) source is (head_contained source [])
  within_over i (binding.MakeSome inner) before is = tt
  within_over i (binding.MatchSome source) before is = part_before i (binding.MatchSome source) source is (head_contained source [])
  within_over i (binding.MatchTuple source field) before is = within_part i (binding.MatchTuple source field) source before is (head_contained source [])

  some_or_none : (P : Type 0) (o : Option Binding) → (o ≡ None → P) → ((x : Binding) → o ≡ Some x → P) → P
  some_or_none P None none some = none refl
  some_or_none P (Some x) none some = some x refl

  all_before : (n : ℕ) → AllBefore n
  all_before zero b lt = absurd (omega (arith, lt))
  all_before (suc n) b lt =
      some_or_none (AllWithin (IsBefore b.0) (at ps b)) (slice_get bs b.0)
      (λ none. is_there (AllWithin (IsBefore b.0) (at ps b)) (at ps b) (λ e. subst (AllWithin (IsBefore b.0)) (sym e) tt) (λ there. let x = binding_at bs b there in absurd (none_some (slice_get bs b.0) x.0 none x.1)))
      (λ x is. subst (AllWithin (IsBefore b.0)) (sym (at_before bs b x is)) (within_over b.0 x (λ c less. all_before n c (omega (arith, less, lt))) is))
    where
      none_some : (o : Option Binding) (x : Binding) → o ≡ None → o ≡ Some x → ⊥
      none_some o x e k = cc

  -- ---- tests by their ranks

  -- what is a test of these constraints
  record IsOneOf (cs : List (BindingId × Constraint)) (p : Path) (d : Constraint) : Type 0 where
    source : BindingId
    there : Contains cs (source, d)
    path : at ps source ≡ p

  one_of : (cs : List (BindingId × Constraint)) (p : Path) (d : Constraint) → Contains (map (is_test ps) cs) (Is p d) → IsOneOf cs p d
  one_of [] p d i = absurd (none_contained (Is p d) i)
  one_of (c ∷ cs) p d i = ⊎_elim
      (λ (e : Is (at ps c.0) c.1 ≡ Is p d).
      let path : at ps c.0 ≡ p = cc in
      let same : c.1 ≡ d = cc in
      record { source = c.0; there = subst (λ x. Contains (c ∷ cs) (c.0, x)) same (head_contained c cs); path = path })
      (λ j. let r = one_of cs p d j in record { source = r.source; there = tail_contained c cs (r.source, d) r.there; path = r.path })
      (contained_cases (is_test ps c) (map (is_test ps) cs) (Is p d) i)

  test_there : (env : Environment) (t : Term) (p : Path) (d : Constraint) → IsTest env t p d → IsThere p
  test_there env t p constraint.Some h = option_there env t p h.0 h.1
  test_there env t p (constraint.ConstBool val) h = path_there env t p h.ty h.path
  test_there env t p (constraint.ConstInt val of) h = path_there env t p h.ty h.path
  test_there env t p (constraint.ConstPrim val) h = path_there env t p h.ty h.path
  test_there env t p (constraint.Variant of variant) h = path_there env t p h.ty h.path
  test_there env t p (constraint.Struct of) h = path_there env t p h.ty h.path

  rank_less : (b c : BindingId) → b.0 < c.0 → turn_at turns b.0 ≤ turn_at turns c.0 → rank turns c ≤ rank turns b → ⊥
  rank_less b c lt le h = omega (arith, lt, le, h)

  -- those of rising ranks may be made in order, where each may be made after all of them and those made before
  testable_rising : (env : Environment) (t : Term) (all before : List Test) (cs : List (BindingId × Constraint)) → RanksRise turns cs → AllByRecursion (IsTestable env t ps all) cs
      → ((x : Test) → Contains all x → Contains before x ⊎ Contains (map (is_test ps) cs) x) → AreTestable env t ps before cs
  testable_rising env t all before [] rises each left = tt
  testable_rising env t all before (c ∷ cs) rises each left = (
    record { test = each.0.test; stands = stands_still env all before [] (at ps c.0) (within_map (IsBefore c.0.0) (AreStill all before) made (at ps c.0) (all_before (suc c.0.0) c.0 (omega arith))) each.0.stands },
    testable_rising env t all (is_test ps c ∷ before) cs rises.1 each.1 (λ x i. ⊎_elim
        (λ j. inl (tail_contained (is_test ps c) before x j))
        (λ j. ⊎_elim (λ (e : is_test ps c ≡ x). inl (subst (Contains (is_test ps c ∷ before)) e (head_contained (is_test ps c) before))) (λ k. inr k) (contained_cases (is_test ps c) (map (is_test ps) cs) x j))
        (left x i)),
  )
    where
      made : (p : Path) → IsBefore c.0.0 p → AreStill all before p
      made p h d i = ⊎_elim (λ j. j)
          (λ j.
          let one = one_of (c ∷ cs) p d j in
          let there = subst IsThere one.path (test_there env t (at ps one.source) d (all_at (IsTestable env t ps all) (c ∷ cs) (one.source, d) each one.there).test) in
          let less = h one.source one.path there in
          absurd (rank_less one.source c.0 less.0 less.1 (all_at (λ (x : BindingId × Constraint). rank turns c.0 ≤ rank turns x.0) (c ∷ cs) (one.source, d) (omega arith, rises.0) one.there)))
          (left (Is p d) i)

  -- ---- the law

  -- early tests may be put in an order of rising ranks before the others
  pub testable_by_ranks : (env : Environment) (t : Term) (early sorted late : List (BindingId × Constraint)) → RanksRise turns sorted → ((c : BindingId × Constraint) → Contains early c → Contains sorted c) → ((c : BindingId × Constraint) → Contains sorted c → Contains early c)
      → AreTestable env t ps [] (early ++ late) → AreTestable env t ps [] (sorted ++ late)
  testable_by_ranks env t early sorted late rises to from h =
      let all = came_behind [] (map (is_test ps) early) in
      let each = each_testable env t ps [] early (testable_first env t ps [] early late h) in
      testable_both env t ps [] sorted late
      (testable_rising env t all [] sorted rises (all_from (IsTestable env t ps all) sorted (λ c i. all_at (IsTestable env t ps all) early c each (from c i))) (λ x i. inr (map_among (is_test ps) early sorted to x (⊎_elim (λ j. absurd (none_contained x j)) (λ j. j) (came_from [] (map (is_test ps) early) x i)))))
      (all_testable_more env t ps all (came_behind [] (map (is_test ps) sorted)) late
      (λ x i. came_holds [] (map (is_test ps) sorted) x (inr (map_among (is_test ps) early sorted to x (⊎_elim (λ j. absurd (none_contained x j)) (λ j. j) (came_from [] (map (is_test ps) early) x i)))))
      (testable_rest env t ps [] early late h))
