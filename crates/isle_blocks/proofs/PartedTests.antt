-- The tests of a rule in two parts: those that rules may share, and then the others.
use Rattle.std.proofs.Common.{◌≡◌, inr, ⊎_elim, ℕ, ◌+◌, ◌<◌, List, [], ◌∷◌, ◌++◌, Bool, true, false, cond, not, length, take, get_or, map, refl, sym, ap, ◌∙◌, subst, true≢false}
use Rattle.std.specs.Prelude.{Contains}
use Rattle.std.specs.List.{AllByRecursion, filter}
use Rattle.std.proofs.lemmas.List.Elements.{Contains-append_left, Contains-append_right, Contains-append_cases, filter_more}
use Rattle.isle_core.specs.declared.BindingId.{BindingId}
use Rattle.isle_core.specs.declared.rule_sets.Constraint.{Constraint}
use Rattle.isle_core.specs.declared.types.Term.{Term}
use Rattle.isle_core.specs.Path.{Path, Nowhere, Arg, ConstBool, ConstInt, ConstPrim, Extracted, Called, Chosen, MadeVariant, MadeStruct, VariantField, StructField, Wrapped, Inner, Part, Paths, NoPath, APath, at}
use Rattle.isle_core.specs.Rule.{Environment}
use Rattle.isle_core.specs.RuleSet.{is_test}
use Rattle.isle_core.specs.Serializable.{AreTestable}
use Rattle.isle_core.specs.Tests.{Test, Is}
use Rattle.isle_core.proofs.Contained.{head_contained, tail_contained, contained_cases, none_contained}
use Rattle.isle_core.proofs.ListLaws.{filter_from, filter_keeps}
use Rattle.isle_core.proofs.RulePairs.{all_from}
use Rattle.isle_blocks.specs.Free.{is_free, are_free}
use Rattle.isle_blocks.specs.Ways.{is_shared, one_if, early_tests, late_tests}
use Rattle.isle_blocks.proofs.LawBound.{came_behind, came_holds}
use Rattle.isle_blocks.proofs.MovedTests.{AllWithin, AllWithinEach, AreStill, within_map, within_all, stands_still, testable_more, testable_both, either_later}
use Rattle.isle_blocks.proofs.TreeLawful.{both_free}

-- ---- one test more

one_cond : (b : Bool) (c : BindingId × Constraint) → one_if b c ≡ cond b (c ∷ []) []
one_cond true c = refl
one_cond false c = refl

one_more : (p : BindingId × Constraint → Bool) (cs xs : List (BindingId × Constraint)) (i : ℕ) (c d : BindingId × Constraint) (b : Bool) → i < length cs
    → c ≡ get_or cs i d → b ≡ p c → xs ≡ filter p (take i cs) → xs ++ one_if b c ≡ filter p (take (i + 1) cs)
one_more p cs xs i c d b lt is told h =
    ap (λ ys. ys ++ one_if b c) h ∙ ap (λ ys. filter p (take i cs) ++ ys) (one_cond b c) ∙ ap (λ b'. filter p (take i cs) ++ cond b' (c ∷ []) []) told
    ∙ ap (λ x. filter p (take i cs) ++ cond (p x) (x ∷ []) []) is ∙ sym (filter_more p cs i d lt)

-- if rules may share it
pub early_more : (several : Bool) (ps : List Path) (cs xs : List (BindingId × Constraint)) (i : ℕ) (c d : BindingId × Constraint) (b : Bool) → i < length cs
    → c ≡ get_or cs i d → b ≡ is_shared several ps c.0 → xs ≡ early_tests several ps (take i cs)
    → xs ++ one_if b c ≡ early_tests several ps (take (i + 1) cs)
early_more several ps cs xs i c d b lt is told h = one_more (λ (x : BindingId × Constraint). is_shared several ps x.0) cs xs i c d b lt is told h

-- if not
pub late_more : (several : Bool) (ps : List Path) (cs xs : List (BindingId × Constraint)) (i : ℕ) (c d : BindingId × Constraint) (b : Bool) → i < length cs
    → c ≡ get_or cs i d → b ≡ is_shared several ps c.0 → xs ≡ late_tests several ps (take i cs)
    → xs ++ one_if (not b) c ≡ late_tests several ps (take (i + 1) cs)
late_more several ps cs xs i c d b lt is told h = one_more (λ (x : BindingId × Constraint). not (is_shared several ps x.0)) cs xs i c d (not b) lt is (ap not told) h

-- ---- which they are

pub parted_has : (several : Bool) (ps : List Path) (cs : List (BindingId × Constraint)) (c : BindingId × Constraint) → Contains cs c
    → Contains (early_tests several ps cs ++ late_tests several ps cs) c
parted_has several ps cs c i = pick (is_shared several ps c.0) refl
  where
    pick : (b : Bool) → is_shared several ps c.0 ≡ b → Contains (early_tests several ps cs ++ late_tests several ps cs) c
    pick true e = Contains-append_left (early_tests several ps cs) (late_tests several ps cs) c (filter_keeps (λ (x : BindingId × Constraint). is_shared several ps x.0) cs c i e)
    pick false e = Contains-append_right (early_tests several ps cs) (late_tests several ps cs) c (filter_keeps (λ (x : BindingId × Constraint). not (is_shared several ps x.0)) cs c i (ap not e))

pub parted_from : (several : Bool) (ps : List Path) (cs : List (BindingId × Constraint)) (c : BindingId × Constraint)
    → Contains (early_tests several ps cs ++ late_tests several ps cs) c → Contains cs c
parted_from several ps cs c i = ⊎_elim
    (λ j. (filter_from (λ (x : BindingId × Constraint). is_shared several ps x.0) cs c j).0)
    (λ j. (filter_from (λ (x : BindingId × Constraint). not (is_shared several ps x.0)) cs c j).0)
    (Contains-append_cases (early_tests several ps cs) (late_tests several ps cs) c i)

-- of a term that answers several times the first are of free paths
pub early_free : (ps : List Path) (cs : List (BindingId × Constraint))
    → AllByRecursion (λ (c : BindingId × Constraint). is_free (at ps c.0) ≡ true) (early_tests true ps cs)
early_free ps cs = all_from (λ (c : BindingId × Constraint). is_free (at ps c.0) ≡ true) (early_tests true ps cs) (λ c i. (filter_from (λ (x : BindingId × Constraint). is_free (at ps x.0)) cs c i).1)

-- of one that answers once there are no others
pub none_late : (ps : List Path) (cs : List (BindingId × Constraint)) → late_tests false ps cs ≡ []
none_late ps [] = refl
none_late ps (c ∷ cs) = none_late ps cs

not_so : (b : Bool) → not b ≡ true → b ≡ false
not_so false e = refl
not_so true e = cc

-- the others are of paths with a chosen item
pub late_chosen : (several : Bool) (ps : List Path) (cs : List (BindingId × Constraint))
    → AllByRecursion (λ (c : BindingId × Constraint). is_free (at ps c.0) ≡ false) (late_tests several ps cs)
late_chosen true ps cs =
    all_from (λ (c : BindingId × Constraint). is_free (at ps c.0) ≡ false) (late_tests true ps cs) (λ c i. not_so (is_free (at ps c.0)) (filter_from (λ (x : BindingId × Constraint). not (is_free (at ps x.0))) cs c i).1)
late_chosen false ps cs = subst (AllByRecursion (λ (c : BindingId × Constraint). is_free (at ps c.0) ≡ false)) (sym (none_late ps cs)) tt

-- ---- in this order they may be made

mutual
  -- what a free path needs is free
  free_all : (p : Path) → is_free p ≡ true → AllWithin (λ q. is_free q ≡ true) p
  free_all Nowhere e = tt
  free_all (Arg i) e = tt
  free_all (ConstBool ty b) e = tt
  free_all (ConstInt ty n) e = tt
  free_all (ConstPrim name) e = tt
  free_all (Extracted term p) e = free_all p e
  free_all (Called term ps instance) e = each_free ps e
  free_all (Chosen p) e = absurd cc
  free_all (MadeVariant ty variant ps) e = each_free ps e
  free_all (MadeStruct ty ps) e = each_free ps e
  free_all (VariantField variant field p) e = e
  free_all (StructField field p) e = e
  free_all (Wrapped p) e = tt
  free_all (Inner p) e = e
  free_all (Part part p) e = free_all p e

  each_free : (ps : Paths) → are_free ps ≡ true → AllWithinEach (λ q. is_free q ≡ true) ps
  each_free NoPath e = tt
  each_free (APath p ps) e = let k = both_free (is_free p) (are_free ps) e in (free_all p k.0, each_free ps k.1)

-- all tests of the path may be shared
abbrev IsSharedPath : (several : Bool) → List Path → Path → Type 0
IsSharedPath several ps q = (source : BindingId) → at ps source ≡ q → is_shared several ps source ≡ true

shared_within : (several : Bool) (ps : List Path) (source : BindingId) → is_shared several ps source ≡ true
    → AllWithin (IsSharedPath several ps) (at ps source)
shared_within true ps source e = within_map (λ q. is_free q ≡ true) (IsSharedPath true ps) (λ q free other is. ap is_free is ∙ free) (at ps source) (free_all (at ps source) e)
shared_within false ps source e = within_all (IsSharedPath false ps) (λ q other is. refl) (at ps source)

same_path : (p q : Path) (c d : Constraint) → Is p c ≡ Is q d → p ≡ q
same_path p q c d e = cc

module _ (env : Environment) (t : Term) (several : Bool) (ps : List Path) where
  -- of such paths the tests are among others
  abbrev AreSharedAmong : List Test → List Test → Type 0
  AreSharedAmong tests more = (q : Path) → IsSharedPath several ps q → AreStill tests more q

  early_testable : (cs : List (BindingId × Constraint)) (before more : List Test) → AreSharedAmong before more → AreTestable env t ps before cs
      → AreTestable env t ps more (early_tests several ps cs)
  early_testable [] before more among h = tt
  early_testable (c ∷ cs) before more among h = pick (is_shared several ps c.0) refl (λ xs ys a k. early_testable cs xs ys a k)
    where
      x : Test
      x = is_test ps c

      pick : (b : Bool) → is_shared several ps c.0 ≡ b
          → ((xs ys : List Test) → AreSharedAmong xs ys → AreTestable env t ps xs cs → AreTestable env t ps ys (early_tests several ps cs))
          → AreTestable env t ps more (cond b (c ∷ early_tests several ps cs) (early_tests several ps cs))
      pick true e rest = (
        record { test = h.0.test; stands = stands_still env before more [] (at ps c.0) (within_map (IsSharedPath several ps) (AreStill before more) among (at ps c.0) (shared_within several ps c.0 e)) h.0.stands },
        rest (x ∷ before) (x ∷ more) (λ q k d i. ⊎_elim (λ (is : x ≡ Is q d). subst (Contains (x ∷ more)) is (head_contained x more)) (λ j. tail_contained x more (Is q d) (among q k d j)) (contained_cases x before (Is q d) i)) h.1,
      )
      pick false e rest =
          rest (x ∷ before) more (λ q k d i. ⊎_elim (λ (is : x ≡ Is q d). absurd (true≢false (sym (k c.0 (same_path (at ps c.0) q c.1 d is)) ∙ e))) (λ j. among q k d j) (contained_cases x before (Is q d) i)) h.1

  late_testable : (cs : List (BindingId × Constraint)) (before more : List Test) → ((x : Test) → Contains before x → Contains more x)
      → ((x : Test) → Contains (map (is_test ps) (early_tests several ps cs)) x → Contains more x)
      → AreTestable env t ps before cs → AreTestable env t ps more (late_tests several ps cs)
  late_testable [] before more among early h = tt
  late_testable (c ∷ cs) before more among early h = pick (is_shared several ps c.0) early (λ xs ys a k l. late_testable cs xs ys a k l)
    where
      x : Test
      x = is_test ps c

      pick : (b : Bool) → ((y : Test) → Contains (map (is_test ps) (cond b (c ∷ early_tests several ps cs) (early_tests several ps cs))) y → Contains more y)
          → ((xs ys : List Test) → ((y : Test) → Contains xs y → Contains ys y) → ((y : Test) → Contains (map (is_test ps) (early_tests several ps cs)) y → Contains ys y) → AreTestable env t ps xs cs → AreTestable env t ps ys (late_tests several ps cs))
          → AreTestable env t ps more (cond (not b) (c ∷ late_tests several ps cs) (late_tests several ps cs))
      pick true mine rest =
          let others = map (is_test ps) (early_tests several ps cs) in
          rest (x ∷ before) more (λ y i. ⊎_elim (λ (is : x ≡ y). subst (Contains more) is (mine x (head_contained x others))) (λ j. among y j) (contained_cases x before y i)) (λ y i. mine y (tail_contained x others y i)) h.1
      pick false mine rest = (testable_more env t ps before more c among h.0, rest (x ∷ before) (x ∷ more) (either_later before more x among) (λ y i. tail_contained x more y (mine y i)) h.1)

  pub parted_testable : (cs : List (BindingId × Constraint)) → AreTestable env t ps [] cs
      → AreTestable env t ps [] (early_tests several ps cs ++ late_tests several ps cs)
  parted_testable cs h =
      let early = early_tests several ps cs in
      testable_both env t ps [] early (late_tests several ps cs) (early_testable cs [] [] (λ q k d i. i) h)
      (late_testable cs [] (came_behind [] (map (is_test ps) early)) (λ x i. absurd (none_contained x i)) (λ x i. came_holds [] (map (is_test ps) early) x (inr i)) h)
