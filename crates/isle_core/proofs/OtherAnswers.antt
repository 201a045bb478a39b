-- What else is known changes nothing of what a flat rule adds.
use Rattle.std.proofs.Common.{◌≡◌, ℕ, ◌+◌, List, [], ◌∷◌, Bool, true, false, cond, eqb, Option, Some, None, refl, ap, ◌∙◌, subst, map}
use Rattle.std.specs.List.{AllByRecursion}
use Rattle.isle_base.specs.declared.ids.TermId.{TermId}
use Rattle.isle_core.specs.declared.rule_sets.FlatRule.{FlatRule}
use Rattle.isle_core.specs.declared.values.Callee.{Callee}
use Rattle.isle_core.specs.Answered.{Item, Held, Absent, One, Optional, Listed}
use Rattle.isle_core.specs.Calling.{Calling, ByTurns, ByCases, NoCall, calling, extracting, answers_often, is_fallible}
use Rattle.isle_core.specs.CallRun.{Went, Goes, Ends, take_turn, make_call, make}
use Rattle.isle_core.specs.Choice.{Choice}
use Rattle.isle_core.specs.Choices.{each_choice, flat_adds}
use Rattle.isle_core.specs.Making.{MakesVariant, MakesStruct}
use Rattle.isle_core.specs.Meaning.{Meaning}
use Rattle.isle_core.specs.Parts.{Given}
use Rattle.isle_core.specs.Path.{Path, Nowhere, Arg, ConstBool, ConstInt, ConstPrim, Extracted, Called, Chosen, MadeVariant, MadeStruct, VariantField, StructField, Wrapped, Inner, Part, Paths, NoPath, APath, at}
use Rattle.isle_core.specs.Rule.{Environment}
use Rattle.isle_core.specs.RuleSet.{flat_tests}
use Rattle.isle_core.specs.SamePath.{same_path}
use Rattle.isle_core.specs.SeveralRun.{choosing, behind_calls, give_held, on_turns, on_items}
use Rattle.isle_core.specs.SeveralSet.{is_among, behind_answer, behind_call, behind_ordered, flat_part}
use Rattle.isle_core.specs.Tests.{Test, Is, Equal, HasItem}
use Rattle.isle_core.specs.Value.{Value, Answer, Made}
use Rattle.isle_core.specs.ValueAt.{Known, answered_too, chosen_held, made_held, field_held, inner_held, extracted_held, wrapped_held, part_held, value_before, call_held, value_at, values_at, meets, equal_held, is_found, is_item, holds, all_hold}

-- ---- occurrences

-- the calls of a path are of these occurrences
abbrev mutual
  pub AreOf : (ℕ → Type 0) → Path → Type 0
  AreOf S (Called term ps k) = S k × AllAreOf S ps
  AreOf S (Inner p) = AreOf S p
  AreOf S (MadeVariant ty variant ps) = AllAreOf S ps
  AreOf S (MadeStruct ty ps) = AllAreOf S ps
  AreOf S (VariantField variant i p) = AreOf S p
  AreOf S (StructField i p) = AreOf S p
  AreOf S (Extracted term p) = AreOf S p
  AreOf S (Wrapped p) = AreOf S p
  AreOf S (Part i p) = AreOf S p
  AreOf S (Chosen p) = AreOf S p
  AreOf S Nowhere = Unit {0}
  AreOf S (Arg i) = Unit {0}
  AreOf S (ConstBool ty b) = Unit {0}
  AreOf S (ConstInt ty n) = Unit {0}
  AreOf S (ConstPrim name) = Unit {0}

  -- so of paths in order
  pub AllAreOf : (ℕ → Type 0) → Paths → Type 0
  AllAreOf S NoPath = Unit {0}
  AllAreOf S (APath p ps) = AreOf S p × AllAreOf S ps

-- so of the paths of a test
abbrev pub IsTestOf : (ℕ → Type 0) → Test → Type 0
IsTestOf S (Is p c) = AreOf S p
IsTestOf S (Equal p q) = AreOf S p × AreOf S q
IsTestOf S (HasItem p) = AreOf S p

-- these calls have the same answers, and the same items are chosen
pub record Alike (S : ℕ → Type 0) (a b : Known) : Type 0 where
  pub by : (k : ℕ) → S k → a.answers k ≡ b.answers k
  pub choice : a.choice ≡ b.choice

-- runs that go on from such, or end with the same
abbrev pub GoAlike : (ℕ → Type 0) → Went → Went → Type 0
GoAlike S (Goes a made) (Goes b others) = Alike S a b × (made ≡ others)
GoAlike S (Ends o) (Ends p) = o ≡ p
GoAlike S (Goes a made) (Ends p) = ⊥
GoAlike S (Ends o) (Goes b others) = ⊥

choosing_alike : (S : ℕ → Type 0) (a b : Known) (q : Path) (place : ℕ) → Alike S a b → Alike S (choosing a q place) (choosing b q place)
choosing_alike S a b q place h =
    let chosen : Choice → Choice = λ c r. cond (same_path q r) place (c r) in
    record { by = λ k s. h.by k s; choice = ap chosen h.choice }

answered_alike : (S : ℕ → Type 0) (a b : Known) (k : ℕ) (x : Answer) → Alike S a b → Alike S (answered_too a k x) (answered_too b k x)
answered_alike S a b k x h = record { by = λ j s. ap (cond (eqb k j) (Some x)) (h.by j s); choice = h.choice }

module _ (env : Environment) (m : Meaning) (args : List Value) (S : ℕ → Type 0) where
  -- ---- values

  mutual
    -- a path of these calls has one value
    pub value_alike : (p : Path) (a b : Known) → AreOf S p → Alike S a b → value_at env m args a p ≡ value_at env m args b p
    value_alike (Called term ps k) a b s h =
        ap (λ o. call_held m (calling env term) o (values_at env m args a ps)) (h.by k s.0) ∙ ap (call_held m (calling env term) (b.answers k)) (values_alike ps a b s.1 h)
    value_alike (Inner p) a b s h = ap inner_held (value_alike p a b s h)
    value_alike (MadeVariant ty variant ps) a b s h = ap (made_held env (MakesVariant ty variant)) (values_alike ps a b s h)
    value_alike (MadeStruct ty ps) a b s h = ap (made_held env (MakesStruct ty)) (values_alike ps a b s h)
    value_alike (VariantField variant i p) a b s h = ap (field_held i) (value_alike p a b s h)
    value_alike (StructField i p) a b s h = ap (field_held i) (value_alike p a b s h)
    value_alike (Extracted term p) a b s h = ap (extracted_held m (extracting env term)) (value_alike p a b s h)
    value_alike (Wrapped p) a b s h = ap wrapped_held (value_alike p a b s h)
    value_alike (Part i p) a b s h = ap (part_held i) (value_alike p a b s h)
    value_alike (Chosen p) a b s h = ap (λ (c : Choice). chosen_held (c p) (value_at env m args a p)) h.choice ∙ ap (chosen_held (b.choice p)) (value_alike p a b s h)
    value_alike Nowhere a b s h = refl
    value_alike (Arg i) a b s h = refl
    value_alike (ConstBool ty v) a b s h = refl
    value_alike (ConstInt ty n) a b s h = refl
    value_alike (ConstPrim name) a b s h = refl

    -- so of paths in order
    pub values_alike : (ps : Paths) (a b : Known) → AllAreOf S ps → Alike S a b → values_at env m args a ps ≡ values_at env m args b ps
    values_alike NoPath a b s h = refl
    values_alike (APath p ps) a b s h =
        ap (λ v. value_before v (values_at env m args a ps)) (value_alike p a b s.0 h) ∙ ap (value_before (value_at env m args b p)) (values_alike ps a b s.1 h)

  -- ---- tests

  test_alike : (t : Test) (a b : Known) → IsTestOf S t → Alike S a b → holds env m (value_at env m args a) t ≡ holds env m (value_at env m args b) t
  test_alike (Is p c) a b s h = ap (meets env m c) (value_alike p a b s h)
  test_alike (Equal p q) a b s h = ap (λ v. equal_held v (value_at env m args a q)) (value_alike p a b s.0 h) ∙ ap (equal_held (value_at env m args b p)) (value_alike q a b s.1 h)
  test_alike (HasItem p) a b s h = ap is_item (value_alike (Chosen p) a b s h)

  tests_alike : (ts : List Test) (a b : Known) → AllByRecursion (IsTestOf S) ts → Alike S a b → all_hold env m (value_at env m args a) ts ≡ all_hold env m (value_at env m args b) ts
  tests_alike [] a b s h = refl
  tests_alike (t ∷ ts) a b s h = rw (test_alike t a b s.0 h, tests_alike ts a b s.1 h) refl

  -- ---- calls

  take_alike : (callee : Callee) (k : ℕ) (o : Option Answer) (vs : Option (List Value)) (a b : Known) (made : List Made) → Alike S a b → GoAlike S (take_turn m callee k o vs a made) (take_turn m callee k o vs b made)
  take_alike callee k (Some x) vs a b made h = (h, refl)
  take_alike callee k None (Some vs) a b made h = (answered_alike S a b k _ h, refl)
  take_alike callee k None None a b made h = (h, refl)

  call_alike : (c : Calling) (k : ℕ) (vs : Option (List Value)) (a b : Known) (made : List Made) → S k → Alike S a b → GoAlike S (make_call m c k vs a made) (make_call m c k vs b made)
  call_alike (ByTurns callee kind) k vs a b made s h = subst (λ o. GoAlike S (take_turn m callee k (a.answers k) vs a made) (take_turn m callee k o vs b made)) (h.by k s) (take_alike callee k (a.answers k) vs a b made h)
  call_alike (ByCases callee kind) k vs a b made s h = (h, refl)
  call_alike NoCall k vs a b made s h = (h, refl)

  -- what follows is done alike
  abbrev pub TurnsAlike : (one other : Known → Given → Given) → Type 0
  TurnsAlike one other = (a b : Known) (g : Given) → Alike S a b → one a g ≡ other b g

  behind_alike : (v w : Went) (g : Given) (one other : Known → Given → Given) → GoAlike S v w → TurnsAlike one other → behind_calls v g one ≡ behind_calls w g other
  behind_alike (Goes a made) (Goes b others) g one other h next = next a b (record { results = g.results; calls = made }) h.0 ∙ ap (λ ms. other b (record { results = g.results; calls = ms })) h.1
  behind_alike (Ends o) (Ends p) g one other h next = ap (λ q. record { results = g.results; calls = q.calls }) h
  behind_alike (Goes a made) (Ends p) g one other h next = absurd h
  behind_alike (Ends o) (Goes b others) g one other h next = absurd h

  -- ---- lists

  turns_alike : (q : Path) (is : List Item) (place : ℕ) (a b : Known) (g : Given) (one other : Known → Given → Given) → Alike S a b → TurnsAlike one other → on_turns q is place a g one ≡ on_turns q is place b g other
  turns_alike q [] place a b g one other h turn = refl
  turns_alike q (i ∷ is) place a b g one other h turn =
      ap (λ x. on_turns q is (place + 1) a x one) (turn (choosing a q place) (choosing b q place) g (choosing_alike S a b q place h)) ∙ turns_alike q is (place + 1) a b (other (choosing b q place) g) one other h turn

  items_alike : (q : Path) (held : Held) (a b : Known) (g : Given) (one other : Known → Given → Given) → Alike S a b → TurnsAlike one other → on_items q held a g one ≡ on_items q held b g other
  items_alike q (Listed is) a b g one other h turn = turns_alike q is 0 a b g one other h turn
  items_alike q Absent a b g one other h turn = refl
  items_alike q (One i) a b g one other h turn = refl
  items_alike q (Optional o) a b g one other h turn = refl

  -- ---- a rule

  abbrev RestAlike : (one other : List Path → Known → Given → Given) → Type 0
  RestAlike one other = (done : List Path) → TurnsAlike (one done) (other done)

  found_alike : (often fallible found : Bool) (p : Path) (held : Held) (done : List Path) (a b : Known) (g : Given) (one other : List Path → Known → Given → Given) → Alike S a b → RestAlike one other
      → cond often (on_items p held a g (one done)) (cond fallible (cond found (one done a g) g) (one done a g)) ≡ cond often (on_items p held b g (other done)) (cond fallible (cond found (other done b g) g) (other done b g))
  found_alike true fallible found p held done a b g one other h rest = items_alike p held a b g (one done) (other done) h (rest done)
  found_alike false true true p held done a b g one other h rest = rest done a b g h
  found_alike false true false p held done a b g one other h rest = refl
  found_alike false false found p held done a b g one other h rest = rest done a b g h

  answer_alike : (c : Calling) (p : Path) (done : List Path) (a b : Known) (g : Given) (one other : List Path → Known → Given → Given) → AreOf S p → Alike S a b → RestAlike one other
      → behind_answer c p (value_at env m args a p) done a g one ≡ behind_answer c p (value_at env m args b p) done b g other
  answer_alike c p done a b g one other s h rest =
      ap (λ v. behind_answer c p v done a g one) (value_alike p a b s h)
      ∙ found_alike (answers_often c) (is_fallible c) (is_found (value_at env m args b p)) p (value_at env m args b p) done a b g one other h rest

  made_alike : (among : Bool) (term : TermId) (ps : Paths) (k : ℕ) (done : List Path) (a b : Known) (g : Given) (one other : List Path → Known → Given → Given) → AreOf S (Called term ps k) → Alike S a b → RestAlike one other
      → cond among (one done a g) (behind_calls (make env m args (Called term ps k) a g.calls) g (λ now so. behind_answer (calling env term) (Called term ps k) (value_at env m args now (Called term ps k)) (Called term ps k ∷ done) now so one))
      ≡ cond among (other done b g) (behind_calls (make env m args (Called term ps k) b g.calls) g (λ now so. behind_answer (calling env term) (Called term ps k) (value_at env m args now (Called term ps k)) (Called term ps k ∷ done) now so other))
  made_alike true term ps k done a b g one other s h rest = rest done a b g h
  made_alike false term ps k done a b g one other s h rest =
      behind_alike (make env m args (Called term ps k) a g.calls) (make env m args (Called term ps k) b g.calls) g _ _
      (subst (λ vs. GoAlike S (make_call m (calling env term) k (values_at env m args a ps) a g.calls) (make_call m (calling env term) k vs b g.calls)) (values_alike ps a b s.1 h) (call_alike (calling env term) k (values_at env m args a ps) a b g.calls s.0 h))
      (λ now then so like. answer_alike (calling env term) (Called term ps k) (Called term ps k ∷ done) now then so one other s like rest)

  one_alike : (p : Path) (done : List Path) (a b : Known) (g : Given) (one other : List Path → Known → Given → Given) → AreOf S p → Alike S a b → RestAlike one other → behind_call env m args p done a g one ≡ behind_call env m args p done b g other
  one_alike (Called term ps k) done a b g one other s h rest = made_alike (is_among (Called term ps k) done) term ps k done a b g one other s h rest
  one_alike Nowhere done a b g one other s h rest = rest done a b g h
  one_alike (Arg i) done a b g one other s h rest = rest done a b g h
  one_alike (ConstBool ty v) done a b g one other s h rest = rest done a b g h
  one_alike (ConstInt ty n) done a b g one other s h rest = rest done a b g h
  one_alike (ConstPrim name) done a b g one other s h rest = rest done a b g h
  one_alike (Extracted term q) done a b g one other s h rest = rest done a b g h
  one_alike (Chosen q) done a b g one other s h rest = rest done a b g h
  one_alike (MadeVariant ty variant ps) done a b g one other s h rest = rest done a b g h
  one_alike (MadeStruct ty ps) done a b g one other s h rest = rest done a b g h
  one_alike (VariantField variant i q) done a b g one other s h rest = rest done a b g h
  one_alike (StructField i q) done a b g one other s h rest = rest done a b g h
  one_alike (Wrapped q) done a b g one other s h rest = rest done a b g h
  one_alike (Inner q) done a b g one other s h rest = rest done a b g h
  one_alike (Part i q) done a b g one other s h rest = rest done a b g h

  ordered_alike : (qs : List Path) (done : List Path) (a b : Known) (g : Given) (one other : List Path → Known → Given → Given) → AllByRecursion (AreOf S) qs → Alike S a b → RestAlike one other
      → behind_ordered env m args qs done a g one ≡ behind_ordered env m args qs done b g other
  ordered_alike [] done a b g one other s h rest = rest done a b g h
  ordered_alike (q ∷ qs) done a b g one other s h rest =
      one_alike q done a b g (λ now here so. behind_ordered env m args qs now here so one) (λ now here so. behind_ordered env m args qs now here so other) s.0 h
      (λ now c d so like. ordered_alike qs now c d so one other s.1 like rest)

  -- a rule whose tests, calls and result are of these calls adds the same
  pub record IsRuleOf (ps : List Path) (f : FlatRule) : Type 0 where
    pub tests : AllByRecursion (IsTestOf S) (flat_tests ps f)
    pub ordered : AllByRecursion (AreOf S) (map (at ps) f.ordered)
    pub result : AreOf S (at ps f.result)

  part_alike : (ps : List Path) (f : FlatRule) (a b : Known) (g : Given) → IsRuleOf ps f → Alike S a b → flat_part env m args ps f a g ≡ flat_part env m args ps f b g
  part_alike ps f a b g s h =
      ordered_alike (map (at ps) f.ordered) [] a b g (λ done now so. give_held (value_at env m args now (at ps f.result)) so) (λ done now so. give_held (value_at env m args now (at ps f.result)) so) s.ordered h
      (λ done c d so like. ap (λ v. give_held v so) (value_alike (at ps f.result) c d s.result like))

  adds_alike : (ps : List Path) (f : FlatRule) → IsRuleOf ps f → TurnsAlike (flat_adds env m args ps f) (flat_adds env m args ps f)
  adds_alike ps f s a b g h =
      ap (λ t. cond t (flat_part env m args ps f a g) g) (tests_alike (flat_tests ps f) a b s.tests h)
      ∙ ap (λ x. cond (all_hold env m (value_at env m args b) (flat_tests ps f)) x g) (part_alike ps f a b g s h)

  -- what follows each choice is done alike
  pub choices_alike : (qs : List Path) (a b : Known) (g : Given) (one other : Known → Given → Given) → AllByRecursion (AreOf S) qs → Alike S a b → TurnsAlike one other → each_choice env m args qs a g one ≡ each_choice env m args qs b g other
  choices_alike [] a b g one other s h turn = turn a b g h
  choices_alike (q ∷ qs) a b g one other s h turn =
      items_alike q (value_at env m args a q) a b g _ _ h (λ c d so like. choices_alike qs c d so one other s.1 like turn)
      ∙ ap (λ v. on_items q v b g (λ now so. each_choice env m args qs now so other)) (value_alike q a b s.0 h)

  -- a rule adds the same whatever else is known
  pub work_alike : (ps : List Path) (f : FlatRule) (qs : List Path) (a b : Known) (g : Given) → IsRuleOf ps f → AllByRecursion (AreOf S) qs → Alike S a b
      → each_choice env m args qs a g (flat_adds env m args ps f) ≡ each_choice env m args qs b g (flat_adds env m args ps f)
  work_alike ps f qs a b g s lists h = choices_alike qs a b g (flat_adds env m args ps f) (flat_adds env m args ps f) lists h (adds_alike ps f s)
