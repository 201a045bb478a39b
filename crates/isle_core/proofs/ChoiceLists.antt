-- The choices over lists, each after the lists within it, are all there are, each once.
use Rattle.std.proofs.Common.{◌≡◌, ◌⊎◌, ⊎_elim, inl, inr, ℕ, zero, suc, ◌+◌, ◌<◌, ◌≤◌, List, [], ◌∷◌, ◌++◌, length, Bool, true, false, cond, None, refl, sym, ap, ◌∙◌, subst, arith}
use Rattle.std.specs.Prelude.{Contains}
use Rattle.std.specs.List.{AllByRecursion}
use Rattle.std.proofs.lemmas.List.Elements.{Contains-append_left, Contains-append_right}
use Rattle.isle_core.specs.Answered.{Item, Held, Absent, One, Optional, Listed}
use Rattle.isle_core.specs.Calling.{calling, extracting}
use Rattle.isle_core.specs.Choice.{Choice}
pub use Rattle.isle_core.specs.ListOrder.{ListsWithin, AllListsWithin, AreListsInOrder}
use Rattle.isle_core.specs.Choices.{pick, items_held, item_choices, choices_over}
use Rattle.isle_core.specs.Making.{MakesVariant, MakesStruct}
use Rattle.isle_core.specs.Meaning.{Meaning}
use Rattle.isle_core.specs.Pairs.{IsChosen}
use Rattle.isle_core.specs.Path.{Path, Called, Chosen, Inner, MadeVariant, MadeStruct, VariantField, StructField, Extracted, Wrapped, Part, Paths, NoPath, APath}
use Rattle.isle_core.specs.Rule.{Environment}
use Rattle.isle_core.specs.SamePath.{same_path}
use Rattle.isle_core.specs.Value.{Value}
use Rattle.isle_core.specs.ValueAt.{none_made, chosen_held, made_held, field_held, inner_held, extracted_held, wrapped_held, part_held, value_before, call_held, value_at, values_at}
use Rattle.isle_core.proofs.Contained.{head_contained, contained_cases, none_contained}
use Rattle.isle_core.proofs.SamePathLaws.{same_sound, same_self}
use Rattle.isle_core.proofs.TakenItems.{by_truth}

same_or_less : (a b : ℕ) → a ≤ b → (a ≡ b) ⊎ (a < b)
same_or_less zero zero le = inl refl
same_or_less zero (suc b) le = inr (omega arith)
same_or_less (suc a) zero le = let bad : ⊥ = omega arith in absurd bad
same_or_less (suc a) (suc b) le = ⊎_elim (λ e. inl (ap suc e)) (λ (lt : a < b). inr (omega arith)) (same_or_less a b (omega arith))

-- two choices agree on these
abbrev pub AgreeOn : List Path → Choice → Choice → Type 0
AgreeOn qs c d = (q : Path) → Contains qs q → c q ≡ d q

module _ (env : Environment) (m : Meaning) (args : List Value) where
  abbrev val : Choice → Path → Held
  val c p = value_at env m args (none_made c) p

  mutual
    -- what stands at a path hangs on the lists within it alone
    pub within_same : (p : Path) (before : List Path) (c d : Choice) → ListsWithin before p → AgreeOn before c d → val c p ≡ val d p
    within_same (Called term ps k) before c d h a = ap (call_held m (calling env term) None) (all_within_same ps before c d h a)
    within_same (Chosen p) before c d h a = ap (λ i. chosen_held i (val c p)) (a p h.0) ∙ ap (chosen_held (d p)) (within_same p before c d h.1 a)
    within_same (Inner p) before c d h a = ap inner_held (within_same p before c d h a)
    within_same (MadeVariant ty variant ps) before c d h a = ap (made_held env (MakesVariant ty variant)) (all_within_same ps before c d h a)
    within_same (MadeStruct ty ps) before c d h a = ap (made_held env (MakesStruct ty)) (all_within_same ps before c d h a)
    within_same (VariantField variant i p) before c d h a = ap (field_held i) (within_same p before c d h a)
    within_same (StructField i p) before c d h a = ap (field_held i) (within_same p before c d h a)
    within_same (Extracted term p) before c d h a = ap (extracted_held m (extracting env term)) (within_same p before c d h a)
    within_same (Wrapped p) before c d h a = ap wrapped_held (within_same p before c d h a)
    within_same (Part i p) before c d h a = ap (part_held i) (within_same p before c d h a)
    within_same p before c d h a = refl

    all_within_same : (ps : Paths) (before : List Path) (c d : Choice) → AllListsWithin before ps → AgreeOn before c d → values_at env m args (none_made c) ps ≡ values_at env m args (none_made d) ps
    all_within_same NoPath before c d h a = refl
    all_within_same (APath p ps) before c d h a = ap (λ x. value_before x (values_at env m args (none_made c) ps)) (within_same p before c d h.0 a) ∙ ap (value_before (val d p)) (all_within_same ps before c d h.1 a)

  -- ---- one item more

  picked_else : (b : Bool) (place i : ℕ) → b ≡ false → cond b place i ≡ i
  picked_else true place i e = cc
  picked_else false place i e = refl

  picked_other : (before : List Path) (q : Path) (place : ℕ) (c : Choice) → (Contains before q → ⊥) → AgreeOn before (pick c q place) c
  picked_other before q place c new p there =
      picked_else (same_path q p) place (c p) (by_truth (same_path q p) (λ e. absurd (new (subst (Contains before) (sym (same_sound q p e)) there))) (λ e. e))

  picked_here : (q : Path) (place : ℕ) (c : Choice) → pick c q place q ≡ place
  picked_here q place c = ap (λ b. cond b place (c q)) (same_self q)

  -- what is so of each choice
  abbrev EachIs : (Choice → Type 0) → List Choice → Type 0
  EachIs P cs = AllByRecursion P cs

  each_append : (P : Choice → Type 0) (cs ds : List Choice) → EachIs P cs → EachIs P ds → EachIs P (cs ++ ds)
  each_append P [] ds h k = k
  each_append P (c ∷ cs) ds h k = (h.0, each_append P cs ds h.1 k)

  each_more : (P Q : Choice → Type 0) (cs : List Choice) → ((c : Choice) → P c → Q c) → EachIs P cs → EachIs Q cs
  each_more P Q [] f h = tt
  each_more P Q (c ∷ cs) f h = (f c h.0, each_more P Q cs f h.1)

  -- ---- each is right

  -- a choice that agrees on earlier lists and has an item of each of these
  record IsRight (before qs : List Path) (c d : Choice) : Type 0 where
    agree : AgreeOn before d c
    chosen : AllByRecursion (IsChosen env m args d) qs

  right_from : (q : Path) (qs before : List Path) (all is : List Item) (place : ℕ) (c : Choice) → ListsWithin before q → (Contains before q → ⊥) → val c q ≡ Listed all → length is + place ≡ length all
      → ((d : Choice) → EachIs (IsRight (q ∷ before) qs d) (choices_over env m args qs d)) → EachIs (IsRight before (q ∷ qs) c) (item_choices (choices_over env m args qs) c q is place)
  right_from q qs before all [] place c within new at fits more = tt
  right_from q qs before all (i ∷ is) place c within new at fits more =
      let d = pick c q place in
      let low : place < length all = omega arith in
      each_append (IsRight before (q ∷ qs) c) (choices_over env m args qs d) (item_choices (choices_over env m args qs) c q is (place + 1))
      (each_more (IsRight (q ∷ before) qs d) (IsRight before (q ∷ qs) c) (choices_over env m args qs d)
      (λ e h.
      let old : AgreeOn before e c = λ p there. h.agree p (later p there) ∙ picked_other before q place c new p there in
      let here : e q ≡ place = h.agree q (head_contained q before) ∙ picked_here q place c in
      record { agree = old; chosen = ((all, within_same q before e c within old ∙ at, subst (λ k. k < length all) (sym here) low), h.chosen) })
      (more d))
      (right_from q qs before all is (place + 1) c within new at (omega (arith, fits)) more)
    where
      later : (p : Path) → Contains before p → Contains (q ∷ before) p
      later p there = Contains-append_right (q ∷ []) before p there

  right_held : (q : Path) (qs before : List Path) (h : Held) (c : Choice) → ListsWithin before q → (Contains before q → ⊥) → val c q ≡ h → ((d : Choice) → EachIs (IsRight (q ∷ before) qs d) (choices_over env m args qs d))
      → EachIs (IsRight before (q ∷ qs) c) (item_choices (choices_over env m args qs) c q (items_held h) 0)
  right_held q qs before (Listed is) c within new at more = right_from q qs before is is 0 c within new at (omega arith) more
  right_held q qs before Absent c within new at more = tt
  right_held q qs before (One i) c within new at more = tt
  right_held q qs before (Optional o) c within new at more = tt

  each_right : (qs before : List Path) (c : Choice) → AreListsInOrder before qs → EachIs (IsRight before qs c) (choices_over env m args qs c)
  each_right [] before c order = (record { agree = λ p there. refl; chosen = tt }, tt)
  each_right (q ∷ qs) before c order = right_held q qs before (val c q) c order.0 order.1 refl (λ d. each_right qs (q ∷ before) d order.2)

  -- each has an item of each list
  pub choices_right : (qs : List Path) (c : Choice) → AreListsInOrder [] qs → AllByRecursion (λ d. AllByRecursion (IsChosen env m args d) qs) (choices_over env m args qs c)
  choices_right qs c order = each_more (IsRight [] qs c) (λ d. AllByRecursion (IsChosen env m args d) qs) (choices_over env m args qs c) (λ d h. h.chosen) (each_right qs [] c order)

  -- ---- none is left out

  -- some choice of the list agrees with this one
  abbrev HasAgreeing : List Path → Choice → List Choice → Type 0
  HasAgreeing qs d cs = (e : Choice) × Contains cs e × AgreeOn qs e d

  agreeing_left : (qs : List Path) (d : Choice) (cs ds : List Choice) → HasAgreeing qs d cs → HasAgreeing qs d (cs ++ ds)
  agreeing_left qs d cs ds h = (h.0, Contains-append_left cs ds h.0 h.1, h.2)

  agreeing_right : (qs : List Path) (d : Choice) (cs ds : List Choice) → HasAgreeing qs d ds → HasAgreeing qs d (cs ++ ds)
  agreeing_right qs d cs ds h = (h.0, Contains-append_right cs ds h.0 h.1, h.2)

  found_from : (q : Path) (on : List Path) (more : Choice → List Choice) (is : List Item) (place : ℕ) (c d : Choice) → place ≤ d q → d q < length is + place → HasAgreeing on d (more (pick c q (d q))) → HasAgreeing on d (item_choices more c q is place)
  found_from q on more [] place c d low high h = let bad : ⊥ = omega arith in absurd bad
  found_from q on more (i ∷ is) place c d low high h = ⊎_elim
      (λ (e : place ≡ d q). agreeing_left on d (more (pick c q place)) (item_choices more c q is (place + 1)) (subst (λ k. HasAgreeing on d (more (pick c q k))) (sym e) h))
      (λ (lt : place < d q). agreeing_right on d (more (pick c q place)) (item_choices more c q is (place + 1)) (found_from q on more is (place + 1) c d (omega arith) (omega arith) h))
      (same_or_less place (d q) low)

  found_held : (q : Path) (on : List Path) (more : Choice → List Choice) (h : Held) (is : List Item) (c d : Choice) → h ≡ Listed is → d q < length is → HasAgreeing on d (more (pick c q (d q))) → HasAgreeing on d (item_choices more c q (items_held h) 0)
  found_held q on more h is c d e low found = subst (λ x. HasAgreeing on d (item_choices more c q (items_held x) 0)) (sym e) (found_from q on more is 0 c d (omega arith) (omega arith) found)

  each_at : (P : Choice → Type 0) (cs : List Choice) (c : Choice) → EachIs P cs → Contains cs c → P c
  each_at P [] c h there = absurd (none_contained c there)
  each_at P (d ∷ cs) c h there = ⊎_elim (λ (e : d ≡ c). subst P e h.0) (λ more. each_at P cs c h.1 more) (contained_cases d cs c there)

  each_found : (qs before : List Path) (c d : Choice) → AreListsInOrder before qs → AgreeOn before c d → AllByRecursion (IsChosen env m args d) qs → HasAgreeing qs d (choices_over env m args qs c)
  each_found [] before c d order agree chosen = (c, head_contained c [], λ q there. absurd (none_contained q there))
  each_found (q ∷ qs) before c d order agree chosen =
      let place = d q in
      let e = pick c q place in
      let now : AgreeOn (q ∷ before) e d = λ p there. ⊎_elim (λ (same : q ≡ p). subst (λ x. e x ≡ d x) same (picked_here q place c)) (λ old. picked_other before q place c order.1 p old ∙ agree p old) (contained_cases q before p there) in
      let found = each_found qs (q ∷ before) e d order.2 now chosen.1 in
      let right = each_at (IsRight (q ∷ before) qs e) (choices_over env m args qs e) found.0 (each_right qs (q ∷ before) e order.2) found.1 in
      let on : AgreeOn (q ∷ qs) found.0 d = λ p there. ⊎_elim (λ (same : q ≡ p). subst (λ x. found.0 x ≡ d x) same (right.agree q (head_contained q before) ∙ picked_here q place c)) (λ old. found.2 p old) (contained_cases q qs p there) in
      found_held q (q ∷ qs) (choices_over env m args qs) (val c q) chosen.0.0 c d (within_same q before c d order.0 agree ∙ chosen.0.1) chosen.0.2 (found.0, found.1, on)

  -- each choice of items of the lists agrees with one of them
  pub choices_all : (qs : List Path) (c d : Choice) → AreListsInOrder [] qs → AllByRecursion (IsChosen env m args d) qs → HasAgreeing qs d (choices_over env m args qs c)
  choices_all qs c d order chosen = each_found qs [] c d order (λ q there. absurd (none_contained q there)) chosen

  -- ---- none stands twice

  -- none of the list agrees with this one
  abbrev pub IsApart : List Path → Choice → List Choice → Type 0
  IsApart qs c cs = EachIs (λ d. AgreeOn qs c d → ⊥) cs

  -- no two of the list agree
  abbrev pub AreChoicesApart : List Path → List Choice → Type 0
  AreChoicesApart qs [] = Unit {0}
  AreChoicesApart qs (c ∷ cs) = IsApart qs c cs × AreChoicesApart qs cs

  apart_append : (qs : List Path) (cs ds : List Choice) → AreChoicesApart qs cs → AreChoicesApart qs ds → EachIs (λ c. IsApart qs c ds) cs → AreChoicesApart qs (cs ++ ds)
  apart_append qs [] ds h k between = k
  apart_append qs (c ∷ cs) ds h k between = (each_append (λ d. AgreeOn qs c d → ⊥) cs ds h.0 between.0, apart_append qs cs ds h.1 k between.1)

  apart_more : (q : Path) (qs : List Path) (cs : List Choice) → AreChoicesApart qs cs → AreChoicesApart (q ∷ qs) cs
  apart_more q qs [] h = tt
  apart_more q qs (c ∷ cs) h = (each_more (λ d. AgreeOn qs c d → ⊥) (λ d. AgreeOn (q ∷ qs) c d → ⊥) cs (λ d f agree. f (λ p there. agree p (Contains-append_right (q ∷ []) qs p there))) h.0, apart_more q qs cs h.1)

  -- the item of the first list is not before the place
  later_items : (q : Path) (qs before : List Path) (is : List Item) (place : ℕ) (c : Choice) → AreListsInOrder (q ∷ before) qs → EachIs (λ e. place ≤ e q) (item_choices (choices_over env m args qs) c q is place)
  later_items q qs before [] place c order = tt
  later_items q qs before (i ∷ is) place c order =
      each_append (λ e. place ≤ e q) (choices_over env m args qs (pick c q place)) (item_choices (choices_over env m args qs) c q is (place + 1))
      (each_more (IsRight (q ∷ before) qs (pick c q place)) (λ e. place ≤ e q) (choices_over env m args qs (pick c q place)) (λ e h. let here : e q ≡ place = h.agree q (head_contained q before) ∙ picked_here q place c in omega (arith, here)) (each_right qs (q ∷ before) (pick c q place) order))
      (each_more (λ e. place + 1 ≤ e q) (λ e. place ≤ e q) (item_choices (choices_over env m args qs) c q is (place + 1)) (λ e (low : place + 1 ≤ e q). omega arith) (later_items q qs before is (place + 1) c order))

  apart_from : (q : Path) (qs before : List Path) (is : List Item) (place : ℕ) (c : Choice) → AreListsInOrder (q ∷ before) qs → ((d : Choice) → AreChoicesApart qs (choices_over env m args qs d)) → AreChoicesApart (q ∷ qs) (item_choices (choices_over env m args qs) c q is place)
  apart_from q qs before [] place c order more = tt
  apart_from q qs before (i ∷ is) place c order more =
      let d = pick c q place in
      let rest = item_choices (choices_over env m args qs) c q is (place + 1) in
      apart_append (q ∷ qs) (choices_over env m args qs d) rest (apart_more q qs (choices_over env m args qs d) (more d)) (apart_from q qs before is (place + 1) c order more)
      (each_more (IsRight (q ∷ before) qs d) (λ e. IsApart (q ∷ qs) e rest) (choices_over env m args qs d)
      (λ e h.
      let here : e q ≡ place = h.agree q (head_contained q before) ∙ picked_here q place c in
      each_more (λ f. place + 1 ≤ f q) (λ f. AgreeOn (q ∷ qs) e f → ⊥) rest (λ f (low : place + 1 ≤ f q) agree. let same : e q ≡ f q = agree q (head_contained q qs) in let bad : ⊥ = omega (arith, same, here) in bad) (later_items q qs before is (place + 1) c order))
      (each_right qs (q ∷ before) d order))

  each_apart : (qs before : List Path) (c : Choice) → AreListsInOrder before qs → AreChoicesApart qs (choices_over env m args qs c)
  each_apart [] before c order = (tt, tt)
  each_apart (q ∷ qs) before c order = apart_from q qs before (items_held (val c q)) 0 c order.2 (λ d. each_apart qs (q ∷ before) d order.2)

  -- no two of them agree on all lists
  pub choices_once : (qs : List Path) (c : Choice) → AreListsInOrder [] qs → AreChoicesApart qs (choices_over env m args qs c)
  choices_once qs c order = each_apart qs [] c order
