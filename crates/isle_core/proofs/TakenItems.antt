-- What stands at a path stays while later lists are gone through.
use Rattle.std.proofs.Common.{◌≡◌, ⊎_elim, inl, inr, ℕ, ◌≤◌, List, ◌∷◌, Bool, true, false, cond, Option, Some, None, refl, sym, ap, ◌∙◌, subst, arith}
use Rattle.std.specs.Prelude.{◌⊎◌, ◌||◌}
use Rattle.isle_core.specs.Calling.{calling, extracting, is_fallible}
use Rattle.isle_core.specs.Choice.{Choice}
use Rattle.isle_core.specs.HoldsImpure.{holds_impure}
use Rattle.isle_core.specs.Iterators.{calls_multi}
use Rattle.isle_core.specs.Making.{MakesVariant, MakesStruct}
use Rattle.isle_core.specs.Meaning.{Meaning}
use Rattle.isle_core.specs.Parts.{Taken, take_item}
use Rattle.isle_core.specs.Path.{Path, Called, Chosen, Inner, MadeVariant, MadeStruct, VariantField, StructField, Extracted, Wrapped, Part, Paths, NoPath, APath}
use Rattle.isle_core.specs.Rule.{Environment}
use Rattle.isle_core.specs.SamePath.{same_path}
use Rattle.isle_core.specs.SeveralRun.{choosing}
use Rattle.isle_core.specs.SeveralSet.{is_among}
use Rattle.isle_core.specs.Value.{Value}
use Rattle.isle_core.specs.ValueAt.{Known, a_value, chosen_held, made_held, field_held, inner_held, extracted_held, wrapped_held, part_held, value_before, call_held, value_at, values_at}
use Rattle.isle_core.proofs.KnownAnswers.{IsUpTo, AreUpTo, Fresh}
use Rattle.isle_core.proofs.SamePathLaws.{same_sound, same_self}

-- the item chosen at a path is settled: its list holds no impure call, or its items are gone through
abbrev pub IsSettled : Environment → List Path → Path → Type 0
IsSettled env done q = (holds_impure env q ≡ false) ⊎ (is_among q done ≡ true)

-- so of each list within a path
abbrev mutual
  pub TakesOf : Environment → List Path → Path → Type 0
  TakesOf env done (Chosen p) = IsSettled env done p × TakesOf env done p
  TakesOf env done (Called term ps k) = AllTake env done ps
  TakesOf env done (Inner p) = TakesOf env done p
  TakesOf env done (MadeVariant ty variant ps) = AllTake env done ps
  TakesOf env done (MadeStruct ty ps) = AllTake env done ps
  TakesOf env done (VariantField variant i p) = TakesOf env done p
  TakesOf env done (StructField i p) = TakesOf env done p
  TakesOf env done (Extracted term p) = TakesOf env done p
  TakesOf env done (Wrapped p) = TakesOf env done p
  TakesOf env done (Part i p) = TakesOf env done p
  TakesOf env done p = Unit {0}

  -- and within paths in order
  pub AllTake : Environment → List Path → Paths → Type 0
  AllTake env done NoPath = Unit {0}
  AllTake env done (APath p ps) = TakesOf env done p × AllTake env done ps

-- what is gone through stays so
pub record GoesThrough (done later : List Path) : Type 0 where
  pub by : (q : Path) → is_among q done ≡ true → is_among q later ≡ true

pub through_self : (done : List Path) → GoesThrough done done
through_self done = record { by = λ q e. e }

pub through_on : {a b c : List Path} → GoesThrough a b → GoesThrough b c → GoesThrough a c
through_on g h = record { by = λ q e. h.by q (g.by q e) }

or_true : (a b : Bool) → b ≡ true → (a || b) ≡ true
or_true true b e = refl
or_true false b e = e

pub through_more : (p : Path) (done : List Path) → GoesThrough done (p ∷ done)
through_more p done = record { by = λ q e. or_true (same_path q p) (is_among q done) e }

settled_on : (env : Environment) (done later : List Path) (q : Path) → GoesThrough done later → IsSettled env done q → IsSettled env later q
settled_on env done later q g h = ⊎_elim (λ e. inl e) (λ e. inr (g.by q e)) h

mutual
  -- more lists are settled if more are gone through
  pub takes_on : (p : Path) (env : Environment) (done later : List Path) → GoesThrough done later → TakesOf env done p → TakesOf env later p
  takes_on (Chosen p) env done later g h = (settled_on env done later p g h.0, takes_on p env done later g h.1)
  takes_on (Called term ps k) env done later g h = all_take_on ps env done later g h
  takes_on (Inner p) env done later g h = takes_on p env done later g h
  takes_on (MadeVariant ty variant ps) env done later g h = all_take_on ps env done later g h
  takes_on (MadeStruct ty ps) env done later g h = all_take_on ps env done later g h
  takes_on (VariantField variant i p) env done later g h = takes_on p env done later g h
  takes_on (StructField i p) env done later g h = takes_on p env done later g h
  takes_on (Extracted term p) env done later g h = takes_on p env done later g h
  takes_on (Wrapped p) env done later g h = takes_on p env done later g h
  takes_on (Part i p) env done later g h = takes_on p env done later g h
  takes_on p env done later g h = tt

  pub all_take_on : (ps : Paths) (env : Environment) (done later : List Path) → GoesThrough done later → AllTake env done ps → AllTake env later ps
  all_take_on NoPath env done later g h = tt
  all_take_on (APath p ps) env done later g h = (takes_on p env done later g h.0, all_take_on ps env done later g h.1)

-- the first n calls have the answers that they had, and settled items are the same
pub record KeptTo (env : Environment) (n : ℕ) (done : List Path) (known later : Known) : Type 0 where
  pub by : (k : ℕ) → k ≤ n → later.answers k ≡ known.answers k
  pub choice : (q : Path) → IsSettled env done q → later.choice q ≡ known.choice q

pub kept_to_self : (env : Environment) (n : ℕ) (done : List Path) (known : Known) → KeptTo env n done known known
kept_to_self env n done known = record { by = λ k low. refl; choice = λ q h. refl }

pub kept_to_on : (env : Environment) (n n1 : ℕ) (done later : List Path) (a b c : Known) → n ≤ n1 → GoesThrough done later → KeptTo env n done a b → KeptTo env n1 later b c → KeptTo env n done a c
kept_to_on env n n1 done later a b c le g h k = record { by = λ j low. k.by j (omega arith) ∙ h.by j low; choice = λ q s. k.choice q (settled_on env done later q g s) ∙ h.choice q s }

mutual
  -- what stands at a path of the first n calls, whose lists are settled
  pub settled_stays : (p : Path) (env : Environment) (m : Meaning) (args : List Value) (n : ℕ) (done : List Path) (known later : Known) → IsUpTo n p → TakesOf env done p → KeptTo env n done known later → value_at env m args later p ≡ value_at env m args known p
  settled_stays (Called term ps j) env m args n done known later b t k =
      ap (λ o. call_held m (calling env term) o (values_at env m args later ps)) (k.by j b.0) ∙ ap (call_held m (calling env term) (known.answers j)) (all_settled_stay ps env m args n done known later b.1 t k)
  settled_stays (Chosen p) env m args n done known later b t k =
      ap (λ i. chosen_held i (value_at env m args later p)) (k.choice p t.0) ∙ ap (chosen_held (known.choice p)) (settled_stays p env m args n done known later b t.1 k)
  settled_stays (Inner p) env m args n done known later b t k = ap inner_held (settled_stays p env m args n done known later b t k)
  settled_stays (MadeVariant ty variant ps) env m args n done known later b t k = ap (made_held env (MakesVariant ty variant)) (all_settled_stay ps env m args n done known later b t k)
  settled_stays (MadeStruct ty ps) env m args n done known later b t k = ap (made_held env (MakesStruct ty)) (all_settled_stay ps env m args n done known later b t k)
  settled_stays (VariantField variant i p) env m args n done known later b t k = ap (field_held i) (settled_stays p env m args n done known later b t k)
  settled_stays (StructField i p) env m args n done known later b t k = ap (field_held i) (settled_stays p env m args n done known later b t k)
  settled_stays (Extracted term p) env m args n done known later b t k = ap (extracted_held m (extracting env term)) (settled_stays p env m args n done known later b t k)
  settled_stays (Wrapped p) env m args n done known later b t k = ap wrapped_held (settled_stays p env m args n done known later b t k)
  settled_stays (Part i p) env m args n done known later b t k = ap (part_held i) (settled_stays p env m args n done known later b t k)
  settled_stays p env m args n done known later b t k = refl

  -- and at paths in order
  pub all_settled_stay : (ps : Paths) (env : Environment) (m : Meaning) (args : List Value) (n : ℕ) (done : List Path) (known later : Known) → AreUpTo n ps → AllTake env done ps → KeptTo env n done known later → values_at env m args later ps ≡ values_at env m args known ps
  all_settled_stay NoPath env m args n done known later b t k = refl
  all_settled_stay (APath p ps) env m args n done known later b t k =
      ap (λ h. value_before h (values_at env m args later ps)) (settled_stays p env m args n done known later b.0 t.0 k) ∙ ap (value_before (value_at env m args known p)) (all_settled_stay ps env m args n done known later b.1 t.1 k)

-- ---- what goes along

-- whether a call at a path may be answered by nothing
abbrev pub fallible_at : Environment → Path → Bool
fallible_at env (Called term ps k) = is_fallible (calling env term)
fallible_at env p = false

-- no call after the n-th is known; the calls made stand on the first n, and their lists are settled; of those that are lists the item that is taken is the
-- one that is chosen, and is there, and those that may be answered by nothing are answered by something; of other lists none is taken; of lists without an
-- impure call the item is that of the choice
pub record GoesSo (env : Environment) (m : Meaning) (args : List Value) (choice : Choice) (n : ℕ) (taken : Taken) (done : List Path) (known : Known) : Type 0 where
  pub fresh : Fresh n known
  pub up_to : (q : Path) → is_among q done ≡ true → IsUpTo n q
  pub reads : (q : Path) → is_among q done ≡ true → TakesOf env done q
  pub some : (q : Path) → is_among q done ≡ true → calls_multi env q ≡ true → taken q ≡ Some (known.choice q)
  pub none : (q : Path) → is_among q done ≡ false → taken q ≡ None
  pub early : (q : Path) → holds_impure env q ≡ false → known.choice q ≡ choice q
  pub there : (q : Path) → is_among q done ≡ true → calls_multi env q ≡ true → (v : Value) × (value_at env m args known (Chosen q) ≡ a_value v)
  pub found : (q : Path) → is_among q done ≡ true → fallible_at env q ≡ true → (v : Value) × (value_at env m args known (Inner q) ≡ a_value v)

-- ---- an item more

-- a list is gone through that wasn't
pub record IsNewList (env : Environment) (n : ℕ) (done : List Path) (p : Path) : Type 0 where
  pub late : holds_impure env p ≡ true
  pub list : fallible_at env p ≡ false
  pub new : is_among p done ≡ false
  pub up_to : IsUpTo n p
  pub reads : TakesOf env done p

pub by_truth : {C : Type 0} (b : Bool) → (b ≡ true → C) → (b ≡ false → C) → C
by_truth true f g = f refl
by_truth false f g = g refl

-- a settled list is another one
other_list : (env : Environment) (n : ℕ) (done : List Path) (p q : Path) → IsNewList env n done p → IsSettled env done q → same_path p q ≡ false
other_list env n done p q h s = by_truth (same_path p q) (λ e. absurd (clash (same_sound p q e))) (λ e. e)
  where
    clash : p ≡ q → ⊥
    clash e = ⊎_elim (λ early. let late : holds_impure env q ≡ true = ap (holds_impure env) (sym e) ∙ h.late in let bad : true ≡ false = sym late ∙ early in cc)
        (λ among. let new : is_among q done ≡ false = ap (λ x. is_among x done) (sym e) ∙ h.new in let bad : true ≡ false = sym among ∙ new in cc) s

chosen_else : (b : Bool) (place : ℕ) (i : ℕ) → b ≡ false → cond b place i ≡ i
chosen_else true place i e = cc
chosen_else false place i e = refl

-- what is known stays if an item of it is chosen
pub choosing_kept : (env : Environment) (n : ℕ) (done : List Path) (p : Path) (place : ℕ) (known : Known) → IsNewList env n done p → KeptTo env n done known (choosing known p place)
choosing_kept env n done p place known h = record { by = λ k low. refl; choice = λ q s. chosen_else (same_path p q) place (known.choice q) (other_list env n done p q h s) }

-- and so its item stands there
pub chosen_here : (env : Environment) (m : Meaning) (args : List Value) (n : ℕ) (done : List Path) (p : Path) (place : ℕ) (known : Known) → IsNewList env n done p
    → value_at env m args (choosing known p place) (Chosen p) ≡ chosen_held place (value_at env m args known p)
chosen_here env m args n done p place known h =
    ap (λ b. chosen_held (cond b place (known.choice p)) (value_at env m args (choosing known p place) p)) (same_self p)
    ∙ ap (chosen_held place) (settled_stays p env m args n done known (choosing known p place) h.up_to h.reads (choosing_kept env n done p place known h))

among_cases : (a b : Bool) → (a || b) ≡ true → (a ≡ true) ⊎ (b ≡ true)
among_cases true b e = inl refl
among_cases false b e = inr e

neither : (a b : Bool) → (a || b) ≡ false → (a ≡ false) × (b ≡ false)
neither true b e = absurd cc
neither false b e = (refl, e)

same_flip : (p q : Path) → same_path q p ≡ false → same_path p q ≡ false
same_flip p q e = by_truth (same_path p q) (λ t. let back : same_path q p ≡ true = subst (λ x. same_path x p ≡ true) (same_sound p q t) (same_self p) in let bad : true ≡ false = sym back ∙ e in absurd cc) (λ f. f)

-- the item at this place of a new list is taken
pub item_taken : (env : Environment) (m : Meaning) (args : List Value) (choice : Choice) (n : ℕ) (taken : Taken) (done : List Path) (known : Known) (p : Path) (place : ℕ) (v : Value) → GoesSo env m args choice n taken done known → IsNewList env n done p
    → value_at env m args (choosing known p place) (Chosen p) ≡ a_value v → GoesSo env m args choice n (take_item taken p place) (p ∷ done) (choosing known p place)
item_taken env m args choice n taken done known p place v g h at = record {
  fresh = record { by = λ k lt. g.fresh.by k lt };
  up_to = λ q e. split q (IsUpTo n q) e (λ same. subst (IsUpTo n) same h.up_to) (λ among. g.up_to q among);
  reads = λ q e. split q (TakesOf env (p ∷ done) q) e (λ same. subst (TakesOf env (p ∷ done)) same (takes_on p env done (p ∷ done) (through_more p done) h.reads)) (λ among. takes_on q env done (p ∷ done) (through_more p done) (g.reads q among));
  some = λ q e list. split q (take_item taken p place q ≡ Some ((choosing known p place).choice q)) e (λ same. subst (λ x. take_item taken p place x ≡ Some ((choosing known p place).choice x)) same (here p (same_self p)))
      (λ among. there_too q (other_list env n done p q h (inr among)) (g.some q among list));
  none = λ q e. let two = neither (same_path q p) (is_among q done) e in chosen_else_taken (same_path p q) (same_flip p q two.0) (taken q) ∙ g.none q two.1;
  early = λ q e. chosen_else (same_path p q) place (known.choice q) (other_list env n done p q h (inl e)) ∙ g.early q e;
  there = λ q e list. split q ((w : Value) × (value_at env m args (choosing known p place) (Chosen q) ≡ a_value w)) e (λ same. (v, subst (λ x. value_at env m args (choosing known p place) (Chosen x) ≡ a_value v) same at))
      (λ among. let old = g.there q among list in (old.0, settled_stays (Chosen q) env m args n done known (choosing known p place) (g.up_to q among) (inr among, g.reads q among) (choosing_kept env n done p place known h) ∙ old.1));
  found = λ q e fallible. split q ((w : Value) × (value_at env m args (choosing known p place) (Inner q) ≡ a_value w)) e
      (λ same. let bad : true ≡ false = sym fallible ∙ ap (fallible_at env) (sym same) ∙ h.list in absurd cc)
      (λ among. let old = g.found q among fallible in (old.0, settled_stays (Inner q) env m args n done known (choosing known p place) (g.up_to q among) (g.reads q among) (choosing_kept env n done p place known h) ∙ old.1));
}
  where
    split : (q : Path) (C : Type 0) → is_among q (p ∷ done) ≡ true → (p ≡ q → C) → (is_among q done ≡ true → C) → C
    split q C e f k = ⊎_elim (λ same. f (sym (same_sound q p same))) k (among_cases (same_path q p) (is_among q done) e)

    chosen_else_taken : (b : Bool) → b ≡ false → (o : Option ℕ) → cond b (Some place) o ≡ o
    chosen_else_taken true e o = absurd cc
    chosen_else_taken false e o = refl

    here : (q : Path) → same_path p q ≡ true → take_item taken p place q ≡ Some ((choosing known p place).choice q)
    here q e = rw e refl

    there_too : (q : Path) → same_path p q ≡ false → taken q ≡ Some (known.choice q) → take_item taken p place q ≡ Some ((choosing known p place).choice q)
    there_too q e s = rw e s

-- ---- a call more

-- a call that is answered at most once is made
pub call_done : (env : Environment) (m : Meaning) (args : List Value) (choice : Choice) (n : ℕ) (taken : Taken) (done : List Path) (known : Known) (p : Path) → GoesSo env m args choice n taken done known → IsUpTo n p → TakesOf env done p → calls_multi env p ≡ false
    → (fallible_at env p ≡ true → (v : Value) × (value_at env m args known (Inner p) ≡ a_value v)) → GoesSo env m args choice n taken (p ∷ done) known
call_done env m args choice n taken done known p g up reads single found = record {
  fresh = g.fresh;
  up_to = λ q e. split q (IsUpTo n q) e (λ same. subst (IsUpTo n) same up) (λ among. g.up_to q among);
  reads = λ q e. split q (TakesOf env (p ∷ done) q) e (λ same. subst (TakesOf env (p ∷ done)) same (takes_on p env done (p ∷ done) (through_more p done) reads)) (λ among. takes_on q env done (p ∷ done) (through_more p done) (g.reads q among));
  some = λ q e list. split q (taken q ≡ Some (known.choice q)) e (λ same. let bad : true ≡ false = sym list ∙ ap (calls_multi env) (sym same) ∙ single in absurd cc) (λ among. g.some q among list);
  none = λ q e. g.none q (neither (same_path q p) (is_among q done) e).1;
  early = g.early;
  there = λ q e list. split q ((v : Value) × (value_at env m args known (Chosen q) ≡ a_value v)) e (λ same. let bad : true ≡ false = sym list ∙ ap (calls_multi env) (sym same) ∙ single in absurd cc) (λ among. g.there q among list);
  found = λ q e fallible. split q ((v : Value) × (value_at env m args known (Inner q) ≡ a_value v)) e
      (λ same. subst (λ x. (v : Value) × (value_at env m args known (Inner x) ≡ a_value v)) same (found (ap (fallible_at env) same ∙ fallible))) (λ among. g.found q among fallible);
}
  where
    split : (q : Path) (C : Type 0) → is_among q (p ∷ done) ≡ true → (p ≡ q → C) → (is_among q done ≡ true → C) → C
    split q C e f k = ⊎_elim (λ same. f (sym (same_sound q p same))) k (among_cases (same_path q p) (is_among q done) e)
