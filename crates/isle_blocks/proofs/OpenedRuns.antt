-- What the step of a bind order does in a term that answers several times.
use Rattle.std.proofs.Common.{◌≡◌, ℕ, List, [], ◌∷◌, ◌++◌, Bool, true, false, cond, Option, Some, refl, sym, ap, ◌∙◌, subst}
use mathlib.Core.Path.{fun_ext}
use Rattle.std.specs.Prelude.{slice_get, Contains}
use Rattle.isle_core.specs.declared.BindingId.{BindingId}
use Rattle.isle_core.specs.declared.rule_sets.Binding.{Binding}
use Rattle.isle_core.specs.declared.rule_sets.Binding.TheVariants as binding
use Rattle.isle_core.specs.declared.types.Term.{Term}
use Rattle.isle_core.specs.Block.{Control, Loop}
use Rattle.isle_core.specs.BlockRun.{bind_all}
use Rattle.isle_core.specs.BlockViews.{SeenStep}
use Rattle.isle_core.specs.Calling.{calling, extracting}
use Rattle.isle_core.specs.CallRun.{then_go}
use Rattle.isle_core.specs.Choices.{each_choice}
use Rattle.isle_core.specs.Making.{MakesVariant, MakesStruct}
use Rattle.isle_core.specs.Meaning.{Meaning}
use Rattle.isle_core.specs.Parts.{Given}
use Rattle.isle_core.specs.Path.{Path, Called, Chosen, Inner, MadeVariant, MadeStruct, VariantField, StructField, Extracted, Wrapped, Part, Paths, NoPath, APath, at, paths_of}
use Rattle.isle_core.specs.Rule.{Environment}
use Rattle.isle_core.specs.SamePath.{same_path}
use Rattle.isle_core.specs.SeveralRun.{choosing, behind_calls, on_items, list_of, several_run, several_control}
use Rattle.isle_core.specs.Setting.{setting}
use Rattle.isle_core.specs.Value.{Value}
use Rattle.isle_core.specs.ValueAt.{Known, chosen_held, made_held, field_held, inner_held, extracted_held, wrapped_held, part_held, value_before, call_held, value_at, values_at}
use Rattle.isle_core.specs.ListOrder.{ListsWithin, AllListsWithin, AreListsInOrder}
use Rattle.isle_core.proofs.ChoiceLists.{AgreeOn}
use Rattle.isle_core.proofs.SamePathLaws.{same_sound}
use Rattle.isle_core.proofs.TakenItems.{by_truth}
use Rattle.isle_core.proofs.TestsOut.{IsFree}
use Rattle.isle_blocks.specs.Needed.{list_before}
use Rattle.isle_blocks.specs.Nest.{alone, open_one, opening}
use Rattle.isle_blocks.proofs.Behind.{cons_later}
use Rattle.isle_blocks.proofs.ListsRead.{loop_of, loops}
use Rattle.isle_blocks.proofs.NeededRuns.{IsStill, AreStill, path_still}
use Rattle.isle_blocks.proofs.Openable.{IsOpenable, AreOpenable}

-- ---- values under other choices

module _ (env : Environment) (m : Meaning) (args : List Value) where
  mutual
    -- what stands at a path hangs on the answers and on the items of the lists within it
    pub agree_within : (p : Path) (before : List Path) (a b : Known) → a.answers ≡ b.answers → AgreeOn before a.choice b.choice → ListsWithin before p → value_at env m args a p ≡ value_at env m args b p
    agree_within (Called term ps k) before a b e c h = ap (λ o. call_held m (calling env term) (o k) (values_at env m args a ps)) e ∙ ap (call_held m (calling env term) (b.answers k)) (all_agree_within ps before a b e c h)
    agree_within (Chosen p) before a b e c h = ap (λ i. chosen_held i (value_at env m args a p)) (c p h.0) ∙ ap (chosen_held (b.choice p)) (agree_within p before a b e c h.1)
    agree_within (Inner p) before a b e c h = ap inner_held (agree_within p before a b e c h)
    agree_within (MadeVariant ty variant ps) before a b e c h = ap (made_held env (MakesVariant ty variant)) (all_agree_within ps before a b e c h)
    agree_within (MadeStruct ty ps) before a b e c h = ap (made_held env (MakesStruct ty)) (all_agree_within ps before a b e c h)
    agree_within (VariantField variant i p) before a b e c h = ap (field_held i) (agree_within p before a b e c h)
    agree_within (StructField i p) before a b e c h = ap (field_held i) (agree_within p before a b e c h)
    agree_within (Extracted term p) before a b e c h = ap (extracted_held m (extracting env term)) (agree_within p before a b e c h)
    agree_within (Wrapped p) before a b e c h = ap wrapped_held (agree_within p before a b e c h)
    agree_within (Part i p) before a b e c h = ap (part_held i) (agree_within p before a b e c h)
    agree_within p before a b e c h = refl

    all_agree_within : (ps : Paths) (before : List Path) (a b : Known) → a.answers ≡ b.answers → AgreeOn before a.choice b.choice → AllListsWithin before ps → values_at env m args a ps ≡ values_at env m args b ps
    all_agree_within NoPath before a b e c h = refl
    all_agree_within (APath p ps) before a b e c h =
        ap (λ x. value_before x (values_at env m args a ps)) (agree_within p before a b e c h.0) ∙ ap (value_before (value_at env m args b p)) (all_agree_within ps before a b e c h.1)

  picked_else : (b : Bool) (place i : ℕ) → b ≡ false → cond b place i ≡ i
  picked_else true place i e = absurd cc
  picked_else false place i e = refl

  -- an item of another list changes no choice of these
  pub choosing_agrees : (before : List Path) (q : Path) (place : ℕ) (known : Known) → (Contains before q → ⊥) → AgreeOn before (choosing known q place).choice known.choice
  choosing_agrees before q place known new p there =
      picked_else (same_path q p) place (known.choice p) (by_truth (same_path q p) (λ yes. absurd (new (subst (Contains before) (sym (same_sound q p yes)) there))) (λ fails. fails))

  pub choosing_within : (p : Path) (before : List Path) (q : Path) (place : ℕ) (known : Known) → (Contains before q → ⊥) → ListsWithin before p → value_at env m args (choosing known q place) p ≡ value_at env m args known p
  choosing_within p before q place known new h = agree_within p before (choosing known q place) known refl (choosing_agrees before q place known new) h

  -- a test hangs on the items of these lists alone
  abbrev pub ReadsOnly : List Path → (Known → Bool) → Type 0
  ReadsOnly before test = (q : Path) (place : ℕ) (known : Known) → (Contains before q → ⊥) → test (choosing known q place) ≡ test known

  reads_more : (before : List Path) (q : Path) (test : Known → Bool) → ReadsOnly before test → ReadsOnly (q ∷ before) test
  reads_more before q test h r place known new = h r place known (λ c. new (cons_later q r before c))

  -- lists in order after those leave it alone
  pub order_free : (qs before : List Path) (test : Known → Bool) → AreListsInOrder before qs → ReadsOnly before test → IsFree env m args qs test
  order_free [] before test order h = tt
  order_free (q ∷ qs) before test order h = (λ known place. h q place known order.1, order_free qs (q ∷ before) test order.2 (reads_more before q test h))

  -- ---- choices

  pub each_append : (qs rs : List Path) (known : Known) (g : Given) (next : Known → Given → Given)
      → each_choice env m args (qs ++ rs) known g next ≡ each_choice env m args qs known g (λ now so. each_choice env m args rs now so next)
  each_append [] rs known g next = refl
  each_append (q ∷ qs) rs known g next = ap (on_items q (value_at env m args known q) known g) (fun_ext (λ now. fun_ext (λ so. each_append qs rs now so next)))

  -- what follows may be told in other words
  pub each_same : (qs : List Path) (known : Known) (g : Given) (one other : Known → Given → Given) → ((now : Known) (so : Given) → one now so ≡ other now so) → each_choice env m args qs known g one ≡ each_choice env m args qs known g other
  each_same qs known g one other h = ap (each_choice env m args qs known g) (fun_ext (λ now. fun_ext (λ so. h now so)))

  -- ---- orders

  -- a binding that changes nothing, before a step
  still_one : (ps : List Path) (b : BindingId) (s : SeenStep) (known : Known) (g : Given) → IsStill env (at ps b) → several_run env m args ps (alone (b ∷ s.0, s.1)) known g ≡ several_run env m args ps (alone s) known g
  still_one ps b s known g h = ap (λ w. behind_calls (then_go w (bind_all env m args ps s.0)) g (several_control env m args ps s.1)) (path_still env m args (at ps b) known g.calls h)

  pub loop_one : (ps : List Path) (b : BindingId) (p : Path) (s : SeenStep) (known : Known) (g : Given) → p ≡ at ps b → on_items (list_of p) (value_at env m args known (list_of p)) known g (several_run env m args ps (alone s))
      ≡ on_items (list_of (at ps b)) (value_at env m args known (list_of (at ps b))) known g (several_run env m args ps (alone s))
  loop_one ps b p s known g e = ap (λ q. on_items (list_of q) (value_at env m args known (list_of q)) known g (several_run env m args ps (alone s))) e

  -- a Loop
  pub loop_run : (ps : List Path) (b source : BindingId) (s : SeenStep) (known : Known) (g : Given) (next : Known → Given → Given) → at ps b ≡ Chosen (at ps source) → ((now : Known) (so : Given) → several_run env m args ps (alone s) now so ≡ next now so)
      → several_control env m args ps (Loop b (alone s)) known g ≡ on_items (at ps source) (value_at env m args known (at ps source)) known g next
  loop_run ps b source s known g next e h =
      sym (loop_one ps b (Chosen (at ps source)) s known g (sym e)) ∙ ap (on_items (at ps source) (value_at env m args known (at ps source)) known g) (fun_ext (λ now. fun_ext (λ so. h now so)))

  module _ (t : Term) (bs : List Binding) where
    -- one of an order that makes no impure call
    open_run : (o : Option Binding) (bound : List ℕ) (b : BindingId) (s : SeenStep) (qs : List Path) (next : Known → Given → Given) → IsOpenable (setting env t bs) bound (at (paths_of bs) b) o → IsStill env (at (paths_of bs) b)
        → ((now : Known) (so : Given) → several_run env m args (paths_of bs) (alone s) now so ≡ each_choice env m args qs now so next) → (known : Known) (g : Given)
        → several_run env m args (paths_of bs) (alone (open_one o b s)) known g ≡ each_choice env m args (loop_of bs (list_before o) ++ qs) known g next
    open_run (Some (binding.Iterator source)) bound b s qs next one still h known g = loop_run (paths_of bs) b source s known g (λ now so. each_choice env m args qs now so next) one.path h
    open_run o bound b s qs next one still h known g = still_one (paths_of bs) b s known g still ∙ h known g

    -- its lists are gone through
    pub order_run : (xs ys : List BindingId) (c : Control) (bound : List ℕ) → AreOpenable (setting env t bs) bound xs → AreStill env (paths_of bs) xs → (known : Known) (g : Given)
        → several_run env m args (paths_of bs) (alone (opening bs (xs ++ ys) c)) known g ≡ each_choice env m args (loops bs xs) known g (several_run env m args (paths_of bs) (alone (opening bs ys c)))
    order_run [] ys c bound ready still known g = refl
    order_run (x ∷ xs) ys c bound ready still known g =
        open_run (slice_get bs x.0) bound x (opening bs (xs ++ ys) c) (loops bs xs) (several_run env m args (paths_of bs) (alone (opening bs ys c))) ready.0 still.0
        (λ now so. order_run xs ys c (bound ++ x.0 ∷ []) ready.1 still.1 now so) known g
