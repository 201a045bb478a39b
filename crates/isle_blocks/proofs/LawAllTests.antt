-- A rule's nest of tests makes each of them.
use Rattle.std.proofs.Common.{inl, inr, ⊎_elim, ℕ, List, [], ◌∷◌, Bool, true, false}
use Rattle.std.proofs.Common.{Option, Some, None, ap}
use Rattle.std.specs.Prelude.{slice_get, Contains}
use Rattle.isle_core.specs.declared.BindingId.{BindingId}
use Rattle.isle_core.specs.declared.rule_sets.Binding.{Binding}
use Rattle.isle_core.specs.declared.rule_sets.Constraint.{Constraint}
use Rattle.isle_core.specs.ArmPlaces.{bound_within}
use Rattle.isle_core.specs.Bindable.{bound_by}
use Rattle.isle_core.specs.Block.{Control, Match, NoArm, Arm}
use Rattle.isle_core.specs.BlockViews.{SeenStep}
use Rattle.isle_core.proofs.Contained.{contained_cases, none_contained}
use Rattle.isle_blocks.specs.AllTests.{DoesTest}
use Rattle.isle_blocks.specs.Needed.{list_before, needs}
use Rattle.isle_blocks.specs.Nest.{Shows, Behind, alone, open_by, opening, opened}
use Rattle.isle_blocks.specs.Nest.{all_matched}

-- ---- a step

module _ (source : BindingId) (c : Constraint) (bs : List Binding) where
  -- a binding before a step keeps the step's tests
  open_keeps : (list : Option BindingId) (b : BindingId) (t : SeenStep) → DoesTest source c t.1
      → DoesTest source c (open_by list b t).1
  open_keeps (Some list) b t h = inl h
  open_keeps None b t h = h

  -- so of each binding of an order
  opening_keeps : (order : List BindingId) (k : Control) → DoesTest source c k
      → DoesTest source c (opening bs order k).1
  opening_keeps [] k h = h
  opening_keeps (b ∷ order) k h =
      open_keeps (list_before (slice_get bs b.0)) b (opening bs order k)
      (opening_keeps order k h)

  -- so of an order that is opened or bound
  opened_keeps : (several : Bool) (order : List BindingId) (k : Control) → DoesTest source c k
      → DoesTest source c (opened several bs order k).1
  opened_keeps true order k h = opening_keeps order k h
  opened_keeps false order k h = h

  -- ---- a rule

  -- matches make each of their tests
  pub matched_makes : (several : Bool) (shows : Shows) (cs : List (BindingId × Constraint)) (inner : Behind)
      → Contains cs (source, c) → (bound : List ℕ) → DoesTest source c (all_matched several bs shows cs inner bound).1
  matched_makes several shows [] inner h bound = absurd (none_contained (source, c) h)
  matched_makes several shows (d ∷ cs) inner h bound =
      let ns = needs bs bound (d.0 ∷ []) in
      let inside = bound_within (bound_by bound ns) (shows d.0 d.1) in
      let within = all_matched several bs shows cs inner inside in
      opened_keeps several ns (Match d.0 (Arm d.1 (shows d.0 d.1) (alone within) NoArm))
      (⊎_elim (λ e. inl (ap (λ p. p.0) e, inl (ap (λ p. p.1) e)))
      (λ i. inr (inl (inl (matched_makes several shows cs inner i inside)))) (contained_cases d cs (source, c) h))
