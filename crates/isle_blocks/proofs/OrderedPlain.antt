-- Behind its lists a rule opens no item but those of its ordered calls.
use Rattle.std.proofs.Common.{◌≡◌, ⊎_elim, ℕ, List, [], ◌∷◌, ◌++◌, Bool, true, false, Option, Some, None, map, refl, ap, subst}
use Rattle.std.specs.Prelude.{slice_get, Contains}
use Rattle.std.specs.List.{AllByRecursion}
use Rattle.std.proofs.lemmas.List.Elements.{Contains-append_left, Contains-append_right, Contains-append_cases}
use Rattle.isle_core.specs.declared.BindingId.{BindingId}
use Rattle.isle_core.specs.declared.rule_sets.Binding.{Binding}
use Rattle.isle_core.specs.declared.rule_sets.Binding.TheVariants as binding
use Rattle.isle_core.specs.declared.types.Term.{Term}
use Rattle.isle_core.specs.Bindable.{bound_by}
use Rattle.isle_core.specs.Calling.{kind_of, is_several}
use Rattle.isle_core.specs.HoldsImpure.{holds_impure}
use Rattle.isle_core.specs.Path.{Path, Chosen, at, paths_of}
use Rattle.isle_core.specs.Rule.{Environment}
use Rattle.isle_core.specs.Serializable.{IsSerializableCall, AreSerializableCalls}
use Rattle.isle_core.specs.Setting.{setting}
use Rattle.isle_core.specs.StandsFor.{EachOnce}
use Rattle.isle_core.specs.Tests.{Test}
use Rattle.isle_core.specs.ListOrder.{ListsWithin}
use Rattle.isle_blocks.specs.Needed.{list_before, needs, parameters_of}
use Rattle.isle_blocks.specs.Nest.{call_binds, was_bound, left_one, left_calls}
use Rattle.isle_blocks.proofs.Behind.{IsBehind}
use Rattle.isle_blocks.proofs.ListsRead.{all_need_lists}
use Rattle.isle_blocks.proofs.LawBound.{call_bound, one_binds, skips_one}
use Rattle.isle_blocks.proofs.MoreBound.{Keeps, by_kept}
use Rattle.isle_blocks.proofs.NextLaws.{FindsNext}
use Rattle.isle_blocks.proofs.Openable.{IsOpenable, AreOpenable}
use Rattle.isle_blocks.proofs.OrderItems.{AreItemsNew}

-- no binding of an order is an item
abbrev pub NoItems : List Binding → List BindingId → Type 0
NoItems bs order = AllByRecursion (λ (b : BindingId). list_before (slice_get bs b.0) ≡ None) order

-- the items of these lists are bound
abbrev pub ItemsBound : List Binding → List Path → List ℕ → Type 0
ItemsBound bs qs bound = (q : Path) → Contains qs q → (b : BindingId) → at (paths_of bs) b ≡ Chosen q → Contains bound b.0

-- if they are, none is opened anew
pub no_items : (env : Environment) (t : Term) (bs : List Binding) (qs : List Path) (order : List BindingId) (bound : List ℕ) → ItemsBound bs qs bound → AreOpenable (setting env t bs) bound order → AreItemsNew qs bs bound order → NoItems bs order
no_items env t bs qs [] bound items ready new = tt
no_items env t bs qs (b ∷ order) bound items ready new =
    (pick (slice_get bs b.0) refl ready.0, no_items env t bs qs order (bound ++ b.0 ∷ []) (λ q c i e. Contains-append_left bound (b.0 ∷ []) i.0 (items q c i e)) ready.1 new.1)
  where
    pick : (o : Option Binding) → slice_get bs b.0 ≡ o → IsOpenable (setting env t bs) bound (at (paths_of bs) b) o → list_before (slice_get bs b.0) ≡ None
    pick (Some (binding.Iterator source)) e one = let item = new.0 source e in absurd (item.1 (items (at (paths_of bs) source) item.0 b one.path))
    pick o e one = ap list_before e

-- so of what is needed for calls in order
abbrev pub PlainBinds : List Binding → (ℕ → Option BindingId) → List BindingId → List ℕ → Type 0
PlainBinds bs next [] bound = Unit {0}
PlainBinds bs next (c ∷ cs) bound = NoItems bs (needs bs bound (parameters_of (slice_get bs c.0))) × PlainBinds bs next cs (bound_by bound (call_binds bs next bound c))

-- each item that is read has a list that was opened, or that is a call that was made
module _ (env : Environment) (t : Term) (bs : List Binding) (fits : (p : Path) → Contains (paths_of bs) (Chosen p) → is_several (kind_of t.kind) ≡ true) (tests : List Test) (next : ℕ → Option BindingId) (f : FindsNext bs next) (once : EachOnce (paths_of bs)) (all opened : List Path)
    (early : (q : Path) → Contains all q → holds_impure env q ≡ false → Contains opened q) (start : List ℕ) (items : ItemsBound bs opened start) where
  -- after the calls that were made
  pub items_made : (done : List Path) (bound : List ℕ) → Keeps start bound → IsBehind (paths_of bs) tests done bound → ItemsBound bs (opened ++ done) bound
  items_made done bound keeps k = λ q c b e. ⊎_elim (λ j. keeps b.0 (items q j b e)) (λ j. k.item b q e j) (Contains-append_cases opened done q c)

  pub early_made : (done : List Path) (q : Path) → Contains all q → holds_impure env q ≡ false → Contains (opened ++ done) q
  early_made done q c e = Contains-append_left opened done q (early q c e)

  pub late_made : (done : List Path) (q : Path) → Contains done q → Contains (opened ++ done) q
  late_made done q c = Contains-append_right opened done q c

  call_plain : (c : BindingId) (done : List Path) (bound : List ℕ) → Keeps start bound → IsBehind (paths_of bs) tests done bound → IsSerializableCall env t tests (paths_of bs) done (at (paths_of bs) c) → ListsWithin all (at (paths_of bs) c)
      → NoItems bs (needs bs bound (parameters_of (slice_get bs c.0)))
  call_plain c done bound keeps k h lists =
      let r = call_bound env t bs fits tests done bound c k h in
      let needed = all_need_lists env tests done all (opened ++ done) (early_made done) (late_made done) h.parameters h.stand (subst (ListsWithin all) h.path lists) in
      no_items env t bs (opened ++ done) (needs bs bound (parameters_of (slice_get bs c.0))) bound (items_made done bound keeps k) r.needed' (r.new (opened ++ done) needed)

  pub binds_plain : (cs : List BindingId) (done : List Path) (bound : List ℕ) → Keeps start bound → IsBehind (paths_of bs) tests done bound → AreSerializableCalls env t tests (paths_of bs) done (map (at (paths_of bs)) cs)
      → AllByRecursion (λ (c : BindingId). ListsWithin all (at (paths_of bs) c)) cs → PlainBinds bs next (left_calls next start cs) bound
  binds_plain [] done bound keeps k h lists = tt
  binds_plain (c ∷ cs) done bound keeps k h lists = pick (was_bound next start c) refl (λ more keeps' k'. binds_plain cs (at (paths_of bs) c ∷ done) more keeps' k' h.1 lists.1)
    where
      made : List Path
      made = at (paths_of bs) c ∷ done

      pick : (b : Bool) → was_bound next start c ≡ b → ((more : List ℕ) → Keeps start more → IsBehind (paths_of bs) tests made more → PlainBinds bs next (left_calls next start cs) more) → PlainBinds bs next (left_one b c ++ left_calls next start cs) bound
      pick true e rest = rest bound keeps (skips_one env t bs fits tests next f once start c done bound keeps k h.0 e)
      pick false e rest =
          let one = one_binds env t bs fits tests next f once c done bound k h.0 in
          let order = call_binds bs next bound c in
          (call_plain c done bound keeps k h.0 lists.0, rest (bound_by bound order) (λ n j. by_kept order bound n (keeps n j)) one.behind)
