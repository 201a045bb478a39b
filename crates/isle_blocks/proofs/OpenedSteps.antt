-- The step of a bind order: what holds of it, and that it is lawful.
use Rattle.std.proofs.Common.{◌≡◌, ⊎_elim, ℕ, List, [], ◌∷◌, ◌++◌, Bool, true, false, Option, Some, None, map, refl, sym, subst, append_assoc}
use Rattle.std.specs.Prelude.{slice_get, Contains}
use Rattle.std.specs.List.{AllByRecursion}
use Rattle.std.proofs.lemmas.List.{append-nil}
use Rattle.std.proofs.lemmas.List.Elements.{Contains-append_left, Contains-append_right, Contains-append_cases}
use Rattle.isle_core.specs.declared.BindingId.{BindingId}
use Rattle.isle_core.specs.declared.rule_sets.Binding.{Binding}
use Rattle.isle_core.specs.declared.rule_sets.Binding.TheVariants as binding
use Rattle.isle_core.specs.Bindable.{IsBindable, bound_by}
use Rattle.isle_core.specs.Block.{Stop, Control, Loop}
use Rattle.isle_core.specs.BlockLawful.{IsLawfulFrom, IsLawfulControl, list_at, LoopsOnce, ControlLoopsOnce}
use Rattle.isle_core.specs.BlockViews.{SeenStep}
use Rattle.isle_core.specs.Occurrences.{AreNew, occurrence_at, occurrences, after_control}
use Rattle.isle_core.specs.Path.{Path, at}
use Rattle.isle_core.specs.Rule.{Environment}
use Rattle.isle_core.specs.Setting.{Setting, gives_several, paths_in}
use Rattle.isle_blocks.specs.Needed.{list_before}
use Rattle.isle_blocks.specs.Nest.{alone, open_by, open_one, opening, opened}
use Rattle.isle_blocks.proofs.Behind.{none_in}
use Rattle.isle_blocks.proofs.OncePairs.{each_first, each_second, each_apart, each_both}
use Rattle.isle_blocks.proofs.Openable.{IsOpenable, AreOpenable, all_once_bindable}

-- ---- what is done

-- what holds of it, and of Loops round what it holds of, holds of the step
module _ (P : Control → Type 0) (loop : (b : BindingId) (s : SeenStep) → P s.1 → P (Loop b (alone s))) where
  open_holds : (list : Option BindingId) (b : BindingId) (s : SeenStep) → P s.1 → P (open_by list b s).1
  open_holds (Some list) b s h = loop b s h
  open_holds None b s h = h

  opening_holds : (bs : List Binding) (order : List BindingId) (c : Control) → P c → P (opening bs order c).1
  opening_holds bs [] c h = h
  opening_holds bs (b ∷ order) c h = open_holds (list_before (slice_get bs b.0)) b (opening bs order c) (opening_holds bs order c h)

  pub opened_holds : (several : Bool) (bs : List Binding) (order : List BindingId) (c : Control) → P c → P (opened several bs order c).1
  opened_holds true bs order c h = opening_holds bs order c h
  opened_holds false bs order c h = h

-- ---- impure calls

-- each of these is one of those
abbrev pub Within : (ℕ → Type 0) → List ℕ → Type 0
Within P ks = (k : ℕ) → Contains ks k → P k

pub only_append : (P : ℕ → Type 0) (xs ys : List ℕ) → Within P xs → Within P ys → Within P (xs ++ ys)
only_append P xs ys h k n c = ⊎_elim (λ j. h n j) (λ j. k n j) (Contains-append_cases xs ys n c)

pub only_none : (P : ℕ → Type 0) → Within P []
only_none P k c = absurd (none_in k c)

within_first : (P : ℕ → Type 0) (xs ys : List ℕ) → Within P (xs ++ ys) → Within P xs
within_first P xs ys h k c = h k (Contains-append_left xs ys k c)

within_second : (P : ℕ → Type 0) (xs ys : List ℕ) → Within P (xs ++ ys) → Within P ys
within_second P xs ys h k c = h k (Contains-append_right xs ys k c)

-- where a step goes on, only these were made
abbrev pub MakesOnly : (several : Bool) → Environment → List Path → (ℕ → Type 0) → SeenStep → Type 0
MakesOnly several env ps P s = (made : List ℕ) → Within P made → Within P (after_control several env ps (made ++ occurrences env ps s.0) s.1)

-- so of what is done after an order
abbrev pub DoesOnly : (several : Bool) → Environment → List Path → (ℕ → Type 0) → Control → Type 0
DoesOnly several env ps P c = (made : List ℕ) → Within P made → Within P (after_control several env ps made c)

module _ (several : Bool) (env : Environment) (bs : List Binding) (ps : List Path) (P : ℕ → Type 0) where
  open_only : (list : Option BindingId) (b : BindingId) (s : SeenStep) → Within P (occurrence_at env (at ps b)) → MakesOnly several env ps P s → MakesOnly several env ps P (open_by list b s)
  open_only (Some list) b s here more made h =
      let none = subst (Within P) (sym (append-nil made)) h in
      only_append P (made ++ []) (after_control several env ps ((made ++ []) ++ occurrences env ps s.0) s.1) none (more (made ++ []) none)
  open_only None b s here more made h =
      subst (λ ks. Within P (after_control several env ps ks s.1)) (append_assoc made (occurrence_at env (at ps b)) (occurrences env ps s.0))
      (more (made ++ occurrence_at env (at ps b)) (only_append P made (occurrence_at env (at ps b)) h here))

  opening_only : (order : List BindingId) (c : Control) → Within P (occurrences env ps order) → DoesOnly several env ps P c → MakesOnly several env ps P (opening bs order c)
  opening_only [] c all h = λ made k. h (made ++ []) (subst (Within P) (sym (append-nil made)) k)
  opening_only (b ∷ order) c all h =
      open_only (list_before (slice_get bs b.0)) b (opening bs order c) (within_first P (occurrence_at env (at ps b)) (occurrences env ps order) all)
      (opening_only order c (within_second P (occurrence_at env (at ps b)) (occurrences env ps order) all) h)

  pub opened_only : (flag : Bool) (order : List BindingId) (c : Control) → Within P (occurrences env ps order) → DoesOnly several env ps P c → MakesOnly several env ps P (opened flag bs order c)
  opened_only true order c all h = opening_only order c all h
  opened_only false order c all h = λ made k. h (made ++ occurrences env ps order) (only_append P made (occurrences env ps order) k all)

-- ---- lawful steps

-- a step alone
abbrev pub IsLawfulAlone : Setting → (bound made : List ℕ) → SeenStep → Type 0
IsLawfulAlone s bound made step = IsLawfulFrom s bound made (alone step)

new_none : (made : List ℕ) → AreNew made []
new_none made = record { once = tt; apart = λ k c d. absurd (none_in k d) }

-- calls before others
new_first : (made xs ys : List ℕ) → AreNew made (xs ++ ys) → AreNew (made ++ xs) ys
new_first made xs ys h = record {
  once = each_second xs ys h.once;
  apart = λ k c d. ⊎_elim (λ j. h.apart k j (Contains-append_right xs ys k d)) (λ j. each_apart xs ys h.once k j d) (Contains-append_cases made xs k c);
}

new_both : (made xs ys zs : List ℕ) → AreNew made (xs ++ zs) → AreNew (made ++ xs) ys → AreNew made (xs ++ ys)
new_both made xs ys zs n h = record {
  once = each_both xs ys (each_first xs zs n.once) h.once (λ k c d. h.apart k (Contains-append_right made xs k c) d);
  apart = λ k c d. ⊎_elim (λ j. n.apart k c (Contains-append_left xs zs k j)) (λ j. h.apart k (Contains-append_left made xs k c) j) (Contains-append_cases xs ys k d);
}

module _ (s : Setting) where
  abbrev calls : List BindingId → List ℕ
  calls order = occurrences s.env (paths_in s) order

  -- a binding before a step
  before_one : (bound made more : List ℕ) (b : BindingId) (step : SeenStep) → IsBindable s bound (at (paths_in s) b) (slice_get s.bindings b.0) → AreNew made (occurrence_at s.env (at (paths_in s) b) ++ more)
      → IsLawfulAlone s (bound ++ b.0 ∷ []) (made ++ occurrence_at s.env (at (paths_in s) b)) step → IsLawfulAlone s bound made (b ∷ step.0, step.1)
  before_one bound made more b step one new h =
      let first = occurrence_at s.env (at (paths_in s) b) in
      ((one, h.0), new_both made first (calls step.0) more new h.1, subst (λ ks. IsLawfulControl s (bound_by (bound ++ b.0 ∷ []) step.0) ks step.1 Stop) (append_assoc made first (calls step.0)) h.2, tt)

  -- so if it may be opened
  open_lawful : (o : Option Binding) (bound made more : List ℕ) (b : BindingId) (step : SeenStep) → slice_get s.bindings b.0 ≡ o → IsOpenable s bound (at (paths_in s) b) o → AreNew made (occurrence_at s.env (at (paths_in s) b) ++ more)
      → IsLawfulAlone s (bound ++ b.0 ∷ []) (made ++ occurrence_at s.env (at (paths_in s) b)) step → IsLawfulAlone s bound made (open_one o b step)
  open_lawful (Some (binding.Iterator source)) bound made more b step e one new h =
      (tt, new_none made, (one.fits, record { source = source; is = e; tys = one.tys; list = one.list; bound' = one.bound' }, subst (λ p. IsLawfulAlone s (bound ++ b.0 ∷ []) (made ++ occurrence_at s.env p) step) one.path h), tt)
  open_lawful o bound made more b step e one new h = before_one bound made more b step (subst (IsBindable s bound (at (paths_in s) b)) (sym e) one) new h

  opening_lawful : (order : List BindingId) (c : Control) (bound made : List ℕ) → AreOpenable s bound order → AreNew made (calls order) → IsLawfulControl s (bound_by bound order) (made ++ calls order) c Stop → IsLawfulAlone s bound made (opening s.bindings order c)
  opening_lawful [] c bound made h new k = (tt, new, k, tt)
  opening_lawful (b ∷ order) c bound made h new k =
      let first = occurrence_at s.env (at (paths_in s) b) in
      open_lawful (slice_get s.bindings b.0) bound made (calls order) b (opening s.bindings order c) refl h.0 new
      (opening_lawful order c (bound ++ b.0 ∷ []) (made ++ first) h.1 (new_first made first (calls order) new) (subst (λ ks. IsLawfulControl s (bound_by (bound ++ b.0 ∷ []) order) ks c Stop) (sym (append_assoc made first (calls order))) k))

  -- what may be opened, before what is lawful after it
  pub opened_lawful : (several : Bool) → gives_several s ≡ several → (order : List BindingId) (c : Control) (bound made : List ℕ) → AreOpenable s bound order → AreNew made (calls order) → IsLawfulControl s (bound_by bound order) (made ++ calls order) c Stop
      → IsLawfulAlone s bound made (opened several s.bindings order c)
  opened_lawful true is order c bound made h new k = opening_lawful order c bound made h new k
  opened_lawful false is order c bound made h new k = (all_once_bindable s order bound is h, new, k, tt)

-- ---- loops

-- each item is opened if its list was bound since the last Loop
abbrev pub FreshBy : (list : Option BindingId) → (fresh : List ℕ) → BindingId → (List ℕ → Type 0) → Type 0
FreshBy (Some list) fresh b rest = Contains fresh list.0 × rest []
FreshBy None fresh b rest = rest (fresh ++ b.0 ∷ [])

abbrev pub AreFresh : List Binding → List BindingId → (fresh : List ℕ) → Type 0
AreFresh bs [] fresh = Unit {0}
AreFresh bs (b ∷ order) fresh = FreshBy (list_before (slice_get bs b.0)) fresh b (AreFresh bs order)

-- whatever was bound before
abbrev pub AlwaysFresh : List Binding → List BindingId → Type 0
AlwaysFresh bs order = (fresh : List ℕ) → AreFresh bs order fresh

fresh_by : (list : Option BindingId) (fresh : List ℕ) (b : BindingId) (one more : List ℕ → Type 0) → ((ks : List ℕ) → one ks → more ks) → FreshBy list fresh b one → FreshBy list fresh b more
fresh_by (Some list) fresh b one more f h = (h.0, f [] h.1)
fresh_by None fresh b one more f h = f (fresh ++ b.0 ∷ []) h

fresh_from : (bs : List Binding) (ys : List BindingId) → AlwaysFresh bs ys → (xs : List BindingId) (fresh : List ℕ) → AreFresh bs xs fresh → AreFresh bs (xs ++ ys) fresh
fresh_from bs ys k [] fresh h = k fresh
fresh_from bs ys k (x ∷ xs) fresh h =
    fresh_by (list_before (slice_get bs x.0)) fresh x (AreFresh bs xs) (AreFresh bs (xs ++ ys)) (λ ks g. fresh_from bs ys k xs ks g) h

pub fresh_append : (bs : List Binding) (xs ys : List BindingId) → AlwaysFresh bs xs → AlwaysFresh bs ys → AlwaysFresh bs (xs ++ ys)
fresh_append bs xs ys h k = λ fresh. fresh_from bs ys k xs fresh (h fresh)

-- what is done loops once, whatever was bound before
abbrev pub LoopsAlways : Setting → Control → Type 0
LoopsAlways s c = (fresh : List ℕ) → ControlLoopsOnce s fresh c

module _ (s : Setting) where
  open_loops : (o : Option Binding) (fresh : List ℕ) (b : BindingId) (rest : List ℕ → Type 0) (step : SeenStep) → slice_get s.bindings b.0 ≡ o → FreshBy (list_before o) fresh b rest
      → ((fresh : List ℕ) → rest fresh → LoopsOnce s fresh (alone step)) → LoopsOnce s fresh (alone (open_one o b step))
  open_loops (Some (binding.Iterator source)) fresh b rest step e h k =
      let list : Contains (fresh ++ []) source.0 = subst (λ ks. Contains ks source.0) (sym (append-nil fresh)) h.0 in
      ((subst (λ o. AllByRecursion (Contains (fresh ++ [])) (list_at o)) (sym e) (list, tt), k [] h.1), tt)
  open_loops o fresh b rest step e h k =
      (subst (λ ks. ControlLoopsOnce s ks step.1) (append_assoc fresh (b.0 ∷ []) (map (λ (x : BindingId). x.0) step.0)) (k (fresh ++ b.0 ∷ []) h).0, tt)

  opening_loops : (order : List BindingId) (c : Control) (fresh : List ℕ) → AreFresh s.bindings order fresh → LoopsAlways s c → LoopsOnce s fresh (alone (opening s.bindings order c))
  opening_loops [] c fresh h k = (k (fresh ++ []), tt)
  opening_loops (b ∷ order) c fresh h k =
      open_loops (slice_get s.bindings b.0) fresh b (AreFresh s.bindings order) (opening s.bindings order c) refl h (λ more g. opening_loops order c more g k)

  -- so does its step
  pub opened_loops : (several : Bool) (order : List BindingId) (c : Control) → AlwaysFresh s.bindings order → LoopsAlways s c → (fresh : List ℕ) → LoopsOnce s fresh (alone (opened several s.bindings order c))
  opened_loops true order c h k fresh = opening_loops order c fresh (h fresh) k
  opened_loops false order c h k fresh = (k (fresh ++ map (λ (b : BindingId). b.0) order), tt)
