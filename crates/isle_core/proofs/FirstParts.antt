-- The firsts of calls add what all calls add.
use Rattle.std.proofs.Common.{◌≡◌, ⊎_elim, List, ◌∷◌, true, cond, refl, sym, ap, ◌∙◌, subst}
use Rattle.std.specs.Prelude.{◌||◌, Contains}
use mathlib.Core.Path.{fun_ext}
use Rattle.isle_core.specs.Calling.{calling, answers_often, is_fallible}
use Rattle.isle_core.specs.CallRun.{make}
use Rattle.isle_core.specs.Meaning.{Meaning}
use Rattle.isle_core.specs.Parts.{Given}
use Rattle.isle_core.specs.Path.{Path, Nowhere, Arg, ConstBool, ConstInt, ConstPrim, Extracted, Called, Chosen, MadeVariant, MadeStruct, VariantField, StructField, Wrapped, Inner, Part}
use Rattle.isle_core.specs.Rule.{Environment}
use Rattle.isle_core.specs.SeveralRun.{behind_calls, on_items}
use Rattle.isle_core.specs.SeveralSet.{is_among, Rest, behind_answer, behind_call, behind_ordered}
use Rattle.isle_core.specs.StandsFor.{AreFirsts, no_more, again, first}
use Rattle.isle_core.specs.Value.{Value}
use Rattle.isle_core.specs.ValueAt.{Known, value_at, is_found}
use Rattle.isle_core.proofs.Contained.{contained_cases}
use Rattle.isle_core.proofs.SamePathLaws.{same_self}
use Rattle.isle_core.proofs.TakenItems.{GoesThrough, through_self, through_more, by_truth}

-- a call at this path is made
abbrev pub IsMade : List Path → Path → Type 0
IsMade done (Called term ps k) = is_among (Called term ps k) done ≡ true
IsMade done p = Unit {0}

made_on : (p : Path) (done later : List Path) → GoesThrough done later → IsMade done p → IsMade later p
made_on (Called term ps k) done later g h = g.by (Called term ps k) h
made_on p done later g h = tt

self_made : (p : Path) (done : List Path) → IsMade (p ∷ done) p
self_made (Called term ps k) done = ap (λ b. b || is_among (Called term ps k) done) (same_self (Called term ps k))
self_made p done = tt

module _ (env : Environment) (m : Meaning) (args : List Value) where
  -- one that is made is passed over
  made_passes : (p : Path) (done : List Path) (known : Known) (g : Given) (rest : Rest) → IsMade done p → behind_call env m args p done known g rest ≡ rest done known g
  made_passes (Called term ps k) done known g rest h =
      let p = Called term ps k in
      ap (λ b. cond b (rest done known g) (behind_calls (make env m args p known g.calls) g (λ now so. behind_answer (calling env term) p (value_at env m args now p) (p ∷ done) now so rest))) h
  made_passes p done known g rest h = refl

  -- a call, and what is alike after it
  call_alike : (p : Path) (done : List Path) (known : Known) (g : Given) (one other : Rest) → ((later : List Path) (now : Known) (so : Given) → GoesThrough done later → IsMade later p → one later now so ≡ other later now so)
      → behind_call env m args p done known g one ≡ behind_call env m args p done known g other
  call_alike (Called term ps k) done known g one other h =
      let p = Called term ps k in
      let go : (Known → Given → Given) → Given = λ f. behind_calls (make env m args p known g.calls) g
      (λ now so. cond (answers_often (calling env term)) (on_items p (value_at env m args now p) now so f) (cond (is_fallible (calling env term)) (cond (is_found (value_at env m args now p)) (f now so) so) (f now so))) in
      by_truth (is_among p done)
      (λ made. made_passes p done known g one made ∙ h done known g (through_self done) made ∙ sym (made_passes p done known g other made))
      (λ new.
      ap (λ b. cond b (one done known g) (go (one (p ∷ done)))) new ∙ ap go (fun_ext (λ now. fun_ext (λ so. h (p ∷ done) now so (through_more p done) (self_made p done))))
      ∙ sym (ap (λ b. cond b (other done known g) (go (other (p ∷ done)))) new))
  call_alike Nowhere done known g one other h = h done known g (through_self done) tt
  call_alike (Arg i) done known g one other h = h done known g (through_self done) tt
  call_alike (ConstBool ty b) done known g one other h = h done known g (through_self done) tt
  call_alike (ConstInt ty n) done known g one other h = h done known g (through_self done) tt
  call_alike (ConstPrim name) done known g one other h = h done known g (through_self done) tt
  call_alike (Extracted term q) done known g one other h = h done known g (through_self done) tt
  call_alike (Chosen q) done known g one other h = h done known g (through_self done) tt
  call_alike (MadeVariant ty variant qs) done known g one other h = h done known g (through_self done) tt
  call_alike (MadeStruct ty qs) done known g one other h = h done known g (through_self done) tt
  call_alike (VariantField variant field q) done known g one other h = h done known g (through_self done) tt
  call_alike (StructField field q) done known g one other h = h done known g (through_self done) tt
  call_alike (Wrapped q) done known g one other h = h done known g (through_self done) tt
  call_alike (Inner q) done known g one other h = h done known g (through_self done) tt
  call_alike (Part part q) done known g one other h = h done known g (through_self done) tt

  -- all calls, and their firsts
  pub firsts_add_all : {seen xs ys : List Path} → AreFirsts seen xs ys → (done : List Path) (known : Known) (g : Given) (rest : Rest) → ((q : Path) → Contains seen q → IsMade done q)
      → behind_ordered env m args xs done known g rest ≡ behind_ordered env m args ys done known g rest
  firsts_add_all (no_more seen) done known g rest made = refl
  firsts_add_all (again seen x xs ys there more) done known g rest made =
      made_passes x done known g (λ later now so. behind_ordered env m args xs later now so rest) (made x there) ∙ firsts_add_all more done known g rest made
  firsts_add_all (first seen x xs ys new more) done known g rest made =
      call_alike x done known g (λ later now so. behind_ordered env m args xs later now so rest) (λ later now so. behind_ordered env m args ys later now so rest)
      (λ later now so through here. firsts_add_all more later now so rest
      (λ q c. ⊎_elim (λ (e : x ≡ q). subst (IsMade later) e here) (λ d. made_on q done later through (made q d)) (contained_cases x seen q c)))
