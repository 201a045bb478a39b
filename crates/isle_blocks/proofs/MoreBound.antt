-- What is lawful stays so if more is bound.
use Rattle.std.proofs.Common.{⊎_elim, ℕ, List, [], ◌∷◌, ◌++◌, Option, Some, None, subst}
use Rattle.std.specs.Prelude.{Contains, slice_get}
use Rattle.std.proofs.lemmas.List.Elements.{Contains-push, Contains-push_cases, Contains-append_left}
use Rattle.isle_core.specs.declared.BindingId.{BindingId}
use Rattle.isle_core.specs.declared.TypeId.{TypeId}
use Rattle.isle_core.specs.declared.rule_sets.Binding.{Binding}
use Rattle.isle_core.specs.declared.rule_sets.Binding.TheVariants as binding
use Rattle.isle_core.specs.ArmPlaces.{bound_within}
use Rattle.isle_core.specs.Bindable.{IsBindable, AreBindable, bound_by}
use Rattle.isle_core.specs.Block.{Block, Stop, Step, Control, Match, Equal, Loop, Return, Arms, NoArm, Arm}
use Rattle.isle_core.specs.BlockLawful.{Source, AValue, AnOption, IsReadIn, IsLawfulFrom, IsLawfulControl, AreLawfulArms}
use Rattle.isle_core.specs.Path.{Path, at}
use Rattle.isle_core.specs.Readable.{IsReadable, is_bound, argument, truth, number, named, made_variant, made_struct, AreReadable, none_read, one_read, IsReadAs, AreReadAs}
use Rattle.isle_core.specs.Setting.{Setting, paths_in}

-- ---- what is bound

-- each that is bound is bound there as well
abbrev pub Keeps : List ℕ → List ℕ → Type 0
Keeps bound more = (n : ℕ) → Contains bound n → Contains more n

keeps_push : (bound more : List ℕ) (k : ℕ) → Keeps bound more → Keeps (bound ++ k ∷ []) (more ++ k ∷ [])
keeps_push bound more k h n c = ⊎_elim (λ j. Contains-append_left more (k ∷ []) n (h n j)) (λ e. subst (Contains (more ++ k ∷ [])) e (Contains-push more k)) (Contains-push_cases bound k n c)

-- after a bind order
pub by_kept : (bs : List BindingId) (bound : List ℕ) → Keeps bound (bound_by bound bs)
by_kept [] bound n c = c
by_kept (b ∷ bs) bound n c = by_kept bs (bound ++ b.0 ∷ []) n (Contains-append_left bound (b.0 ∷ []) n c)

keeps_by : (bs : List BindingId) (bound more : List ℕ) → Keeps bound more → Keeps (bound_by bound bs) (bound_by more bs)
keeps_by [] bound more h = h
keeps_by (b ∷ bs) bound more h = keeps_by bs (bound ++ b.0 ∷ []) (more ++ b.0 ∷ []) (keeps_push bound more b.0 h)

keeps_within : (places : List (Option BindingId)) (bound more : List ℕ) → Keeps bound more → Keeps (bound_within bound places) (bound_within more places)
keeps_within [] bound more h = h
keeps_within (None ∷ places) bound more h = keeps_within places bound more h
keeps_within (Some b ∷ places) bound more h = keeps_within places (bound ++ b.0 ∷ []) (more ++ b.0 ∷ []) (keeps_push bound more b.0 h)

-- ---- what may be read

mutual
  pub still_read : {b : BindingId} (s : Setting) (bound more : List ℕ) → Keeps bound more → IsReadable s bound b → IsReadable s more b
  still_read s bound more h (is_bound b c) = is_bound b (h b.0 c)
  still_read s bound more h (argument b index e) = argument b index e
  still_read s bound more h (truth b val ty e) = truth b val ty e
  still_read s bound more h (number b val ty e) = number b val ty e
  still_read s bound more h (named b val e) = named b val e
  still_read s bound more h (made_variant b ty variant fields e r) = made_variant b ty variant fields e (all_still_read s bound more h r)
  still_read s bound more h (made_struct b ty fields e r) = made_struct b ty fields e (all_still_read s bound more h r)

  all_still_read : {bs : List BindingId} (s : Setting) (bound more : List ℕ) → Keeps bound more → AreReadable s bound bs → AreReadable s more bs
  all_still_read s bound more h none_read = none_read
  all_still_read s bound more h (one_read b bs r rs) = one_read b bs (still_read s bound more h r) (all_still_read s bound more h rs)

still_read_as : (s : Setting) (bound more : List ℕ) (b : BindingId) (ty : TypeId) → Keeps bound more → IsReadAs s bound b ty → IsReadAs s more b ty
still_read_as s bound more b ty h k = record { path = k.path; read = still_read s bound more h k.read }

all_still_read_as : (s : Setting) (bound more : List ℕ) (bs : List BindingId) (tys : List TypeId) → Keeps bound more → AreReadAs s bound bs tys → AreReadAs s more bs tys
all_still_read_as s bound more [] [] h k = tt
all_still_read_as s bound more (b ∷ bs) (ty ∷ tys) h k = (still_read_as s bound more b ty h k.0, all_still_read_as s bound more bs tys h k.1)
all_still_read_as s bound more [] (ty ∷ tys) h k = absurd k
all_still_read_as s bound more (b ∷ bs) [] h k = absurd k

-- ---- what may be bound

still_bindable : (s : Setting) (bound more : List ℕ) (p : Path) (o : Option Binding) → Keeps bound more → IsBindable s bound p o → IsBindable s more p o
still_bindable s bound more p (Some (binding.Constructor term parameters instance)) h k = record {
  path = k.path;
  called = k.called;
  found = k.found;
  args = all_still_read_as s bound more parameters k.called.arg_tys h k.args;
  kind = k.kind;
  external = k.external;
}
still_bindable s bound more p (Some (binding.Extractor term parameter)) h k = record {
  path = k.path;
  called = k.called;
  found = k.found;
  arg = still_read_as s bound more parameter k.called.ret_ty h k.arg;
  kind = k.kind;
  external = k.external;
}
still_bindable s bound more p (Some (binding.MatchSome source)) h k = record { path = k.path; tys = k.tys; option = k.option; bound' = h source.0 k.bound'; fits = k.fits }
still_bindable s bound more p (Some (binding.MatchTuple source field)) h k = record { path = k.path; tys = k.tys; tuple = k.tuple; ty = k.ty; there = k.there; bound' = h source.0 k.bound' }
still_bindable s bound more p (Some (binding.MakeVariant ty variant fields)) h k = record { ty = k.ty; path = k.path; parts = all_still_read s bound more h k.parts }
still_bindable s bound more p (Some (binding.MakeStruct ty fields)) h k = record { ty = k.ty; path = k.path; parts = all_still_read s bound more h k.parts }
still_bindable s bound more p (Some (binding.Argument index)) h k = k
still_bindable s bound more p (Some (binding.ConstBool val ty)) h k = k
still_bindable s bound more p (Some (binding.ConstInt val ty)) h k = k
still_bindable s bound more p (Some (binding.ConstPrim val)) h k = k
still_bindable s bound more p o h k = absurd k

all_still_bindable : (s : Setting) (bs : List BindingId) (bound more : List ℕ) → Keeps bound more → AreBindable s bound bs → AreBindable s more bs
all_still_bindable s [] bound more h k = tt
all_still_bindable s (b ∷ bs) bound more h k =
    (still_bindable s bound more (at (paths_in s) b) (slice_get s.bindings b.0) h k.0, all_still_bindable s bs (bound ++ b.0 ∷ []) (more ++ b.0 ∷ []) (keeps_push bound more b.0 h) k.1)

-- ---- blocks

still_read_in : (s : Setting) (bound more : List ℕ) (b : BindingId) (over : Source) → Keeps bound more → IsReadIn s bound b over → IsReadIn s more b over
still_read_in s bound more b (AValue ty) h k = still_read_as s bound more b ty h k
still_read_in s bound more b (AnOption ty) h k = record { path = k.path; bound' = h b.0 k.bound' }

mutual
  pub still_lawful : (b : Block) (s : Setting) (bound more made : List ℕ) → Keeps bound more → IsLawfulFrom s bound made b → IsLawfulFrom s more made b
  still_lawful Stop s bound more made h k = tt
  still_lawful (Step bs c rest) s bound more made h k =
      let inside = keeps_by bs bound more h in
      (all_still_bindable s bs bound more h k.0, k.1, still_control c rest s (bound_by bound bs) (bound_by more bs) _ inside k.2, still_lawful rest s (bound_by bound bs) (bound_by more bs) _ inside k.3)

  still_control : (c : Control) (rest : Block) (s : Setting) (bound more made : List ℕ) → Keeps bound more → IsLawfulControl s bound made c rest → IsLawfulControl s more made c rest
  still_control (Match source arms) rest s bound more made h k = (k.0, (k.1.0, still_read_in s bound more source k.1.0 h k.1.1, still_arms arms s source k.1.0 bound more made h k.1.2))
  still_control (Equal a b body) rest s bound more made h k = ((k.0.0, still_read_as s bound more a k.0.0 h k.0.1, still_read_as s bound more b k.0.0 h k.0.2), still_lawful body s bound more made h k.1)
  still_control (Loop result body) rest s bound more made h k =
      (k.0, record { source = k.1.source; is = k.1.is; tys = k.1.tys; list = k.1.list; bound' = h k.1.source.0 k.1.bound' }, still_lawful body s (bound ++ result.0 ∷ []) (more ++ result.0 ∷ []) made (keeps_push bound more result.0 h) k.2)
  still_control (Return pos result) rest s bound more made h k = (still_read_as s bound more result s.term.ret_ty h k.0, k.1)

  still_arms : (arms : Arms) (s : Setting) (source : BindingId) (over : Source) (bound more made : List ℕ) → Keeps bound more → AreLawfulArms s bound made source over arms → AreLawfulArms s more made source over arms
  still_arms NoArm s source over bound more made h k = tt
  still_arms (Arm c places body arms) s source over bound more made h k =
      (k.0, k.1, still_lawful body s (bound_within bound places) (bound_within more places) made (keeps_within places bound more h) k.2, still_arms arms s source over bound more made h k.3)
