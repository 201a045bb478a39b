-- Which locals a step of a lawful block binds: what the emitter completes is so, and what is so it completes.
use Rattle.std.proofs.Common.{◌≡◌, ℕ, zero, suc, ◌<◌, List, [], ◌∷◌, ◌++◌, length, Bool, true, false, cond, Option, Some, None, refl, sym, ap, ◌∙◌, subst, arith}
use Rattle.std.specs.Prelude.{slice_get}
use Rattle.std.specs.List.{AllByRecursion}
use Rattle.std.proofs.lemmas.Option.{slice_get_within}
use Rattle.isle_core.specs.declared.BindingId.{BindingId}
use Rattle.isle_core.specs.declared.TypeId.{TypeId}
use Rattle.isle_core.specs.declared.rule_sets.Binding.{Binding}
use Rattle.isle_core.specs.declared.rule_sets.Binding.TheVariants as binding
use Rattle.isle_core.specs.ArmPlaces.{bound_within}
use Rattle.isle_core.specs.Bindable.{IsBindable, AreBindable, bound_by}
use Rattle.isle_core.specs.Block.{Block, Stop, Step, Control, Match, Equal, Loop, Return, Arms, NoArm, Arm}
use Rattle.isle_core.specs.BlockLawful.{Source, AValue, AnOption, IsReadIn, IsLawfulFrom, IsLawfulControl, AreLawfulArms, IsLawfulBlock}
use Rattle.isle_core.specs.Form.{form_types}
use Rattle.isle_core.specs.Path.{at, at_all}
use Rattle.isle_core.specs.PathType.{IsPathOf, ArePathsOf}
use Rattle.isle_core.specs.Readable.{IsReadable, is_bound as bound_read, argument, truth, number, named, made_variant, made_struct, AreReadable, none_read, one_read, AreReadAs}
use Rattle.isle_core.specs.Setting.{Setting, paths_in}
use Rattle.isle_core.proofs.BindingPaths.{paths_there}
use Rattle.isle_simulation.specs.Completed.{local_parts, each_needed, with_parts, needed, needs, read_for, read_by, with_needs, completed_binds, step_binds}
use Rattle.isle_simulation.specs.LocalsOf.{IsNeeded, is_there, in_place, of_parts, AreNeeded, none_needed, one_needed, AreBoundFor, none_bound, one_bound, AreBoundIn}
use Rattle.isle_simulation.specs.Operands.{is_bound}
use Rattle.isle_simulation.proofs.BoundTests.{found}
use Rattle.isle_simulation.proofs.CompletedReady.{variant_made, struct_made, variant_below, struct_below, all_within, all_readable, all_typed, source_needs}
use Rattle.isle_simulation.proofs.OperandsAre.{none_some}
use Rattle.isle_simulation.proofs.CompletedRuns.{HasLocal, needed_local, Adds, adds_none, adds_both, adds_more, adds_with, adds_binds, adds_step, adds_within}

-- ---- what is completed is so

-- so of what is needed to read what may be read
abbrev GivesNeeded : Setting → (bound : List ℕ) → ℕ → (List ℕ → BindingId → List BindingId) → Type 0
GivesNeeded s bound depth one = (more : List ℕ) (b : BindingId) (ty : TypeId) → Adds s bound more → IsReadable s bound b → IsPathOf s.env s.term (at (paths_in s) b) ty → b.0 < depth → IsNeeded s more b (one more b)

each_is : {parts : List BindingId} (s : Setting) (bound : List ℕ) (depth : ℕ) (one : List ℕ → BindingId → List BindingId) (more : List ℕ) (tys : List TypeId) → ((m : List ℕ) (b : BindingId) → AllByRecursion (HasLocal s) (one m b)) → GivesNeeded s bound depth one
    → Adds s bound more → AreReadable s bound parts → ArePathsOf s.env s.term (at_all (paths_in s) parts) tys → AllByRecursion (λ (b : BindingId). b.0 < depth) parts → AreNeeded s more parts (each_needed one more parts)
each_is s bound depth one more [] locals ok a none_read k below = none_needed more
each_is s bound depth one more (ty ∷ tys) locals ok a none_read k below = absurd k
each_is s bound depth one more [] locals ok a (one_read b bs r rs) k below = absurd k
each_is s bound depth one more (ty ∷ tys) locals ok a (one_read b bs r rs) k below =
    let inner = bound_by more (one more b) in
    one_needed more b bs (one more b) (each_needed one inner bs) (ok more b ty a r k.0 below.0)
    (each_is s bound depth one inner tys locals ok (adds_more s (one more b) bound more (locals more b) a) rs k.1 below.1)

spelled_is : (s : Setting) (more : List ℕ) (b : BindingId) (o : Option Binding) (one : List ℕ → BindingId → List BindingId) → is_bound more b ≡ false → slice_get s.bindings b.0 ≡ o → local_parts o ≡ None → IsNeeded s more b (with_parts one more b (local_parts (slice_get s.bindings b.0)))
spelled_is s more b o one is e n = let none = ap local_parts e ∙ n in subst (λ p. IsNeeded s more b (with_parts one more b p)) (sym none) (in_place more b is none)

unbound_is : {b : BindingId} (s : Setting) (bound more : List ℕ) (depth : ℕ) (ty : TypeId) → GivesNeeded s bound depth (needed s depth) → Adds s bound more → is_bound more b ≡ false → IsReadable s bound b → IsPathOf s.env s.term (at (paths_in s) b) ty → b.0 < suc depth
    → IsNeeded s more b (with_parts (needed s depth) more b (local_parts (slice_get s.bindings b.0)))
unbound_is s bound more depth ty ok a is (bound_read b c) k lt = absurd (let bad : false ≡ true = sym is ∙ a.keeps b (found bound b.0 c) in cc)
unbound_is s bound more depth ty ok a is (argument b index e) k lt = spelled_is s more b (Some (binding.Argument index)) (needed s depth) is e refl
unbound_is s bound more depth ty ok a is (truth b val of e) k lt = spelled_is s more b (Some (binding.ConstBool val of)) (needed s depth) is e refl
unbound_is s bound more depth ty ok a is (number b val of e) k lt = spelled_is s more b (Some (binding.ConstInt val of)) (needed s depth) is e refl
unbound_is s bound more depth ty ok a is (named b val e) k lt = spelled_is s more b (Some (binding.ConstPrim val)) (needed s depth) is e refl
unbound_is s bound more depth ty ok a is (made_struct b of [] e r) k lt = spelled_is s more b (Some (binding.MakeStruct of [])) (needed s depth) is e refl
unbound_is s bound more depth ty ok a is (made_variant b of variant fields e r) k lt =
    let x = variant_made s b of variant fields ty e k in
    let h = each_is s bound depth (needed s depth) more (form_types s.env x.f) (needed_local s depth) ok a r x.parts (variant_below s b of variant fields ty depth e k lt) in
    subst (λ p. IsNeeded s more b (with_parts (needed s depth) more b p)) (sym (ap local_parts e))
    (of_parts more b fields (each_needed (needed s depth) more fields) is (ap local_parts e) (variant_below s b of variant fields ty b.0 e k (omega arith)) h)
unbound_is s bound more depth ty ok a is (made_struct b of (f ∷ fs) e r) k lt =
    let fields = f ∷ fs in
    let x = struct_made s b of fields ty e k in
    let h = each_is s bound depth (needed s depth) more (form_types s.env x.f) (needed_local s depth) ok a r x.parts (struct_below s b of fields ty depth e k lt) in
    subst (λ p. IsNeeded s more b (with_parts (needed s depth) more b p)) (sym (ap local_parts e))
    (of_parts more b fields (each_needed (needed s depth) more fields) is (ap local_parts e) (struct_below s b of fields ty b.0 e k (omega arith)) h)

needed_is : (s : Setting) (bound : List ℕ) (depth : ℕ) → GivesNeeded s bound depth (needed s depth)
needed_is s bound zero more b ty a r k lt = absurd (omega (arith, lt))
needed_is s bound (suc depth) more b ty a r k lt = one (is_bound more b) refl (needed_is s bound depth)
  where
    one : (x : Bool) → is_bound more b ≡ x → GivesNeeded s bound depth (needed s depth) → IsNeeded s more b (cond x [] (with_parts (needed s depth) more b (local_parts (slice_get s.bindings b.0))))
    one true is ok = is_there more b is
    one false is ok = unbound_is s bound more depth ty ok a is r k lt

needs_are : (s : Setting) (bound more : List ℕ) (parts : List BindingId) (tys : List TypeId) → Adds s bound more → AreReadable s bound parts → ArePathsOf s.env s.term (at_all (paths_in s) parts) tys → AreNeeded s more parts (needs s more parts)
needs_are s bound more parts tys a r k =
    each_is s bound (length s.bindings) (needed s (length s.bindings)) more tys (needed_local s (length s.bindings)) (needed_is s bound (length s.bindings)) a r k (all_within s parts (paths_there s.env s.term (at_all (paths_in s) parts) tys k))

reads_are : (s : Setting) (bound more : List ℕ) (parts : List BindingId) (tys : List TypeId) → Adds s bound more → AreReadAs s bound parts tys → AreNeeded s more parts (needs s more parts)
reads_are s bound more parts tys a h = needs_are s bound more parts tys a (all_readable s bound parts tys h) (all_typed s bound parts tys h)

-- a bound source needs nothing
source_is : (s : Setting) (more : List ℕ) (source : BindingId) → is_bound more source ≡ true → AreNeeded s more (source ∷ []) (needs s more (source ∷ []))
source_is s more source e = subst (AreNeeded s more (source ∷ [])) (sym (source_needs s more source e)) (one_needed more source [] [] [] (is_there more source e) (none_needed more))

-- so of what a binding is computed from
bind_is : (s : Setting) (bound more : List ℕ) (b : BindingId) (o : Option Binding) → slice_get s.bindings b.0 ≡ o → Adds s bound more → IsBindable s bound (at (paths_in s) b) o → AreNeeded s more (read_for o) (needs s more (read_for o))
bind_is s bound more b (Some (binding.Constructor term parameters instance)) e a is = reads_are s bound more parameters is.called.arg_tys a is.args
bind_is s bound more b (Some (binding.Extractor term parameter)) e a is = reads_are s bound more (parameter ∷ []) (is.called.ret_ty ∷ []) a (is.arg, tt)
bind_is s bound more b (Some (binding.MatchSome source)) e a is = source_is s more source (a.keeps source (found bound source.0 is.bound'))
bind_is s bound more b (Some (binding.MatchTuple source field)) e a is = source_is s more source (a.keeps source (found bound source.0 is.bound'))
bind_is s bound more b (Some (binding.Argument index)) e a is = none_needed more
bind_is s bound more b (Some (binding.ConstBool val ty)) e a is = none_needed more
bind_is s bound more b (Some (binding.ConstInt val ty)) e a is = none_needed more
bind_is s bound more b (Some (binding.ConstPrim val)) e a is = none_needed more
bind_is s bound more b (Some (binding.MakeVariant of variant fields)) e a is =
    let x = variant_made s b of variant fields is.ty e is.path in
    needs_are s bound more fields (form_types s.env x.f) a is.parts x.parts
bind_is s bound more b (Some (binding.MakeStruct of fields)) e a is =
    let x = struct_made s b of fields is.ty e is.path in
    needs_are s bound more fields (form_types s.env x.f) a is.parts x.parts
bind_is s bound more b o e a is = absurd is

binds_are : (s : Setting) (binds : List BindingId) (bound more : List ℕ) → Adds s bound more → AreBindable s bound binds → AreBoundFor s more binds (completed_binds s more binds)
binds_are s [] bound more a h = none_bound more
binds_are s (b ∷ binds) bound more a h =
    one_bound more b binds (needs s more (read_for (slice_get s.bindings b.0))) (completed_binds s (bound_by more (with_needs s more b)) binds)
    (bind_is s bound more b (slice_get s.bindings b.0) refl a h.0)
    (binds_are s binds (bound ++ b.0 ∷ []) (bound_by more (with_needs s more b)) (adds_with s bound more b a) h.1)

-- so of what a step reads
read_is : (s : Setting) (bound more made : List ℕ) (c : Control) (rest : Block) → Adds s bound more → IsLawfulControl s bound made c rest → AreNeeded s more (read_by c) (needs s more (read_by c))
read_is s bound more made (Match source arms) rest a k = over k.1.0 k.1.1
  where
    over : (of : Source) → IsReadIn s bound source of → AreNeeded s more (source ∷ []) (needs s more (source ∷ []))
    over (AValue ty) h = reads_are s bound more (source ∷ []) (ty ∷ []) a (h, tt)
    over (AnOption tys) h = source_is s more source (a.keeps source (found bound source.0 h.bound'))
read_is s bound more made (Equal x y body) rest a k = reads_are s bound more (x ∷ y ∷ []) (k.0.0 ∷ k.0.0 ∷ []) a (k.0.1, (k.0.2, tt))
read_is s bound more made (Loop result body) rest a k = none_needed more
read_is s bound more made (Return pos result) rest a k = reads_are s bound more (result ∷ []) (s.term.ret_ty ∷ []) a (k.0, tt)

-- the locals of each step of a block are those that it binds, these being bound before it
abbrev mutual
  pub HasLocals : Setting → List ℕ → Block → Type 0
  HasLocals s more Stop = Unit {0}
  HasLocals s more (Step binds c rest) = AreBoundIn s more binds c (step_binds s more binds c) × ControlHasLocals s (bound_by more (step_binds s more binds c)) c × HasLocals s (bound_by more (step_binds s more binds c)) rest

  pub ControlHasLocals : Setting → List ℕ → Control → Type 0
  ControlHasLocals s more (Match source arms) = ArmsHaveLocals s more arms
  ControlHasLocals s more (Equal a b body) = HasLocals s more body
  ControlHasLocals s more (Loop result body) = HasLocals s (more ++ result.0 ∷ []) body
  ControlHasLocals s more (Return pos result) = Unit {0}

  pub ArmsHaveLocals : Setting → List ℕ → Arms → Type 0
  ArmsHaveLocals s more NoArm = Unit {0}
  ArmsHaveLocals s more (Arm c places body arms) = HasLocals s (bound_within more places) body × ArmsHaveLocals s more arms

mutual
  block_has : (b : Block) (s : Setting) (bound more made : List ℕ) → Adds s bound more → IsLawfulFrom s bound made b → HasLocals s more b
  block_has Stop s bound more made a k = tt
  block_has (Step binds c rest) s bound more made a k =
      let xs = completed_binds s more binds in
      let inner = adds_step s binds c bound more a in (
        record { first = xs; last = needs s (bound_by more xs) (read_by c); ordered = binds_are s binds bound more a k.0; read = read_is s (bound_by bound binds) (bound_by more xs) _ c rest (adds_binds s binds bound more a) k.2; are = refl },
        control_has c s (bound_by bound binds) (bound_by more (step_binds s more binds c)) _ rest inner k.2,
        block_has rest s (bound_by bound binds) (bound_by more (step_binds s more binds c)) _ inner k.3,
      )

  control_has : (c : Control) (s : Setting) (bound more made : List ℕ) (rest : Block) → Adds s bound more → IsLawfulControl s bound made c rest → ControlHasLocals s more c
  control_has (Match source arms) s bound more made rest a k = arms_have arms s bound more made source k.1.0 a k.1.2
  control_has (Equal x y body) s bound more made rest a k = block_has body s bound more made a k.1
  control_has (Loop result body) s bound more made rest a k = block_has body s (bound ++ result.0 ∷ []) (more ++ result.0 ∷ []) made (adds_both s bound more result a) k.2
  control_has (Return pos result) s bound more made rest a k = tt

  arms_have : (arms : Arms) (s : Setting) (bound more made : List ℕ) (source : BindingId) (over : Source) → Adds s bound more → AreLawfulArms s bound made source over arms → ArmsHaveLocals s more arms
  arms_have NoArm s bound more made source over a k = tt
  arms_have (Arm c places body arms) s bound more made source over a k =
      (block_has body s (bound_within bound places) (bound_within more places) made (adds_within s places bound more a) k.2, arms_have arms s bound more made source over a k.3)

-- a lawful block has its locals, from where nothing is bound
pub lawful_has_locals : (s : Setting) (b : Block) → IsLawfulBlock s b → HasLocals s [] b
lawful_has_locals s b h = block_has b s [] [] [] (adds_none s []) h.from

-- ---- what is so is completed

-- a made value with parts has a number below the depth
abbrev IsShallow : Setting → ℕ → BindingId → Type 0
IsShallow s depth b = (parts : List BindingId) → local_parts (slice_get s.bindings b.0) ≡ Some parts → b.0 < depth

shallow_all : (s : Setting) (depth : ℕ) (bs : List BindingId) → AllByRecursion (λ (p : BindingId). p.0 < depth) bs → AllByRecursion (IsShallow s depth) bs
shallow_all s depth [] h = tt
shallow_all s depth (b ∷ bs) h = ((λ parts e. h.0), shallow_all s depth bs h.1)

lower : (m n : ℕ) (bs : List BindingId) → m < suc n → AllByRecursion (λ (p : BindingId). p.0 < m) bs → AllByRecursion (λ (p : BindingId). p.0 < n) bs
lower m n [] lt h = tt
lower m n (b ∷ bs) lt h = (let k = h.0 in omega (arith, k, lt), lower m n bs lt h.1)

mutual
  needed_found : {bound : List ℕ} {b : BindingId} {xs : List BindingId} (s : Setting) (depth : ℕ) → IsNeeded s bound b xs → IsShallow s depth b → needed s depth bound b ≡ xs
  needed_found s zero (is_there bound b is) h = refl
  needed_found s (suc depth) (is_there bound b is) h = ap (λ x. cond x [] (with_parts (needed s depth) bound b (local_parts (slice_get s.bindings b.0)))) is
  needed_found s zero (in_place bound b is none) h = refl
  needed_found s (suc depth) (in_place bound b is none) h =
      ap (λ x. cond x [] (with_parts (needed s depth) bound b (local_parts (slice_get s.bindings b.0)))) is ∙ ap (with_parts (needed s depth) bound b) none
  needed_found s zero (of_parts bound b parts xs is some below k) h = absurd (let lt = h parts some in omega (arith, lt))
  needed_found s (suc depth) (of_parts bound b parts xs is some below k) h =
      ap (λ x. cond x [] (with_parts (needed s depth) bound b (local_parts (slice_get s.bindings b.0)))) is ∙ ap (with_parts (needed s depth) bound b) some
      ∙ ap (λ ys. ys ++ b ∷ []) (each_found s depth k (shallow_all s depth parts (lower b.0 depth parts (h parts some) below)))

  each_found : {bound : List ℕ} {bs xs : List BindingId} (s : Setting) (depth : ℕ) → AreNeeded s bound bs xs → AllByRecursion (IsShallow s depth) bs → each_needed (needed s depth) bound bs ≡ xs
  each_found s depth (none_needed bound) h = refl
  each_found s depth (one_needed bound b bs xs ys k ks) h =
      ap (λ zs. zs ++ each_needed (needed s depth) (bound_by bound zs) bs) (needed_found s depth k h.0) ∙ ap (λ zs. xs ++ zs) (each_found s depth ks h.1)

-- no made value has a number beyond the bindings
shallow : (s : Setting) (b : BindingId) → IsShallow s (length s.bindings) b
shallow s b parts e = one (slice_get s.bindings b.0) refl e
  where
    one : (o : Option Binding) → slice_get s.bindings b.0 ≡ o → local_parts o ≡ Some parts → b.0 < length s.bindings
    one (Some x) there is = slice_get_within s.bindings b.0 x there
    one None there is = absurd (none_some parts is)

all_shallow : (s : Setting) (bs : List BindingId) → AllByRecursion (IsShallow s (length s.bindings)) bs
all_shallow s [] = tt
all_shallow s (b ∷ bs) = (shallow s b, all_shallow s bs)

needs_found : {bound : List ℕ} {bs xs : List BindingId} (s : Setting) → AreNeeded s bound bs xs → needs s bound bs ≡ xs
needs_found {bs = bs} s h = each_found s (length s.bindings) h (all_shallow s bs)

binds_found : (s : Setting) {bound : List ℕ} {binds xs : List BindingId} → AreBoundFor s bound binds xs → completed_binds s bound binds ≡ xs
binds_found s (none_bound bound) = refl
binds_found s (one_bound bound b bs ns others h k) =
    ap (λ zs. (zs ++ b ∷ []) ++ completed_binds s (bound_by bound (zs ++ b ∷ [])) bs) (needs_found s h) ∙ ap (λ zs. (ns ++ b ∷ []) ++ zs) (binds_found s k)

-- so of a step
pub step_found : (s : Setting) (bound : List ℕ) (binds : List BindingId) (c : Control) (all : List BindingId) → AreBoundIn s bound binds c all → step_binds s bound binds c ≡ all
step_found s bound binds c all h =
    ap (λ zs. zs ++ needs s (bound_by bound zs) (read_by c)) (binds_found s h.ordered) ∙ ap (λ zs. h.first ++ zs) (needs_found s h.read) ∙ sym h.are
