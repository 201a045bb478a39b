-- In a completed block all that is read is ready.
use Rattle.std.proofs.Common.{◌≡◌, ◌⊎◌, inl, inr, ℕ, zero, suc, ◌<◌, List, [], ◌∷◌, ◌++◌, length, get_or, Bool, true, false, cond, eqb, Option, Some, None, refl, sym, ap, ◌∙◌, subst, take, arith}
use Rattle.std.specs.Prelude.{◌||◌, IsSomeAnd, Contains, slice_get}
use Rattle.std.specs.List.{AllByRecursion, list_any}
use Rattle.std.proofs.lemmas.Bool.{eq-eqb, eqb-true}
use Rattle.std.proofs.lemmas.Option.{slice_get_within}
use Rattle.isle_core.specs.declared.BindingId.{BindingId}
use Rattle.isle_core.specs.declared.TypeId.{TypeId}
use Rattle.isle_core.specs.declared.rule_sets.Binding.{Binding}
use Rattle.isle_core.specs.declared.rule_sets.Binding.TheVariants as binding
use Rattle.isle_core.specs.ArmPlaces.{bound_within}
use Rattle.isle_core.specs.Bindable.{IsBindable, AreBindable, bound_by}
use Rattle.isle_core.specs.Block.{Block, Stop, Step, Control, Match, Equal, Loop, Return, Arms, NoArm, Arm}
use Rattle.isle_core.specs.BlockLawful.{Source, AValue, AnOption, IsReadIn, HasArm, IsLawfulFrom, IsLawfulControl, AreLawfulArms, IsLawfulBlock}
use Rattle.isle_core.specs.Form.{Form, form, form_types}
use Rattle.isle_core.specs.Making.{Making, MakesVariant, MakesStruct}
use Rattle.isle_core.specs.Occurrences.{AreNew, occurrences, after_control}
use Rattle.isle_core.specs.Path.{Path, Paths, Nowhere, MadeVariant, MadeStruct, at, at_all}
use Rattle.isle_core.specs.PathType.{IsPathOf, ArePathsOf}
use Rattle.isle_core.specs.Readable.{IsReadable, is_bound as bound_read, argument, truth, number, named, made_variant, made_struct, AreReadable, none_read, one_read, AreReadAs}
use Rattle.isle_core.specs.Setting.{Setting, gives_several, paths_in}
use Rattle.isle_core.proofs.BindingPaths.{IsThere, AreThere, HasParts, at_before, path_at, binding_at, paths_there, typed_parts}
use Rattle.isle_simulation.specs.Completed.{local_parts, each_needed, with_parts, needed, needs, read_for, read_by, with_needs, completed_binds, step_binds, completed, completed_control, completed_arms}
use Rattle.isle_simulation.specs.Operands.{is_bound}
use Rattle.isle_simulation.proofs.BoundTests.{found}
use Rattle.isle_simulation.proofs.CompletedRuns.{HasLocal, needed_local, needs_local, step_occurrences, after_control_same, Adds, adds_none, bound_push, adds_both, adds_more, bound_by-append, adds_with, adds_binds, adds_step, adds_within}
use Rattle.isle_simulation.proofs.Ready.{IsSpelled, IsReadyIn, AreReady, IsMadeReady, IsReadyBind, AreReadyBinds, IsReadyFrom, IsReadyControl, AreReadyArms}

-- ---- bind orders after one another

pub ready_append : (s : Setting) (xs ys : List BindingId) (bound : List ℕ) → AreReadyBinds s bound xs → AreReadyBinds s (bound_by bound xs) ys → AreReadyBinds s bound (xs ++ ys)
ready_append s [] ys bound h k = k
ready_append s (x ∷ xs) ys bound h k = (h.0, ready_append s xs ys (bound ++ x.0 ∷ []) h.1 k)

still_bound : (xs : List BindingId) (bound : List ℕ) (b : BindingId) → is_bound bound b ≡ true → is_bound (bound_by bound xs) b ≡ true
still_bound [] bound b e = e
still_bound (x ∷ xs) bound b e = still_bound xs (bound ++ x.0 ∷ []) b (bound_push bound x b ∙ ap (λ y. y || eqb x.0 b.0) e)

pub last_bound : (bound : List ℕ) (b : BindingId) → is_bound (bound ++ b.0 ∷ []) b ≡ true
last_bound bound b = bound_push bound b b ∙ ap (λ y. is_bound bound b || y) (eq-eqb b.0 b.0 refl) ∙ or_true (is_bound bound b)
  where
    or_true : (x : Bool) → (x || true) ≡ true
    or_true true = refl
    or_true false = refl

pub contained : (ls : List ℕ) (n : ℕ) → list_any (λ m. eqb m n) ls ≡ true → Contains ls n
contained [] n e = absurd cc
contained (l ∷ ls) n e = one (eqb l n) refl e (λ k. contained ls n k)
  where
    one : (x : Bool) → eqb l n ≡ x → (x || list_any (λ m. eqb m n) ls) ≡ true → (list_any (λ m. eqb m n) ls ≡ true → Contains ls n) → Contains (l ∷ ls) n
    one true is h rest = (zero, omega arith, eqb-true l n is)
    one false is h rest = let c = rest h in (suc c.0, omega (arith, c.1), c.2)

-- ---- what is needed is bound in order

-- a binding has a local there or is spelled
abbrev IsPlaced : Setting → List ℕ → BindingId → Type 0
IsPlaced s bound b = (is_bound bound b ≡ true) ⊎ IsSpelled (at (paths_in s) b)

-- the bindings may be bound in order, and then this one is ready
record OneReady (s : Setting) (more : List ℕ) (b : BindingId) (bs : List BindingId) : Type 0 where
  binds : AreReadyBinds s more bs
  place : IsPlaced s (bound_by more bs) b

-- and then all of these are
record EachReady (s : Setting) (more : List ℕ) (parts : List BindingId) (tys : List TypeId) (bs : List BindingId) : Type 0 where
  binds : AreReadyBinds s more bs
  ready : AreReady s (bound_by more bs) parts tys

-- what makes a binding ready that may be read
abbrev MakesReady : Setting → (bound : List ℕ) → ℕ → (List ℕ → BindingId → List BindingId) → Type 0
MakesReady s bound depth one = (more : List ℕ) (b : BindingId) (ty : TypeId) → Adds s bound more → IsReadable s bound b → IsPathOf s.env s.term (at (paths_in s) b) ty → b.0 < depth → OneReady s more b (one more b)

still_placed : (s : Setting) (xs : List BindingId) (more : List ℕ) (b : BindingId) → IsPlaced s more b → IsPlaced s (bound_by more xs) b
still_placed s xs more b (inl e) = inl (still_bound xs more b e)
still_placed s xs more b (inr k) = inr k

each_ready : {parts : List BindingId} (s : Setting) (bound : List ℕ) (depth : ℕ) (one : List ℕ → BindingId → List BindingId) (more : List ℕ) (tys : List TypeId) → ((m : List ℕ) (b : BindingId) → AllByRecursion (HasLocal s) (one m b)) → MakesReady s bound depth one
    → Adds s bound more → AreReadable s bound parts → ArePathsOf s.env s.term (at_all (paths_in s) parts) tys → AllByRecursion (λ (b : BindingId). b.0 < depth) parts → EachReady s more parts tys (each_needed one more parts)
each_ready s bound depth one more [] locals ok a none_read k below = record { binds = tt; ready = tt }
each_ready s bound depth one more (ty ∷ tys) locals ok a none_read k below = absurd k
each_ready s bound depth one more [] locals ok a (one_read b bs r rs) k below = absurd k
each_ready s bound depth one more (ty ∷ tys) locals ok a (one_read b bs r rs) k below =
    let xs = one more b in
    let h = ok more b ty a r k.0 below.0 in
    let inner = bound_by more xs in
    let rest = each_ready s bound depth one inner tys locals ok (adds_more s xs bound more (locals more b) a) rs k.1 below.1 in
    let ys = each_needed one inner bs in
    record {
      binds = ready_append s xs ys more h.binds rest.binds;
      ready = subst (λ m. AreReady s m (b ∷ bs) (ty ∷ tys)) (sym (bound_by-append xs ys more)) (record { path = k.0; place = still_placed s ys inner b h.place }, rest.ready);
    }

-- ---- parts stand before what is made of them

below_there : (ps : List Path) (n i : ℕ) → IsThere (get_or (take n ps) i Nowhere) → i < n
below_there ps zero i h = absurd h
below_there [] (suc n) i h = absurd h
below_there (p ∷ ps) (suc n) zero h = omega arith
below_there (p ∷ ps) (suc n) (suc i) h = let r = below_there ps n i h in omega (arith, r)

all_below : (ps : List Path) (n depth : ℕ) (bs : List BindingId) → n < suc depth → AreThere (at_all (take n ps) bs) → AllByRecursion (λ (b : BindingId). b.0 < depth) bs
all_below ps n depth [] lt h = tt
all_below ps n depth (b ∷ bs) lt h = let r = below_there ps n b.0 h.0 in (omega (arith, r, lt), all_below ps n depth bs lt h.1)

within : (s : Setting) (b : BindingId) → IsThere (at (paths_in s) b) → b.0 < length s.bindings
within s b h = let x = binding_at s.bindings b h in slice_get_within s.bindings b.0 x.0 x.1

pub all_within : (s : Setting) (bs : List BindingId) → AreThere (at_all (paths_in s) bs) → AllByRecursion (λ (b : BindingId). b.0 < length s.bindings) bs
all_within s [] h = tt
all_within s (b ∷ bs) h = (within s b h.0, all_within s bs h.1)

-- ---- a made value

-- a made value of a type, over its parts
pub record IsMade (s : Setting) (b : BindingId) (over : Paths → Path) (mk : Making) (fields : List BindingId) : Type 0 where
  pub path : at (paths_in s) b ≡ over (at_all (paths_in s) fields)
  pub f : Form
  pub found : form s.env mk ≡ Some f
  pub parts : ArePathsOf s.env s.term (at_all (paths_in s) fields) (form_types s.env f)

form_there : (s : Setting) (b : BindingId) (over : Paths → Path) (mk : Making) (fields : List BindingId) (o : Option Form) → form s.env mk ≡ o → at (paths_in s) b ≡ over (at_all (paths_in s) fields)
    → IsSomeAnd o (λ f. ArePathsOf s.env s.term (at_all (paths_in s) fields) (form_types s.env f)) → IsMade s b over mk fields
form_there s b over mk fields None e p h = absurd h
form_there s b over mk fields (Some f) e p h = record { path = p; f = f; found = e; parts = h }

pub variant_made : (s : Setting) (b : BindingId) (of : TypeId) (variant : _) (fields : List BindingId) (ty : TypeId) → slice_get s.bindings b.0 ≡ Some (binding.MakeVariant of variant fields) → IsPathOf s.env s.term (at (paths_in s) b) ty
    → IsMade s b (MadeVariant of variant) (MakesVariant of variant) fields
variant_made s b of variant fields ty e k =
    let p = path_at s.bindings b (binding.MakeVariant of variant fields) e (typed_parts s.env s.term (at (paths_in s) b) ty k) in
    let h : IsPathOf s.env s.term (MadeVariant of variant (at_all (paths_in s) fields)) ty = subst (λ q. IsPathOf s.env s.term q ty) p k in
    form_there s b (MadeVariant of variant) (MakesVariant of variant) fields (form s.env (MakesVariant of variant)) refl p h.1

pub struct_made : (s : Setting) (b : BindingId) (of : TypeId) (fields : List BindingId) (ty : TypeId) → slice_get s.bindings b.0 ≡ Some (binding.MakeStruct of fields) → IsPathOf s.env s.term (at (paths_in s) b) ty
    → IsMade s b (MadeStruct of) (MakesStruct of) fields
struct_made s b of fields ty e k =
    let p = path_at s.bindings b (binding.MakeStruct of fields) e (typed_parts s.env s.term (at (paths_in s) b) ty k) in
    let h : IsPathOf s.env s.term (MadeStruct of (at_all (paths_in s) fields)) ty = subst (λ q. IsPathOf s.env s.term q ty) p k in
    form_there s b (MadeStruct of) (MakesStruct of) fields (form s.env (MakesStruct of)) refl p h.1

-- the parts of a made value stand before it
pub variant_below : (s : Setting) (b : BindingId) (of : TypeId) (variant : _) (fields : List BindingId) (ty : TypeId) (depth : ℕ) → slice_get s.bindings b.0 ≡ Some (binding.MakeVariant of variant fields) → IsPathOf s.env s.term (at (paths_in s) b) ty → b.0 < suc depth
    → AllByRecursion (λ (c : BindingId). c.0 < depth) fields
variant_below s b of variant fields ty depth e k lt = all_below (paths_in s) b.0 depth fields lt (subst HasParts (at_before s.bindings b (binding.MakeVariant of variant fields) e) (typed_parts s.env s.term (at (paths_in s) b) ty k))

pub struct_below : (s : Setting) (b : BindingId) (of : TypeId) (fields : List BindingId) (ty : TypeId) (depth : ℕ) → slice_get s.bindings b.0 ≡ Some (binding.MakeStruct of fields) → IsPathOf s.env s.term (at (paths_in s) b) ty → b.0 < suc depth
    → AllByRecursion (λ (c : BindingId). c.0 < depth) fields
struct_below s b of fields ty depth e k lt = all_below (paths_in s) b.0 depth fields lt (subst HasParts (at_before s.bindings b (binding.MakeStruct of fields) e) (typed_parts s.env s.term (at (paths_in s) b) ty k))

-- a made value after its parts
made_ready : (s : Setting) (more : List ℕ) (b : BindingId) (fields es : List BindingId) (tys : List TypeId) → EachReady s more fields tys es → IsReadyBind s (bound_by more es) (at (paths_in s) b) (slice_get s.bindings b.0) → OneReady s more b (es ++ b ∷ [])
made_ready s more b fields es tys h k = record {
  binds = ready_append s es (b ∷ []) more h.binds (k, tt);
  place = inl (ap (λ m. is_bound m b) (bound_by-append es (b ∷ []) more) ∙ last_bound (bound_by more es) b);
}

spelled_ready : (s : Setting) (more : List ℕ) (b : BindingId) (o : Option Binding) (one : List ℕ → BindingId → List BindingId) → slice_get s.bindings b.0 ≡ o → local_parts o ≡ None → IsSpelled (at (paths_in s) b) → OneReady s more b (with_parts one more b (local_parts (slice_get s.bindings b.0)))
spelled_ready s more b o one e n k = subst (λ p. OneReady s more b (with_parts one more b p)) (sym (ap local_parts e ∙ n)) (record { binds = tt; place = inr k })

-- if it has no local yet
unbound_ready : {b : BindingId} (s : Setting) (bound more : List ℕ) (depth : ℕ) (ty : TypeId) → MakesReady s bound depth (needed s depth) → Adds s bound more → is_bound more b ≡ false → IsReadable s bound b → IsPathOf s.env s.term (at (paths_in s) b) ty → b.0 < suc depth
    → OneReady s more b (with_parts (needed s depth) more b (local_parts (slice_get s.bindings b.0)))
unbound_ready s bound more depth ty ok a is (bound_read b c) k lt = absurd (let bad : false ≡ true = sym is ∙ a.keeps b (found bound b.0 c) in cc)
unbound_ready s bound more depth ty ok a is (argument b index e) k lt = spelled_ready s more b (Some (binding.Argument index)) (needed s depth) e refl (subst IsSpelled (sym (at_before s.bindings b (binding.Argument index) e)) tt)
unbound_ready s bound more depth ty ok a is (truth b val of e) k lt = spelled_ready s more b (Some (binding.ConstBool val of)) (needed s depth) e refl (subst IsSpelled (sym (at_before s.bindings b (binding.ConstBool val of) e)) tt)
unbound_ready s bound more depth ty ok a is (number b val of e) k lt = spelled_ready s more b (Some (binding.ConstInt val of)) (needed s depth) e refl (subst IsSpelled (sym (at_before s.bindings b (binding.ConstInt val of) e)) tt)
unbound_ready s bound more depth ty ok a is (named b val e) k lt = spelled_ready s more b (Some (binding.ConstPrim val)) (needed s depth) e refl (subst IsSpelled (sym (at_before s.bindings b (binding.ConstPrim val) e)) tt)
unbound_ready s bound more depth ty ok a is (made_struct b of [] e r) k lt = spelled_ready s more b (Some (binding.MakeStruct of [])) (needed s depth) e refl (subst IsSpelled (sym (at_before s.bindings b (binding.MakeStruct of []) e)) tt)
unbound_ready s bound more depth ty ok a is (made_variant b of variant fields e r) k lt =
    let x = variant_made s b of variant fields ty e k in
    let h = each_ready s bound depth (needed s depth) more (form_types s.env x.f) (needed_local s depth) ok a r x.parts (variant_below s b of variant fields ty depth e k lt) in
    subst (λ p. OneReady s more b (with_parts (needed s depth) more b p)) (sym (ap local_parts e))
    (made_ready s more b fields (each_needed (needed s depth) more fields) (form_types s.env x.f) h (subst (IsReadyBind s (bound_by more (each_needed (needed s depth) more fields)) (at (paths_in s) b)) (sym e) (record { path = x.path; f = x.f; found = x.found; parts = h.ready })))
unbound_ready s bound more depth ty ok a is (made_struct b of (f ∷ fs) e r) k lt =
    let fields = f ∷ fs in
    let x = struct_made s b of fields ty e k in
    let h = each_ready s bound depth (needed s depth) more (form_types s.env x.f) (needed_local s depth) ok a r x.parts (struct_below s b of fields ty depth e k lt) in
    subst (λ p. OneReady s more b (with_parts (needed s depth) more b p)) (sym (ap local_parts e))
    (made_ready s more b fields (each_needed (needed s depth) more fields) (form_types s.env x.f) h (subst (IsReadyBind s (bound_by more (each_needed (needed s depth) more fields)) (at (paths_in s) b)) (sym e) (record { path = x.path; f = x.f; found = x.found; parts = h.ready })))

needed_ready : (s : Setting) (bound : List ℕ) (depth : ℕ) → MakesReady s bound depth (needed s depth)
needed_ready s bound zero more b ty a r k lt = absurd (omega (arith, lt))
needed_ready s bound (suc depth) more b ty a r k lt = one (is_bound more b) refl (needed_ready s bound depth)
  where
    one : (x : Bool) → is_bound more b ≡ x → MakesReady s bound depth (needed s depth) → OneReady s more b (cond x [] (with_parts (needed s depth) more b (local_parts (slice_get s.bindings b.0))))
    one true is ok = record { binds = tt; place = inl is }
    one false is ok = unbound_ready s bound more depth ty ok a is r k lt

needs_ready : (s : Setting) (bound more : List ℕ) (parts : List BindingId) (tys : List TypeId) → Adds s bound more → AreReadable s bound parts → ArePathsOf s.env s.term (at_all (paths_in s) parts) tys → EachReady s more parts tys (needs s more parts)
needs_ready s bound more parts tys a r k =
    each_ready s bound (length s.bindings) (needed s (length s.bindings)) more tys (needed_local s (length s.bindings)) (needed_ready s bound (length s.bindings)) a r k (all_within s parts (paths_there s.env s.term (at_all (paths_in s) parts) tys k))

-- bindings that are read may be read, and have paths of these types
pub all_readable : (s : Setting) (bound : List ℕ) (bs : List BindingId) (ts : List TypeId) → AreReadAs s bound bs ts → AreReadable s bound bs
all_readable s bound [] [] k = none_read
all_readable s bound (b ∷ bs) (t ∷ ts) k = one_read b bs k.0.read (all_readable s bound bs ts k.1)
all_readable s bound [] (t ∷ ts) k = absurd k
all_readable s bound (b ∷ bs) [] k = absurd k

pub all_typed : (s : Setting) (bound : List ℕ) (bs : List BindingId) (ts : List TypeId) → AreReadAs s bound bs ts → ArePathsOf s.env s.term (at_all (paths_in s) bs) ts
all_typed s bound [] [] k = tt
all_typed s bound (b ∷ bs) (t ∷ ts) k = (k.0.path, all_typed s bound bs ts k.1)
all_typed s bound [] (t ∷ ts) k = absurd k
all_typed s bound (b ∷ bs) [] k = absurd k

-- so of bindings that may be read
read_ready : (s : Setting) (bound more : List ℕ) (parts : List BindingId) (tys : List TypeId) → Adds s bound more → AreReadAs s bound parts tys → EachReady s more parts tys (needs s more parts)
read_ready s bound more parts tys a h = needs_ready s bound more parts tys a (all_readable s bound parts tys h) (all_typed s bound parts tys h)

-- ---- bind orders

-- a bound source needs nothing
bound_needed : (s : Setting) (depth : ℕ) (bound : List ℕ) (b : BindingId) → is_bound bound b ≡ true → needed s depth bound b ≡ []
bound_needed s zero bound b e = refl
bound_needed s (suc depth) bound b e = ap (λ x. cond x [] (with_parts (needed s depth) bound b (local_parts (slice_get s.bindings b.0)))) e

pub source_needs : (s : Setting) (bound : List ℕ) (b : BindingId) → is_bound bound b ≡ true → needs s bound (b ∷ []) ≡ []
source_needs s bound b e = ap (λ xs. xs ++ []) (bound_needed s (length s.bindings) bound b e)

-- the parts that are bound, and then the binding
with_ready : (s : Setting) (more : List ℕ) (b : BindingId) (parts : List BindingId) (tys : List TypeId) → EachReady s more parts tys (needs s more parts) → (AreReady s (bound_by more (needs s more parts)) parts tys → IsReadyBind s (bound_by more (needs s more parts)) (at (paths_in s) b) (slice_get s.bindings b.0))
    → AreReadyBinds s more (needs s more parts ++ b ∷ [])
with_ready s more b parts tys h k = ready_append s (needs s more parts) (b ∷ []) more h.binds (k h.ready, tt)

made_binds_ready : (s : Setting) (bound more : List ℕ) (b : BindingId) (over : Paths → Path) (mk : Making) (fields : List BindingId) → Adds s bound more → AreReadable s bound fields → IsMade s b over mk fields
    → (IsMadeReady s (bound_by more (needs s more fields)) (at (paths_in s) b) over mk fields → IsReadyBind s (bound_by more (needs s more fields)) (at (paths_in s) b) (slice_get s.bindings b.0)) → AreReadyBinds s more (needs s more fields ++ b ∷ [])
made_binds_ready s bound more b over mk fields a r x k =
    with_ready s more b fields (form_types s.env x.f) (needs_ready s bound more fields (form_types s.env x.f) a r x.parts) (λ ready. k (record { path = x.path; f = x.f; found = x.found; parts = ready }))

bind_ready : (s : Setting) (bound more : List ℕ) (b : BindingId) (o : Option Binding) → slice_get s.bindings b.0 ≡ o → Adds s bound more → IsBindable s bound (at (paths_in s) b) o → AreReadyBinds s more (needs s more (read_for o) ++ b ∷ [])
bind_ready s bound more b (Some (binding.Constructor term parameters instance)) e a is =
    with_ready s more b parameters is.called.arg_tys (read_ready s bound more parameters is.called.arg_tys a is.args)
    (λ ready. subst (IsReadyBind s (bound_by more (needs s more parameters)) (at (paths_in s) b)) (sym e) (record { path = is.path; called = is.called; found = is.found; args = ready; kind = is.kind; external = is.external }))
bind_ready s bound more b (Some (binding.Extractor term parameter)) e a is =
    with_ready s more b (parameter ∷ []) (is.called.ret_ty ∷ []) (read_ready s bound more (parameter ∷ []) (is.called.ret_ty ∷ []) a (is.arg, tt))
    (λ ready. subst (IsReadyBind s (bound_by more (needs s more (parameter ∷ []))) (at (paths_in s) b)) (sym e) (record { path = is.path; called = is.called; found = is.found; arg = ready.0; kind = is.kind; external = is.external }))
bind_ready s bound more b (Some (binding.MatchSome source)) e a is =
    let there = a.keeps source (found bound source.0 is.bound') in
    subst (λ ns. AreReadyBinds s more (ns ++ b ∷ [])) (sym (source_needs s more source there))
    (subst (IsReadyBind s more (at (paths_in s) b)) (sym e) (record { path = is.path; tys = is.tys; option = is.option; bound' = contained more source.0 there; fits = is.fits }), tt)
bind_ready s bound more b (Some (binding.MatchTuple source field)) e a is =
    let there = a.keeps source (found bound source.0 is.bound') in
    subst (λ ns. AreReadyBinds s more (ns ++ b ∷ [])) (sym (source_needs s more source there))
    (subst (IsReadyBind s more (at (paths_in s) b)) (sym e) (record { path = is.path; tys = is.tys; tuple = is.tuple; ty = is.ty; there = is.there; bound' = contained more source.0 there }), tt)
bind_ready s bound more b (Some (binding.Argument index)) e a is = (subst (IsReadyBind s more (at (paths_in s) b)) (sym e) is, tt)
bind_ready s bound more b (Some (binding.ConstBool val ty)) e a is = (subst (IsReadyBind s more (at (paths_in s) b)) (sym e) is, tt)
bind_ready s bound more b (Some (binding.ConstInt val ty)) e a is = (subst (IsReadyBind s more (at (paths_in s) b)) (sym e) is, tt)
bind_ready s bound more b (Some (binding.ConstPrim val)) e a is = (subst (IsReadyBind s more (at (paths_in s) b)) (sym e) is, tt)
bind_ready s bound more b (Some (binding.MakeVariant of variant fields)) e a is =
    made_binds_ready s bound more b (MadeVariant of variant) (MakesVariant of variant) fields a is.parts (variant_made s b of variant fields is.ty e is.path) (λ x. subst (IsReadyBind s (bound_by more (needs s more fields)) (at (paths_in s) b)) (sym e) x)
bind_ready s bound more b (Some (binding.MakeStruct of fields)) e a is =
    made_binds_ready s bound more b (MadeStruct of) (MakesStruct of) fields a is.parts (struct_made s b of fields is.ty e is.path) (λ x. subst (IsReadyBind s (bound_by more (needs s more fields)) (at (paths_in s) b)) (sym e) x)
bind_ready s bound more b o e a is = absurd is

binds_ready : (s : Setting) (binds : List BindingId) (bound more : List ℕ) → Adds s bound more → AreBindable s bound binds → AreReadyBinds s more (completed_binds s more binds)
binds_ready s [] bound more a h = tt
binds_ready s (b ∷ binds) bound more a h =
    let inner = bound_by more (with_needs s more b) in
    ready_append s (with_needs s more b) (completed_binds s inner binds) more (bind_ready s bound more b (slice_get s.bindings b.0) refl a h.0) (binds_ready s binds (bound ++ b.0 ∷ []) inner (adds_with s bound more b a) h.1)

-- ---- blocks

-- what a match is over
source_ready : (s : Setting) (bound more : List ℕ) (source : BindingId) (over : Source) → Adds s bound more → IsReadIn s bound source over → AreReadyBinds s more (needs s more (source ∷ [])) × IsReadyIn s (bound_by more (needs s more (source ∷ []))) source over
source_ready s bound more source (AValue ty) a k =
    let h = read_ready s bound more (source ∷ []) (ty ∷ []) a (k, tt) in
    (h.binds, h.ready.0)
source_ready s bound more source (AnOption tys) a k =
    let there = a.keeps source (found bound source.0 k.bound') in
    let ns = needs s more (source ∷ []) in
    (subst (AreReadyBinds s more) (sym (source_needs s more source there)) tt, record { path = k.path; bound' = still_bound ns more source there })

mutual
  block_ready : (b : Block) (s : Setting) (bound more made : List ℕ) → Adds s bound more → IsLawfulFrom s bound made b → IsReadyFrom s more made (completed s more b)
  block_ready Stop s bound more made a k = tt
  block_ready (Step binds c rest) s bound more made a k =
      let bs = step_binds s more binds c in
      let xs = completed_binds s more binds in
      let middle = bound_by more xs in
      let ns = needs s middle (read_by c) in
      let inner = bound_by more bs in
      let same : occurrences s.env (paths_in s) binds ≡ occurrences s.env (paths_in s) bs = sym (step_occurrences s binds c more) in
      let after : after_control (gives_several s) s.env (paths_in s) (made ++ occurrences s.env (paths_in s) binds) c ≡ after_control (gives_several s) s.env (paths_in s) (made ++ occurrences s.env (paths_in s) bs) (completed_control s inner c) =
      ap (λ ks. after_control (gives_several s) s.env (paths_in s) (made ++ ks) c) same ∙ sym (after_control_same s c inner (made ++ occurrences s.env (paths_in s) bs)) in
      let step = control_ready c rest s (bound_by bound binds) middle (made ++ occurrences s.env (paths_in s) binds) (adds_binds s binds bound more a) k.2 in (
        ready_append s xs ns more (binds_ready s binds bound more a k.0) step.0,
        subst (AreNew made) same k.1,
        subst (λ m. IsReadyControl s m (made ++ occurrences s.env (paths_in s) bs) (completed_control s m c)) (sym (bound_by-append xs ns more)) (subst (λ ks. IsReadyControl s (bound_by middle ns) (made ++ ks) (completed_control s (bound_by middle ns) c)) same step.1),
        subst (λ ks. IsReadyFrom s inner ks (completed s inner rest)) after (block_ready rest s (bound_by bound binds) inner (after_control (gives_several s) s.env (paths_in s) (made ++ occurrences s.env (paths_in s) binds) c) (adds_step s binds c bound more a) k.3),
      )

  control_ready : (c : Control) (rest : Block) (s : Setting) (bound more made : List ℕ) → Adds s bound more → IsLawfulControl s bound made c rest
      → AreReadyBinds s more (needs s more (read_by c)) × IsReadyControl s (bound_by more (needs s more (read_by c))) made (completed_control s (bound_by more (needs s more (read_by c))) c)
  control_ready (Match source arms) rest s bound more made a k =
      let h = source_ready s bound more source k.1.0 a k.1.1 in
      let ns = needs s more (source ∷ []) in
      (h.0, (has_arm s (bound_by more ns) arms k.0, (k.1.0, h.1, arms_ready arms s source k.1.0 bound (bound_by more ns) made (adds_more s ns bound more (needs_local s more (source ∷ [])) a) k.1.2)))
  control_ready (Equal x y body) rest s bound more made a k =
      let h = read_ready s bound more (x ∷ y ∷ []) (k.0.0 ∷ k.0.0 ∷ []) a (k.0.1, (k.0.2, tt)) in
      let ns = needs s more (x ∷ y ∷ []) in
      (h.binds, ((k.0.0, h.ready.0, h.ready.1.0), block_ready body s bound (bound_by more ns) made (adds_more s ns bound more (needs_local s more (x ∷ y ∷ [])) a) k.1))
  control_ready (Loop result body) rest s bound more made a k = (
    tt,
    (
      record { several = k.0; source = k.1.source; is = k.1.is; tys = k.1.tys; list = k.1.list; bound' = a.keeps k.1.source (found bound k.1.source.0 k.1.bound') },
      block_ready body s (bound ++ result.0 ∷ []) (more ++ result.0 ∷ []) made (adds_both s bound more result a) k.2,
    ),
  )
  control_ready (Return pos result) rest s bound more made a k =
      let h = read_ready s bound more (result ∷ []) (s.term.ret_ty ∷ []) a (k.0, tt) in
      (h.binds, h.ready.0)

  arms_ready : (arms : Arms) (s : Setting) (source : BindingId) (over : Source) (bound more made : List ℕ) → Adds s bound more → AreLawfulArms s bound made source over arms → AreReadyArms s more made source over (completed_arms s more arms)
  arms_ready NoArm s source over bound more made a k = tt
  arms_ready (Arm c places body arms) s source over bound more made a k =
      (k.0, k.1, block_ready body s (bound_within bound places) (bound_within more places) made (adds_within s places bound more a) k.2, arms_ready arms s source over bound more made a k.3)

  has_arm : (s : Setting) (bound : List ℕ) (arms : Arms) → HasArm arms → HasArm (completed_arms s bound arms)
  has_arm s bound NoArm h = h
  has_arm s bound (Arm c places body arms) h = tt

-- a lawful block, completed from where nothing is bound
pub completed_ready : (s : Setting) (b : Block) → IsLawfulBlock s b → IsReadyFrom s [] [] (completed s [] b)
completed_ready s b h = block_ready b s [] [] [] (adds_none s []) h.from
