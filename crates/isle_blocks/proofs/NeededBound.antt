-- What is needed may be bound, and then what needs it may be read.
use Rattle.std.proofs.Common.{◌≡◌, ⊎_elim, ℕ, zero, suc, ◌<◌, List, [], ◌∷◌, ◌++◌, length, get_or, take, Bool, true, false, cond, eqb, Option, Some, None, T, refl, sym, ap, ◌∙◌, subst, append_assoc, arith}
use Rattle.std.specs.Prelude.{◌||◌, slice_get, IsSomeAnd, Contains}
use Rattle.std.specs.List.{AllByRecursion, list_any}
use Rattle.std.proofs.Math.Dec.{eqb_refl}
use Rattle.std.proofs.lemmas.Bool.{eqb-true}
use Rattle.std.proofs.lemmas.List.{append-nil}
use Rattle.std.proofs.lemmas.List.Elements.{Contains-push}
use Rattle.std.proofs.lemmas.Option.{slice_get_within}
use Rattle.isle_core.specs.declared.BindingId.{BindingId}
use Rattle.isle_core.specs.declared.TermId.{TermId}
use Rattle.isle_core.specs.declared.TupleIndex.{TupleIndex}
use Rattle.isle_core.specs.declared.TypeId.{TypeId}
use Rattle.isle_core.specs.declared.rule_sets.Binding.{Binding}
use Rattle.isle_core.specs.declared.rule_sets.Binding.TheVariants as binding
use Rattle.isle_core.specs.declared.types.ReturnKind.{ReturnKind}
use Rattle.isle_core.specs.declared.types.ReturnKind.TheVariants as return_kind
use Rattle.isle_core.specs.declared.types.Term.{Term}
use Rattle.isle_core.specs.Bindable.{IsCallBound, IsExtractorBound, IsPartBound, bound_by}
use Rattle.isle_core.specs.Calling.{Calling, ByTurns, ByCases, NoCall, calling, extracting, kind_of, is_several}
use Rattle.isle_core.specs.ExternalCall.{IsCall, IsExtraction}
use Rattle.isle_core.specs.Form.{Form, form, form_types}
use Rattle.isle_core.specs.Making.{MakesVariant, MakesStruct}
use Rattle.isle_core.specs.Path.{Path, Nowhere, Called, Extracted, Chosen, Inner, Part, Paths, at, at_all, path_over, paths_of}
use Rattle.isle_core.specs.PathType.{IsPathOf, IsTupleOf, IsOptionOf, IsListOf, ArePathsOf}
use Rattle.isle_core.specs.Readable.{IsReadable, is_bound as bound_read, argument, truth, number, named, made_struct, AreReadable, none_read, one_read, AreReadAs}
use Rattle.isle_core.specs.Rule.{Environment}
use Rattle.isle_core.specs.Serializable.{StandsOn, AllStandOn, StandsCalled, StandsWithin}
use Rattle.isle_core.specs.Setting.{Setting, setting, paths_in}
use Rattle.isle_core.specs.Tests.{Test}
use Rattle.isle_core.proofs.BindingPaths.{IsThere, AreThere, HasParts, at_before, path_at, binding_at, contains_at, path_there, paths_there, option_there, tuple_there, typed_parts, option_parts, list_parts, tuple_parts}
use Rattle.isle_blocks.specs.Needed.{list_before, list_parts as parts_of_list, is_bound, each_needed, with_parts, unbound, needed, needs}
use Rattle.isle_blocks.proofs.Behind.{IsBehind, none_in, cons_cases, behind_grows}
use Rattle.isle_blocks.proofs.MoreBound.{by_kept, still_read}
use Rattle.isle_blocks.proofs.Openable.{IsItemBound, IsOpenable, AreOpenable, openable_append}
use Rattle.isle_blocks.proofs.OrderItems.{AllUnder, under_append, under_more, under_bound, NeedCalled, NeedLists, AllNeedLists, IsItemNew, AreItemsNew, items_append, no_item}
use Rattle.isle_blocks.proofs.NeededRuns.{IsStill, AreStill, pure_still, still_append}
use Rattle.isle_blocks.proofs.PushedBinds.{bound_append}

-- ---- marks

pub contained : (ls : List ℕ) (n : ℕ) → list_any (λ m. eqb m n) ls ≡ true → Contains ls n
contained [] n e = absurd cc
contained (l ∷ ls) n e = one (eqb l n) refl e (λ k. contained ls n k)
  where
    one : (x : Bool) → eqb l n ≡ x → (x || list_any (λ m. eqb m n) ls) ≡ true → (list_any (λ m. eqb m n) ls ≡ true → Contains ls n) → Contains (l ∷ ls) n
    one true is h rest = (zero, omega arith, eqb-true l n is)
    one false is h rest = let c = rest h in (suc c.0, omega (arith, c.1), c.2)

or_true : (b : Bool) → (b || true) ≡ true
or_true true = refl
or_true false = refl

-- what is there is marked
pub is_marked : (ls : List ℕ) (n : ℕ) → Contains ls n → list_any (λ m. eqb m n) ls ≡ true
is_marked [] n c = absurd (none_in n c)
is_marked (l ∷ ls) n c = ⊎_elim
    (λ (e : l ≡ n). ap (λ b. b || list_any (λ m. eqb m n) ls) (subst (λ k. eqb l k ≡ true) e (true_of (eqb l l) (eqb_refl l))))
    (λ d. ap (λ b. eqb l n || b) (is_marked ls n d) ∙ or_true (eqb l n))
    (cons_cases l n ls c)
  where
    true_of : (b : Bool) → T b → b ≡ true
    true_of true t = refl
    true_of false t = absurd t

-- ---- parts stand before what is made over them

below_there : (ps : List Path) (n i : ℕ) → IsThere (get_or (take n ps) i Nowhere) → i < n
below_there ps zero i h = absurd h
below_there [] (suc n) i h = absurd h
below_there (p ∷ ps) (suc n) zero h = omega arith
below_there (p ∷ ps) (suc n) (suc i) h = let r = below_there ps n i h in omega (arith, r)

all_below : (ps : List Path) (n depth : ℕ) (bs : List BindingId) → n < suc depth → AreThere (at_all (take n ps) bs) → AllByRecursion (λ (b : BindingId). b.0 < depth) bs
all_below ps n depth [] lt h = tt
all_below ps n depth (b ∷ bs) lt h = let r = below_there ps n b.0 h.0 in (omega (arith, r, lt), all_below ps n depth bs lt h.1)

within : (bs : List Binding) (b : BindingId) → IsThere (at (paths_of bs) b) → b.0 < length bs
within bs b h = let x = binding_at bs b h in slice_get_within bs b.0 x.0 x.1

all_within : (bs : List Binding) (reads : List BindingId) → AreThere (at_all (paths_of bs) reads) → AllByRecursion (λ (b : BindingId). b.0 < length bs) reads
all_within bs [] h = tt
all_within bs (b ∷ reads) h = (within bs b h.0, all_within bs reads h.1)

-- ---- what a bind order gives

-- it may stand there, and after it this binding is bound
pub record BindsOne (s : Setting) (bound : List ℕ) (b : BindingId) (order : List BindingId) : Type 0 where
  pub binds : AreOpenable s bound order
  pub still : AreStill s.env (paths_in s) order
  pub there : Contains (bound_by bound order) b.0
  pub under : AllUnder (suc b.0) order
  pub items : (qs : List Path) → NeedLists s.env qs (at (paths_in s) b) → AreItemsNew qs s.bindings bound order

-- or may be read
pub record ReadsOne (s : Setting) (bound : List ℕ) (b : BindingId) (order : List BindingId) : Type 0 where
  pub binds : AreOpenable s bound order
  pub still : AreStill s.env (paths_in s) order
  pub read : IsReadable s (bound_by bound order) b
  pub under : AllUnder (suc b.0) order
  pub items : (qs : List Path) → NeedLists s.env qs (at (paths_in s) b) → AreItemsNew qs s.bindings bound order

-- or all of these may be read
pub record ReadsAll (s : Setting) (bound : List ℕ) (reads order : List BindingId) : Type 0 where
  pub binds : AreOpenable s bound order
  pub still : AreStill s.env (paths_in s) order
  pub read : AreReadable s (bound_by bound order) reads
  pub under : (n : ℕ) → AllUnder n reads → AllUnder n order
  pub items : (qs : List Path) → AllNeedLists s.env qs (at_all (paths_in s) reads) → AreItemsNew qs s.bindings bound order

bound_is_read : (s : Setting) (bound : List ℕ) (b : BindingId) (order : List BindingId) → BindsOne s bound b order → ReadsOne s bound b order
bound_is_read s bound b order h = record { binds = h.binds; still = h.still; read = bound_read b h.there; under = h.under; items = h.items }

pub first_read : {b : BindingId} {more : List BindingId} (s : Setting) (bound : List ℕ) → AreReadable s bound (b ∷ more) → IsReadable s bound b
first_read s bound (one_read b more r rs) = r

-- typed bindings that may be read
pub all_read_as : {reads : List BindingId} (s : Setting) (bound : List ℕ) (tys : List TypeId) → ArePathsOf s.env s.term (at_all (paths_in s) reads) tys → AreReadable s bound reads → AreReadAs s bound reads tys
all_read_as s bound [] h none_read = tt
all_read_as s bound (ty ∷ tys) h none_read = absurd h
all_read_as s bound [] h (one_read b more r rs) = absurd h
all_read_as s bound (ty ∷ tys) h (one_read b more r rs) = (record { path = h.0; read = r }, all_read_as s bound tys h.1 rs)

-- what it needs, and then it itself
then_binds : (s : Setting) (bound : List ℕ) (b : BindingId) (order : List BindingId) → AreOpenable s bound order → AreStill s.env (paths_in s) order → IsStill s.env (at (paths_in s) b)
    → IsOpenable s (bound_by bound order) (at (paths_of s.bindings) b) (slice_get s.bindings b.0) → AllUnder b.0 order
    → ((qs : List Path) → NeedLists s.env qs (at (paths_in s) b) → AreItemsNew qs s.bindings bound order × IsItemNew qs s.bindings (bound_by bound order) b) → BindsOne s bound b (order ++ b ∷ [])
then_binds s bound b order h st one k under items = record {
  binds = openable_append s order (b ∷ []) bound h (k, tt);
  still = still_append s.env (paths_in s) order (b ∷ []) st (one, tt);
  there = subst (λ m. Contains m b.0) (sym (bound_append bound order (b ∷ []))) (Contains-push (bound_by bound order) b.0);
  under = under_append (suc b.0) order (b ∷ []) (under_more b.0 (suc b.0) order (omega arith) under) (omega arith, tt);
  items = λ qs lists. let i = items qs lists in items_append qs s.bindings order (b ∷ []) bound i.0 (i.1, tt);
}

-- its parts, and then it itself
made_binds : (s : Setting) (bound : List ℕ) (b : BindingId) (parts order : List BindingId) → ReadsAll s bound parts order → IsStill s.env (at (paths_in s) b)
    → (AreReadable s (bound_by bound order) parts → IsOpenable s (bound_by bound order) (at (paths_of s.bindings) b) (slice_get s.bindings b.0)) → AllUnder b.0 parts
    → ((qs : List Path) → NeedLists s.env qs (at (paths_in s) b) → AllNeedLists s.env qs (at_all (paths_in s) parts)) → list_before (slice_get s.bindings b.0) ≡ None → BindsOne s bound b (order ++ b ∷ [])
made_binds s bound b parts order h one k under within none =
    then_binds s bound b order h.binds h.still one (k h.read) (h.under b.0 under) (λ qs lists. (h.items qs (within qs lists), no_item qs s.bindings (bound_by bound order) b none))

-- what may be read already needs nothing
read_already : (s : Setting) (bound : List ℕ) (b : BindingId) (x : Binding) (one : List ℕ → BindingId → List BindingId) → slice_get s.bindings b.0 ≡ Some x → unbound s.bindings one bound b (Some x) ≡ [] → IsReadable s bound b
    → ReadsOne s bound b (unbound s.bindings one bound b (slice_get s.bindings b.0))
read_already s bound b x one e none r = subst (ReadsOne s bound b) (sym (ap (unbound s.bindings one bound b) e ∙ none)) (record { binds = tt; still = tt; read = r; under = tt; items = λ qs lists. tt })

-- the parts of a form that is there
parts_typed : (env : Environment) (t : Term) (o : Option Form) (ps : Paths) → IsSomeAnd o (λ f. ArePathsOf env t ps (form_types env f)) → (tys : List TypeId) × ArePathsOf env t ps tys
parts_typed env t None ps h = absurd h
parts_typed env t (Some f) ps h = (form_types env f, h)

-- an item's list, and then it itself, by the list's form
abbrev unbound_from : List Binding → (List ℕ → BindingId → List BindingId) → List ℕ → (source b : BindingId) → Option Binding → List BindingId
unbound_from bs one bound source b o = with_parts one bound (source ∷ b ∷ []) (parts_of_list o)

-- ---- after tests and calls

module _ (env : Environment) (t : Term) (bs : List Binding) (tests : List Test) (done : List Path) (fits : (p : Path) → Contains (paths_of bs) (Chosen p) → is_several (kind_of t.kind) ≡ true) where
  -- what makes a binding readable that stands on them
  abbrev MakesRead : ℕ → (List ℕ → BindingId → List BindingId) → Type 0
  MakesRead depth one = (bound : List ℕ) (b : BindingId) (ty : TypeId) → IsBehind (paths_of bs) tests done bound → IsPathOf env t (at (paths_of bs) b) ty → StandsOn env tests done (at (paths_of bs) b) → b.0 < depth → ReadsOne (setting env t bs) bound b (one bound b)

  -- what binds a tuple that stands on them
  abbrev MakesTuple : ℕ → (List ℕ → BindingId → List BindingId) → Type 0
  MakesTuple depth one = (bound : List ℕ) (b : BindingId) (tys : List TypeId) → IsBehind (paths_of bs) tests done bound → IsTupleOf env t (at (paths_of bs) b) tys → StandsOn env tests done (at (paths_of bs) b) → b.0 < depth → BindsOne (setting env t bs) bound b (one bound b)

  each_read : (depth : ℕ) (one : List ℕ → BindingId → List BindingId) (bound : List ℕ) (reads : List BindingId) (tys : List TypeId) → MakesRead depth one → IsBehind (paths_of bs) tests done bound
      → ArePathsOf env t (at_all (paths_of bs) reads) tys → AllStandOn env tests done (at_all (paths_of bs) reads) → AllByRecursion (λ (b : BindingId). b.0 < depth) reads → ReadsAll (setting env t bs) bound reads (each_needed one bound reads)
  each_read depth one bound [] tys ok k h st below = record { binds = tt; still = tt; read = none_read; under = λ n low. tt; items = λ qs lists. tt }
  each_read depth one bound (b ∷ reads) [] ok k h st below = absurd h
  each_read depth one bound (b ∷ reads) (ty ∷ tys) ok k h st below =
      let s = setting env t bs in
      let xs = one bound b in
      let inner = bound_by bound xs in
      let ys = each_needed one inner reads in
      let r = ok bound b ty k h.0 st.0 below.0 in
      let rest = each_read depth one inner reads tys ok (behind_grows (paths_of bs) tests done bound inner (by_kept xs bound) k) h.1 st.1 below.1 in
      record {
        binds = openable_append s xs ys bound r.binds rest.binds;
        still = still_append env (paths_of bs) xs ys r.still rest.still;
        read = subst (λ m. AreReadable s m (b ∷ reads)) (sym (bound_append bound xs ys)) (one_read b reads (still_read s inner (bound_by inner ys) (by_kept ys inner) r.read) rest.read);
        under = λ n low. let first = low.0 in under_append n xs ys (under_more (suc b.0) n xs (omega (arith, first)) r.under) (rest.under n low.1);
        items = λ qs lists. items_append qs bs xs ys bound (r.items qs lists.0) (rest.items qs lists.1);
      }

  -- the answer of an extractor
  extracted_binds : (depth : ℕ) (bound : List ℕ) (b : BindingId) (term : TermId) (parameter : BindingId) (kind : ReturnKind) (tys : List TypeId) (o : Option Term) → MakesRead depth (needed bs depth) → IsBehind (paths_of bs) tests done bound
      → slice_get bs b.0 ≡ Some (binding.Extractor term parameter) → at (paths_of bs) b ≡ Extracted term (at (paths_of bs) parameter) → IsExtraction kind (extracting env term) → slice_get env.terms term.0 ≡ o
      → IsSomeAnd o (λ (c : Term). (c.arg_tys ≡ tys) × IsPathOf env t (at (paths_of bs) parameter) c.ret_ty) → StandsOn env tests done (at (paths_of bs) parameter) → parameter.0 < depth → parameter.0 < b.0
      → BindsOne (setting env t bs) bound b (unbound bs (needed bs depth) bound b (slice_get bs b.0))
  extracted_binds depth bound b term parameter kind tys None ok k e p ext found h st below low = absurd h
  extracted_binds depth bound b term parameter kind tys (Some c) ok k e p ext found h st below low =
      let s = setting env t bs in
      let order = each_needed (needed bs depth) bound (parameter ∷ []) in
      let r = each_read depth (needed bs depth) bound (parameter ∷ []) (c.ret_ty ∷ []) ok k (h.1, tt) (st, tt) (below, tt) in
      let call : AreReadable s (bound_by bound order) (parameter ∷ []) → IsExtractorBound s (bound_by bound order) (at (paths_of bs) b) term parameter =
      λ read. record { path = p; called = c; found = found; arg = record { path = h.1; read = first_read s (bound_by bound order) read }; kind = kind; external = ext } in
      subst (λ o. BindsOne s bound b (unbound bs (needed bs depth) bound b o)) (sym e)
      (made_binds s bound b (parameter ∷ []) order r (subst (IsStill env) (sym p) tt) (λ read. subst (IsOpenable s (bound_by bound order) (at (paths_of bs) b)) (sym e) (call read)) (low, tt) (λ qs lists. (subst (NeedLists env qs) p lists, tt)) (ap list_before e))

  -- an impure call is bound already
  called_bound : (bound : List ℕ) (b : BindingId) → IsBehind (paths_of bs) tests done bound → is_bound bound b ≡ false → Contains done (at (paths_of bs) b) → ⊥
  called_bound bound b k free st = let marked = is_marked bound b.0 (k.call b st) in cc

  -- and so is the item of an impure list
  listed_bound : (bound : List ℕ) (b source : BindingId) → IsBehind (paths_of bs) tests done bound → at (paths_of bs) b ≡ Chosen (at (paths_of bs) source) → is_bound bound b ≡ false → Contains done (at (paths_of bs) source) → ⊥
  listed_bound bound b source k p free st = let marked = is_marked bound b.0 (k.item b (at (paths_of bs) source) p st) in cc

  -- a pure call
  called_binds : (depth : ℕ) (bound : List ℕ) (b : BindingId) (term : TermId) (parameters : List BindingId) (instance : ℕ) (kind : ReturnKind) (calls : Calling) (o : Option Term) (P : Term → Type 0) → MakesRead depth (needed bs depth) → IsBehind (paths_of bs) tests done bound
      → slice_get bs b.0 ≡ Some (binding.Constructor term parameters instance) → at (paths_of bs) b ≡ Called term (at_all (paths_of bs) parameters) instance → calling env term ≡ calls → IsCall kind calls → slice_get env.terms term.0 ≡ o
      → IsSomeAnd o (λ (c : Term). P c × ArePathsOf env t (at_all (paths_of bs) parameters) c.arg_tys) → StandsCalled calls (Contains done (Called term (at_all (paths_of bs) parameters) instance)) (AllStandOn env tests done (at_all (paths_of bs) parameters))
      → AllByRecursion (λ (f : BindingId). f.0 < depth) parameters → AllUnder b.0 parameters → (Contains done (at (paths_of bs) b) → ⊥) → BindsOne (setting env t bs) bound b (unbound bs (needed bs depth) bound b (slice_get bs b.0))
  called_binds depth bound b term parameters instance kind (ByTurns callee of) o P ok k e p calls ext found h st below low free =
      absurd (free (subst (Contains done) (sym p) st))
  called_binds depth bound b term parameters instance kind NoCall o P ok k e p calls ext found h st below low free = absurd ext
  called_binds depth bound b term parameters instance kind (ByCases callee of) None P ok k e p calls ext found h st below low free = absurd h
  called_binds depth bound b term parameters instance kind (ByCases callee of) (Some c) P ok k e p calls ext found h st below low free =
      let s = setting env t bs in
      let order = each_needed (needed bs depth) bound parameters in
      let r = each_read depth (needed bs depth) bound parameters c.arg_tys ok k h.1 st below in
      let call : AreReadable s (bound_by bound order) parameters → IsCallBound s (bound_by bound order) (at (paths_of bs) b) term parameters instance =
      λ read. record { path = p; called = c; found = found; args = all_read_as s (bound_by bound order) c.arg_tys h.1 read; kind = kind; external = subst (IsCall kind) (sym calls) ext } in
      subst (λ o. BindsOne s bound b (unbound bs (needed bs depth) bound b o)) (sym e)
      (made_binds s bound b parameters order r (pure_still env (at (paths_of bs) b) term (at_all (paths_of bs) parameters) instance callee of p calls) (λ read. subst (IsOpenable s (bound_by bound order) (at (paths_of bs) b)) (sym e) (call read)) low (λ qs lists. subst (λ x. NeedCalled x (AllNeedLists env qs (at_all (paths_of bs) parameters))) calls (subst (NeedLists env qs) p lists)) (ap list_before e))

  -- a part of a tuple
  part_binds : (depth : ℕ) (bound : List ℕ) (b source : BindingId) (field : TupleIndex) (ty : TypeId) → MakesTuple depth (needed bs depth) → IsBehind (paths_of bs) tests done bound
      → slice_get bs b.0 ≡ Some (binding.MatchTuple source field) → at (paths_of bs) b ≡ Part field.0 (at (paths_of bs) source) → IsPathOf env t (Part field.0 (at (paths_of bs) source)) ty
      → StandsOn env tests done (at (paths_of bs) source) → source.0 < depth → source.0 < b.0 → BindsOne (setting env t bs) bound b (unbound bs (needed bs depth) bound b (slice_get bs b.0))
  part_binds depth bound b source field ty ok k e p h st below low =
      let s = setting env t bs in
      let order = each_needed (needed bs depth) bound (source ∷ []) in
      let r = subst (BindsOne s bound source) (sym (append-nil (needed bs depth bound source))) (ok bound source h.0 k h.1 st below) in
      let part : IsPartBound s (bound_by bound order) (at (paths_of bs) b) source field = record { path = p; tys = h.0; tuple = h.1; ty = ty; there = h.2; bound' = r.there } in
      subst (λ o. BindsOne s bound b (unbound bs (needed bs depth) bound b o)) (sym e)
      (then_binds s bound b order r.binds r.still (subst (IsStill env) (sym p) tt) (subst (IsOpenable s (bound_by bound order) (at (paths_of bs) b)) (sym e) part) (under_more (suc source.0) b.0 order (omega (arith, low)) r.under)
      (λ qs lists. (r.items qs (subst (NeedLists env qs) p lists), no_item qs bs (bound_by bound order) b (ap list_before e))))

  -- a made value over parts
  parts_binds : (depth : ℕ) (bound : List ℕ) (b : BindingId) (x : Binding) (fields : List BindingId) (tys : List TypeId) → MakesRead depth (needed bs depth) → IsBehind (paths_of bs) tests done bound → slice_get bs b.0 ≡ Some x → ((bound' : List ℕ) → unbound bs (needed bs depth) bound' b (Some x) ≡ each_needed (needed bs depth) bound' fields ++ b ∷ [])
      → ArePathsOf env t (at_all (paths_of bs) fields) tys → AllStandOn env tests done (at_all (paths_of bs) fields) → AllByRecursion (λ (f : BindingId). f.0 < depth) fields → AllUnder b.0 fields → ((qs : List Path) → NeedLists env qs (at (paths_of bs) b) → AllNeedLists env qs (at_all (paths_of bs) fields)) → list_before (Some x) ≡ None → IsStill env (at (paths_of bs) b)
      → ((more : List ℕ) → AreReadable (setting env t bs) more fields → IsOpenable (setting env t bs) more (at (paths_of bs) b) (Some x)) → ReadsOne (setting env t bs) bound b (unbound bs (needed bs depth) bound b (slice_get bs b.0))
  parts_binds depth bound b x fields tys ok k e parts h st below low within none still made =
      let s = setting env t bs in
      let order = each_needed (needed bs depth) bound fields in
      let r = each_read depth (needed bs depth) bound fields tys ok k h st below in
      subst (ReadsOne s bound b) (sym (ap (unbound bs (needed bs depth) bound b) e ∙ parts bound))
      (bound_is_read s bound b (order ++ b ∷ []) (made_binds s bound b fields order r still (λ read. subst (IsOpenable s (bound_by bound order) (at (paths_of bs) b)) (sym e) (made (bound_by bound order) read)) low within (ap list_before e ∙ none)))

  -- an inner value is bound
  inner_bound : (bound : List ℕ) (b : BindingId) (q : Path) (tys : List TypeId) → IsBehind (paths_of bs) tests done bound → at (paths_of bs) b ≡ Inner q → IsOptionOf env t q tys → StandsWithin tests done q → Contains bound b.0
  inner_bound bound b (Called term ps instance) tys k p h st = ⊎_elim (λ made. k.inner b (Called term ps instance) p made) (λ test. k.opened b (Called term ps instance) p test) st
  inner_bound bound b (Extracted term q) tys k p h st = k.opened b (Extracted term q) p st
  inner_bound bound b q tys k p h st = absurd h

  -- a list that is there
  list_there : (p : Path) (tys : List TypeId) → IsListOf env t p tys → IsThere p
  list_there Nowhere tys h = absurd h
  list_there p tys h = tt

  same_list : (x y : BindingId) → Some (binding.Iterator x) ≡ Some (binding.Iterator y) → x ≡ y
  same_list x y e = cc

  -- after its list, an item
  behind_list : (depth : ℕ) (bound : List ℕ) (b source : BindingId) (tys : List TypeId) (order : List BindingId) → slice_get bs b.0 ≡ Some (binding.Iterator source) → at (paths_of bs) b ≡ Chosen (at (paths_of bs) source) → IsListOf env t (at (paths_of bs) source) tys
      → unbound bs (needed bs depth) bound b (Some (binding.Iterator source)) ≡ order ++ b ∷ [] → source.0 < b.0 → is_bound bound b ≡ false → BindsOne (setting env t bs) bound source order → BindsOne (setting env t bs) bound b (unbound bs (needed bs depth) bound b (slice_get bs b.0))
  behind_list depth bound b source tys order e p h is low free r =
      let s = setting env t bs in
      let under = under_more (suc source.0) b.0 order (omega (arith, low)) r.under in
      let new : Contains bound b.0 → ⊥ = λ there. (let marked = is_marked bound b.0 there in absurd cc) in
      let item : IsItemBound s (bound_by bound order) (at (paths_of bs) b) source = record { path = p; tys = tys; list = h; bound' = r.there; fits = fits (at (paths_of bs) source) (contains_at (paths_of bs) b.0 (Chosen (at (paths_of bs) source)) tt p) } in
      subst (BindsOne s bound b) (sym (ap (unbound bs (needed bs depth) bound b) e ∙ is))
      (then_binds s bound b order r.binds r.still (subst (IsStill env) (sym p) tt) (subst (IsOpenable s (bound_by bound order) (at (paths_of bs) b)) (sym e) item) under
      (λ qs lists.
      let of = subst (NeedLists env qs) p lists in
      (r.items qs of.1, λ other f. (subst (λ (x : BindingId). Contains qs (at (paths_of bs) x)) (same_list source other (sym e ∙ f)) of.0, λ there. new (under_bound b.0 order bound under there)))))

  -- a list's call
  unbound_item : (depth : ℕ) (bound : List ℕ) (b source : BindingId) (tys : List TypeId) (x : Binding) → MakesRead depth (needed bs depth) → IsBehind (paths_of bs) tests done bound → slice_get bs b.0 ≡ Some (binding.Iterator source) → at (paths_of bs) b ≡ Chosen (at (paths_of bs) source)
      → slice_get bs source.0 ≡ Some x → at (paths_of bs) source ≡ path_over (paths_of bs) x → HasParts (path_over (take source.0 (paths_of bs)) x) → IsListOf env t (at (paths_of bs) source) tys → IsListOf env t (path_over (paths_of bs) x) tys
      → StandsOn env tests done (path_over (paths_of bs) x) → source.0 < suc depth → source.0 < b.0 → is_bound bound b ≡ false → BindsOne (setting env t bs) bound b (unbound bs (needed bs depth) bound b (slice_get bs b.0))
  unbound_item depth bound b source tys (binding.Constructor term parameters instance) ok k e p is q there typed h st lt low free =
      let order = each_needed (needed bs depth) bound parameters in
      behind_list depth bound b source tys (unbound bs (needed bs depth) bound source (slice_get bs source.0)) e p typed
      (ap (λ o. unbound_from bs (needed bs depth) bound source b o) is ∙ sym (append_assoc order (source ∷ []) (b ∷ [])) ∙ ap (λ o. unbound bs (needed bs depth) bound source o ++ b ∷ []) (sym is)) low free
      (called_binds depth bound source term parameters instance return_kind.Iterator (calling env term) (slice_get env.terms term.0) (λ (c : Term). c.ret_ty ∷ [] ≡ tys) ok k is q refl h.0 refl h.1 st (all_below (paths_of bs) source.0 depth parameters lt there) (all_below (paths_of bs) source.0 source.0 parameters (omega arith) there) (λ st'. listed_bound bound b source k p free st'))
  unbound_item depth bound b source tys (binding.Extractor term parameter) ok k e p is q there typed h st lt low free =
      let order = each_needed (needed bs depth) bound (parameter ∷ []) in
      let below = below_there (paths_of bs) source.0 parameter.0 there in
      behind_list depth bound b source tys (unbound bs (needed bs depth) bound source (slice_get bs source.0)) e p typed
      (ap (λ o. unbound_from bs (needed bs depth) bound source b o) is ∙ sym (append_assoc order (source ∷ []) (b ∷ [])) ∙ ap (λ o. unbound bs (needed bs depth) bound source o ++ b ∷ []) (sym is)) low free
      (extracted_binds depth bound source term parameter return_kind.Iterator tys (slice_get env.terms term.0) ok k is q h.0 refl h.1 st (omega (arith, below, lt)) below)
  unbound_item depth bound b source tys x ok k e p is q there typed h st lt low free = absurd h

  -- an item of a list
  item_binds : (depth : ℕ) (bound : List ℕ) (b source : BindingId) (tys : List TypeId) → MakesRead depth (needed bs depth) → IsBehind (paths_of bs) tests done bound → slice_get bs b.0 ≡ Some (binding.Iterator source) → at (paths_of bs) b ≡ Chosen (at (paths_of bs) source)
      → IsListOf env t (at (paths_of bs) source) tys → StandsOn env tests done (at (paths_of bs) source) → source.0 < suc depth → source.0 < b.0 → is_bound bound b ≡ false → BindsOne (setting env t bs) bound b (unbound bs (needed bs depth) bound b (slice_get bs b.0))
  item_binds depth bound b source tys ok k e p h st lt low free =
      let x = binding_at bs source (list_there (at (paths_of bs) source) tys h) in
      let parts = list_parts env t (at (paths_of bs) source) tys h in
      let q = path_at bs source x.0 x.1 parts in
      unbound_item depth bound b source tys x.0 ok k e p x.1 q (subst HasParts (at_before bs source x.0 x.1) parts) h (subst (λ r. IsListOf env t r tys) q h) (subst (StandsOn env tests done) q st) lt low free

  -- one that is not bound yet
  unbound_read : (depth : ℕ) (bound : List ℕ) (b : BindingId) (ty : TypeId) (x : Binding) → MakesRead depth (needed bs depth) → MakesTuple depth (needed bs depth) → IsBehind (paths_of bs) tests done bound → slice_get bs b.0 ≡ Some x → at (paths_of bs) b ≡ path_over (paths_of bs) x
      → HasParts (path_over (take b.0 (paths_of bs)) x) → IsPathOf env t (at (paths_of bs) b) ty → IsPathOf env t (path_over (paths_of bs) x) ty → StandsOn env tests done (path_over (paths_of bs) x) → b.0 < suc depth → is_bound bound b ≡ false
      → ReadsOne (setting env t bs) bound b (unbound bs (needed bs depth) bound b (slice_get bs b.0))
  unbound_read depth bound b ty (binding.Argument index) ok tuple k e p there typed h st lt free = read_already (setting env t bs) bound b (binding.Argument index) (needed bs depth) e refl (argument b index e)
  unbound_read depth bound b ty (binding.ConstBool val of) ok tuple k e p there typed h st lt free = read_already (setting env t bs) bound b (binding.ConstBool val of) (needed bs depth) e refl (truth b val of e)
  unbound_read depth bound b ty (binding.ConstInt val of) ok tuple k e p there typed h st lt free = read_already (setting env t bs) bound b (binding.ConstInt val of) (needed bs depth) e refl (number b val of e)
  unbound_read depth bound b ty (binding.ConstPrim val) ok tuple k e p there typed h st lt free = read_already (setting env t bs) bound b (binding.ConstPrim val) (needed bs depth) e refl (named b val e)
  unbound_read depth bound b ty (binding.Constructor term parameters instance) ok tuple k e p there typed h st lt free =
      bound_is_read (setting env t bs) bound b (unbound bs (needed bs depth) bound b (slice_get bs b.0))
      (called_binds depth bound b term parameters instance return_kind.Plain (calling env term) (slice_get env.terms term.0) (λ (c : Term). c.ret_ty ≡ ty) ok k e p refl h.0 refl h.1 st (all_below (paths_of bs) b.0 depth parameters lt there) (all_below (paths_of bs) b.0 b.0 parameters (omega arith) there) (λ st'. called_bound bound b k free st'))
  unbound_read depth bound b ty (binding.MatchSome source) ok tuple k e p there typed h st lt free =
      read_already (setting env t bs) bound b (binding.MatchSome source) (needed bs depth) e refl (bound_read b (inner_bound bound b (at (paths_of bs) source) (ty ∷ []) k p h st))
  unbound_read depth bound b ty (binding.MatchVariant source variant field) ok tuple k e p there typed h st lt free =
      read_already (setting env t bs) bound b (binding.MatchVariant source variant field) (needed bs depth) e refl (bound_read b (k.variant b st.0 variant field.0 (at (paths_of bs) source) p st.1))
  unbound_read depth bound b ty (binding.ExtractStruct source field) ok tuple k e p there typed h st lt free =
      read_already (setting env t bs) bound b (binding.ExtractStruct source field) (needed bs depth) e refl (bound_read b (k.struct b st.0 field.0 (at (paths_of bs) source) p st.1))
  unbound_read depth bound b ty (binding.Extractor term parameter) ok tuple k e p there typed h st lt free =
      let below = below_there (paths_of bs) b.0 parameter.0 there in
      bound_is_read (setting env t bs) bound b (unbound bs (needed bs depth) bound b (slice_get bs b.0))
      (extracted_binds depth bound b term parameter return_kind.Plain (ty ∷ []) (slice_get env.terms term.0) ok k e p h.0 refl h.1 st (omega (arith, below, lt)) below)
  unbound_read depth bound b ty (binding.MakeVariant of variant fields) ok tuple k e p there typed h st lt free =
      let parts = parts_typed env t (form env (MakesVariant of variant)) (at_all (paths_of bs) fields) h.1 in
      parts_binds depth bound b (binding.MakeVariant of variant fields) fields parts.0 ok k e (λ more. refl) parts.1 st (all_below (paths_of bs) b.0 depth fields lt there) (all_below (paths_of bs) b.0 b.0 fields (omega arith) there) (λ qs lists. subst (NeedLists env qs) p lists) refl (subst (IsStill env) (sym p) tt) (λ more read. record { ty = ty; path = typed; parts = read })
  unbound_read depth bound b ty (binding.MakeStruct of []) ok tuple k e p there typed h st lt free = read_already (setting env t bs) bound b (binding.MakeStruct of []) (needed bs depth) e refl (made_struct b of [] e none_read)
  unbound_read depth bound b ty (binding.MakeStruct of (f ∷ fs)) ok tuple k e p there typed h st lt free =
      let parts = parts_typed env t (form env (MakesStruct of)) (at_all (paths_of bs) (f ∷ fs)) h.1 in
      parts_binds depth bound b (binding.MakeStruct of (f ∷ fs)) (f ∷ fs) parts.0 ok k e (λ more. refl) parts.1 st (all_below (paths_of bs) b.0 depth (f ∷ fs) lt there) (all_below (paths_of bs) b.0 b.0 (f ∷ fs) (omega arith) there) (λ qs lists. subst (NeedLists env qs) p lists) refl (subst (IsStill env) (sym p) tt) (λ more read. record { ty = ty; path = typed; parts = read })
  unbound_read depth bound b ty (binding.Iterator source) ok tuple k e p there typed h st lt free =
      let below = below_there (paths_of bs) b.0 source.0 there in
      bound_is_read (setting env t bs) bound b (unbound bs (needed bs depth) bound b (slice_get bs b.0)) (item_binds depth bound b source (ty ∷ []) ok k e p h st.0 (omega (arith, below, lt)) below free)
  unbound_read depth bound b ty (binding.MakeSome inner) ok tuple k e p there typed h st lt free = absurd h
  unbound_read depth bound b ty (binding.MatchTuple source field) ok tuple k e p there typed h st lt free =
      let below = below_there (paths_of bs) b.0 source.0 there in
      bound_is_read (setting env t bs) bound b (unbound bs (needed bs depth) bound b (slice_get bs b.0)) (part_binds depth bound b source field ty tuple k e p h st (omega (arith, below, lt)) below)

  -- a tuple that is not bound yet
  unbound_tuple : (depth : ℕ) (bound : List ℕ) (b : BindingId) (tys : List TypeId) (x : Binding) → MakesRead depth (needed bs depth) → IsBehind (paths_of bs) tests done bound → slice_get bs b.0 ≡ Some x → at (paths_of bs) b ≡ path_over (paths_of bs) x
      → HasParts (path_over (take b.0 (paths_of bs)) x) → IsTupleOf env t (path_over (paths_of bs) x) tys → StandsOn env tests done (path_over (paths_of bs) x) → b.0 < suc depth → is_bound bound b ≡ false
      → BindsOne (setting env t bs) bound b (unbound bs (needed bs depth) bound b (slice_get bs b.0))
  unbound_tuple depth bound b tys (binding.MatchSome source) ok k e p there h st lt free =
      subst (λ o. BindsOne (setting env t bs) bound b (unbound bs (needed bs depth) bound b o)) (sym e) (record { binds = tt; still = tt; there = inner_bound bound b (at (paths_of bs) source) tys k p h.1 st; under = tt; items = λ qs lists. tt })
  unbound_tuple depth bound b tys (binding.Extractor term parameter) ok k e p there h st lt free =
      let below = below_there (paths_of bs) b.0 parameter.0 there in
      extracted_binds depth bound b term parameter return_kind.Plain tys (slice_get env.terms term.0) ok k e p h.1 refl h.2 st (omega (arith, below, lt)) below
  unbound_tuple depth bound b tys (binding.Iterator source) ok k e p there h st lt free =
      let below = below_there (paths_of bs) b.0 source.0 there in
      item_binds depth bound b source tys ok k e p h.1 st.0 (omega (arith, below, lt)) below free
  unbound_tuple depth bound b tys x ok k e p there h st lt free = absurd h

  read_more : (depth : ℕ) → MakesRead depth (needed bs depth) → MakesTuple depth (needed bs depth) → MakesRead (suc depth) (needed bs (suc depth))
  read_more depth ok tuple bound b ty k h st lt = one (is_bound bound b) refl
    where
      one : (x : Bool) → is_bound bound b ≡ x → ReadsOne (setting env t bs) bound b (cond x [] (unbound bs (needed bs depth) bound b (slice_get bs b.0)))
      one true is = record { binds = tt; still = tt; read = bound_read b (contained bound b.0 is); under = tt; items = λ qs lists. tt }
      one false is =
          let x = binding_at bs b (path_there env t (at (paths_of bs) b) ty h) in
          let parts = typed_parts env t (at (paths_of bs) b) ty h in
          let p = path_at bs b x.0 x.1 parts in
          unbound_read depth bound b ty x.0 ok tuple k x.1 p (subst HasParts (at_before bs b x.0 x.1) parts) h (subst (λ q. IsPathOf env t q ty) p h) (subst (StandsOn env tests done) p st) lt is

  tuple_more : (depth : ℕ) → MakesRead depth (needed bs depth) → MakesTuple (suc depth) (needed bs (suc depth))
  tuple_more depth ok bound b tys k h st lt = one (is_bound bound b) refl
    where
      one : (x : Bool) → is_bound bound b ≡ x → BindsOne (setting env t bs) bound b (cond x [] (unbound bs (needed bs depth) bound b (slice_get bs b.0)))
      one true is = record { binds = tt; still = tt; there = contained bound b.0 is; under = tt; items = λ qs lists. tt }
      one false is =
          let x = binding_at bs b (tuple_there env t (at (paths_of bs) b) tys h) in
          let parts = tuple_parts env t (at (paths_of bs) b) tys h in
          let p = path_at bs b x.0 x.1 parts in
          unbound_tuple depth bound b tys x.0 ok k x.1 p (subst HasParts (at_before bs b x.0 x.1) parts) (subst (λ q. IsTupleOf env t q tys) p h) (subst (StandsOn env tests done) p st) lt is

  needed_both : (depth : ℕ) → MakesRead depth (needed bs depth) × MakesTuple depth (needed bs depth)
  needed_both zero = (λ bound b ty k h st lt. absurd (omega (arith, lt)), λ bound b tys k h st lt. absurd (omega (arith, lt)))
  needed_both (suc depth) = let r = needed_both depth in (read_more depth r.0 r.1, tuple_more depth r.0)

  -- what is needed for bindings that stand there
  pub needs_read : (bound : List ℕ) (reads : List BindingId) (tys : List TypeId) → IsBehind (paths_of bs) tests done bound → ArePathsOf env t (at_all (paths_of bs) reads) tys → AllStandOn env tests done (at_all (paths_of bs) reads)
      → ReadsAll (setting env t bs) bound reads (needs bs bound reads)
  needs_read bound reads tys k h st = each_read (length bs) (needed bs (length bs)) bound reads tys (needed_both (length bs)).0 k h st (all_within bs reads (paths_there env t (at_all (paths_of bs) reads) tys h))

  -- ---- options

  unbound_option : (depth : ℕ) (bound : List ℕ) (b : BindingId) (tys : List TypeId) (x : Binding) → IsBehind (paths_of bs) tests done bound → slice_get bs b.0 ≡ Some x → at (paths_of bs) b ≡ path_over (paths_of bs) x
      → HasParts (path_over (take b.0 (paths_of bs)) x) → IsOptionOf env t (path_over (paths_of bs) x) tys → StandsOn env tests done (path_over (paths_of bs) x) → b.0 < suc depth → is_bound bound b ≡ false
      → BindsOne (setting env t bs) bound b (unbound bs (needed bs depth) bound b (slice_get bs b.0))
  unbound_option depth bound b tys (binding.Constructor term parameters instance) k e p there h st lt free =
      called_binds depth bound b term parameters instance return_kind.Option (calling env term) (slice_get env.terms term.0) (λ (c : Term). c.ret_ty ∷ [] ≡ tys) (needed_both depth).0 k e p refl h.0 refl h.1 st (all_below (paths_of bs) b.0 depth parameters lt there) (all_below (paths_of bs) b.0 b.0 parameters (omega arith) there) (λ st'. called_bound bound b k free st')
  unbound_option depth bound b tys (binding.Extractor term parameter) k e p there h st lt free =
      let below = below_there (paths_of bs) b.0 parameter.0 there in
      extracted_binds depth bound b term parameter return_kind.Option tys (slice_get env.terms term.0) (needed_both depth).0 k e p h.0 refl h.1 st (omega (arith, below, lt)) below
  unbound_option depth bound b tys x k e p there h st lt free = absurd h

  needed_option : (depth : ℕ) (bound : List ℕ) (b : BindingId) (tys : List TypeId) → IsBehind (paths_of bs) tests done bound → IsOptionOf env t (at (paths_of bs) b) tys → StandsOn env tests done (at (paths_of bs) b) → b.0 < depth
      → BindsOne (setting env t bs) bound b (needed bs depth bound b)
  needed_option zero bound b tys k h st lt = absurd (omega (arith, lt))
  needed_option (suc depth) bound b tys k h st lt = one (is_bound bound b) refl
    where
      one : (x : Bool) → is_bound bound b ≡ x → BindsOne (setting env t bs) bound b (cond x [] (unbound bs (needed bs depth) bound b (slice_get bs b.0)))
      one true is = record { binds = tt; still = tt; there = contained bound b.0 is; under = tt; items = λ qs lists. tt }
      one false is =
          let x = binding_at bs b (option_there env t (at (paths_of bs) b) tys h) in
          let parts = option_parts env t (at (paths_of bs) b) tys h in
          let p = path_at bs b x.0 x.1 parts in
          unbound_option depth bound b tys x.0 k x.1 p (subst HasParts (at_before bs b x.0 x.1) parts) (subst (λ q. IsOptionOf env t q tys) p h) (subst (StandsOn env tests done) p st) lt is

  -- what is needed for an option is bound with it
  pub option_needs : (bound : List ℕ) (b : BindingId) (tys : List TypeId) → IsBehind (paths_of bs) tests done bound → IsOptionOf env t (at (paths_of bs) b) tys → StandsOn env tests done (at (paths_of bs) b) → BindsOne (setting env t bs) bound b (needs bs bound (b ∷ []))
  option_needs bound b tys k h st =
      subst (BindsOne (setting env t bs) bound b) (sym (append-nil (needed bs (length bs) bound b))) (needed_option (length bs) bound b tys k h st (within bs b (option_there env t (at (paths_of bs) b) tys h)))

  -- ---- items

  -- an item of a list that stands there
  pub record IsItemReady (b : BindingId) : Type 0 where
    pub source : BindingId
    pub is : slice_get bs b.0 ≡ Some (binding.Iterator source)
    pub path : at (paths_of bs) b ≡ Chosen (at (paths_of bs) source)
    pub below : source.0 < b.0
    pub tys : List TypeId
    pub list : IsListOf env t (at (paths_of bs) source) tys
    pub stands : StandsOn env tests done (at (paths_of bs) source)

  needed_item : (depth : ℕ) (bound : List ℕ) (b : BindingId) → IsBehind (paths_of bs) tests done bound → IsItemReady b → b.0 < depth → BindsOne (setting env t bs) bound b (needed bs depth bound b)
  needed_item zero bound b k h lt = absurd (omega (arith, lt))
  needed_item (suc depth) bound b k h lt = one (is_bound bound b) refl
    where
      one : (x : Bool) → is_bound bound b ≡ x → BindsOne (setting env t bs) bound b (cond x [] (unbound bs (needed bs depth) bound b (slice_get bs b.0)))
      one true is = record { binds = tt; still = tt; there = contained bound b.0 is; under = tt; items = λ qs lists. tt }
      one false is =
          let below = h.below in
          item_binds depth bound b h.source h.tys (needed_both depth).0 k h.is h.path h.list h.stands (omega (arith, below, lt)) below is

  -- what is needed for items may be bound, and then they are
  pub record BindsItems (bound : List ℕ) (items order : List BindingId) : Type 0 where
    pub binds : AreOpenable (setting env t bs) bound order
    pub still : AreStill env (paths_of bs) order
    pub there : AllByRecursion (λ (b : BindingId). Contains (bound_by bound order) b.0) items
    pub new : (qs : List Path) → AllByRecursion (λ (b : BindingId). NeedLists env qs (at (paths_of bs) b)) items → AreItemsNew qs bs bound order

  each_item : (depth : ℕ) (bound : List ℕ) (items : List BindingId) → IsBehind (paths_of bs) tests done bound → AllByRecursion IsItemReady items → AllByRecursion (λ (b : BindingId). b.0 < depth) items → BindsItems bound items (each_needed (needed bs depth) bound items)
  each_item depth bound [] k h below = record { binds = tt; still = tt; there = tt; new = λ qs lists. tt }
  each_item depth bound (b ∷ more) k h below =
      let s = setting env t bs in
      let xs = needed bs depth bound b in
      let inner = bound_by bound xs in
      let ys = each_needed (needed bs depth) inner more in
      let r = needed_item depth bound b k h.0 below.0 in
      let rest = each_item depth inner more (behind_grows (paths_of bs) tests done bound inner (by_kept xs bound) k) h.1 below.1 in
      record {
        binds = openable_append s xs ys bound r.binds rest.binds;
        still = still_append env (paths_of bs) xs ys r.still rest.still;
        there = subst (λ ks. AllByRecursion (λ (x : BindingId). Contains ks x.0) (b ∷ more)) (sym (bound_append bound xs ys)) (by_kept ys inner b.0 r.there, rest.there);
        new = λ qs lists. items_append qs bs xs ys bound (r.items qs lists.0) (rest.new qs lists.1);
      }

  items_within : (items : List BindingId) → AllByRecursion IsItemReady items → AllByRecursion (λ (b : BindingId). b.0 < length bs) items
  items_within [] h = tt
  items_within (b ∷ items) h = (slice_get_within bs b.0 (binding.Iterator h.0.source) h.0.is, items_within items h.1)

  pub items_needed : (bound : List ℕ) (items : List BindingId) → IsBehind (paths_of bs) tests done bound → AllByRecursion IsItemReady items → BindsItems bound items (needs bs bound items)
  items_needed bound items k h = each_item (length bs) bound items k h (items_within items h)
