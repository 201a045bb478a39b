-- The items that are needed: none is bound yet, each stands after its list, and no list holds an impure call.
use Rattle.std.proofs.Common.{◌≡◌, ◌⊎◌, inl, inr, ⊎_elim, ℕ, zero, suc, ◌<◌, List, [], ◌∷◌, ◌++◌, length, get_or, take, Bool, true, false, cond, IsTrue, Option, Some, None, refl, sym, ap, ◌∙◌, subst, arith}
use Rattle.std.specs.Prelude.{slice_get, IsSomeAnd, Contains}
use Rattle.std.specs.List.{AllByRecursion}
use Rattle.std.proofs.lemmas.List.Elements.{Contains-push_cases}
use Rattle.std.proofs.lemmas.Option.{slice_get_within}
use Rattle.isle_core.specs.declared.BindingId.{BindingId}
use Rattle.isle_core.specs.declared.TypeId.{TypeId}
use Rattle.isle_core.specs.declared.rule_sets.Binding.{Binding}
use Rattle.isle_core.specs.declared.rule_sets.Binding.TheVariants as binding
use Rattle.isle_core.specs.declared.types.Term.{Term}
use Rattle.isle_core.specs.Bindable.{bound_by}
use Rattle.isle_core.specs.Calling.{Calling, ByTurns, ByCases, NoCall, calling}
use Rattle.isle_core.specs.Form.{Form, form, form_types}
use Rattle.isle_core.specs.HoldsImpure.{holds_impure}
use Rattle.isle_core.specs.Making.{MakesVariant, MakesStruct}
use Rattle.isle_core.specs.Path.{Path, Nowhere, Arg, ConstBool, ConstInt, ConstPrim, Extracted, Called, Chosen, MadeVariant, MadeStruct, VariantField, StructField, Wrapped, Inner, Part, Paths, NoPath, APath, at, at_all, path_over, paths_of}
use Rattle.isle_core.specs.PathType.{IsPathOf, IsTupleOf, IsOptionOf, IsListOf, ArePathsOf}
use Rattle.isle_core.specs.Rule.{Environment}
use Rattle.isle_core.specs.Serializable.{StandsOn, AllStandOn, StandsCalled}
use Rattle.isle_core.specs.Tests.{Test}
use Rattle.isle_core.proofs.BindingPaths.{IsThere, AreThere, HasParts, at_before, path_at, binding_at, path_there, option_there}
use Rattle.isle_core.proofs.OptionLaws.{some_same}
use Rattle.isle_blocks.specs.Needed.{list_parts, list_before, is_bound, each_needed, with_parts, unbound, needed, needs}
use Rattle.isle_blocks.proofs.Behind.{IsBehind}
use Rattle.isle_blocks.proofs.MoreBound.{by_kept}
use Rattle.isle_blocks.proofs.NeededBound.{is_marked}

-- ---- new items

-- a binding that is no item, or that of a list of which this holds, after which it stands, and is not bound yet
abbrev pub IsAnew : (Path → Type 0) → List Binding → (bound : List ℕ) → BindingId → Type 0
IsAnew P bs bound b = (source : BindingId) → slice_get bs b.0 ≡ Some (binding.Iterator source) → P (at (paths_of bs) source) × (at (paths_of bs) b ≡ Chosen (at (paths_of bs) source)) × (Contains bound b.0 → ⊥)

-- so of each of an order
abbrev pub AreAnew : (Path → Type 0) → List Binding → (bound : List ℕ) → List BindingId → Type 0
AreAnew P bs bound [] = Unit {0}
AreAnew P bs bound (b ∷ order) = IsAnew P bs bound b × AreAnew P bs (bound ++ b.0 ∷ []) order

pub anew_append : (P : Path → Type 0) (bs : List Binding) (xs ys : List BindingId) (bound : List ℕ) → AreAnew P bs bound xs → AreAnew P bs (bound_by bound xs) ys → AreAnew P bs bound (xs ++ ys)
anew_append P bs [] ys bound h k = k
anew_append P bs (x ∷ xs) ys bound h k = (h.0, anew_append P bs xs ys (bound ++ x.0 ∷ []) h.1 k)

-- of lists of which more holds
pub anew_more : (P Q : Path → Type 0) (bs : List Binding) (xs : List BindingId) (bound : List ℕ) → ((p : Path) → P p → Q p) → AreAnew P bs bound xs → AreAnew Q bs bound xs
anew_more P Q bs [] bound f h = tt
anew_more P Q bs (x ∷ xs) bound f h = (λ source e. let k = h.0 source e in (f (at (paths_of bs) source) k.0, k.1, k.2), anew_more P Q bs xs (bound ++ x.0 ∷ []) f h.1)

-- no item
pub plain_anew : (P : Path → Type 0) (bs : List Binding) (bound : List ℕ) (b : BindingId) → list_before (slice_get bs b.0) ≡ None → IsAnew P bs bound b
plain_anew P bs bound b none = λ source e. let bad = sym none ∙ ap list_before e in absurd cc

-- ---- what may be needed

-- what is needed for a path is somewhere, but for what is after a call that was made, and a list that holds an impure call was made
abbrev mutual
  pub IsNeedable : Environment → (done : List Path) → Path → Type 0
  IsNeedable env done (Called term ps instance) = Contains done (Called term ps instance) ⊎ AreNeedable env done ps
  IsNeedable env done (Extracted term q) = IsNeedable env done q
  IsNeedable env done (Part part q) = IsNeedable env done q
  IsNeedable env done (Chosen q) = IsNeedable env done q × (IsTrue (holds_impure env q) → Contains done q)
  IsNeedable env done (MadeVariant of variant ps) = AreNeedable env done ps
  IsNeedable env done (MadeStruct of ps) = AreNeedable env done ps
  IsNeedable env done (VariantField variant field q) = IsThere q
  IsNeedable env done (StructField field q) = IsThere q
  IsNeedable env done (Wrapped q) = IsThere q
  IsNeedable env done (Inner q) = IsThere q
  IsNeedable env done Nowhere = ⊥
  IsNeedable env done (Arg i) = Unit {0}
  IsNeedable env done (ConstBool of b) = Unit {0}
  IsNeedable env done (ConstInt of n) = Unit {0}
  IsNeedable env done (ConstPrim name) = Unit {0}

  -- so of each
  pub AreNeedable : Environment → (done : List Path) → Paths → Type 0
  AreNeedable env done NoPath = Unit {0}
  AreNeedable env done (APath p ps) = IsNeedable env done p × AreNeedable env done ps

pub needable_there : (env : Environment) (done : List Path) (p : Path) → IsNeedable env done p → IsThere p
needable_there env done Nowhere h = absurd h
needable_there env done p h = tt

all_there : (env : Environment) (done : List Path) (ps : Paths) → AreNeedable env done ps → AreThere ps
all_there env done NoPath h = tt
all_there env done (APath p ps) h = (needable_there env done p h.0, all_there env done ps h.1)

has_parts : (env : Environment) (done : List Path) (p : Path) → (Contains done p → ⊥) → IsNeedable env done p → HasParts p
has_parts env done (Called term ps instance) free h = ⊎_elim (λ k. absurd (free k)) (λ k. all_there env done ps k) h
has_parts env done (Extracted term q) free h = needable_there env done q h
has_parts env done (Part part q) free h = needable_there env done q h
has_parts env done (Chosen q) free h = needable_there env done q h.0
has_parts env done (MadeVariant of variant ps) free h = all_there env done ps h
has_parts env done (MadeStruct of ps) free h = all_there env done ps h
has_parts env done p free h = h

called_needable : (env : Environment) (t : Term) (tests : List Test) (done : List Path) (p : Path) (ps : Paths) (c : Calling) (o : Option Term) (P : Term → Type 0) → StandsCalled c (Contains done p) (AllStandOn env tests done ps)
    → IsSomeAnd o (λ (x : Term). P x × ArePathsOf env t ps x.arg_tys) → ((tys : List TypeId) → ArePathsOf env t ps tys → AllStandOn env tests done ps → AreNeedable env done ps) → Contains done p ⊎ AreNeedable env done ps
called_needable env t tests done p ps (ByTurns callee kind) o P st h more = inl st
called_needable env t tests done p ps (ByCases callee kind) (Some x) P st h more = inr (more x.arg_tys h.1 st)
called_needable env t tests done p ps (ByCases callee kind) None P st h more = absurd h
called_needable env t tests done p ps NoCall o P st h more = absurd st

extracted_needable : (env : Environment) (t : Term) (done : List Path) (q : Path) (tys : List TypeId) (o : Option Term) → IsSomeAnd o (λ (c : Term). (c.arg_tys ≡ tys) × IsPathOf env t q c.ret_ty) → ((ty : TypeId) → IsPathOf env t q ty → IsNeedable env done q) → IsNeedable env done q
extracted_needable env t done q tys None h more = absurd h
extracted_needable env t done q tys (Some c) h more = more c.ret_ty h.1

made_needable : (env : Environment) (t : Term) (done : List Path) (ps : Paths) (o : Option Form) → IsSomeAnd o (λ f. ArePathsOf env t ps (form_types env f)) → ((tys : List TypeId) → ArePathsOf env t ps tys → AreNeedable env done ps) → AreNeedable env done ps
made_needable env t done ps None h more = absurd h
made_needable env t done ps (Some f) h more = more (form_types env f) h

-- typed paths that stand on tests and calls
mutual
  pub path_needable : (env : Environment) (t : Term) (tests : List Test) (done : List Path) (p : Path) (ty : TypeId) → IsPathOf env t p ty → StandsOn env tests done p → IsNeedable env done p
  path_needable env t tests done (Called term ps instance) ty h st =
      called_needable env t tests done (Called term ps instance) ps (calling env term) (slice_get env.terms term.0) (λ (c : Term). c.ret_ty ≡ ty) st h.1 (λ tys k s. paths_needable env t tests done ps tys k s)
  path_needable env t tests done (Extracted term q) ty h st = extracted_needable env t done q (ty ∷ []) (slice_get env.terms term.0) h.1 (λ of k. path_needable env t tests done q of k st)
  path_needable env t tests done (Chosen q) ty h st = (list_needable env t tests done q (ty ∷ []) h st.0, st.1)
  path_needable env t tests done (Part part q) ty h st = tuple_needable env t tests done q h.0 h.1 st
  path_needable env t tests done (MadeVariant of variant ps) ty h st = made_needable env t done ps (form env (MakesVariant of variant)) h.1 (λ tys k. paths_needable env t tests done ps tys k st)
  path_needable env t tests done (MadeStruct of ps) ty h st = made_needable env t done ps (form env (MakesStruct of)) h.1 (λ tys k. paths_needable env t tests done ps tys k st)
  path_needable env t tests done (VariantField variant field q) ty h st = path_there env t q h.0 h.1
  path_needable env t tests done (StructField field q) ty h st = path_there env t q h.0 h.1
  path_needable env t tests done (Inner q) ty h st = option_there env t q (ty ∷ []) h
  path_needable env t tests done (Wrapped q) ty h st = absurd h
  path_needable env t tests done Nowhere ty h st = absurd h
  path_needable env t tests done (Arg i) ty h st = tt
  path_needable env t tests done (ConstBool of b) ty h st = tt
  path_needable env t tests done (ConstInt of n) ty h st = tt
  path_needable env t tests done (ConstPrim name) ty h st = tt

  -- so of lists
  pub list_needable : (env : Environment) (t : Term) (tests : List Test) (done : List Path) (p : Path) (tys : List TypeId) → IsListOf env t p tys → StandsOn env tests done p → IsNeedable env done p
  list_needable env t tests done (Called term ps instance) tys h st =
      called_needable env t tests done (Called term ps instance) ps (calling env term) (slice_get env.terms term.0) (λ (c : Term). c.ret_ty ∷ [] ≡ tys) st h.1 (λ of k s. paths_needable env t tests done ps of k s)
  list_needable env t tests done (Extracted term q) tys h st = extracted_needable env t done q tys (slice_get env.terms term.0) h.1 (λ of k. path_needable env t tests done q of k st)
  list_needable env t tests done p tys h st = absurd h

  -- of options
  pub option_needable : (env : Environment) (t : Term) (tests : List Test) (done : List Path) (p : Path) (tys : List TypeId) → IsOptionOf env t p tys → StandsOn env tests done p → IsNeedable env done p
  option_needable env t tests done (Called term ps instance) tys h st =
      called_needable env t tests done (Called term ps instance) ps (calling env term) (slice_get env.terms term.0) (λ (c : Term). c.ret_ty ∷ [] ≡ tys) st h.1 (λ of k s. paths_needable env t tests done ps of k s)
  option_needable env t tests done (Extracted term q) tys h st = extracted_needable env t done q tys (slice_get env.terms term.0) h.1 (λ of k. path_needable env t tests done q of k st)
  option_needable env t tests done p tys h st = absurd h

  -- of tuples
  tuple_needable : (env : Environment) (t : Term) (tests : List Test) (done : List Path) (p : Path) (tys : List TypeId) → IsTupleOf env t p tys → StandsOn env tests done p → IsNeedable env done p
  tuple_needable env t tests done (Extracted term q) tys h st = extracted_needable env t done q tys (slice_get env.terms term.0) h.2 (λ of k. path_needable env t tests done q of k st)
  tuple_needable env t tests done (Inner q) tys h st = option_there env t q tys h.1
  tuple_needable env t tests done (Chosen q) tys h st = (list_needable env t tests done q tys h.1 st.0, st.1)
  tuple_needable env t tests done p tys h st = absurd h

  -- and of paths in order
  pub paths_needable : (env : Environment) (t : Term) (tests : List Test) (done : List Path) (ps : Paths) (tys : List TypeId) → ArePathsOf env t ps tys → AllStandOn env tests done ps → AreNeedable env done ps
  paths_needable env t tests done NoPath tys h st = tt
  paths_needable env t tests done (APath p ps) [] h st = absurd h
  paths_needable env t tests done (APath p ps) (ty ∷ tys) h st = (path_needable env t tests done p ty h.0 st.0, paths_needable env t tests done ps tys h.1 st.1)

-- ---- numbers

-- each stands before this place
abbrev AllBelow : ℕ → List BindingId → Type 0
AllBelow n order = AllByRecursion (λ (b : BindingId). b.0 < n) order

below_append : (n : ℕ) (xs ys : List BindingId) → AllBelow n xs → AllBelow n ys → AllBelow n (xs ++ ys)
below_append n [] ys h k = k
below_append n (x ∷ xs) ys h k = (h.0, below_append n xs ys h.1 k)

below_more : (m n : ℕ) (xs : List BindingId) → m < suc n → AllBelow m xs → AllBelow n xs
below_more m n [] lt h = tt
below_more m n (x ∷ xs) lt h = let low = h.0 in (omega (arith, low, lt), below_more m n xs lt h.1)

-- what is bound before a place adds nothing there
below_bound : (n : ℕ) (order : List BindingId) (bound : List ℕ) → AllBelow n order → Contains (bound_by bound order) n → Contains bound n
below_bound n [] bound h k = k
below_bound n (b ∷ order) bound h k =
    ⊎_elim (λ j. j) (λ (e : b.0 ≡ n). let low = h.0 in absurd (omega (arith, low, e))) (Contains-push_cases bound b.0 n (below_bound n order (bound ++ b.0 ∷ []) h.1 k))

stands_below : (ps : List Path) (n i : ℕ) → IsThere (get_or (take n ps) i Nowhere) → i < n
stands_below ps zero i h = absurd h
stands_below [] (suc n) i h = absurd h
stands_below (p ∷ ps) (suc n) zero h = omega arith
stands_below (p ∷ ps) (suc n) (suc i) h = let r = stands_below ps n i h in omega (arith, r)

parts_below : (ps : List Path) (n : ℕ) (parts : List BindingId) → AreThere (at_all (take n ps) parts) → AllBelow n parts
parts_below ps n [] h = tt
parts_below ps n (b ∷ parts) h = (stands_below ps n b.0 h.0, parts_below ps n parts h.1)

-- ---- what is needed

module _ (env : Environment) (bs : List Binding) (done : List Path) where
  -- a list that holds no impure call
  abbrev Early : Path → Type 0
  Early p = holds_impure env p ≡ false

  -- an order before this place, with new items
  record Opens (bound : List ℕ) (n : ℕ) (order : List BindingId) : Type 0 where
    below : AllBelow n order
    items : AreAnew Early bs bound order

  -- the calls that were made are bound, and their items
  record IsMade (bound : List ℕ) : Type 0 where
    call : (q : BindingId) → Contains done (at (paths_of bs) q) → Contains bound q.0
    item : (q : BindingId) (p : Path) → at (paths_of bs) q ≡ Chosen p → Contains done p → Contains bound q.0

  made_grows : (order : List BindingId) (bound : List ℕ) → IsMade bound → IsMade (bound_by bound order)
  made_grows order bound h = record { call = λ q k. by_kept order bound q.0 (h.call q k); item = λ q p e k. by_kept order bound q.0 (h.item q p e k) }

  -- what opens new items alone for one that may be needed
  abbrev OpensOne : (List ℕ → BindingId → List BindingId) → Type 0
  OpensOne one = (bound : List ℕ) (b : BindingId) → IsMade bound → IsNeedable env done (at (paths_of bs) b) → Opens bound (suc b.0) (one bound b)

  none_opens : (bound : List ℕ) (n : ℕ) → Opens bound n []
  none_opens bound n = record { below = tt; items = tt }

  each_opens : (n : ℕ) (one : List ℕ → BindingId → List BindingId) → OpensOne one → (bound : List ℕ) (reads : List BindingId) → IsMade bound → AreNeedable env done (at_all (paths_of bs) reads) → AllBelow n reads → Opens bound n (each_needed one bound reads)
  each_opens n one ok bound [] made h below = none_opens bound n
  each_opens n one ok bound (b ∷ reads) made h below =
      let xs = one bound b in
      let ys = each_needed one (bound_by bound xs) reads in
      let low = below.0 in
      let first = ok bound b made h.0 in
      let rest = each_opens n one ok (bound_by bound xs) reads (made_grows xs bound made) h.1 below.1 in
      record {
        below = below_append n xs ys (below_more (suc b.0) n xs (omega (arith, low)) first.below) rest.below;
        items = anew_append Early bs xs ys bound first.items rest.items;
      }

  -- parts, and then what is made over them
  parts_open : (one : List ℕ → BindingId → List BindingId) → OpensOne one → (bound : List ℕ) (b : BindingId) (parts : List BindingId) → IsMade bound → AreNeedable env done (at_all (paths_of bs) parts) → AllBelow b.0 parts → list_before (slice_get bs b.0) ≡ None
      → Opens bound (suc b.0) (each_needed one bound parts ++ b ∷ [])
  parts_open one ok bound b parts made h below none =
      let order = each_needed one bound parts in
      let r = each_opens b.0 one ok bound parts made h below in
      record {
        below = below_append (suc b.0) order (b ∷ []) (below_more b.0 (suc b.0) order (omega arith) r.below) (omega arith, tt);
        items = anew_append Early bs order (b ∷ []) bound r.items (plain_anew Early bs (bound_by bound order) b none, tt);
      }

  -- parts, the list that is made over them, and then its item
  item_opens : (one : List ℕ → BindingId → List BindingId) → OpensOne one → (bound : List ℕ) (b source : BindingId) (parts : List BindingId) → IsMade bound → AreNeedable env done (at_all (paths_of bs) parts) → AllBelow source.0 parts → list_before (slice_get bs source.0) ≡ None
      → slice_get bs b.0 ≡ Some (binding.Iterator source) → at (paths_of bs) b ≡ Chosen (at (paths_of bs) source) → source.0 < b.0 → Early (at (paths_of bs) source) → (Contains bound b.0 → ⊥) → Opens bound (suc b.0) (each_needed one bound parts ++ source ∷ b ∷ [])
  item_opens one ok bound b source parts made h below none e p lt early free =
      let order = each_needed one bound parts in
      let r = each_opens source.0 one ok bound parts made h below in
      let within = bound_by bound order in
      record {
        below = below_append (suc b.0) order (source ∷ b ∷ []) (below_more source.0 (suc b.0) order (omega (arith, lt)) r.below) (omega (arith, lt), (omega arith, tt));
        items = anew_append Early bs order (source ∷ b ∷ []) bound r.items (plain_anew Early bs within source none, (here, tt));
      }
    where
      order' : List BindingId
      order' = each_needed one bound parts

      here : IsAnew Early bs (bound_by bound order' ++ source.0 ∷ []) b
      here other is =
          let same : binding.Iterator source ≡ binding.Iterator other = some_same (binding.Iterator source) (binding.Iterator other) (sym e ∙ is) in
          let one' : source ≡ other = cc in
          let r = each_opens source.0 one ok bound parts made h below in (
            subst (λ (x : BindingId). Early (at (paths_of bs) x)) one' early,
            subst (λ (x : BindingId). at (paths_of bs) b ≡ Chosen (at (paths_of bs) x)) one' p,
            λ k. ⊎_elim (λ j. free (below_bound b.0 order' bound (below_more source.0 b.0 order' (omega (arith, lt)) r.below) j)) (λ (j : source.0 ≡ b.0). absurd (omega (arith, lt, j))) (Contains-push_cases (bound_by bound order') source.0 b.0 k),
          )

  -- the path of a binding that is needed, and of what it is made over
  record IsOver (b : BindingId) (x : Binding) : Type 0 where
    is : slice_get bs b.0 ≡ Some x
    path : at (paths_of bs) b ≡ path_over (paths_of bs) x
    parts : HasParts (path_over (take b.0 (paths_of bs)) x)
    need : IsNeedable env done (path_over (paths_of bs) x)

  over : (b : BindingId) → (Contains done (at (paths_of bs) b) → ⊥) → IsNeedable env done (at (paths_of bs) b) → (x : Binding) × IsOver b x
  over b free h =
      let x = binding_at bs b (needable_there env done (at (paths_of bs) b) h) in
      let parts = has_parts env done (at (paths_of bs) b) free h in
      let p = path_at bs b x.0 x.1 parts in
      (x.0, record { is = x.1; path = p; parts = subst HasParts (at_before bs b x.0 x.1) parts; need = subst (IsNeedable env done) p h })

  -- an item of this list's call
  list_opens : (one : List ℕ → BindingId → List BindingId) → OpensOne one → (bound : List ℕ) (b source : BindingId) (y : Binding) → IsMade bound → IsOver source y → slice_get bs b.0 ≡ Some (binding.Iterator source) → at (paths_of bs) b ≡ Chosen (at (paths_of bs) source) → source.0 < b.0
      → Early (at (paths_of bs) source) → (Contains bound b.0 → ⊥) → (Contains done (at (paths_of bs) source) → ⊥) → Opens bound (suc b.0) (unbound bs one bound b (Some (binding.Iterator source)))
  list_opens one ok bound b source (binding.Constructor term parameters instance) made h e p lt early free new =
      subst (λ o. Opens bound (suc b.0) (with_parts one bound (source ∷ b ∷ []) (list_parts o))) (sym h.is)
      (⊎_elim (λ k. absurd (new (subst (Contains done) (sym h.path) k)))
      (λ k. item_opens one ok bound b source parameters made k (parts_below (paths_of bs) source.0 parameters h.parts) (ap list_before h.is) e p lt early free) h.need)
  list_opens one ok bound b source (binding.Extractor term parameter) made h e p lt early free new =
      subst (λ o. Opens bound (suc b.0) (with_parts one bound (source ∷ b ∷ []) (list_parts o))) (sym h.is)
      (item_opens one ok bound b source (parameter ∷ []) made (h.need, tt) (stands_below (paths_of bs) source.0 parameter.0 h.parts, tt) (ap list_before h.is) e p lt early free)
  list_opens one ok bound b source y made h e p lt early free new = subst (λ o. Opens bound (suc b.0) (with_parts one bound (source ∷ b ∷ []) (list_parts o))) (sym h.is) (none_opens bound (suc b.0))

  -- one that is not bound yet
  unbound_opens : (one : List ℕ → BindingId → List BindingId) → OpensOne one → (bound : List ℕ) (b : BindingId) (x : Binding) → IsMade bound → IsOver b x → (Contains bound b.0 → ⊥) → (Contains done (at (paths_of bs) b) → ⊥) → Opens bound (suc b.0) (unbound bs one bound b (Some x))
  unbound_opens one ok bound b (binding.Constructor term parameters instance) made h free new =
      ⊎_elim (λ k. absurd (new (subst (Contains done) (sym h.path) k)))
      (λ k. parts_open one ok bound b parameters made k (parts_below (paths_of bs) b.0 parameters h.parts) (ap list_before h.is)) h.need
  unbound_opens one ok bound b (binding.Extractor term parameter) made h free new =
      parts_open one ok bound b (parameter ∷ []) made (h.need, tt) (stands_below (paths_of bs) b.0 parameter.0 h.parts, tt) (ap list_before h.is)
  unbound_opens one ok bound b (binding.MakeVariant ty variant fields) made h free new = parts_open one ok bound b fields made h.need (parts_below (paths_of bs) b.0 fields h.parts) (ap list_before h.is)
  unbound_opens one ok bound b (binding.MakeStruct ty []) made h free new = none_opens bound (suc b.0)
  unbound_opens one ok bound b (binding.MakeStruct ty (f ∷ fs)) made h free new = parts_open one ok bound b (f ∷ fs) made h.need (parts_below (paths_of bs) b.0 (f ∷ fs) h.parts) (ap list_before h.is)
  unbound_opens one ok bound b (binding.MatchTuple source field) made h free new =
      parts_open one ok bound b (source ∷ []) made (h.need, tt) (stands_below (paths_of bs) b.0 source.0 h.parts, tt) (ap list_before h.is)
  unbound_opens one ok bound b (binding.Iterator source) made h free new =
      let undone : Contains done (at (paths_of bs) source) → ⊥ = λ k. free (made.item b (at (paths_of bs) source) h.path k) in
      let list = over source undone h.need.0 in
      list_opens one ok bound b source list.0 made list.1 h.is h.path (stands_below (paths_of bs) b.0 source.0 h.parts) (early (holds_impure env (at (paths_of bs) source)) refl (λ late. undone (h.need.1 late))) free undone
    where
      early : (v : Bool) → holds_impure env (at (paths_of bs) source) ≡ v → (IsTrue (holds_impure env (at (paths_of bs) source)) → ⊥) → holds_impure env (at (paths_of bs) source) ≡ false
      early false e k = e
      early true e k = absurd (k e)
  unbound_opens one ok bound b x made h free new = none_opens bound (suc b.0)

  needed_opens : (depth : ℕ) → OpensOne (needed bs depth)
  needed_opens zero bound b made h = none_opens bound (suc b.0)
  needed_opens (suc depth) bound b made h = pick (is_bound bound b) refl (needed_opens depth)
    where
      pick : (v : Bool) → is_bound bound b ≡ v → OpensOne (needed bs depth) → Opens bound (suc b.0) (cond v [] (unbound bs (needed bs depth) bound b (slice_get bs b.0)))
      pick true e ok = none_opens bound (suc b.0)
      pick false e ok =
          let free : Contains bound b.0 → ⊥ = λ k. (let marked = is_marked bound b.0 k in cc) in
          let new : Contains done (at (paths_of bs) b) → ⊥ = λ k. free (made.call b k) in
          let x = over b new h in
          subst (λ o. Opens bound (suc b.0) (unbound bs (needed bs depth) bound b o)) (sym x.1.is) (unbound_opens (needed bs depth) ok bound b x.0 made x.1 free new)

  within : (reads : List BindingId) → AreNeedable env done (at_all (paths_of bs) reads) → AllBelow (length bs) reads
  within [] h = tt
  within (b ∷ reads) h =
      let x = binding_at bs b (needable_there env done (at (paths_of bs) b) h.0) in
      (slice_get_within bs b.0 x.0 x.1, within reads h.1)

  -- what may be needed opens new items, of lists that hold no impure call
  pub needs_anew : (tests : List Test) (bound : List ℕ) (reads : List BindingId) → IsBehind (paths_of bs) tests done bound → AreNeedable env done (at_all (paths_of bs) reads) → AreAnew (λ p. holds_impure env p ≡ false) bs bound (needs bs bound reads)
  needs_anew tests bound reads k h = (each_opens (length bs) (needed bs (length bs)) (needed_opens (length bs)) bound reads (record { call = k.call; item = k.item }) h (within reads h)).items
