-- The path of the binding at a place.
use Rattle.std.proofs.Common.{rules, ◌≡◌, ℕ, zero, suc, ◌+◌, ◌<◌, List, [], ◌∷◌, ◌++◌, length, get_or, take, fold, Option, Some, None, refl, sym, ap, ◌∙◌, subst, arith, length-append, append_assoc}
use Rattle.std.specs.Prelude.{slice_get, IsSomeAnd, Contains}
use Rattle.std.proofs.lemmas.List.{get_or-take}
use Rattle.std.proofs.lemmas.Option.{slice_get-get_or, get_or_from_slice_get}
use Rattle.isle_base.specs.declared.ids.BindingId.{BindingId}
use Rattle.isle_base.specs.declared.ids.TermId.{TermId}
use Rattle.isle_base.specs.declared.ids.TupleIndex.{TupleIndex}
use Rattle.isle_base.specs.declared.ids.TypeId.{TypeId}
use Rattle.isle_base.specs.declared.ids.VariantId.{VariantId}
use Rattle.isle_core.specs.declared.rule_sets.Binding.{Binding}
use Rattle.isle_core.specs.declared.rule_sets.Binding.TheVariants as binding
use Rattle.isle_core.specs.declared.types.Term.{Term}
use Rattle.isle_core.specs.Path.{Path, Nowhere, Arg, ConstBool, ConstInt, ConstPrim, Extracted, Called, Chosen, MadeVariant, MadeStruct, VariantField, StructField, Wrapped, Inner, Part, Paths, NoPath, APath, at, at_all, path_over, add_path, paths_of}
use Rattle.isle_core.specs.Form.{Form, form, form_types}
use Rattle.isle_core.specs.Making.{MakesVariant, MakesStruct}
use Rattle.isle_core.specs.StandsFor.{EachOnce}
use Rattle.isle_core.specs.PathType.{IsPathOf, IsTupleOf, IsOptionOf, IsListOf, ArePathsOf}
use Rattle.isle_core.specs.Rule.{Environment}

-- ---- the paths before a place

-- paths that more follow
record Onward (ps qs : List Path) : Type 0 where
  more : List Path
  is : qs ≡ ps ++ more

onward : (ps : List Path) (bs : List Binding) → Onward ps (fold add_path ps bs)
onward ps [] = record { more = []; is = search rules }
onward ps (b ∷ bs) =
    let h = onward (add_path ps b) bs in
    record { more = path_over ps b ∷ h.more; is = h.is ∙ append_assoc ps (path_over ps b ∷ []) h.more }

-- at a place stands the path of a binding over those before it
abbrev Over : List Path → ℕ → Binding → Type 0
Over qs n b = slice_get qs n ≡ Some (path_over (take n qs) b)

behind : (ps more : List Path) (p : Path) → (slice_get ((ps ++ p ∷ []) ++ more) (length ps) ≡ Some p) × (take (length ps) ((ps ++ p ∷ []) ++ more) ≡ ps)
behind [] more p = (refl, refl)
behind (q ∷ ps) more p = let h = behind ps more p in (h.0, ap (λ x. q ∷ x) h.1)

over_from : (ps : List Path) (bs : List Binding) (i : ℕ) (b : Binding) → slice_get bs i ≡ Some b → Over (fold add_path ps bs) (length ps + i) b
over_from ps [] i b e = absurd cc
over_from ps (c ∷ bs) zero b e =
    let h = onward (add_path ps c) bs in
    let same : c ≡ b = cc in
    let k = behind ps h.more (path_over ps c) in
    let here : length ps ≡ length ps + 0 = omega arith in
    subst (λ n. Over (fold add_path (add_path ps c) bs) n b) here
    (subst (λ qs. Over qs (length ps) b) (sym h.is) (k.0 ∙ ap (λ x. Some (path_over ps x)) same ∙ ap (λ qs. Some (path_over qs b)) (sym k.1)))
over_from ps (c ∷ bs) (suc i) b e =
    let n : length (add_path ps c) + i ≡ length ps + suc i = rw (length-append ps (path_over ps c ∷ [])) (omega arith) in
    subst (λ k. Over (fold add_path (add_path ps c) bs) k b) n (over_from (add_path ps c) bs i b e)

zero_plus : (i : ℕ) → 0 + i ≡ i
zero_plus i = omega arith

-- the path of the binding at a place, over the paths before it
pub path_before : (bs : List Binding) (i : ℕ) (b : Binding) → slice_get bs i ≡ Some b → slice_get (paths_of bs) i ≡ Some (path_over (take i (paths_of bs)) b)
path_before bs i b e = subst (λ n. Over (paths_of bs) n b) (zero_plus i) (over_from [] bs i b e)

count : (ps : List Path) (bs : List Binding) → length (fold add_path ps bs) ≡ length ps + length bs
count ps [] = omega arith
count ps (b ∷ bs) = count (add_path ps b) bs ∙ rw (length-append ps (path_over ps b ∷ [])) (omega arith)

-- as many paths as bindings
pub paths_count : (bs : List Binding) → length (paths_of bs) ≡ length bs
paths_count bs = count [] bs ∙ zero_plus (length bs)

-- ---- paths that are somewhere

abbrev pub IsThere : Path → Type 0
IsThere Nowhere = ⊥
IsThere p = Unit {0}

abbrev pub AreThere : Paths → Type 0
AreThere NoPath = Unit {0}
AreThere (APath p ps) = IsThere p × AreThere ps

-- a path that is somewhere, and so is each that it is made over
abbrev pub HasParts : Path → Type 0
HasParts Nowhere = ⊥
HasParts (Extracted term p) = IsThere p
HasParts (Called term ps instance) = AreThere ps
HasParts (Chosen p) = IsThere p
HasParts (MadeVariant ty variant ps) = AreThere ps
HasParts (MadeStruct ty ps) = AreThere ps
HasParts (VariantField variant field p) = IsThere p
HasParts (StructField field p) = IsThere p
HasParts (Wrapped p) = IsThere p
HasParts (Inner p) = IsThere p
HasParts (Part part p) = IsThere p
HasParts p = Unit {0}

-- what is somewhere stands among the paths
pub contains_at : (ps : List Path) (i : ℕ) (p : Path) → IsThere p → get_or ps i Nowhere ≡ p → Contains ps p
contains_at [] i p h e = absurd (subst IsThere (sym e) h)
contains_at (q ∷ ps) zero p h e = (zero, omega arith, e)
contains_at (q ∷ ps) (suc i) p h e = let c = contains_at ps i p h e in (suc c.0, omega (arith, c.1), c.2)

-- what stands among the paths is at a place
pub placed : (ps : List Path) (p : Path) → Contains ps p → (b : BindingId) × (at ps b ≡ p)
placed ps p c = (record { 0 = c.0 }, get_or_from_slice_get ps c.0 p Nowhere (slice_get-get_or ps c.0 p c.1 ∙ ap Some c.2))

-- one among the first n paths
pub taken : (ps : List Path) (n i : ℕ) → IsThere (get_or (take n ps) i Nowhere) → (i < n) × (get_or (take n ps) i Nowhere ≡ get_or ps i Nowhere)
taken ps zero i h = absurd h
taken [] (suc n) i h = absurd h
taken (p ∷ ps) (suc n) zero h = (omega arith, refl)
taken (p ∷ ps) (suc n) (suc i) h = let r = taken ps n i h in (omega (arith, r.0), r.1)

all_taken : (ps : List Path) (n : ℕ) (bs : List BindingId) → AreThere (at_all (take n ps) bs) → at_all (take n ps) bs ≡ at_all ps bs
all_taken ps n [] h = refl
all_taken ps n (b ∷ bs) h = ap (λ p. APath p (at_all (take n ps) bs)) (taken ps n b.0 h.0).1 ∙ ap (APath (at ps b)) (all_taken ps n bs h.1)

over_parts : (ps : List Path) (n : ℕ) (b : Binding) → HasParts (path_over (take n ps) b) → path_over (take n ps) b ≡ path_over ps b
over_parts ps n (binding.ConstBool val ty) h = refl
over_parts ps n (binding.ConstInt val ty) h = refl
over_parts ps n (binding.ConstPrim val) h = refl
over_parts ps n (binding.Argument index) h = refl
over_parts ps n (binding.Extractor term parameter) h = ap (Extracted term) (taken ps n parameter.0 h).1
over_parts ps n (binding.Constructor term parameters instance) h = ap (λ q. Called term q instance) (all_taken ps n parameters h)
over_parts ps n (binding.Iterator source) h = ap Chosen (taken ps n source.0 h).1
over_parts ps n (binding.MakeVariant ty variant fields) h = ap (MadeVariant ty variant) (all_taken ps n fields h)
over_parts ps n (binding.MakeStruct ty fields) h = ap (MadeStruct ty) (all_taken ps n fields h)
over_parts ps n (binding.MatchVariant source variant field) h = ap (VariantField variant field.0) (taken ps n source.0 h).1
over_parts ps n (binding.ExtractStruct source field) h = ap (StructField field.0) (taken ps n source.0 h).1
over_parts ps n (binding.MakeSome inner) h = ap Wrapped (taken ps n inner.0 h).1
over_parts ps n (binding.MatchSome source) h = ap Inner (taken ps n source.0 h).1
over_parts ps n (binding.MatchTuple source field) h = ap (Part field.0) (taken ps n source.0 h).1

-- the path at a binding's place, over the paths before it
pub at_before : (bs : List Binding) (b : BindingId) (x : Binding) → slice_get bs b.0 ≡ Some x → at (paths_of bs) b ≡ path_over (take b.0 (paths_of bs)) x
at_before bs b x e = get_or_from_slice_get (paths_of bs) b.0 (path_over (take b.0 (paths_of bs)) x) Nowhere (path_before bs b.0 x e)

-- ---- laws for the layers above

-- the path of the binding at a place, over all paths
pub path_at : (bs : List Binding) (b : BindingId) (x : Binding) → slice_get bs b.0 ≡ Some x → HasParts (at (paths_of bs) b) → at (paths_of bs) b ≡ path_over (paths_of bs) x
path_at bs b x e h =
    let before = at_before bs b x e in
    before ∙ over_parts (paths_of bs) b.0 x (subst HasParts before h)

-- where a path stands, there is a binding
pub binding_at : (bs : List Binding) (b : BindingId) → IsThere (at (paths_of bs) b) → (x : Binding) × (slice_get bs b.0 ≡ Some x)
binding_at bs b h =
    let within = there (paths_of bs) b.0 h in
    let lt : b.0 < length bs = omega (arith, within, paths_count bs) in
    pick bs b.0 lt
  where
    there : (ps : List Path) (i : ℕ) → IsThere (get_or ps i Nowhere) → i < length ps
    there [] i k = absurd k
    there (p ∷ ps) zero k = omega arith
    there (p ∷ ps) (suc i) k = let r = there ps i k in omega (arith, r)

    pick : (xs : List Binding) (i : ℕ) → i < length xs → (x : Binding) × (slice_get xs i ≡ Some x)
    pick [] i lt = absurd (omega (arith, lt))
    pick (x ∷ xs) zero lt = (x, refl)
    pick (x ∷ xs) (suc i) lt = pick xs i (omega (arith, lt))

-- a path that stands twice stands at one place
pub place_once : (ps : List Path) (i j : ℕ) → EachOnce ps → IsThere (get_or ps i Nowhere) → get_or ps i Nowhere ≡ get_or ps j Nowhere → i ≡ j
place_once [] i j o h e = absurd h
place_once (p ∷ ps) zero zero o h e = refl
place_once (p ∷ ps) zero (suc j) o h e = absurd (o.0 (contains_at ps j p h (sym e)))
place_once (p ∷ ps) (suc i) zero o h e = absurd (o.0 (contains_at ps i p (subst IsThere e h) e))
place_once (p ∷ ps) (suc i) (suc j) o h e = ap suc (place_once ps i j o.1 h e)

-- an inner value after its source
pub inner_path : (bs : List Binding) (source b : BindingId) → slice_get bs b.0 ≡ Some (binding.MatchSome source) → source.0 < b.0 → at (paths_of bs) b ≡ Inner (at (paths_of bs) source)
inner_path bs source b e lt = at_before bs b (binding.MatchSome source) e ∙ ap Inner (get_or-take b.0 (paths_of bs) source.0 Nowhere lt)

-- where an inner value stands, its source stands before it
pub inner_at : (bs : List Binding) (b : BindingId) (p : Path) → IsThere p → at (paths_of bs) b ≡ Inner p
    → (source : BindingId) × (slice_get bs b.0 ≡ Some (binding.MatchSome source)) × (source.0 < b.0) × (at (paths_of bs) source ≡ p)
inner_at bs b p h e =
    let x = binding_at bs b (subst IsThere (sym e) tt) in
    pick x.0 x.1 (sym (at_before bs b x.0 x.1) ∙ e)
  where
    inner_same : (q r : Path) → Inner q ≡ Inner r → q ≡ r
    inner_same q r k = cc

    pick : (x : Binding) → slice_get bs b.0 ≡ Some x → path_over (take b.0 (paths_of bs)) x ≡ Inner p
        → (source : BindingId) × (slice_get bs b.0 ≡ Some (binding.MatchSome source)) × (source.0 < b.0) × (at (paths_of bs) source ≡ p)
    pick (binding.MatchSome source) s k =
        let same = inner_same (at (take b.0 (paths_of bs)) source) p k in
        let t = taken (paths_of bs) b.0 source.0 (subst IsThere (sym same) h) in
        (source, s, t.0, sym t.1 ∙ same)
    pick x s k = cc

-- where a field of a variant stands, its source stands before it
pub variant_field_at : (bs : List Binding) (b : BindingId) (variant : VariantId) (field : ℕ) (p : Path) → IsThere p → at (paths_of bs) b ≡ VariantField variant field p
    → (source : BindingId) × (index : TupleIndex) × (slice_get bs b.0 ≡ Some (binding.MatchVariant source variant index)) × (index.0 ≡ field) × (source.0 < b.0) × (at (paths_of bs) source ≡ p)
variant_field_at bs b variant field p h e =
    let x = binding_at bs b (subst IsThere (sym e) tt) in
    pick x.0 x.1 (sym (at_before bs b x.0 x.1) ∙ e)
  where
    same_field : (v w : VariantId) (i j : ℕ) (q r : Path) → VariantField v i q ≡ VariantField w j r → (v ≡ w) × (i ≡ j) × (q ≡ r)
    same_field v w i j q r k = (cc, cc, cc)

    pick : (x : Binding) → slice_get bs b.0 ≡ Some x → path_over (take b.0 (paths_of bs)) x ≡ VariantField variant field p
        → (source : BindingId) × (index : TupleIndex) × (slice_get bs b.0 ≡ Some (binding.MatchVariant source variant index)) × (index.0 ≡ field) × (source.0 < b.0) × (at (paths_of bs) source ≡ p)
    pick (binding.MatchVariant source v index) s k =
        let same = same_field v variant index.0 field (at (take b.0 (paths_of bs)) source) p k in
        let t = taken (paths_of bs) b.0 source.0 (subst IsThere (sym same.2) h) in
        (source, index, s ∙ ap (λ y. Some (binding.MatchVariant source y index)) same.0, same.1, t.0, sym t.1 ∙ same.2)
    pick x s k = cc

-- so of a field of a struct
pub struct_field_at : (bs : List Binding) (b : BindingId) (field : ℕ) (p : Path) → IsThere p → at (paths_of bs) b ≡ StructField field p
    → (source : BindingId) × (index : TupleIndex) × (slice_get bs b.0 ≡ Some (binding.ExtractStruct source index)) × (index.0 ≡ field) × (source.0 < b.0) × (at (paths_of bs) source ≡ p)
struct_field_at bs b field p h e =
    let x = binding_at bs b (subst IsThere (sym e) tt) in
    pick x.0 x.1 (sym (at_before bs b x.0 x.1) ∙ e)
  where
    same_field : (i j : ℕ) (q r : Path) → StructField i q ≡ StructField j r → (i ≡ j) × (q ≡ r)
    same_field i j q r k = (cc, cc)

    pick : (x : Binding) → slice_get bs b.0 ≡ Some x → path_over (take b.0 (paths_of bs)) x ≡ StructField field p
        → (source : BindingId) × (index : TupleIndex) × (slice_get bs b.0 ≡ Some (binding.ExtractStruct source index)) × (index.0 ≡ field) × (source.0 < b.0) × (at (paths_of bs) source ≡ p)
    pick (binding.ExtractStruct source index) s k =
        let same = same_field index.0 field (at (take b.0 (paths_of bs)) source) p k in
        let t = taken (paths_of bs) b.0 source.0 (subst IsThere (sym same.1) h) in
        (source, index, s, same.0, t.0, sym t.1 ∙ same.1)
    pick x s k = cc

-- where a made value on paths stands, the binding makes it
pub variant_at : (bs : List Binding) (b : BindingId) (ty : TypeId) (variant : VariantId) (ps : Paths) → AreThere ps → at (paths_of bs) b ≡ MadeVariant ty variant ps
    → (fields : List BindingId) × (slice_get bs b.0 ≡ Some (binding.MakeVariant ty variant fields)) × (ps ≡ at_all (paths_of bs) fields)
variant_at bs b ty variant ps h e =
    let x = binding_at bs b (subst IsThere (sym e) tt) in
    pick x.0 x.1 (sym (path_at bs b x.0 x.1 (subst HasParts (sym e) h)) ∙ e)
  where
    pick : (x : Binding) → slice_get bs b.0 ≡ Some x → path_over (paths_of bs) x ≡ MadeVariant ty variant ps
        → (fields : List BindingId) × (slice_get bs b.0 ≡ Some (binding.MakeVariant ty variant fields)) × (ps ≡ at_all (paths_of bs) fields)
    pick (binding.MakeVariant of v fields) s k =
        let same : binding.MakeVariant of v fields ≡ binding.MakeVariant ty variant fields = cc in
        (fields, s ∙ ap Some same, cc)
    pick x s k = cc

-- so of a struct
pub struct_at : (bs : List Binding) (b : BindingId) (ty : TypeId) (ps : Paths) → AreThere ps → at (paths_of bs) b ≡ MadeStruct ty ps
    → (fields : List BindingId) × (slice_get bs b.0 ≡ Some (binding.MakeStruct ty fields)) × (ps ≡ at_all (paths_of bs) fields)
struct_at bs b ty ps h e =
    let x = binding_at bs b (subst IsThere (sym e) tt) in
    pick x.0 x.1 (sym (path_at bs b x.0 x.1 (subst HasParts (sym e) h)) ∙ e)
  where
    pick : (x : Binding) → slice_get bs b.0 ≡ Some x → path_over (paths_of bs) x ≡ MadeStruct ty ps
        → (fields : List BindingId) × (slice_get bs b.0 ≡ Some (binding.MakeStruct ty fields)) × (ps ≡ at_all (paths_of bs) fields)
    pick (binding.MakeStruct of fields) s k =
        let same : binding.MakeStruct of fields ≡ binding.MakeStruct ty fields = cc in
        (fields, s ∙ ap Some same, cc)
    pick x s k = cc

-- where a call on paths stands, the binding is that call
pub call_at : (bs : List Binding) (b : BindingId) (term : TermId) (ps : Paths) (instance : ℕ) → AreThere ps → at (paths_of bs) b ≡ Called term ps instance
    → (parameters : List BindingId) × (slice_get bs b.0 ≡ Some (binding.Constructor term parameters instance)) × (ps ≡ at_all (paths_of bs) parameters)
call_at bs b term ps instance h e =
    let x = binding_at bs b (subst IsThere (sym e) tt) in
    pick x.0 x.1 (sym (path_at bs b x.0 x.1 (subst HasParts (sym e) h)) ∙ e)
  where
    pick : (x : Binding) → slice_get bs b.0 ≡ Some x → path_over (paths_of bs) x ≡ Called term ps instance
        → (parameters : List BindingId) × (slice_get bs b.0 ≡ Some (binding.Constructor term parameters instance)) × (ps ≡ at_all (paths_of bs) parameters)
    pick (binding.Constructor t parameters n) s k =
        let same : binding.Constructor t parameters n ≡ binding.Constructor term parameters instance = cc in
        (parameters, s ∙ ap Some same, cc)
    pick x s k = cc

-- ---- typed paths

pub path_there : (env : Environment) (t : Term) (p : Path) (ty : TypeId) → IsPathOf env t p ty → IsThere p
path_there env t Nowhere ty h = absurd h
path_there env t p ty h = tt

pub paths_there : (env : Environment) (t : Term) (ps : Paths) (tys : List TypeId) → ArePathsOf env t ps tys → AreThere ps
paths_there env t NoPath tys h = tt
paths_there env t (APath p ps) [] h = absurd h
paths_there env t (APath p ps) (ty ∷ tys) h = (path_there env t p ty h.0, paths_there env t ps tys h.1)

pub option_there : (env : Environment) (t : Term) (p : Path) (tys : List TypeId) → IsOptionOf env t p tys → IsThere p
option_there env t Nowhere tys h = absurd h
option_there env t p tys h = tt

pub tuple_there : (env : Environment) (t : Term) (p : Path) (tys : List TypeId) → IsTupleOf env t p tys → IsThere p
tuple_there env t Nowhere tys h = absurd h
tuple_there env t p tys h = tt

list_there : (env : Environment) (t : Term) (p : Path) (tys : List TypeId) → IsListOf env t p tys → IsThere p
list_there env t Nowhere tys h = absurd h
list_there env t p tys h = tt

-- what a call is made over
called_parts : (env : Environment) (t : Term) (o : Option Term) (ps : Paths) (P : Term → Type 0) → IsSomeAnd o (λ (c : Term). P c × ArePathsOf env t ps c.arg_tys) → AreThere ps
called_parts env t None ps P h = absurd h
called_parts env t (Some c) ps P h = paths_there env t ps c.arg_tys h.1

-- what an extractor takes apart
extracted_there : (env : Environment) (t : Term) (o : Option Term) (q : Path) (tys : List TypeId) → IsSomeAnd o (λ (c : Term). (c.arg_tys ≡ tys) × IsPathOf env t q c.ret_ty) → IsThere q
extracted_there env t None q tys h = absurd h
extracted_there env t (Some c) q tys h = path_there env t q c.ret_ty h.1

-- what a made value is made of
made_of_parts : (env : Environment) (t : Term) (o : Option Form) (ps : Paths) → IsSomeAnd o (λ f. ArePathsOf env t ps (form_types env f)) → AreThere ps
made_of_parts env t None ps h = absurd h
made_of_parts env t (Some f) ps h = paths_there env t ps (form_types env f) h

-- a typed path is made over paths that are somewhere
pub typed_parts : (env : Environment) (t : Term) (p : Path) (ty : TypeId) → IsPathOf env t p ty → HasParts p
typed_parts env t (Arg i) ty h = tt
typed_parts env t (ConstBool of b) ty h = tt
typed_parts env t (ConstInt of n) ty h = tt
typed_parts env t (ConstPrim name) ty h = tt
typed_parts env t (Called term ps instance) ty h = called_parts env t (slice_get env.terms term.0) ps (λ (c : Term). c.ret_ty ≡ ty) h.1
typed_parts env t (Extracted term q) ty h = extracted_there env t (slice_get env.terms term.0) q (ty ∷ []) h.1
typed_parts env t (Inner p) ty h = option_there env t p (ty ∷ []) h
typed_parts env t (Chosen p) ty h = list_there env t p (ty ∷ []) h
typed_parts env t (Part part q) ty h = tuple_there env t q h.0 h.1
typed_parts env t (MadeVariant of variant ps) ty h = made_of_parts env t (form env (MakesVariant of variant)) ps h.1
typed_parts env t (MadeStruct of ps) ty h = made_of_parts env t (form env (MakesStruct of)) ps h.1
typed_parts env t (VariantField variant field q) ty h = path_there env t q h.0 h.1
typed_parts env t (StructField field q) ty h = path_there env t q h.0 h.1
typed_parts env t p ty h = absurd h

-- and so is that of an option
pub option_parts : (env : Environment) (t : Term) (p : Path) (tys : List TypeId) → IsOptionOf env t p tys → HasParts p
option_parts env t (Called term ps instance) tys h = called_parts env t (slice_get env.terms term.0) ps (λ (c : Term). c.ret_ty ∷ [] ≡ tys) h.1
option_parts env t (Extracted term q) tys h = extracted_there env t (slice_get env.terms term.0) q tys h.1
option_parts env t p tys h = absurd h

-- and so is that of a list
pub list_parts : (env : Environment) (t : Term) (p : Path) (tys : List TypeId) → IsListOf env t p tys → HasParts p
list_parts env t (Called term ps instance) tys h = called_parts env t (slice_get env.terms term.0) ps (λ (c : Term). c.ret_ty ∷ [] ≡ tys) h.1
list_parts env t (Extracted term q) tys h = extracted_there env t (slice_get env.terms term.0) q tys h.1
list_parts env t p tys h = absurd h

-- and so is that of a tuple
pub tuple_parts : (env : Environment) (t : Term) (p : Path) (tys : List TypeId) → IsTupleOf env t p tys → HasParts p
tuple_parts env t (Extracted term q) tys h = extracted_there env t (slice_get env.terms term.0) q tys h.2
tuple_parts env t (Inner p) tys h = option_there env t p tys h.1
tuple_parts env t (Chosen p) tys h = list_there env t p tys h.1
tuple_parts env t p tys h = absurd h
