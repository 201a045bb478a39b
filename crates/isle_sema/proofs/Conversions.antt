-- What a converter that is inserted takes and gives.
use Rattle.std.proofs.Common.{◌≡◌, ⊎_elim, Bool, true, false, cond, List, [], ◌∷◌, ◌++◌, map, Option, Some, None, refl, sym, ap, ◌∙◌, subst}
use Rattle.std.specs.Prelude.{ℕ, ◌==◌, ◌||◌, not, Contains, is_some, option_map, option_and_then}
use Rattle.std.specs.List.{AllByRecursion, IsDistinct}
use Rattle.std.specs.Str.{bytes_eq}
use Rattle.std.proofs.lemmas.Bool.{and_parts, or_parts, eqb-true, not-false}
use Rattle.std.proofs.lemmas.List.Elements.{Contains-append_right}
use Rattle.std.proofs.lemmas.Option.{same_Some}
use Rattle.std.proofs.lemmas.Slice.Eq.{bytes_eq-Decides}
use Rattle.isle_core.specs.declared.TypeId.{TypeId}
use Rattle.isle_core.specs.Rule.{Environment}
use Rattle.isle_core.proofs.Contained.{head_contained, tail_contained, contained_cases, none_contained}
use Rattle.isle_ast.specs.Tree as tree
use Rattle.isle_ast.specs.Tree.{Def}
use Rattle.isle_declarations.specs.declared.terms.Origin.TheVariants as origin
use Rattle.isle_declarations.specs.Heads.{terms_of}
use Rattle.isle_declarations.specs.Signatures.{Signature, signatures, signature_named}
use Rattle.isle_declarations.specs.Terms.{body_signatures, terms}
use Rattle.isle_declarations.proofs.DistinctNames.{distinct_names}
use Rattle.isle_declarations.proofs.LookUps.{named_is}
use Rattle.isle_types.specs.Builtins.{type_id}
use Rattle.isle_types.specs.TypeRows.{on}
use Rattle.isle_terms.specs.Converters.{Conversion, are_types, converters, converts, converter_between, conversion, fits, is_only, repeats_after, types_of}
use Rattle.isle_terms.specs.Tests.{is_misconverting, have_misfit}
use Rattle.isle_terms.specs.TypeNames.{type_named}
use Rattle.isle_terms.specs.Whole.{whole_of, termed}
use Rattle.isle_sema.proofs.NamesApart.{terms_apart, made_apart, declared_unmade}
use Rattle.isle_sema.proofs.TermFaults.{terms_kept, converters_kept}
use Rattle.isle_sema.proofs.TypedParts.{IsGivenIn}

-- ---- declared terms among all

-- what holds of all names holds of one that stands there
all_contained : (P : List ℕ → Type 0) (sigs : List Signature) (s : Signature) → AllByRecursion P (terms_of sigs) → Contains sigs s → P s.term
all_contained P [] s h c = absurd (none_contained s c)
all_contained P (x ∷ sigs) s h c = ⊎_elim (λ (same : x ≡ s). subst (λ (y : Signature). P y.term) same h.0) (λ there. all_contained P sigs s h.1 there) (contained_cases x sigs s c)

-- among names of their own, the term of a name is the one that stands there
pub term_alone : (sigs : List Signature) (s : Signature) → IsDistinct bytes_eq (terms_of sigs) → Contains sigs s → signature_named sigs s.term ≡ Some s
unfolding IsDistinct
term_alone [] s d c = absurd (none_contained s c)
term_alone (x ∷ sigs) s d c =
    ⊎_elim
    (λ (same : x ≡ s). ap (λ b. cond b (Some x) (signature_named sigs s.term)) ((bytes_eq-Decides x.term s.term).1 (ap (λ (y : Signature). y.term) same)) ∙ ap Some same)
    (λ there. ap (λ b. cond b (Some x) (signature_named sigs s.term)) (all_contained (λ name. bytes_eq x.term name ≡ false) sigs s d.0 there) ∙ term_alone sigs s d.1 there)
    (contained_cases x sigs s c)

first_there : (b : Bool) (x s : Signature) (found : Option Signature) (rest : List Signature) → (found ≡ Some s → Contains rest s) → cond b (Some x) found ≡ Some s → Contains (x ∷ rest) s
first_there true x s found rest later h = subst (Contains (x ∷ rest)) (same_Some x s h) (head_contained x rest)
first_there false x s found rest later h = tail_contained x rest s (later h)

-- a declared term is among all
pub declared_there : (defs : List Def) (name : List ℕ) (s : Signature) → signature_named (signatures defs) name ≡ Some s → Contains (terms defs) s
declared_there [] name s h = absurd cc
declared_there (tree.Decl term pure multi partial recursive args ret pos ∷ ds) name s h =
    let x : Signature = record { term = term; pure = pure; multi = multi; partial = partial; recursive = recursive; args = args; ret = ret; pos = pos; origin = origin.Declared } in
    first_there (bytes_eq term name) x s (signature_named (signatures ds) name) (terms ds) (λ k. declared_there ds name s k) h
declared_there (tree.TypeDecl name is_extern is_nodebug body pos ∷ ds) n s h = Contains-append_right (body_signatures name body pos) (terms ds) s (declared_there ds n s h)
declared_there (tree.ExternConstructor term func pos ∷ ds) name s h = declared_there ds name s h
declared_there (tree.ExternExtractor term func infallible pos ∷ ds) name s h = declared_there ds name s h
declared_there (tree.ExternConst n ty pos ∷ ds) name s h = declared_there ds name s h
declared_there (tree.Extractor term params template pos ∷ ds) name s h = declared_there ds name s h
declared_there (tree.Converter from to term pos ∷ ds) name s h = declared_there ds name s h
declared_there (tree.Rule n prio term args iflets rhs pos ∷ ds) name s h = declared_there ds name s h
declared_there (tree.Passed head pos ∷ ds) name s h = declared_there ds name s h

-- ---- a converter that is found

-- it keeps its row, after some others, and is between the types
record IsKept (defs : List Def) (of ty : TypeId) (c : Conversion) : Type 0 where
  done : List Conversion
  kept : is_misconverting defs done c ≡ false
  between : converts defs of ty c ≡ true

first_kept : (b : Bool) (defs : List Def) (of ty : TypeId) (done : List Conversion) (x c : Conversion) (found : Option Conversion) → converts defs of ty x ≡ b → is_misconverting defs done x ≡ false → (found ≡ Some c → IsKept defs of ty c) → cond b (Some x) found ≡ Some c → IsKept defs of ty c
first_kept true defs of ty done x c found is kept later h = let same = same_Some x c h in record { done = done; kept = ap (is_misconverting defs done) (sym same) ∙ kept; between = ap (converts defs of ty) (sym same) ∙ is }
first_kept false defs of ty done x c found is kept later h = later h

found_kept : (defs : List Def) (of ty : TypeId) (done cs : List Conversion) (c : Conversion) → have_misfit defs done cs ≡ false → converter_between defs cs of ty ≡ Some c → IsKept defs of ty c
found_kept defs of ty done [] c h e = absurd cc
found_kept defs of ty done (x ∷ cs) c h e =
    let k = or_parts (is_misconverting defs done x) (have_misfit defs (done ++ x ∷ []) cs) h in
    first_kept (converts defs of ty x) defs of ty done x c (converter_between defs cs of ty) refl k.0 (λ f. found_kept defs of ty (done ++ x ∷ []) cs c k.1 f) e

-- its types are those
types_are : (defs : List Def) (of ty : TypeId) (c : Conversion) → converts defs of ty c ≡ true → (type_named defs c.from ≡ Some of) × (type_named defs c.to ≡ Some ty)
types_are defs of ty c h = by (type_named defs c.from) (type_named defs c.to) refl refl h
  where
    by : (from to : Option TypeId) → type_named defs c.from ≡ from → type_named defs c.to ≡ to → on (option_and_then (λ (f : TypeId). option_map (λ (t : TypeId). (f, t)) to) from) (are_types of ty) ≡ true → (type_named defs c.from ≡ Some of) × (type_named defs c.to ≡ Some ty)
    by None to e f k = absurd cc
    by (Some from) None e f k = absurd cc
    by (Some from) (Some to) e f k =
        let p = and_parts (from.0 == of.0) (to.0 == ty.0) k in
        (e ∙ ap Some (ap type_id (eqb-true from.0 of.0 p.0)), f ∙ ap Some (ap type_id (eqb-true to.0 ty.0 p.1)))

-- a term that fits takes the one type and gives the other
pub record IsConversion (defs : List Def) (of ty : TypeId) (s : Signature) : Type 0 where
  pub args : map (type_named defs) s.args ≡ Some of ∷ []
  pub ret : type_named defs s.ret ≡ Some ty
  pub there : termed (whole_of defs) s.term ≡ Some s

only_is : (defs : List Def) (name : List ℕ) (names : List (List ℕ)) → is_only name names ≡ true → map (type_named defs) names ≡ type_named defs name ∷ []
only_is defs name [] h = absurd cc
only_is defs name (n ∷ []) h = ap (λ (m : List ℕ). type_named defs m ∷ []) ((bytes_eq-Decides n name).0 h)
only_is defs name (n ∷ m ∷ names) h = absurd cc

-- the declared term of a converter that keeps its row fits it
fits_declared : (defs : List Def) (of ty : TypeId) (c : Conversion) → IsKept defs of ty c → (s : Signature) × (signature_named (signatures defs) c.term ≡ Some s) × (fits c s ≡ true)
fits_declared defs of ty c k = by (signature_named (signatures defs) c.term) refl k.kept
  where
    by : (o : Option Signature) → signature_named (signatures defs) c.term ≡ o → not (is_some o) || (repeats_after defs k.done (types_of defs c) || on o (λ (s : Signature). not (fits c s))) ≡ false
        → (s : Signature) × (signature_named (signatures defs) c.term ≡ Some s) × (fits c s ≡ true)
    by None e h = absurd cc
    by (Some s) e h =
        let p = or_parts (not (is_some (Some s))) (repeats_after defs k.done (types_of defs c) || not (fits c s)) h in
        let q = or_parts (repeats_after defs k.done (types_of defs c)) (not (fits c s)) p.1 in
        (s, e, not-false (fits c s) q.1)

pub not_same : {X : Type 0} (b : Bool) (o : Option X) (x : X) → cond b None o ≡ Some x → o ≡ Some x
not_same true o x h = absurd cc
not_same false o x h = h

-- the term of a converter that is inserted takes the one type and gives the other
conversion_fits : (defs : List Def) (of ty : TypeId) (s : Signature) → have_misfit defs [] (converters defs) ≡ false → IsDistinct bytes_eq (terms_of (terms defs)) → conversion (whole_of defs) (Some of) (Some ty) ≡ Some s → IsConversion defs of ty s
conversion_fits defs of ty s kept apart h = by (converter_between defs (converters defs) of ty) refl (not_same (of.0 == ty.0) (option_and_then (λ (c : Conversion). termed (whole_of defs) c.term) (converter_between defs (converters defs) of ty)) s h)
  where
    by : (o : Option Conversion) → converter_between defs (converters defs) of ty ≡ o → option_and_then (λ (c : Conversion). termed (whole_of defs) c.term) o ≡ Some s → IsConversion defs of ty s
    by None e k = absurd cc
    by (Some c) e k =
        let found = found_kept defs of ty [] (converters defs) c kept e in
        let types = types_are defs of ty c found.between in
        let d = fits_declared defs of ty c found in
        let named : d.0.term ≡ c.term = named_is (signatures defs) c.term d.0 d.1 in
        let alone : termed (whole_of defs) d.0.term ≡ Some d.0 = term_alone (terms defs) d.0 apart (declared_there defs c.term d.0 d.1) in
        let same : d.0 ≡ s = same_Some d.0 s (sym alone ∙ ap (termed (whole_of defs)) named ∙ k) in
        let p = and_parts (is_only c.from d.0.args) (bytes_eq d.0.ret c.to) d.2 in
        subst (IsConversion defs of ty) same (record {
          args = only_is defs c.from d.0.args p.0 ∙ ap (λ o. o ∷ []) types.0;
          ret = ap (type_named defs) ((bytes_eq-Decides d.0.ret c.to).0 p.1) ∙ types.1;
          there = alone;
        })

-- so in an environment that definitions give
pub conversion_is : (defs : List Def) (env : Environment) (of ty : TypeId) (s : Signature) → IsGivenIn defs env → conversion (whole_of defs) (Some of) (Some ty) ≡ Some s → IsConversion defs of ty s
conversion_is defs env of ty s g h =
    let kept = terms_kept defs [] defs g.terms_kept in
    let apart = terms_apart defs (distinct_names (terms_of (signatures defs)) kept.apart) (made_apart defs g.types_kept) (declared_unmade defs (signatures defs) kept.unmade) in
    conversion_fits defs of ty s (converters_kept defs [] defs g.terms_kept) apart h
