-- What the terms of an environment are to its definitions.
use Rattle.std.proofs.Common.{◌≡◌, ℕ, zero, suc, ◌+◌, ◌<◌, ◌≤◌, Bool, true, false, List, [], ◌∷◌, ◌++◌, length, map, Option, Some, None, refl, sym, ap, ◌∙◌, subst, arith}
use Rattle.std.specs.Prelude.{◌&&◌, not, Contains, filter_map, is_some, option_map, slice_get, nat_le}
use Rattle.std.specs.List.{AllByRecursion, IsDistinct, list_all, list_any, range_with_len}
use Rattle.std.specs.Str.{bytes_eq}
use Rattle.std.proofs.lemmas.Bool.{and_parts, or_parts, not-false, not-true}
use Rattle.std.proofs.lemmas.Bool.Decides.{nat_tests}
use Rattle.std.proofs.lemmas.List.{length-map}
use Rattle.std.proofs.lemmas.List.Elements.{All-from_recursion, All-filter, All-contains}
use Rattle.std.proofs.lemmas.Option.{same_Some}
use Rattle.isle_core.specs.declared.TermId.{TermId}
use Rattle.isle_core.specs.declared.TypeId.{TypeId}
use Rattle.isle_core.specs.declared.position.Pos.{Pos}
use Rattle.isle_core.specs.declared.types.Term.{Term}
use Rattle.isle_core.specs.declared.types.TermKind.{TermKind}
use Rattle.isle_core.specs.declared.types.TermKind.TheVariants as kind
use Rattle.isle_core.specs.declared.types.TypeEnv.{TypeEnv}
use Rattle.isle_core.specs.declared.types.ConstructorKind.{ConstructorKind}
use Rattle.isle_core.specs.declared.types.ExtractorKind.{ExtractorKind}
use Rattle.isle_core.specs.CalledTerms.{is_made_kind}
use Rattle.isle_core.specs.Rule.{Environment}
use Rattle.isle_core.specs.Terms.{symbol_text, sym_text, term_ids, has_rules, with_rules}
use Rattle.isle_core.specs.TypedParts.{IsThere}
use Rattle.isle_core.proofs.Contained.{head_contained, tail_contained}
use Rattle.isle_ast.specs.Tree as tree
use Rattle.isle_ast.specs.Tree.{Def}
use Rattle.isle_ast.specs.Positions.{place_of}
use Rattle.isle_ast.specs.declared.tree.AstBody.{AstBody}
use Rattle.isle_ast.specs.declared.tree.AstBody.TheVariants.{Primitive, Enum, Struct}
use Rattle.isle_ast.specs.declared.tree.AstVariant.{AstVariant}
use Rattle.isle_declarations.specs.declared.terms.Origin.{Origin}
use Rattle.isle_declarations.specs.declared.terms.Origin.TheVariants as origin
use Rattle.isle_declarations.specs.Heads.{terms_of}
use Rattle.isle_declarations.specs.Signatures.{Signature, signatures}
use Rattle.isle_declarations.specs.Symbols.{index_of}
use Rattle.isle_declarations.specs.Terms.{variant_signatures, body_signatures, terms, is_made}
use Rattle.isle_declarations.proofs.DeclaredNames.{AreAmong, text_of}
use Rattle.isle_declarations.proofs.DistinctNames.{distinct_names}
use Rattle.isle_declarations.proofs.SymbolLaws.{index_below}
use Rattle.isle_declarations.proofs.TermNames.{are_terms_among}
use Rattle.isle_types.specs.Builtins.{type_id}
use Rattle.isle_types.specs.TypeEnvironment.{type_def_in, type_env_of}
use Rattle.isle_types.specs.TypeNames.{declared_names, type_names}
use Rattle.isle_terms.specs.Whole.{Whole}
use Rattle.isle_terms.specs.Whole.{whole_of}
use Rattle.isle_terms.specs.TermPass.{types_named, constructor_named, extracting_named, kind_from, term_pass, terms_pass}
use Rattle.isle_terms.specs.TypeNames.{type_named}
use Rattle.isle_sema.specs.Typing.{Typed}
use Rattle.isle_sema.proofs.AnsweringTerms.{IsAnswering, all_answer}
use Rattle.isle_terms.proofs.MadeTerms.{first_there, made_of, term_is, types_are, all_at}
use Rattle.isle_sema.proofs.NamesApart.{made_apart, terms_apart, declared_unmade}
use Rattle.isle_sema.proofs.TermFaults.{has_too_many, terms_kept}
use Rattle.isle_sema.proofs.TypedParts.{given_in}

-- ---- what holds of all terms

variants_all : (P : Signature → Type 0) (ty : List ℕ) (pos : Pos) (i : ℕ) (vs : List AstVariant) (rest : List Signature) → ((s : Signature) → is_made s.origin ≡ true → s.pos ≡ pos → P s) → AllByRecursion P rest
    → AllByRecursion P (variant_signatures ty pos i vs ++ rest)
variants_all P ty pos i [] rest own h = h
variants_all P ty pos i (v ∷ vs) rest own h = (own _ refl refl, variants_all P ty pos (i + 1) vs rest own h)

-- what holds of made terms of this place holds of those that a type makes
body_all : (P : Signature → Type 0) (ty : List ℕ) (body : AstBody) (pos : Pos) (rest : List Signature) → ((s : Signature) → is_made s.origin ≡ true → s.pos ≡ pos → P s) → AllByRecursion P rest → AllByRecursion P (body_signatures ty body pos ++ rest)
body_all P ty (Primitive rust) pos rest own h = h
body_all P ty (Enum variants) pos rest own h = variants_all P ty pos 0 variants rest own h
body_all P ty (Struct fields) pos rest own h = (own _ refl refl, h)

-- ---- its kind

-- a term of this kind is declared, and not both `multi` and `partial`
pub record IsDeclaredKind (k : TermKind) : Type 0 where
  pub pure : Bool
  pub multi : Bool
  pub partial : Bool
  pub recursive : Bool
  pub by : ConstructorKind
  pub how : ExtractorKind
  pub is : kind.Decl pure multi partial recursive by how ≡ k
  pub apart : multi && partial ≡ false

kind_declared : (w : Whole) (s : Signature) (ret : TypeId) (from : Origin) (k : TermKind) → IsAnswering s → kind_from w s ret from ≡ k → is_made_kind k ≡ false → IsDeclaredKind k
kind_declared w s ret origin.Declared k h is other = record {
  pure = s.pure;
  multi = s.multi;
  partial = s.partial;
  recursive = s.recursive;
  by = constructor_named w s.term;
  how = extracting_named w s.term;
  is = is;
  apart = h.apart;
}
kind_declared w s ret (origin.Variant n) k h is other = let bad : true ≡ false = ap is_made_kind is ∙ other in absurd cc
kind_declared w s ret origin.Struct k h is other = let bad : true ≡ false = ap is_made_kind is ∙ other in absurd cc

-- so is a term that no type makes
pub declared_kind : (defs : List Def) (env : Environment) (i : ℕ) (t : Term) → Typed defs env → slice_get env.terms i ≡ Some t → is_made_kind t.kind ≡ false → IsDeclaredKind t.kind
declared_kind defs env i t h at other =
    let g = given_in h in
    let m = made_of (whole_of defs) (terms defs) env.terms i t g.terms at in
    let s = m.signature in
    let is = term_is (whole_of defs) s t m.made in
    kind_declared (whole_of defs) s t.ret_ty s.origin t.kind (all_at IsAnswering (terms defs) i s (all_answer defs [] defs g.terms_kept) m.there) (ap (λ (u : Term). u.kind) is.is) other

-- ---- its arguments

few_arguments : (s : Signature) → has_too_many s ≡ false → length s.args ≤ 256
few_arguments s h = let le : nat_le (length s.args) 256 ≡ true = not-false (nat_le (length s.args) 256) h in grind (arith, nat_tests, le)

-- a term that no type makes has at most 256 arguments
abbrev IsFewTerm : Signature → Type 0
IsFewTerm s = is_made s.origin ≡ false → length s.args ≤ 256

made_few : (s : Signature) → is_made s.origin ≡ true → IsFewTerm s
made_few s made other = let bad : true ≡ false = sym made ∙ other in absurd cc

few_terms : (ds : List Def) → list_any has_too_many (signatures ds) ≡ false → AllByRecursion IsFewTerm (terms ds)
few_terms [] h = tt
few_terms (tree.Decl term pure multi partial recursive args ret pos ∷ ds) h =
    let s : Signature = record { term = term; pure = pure; multi = multi; partial = partial; recursive = recursive; args = args; ret = ret; pos = pos; origin = origin.Declared } in
    let k = or_parts (has_too_many s) (list_any has_too_many (signatures ds)) h in
    (λ e. few_arguments s k.0, few_terms ds k.1)
few_terms (tree.TypeDecl name is_extern is_nodebug body pos ∷ ds) h = body_all IsFewTerm name body pos (terms ds) (λ s made at. made_few s made) (few_terms ds h)
few_terms (tree.ExternConstructor term func pos ∷ ds) h = few_terms ds h
few_terms (tree.Rule name prio term args iflets rhs pos ∷ ds) h = few_terms ds h
few_terms (tree.ExternConst name ty pos ∷ ds) h = few_terms ds h
few_terms (tree.ExternExtractor term func infallible pos ∷ ds) h = few_terms ds h
few_terms (tree.Extractor term params template pos ∷ ds) h = few_terms ds h
few_terms (tree.Converter from to term pos ∷ ds) h = few_terms ds h
few_terms (tree.Passed head pos ∷ ds) h = few_terms ds h

unmade_origin : (w : Whole) (s : Signature) (ret : TypeId) (from : Origin) → is_made_kind (kind_from w s ret from) ≡ false → is_made from ≡ false
unmade_origin w s ret origin.Declared h = refl
unmade_origin w s ret (origin.Variant n) h = h
unmade_origin w s ret origin.Struct h = h

-- a term that no type makes has at most 256 arguments
pub typed_few : (defs : List Def) (env : Environment) (i : ℕ) (t : Term) → Typed defs env → slice_get env.terms i ≡ Some t → is_made_kind t.kind ≡ false → length t.arg_tys ≤ 256
typed_few defs env i t h at other =
    let g = given_in h in
    let w = whole_of defs in
    let m = made_of w (terms defs) env.terms i t g.terms at in
    let s = m.signature in
    let is = term_is w s t m.made in
    let unmade = unmade_origin w s t.ret_ty s.origin (ap (λ (u : Term). is_made_kind u.kind) is.is ∙ other) in
    let few = all_at IsFewTerm (terms defs) i s (few_terms defs (terms_kept defs [] defs g.terms_kept).few) m.there unmade in
    let same : length s.args ≡ length t.arg_tys = sym (length-map s.args (type_named defs)) ∙ ap length (types_are defs s.args t.arg_tys is.args) ∙ length-map t.arg_tys Some in
    omega (arith, few, same)

-- ---- its place

-- a definition of this place
abbrev StandsIn : List Def → Signature → Type 0
StandsIn defs s = (d : Def) × Contains defs d × (place_of d ≡ s.pos)

-- definitions among all
abbrev AreIn : List Def → List Def → Type 0
AreIn all ds = (d : Def) → Contains ds d → Contains all d

rest_in : (all : List Def) (first : Def) (ds : List Def) → AreIn all (first ∷ ds) → AreIn all ds
rest_in all first ds h d c = h d (tail_contained first ds d c)

all_stand : (all ds : List Def) → AreIn all ds → AllByRecursion (StandsIn all) (terms ds)
all_stand all [] h = tt
all_stand all (tree.Decl term pure multi partial recursive args ret pos ∷ ds) h =
    let d = tree.Decl term pure multi partial recursive args ret pos in
    ((d, h d (head_contained d ds), refl), all_stand all ds (rest_in all d ds h))
all_stand all (tree.TypeDecl name is_extern is_nodebug body pos ∷ ds) h =
    let d = tree.TypeDecl name is_extern is_nodebug body pos in
    body_all (StandsIn all) name body pos (terms ds) (λ s made at. (d, h d (head_contained d ds), sym at)) (all_stand all ds (rest_in all d ds h))
all_stand all (tree.Rule name prio term args iflets rhs pos ∷ ds) h = all_stand all ds (rest_in all (tree.Rule name prio term args iflets rhs pos) ds h)
all_stand all (tree.ExternConstructor term func pos ∷ ds) h = all_stand all ds (rest_in all (tree.ExternConstructor term func pos) ds h)
all_stand all (tree.ExternExtractor term func infallible pos ∷ ds) h = all_stand all ds (rest_in all (tree.ExternExtractor term func infallible pos) ds h)
all_stand all (tree.ExternConst name ty pos ∷ ds) h = all_stand all ds (rest_in all (tree.ExternConst name ty pos) ds h)
all_stand all (tree.Extractor term params template pos ∷ ds) h = all_stand all ds (rest_in all (tree.Extractor term params template pos) ds h)
all_stand all (tree.Converter from to term pos ∷ ds) h = all_stand all ds (rest_in all (tree.Converter from to term pos) ds h)
all_stand all (tree.Passed head pos ∷ ds) h = all_stand all ds (rest_in all (tree.Passed head pos) ds h)

-- a term stands where a definition does: a made one if its type's does
pub typed_places : (defs : List Def) (env : Environment) (i : ℕ) (t : Term) → Typed defs env → slice_get env.terms i ≡ Some t → (d : Def) × Contains defs d × (place_of d ≡ t.decl_pos)
typed_places defs env i t h at =
    let m = made_of (whole_of defs) (terms defs) env.terms i t (given_in h).terms at in
    let s = all_at (StandsIn defs) (terms defs) i m.signature (all_stand defs defs (λ d c. c)) m.there in
    (s.0, s.1, s.2 ∙ ap (λ (u : Term). u.decl_pos) (term_is (whole_of defs) m.signature t m.made).is)

-- ---- the terms with rules

ids_below : (n count end : ℕ) → n + count ≤ end → AllByRecursion (λ (id : TermId). id.0 < end) (map (λ (i : ℕ). record { 0 = i }) (range_with_len n count))
ids_below n zero end le = tt
ids_below n (suc count) end le = (omega arith, ids_below (n + 1) count end (omega arith))

-- an item below the length is there
pub is_there : {A : Type 0} (xs : List A) (n : ℕ) → n < length xs → (x : A) × (slice_get xs n ≡ Some x)
is_there [] n lt = absurd (omega arith)
is_there (x ∷ xs) zero lt = (x, refl)
is_there (x ∷ xs) (suc n) lt = is_there xs n (omega arith)

-- a term with rules is there
pub typed_there : (defs : List Def) (env : Environment) (id : TermId) → Typed defs env → Contains (with_rules env) id → (t : Term) × (slice_get env.terms id.0 ≡ Some t)
typed_there defs env id h among =
    let below = λ (id : TermId). id.0 < length env.terms in
    let ids = All-from_recursion below (term_ids env) (ids_below 0 (length env.terms) (length env.terms) (omega arith)) in
    is_there env.terms id.0 (All-contains below (with_rules env) id (All-filter (has_rules env) below (term_ids env) ids) among)

-- ---- its types

-- as many types are declared as names of types
as_many : (all ds : List Def) → length (filter_map (type_def_in all) ds) ≡ length (declared_names ds)
as_many all [] = refl
as_many all (tree.TypeDecl name is_extern is_nodebug body pos ∷ ds) = ap suc (as_many all ds)
as_many all (tree.Decl term pure multi partial recursive args ret pos ∷ ds) = as_many all ds
as_many all (tree.ExternConstructor term func pos ∷ ds) = as_many all ds
as_many all (tree.ExternExtractor term func infallible pos ∷ ds) = as_many all ds
as_many all (tree.ExternConst name ty pos ∷ ds) = as_many all ds
as_many all (tree.Extractor term params template pos ∷ ds) = as_many all ds
as_many all (tree.Converter from to term pos ∷ ds) = as_many all ds
as_many all (tree.Rule name prio term args iflets rhs pos ∷ ds) = as_many all ds
as_many all (tree.Passed head pos ∷ ds) = as_many all ds

-- the type of a name is there
type_there : (defs : List Def) (env : Environment) (name : List ℕ) (ty : TypeId) → env.types ≡ type_env_of defs → type_named defs name ≡ Some ty → IsThere env.types ty
type_there defs env name ty types h = by (index_of (type_names defs) name) refl h
  where
    by : (o : Option ℕ) → index_of (type_names defs) name ≡ o → option_map type_id o ≡ Some ty → IsThere env.types ty
    by None at e = absurd cc
    by (Some n) at e =
        let among : n < length (type_names defs) = index_below (type_names defs) name n at in
        let counted = as_many defs defs in
        let below : n < length (type_env_of defs).types = omega (arith, among, counted) in
        let there = is_there (type_env_of defs).types n below in
        subst (IsThere env.types) (same_Some (type_id n) ty e) (ap (λ (ts : TypeEnv). is_some (slice_get ts.types n)) types ∙ ap is_some there.1)

types_there : (defs : List Def) (env : Environment) (names : List (List ℕ)) (tys : List TypeId) → env.types ≡ type_env_of defs → types_named defs names ≡ Some tys → AllByRecursion (IsThere env.types) tys
types_there defs env [] tys types h = subst (AllByRecursion (IsThere env.types)) (same_Some [] tys h) tt
types_there defs env (name ∷ names) tys types h =
    let f = first_there (type_named defs name) (types_named defs names) tys h in
    subst (AllByRecursion (IsThere env.types)) (sym f.all) (type_there defs env name f.first types f.here, types_there defs env names f.others types f.found)

-- the types of a term are there
pub typed_types : (defs : List Def) (env : Environment) (i : ℕ) (t : Term) → Typed defs env → slice_get env.terms i ≡ Some t → AllByRecursion (IsThere env.types) (t.ret_ty ∷ t.arg_tys)
typed_types defs env i t h at =
    let g = given_in h in
    let m = made_of (whole_of defs) (terms defs) env.terms i t g.terms at in
    let is = term_is (whole_of defs) m.signature t m.made in
    (type_there defs env m.signature.ret t.ret_ty g.types is.ret, types_there defs env m.signature.args t.arg_tys g.types is.args)

-- ---- their names

names_are : (w : Whole) (sigs : List Signature) (typed : List Term) → terms_pass w sigs ≡ Some typed → AreAmong w.types.syms sigs → map (λ (t : Term). symbol_text w.types t.name) typed ≡ terms_of sigs
names_are w [] typed h among = ap (map (λ (t : Term). symbol_text w.types t.name)) (sym (same_Some [] typed h))
names_are w (s ∷ sigs) typed h among =
    let f = first_there (term_pass w s) (terms_pass w sigs) typed h in
    let is = term_is w s f.first f.here in
    ap (map (λ (t : Term). symbol_text w.types t.name)) f.all
    ∙ ap (λ name. name ∷ map (λ (t : Term). symbol_text w.types t.name) f.others) (ap (λ (t : Term). symbol_text w.types t.name) (sym is.is) ∙ text_of w.types.syms s.term among.0.0 among.0.1)
    ∙ ap (λ names. s.term ∷ names) (names_are w sigs f.others f.found among.1)

-- no two terms have one name
pub typed_names : (defs : List Def) (env : Environment) → Typed defs env → IsDistinct bytes_eq (map (λ (t : Term). sym_text env t.name) env.terms)
typed_names defs env h =
    let g = given_in h in
    let kept = terms_kept defs [] defs g.terms_kept in
    let apart = terms_apart defs (distinct_names (terms_of (signatures defs)) kept.apart) (made_apart defs g.types_kept) (declared_unmade defs (signatures defs) kept.unmade) in
    subst (λ (types : TypeEnv). IsDistinct bytes_eq (map (λ (t : Term). symbol_text types t.name) env.terms)) (sym g.types)
    (subst (IsDistinct bytes_eq) (sym (names_are (whole_of defs) (terms defs) env.terms g.terms (are_terms_among defs))) apart)
