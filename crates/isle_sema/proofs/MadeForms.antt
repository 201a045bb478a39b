-- What made terms and constants are to the types of definitions without a fault.
use Rattle.std.proofs.Common.{◌≡◌, ℕ, suc, ◌+◌, Bool, true, false, cond, List, [], ◌∷◌, ◌++◌, length, map, Option, Some, None, refl, sym, ap, ◌∙◌, subst, arith}
use Rattle.std.specs.Prelude.{◌==◌, filter_map, find, option_and_then, option_map, slice_get}
use Rattle.std.specs.List.{AllByRecursion}
use Rattle.std.specs.Str.{bytes_eq}
use Rattle.std.proofs.lemmas.Option.{same_Some, slice_get-get_or, slice_get-map}
use Rattle.isle_core.specs.declared.Sym.{Sym}
use Rattle.isle_core.specs.declared.TermId.{TermId}
use Rattle.isle_core.specs.declared.TypeId.{TypeId}
use Rattle.isle_core.specs.declared.position.Pos.{Pos}
use Rattle.isle_core.specs.declared.types.Field.{Field}
use Rattle.isle_core.specs.declared.types.Fields.{Fields}
use Rattle.isle_core.specs.declared.types.Fields.TheVariants as fields
use Rattle.isle_core.specs.declared.types.Term.{Term}
use Rattle.isle_core.specs.declared.types.TermKind.{TermKind}
use Rattle.isle_core.specs.declared.types.TypeDef.{TypeDef}
use Rattle.isle_core.specs.declared.types.TypeEnv.{TypeEnv}
use Rattle.isle_core.specs.CalledTerms.{is_made_kind}
use Rattle.isle_core.specs.Constants.{const_type}
use Rattle.isle_core.specs.Form.{Form, form, form_types, form_of_variant, variant_form, struct_form}
use Rattle.isle_core.specs.HasType.{typed_fields, tuple_fields}
use Rattle.isle_core.specs.Making.{Making, MakesVariant, MakesStruct, MakesNothing, making, making_kind, making_of}
use Rattle.isle_core.specs.PatternType.{IsOfMaking}
use Rattle.isle_core.specs.Rule.{Environment}
use Rattle.isle_core.specs.Terms.{sym_text}
use Rattle.isle_core.specs.TypedParts.{field_types}
use Rattle.isle_ast.specs.Tree as tree
use Rattle.isle_ast.specs.Tree.{Def}
use Rattle.isle_ast.specs.declared.tree.AstBody.{AstBody}
use Rattle.isle_ast.specs.declared.tree.AstBody.TheVariants.{Primitive, Enum, Struct}
use Rattle.isle_ast.specs.declared.tree.AstFields.{AstFields}
use Rattle.isle_ast.specs.declared.tree.AstFields.TheVariants.{Unit, Named, Tuple}
use Rattle.isle_ast.specs.declared.tree.AstVariant.{AstVariant}
use Rattle.isle_declarations.specs.declared.terms.Origin.{Origin}
use Rattle.isle_declarations.specs.declared.terms.Origin.TheVariants as origin
use Rattle.isle_declarations.specs.DeclaredTypes.{Constant, constants}
use Rattle.isle_declarations.specs.DeclaredTypes as declared
use Rattle.isle_declarations.specs.Names.{def_names}
use Rattle.isle_declarations.specs.Signatures.{Signature, term_named}
use Rattle.isle_declarations.specs.Symbols.{index_of, number_or, symbols, sym_of}
use Rattle.isle_declarations.specs.Terms.{variant_signatures, body_signatures, terms, is_made}
use Rattle.isle_declarations.proofs.SymbolLaws.{stands, index_below, same_number}
use Rattle.isle_types.specs.Builtins.{builtins, builtin_names, type_id}
use Rattle.isle_types.specs.Fault.{type_fault}
use Rattle.isle_types.specs.TypeEnvironment.{sym_in, type_in, field_in, fields_in, variant_in, def_in, type_def_in, constant_in, type_env_of}
use Rattle.isle_types.specs.TypeNames.{declared_names, type_names}
use Rattle.isle_types.proofs.SymbolsApart.{Stands, AllStand, names_stand}
use Rattle.isle_terms.specs.Whole.{whole_of}
use Rattle.isle_terms.specs.TermPass.{types_named, kind_from, term_pass}
use Rattle.isle_core.specs.ExprType.{Allowed, IsTermKind}
use Rattle.isle_terms.specs.TypeNames.{type_named}
use Rattle.isle_terms.specs.Whole.{Whole, termed, constant_type}
use Rattle.isle_terms.proofs.MadeTerms.{first_there, term_made, made_of, term_is, types_are, all_at}
use Rattle.isle_sema.proofs.NamesApart.{types_apart, place_is}
use Rattle.isle_sema.proofs.RuleRoots.{signature_at}
use Rattle.isle_sema.proofs.TypedParts.{IsGivenIn}

-- ---- types of fields

named_types : (defs : List Def) (named : List (List ℕ × List ℕ)) → map (λ (f : Field). f.ty) (map (field_in defs) named) ≡ map (type_in defs) (map (λ (f : List ℕ × List ℕ). f.1) named)
named_types defs [] = refl
named_types defs (f ∷ named) = ap (λ (tys : List TypeId). type_in defs f.1 ∷ tys) (named_types defs named)

-- the types of declared fields
types_of : (defs : List Def) (fs : AstFields) → field_types (fields_in defs fs) ≡ map (type_in defs) (declared.field_types fs)
types_of defs Unit = refl
types_of defs (Named named) = named_types defs named
types_of defs (Tuple types) = refl

-- the types that fields of a form have
form_typed : (env : Environment) (fs : Fields) → map (λ (f : List ℕ × TypeId). f.1) (typed_fields env fs) ≡ field_types fs
form_typed env fields.Unit = refl
form_typed env (fields.Struct named) = of_named named
  where
    of_named : (fs : List Field) → map (λ (f : List ℕ × TypeId). f.1) (map (λ (f : Field). (sym_text env f.name, f.ty)) fs) ≡ map (λ (f : Field). f.ty) fs
    of_named [] = refl
    of_named (f ∷ fs) = ap (λ (tys : List TypeId). f.ty ∷ tys) (of_named fs)
form_typed env (fields.Tuple tys) = of_tuple 0 tys
  where
    of_tuple : (k : ℕ) (ts : List TypeId) → map (λ (f : List ℕ × TypeId). f.1) (tuple_fields k ts) ≡ ts
    of_tuple k [] = refl
    of_tuple k (ty ∷ ts) = ap (λ (more : List TypeId). ty ∷ more) (of_tuple (suc k) ts)

type_number : (o : Option ℕ) (ty : TypeId) → option_map type_id o ≡ Some ty → type_id (number_or o) ≡ ty
type_number None ty h = absurd cc
type_number (Some n) ty h = same_Some (type_id n) ty h

-- names of types that are declared stand for these
types_in_are : (defs : List Def) (names : List (List ℕ)) (tys : List TypeId) → types_named defs names ≡ Some tys → map (type_in defs) names ≡ tys
types_in_are defs [] tys h = same_Some [] tys h
types_in_are defs (name ∷ names) tys h =
    let f = first_there (type_named defs name) (types_named defs names) tys h in
    ap (λ (ty : TypeId). ty ∷ map (type_in defs) names) (type_number (index_of (type_names defs) name) f.first f.here) ∙ ap (λ (more : List TypeId). f.first ∷ more) (types_in_are defs names f.others f.found) ∙ sym f.all

-- ---- what types give to the terms that they make

-- what a type of this definition gives to a term of this origin
abbrev form_from : Origin → TypeDef → Option Form
form_from (origin.Variant number) d = variant_form (record { 0 = number }) d
form_from origin.Struct d = struct_form d
form_from origin.Declared d = None

-- the result's type stands among these, and gives the term its form
record IsFormed (all : List Def) (names : List (List ℕ)) (types : List TypeDef) (s : Signature) : Type 0 where
  place : ℕ
  what : TypeDef
  given : Form
  named : slice_get names place ≡ Some s.ret
  stands_there : slice_get types place ≡ Some what
  formed : form_from s.origin what ≡ Some given
  typed : field_types given.fields ≡ map (type_in all) s.args

-- so of a made term
abbrev MayBeFormed : (all : List Def) → List (List ℕ) → List TypeDef → Signature → Type 0
MayBeFormed all names types s = is_made s.origin ≡ true → IsFormed all names types s

-- so after one type more
all_behind : (all : List Def) (name : List ℕ) (d : TypeDef) (names : List (List ℕ)) (types : List TypeDef) (sigs : List Signature) → AllByRecursion (MayBeFormed all names types) sigs → AllByRecursion (MayBeFormed all (name ∷ names) (d ∷ types)) sigs
all_behind all name d names types [] h = tt
all_behind all name d names types (s ∷ sigs) h = (
  λ made.
      let f = h.0 made in
      record { place = suc f.place; what = f.what; given = f.given; named = f.named; stands_there = f.stands_there; formed = f.formed; typed = f.typed },
  all_behind all name d names types sigs h.1,
)

module _ (all : List Def) (name : List ℕ) (is_extern is_nodebug : Bool) (pos : Pos) (names : List (List ℕ)) (types : List TypeDef) where
  -- the terms that an enum makes
  variants_formed : (variants : List AstVariant) (i : ℕ) (vs : List AstVariant) (rest : List Signature) → ((k : ℕ) (v : AstVariant) → slice_get vs k ≡ Some v → slice_get variants (i + k) ≡ Some v)
      → AllByRecursion (MayBeFormed all (name ∷ names) (def_in all name is_extern is_nodebug (Enum variants) pos ∷ types)) rest
      → AllByRecursion (MayBeFormed all (name ∷ names) (def_in all name is_extern is_nodebug (Enum variants) pos ∷ types)) (variant_signatures name pos i vs ++ rest)
  variants_formed variants i [] rest at h = h
  variants_formed variants i (v ∷ vs) rest at h = (
    λ made.
        let here : slice_get variants i ≡ Some v = ap (slice_get variants) {y = i + 0} (omega arith) ∙ at 0 v refl in
        record {
          place = 0;
          what = def_in all name is_extern is_nodebug (Enum variants) pos;
          given = form_of_variant (sym_in all name) (variant_in all v);
          named = refl;
          stands_there = refl;
          formed = ap (option_map (form_of_variant (sym_in all name))) (slice_get-map (variant_in all) variants i ∙ ap (option_map (variant_in all)) here);
          typed = types_of all v.fields;
        },
    variants_formed variants (i + 1) vs rest (λ k u e. ap (slice_get variants) {y = i + suc k} (omega arith) ∙ at (suc k) u e) h,
  )

  -- the terms that a type makes
  body_formed : (body : AstBody) (rest : List Signature) → AllByRecursion (MayBeFormed all (name ∷ names) (def_in all name is_extern is_nodebug body pos ∷ types)) rest
      → AllByRecursion (MayBeFormed all (name ∷ names) (def_in all name is_extern is_nodebug body pos ∷ types)) (body_signatures name body pos ++ rest)
  body_formed (Primitive rust) rest h = h
  body_formed (Enum variants) rest h = variants_formed variants 0 variants rest (λ k v e. ap (slice_get variants) {y = k} (omega arith) ∙ e) h
  body_formed (Struct fs) rest h = (
    λ made. record {
      place = 0;
      what = def_in all name is_extern is_nodebug (Struct fs) pos;
      given = record { ty = sym_in all name; variant = None; fields = fields_in all fs };
      named = refl;
      stands_there = refl;
      formed = refl;
      typed = types_of all fs;
    },
    h,
  )

-- the made terms of definitions
all_formed : (all ds : List Def) → AllByRecursion (MayBeFormed all (declared_names ds) (filter_map (type_def_in all) ds)) (terms ds)
all_formed all [] = tt
all_formed all (tree.TypeDecl name is_extern is_nodebug body pos ∷ ds) =
    body_formed all name is_extern is_nodebug pos (declared_names ds) (filter_map (type_def_in all) ds) body (terms ds)
    (all_behind all name (def_in all name is_extern is_nodebug body pos) (declared_names ds) (filter_map (type_def_in all) ds) (terms ds) (all_formed all ds))
all_formed all (tree.Decl term pure multi partial recursive args ret pos ∷ ds) = (λ made. absurd cc, all_formed all ds)
all_formed all (tree.ExternConstructor term func pos ∷ ds) = all_formed all ds
all_formed all (tree.ExternExtractor term func infallible pos ∷ ds) = all_formed all ds
all_formed all (tree.ExternConst name ty pos ∷ ds) = all_formed all ds
all_formed all (tree.Extractor term params template pos ∷ ds) = all_formed all ds
all_formed all (tree.Converter from to term pos ∷ ds) = all_formed all ds
all_formed all (tree.Rule name prio term args iflets rhs pos ∷ ds) = all_formed all ds
all_formed all (tree.Passed head pos ∷ ds) = all_formed all ds

-- ---- the type of a made term

get_behind : {X : Type 0} (xs ys : List X) (m : ℕ) → slice_get (xs ++ ys) (length xs + m) ≡ slice_get ys m
get_behind [] ys m = ap (slice_get ys) {y = m} (omega arith)
get_behind (x ∷ xs) ys m = ap (slice_get (x ∷ (xs ++ ys))) {y = suc (length xs + m)} (omega arith) ∙ get_behind xs ys m

-- what a term of this origin makes, of this type
abbrev making_from : TypeId → Origin → Making
making_from ret (origin.Variant number) = MakesVariant ret (record { 0 = number })
making_from ret origin.Struct = MakesStruct ret
making_from ret origin.Declared = MakesNothing

form_is : (env : Environment) (from : Origin) (what : TypeDef) (given : Form) (ret : TypeId) → slice_get env.types.types ret.0 ≡ Some what → form_from from what ≡ Some given → form env (making_from ret from) ≡ Some given
form_is env (origin.Variant number) what given ret at h = ap (option_and_then (variant_form (record { 0 = number }))) at ∙ h
form_is env origin.Struct what given ret at h = ap (option_and_then struct_form) at ∙ h
form_is env origin.Declared what given ret at h = absurd cc

-- the fields of what a made term makes are of its arguments' types
made_typed : (defs : List Def) (env : Environment) (i : ℕ) (s : Signature) (t : Term) → env.types ≡ type_env_of defs → type_fault defs ≡ None → slice_get (terms defs) i ≡ Some s → is_made s.origin ≡ true → term_pass (whole_of defs) s ≡ Some t
    → option_map (form_types env) (form env (making_from t.ret_ty s.origin)) ≡ Some t.arg_tys
made_typed defs env i s t types none at made given =
    let names = declared_names defs in
    let declared_types = filter_map (type_def_in defs) defs in
    let f = all_at (MayBeFormed defs names declared_types) (terms defs) i s (all_formed defs defs) at made in
    let is = term_is (whole_of defs) s t given in
    let place : index_of (type_names defs) s.ret ≡ Some (length builtin_names + f.place) =
    place_is (type_names defs) (length builtin_names + f.place) s.ret (types_apart defs none) (get_behind builtin_names names f.place ∙ f.named) in
    let same : type_id (length builtin_names + f.place) ≡ t.ret_ty = same_Some (type_id (length builtin_names + f.place)) t.ret_ty (sym (ap (option_map type_id) place) ∙ is.ret) in
    let there : slice_get env.types.types t.ret_ty.0 ≡ Some f.what =
    ap (λ (ts : TypeEnv). slice_get ts.types t.ret_ty.0) types ∙ ap (λ (ty : TypeId). slice_get (builtins ++ declared_types) ty.0) (sym same) ∙ get_behind builtins declared_types f.place ∙ f.stands_there in
    ap (option_map (form_types env)) (form_is env s.origin f.what f.given t.ret_ty there f.formed)
    ∙ ap (λ (tys : List TypeId). Some tys) (form_typed env f.given.fields ∙ f.typed ∙ types_in_are defs s.args t.arg_tys is.args)

kind_makes : (w : Whole) (s : Signature) (ret : TypeId) (from : Origin) → making_kind (kind_from w s ret from) ≡ making_from ret from
kind_makes w s ret (origin.Variant number) = refl
kind_makes w s ret origin.Struct = refl
kind_makes w s ret origin.Declared = refl

of_making : (ret ty : TypeId) (from : Origin) → is_made from ≡ true → ret ≡ ty → IsOfMaking ty (making_from ret from)
of_making ret ty (origin.Variant number) made same = same
of_making ret ty origin.Struct made same = same
of_making ret ty origin.Declared made same = absurd cc

-- ---- the laws

-- a made term makes its result's type, and its arguments are the fields
pub made_form : (defs : List Def) (env : Environment) (name : List ℕ) (s : Signature) (number : TermId) (ty : TypeId) → IsGivenIn defs env → type_fault defs ≡ None → termed (whole_of defs) name ≡ Some s → term_named (terms defs) name ≡ Some number → is_made s.origin ≡ true
    → type_named defs s.ret ≡ Some ty → IsOfMaking ty (making env number) × (tys : List TypeId) × (option_map (form_types env) (form env (making env number)) ≡ Some tys) × (map (type_named defs) s.args ≡ map Some tys)
made_form defs env name s number ty g none is numbered made ret =
    let at = signature_at (whole_of defs) name s number is numbered in
    let m = term_made (whole_of defs) (terms defs) env.terms number.0 s g.terms at in
    let t = m.term in
    let k = term_is (whole_of defs) s t m.made in
    let makes : making env number ≡ making_from t.ret_ty s.origin = ap making_of m.there ∙ ap (λ (u : Term). making_kind u.kind) (sym k.is) ∙ kind_makes (whole_of defs) s t.ret_ty s.origin in
    let same : t.ret_ty ≡ ty = same_Some t.ret_ty ty (sym k.ret ∙ ret) in (
      subst (IsOfMaking ty) (sym makes) (of_making t.ret_ty ty s.origin made same),
      t.arg_tys,
      ap (λ (mk : Making). option_map (form_types env) (form env mk)) makes ∙ made_typed defs env number.0 s t g.types none at made m.made,
      types_are defs s.args t.arg_tys k.args,
    )

made_origin : (w : Whole) (s : Signature) (ret : TypeId) (from : Origin) (k : TermKind) → kind_from w s ret from ≡ k → is_made_kind k ≡ true → is_made from ≡ true
made_origin w s ret (origin.Variant number) k is made = refl
made_origin w s ret origin.Struct k is made = refl
made_origin w s ret origin.Declared k is made = let bad : false ≡ true = ap is_made_kind is ∙ made in absurd cc

kind_is : (w : Whole) (env : Environment) (allowed : Allowed) (s : Signature) (t : Term) (from : Origin) → is_made from ≡ true → option_map (form_types env) (form env (making_from t.ret_ty from)) ≡ Some t.arg_tys → IsTermKind env allowed t (kind_from w s t.ret_ty from)
kind_is w env allowed s t (origin.Variant number) made h = (refl, h)
kind_is w env allowed s t origin.Struct made h = (refl, h)
kind_is w env allowed s t origin.Declared made h = absurd cc

-- so does a made term of the environment
pub made_term : (defs : List Def) (env : Environment) (i : ℕ) (t : Term) → IsGivenIn defs env → type_fault defs ≡ None → slice_get env.terms i ≡ Some t → is_made_kind t.kind ≡ true → (allowed : Allowed) → IsTermKind env allowed t t.kind
made_term defs env i t g none at made allowed =
    let w = whole_of defs in
    let m = made_of w (terms defs) env.terms i t g.terms at in
    let s = m.signature in
    let kind : kind_from w s t.ret_ty s.origin ≡ t.kind = ap (λ (u : Term). u.kind) (term_is w s t m.made).is in
    let by_type = made_origin w s t.ret_ty s.origin t.kind kind made in
    subst (IsTermKind env allowed t) kind (kind_is w env allowed s t s.origin by_type (made_typed defs env i s t g.types none m.there by_type m.made))

-- ---- constants

-- the names of constants are symbols
constants_stand : (syms : List (List ℕ)) (ds : List Def) → AllByRecursion (λ (d : Def). AllStand syms (def_names d)) ds → AllStand syms (map (λ (c : Constant). c.name) (constants ds))
constants_stand syms [] h = tt
constants_stand syms (tree.ExternConst name ty pos ∷ ds) h = (h.0.0, constants_stand syms ds h.1)
constants_stand syms (tree.TypeDecl name is_extern is_nodebug body pos ∷ ds) h = constants_stand syms ds h.1
constants_stand syms (tree.Decl term pure multi partial recursive args ret pos ∷ ds) h = constants_stand syms ds h.1
constants_stand syms (tree.ExternConstructor term func pos ∷ ds) h = constants_stand syms ds h.1
constants_stand syms (tree.ExternExtractor term func infallible pos ∷ ds) h = constants_stand syms ds h.1
constants_stand syms (tree.Extractor term params template pos ∷ ds) h = constants_stand syms ds h.1
constants_stand syms (tree.Converter from to term pos ∷ ds) h = constants_stand syms ds h.1
constants_stand syms (tree.Rule name prio term args iflets rhs pos ∷ ds) h = constants_stand syms ds h.1
constants_stand syms (tree.Passed head pos ∷ ds) h = constants_stand syms ds h.1

found_from : {A : Type 0} (x : A) (xs : List A) (found : Option A) (o : Option ℕ) (first : Bool) → found ≡ option_and_then (slice_get xs) o → cond first (Some x) found ≡ option_and_then (slice_get (x ∷ xs)) (cond first (Some 0) (option_map (λ (n : ℕ). n + 1) o))
found_from x xs found o true h = refl
found_from x xs found None false h = h
found_from x xs found (Some n) false h = h ∙ ap (slice_get (x ∷ xs)) {x = suc n} {y = n + 1} (omega arith)

-- the first constant of a symbol stands where the first of its name does
constant_found : (all : List Def) (name : List ℕ) (n : ℕ) (cs : List Constant) → index_of (symbols all) name ≡ Some n → AllStand (symbols all) (map (λ (c : Constant). c.name) cs)
    → find (λ (c : Sym × TypeId). c.0.0 == n) (map (constant_in all) cs) ≡ option_and_then (slice_get (map (constant_in all) cs)) (index_of (map (λ (c : Constant). c.name) cs) name)
constant_found all name n [] at h = refl
constant_found all name n (c ∷ cs) at h =
    let syms = symbols all in
    let one = constant_in all c in
    let rest = map (constant_in all) cs in
    let found = find (λ (d : Sym × TypeId). d.0.0 == n) rest in
    let same : one.0.0 == n ≡ bytes_eq c.name name = ap (λ (o : Option ℕ). number_or o == n) h.0.1 ∙ same_number syms c.name name h.0.0 n h.0.1 at in
    ap (λ (b : Bool). cond b (Some one) found) same
    ∙ found_from one rest found (index_of (map (λ (d : Constant). d.name) cs) name) (bytes_eq c.name name) (constant_found all name n cs at h.1)

-- a name that stands among those of constants is a symbol
name_stands : (syms names : List (List ℕ)) (name : List ℕ) (n : ℕ) → AllStand syms names → index_of names name ≡ Some n → Stands syms name
name_stands syms names name n h at =
    all_at (Stands syms) names n name h (slice_get-get_or names n [] (index_below names name n at) ∙ ap (λ (x : List ℕ). Some x) (stands names name n at))

constant_there : (xs : List (Sym × TypeId)) (o : Option ℕ) (ty : TypeId) → option_map (λ (c : Sym × TypeId). c.1) (option_and_then (slice_get xs) o) ≡ Some ty → (n : ℕ) × (o ≡ Some n)
constant_there xs None ty h = absurd cc
constant_there xs (Some n) ty h = (n, refl)

-- a constant's type is that of its symbol
pub constant_typed : (defs : List Def) (env : Environment) (name : List ℕ) (ty : TypeId) → env.types ≡ type_env_of defs → constant_type (whole_of defs) name ≡ Some ty → const_type env (sym_of env.types.syms name) ≡ Some ty
constant_typed defs env name ty types h =
    let syms = symbols defs in
    let names = map (λ (c : Constant). c.name) (constants defs) in
    let all = map (constant_in defs) (constants defs) in
    let place = constant_there all (index_of names name) ty h in
    let stand = constants_stand syms defs (names_stand defs) in
    let s = name_stands syms names name place.0 stand place.1 in
    let find_in : List (Sym × TypeId) → ℕ → Option TypeId = λ cs n. option_map (λ (c : Sym × TypeId). c.1) (find (λ (c : Sym × TypeId). c.0.0 == n) cs) in
    ap (λ (ts : TypeEnv). find_in ts.consts (number_or (index_of ts.syms name))) types
    ∙ ap (λ (o : Option ℕ). find_in all (number_or o)) s.1
    ∙ ap (option_map (λ (c : Sym × TypeId). c.1)) (constant_found defs name s.0 (constants defs) s.1 stand)
    ∙ h
