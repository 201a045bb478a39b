-- How the external terms of typed definitions are called in their environment, and values of their opaque types.
use Rattle.std.proofs.Common.{◌≡◌, ℕ, suc, ◌+◌, List, [], ◌∷◌, ◌++◌, length, Bool, true, false, cond, Option, Some, None, refl, sym, ap, ◌∙◌, subst, ⊎_elim, arith}
use Rattle.std.specs.Prelude.{Contains, IsSomeAnd, filter_map, find, is_some, option_map, pos, slice_get}
use Rattle.std.specs.Int.{w128}
use Rattle.std.specs.List.{AllByRecursion, IsDistinct, cons_option}
use Rattle.std.specs.Str.{bytes_eq}
use Rattle.std.proofs.lemmas.Int.{fits_signed_from_abs}
use Rattle.std.proofs.lemmas.Option.{slice_get-map}
use Rattle.std.proofs.lemmas.Slice.Eq.{bytes_eq-Decides}
use Rattle.isle_base.specs.declared.ids.TermId.{TermId}
use Rattle.isle_base.specs.declared.ids.TypeId.{TypeId}
use Rattle.isle_core.specs.declared.types.ConstructorKind.TheVariants as constructor
use Rattle.isle_core.specs.declared.types.ExtractorKind.TheVariants as extractor
use Rattle.isle_core.specs.declared.types.Term.{Term}
use Rattle.isle_core.specs.declared.types.TermKind.{TermKind}
use Rattle.isle_core.specs.declared.types.TermKind.TheVariants as kind
use Rattle.isle_core.specs.declared.types.TypeEnv.{TypeEnv}
use Rattle.isle_core.specs.declared.values.Callee.TheVariants.{External}
use Rattle.isle_core.specs.Calling.{Calling, ByTurns, ByCases, kind_by, calling_of, calling, extractor_kind, extracting_of, extracting}
use Rattle.isle_core.specs.HasType.{IsOfDef, HasType}
use Rattle.isle_core.specs.Rule.{Environment}
use Rattle.isle_core.specs.Terms.{symbol_text, sym_text}
use Rattle.isle_core.specs.Value.{Value, Opaque}
use Rattle.isle_core.proofs.Contained.{contained_cases, none_contained}
use Rattle.isle_core.proofs.OptionLaws.{some_same}
use Rattle.isle_ast.specs.Tree as tree
use Rattle.isle_ast.specs.Tree.{Def}
use Rattle.isle_ast.specs.declared.tree.AstBody.{AstBody}
use Rattle.isle_ast.specs.declared.tree.AstBody.TheVariants as body
use Rattle.isle_declarations.specs.declared.terms.Origin.TheVariants as origin
use Rattle.isle_declarations.specs.DeclaredTypes.{DeclaredType, type_of}
use Rattle.isle_declarations.specs.Heads.{extern_terms}
use Rattle.isle_declarations.specs.Names.{def_names}
use Rattle.isle_declarations.specs.Signatures.{Signature, Extern, ExtractorDef, ByFunction, externs, extractors, rule_defs, extern_of, extractor_of, func_named, extractor_named, has_rule}
use Rattle.isle_declarations.specs.Symbols.{sym_of, symbols}
use Rattle.isle_declarations.proofs.DeclaredNames.{text_of}
use Rattle.isle_declarations.proofs.DistinctNames.{distinct_names}
use Rattle.isle_sema.proofs.NamesApart.{types_apart, place_is}
use Rattle.isle_sema.proofs.TermFaults.{terms_kept}
use Rattle.isle_sema.proofs.TypedParts.{IsGivenIn}
use Rattle.isle_terms.specs.TermPass.{constructor_of, constructor_named, extractor_from, extracting_named, kind_from}
use Rattle.isle_terms.specs.TypeNames.{type_named}
use Rattle.isle_terms.specs.Whole.{whole_of}
use Rattle.isle_types.specs.Builtins.{builtins, builtin_names, type_id}
use Rattle.isle_types.specs.TypeEnvironment.{def_in, type_def_in, type_env_of}
use Rattle.isle_types.specs.TypeNames.{declared_names, type_names}
use Rattle.isle_types.proofs.SymbolsApart.{Stands, AllStand, names_stand}
use Rattle.isle_writing.specs.Erased.{no_place}
use Rattle.isle_core.specs.declared.position.Pos.{Pos}
use Rattle.isle_prelude_laws.proofs.GivenTemplates.{given_extractor}
use Rattle.isle_prelude_laws.proofs.GivenTerms.{IsGivenTerm}
use Rattle.isle_prelude_laws.proofs.HeldDefs.{IsHeld}
use Rattle.isle_prelude_laws.proofs.PartTerms.{IsOpaqueBody, IsOpaqueType}
use Rattle.isle_prelude_laws.proofs.SizesThere.{filter_there}

-- ---- external constructors

extern_apart : (name : List ℕ) (xs : List Extern) (x : Extern) → AllByRecursion (λ (n : List ℕ). bytes_eq name n ≡ false) (extern_terms xs)
    → Contains xs x → bytes_eq name x.term ≡ false
extern_apart name [] x h c = absurd (none_contained x c)
extern_apart name (y ∷ xs) x h c = ⊎_elim (λ (same : y ≡ x). subst (λ (z : Extern). bytes_eq name z.term ≡ false) same h.0) (λ there. extern_apart name xs x h.1 there) (contained_cases y xs x c)

extern_alone : (xs : List Extern) (x : Extern) → IsDistinct bytes_eq (extern_terms xs) → Contains xs x → func_named xs x.term ≡ Some x.func
unfolding IsDistinct
extern_alone [] x d c = absurd (none_contained x c)
extern_alone (y ∷ xs) x d c =
    ⊎_elim
    (λ (same : y ≡ x). ap (λ b. option_map (λ (z : Extern). z.func) (cond b (Some y) (find (λ (z : Extern). bytes_eq z.term x.term) xs))) ((bytes_eq-Decides y.term x.term).1 (ap (λ (z : Extern). z.term) same)) ∙ ap (λ (z : Extern). Some z.func) same)
    (λ there. ap (λ b. option_map (λ (z : Extern). z.func) (cond b (Some y) (find (λ (z : Extern). bytes_eq z.term x.term) xs))) (extern_apart y.term xs x d.0 there) ∙ extern_alone xs x d.1 there)
    (contained_cases y xs x c)

-- the text of a function's symbol
each_stands : (defs ds : List Def) (d : Def) → AllByRecursion (λ (x : Def). AllStand (symbols defs) (def_names x)) ds → Contains ds d
    → AllStand (symbols defs) (def_names d)
each_stands defs [] d h c = absurd (none_contained d c)
each_stands defs (x ∷ ds) d h c = ⊎_elim (λ (same : x ≡ d). subst (λ (y : Def). AllStand (symbols defs) (def_names y)) same h.0) (λ there. each_stands defs ds d h.1 there) (contained_cases x ds d c)

text_is : (defs : List Def) (env : Environment) (name : List ℕ) → IsGivenIn defs env → Stands (symbols defs) name
    → sym_text env (sym_of (symbols defs) name) ≡ name
text_is defs env name g s = ap (λ (ts : TypeEnv). symbol_text ts (sym_of (symbols defs) name)) g.types ∙ text_of (symbols defs) name s.0 s.1

-- a call by turns or by cases
abbrev pub called_so : (pure : Bool) → Calling → Calling → Calling
called_so true turns cases = cases
called_so false turns cases = turns

-- how a term with an external constructor is called
pub given_calling : (defs : List Def) (env : Environment) (s : Signature) (a : TermId) (name func : List ℕ) → IsGivenIn defs env
    → IsGivenTerm defs env s a → s.origin ≡ origin.Declared → s.term ≡ name → IsHeld defs (tree.ExternConstructor name func no_place)
    → calling env a ≡ called_so s.pure (ByTurns (External func) (kind_by s.multi s.partial)) (ByCases (External func) (kind_by s.multi s.partial))
given_calling defs env s a name func g k own named c =
    let w = whole_of defs in
    let syms = symbols defs in
    let x : Extern = record { term = name; func = func } in
    let found : func_named (externs defs) s.term ≡ Some func =
    ap (func_named (externs defs)) named ∙ extern_alone (externs defs) x (distinct_names (extern_terms (externs defs)) (terms_kept defs [] defs g.terms_kept).externs_apart) (filter_there extern_of defs (tree.ExternConstructor name func c.at) x c.among refl) in
    let made : constructor_named w s.term ≡ constructor.External (sym_of syms func) = ap (λ o. constructor_of syms o (has_rule (rule_defs defs) s.term)) found in
    let term_of : TermKind → Term = λ q. record { name = sym_of syms s.term; decl_pos = s.pos; arg_tys = k.decl.arg_tys; ret_ty = k.decl.ret_ty; kind = q } in
    ap (calling_of env) k.there ∙ ap (λ (t : Term). calling_of env (Some t)) (sym k.is)
    ∙ ap (λ o. calling_of env (Some (term_of (kind_from w s k.decl.ret_ty o)))) own
    ∙ ap (λ q. calling_of env (Some (term_of (kind.Decl s.pure s.multi s.partial s.recursive q (extracting_named w s.term))))) made
    ∙ by s.pure
    ∙ ap (λ text. called_so s.pure (ByTurns (External text) (kind_by s.multi s.partial)) (ByCases (External text) (kind_by s.multi s.partial))) (text_is defs env func g (each_stands defs defs (tree.ExternConstructor name func c.at) (names_stand defs) c.among).1.0)
  where
    by : (b : Bool) → calling_of env (Some (record {
      name = sym_of (symbols defs) s.term;
      decl_pos = s.pos;
      arg_tys = k.decl.arg_tys;
      ret_ty = k.decl.ret_ty;
      kind = kind.Decl b s.multi s.partial s.recursive (constructor.External (sym_of (symbols defs) func)) (extracting_named (whole_of defs) s.term);
    }))
        ≡ called_so b (ByTurns (External (sym_text env (sym_of (symbols defs) func))) (kind_by s.multi s.partial)) (ByCases (External (sym_text env (sym_of (symbols defs) func))) (kind_by s.multi s.partial))
    by true = refl
    by false = refl

-- how a term with an external extractor is called as one
pub given_extracting : (defs : List Def) (env : Environment) (s : Signature) (a : TermId) (name func : List ℕ) (infallible : Bool)
    → IsGivenIn defs env → IsGivenTerm defs env s a → s.origin ≡ origin.Declared → s.term ≡ name
    → IsHeld defs (tree.ExternExtractor name func infallible no_place)
    → extracting env a ≡ ByCases (External func) (extractor_kind s.multi infallible)
given_extracting defs env s a name func infallible g k own named c =
    let w = whole_of defs in
    let syms = symbols defs in
    let x : ExtractorDef = record { term = name; by = ByFunction func infallible; pos = c.at } in
    let found : extractor_named (extractors defs) s.term ≡ Some x = ap (extractor_named (extractors defs)) named ∙ given_extractor defs env x g (filter_there extractor_of defs (tree.ExternExtractor name func infallible c.at) x c.among refl) in
    let made : extracting_named w s.term ≡ extractor.External (sym_of syms func) infallible = ap (extractor_from syms) found in
    let term_of : TermKind → Term = λ q. record { name = sym_of syms s.term; decl_pos = s.pos; arg_tys = k.decl.arg_tys; ret_ty = k.decl.ret_ty; kind = q } in
    ap (extracting_of env) k.there ∙ ap (λ (t : Term). extracting_of env (Some t)) (sym k.is)
    ∙ ap (λ o. extracting_of env (Some (term_of (kind_from w s k.decl.ret_ty o)))) own
    ∙ ap (λ q. extracting_of env (Some (term_of (kind.Decl s.pure s.multi s.partial s.recursive (constructor_named w s.term) q)))) made
    ∙ ap (λ text. ByCases (External text) (extractor_kind s.multi infallible)) (text_is defs env func g (each_stands defs defs (tree.ExternExtractor name func infallible c.at) (names_stand defs) c.among).1.0)

-- ---- types

-- a definition declares a type for both lists, or for none
both_declare : (all : List Def) (d : Def) → is_some (type_of d) ≡ is_some (type_def_in all d)
both_declare all (tree.TypeDecl name is_extern is_nodebug body place) = refl
both_declare all (tree.Decl term pure multi partial recursive args ret place) = refl
both_declare all (tree.ExternConstructor term func place) = refl
both_declare all (tree.ExternExtractor term func infallible place) = refl
both_declare all (tree.ExternConst name ty place) = refl
both_declare all (tree.Extractor term params template place) = refl
both_declare all (tree.Converter from to term place) = refl
both_declare all (tree.Rule name prio term args iflets rhs place) = refl
both_declare all (tree.Passed head place) = refl

-- two things at one place
record AtOnePlace {B C : Type 0} (bs : List B) (cs : List C) (b : B) (c : C) : Type 0 where
  place : ℕ
  first : slice_get bs place ≡ Some b
  second : slice_get cs place ≡ Some c

one_place_more : {B C : Type 0} (o : Option B) (q : Option C) (bs : List B) (cs : List C) (b : B) (c : C) → is_some o ≡ is_some q
    → AtOnePlace bs cs b c → AtOnePlace (cons_option o bs) (cons_option q cs) b c
one_place_more None None bs cs b c same h = h
one_place_more (Some x) (Some y) bs cs b c same h = record { place = suc h.place; first = h.first; second = h.second }
one_place_more None (Some y) bs cs b c same h = absurd cc
one_place_more (Some x) None bs cs b c same h = absurd cc

at_one_place : {A B C : Type 0} (f : A → Option B) (q : A → Option C) → ((d : A) → is_some (f d) ≡ is_some (q d))
    → (ds : List A) (d : A) (b : B) (c : C) → Contains ds d → f d ≡ Some b → q d ≡ Some c → AtOnePlace (filter_map f ds) (filter_map q ds) b c
at_one_place f q same [] d b c among h k = absurd (none_contained d among)
at_one_place f q same (e ∷ ds) d b c among h k =
    ⊎_elim
    (λ (one : e ≡ d). first_place (f e) (q e) (ap f one ∙ h) (ap q one ∙ k))
    (λ there. one_place_more (f e) (q e) (filter_map f ds) (filter_map q ds) b c (same e) (at_one_place f q same ds d b c there h k))
    (contained_cases e ds d among)
  where
    first_place : (o : Option _) (p : Option _) → o ≡ Some b → p ≡ Some c → AtOnePlace (cons_option o (filter_map f ds)) (cons_option p (filter_map q ds)) b c
    first_place o p x y = subst (λ z. AtOnePlace (cons_option z (filter_map f ds)) (cons_option p (filter_map q ds)) b c) (sym x) (subst (λ z. AtOnePlace (b ∷ filter_map f ds) (cons_option z (filter_map q ds)) b c) (sym y) (record { place = 0; first = refl; second = refl }))

behind : {X : Type 0} (xs ys : List X) (k : ℕ) → slice_get (xs ++ ys) (length xs + k) ≡ slice_get ys k
behind [] ys k = let at : 0 + k ≡ k = omega arith in ap (slice_get ys) at
behind (x ∷ xs) ys k = let at : suc (length xs) + k ≡ suc (length xs + k) = omega arith in ap (slice_get (x ∷ xs ++ ys)) at ∙ behind xs ys k

-- a type that is declared
type_there : (defs : List Def) (env : Environment) (name : List ℕ) (is_extern : Bool) (b : AstBody) (at : Pos) (ty : TypeId) → IsGivenIn defs env
    → Contains defs (tree.TypeDecl name is_extern false b at) → type_named defs name ≡ Some ty
    → slice_get env.types.types ty.0 ≡ Some (def_in defs name is_extern false b at)
type_there defs env name is_extern b at ty g c named =
    let d = tree.TypeDecl name is_extern false b at in
    let r = at_one_place type_of (type_def_in defs) (both_declare defs) defs d (record { name = name; body = b }) (def_in defs name is_extern false b at) c refl refl in
    let k = length builtin_names + r.place in
    let there : slice_get (type_names defs) k ≡ Some name = behind builtin_names (declared_names defs) r.place ∙ slice_get-map (λ (t : DeclaredType). t.name) (filter_map type_of defs) r.place ∙ ap (option_map (λ (t : DeclaredType). t.name)) r.first in
    let place = place_is (type_names defs) k name (types_apart defs g.types_kept) there in
    let same : type_id k ≡ ty = some_same (type_id k) ty (sym (ap (option_map type_id) place) ∙ named) in
    ap (λ (ts : TypeEnv). slice_get ts.types ty.0) g.types ∙ ap (λ (x : TypeId). slice_get (type_env_of defs).types x.0) (sym same) ∙ behind builtins (filter_map (type_def_in defs) defs) r.place ∙ r.second

-- an opaque type has a value
pub opaque_value : (defs : List Def) (env : Environment) (name : List ℕ) (ty : TypeId) → IsGivenIn defs env → IsOpaqueType defs name
    → type_named defs name ≡ Some ty → (v : Value) × HasType env v ty
opaque_value defs env name ty g o named = by o.is_extern o.body o.is_opaque (type_there defs env name o.is_extern o.body o.among.at ty g o.among.among named)
  where
    by : (is_extern : Bool) (b : AstBody) → IsOpaqueBody is_extern b
        → slice_get env.types.types ty.0 ≡ Some (def_in defs name is_extern false b o.among.at) → (v : Value) × HasType env v ty
    by is_extern (body.Primitive rust) free at =
        let v = Opaque (sym_text env (sym_of (symbols defs) rust)) (pos 0) in
        (v, subst (λ x. IsSomeAnd x (λ d. IsOfDef env d v)) (sym at) (refl, fits_signed_from_abs w128 (pos 0) (omega arith)))
    by true (body.Enum variants) free at =
        let v = Opaque (sym_text env (sym_of (symbols defs) name)) (pos 0) in
        (v, subst (λ x. IsSomeAnd x (λ d. IsOfDef env d v)) (sym at) (refl, fits_signed_from_abs w128 (pos 0) (omega arith)))
    by false (body.Enum variants) free at = absurd cc
    by is_extern (body.Struct fields) free at = absurd free
