-- Where no definition breaks a row of types or of terms, the types of each term are declared.
use Rattle.std.proofs.Common.{◌≡◌, ℕ, ◌+◌, Bool, true, false, cond, List, [], ◌∷◌, ◌++◌, map, Option, Some, None, refl, sym, ap, ◌∙◌}
use Rattle.std.specs.Prelude.{◌&&◌, ◌||◌, not, is_some, find, option_map, option_and_then}
use Rattle.std.specs.List.{AllByRecursion, IsDistinct, list_all, list_any}
use Rattle.std.specs.Str.{bytes_eq}
use Rattle.std.proofs.lemmas.Bool.{and_parts, and_from, or_parts, not-false}
use Rattle.std.proofs.lemmas.Slice.Eq.{bytes_eq-Decides}
use Rattle.isle_core.specs.declared.TypeId.{TypeId}
use Rattle.isle_core.specs.declared.position.Pos.{Pos}
use Rattle.isle_core.specs.declared.types.Term.{Term}
use Rattle.isle_ast.specs.Tree as tree
use Rattle.isle_ast.specs.Tree.{Def}
use Rattle.isle_ast.specs.declared.tree.AstBody.{AstBody}
use Rattle.isle_ast.specs.declared.tree.AstBody.TheVariants.{Primitive, Enum, Struct}
use Rattle.isle_ast.specs.declared.tree.AstFields.{AstFields}
use Rattle.isle_ast.specs.declared.tree.AstVariant.{AstVariant}
use Rattle.isle_declarations.specs.DeclaredTypes.{DeclaredType, field_types, types}
use Rattle.isle_declarations.specs.Heads.{terms_of}
use Rattle.isle_declarations.specs.Signatures.{Signature, signatures}
use Rattle.isle_declarations.specs.Symbols.{index_of}
use Rattle.isle_declarations.specs.Terms.{variant_signatures, body_signatures, terms}
use Rattle.isle_declarations.specs.declared.terms.Origin.TheVariants as origin
use Rattle.isle_declarations.proofs.DistinctNames.{distinct_names}
use Rattle.isle_declarations.proofs.LookUps.{at_place, found_at, named_is}
use Rattle.isle_declarations.proofs.SymbolLaws.{index_stays}
use Rattle.isle_types.specs.Bodies.{any_fields}
use Rattle.isle_types.specs.Builtins.{builtin_names, type_id}
use Rattle.isle_types.specs.Fault.{type_fault}
use Rattle.isle_types.specs.TypeNames.{declared_names, type_names, is_type}
use Rattle.isle_types.proofs.SoundRows.{IsUnbroken, all_unbroken}
use Rattle.isle_terms.specs.TermPass.{types_named, term_from, term_pass, terms_pass}
use Rattle.isle_terms.specs.TypeNames.{type_named}
use Rattle.isle_terms.specs.Whole.{whole_of, declared, termed}
use Rattle.isle_terms.proofs.MadeTerms.{before_both, all_at}
use Rattle.isle_sema.specs.Fault.{OfTerms, fault_in}
use Rattle.isle_sema.proofs.Conversions.{term_alone, declared_there}
use Rattle.isle_sema.proofs.NamesApart.{terms_apart, made_apart, declared_unmade}
use Rattle.isle_sema.proofs.RuleRoots.{signature_at}
use Rattle.isle_sema.proofs.TermFaults.{names_no_type, TermParts, terms_kept}
use Rattle.isle_sema.proofs.TreedPatterns.{IsTypedTerm, KnowsTypes, numbered}

-- definitions break no row of types or of terms
pub record AreDeclaredWell (defs : List Def) : Type 0 where
  pub types : type_fault defs ≡ None
  pub terms : fault_in OfTerms (whole_of defs) ≡ None

-- ---- names of types

-- a name that stands among some stands there after one more
index_later : (first name : List ℕ) (names : List (List ℕ)) → is_some (index_of names name) ≡ true → is_some (index_of (first ∷ names) name) ≡ true
index_later first name names h = by (bytes_eq first name) (index_of names name) h
  where
    by : (b : Bool) (o : Option ℕ) → is_some o ≡ true → is_some (cond b (Some 0) (option_map (λ (n : ℕ). n + 1) o)) ≡ true
    by true o k = refl
    by false None k = absurd cc
    by false (Some n) k = refl

index_behind : (xs ys : List (List ℕ)) (name : List ℕ) → is_some (index_of ys name) ≡ true → is_some (index_of (xs ++ ys) name) ≡ true
index_behind [] ys name h = h
index_behind (x ∷ xs) ys name h = index_later x name (xs ++ ys) (index_behind xs ys name h)

own_index : (name : List ℕ) (names : List (List ℕ)) → is_some (index_of (name ∷ names) name) ≡ true
own_index name names = ap (λ (b : Bool). is_some (cond b (Some 0) (option_map (λ (n : ℕ). n + 1) (index_of names name)))) ((bytes_eq-Decides name name).1 refl)

-- a name is that of a declared type
abbrev Names : List Def → List ℕ → Type 0
Names all name = is_some (type_named all name) ≡ true

some_number : (o : Option ℕ) → is_some o ≡ true → is_some (option_map type_id o) ≡ true
some_number None h = absurd cc
some_number (Some n) h = refl

-- so is one that stands among those of declared types
declared_names_it : (all : List Def) (name : List ℕ) → is_some (index_of (declared_names all) name) ≡ true → Names all name
declared_names_it all name h = some_number (index_of (type_names all) name) (index_behind builtin_names (declared_names all) name h)

-- and one that is that of a type
type_names_it : (all : List Def) (name : List ℕ) → is_type all name ≡ true → Names all name
type_names_it all name h = by (index_of builtin_names name) (find (λ (t : DeclaredType). bytes_eq t.name name) (types all)) (index_of (declared_names all) name) refl (found_at (λ (t : DeclaredType). t.name) (types all) name) refl h
  where
    by : (builtin : Option ℕ) (found : Option DeclaredType) (place : Option ℕ) → index_of builtin_names name ≡ builtin → found ≡ at_place (types all) place → index_of (declared_names all) name ≡ place
        → (is_some (option_map type_id builtin) || is_some (option_map (λ (t : DeclaredType). t.body) found)) ≡ true → Names all name
    by (Some n) found place e f g k = ap (λ o. is_some (option_map type_id o)) (index_stays builtin_names (declared_names all) name n e)
    by None None place e f g k = absurd cc
    by None (Some t) None e f g k = absurd cc
    by None (Some t) (Some n) e f g k = declared_names_it all name (ap is_some g)

-- ---- types of terms

-- the types of a term's result and of its arguments are declared
abbrev NamesTypes : List Def → Signature → Type 0
NamesTypes all s = names_no_type all s ≡ false

-- a field's type is not declared
abbrev misses_type : List Def → AstFields → Bool
misses_type all fields = list_any (λ (name : List ℕ). not (is_type all name)) (field_types fields)

all_name : (all : List Def) (names : List (List ℕ)) → list_any (λ (name : List ℕ). not (is_type all name)) names ≡ false → list_all (λ (name : List ℕ). is_some (type_named all name)) names ≡ true
all_name all [] h = refl
all_name all (name ∷ names) h =
    let k = or_parts (not (is_type all name)) (list_any (λ (n : List ℕ). not (is_type all n)) names) h in
    and_from (is_some (type_named all name)) (list_all (λ (n : List ℕ). is_some (type_named all n)) names) (type_names_it all name (not-false (is_type all name) k.0)) (all_name all names k.1)

-- so are those of a made term
made_names : (all : List Def) (ty : List ℕ) (fields : AstFields) → Names all ty → misses_type all fields ≡ false → not (is_some (type_named all ty) && list_all (λ (n : List ℕ). is_some (type_named all n)) (field_types fields)) ≡ false
made_names all ty fields own h = ap not (and_from (is_some (type_named all ty)) (list_all (λ (n : List ℕ). is_some (type_named all n)) (field_types fields)) own (all_name all (field_types fields) h))

variants_name : (all : List Def) (ty : List ℕ) (pos : Pos) (i : ℕ) (vs : List AstVariant) (rest : List Signature) → Names all ty → list_any (λ (v : AstVariant). misses_type all v.fields) vs ≡ false → AllByRecursion (NamesTypes all) rest
    → AllByRecursion (NamesTypes all) (variant_signatures ty pos i vs ++ rest)
variants_name all ty pos i [] rest own h others = others
variants_name all ty pos i (v ∷ vs) rest own h others =
    let k = or_parts (misses_type all v.fields) (list_any (λ (x : AstVariant). misses_type all x.fields) vs) h in
    (made_names all ty v.fields own k.0, variants_name all ty pos (i + 1) vs rest own k.1 others)

-- and those of the terms that a type makes
body_names : (all : List Def) (ty : List ℕ) (body : AstBody) (pos : Pos) (rest : List Signature) → Names all ty → any_fields (misses_type all) body ≡ false → AllByRecursion (NamesTypes all) rest → AllByRecursion (NamesTypes all) (body_signatures ty body pos ++ rest)
body_names all ty (Primitive rust) pos rest own h others = others
body_names all ty (Enum variants) pos rest own h others = variants_name all ty pos 0 variants rest own h others
body_names all ty (Struct fields) pos rest own h others = (made_names all ty fields own h, others)

-- the types of definitions are among all
abbrev AreTypesOf : List Def → List Def → Type 0
AreTypesOf all ds = (name : List ℕ) → is_some (index_of (declared_names ds) name) ≡ true → Names all name

-- the types of all terms are declared
terms_name : (all ds : List Def) → AreTypesOf all ds → AllByRecursion (IsUnbroken all) ds → list_any (names_no_type all) (signatures ds) ≡ false → AllByRecursion (NamesTypes all) (terms ds)
terms_name all [] among u h = tt
terms_name all (tree.Decl term pure multi partial recursive args ret pos ∷ ds) among u h =
    let s : Signature = record { term = term; pure = pure; multi = multi; partial = partial; recursive = recursive; args = args; ret = ret; pos = pos; origin = origin.Declared } in
    let k = or_parts (names_no_type all s) (list_any (names_no_type all) (signatures ds)) h in
    (k.0, terms_name all ds among u.1 k.1)
terms_name all (tree.TypeDecl name is_extern is_nodebug body pos ∷ ds) among u h =
    body_names all name body pos (terms ds) (among name (own_index name (declared_names ds))) u.0.declared (terms_name all ds (λ n k. among n (index_later name n (declared_names ds) k)) u.1 h)
terms_name all (tree.ExternConstructor term func pos ∷ ds) among u h = terms_name all ds among u.1 h
terms_name all (tree.ExternExtractor term func infallible pos ∷ ds) among u h = terms_name all ds among u.1 h
terms_name all (tree.ExternConst name ty pos ∷ ds) among u h = terms_name all ds among u.1 h
terms_name all (tree.Extractor term params template pos ∷ ds) among u h = terms_name all ds among u.1 h
terms_name all (tree.Converter from to term pos ∷ ds) among u h = terms_name all ds among u.1 h
terms_name all (tree.Rule name prio term args iflets rhs pos ∷ ds) among u h = terms_name all ds among u.1 h
terms_name all (tree.Passed head pos ∷ ds) among u h = terms_name all ds among u.1 h

-- ---- what is known of them

some_type : (o : Option TypeId) → is_some o ≡ true → (ty : TypeId) × (o ≡ Some ty)
some_type None h = absurd cc
some_type (Some ty) h = (ty, refl)

some_types : (all : List Def) (names : List (List ℕ)) → list_all (λ (n : List ℕ). is_some (type_named all n)) names ≡ true → (tys : List TypeId) × (map (type_named all) names ≡ map Some tys)
some_types all [] h = ([], refl)
some_types all (name ∷ names) h =
    let k = and_parts (is_some (type_named all name)) (list_all (λ (n : List ℕ). is_some (type_named all n)) names) h in
    let first = some_type (type_named all name) k.0 in
    let rest = some_types all names k.1 in
    (first.0 ∷ rest.0, ap (λ o. o ∷ map (type_named all) names) first.1 ∙ ap (λ os. Some first.0 ∷ os) rest.1)

term_typed : (all : List Def) (s : Signature) → NamesTypes all s → IsTypedTerm (whole_of all) s
term_typed all s h =
    let each = list_all (λ (n : List ℕ). is_some (type_named all n)) s.args in
    let k = and_parts (is_some (type_named all s.ret)) each (not-false (is_some (type_named all s.ret) && each) h) in
    let ret = some_type (type_named all s.ret) k.0 in
    let args = some_types all s.args k.1 in
    record { ret = ret.0; args = args.0; ret_is = ret.1; args_are = args.1 }

-- what the rows of terms keep
pub declarations_kept : (defs : List Def) → AreDeclaredWell defs → TermParts defs [] defs
declarations_kept defs d = terms_kept defs [] defs d.terms

-- the types of each term are declared
pub knows_types : (defs : List Def) → AreDeclaredWell defs → KnowsTypes (whole_of defs)
knows_types defs d =
    let all = terms_name defs defs (λ name h. declared_names_it defs name h) (all_unbroken defs d.types) (declarations_kept defs d).typed in
    record {
      typed = λ name s is.
          let n = numbered (terms defs) name s is in
          term_typed defs s (all_at (NamesTypes defs) (terms defs) n.0.0 s all (signature_at (whole_of defs) name s n.0 is n.1));
    }

types_are_named : (all : List Def) (names : List (List ℕ)) → list_all (λ (n : List ℕ). is_some (type_named all n)) names ≡ true → (tys : List TypeId) × (types_named all names ≡ Some tys)
types_are_named all [] h = ([], refl)
types_are_named all (name ∷ names) h =
    let k = and_parts (is_some (type_named all name)) (list_all (λ (n : List ℕ). is_some (type_named all n)) names) h in
    let first = some_type (type_named all name) k.0 in
    let rest = types_are_named all names k.1 in
    (first.0 ∷ rest.0, before_both (type_named all name) (types_named all names) first.0 rest.0 first.1 rest.1)

term_passes : (all : List Def) (s : Signature) → NamesTypes all s → (t : Term) × (term_pass (whole_of all) s ≡ Some t)
term_passes all s h =
    let w = whole_of all in
    let each = list_all (λ (n : List ℕ). is_some (type_named all n)) s.args in
    let k = and_parts (is_some (type_named all s.ret)) each (not-false (is_some (type_named all s.ret) && each) h) in
    let ret = some_type (type_named all s.ret) k.0 in
    let args = types_are_named all s.args k.1 in
    (term_from w s args.0 ret.0, ap (option_and_then (λ (tys : List TypeId). option_map (term_from w s tys) (type_named all s.ret))) args.1 ∙ ap (option_map (term_from w s args.0)) ret.1)

terms_passes : (all : List Def) (sigs : List Signature) → AllByRecursion (NamesTypes all) sigs → (ts : List Term) × (terms_pass (whole_of all) sigs ≡ Some ts)
terms_passes all [] h = ([], refl)
terms_passes all (s ∷ sigs) h =
    let first = term_passes all s h.0 in
    let rest = terms_passes all sigs h.1 in
    (first.0 ∷ rest.0, before_both (term_pass (whole_of all) s) (terms_pass (whole_of all) sigs) first.0 rest.0 first.1 rest.1)

-- all terms are made
pub terms_made : (defs : List Def) → AreDeclaredWell defs → (ts : List Term) × (terms_pass (whole_of defs) (terms defs) ≡ Some ts)
terms_made defs d = terms_passes defs (terms defs) (terms_name defs defs (λ name h. declared_names_it defs name h) (all_unbroken defs d.types) (declarations_kept defs d).typed)

-- ---- declared terms

-- the declaration of a name, which is its term
pub record IsDeclaredTerm (defs : List Def) (name : List ℕ) : Type 0 where
  pub signature : Signature
  pub by_name : declared (whole_of defs) name ≡ Some signature
  pub there : termed (whole_of defs) name ≡ Some signature

pub declared_term : (defs : List Def) (name : List ℕ) → AreDeclaredWell defs → not (is_some (declared (whole_of defs) name)) ≡ false → IsDeclaredTerm defs name
declared_term defs name d h = by (declared (whole_of defs) name) refl h
  where
    apart : IsDistinct bytes_eq (terms_of (terms defs))
    apart =
        let kept = declarations_kept defs d in
        terms_apart defs (distinct_names (terms_of (signatures defs)) kept.apart) (made_apart defs d.types) (declared_unmade defs (signatures defs) kept.unmade)

    by : (o : Option Signature) → declared (whole_of defs) name ≡ o → not (is_some o) ≡ false → IsDeclaredTerm defs name
    by None is k = absurd cc
    by (Some s) is k =
        let alone = term_alone (terms defs) s apart (declared_there defs name s is) in
        record { signature = s; by_name = is; there = ap (termed (whole_of defs)) (sym (named_is (signatures defs) name s is)) ∙ alone }
