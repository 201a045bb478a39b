-- Definitions without a fault give each type, each made term and each term a name of its own.
use Rattle.std.proofs.Common.{◌≡◌, ℕ, zero, suc, ◌+◌, Bool, true, false, cond, List, [], ◌∷◌, ◌++◌, map, Option, Some, None, refl, sym, ap, ◌∙◌, subst, arith}
use Rattle.std.specs.Prelude.{is_some, option_map, slice_get}
use Rattle.std.specs.List.{AllByRecursion, IsDistinct, cons_option, list_any}
use Rattle.std.specs.Str.{bytes_eq}
use Rattle.std.specs.Cmp.Lexicographic.{nat_list_eq_equiv}
use Rattle.std.proofs.lemmas.Bool.{or_parts, or_from}
use Rattle.std.proofs.lemmas.List.{append-nil, append_assoc}
use Rattle.std.proofs.lemmas.Slice.Eq.{bytes_eq-Decides}
use Rattle.isle_core.specs.declared.position.Pos.{Pos}
use Rattle.isle_core.proofs.AllLaws.{all_append}
use Rattle.isle_ast.specs.Tree as tree
use Rattle.isle_ast.specs.Tree.{Def}
use Rattle.isle_ast.specs.Positions.{place_of}
use Rattle.isle_ast.specs.declared.tree.AstBody.{AstBody}
use Rattle.isle_ast.specs.declared.tree.AstBody.TheVariants.{Primitive, Enum, Struct}
use Rattle.isle_ast.specs.declared.tree.AstVariant.{AstVariant}
use Rattle.isle_declarations.specs.DeclaredTypes.{DeclaredType, type_of, types, variant_term, made_by, made_or_none, made_terms}
use Rattle.isle_declarations.specs.Heads.{terms_of}
use Rattle.isle_declarations.specs.Repeats.{repeats_after}
use Rattle.isle_declarations.specs.Signatures.{Signature, signatures}
use Rattle.isle_declarations.specs.Symbols.{index_of}
use Rattle.isle_declarations.specs.Terms.{variant_signatures, body_signatures, terms}
use Rattle.isle_declarations.proofs.DistinctNames.{distinct_names}
use Rattle.isle_declarations.proofs.SymbolLaws.{none_of}
use Rattle.isle_types.specs.declared.row.Row.{Row}
use Rattle.isle_types.specs.declared.row.Row.TheVariants as row
use Rattle.isle_types.specs.Builtins.{builtin_names}
use Rattle.isle_types.specs.Fault.{fault_after, type_row, type_fault}
use Rattle.isle_types.specs.TypeNames.{declared_names, type_names}
use Rattle.isle_types.specs.TypeRows.{on, type_repeats, field_repeats, field_type_missing, many_fields, made_term_repeats, constant_misfit}
use Rattle.isle_types.proofs.BeforeLaws.{grown, made_more}
use Rattle.isle_types.proofs.SymbolsApart.{nowhere, all_first, all_last}
use Rattle.isle_sema.proofs.Firsts.{later_none}
use Rattle.isle_terms.proofs.MadeTerms.{all_at}
use Rattle.isle_sema.proofs.TermFaults.{is_made_twice}

-- ---- names of types, and of made terms

-- names don't repeat if neither the first of them do, nor those after them
none_repeats : (before xs ys : List (List ℕ)) → repeats_after before xs ≡ false → repeats_after (before ++ xs) ys ≡ false → repeats_after before (xs ++ ys) ≡ false
none_repeats before [] ys h k = ap (λ ns. repeats_after ns ys) (sym (append-nil before)) ∙ k
none_repeats before (x ∷ xs) ys h k =
    let p = or_parts (is_some (index_of before x)) (repeats_after (before ++ x ∷ []) xs) h in
    or_from (is_some (index_of before x)) (repeats_after (before ++ x ∷ []) (xs ++ ys)) p.0
    (none_repeats (before ++ x ∷ []) xs ys p.1 (ap (λ ns. repeats_after ns ys) (append_assoc before (x ∷ []) xs) ∙ k))

-- the rows that are used, of all six
no_rows : (a b c d e f : Bool)
    → cond a (Some row.TypeRepeats) (cond b (Some row.FieldRepeats) (cond c (Some row.FieldTypeMissing) (cond d (Some row.ManyFields) (cond e (Some row.MadeTermRepeats) (cond f (Some row.ConstantMisfit) None))))) ≡ None
    → (a ≡ false) × (e ≡ false)
no_rows true b c d e f h = absurd cc
no_rows false true c d e f h = absurd cc
no_rows false false true d e f h = absurd cc
no_rows false false false true e f h = absurd cc
no_rows false false false false true f h = absurd cc
no_rows false false false false false f h = (refl, refl)

-- the names of types, with one definition more
types_more : (ds : List Def) (d : Def) → type_names (ds ++ d ∷ []) ≡ type_names ds ++ map (λ (t : DeclaredType). t.name) (cons_option (type_of d) [])
types_more ds d = ap (λ ns. builtin_names ++ ns) (grown type_of (λ (t : DeclaredType). t.name) ds d) ∙ sym (append_assoc builtin_names (declared_names ds) (map (λ (t : DeclaredType). t.name) (cons_option (type_of d) [])))

-- the name of a type that is new stands in front of others
type_new : (o : Option DeclaredType) (names : List (List ℕ)) (rest : List DeclaredType) → on o (λ (t : DeclaredType). is_some (index_of names t.name)) ≡ false
    → repeats_after (names ++ map (λ (t : DeclaredType). t.name) (cons_option o [])) (map (λ (t : DeclaredType). t.name) rest) ≡ false → repeats_after names (map (λ (t : DeclaredType). t.name) (cons_option o rest)) ≡ false
type_new None names rest h k = ap (λ ns. repeats_after ns (map (λ (t : DeclaredType). t.name) rest)) (sym (append-nil names)) ∙ k
type_new (Some t) names rest h k = or_from (is_some (index_of names t.name)) (repeats_after (names ++ t.name ∷ []) (map (λ (t : DeclaredType). t.name) rest)) h k

-- so do the terms that it makes
made_new : (o : Option DeclaredType) (names rest : List (List ℕ)) → on o (λ (t : DeclaredType). repeats_after names (made_by t.name t.body)) ≡ false → repeats_after (names ++ made_or_none o) rest ≡ false → repeats_after names (made_or_none o ++ rest) ≡ false
made_new None names rest h k = ap (λ ns. repeats_after ns rest) (sym (append-nil names)) ∙ k
made_new (Some t) names rest h k = none_repeats names (made_by t.name t.body) rest h k

-- the names of types and of made terms don't repeat, nor are they among those before
record AreNew (before ds : List Def) : Type 0 where
  of_types : repeats_after (type_names before) (declared_names ds) ≡ false
  of_made : repeats_after (made_terms before) (made_terms ds) ≡ false

all_new : (all before ds : List Def) → fault_after (type_row all) before ds ≡ None → AreNew before ds
all_new all before [] h = record { of_types = refl; of_made = refl }
all_new all before (d ∷ ds) h =
    let l = later_none (λ (r : Row). (r, place_of d)) (type_row all before d) (fault_after (type_row all) (before ++ d ∷ []) ds) h in
    let k = no_rows (type_repeats before d) (field_repeats d) (field_type_missing all d) (many_fields d) (made_term_repeats before d) (constant_misfit all before d) l.0 in
    let rest = all_new all (before ++ d ∷ []) ds l.1 in
    record {
      of_types = type_new (type_of d) (type_names before) (types ds) k.0 (ap (λ ns. repeats_after ns (declared_names ds)) (sym (types_more before d)) ∙ rest.of_types);
      of_made = made_new (type_of d) (made_terms before) (made_terms ds) k.1 (ap (λ ns. repeats_after ns (made_terms ds)) (sym (made_more before d)) ∙ rest.of_made);
    }

-- no two types have one name
pub types_apart : (defs : List Def) → type_fault defs ≡ None → IsDistinct bytes_eq (type_names defs)
types_apart defs h = distinct_names (type_names defs) (none_repeats [] builtin_names (declared_names defs) refl (all_new defs [] defs h).of_types)

-- nor have two made terms
pub made_apart : (defs : List Def) → type_fault defs ≡ None → IsDistinct bytes_eq (made_terms defs)
made_apart defs h = distinct_names (made_terms defs) (all_new defs [] defs h).of_made

-- ---- the place of a name

first_at : (first name : List ℕ) (names : List (List ℕ)) → first ≡ name → index_of (first ∷ names) name ≡ Some 0
first_at first name names same = ap (λ (b : Bool). cond b (Some 0) (option_map (λ (n : ℕ). n + 1) (index_of names name))) ((bytes_eq-Decides first name).1 same)

later_at : (first name : List ℕ) (names : List (List ℕ)) (n : ℕ) → bytes_eq first name ≡ false → index_of names name ≡ Some n → index_of (first ∷ names) name ≡ Some (suc n)
later_at first name names n other at =
    ap (λ (b : Bool). cond b (Some 0) (option_map (λ (k : ℕ). k + 1) (index_of names name))) other ∙ ap (option_map (λ (k : ℕ). k + 1)) at ∙ ap Some {y = suc n} (omega arith)

-- among distinct names a name's first place is the one where it stands
pub place_is : (names : List (List ℕ)) (i : ℕ) (name : List ℕ) → IsDistinct bytes_eq names → slice_get names i ≡ Some name → index_of names name ≡ Some i
unfolding IsDistinct
place_is [] zero name d at = absurd cc
place_is [] (suc i) name d at = absurd cc
place_is (x ∷ names) zero name d at = first_at x name names cc
place_is (x ∷ names) (suc i) name d at = later_at x name names i (all_at (λ (y : List ℕ). bytes_eq x y ≡ false) names i name d.0 at) (place_is names i name d.1 at)

-- ---- distinct lists

-- each of these is another name
abbrev AreOther : List ℕ → List (List ℕ) → Type 0
AreOther first names = AllByRecursion (λ (name : List ℕ). bytes_eq first name ≡ false) names

-- what follows of each follows of all
pub all_to : {X : Type 0} (P Q : X → Type 0) (xs : List X) → ((x : X) → P x → Q x) → AllByRecursion P xs → AllByRecursion Q xs
all_to P Q [] to h = tt
all_to P Q (x ∷ xs) to h = (to x h.0, all_to P Q xs to h.1)

-- what distinct names are in two parts
record AreApart (xs ys : List (List ℕ)) : Type 0 where
  first : IsDistinct bytes_eq xs
  last : IsDistinct bytes_eq ys
  apart : AllByRecursion (λ (x : List ℕ). AreOther x ys) xs

in_parts : (xs ys : List (List ℕ)) → IsDistinct bytes_eq (xs ++ ys) → AreApart xs ys
unfolding IsDistinct
in_parts [] ys h = record { first = tt; last = h; apart = tt }
in_parts (x ∷ xs) ys h =
    let rest = in_parts xs ys h.1 in
    let other : List ℕ → Type 0 = λ y. bytes_eq x y ≡ false in
    record { first = (all_first other xs ys h.0, rest.first); last = rest.last; apart = (all_last other xs ys h.0, rest.apart) }

joined : (xs ys : List (List ℕ)) → AreApart xs ys → IsDistinct bytes_eq (xs ++ ys)
unfolding IsDistinct
joined [] ys h = h.last
joined (x ∷ xs) ys h = (all_append (λ (y : List ℕ). bytes_eq x y ≡ false) xs ys h.first.0 h.apart.0, joined xs ys (record { first = h.first.1; last = h.last; apart = h.apart.1 }))

-- ---- names of terms

variants_named : (ty : List ℕ) (pos : Pos) (i : ℕ) (vs : List AstVariant) (rest : List Signature) → terms_of (variant_signatures ty pos i vs ++ rest) ≡ map (λ (v : AstVariant). variant_term ty v.name) vs ++ terms_of rest
variants_named ty pos i [] rest = refl
variants_named ty pos i (v ∷ vs) rest = ap (λ ns. variant_term ty v.name ∷ ns) (variants_named ty pos (i + 1) vs rest)

-- the names of the terms that a type makes
body_named : (ty : List ℕ) (body : AstBody) (pos : Pos) (rest : List Signature) → terms_of (body_signatures ty body pos ++ rest) ≡ made_by ty body ++ terms_of rest
body_named ty (Primitive rust) pos rest = refl
body_named ty (Enum variants) pos rest = variants_named ty pos 0 variants rest
body_named ty (Struct fields) pos rest = refl

-- a name is another than those of terms if it is another than those that are declared and those that types make
others_of : (name : List ℕ) (ds : List Def) → AreOther name (terms_of (signatures ds)) → AreOther name (made_terms ds) → AreOther name (terms_of (terms ds))
others_of name [] h k = tt
others_of name (tree.Decl term pure multi partial recursive args ret pos ∷ ds) h k = (h.0, others_of name ds h.1 k)
others_of name (tree.TypeDecl ty is_extern is_nodebug body pos ∷ ds) h k =
    let other : List ℕ → Type 0 = λ y. bytes_eq name y ≡ false in
    subst (AreOther name) (sym (body_named ty body pos (terms ds)))
    (all_append other (made_by ty body) (terms_of (terms ds)) (all_first other (made_by ty body) (made_terms ds) k) (others_of name ds h (all_last other (made_by ty body) (made_terms ds) k)))
others_of name (tree.ExternConstructor term func pos ∷ ds) h k = others_of name ds h k
others_of name (tree.ExternExtractor term func infallible pos ∷ ds) h k = others_of name ds h k
others_of name (tree.ExternConst own ty pos ∷ ds) h k = others_of name ds h k
others_of name (tree.Extractor term params template pos ∷ ds) h k = others_of name ds h k
others_of name (tree.Converter from to term pos ∷ ds) h k = others_of name ds h k
others_of name (tree.Rule own prio term args iflets rhs pos ∷ ds) h k = others_of name ds h k
others_of name (tree.Passed head pos ∷ ds) h k = others_of name ds h k

-- each declared name is another than these
abbrev AreUnmade : List (List ℕ) → List Signature → Type 0
AreUnmade names sigs = AllByRecursion (λ (s : Signature). AreOther s.term names) sigs

-- so each of these is another than the declared ones
turned : (xs : List (List ℕ)) (sigs : List Signature) → AreUnmade xs sigs → AllByRecursion (λ (x : List ℕ). AreOther x (terms_of sigs)) xs
turned [] sigs h = tt
turned (x ∷ xs) sigs h = (first sigs h, turned xs sigs (all_to (λ (s : Signature). AreOther s.term (x ∷ xs)) (λ (s : Signature). AreOther s.term xs) sigs (λ s k. k.1) h))
  where
    first : (more : List Signature) → AreUnmade (x ∷ xs) more → AreOther x (terms_of more)
    first [] k = tt
    first (s ∷ more) k = (nat_list_eq_equiv.symm x s.term ∙ k.0.0, first more k.1)

-- names that are other than those of declared terms and than those of made terms are other than those of all
all_others : (xs : List (List ℕ)) (ds : List Def) → AllByRecursion (λ (x : List ℕ). AreOther x (terms_of (signatures ds))) xs → AllByRecursion (λ (x : List ℕ). AreOther x (made_terms ds)) xs → AllByRecursion (λ (x : List ℕ). AreOther x (terms_of (terms ds))) xs
all_others [] ds h k = tt
all_others (x ∷ xs) ds h k = (others_of x ds h.0 k.0, all_others xs ds h.1 k.1)

-- no two terms have one name if no two that are declared have, nor two that types make, nor one of either kind
pub terms_apart : (ds : List Def) → IsDistinct bytes_eq (terms_of (signatures ds)) → IsDistinct bytes_eq (made_terms ds) → AllByRecursion (λ (s : Signature). AllByRecursion (λ (name : List ℕ). bytes_eq s.term name ≡ false) (made_terms ds)) (signatures ds)
    → IsDistinct bytes_eq (terms_of (terms ds))
unfolding IsDistinct
terms_apart [] h k o = tt
terms_apart (tree.Decl term pure multi partial recursive args ret pos ∷ ds) h k o = (others_of term ds h.0 o.0, terms_apart ds h.1 k o.1)
terms_apart (tree.TypeDecl name is_extern is_nodebug body pos ∷ ds) h k o =
    let made = made_by name body in
    let p = in_parts made (made_terms ds) k in
    let behind = all_to (λ (s : Signature). AreOther s.term (made ++ made_terms ds)) (λ (s : Signature). AreOther s.term (made_terms ds)) (signatures ds) (λ s other. all_last (λ (y : List ℕ). bytes_eq s.term y ≡ false) made (made_terms ds) other) o in
    let ahead = all_to (λ (s : Signature). AreOther s.term (made ++ made_terms ds)) (λ (s : Signature). AreOther s.term made) (signatures ds) (λ s other. all_first (λ (y : List ℕ). bytes_eq s.term y ≡ false) made (made_terms ds) other) o in
    subst (IsDistinct bytes_eq) (sym (body_named name body pos (terms ds)))
    (joined made (terms_of (terms ds)) (record { first = p.first; last = terms_apart ds h p.last behind; apart = all_others made ds (turned made (signatures ds) ahead) p.apart }))
terms_apart (tree.ExternConstructor term func pos ∷ ds) h k o = terms_apart ds h k o
terms_apart (tree.ExternExtractor term func infallible pos ∷ ds) h k o = terms_apart ds h k o
terms_apart (tree.ExternConst name ty pos ∷ ds) h k o = terms_apart ds h k o
terms_apart (tree.Extractor term params template pos ∷ ds) h k o = terms_apart ds h k o
terms_apart (tree.Converter from to term pos ∷ ds) h k o = terms_apart ds h k o
terms_apart (tree.Rule name prio term args iflets rhs pos ∷ ds) h k o = terms_apart ds h k o
terms_apart (tree.Passed head pos ∷ ds) h k o = terms_apart ds h k o

-- ---- no declared term is made

-- a name that stands nowhere is another than each
absent : (names : List (List ℕ)) (name : List ℕ) → index_of names name ≡ None → AreOther name names
absent [] name h = tt
absent (x ∷ names) name h =
    let k = nowhere (bytes_eq x name) (index_of names name) h in
    (nat_list_eq_equiv.symm name x ∙ k.0, absent names name k.1)

-- the declared terms are other than those that types make
pub declared_unmade : (all : List Def) (sigs : List Signature) → list_any (is_made_twice all) sigs ≡ false → AllByRecursion (λ (s : Signature). AllByRecursion (λ (name : List ℕ). bytes_eq s.term name ≡ false) (made_terms all)) sigs
declared_unmade all [] h = tt
declared_unmade all (s ∷ sigs) h =
    let p = or_parts (is_made_twice all s) (list_any (is_made_twice all) sigs) h in
    (absent (made_terms all) s.term (none_of (index_of (made_terms all) s.term) p.0), declared_unmade all sigs p.1)
