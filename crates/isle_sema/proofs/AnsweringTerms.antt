-- How often terms answer: a declared one is not both `multi` and `partial`, and a made one is neither.
use Rattle.std.proofs.Common.{◌≡◌, ℕ, ◌+◌, Bool, true, false, List, [], ◌∷◌, ◌++◌, Some, None, refl, sym, ap, ◌∙◌}
use Rattle.std.specs.Prelude.{◌&&◌, ◌||◌, is_some, slice_get}
use Rattle.std.specs.List.{AllByRecursion}
use Rattle.isle_core.specs.declared.TypeId.{TypeId}
use Rattle.isle_core.specs.declared.position.Pos.{Pos}
use Rattle.isle_core.specs.declared.types.Term.{Term}
use Rattle.isle_core.specs.Calling.{kind_by, kind_of, is_several, may_be_nothing}
use Rattle.isle_core.specs.Rule.{Environment}
use Rattle.isle_ast.specs.Tree as tree
use Rattle.isle_ast.specs.Tree.{Def}
use Rattle.isle_ast.specs.declared.tree.AstBody.{AstBody}
use Rattle.isle_ast.specs.declared.tree.AstBody.TheVariants.{Primitive, Enum, Struct}
use Rattle.isle_ast.specs.declared.tree.AstVariant.{AstVariant}
use Rattle.isle_declarations.specs.Heads.{terms_of}
use Rattle.isle_declarations.specs.Signatures.{Signature, signatures}
use Rattle.isle_declarations.specs.Symbols.{index_of}
use Rattle.isle_declarations.specs.Terms.{variant_signatures, body_signatures, terms, is_made}
use Rattle.isle_declarations.specs.declared.terms.Origin.{Origin}
use Rattle.isle_declarations.specs.declared.terms.Origin.TheVariants as origin
use Rattle.isle_terms.specs.TermPass.{kind_from, term_pass}
use Rattle.isle_terms.specs.Whole.{Whole, whole_of}
use Rattle.isle_terms.proofs.MadeTerms.{term_is, all_at}
use Rattle.isle_types.specs.declared.row.Row.{Row}
use Rattle.isle_sema.specs.Fault.{OfTerms, broken_in, fault_after}
use Rattle.isle_sema.proofs.Firsts.{later_none}
use Rattle.isle_sema.proofs.TermFaults.{names_no_type, is_made_twice, has_too_many, decl_kept}
use Rattle.isle_sema.proofs.TypedParts.{IsGivenIn}

-- ---- signatures

-- a signature is not both, and that of a made term is neither
pub record IsAnswering (s : Signature) : Type 0 where
  pub apart : s.multi && s.partial ≡ false
  pub made : is_made s.origin ≡ true → (s.multi ≡ false) × (s.partial ≡ false)

variants_answer : (ty : List ℕ) (pos : Pos) (i : ℕ) (vs : List AstVariant) (rest : List Signature) → AllByRecursion IsAnswering rest → AllByRecursion IsAnswering (variant_signatures ty pos i vs ++ rest)
variants_answer ty pos i [] rest h = h
variants_answer ty pos i (v ∷ vs) rest h = (record { apart = refl; made = λ e. (refl, refl) }, variants_answer ty pos (i + 1) vs rest h)

body_answers : (ty : List ℕ) (body : AstBody) (pos : Pos) (rest : List Signature) → AllByRecursion IsAnswering rest → AllByRecursion IsAnswering (body_signatures ty body pos ++ rest)
body_answers ty (Primitive rust) pos rest h = h
body_answers ty (Enum variants) pos rest h = variants_answer ty pos 0 variants rest h
body_answers ty (Struct fields) pos rest h = (record { apart = refl; made = λ e. (refl, refl) }, h)

-- so of all terms, if the rows of terms are kept
pub all_answer : (all before ds : List Def) → fault_after OfTerms (whole_of all) before ds ≡ None → AllByRecursion IsAnswering (terms ds)
all_answer all before [] h = tt
all_answer all before (tree.Decl term pure multi partial recursive args ret pos ∷ ds) h =
    let d = tree.Decl term pure multi partial recursive args ret pos in
    let s : Signature = record { term = term; pure = pure; multi = multi; partial = partial; recursive = recursive; args = args; ret = ret; pos = pos; origin = origin.Declared } in
    let l = later_none (λ (r : Row). (r, pos)) (broken_in OfTerms (record { whole = whole_of all; before = before }) d) (fault_after OfTerms (whole_of all) (before ++ d ∷ []) ds) h in
    let n = decl_kept (is_some (index_of (terms_of (signatures before)) term) || is_made_twice all s) (names_no_type all s) (has_too_many s) (multi && partial) l.0 in
    (record { apart = n.3; made = λ e. absurd cc }, all_answer all (before ++ d ∷ []) ds l.1)
all_answer all before (tree.TypeDecl name is_extern is_nodebug body pos ∷ ds) h =
    let d = tree.TypeDecl name is_extern is_nodebug body pos in
    body_answers name body pos (terms ds) (all_answer all (before ++ d ∷ []) ds h)
all_answer all before (tree.ExternConstructor term func pos ∷ ds) h =
    let d = tree.ExternConstructor term func pos in
    all_answer all (before ++ d ∷ []) ds (later_none (λ (r : Row). (r, pos)) (broken_in OfTerms (record { whole = whole_of all; before = before }) d) (fault_after OfTerms (whole_of all) (before ++ d ∷ []) ds) h).1
all_answer all before (tree.ExternExtractor term func infallible pos ∷ ds) h =
    let d = tree.ExternExtractor term func infallible pos in
    all_answer all (before ++ d ∷ []) ds (later_none (λ (r : Row). (r, pos)) (broken_in OfTerms (record { whole = whole_of all; before = before }) d) (fault_after OfTerms (whole_of all) (before ++ d ∷ []) ds) h).1
all_answer all before (tree.ExternConst name ty pos ∷ ds) h = all_answer all (before ++ tree.ExternConst name ty pos ∷ []) ds h
all_answer all before (tree.Extractor term params template pos ∷ ds) h =
    let d = tree.Extractor term params template pos in
    all_answer all (before ++ d ∷ []) ds (later_none (λ (r : Row). (r, pos)) (broken_in OfTerms (record { whole = whole_of all; before = before }) d) (fault_after OfTerms (whole_of all) (before ++ d ∷ []) ds) h).1
all_answer all before (tree.Converter from to term pos ∷ ds) h =
    let d = tree.Converter from to term pos in
    all_answer all (before ++ d ∷ []) ds (later_none (λ (r : Row). (r, pos)) (broken_in OfTerms (record { whole = whole_of all; before = before }) d) (fault_after OfTerms (whole_of all) (before ++ d ∷ []) ds) h).1
all_answer all before (tree.Rule name prio term args iflets rhs pos ∷ ds) h =
    let d = tree.Rule name prio term args iflets rhs pos in
    all_answer all (before ++ d ∷ []) ds (later_none (λ (r : Row). (r, pos)) (broken_in OfTerms (record { whole = whole_of all; before = before }) d) (fault_after OfTerms (whole_of all) (before ++ d ∷ []) ds) h).1
all_answer all before (tree.Passed head pos ∷ ds) h = all_answer all (before ++ tree.Passed head pos ∷ []) ds h

-- ---- terms

-- a term of this signature may answer nothing if that says `partial`, and answers several times if it says `multi`
pub record IsAnsweringTerm (s : Signature) (t : Term) : Type 0 where
  pub nothing : may_be_nothing (kind_of t.kind) ≡ s.partial
  pub several : is_several (kind_of t.kind) ≡ s.multi

by_flags : (multi partial : Bool) → multi && partial ≡ false → (may_be_nothing (kind_by multi partial) ≡ partial) × (is_several (kind_by multi partial) ≡ multi)
by_flags true true h = absurd cc
by_flags true false h = (refl, refl)
by_flags false true h = (refl, refl)
by_flags false false h = (refl, refl)

kind_answers : (w : Whole) (s : Signature) (ret : TypeId) (from : Origin) → s.origin ≡ from → IsAnswering s → (may_be_nothing (kind_of (kind_from w s ret from)) ≡ s.partial) × (is_several (kind_of (kind_from w s ret from)) ≡ s.multi)
kind_answers w s ret origin.Declared is h = by_flags s.multi s.partial h.apart
kind_answers w s ret (origin.Variant number) is h = let m = h.made (ap is_made is) in (sym m.1, sym m.0)
kind_answers w s ret origin.Struct is h = let m = h.made (ap is_made is) in (sym m.1, sym m.0)

-- so of the term of a declaration
pub term_answers : (defs : List Def) (env : Environment) (i : ℕ) (s : Signature) (t : Term) → IsGivenIn defs env → slice_get (terms defs) i ≡ Some s → term_pass (whole_of defs) s ≡ Some t → IsAnsweringTerm s t
term_answers defs env i s t g at made =
    let w = whole_of defs in
    let kind = ap (λ (u : Term). u.kind) (term_is w s t made).is in
    let k = kind_answers w s t.ret_ty s.origin refl (all_at IsAnswering (terms defs) i s (all_answer defs [] defs g.terms_kept) at) in
    record { nothing = ap (λ k. may_be_nothing (kind_of k)) (sym kind) ∙ k.0; several = ap (λ k. is_several (kind_of k)) (sym kind) ∙ k.1 }
