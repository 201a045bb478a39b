-- The rows of declarations, external constructors, extractors, converters, and heads are kept if the code takes them.
use Rattle.std.proofs.Common.{◌≡◌, ℕ, Bool, true, false, cond, List, length, [], ◌∷◌, ◌++◌, Some, None, refl, sym, ap, ◌∙◌, subst}
use Rattle.std.specs.Prelude.{◌&&◌, ◌||◌, not, is_some, nat_le}
use Rattle.std.specs.List.{list_all, list_any, cons_option}
use Rattle.std.proofs.lemmas.List.{append-nil}
use Rattle.std.proofs.lemmas.List.Elements.{filter_map-append}
use Rattle.std.proofs.lemmas.Bool.{or_parts, or_from}
use Rattle.isle_ast.specs.Tree as tree
use Rattle.isle_ast.specs.Tree.{Def}
use Rattle.isle_declarations.specs.Symbols.{index_of}
use Rattle.isle_declarations.specs.declared.terms.Origin.TheVariants as origin
use Rattle.isle_declarations.specs.DeclaredTypes.{made_terms}
use Rattle.isle_terms.specs.TypeNames.{type_named}
use Rattle.isle_declarations.specs.Signatures.{Signature, Extern, ByTemplate, ExtractorDef, RuleDef, signature_of, extern_of, extractor_of, signatures, externs, extractors, rule_defs, signature_named, func_named}
use Rattle.isle_declarations.specs.Heads.{terms_of, extern_terms, extractor_terms}
use Rattle.isle_declarations.specs.Repeats.{repeats_after}
use Rattle.isle_terms.specs.Converters.{Conversion, converter_of, converters, is_misfit}
use Rattle.isle_terms.specs.DeclarationRows.{template_misfit}
use Rattle.isle_terms.specs.Tests.{has_undeclared, has_unknown, have_misfit}
use Rattle.isle_types.specs.declared.row.Row.TheVariants as row
use Rattle.isle_types.specs.declared.row.Row.{Row}
use Rattle.isle_types.proofs.BeforeLaws.{grown}
use Rattle.isle_sema.specs.Fault.{OfTerms, broken_in, fault_after}
use Rattle.isle_terms.specs.Whole.{whole_of}
use Rattle.isle_sema.proofs.Firsts.{first_none, later_none, unchanged}

-- ---- terms

-- a declaration names a type that is not declared
abbrev pub names_no_type : List Def → Signature → Bool
names_no_type all s = not (is_some (type_named all s.ret) && list_all (λ (n : List ℕ). is_some (type_named all n)) s.args)

-- its term is one that a type makes
abbrev pub is_made_twice : List Def → Signature → Bool
is_made_twice all s = is_some (index_of (made_terms all) s.term)

-- a declaration has more than 256 arguments
abbrev pub has_too_many : Signature → Bool
has_too_many s = not (nat_le (length s.args) 256)

-- a rule whose head is not declared, or has an external constructor
abbrev pub is_headless : List Def → RuleDef → Bool
is_headless all r = not (is_some (signature_named (signatures all) r.term)) || is_some (func_named (externs all) r.term)

-- each test of declarations, external constructors, extractors, and rules, which follow declarations, external constructors, and extractors of these terms
pub record AreTested (all : List Def) (names external extracting : List (List ℕ)) (sigs : List Signature) (xs : List Extern) (es : List ExtractorDef) (rules : List RuleDef) : Type 0 where
  pub apart : repeats_after names (terms_of sigs) ≡ false
  pub unmade : list_any (is_made_twice all) sigs ≡ false
  pub typed : list_any (names_no_type all) sigs ≡ false
  pub few : list_any has_too_many sigs ≡ false
  pub externs_apart : repeats_after external (extern_terms xs) ≡ false
  pub extractors_apart : repeats_after extracting (extractor_terms es) ≡ false
  pub known : has_undeclared (signatures all) xs ≡ false
  pub extracted : has_unknown (signatures all) es ≡ false
  pub fitted : list_any (template_misfit (whole_of all)) es ≡ false
  pub heads : list_any (is_headless all) rules ≡ false

-- each test of these definitions, which follow terms, external constructors, and extractors of these names
abbrev AreTestedIn : (all : List Def) (names external extracting : List (List ℕ)) (ds : List Def) → Type 0
AreTestedIn all names external extracting ds = AreTested all names external extracting (signatures ds) (externs ds) (extractors ds) (rule_defs ds)

-- each test of these definitions, which follow those
abbrev pub TermParts : (all before ds : List Def) → Type 0
TermParts all before ds = AreTested all (terms_of (signatures before)) (extern_terms (externs before)) (extractor_terms (extractors before)) (signatures ds) (externs ds) (extractors ds) (rule_defs ds)

-- the tests after other names that are the same
same_tests : {all : List Def} {names more external further extracting last : List (List ℕ)} {sigs : List Signature} {xs : List Extern} {es : List ExtractorDef} {rules : List RuleDef} → names ≡ more → external ≡ further → extracting ≡ last
    → AreTested all names external extracting sigs xs es rules → AreTested all more further last sigs xs es rules
same_tests {all = all} {names = names} {more = more} {external = external} {further = further} {extracting = extracting} {last = last} {sigs = sigs} {xs = xs} {es = es} {rules = rules} e f g h =
    subst (λ ns. AreTested all ns further last sigs xs es rules) e (subst (λ ns. AreTested all names ns last sigs xs es rules) f (subst (λ ns. AreTested all names external ns sigs xs es rules) g h))

-- the names of declarations are those before one that declares nothing
undeclared : (before : List Def) (d : Def) → signature_of d ≡ None → terms_of (signatures (before ++ d ∷ [])) ≡ terms_of (signatures before)
undeclared before d none = unchanged signature_of (λ (s : Signature). s.term) before d none

-- so are those of external constructors
not_external : (before : List Def) (d : Def) → extern_of d ≡ None → extern_terms (externs (before ++ d ∷ [])) ≡ extern_terms (externs before)
not_external before d none = unchanged extern_of (λ (x : Extern). x.term) before d none

-- and those of extractors
not_extracting : (before : List Def) (d : Def) → extractor_of d ≡ None → extractor_terms (extractors (before ++ d ∷ [])) ≡ extractor_terms (extractors before)
not_extracting before d none = unchanged extractor_of (λ (x : ExtractorDef). x.term) before d none

-- the tests after a definition of another kind are those in front of it
behind : (all before : List Def) (d : Def) (ds : List Def) → signature_of d ≡ None → extern_of d ≡ None → extractor_of d ≡ None → TermParts all (before ++ d ∷ []) ds → TermParts all before ds
behind all before d ds a b c h = same_tests (undeclared before d a) (not_external before d b) (not_extracting before d c) h

-- the tests of a declaration
pub decl_kept : (a b c d : Bool)
    → cond a (Some row.DeclarationRepeats) (cond b (Some row.TypeMissing) (cond c (Some row.ManyArguments) (cond d (Some row.MultiAndPartial) None))) ≡ None → (a ≡ false) × (b ≡ false) × (c ≡ false) × (d ≡ false)
decl_kept true b c d h = absurd cc
decl_kept false true c d h = absurd cc
decl_kept false false true d h = absurd cc
decl_kept false false false true h = absurd cc
decl_kept false false false false h = (refl, refl, refl, refl)

-- one that names a term, which is declared and has none of its kind before
named_kept : (a b c : Bool) → cond a (Some row.TermUndeclared) (cond (b || c) (Some row.SecondOfTerm) None) ≡ None → (a ≡ false) × (b ≡ false) × (c ≡ false)
named_kept true b c h = absurd cc
named_kept false true c h = absurd cc
named_kept false false true h = absurd cc
named_kept false false false h = (refl, refl, refl)

-- the tests of an external extractor
extern_kept : (a b c : Bool) → cond a (Some row.TermUndeclared) (cond (false || b) (Some row.SecondOfTerm) (cond c (Some row.InfallibleMulti) None)) ≡ None → (a ≡ false) × (b ≡ false)
extern_kept true b c h = absurd cc
extern_kept false true c h = absurd cc
extern_kept false false true h = absurd cc
extern_kept false false false h = (refl, refl)

-- an extractor with a template, whose parameters fit besides
templated_kept : (a b c : Bool) → cond a (Some row.TermUndeclared) (cond b (Some row.SecondOfTerm) (cond c (Some row.ParametersMisfit) None)) ≡ None → (a ≡ false) × (b ≡ false) × (c ≡ false)
templated_kept true b c h = absurd cc
templated_kept false true c h = absurd cc
templated_kept false false true h = absurd cc
templated_kept false false false h = (refl, refl, refl)

-- the rows of terms are kept: each test fails
pub terms_kept : (all before ds : List Def) → fault_after OfTerms (whole_of all) before ds ≡ None → TermParts all before ds
terms_kept all before [] h = record { apart = refl; unmade = refl; typed = refl; few = refl; externs_apart = refl; extractors_apart = refl; known = refl; extracted = refl; fitted = refl; heads = refl }
terms_kept all before (tree.Decl term pure multi partial recursive args ret pos ∷ ds) h =
    let d = tree.Decl term pure multi partial recursive args ret pos in
    let s : Signature = record { term = term; pure = pure; multi = multi; partial = partial; recursive = recursive; args = args; ret = ret; pos = pos; origin = origin.Declared } in
    let names = terms_of (signatures before) in
    let l = later_none (λ (r : Row). (r, pos)) (broken_in OfTerms (record { whole = whole_of all; before = before }) d) (fault_after OfTerms (whole_of all) (before ++ d ∷ []) ds) h in
    let n = decl_kept (is_some (index_of names term) || is_made_twice all s) (names_no_type all s) (has_too_many s) (multi && partial) l.0 in
    let k = or_parts (is_some (index_of names term)) (is_made_twice all s) n.0 in
    let rest : AreTestedIn all (names ++ term ∷ []) (extern_terms (externs before)) (extractor_terms (extractors before)) ds =
    same_tests (grown signature_of (λ (x : Signature). x.term) before d) (not_external before d refl) (not_extracting before d refl) (terms_kept all (before ++ d ∷ []) ds l.1) in
    record {
      apart = or_from (is_some (index_of names term)) (repeats_after (names ++ term ∷ []) (terms_of (signatures ds))) k.0 rest.apart;
      unmade = or_from (is_made_twice all s) (list_any (is_made_twice all) (signatures ds)) k.1 rest.unmade;
      typed = or_from (names_no_type all s) (list_any (names_no_type all) (signatures ds)) n.1 rest.typed;
      few = or_from (has_too_many s) (list_any has_too_many (signatures ds)) n.2 rest.few;
      externs_apart = rest.externs_apart;
      extractors_apart = rest.extractors_apart;
      known = rest.known;
      extracted = rest.extracted;
      fitted = rest.fitted;
      heads = rest.heads;
    }
terms_kept all before (tree.ExternConstructor term func pos ∷ ds) h =
    let d = tree.ExternConstructor term func pos in
    let external = extern_terms (externs before) in
    let l = later_none (λ (r : Row). (r, pos)) (broken_in OfTerms (record { whole = whole_of all; before = before }) d) (fault_after OfTerms (whole_of all) (before ++ d ∷ []) ds) h in
    let again = is_some (index_of external term) in
    let unknown = not (is_some (signature_named (signatures all) term)) in
    let k = named_kept unknown again false l.0 in
    let rest : AreTestedIn all (terms_of (signatures before)) (external ++ term ∷ []) (extractor_terms (extractors before)) ds =
    same_tests (undeclared before d refl) (grown extern_of (λ (x : Extern). x.term) before d) (not_extracting before d refl) (terms_kept all (before ++ d ∷ []) ds l.1) in
    record {
      apart = rest.apart;
      unmade = rest.unmade;
      typed = rest.typed;
      few = rest.few;
      externs_apart = or_from again (repeats_after (external ++ term ∷ []) (extern_terms (externs ds))) k.1 rest.externs_apart;
      extractors_apart = rest.extractors_apart;
      known = or_from unknown (has_undeclared (signatures all) (externs ds)) k.0 rest.known;
      extracted = rest.extracted;
      fitted = rest.fitted;
      heads = rest.heads;
    }
terms_kept all before (tree.ExternExtractor term func infallible pos ∷ ds) h =
    let d = tree.ExternExtractor term func infallible pos in
    let extracting = extractor_terms (extractors before) in
    let l = later_none (λ (r : Row). (r, pos)) (broken_in OfTerms (record { whole = whole_of all; before = before }) d) (fault_after OfTerms (whole_of all) (before ++ d ∷ []) ds) h in
    let again = is_some (index_of extracting term) in
    let unknown = not (is_some (signature_named (signatures all) term)) in
    let k = extern_kept unknown again _ l.0 in
    let rest : AreTestedIn all (terms_of (signatures before)) (extern_terms (externs before)) (extracting ++ term ∷ []) ds =
    same_tests (undeclared before d refl) (not_external before d refl) (grown extractor_of (λ (x : ExtractorDef). x.term) before d) (terms_kept all (before ++ d ∷ []) ds l.1) in
    record {
      apart = rest.apart;
      unmade = rest.unmade;
      typed = rest.typed;
      few = rest.few;
      externs_apart = rest.externs_apart;
      extractors_apart = or_from again (repeats_after (extracting ++ term ∷ []) (extractor_terms (extractors ds))) k.1 rest.extractors_apart;
      known = rest.known;
      extracted = or_from unknown (has_unknown (signatures all) (extractors ds)) k.0 rest.extracted;
      fitted = rest.fitted;
      heads = rest.heads;
    }
terms_kept all before (tree.Rule name prio term args iflets rhs pos ∷ ds) h =
    let d = tree.Rule name prio term args iflets rhs pos in
    let r : RuleDef = record { name = name; prio = prio; term = term; args = args; iflets = iflets; rhs = rhs; pos = pos } in
    let l = later_none (λ (r : Row). (r, pos)) (broken_in OfTerms (record { whole = whole_of all; before = before }) d) (fault_after OfTerms (whole_of all) (before ++ d ∷ []) ds) h in
    let k = first_none (is_headless all r) row.HeadMisfit None l.0 in
    let rest = behind all before d ds refl refl refl (terms_kept all (before ++ d ∷ []) ds l.1) in
    record {
      apart = rest.apart;
      unmade = rest.unmade;
      typed = rest.typed;
      few = rest.few;
      externs_apart = rest.externs_apart;
      extractors_apart = rest.extractors_apart;
      known = rest.known;
      extracted = rest.extracted;
      fitted = rest.fitted;
      heads = or_from (is_headless all r) (list_any (is_headless all) (rule_defs ds)) k.0 rest.heads;
    }
terms_kept all before (tree.TypeDecl name is_extern is_nodebug body pos ∷ ds) h =
    let d = tree.TypeDecl name is_extern is_nodebug body pos in
    behind all before d ds refl refl refl (terms_kept all (before ++ d ∷ []) ds h)
terms_kept all before (tree.ExternConst name ty pos ∷ ds) h =
    let d = tree.ExternConst name ty pos in
    behind all before d ds refl refl refl (terms_kept all (before ++ d ∷ []) ds h)
terms_kept all before (tree.Extractor term params template pos ∷ ds) h =
    let d = tree.Extractor term params template pos in
    let x : ExtractorDef = record { term = term; by = ByTemplate (record { params = params; pattern = template }); pos = pos } in
    let extracting = extractor_terms (extractors before) in
    let l = later_none (λ (r : Row). (r, pos)) (broken_in OfTerms (record { whole = whole_of all; before = before }) d) (fault_after OfTerms (whole_of all) (before ++ d ∷ []) ds) h in
    let again = is_some (index_of extracting term) in
    let unknown = not (is_some (signature_named (signatures all) term)) in
    let misfit = template_misfit (whole_of all) x in
    let k = templated_kept unknown again misfit l.0 in
    let rest : AreTestedIn all (terms_of (signatures before)) (extern_terms (externs before)) (extracting ++ term ∷ []) ds =
    same_tests (undeclared before d refl) (not_external before d refl) (grown extractor_of (λ (y : ExtractorDef). y.term) before d) (terms_kept all (before ++ d ∷ []) ds l.1) in
    record {
      apart = rest.apart;
      unmade = rest.unmade;
      typed = rest.typed;
      few = rest.few;
      externs_apart = rest.externs_apart;
      extractors_apart = or_from again (repeats_after (extracting ++ term ∷ []) (extractor_terms (extractors ds))) k.1 rest.extractors_apart;
      known = rest.known;
      extracted = or_from unknown (has_unknown (signatures all) (extractors ds)) k.0 rest.extracted;
      fitted = or_from misfit (list_any (template_misfit (whole_of all)) (extractors ds)) k.2 rest.fitted;
      heads = rest.heads;
    }
terms_kept all before (tree.Converter from to term pos ∷ ds) h =
    let d = tree.Converter from to term pos in
    let l = later_none (λ (r : Row). (r, pos)) (broken_in OfTerms (record { whole = whole_of all; before = before }) d) (fault_after OfTerms (whole_of all) (before ++ d ∷ []) ds) h in
    behind all before d ds refl refl refl (terms_kept all (before ++ d ∷ []) ds l.1)
terms_kept all before (tree.Passed head pos ∷ ds) h =
    let d = tree.Passed head pos in
    behind all before d ds refl refl refl (terms_kept all (before ++ d ∷ []) ds h)

-- ---- converters

-- the converters are those before a definition that is none
unconverted : (before : List Def) (d : Def) → converter_of d ≡ None → converters (before ++ d ∷ []) ≡ converters before
unconverted before d none = filter_map-append converter_of before (d ∷ []) ∙ ap (λ o. converters before ++ cons_option o []) none ∙ append-nil (converters before)

-- and one more after them
converted_more : (before : List Def) (d : Def) (c : Conversion) → converter_of d ≡ Some c → converters (before ++ d ∷ []) ≡ converters before ++ c ∷ []
converted_more before d c some = filter_map-append converter_of before (d ∷ []) ∙ ap (λ o. converters before ++ cons_option o []) some

-- a converter of a term that is declared, and that fits
converting_kept : (a b : Bool) → cond a (Some row.TermUndeclared) (cond b (Some row.ConverterMisfit) None) ≡ None → a || b ≡ false
converting_kept true b h = absurd cc
converting_kept false true h = absurd cc
converting_kept false false h = refl

-- the rows of terms are kept: no converter is wrong
pub converters_kept : (all before ds : List Def) → fault_after OfTerms (whole_of all) before ds ≡ None → have_misfit all (converters before) (converters ds) ≡ false
converters_kept all before [] h = refl
converters_kept all before (tree.Converter from to term pos ∷ ds) h =
    let d = tree.Converter from to term pos in
    let x : Conversion = record { from = from; to = to; term = term } in
    let unknown = not (is_some (signature_named (signatures all) term)) in
    let l = later_none (λ (r : Row). (r, pos)) (broken_in OfTerms (record { whole = whole_of all; before = before }) d) (fault_after OfTerms (whole_of all) (before ++ d ∷ []) ds) h in
    let own = converting_kept unknown (is_misfit all (converters before) x) l.0 in
    let rest = ap (λ cs. have_misfit all cs (converters ds)) (sym (converted_more before d x refl)) ∙ converters_kept all (before ++ d ∷ []) ds l.1 in
    or_from (unknown || is_misfit all (converters before) x) (have_misfit all (converters before ++ x ∷ []) (converters ds)) own rest
converters_kept all before (tree.Decl term pure multi partial recursive args ret pos ∷ ds) h =
    let d = tree.Decl term pure multi partial recursive args ret pos in
    let l = later_none (λ (r : Row). (r, pos)) (broken_in OfTerms (record { whole = whole_of all; before = before }) d) (fault_after OfTerms (whole_of all) (before ++ d ∷ []) ds) h in
    ap (λ cs. have_misfit all cs (converters ds)) (sym (unconverted before d refl)) ∙ converters_kept all (before ++ d ∷ []) ds l.1
converters_kept all before (tree.ExternConstructor term func pos ∷ ds) h =
    let d = tree.ExternConstructor term func pos in
    let l = later_none (λ (r : Row). (r, pos)) (broken_in OfTerms (record { whole = whole_of all; before = before }) d) (fault_after OfTerms (whole_of all) (before ++ d ∷ []) ds) h in
    ap (λ cs. have_misfit all cs (converters ds)) (sym (unconverted before d refl)) ∙ converters_kept all (before ++ d ∷ []) ds l.1
converters_kept all before (tree.ExternExtractor term func infallible pos ∷ ds) h =
    let d = tree.ExternExtractor term func infallible pos in
    let l = later_none (λ (r : Row). (r, pos)) (broken_in OfTerms (record { whole = whole_of all; before = before }) d) (fault_after OfTerms (whole_of all) (before ++ d ∷ []) ds) h in
    ap (λ cs. have_misfit all cs (converters ds)) (sym (unconverted before d refl)) ∙ converters_kept all (before ++ d ∷ []) ds l.1
converters_kept all before (tree.Rule name prio term args iflets rhs pos ∷ ds) h =
    let d = tree.Rule name prio term args iflets rhs pos in
    let l = later_none (λ (r : Row). (r, pos)) (broken_in OfTerms (record { whole = whole_of all; before = before }) d) (fault_after OfTerms (whole_of all) (before ++ d ∷ []) ds) h in
    ap (λ cs. have_misfit all cs (converters ds)) (sym (unconverted before d refl)) ∙ converters_kept all (before ++ d ∷ []) ds l.1
converters_kept all before (tree.TypeDecl name is_extern is_nodebug body pos ∷ ds) h =
    let d = tree.TypeDecl name is_extern is_nodebug body pos in
    ap (λ cs. have_misfit all cs (converters ds)) (sym (unconverted before d refl)) ∙ converters_kept all (before ++ d ∷ []) ds h
converters_kept all before (tree.ExternConst name ty pos ∷ ds) h =
    let d = tree.ExternConst name ty pos in
    ap (λ cs. have_misfit all cs (converters ds)) (sym (unconverted before d refl)) ∙ converters_kept all (before ++ d ∷ []) ds h
converters_kept all before (tree.Extractor term params template pos ∷ ds) h =
    let d = tree.Extractor term params template pos in
    let l = later_none (λ (r : Row). (r, pos)) (broken_in OfTerms (record { whole = whole_of all; before = before }) d) (fault_after OfTerms (whole_of all) (before ++ d ∷ []) ds) h in
    ap (λ cs. have_misfit all cs (converters ds)) (sym (unconverted before d refl)) ∙ converters_kept all (before ++ d ∷ []) ds l.1
converters_kept all before (tree.Passed head pos ∷ ds) h =
    let d = tree.Passed head pos in
    ap (λ cs. have_misfit all cs (converters ds)) (sym (unconverted before d refl)) ∙ converters_kept all (before ++ d ∷ []) ds h

-- ---- the rows
