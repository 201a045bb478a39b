-- The rows of declarations, external constructors, extractors, converters and heads, one definition each.
use Rattle.std.specs.Prelude.{ℕ, List, length, Bool, false, ◌==◌, ◌&&◌, ◌||◌, not, Option, Some, None, is_some, nat_le}
use Rattle.std.specs.List.{list_all}
use Rattle.isle_ast.specs.Tree.{Def, TypeDecl, Decl, ExternConstructor, ExternExtractor, ExternConst, Extractor, Converter, Rule, Passed}
use Rattle.isle_declarations.specs.Symbols.{index_of}
use Rattle.isle_declarations.specs.Signatures.{Signature, Extern, Extracting, ByFunction, ByTemplate, ExtractorDef, RuleDef, signature_of, extern_of, extractor_of, rule_of, signatures, externs, extractors, func_named}
use Rattle.isle_declarations.specs.DeclaredTypes.{made_terms}
use Rattle.isle_declarations.specs.Heads.{terms_of, extern_terms, extractor_terms}
use Rattle.isle_declarations.specs.Repeats.{repeats}
use Rattle.isle_terms.specs.Converters.{Conversion, converter_of, converters, is_misfit}
use Rattle.isle_terms.specs.TypeNames.{type_named}
use Rattle.isle_terms.specs.Whole.{Whole, declared}
use Rattle.isle_types.specs.TypeRows.{on}
use Rattle.isle_terms.specs.Context.{Context}

-- a declaration's name is that of an earlier declaration, or of a term that a type makes
abbrev pub declaration_repeats : Context → Def → Bool
declaration_repeats c d = on (signature_of d) (λ (s : Signature). is_some (index_of (terms_of (signatures c.before)) s.term) || is_some (index_of (made_terms c.whole.defs) s.term))

-- the type of its result or of an argument is not declared
abbrev pub type_missing : Context → Def → Bool
type_missing c d = on (signature_of d) (λ (s : Signature). not (is_some (type_named c.whole.defs s.ret) && list_all (λ (n : List ℕ). is_some (type_named c.whole.defs n)) s.args))

-- it has more than 256 arguments
abbrev pub many_arguments : Context → Def → Bool
many_arguments c d = on (signature_of d) (λ (s : Signature). not (nat_le (length s.args) 256))

-- it is `multi` and `partial`
abbrev pub multi_and_partial : Context → Def → Bool
multi_and_partial c d = on (signature_of d) (λ (s : Signature). s.multi && s.partial)

-- the term that an external constructor, an extractor of either kind, or a converter names
abbrev pub named_by : Def → Option (List ℕ)
named_by (TypeDecl name is_extern is_nodebug body pos) = None
named_by (Decl term pure multi partial recursive args ret pos) = None
named_by (ExternConstructor term func pos) = Some term
named_by (ExternExtractor term func infallible pos) = Some term
named_by (ExternConst name ty pos) = None
named_by (Extractor term params template pos) = Some term
named_by (Converter from to term pos) = Some term
named_by (Rule name prio term args iflets rhs pos) = None
named_by (Passed head pos) = None

-- it names a term that is not declared
abbrev pub term_undeclared : Context → Def → Bool
term_undeclared c d = on (named_by d) (λ (name : List ℕ). not (is_some (declared c.whole name)))

-- an external constructor's term has an earlier one, or an extractor's term has an earlier one of either kind
abbrev pub second_of_term : Context → Def → Bool
second_of_term c d = on (extern_of d) (λ (x : Extern). is_some (index_of (extern_terms (externs c.before)) x.term)) || on (extractor_of d) (λ (x : ExtractorDef). is_some (index_of (extractor_terms (extractors c.before)) x.term))

-- values are taken apart by an infallible function
abbrev pub is_infallible : Extracting → Bool
is_infallible (ByFunction func infallible) = infallible
is_infallible (ByTemplate t) = false

-- an external extractor is infallible, and its term is `multi`
abbrev pub infallible_multi : Context → Def → Bool
infallible_multi c d = on (extractor_of d) (λ (x : ExtractorDef). is_infallible x.by && on (declared c.whole x.term) (λ (s : Signature). s.multi))

-- a template has another number of parameters than the term has arguments, or one parameter twice; a term that is not declared has no number
abbrev pub parameters_unfit : Whole → (term : List ℕ) → Extracting → Bool
parameters_unfit w term (ByFunction func infallible) = false
parameters_unfit w term (ByTemplate t) = on (declared w term) (λ (s : Signature). not (length t.params == length s.args)) || repeats t.params

-- so of an extractor's template
abbrev pub template_misfit : Whole → ExtractorDef → Bool
template_misfit w x = parameters_unfit w x.term x.by

-- so of what is an extractor
abbrev pub parameters_misfit : Context → Def → Bool
parameters_misfit c d = on (extractor_of d) (template_misfit c.whole)

-- a type of a converter is not declared, its term does not fit it, or there is an earlier one between its types
abbrev pub converter_misfit : Context → Def → Bool
converter_misfit c d = on (converter_of d) (λ (x : Conversion). is_misfit c.whole.defs (converters c.before) x)

-- a rule's head is not declared, or its term has an external constructor
abbrev pub head_misfit : Context → Def → Bool
head_misfit c d = on (rule_of d) (λ (r : RuleDef). not (is_some (declared c.whole r.term)) || is_some (func_named (externs c.whole.defs) r.term))
