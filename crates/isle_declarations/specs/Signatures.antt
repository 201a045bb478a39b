-- The declarations, external constructors, extractors, and rules among definitions.
use Rattle.std.specs.Prelude.{ℕ, ℤ, List, Bool, true, false, Option, Some, None, map, filter_map, option_map, find}
use Rattle.std.specs.List.{list_any}
use Rattle.std.specs.Str.{bytes_eq}
use Rattle.isle_core.specs.declared.position.Pos.{Pos}
use Rattle.isle_core.specs.declared.TermId.{TermId}
use Rattle.isle_ast.specs.Tree.{Pattern, Expr, IfLet, Def, TypeDecl, Decl, ExternConstructor, ExternExtractor, ExternConst, Extractor, Converter, Rule, Passed}
use Rattle.isle_declarations.specs.declared.terms.Origin.{Origin}
use Rattle.isle_declarations.specs.declared.terms.Origin.TheVariants as origin
use Rattle.isle_declarations.specs.Symbols.{index_of}

-- a term: declared, or made by a type
pub record Signature : Type 0 where
  pub term : List ℕ
  pub pure : Bool
  pub multi : Bool
  pub partial : Bool
  pub recursive : Bool
  pub args : List (List ℕ)
  pub ret : List ℕ
  pub pos : Pos
  pub origin : Origin

-- an external constructor
pub record Extern : Type 0 where
  pub term : List ℕ
  pub func : List ℕ

-- a template: its parameters, and the pattern that stands for a use of its term
pub record Template : Type 0 where
  pub params : List (List ℕ)
  pub pattern : Pattern

-- how an extractor takes values apart: by a function, which may be infallible, or by a template
pub data Extracting : Type 0 where
  ByFunction : (func : List ℕ) (infallible : Bool) → Extracting
  ByTemplate : (template : Template) → Extracting

-- an extractor, external or internal
pub record ExtractorDef : Type 0 where
  pub term : List ℕ
  pub by : Extracting
  pub pos : Pos

-- a rule
pub record RuleDef : Type 0 where
  pub name : Option (List ℕ)
  pub prio : ℤ
  pub term : List ℕ
  pub args : List Pattern
  pub iflets : List IfLet
  pub rhs : Expr
  pub pos : Pos

-- the declaration that a definition is
abbrev pub signature_of : Def → Option Signature
signature_of (Decl term pure multi partial recursive args ret pos) = Some (record { term = term; pure = pure; multi = multi; partial = partial; recursive = recursive; args = args; ret = ret; pos = pos; origin = origin.Declared })
signature_of (TypeDecl name is_extern is_nodebug body pos) = None
signature_of (ExternConstructor term func pos) = None
signature_of (ExternExtractor term func infallible pos) = None
signature_of (ExternConst name ty pos) = None
signature_of (Extractor term params template pos) = None
signature_of (Converter from to term pos) = None
signature_of (Rule name prio term args iflets rhs pos) = None
signature_of (Passed head pos) = None

-- the external constructor that a definition is
abbrev pub extern_of : Def → Option Extern
extern_of (ExternConstructor term func pos) = Some (record { term = term; func = func })
extern_of (TypeDecl name is_extern is_nodebug body pos) = None
extern_of (Decl term pure multi partial recursive args ret pos) = None
extern_of (ExternExtractor term func infallible pos) = None
extern_of (ExternConst name ty pos) = None
extern_of (Extractor term params template pos) = None
extern_of (Converter from to term pos) = None
extern_of (Rule name prio term args iflets rhs pos) = None
extern_of (Passed head pos) = None

-- the extractor that a definition is
abbrev pub extractor_of : Def → Option ExtractorDef
extractor_of (ExternExtractor term func infallible pos) = Some (record { term = term; by = ByFunction func infallible; pos = pos })
extractor_of (Extractor term params template pos) = Some (record { term = term; by = ByTemplate (record { params = params; pattern = template }); pos = pos })
extractor_of (TypeDecl name is_extern is_nodebug body pos) = None
extractor_of (Decl term pure multi partial recursive args ret pos) = None
extractor_of (ExternConstructor term func pos) = None
extractor_of (ExternConst name ty pos) = None
extractor_of (Converter from to term pos) = None
extractor_of (Rule name prio term args iflets rhs pos) = None
extractor_of (Passed head pos) = None

-- the rule that a definition is
abbrev pub rule_of : Def → Option RuleDef
rule_of (Rule name prio term args iflets rhs pos) = Some (record { name = name; prio = prio; term = term; args = args; iflets = iflets; rhs = rhs; pos = pos })
rule_of (TypeDecl name is_extern is_nodebug body pos) = None
rule_of (Decl term pure multi partial recursive args ret pos) = None
rule_of (ExternConstructor term func pos) = None
rule_of (ExternExtractor term func infallible pos) = None
rule_of (ExternConst name ty pos) = None
rule_of (Extractor term params template pos) = None
rule_of (Converter from to term pos) = None
rule_of (Passed head pos) = None

-- whether a definition is a declaration, an external constructor, an extractor, or a rule
abbrev pub is_collected : Def → Bool
is_collected (Decl term pure multi partial recursive args ret pos) = true
is_collected (ExternConstructor term func pos) = true
is_collected (Rule name prio term args iflets rhs pos) = true
is_collected (TypeDecl name is_extern is_nodebug body pos) = false
is_collected (ExternExtractor term func infallible pos) = true
is_collected (ExternConst name ty pos) = false
is_collected (Extractor term params template pos) = true
is_collected (Converter from to term pos) = false
is_collected (Passed head pos) = false

-- the declarations, in order
abbrev pub signatures : List Def → List Signature
signatures = filter_map signature_of

-- the external constructors, in order
abbrev pub externs : List Def → List Extern
externs = filter_map extern_of

-- the extractors, in order
abbrev pub extractors : List Def → List ExtractorDef
extractors = filter_map extractor_of

-- the rules, in order
abbrev pub rule_defs : List Def → List RuleDef
rule_defs = filter_map rule_of

-- the declaration of a name
abbrev pub signature_named : List Signature → List ℕ → Option Signature
signature_named sigs name = find (λ (s : Signature). bytes_eq s.term name) sigs

-- the term that a declaration names
abbrev pub term_named : List Signature → List ℕ → Option TermId
term_named sigs name = option_map (λ (n : ℕ). record { 0 = n }) (index_of (map (λ (s : Signature). s.term) sigs) name)

-- the first function of an external constructor for a term of the name
abbrev pub func_named : List Extern → List ℕ → Option (List ℕ)
func_named xs name = option_map (λ (x : Extern). x.func) (find (λ (x : Extern). bytes_eq x.term name) xs)

-- the first extractor of a term of the name
abbrev pub extractor_named : List ExtractorDef → List ℕ → Option ExtractorDef
extractor_named xs name = find (λ (x : ExtractorDef). bytes_eq x.term name) xs

-- whether a term of the name has a rule
abbrev pub has_rule : List RuleDef → List ℕ → Bool
has_rule rules name = list_any (λ (r : RuleDef). bytes_eq r.term name) rules
