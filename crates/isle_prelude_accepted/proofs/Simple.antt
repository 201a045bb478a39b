-- Definitions of a simple kind of which nothing is wrong: types, declared terms that functions make and take apart, templates, and rules whose
-- patterns are variables. What is asked of one stands in the others, places left aside.
use Rattle.std.specs.Prelude.{◌≡◌, ◌⊎◌, ℕ, suc, ◌+◌, ◌≤◌, pos, List, [], ◌∷◌, ◌++◌, length, map, Bool, true, false, ◌&&◌, Option, Some, None, IsTrue, filter_map}
use Rattle.std.specs.List.{AllByRecursion}
use Rattle.isle_ast.specs.Tree as tree
use Rattle.isle_ast.specs.Tree.{Def, TypeDecl, Decl, ExternConstructor, ExternExtractor, ExternConst, Extractor, Converter, Rule, Passed, Pattern, Patterns}
use Rattle.isle_ast.specs.Tree.{NoPattern, APattern, Expr, Exprs, NoExpr, AnExpr}
use Rattle.isle_ast.specs.declared.tree.AstBody.{AstBody}
use Rattle.isle_ast.specs.declared.tree.AstBody.TheVariants.{Primitive, Enum, Struct}
use Rattle.isle_ast.specs.declared.tree.AstVariant.{AstVariant}
use Rattle.isle_declarations.specs.DeclaredTypes.{field_types, variant_term, made_terms}
use Rattle.isle_declarations.specs.Heads.{terms_of, extern_terms, extractor_terms, heads_of}
use Rattle.isle_declarations.specs.Signatures.{Extern, ExtractorDef, Extracting, ByFunction, ByTemplate, signatures, externs, extractors, rule_defs}
use Rattle.isle_lawful_names.specs.LawfulNames.{IsTypeName}
use Rattle.isle_lawful_names.specs.Words.{is_term_name}
use Rattle.isle_spelling.specs.Identifier.{IsIdentifier}
use Rattle.isle_terms.specs.NewVariables.{variables_in}
use Rattle.isle_types.specs.Bodies.{field_names, variant_names}
use Rattle.isle_types.specs.TypeNames.{type_names}
use Rattle.isle_writing.specs.Erased.{no_place}
use Rattle.isle_prelude_accepted.proofs.Has.{Has, AreApart}

-- ---- terms, by the names of the types of their arguments and of what they give

-- an enum's variant makes it
pub record IsVariantTerm (E : List Def) (name : List ℕ) (args : List (List ℕ)) (ret : List ℕ) : Type 0 where
  pub is_extern : Bool
  pub is_nodebug : Bool
  pub variants : List AstVariant
  pub variant : AstVariant
  pub declared : Has E (TypeDecl ret is_extern is_nodebug (Enum variants) no_place)
  pub among : Has variants variant
  pub named : variant_term ret variant.name ≡ name
  pub fields : field_types variant.fields ≡ args

-- a function takes its values apart
pub record IsTakenTerm (E : List Def) (name : List ℕ) (args : List (List ℕ)) (ret : List ℕ) : Type 0 where
  pub pure : Bool
  pub multi : Bool
  pub func : List ℕ
  pub infallible : Bool
  pub declared : Has E (Decl name pure multi false false args ret no_place)
  pub taken : Has E (ExternExtractor name func infallible no_place)

-- a function makes its values, and answers once
pub record IsMakingTerm (E : List Def) (name : List ℕ) (args : List (List ℕ)) (ret : List ℕ) : Type 0 where
  pub pure : Bool
  pub func : List ℕ
  pub declared : Has E (Decl name pure false false false args ret no_place)
  pub made : Has E (ExternConstructor name func no_place)

-- it may stand in a pattern
abbrev pub Opens : List Def → (name : List ℕ) (args : List (List ℕ)) (ret : List ℕ) → Type 0
Opens E name args ret = IsVariantTerm E name args ret ⊎ IsTakenTerm E name args ret

-- it may stand in an expression
abbrev pub Makes : List Def → (name : List ℕ) (args : List (List ℕ)) (ret : List ℕ) → Type 0
Makes E name args ret = IsVariantTerm E name args ret ⊎ IsMakingTerm E name args ret

-- ---- patterns and expressions

-- variables, each with the name of its type
abbrev pub Variables : Type 0
Variables = List (List ℕ × List ℕ)

-- a pattern of a type over these variables
abbrev mutual
  pub IsPatternOf : List Def → Variables → (ty : List ℕ) → Pattern → Type 0
  IsPatternOf E vars ty (tree.Var name) = Has vars (name, ty)
  IsPatternOf E vars ty tree.Wildcard = Unit {0}
  IsPatternOf E vars ty (tree.Term name ps) = (args : List (List ℕ)) × Opens E name args ty × ArePatternsOf E vars args ps
  IsPatternOf E vars ty (tree.Int n) = ⊥
  IsPatternOf E vars ty (tree.Truth b) = ⊥
  IsPatternOf E vars ty (tree.Const name) = ⊥
  IsPatternOf E vars ty (tree.Bind name p) = ⊥
  IsPatternOf E vars ty (tree.And ps) = ⊥

  -- as many patterns as types, each of its type
  pub ArePatternsOf : List Def → Variables → (tys : List (List ℕ)) → Patterns → Type 0
  ArePatternsOf E vars [] NoPattern = Unit {0}
  ArePatternsOf E vars (ty ∷ tys) (APattern p ps) = IsPatternOf E vars ty p × ArePatternsOf E vars tys ps
  ArePatternsOf E vars [] (APattern p ps) = ⊥
  ArePatternsOf E vars (ty ∷ tys) NoPattern = ⊥

-- an expression of a type over these variables
abbrev mutual
  pub IsExprOf : List Def → Variables → (ty : List ℕ) → Expr → Type 0
  IsExprOf E vars ty (tree.Name name) = Has vars (name, ty)
  IsExprOf E vars ty (tree.Call name es) = (args : List (List ℕ)) × Makes E name args ty × AreExprsOf E vars args es
  IsExprOf E vars ty (tree.Number n) = ⊥
  IsExprOf E vars ty (tree.Fact b) = ⊥
  IsExprOf E vars ty (tree.Constant name) = ⊥
  IsExprOf E vars ty (tree.Let ls e) = ⊥

  -- as many expressions as types, each of its type
  pub AreExprsOf : List Def → Variables → (tys : List (List ℕ)) → Exprs → Type 0
  AreExprsOf E vars [] NoExpr = Unit {0}
  AreExprsOf E vars (ty ∷ tys) (AnExpr e es) = IsExprOf E vars ty e × AreExprsOf E vars tys es
  AreExprsOf E vars [] (AnExpr e es) = ⊥
  AreExprsOf E vars (ty ∷ tys) NoExpr = ⊥

-- how many parts an expression of variables and calls has, itself among them
abbrev mutual
  pub expr_size : Expr → ℕ
  expr_size (tree.Name name) = 1
  expr_size (tree.Call name es) = suc (exprs_size es)
  expr_size (tree.Number n) = 1
  expr_size (tree.Fact b) = 1
  expr_size (tree.Constant name) = 1
  expr_size (tree.Let ls e) = 1

  pub exprs_size : Exprs → ℕ
  exprs_size NoExpr = 0
  exprs_size (AnExpr e es) = expr_size e + exprs_size es

-- names with the names of their types, as long as both lists go
abbrev pub with_types : (names types : List (List ℕ)) → Variables
with_types [] types = []
with_types (name ∷ names) [] = []
with_types (name ∷ names) (ty ∷ types) = (name, ty) ∷ with_types names types

-- ---- definitions

-- a variant of an enum: an identifier, fields of known types whose names are identifiers and apart, and few of them
pub record IsSoundVariant (E : List Def) (v : AstVariant) : Type 0 where
  pub named : IsIdentifier v.name
  pub fields : AllByRecursion IsIdentifier (field_names v.fields)
  pub apart : AreApart (field_names v.fields)
  pub known : AllByRecursion (Has (type_names E)) (field_types v.fields)
  pub few : length (field_types v.fields) ≤ 256

-- what a type of this name is declared as: itself, or an enum
abbrev pub IsSoundBody : List Def → (name : List ℕ) → AstBody → Type 0
IsSoundBody E name (Primitive rust) = rust ≡ name
IsSoundBody E name (Enum variants) = AllByRecursion (IsSoundVariant E) variants × AreApart (variant_names variants)
IsSoundBody E name (Struct fields) = ⊥

-- a declared term is named by letters, digits and `_`, its types are known, and it has few arguments
pub record IsSoundDecl (E : List Def) (term : List ℕ) (args : List (List ℕ)) (ret : List ℕ) : Type 0 where
  pub named : IsTrue (is_term_name term)
  pub known : AllByRecursion (Has (type_names E)) args
  pub gives : Has (type_names E) ret
  pub few : length args ≤ 256

-- an external extractor's term is declared, and is not `multi` if it is infallible
pub record IsSoundTaker (E : List Def) (term func : List ℕ) (infallible : Bool) : Type 0 where
  pub pure : Bool
  pub multi : Bool
  pub args : List (List ℕ)
  pub ret : List ℕ
  pub declared : Has E (Decl term pure multi false false args ret no_place)
  pub once : (infallible && multi) ≡ false
  pub named : IsIdentifier func

-- an external constructor's term is declared
pub record IsSoundMaker (E : List Def) (term func : List ℕ) : Type 0 where
  pub declared : Has (terms_of (signatures E)) term
  pub named : IsIdentifier func

-- a template's term is declared, with as many parameters; they are apart and all stand in the pattern, which is one of the term's type
pub record IsSoundTemplate (E : List Def) (term : List ℕ) (params : List (List ℕ)) (template : Pattern) : Type 0 where
  pub args : List (List ℕ)
  pub ret : List ℕ
  pub declared : Has E (Decl term false false false false args ret no_place)
  pub many : length params ≡ length args
  pub apart : AreApart params
  pub whole : IsPatternOf E (with_types params args) ret template
  pub used : AllByRecursion (Has (variables_in template)) params

-- a rule's term is declared, and no function makes it; its patterns are variables, which are apart, it has no conditions, and its right side is
-- of the term's type
pub record IsSoundRule (E : List Def) (term : List ℕ) (patterns : List Pattern) (rhs : Expr) : Type 0 where
  pub args : List (List ℕ)
  pub ret : List ℕ
  pub params : List (List ℕ)
  pub declared : Has E (Decl term false false false false args ret no_place)
  pub free : Has (extern_terms (externs E)) term → ⊥
  pub are_variables : patterns ≡ map (λ (name : List ℕ). tree.Var name) params
  pub many : length params ≡ length args
  pub apart : AreApart params
  pub whole : IsExprOf E (with_types params args) ret rhs
  pub few : length params + expr_size rhs ≤ 4096
  pub named : IsTrue (is_term_name term)

-- a definition among others
abbrev pub IsSound : List Def → Def → Type 0
IsSound E (TypeDecl name is_extern is_nodebug body at) = IsTypeName true name × IsSoundBody E name body
IsSound E (Decl term pure multi partial recursive args ret at) = (partial ≡ false) × IsSoundDecl E term args ret
IsSound E (ExternConstructor term func at) = IsSoundMaker E term func
IsSound E (ExternExtractor term func infallible at) = IsSoundTaker E term func infallible
IsSound E (ExternConst name ty at) = ⊥
IsSound E (Extractor term params template at) = IsSoundTemplate E term params template
IsSound E (Converter from to term at) = ⊥
IsSound E (Rule name prio term args iflets rhs at) = (prio ≡ pos 0) × (iflets ≡ []) × IsSoundRule E term args rhs
IsSound E (Passed head at) = Unit {0}

-- the function that takes values apart, if it is one
abbrev pub function_of : Extracting → Option (List ℕ)
function_of (ByFunction func infallible) = Some func
function_of (ByTemplate template) = None

-- the external functions of definitions: those that make values, and those that take them apart
abbrev pub functions : List Def → List (List ℕ)
functions E = map (λ (x : Extern). x.func) (externs E) ++ filter_map (λ (x : ExtractorDef). function_of x.by) (extractors E)

-- each definition is sound, and nothing is declared twice
pub record AreSimple (E : List Def) : Type 0 where
  pub sound : AllByRecursion (IsSound E) E
  pub types : AreApart (type_names E)
  pub made : AreApart (made_terms E)
  pub declared : AreApart (terms_of (signatures E))
  pub unmade : (name : List ℕ) → Has (made_terms E) name → Has (terms_of (signatures E)) name → ⊥
  pub externs_apart : AreApart (extern_terms (externs E))
  pub extractors_apart : AreApart (extractor_terms (extractors E))
  pub heads : AreApart (heads_of (rule_defs E))
  pub functions_apart : AreApart (functions E)
