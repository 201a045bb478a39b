-- The types and constants that definitions declare, and the terms that types make.
use Rattle.std.specs.Prelude.{ℕ, List, [], ◌∷◌, ◌++◌, Option, Some, None, filter_map, flat_map, map}
use Rattle.isle_ast.specs.Tree.{Def, TypeDecl, Decl, ExternConstructor, ExternExtractor, ExternConst, Extractor, Converter, Rule, Passed}
use Rattle.isle_ast.specs.declared.tree.AstBody.{AstBody}
use Rattle.isle_ast.specs.declared.tree.AstBody.TheVariants.{Primitive, Enum, Struct}
use Rattle.isle_ast.specs.declared.tree.AstFields.{AstFields}
use Rattle.isle_ast.specs.declared.tree.AstFields.TheVariants.{Unit, Named, Tuple}
use Rattle.isle_ast.specs.declared.tree.AstVariant.{AstVariant}

-- a type's name, with what it is declared as
pub record DeclaredType : Type 0 where
  pub name : List ℕ
  pub body : AstBody

-- a constant's name, with that of its type
pub record Constant : Type 0 where
  pub name : List ℕ
  pub ty : List ℕ

-- the type that a definition declares
abbrev pub type_of : Def → Option DeclaredType
type_of (TypeDecl name is_extern is_nodebug body pos) = Some (record { name = name; body = body })
type_of (Decl term pure multi partial recursive args ret pos) = None
type_of (ExternConstructor term func pos) = None
type_of (ExternExtractor term func infallible pos) = None
type_of (ExternConst name ty pos) = None
type_of (Extractor term params template pos) = None
type_of (Converter from to term pos) = None
type_of (Rule name prio term args iflets rhs pos) = None
type_of (Passed head pos) = None

-- the constant that it declares
abbrev pub constant_of : Def → Option Constant
constant_of (ExternConst name ty pos) = Some (record { name = name; ty = ty })
constant_of (TypeDecl name is_extern is_nodebug body pos) = None
constant_of (Decl term pure multi partial recursive args ret pos) = None
constant_of (ExternConstructor term func pos) = None
constant_of (ExternExtractor term func infallible pos) = None
constant_of (Extractor term params template pos) = None
constant_of (Converter from to term pos) = None
constant_of (Rule name prio term args iflets rhs pos) = None
constant_of (Passed head pos) = None

-- the types, in order
abbrev pub types : List Def → List DeclaredType
types = filter_map type_of

-- the constants, in order
abbrev pub constants : List Def → List Constant
constants = filter_map constant_of

-- the names of the types of fields
abbrev pub field_types : AstFields → List (List ℕ)
field_types Unit = []
field_types (Named fields) = map (λ (f : List ℕ × List ℕ). f.1) fields
field_types (Tuple types) = types

-- the term that makes a variant of the enum of that name: `E.V`
abbrev pub variant_term : List ℕ → List ℕ → List ℕ
variant_term name variant = name ++ 46 ∷ variant

-- the terms that a type makes: one for each variant, or the struct's own
abbrev pub made_by : List ℕ → AstBody → List (List ℕ)
made_by name (Primitive rust) = []
made_by name (Enum variants) = map (λ (v : AstVariant). variant_term name v.name) variants
made_by name (Struct fields) = name ∷ []

-- the terms that a type makes, if there is one
abbrev pub made_or_none : Option DeclaredType → List (List ℕ)
made_or_none None = []
made_or_none (Some t) = made_by t.name t.body

-- the terms that a definition's type makes
abbrev pub made_of : Def → List (List ℕ)
made_of d = made_or_none (type_of d)

-- the terms that types make, in order
abbrev pub made_terms : List Def → List (List ℕ)
made_terms defs = flat_map made_of defs
