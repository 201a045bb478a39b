-- The types and constants of definitions, with the symbols.
use Rattle.std.specs.Prelude.{ℕ, List, ◌++◌, Bool, Option, Some, None, map, filter_map}
use Rattle.isle_core.specs.declared.Sym.{Sym}
use Rattle.isle_core.specs.declared.TypeId.{TypeId}
use Rattle.isle_core.specs.declared.position.Pos.{Pos}
use Rattle.isle_core.specs.declared.types.Field.{Field}
use Rattle.isle_core.specs.declared.types.Fields.{Fields}
use Rattle.isle_core.specs.declared.types.Fields.TheVariants as fields
use Rattle.isle_core.specs.declared.types.Variant.{Variant}
use Rattle.isle_core.specs.declared.types.TypeDef.{TypeDef}
use Rattle.isle_core.specs.declared.types.TypeDef.TheVariants as def
use Rattle.isle_core.specs.declared.types.TypeEnv.{TypeEnv}
use Rattle.isle_ast.specs.Tree.{Def, TypeDecl, Decl, ExternConstructor, ExternExtractor, ExternConst, Extractor, Converter, Rule, Passed}
use Rattle.isle_ast.specs.declared.tree.AstBody.{AstBody}
use Rattle.isle_ast.specs.declared.tree.AstBody.TheVariants.{Primitive, Enum, Struct}
use Rattle.isle_ast.specs.declared.tree.AstFields.{AstFields}
use Rattle.isle_ast.specs.declared.tree.AstFields.TheVariants.{Unit, Named, Tuple}
use Rattle.isle_ast.specs.declared.tree.AstVariant.{AstVariant}
use Rattle.isle_declarations.specs.DeclaredTypes.{Constant, constants}
use Rattle.isle_declarations.specs.Symbols.{index_of, number_or, symbols, sym_of}
use Rattle.isle_types.specs.Builtins.{builtins, type_id}
use Rattle.isle_types.specs.TypeNames.{type_names}

-- the symbol of a name
abbrev pub sym_in : List Def → List ℕ → Sym
sym_in defs name = sym_of (symbols defs) name

-- the type of a name
abbrev pub type_in : List Def → List ℕ → TypeId
type_in defs name = type_id (number_or (index_of (type_names defs) name))

-- a named field
abbrev pub field_in : List Def → List ℕ × List ℕ → Field
field_in defs f = record { name = sym_in defs f.0; ty = type_in defs f.1 }

-- the fields of a variant or a struct
abbrev pub fields_in : List Def → AstFields → Fields
fields_in defs Unit = fields.Unit
fields_in defs (Named named) = fields.Struct (map (field_in defs) named)
fields_in defs (Tuple types) = fields.Tuple (map (type_in defs) types)

-- a variant
abbrev pub variant_in : List Def → AstVariant → Variant
variant_in defs v = record { name = sym_in defs v.name; fields = fields_in defs v.fields }

-- the type of this name and body; marks say nothing of a primitive one
abbrev pub def_in : List Def → List ℕ → (is_extern is_nodebug : Bool) → AstBody → Pos → TypeDef
def_in defs name is_extern is_nodebug (Primitive rust) pos = def.Primitive (sym_in defs name) (sym_in defs rust) pos
def_in defs name is_extern is_nodebug (Enum variants) pos = def.Enum (sym_in defs name) is_extern is_nodebug (map (variant_in defs) variants) pos
def_in defs name is_extern is_nodebug (Struct fs) pos = def.Struct (sym_in defs name) is_extern is_nodebug (fields_in defs fs) pos

-- the type that a definition declares
abbrev pub type_def_in : List Def → Def → Option TypeDef
type_def_in defs (TypeDecl name is_extern is_nodebug body pos) = Some (def_in defs name is_extern is_nodebug body pos)
type_def_in defs (Decl term pure multi partial recursive args ret pos) = None
type_def_in defs (ExternConstructor term func pos) = None
type_def_in defs (ExternExtractor term func infallible pos) = None
type_def_in defs (ExternConst name ty pos) = None
type_def_in defs (Extractor term params template pos) = None
type_def_in defs (Converter from to term pos) = None
type_def_in defs (Rule name prio term args iflets rhs pos) = None
type_def_in defs (Passed head pos) = None

-- a constant, with its type
abbrev pub constant_in : List Def → Constant → Sym × TypeId
constant_in defs c = (sym_in defs c.name, type_in defs c.ty)

-- the symbols, types and constants of definitions: the builtin types, then those declared, in order
abbrev pub type_env_of : List Def → TypeEnv
type_env_of defs = record { syms = symbols defs; types = builtins ++ filter_map (type_def_in defs) defs; consts = map (constant_in defs) (constants defs) }
