-- The definitions that files of instructions are made of, without their places.
use Rattle.std.specs.Prelude.{ℕ, List, true, false}
use Rattle.isle_ast.specs.Tree.{Def}
use Rattle.isle_ast.specs.Tree as tree
use Rattle.isle_ast.specs.declared.tree.AstBody.TheVariants as body
use Rattle.isle_ast.specs.declared.tree.AstFields.TheVariants as fields
use Rattle.isle_ast.specs.declared.tree.AstVariant.{AstVariant}
use Rattle.isle_writing.specs.Erased.{no_place}

-- ( type N ( primitive N ) )
abbrev pub primitive : List ℕ → Def
primitive name = tree.TypeDecl name false false (body.Primitive name) no_place

-- a variant without fields
abbrev pub bare : List ℕ → AstVariant
bare name = record { name = name; fields = fields.Unit }

-- a variant with named fields
abbrev pub with_fields : List ℕ → List (List ℕ × List ℕ) → AstVariant
with_fields name named = record { name = name; fields = fields.Named named }

-- ( type N extern ( enum variant* ) )
abbrev pub extern_enum : List ℕ → List AstVariant → Def
extern_enum name variants = tree.TypeDecl name true false (body.Enum variants) no_place

-- ( decl N ( T* ) T )
abbrev pub plain_decl : (term : List ℕ) (args : List (List ℕ)) (ret : List ℕ) → Def
plain_decl term args ret = tree.Decl term false false false false args ret no_place

-- ( decl pure N ( T* ) T )
abbrev pub pure_decl : (term : List ℕ) (args : List (List ℕ)) (ret : List ℕ) → Def
pure_decl term args ret = tree.Decl term true false false false args ret no_place

-- ( decl pure multi N ( T* ) T )
abbrev pub pure_multi_decl : (term : List ℕ) (args : List (List ℕ)) (ret : List ℕ) → Def
pure_multi_decl term args ret = tree.Decl term true true false false args ret no_place

-- ( extern constructor N F )
abbrev pub made_by : (term func : List ℕ) → Def
made_by term func = tree.ExternConstructor term func no_place

-- ( extern extractor N F )
abbrev pub taken_by : (term func : List ℕ) → Def
taken_by term func = tree.ExternExtractor term func false no_place

-- ( extern extractor infallible N F )
abbrev pub always_taken_by : (term func : List ℕ) → Def
always_taken_by term func = tree.ExternExtractor term func true no_place
