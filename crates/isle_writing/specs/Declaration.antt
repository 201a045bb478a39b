-- Definitions that declare a type or a term.
use Rattle.isle_ast.specs.Tree.{Def}
use Rattle.isle_ast.specs.Tree as tree

-- a definition declares a type or a term
abbrev pub IsDeclaration : Def → Type 0
IsDeclaration (tree.TypeDecl name is_extern is_nodebug b at) = Unit {0}
IsDeclaration (tree.Decl term pure multi partial recursive args ret at) = Unit {0}
IsDeclaration (tree.ExternConstructor term func at) = ⊥
IsDeclaration (tree.ExternExtractor term func infallible at) = ⊥
IsDeclaration (tree.ExternConst name ty at) = ⊥
IsDeclaration (tree.Extractor term params p at) = ⊥
IsDeclaration (tree.Converter from to term at) = ⊥
IsDeclaration (tree.Rule name prio term args iflets rhs at) = ⊥
IsDeclaration (tree.Passed head at) = ⊥
