-- Definitions that link names.
use Rattle.isle_ast.specs.Tree.{Def}
use Rattle.isle_ast.specs.Tree as tree

-- it links a term, a constant or two types with a function, a type or a term; or it is a list that is passed over, of which only the head is written
abbrev pub IsLink : Def → Type 0
IsLink (tree.TypeDecl name is_extern is_nodebug b at) = ⊥
IsLink (tree.Decl term pure multi partial recursive args ret at) = ⊥
IsLink (tree.ExternConstructor term func at) = Unit {0}
IsLink (tree.ExternExtractor term func infallible at) = Unit {0}
IsLink (tree.ExternConst name ty at) = Unit {0}
IsLink (tree.Extractor term params p at) = ⊥
IsLink (tree.Converter from to term at) = Unit {0}
IsLink (tree.Rule name prio term args iflets rhs at) = ⊥
IsLink (tree.Passed head at) = Unit {0}
