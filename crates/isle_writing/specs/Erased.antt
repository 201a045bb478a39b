-- Definitions without their places.
use Rattle.std.specs.Prelude.{List, map}
use Rattle.isle_core.specs.declared.position.Pos.{Pos}
use Rattle.isle_ast.specs.Tree.{Def, TypeDecl, Decl, ExternConstructor, ExternExtractor, ExternConst, Extractor, Converter, Rule, Passed}

-- a definition at another place
abbrev pub placed : Pos → Def → Def
placed to (TypeDecl name is_extern is_nodebug body at) = TypeDecl name is_extern is_nodebug body to
placed to (Decl term pure multi partial recursive args ret at) = Decl term pure multi partial recursive args ret to
placed to (ExternConstructor term func at) = ExternConstructor term func to
placed to (ExternExtractor term func infallible at) = ExternExtractor term func infallible to
placed to (ExternConst name ty at) = ExternConst name ty to
placed to (Extractor term params template at) = Extractor term params template to
placed to (Converter from result term at) = Converter from result term to
placed to (Rule name prio term args iflets rhs at) = Rule name prio term args iflets rhs to
placed to (Passed head at) = Passed head to

-- the place that all definitions get
abbrev pub no_place : Pos
no_place = record { file = 0; offset = 0 }

-- a definition, its place forgotten
abbrev pub erased : Def → Def
erased d = placed no_place d

-- definitions, their places forgotten
abbrev pub all_erased : List Def → List Def
all_erased = map erased
