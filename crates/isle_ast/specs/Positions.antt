-- Where definitions stand.
use Rattle.std.specs.Prelude.{◌≡◌, ℕ, ◌<◌, List, length}
use Rattle.std.specs.List.{AllByRecursion}
use Rattle.isle_core.specs.declared.position.Pos.{Pos}
use Rattle.isle_ast.specs.Tree.{Def, TypeDecl, Decl, ExternConstructor, ExternExtractor, ExternConst, Extractor, Converter, Rule, Passed}

-- the place of a definition
abbrev pub place_of : Def → Pos
place_of (TypeDecl name is_extern is_nodebug body pos) = pos
place_of (Decl term pure multi partial recursive args ret pos) = pos
place_of (ExternConstructor term func pos) = pos
place_of (ExternExtractor term func infallible pos) = pos
place_of (ExternConst name ty pos) = pos
place_of (Extractor term params template pos) = pos
place_of (Converter from to term pos) = pos
place_of (Rule name prio term args iflets rhs pos) = pos
place_of (Passed head pos) = pos

-- the place lies in the text of the file of this number
pub record IsWithin (file : ℕ) (text : List ℕ) (pos : Pos) : Type 0 where
  pub named : pos.file ≡ file
  pub before : pos.offset < length text

-- so of each definition
abbrev pub AreWithin : ℕ → List ℕ → List Def → Type 0
AreWithin file text defs = AllByRecursion (λ (d : Def). IsWithin file text (place_of d)) defs
