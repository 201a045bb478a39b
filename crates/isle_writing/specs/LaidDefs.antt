-- Definitions of which some are written with their priority even if it is 0.
use Rattle.std.specs.Prelude.{ℕ, List, [], ◌∷◌, ◌++◌, Bool, true, false}
use Rattle.isle_ast.specs.Tree.{Def}
use Rattle.isle_writing.specs.Text.{def_text, whole_def_text}

-- a definition, and whether a priority 0 of it is written
pub record LaidDef : Type 0 where
  pub def : Def
  pub shows_zero : Bool

-- a definition whose priority 0 is not written
abbrev pub plain : Def → LaidDef
plain d = record { def = d; shows_zero = false }

-- a definition whose priority 0 is written
abbrev pub whole : Def → LaidDef
whole d = record { def = d; shows_zero = true }

-- the text of a definition, by whether a priority 0 is written
abbrev pub text_by : Bool → Def → List ℕ
text_by true d = whole_def_text d
text_by false d = def_text d

-- the text of definitions, one after the other
abbrev pub laid_texts : List LaidDef → List ℕ
laid_texts [] = []
laid_texts (l ∷ ls) = text_by l.shows_zero l.def ++ laid_texts ls

-- the definitions alone
abbrev pub laid_defs : List LaidDef → List Def
laid_defs [] = []
laid_defs (l ∷ ls) = l.def ∷ laid_defs ls
