-- The definitions that texts spell together.
use Rattle.std.specs.Prelude.{◌≡◌, ℕ, ◌+◌, List, [], ◌∷◌, ◌++◌}
use Rattle.isle_ast.specs.Tree.{Def}
use Rattle.isle_core.specs.declared.position.Pos.{Pos}
use Rattle.isle_grammar.specs.Spelling.{Spells, IsTextFault}

-- the texts, read as the files from that number on, spell the definitions one after the other
abbrev pub Source : ℕ → List (List ℕ) → List Def → Type 0
Source file [] defs = defs ≡ []
Source file (text ∷ texts) defs = (ds : List Def) × (es : List Def) × Spells file text ds × Source (file + 1) texts es × (defs ≡ ds ++ es)

-- of the texts, read as the files from that number on, the first that spells no definitions goes wrong at this place
pub data GoesWrong : ℕ → List (List ℕ) → Pos → Type 0 where
  here : (file at : ℕ) (text : List ℕ) (texts : List (List ℕ)) → IsTextFault file text at → GoesWrong file (text ∷ texts) (record { file = file; offset = at })
  later : (file : ℕ) (text : List ℕ) (texts : List (List ℕ)) (defs : List Def) (pos : Pos) → Spells file text defs → GoesWrong (file + 1) texts pos → GoesWrong file (text ∷ texts) pos
