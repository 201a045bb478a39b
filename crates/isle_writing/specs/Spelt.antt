-- What the text of definitions spells.
use Rattle.std.specs.Prelude.{◌≡◌, ℕ, List, [], ◌∷◌, Bool, true, false, ◌||◌}
use Rattle.isle_lexer.specs.Word.{is_flag}
use Rattle.isle_ast.specs.Tree.{Def, TypeDecl, Decl, ExternConstructor, ExternExtractor, ExternConst, Extractor, Converter, Rule, Passed}
use Rattle.isle_grammar.specs.Spelling.{Spells}
use Rattle.isle_writing.specs.Erased.{all_erased}

-- a definition declares a term whose name is the word of a flag
abbrev pub declares_flag : Def → Bool
declares_flag (TypeDecl name is_extern is_nodebug body at) = false
declares_flag (Decl term pure multi partial recursive args ret at) = is_flag term
declares_flag (ExternConstructor term func at) = false
declares_flag (ExternExtractor term func infallible at) = false
declares_flag (ExternConst name ty at) = false
declares_flag (Extractor term params template at) = false
declares_flag (Converter from result term at) = false
declares_flag (Rule name prio term args iflets rhs at) = false
declares_flag (Passed head at) = false

-- one of them does
abbrev pub declare_flag : List Def → Bool
declare_flag [] = false
declare_flag (d ∷ ds) = declares_flag d || declare_flag ds

-- as the file of any number, the text spells these definitions and no others, if places are forgotten
pub record SpellsOnly (text : List ℕ) (defs : List Def) : Type 0 where
  pub some : (file : ℕ) → (found : List Def) × Spells file text found × (all_erased found ≡ all_erased defs)
  pub only : (file : ℕ) (found : List Def) → Spells file text found → all_erased found ≡ all_erased defs

-- as the file of any number, the text spells no definitions
abbrev pub SpellsNone : List ℕ → Type 0
SpellsNone text = (file : ℕ) (found : List Def) → Spells file text found → ⊥

-- what the text of these definitions spells: they; but nothing if one declares a term that has the name of a flag
pub record AreSpelt (text : List ℕ) (defs : List Def) : Type 0 where
  pub named : declare_flag defs ≡ false → SpellsOnly text defs
  pub flagged : declare_flag defs ≡ true → SpellsNone text
