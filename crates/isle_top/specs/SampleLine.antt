-- A line that tells what a sample becomes, in numbers.
use Rattle.std.specs.Prelude.{◌≡◌, ℕ, List, [], ◌∷◌, ◌++◌, length, codes}
use Rattle.isle_printer.specs.Number.{numeral}
use Rattle.isle_core.specs.declared.files.Files.{Files as FileTexts}
use Rattle.isle_core.specs.Rule.{Environment}
use Rattle.isle_tree.specs.Program.{Program}
use Rattle.isle_target.specs.TreeCounts.{counts_of}
use Rattle.isle_target.specs.declared.counting.TreeCounts.{TreeCounts}
use Rattle.isle_codegen.specs.Checked.{IsChecked}
use Rattle.isle_command_line.specs.Lines.{no_options}
use Rattle.isle_run.specs.Conforming.{Conforms}
use Rattle.isle_sample.specs.Sample.{sample}

-- the sample of so many terms as a source: one file, named sample
abbrev pub sample_source : ℕ → FileTexts
sample_source n = record { file_names = codes "sample" ∷ []; file_texts = sample n ∷ [] }

-- a number after its word, on a line
unfoldable pub count_line : (word : List ℕ) → ℕ → List ℕ
count_line word n = word ++ (numeral 10 n ++ codes "\n")

-- the lines of counts: the functions of a program, the rules of its source, and the tests in the functions
abbrev pub counts_text : TreeCounts → (rules : ℕ) → List ℕ
counts_text c rules = count_line (codes "functions ") c.functions ++ (count_line (codes "rules ") rules ++ count_line (codes "matches ") c.tests)

-- the lines tell the counts of a program that conforms to the source under no options, and of the source's rules
pub record AreCounts (source : FileTexts) (lines : List ℕ) : Type 0 where
  pub env : Environment
  pub checked : IsChecked source env
  pub program : Program
  pub conforms : Conforms no_options source env program
  pub shown : lines ≡ counts_text (counts_of program) (length env.rules)
