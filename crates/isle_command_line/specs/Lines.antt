-- Lines of words, and what each asks for.
use Rattle.std.specs.Prelude.{◌≡◌, ℕ, ◌+◌, ◌<◌, List, [], ◌∷◌, ◌++◌, length, take, fold, Bool, true, false, not, ◌&&◌, ◌==◌, Option, Some, None, codes}
use Rattle.std.specs.List.{list_all}
use Rattle.isle_core.specs.declared.options.CodegenOptions.{CodegenOptions}
use Rattle.isle_core.specs.Printed.{after_prefix}
use Rattle.isle_settings.specs.declared.isa.Isa.{Isa}
use Rattle.isle_values.specs.Spelling.{SpellsValues}
use Rattle.isle_values.specs.Written.{Writtens}
use Rattle.isle_command_line.specs.Words.{is_name, IsCount, IsSize, IsPrefix}
use Rattle.isle_command_line.specs.Targets.{target_of}
use Rattle.isle_command_line.specs.declared.commands.Kind.{Kind}
use Rattle.isle_command_line.specs.declared.commands.Source.{Source}
use Rattle.isle_command_line.specs.declared.commands.Source.TheVariants as source
use Rattle.isle_command_line.specs.declared.commands.Kind.TheVariants as kind
use Rattle.isle_command_line.specs.Request.{Request}
use Rattle.isle_command_line.specs.Request as command

-- one option
pub data Choice : Type 0 where
  NoAllow : Choice
  Log : Choice
  Split : Choice
  Threshold : ℕ → Choice
  MaxReturns : ℕ → Choice
  Prefixed : (prefix name : List ℕ) → Choice

-- an option in words
pub data ChoiceS : Choice → List (List ℕ) → Type 0 where
  no_allow : ChoiceS NoAllow (codes "--no-allow" ∷ [])
  log : ChoiceS Log (codes "--log" ∷ [])
  split : ChoiceS Split (codes "--split" ∷ [])
  threshold : (n : ℕ) (word : List ℕ) → IsCount word n → ChoiceS (Threshold n) (codes "--threshold" ∷ word ∷ [])
  max_returns : (n : ℕ) (word : List ℕ) → IsCount word n → ChoiceS (MaxReturns n) (codes "--max-returns" ∷ word ∷ [])
  prefixed : (prefix name word : List ℕ) → IsPrefix word prefix name → ChoiceS (Prefixed prefix name) (codes "--prefix" ∷ word ∷ [])

-- options in words, one after another
pub data ChoicesS : List Choice → List (List ℕ) → Type 0 where
  no_choice : ChoicesS [] []
  a_choice : (c : Choice) (cs : List Choice) (first more : List (List ℕ)) → ChoiceS c first → ChoicesS cs more → ChoicesS (c ∷ cs) (first ++ more)

-- the place of an option among all
abbrev pub option_place : Choice → ℕ
option_place NoAllow = 0
option_place Log = 1
option_place Split = 2
option_place (Threshold n) = 3
option_place (MaxReturns n) = 4
option_place (Prefixed prefix name) = 5

-- an option that stands in a line once at most
abbrev pub is_single : Choice → Bool
is_single NoAllow = true
is_single Log = true
is_single Split = true
is_single (Threshold n) = true
is_single (MaxReturns n) = true
is_single (Prefixed prefix name) = false

-- two options that stand not both in one line: they are the same, and no prefix
abbrev pub clash : Choice → Choice → Bool
clash c d = is_single c && option_place c == option_place d

-- each option at most once, but prefixes
abbrev pub AreOnce : List Choice → Type 0
AreOnce [] = Unit {0}
AreOnce (c ∷ cs) = (list_all (λ d. not (clash c d)) cs ≡ true) × AreOnce cs

-- no option is given
abbrev pub no_options : CodegenOptions
no_options = record {
  exclude_global_allow_pragmas = false;
  prefixes = [];
  emit_logging = false;
  split_match_arms = false;
  match_arm_split_threshold = None;
  max_returns = 100;
}

-- one option more
abbrev pub with_choice : CodegenOptions → Choice → CodegenOptions
with_choice o NoAllow = record o { exclude_global_allow_pragmas = true }
with_choice o Log = record o { emit_logging = true }
with_choice o Split = record o { split_match_arms = true }
with_choice o (Threshold n) = record o { match_arm_split_threshold = Some n }
with_choice o (MaxReturns n) = record o { max_returns = n }
with_choice o (Prefixed p n) = record o { prefixes = o.prefixes ++ record { prefix = p; name = n } ∷ [] }

-- what the options ask for
abbrev pub options_of : List Choice → CodegenOptions
options_of = fold with_choice no_options

-- the word of a kind
abbrev pub kind_word : Kind → List ℕ
kind_word kind.Numerics = codes "numerics"
kind_word kind.NumericsRust = codes "numerics-rust"
kind_word kind.ClifOpt = codes "clif-opt"
kind_word kind.ClifLower = codes "clif-lower"
kind_word kind.Assembler = codes "assembler"
kind_word kind.AssemblerRust = codes "assembler-rust"
kind_word kind.Pulley = codes "pulley"
kind_word kind.PulleyRust = codes "pulley-rust"

-- a source in a word: unit: and what is a unit's name, or a file's name that does not begin so
pub data SourceS : Source → List ℕ → Type 0 where
  file : (name : List ℕ) → is_name name ≡ true → after_prefix (codes "unit:") name ≡ None → SourceS (source.File name) name
  unit : (name : List ℕ) → SourceS (source.Unit name) (codes "unit:" ++ name)

-- whether the run is traced
abbrev pub traced : Bool → List (List ℕ)
traced true = codes "--trace" ∷ []
traced false = []

-- the file of answers, if any
pub data AnswersS : Option (List ℕ) → List (List ℕ) → Type 0 where
  no_answers : AnswersS None []
  answers : (file : List ℕ) → is_name file ≡ true → AnswersS (Some file) (codes "--answers" ∷ file ∷ [])

-- a line, and what it asks for
pub data LineS : List (List ℕ) → Request → Type 0 where
  stored : LineS [] (command.Compile no_options (codes "first.isle" ∷ []))
  help : LineS (codes "--help" ∷ []) command.Help
  version : LineS (codes "--version" ∷ []) command.Version
  compile : (cs : List Choice) (words : List (List ℕ)) (name : List ℕ) (names : List (List ℕ)) → ChoicesS cs words → AreOnce cs → list_all is_name (name ∷ names) ≡ true
      → LineS (codes "compile" ∷ words ++ name ∷ names) (command.Compile (options_of cs) (name ∷ names))
  build : (cs : List Choice) (words : List (List ℕ)) (unit : List ℕ) → ChoicesS cs words → AreOnce cs → is_name unit ≡ true
      → LineS (codes "build" ∷ words ++ unit ∷ []) (command.Build (options_of cs) unit)
  prelude : (k : Kind) → LineS (codes "prelude" ∷ kind_word k ∷ []) (command.Prelude k)
  units : LineS (codes "units" ∷ []) command.Units
  isa : (target : Isa) (word : List ℕ) → target_of word ≡ Some target → LineS (codes "isa" ∷ word ∷ []) (command.Isa target)
  sample : (n : ℕ) (word : List ℕ) → IsSize word n → LineS (codes "sample" ∷ word ∷ []) (command.Sample n)
  run : (t : Bool) (cs : List Choice) (words : List (List ℕ)) (s : Source) (from term spelling : List ℕ) (vs : Writtens) (a : Option (List ℕ)) (last : List (List ℕ))
      → ChoicesS cs words → AreOnce cs → SourceS s from → is_name term ≡ true → SpellsValues spelling vs → AnswersS a last
      → LineS (codes "run" ∷ traced t ++ words ++ from ∷ term ∷ spelling ∷ last) (command.Run (record { trace = t; options = options_of cs; source = s; term = term; values = vs; answers = a }))

-- words with which a line begins
abbrev pub Continues : List (List ℕ) → Type 0
Continues words = (more : List (List ℕ)) × (c : Request) × LineS (words ++ more) c

-- the word of this number is the first with which no line continues
pub record IsBad (words : List (List ℕ)) (i : ℕ) : Type 0 where
  pub found : i < length words
  pub before : Continues (take i words)
  pub bad : Continues (take (i + 1) words) → ⊥

-- a line would go on after the words, and they are none
pub record IsMissing (words : List (List ℕ)) : Type 0 where
  pub before : Continues words
  pub none : (c : Request) → LineS words c → ⊥
