-- What is said of the written prelude of tables, followed by the file of an optimizer.
use Rattle.std.specs.Prelude.{◌≡◌, ℕ, List, [], ◌∷◌, ◌++◌, flat_map, IsTrue}
use Rattle.std.specs.List.{AllByRecursion}
use Rattle.isle_core.specs.Rule.{Environment}
use Rattle.isle_ast.specs.Tree.{Def}
use Rattle.isle_codegen.specs.LawfulEnvironment.{IsLawfulEnvironment, AreAccepted}
use Rattle.isle_lawful_names.specs.Words.{is_file_name}
use Rattle.isle_meta.specs.declared.tables.Tables.{Tables}
use Rattle.isle_prelude.specs.ClifFiles.{opt_defs}
use Rattle.isle_prelude.specs.WrittenPrelude.{written_defs}
use Rattle.isle_writing.specs.Erased.{all_erased}
use Rattle.isle_writing.specs.Spelt.{SpellsOnly}

-- the written prelude and the file behind it
abbrev pub prelude_defs : Tables → List Def
prelude_defs t = written_defs t ++ opt_defs t

-- at whatever places these definitions stand, and whatever lawful names their files have, they have an environment, and nothing is wrong with it
abbrev pub IsPreludeLawful : Tables → Type 0
IsPreludeLawful t =
    (printed : List (List ℕ)) (defs : List Def) → AllByRecursion (λ name. IsTrue (is_file_name name)) printed
    → all_erased defs ≡ all_erased (prelude_defs t) → (env : Environment) × IsLawfulEnvironment printed defs env

-- each text spells the definitions at its place, and no others, up to their places
abbrev pub SpellParts : (texts : List (List ℕ)) → (parts : List (List Def)) → Type 0
SpellParts [] [] = Unit {0}
SpellParts (text ∷ texts) (ds ∷ parts) = SpellsOnly text ds × SpellParts texts parts
SpellParts [] (ds ∷ parts) = ⊥
SpellParts (text ∷ texts) [] = ⊥

-- texts that spell these definitions, part by part, are valid input, whatever lawful names their files have
abbrev pub IsPreludeAccepted : Tables → Type 0
IsPreludeAccepted t =
    (printed texts : List (List ℕ)) (parts : List (List Def)) → AllByRecursion (λ name. IsTrue (is_file_name name)) printed
    → SpellParts texts parts → flat_map (λ ds. ds) parts ≡ prelude_defs t → AreAccepted printed texts
