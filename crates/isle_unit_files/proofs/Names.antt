-- No two of the files have one name, since no two names end in the same eight bytes.
use Rattle.std.proofs.Common.{◌≡◌, ℕ, List, [], ◌∷◌, false, refl, ap, ◌∙◌}
use Rattle.std.specs.Prelude.{codes}
use Rattle.isle_meta.specs.Layout.{joined_name}
use Rattle.isle_meta.specs.TableNames.{repeats}
use Rattle.isle_prelude_files.specs.Outputs.{File, names_of}
use Rattle.isle_unit_files.specs.Made.{all_with, build_with, isle_with}
use Rattle.isle_unit_files.specs.declared.outputs.Folders.{Folders}
use Rattle.isle_unit_files.specs.declared.texts.AllTexts.{AllTexts}
use Rattle.isle_unit_files.specs.declared.texts.BuildTexts.{BuildTexts}
use Rattle.isle_unit_files.specs.declared.texts.IsleTexts.{IsleTexts}
use Rattle.isle_unit_files.proofs.Apart.{AreEnds, ends_tell, joined_ends}

-- the names of the files among rules, before others
abbrev rule_names : (folder : List ℕ) (rest : List (List ℕ)) → List (List ℕ)
rule_names folder rest =
    joined_name folder (codes "numerics.isle") ∷ joined_name folder (codes "isle_numerics.rs") ∷ joined_name folder (codes "clif_opt.isle")
    ∷ joined_name folder (codes "clif_lower.isle") ∷ joined_name folder (codes "pulley_gen.isle") ∷ joined_name folder (codes "assembler.isle") ∷ rest

-- what they end in, before others' ends
abbrev rule_ends : List (List ℕ) → List (List ℕ)
rule_ends rest =
    codes "ics.isle" ∷ codes "erics.rs" ∷ codes "opt.isle" ∷ codes "wer.isle" ∷ codes "gen.isle" ∷ codes "ler.isle" ∷ rest

rules_end : (folder : List ℕ) (rest ends : List (List ℕ)) → AreEnds rest ends → AreEnds (rule_names folder rest) (rule_ends ends)
rules_end folder rest ends e = (
  joined_ends folder (codes "numer") (codes "ics.isle") refl,
  (
    joined_ends folder (codes "isle_num") (codes "erics.rs") refl,
    (
      joined_ends folder (codes "clif_") (codes "opt.isle") refl,
      (
        joined_ends folder (codes "clif_lo") (codes "wer.isle") refl,
        (joined_ends folder (codes "pulley_") (codes "gen.isle") refl, (joined_ends folder (codes "assemb") (codes "ler.isle") refl, e)),
      ),
    ),
  ),
)

-- the macro's file
abbrev macro_name : (folder : List ℕ) → List (List ℕ)
macro_name folder = joined_name folder (codes "assembler-isle-macro.rs") ∷ []

macro_end : (folder : List ℕ) → AreEnds (macro_name folder) (codes "macro.rs" ∷ [])
macro_end folder = (joined_ends folder (codes "assembler-isle-") (codes "macro.rs") refl, tt)

-- those among rules
rule_names_apart : (folder : List ℕ) → repeats (rule_names folder []) ≡ false
rule_names_apart folder = ends_tell (rule_names folder []) (rule_ends []) (rules_end folder [] [] tt) refl

-- those and the macro's
build_names_apart : (out folder : List ℕ) → repeats (rule_names folder (macro_name out)) ≡ false
build_names_apart out folder =
    ends_tell (rule_names folder (macro_name out)) (rule_ends (codes "macro.rs" ∷ []))
    (rules_end folder (macro_name out) (codes "macro.rs" ∷ []) (macro_end out)) refl

-- all of them
all_names_apart : (out folder : List ℕ) → repeats (joined_name out (codes "pulley_inst_gen.rs") ∷ rule_names folder (macro_name out)) ≡ false
all_names_apart out folder =
    ends_tell (joined_name out (codes "pulley_inst_gen.rs") ∷ rule_names folder (macro_name out)) (codes "t_gen.rs" ∷ rule_ends (codes "macro.rs" ∷ []))
    (joined_ends out (codes "pulley_ins") (codes "t_gen.rs") refl, rules_end folder (macro_name out) (codes "macro.rs" ∷ []) (macro_end out)) refl

-- ---- of files

pub rules_apart : (files : List File) (folder : List ℕ) (x : IsleTexts) → files ≡ isle_with folder x → repeats (names_of files) ≡ false
rules_apart files folder x e = ap (λ (fs : List File). repeats (names_of fs)) e ∙ rule_names_apart folder

pub build_apart : (files : List File) (f : Folders) (x : BuildTexts) → files ≡ build_with f x → repeats (names_of files) ≡ false
build_apart files f x e = ap (λ (fs : List File). repeats (names_of fs)) e ∙ build_names_apart f.out.now f.rules.now

pub all_apart : (files : List File) (f : Folders) (x : AllTexts) → files ≡ all_with f x → repeats (names_of files) ≡ false
all_apart files f x e = ap (λ (fs : List File). repeats (names_of fs)) e ∙ all_names_apart f.out.now f.rules.now
