-- The rule files that are generated for units.
use Rattle.std.specs.Prelude.{ℕ, List, [], map, codes, if◌then◌else◌}
use Rattle.std.specs.Str.{bytes_eq}
use Rattle.isle_assembler.specs.AssemblerDefs.{assembler_layout}
use Rattle.isle_meta.specs.declared.tables.Tables.{Tables}
use Rattle.isle_numerics.specs.Definitions.{numeric_defs}
use Rattle.isle_prelude.specs.ClifFiles.{lower_defs, opt_defs}
use Rattle.isle_pulley.specs.RuleFile.{pulley_defs}
use Rattle.isle_writing.specs.LaidDefs.{laid_texts}
use Rattle.isle_writing.specs.Text.{def_texts}

-- the text of the generated file of this name, over these tables; there are no others
abbrev pub generated_text : Tables → (name : List ℕ) → List ℕ
generated_text t name =
    if bytes_eq name (codes "gen/numerics.isle") then def_texts numeric_defs else
    if bytes_eq name (codes "gen/clif_opt.isle") then def_texts (opt_defs t) else
    if bytes_eq name (codes "gen/clif_lower.isle") then def_texts (lower_defs t) else
    if bytes_eq name (codes "gen/assembler.isle") then laid_texts (assembler_layout t.x64) else
    if bytes_eq name (codes "gen/pulley_gen.isle") then def_texts (pulley_defs t.ops t.extended_ops) else []

-- the texts of generated files, in order
abbrev pub generated_texts : Tables → (names : List (List ℕ)) → List (List ℕ)
generated_texts t names = map (generated_text t) names
