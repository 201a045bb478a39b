-- Texts that spell the written prelude of supported and plain tables, and the file of an optimizer, are valid input.
use Rattle.std.proofs.Common.{◌≡◌, ℕ, ◌+◌, List, [], ◌∷◌, ◌++◌, None, refl, ap, ap₂, ◌∙◌, sym}
use Rattle.std.specs.Prelude.{flat_map}
use Rattle.std.proofs.lemmas.List.{map-append}
use Rattle.isle_ast.specs.Tree.{Def}
use Rattle.isle_codegen.specs.Source.{Source}
use Rattle.isle_meta.specs.declared.tables.Tables.{Tables}
use Rattle.isle_table_check.specs.SupportedTables.{AreSupported}
use Rattle.isle_writing.specs.Erased.{erased, all_erased}
use Rattle.isle_prelude_accepted.specs.Accepted.{SpellParts, IsPreludeAccepted}
use Rattle.isle_prelude_accepted.specs.Plain.{ArePlain}
use Rattle.isle_prelude_accepted.proofs.PreludeAccepted.{prelude_lawful}

-- what texts spell together, from this file on
sources : (file : ℕ) (texts : List (List ℕ)) (parts : List (List Def)) → SpellParts texts parts
    → (defs : List Def) × Source file texts defs × (all_erased defs ≡ all_erased (flat_map (λ ds. ds) parts))
sources file [] [] h = ([], refl, refl)
sources file [] (ds ∷ parts) h = absurd h
sources file (text ∷ texts) [] h = absurd h
sources file (text ∷ texts) (ds ∷ parts) h =
    let first = h.0.some file in
    let rest = sources (file + 1) texts parts h.1 in
    let all = flat_map (λ (es : List Def). es) parts in
    (first.0 ++ rest.0, (first.0, rest.0, first.1, rest.1, refl), map-append erased first.0 rest.0 ∙ ap₂ (λ x y. x ++ y) first.2 rest.2 ∙ sym (map-append erased ds all))

-- they are accepted
pub prelude_accepted : (t : Tables) → AreSupported t → ArePlain t → IsPreludeAccepted t
prelude_accepted t supported plain printed texts parts files spelt together =
    let found = sources 0 texts parts spelt in
    let env = prelude_lawful t supported plain printed found.0 files (found.2 ∙ ap all_erased together) in
    record { defs = found.0; env = env.0; source = found.1; lawful = env.1 }
