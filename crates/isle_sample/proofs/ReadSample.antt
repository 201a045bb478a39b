-- The sample's text, read as the first file, spells the definitions of its lines.
use Rattle.std.proofs.Common.{ℕ, List, [], ◌∷◌, refl, sym, subst, append-nil}
use Rattle.isle_ast.specs.Tree.{Def}
use Rattle.isle_grammar.specs.Spelling.{Spells}
use Rattle.isle_codegen.specs.Source.{Source}
use Rattle.isle_sample.specs.Sample.{sample}
use Rattle.isle_sample.proofs.SampleLines.{lines, defs_at}
use Rattle.isle_sample.proofs.TextSample.{sample_lines, lines_small}
use Rattle.isle_sample.proofs.ReadLines.{lines_read}

-- the sample is a source, whose definitions are those of its lines
pub sample_source : (n : ℕ) → Source 0 (sample n ∷ []) (defs_at 0 (lines n))
sample_source n =
    let defs : List Def = defs_at 0 (lines n) in
    let spells : Spells 0 (sample n) defs =
    subst (λ text. Spells 0 text defs) (sym (sample_lines n)) (lines_read (lines n) (lines_small n)) in
    (defs, [], spells, refl, sym (append-nil defs))
