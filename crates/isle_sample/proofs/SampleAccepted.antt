-- The sample of so many terms is valid input, whatever their number.
use Rattle.std.specs.Prelude.{ℕ, [], ◌∷◌, codes}
use Rattle.isle_codegen.specs.LawfulEnvironment.{AreAccepted}
use Rattle.isle_sample.specs.Sample.{sample}
use Rattle.isle_sample.proofs.SampleLines.{defs_at, lines}
use Rattle.isle_sample.proofs.ReadSample.{sample_source}
use Rattle.isle_sample.proofs.TypedSample.{sample_typed_only}
use Rattle.isle_sample.proofs.CleanSample.{sample_clean}
use Rattle.isle_sample.proofs.CleanWalks.{sample_unmarked}
use Rattle.isle_sample.proofs.NamedSample.{sample_named}

-- its text, as that of a file named sample, is accepted
pub sample_accepted : (n : ℕ) → AreAccepted (codes "sample" ∷ []) (sample n ∷ [])
sample_accepted n =
    let typed = sample_typed_only n in
    record {
      defs = defs_at 0 (lines n);
      env = typed.0;
      source = sample_source n;
      lawful = record {
        typed = typed.1;
        clean = sample_clean n typed.0 typed.2;
        marked = sample_unmarked n typed.0 typed.2;
        names = sample_named n typed.0 typed.2;
      };
    }
