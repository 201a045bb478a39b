use Rattle.std.proofs.Common.{◌≡◌, length, refl, sym, subst}
use Rattle.std.specs.Prelude.{IfOk, IfErr}
use Rattle.std.specs.String.{string_bytes}
use Rattle.isle_core.specs.declared.files.Files.{Files}
use Rattle.isle_codegen.specs.Causes.{IsRefusal}
use Rattle.isle_top.specs.SampleLine.{AreCounts}
use Rattle.isle_top.proofs.sampled.sampled.Goals as goal

pub counted-requires : goal.counted-requires
counted-requires c = subst (λ (s : Files). length s.file_texts ≡ length s.file_names) (sym c.in-Ok.ensures) refl

pub returns-in-Ok-clause-ok : goal.returns-in-Ok-clause-ok
returns-in-Ok-clause-ok c = subst (λ (s : Files). IfOk c.counted.result (λ lines. AreCounts s (string_bytes lines))) c.in-Ok.ensures c.counted.ensures.ok

pub returns-in-Ok-clause-err : goal.returns-in-Ok-clause-err
returns-in-Ok-clause-err c = subst (λ (s : Files). IfErr c.counted.result (λ e. IsRefusal e s.file_names s.file_texts)) c.in-Ok.ensures c.counted.ensures.err
