-- The counts of a program that conforms to its source; and that a sample has them.
use Rattle.std.proofs.Common.{◌≡◌, ℕ, List, [], ◌∷◌, length, false, None, ap, ◌∙◌, subst}
use Rattle.std.specs.Prelude.{codes}
use Rattle.isle_core.specs.declared.files.Files.{Files as FileTexts}
use Rattle.isle_core.specs.declared.options.CodegenOptions.{CodegenOptions}
use Rattle.isle_core.specs.Rule.{Environment}
use Rattle.isle_tree.specs.Program.{Program}
use Rattle.isle_target.specs.TreeCounts.{counts_of}
use Rattle.isle_target.specs.declared.counting.TreeCounts.{TreeCounts}
use Rattle.isle_codegen.specs.Causes.{IsRefusal}
use Rattle.isle_codegen.specs.Checked.{IsChecked}
use Rattle.isle_codegen.specs.declared.file_error.FileError.{FileError}
use Rattle.isle_codegen.specs.declared.file_error.FileError.TheVariants as file
use Rattle.isle_codegen.proofs.Accepted.{accepted_none, accepted_named}
use Rattle.isle_command_line.specs.Lines.{no_options}
use Rattle.isle_run.specs.Conforming.{Conforms}
use Rattle.isle_sample.proofs.SampleAccepted.{sample_accepted}
use Rattle.isle_sample.specs.Sample.{sample}
use Rattle.isle_top.specs.declared.refusal.Refusal.TheVariants as refusal
use Rattle.isle_top.specs.SampleLine.{counts_text, sample_source, AreCounts}
use Rattle.isle_top.specs.Wants.{IsWant}

-- options of which none is given
pub none_given : (o : CodegenOptions) → o.exclude_global_allow_pragmas ≡ false → o.prefixes ≡ [] → o.emit_logging ≡ false → o.split_match_arms ≡ false → o.match_arm_split_threshold ≡ None → o.max_returns ≡ 100 → o ≡ no_options
none_given o allow prefixes logging split threshold limit =
    λ i. record { exclude_global_allow_pragmas = allow i; prefixes = prefixes i; emit_logging = logging i; split_match_arms = split i; match_arm_split_threshold = threshold i; max_returns = limit i }

-- the lines of these counts are those of the source
pub counts_are : (source : FileTexts) (env : Environment) (o : CodegenOptions) (p : Program) (counts : TreeCounts) (rules : ℕ) (lines : List ℕ) → IsChecked source env → o ≡ no_options → Conforms o source env p
    → counts ≡ counts_of p → rules ≡ length env.rules → lines ≡ counts_text counts rules → AreCounts source lines
counts_are source env o p counts rules lines checked none conforms count many shown = record {
  env = env;
  checked = checked;
  program = p;
  conforms = subst (λ (x : CodegenOptions). Conforms x source env p) none conforms;
  shown = shown ∙ ap (λ (c : TreeCounts). counts_text c rules) count ∙ ap (counts_text (counts_of p)) many;
}

-- each sample is accepted, so that memory alone can be wanting
pub sample_want : (n : ℕ) (e : FileError) → IsRefusal e (codes "sample" ∷ []) (sample n ∷ []) → IsWant (refusal.Files e)
sample_want n (file.Io index why) h = absurd h
sample_want n (file.Errors e) h = accepted_none (sample_source n) e.errors (sample_accepted n) h.errors
sample_want n (file.Name e) h = accepted_named (codes "sample" ∷ []) (sample n ∷ []) e (sample_accepted n) h
sample_want n file.Memory h = tt
