-- The program's own tables are plain, so what is said of supported and plain tables holds of them.
use Rattle.std.proofs.Common.{◌≡◌, false, refl, arith}
use Rattle.isle_prelude.specs.NumberedNames.{value_array}
use Rattle.isle_prelude_accepted.specs.Accepted.{IsPreludeAccepted}
use Rattle.isle_prelude_accepted.specs.Compiled.{AreFilesCompiled}
use Rattle.isle_prelude_accepted.specs.Plain.{ArePlain}
use Rattle.isle_prelude_accepted.proofs.AcceptedTexts.{prelude_accepted}
use Rattle.isle_prelude_accepted.proofs.CompiledPrelude.{files_compiled}
use Rattle.isle_table_check.specs.ProgramTables.{sample_tables}
use Rattle.isle_table_check.proofs.ProgramTables.{sample_supported}

pub sample_plain : ArePlain sample_tables
unfolding value_array
sample_plain = record {
  opt_spelt = refl;
  lower_spelt = refl;
  formats = (record { values = omega arith; fields = omega arith }, (record { values = omega arith; fields = omega arith }, tt));
  instructions = (omega arith, (omega arith, (omega arith, tt)));
}

pub sample_accepted : IsPreludeAccepted sample_tables
sample_accepted = prelude_accepted sample_tables sample_supported sample_plain

pub sample_compiled : AreFilesCompiled sample_tables
sample_compiled = files_compiled sample_tables sample_supported sample_plain
