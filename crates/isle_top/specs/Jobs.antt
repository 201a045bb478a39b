-- What each line is: the table of all lines.
use Rattle.std.specs.Prelude.{◌≡◌, ℕ, List, [], codes}
use Rattle.isle_command_line.specs.Request.{Request, Running, Help, Version, Compile, Build, Prelude, Units, Isa, Sample, Run}
use Rattle.isle_command_line.specs.Lines.{LineS}
use Rattle.isle_command_line.specs.Views.{seen_command, seen_run}
use Rattle.isle_command_line.specs.declared.commands.RunLine.{RunLine}
use Rattle.isle_meta.specs.declared.tables.Tables.{Tables}
use Rattle.isle_settings.specs.Groups.{settings_of}
use Rattle.isle_settings.specs.TargetLines.{IsGroupText}
use Rattle.isle_units.specs.UnitLines.{units_text}
use Rattle.isle_units.specs.Units.{isle_units}
use Rattle.isle_top.specs.declared.asked.Asked.{Asked}
use Rattle.isle_top.specs.About.{help_text, version_text}
use Rattle.isle_top.specs.Job.{Job}
use Rattle.isle_top.specs.CompileLine.{compile_job}
use Rattle.isle_top.specs.PlainLine.{plain_job}
use Rattle.isle_top.specs.PreludeLine.{prelude_job}
use Rattle.isle_top.specs.RunLine.{run_job}
use Rattle.isle_top.specs.SampleLine.{sample_source, AreCounts}
use Rattle.isle_top.specs.Showing.{running}
use Rattle.isle_top.specs.Sourcing.{from_names, from_unit, sourcing_of}
use Rattle.isle_top.specs.Tabling.{handed}

-- a run over these tables
abbrev pub running_job : Tables → Running → Job
running_job tables r = run_job (sourcing_of (handed tables) r.options r.source) (running r)

-- the line of a run as contracts see it
abbrev pub job_of_run : Tables → RunLine → Job
job_of_run tables r = running_job tables (seen_run r)

-- the line that asks for this, over these tables; each sample is accepted, so that its line is always valid
abbrev pub job_of : Tables → Request → Job
job_of tables Help = plain_job (λ text. text ≡ help_text)
job_of tables Version = plain_job (λ text. text ≡ version_text)
job_of tables (Compile options names) = compile_job (from_names options names) options
job_of tables (Build options unit) = compile_job (from_unit (handed tables) options unit) options
job_of tables (Prelude kind) = prelude_job (handed tables) kind
job_of tables Units = plain_job (λ text. text ≡ units_text (isle_units [] (codes "gen")))
job_of tables (Isa target) = plain_job (λ text. IsGroupText (settings_of target) text)
job_of tables (Sample size) = plain_job (λ lines. AreCounts (sample_source size) lines)
job_of tables (Run r) = running_job tables r

-- a line as contracts see it
abbrev pub job_asked : Asked → Job
job_asked line = job_of line.tables.now (seen_command line.command.now)

-- the words ask for this, and for nothing else
pub record Asks (words : List (List ℕ)) (request : Request) : Type 0 where
  pub line : LineS words request
  pub only : (other : Request) → LineS words other → other ≡ request
