-- Where log lines stand.
use Rattle.std.specs.Prelude.{Option, Some, None, if◌then◌else◌, option_map}
use Rattle.isle_core.specs.declared.options.CodegenOptions.{CodegenOptions}
use Rattle.isle_core.specs.declared.files.Files.{Files}
use Rattle.isle_core.specs.declared.position.Pos.{Pos}
use Rattle.isle_core.specs.Block.{Control, Match, Equal, Loop, Return}
use Rattle.isle_core.specs.Places.{place_in}
use Rattle.isle_core.specs.Setting.{Setting}
use Rattle.isle_core.specs.Terms.{sym_text}
use Rattle.isle_tree.specs.Program.{Log, Body, Then}
use Rattle.isle_simulation.specs.LogLines.{LogLine}

-- nothing is told, or the line of each position
abbrev pub Telling : Type 0
Telling = Option (Pos → LogLine)

-- a log line before a body
abbrev pub line_before : LogLine → Body → Body
line_before l after = Then (Log l.0 l.1) after

-- what is told before a step does what it does: before a Return its line
abbrev pub told_before : Telling → Control → Option Body → Option Body
told_before None c after = after
told_before (Some line) (Match source arms) after = after
told_before (Some line) (Equal a b body) after = after
told_before (Some line) (Loop result body) after = after
told_before (Some line) (Return pos result) after = option_map (line_before (line pos)) after

-- the line of a position: the term's name, and the position's place
abbrev pub log_line : Files → Setting → Pos → LogLine
log_line files s pos = (sym_text s.env s.term.name, place_in files pos)

-- each is told, where logging is asked for
abbrev pub telling_of : (options : CodegenOptions) → Files → Setting → Telling
telling_of options files s = if options.emit_logging then Some (log_line files s) else None
