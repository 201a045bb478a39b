-- What contracts see of what lines ask for.
use Rattle.isle_values.specs.Views.{seen}
use Rattle.isle_command_line.specs.Request as request
use Rattle.isle_command_line.specs.Request.{Request}
use Rattle.isle_command_line.specs.Known as known
use Rattle.isle_command_line.specs.Known.{Known}
use Rattle.isle_command_line.specs.declared.commands.Command.{Command}
use Rattle.isle_command_line.specs.declared.commands.Command.TheVariants as command
use Rattle.isle_command_line.specs.declared.commands.RunLine.{RunLine}
use Rattle.isle_command_line.specs.declared.state.RunParts as parts
use Rattle.isle_command_line.specs.declared.state.State.{State}
use Rattle.isle_command_line.specs.declared.state.State.TheVariants as state

-- a run
abbrev pub seen_run : RunLine → request.Running
seen_run r = record { trace = r.trace; options = r.options; source = r.source; term = r.term; values = seen r.values; answers = r.answers }

-- what a line asks for
abbrev pub seen_command : Command → Request
seen_command command.Help = request.Help
seen_command command.Version = request.Version
seen_command (command.Compile o ns) = request.Compile o ns
seen_command (command.Build o u) = request.Build o u
seen_command (command.Prelude k) = request.Prelude k
seen_command command.Units = request.Units
seen_command (command.Isa t) = request.Isa t
seen_command (command.Sample n) = request.Sample n
seen_command (command.Run r) = request.Run (seen_run r)

-- the parts of a run
abbrev pub seen_parts : parts.RunParts → known.RunParts
seen_parts p = record { head = p.head; term = p.term; values = seen p.values }

-- what is known
abbrev pub seen_state : State → Known
seen_state state.Begin = known.Begin
seen_state (state.Whole c) = known.Whole (seen_command c)
seen_state (state.Options v g) = known.Options v g
seen_state (state.Threshold v g) = known.Threshold v g
seen_state (state.MaxReturns v g) = known.MaxReturns v g
seen_state (state.Prefix v g) = known.Prefix v g
seen_state (state.Names o ns) = known.Names o ns
seen_state state.Kind = known.Kind
seen_state state.Target = known.Target
seen_state state.Size = known.Size
seen_state state.Run = known.Run
seen_state (state.Term h) = known.Term h
seen_state (state.Values h m) = known.Values h m
seen_state (state.AfterValues p) = known.AfterValues (seen_parts p)
seen_state (state.Answers p) = known.Answers (seen_parts p)
