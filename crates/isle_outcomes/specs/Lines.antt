-- The lines of a run: that of its end, and those of its calls.
use Rattle.std.specs.Prelude.{ℕ, List, [], ◌∷◌, ◌++◌, codes}
use Rattle.isle_core.specs.Value.{Value, Made, End, Gives, GivesSome, GivesNone, IsUnreachable, GivesList, Ran}
use Rattle.isle_outcomes.specs.Shown.{value_text, callee_text}

-- values after the first, with commas
abbrev pub more_text : List Value → List ℕ
more_text [] = []
more_text (v ∷ vs) = codes ", " ++ (value_text v ++ more_text vs)

-- values with commas between them
abbrev pub listed_text : List Value → List ℕ
listed_text [] = []
listed_text (v ∷ vs) = value_text v ++ more_text vs

-- how a run ends
abbrev pub end_text : End → List ℕ
end_text (Gives v) = value_text v
end_text (GivesSome v) = codes "Some(" ++ (value_text v ++ codes ")")
end_text GivesNone = codes "None"
end_text IsUnreachable = codes "unreachable"
end_text (GivesList vs) = codes "[" ++ (listed_text vs ++ codes "]")

-- each argument after a blank
abbrev pub args_text : List Value → List ℕ
args_text [] = []
args_text (v ∷ vs) = codes " " ++ (value_text v ++ args_text vs)

-- a line for a call
abbrev pub call_line : Made → List ℕ
call_line c = codes "call " ++ (callee_text c.callee ++ (args_text c.args ++ codes "\n"))

-- a line for each call, in order
abbrev pub call_lines : List Made → List ℕ
call_lines [] = []
call_lines (c ∷ cs) = call_line c ++ call_lines cs

-- the line of an end
abbrev pub end_line : End → List ℕ
end_line e = end_text e ++ codes "\n"

-- the line of the end, and those of the calls
abbrev pub run_lines : Ran → List ℕ
run_lines r = end_line r.end ++ call_lines r.calls
