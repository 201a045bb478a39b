-- What contracts see of the code's entries.
use Rattle.std.specs.Prelude.{ℕ, List}
use Rattle.isle_core.specs.declared.values.Value.{Value as CodeValue}
use Rattle.isle_core.specs.ValueViews.{const, pure_answers, turn_answers}
use Rattle.isle_interpreter.specs.declared.entry.Entry.{Entry as CodeEntry}
use Rattle.isle_interpreter.specs.declared.entry.Entry.TheVariants as code
use Rattle.isle_interpreter.specs.Entries.{Entry, Constant, Cases, Turns}

-- that of a constant
abbrev pub constant_entry : List ℕ × CodeValue → Entry
constant_entry c = Constant (const c).0 (const c).1

-- an entry
abbrev pub entry : CodeEntry → Entry
entry (code.Constant c) = constant_entry c.now
entry (code.Cases a) = Cases (pure_answers a.now)
entry (code.Turns a) = Turns (turn_answers a.now)
