-- Constants of a source that answers leave out.
use Rattle.std.specs.Prelude.{Bool, false, ◌&&◌, not, is_some}
use Rattle.std.specs.List.{list_any}
use Rattle.std.specs.Option.{option_map_or}
use Rattle.isle_core.specs.declared.Sym.{Sym}
use Rattle.isle_core.specs.declared.TypeId.{TypeId}
use Rattle.isle_core.specs.Having.{const_of}
use Rattle.isle_core.specs.Meaning.{Meaning}
use Rattle.isle_core.specs.Rule.{Environment}
use Rattle.isle_core.specs.Terms.{sym_text}
use Rattle.isle_tree.specs.Program.{Function}
use Rattle.isle_tree.specs.Run.{function_of}
use Rattle.isle_operand_names.specs.Names.{body_names, is_among}
use Rattle.isle_run.specs.Attempt.{Attempt}

-- whether a constant stands in the function, and these answers give it no value
abbrev pub is_left_out : Environment → Function → Meaning → Sym × TypeId → Bool
is_left_out env f m c = is_among (sym_text env c.0) (body_names f.body) && not (is_some (const_of m (sym_text env c.0)))

-- whether they leave out one of the source's that stands in the function of the term
abbrev pub leave_out : Attempt → Meaning → Bool
leave_out a m = option_map_or (λ (f : Function). list_any (is_left_out a.env f m) a.env.types.consts) (function_of a.term a.program.fns) false
