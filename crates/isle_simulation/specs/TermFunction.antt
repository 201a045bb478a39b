-- The function of a term.
use Rattle.std.specs.Prelude.{ℕ, List, [], Bool, true, false, Option, Some, None, if◌then◌else◌, map, option_map}
use Rattle.isle_core.specs.declared.options.CodegenOptions.{CodegenOptions}
use Rattle.isle_core.specs.declared.files.Files.{Files}
use Rattle.isle_core.specs.declared.types.ReturnKind.{ReturnKind}
use Rattle.isle_core.specs.declared.types.ReturnKind.TheVariants as kind
use Rattle.isle_core.specs.declared.types.Term.{Term}
use Rattle.isle_core.specs.Places.{place_in}
use Rattle.isle_core.specs.Block.{Block, Stop, Step, Control, Match, Equal, Loop, Return}
use Rattle.isle_core.specs.Calling.{kind_of}
use Rattle.isle_core.specs.Terms.{sym_text}
use Rattle.isle_core.specs.Rule.{Environment}
use Rattle.isle_core.specs.ReturnPositions.{return_positions}
use Rattle.isle_core.specs.Setting.{Setting}
use Rattle.isle_tree.specs.Program.{Tail, Body, Done, Then, Function}
use Rattle.isle_simulation.specs.Completed.{completed}
use Rattle.isle_simulation.specs.LogLines.{LogLine}
use Rattle.isle_simulation.specs.Statements.{told_body}
use Rattle.isle_simulation.specs.Manner.{manner_of}
use Rattle.isle_simulation.specs.Telling.{log_line}
use Rattle.isle_simulation.specs.TypeTexts.{type_text, parameter}

-- a step that ends the run
abbrev pub is_return : Control → Bool
is_return (Match source arms) = false
is_return (Equal a b body) = false
is_return (Loop result body) = false
is_return (Return pos result) = true

-- the last step of a block ends the run
abbrev pub ends_in_return : Block → Bool
ends_in_return Stop = false
ends_in_return (Step bs c Stop) = is_return c
ends_in_return (Step bs c (Step ds e more)) = ends_in_return (Step ds e more)

-- what the tail of a function says: nothing, or that no rule matches, with the name and the place of its term; if a
-- term answers several times there is no tail
abbrev pub mark_of : ReturnKind → List ℕ → List ℕ → Option (Option (List ℕ × List ℕ))
mark_of kind.Plain name place = Some (Some (name, place))
mark_of kind.Option name place = Some None
mark_of kind.Iterator name place = None

-- the tail that says this
abbrev pub tail_body : Option (Option (List ℕ × List ℕ)) → Body
tail_body (Some mark) = Then (Tail mark) Done
tail_body None = Done

-- what the tail of a term's function says, where it has one: nothing, or the term's name and the place of its declaration
abbrev pub mark_in : Files → Environment → Term → Option (Option (List ℕ × List ℕ))
mark_in files env t = mark_of (kind_of t.kind) (sym_text env t.name) (place_in files t.decl_pos)

-- what stands after the steps of the root: nothing if its last step is a Return
abbrev pub tail_of : ReturnKind → List ℕ → List ℕ → Block → Body
tail_of of name place b = if ends_in_return b then Done else tail_body (mark_of of name place)

-- so of a term, whose declaration lies in the files
abbrev pub tail_in : Files → Environment → Term → Block → Body
tail_in files env t b = tail_of (kind_of t.kind) (sym_text env t.name) (place_in files t.decl_pos) b

-- the statements of a term's function, with log lines if they are asked for
abbrev pub root_body : (options : CodegenOptions) → Files → Setting → Block → Option Body
root_body options files s b = told_body (manner_of options files s) s [] (completed s [] b) (Some (tail_in files s.env s.term b))

-- the function of a term with these statements
abbrev pub function_with : Environment → Term → Body → Function
function_with env t body = record {
  term = sym_text env t.name;
  params = map (parameter env) t.arg_tys;
  result = type_text env t.ret_ty;
  kind = kind_of t.kind;
  body = body;
}

-- the function of a term whose block is this, if its forms are built; the files have the place of its declaration, and those of its rules
abbrev pub term_function : (options : CodegenOptions) → Files → Setting → Block → Option Function
term_function options files s b = option_map (function_with s.env s.term) (root_body options files s b)

-- the log lines of a term's function, if logging is asked for: one for each Return of its block, in order
abbrev pub log_lines : (options : CodegenOptions) → Files → Setting → Block → List LogLine
log_lines options files s b = if options.emit_logging then map (log_line files s) (return_positions b) else []
