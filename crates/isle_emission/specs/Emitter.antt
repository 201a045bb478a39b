-- What contracts see of an emitter.
use Rattle.std.specs.Prelude.{ℕ, List, Option}
use Rattle.isle_core.specs.declared.BindingId.{BindingId}
use Rattle.isle_core.specs.declared.TypeId.{TypeId}
use Rattle.isle_core.specs.declared.types.Fields.{Fields}
use Rattle.isle_core.specs.Block.{Block}
use Rattle.isle_core.specs.HasType.{typed_fields}
use Rattle.isle_core.specs.Places.{LiesIn}
use Rattle.isle_core.specs.Path.{at}
use Rattle.isle_core.specs.Setting.{Setting, paths_in}
use Rattle.isle_tree.specs.declared.tree.Operand.{Operand}
use Rattle.isle_operands.specs.Typed as Typed
use Rattle.isle_emission.specs.declared.emitter.Emitter.{Emitter}
use Rattle.isle_tree.specs.Program.{Body, Function}
use Rattle.isle_simulation.specs.Operands.{in_place, operand_of}
use Rattle.isle_simulation.specs.Manner.{Manner, manner_of}
use Rattle.isle_simulation.specs.TermFunction.{tail_in, mark_in, root_body, term_function}

-- the setting of the term's block
abbrev pub setting_in : Emitter → Setting
setting_in e = Typed.setting_in e.typed

-- how the statements are written: as the options ask for it, in a closure or not
abbrev pub manner_in : Emitter → Manner
manner_in e = record (manner_of e.options.now e.files.now (setting_in e)) { inside = e.inside }

-- fields with their names and types
abbrev pub fields_in : Emitter → Fields → List (List ℕ × TypeId)
fields_in e fields = typed_fields (setting_in e).env fields

-- the term's declaration lies in the files
abbrev pub IsPlaced : Emitter → Type 0
IsPlaced e = LiesIn e.files.now (setting_in e).term.decl_pos

-- what stands after the statements of a block
abbrev pub tail_after : Emitter → Block → Body
tail_after e b = tail_in e.files.now (setting_in e).env (setting_in e).term b

-- what stands for a binding
abbrev pub operand_in : Emitter → List ℕ → BindingId → Option Operand
operand_in e bound b = operand_of (setting_in e).env (setting_in e).bindings bound b

-- what is read in place for it
abbrev pub place_in : Emitter → BindingId → Option Operand
place_in e b = in_place (setting_in e).env b.0 (at (paths_in (setting_in e)) b)

-- what the term's function says if no rule matches
abbrev pub mark_for : Emitter → Option (Option (List ℕ × List ℕ))
mark_for e = mark_in e.files.now (setting_in e).env (setting_in e).term

-- the statements of the term's function
abbrev pub root_for : Emitter → Block → Option Body
root_for e b = root_body e.options.now e.files.now (setting_in e) b

-- the term's function
abbrev pub function_for : Emitter → Block → Option Function
function_for e b = term_function e.options.now e.files.now (setting_in e) b
