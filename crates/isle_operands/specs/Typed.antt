-- What contracts see of a context with the types of its bindings.
use Rattle.isle_core.specs.Setting.{Setting}
use Rattle.isle_operands.specs.Contexts.{setting_of}
use Rattle.isle_operands.specs.declared.typed.Typed.{Typed}

-- the setting of the term's block
abbrev pub setting_in : Typed → Setting
setting_in t = setting_of t.context
