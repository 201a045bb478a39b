-- What contracts see of what the statements of a term are made from.
use Rattle.std.specs.Prelude.{List}
use Rattle.isle_core.specs.declared.rule_sets.Binding.{Binding}
use Rattle.isle_core.specs.Rule.{Environment}
use Rattle.isle_core.specs.RuleViews.{environment}
use Rattle.isle_core.specs.Setting.{Setting, setting}
use Rattle.isle_operands.specs.declared.context.Context.{Context}

-- the environment
abbrev pub env_of : Context → Environment
env_of c = environment c.typeenv.now c.termenv.now

-- the bindings
abbrev pub bindings_in : Context → List Binding
bindings_in c = c.bindings.now

-- the setting of the term's block
abbrev pub setting_of : Context → Setting
setting_of c = setting (env_of c) c.term.now (bindings_in c)
