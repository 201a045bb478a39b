-- What a block is judged under: the environment, the term whose rules it runs, and the bindings of their rule set.
use Rattle.std.specs.Prelude.{List, Bool}
use Rattle.isle_core.specs.declared.rule_sets.Binding.{Binding}
use Rattle.isle_core.specs.declared.types.Term.{Term}
use Rattle.isle_core.specs.Calling.{kind_of, is_several}
use Rattle.isle_core.specs.Path.{Path, paths_of}
use Rattle.isle_core.specs.Rule.{Environment}

pub record Setting : Type 0 where
  pub env : Environment
  pub term : Term
  pub bindings : List Binding

-- that of a term's rules
abbrev pub setting : Environment → Term → List Binding → Setting
setting env t bs = record { env = env; term = t; bindings = bs }

-- whether the term answers several times
abbrev pub gives_several : Setting → Bool
gives_several s = is_several (kind_of s.term.kind)

-- the paths of the bindings
abbrev pub paths_in : Setting → List Path
paths_in s = paths_of s.bindings
