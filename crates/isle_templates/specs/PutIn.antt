-- Templates put into others, with patterns in place of parameters.
use Rattle.std.specs.Prelude.{List, ◌++◌, length, drop, Option, Some, None}
use Rattle.isle_base.specs.declared.ids.TypeId.{TypeId}
use Rattle.isle_base.specs.declared.ids.TermId.{TermId}
use Rattle.isle_core.specs.Pattern as pattern
use Rattle.isle_core.specs.Pattern.{Pattern}
use Rattle.isle_core.specs.RuleViews.{patterns_of}
use Rattle.isle_templates.specs.Substituted.{substituted}

-- patterns, and after them others from their number on
abbrev pub with_rest : List Pattern → List Pattern → List Pattern
with_rest parts args = parts ++ drop (length parts) args

-- a term on these patterns, or its template with them; parameters that they leave are those of the template that it stands in
abbrev pub put_in : Option Pattern → TypeId → TermId → (parts args : List Pattern) → Pattern
put_in None ty term parts args = pattern.Term ty term (patterns_of parts)
put_in (Some t) ty term parts args = substituted (with_rest parts args) t
