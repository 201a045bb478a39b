-- What contracts see of templates as they are written.
use Rattle.std.specs.Prelude.{List, Option, map, option_map}
use Rattle.isle_core.specs.declared.rules.Pattern.{Pattern as CodePattern}
use Rattle.isle_core.specs.Pattern.{Pattern}
use Rattle.isle_core.specs.RuleViews.{pattern as elaborated}

-- templates as they are written, by their terms' numbers
abbrev pub written_of : List (Option CodePattern) → List (Option Pattern)
written_of = map (option_map elaborated)
