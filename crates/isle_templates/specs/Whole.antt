-- Templates with no other template in them, as code keeps them.
use Rattle.std.specs.Prelude.{◌≡◌, ℕ, true, false, List, length, Option, Some, None}
use Rattle.isle_core.specs.Pattern.{Pattern}
use Rattle.isle_walks.specs.Walks.{on_closed_walk}
use Rattle.isle_templates.specs.declared.templates.Templates.{Templates}
use Rattle.isle_templates.specs.Standing.{StandFor}
use Rattle.isle_templates.specs.Substituted.{whole_templates}
use Rattle.isle_templates.specs.Uses.{uses}

-- templates with those that they use replaced
abbrev pub AreWhole : List (Option Pattern) → Templates → Type 0
AreWhole written templates = StandFor (whole_templates written) templates.table.items (length templates.table.items)

-- so for templates as they are written, none of which uses itself; or there are none, since one does, through others or not
abbrev pub AreWholeFound : List (Option Pattern) → Option Templates → Type 0
AreWholeFound written None = (node : ℕ) × (on_closed_walk (uses written) node ≡ true)
AreWholeFound written (Some templates) = ((node : ℕ) → on_closed_walk (uses written) node ≡ false) × AreWhole written templates
