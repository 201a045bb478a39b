-- The choices of items of lists, in order.
use Rattle.std.specs.Prelude.{ℕ, ◌+◌, List, [], ◌∷◌, ◌++◌, if◌then◌else◌}
use Rattle.isle_core.specs.declared.rule_sets.FlatRule.{FlatRule}
use Rattle.isle_core.specs.Answered.{Item, Held, Absent, One, Optional, Listed}
use Rattle.isle_core.specs.Choice.{Choice}
use Rattle.isle_core.specs.Meaning.{Meaning}
use Rattle.isle_core.specs.Parts.{Given}
use Rattle.isle_core.specs.Path.{Path}
use Rattle.isle_core.specs.Rule.{Environment}
use Rattle.isle_core.specs.RuleSet.{flat_tests}
use Rattle.isle_core.specs.SamePath.{same_path}
use Rattle.isle_core.specs.SeveralRun.{on_items}
use Rattle.isle_core.specs.SeveralSet.{flat_part}
use Rattle.isle_core.specs.Value.{Value}
use Rattle.isle_core.specs.ValueAt.{Known, none_made, value_at, all_hold}

-- the item at this place of the list at a path
abbrev pub pick : Choice → Path → ℕ → Choice
pick choice p place q = if same_path p q then place else choice q

-- a list that is held has so many items; anything else has none
abbrev pub items_held : Held → List Item
items_held (Listed is) = is
items_held Absent = []
items_held (One i) = []
items_held (Optional o) = []

-- the choices that follow each item of the list at a path from a place on
abbrev pub item_choices : (Choice → List Choice) → Choice → Path → List Item → ℕ → List Choice
item_choices more choice q [] place = []
item_choices more choice q (i ∷ is) place = more (pick choice q place) ++ item_choices more choice q is (place + 1)

-- the choices of items of the lists at these paths, the first list's items slowest
abbrev pub choices_over : Environment → Meaning → List Value → List Path → Choice → List Choice
choices_over env m args [] choice = choice ∷ []
choices_over env m args (q ∷ qs) choice = item_choices (choices_over env m args qs) choice q (items_held (value_at env m args (none_made choice) q)) 0

-- what follows each choice
abbrev pub each_choice : Environment → Meaning → List Value → List Path → Known → Given → (Known → Given → Given) → Given
each_choice env m args [] known g next = next known g
each_choice env m args (q ∷ qs) known g next = on_items q (value_at env m args known q) known g (λ now so. each_choice env m args qs now so next)

-- what a flat rule adds with the items that are chosen: its part if it holds
abbrev pub flat_adds : Environment → Meaning → List Value → List Path → FlatRule → Known → Given → Given
flat_adds env m args ps f known g = if all_hold env m (value_at env m args known) (flat_tests ps f) then flat_part env m args ps f known g else g
