-- What contracts see of what steps are made from.
use Rattle.std.specs.Prelude.{ℕ, Option}
use Rattle.std.specs.Ordering.{nat_cmp}
use Rattle.std.specs.BTreeMap.{get}
use Rattle.isle_core.specs.declared.BindingId.{BindingId}
use Rattle.isle_blocks.specs.Fields.{places}
use Rattle.isle_blocks.specs.Nest.{next_of, Shows}
use Rattle.isle_blocks.specs.Tree.{Ground}
use Rattle.isle_blocks.specs.declared.tables.Tables.{Tables}

-- the inner values of calls
abbrev pub inners_in : Tables → ℕ → Option BindingId
inners_in t = get nat_cmp t.inners.now

-- the items of lists
abbrev pub items_in : Tables → ℕ → Option BindingId
items_in t = get nat_cmp t.items.now

-- what stands directly after ordered calls
abbrev pub next_in : Tables → ℕ → Option BindingId
next_in t = next_of (inners_in t) (items_in t)

-- the places of constraints
abbrev pub shows_in : Tables → Shows
shows_in t = places t.fields.now (inners_in t)

-- all of it
abbrev pub ground : Tables → Ground
ground t = record { several = t.several; bindings = t.bindings.now; shows = shows_in t; next = next_in t; items = items_in t }
