-- How many results a list takes.
use Rattle.std.specs.Prelude.{ℕ, ◌-◌}
use Rattle.isle_core.specs.declared.options.CodegenOptions.{CodegenOptions}

-- how long the list of results is where a function is entered, and how long it may become
pub record Space : Type 0 where
  pub held : ℕ
  pub limit : ℕ

-- the space in a function that is emitted with these options, if its list has this length at entry
abbrev pub space_of : CodegenOptions → (held : ℕ) → Space
space_of options held = record { held = held; limit = options.max_returns }

-- how many results there is room for: as many as the list may have, less those that it has at entry
abbrev pub room : Space → ℕ
room space = space.limit - space.held
