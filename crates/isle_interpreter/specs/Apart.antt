-- When a constant has another value than each other constant of its type that stands in the function which is run.
use Rattle.std.specs.Prelude.{◌≡◌, ℕ, List, [], Bool, false, Option, Some, None, Contains, if◌then◌else◌}
use Rattle.std.specs.Str.{bytes_eq}
use Rattle.isle_core.specs.Having.{const_of}
use Rattle.isle_core.specs.Meaning.{Meaning}
use Rattle.isle_core.specs.SameInRun.{same_in_run}
use Rattle.isle_core.specs.Value.{Value, Truth, Int, Opaque}
use Rattle.isle_operand_names.specs.Occurring.{occurs}
use Rattle.isle_places.specs.Places.{places, StandsAt}
use Rattle.isle_tree.specs.declared.tree.Operand.{Operand}
use Rattle.isle_tree.specs.declared.tree.Operand.TheVariants as operand
use Rattle.isle_tree.specs.Program.{Function, Program}

-- whether an operand is the name
abbrev pub is_called : List ℕ → Operand → Bool
is_called name (operand.Name other) = bytes_eq name other
is_called name (operand.Local n) = false
is_called name (operand.Arg n) = false
is_called name (operand.Bool b) = false
is_called name (operand.Int ty z) = false
is_called name (operand.Raw z) = false

-- the value of a constant: one that is written has its own, and one with a name that which it is given; the name of a type that
-- occurs is no constant
abbrev pub constant_value : Program → Meaning → Operand → Option Value
constant_value p m (operand.Name name) = if occurs p name then None else const_of m name
constant_value p m (operand.Bool b) = Some (Truth b)
constant_value p m (operand.Int ty z) = Some (Int ty z)
constant_value p m (operand.Raw z) = Some (Opaque [] z)
constant_value p m (operand.Local n) = None
constant_value p m (operand.Arg n) = None

-- no other constant that stands in the function, written or named, at a place of a type at which this one stands has the same value
-- in a run
abbrev pub IsApart : Program → Function → Meaning → List ℕ → Type 0
IsApart p f m name = (ty : List ℕ) (o : Operand) (v w : Value) → StandsAt p f name ty → Contains (places p f) (o, ty) → is_called name o ≡ false
    → constant_value p m (operand.Name name) ≡ Some v → constant_value p m o ≡ Some w → same_in_run v w ≡ false
