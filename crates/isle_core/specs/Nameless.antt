-- Values without the type names of their opaque numbers: a run doesn't know those names.
use Rattle.std.specs.Prelude.{[], map, option_map}
use Rattle.isle_core.specs.Answered.{Item, AValue, ATuple, Held, Absent, One, Optional, Listed}
use Rattle.isle_core.specs.Value.{Value, Truth, Int, Opaque, Variant, Struct, FieldValues, NoField, Field, Made, End, Gives, GivesSome, GivesNone, IsUnreachable, GivesList, Ran}

-- a value without those names
unfoldable mutual
  pub nameless : Value → Value
  nameless (Truth b) = Truth b
  nameless (Int ty n) = Int ty n
  nameless (Opaque ty n) = Opaque [] n
  nameless (Variant ty variant fs) = Variant ty variant (nameless_fields fs)
  nameless (Struct ty fs) = Struct ty (nameless_fields fs)

  -- so of fields
  pub nameless_fields : FieldValues → FieldValues
  nameless_fields NoField = NoField
  nameless_fields (Field name v fs) = Field name (nameless v) (nameless_fields fs)

-- so of an item
abbrev pub nameless_item : Item → Item
nameless_item (AValue v) = AValue (nameless v)
nameless_item (ATuple vs) = ATuple (map nameless vs)

-- and of what a place holds
abbrev pub nameless_held : Held → Held
nameless_held Absent = Absent
nameless_held (One i) = One (nameless_item i)
nameless_held (Optional o) = Optional (option_map nameless_item o)
nameless_held (Listed is) = Listed (map nameless_item is)

-- a call with such arguments
abbrev pub nameless_made : Made → Made
nameless_made c = record { callee = c.callee; args = map nameless c.args }

-- an end of a run with such values
abbrev pub nameless_end : End → End
nameless_end (Gives v) = Gives (nameless v)
nameless_end (GivesSome v) = GivesSome (nameless v)
nameless_end GivesNone = GivesNone
nameless_end IsUnreachable = IsUnreachable
nameless_end (GivesList vs) = GivesList (map nameless vs)

-- a run's end and calls so
abbrev pub nameless_ran : Ran → Ran
nameless_ran r = record { end = nameless_end r.end; calls = map nameless_made r.calls }
