-- Which calls are to fail, and how failures are counted.
use Rattle.std.specs.Prelude.{ℕ, ◌+◌, ◌-◌, ◌^◌, List, Bool, true, false, ◌==◌, ◌&&◌, min, nat_lt, if◌then◌else◌, Result, Ok, Err}
use Rattle.std.specs.List.{list_any}
use Rattle.isle_outside.specs.declared.errors.DirFault.{DirFault}
use Rattle.isle_outside.specs.declared.errors.DirFault.TheVariants as fault

-- after so many calls, the number of the next is in the list; after 2^64 - 1 calls none is
abbrev pub is_failing : ℕ → List ℕ → Bool
is_failing calls fails = nat_lt calls (2 ^ 64 - 1) && list_any (λ n. n == calls + 1) fails

-- a count of faults after a call: one more if it failed, up to the limit
abbrev pub counted : Bool → ℕ → ℕ
counted failed faults = if failed then min (faults + 1) (2 ^ 64 - 1) else faults

-- a call failed, and not by want of memory
abbrev pub is_fault : {X : Type 0} → Result X DirFault → Bool
is_fault (Ok x) = false
is_fault (Err fault.Failed) = true
is_fault (Err fault.Memory) = false
