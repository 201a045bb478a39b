use Rattle.std.proofs.Common.{◌≡◌, ◌<◌, ◌^◌, drop}
use Rattle.isle_tables.proofs.Counts.{counted}
use Rattle.isle_tables.proofs.words.decimal_of.Given as goal

-- what is left goes on after the number, which has as many digits
abbrev pub invariant-loop-digit : goal.invariant-loop-digit
invariant-loop-digit l = (counted l.number (drop l.digit-index l.digits) ≡ counted 0 l.digits) × (l.number < 10 ^ l.digit-index)
