use Rattle.std.proofs.Common.{◌≡◌, ◌<◌, ◌^◌, drop}
use Rattle.isle_answers.proofs.Counts.{counted}
use Rattle.isle_answers.proofs.words.count_of.Given as goal

-- what is left goes on after the count, which has as many digits
abbrev pub invariant-loop-digit : goal.invariant-loop-digit
invariant-loop-digit l = (counted l.count (drop l.digit-index l.digits) ≡ counted 0 l.digits) × (l.count < 10 ^ l.digit-index)
