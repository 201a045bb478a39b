use Rattle.std.proofs.Common.{◌≡◌, drop, false}
use Rattle.isle_lexer.proofs.Digits.{scanned}
use Rattle.isle_lexer.proofs.integer.number.Given as goal

-- what is left spells, after what was read, what the whole spells
abbrev pub invariant-loop-byte : goal.invariant-loop-byte
invariant-loop-byte l = scanned l.base (drop l.byte-index l.digits) l.value l.some ≡ scanned l.base l.digits 0 false
