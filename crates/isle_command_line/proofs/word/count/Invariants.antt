use Rattle.std.proofs.Common.{◌≡◌, ◌<◌, ◌^◌, take, true}
use Rattle.std.specs.List.{list_all}
use Rattle.isle_command_line.specs.Words.{is_digit, decimal_value}
use Rattle.isle_command_line.proofs.word.count.Given as goal

abbrev pub invariant-loop-digit : goal.invariant-loop-digit
invariant-loop-digit l = record {
  value : l.value ≡ decimal_value (take l.digit-index l.digits);
  small : l.value < 10 ^ l.digit-index;
  digits : list_all is_digit (take l.digit-index l.digits) ≡ true;
}
