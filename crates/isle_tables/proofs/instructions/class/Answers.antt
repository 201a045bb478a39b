use Rattle.std.proofs.Common.{◌∙◌, rules, ap}
use Rattle.isle_reading.specs.Reader.{run}
use Rattle.isle_reading.specs.Views.{left}
use Rattle.isle_reading.proofs.Steps.{then_got, done_got}
use Rattle.isle_tables.specs.Reading.{read_class}
use Rattle.isle_tables.proofs.instructions.class.Goals as goal

pub returns-in-Some : goal.returns-in-Some
unfolding read_class
returns-in-Some c = ap (λ h. run (read_class h) (left c.args.tokens.now)) c.in-Some.is ∙ done_got _ _

pub returns-in_ok-rust_type-in-None : goal.returns-in_ok-rust_type-in-None
unfolding read_class
returns-in_ok-rust_type-in-None c = ap (λ h. run (read_class h) (left c.args.tokens.now)) c.in-None.is ∙ then_got _ _ _ _ _ _ c.in_ok-rust_type-in-None.ensures (search (rules, done_got))
