use Rattle.std.proofs.Common.{rules, string_bytes}
use Rattle.std.specs.Prelude.{codes}
use Rattle.isle_sample.specs.Sample.{term_name}
use Rattle.isle_sample.proofs.Pieces.{one_ok, three_ok}
use Rattle.isle_sample.proofs.sample.push_last_rule.Goals as goal

pub returns : goal.returns
returns c =
    three_ok c.push_str-2.result (string_bytes c.args.text.now) (string_bytes c.push_str.new.self) (string_bytes c.push_name.new.text) (string_bytes c.push_str-2.new.self)
    (codes "(rule -1 (") (term_name c.args.term) (codes " _ _) 255)\n") (search rules) c.in_ok-push_name.ensures (one_ok c.push_str-2.result _ _ _ c.push_str-2.ensures.bytes)
