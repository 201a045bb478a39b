use Rattle.std.proofs.Common.{◌++◌, sym, ap, ◌∙◌, arith}
use Rattle.std.specs.Prelude.{string_bytes}
use Rattle.isle_printer.proofs.Quotes.{escaped-plain}
use Rattle.isle_printer.proofs.quote.push_escaped.Goals as goal

pub returns-in_ok-push-in_default : goal.returns-in_ok-push-in_default
returns-in_ok-push-in_default c =
    c.in_ok-push-in_default.ensures.bytes ∙ ap (λ l. string_bytes c.args.out.now ++ l) (sym (escaped-plain c.args.c (λ e. omega arith) (λ e. omega arith)))
