use Rattle.std.proofs.Common.{◌++◌, ap, ◌∙◌}
use Rattle.std.specs.Prelude.{string_bytes}
use Rattle.isle_printer.specs.Token.{tokens_of}
use Rattle.isle_printer.proofs.After.{scan-after, tokens-after}
use Rattle.isle_printer.proofs.printer.Printer.fixed.Goals as goal

pub invariant_of-self-2 : goal.invariant_of-self-2
invariant_of-self-2 c =
    rw c.in_ok-push_str.ensures.bytes (ap (λ x. x.state) (scan-after (string_bytes c.end_line.new.text) c.args.fixed.now c.in_ok-end_line.ensures.ok) ∙ c.requires)

pub returns : goal.returns
returns c =
    rw c.in_ok-push_str.ensures.bytes (tokens-after (string_bytes c.end_line.new.text) c.args.fixed.now c.in_ok-end_line.ensures.ok ∙ ap (λ ts. ts ++ tokens_of c.args.fixed.now) (c.in_ok-end_line.ensures.same ∙ c.self.view_is))
