use Rattle.std.proofs.Common.{◌++◌, ◌∷◌, [], ap, ◌∙◌}
use Rattle.std.specs.Prelude.{string_bytes}
use Rattle.std.proofs.lemmas.List.{append-nil}
use Rattle.isle_printer.specs.Token.{Quoted, finished}
use Rattle.isle_printer.proofs.Quotes.{scan-quoted}
use Rattle.isle_printer.proofs.printer.Printer.quoted.Goals as goal

pub invariant_of-self-2 : goal.invariant_of-self-2
invariant_of-self-2 c =
    rw (c.in_ok-push_str.ensures.bytes, c.deref.ensures, c.in_ok-quote.ensures) (ap (λ x. x.state) (scan-quoted (string_bytes c.part_from.new.text) c.args.text.now c.in_ok-part_from.ensures.ok))

pub returns : goal.returns
returns c =
    rw (c.in_ok-push_str.ensures.bytes, c.deref.ensures, c.in_ok-quote.ensures) (ap finished (scan-quoted (string_bytes c.part_from.new.text) c.args.text.now c.in_ok-part_from.ensures.ok) ∙ append-nil _ ∙ ap (λ ts. ts ++ Quoted c.args.text.now ∷ []) (c.in_ok-part_from.ensures.same ∙ c.self.view_is))
