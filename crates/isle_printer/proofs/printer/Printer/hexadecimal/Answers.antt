use Rattle.std.proofs.Common.{◌++◌, ap, ◌∙◌, refl, arith}
use Rattle.std.specs.Prelude.{codes}
use Rattle.isle_printer.specs.Number.{numeral}
use Rattle.isle_printer.proofs.Numerals.{numbered_is_word}
use Rattle.isle_printer.proofs.printer.Printer.hexadecimal.Goals as goal

pub push_word-requires-clause-word : goal.push_word-requires-clause-word
push_word-requires-clause-word c =
    let spelled = c.deref.ensures ∙ c.in_ok-push_numeral.ensures ∙ ap (λ w. w ++ numeral 16 c.args.n) (c.in_ok-push_str.ensures.bytes ∙ ap (λ w. w ++ codes "0x") c.clear.ensures.bytes) in
    rw spelled (numbered_is_word (codes "0x") 16 c.args.n (omega arith) (omega arith) refl)

pub returns : goal.returns
returns c =
    let spelled = c.deref.ensures ∙ c.in_ok-push_numeral.ensures ∙ ap (λ w. w ++ numeral 16 c.args.n) (c.in_ok-push_str.ensures.bytes ∙ ap (λ w. w ++ codes "0x") c.clear.ensures.bytes) in
    rw (c.self.view_is) at (rw spelled at c.push_word.ensures.ok)
