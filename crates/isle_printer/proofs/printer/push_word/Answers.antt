use Rattle.std.proofs.Common.{◌++◌, ◌∷◌, [], ap, ◌∙◌}
use Rattle.std.specs.Prelude.{string_bytes}
use Rattle.isle_printer.specs.Token.{Word, InWord}
use Rattle.isle_printer.proofs.Scans.{scan-word_apart, tokens-word_apart}
use Rattle.isle_printer.proofs.printer.push_word.Goals as goal

pub returns-clause-ok : goal.returns-clause-ok
returns-clause-ok c =
    rw c.in_ok-push_str.ensures.bytes (tokens-word_apart (string_bytes c.part_from_word.new.text) c.args.word.now c.requires.word c.in_ok-part_from_word.ensures.ok ∙ ap (λ ts. ts ++ Word c.args.word.now ∷ []) c.in_ok-part_from_word.ensures.same)

pub returns-clause-scanned : goal.returns-clause-scanned
returns-clause-scanned c =
    rw c.in_ok-push_str.ensures.bytes (scan-word_apart (string_bytes c.part_from_word.new.text) c.args.word.now c.requires.word c.in_ok-part_from_word.ensures.ok ∙ ap (λ ts. record { tokens = ts; state = InWord c.args.word.now }) c.in_ok-part_from_word.ensures.same)

pub returns-clause-settled : goal.returns-clause-settled
returns-clause-settled c =
    (c.args.word.now, rw c.in_ok-push_str.ensures.bytes (ap (λ x. x.state) (scan-word_apart (string_bytes c.part_from_word.new.text) c.args.word.now c.requires.word c.in_ok-part_from_word.ensures.ok)))
