use Rattle.std.proofs.Common.{subst, ◌++◌, ◌∷◌, [], ap, ◌∙◌}
use Rattle.std.specs.Prelude.{string_bytes}
use Rattle.isle_printer.specs.Token.{Word, InWord, Scan, finished}
use Rattle.isle_printer.specs.Glue.{Settles}
use Rattle.isle_printer.proofs.Scans.{scan-word_more, settles_more}
use Rattle.isle_printer.proofs.printer.Printer.prefixed.Goals as goal

pub invariant_of-self-2 : goal.invariant_of-self-2
invariant_of-self-2 c =
    let grown = scan-word_more (string_bytes c.push_word.new.text) c.args.prefix.now c.args.word.now _ c.requires.word c.in_ok-push_word.ensures.scanned in
    let noted : Settles c.push_word.new.last (InWord c.args.prefix.now) = subst (λ (x : Scan). Settles c.push_word.new.last x.state) c.in_ok-push_word.ensures.scanned c.push_word.ensures.settled in
    rw (c.in_ok-push_str.ensures.bytes, grown) (settles_more c.push_word.new.last c.args.prefix.now (c.args.prefix.now ++ c.args.word.now) noted)

pub returns : goal.returns
returns c =
    rw c.in_ok-push_str.ensures.bytes (ap finished (scan-word_more (string_bytes c.push_word.new.text) c.args.prefix.now c.args.word.now _ c.requires.word c.in_ok-push_word.ensures.scanned) ∙ ap (λ ts. ts ++ Word (c.args.prefix.now ++ c.args.word.now) ∷ []) c.self.view_is)
