use Rattle.std.proofs.Common.{◌++◌, sym, ap, ◌∙◌, append_assoc}
use Rattle.std.specs.Prelude.{string_bytes}
use lib.Utf8.{encode, encodes}
use Rattle.isle_printer.specs.Quote.{escaped}
use Rattle.isle_printer.proofs.Quotes.{escaped-char}
use Rattle.isle_printer.proofs.quote.push_each.Goals as goal

pub loop-c-preserved : goal.loop-c-preserved
loop-c-preserved c =
    c.in_ok-push_escaped.ensures
    ∙ ap (λ l. l ++ escaped (encode c.in-Some.c)) c.loop-c.invariant
    ∙ append_assoc (string_bytes c.args.out.now) (escaped (encodes c.loop-c.yielded)) (escaped (encode c.in-Some.c))
    ∙ sym (ap (λ l. string_bytes c.args.out.now ++ l) (escaped-char c.loop-c.yielded c.in-Some.c))
