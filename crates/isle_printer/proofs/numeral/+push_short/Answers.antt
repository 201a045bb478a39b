use Rattle.std.proofs.Common.{◌≡◌, ◌%◌, ◌++◌, ◌∷◌, [], ◌/◌, sym, ap, ◌∙◌, append_assoc, arith}
use Rattle.std.specs.Prelude.{string_bytes}
use Rattle.std.proofs.lemmas.Str.{encode_ascii}
use Rattle.isle_printer.specs.Number.{numeral, glyph}
use Rattle.isle_printer.proofs.Numerals.{numeral-longer, numeral-single, glyph_below}
use Rattle.isle_printer.proofs.numeral.+push_short.Goals as goal
use Rattle.isle_printer.proofs.numeral.+push_short.Goals.{then-n-base+in_ok-push_short, else-n-base}

pub returns : goal.returns
returns t c =
    let n = c.args.n in
    let b = c.args.base in
    let old = string_bytes c.args.out.now in
    let one_byte = encode_ascii (glyph (n % b)) (glyph_below (n % b) (omega arith)) in
    let digit : string_bytes c.push.new.self ≡ string_bytes c.if-n-base.out ++ glyph (n % b) ∷ [] = rw (c.in_ok-push.ensures.bytes, c.glyph.ensures, one_byte) in
    elim c.if-n-base.branch [
      | then-n-base+in_ok-push_short w ↦
          digit ∙ ap (λ s. string_bytes s ++ glyph (n % b) ∷ []) w.out-is ∙ ap (λ l. l ++ glyph (n % b) ∷ []) w.in_ok-push_short.ensures
          ∙ append_assoc old (numeral b (n / b)) (glyph (n % b) ∷ []) ∙ ap (λ l. old ++ l) (sym (numeral-longer b n c.requires.low (omega arith)))
      | else-n-base w ↦
          digit ∙ ap (λ s. string_bytes s ++ glyph (n % b) ∷ []) w.out-is ∙ ap (λ l. old ++ l) (sym (numeral-single b n c.requires.low (omega arith)))
    ]
