use Rattle.std.proofs.Common.{◌≡◌, ◌%◌, ◌++◌, ◌∷◌, [], ◌/◌, sym, ap, ◌∙◌, append_assoc, arith}
use Rattle.std.specs.Prelude.{string_bytes}
use Rattle.std.proofs.lemmas.Str.{encode_ascii}
use Rattle.isle_printer.specs.Number.{numeral, glyph}
use Rattle.isle_printer.proofs.Numerals.{numeral-longer, glyph_below}
use Rattle.isle_printer.proofs.numeral.+push_numeral.Goals as goal

pub returns : goal.returns
returns t c =
    let n = c.args.n in
    let b = c.args.base in
    let old = string_bytes c.args.out.now in
    let wide = c.from-wide.ensures in
    let one_byte = encode_ascii (glyph (n % b)) (glyph_below (n % b) (omega arith)) in
    let digit : string_bytes c.push.new.self ≡ string_bytes c.push_numeral.new.out ++ glyph (n % b) ∷ [] = rw (c.in_ok-push.ensures.bytes, c.glyph.ensures, wide, one_byte) in
    digit
    ∙ ap (λ l. l ++ glyph (n % b) ∷ []) (c.in_ok-push_numeral.ensures ∙ ap (λ x. old ++ numeral b (n / x)) wide)
    ∙ append_assoc old (numeral b (n / b)) (glyph (n % b) ∷ [])
    ∙ ap (λ l. old ++ l) (sym (numeral-longer b n c.requires.low (omega arith)))
