use Rattle.std.proofs.Common.{◌≡◌, ◌%◌, ◌/◌, ◌∷◌, [], arith}
use Rattle.isle_printer.specs.Number.{glyph, numeral}
use Rattle.isle_printer.proofs.Numerals.{numeral-longer, numeral-single}
use Rattle.isle_top.proofs.Pieces.{both_ok, both_part, took_less}
use Rattle.isle_top.proofs.lines.+write_number.Goals as goal

pub returns-then-number-lt10-clause-ok : goal.returns-then-number-lt10-clause-ok
returns-then-number-lt10-clause-ok g t c =
    let same : c.args.number % 10 ≡ c.args.number = omega (arith, c.if-number-lt10.true) in
    rw (numeral-single 10 c.args.number (omega arith) c.if-number-lt10.true, same) c.write_digit.ensures.ok

pub returns-then-number-lt10-clause-part : goal.returns-then-number-lt10-clause-part
returns-then-number-lt10-clause-part g t c =
    let same : c.args.number % 10 ≡ c.args.number = omega (arith, c.if-number-lt10.true) in
    rw (numeral-single 10 c.args.number (omega arith) c.if-number-lt10.true, same) c.write_digit.ensures.part

pub returns-in-Ok-clause-ok : goal.returns-in-Ok-clause-ok
returns-in-Ok-clause-ok g t c =
    rw (numeral-longer 10 c.args.number (omega arith) (omega (arith, c.if-number-lt10.false)))
    (both_ok _ _ (g.S.Sink.taken c.write_number.new.sink) _ (numeral 10 (c.args.number / 10)) (glyph (c.args.number % 10) ∷ []) c.in-Ok.ensures.ok c.write_digit-in-Ok.ensures.ok)

pub returns-in-Ok-clause-part : goal.returns-in-Ok-clause-part
returns-in-Ok-clause-part g t c =
    rw (numeral-longer 10 c.args.number (omega arith) (omega (arith, c.if-number-lt10.false)))
    (both_part _ _ (g.S.Sink.taken c.write_number.new.sink) _ (numeral 10 (c.args.number / 10)) (glyph (c.args.number % 10) ∷ []) c.in-Ok.ensures.ok c.write_digit-in-Ok.ensures.part)

pub returns-in-Err-clause-part : goal.returns-in-Err-clause-part
returns-in-Err-clause-part g t c =
    rw (numeral-longer 10 c.args.number (omega arith) (omega (arith, c.if-number-lt10.false)))
    (took_less _ _ (numeral 10 (c.args.number / 10)) (glyph (c.args.number % 10) ∷ []) c.in-Err.ensures.part)
