use Rattle.std.proofs.Common.{rules, sym, ◌∙◌, ◌≡◌, ◌≤◌, Some, None, ap, true, false, get_or}
use Rattle.std.specs.Prelude.{◌==◌, if◌then◌else◌}
use Rattle.isle_lexer.proofs.Digits.{scanned-stops, scanned-end, number_is}
use Rattle.isle_lexer.proofs.integer.number.Goals as goal

pub returns-in_err-value : goal.returns-in_err-value
returns-in_err-value c =
    let e : (get_or c.args.digits.now c.loop-byte.byte-index 0 == 95) ≡ false = search rules in
    let low : 1 ≤ c.args.base = search rules in
    c.from_residual.ensures ∙ sym (scanned-stops c.args.base c.args.digits.now c.loop-byte.byte-index c.loop-byte.value c.loop-byte.some c.loop-byte-test.true e c.in_err-value.ensures)
    ∙ c.loop-byte.invariant ∙ number_is c.args.base c.args.digits.now low

pub returns-then-some : goal.returns-then-some
returns-then-some c =
    let low : 1 ≤ c.args.base = search rules in
    let some : c.loop-byte.some ≡ true = search rules in
    let last = scanned-end c.args.base c.args.digits.now c.loop-byte.byte-index c.loop-byte.value c.loop-byte.some c.loop-byte-test.false in
    ap (λ t. if t then Some c.loop-byte.value else None) (sym some) ∙ sym last ∙ c.loop-byte.invariant ∙ number_is c.args.base c.args.digits.now low

pub returns-else-some : goal.returns-else-some
returns-else-some c =
    let low : 1 ≤ c.args.base = search rules in
    let none : c.loop-byte.some ≡ false = search rules in
    let last = scanned-end c.args.base c.args.digits.now c.loop-byte.byte-index c.loop-byte.value c.loop-byte.some c.loop-byte-test.false in
    ap (λ t. if t then Some c.loop-byte.value else None) (sym none) ∙ sym last ∙ c.loop-byte.invariant ∙ number_is c.args.base c.args.digits.now low
