use Rattle.std.proofs.Common.{◌≡◌, sym, ◌∙◌, subst, length, arith}
use Rattle.isle_lexer.specs.Token.{Between, InWord, coming, in_front}
use Rattle.isle_lexer.proofs.Coming.{word_more, word_ends, word_last}
use Rattle.isle_lexer.proofs.finding.word_end.Goals as goal

pub returns-then-not-is_word_byte-clause-word : goal.returns-then-not-is_word_byte-clause-word
returns-then-not-is_word_byte-clause-word c =
    λ from. c.loop-place.invariant from ∙ word_ends c.args.text.now from c.loop-place.place c.loop-place-test.true (sym c.is_word_byte.ensures ∙ c.if-not-is_word_byte.true)

pub loop-place-preserved : goal.loop-place-preserved
loop-place-preserved c =
    λ from. c.loop-place.invariant from ∙ word_more c.args.text.now from c.loop-place.place c.loop-place-test.true (sym c.is_word_byte.ensures ∙ c.if-not-is_word_byte.false)

pub returns-clause-word : goal.returns-clause-word
returns-clause-word c =
    let end : c.loop-place.place ≡ length c.args.text.now = omega (arith, c.loop-place-test.false, c.loop-place.auto.place-end) in
    λ from. subst (λ n. coming c.args.text.now (InWord from) c.args.at ≡ in_front (record { from = from; to = n }) (coming c.args.text.now Between n)) end
    (c.loop-place.invariant from ∙ word_last c.args.text.now from c.loop-place.place c.loop-place-test.false)
