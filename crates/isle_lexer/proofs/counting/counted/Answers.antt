use Rattle.std.proofs.Common.{◌≡◌, sym, ap, length, arith}
use Rattle.isle_lexer.specs.Token.{Coming, tokens_from, tokens_of}
use Rattle.isle_lexer.proofs.Coming.{whole}
use Rattle.isle_lexer.proofs.counting.counted.Goals as goal

pub loop-tok-init : goal.loop-tok-init
loop-tok-init c =
    let all : length (tokens_from c.args.text.now 0) ≡ length (tokens_of c.args.text.now) = ap (λ (x : Coming). length x.tokens) (whole c.args.text.now) in
    record {
      unclosed = sym (ap (λ (x : Coming). x.unclosed) (whole c.args.text.now));
      tokens = omega (arith, all);
      small = omega arith;
    }
