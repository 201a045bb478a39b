use Rattle.std.proofs.Common.{◌≡◌, ℕ, suc, ◌-◌, ◌<◌, List, [], ◌∷◌, length, drop, ap, sym, ◌∙◌, arith}
use Rattle.isle_reading.specs.Views.{left}
use Rattle.isle_reading.proofs.cursor.Tokens.at_left.Goals as goal

-- a token less is left
one_less : {A : Type 0} (ts us whole : List A) (n : ℕ) → n < length ts → us ≡ drop 1 ts → drop (length ts - n) ts ≡ whole → drop (length us - n) us ≡ whole
one_less [] us whole n l e h = absurd (omega (arith, l))
one_less (t ∷ ts) us whole n l e h =
    let more : length (t ∷ ts) - n ≡ suc (length ts - n) = omega (arith, l) in
    ap (λ vs. drop (length vs - n) vs) e ∙ sym (ap (λ k. drop k (t ∷ ts)) more) ∙ h

pub loop-met-preserved : goal.loop-met-preserved
loop-met-preserved c = one_less (left c.loop-met.met) _ _ c.args.count (omega (arith, c.loop-met-test.true, c.loop-met.met.counted)) c.skip.ensures c.loop-met.invariant
