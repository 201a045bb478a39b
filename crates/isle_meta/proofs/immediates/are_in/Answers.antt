use Rattle.std.proofs.Common.{subst}
use Rattle.std.specs.Prelude.{◌↔◌, IsTrue, Contains}
use Rattle.isle_meta.proofs.ImmediateLaws.{in_on, in_out}
use Rattle.isle_meta.proofs.RepeatLaws.{among, not_among}
use Rattle.isle_meta.proofs.immediates.are_in.Goals as goal

pub returns-then-missing : goal.returns-then-missing
returns-then-missing c = λ names has.
    let x = c.value-item.result in
    let told = subst (λ t. IsTrue c.is_new-missing.result ↔ (Contains names t → ⊥)) c.as_str.ensures (c.is_new-missing.ensures names has) in
    in_out c.args.values.now names c.loop-value.value-index x c.loop-value-test.true c.value-item.is (not_among names x c.is_new-missing.result c.if-missing.true told) (c.loop-value.invariant names has)

pub loop-value-preserved : goal.loop-value-preserved
loop-value-preserved c = λ names has.
    let x = c.value-item.result in
    let told = subst (λ t. IsTrue c.is_new-missing.result ↔ (Contains names t → ⊥)) c.as_str.ensures (c.is_new-missing.ensures names has) in
    in_on c.args.values.now names c.loop-value.value-index x c.loop-value-test.true c.value-item.is (among names x c.is_new-missing.result c.if-missing.false told) (c.loop-value.invariant names has)
