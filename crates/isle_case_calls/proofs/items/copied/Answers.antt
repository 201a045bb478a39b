use Rattle.std.proofs.lemmas.Iterator.{YieldsList-from_slice}
use Rattle.std.proofs.lemmas.Iterator.Consumers.{YieldsList-at, YieldsList-from_copied}
use Rattle.std.proofs.lemmas.Result.{IfOk-weaker}
use Rattle.isle_case_calls.proofs.items.copied.Goals as goal

pub returns : goal.returns
returns c =
    let iter = YieldsList-at c.from.ensures (YieldsList-from_copied {s = c.copied-iter.result} (YieldsList-at c.copied-iter.ensures.source (YieldsList-from_slice {s = c.iter.result} c.args.letters.now (cc)))) in
    IfOk-weaker c.all.result _ _ (λ all tells. tells c.args.letters.now iter.runs) c.all.ensures
