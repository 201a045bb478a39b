use Rattle.std.proofs.Common.{List, ℕ, ◌++◌, Some, take, ap, sym, subst, ◌∙◌}
use Rattle.isle_lawful_names.specs.NameSet.{HasNames}
use Rattle.isle_meta.specs.FirstRow.{unsupported}
use Rattle.isle_meta.specs.TableNames.{repeats_after, texts}
use Rattle.isle_assembler_rows.specs.AssemblerRow.{all_terms}
use Rattle.isle_assembler_rows.specs.AssemblerRows.{IsFirstInst}
use Rattle.isle_assembler_rows.proofs.RowLaws.{insts_on, insts_out, terms_at}
use Rattle.isle_assembler_rows.proofs.rows.unsupported_among.Goals as goal

pub returns-in-Some : goal.returns-in-Some
returns-in-Some c =
    let is = c.args.insts.now in
    let k = c.loop-k.k in
    let i = c.index-insts-k.result in
    let s = c.loop-k.invariant in
    let earlier = texts c.args.earlier.now in
    let before = take k is in
    let own = c.as_slice.ensures ∙ terms_at is c.args.terms.now k i c.index-terms-k.result c.requires c.loop-k-test.true c.index-insts-k.is c.index-terms-k.is in
    let met = earlier ++ all_terms before in
    let tells = c.in_ok-faults.ensures earlier before (c.in_ok-repeated.ensures.told met s.known ∙ ap (repeats_after met) own) in
    let h = insts_out earlier is k i c.in_ok-faults.faults c.in-Some.shape c.loop-k.met c.loop-k-test.true c.index-insts-k.is tells c.in-Some.ensures s in
    subst (λ (name : List ℕ). IsFirstInst earlier is (Some (unsupported name c.in-Some.shape))) (sym c.as_str.ensures) h

pub loop-k-preserved : goal.loop-k-preserved
loop-k-preserved c =
    let is = c.args.insts.now in
    let k = c.loop-k.k in
    let i = c.index-insts-k.result in
    let s = c.loop-k.invariant in
    let earlier = texts c.args.earlier.now in
    let before = take k is in
    let own = c.as_slice.ensures ∙ terms_at is c.args.terms.now k i c.index-terms-k.result c.requires c.loop-k-test.true c.index-insts-k.is c.index-terms-k.is in
    let met = earlier ++ all_terms before in
    let tells = c.in_ok-faults.ensures earlier before (c.in_ok-repeated.ensures.told met s.known ∙ ap (repeats_after met) own) in
    let has = subst (λ ts. HasNames (met ++ ts) c.has_repeated_term.new.met) own (c.in_ok-repeated.ensures.met met s.known) in
    insts_on earlier is k i c.in_ok-faults.faults c.loop-k.met c.has_repeated_term.new.met c.loop-k-test.true c.index-insts-k.is tells c.in_default.ensures has s
