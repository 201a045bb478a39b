use Rattle.std.proofs.Common.{ℕ, List, [], ◌++◌, ◌∙◌, take, Some, ap, sym, subst, arith}
use Rattle.isle_lawful_names.specs.NameSet.{HasNames}
use Rattle.isle_lawful_names.proofs.NameSteps.{none_there}
use Rattle.isle_meta.specs.TableNames.{repeats_after, texts}
use Rattle.isle_pulley_rows.specs.PulleyRow.{all_terms}
use Rattle.isle_pulley_rows.specs.PulleyRows.{IsFirstAfter}
use Rattle.isle_pulley_rows.proofs.RefusedLaws.{rows_begin, rows_end, rows_on, rows_out, termed_at, termed_length}
use Rattle.isle_pulley_rows.proofs.refused.unsupported_among.Goals as goal

pub loop-termed-init : goal.loop-termed-init
loop-termed-init c = λ own is. rows_begin (texts c.args.earlier.now) own c.add_names.new.met (c.in_ok-add_names.ensures [] (none_there _ c.new-met.ensures.empty))

pub returns-in-Some : goal.returns-in-Some
returns-in-Some c = λ own is.
    let earlier = texts c.args.earlier.now in
    let k = c.loop-termed.termed-index in
    let t = c.termed-item.result in
    let s = c.loop-termed.invariant own is in
    let at = termed_at c.args.rows.now own k t is c.loop-termed-test.true c.termed-item.is in
    let met = earlier ++ all_terms (take k own) in
    let tells = c.in_ok-faults.ensures earlier (take k own) (c.in_ok-repeated.ensures.told met s.known ∙ ap (repeats_after met) (c.as_slice.ensures ∙ at.terms)) in
    let h = rows_out earlier own k t.row.now c.in_ok-faults.faults c.in-Some.shape c.loop-termed.met at.within at.is tells c.in-Some.ensures s in
    subst (λ (name : List ℕ). IsFirstAfter earlier own (Some (record { row = name; shape = c.in-Some.shape }))) (sym c.as_str.ensures) h

pub loop-termed-preserved : goal.loop-termed-preserved
loop-termed-preserved c = λ own is.
    let earlier = texts c.args.earlier.now in
    let k = c.loop-termed.termed-index in
    let t = c.termed-item.result in
    let s = c.loop-termed.invariant own is in
    let at = termed_at c.args.rows.now own k t is c.loop-termed-test.true c.termed-item.is in
    let met = earlier ++ all_terms (take k own) in
    let terms = c.as_slice.ensures ∙ at.terms in
    let tells = c.in_ok-faults.ensures earlier (take k own) (c.in_ok-repeated.ensures.told met s.known ∙ ap (repeats_after met) terms) in
    let has = subst (λ ts. HasNames (met ++ ts) c.has_repeated_term.new.met) terms (c.in_ok-repeated.ensures.met met s.known) in
    rows_on earlier own k t.row.now c.in_ok-faults.faults c.loop-termed.met c.has_repeated_term.new.met at.within at.is tells c.in_default.ensures has s

pub returns : goal.returns
returns c = λ own is.
    let past = c.loop-termed-test.false in
    let same = termed_length c.args.rows.now own is in
    rows_end (texts c.args.earlier.now) own c.loop-termed.termed-index c.loop-termed.met (omega (arith, past, same)) (c.loop-termed.invariant own is)
