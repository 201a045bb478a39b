use Rattle.isle_meta.proofs.FormatLaws.{formats_on, formats_out}
use Rattle.isle_meta.proofs.FirstLaws.{no_shape_told}
use Rattle.std.proofs.Common.{ℕ, List, take, subst, sym, Some}
use Rattle.isle_meta.specs.ClifRows.{IsFirstFormat}
use Rattle.isle_meta.proofs.formats.unsupported_format.Goals as goal

pub returns-in-Some : goal.returns-in-Some
returns-in-Some c =
    let s = c.loop-format.invariant in
    let h = formats_out c.args.formats.now c.loop-format.format-index c.format-item.result c.in_ok-faults.faults c.in-Some.shape c.loop-format.names c.loop-format.types c.loop-format-test.true c.format-item.is
    (c.in_ok-faults.ensures.told _ s.known s.shaped) c.in-Some.ensures s in
    subst (λ (name : List ℕ). IsFirstFormat c.args.formats.now (Some (record { row = name; shape = c.in-Some.shape }))) (sym c.as_str.ensures) h

pub loop-format-preserved : goal.loop-format-preserved
loop-format-preserved c =
    let s = c.loop-format.invariant in
    let before = take c.loop-format.format-index c.args.formats.now in
    formats_on c.args.formats.now c.loop-format.format-index c.format-item.result c.in_ok-faults.faults c.loop-format.names c.format_faults.new.names c.loop-format.types c.format_faults.new.types c.loop-format-test.true c.format-item.is
    (c.in_ok-faults.ensures.told before s.known s.shaped) c.in_default.ensures (c.in_ok-faults.ensures.names before s.known) (c.in_ok-faults.ensures.types before s.shaped (no_shape_told c.in_ok-faults.faults c.in_default.ensures)) s
