use Rattle.std.proofs.Common.{◌∙◌, ap, sym, Some}
use Rattle.std.proofs.lemmas.Result.{IfOk-weaker}
use Rattle.std.proofs.lemmas.Option.{slice_get-get_or, slice_get_past}
use Rattle.isle_meta.proofs.InstructionLaws.{compares_in, compares_none}
use Rattle.isle_meta.proofs.misfits.misfits_among.Goals as goal

pub returns-in-Some : goal.returns-in-Some
returns-in-Some c =
    let h = c.in-Some.ensures.lookup in
    let f = c.in-Some.format.now in
    let at = ap Some h.1 ∙ sym (slice_get-get_or c.args.formats.now c.args.instruction.now.format f h.3.0) in
    IfOk-weaker c.misfits_beside.result _ _ (λ m k. compares_in m c.args.formats.now c.args.instruction.now f at k) c.misfits_beside.ensures

pub returns-in-None : goal.returns-in-None
returns-in-None c = compares_none c.args.formats.now c.args.instruction.now (sym (slice_get_past c.args.formats.now c.args.instruction.now.format c.in-None.ensures.lookup.3))
