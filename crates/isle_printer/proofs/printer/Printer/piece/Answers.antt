use Rattle.std.proofs.Common.{◌++◌, ◌-◌, ap, ◌∙◌, sym, subst}
use Rattle.std.specs.Prelude.{string_bytes, length, slice_index}
use Rattle.isle_printer.specs.Token.{tokens_of, left_open, scan}
use Rattle.isle_printer.specs.Glue.{Settles}
use Rattle.isle_printer.proofs.After.{state-piece, tokens-piece}
use Rattle.isle_printer.proofs.printer.Printer.piece.Goals as goal

pub invariant_of-self-2 : goal.invariant_of-self-2
invariant_of-self-2 c =
    let ends = rw c.as_bytes-bytes.ensures.value at c.in_ok-part_from.ensures.ok in
    let state = ap (λ b. (scan b).state) c.in_ok-push_str.ensures.bytes ∙ state-piece (string_bytes c.part_from.new.text) c.args.piece.now c.requires.begins ends ∙ c.requires.ends in
    subst (λ st. Settles c.left_open-self-inside.result st) (ap (λ bs. left_open (slice_index bs (length bs - 1))) c.as_bytes-bytes.ensures.value ∙ sym state) c.left_open-self-inside.ensures

pub returns : goal.returns
returns c =
    let ends = rw c.as_bytes-bytes.ensures.value at c.in_ok-part_from.ensures.ok in
    rw c.in_ok-push_str.ensures.bytes (tokens-piece (string_bytes c.part_from.new.text) c.args.piece.now c.requires.begins ends ∙ ap (λ ts. ts ++ tokens_of c.args.piece.now) (c.in_ok-part_from.ensures.same ∙ c.self.view_is))
