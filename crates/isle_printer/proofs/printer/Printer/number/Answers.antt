use Rattle.std.proofs.Common.{[], ◌∷◌, ◌++◌, ap, ◌∙◌, append_assoc}
use Rattle.isle_printer.specs.Number.{numeral}
use Rattle.isle_printer.proofs.Numerals.{between_is_word}
use Rattle.isle_printer.proofs.printer.Printer.number.Goals as goal

pub push_word-requires-clause-word : goal.push_word-requires-clause-word
push_word-requires-clause-word c =
    let digits = numeral c.args.base c.args.n in
    let begun = c.in_ok-push_numeral.ensures ∙ ap (λ w. w ++ digits) (c.in_ok-push_str.ensures.bytes ∙ ap (λ w. w ++ c.args.prefix.now) c.clear.ensures.bytes) in
    let spelled = c.deref.ensures ∙ c.in_ok-push_str-3.ensures.bytes ∙ ap (λ w. w ++ c.args.ty.now) (c.in_ok-push_str-2.ensures.bytes ∙ ap (λ w. w ++ 95 ∷ []) begun)
    ∙ append_assoc (c.args.prefix.now ++ digits) (95 ∷ []) c.args.ty.now ∙ append_assoc c.args.prefix.now digits (95 ∷ c.args.ty.now) in
    rw spelled (between_is_word c.args.prefix.now c.args.base c.args.n (95 ∷ c.args.ty.now) c.requires.low c.requires.high c.requires.prefix c.requires.ty)

pub returns : goal.returns
returns c =
    let digits = numeral c.args.base c.args.n in
    let begun = c.in_ok-push_numeral.ensures ∙ ap (λ w. w ++ digits) (c.in_ok-push_str.ensures.bytes ∙ ap (λ w. w ++ c.args.prefix.now) c.clear.ensures.bytes) in
    let spelled = c.deref.ensures ∙ c.in_ok-push_str-3.ensures.bytes ∙ ap (λ w. w ++ c.args.ty.now) (c.in_ok-push_str-2.ensures.bytes ∙ ap (λ w. w ++ 95 ∷ []) begun)
    ∙ append_assoc (c.args.prefix.now ++ digits) (95 ∷ []) c.args.ty.now ∙ append_assoc c.args.prefix.now digits (95 ∷ c.args.ty.now) in
    rw (c.self.view_is) at (rw spelled at c.push_word.ensures.ok)
