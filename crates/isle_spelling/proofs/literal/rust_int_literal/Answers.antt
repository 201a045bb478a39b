use Rattle.std.proofs.Common.{◌++◌, ◌%◌, ◌^◌, ap, ◌∙◌}
use Rattle.std.specs.Int.{w128, cast_unsigned}
use Rattle.std.proofs.lemmas.Int.{to_z-of_z}
use mir.Val.{bits}
use Rattle.isle_core.specs.Int.{width}
use Rattle.isle_spelling.specs.Literal.{literal_text, of_bits}
use Rattle.isle_spelling.proofs.Wraps.{wraps, wraps_only, wrapped-low}
use Rattle.isle_spelling.proofs.literal.rust_int_literal.Goals as goal

pub returns-in_err-push_bits-clause-wraps : goal.returns-in_err-push_bits-clause-wraps
returns-in_err-push_bits-clause-wraps c = wraps c.args.ty c.args.val

pub returns-in_err-push_bits-clause-only : goal.returns-in_err-push_bits-clause-only
returns-in_err-push_bits-clause-only c = wraps_only c.args.ty c.args.val

pub returns-clause-text : goal.returns-clause-text
returns-clause-text c =
    c.in_ok-push_bits.ensures
    ∙ ap (λ l. l ++ literal_text c.args.ty (of_bits c.args.ty c.low_bits-bits.result)) c.new-out.ensures.bytes
    ∙ ap (λ n. literal_text c.args.ty (of_bits c.args.ty n)) (c.low_bits-bits.ensures ∙ ap (λ n. n % 2 ^ bits (width c.args.ty)) (c.cast_unsigned.ensures ∙ ap (cast_unsigned w128) (to_z-of_z w128 c.args.val c.ranges.val)))
    ∙ ap (literal_text c.args.ty) (wrapped-low c.args.ty c.args.val c.ranges.val)

pub returns-clause-wraps : goal.returns-clause-wraps
returns-clause-wraps c = wraps c.args.ty c.args.val

pub returns-clause-only : goal.returns-clause-only
returns-clause-only c = wraps_only c.args.ty c.args.val
