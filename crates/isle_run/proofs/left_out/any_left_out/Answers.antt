use Rattle.std.proofs.Common.{◌&&◌, not, sym, ◌∙◌, refl}
use Rattle.isle_core.specs.declared.Sym.{Sym}
use Rattle.isle_core.specs.declared.TypeId.{TypeId}
use Rattle.isle_core.specs.Terms.{sym_text}
use Rattle.isle_operand_names.specs.Sets.{has_name}
use Rattle.isle_types.proofs.KnownLaws.{any_more}
use Rattle.isle_run.proofs.LeftOut.{any_found, none_left}
use Rattle.isle_run.proofs.left_out.any_left_out.Goals as goal

pub loop-constant-preserved : goal.loop-constant-preserved
loop-constant-preserved c =
    λ env types.
    c.loop-constant.invariant env types
    ∙ any_more (λ (d : Sym × TypeId). has_name c.args.standing.now (sym_text env d.0) && not (has_name c.args.given.now (sym_text env d.0))) c.args.constants.now c.loop-constant.constant-index _ (record { 0 = 0 }, record { 0 = 0 }) c.loop-constant-test.true refl
    (sym (c.is_left_out.ensures env types) ∙ c.if-is_left_out.false)

pub returns-then-is_left_out : goal.returns-then-is_left_out
returns-then-is_left_out c =
    λ env types.
    sym
    (c.loop-constant.invariant env types
    ∙ any_found (λ (d : Sym × TypeId). has_name c.args.standing.now (sym_text env d.0) && not (has_name c.args.given.now (sym_text env d.0))) c.args.constants.now c.loop-constant.constant-index _ (record { 0 = 0 }, record { 0 = 0 }) c.loop-constant-test.true refl
    (sym (c.is_left_out.ensures env types) ∙ c.if-is_left_out.true))

pub returns : goal.returns
returns c =
    λ env types.
    sym (c.loop-constant.invariant env types ∙ none_left (λ (d : Sym × TypeId). has_name c.args.standing.now (sym_text env d.0) && not (has_name c.args.given.now (sym_text env d.0))) c.args.constants.now c.loop-constant.constant-index c.loop-constant-test.false)
