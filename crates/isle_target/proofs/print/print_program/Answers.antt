use Rattle.std.proofs.Common.{◌++◌, ap, ◌∙◌}
use Rattle.std.specs.Prelude.{string_bytes}
use Rattle.isle_target.specs.Spelling.{trait_tokens, types_tokens}
use Rattle.isle_tree.specs.Views.{program}
use Rattle.isle_target.proofs.Again.{printed_program, spells_only, no_comment}
use Rattle.isle_target.proofs.print.print_program.Goals as goal

pub returns-clause-spells : goal.returns-clause-spells
returns-clause-spells c =
    spells_only (string_bytes c.into_text.result) (program c.args.p.now) c.requires
    (printed_program (program c.args.p.now) (string_bytes c.into_text.result) _ _ _ _ _ _ c.new-out.ensures c.in_ok-print_head.ensures (c.in_ok-print_trait.ensures ∙ ap (λ t. c.print_head.new.out ++ trait_tokens t) c.as_slice.ensures) c.in_ok-print_fixed.ensures (c.in_ok-print_types.ensures ∙ ap (λ t. c.print_fixed.new.out ++ types_tokens t) c.as_slice-2.ensures) c.in_ok-print_functions.ensures c.into_text.ensures)

pub returns-clause-tokens : goal.returns-clause-tokens
returns-clause-tokens c =
    printed_program (program c.args.p.now) (string_bytes c.into_text.result) _ _ _ _ _ _ c.new-out.ensures c.in_ok-print_head.ensures (c.in_ok-print_trait.ensures ∙ ap (λ t. c.print_head.new.out ++ trait_tokens t) c.as_slice.ensures) c.in_ok-print_fixed.ensures (c.in_ok-print_types.ensures ∙ ap (λ t. c.print_fixed.new.out ++ types_tokens t) c.as_slice-2.ensures) c.in_ok-print_functions.ensures c.into_text.ensures

pub returns-clause-no_comment : goal.returns-clause-no_comment
returns-clause-no_comment c =
    no_comment (string_bytes c.into_text.result) (program c.args.p.now)
    (printed_program (program c.args.p.now) (string_bytes c.into_text.result) _ _ _ _ _ _ c.new-out.ensures c.in_ok-print_head.ensures (c.in_ok-print_trait.ensures ∙ ap (λ t. c.print_head.new.out ++ trait_tokens t) c.as_slice.ensures) c.in_ok-print_fixed.ensures (c.in_ok-print_types.ensures ∙ ap (λ t. c.print_fixed.new.out ++ types_tokens t) c.as_slice-2.ensures) c.in_ok-print_functions.ensures c.into_text.ensures)
