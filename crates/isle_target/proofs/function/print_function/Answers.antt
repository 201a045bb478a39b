use Rattle.std.proofs.Common.{◌++◌, ap, ◌∙◌}
use Rattle.isle_tree.specs.Views.{body}
use Rattle.isle_target.specs.StatementSpelling.{body_tokens, close}
use Rattle.isle_target.specs.Spelling.{function_head, params_tokens, result_part, function_tokens}
use Rattle.isle_target.proofs.Prints.{five_pieces}
use Rattle.isle_target.proofs.function.print_function.Goals as goal

pub returns : goal.returns
unfolding function_tokens
returns c =
    let f = c.args.f.now in
    five_pieces c.line-2.result c.args.out.now (function_head f.term) (params_tokens 0 f.params) (result_part f.kind f.result) (body_tokens (body f.body)) close _ _ _ _ _ _ _
    c.in_ok-line.ensures
    (c.in_ok-print_head.ensures ∙ ap (λ t. c.line.new.self ++ function_head t) c.as_str.ensures)
    (c.in_ok-print_params.ensures ∙ ap (λ t. c.print_head.new.out ++ params_tokens 0 t) c.as_slice.ensures)
    (c.in_ok-print_gives.ensures ∙ ap (λ t. c.print_params.new.out ++ result_part f.kind t) c.as_str-2.ensures)
    (c.in_ok-print_body.ensures ∙ ap (λ t. c.print_gives.new.out ++ body_tokens (body t)) c.as_slice-2.ensures)
    c.in_ok-print_close.ensures
    c.line-2.ensures
