use Rattle.std.proofs.Common.{◌≡◌, ◌++◌, length, ap, ◌∙◌, subst}
use Rattle.std.specs.Prelude.{OnOk}
use Rattle.isle_target.specs.Spelling.{trait_fn_head, joined_tokens, joined_end, list_type, trait_result, trait_fn_tokens}
use Rattle.isle_target.proofs.Prints.{piece_then}
use Rattle.isle_target.proofs.context.print_trait_fn.Goals as goal

pub returns : goal.returns
unfolding trait_fn_tokens
returns c =
    let f = c.args.f.now in
    let old = c.args.out.now in
    let r = c.print_end.result in
    let new = c.print_end.new.out in
    let ended = trait_result f.kind f.results in
    let closed = joined_end f.kind f.name (length f.params) ++ ended in
    let params = joined_tokens 0 f.params ++ closed in
    piece_then r old (list_type f.kind f.name f.results) (trait_fn_head f.name ++ params) _ new
    (c.in_ok-print_list_type.ensures ∙ ap (λ t. old ++ list_type f.kind t c.as_slice-results.result.now) c.as_str-name.ensures ∙ ap (λ t. old ++ list_type f.kind f.name t) c.as_slice-results.ensures)
    (piece_then r c.print_list_type.new.out (trait_fn_head f.name) params _ new
    (c.in_ok-print_name.ensures ∙ ap (λ t. c.line.new.self ++ trait_fn_head t) c.as_str-name.ensures ∙ ap (λ l. l ++ trait_fn_head f.name) c.in_ok-line.ensures)
    (piece_then r c.print_name.new.out (joined_tokens 0 f.params) closed _ new
    (c.in_ok-print_joined.ensures ∙ ap (λ t. c.print_name.new.out ++ joined_tokens 0 t) c.as_slice-params.ensures)
    (piece_then r c.print_joined.new.out (joined_end f.kind f.name (length f.params)) ended _ new
    (c.in_ok-print_joined_end.ensures ∙ ap (λ t. c.print_joined.new.out ++ joined_end f.kind t (length c.as_slice-params.result.now)) c.as_str-name.ensures ∙ ap (λ t. c.print_joined.new.out ++ joined_end f.kind f.name (length t)) c.as_slice-params.ensures)
    (subst (λ t. OnOk r (new ≡ c.print_joined_end.new.out ++ trait_result f.kind t)) c.as_slice-results.ensures c.print_end.ensures))))
