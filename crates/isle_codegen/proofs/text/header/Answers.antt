use Rattle.std.proofs.Common.{◌++◌, ◌∷◌, [], ap, ◌∙◌}
use Rattle.std.specs.Prelude.{codes}
use Rattle.std.specs.String.{string_bytes}
use Rattle.isle_printer.specs.Comment.{comment_lines}
use Rattle.isle_codegen.proofs.Headers.{header_more}
use Rattle.isle_codegen.proofs.text.header.Goals as goal

pub loop-name-preserved : goal.loop-name-preserved
loop-name-preserved c =
    c.in_ok-push_comment-4.ensures
    ∙ ap (λ l. string_bytes c.loop-name.text ++ comment_lines (l ∷ [])) (c.as_str.ensures.value ∙ c.in_ok-line.ensures.ok ∙ ap (λ n. codes " - " ++ n) c.as_str-name.ensures)
    ∙ header_more c.args.names.now c.loop-name.name-index c.name-item.result (string_bytes c.loop-name.text) c.loop-name-test.true c.name-item.is c.loop-name.invariant
