use Rattle.std.proofs.Common.{◌≡◌, ◌++◌, ap, ◌∙◌, rules, string_bytes}
use Rattle.std.specs.List.{flat_map}
use Rattle.isle_writing.specs.Text.{def_texts}
use Rattle.isle_numerics.specs.declared.operation.Operation.{Operation}
use Rattle.isle_numerics.specs.Table.{operations}
use Rattle.isle_numerics.specs.Definitions.{name_of, operation_defs}
use Rattle.isle_numeric_text.proofs.TextLaws.{type_texts}
use Rattle.isle_numeric_text.proofs.operations.push_type.Goals as goal

pub returns : goal.returns
returns c =
    let ty = c.args.ty in
    let first : string_bytes c.push_operations.new.text ≡ string_bytes c.args.text.now ++ flat_map (λ (op : Operation). def_texts (operation_defs (name_of ty) op)) (operations ty.signed) = search rules in
    first ∙ ap (λ t. string_bytes c.args.text.now ++ t) (type_texts ty)
