use Rattle.std.proofs.Common.{◌≡◌, ◌++◌, ap, ◌∙◌, rules}
use Rattle.std.specs.List.{flat_map}
use Rattle.isle_numerics.specs.declared.operation.Operation.{Operation}
use Rattle.isle_numerics.specs.Table.{operations}
use Rattle.isle_numerics.specs.Definitions.{name_of, operation_defs}
use Rattle.isle_numeric_text.specs.Among.{terms_of}
use Rattle.isle_numeric_text.proofs.TermLaws.{type_terms}
use Rattle.isle_numeric_text.proofs.term_names.push_type.Goals as goal

pub returns : goal.returns
returns c =
    let ty = c.args.ty in
    let first : c.push_operations.new.names.items
    ≡ c.args.names.now.items ++ flat_map (λ (op : Operation). terms_of (operation_defs (name_of ty) op)) (operations ty.signed) = search rules in
    first ∙ ap (λ ts. c.args.names.now.items ++ ts) (type_terms ty)
