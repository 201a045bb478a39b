use Rattle.std.proofs.Common.{rules, ◌≡◌, false, ap, sym, ◌∙◌, get_or}
use Rattle.std.specs.Prelude.{is_some, ◌||◌}
use Rattle.std.specs.Option.{option_map_or}
use Rattle.isle_declarations.specs.Symbols.{index_of}
use Rattle.isle_types.specs.Builtins.{builtin_named}
use Rattle.isle_types.specs.TypeNames.{declared_as, is_primitive}
use Rattle.isle_types.proofs.KnownLaws.{primitive_known}
use Rattle.isle_types.proofs.known_types.KnownTypes.is_scalar.Goals as goal

pub returns-else-is_some : goal.returns-else-is_some
returns-else-is_some c =
    λ defs known.
    let no : is_some (builtin_named c.args.name.now) ≡ false = search rules in
    let value : c.value_at.result ≡ option_map_or (λ i. get_or c.args.self.now.primitive.items i false) (index_of c.args.self.now.names c.args.name.now) false = search rules in
    value ∙ primitive_known defs c.args.self.now c.args.name.now known
    ∙ ap (λ b. b || option_map_or is_primitive (declared_as defs c.args.name.now) false) (sym no)
