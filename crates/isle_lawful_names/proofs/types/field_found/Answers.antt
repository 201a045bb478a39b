use Rattle.std.proofs.Common.{refl, subst}
use Rattle.std.specs.Prelude.{◌↔◌, IsTrue}
use Rattle.isle_core.specs.Terms.{symbol_text}
use Rattle.isle_spelling.specs.Identifier.{IsIdentifier}
use Rattle.isle_lawful_names.specs.Claims.{OfField}
use Rattle.isle_lawful_names.proofs.types.field_found.Goals as goal

pub returns : goal.returns
returns c = λ env.
    c.unless_lawful.ensures env (OfField (symbol_text c.args.types.now c.args.name)) (subst (λ t. IsTrue c.is_identifier.result ↔ IsIdentifier t) c.symbol-text.ensures c.is_identifier.ensures)
    c.symbol-text.ensures refl
