use Rattle.std.proofs.Common.{◌∙◌, sym}
use Rattle.isle_core.specs.declared.types.Field.{Field}
use Rattle.isle_core.specs.declared.types.Fields.TheVariants as shape
use Rattle.isle_core.specs.Terms.{symbol_text}
use Rattle.isle_lawful_names.specs.Claims.{Claim, OfField, field_claims}
use Rattle.isle_core.specs.declared.types.TypeEnv.{TypeEnv}
use Rattle.isle_lawful_names.proofs.FoundLaws.{leads_itself, one_on_at, one_out_at, one_end}
use Rattle.isle_lawful_names.proofs.types.in_named.Goals as goal

-- a named field's name
abbrev named : TypeEnv → Field → Claim
named types f = OfField (symbol_text types f.name)

pub loop-field-init : goal.loop-field-init
loop-field-init c = λ env. leads_itself env (field_claims c.args.types.now (shape.Struct c.args.fields.now))

pub loop-field-preserved : goal.loop-field-preserved
loop-field-preserved c = λ env.
    one_on_at env (named c.args.types.now) c.args.fields.now c.loop-field.field-index _ c.field_found-found.result c.loop-field-test.true (c.field_found-found.ensures env)
    (sym c.is_some.ensures ∙ c.if-is_some.false) (c.loop-field.invariant env)

pub returns-then-is_some : goal.returns-then-is_some
returns-then-is_some c = λ env.
    one_out_at env (named c.args.types.now) c.args.fields.now c.loop-field.field-index _ c.field_found-found.result c.loop-field-test.true (c.field_found-found.ensures env)
    (sym c.is_some.ensures ∙ c.if-is_some.true) (c.loop-field.invariant env)

pub returns : goal.returns
returns c = λ env. one_end env (named c.args.types.now) c.args.fields.now c.loop-field.field-index c.loop-field-test.false (c.loop-field.invariant env)
