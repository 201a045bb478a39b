use Rattle.std.proofs.Common.{◌∙◌, ap}
use Rattle.isle_meta.specs.ShortName.{short_name}
use Rattle.isle_meta.proofs.ImmediateLaws.{others_told, others_none, known_again, known_more}
use Rattle.isle_meta.proofs.immediates.meets_others.Goals as goal

pub returns-in_ok-same-in-Some-clause-told : goal.returns-in_ok-same-in-Some-clause-told
returns-in_ok-same-in-Some-clause-told c = λ earlier knows.
    others_told earlier c.args.types.now c.args.field.now c.short_name-name.result.now c.in-Some.first.now c.in_ok-same-in-Some.same knows (c.short_name-name.ensures ∙ ap short_name c.as_str.ensures) c.in-Some.ensures.value c.in_ok-same-in-Some.ensures

pub returns-in_ok-same-in-Some-clause-more : goal.returns-in_ok-same-in-Some-clause-more
returns-in_ok-same-in-Some-clause-more c = λ earlier knows e.
    known_again earlier c.args.types.now c.args.field.now c.short_name-name.result.now c.in-Some.first.now c.in_ok-same-in-Some.same knows (c.short_name-name.ensures ∙ ap short_name c.as_str.ensures) c.in-Some.ensures.value c.in_ok-same-in-Some.ensures e

pub returns-in_ok-insert-in-None-clause-told : goal.returns-in_ok-insert-in-None-clause-told
returns-in_ok-insert-in-None-clause-told c = λ earlier knows.
    others_none earlier c.args.types.now c.args.field.now c.short_name-name.result.now knows (c.short_name-name.ensures ∙ ap short_name c.as_str.ensures) c.in-None.ensures.value

pub returns-in_ok-insert-in-None-clause-more : goal.returns-in_ok-insert-in-None-clause-more
returns-in_ok-insert-in-None-clause-more c = λ earlier knows e.
    known_more earlier c.args.types.now c.insert.new.self c.args.field c.short_name-name.result knows (c.short_name-name.ensures ∙ ap short_name c.as_str.ensures) c.in-None.ensures.value c.in_ok-insert-in-None.ensures.updates
