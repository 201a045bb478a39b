use Rattle.std.proofs.Common.{◌≡◌, length, ap, subst}
use Rattle.std.specs.Prelude.{Err}
use Rattle.isle_tables.specs.declared.fail.TablesFail.TheVariants.{At}
use Rattle.isle_tables.specs.Grammar.{ItemsS}
use Rattle.isle_tables.specs.Places.{GoesWrongAt, tokens, lost}
use Rattle.isle_tables.proofs.TableLaws.{only_these, fault_unspelt}
use Rattle.isle_tables.proofs.texts.parse_tables.Goals as goal

pub returns-in-Ok-of_tokens-clause-only : goal.returns-in-Ok-of_tokens-clause-only
returns-in-Ok-of_tokens-clause-only c =
    only_these c.args.text.now c.in-Ok-of_tokens.read.items c.tables.result c.in-Ok.ensures.utf8 c.in-Ok.ensures.closed (subst (ItemsS c.in-Ok-of_tokens.read.items) c.in-Ok.ensures.tokens c.in-Ok-of_tokens.ensures.spelt) c.tables.ensures.found

pub returns-in-Ok-of_tokens-clause-none : goal.returns-in-Ok-of_tokens-clause-none
returns-in-Ok-of_tokens-clause-none c = λ at e t s.
    fault_unspelt c.args.text.now at t
    (lost c.in-Ok-of_tokens.read.items c.in-Ok.ensures.closed (subst (ItemsS c.in-Ok-of_tokens.read.items) c.in-Ok.ensures.tokens c.in-Ok-of_tokens.ensures.spelt) (c.tables.ensures.lost at e)) s

pub returns-in-Ok-of_tokens-clause-fault : goal.returns-in-Ok-of_tokens-clause-fault
returns-in-Ok-of_tokens-clause-fault c = λ at e.
    lost c.in-Ok-of_tokens.read.items c.in-Ok.ensures.closed (subst (ItemsS c.in-Ok-of_tokens.read.items) c.in-Ok.ensures.tokens c.in-Ok-of_tokens.ensures.spelt) (c.tables.ensures.lost at e)

pub returns-in-Err-of_tokens-clause-none : goal.returns-in-Err-of_tokens-clause-none
returns-in-Err-of_tokens-clause-none c = λ at e t s.
    let same : c.in-Err-of_tokens.fail ≡ At at = cc (e) in
    fault_unspelt c.args.text.now at t (tokens c.in-Ok.ensures.closed (subst (λ ts. GoesWrongAt ts (length c.args.text.now) at) c.in-Ok.ensures.tokens (c.in-Err-of_tokens.ensures.fault at (ap (λ f. Err f) same)))) s
