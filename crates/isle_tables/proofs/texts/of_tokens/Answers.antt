use Rattle.std.proofs.Common.{◌≡◌, ◌∙◌, sym, ap, subst, arith, Some}
use Rattle.isle_reading.specs.Reader.{run}
use Rattle.isle_reading.specs.Places.{first_place}
use Rattle.isle_reading.specs.Views.{left, stops, Refuses}
use Rattle.isle_tables.specs.Places.{GoesWrongAt}
use Rattle.isle_tables.specs.Reading.{read_items}
use Rattle.isle_tables.proofs.Faults.{items_got, items_stop}
use Rattle.isle_tables.proofs.texts.of_tokens.Goals as goal

pub returns-in-Ok-clause-spelt : goal.returns-in-Ok-clause-spelt
returns-in-Ok-clause-spelt c = items_got c.len.result (left c.args.tokens.now) (left c.items.new.tokens) c.in-Ok.read.items c.in-Ok.ensures

pub returns-in-Err-At-clause-fault : goal.returns-in-Err-At-clause-fault
returns-in-Err-At-clause-fault c = λ at e.
    let stopped : stops (run (read_items c.len.result) (left c.args.tokens.now)) ≡ Some c.in-Err-At.count =
    subst (λ fail. Refuses fail (run (read_items c.len.result) (left c.args.tokens.now))) c.in-Err-At.field-0-is c.in-Err-At.ensures in
    let same : c.place.result ≡ at = cc (e) in
    subst (GoesWrongAt (left c.args.tokens.now) c.args.end) (sym (ap (λ ts. first_place ts c.args.end) c.at_left.ensures) ∙ sym c.place.ensures ∙ same)
    (items_stop c.len.result c.in-Err-At.count c.args.end (left c.args.tokens.now) (omega (arith, c.len.ensures)) stopped)
