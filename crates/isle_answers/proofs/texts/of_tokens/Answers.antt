use Rattle.std.proofs.Common.{◌≡◌, ◌∙◌, sym, ap, subst, arith, Some}
use Rattle.isle_reading.specs.Reader.{run}
use Rattle.isle_reading.specs.Places.{first_place}
use Rattle.isle_reading.specs.Views.{left, stops, Refuses}
use Rattle.isle_answers.specs.Reading.{read_forms}
use Rattle.isle_answers.specs.Views.{forms_seen}
use Rattle.isle_answers.proofs.Files.{forms_got, forms_stop}
use Rattle.isle_answers.proofs.texts.of_tokens.Goals as goal

pub returns-in-Ok-clause-spelt : goal.returns-in-Ok-clause-spelt
returns-in-Ok-clause-spelt c = forms_got c.len.result (left c.args.tokens.now) (left c.all_forms.new.tokens) (forms_seen c.in-Ok.read.items) c.in-Ok.ensures

pub returns-in-Err-At-clause-fault : goal.returns-in-Err-At-clause-fault
returns-in-Err-At-clause-fault c = λ at e.
    let stopped : stops (run (read_forms c.len.result) (left c.args.tokens.now)) ≡ Some c.in-Err-At.count =
    subst (λ fail. Refuses fail (run (read_forms c.len.result) (left c.args.tokens.now))) c.in-Err-At.field-0-is c.in-Err-At.ensures in
    let same : c.place.result ≡ at = cc (e) in
    record {
      left = c.in-Err-At.count;
      fault = forms_stop c.len.result c.in-Err-At.count (left c.args.tokens.now) (omega (arith, c.len.ensures)) stopped;
      stands = sym same ∙ c.place.ensures ∙ ap (λ ts. first_place ts c.args.end) c.at_left.ensures;
    }
