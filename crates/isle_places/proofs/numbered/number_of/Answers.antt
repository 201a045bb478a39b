use Rattle.std.proofs.Common.{ap, ◌∙◌}
use Rattle.std.specs.Result.{result_ok}
use Rattle.std.proofs.lemmas.Fmt.{parse-decimal}
use Rattle.isle_places.proofs.numbered.number_of.Goals as goal

pub returns : goal.returns
returns c index lt is = c.ok.ensures.value ∙ ap result_ok (parse-decimal 64 index c.args.name.now c.parse.result lt lt is c.parse.ensures.value.0)
