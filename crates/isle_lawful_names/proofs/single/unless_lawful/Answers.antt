use Rattle.isle_lawful_names.proofs.FoundLaws.{one_unlawful}
use Rattle.isle_lawful_names.proofs.single.unless_lawful.Goals as goal

pub returns-else-lawful : goal.returns-else-lawful
returns-else-lawful c = λ env claim is name usage. one_unlawful env claim c.args.usage c.args.name (λ h. let k = is.1 h in let f = c.if-lawful.false in absurd cc) name usage
