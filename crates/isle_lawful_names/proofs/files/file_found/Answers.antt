use Rattle.std.proofs.Common.{refl}
use Rattle.isle_lawful_names.specs.Claims.{OfFile}
use Rattle.isle_lawful_names.specs.Words.{is_file_name}
use Rattle.isle_lawful_names.proofs.FoundLaws.{as_test}
use Rattle.isle_lawful_names.proofs.files.file_found.Goals as goal

pub returns : goal.returns
returns c = λ env. c.unless_lawful.ensures env (OfFile c.args.name.now) (as_test c.is_file_name.result (is_file_name c.args.name.now) c.is_file_name.ensures) refl refl
