-- The results that values are, one by one.
use Rattle.std.proofs.Common.{◌≡◌, List, [], ◌∷◌, ◌++◌, append-nil, append_assoc, map, refl, ap, sym, ◌∙◌, Option, Some, None}
use Rattle.std.specs.Prelude.{option_map}
use Rattle.std.proofs.lemmas.List.{map-append}
use Rattle.isle_values.specs.Written.{Written, Writtens, NoValue, AValue}
use Rattle.isle_answers.specs.Form.{ResultForm}
use Rattle.isle_answers.specs.Reading.{result_is, with_result, results_are}

-- results in front of those that values are
abbrev pub results_front : List ResultForm → Option (List ResultForm) → Option (List ResultForm)
results_front xs o = option_map (λ rs. xs ++ rs) o
