-- The name of a variant, in a written name.
use Rattle.std.proofs.Common.{◌≡◌, ℕ, List, Option, Some, None, sym, ap, ◌∙◌}
use Rattle.std.specs.Prelude.{option_and_then, codes}
use Rattle.std.specs.Option.{option_copied}
use denote.Ref.{Bor}
use Rattle.isle_core.specs.Printed.{after_prefix}
use Rattle.isle_run_inputs.specs.Makers.{variant_part}

-- after the name of the type stands what may begin with a point
pub part_after : (ty name : List ℕ) (r s : Option (Bor (List ℕ))) (rest : Bor (List ℕ)) → option_copied r ≡ after_prefix ty name → r ≡ Some rest → option_copied s ≡ after_prefix (codes ".") rest.now → option_copied s ≡ variant_part ty name
part_after ty name r s rest first is behind = behind ∙ ap (option_and_then (after_prefix (codes "."))) (sym (ap option_copied is) ∙ first)

-- nothing stands there
pub part_none : (ty name : List ℕ) (r : Option (Bor (List ℕ))) → option_copied r ≡ after_prefix ty name → r ≡ None → None ≡ variant_part ty name
part_none ty name r first is = ap (option_and_then (after_prefix (codes "."))) (sym (ap option_copied is) ∙ first)
