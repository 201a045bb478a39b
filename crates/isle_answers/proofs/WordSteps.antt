-- What the words' functions say, step by step.
use Rattle.std.proofs.Common.{◌≡◌, ℕ, List, length, true, false, ap, sym, ◌∙◌, Option, Some, None}
use Rattle.std.specs.Prelude.{◌==◌, if◌then◌else◌}
use Rattle.std.specs.Option.{option_copied}
use Rattle.isle_core.specs.Printed.{after_prefix}
use Rattle.isle_answers.specs.Words.{some_name, name_after}
use denote.Ref.{Bor}

pub name_after_none : (prefix w : List ℕ) (r : Option (Bor (List ℕ))) → option_copied r ≡ after_prefix prefix w → r ≡ None → None ≡ name_after prefix w
name_after_none prefix w r e is = ap some_name (sym (ap option_copied is) ∙ e)

pub name_after_empty : (prefix w : List ℕ) (r : Option (Bor (List ℕ))) (name : Bor (List ℕ)) → option_copied r ≡ after_prefix prefix w → r ≡ Some name → (length name.now == 0) ≡ true → None ≡ name_after prefix w
name_after_empty prefix w r name e is t = ap (λ b. if b then None else Some name.now) (sym t) ∙ ap some_name (sym (ap option_copied is) ∙ e)

pub name_after_some : (prefix w : List ℕ) (r : Option (Bor (List ℕ))) (name : Bor (List ℕ)) → option_copied r ≡ after_prefix prefix w → r ≡ Some name → (length name.now == 0) ≡ false → Some name.now ≡ name_after prefix w
name_after_some prefix w r name e is t = ap (λ b. if b then None else Some name.now) (sym t) ∙ ap some_name (sym (ap option_copied is) ∙ e)
