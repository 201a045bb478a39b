-- What contracts see of the code's values, form by form.
use Rattle.std.proofs.Common.{◌≡◌, ℕ, List, map, Bool, ap, sym, ◌∙◌}
use Rattle.isle_lexer.specs.SignedViews.{signed}
use Rattle.isle_lexer.specs.declared.integer.Signed.{Signed}
use Rattle.isle_values.specs.declared.written.Written.{Written as CodeWritten}
use Rattle.isle_values.specs.declared.written.Written.TheVariants as code
use Rattle.isle_values.specs.declared.written.Written.TheFolds.{fold-roll-Written}
use Rattle.isle_values.specs.Written.{Written, Truth, Number, Made}
use Rattle.isle_values.specs.Views.{in_order, written, written_step}

pub written-bool : (b : Bool) → written (code.Bool b) ≡ Truth b
written-bool b = ap written (sym (code.rolls-Bool b)) ∙ fold-roll-Written Written written_step _

pub written-number : (n : Signed) → written (code.Number n) ≡ Number (signed n)
written-number n = ap written (sym (code.rolls-Number n)) ∙ fold-roll-Written Written written_step _

pub written-made : (name : List ℕ) (parts : List CodeWritten) → written (code.Made name parts) ≡ Made name (in_order (map written parts))
written-made name parts = ap written (sym (code.rolls-Made name parts)) ∙ fold-roll-Written Written written_step _

pub ruleset sees = (written-bool, written-number, written-made)
