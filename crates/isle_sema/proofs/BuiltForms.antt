-- What a declaration that is built is.
use Rattle.std.proofs.Common.{◌≡◌, Bool, true, false, sym, ◌∙◌}
use Rattle.isle_declarations.specs.Signatures.{Signature}

-- no truth is both
pub no_both : {b : Bool} → b ≡ true → b ≡ false → ⊥
no_both e f = let bad : true ≡ false = sym e ∙ f in cc

-- a declaration that is not `multi`
abbrev pub IsPlain : Signature → Type 0
IsPlain s = s.multi ≡ false
