-- What the values that are read are.
use Rattle.std.proofs.Common.{◌≡◌, ℕ, List, Option, Some, None, Result, Ok, Err, IfOk, refl, sym}
use Rattle.std.specs.Prelude.{IfSome, option_map}
use Rattle.isle_values.specs.Written.{Writtens}
use Rattle.isle_values.specs.Spelling.{SpellsValues}
use Rattle.isle_values.specs.Reading.{spelt}
use Rattle.isle_values.specs.Views.{seen}
use Rattle.isle_values.specs.declared.written.Written.{Written}
use Rattle.isle_values.proofs.Spelt.{spelt_again, spelt_none}

pub read_spelt : {E : Type 0} (text : List ℕ) (r : Result (Option (List Written)) E) → IfOk r (λ read. IfSome read (λ vs. SpellsValues text (seen vs)))
    → (r ≡ Ok None → (others : Writtens) → SpellsValues text others → ⊥) → IfOk r (λ read. option_map seen read ≡ spelt text)
read_spelt text (Ok (Some vs)) some none = sym (spelt_again text (seen vs) some)
read_spelt text (Ok None) some none = sym (spelt_none text (none refl))
read_spelt text (Err e) some none = tt
