-- What a text without a prefix is.
use Rattle.std.proofs.Common.{◌≡◌, ℕ, ◌+◌, List, [], ◌∷◌, ◌++◌, length, drop, Bool, true, false, cond, eqb, Option, Some, None, refl, sym, ap, ◌∙◌}
use Rattle.std.specs.Prelude.{MatchOption}
use Rattle.std.specs.Option.{option_copied}
use Rattle.std.specs.Str.Pattern.{FindsTextPrefix, LacksTextAt}
use Rattle.std.proofs.lemmas.Bool.{eq-eqb, eqb-true}
use denote.Ref.{Bor}
use Rattle.isle_core.specs.Printed.{after_prefix}

after_here : (prefix rest : List ℕ) → after_prefix prefix (prefix ++ rest) ≡ Some rest
after_here [] rest = refl
after_here (p ∷ prefix) rest = rw (eq-eqb p p refl) (after_here prefix rest)

after_found : (prefix name rest : List ℕ) → after_prefix prefix name ≡ Some rest → name ≡ prefix ++ rest
after_found [] name rest e = cc
after_found (p ∷ prefix) [] rest e = absurd cc
after_found (p ∷ prefix) (b ∷ name) rest e = one (eqb b p) refl (after_found prefix name rest) e
  where
    one : (x : Bool) → eqb b p ≡ x → (after_prefix prefix name ≡ Some rest → name ≡ prefix ++ rest) → cond x (after_prefix prefix name) None ≡ Some rest → b ∷ name ≡ p ∷ (prefix ++ rest)
    one true same tail found = let t = tail found in let h = eqb-true b p same in cc
    one false differ tail found = absurd cc

after_none : (prefix name : List ℕ) (r : Option (List ℕ)) → after_prefix prefix name ≡ r → LacksTextAt prefix name 0 → None ≡ r
after_none prefix name None e lacks = refl
after_none prefix name (Some rest) e lacks = absurd (lacks rest (after_found prefix name rest e))

-- what `strip_prefix` gives
pub strip_is : (prefix name : List ℕ) (r : Option (Bor (List ℕ)))
    → MatchOption r (FindsTextPrefix prefix name None) (λ x. (n : ℕ) × FindsTextPrefix prefix name (Some n) × (x.now ≡ drop n name) × (length x.now + n ≡ length name))
    → option_copied r ≡ after_prefix prefix name
strip_is prefix name None h = after_none prefix name (after_prefix prefix name) refl h
strip_is prefix name (Some x) h =
    let split : name ≡ prefix ++ x.now = h.1.1 ∙ ap (λ rest. prefix ++ rest) (sym h.2) in
    sym (ap (after_prefix prefix) split ∙ after_here prefix x.now)
