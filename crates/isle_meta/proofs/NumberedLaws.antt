-- A name that is a prefix and a number.
use Rattle.std.proofs.Common.{◌≡◌, ℕ, ◌-◌, ◌<◌, ◌≤◌, List, [], ◌∷◌, length, take, drop, Bool, true, false, refl, sym, ap, ◌∙◌, arith}
use Rattle.std.proofs.lemmas.Bool.Decides.{nat_tests}
use Rattle.std.proofs.lemmas.List.{take_rest}
use Rattle.std.specs.Prelude.{◌&&◌, ◌==◌}
use Rattle.std.specs.Str.{bytes_eq}
use Rattle.isle_spelling.specs.Names.{are_digits, is_numbered}

pub numbered_short : (p w : List ℕ) → length w < length p → is_numbered p w ≡ false
numbered_short [] w lt = absurd (omega arith)
numbered_short (a ∷ p) [] lt = refl
numbered_short (a ∷ p) (b ∷ w) lt = three (a == b) (is_numbered p w) (numbered_short p w (omega arith))
  where
    three : (s t : Bool) → t ≡ false → (s && t) ≡ false
    three true t e = e
    three false t e = refl

-- two numbers are one, whichever stands first
turned : (a b : ℕ) → (a == b) ≡ (b == a)
turned a b = grind (arith, nat_tests)

both : (s t u v w : Bool) → s ≡ t → u ≡ (v && w) → (s && u) ≡ ((t && v) && w)
both true true u v w e k = k
both true false u v w e k = absurd cc
both false true u v w e k = absurd cc
both false false u v w e k = refl

pub numbered_is : (p w : List ℕ) → length p ≤ length w → is_numbered p w ≡ (bytes_eq (take (length p) w) p && are_digits (drop (length p) w))
numbered_is [] w le = refl
numbered_is (a ∷ p) [] le = absurd (omega arith)
numbered_is (a ∷ p) (b ∷ w) le = both (a == b) (b == a) (is_numbered p w) (bytes_eq (take (length p) w) p) (are_digits (drop (length p) w)) (turned a b) (numbered_is p w (omega arith))

-- what two tests come to
pub numbered_both : (p w : List ℕ) (t d : Bool) → length p ≤ length w → t ≡ bytes_eq (take (length p) w) p → t ≡ true → d ≡ are_digits (take (length w - length p) (drop (length p) w)) → d ≡ is_numbered p w
numbered_both p w t d le e k h =
    h ∙ ap are_digits (take_rest w (length p)) ∙ ap (λ b. b && are_digits (drop (length p) w)) (sym k ∙ e) ∙ sym (numbered_is p w le)

pub numbered_first : (p w : List ℕ) (t : Bool) → length p ≤ length w → t ≡ bytes_eq (take (length p) w) p → t ≡ false → t ≡ is_numbered p w
numbered_first p w t le e k = k ∙ ap (λ b. b && are_digits (drop (length p) w)) (sym k ∙ e) ∙ sym (numbered_is p w le)
