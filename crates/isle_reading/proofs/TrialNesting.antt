-- How deep small lists of tokens nest.
use Rattle.std.proofs.Common.{◌≡◌, [], ◌∷◌, List, ℕ, refl}
use Rattle.std.specs.Prelude.{codes}
use Rattle.isle_lexer.specs.Lexeme.{Lexeme, Open, Close, At, Word}
use Rattle.isle_reading.specs.Nesting.{depth}

abbrev o : Lexeme
o = Open 0

abbrev c : Lexeme
c = Close 0

abbrev a : Lexeme
a = At 0

abbrev w : List ℕ → Lexeme
w = Word 0

-- (rule (f x @ y @
pub two_signs : depth (o ∷ w (codes "rule") ∷ o ∷ w (codes "f") ∷ w (codes "x") ∷ a ∷ w (codes "y") ∷ a ∷ []) ≡ 4
two_signs = refl

-- (rule (f x @ y z @ : the first pattern ends with y
pub one_sign : depth (o ∷ w (codes "rule") ∷ o ∷ w (codes "f") ∷ w (codes "x") ∷ a ∷ w (codes "y") ∷ w (codes "z") ∷ a ∷ []) ≡ 3
one_sign = refl

-- (rule (f x @ (g y) z @ : the first pattern ends with its list
pub closed_list : depth (o ∷ w (codes "rule") ∷ o ∷ w (codes "f") ∷ w (codes "x") ∷ a ∷ o ∷ w (codes "g") ∷ w (codes "y") ∷ c ∷ w (codes "z") ∷ a ∷ []) ≡ 4
closed_list = refl

-- (rule (f x @ (g y @ (h
pub nested_signs : depth (o ∷ w (codes "rule") ∷ o ∷ w (codes "f") ∷ w (codes "x") ∷ a ∷ o ∷ w (codes "g") ∷ w (codes "y") ∷ a ∷ o ∷ w (codes "h") ∷ []) ≡ 6
nested_signs = refl

-- (rule (f x @ y) (g (h : after the list no `@` is open
pub behind_list : depth (o ∷ w (codes "rule") ∷ o ∷ w (codes "f") ∷ w (codes "x") ∷ a ∷ w (codes "y") ∷ c ∷ o ∷ w (codes "g") ∷ o ∷ w (codes "h") ∷ []) ≡ 3
behind_list = refl

-- (spec (f x @ y @ z) @ (g (h : in a list that is passed over only parentheses count
pub passed_list : depth (o ∷ w (codes "spec") ∷ o ∷ w (codes "f") ∷ w (codes "x") ∷ a ∷ w (codes "y") ∷ a ∷ w (codes "z") ∷ c ∷ a ∷ o ∷ w (codes "g") ∷ o ∷ w (codes "h") ∷ []) ≡ 3
passed_list = refl

-- (spec) (rule x @ : after it they count again
pub behind_passed : depth (o ∷ w (codes "spec") ∷ c ∷ o ∷ w (codes "rule") ∷ w (codes "x") ∷ a ∷ []) ≡ 2
behind_passed = refl

-- (rule (spec x @ : it is a list at the top that is passed over
pub inner_word : depth (o ∷ w (codes "rule") ∷ o ∷ w (codes "spec") ∷ w (codes "x") ∷ a ∷ []) ≡ 3
inner_word = refl
