-- The words that lines are made of.
use Rattle.std.specs.Prelude.{◌≡◌, ℕ, ◌+◌, ◌*◌, ◌-◌, ◌≤◌, List, [], ◌∷◌, ◌++◌, length, take, fold, Bool, true, false, not, ◌&&◌, ◌==◌, nat_le, codes}
use Rattle.std.specs.List.{list_all}
use Rattle.std.specs.Str.{bytes_eq}

-- a word may name an input, a unit or a term: it is not empty and does not begin with two dashes
abbrev pub is_name : List ℕ → Bool
is_name [] = false
is_name (b ∷ bs) = not (bytes_eq (take 2 (b ∷ bs)) (codes "--"))

-- 0 to 9
abbrev pub is_digit : ℕ → Bool
is_digit b = nat_le 48 b && nat_le b 57

-- the number that decimal digits spell
abbrev pub decimal_value : List ℕ → ℕ
decimal_value = fold (λ n b. n * 10 + (b - 48)) 0

-- a number below 10 ^ 18 in 1 to 18 decimal digits, zeros in front among them
pub record IsCount (word : List ℕ) (n : ℕ) : Type 0 where
  pub some : 1 ≤ length word
  pub few : length word ≤ 18
  pub digits : list_all is_digit word ≡ true
  pub value : decimal_value word ≡ n

-- the size of a sample: 1 to 10,000 in 1 to 5 decimal digits, zeros in front among them
pub record IsSize (word : List ℕ) (n : ℕ) : Type 0 where
  pub count : IsCount word n
  pub few : length word ≤ 5
  pub some : 1 ≤ n
  pub most : n ≤ 10000

-- a prefix, up to the first =, and the name after it
pub record IsPrefix (word prefix name : List ℕ) : Type 0 where
  pub parts : word ≡ prefix ++ 61 ∷ name
  pub first : list_all (λ b. not (b == 61)) prefix ≡ true
  pub named : is_name name ≡ true
