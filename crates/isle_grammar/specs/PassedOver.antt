-- What may stand in a list that is passed over.
use Rattle.std.specs.Prelude.{ℕ, List, [], ◌∷◌}

-- a word, a sign, or a list of such things
mutual
  pub data Any : Type 0 where
    Word : List ℕ → Any
    At : Any
    Less : Any
    Greater : Any
    Nested : Anys → Any

  -- such things in order
  pub data Anys : Type 0 where
    NoAny : Anys
    AnAny : Any → Anys → Anys

-- things of a list
abbrev pub anys_of : List Any → Anys
anys_of [] = NoAny
anys_of (a ∷ more) = AnAny a (anys_of more)
