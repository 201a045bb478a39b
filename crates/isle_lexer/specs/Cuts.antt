-- Where a text may be cut: a token begins and ends between characters.
use Rattle.std.specs.Prelude.{ℕ, ◌<◌, ◌≤◌, List, length, IsCharBoundary}
use Rattle.std.specs.List.{AllByRecursion}
use Rattle.std.proofs.Props.{props}
use Rattle.isle_lexer.specs.Token.{Tok, State, Between, InWord, AfterOpen, AfterSingle, InLine, InComment}

-- the bytes from the first place to the second are a part of the text, and not empty
pub record IsCut (text : List ℕ) (from to : ℕ) : Type 0 where
  pub some : from < to
  pub within : to ≤ length text
  pub begins : IsCharBoundary text from
  pub ends : IsCharBoundary text to

-- each token is
abbrev pub AreCuts : List ℕ → List Tok → Type 0
AreCuts text = AllByRecursion (λ (t : Tok). IsCut text t.from t.to)

-- a token that was begun began before this place
abbrev pub IsBegun : State → ℕ → Type 0
IsBegun Between at = Unit {0}
IsBegun (InWord from) at = from < at
IsBegun (AfterOpen from) at = from < at
IsBegun (AfterSingle from) at = from < at
IsBegun InLine at = Unit {0}
IsBegun (InComment from outer seen) at = Unit {0}

-- in one way at most
pub IsCut-prop : (text : List ℕ) (from to : ℕ) → IsProp (IsCut text from to)
IsCut-prop text from to = Prim.hlevel props
