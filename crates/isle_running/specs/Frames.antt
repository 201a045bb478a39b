-- What a run has bound and called, further on.
use Rattle.std.specs.Prelude.{◌≡◌, ℕ, List, ◌++◌}
use Rattle.isle_running.specs.declared.holding.Holding.{Holding}
use Rattle.isle_running.specs.declared.frame.Frame.{Frame}

-- the locals begin with those, and calls are answered the same
pub record Follows (old new : Frame) : Type 0 where
  pub more : List (ℕ × Holding)
  pub grown : new.locals ≡ old.locals ++ more
  pub same : new.calls.answers ≡ old.calls.answers
