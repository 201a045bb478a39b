-- How many of the results a function appends, and which calls it makes.
use Rattle.std.specs.Prelude.{ℕ, zero, suc, ◌-◌, List, [], ◌∷◌}
use Rattle.isle_core.specs.Parts.{Given}
use Rattle.isle_core.specs.Space.{Space, room}
use Rattle.isle_core.specs.Value.{Value, Made, GivesList, Ran}

-- the first results, at most so many and one more, and the calls made up to the last of them; all calls if there are fewer
abbrev pub cut_after : ℕ → List (Value × List Made) → List Made → List Value × List Made
cut_after k [] calls = ([], calls)
cut_after zero (r ∷ rs) calls = (r.0 ∷ [], r.1)
cut_after (suc k) (r ∷ rs) calls = (r.0 ∷ (cut_after k rs calls).0, (cut_after k rs calls).1)

-- how many results are appended at most, less one: one is appended whatever the list holds
abbrev pub room_after_one : Space → ℕ
room_after_one space = room space - 1

-- what a function leaves whose rules or whose block give this
abbrev pub cut_run : Space → Given → Ran
cut_run space g = record {
  end = GivesList (cut_after (room_after_one space) g.results g.calls).0;
  calls = (cut_after (room_after_one space) g.results g.calls).1;
}
