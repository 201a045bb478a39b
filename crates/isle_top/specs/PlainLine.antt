-- A line that reads no files and is always valid.
use Rattle.std.specs.Prelude.{ℕ, List, [], false}
use Rattle.isle_top.specs.Job.{Job}
use Rattle.isle_top.specs.Wants.{IsWant}

-- a text of which this is so answers the line, and memory alone can be wanting
abbrev pub plain_job : (List ℕ → Type 0) → Job
plain_job Is = record {
  reads = false;
  inputs = [];
  asked = [];
  unit = [];
  valid = λ files. Unit {0};
  gives = λ files text. Is text;
  fails = λ e around. IsWant e;
}
