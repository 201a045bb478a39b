use Rattle.std.proofs.Common.{◌≡◌, ◌≤◌, ◌+◌, ◌-◌, ◌^◌, vec_len}
use Rattle.isle_outside.specs.Directory.{IsReading}
use Rattle.isle_outside.specs.Reading.{Front}
use Rattle.isle_outside.proofs.reading.rest.Given as goal

abbrev pub invariant-read : goal.invariant-read
invariant-read g l = record {
  reading : IsReading (g.D.Dir.current l.dir);
  front : Front (g.D.Dir.current l.fn.dir) (g.D.Dir.current l.dir) l.bytes.items;
  small : vec_len l.bytes ≤ 2 ^ 24;
  files : g.D.Dir.files l.dir ≡ g.D.Dir.files l.fn.dir;
  faults : (g.D.Dir.counts l.dir).faults ≡ (g.D.Dir.counts l.fn.dir).faults;
  finds : (g.D.Dir.counts l.dir).finds ≡ (g.D.Dir.counts l.fn.dir).finds;
  given : (g.D.Dir.counts l.dir).given ≤ (g.D.Dir.counts l.fn.dir).given + vec_len l.bytes;
}

abbrev pub decreases-read : goal.decreases-read
decreases-read g l = 2 ^ 24 - vec_len l.bytes
