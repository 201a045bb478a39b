use Rattle.std.proofs.Common.{arith, rules, sym, ◌∙◌}
use Rattle.std.proofs.lemmas.Grind.{common_steps}
use Rattle.isle_outside.proofs.PlaceLaws.{gives_part, left_at, reads_within}
use Rattle.isle_outside.proofs.mem_dir.MemDirDir.next.Goals as goal

pub returns-clause-gives : goal.returns-clause-gives
returns-clause-gives c =
    let state = sym (c.fails_now.ensures.state c.if-fails_now.false) ∙ c.in-Reading.is in
    let within = reads_within c.fails_now.new.self.files.items c.in-Reading.file c.in-Reading.at (rw (state, ← c.fails_now.ensures.files) at c.requires.reading) in
    rw (state, ← c.fails_now.ensures.files)
    (gives_part c.fails_now.new.self.files.items c.in-Reading.file c.in-Reading.at c.min-n.result c.index.result.now _ within (search rules) (search rules) (search rules) (search (rules, common_steps)))

pub returns-clause-most : goal.returns-clause-most
returns-clause-most c =
    let state = sym (c.fails_now.ensures.state c.if-fails_now.false) ∙ c.in-Reading.is in
    let within = reads_within c.fails_now.new.self.files.items c.in-Reading.file c.in-Reading.at (rw (state, ← c.fails_now.ensures.files) at c.requires.reading) in
    rw (state, ← c.fails_now.ensures.files, left_at c.fails_now.new.self.files.items c.in-Reading.file c.in-Reading.at c.index.result.now within (search rules))
    (grind (arith, common_steps, c.fails_now.ensures.counts))
