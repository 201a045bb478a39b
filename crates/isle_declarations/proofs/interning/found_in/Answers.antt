use Rattle.isle_declarations.proofs.Gathered.{gathered_more}
use Rattle.isle_declarations.proofs.interning.found_in.Goals as goal

pub loop-given-preserved : goal.loop-given-preserved
loop-given-preserved c =
    gathered_more c.args.defs.now c.loop-given.given-index c.given-item.result _ c.in_ok-item.item c.loop-given.symbols c.intern_def.new.names c.loop-given.signatures.items c.keep.new.signatures.items c.loop-given.externs.items c.keep.new.externs.items c.loop-given.extractors.items c.keep.new.extractors.items c.loop-given.rules.items
    c.keep.new.rules.items c.loop-given-test.true c.given-item.is c.in_ok-item.ensures.names c.in_ok-item.ensures.item c.in_ok-keep.ensures.signatures c.in_ok-keep.ensures.externs c.in_ok-keep.ensures.extractors c.in_ok-keep.ensures.rules c.loop-given.invariant
