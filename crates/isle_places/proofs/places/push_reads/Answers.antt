use Rattle.std.proofs.Common.{rules, ◌<◌, length}
use Rattle.isle_places.specs.Places.{reads_places}
use Rattle.isle_places.specs.Signatures.{type_names}
use Rattle.isle_places.specs.ToldViews.{told, placed}
use Rattle.isle_places.proofs.PlacesAt.{reads_step}
use Rattle.isle_places.proofs.places.push_reads.Goals as goal

pub loop-index-preserved : goal.loop-index-preserved
loop-index-preserved c =
    let low : c.loop-index.index < length c.args.reads.now = search rules in
    reads_step c.args.reads.now c.loop-index.index c.args.params.now c.index-reads-index.result c.index-reads-index.result c.operand_of.result.now (told c.param_told.result) (placed c.args.found.now.items) (placed c.loop-index.found.items) (placed c.push_at.new.found.items)
    (reads_places c.args.reads.now (type_names c.args.params.now)) low c.index-reads-index.is c.operand_of.ensures c.param_told.ensures c.in_ok-push_at.ensures c.loop-index.invariant
