use Rattle.std.proofs.Common.{rules, ◌≡◌, ◌-◌, ◌+◌, ℕ, List, ap, sym, ◌∙◌}
use Rattle.isle_meta.specs.declared.clif.InstructionFormat.{InstructionFormat}
use Rattle.isle_tables.specs.FormatNames.{at_name}
use Rattle.isle_tables.proofs.ResolvedSteps.{place_from, places_more}
use Rattle.isle_tables.proofs.resolved.places.Goals as goal

pub loop-index-preserved : goal.loop-index-preserved
loop-index-preserved c =
    let formats = c.args.formats.now in
    let i = c.loop-index.index in
    let next : i ≡ i - 1 + 1 = search rules in
    let were : (name : List ℕ) → at_name c.loop-index.found name ≡ place_from (i - 1 + 1) formats name = λ name. c.loop-index.invariant name ∙ ap (λ n. place_from n formats name) next in
    places_more formats (i - 1) c.index-formats-index.result _ c.as_str.result c.loop-index.found c.insert.new.self (search rules) c.index-formats-index.is (c.as_str.ensures ∙ ap (λ (f : InstructionFormat). f.name) (sym c.index-formats-index.is)) were c.in_ok-insert.ensures.updates
