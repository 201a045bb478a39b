use Rattle.std.proofs.Common.{rules, ◌≡◌, ◌∷◌, ◌∙◌, sym, ap, Some}
use Rattle.isle_tables.specs.FormatNames.{at_name}
use Rattle.isle_tables.specs.Resolved.{first_place, resolved, first_lost}
use Rattle.isle_tables.proofs.ResolvedSteps.{in_front_of, resolved_more, lost_more}
use Rattle.isle_tables.proofs.resolved.instructions.Goals as goal

pub loop-row-preserved : goal.loop-row-preserved
loop-row-preserved c =
    let fs = c.args.formats.now in
    let row = c.in-Some.row in
    let place = c.in-Some-get.place.now in
    let split : c.loop-row.row-iterator.rest.items ≡ c.in-Some.row ∷ c.next.new.self.rest.items = search rules in
    let got : at_name c.in_ok-places.places c.as_str.result.now ≡ Some c.in-Some-get.place.now = search rules in
    let named : first_place c.args.formats.now c.in-Some.row.format ≡ Some c.in-Some-get.place.now = sym (c.in_ok-places.ensures row.format) ∙ ap (at_name c.in_ok-places.places) (sym c.as_str.ensures) ∙ got in
    record {
      resolves = resolved_more fs row c.next.new.self.rest.items place c.loop-row.instructions.items c.push.new.self.items (resolved fs c.args.rows.items) named (search rules)
          (ap (λ rows. in_front_of c.loop-row.instructions.items (resolved fs rows)) (sym split) ∙ c.loop-row.invariant.resolves);
      loses = lost_more fs row c.next.new.self.rest.items place (first_lost fs c.args.rows.items) named (ap (λ rows. first_lost fs rows) (sym split) ∙ c.loop-row.invariant.loses);
    }
