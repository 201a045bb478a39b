use Rattle.std.proofs.Common.{◌≡◌, rules, Some, None, true, get_or, refl, ap}
use Rattle.std.specs.Prelude.{is_some}
use Rattle.isle_declarations.specs.Numbered.{place_in}
use Rattle.isle_declarations.proofs.NumberLaws.{put_step, put_found}
use Rattle.isle_declarations.proofs.first_places.first_places.Goals.{then-is_none, else-is_none}
use Rattle.isle_declarations.proofs.first_places.first_places.Goals as goal

pub loop-place-preserved : goal.loop-place-preserved
loop-place-preserved c =
    let numbers = c.args.numbers.now in
    let i = c.loop-place.place in
    let table = c.loop-place.table.items in
    elim c.if-is_none.branch [
      | then-is_none w ↦
          let free : place_in table (Some (get_or numbers i 0)) ≡ None = search rules in
          rw (ap (λ v. v.items) w.table-is) (put_step numbers c.args.count i table c.loop-place-test.true c.requires free c.loop-place.invariant)
      | else-is_none w ↦
          let found : is_some (place_in table (Some (get_or numbers i 0))) ≡ true = search rules in
          rw (ap (λ v. v.items) w.table-is) (put_found numbers c.args.count i table _ c.loop-place-test.true c.requires refl found c.loop-place.invariant)
    ]
