use Rattle.std.proofs.Common.{rules, ◌≡◌, ◌<◌, [], ◌∷◌, ◌++◌, length, Some, None, refl, sym, ◌∙◌, arith}
use Rattle.std.specs.BTreeMap.{get}
use Rattle.isle_blocks.specs.declared.gathering.Group.{Group}
use Rattle.isle_blocks.specs.Ways.{constraint_cmp}
use Rattle.isle_blocks.proofs.AddedWays.{place_within, added_there, places_kept, added_new, placed_new}
use Rattle.isle_blocks.proofs.gathering.add.Goals as goal

pub index_mut-requires : goal.index_mut-requires
index_mut-requires c =
    let there : get constraint_cmp c.args.places.now c.args.constraint ≡ Some c.in-Some.place = search rules in
    let lt : c.in-Some.place < length c.args.groups.now.items = place_within c.args.constraint c.args.groups.now.items c.in-Some.place (sym (c.requires c.args.constraint) ∙ there) in
    omega (arith, lt, c.args.groups.now.ok.0)

pub returns-in_ok-push-in-Some-clause-added : goal.returns-in_ok-push-in-Some-clause-added
returns-in_ok-push-in-Some-clause-added c =
    let there : get constraint_cmp c.args.places.now c.args.constraint ≡ Some c.in-Some.place = search rules in
    let more : c.push.new.self.items ≡ c.index_mut.result.now.ways.items ++ c.args.way ∷ [] = search rules in
    added_there c.args.constraint c.args.way c.args.groups.now.items c.in-Some.place c.index_mut.result.now _ _ (sym (c.requires c.args.constraint) ∙ there) c.index_mut.ensures.value refl more

pub returns-in_ok-push-in-Some-clause-placed : goal.returns-in_ok-push-in-Some-clause-placed
returns-in_ok-push-in-Some-clause-placed c = λ q.
    c.requires q ∙ places_kept q c.args.groups.now.items c.in-Some.place c.index_mut.result.now (record { constraint = c.index_mut.result.now.constraint; ways = c.push.new.self }) _ c.index_mut.ensures.value refl

pub returns-in_ok-push-in-None-clause-added : goal.returns-in_ok-push-in-None-clause-added
returns-in_ok-push-in-None-clause-added c =
    let none : get constraint_cmp c.args.places.now c.args.constraint ≡ None = search rules in
    let new : Group = record { constraint = c.args.constraint; ways = c.in_ok-vec-in-None.field-0 } in
    let more : c.push-in-None.new.self.items ≡ c.args.groups.now.items ++ new ∷ [] = search rules in
    let one : c.in_ok-vec-in-None.field-0.items ≡ c.args.way ∷ [] = search rules in
    added_new c.args.constraint c.args.way c.args.groups.now.items c.push-in-None.new.self.items new (sym (c.requires c.args.constraint) ∙ none) more refl one

pub returns-in_ok-push-in-None-clause-placed : goal.returns-in_ok-push-in-None-clause-placed
returns-in_ok-push-in-None-clause-placed c =
    let none : get constraint_cmp c.args.places.now c.args.constraint ≡ None = search rules in
    let new : Group = record { constraint = c.args.constraint; ways = c.in_ok-vec-in-None.field-0 } in
    let more : c.push-in-None.new.self.items ≡ c.args.groups.now.items ++ new ∷ [] = search rules in
    let one : c.in_ok-vec-in-None.field-0.items ≡ c.args.way ∷ [] = search rules in
    placed_new c.args.constraint c.args.way c.args.groups.now.items c.push-in-None.new.self.items new (sym (c.requires c.args.constraint) ∙ none) more refl one c.args.places.now c.insert.new.self c.len.result c.requires
    (search rules) (search rules)
