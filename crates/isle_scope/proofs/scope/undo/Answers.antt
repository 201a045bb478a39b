use Rattle.std.proofs.Common.{List, ◌++◌, ap, ◌∙◌, subst}
use Rattle.std.specs.Prelude.{option_to_list}
use Rattle.isle_scope.specs.declared.entry.Entry.{Entry}
use Rattle.isle_scope.specs.Log.{Finds}
use Rattle.isle_scope.specs.Places.{look_in}
use Rattle.isle_scope.proofs.PlaceLaws.{finds_less, last_is}
use Rattle.isle_scope.proofs.scope.undo.Goals as goal

pub restore-requires : goal.restore-requires
restore-requires c =
    last_is c.pop.new.self.items (look_in c.args.places.now) c.in-Some.entry
    (subst (λ (es : List Entry). Finds es (look_in c.args.places.now)) (c.pop.ensures.items ∙ ap (λ o. c.pop.new.self.items ++ option_to_list o) c.in-Some.is) c.requires)

pub returns-in-Some-clause-keeps : goal.returns-in-Some-clause-keeps
returns-in-Some-clause-keeps c =
    finds_less c.pop.new.self.items (look_in c.args.places.now) (look_in c.restore.new.self) c.in-Some.entry
    (subst (λ (es : List Entry). Finds es (look_in c.args.places.now)) (c.pop.ensures.items ∙ ap (λ o. c.pop.new.self.items ++ option_to_list o) c.in-Some.is) c.requires)
    c.restore.ensures
