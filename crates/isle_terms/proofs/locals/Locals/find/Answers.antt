use Rattle.std.proofs.Common.{◌≡◌, rules, sym, ap, ◌∙◌}
use Rattle.std.specs.Prelude.{option_map}
use Rattle.isle_terms.specs.Locals.{of_patterns, local_named}
use Rattle.isle_terms.specs.Scope.{Local, Scope}
use Rattle.isle_terms.proofs.LocalLaws.{latest_found, found_inner, found_outer}
use Rattle.isle_terms.proofs.locals.Locals.find.Goals as goal

pub returns-in-Some : goal.returns-in-Some
returns-in-Some c = found_inner (of_patterns c.args.self.now.patterns) c.args.self.now.lets c.args.name.now c.of_let.result c.in-Some.found c.of_let.ensures c.in-Some.is

pub returns-in-None : goal.returns-in-None
returns-in-None c =
    let same : c.self.inside.patterns.now ≡ c.args.self.now.patterns = search rules in
    found_outer (of_patterns c.args.self.now.patterns) c.args.self.now.lets c.args.name.now c.of_let.result c.find.result c.of_let.ensures c.in-None.is
    (c.find.ensures ∙ ap (option_map (λ (l : Local). (l.ty, l.number))) (sym (latest_found c.self.inside.patterns.now.variables c.args.name.now)) ∙ ap (λ (s : Scope). option_map (λ (l : Local). (l.ty, l.number)) (local_named (of_patterns s) c.args.name.now)) same)
