use Rattle.std.proofs.Common.{◌≡◌, rules, [], ℕ, List, ap, ◌∙◌}
use Rattle.std.specs.Prelude.{fold, is_some, not}
use Rattle.std.specs.List.{list_any}
use Rattle.isle_ast.specs.Views.{pattern}
use Rattle.isle_declarations.specs.Symbols.{index_of}
use Rattle.isle_terms.specs.NewVariables.{joined, variables_in}
use Rattle.isle_terms.specs.Scope.{no_variables}
use Rattle.isle_terms.proofs.NamesIn.{names_same}
use Rattle.isle_terms.proofs.new_variables.misses_variable.Goals as goal

pub returns : goal.returns
returns c =
    let names : c.join_pattern.new.new ≡ fold (joined no_variables) [] (variables_in (pattern c.args.p.now)) = search rules in
    c.misses_one.ensures ∙ ap (λ (names : List (List ℕ)). list_any (λ (name : List ℕ). not (is_some (index_of names name))) c.args.wanted.now) names ∙ names_same c.args.wanted.now (variables_in (pattern c.args.p.now))
