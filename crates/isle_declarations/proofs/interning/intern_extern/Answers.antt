use Rattle.std.proofs.Common.{◌≡◌, rules, [], ◌∷◌, Some}
use Rattle.isle_declarations.specs.Symbols.{index_of}
use Rattle.isle_declarations.proofs.Gathered.{stays_numbered}
use Rattle.isle_declarations.proofs.interning.intern_extern.Goals as goal

pub returns-clause-numbers : goal.returns-clause-numbers
returns-clause-numbers c =
    let at : index_of c.intern.new.self c.args.term.now ≡ Some c.in_ok-number.number = search rules in
    (stays_numbered (c.args.func.now ∷ []) c.intern.new.self c.intern-2.new.self c.args.term.now c.in_ok-number.number (search rules) at, search rules)
