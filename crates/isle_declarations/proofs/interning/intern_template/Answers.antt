use Rattle.std.proofs.Common.{◌≡◌, rules, Some}
use Rattle.isle_ast.specs.Views.{pattern}
use Rattle.isle_declarations.specs.Names.{pattern_names}
use Rattle.isle_declarations.specs.Symbols.{index_of}
use Rattle.isle_declarations.proofs.Gathered.{stays_numbered}
use Rattle.isle_declarations.proofs.interning.intern_template.Goals as goal

pub returns-clause-number : goal.returns-clause-number
returns-clause-number c =
    let at : index_of c.intern.new.self c.args.term.now ≡ Some c.in_ok-number.number = search rules in
    let after : index_of c.intern_names.new.names c.args.term.now ≡ Some c.in_ok-number.number = stays_numbered c.args.params.now c.intern.new.self c.intern_names.new.names c.args.term.now c.in_ok-number.number c.in_ok-intern_names.ensures at in
    stays_numbered (pattern_names (pattern c.args.template.now)) c.intern_names.new.names c.intern_pattern.new.names c.args.term.now c.in_ok-number.number c.in_ok-intern_pattern.ensures after
