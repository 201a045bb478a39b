use Rattle.std.proofs.Common.{◌≡◌, rules, map, flat_map, Some}
use Rattle.isle_ast.specs.Views.{pattern, patterns_of, iflet, expr}
use Rattle.isle_declarations.specs.Symbols.{index_of}
use Rattle.isle_declarations.specs.Names.{patterns_names, iflet_names, expr_names}
use Rattle.isle_declarations.proofs.Interned.{rule_interned}
use Rattle.isle_declarations.proofs.Gathered.{stays_numbered}
use Rattle.isle_declarations.proofs.rule_interning.intern_rule.Goals as goal

pub returns-clause-names : goal.returns-clause-names
returns-clause-names c =
    rule_interned c.args.names.now c.intern_name.new.names c.intern.new.self c.intern_patterns.new.names c.intern_iflets.new.names c.intern_expr.new.names c.args.name.now c.args.term.now (map pattern c.args.args.now) (map iflet c.args.iflets.now)
    (expr c.args.rhs.now) c.in_ok-intern_name.ensures (search rules) c.in_ok-intern_patterns.ensures c.in_ok-intern_iflets.ensures c.in_ok-intern_expr.ensures

pub returns-clause-number : goal.returns-clause-number
returns-clause-number c =
    let at : index_of c.intern.new.self c.args.term.now ≡ Some c.in_ok-number.number = search rules in
    let after : index_of c.intern_patterns.new.names c.args.term.now ≡ Some c.in_ok-number.number =
    stays_numbered (patterns_names (patterns_of (map pattern c.args.args.now))) c.intern.new.self c.intern_patterns.new.names c.args.term.now c.in_ok-number.number c.in_ok-intern_patterns.ensures at in
    let behind : index_of c.intern_iflets.new.names c.args.term.now ≡ Some c.in_ok-number.number =
    stays_numbered (flat_map iflet_names (map iflet c.args.iflets.now)) c.intern_patterns.new.names c.intern_iflets.new.names c.args.term.now c.in_ok-number.number c.in_ok-intern_iflets.ensures after in
    stays_numbered (expr_names (expr c.args.rhs.now)) c.intern_iflets.new.names c.intern_expr.new.names c.args.term.now c.in_ok-number.number c.in_ok-intern_expr.ensures behind
