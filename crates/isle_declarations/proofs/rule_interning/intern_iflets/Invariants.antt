use Rattle.std.proofs.Common.{◌≡◌, fold, map}
use Rattle.std.specs.Prelude.{drop, flat_map}
use Rattle.isle_ast.specs.Views.{iflet}
use Rattle.isle_declarations.specs.Symbols.{added}
use Rattle.isle_declarations.specs.Names.{iflet_names}
use Rattle.isle_declarations.proofs.rule_interning.intern_iflets.Given as goal

abbrev pub invariant-loop-condition : goal.invariant-loop-condition
invariant-loop-condition l = fold added l.fn.names (flat_map iflet_names (map iflet l.fn.iflets)) ≡ fold added l.names (flat_map iflet_names (map iflet (drop l.condition-index l.fn.iflets)))
