use Rattle.std.proofs.Common.{◌≡◌, fold, map}
use Rattle.std.specs.Prelude.{drop}
use Rattle.isle_ast.specs.Views.{pattern, patterns_of}
use Rattle.isle_declarations.specs.Symbols.{added}
use Rattle.isle_declarations.specs.Names.{patterns_names}
use Rattle.isle_declarations.proofs.pattern_interning.+patterns.Given as goal

abbrev pub invariant-intern_patterns-loop-p : goal.invariant-intern_patterns-loop-p
invariant-intern_patterns-loop-p l = fold added l.fn.names (patterns_names (patterns_of (map pattern l.fn.patterns))) ≡ fold added l.names (patterns_names (patterns_of (map pattern (drop l.p-index l.fn.patterns))))
