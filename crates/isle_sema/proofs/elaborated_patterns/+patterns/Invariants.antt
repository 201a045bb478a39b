use Rattle.std.proofs.Common.{map, Some}
use Rattle.isle_ast.specs.Views.{pattern, patterns_of, defs as seen}
use Rattle.isle_terms.specs.Whole.{whole_of}
use Rattle.isle_sema.specs.PatternPass.{patterns_pass}
use Rattle.isle_sema.proofs.Steps.{AreMade, patterns_left}
use Rattle.isle_sema.proofs.elaborated_patterns.+patterns.Given as goal

abbrev pub invariant-patterns_at-loop-index : goal.invariant-patterns_at-loop-index
invariant-patterns_at-loop-index l =
    AreMade (seen l.known) (patterns_pass (whole_of (seen l.known)) (map Some l.types) l.fn.vars (patterns_of (map pattern l.patterns))) (patterns_left (seen l.known) l.types l.patterns l.index l.vars) l.fn.judged.rows l.judged.rows l.typed.items l.complete
