use Rattle.std.proofs.Common.{◌≡◌, ◌++◌, map, Some}
use Rattle.std.specs.Prelude.{drop}
use Rattle.isle_ast.specs.Views.{pattern, patterns_of}
use Rattle.isle_terms.specs.Whole.{whole}
use Rattle.isle_sema.specs.TemplateUses.{all_uses_in}
use Rattle.isle_sema.proofs.UseSteps.{uses_of_each, uses_left}
use Rattle.isle_sema.proofs.template_uses.+noting.Given as goal

abbrev pub invariant-note-loop-part : goal.invariant-note-loop-part
invariant-note-loop-part l = l.fn.found.items ++ uses_of_each (whole l.known) l.expected l.part-items ≡ l.found.items ++ uses_of_each (whole l.known) l.expected (drop l.part-index l.part-items)

abbrev pub invariant-note_each-loop-index : goal.invariant-note_each-loop-index
invariant-note_each-loop-index l = l.fn.found.items ++ all_uses_in (whole l.known) (map Some l.types) (patterns_of (map pattern l.parts)) ≡ l.found.items ++ uses_left (whole l.known) l.types l.parts l.index
