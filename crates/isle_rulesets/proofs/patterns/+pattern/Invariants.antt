use Rattle.std.proofs.Common.{map}
use Rattle.isle_core.specs.RuleViews.{pattern, patterns_of}
use Rattle.isle_rulesets.proofs.PatternTestLaws.{OpenedSoFar, EachSoFar, left_parts}
use Rattle.isle_rulesets.proofs.patterns.+pattern.Given as goal

abbrev pub invariant-number_term-loop-index : goal.invariant-number_term-loop-index
invariant-number_term-loop-index l = OpenedSoFar l.terms l.fn.numbering l.numbering l.fn.tests l.tests l.fn.term (patterns_of (map pattern l.parts)) (left_parts l.parts l.index) l.index l.fn.source l.opened

abbrev pub invariant-number_each-loop-part : goal.invariant-number_each-loop-part
invariant-number_each-loop-part l = EachSoFar l.terms l.fn.numbering l.numbering l.fn.tests l.tests (patterns_of (map pattern l.parts)) (left_parts l.parts l.part-index) l.source
