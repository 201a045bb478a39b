use Rattle.isle_rulesets.proofs.numbering.Numbering.into_bindings.Goals as goal

pub returns-clause-once : goal.returns-clause-once
returns-clause-once c = c.self.invariant.numbered.once
