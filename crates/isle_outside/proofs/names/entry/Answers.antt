use Rattle.isle_outside.proofs.names.entry.Goals as goal

pub returns-then-contains : goal.returns-then-contains
returns-then-contains c = rw (← c.in_ok-rest.ensures, ← c.as_bytes.ensures.value, ← c.contains.ensures.value, c.if-contains.true)
