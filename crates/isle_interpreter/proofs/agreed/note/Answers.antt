use Rattle.std.proofs.Common.{rules, ◌≡◌, ℕ, List}
use Rattle.std.specs.Prelude.{option_map}
use denote.Ref.{Bor}
use Rattle.isle_interpreter.specs.Agreed.{joined, at_name}
use Rattle.isle_interpreter.proofs.MapsNames.{note_more}
use Rattle.isle_interpreter.proofs.agreed.note.Goals as goal

pub returns : goal.returns
returns c =
    let made : option_map (λ (t : Bor (List ℕ)). t.now) c.joined-whole.result ≡ joined (at_name c.args.types.now c.args.name.now) c.args.ty.now = search rules in
    note_more c.args.name.now c.args.ty.now c.args.name c.joined-whole.result c.args.types.now c.insert.new.self (search rules) made c.in_ok-insert.ensures.updates
