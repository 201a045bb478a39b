use Rattle.std.proofs.Common.{◌≡◌, rules}
use Rattle.isle_core.specs.declared.types.ReturnKind.TheVariants as return_kind
use Rattle.isle_core.specs.Path.{at, paths_of}
use Rattle.isle_rulesets.proofs.PlacedPaths.{there_at}
use Rattle.isle_rulesets.proofs.CallLaws.{own_value, inner_given, item_given}
use Rattle.isle_rulesets.proofs.numbering.Numbering.answered.Goals as goal

pub returns-in-Plain : goal.returns-in-Plain
returns-in-Plain c =
    let plain : c.args.kind ≡ return_kind.Plain = search rules in
    let ps = paths_of c.args.self.now.bindings in
    rw plain (own_value c.args.self.now (at ps c.args.number) c.args.number (there_at ps c.args.number c.requires))

pub returns-in-Option : goal.returns-in-Option
returns-in-Option c =
    let partial : c.args.kind ≡ return_kind.Option = search rules in
    let ps = paths_of c.args.self.now.bindings in
    rw partial (inner_given c.intern.result c.args.self.now c.intern.new.self (at ps c.args.number) c.args.number (there_at ps c.args.number c.requires) c.intern.ensures)

pub returns-in_ok-meet-in-Iterator : goal.returns-in_ok-meet-in-Iterator
returns-in_ok-meet-in-Iterator c =
    let several : c.args.kind ≡ return_kind.Iterator = search rules in
    let ps = paths_of c.args.self.now.bindings in
    rw several (item_given c.intern-in-Iterator.result c.args.self.now c.meet.new.self c.intern-in-Iterator.new.self (at ps c.args.number) c.args.number (there_at ps c.args.number c.requires) c.in_ok-meet-in-Iterator.ensures c.intern-in-Iterator.ensures)
