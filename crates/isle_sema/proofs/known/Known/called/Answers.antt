use Rattle.std.proofs.Common.{◌≡◌, rules, None}
use Rattle.isle_ast.specs.Views.{defs as seen}
use Rattle.isle_declarations.specs.Symbols.{index_of, symbols}
use Rattle.isle_declarations.proofs.TermNames.{no_term}
use Rattle.isle_terms.specs.Whole.{whole}
use Rattle.isle_sema.proofs.KnownLaws.{known_absent}
use Rattle.isle_sema.proofs.known.Known.called.Goals as goal

pub returns-in-None : goal.returns-in-None
returns-in-None c =
    let none : index_of (symbols (seen c.args.self.now)) c.args.name.now ≡ None = search rules in
    known_absent (whole c.args.self.now) c.args.name.now (no_term (seen c.args.self.now) c.args.name.now none)
