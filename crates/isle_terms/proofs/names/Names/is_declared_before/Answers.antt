use Rattle.std.proofs.Common.{rules, ◌≡◌, None, sym}
use Rattle.isle_ast.specs.Views.{defs as seen}
use Rattle.isle_declarations.specs.Heads.{terms_of}
use Rattle.isle_declarations.specs.Signatures.{signatures}
use Rattle.isle_declarations.specs.Symbols.{index_of, symbols}
use Rattle.isle_declarations.proofs.DeclaredNames.{undeclared}
use Rattle.isle_terms.proofs.EarlierNames.{never_earlier}
use Rattle.isle_terms.proofs.names.Names.is_declared_before.Goals as goal

pub returns-in-None : goal.returns-in-None
returns-in-None c =
    let defs = seen c.args.self.now.declarations.now in
    let none : index_of (symbols defs) c.args.term.now ≡ None = search rules in
    never_earlier (terms_of (signatures defs)) c.args.term.now c.args.count (sym (undeclared defs c.args.term.now none))
