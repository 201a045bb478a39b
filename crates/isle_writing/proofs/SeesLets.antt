-- What contracts see of a variable of a `let`.
use Rattle.std.proofs.Common.{◌≡◌}
use Rattle.isle_ast.specs.declared.tree.AstLet.{AstLet}
use Rattle.isle_ast.specs.Views.{expr}
use Rattle.isle_ast.proofs.Sees.{let-parts}
use Rattle.isle_writing.specs.Seen.{bound}

pub bound_parts : (l : AstLet) → bound l ≡ (l.var, l.ty, expr l.val)
bound_parts l = let-parts l
