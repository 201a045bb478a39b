use Rattle.std.proofs.Common.{◌≡◌, eqb, length, false, rules}
use Rattle.isle_operands.specs.Contexts.{env_of}
use Rattle.isle_operands.proofs.InPlace.{struct_local}
use Rattle.isle_operands.proofs.operands.struct_operand.Goals as goal

pub returns-then-not-is_empty : goal.returns-then-not-is_empty
returns-then-not-is_empty c = λ ps.
    let some : eqb (length c.args.fields.now) 0 ≡ false = search rules in
    struct_local (env_of c.args.context.now) c.args.local.0 c.index.result c.args.ty c.args.fields.now ps some c.index.ensures
