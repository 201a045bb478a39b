use Rattle.std.proofs.Common.{◌≡◌, ◌&&◌, not}
use Rattle.std.specs.Prelude.{drop}
use Rattle.std.specs.List.{list_any}
use Rattle.isle_core.specs.declared.Sym.{Sym}
use Rattle.isle_core.specs.declared.TypeId.{TypeId}
use Rattle.isle_core.specs.Rule.{Environment}
use Rattle.isle_core.specs.Terms.{sym_text}
use Rattle.isle_operand_names.specs.Sets.{has_name}
use Rattle.isle_run.proofs.left_out.any_left_out.Given as goal

abbrev pub invariant-loop-constant : goal.invariant-loop-constant
invariant-loop-constant l =
    (env : Environment) → env.types ≡ l.typeenv → list_any (λ (c : Sym × TypeId). has_name l.standing (sym_text env c.0) && not (has_name l.given (sym_text env c.0))) l.constants
    ≡ list_any (λ (c : Sym × TypeId). has_name l.standing (sym_text env c.0) && not (has_name l.given (sym_text env c.0))) (drop l.constant-index l.constants)
