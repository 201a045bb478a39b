use Rattle.std.proofs.Common.{◌≡◌, ℕ, List, map, ap, ◌∙◌}
use Rattle.std.proofs.lemmas.Result.{IfOk-weaker}
use Rattle.isle_tree.specs.Views.{function}
use Rattle.isle_operand_names.specs.Names.{function_names, is_among}
use Rattle.isle_operand_names.specs.Sets.{has_name}
use Rattle.isle_operand_names.proofs.NamesJoin.{all_gathered}
use Rattle.isle_operand_names.proofs.program_names.standing.Goals as goal

pub returns : goal.returns
returns c =
    let gathered : map (λ x. x.now) c.loop-f.names.items ≡ function_names (map function c.args.fns.now) = all_gathered c.args.fns.now c.loop-f.f-index (map (λ x. x.now) c.loop-f.names.items) c.loop-f-test.false c.loop-f.invariant in
    IfOk-weaker c.set_of.result (λ found. (name : List ℕ) → has_name found name ≡ is_among name (map (λ x. x.now) c.as_slice-2.result.now)) (λ found. (name : List ℕ) → has_name found name ≡ is_among name (function_names (map function c.args.fns.now)))
    (λ found h name. h name ∙ ap (λ xs. is_among name (map (λ x. x.now) xs)) c.as_slice-2.ensures.value ∙ ap (is_among name) gathered) c.set_of.ensures
