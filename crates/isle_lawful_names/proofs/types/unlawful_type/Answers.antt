use Rattle.std.proofs.Common.{◌≡◌, ◌<◌, ◌≤◌, length, get_or, ◌∙◌, sym, subst}
use Rattle.isle_lawful_names.proofs.TypeSteps.{types_begin, types_on, types_out, types_end, types_named}
use Rattle.isle_lawful_names.proofs.types.unlawful_type.Goals as goal

pub loop-def-init : goal.loop-def-init
loop-def-init c = λ env ruled. types_begin env c.args.types.now c.args.names.now c.requires

pub loop-def-preserved : goal.loop-def-preserved
loop-def-preserved c = λ env ruled.
    let i = c.loop-def.def-index in
    let lt = subst (λ ds. i < length ds) c.as_slice-def-items.ensures c.loop-def-test.true in
    let is = subst (λ ds. c.def-item.result ≡ get_or ds i c.def-item.result) c.as_slice-def-items.ensures c.def-item.is in
    types_on env c.args.types.now i c.def-item.result c.loop-def.names c.in_type.new.names c.in_ok-found.found lt is (c.in_ok-found.ensures env ruled) (sym c.is_some.ensures ∙ c.if-is_some.false) (c.loop-def.invariant env ruled)

pub returns-then-is_some-clause-first : goal.returns-then-is_some-clause-first
returns-then-is_some-clause-first c = λ env ruled.
    let i = c.loop-def.def-index in
    let lt = subst (λ ds. i < length ds) c.as_slice-def-items.ensures c.loop-def-test.true in
    let is = subst (λ ds. c.def-item.result ≡ get_or ds i c.def-item.result) c.as_slice-def-items.ensures c.def-item.is in
    types_out env c.args.types.now i c.def-item.result c.loop-def.names c.in_type.new.names c.in_ok-found.found lt is (c.in_ok-found.ensures env ruled) (sym c.is_some.ensures ∙ c.if-is_some.true) (c.loop-def.invariant env ruled)

pub returns-then-is_some-clause-names : goal.returns-then-is_some-clause-names
returns-then-is_some-clause-names c = λ env ruled none. let some = sym c.is_some.ensures ∙ c.if-is_some.true in absurd cc

pub returns-clause-first : goal.returns-clause-first
returns-clause-first c = λ env ruled.
    let i = c.loop-def.def-index in
    types_end env c.args.types.now i c.loop-def.names (subst (λ ds. length ds ≤ i) c.as_slice-def-items.ensures c.loop-def-test.false) (c.loop-def.invariant env ruled)

pub returns-clause-names : goal.returns-clause-names
returns-clause-names c = λ env ruled none.
    let i = c.loop-def.def-index in
    types_named env c.args.types.now i c.loop-def.names (subst (λ ds. length ds ≤ i) c.as_slice-def-items.ensures c.loop-def-test.false) (c.loop-def.invariant env ruled)
