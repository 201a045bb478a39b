use Rattle.std.proofs.Common.{◌≡◌, ◌∙◌, sym, ap, subst, false}
use Rattle.std.specs.Prelude.{slice_get}
use Rattle.std.specs.Option.{option_map_or}
use Rattle.isle_core.specs.declared.types.Term.{Term}
use Rattle.isle_core.specs.Calling.{is_several, kind_of}
use Rattle.isle_checks.specs.CheckList.{is_multi}
use Rattle.isle_checks.specs.Errors.{JoinedOf}
use Rattle.isle_checks.proofs.TermErrors.{term_more}
use Rattle.isle_checks.proofs.overlap.push_term.Goals as goal

pub returns : goal.returns
returns c = λ env ids same built stands so_far.
    let set = c.args.set.now in
    let old = c.args.errors.now.items in
    let new = c.push_errors.new.errors.items in
    let multi : c.is_multi-multi.result ≡ is_multi env set.0 = c.is_multi-multi.ensures ∙ ap (λ ts. option_map_or (λ (t : Term). is_several (kind_of t.kind)) (slice_get ts set.0.0) false) (sym same) in
    let joined = subst (λ b. JoinedOf b set.1.rules old new) multi (rw c.as_slice.ensures at c.in_ok-push_errors.ensures) in
    term_more env ids set.0 set.1 old new built stands joined so_far
