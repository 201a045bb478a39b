-- How much a search for closed walks has left to do.
use Rattle.std.proofs.Common.{◌≡◌, ℕ, suc, ◌+◌, ◌<◌, ◌≤◌, List, [], ◌∷◌, ◌++◌, length, refl, sym, ap, ◌∙◌, subst, arith, slice_set, sum_by, length-append}
use Rattle.std.proofs.lemmas.List.{length_push}
use Rattle.std.proofs.lemmas.List.Sums.{sum_by-cons, sum_by-set, get_or-le-sum_by}
use Rattle.std.proofs.lemmas.Option.{slice_get-get_or}
use Rattle.isle_walks.specs.Walks.{next_of, nodes_or_none}
use Rattle.isle_walks.specs.Parts.{mark_of, work_of, left_at}
use Rattle.isle_walks.specs.declared.parts.Mark.{Mark}
use Rattle.isle_walks.specs.declared.parts.Mark.TheVariants.{New, Opened, Done}
use Rattle.isle_walks.specs.declared.parts.Part.{Part}

-- if no node becomes new, there is no more to do
pub no_more : (work : ℕ) (marks marks' : List Mark) → length marks' ≡ length marks → ((node : ℕ) → mark_of marks' node ≡ New → mark_of marks node ≡ New) → sum_by (work_of work) marks' ≤ sum_by (work_of work) marks
no_more work [] [] long stays = omega arith
no_more work [] (mark' ∷ marks') long stays = absurd (omega arith)
no_more work (mark ∷ marks) [] long stays = absurd (omega arith)
no_more work (mark ∷ marks) (mark' ∷ marks') long stays =
    let rest = no_more work marks marks' (omega arith) (λ node. stays (suc node)) in
    let first = at_most mark mark' (stays 0) in
    let were = sum_by-cons (work_of work) mark marks in
    let are = sum_by-cons (work_of work) mark' marks' in
    omega arith
  where
    at_most : (was is : Mark) → (is ≡ New → was ≡ New) → work_of work is ≤ work_of work was
    at_most was New stays = let same = ap (work_of work) (stays refl) in omega arith
    at_most was (Opened place) stays = omega arith
    at_most was (Done closed) stays = omega arith

-- a new node that is put on the path leaves less to do
pub enter_less : (graph : List (List ℕ)) (marks marks' : List Mark) (parts parts' : List Part) (before waiting waiting' : List ℕ) (node place : ℕ)
    → node < length graph → length marks ≡ length graph → mark_of marks node ≡ New → marks' ≡ slice_set marks node (Opened place) → waiting ≡ before ++ node ∷ [] → waiting' ≡ before ++ next_of graph node → length parts' ≡ length parts + 1
    → left_at graph marks' parts' waiting' < left_at graph marks parts waiting
enter_less graph marks marks' parts parts' before waiting waiting' node place there many new marks_are waiting_is waiting_now parts_now =
    let work = work_of (sum_by length graph + 1) in
    let less : sum_by work (slice_set marks node (Opened place)) + (sum_by length graph + 1) ≡ sum_by work marks + 0
    = ap (λ m. sum_by work (slice_set marks node (Opened place)) + work m) (sym new) ∙ sum_by-set work marks node (Opened place) New (omega arith) in
    let now_less = ap (sum_by work) marks_are in
    let few : length (next_of graph node) ≤ sum_by length graph = subst (λ nodes. length (nodes_or_none nodes) ≤ sum_by length graph) (sym (slice_get-get_or graph node [] there)) (get_or-le-sum_by length graph node [] there) in
    let was = ap length waiting_is ∙ length_push before node in
    let now = ap length waiting_now ∙ length-append before (next_of graph node) in
    omega arith
