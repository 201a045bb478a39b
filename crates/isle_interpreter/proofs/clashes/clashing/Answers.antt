use Rattle.std.proofs.Common.{rules, ◌≡◌, ℕ, List, map, ap, ◌∙◌}
use denote.Ref.{Bor}
use Rattle.isle_core.specs.Having.{const_of}
use Rattle.isle_core.specs.ValueViews.{const, meaning}
use Rattle.isle_places.specs.Places.{places}
use Rattle.isle_places.specs.ToldViews.{placed}
use Rattle.isle_tree.specs.Views.{function, program}
use Rattle.isle_interpreter.specs.Clashes.{held, all_held, clashes, const_in, at_constant}
use Rattle.isle_interpreter.proofs.HeldPlaces.{set_found}
use Rattle.isle_interpreter.proofs.clashes.clashing.Goals as goal

pub returns : goal.returns
returns c =
    let p = program c.args.signatures.now in
    let f = function c.args.f.now in
    let m = meaning c.args.answers.now in
    let given : (name : List ℕ) → at_constant c.in_ok-given.given name ≡ const_of m name = λ name. c.in_ok-given.ensures name ∙ ap (λ cs. const_in (map const cs) name) c.as_slice.ensures in
    let gathered : placed c.push_places.new.found.items ≡ places p f = search rules in
    let stand : placed c.as_slice-2.result.now ≡ places p f = ap placed c.as_slice-2.ensures.value ∙ gathered in
    let holders : map held c.in_ok-found.found.items ≡ all_held p m (places p f) =
    c.in_ok-found.ensures m given ∙ ap (λ q. all_held (program q) m (placed c.as_slice-2.result.now)) c.requires ∙ ap (all_held p m) stand in
    let are : map (λ (n : Bor (List ℕ)). n.now) c.as_slice-4.result.now ≡ clashes (all_held p m (places p f)) =
    ap (map (λ (n : Bor (List ℕ)). n.now)) c.as_slice-4.ensures.value ∙ c.in_ok-names.ensures ∙ ap (λ hs. clashes (map held hs)) c.as_slice-3.ensures.value ∙ ap clashes holders in
    set_found p f m (map (λ (n : Bor (List ℕ)). n.now) c.as_slice-4.result.now) c.set_of.result are c.set_of.ensures
