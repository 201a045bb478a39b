-- What callees answer, as the maps are filled and as calls are made.
use Rattle.std.proofs.Common.{◌≡◌, ℕ, zero, suc, ◌+◌, List, [], ◌∷◌, ◌++◌, length, drop, map, Bool, true, false, cond, Option, Some, None, refl, sym, ap, ◌∙◌, arith}
use Rattle.std.specs.Prelude.{filter, option_map, slice_index_or}
use Rattle.std.specs.Str.{bytes_eq}
use Rattle.std.specs.Ordering.{nat_cmp}
use Rattle.std.specs.Cmp.Lexicographic.{slice_cmp, nat_list_eq_equiv}
use Rattle.std.specs.BTreeMap.{BTreeMap, get_by, UpdatesBy}
use Rattle.std.proofs.lemmas.List.{map-append, drop-drop}
use Rattle.std.proofs.lemmas.Map.Text.{btree_map_updates_str}
use Rattle.std.proofs.lemmas.Slice.Eq.{bytes_eq-Decides}
use denote.Ref.{Bor}
use Rattle.isle_core.specs.declared.values.Callee.{Callee}
use Rattle.isle_core.specs.declared.values.CallMade.{CallMade}
use Rattle.isle_core.specs.declared.values.Value.{Value as CodeValue}
use Rattle.isle_core.specs.Value.{Value, Answer, Made}
use Rattle.isle_core.specs.Meaning.{PureAnswers, TurnAnswers, Meaning, turns_of, cases_of, times, case_at}
use Rattle.isle_core.specs.Answered.{answer_by, answer}
use Rattle.isle_core.specs.Terms.{goes_to}
use Rattle.isle_core.specs.ValueViews.{values, made as made_of}
use Rattle.isle_running.specs.declared.source.Source.{Source as CodeSource}
use Rattle.isle_running.specs.declared.sources.Sources.{Sources}
use Rattle.isle_running.specs.Sources.{Cases, Turns, source, answered_by, after_call, after_calls, first_turns, first_cases, at_name, at_callee, PutsAt, TakesAt, Takes, FindsSources}

-- ---- at a name

-- what a map has at each name after an update at one
pub puts_there : (old new : BTreeMap (Bor (List ℕ)) CodeSource) (key : List ℕ) (s : CodeSource)
    → UpdatesBy (λ (x y : Bor (List ℕ)). slice_cmp nat_cmp x.now y.now) (λ (k : Bor (List ℕ)). slice_cmp nat_cmp key k.now) old new (Some s)
    → PutsAt old new key s
puts_there old new key s updates name =
    ap (option_map source) (btree_map_updates_str key old new (Some s) updates name)
    ∙ spread (bytes_eq key name)
    ∙ ap (λ b. cond b (Some (source s)) (at_name old name)) (nat_list_eq_equiv.symm key name)
  where
    spread : (b : Bool) → option_map source (cond b (Some s) (get_by (λ (k : Bor (List ℕ)). slice_cmp nat_cmp name k.now) old)) ≡ cond b (Some (source s)) (at_name old name)
    spread true = refl
    spread false = refl

-- what it has after a call
pub takes_there : (old new : BTreeMap (Bor (List ℕ)) CodeSource) (name : List ℕ) (s t : CodeSource) → get_by (λ (k : Bor (List ℕ)). slice_cmp nat_cmp name k.now) old ≡ Some s → source t ≡ after_call (source s)
    → UpdatesBy (λ (x y : Bor (List ℕ)). slice_cmp nat_cmp x.now y.now) (λ (k : Bor (List ℕ)). slice_cmp nat_cmp name k.now) old new (Some t)
    → TakesAt old new name
takes_there old new name s t there moved updates other = puts_there old new name t updates other ∙ by (bytes_eq other name) refl
  where
    by : (b : Bool) → bytes_eq other name ≡ b → cond b (Some (source t)) (at_name old other) ≡ cond b (option_map after_call (at_name old other)) (at_name old other)
    by true e =
        let same : other ≡ name = (bytes_eq-Decides other name).0 e in
        ap Some moved ∙ sym (ap (λ n. option_map after_call (at_name old n)) same ∙ ap (λ o. option_map after_call (option_map source o)) there)
    by false e = refl

-- ---- a call more

abbrev count : Bool → ℕ
count true = 1
count false = 0

times_more : (c : Callee) (made : List Made) (x : Made) → times c (made ++ x ∷ []) ≡ times c made + count (goes_to c (Some x.callee))
times_more c [] x = by (goes_to c (Some x.callee))
  where
    by : (b : Bool) → length (cond b (x ∷ []) []) ≡ 0 + count b
    by true = refl
    by false = refl
times_more c (y ∷ made) x = by (goes_to c (Some y.callee)) (times_more c made x)
  where
    by : (b : Bool) → times c (made ++ x ∷ []) ≡ times c made + count (goes_to c (Some x.callee))
        → length (cond b (y ∷ filter (λ (z : Made). goes_to c (Some z.callee)) (made ++ x ∷ [])) (filter (λ (z : Made). goes_to c (Some z.callee)) (made ++ x ∷ [])))
        ≡ length (cond b (y ∷ filter (λ (z : Made). goes_to c (Some z.callee)) made) (filter (λ (z : Made). goes_to c (Some z.callee)) made)) + count (goes_to c (Some x.callee))
    by true go = ap suc go ∙ omega arith
    by false go = go

-- the calls made with one more
pub made_more : (calls more : List CallMade) (m : CallMade) (callee : Callee) (args : List CodeValue) → more ≡ calls ++ m ∷ [] → m.callee ≡ callee → m.args ≡ args
    → map made_of more ≡ map made_of calls ++ record { callee = callee; args = values args } ∷ []
made_more calls more m callee args e f g =
    ap (map made_of) e
    ∙ map-append made_of calls (m ∷ [])
    ∙ ap (λ k. map made_of calls ++ record { callee = k; args = values m.args } ∷ []) f
    ∙ ap (λ vs. map made_of calls ++ record { callee = callee; args = values vs } ∷ []) g

pub finds_later : (turns : List TurnAnswers) (pure : List PureAnswers) (made : List Made) (x : Made) (old new : Sources) → FindsSources turns pure made old → Takes old new x.callee → FindsSources turns pure (made ++ x ∷ []) new
finds_later turns pure made x old new were takes = record {
  finds = λ c.
      takes c
      ∙ ap (λ o. cond (goes_to c (Some x.callee)) (option_map after_call o) o) (were.finds c)
      ∙ moved (first_turns turns c) (first_cases pure c) (times c made) (goes_to c (Some x.callee))
      ∙ ap (after_calls (first_turns turns c) (first_cases pure c)) (sym (times_more c made x));
}
  where
    moved : (t : Option TurnAnswers) (o : Option PureAnswers) (n : ℕ) (b : Bool) → cond b (option_map after_call (after_calls t o n)) (after_calls t o n) ≡ after_calls t o (n + count b)
    moved (Some a) o n true = ap (λ left. Some (Turns left a.rest)) (drop-drop 1 n a.turns)
    moved None (Some a) n true = refl
    moved None None n true = refl
    moved t o n false = ap (after_calls t o) {y = n + 0} (omega arith)

-- ---- what a call is answered

index_drop : (n : ℕ) (turns : List Answer) (rest : Answer) → slice_index_or (drop n turns) 0 rest ≡ slice_index_or turns n rest
index_drop zero turns rest = refl
index_drop (suc n) [] rest = refl
index_drop (suc n) (t ∷ turns) rest = index_drop n turns rest

pub answers_call : (m : Meaning) (made : List Made) (s : Sources) (c : Callee) (vs : List Value) → FindsSources m.turns m.pure made s → answered_by (at_callee s c) vs ≡ answer m c vs made
answers_call m made s c vs f = ap (λ o. answered_by o vs) (f.finds c) ∙ by_turns (turns_of m c)
  where
    by_cases : (o : Option PureAnswers) → answered_by (option_map Cases o) vs ≡ case_at o vs
    by_cases None = refl
    by_cases (Some a) = refl

    by_turns : (t : Option TurnAnswers) → answered_by (after_calls t (cases_of m c) (times c made)) vs ≡ answer_by t m c vs made
    by_turns (Some a) = index_drop (times c made) a.turns a.rest
    by_turns None = by_cases (cases_of m c)
