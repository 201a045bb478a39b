-- A meaning made of one entry for each called term, and what it looks up.
use Rattle.std.proofs.Common.{◌≡◌, List, [], ◌∷◌, Bool, true, false, cond, map, Option, Some, None, refl, sym, ap, ◌∙◌, ⊎_elim, subst}
use Rattle.std.specs.Prelude.{Contains, filter, find, not, option_map}
use Rattle.std.proofs.lemmas.Slice.Eq.{bytes_eq-Decides}
use Rattle.isle_core.specs.declared.values.Callee.{Callee}
use Rattle.isle_core.specs.declared.values.Callee.TheVariants.{External, Internal}
use Rattle.isle_core.specs.Value.{Value, Answer}
use Rattle.isle_core.specs.Meaning.{Meaning, TurnAnswers, PureAnswers, turns_of, cases_of}
use Rattle.isle_core.specs.Terms.{goes_to}
use Rattle.isle_core.specs.History.{AnsweredCall, Service}
use Rattle.isle_core.proofs.Contained.{head_contained, tail_contained, contained_cases, none_contained}
use Rattle.isle_core.proofs.ImpureCalls.{goes_there}
use Rattle.isle_core.proofs.ListLaws.{not_both, find_map}

-- a call that goes to a callee is of that callee
pub goes_same : (a b : Callee) → goes_to a (Some b) ≡ true → a ≡ b
goes_same (External a) (External b) e = ap External ((bytes_eq-Decides a b).0 e)
goes_same (Internal a) (Internal b) e = ap Internal ((bytes_eq-Decides a b).0 e)
goes_same (External a) (Internal b) e = cc
goes_same (Internal a) (External b) e = cc

-- what is asked of a callee, with the answer that it rests on
pub record Entry : Type 0 where
  pub service : Service
  pub rest : Answer

-- ---- the answers of a history

-- those to a callee, in order
abbrev pub answers_to : Callee → List AnsweredCall → List Answer
answers_to callee [] = []
answers_to callee (c ∷ h) = cond (goes_to callee (Some c.callee)) (c.answer ∷ answers_to callee h) (answers_to callee h)

-- with the arguments that they were given for
abbrev pub cases_to : Callee → List AnsweredCall → List (List Value × Answer)
cases_to callee [] = []
cases_to callee (c ∷ h) = cond (goes_to callee (Some c.callee)) ((c.args, c.answer) ∷ cases_to callee h) (cases_to callee h)

-- ---- the meaning

abbrev pub turns_in : List AnsweredCall → Entry → TurnAnswers
turns_in h e = record { callee = e.service.callee; turns = answers_to e.service.callee h; rest = e.rest }

abbrev pub cases_in : List AnsweredCall → Entry → PureAnswers
cases_in h e = record { callee = e.service.callee; cases = cases_to e.service.callee h; rest = e.rest }

abbrev pub takes_turns : Entry → Bool
takes_turns e = not e.service.pure

-- each callee answers as it did in the history, and then so that it fits
abbrev pub meaning_of : List AnsweredCall → List Entry → Meaning
meaning_of h es = record { consts = []; pure = map (cases_in h) es; turns = map (turns_in h) (filter takes_turns es) }

-- ---- what is looked up

-- whether an entry is of the callee
abbrev pub serves : Callee → Entry → Bool
serves callee e = goes_to callee (Some e.service.callee)

pub turns_found : (h : List AnsweredCall) (es : List Entry) (callee : Callee) (o : Option Entry) → find (serves callee) (filter takes_turns es) ≡ o → turns_of (meaning_of h es) callee ≡ option_map (turns_in h) o
turns_found h es callee o e = find_map (turns_in h) (λ (a : TurnAnswers). goes_to callee (Some a.callee)) (filter takes_turns es) ∙ ap (option_map (turns_in h)) e

pub cases_found : (h : List AnsweredCall) (es : List Entry) (callee : Callee) (o : Option Entry) → find (serves callee) es ≡ o → cases_of (meaning_of h es) callee ≡ option_map (cases_in h) o
cases_found h es callee o e = find_map (cases_in h) (λ (a : PureAnswers). goes_to callee (Some a.callee)) es ∙ ap (option_map (cases_in h)) e

-- an entry with this service is found
pub record Finds (es : List Entry) (s : Service) : Type 0 where
  pub entry : Entry
  pub found : find (serves s.callee) es ≡ Some entry
  pub service : entry.service ≡ s
  pub among : Contains es entry

-- if one is there, and all of its callee have one service
pub finds : (es : List Entry) (s : Service) → ((e : Entry) → Contains es e → s.callee ≡ e.service.callee → e.service ≡ s) → (w : Entry) → Contains es w → w.service ≡ s → Finds es s
finds [] s alike w c is = absurd (none_contained w c)
finds (e ∷ es) s alike w c is = pick (λ d. finds es s (λ x k. alike x (tail_contained e es x k)) w d is) (serves s.callee e) refl
  where
    pick : (Contains es w → Finds es s) → (b : Bool) → serves s.callee e ≡ b → Finds (e ∷ es) s
    pick go true h = record {
      entry = e;
      found = ap (λ b. cond b (Some e) (find (serves s.callee) es)) h;
      service = alike e (head_contained e es) (goes_same s.callee e.service.callee h);
      among = head_contained e es;
    }
    pick go false h = ⊎_elim
        (λ (same : e ≡ w). absurd (not_both (subst (λ (x : Service). goes_to s.callee (Some x.callee) ≡ true) (sym (ap (λ (x : Entry). x.service) same ∙ is)) (goes_there s.callee)) h))
        (λ d. let f = go d in record {
          entry = f.entry;
          found = ap (λ b. cond b (Some e) (find (serves s.callee) es)) h ∙ f.found;
          service = f.service;
          among = tail_contained e es f.entry f.among;
        })
        (contained_cases e es w c)

-- if none is of the callee, none is found
pub finds_none : (es : List Entry) (callee : Callee) → ((e : Entry) → Contains es e → callee ≡ e.service.callee → ⊥) → find (serves callee) es ≡ None
finds_none [] callee none = refl
finds_none (e ∷ es) callee none = pick (finds_none es callee (λ x k. none x (tail_contained e es x k))) (serves callee e) refl
  where
    pick : find (serves callee) es ≡ None → (b : Bool) → serves callee e ≡ b → find (serves callee) (e ∷ es) ≡ None
    pick go true h = absurd (none e (head_contained e es) (goes_same callee e.service.callee h))
    pick go false h = ap (λ b. cond b (Some e) (find (serves callee) es)) h ∙ go
