-- Each history of calls with fitting answers is some lawful meaning's, and so a lawful meaning exists.
use Rattle.std.proofs.Common.{◌≡◌, ℤ, suc, List, [], ◌∷◌, ◌++◌, Bool, true, false, cond, length, map, Option, Some, None, refl, sym, ap, ◌∙◌, ⊎_elim, subst}
use Rattle.std.specs.Prelude.{Contains, All, IsSomeAnd, ◌&&◌, filter, find, not, slice_get, slice_index_or}
use Rattle.std.specs.List.{AllByRecursion}
use Rattle.std.proofs.lemmas.List.{append_assoc}
use Rattle.std.proofs.lemmas.List.Elements.{All-from_recursion}
use Rattle.isle_base.specs.declared.ids.TermId.{TermId}
use Rattle.isle_base.specs.declared.ids.TypeId.{TypeId}
use Rattle.isle_core.specs.declared.types.BuiltinType.TheVariants as builtin
use Rattle.isle_core.specs.declared.types.Term.{Term}
use Rattle.isle_core.specs.declared.types.TypeDef.{TypeDef}
use Rattle.isle_core.specs.declared.types.TypeDef.TheVariants as def
use Rattle.isle_core.specs.declared.values.Callee.{Callee}
use Rattle.isle_core.specs.Value.{Value, Answer, Made}
use Rattle.isle_core.specs.Value as value
use Rattle.isle_core.specs.Constants.{int_of_def}
use Rattle.isle_core.specs.Meaning.{Meaning, turns_of, cases_of, times, same_values, case_or, case_at}
use Rattle.isle_core.specs.Answered.{answer, answer_by}
use Rattle.isle_core.specs.Calling.{Calling, ByTurns, ByCases, NoCall}
use Rattle.isle_core.specs.CalledTerms.{Role, CalledTerm, called}
use Rattle.isle_core.specs.OccurringConstants.{Constant, TypedConstant, Truth, Number, Named, rules_constants}
use Rattle.isle_core.specs.Terms.{goes_to}
use Rattle.isle_core.specs.Lawful.{Fits, all_turns, all_cases, CallingFits, result_types, CalledTermFits, constant_value, called_as, IsLawful}
use Rattle.isle_core.specs.History.{AnsweredCall, Service, service_by, service_of, IsAnswerable, AreAnswerable, NamesNone, IsCallOf, IsHistory, AnswersSo}
use Rattle.isle_core.specs.Rule.{Environment, rules_of}
use Rattle.isle_core.proofs.Contained.{head_contained, tail_contained, contained_cases, none_contained}
use Rattle.isle_core.proofs.ImpureCalls.{goes_there}
use Rattle.isle_core.proofs.RunEquality.{same_in_run-self}
use Rattle.isle_core.proofs.ListLaws.{not_both, filter_from, filter_keeps, at_seam}
use Rattle.isle_core.proofs.Entries.{goes_same, Entry, answers_to, cases_to, turns_in, cases_in, takes_turns, meaning_of, turns_found, cases_found, Finds, finds, finds_none}

-- ---- the entries of called terms

-- one for each
entries : (env : Environment) (os : List CalledTerm) → ((o : CalledTerm) → Contains os o → IsAnswerable env o) → List Entry
entries env [] h = []
entries env (o ∷ os) h = record { service = (h o (head_contained o os)).service; rest = (h o (head_contained o os)).answer } ∷ entries env os (λ p c. h p (tail_contained o os p c))

-- an entry is of a called term, and its rest fits
record IsEntryOf (env : Environment) (os : List CalledTerm) (e : Entry) : Type 0 where
  from : CalledTerm
  among : Contains os from
  is : service_of env from ≡ Some e.service
  fits : Fits env e.service.kind e.service.types e.rest

entry_of : (env : Environment) (os : List CalledTerm) (h : (o : CalledTerm) → Contains os o → IsAnswerable env o) (e : Entry) → Contains (entries env os h) e → IsEntryOf env os e
unfolding entries
entry_of env [] h e c = absurd (none_contained e c)
entry_of env (o ∷ os) h e c =
    let a = h o (head_contained o os) in
    let first : Entry = record { service = a.service; rest = a.answer } in
    let more = entries env os (λ p k. h p (tail_contained o os p k)) in
    ⊎_elim (λ (s : first ≡ e). subst (IsEntryOf env (o ∷ os)) s (record { from = o; among = head_contained o os; is = a.is; fits = a.fits }))
    (λ d. let f = entry_of env os (λ p k. h p (tail_contained o os p k)) e d in record { from = f.from; among = tail_contained o os f.from f.among; is = f.is; fits = f.fits })
    (contained_cases first more e c)

-- a called term has an entry
record HasEntry (env : Environment) (es : List Entry) (o : CalledTerm) : Type 0 where
  entry : Entry
  among : Contains es entry
  is : service_of env o ≡ Some entry.service

has_entry : (env : Environment) (os : List CalledTerm) (h : (o : CalledTerm) → Contains os o → IsAnswerable env o) (o : CalledTerm) → Contains os o → HasEntry env (entries env os h) o
unfolding entries
has_entry env [] h o c = absurd (none_contained o c)
has_entry env (p ∷ os) h o c =
    let a = h p (head_contained p os) in
    let first : Entry = record { service = a.service; rest = a.answer } in
    let more = entries env os (λ q k. h q (tail_contained p os q k)) in
    ⊎_elim (λ (s : p ≡ o). record { entry = first; among = head_contained first more; is = subst (λ q. service_of env q ≡ Some a.service) s a.is })
    (λ d. let f = has_entry env os (λ q k. h q (tail_contained p os q k)) o d in record { entry = f.entry; among = tail_contained first more f.entry f.among; is = f.is })
    (contained_cases p os o c)

-- ---- answers of a history

all_answers : (P : Answer → Type 0) (callee : Callee) (g : List AnsweredCall) → ((c : AnsweredCall) → Contains g c → callee ≡ c.callee → P c.answer) → AllByRecursion P (answers_to callee g)
all_answers P callee [] h = tt
all_answers P callee (c ∷ g) h = pick (all_answers P callee g (λ d k. h d (tail_contained c g d k))) (goes_to callee (Some c.callee)) refl
  where
    pick : AllByRecursion P (answers_to callee g) → (b : Bool) → goes_to callee (Some c.callee) ≡ b → AllByRecursion P (cond b (c.answer ∷ answers_to callee g) (answers_to callee g))
    pick later true e = (h c (head_contained c g) (goes_same callee c.callee e), later)
    pick later false e = later

cases_are : (callee : Callee) (g : List AnsweredCall) → map (λ (c : List Value × Answer). c.1) (cases_to callee g) ≡ answers_to callee g
cases_are callee [] = refl
cases_are callee (c ∷ g) = pick (cases_are callee g) (goes_to callee (Some c.callee))
  where
    pick : map (λ (x : List Value × Answer). x.1) (cases_to callee g) ≡ answers_to callee g → (b : Bool) → map (λ (x : List Value × Answer). x.1) (cond b ((c.args, c.answer) ∷ cases_to callee g) (cases_to callee g)) ≡ cond b (c.answer ∷ answers_to callee g) (answers_to callee g)
    pick go true = ap (λ xs. c.answer ∷ xs) go
    pick go false = go

answers_append : (callee : Callee) (g h : List AnsweredCall) → answers_to callee (g ++ h) ≡ answers_to callee g ++ answers_to callee h
answers_append callee [] h = refl
answers_append callee (c ∷ g) h = pick (answers_append callee g h) (goes_to callee (Some c.callee))
  where
    pick : answers_to callee (g ++ h) ≡ answers_to callee g ++ answers_to callee h → (b : Bool) → cond b (c.answer ∷ answers_to callee (g ++ h)) (answers_to callee (g ++ h)) ≡ cond b (c.answer ∷ answers_to callee g) (answers_to callee g) ++ answers_to callee h
    pick go true = ap (λ xs. c.answer ∷ xs) go
    pick go false = go

-- the calls of a history
abbrev calls_of : List AnsweredCall → List Made
calls_of [] = []
calls_of (c ∷ h) = record { callee = c.callee; args = c.args } ∷ calls_of h

calls_push : (g : List AnsweredCall) (c : AnsweredCall) → calls_of g ++ record { callee = c.callee; args = c.args } ∷ [] ≡ calls_of (g ++ c ∷ [])
calls_push [] c = refl
calls_push (d ∷ g) c = ap (λ xs. record { callee = d.callee; args = d.args } ∷ xs) (calls_push g c)

times_of : (callee : Callee) (g : List AnsweredCall) → times callee (calls_of g) ≡ length (answers_to callee g)
times_of callee [] = refl
times_of callee (c ∷ g) = pick (times_of callee g) (goes_to callee (Some c.callee))
  where
    pick : times callee (calls_of g) ≡ length (answers_to callee g) → (b : Bool) → length (cond b (record { callee = c.callee; args = c.args } ∷ filter (λ (d : Made). goes_to callee (Some d.callee)) (calls_of g)) (filter (λ (d : Made). goes_to callee (Some d.callee)) (calls_of g))) ≡ length (cond b (c.answer ∷ answers_to callee g) (answers_to callee g))
    pick go true = ap suc go
    pick go false = go

-- its next turn
next_turn : (callee : Callee) (g h : List AnsweredCall) (c : AnsweredCall) (rest : Answer) → callee ≡ c.callee → slice_index_or (answers_to callee (g ++ c ∷ h)) (times callee (calls_of g)) rest ≡ c.answer
next_turn callee g h c rest e =
    let here : goes_to callee (Some c.callee) ≡ true = subst (λ x. goes_to callee (Some x) ≡ true) e (goes_there callee) in
    ap (λ xs. slice_index_or xs (times callee (calls_of g)) rest) (answers_append callee g (c ∷ h) ∙ ap (λ b. answers_to callee g ++ cond b (c.answer ∷ answers_to callee h) (answers_to callee h)) here)
    ∙ ap (λ n. slice_index_or (answers_to callee g ++ c.answer ∷ answers_to callee h) n rest) (times_of callee g)
    ∙ at_seam (answers_to callee g) c.answer (answers_to callee h) rest

values_self : (vs : List Value) → same_values vs vs ≡ true
values_self [] = refl
values_self (v ∷ vs) = ap (λ b. b && same_values vs vs) (same_in_run-self v) ∙ values_self vs

-- its case
the_case : (callee : Callee) (g : List AnsweredCall) (c : AnsweredCall) (rest : Answer) → Contains g c → callee ≡ c.callee → ((d : AnsweredCall) → Contains g d → callee ≡ d.callee → same_values d.args c.args ≡ true → d.answer ≡ c.answer)
    → case_or rest (find (λ (x : List Value × Answer). same_values x.0 c.args) (cases_to callee g)) ≡ c.answer
the_case callee [] c rest k e alike = absurd (none_contained c k)
the_case callee (d ∷ g) c rest k e alike = pick (λ j. the_case callee g c rest j e (λ x i. alike x (tail_contained d g x i))) (goes_to callee (Some d.callee)) refl
  where
    same : (Contains g c → case_or rest (find (λ (x : List Value × Answer). same_values x.0 c.args) (cases_to callee g)) ≡ c.answer) → (b : Bool) → callee ≡ d.callee → same_values d.args c.args ≡ b → case_or rest (cond b (Some (d.args, d.answer)) (find (λ (x : List Value × Answer). same_values x.0 c.args) (cases_to callee g))) ≡ c.answer
    same later true at_d q = alike d (head_contained d g) at_d q
    same later false at_d q = later (⊎_elim (λ (s : d ≡ c). absurd (not_both (ap (λ (x : AnsweredCall). same_values x.args c.args) s ∙ values_self c.args) q)) (λ j. j) (contained_cases d g c k))

    pick : (Contains g c → case_or rest (find (λ (x : List Value × Answer). same_values x.0 c.args) (cases_to callee g)) ≡ c.answer) → (b : Bool) → goes_to callee (Some d.callee) ≡ b → case_or rest (find (λ (x : List Value × Answer). same_values x.0 c.args) (cond b ((d.args, d.answer) ∷ cases_to callee g) (cases_to callee g))) ≡ c.answer
    pick later true h = same later (same_values d.args c.args) (goes_same callee d.callee h) refl
    pick later false h = later (⊎_elim (λ (s : d ≡ c). absurd (not_both (subst (λ x. goes_to callee (Some x) ≡ true) (e ∙ sym (ap (λ (x : AnsweredCall). x.callee) s)) (goes_there callee)) h)) (λ j. j) (contained_cases d g c k))

-- ---- what is asked of a callee

-- the meaning answers it
abbrev ServiceFits : Environment → Meaning → Service → Bool → Type 0
ServiceFits env m s false = IsSomeAnd (turns_of m s.callee) (λ a. All (Fits env s.kind s.types) (all_turns a))
ServiceFits env m s true = IsSomeAnd (cases_of m s.callee) (λ a. All (Fits env s.kind s.types) (all_cases a)) × (turns_of m s.callee ≡ None)

-- and so the called term
answered_as : (env : Environment) (m : Meaning) (role : Role) (o : Option Term) (c : Calling) (s : Service) → service_by role o c ≡ Some s → ServiceFits env m s s.pure → IsSomeAnd o (λ (t : Term). CallingFits env m (result_types role t) c)
answered_as env m role None c s e f = cc
answered_as env m role (Some t) NoCall s e f = cc
answered_as env m role (Some t) (ByTurns callee kind) s e f =
    let same : record { callee = callee; pure = false; kind = kind; types = result_types role t } ≡ s = cc in
    subst (λ (x : Service). ServiceFits env m x x.pure) (sym same) f
answered_as env m role (Some t) (ByCases callee kind) s e f =
    let same : record { callee = callee; pure = true; kind = kind; types = result_types role t } ≡ s = cc in
    subst (λ (x : Service). ServiceFits env m x x.pure) (sym same) f

some_service : (s t : Service) → Some s ≡ Some t → s ≡ t
some_service s t e = cc

module _ (env : Environment) (os : List CalledTerm) (h : List AnsweredCall) (can : AreAnswerable env os) (history : IsHistory env os h) where
  abbrev made_entries : List Entry
  made_entries = entries env os can.each

  abbrev built : Meaning
  built = meaning_of h made_entries

  -- entries of one callee have one service
  entries_alike : (o : CalledTerm) (s : Service) → Contains os o → service_of env o ≡ Some s → (e : Entry) → Contains made_entries e → s.callee ≡ e.service.callee → e.service ≡ s
  entries_alike o s c is e k same =
      let f = entry_of env os can.each e k in
      sym (can.alike o f.from s e.service c f.among is f.is same)

  -- each call of the history of the callee fits
  calls_fit : (o : CalledTerm) (s : Service) → Contains os o → service_of env o ≡ Some s → (c : AnsweredCall) → Contains h c → s.callee ≡ c.callee → Fits env s.kind s.types c.answer
  calls_fit o s k is c d same =
      let f = history.calls c d in
      let one : f.service ≡ s = sym (can.alike o f.from s f.service k f.among is f.is (same ∙ sym f.callee)) in
      subst (λ (x : Service). Fits env x.kind x.types c.answer) one f.fits

  -- all answers of an entry fit
  answers_fit : (o : CalledTerm) (s : Service) → Contains os o → service_of env o ≡ Some s → (e : Entry) → Contains made_entries e → e.service ≡ s → All (Fits env s.kind s.types) (e.rest ∷ answers_to e.service.callee h)
  answers_fit o s k is e c same =
      All-from_recursion (Fits env s.kind s.types) (e.rest ∷ answers_to e.service.callee h) (
        subst (λ (x : Service). Fits env x.kind x.types e.rest) same (entry_of env os can.each e c).fits,
        all_answers (Fits env s.kind s.types) e.service.callee h (λ d j at_d. calls_fit o s k is d j (ap (λ (x : Service). x.callee) (sym same) ∙ at_d)),
      )

  -- if it is impure
  finds_turns : (o : CalledTerm) (s : Service) → Contains os o → service_of env o ≡ Some s → s.pure ≡ false → Finds (filter takes_turns made_entries) s
  finds_turns o s k is impure =
      let w = has_entry env os can.each o k in
      let same : w.entry.service ≡ s = some_service w.entry.service s (sym w.is ∙ is) in
      finds (filter takes_turns made_entries) s (λ e c. entries_alike o s k is e (filter_from takes_turns made_entries e c).0) w.entry
      (filter_keeps takes_turns made_entries w.entry w.among (ap (λ (x : Service). not x.pure) same ∙ ap not impure)) same

  -- if it is pure
  finds_cases : (o : CalledTerm) (s : Service) → Contains os o → service_of env o ≡ Some s → Finds made_entries s
  finds_cases o s k is =
      let w = has_entry env os can.each o k in
      finds made_entries s (entries_alike o s k is) w.entry w.among (some_service w.entry.service s (sym w.is ∙ is))

  no_turns : (o : CalledTerm) (s : Service) → Contains os o → service_of env o ≡ Some s → s.pure ≡ true → turns_of built s.callee ≡ None
  no_turns o s k is pure =
      turns_found h made_entries s.callee None
      (finds_none (filter takes_turns made_entries) s.callee (λ e c same.
      let f = filter_from takes_turns made_entries e c in
      let one : e.service ≡ s = entries_alike o s k is e f.0 same in
      not_both f.1 (ap (λ (x : Service). not x.pure) one ∙ ap not pure)))

  service_fits : (o : CalledTerm) (s : Service) → Contains os o → service_of env o ≡ Some s → (b : Bool) → s.pure ≡ b → ServiceFits env built s b
  service_fits o s k is false impure =
      let f = finds_turns o s k is impure in
      subst (λ a. IsSomeAnd a (λ x. All (Fits env s.kind s.types) (all_turns x))) (sym (turns_found h made_entries s.callee (Some f.entry) f.found))
      (answers_fit o s k is f.entry (filter_from takes_turns made_entries f.entry f.among).0 f.service)
  service_fits o s k is true pure =
      let f = finds_cases o s k is in (
        subst (λ a. IsSomeAnd a (λ x. All (Fits env s.kind s.types) (all_cases x))) (sym (cases_found h made_entries s.callee (Some f.entry) f.found))
            (subst (λ xs. All (Fits env s.kind s.types) (f.entry.rest ∷ xs)) (sym (cases_are f.entry.service.callee h)) (answers_fit o s k is f.entry f.among f.service)),
        no_turns o s k is pure,
      )

  called_term_fits : (o : CalledTerm) → Contains os o → CalledTermFits env built o
  called_term_fits o k =
      let a = can.each o k in
      answered_as env built o.role (slice_get env.terms o.term.0) (called_as env o.term o.role) a.service a.is (service_fits o a.service k a.is a.service.pure refl)

  -- the history is answered so
  call_answered : (g after : List AnsweredCall) (c : AnsweredCall) → h ≡ g ++ c ∷ after → Contains h c → answer built c.callee c.args (calls_of g) ≡ c.answer
  call_answered g after c is d = by_service (history.calls c d).service.pure refl
    where
      f : IsCallOf env os c
      f = history.calls c d

      by_service : (b : Bool) → f.service.pure ≡ b → answer built c.callee c.args (calls_of g) ≡ c.answer
      by_service false impure =
          let w = finds_turns f.from f.service f.among f.is impure in
          let to : w.entry.service.callee ≡ c.callee = ap (λ (x : Service). x.callee) w.service ∙ f.callee in
          let looked : turns_of built c.callee ≡ Some (turns_in h w.entry) = subst (λ x. turns_of built x ≡ Some (turns_in h w.entry)) f.callee (turns_found h made_entries f.service.callee (Some w.entry) w.found) in
          ap (λ o. answer_by o built c.callee c.args (calls_of g)) looked
          ∙ ap (λ x. slice_index_or (answers_to x h) (times c.callee (calls_of g)) w.entry.rest) to
          ∙ ap (λ x. slice_index_or (answers_to c.callee x) (times c.callee (calls_of g)) w.entry.rest) is
          ∙ next_turn c.callee g after c w.entry.rest refl
      by_service true pure =
          let w = finds_cases f.from f.service f.among f.is in
          let to : w.entry.service.callee ≡ c.callee = ap (λ (x : Service). x.callee) w.service ∙ f.callee in
          let looked : cases_of built c.callee ≡ Some (cases_in h w.entry) = subst (λ x. cases_of built x ≡ Some (cases_in h w.entry)) f.callee (cases_found h made_entries f.service.callee (Some w.entry) w.found) in
          let none : turns_of built c.callee ≡ None = subst (λ x. turns_of built x ≡ None) f.callee (no_turns f.from f.service f.among f.is pure) in
          ap (λ o. answer_by o built c.callee c.args (calls_of g)) none
          ∙ ap (λ o. case_at o c.args) looked
          ∙ ap (λ x. case_or w.entry.rest (find (λ (y : List Value × Answer). same_values y.0 c.args) (cases_to x h))) to
          ∙ the_case c.callee h c w.entry.rest d refl (λ x j at_x same. history.alike x c f.from f.service j d f.among f.is pure (f.callee ∙ at_x) (sym at_x) same)

  answers_so : (after g : List AnsweredCall) → h ≡ g ++ after → ((c : AnsweredCall) → Contains after c → Contains h c) → AnswersSo built (calls_of g) after
  answers_so [] g is all = tt
  answers_so (c ∷ after) g is all = (
    call_answered g after c is (all c (head_contained c after)),
    subst (λ made. AnswersSo built made after) (sym (calls_push g c)) (answers_so after (g ++ c ∷ []) (is ∙ sym (append_assoc g (c ∷ []) after)) (λ d k. all d (tail_contained c after d k))),
  )

-- ---- constants

not_truth : (env : Environment) (d : Option TypeDef) (n : ℤ) (b : Bool) → int_of_def env d n ≡ value.Truth b → ⊥
not_truth env (Some (def.Builtin (builtin.Int ty))) n b e = cc
not_truth env (Some (def.Builtin builtin.Bool)) n b e = cc
not_truth env (Some (def.Primitive name rust at)) n b e = cc
not_truth env (Some (def.Enum name is_extern is_nodebug variants at)) n b e = cc
not_truth env (Some (def.Struct name is_extern is_nodebug fields at)) n b e = cc
not_truth env None n b e = cc

one_number : (env : Environment) (d : Option TypeDef) (n k : ℤ) → int_of_def env d n ≡ int_of_def env d k → n ≡ k
one_number env (Some (def.Builtin (builtin.Int ty))) n k e = cc
one_number env (Some (def.Builtin builtin.Bool)) n k e = cc
one_number env (Some (def.Primitive name rust at)) n k e = cc
one_number env (Some (def.Enum name is_extern is_nodebug variants at)) n k e = cc
one_number env (Some (def.Struct name is_extern is_nodebug fields at)) n k e = cc
one_number env None n k e = cc

some_value : (v w : Value) → Some v ≡ Some w → v ≡ w
some_value v w e = cc

written_apart : (env : Environment) (m : Meaning) (cs : List TypedConstant) → NamesNone cs → (ty : TypeId) (c d : Constant) → Contains cs (ty, c) → Contains cs (ty, d) → constant_value env m ty c ≡ constant_value env m ty d → c ≡ d
written_apart env m cs none ty (Truth a) (Truth b) h k e = cc
written_apart env m cs none ty (Number a) (Number b) h k e = ap Number (one_number env (slice_get env.types.types ty.0) a b (some_value (int_of_def env (slice_get env.types.types ty.0) a) (int_of_def env (slice_get env.types.types ty.0) b) e))
written_apart env m cs none ty (Truth a) (Number b) h k e = absurd (not_truth env (slice_get env.types.types ty.0) b a (some_value (int_of_def env (slice_get env.types.types ty.0) b) (value.Truth a) (sym e)))
written_apart env m cs none ty (Number a) (Truth b) h k e = absurd (not_truth env (slice_get env.types.types ty.0) a b (some_value (int_of_def env (slice_get env.types.types ty.0) a) (value.Truth b) e))
written_apart env m cs none ty (Named name) d h k e = absurd (none ty name h)
written_apart env m cs none ty c (Named name) h k e = absurd (none ty name k)

-- ---- the laws

-- each finite history of calls with fitting answers is that of some lawful meaning, if no constant is named
pub lawful_with : (env : Environment) (term : TermId) (h : List AnsweredCall) → AreAnswerable env (called env (rules_of env term)) → NamesNone (rules_constants (rules_of env term)) → IsHistory env (called env (rules_of env term)) h
    → (m : Meaning) × IsLawful env term m × AnswersSo m [] h
lawful_with env term h can none history = (
  built env (called env (rules_of env term)) h can history,
  record {
    answers = called_term_fits env (called env (rules_of env term)) h can history;
    named = λ ty name c. absurd (none ty name c);
    apart = written_apart env (built env (called env (rules_of env term)) h can history) (rules_constants (rules_of env term)) none;
    declared = λ name v e. cc;
  },
  answers_so env (called env (rules_of env term)) h can history h [] refl (λ c k. k),
)

no_history : (env : Environment) (os : List CalledTerm) → IsHistory env os []
no_history env os = record {
  calls = λ c k. absurd (none_contained c k);
  alike = λ c d o s k. absurd (none_contained c k);
}

-- a lawful meaning exists of each term whose called terms may be answered, if no constant is named
pub lawful_exists : (env : Environment) (term : TermId) → AreAnswerable env (called env (rules_of env term)) → NamesNone (rules_constants (rules_of env term)) → (m : Meaning) × IsLawful env term m
lawful_exists env term can none = let w = lawful_with env term [] can none (no_history env (called env (rules_of env term))) in (w.0, w.1)
