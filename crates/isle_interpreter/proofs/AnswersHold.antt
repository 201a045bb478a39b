-- What callees answer under right entries.
use Rattle.std.proofs.Common.{◌≡◌, ℕ, List, [], ◌∷◌, ◌++◌, length, map, Bool, true, false, Option, Some, None, refl, sym, ap, subst, append_assoc, append-nil}
use Rattle.std.specs.Prelude.{zero, suc, find, cond, IsSomeAnd, slice_index_or}
use Rattle.std.specs.List.{AllByRecursion}
use Rattle.std.proofs.lemmas.Slice.Eq.{bytes_eq-Decides}
use Rattle.isle_core.specs.declared.values.Callee.{Callee}
use Rattle.isle_core.specs.declared.values.Callee.TheVariants.{External, Internal}
use Rattle.isle_core.specs.Value.{Value, Answer, Plain, Found, Nothing, Several, Made}
use Rattle.isle_core.specs.Meaning.{PureAnswers, TurnAnswers, Meaning, turns_of, times, cases_of, case_or, case_at, same_values}
use Rattle.isle_core.specs.Answered.{Item, AValue, ATuple, Held, Absent, One, Optional, Listed, item_of, answer_held, answer_by, answer}
use Rattle.isle_core.specs.Terms.{goes_to}
use Rattle.isle_tree.specs.declared.holds.Holds.{Holds}
use Rattle.isle_tree.specs.declared.holds.Holds.TheVariants as holds
use Rattle.isle_tree.specs.declared.holds.Item.{Item as ItemHeld}
use Rattle.isle_tree.specs.declared.holds.Item.TheVariants as item
use Rattle.isle_tree.specs.declared.tree.TypeItem.{TypeItem}
use Rattle.isle_tree.specs.Program.{Function, Program}
use Rattle.isle_tree.specs.WellFormed.{results_item, kind_holds}
use Rattle.isle_places.specs.Signatures.{Signature, signature_of}
use Rattle.isle_interpreter.specs.Named.{AreNamed, AnswerFits}
use Rattle.isle_interpreter.specs.Entries.{Entry, Constant, Cases, Turns, entries, IsUnanswered, CaseFits, EntryFits, AreRight}

-- an item is what is said of it
abbrev pub IsItem : ItemHeld → Item → Type 0
IsItem item.Value (AValue v) = Unit {0}
IsItem item.Value (ATuple vs) = ⊥
IsItem (item.Tuple count) (AValue v) = ⊥
IsItem (item.Tuple count) (ATuple vs) = length vs ≡ count

-- a place holds what is said of it
abbrev pub HoldsIn : Holds → Held → Type 0
HoldsIn (holds.One x) (One i) = IsItem x i
HoldsIn (holds.One x) (Optional o) = ⊥
HoldsIn (holds.One x) (Listed is) = ⊥
HoldsIn (holds.One x) Absent = ⊥
HoldsIn (holds.Optional x) (Optional None) = Unit {0}
HoldsIn (holds.Optional x) (Optional (Some i)) = IsItem x i
HoldsIn (holds.Optional x) (One i) = ⊥
HoldsIn (holds.Optional x) (Listed is) = ⊥
HoldsIn (holds.Optional x) Absent = ⊥
HoldsIn (holds.Several x) (Listed is) = AllByRecursion (IsItem x) is
HoldsIn (holds.Several x) (One i) = ⊥
HoldsIn (holds.Several x) (Optional o) = ⊥
HoldsIn (holds.Several x) Absent = ⊥

-- ---- callees

pub goes_same : (c d : Callee) → goes_to c (Some d) ≡ true → d ≡ c
goes_same (External a) (External b) e = ap External (sym ((bytes_eq-Decides a b).0 e))
goes_same (Internal a) (Internal b) e = ap Internal (sym ((bytes_eq-Decides a b).0 e))
goes_same (External a) (Internal b) e = absurd cc
goes_same (Internal a) (External b) e = absurd cc

-- ---- right entries

right_front : (p : Program) (f : Function) (m : Meaning) (e xs ys : List Entry) → AreRight p f m e (xs ++ ys) → AreRight p f m e xs
right_front p f m e [] ys h = tt
right_front p f m e (x ∷ xs) ys h = (h.0, right_front p f m (e ++ x ∷ []) xs ys h.1)

right_rest : (p : Program) (f : Function) (m : Meaning) (e xs ys : List Entry) → AreRight p f m e (xs ++ ys) → AreRight p f m (e ++ xs) ys
right_rest p f m e [] ys h = subst (λ fs. AreRight p f m fs ys) (sym (append-nil e)) h
right_rest p f m e (x ∷ xs) ys h = subst (λ fs. AreRight p f m fs ys) (append_assoc e (x ∷ []) xs) (right_rest p f m (e ++ x ∷ []) xs ys h.1)

turns_by : (p : Program) (callee : Callee) (t a : TurnAnswers) (tail : Option TurnAnswers) (b : Bool) → goes_to callee (Some t.callee) ≡ b → IsSomeAnd (signature_of p t.callee) (EntryFits p.types (Turns t))
    → (tail ≡ Some a → IsSomeAnd (signature_of p callee) (EntryFits p.types (Turns a))) → cond b (Some t) tail ≡ Some a → IsSomeAnd (signature_of p callee) (EntryFits p.types (Turns a))
turns_by p callee t a tail true g h go e =
    let same : t ≡ a = cc in
    subst (λ (x : TurnAnswers). IsSomeAnd (signature_of p callee) (EntryFits p.types (Turns x))) same (subst (λ c. IsSomeAnd (signature_of p c) (EntryFits p.types (Turns t))) (goes_same callee t.callee g) h)
turns_by p callee t a tail false g h go e = go e

found_turns : (p : Program) (k : Function) (m : Meaning) (e : List Entry) (ts : List TurnAnswers) (callee : Callee) (a : TurnAnswers) → AreRight p k m e (map Turns ts) → find (λ (b : TurnAnswers). goes_to callee (Some b.callee)) ts ≡ Some a
    → IsSomeAnd (signature_of p callee) (EntryFits p.types (Turns a))
found_turns p k m e [] callee a h f = absurd cc
found_turns p k m e (t ∷ ts) callee a h f =
    turns_by p callee t a (find (λ (b : TurnAnswers). goes_to callee (Some b.callee)) ts) (goes_to callee (Some t.callee)) refl h.0.1 (found_turns p k m (e ++ Turns t ∷ []) ts callee a h.1) f

cases_by : (p : Program) (callee : Callee) (t a : PureAnswers) (tail : Option PureAnswers) (b : Bool) → goes_to callee (Some t.callee) ≡ b → IsSomeAnd (signature_of p t.callee) (EntryFits p.types (Cases t))
    → (tail ≡ Some a → IsSomeAnd (signature_of p callee) (EntryFits p.types (Cases a))) → cond b (Some t) tail ≡ Some a → IsSomeAnd (signature_of p callee) (EntryFits p.types (Cases a))
cases_by p callee t a tail true g h go e =
    let same : t ≡ a = cc in
    subst (λ (x : PureAnswers). IsSomeAnd (signature_of p callee) (EntryFits p.types (Cases x))) same (subst (λ c. IsSomeAnd (signature_of p c) (EntryFits p.types (Cases t))) (goes_same callee t.callee g) h)
cases_by p callee t a tail false g h go e = go e

found_cases : (p : Program) (k : Function) (m : Meaning) (e : List Entry) (ts : List PureAnswers) (callee : Callee) (a : PureAnswers) → AreRight p k m e (map Cases ts) → find (λ (b : PureAnswers). goes_to callee (Some b.callee)) ts ≡ Some a
    → IsSomeAnd (signature_of p callee) (EntryFits p.types (Cases a))
found_cases p k m e [] callee a h f = absurd cc
found_cases p k m e (t ∷ ts) callee a h f =
    cases_by p callee t a (find (λ (b : PureAnswers). goes_to callee (Some b.callee)) ts) (goes_to callee (Some t.callee)) refl h.0.1 (found_cases p k m (e ++ Cases t ∷ []) ts callee a h.1) f

-- ---- a callee without turns and cases is unanswered

pub both_unanswered : (callee : Callee) (xs ys : List Entry) → IsUnanswered callee xs → IsUnanswered callee ys → IsUnanswered callee (xs ++ ys)
both_unanswered callee [] ys h k = k
both_unanswered callee (x ∷ xs) ys h k = (h.0, both_unanswered callee xs ys h.1 k)

pub no_constants : (callee : Callee) (cs : List (List ℕ × Value)) → IsUnanswered callee (map (λ c. Constant c.0 c.1) cs)
no_constants callee [] = tt
no_constants callee (c ∷ cs) = (unanswered callee, no_constants callee cs)
  where
    unanswered : (callee : Callee) → goes_to callee None ≡ false
    unanswered (External name) = refl
    unanswered (Internal term) = refl

cond_none : {A : Type 0} (b : Bool) (x : A) (tail : Option A) → cond b (Some x) tail ≡ None → (b ≡ false) × (tail ≡ None)
cond_none true x tail e = absurd cc
cond_none false x tail e = (refl, e)

pub no_turns : (callee : Callee) (ts : List TurnAnswers) → find (λ (b : TurnAnswers). goes_to callee (Some b.callee)) ts ≡ None → IsUnanswered callee (map Turns ts)
no_turns callee [] e = tt
no_turns callee (t ∷ ts) e = let f = cond_none (goes_to callee (Some t.callee)) t (find (λ (b : TurnAnswers). goes_to callee (Some b.callee)) ts) e in (f.0, no_turns callee ts f.1)

pub no_cases : (callee : Callee) (ts : List PureAnswers) → find (λ (b : PureAnswers). goes_to callee (Some b.callee)) ts ≡ None → IsUnanswered callee (map Cases ts)
no_cases callee [] e = tt
no_cases callee (t ∷ ts) e = let f = cond_none (goes_to callee (Some t.callee)) t (find (λ (b : PureAnswers). goes_to callee (Some b.callee)) ts) e in (f.0, no_cases callee ts f.1)

-- ---- answers fit

index_fits : {A : Type 0} (P : A → Type 0) (xs : List A) (n : ℕ) (d : A) → AllByRecursion P xs → P d → P (slice_index_or xs n d)
index_fits P [] n d h k = k
index_fits P (x ∷ xs) zero d h k = h.0
index_fits P (x ∷ xs) (suc n) d h k = index_fits P xs n d h.1 k

case_fits : (types : List TypeItem) (s : Signature) (rest : Answer) (test : List Value × Answer → Bool) (cs : List (List Value × Answer)) → AllByRecursion (CaseFits types s) cs → AnswerFits types s rest → AnswerFits types s (case_or rest (find test cs))
case_fits types s rest test [] h k = k
case_fits types s rest test (c ∷ cs) h k = by (test c) (case_fits types s rest test cs h.1 k)
  where
    by : (b : Bool) → AnswerFits types s (case_or rest (find test cs)) → AnswerFits types s (case_or rest (cond b (Some c) (find test cs)))
    by true go = h.0.1
    by false go = go

-- an answer fits the signature of its callee
pub answer_fits : (p : Program) (f : Function) (m : Meaning) (callee : Callee) (s : Signature) → AreRight p f m [] (entries m) → (IsUnanswered callee (entries m) → ⊥) → signature_of p callee ≡ Some s
    → (vs : List Value) (made : List Made) → AnswerFits p.types s (answer m callee vs made)
answer_fits p f m callee s right some is vs made = by_turns (turns_of m callee) refl
  where
    consts : List Entry
    consts = map (λ c. Constant c.0 c.1) m.consts

    later : AreRight p f m consts (map Cases m.pure ++ map Turns m.turns)
    later = right_rest p f m [] consts (map Cases m.pure ++ map Turns m.turns) right

    by_cases : turns_of m callee ≡ None → (o : Option PureAnswers) → cases_of m callee ≡ o → AnswerFits p.types s (case_at o vs)
    by_cases t None e = absurd (some (both_unanswered callee consts (map Cases m.pure ++ map Turns m.turns) (no_constants callee m.consts) (both_unanswered callee (map Cases m.pure) (map Turns m.turns) (no_cases callee m.pure e) (no_turns callee m.turns t))))
    by_cases t (Some a) e =
        let fit : EntryFits p.types (Cases a) s = subst (λ o. IsSomeAnd o (EntryFits p.types (Cases a))) is (found_cases p f m consts m.pure callee a (right_front p f m consts (map Cases m.pure) (map Turns m.turns) later) e) in
        case_fits p.types s a.rest (λ (c : List Value × Answer). same_values c.0 vs) a.cases fit.0 fit.1

    by_turns : (o : Option TurnAnswers) → turns_of m callee ≡ o → AnswerFits p.types s (answer_by o m callee vs made)
    by_turns None e = by_cases e (cases_of m callee) refl
    by_turns (Some a) e =
        let fit : EntryFits p.types (Turns a) s = subst (λ o. IsSomeAnd o (EntryFits p.types (Turns a))) is (found_turns p f m (consts ++ map Cases m.pure) m.turns callee a (right_rest p f m consts (map Cases m.pure) (map Turns m.turns) later) e) in
        index_fits (AnswerFits p.types s) a.turns (times callee made) a.rest fit.0 fit.1

-- ---- and hold what their kind and their results say

-- as many values as names
pub named_length : (types : List TypeItem) (names : List (List ℕ)) (vs : List Value) → AreNamed types names vs → length vs ≡ length names
named_length types [] [] h = refl
named_length types (n ∷ names) (v ∷ vs) h = ap suc (named_length types names vs h.1)
named_length types [] (v ∷ vs) h = absurd h
named_length types (n ∷ names) [] h = absurd h

item_holds : (types : List TypeItem) (names : List (List ℕ)) (vs : List Value) → AreNamed types names vs → IsItem (results_item names) (item_of vs)
item_holds types [] [] h = refl
item_holds types [] (v ∷ vs) h = absurd h
item_holds types (n ∷ []) [] h = absurd h
item_holds types (n ∷ []) (v ∷ []) h = tt
item_holds types (n ∷ []) (v ∷ w ∷ vs) h = absurd h.1
item_holds types (n ∷ m ∷ names) [] h = absurd h
item_holds types (n ∷ m ∷ names) (v ∷ []) h = absurd h.1
item_holds types (n ∷ m ∷ names) (v ∷ w ∷ vs) h = named_length types (n ∷ m ∷ names) (v ∷ w ∷ vs) h

items_hold : (types : List TypeItem) (names : List (List ℕ)) (vss : List (List Value)) → AllByRecursion (AreNamed types names) vss → AllByRecursion (IsItem (results_item names)) (map item_of vss)
items_hold types names [] h = tt
items_hold types names (vs ∷ vss) h = (item_holds types names vs h.0, items_hold types names vss h.1)

pub answer_holds : (types : List TypeItem) (s : Signature) (a : Answer) → AnswerFits types s a → HoldsIn (kind_holds s.kind (results_item s.results)) (answer_held a)
answer_holds types s (Plain vs) fit = subst (λ k. HoldsIn (kind_holds k (results_item s.results)) (answer_held (Plain vs))) (sym fit.0) (item_holds types s.results vs fit.1)
answer_holds types s (Found vs) fit = subst (λ k. HoldsIn (kind_holds k (results_item s.results)) (answer_held (Found vs))) (sym fit.0) (item_holds types s.results vs fit.1)
answer_holds types s Nothing fit = subst (λ k. HoldsIn (kind_holds k (results_item s.results)) (answer_held Nothing)) (sym fit) tt
answer_holds types s (Several vss) fit = subst (λ k. HoldsIn (kind_holds k (results_item s.results)) (answer_held (Several vss))) (sym fit.0) (items_hold types s.results vss fit.1)
