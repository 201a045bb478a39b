-- A meaning that answers each callee of an instruction by one answer, whatever the arguments.
use Rattle.std.proofs.Common.{◌≡◌, ℕ, ◌<◌, List, [], ◌∷◌, ◌++◌, Bool, true, false, cond, Option, Some, None, refl, sym, ap, ◌∙◌, subst}
use Rattle.std.specs.Prelude.{All, IsSomeAnd, find, codes, slice_index_or}
use Rattle.std.specs.Str.{bytes_eq}
use Rattle.std.proofs.lemmas.List.{append_cancel_right}
use Rattle.std.proofs.lemmas.List.Elements.{All-from_recursion}
use Rattle.std.proofs.lemmas.Slice.Eq.{bytes_eq-Decides}
use Rattle.isle_base.specs.declared.ids.TypeId.{TypeId}
use Rattle.isle_core.specs.declared.types.ReturnKind.{ReturnKind}
use Rattle.isle_core.specs.declared.types.ReturnKind.TheVariants as return_kind
use Rattle.isle_core.specs.declared.values.Callee.{Callee}
use Rattle.isle_core.specs.declared.values.Callee.TheVariants.{External}
use Rattle.isle_core.specs.Calling.{Calling, ByTurns, ByCases}
use Rattle.isle_core.specs.Eval.{Answered, answered, called_with}
use Rattle.isle_core.specs.Answered.{answer_held}
use Rattle.isle_core.specs.HasType.{HasType, HaveTypes}
use Rattle.isle_core.specs.Lawful.{Fits, all_turns, all_cases, CallingFits}
use Rattle.isle_core.specs.Meaning.{PureAnswers, TurnAnswers, Meaning, turns_of, turn_at, times, same_values, cases_of, case, case_or, case_at}
use Rattle.isle_core.specs.Rule.{Environment}
use Rattle.isle_core.specs.Terms.{goes_to}
use Rattle.isle_core.specs.Value.{Value, Answer, Plain, Found, Several, Made}
use Rattle.isle_core.proofs.ListLaws.{not_both}
use Rattle.isle_prelude.specs.NumberedNames.{value_array, value_array_ctor, block_array, pack, unpack}
use Rattle.isle_prelude_laws.specs.HonestMeaning.{Whole, ValuedInst, SkeletonInst, ValueArray, BlockArray, maker, taker, gives_back, answer_to}
use Rattle.isle_prelude_laws.proofs.Gives.{Allows, Values, AnswersSo}
use Rattle.isle_prelude_laws.proofs.Laid.{whole_by}

-- how the maker of each whole is called
abbrev pub maker_calling : Whole → Calling
maker_calling ValuedInst = ByTurns (External (codes "make_inst")) return_kind.Plain
maker_calling SkeletonInst = ByTurns (External (codes "make_skeleton_inst")) return_kind.Plain
maker_calling (ValueArray n) = ByCases (External (value_array_ctor n)) return_kind.Plain
maker_calling (BlockArray n) = ByTurns (External (pack (block_array n))) return_kind.Plain

-- how its taker is called
abbrev pub taker_calling : Whole → Calling
taker_calling ValuedInst = ByCases (External (codes "inst_data_value")) return_kind.Iterator
taker_calling SkeletonInst = ByCases (External (codes "inst_data")) return_kind.Option
taker_calling (ValueArray n) = ByCases (External (unpack (value_array n))) return_kind.Plain
taker_calling (BlockArray n) = ByCases (External (unpack (block_array n))) return_kind.Plain

-- the values of an instruction and its arrays, and what they are made of
pub record Plan : Type 0 where
  pub is_valued : Bool
  pub own : Value
  pub own_parts : List Value
  pub value_count : ℕ
  pub values : Value
  pub value_parts : List Value
  pub block_count : ℕ
  pub blocks : Value
  pub block_parts : List Value

-- the value of each whole
abbrev pub plan_value : Plan → Values
plan_value p ValuedInst = p.own
plan_value p SkeletonInst = p.own
plan_value p (ValueArray n) = p.values
plan_value p (BlockArray n) = p.blocks

-- what each whole of the plan is made of; arrays are of several
abbrev pub Planned : Plan → Allows
Planned p ValuedInst vs = (p.is_valued ≡ true) × (vs ≡ p.own_parts)
Planned p SkeletonInst vs = (p.is_valued ≡ false) × (vs ≡ p.own_parts)
Planned p (ValueArray n) vs = (n ≡ p.value_count) × (vs ≡ p.value_parts) × (1 < n)
Planned p (BlockArray n) vs = (n ≡ p.block_count) × (vs ≡ p.block_parts) × (1 < n)

-- always this answer
abbrev always_pure : List ℕ → Answer → PureAnswers
always_pure name a = record { callee = External name; cases = []; rest = a }

-- so by turns
abbrev always_turn : List ℕ → Answer → TurnAnswers
always_turn name a = record { callee = External name; turns = []; rest = a }

-- what takes the instruction apart
abbrev own_taker : Plan → PureAnswers
own_taker p = always_pure (taker (whole_by p.is_valued)) (gives_back (whole_by p.is_valued) p.own_parts)

-- what packs values
abbrev value_packer : Plan → PureAnswers
value_packer p = always_pure (value_array_ctor p.value_count) (Plain (p.values ∷ []))

-- what unpacks values
abbrev value_unpacker : Plan → PureAnswers
value_unpacker p = always_pure (unpack (value_array p.value_count)) (Plain p.value_parts)

-- what unpacks blocks
abbrev block_unpacker : Plan → PureAnswers
block_unpacker p = always_pure (unpack (block_array p.block_count)) (Plain p.block_parts)

-- what makes the instruction
abbrev own_maker : Plan → TurnAnswers
own_maker p = always_turn (maker (whole_by p.is_valued)) (Plain (p.own ∷ []))

-- what packs blocks
abbrev block_packer : Plan → TurnAnswers
block_packer p = always_turn (pack (block_array p.block_count)) (Plain (p.blocks ∷ []))

-- the meaning of a plan
abbrev pub planned : Plan → Meaning
planned p = record {
  consts = [];
  pure = own_taker p ∷ value_packer p ∷ value_unpacker p ∷ block_unpacker p ∷ [];
  turns = own_maker p ∷ block_packer p ∷ [];
}

-- ---- names

same_name : (a : List ℕ) → bytes_eq a a ≡ true
same_name a = (bytes_eq-Decides a a).1 refl

-- names of different beginnings
own_pack : (b : Bool) (n : ℕ) → bytes_eq (pack (block_array n)) (maker (whole_by b)) ≡ false
own_pack true n = refl
own_pack false n = refl

ctor_taker : (b : Bool) (n : ℕ) → bytes_eq (value_array_ctor n) (taker (whole_by b)) ≡ false
unfolding value_array_ctor value_array
ctor_taker true n = refl
ctor_taker false n = refl

ctor_maker : (b : Bool) (n : ℕ) → bytes_eq (value_array_ctor n) (maker (whole_by b)) ≡ false
unfolding value_array_ctor value_array
ctor_maker true n = refl
ctor_maker false n = refl

ctor_pack : (n k : ℕ) → bytes_eq (value_array_ctor n) (pack (block_array k)) ≡ false
unfolding value_array_ctor value_array
ctor_pack n k = refl

unpack_taker : (b : Bool) (name : List ℕ) → bytes_eq (unpack name) (taker (whole_by b)) ≡ false
unpack_taker true name = refl
unpack_taker false name = refl

unpack_ctor : (name : List ℕ) (k : ℕ) → bytes_eq (unpack name) (value_array_ctor k) ≡ false
unfolding value_array_ctor value_array
unpack_ctor name k = refl

unpack_apart : (n k : ℕ) → bytes_eq (unpack (block_array n)) (unpack (value_array k)) ≡ false
unfolding block_array value_array
unpack_apart n k = refl

taker_maker : (b : Bool) → bytes_eq (taker (whole_by b)) (maker (whole_by b)) ≡ false
taker_maker true = refl
taker_maker false = refl

taker_pack : (b : Bool) (n : ℕ) → bytes_eq (taker (whole_by b)) (pack (block_array n)) ≡ false
taker_pack true n = refl
taker_pack false n = refl

unpack_maker : (b : Bool) (name : List ℕ) → bytes_eq (unpack name) (maker (whole_by b)) ≡ false
unpack_maker true name = refl
unpack_maker false name = refl

unpack_pack : (name other : List ℕ) → bytes_eq (unpack name) (pack other) ≡ false
unpack_pack name other = refl

-- ---- what is found

-- the first, or behind it
find_first : {X : Type 0} (test : X → Bool) (x : X) (xs : List X) → test x ≡ true → find test (x ∷ xs) ≡ Some x
find_first test x xs h = ap (λ b. cond b (Some x) (find test xs)) h

find_later : {X : Type 0} (test : X → Bool) (x : X) (xs : List X) (o : Option X) → test x ≡ false → find test xs ≡ o → find test (x ∷ xs) ≡ o
find_later test x xs o h k = ap (λ b. cond b (Some x) (find test xs)) h ∙ k

-- whether the answers are of this name
abbrev of_turn : List ℕ → TurnAnswers → Bool
of_turn name a = goes_to (External name) (Some a.callee)

-- so of cases
abbrev of_case : List ℕ → PureAnswers → Bool
of_case name a = goes_to (External name) (Some a.callee)

module _ (p : Plan) where
  turns_own : turns_of (planned p) (External (maker (whole_by p.is_valued))) ≡ Some (own_maker p)
  turns_own = find_first (of_turn (maker (whole_by p.is_valued))) (own_maker p) (block_packer p ∷ []) (same_name (maker (whole_by p.is_valued)))

  turns_pack : turns_of (planned p) (External (pack (block_array p.block_count))) ≡ Some (block_packer p)
  turns_pack =
      let name = pack (block_array p.block_count) in
      find_later (of_turn name) (own_maker p) (block_packer p ∷ []) (Some (block_packer p)) (own_pack p.is_valued p.block_count) (find_first (of_turn name) (block_packer p) [] (same_name name))

  turns_none : turns_of (planned p) (External (value_array_ctor p.value_count)) ≡ None
  turns_none =
      let name = value_array_ctor p.value_count in
      find_later (of_turn name) (own_maker p) (block_packer p ∷ []) None (ctor_maker p.is_valued p.value_count) (find_later (of_turn name) (block_packer p) [] None (ctor_pack p.value_count p.block_count) refl)

  cases_own : cases_of (planned p) (External (taker (whole_by p.is_valued))) ≡ Some (own_taker p)
  cases_own = find_first (of_case (taker (whole_by p.is_valued))) (own_taker p) (value_packer p ∷ value_unpacker p ∷ block_unpacker p ∷ []) (same_name (taker (whole_by p.is_valued)))

  cases_ctor : cases_of (planned p) (External (value_array_ctor p.value_count)) ≡ Some (value_packer p)
  cases_ctor =
      let name = value_array_ctor p.value_count in
      find_later (of_case name) (own_taker p) (value_packer p ∷ value_unpacker p ∷ block_unpacker p ∷ []) (Some (value_packer p)) (ctor_taker p.is_valued p.value_count)
      (find_first (of_case name) (value_packer p) (value_unpacker p ∷ block_unpacker p ∷ []) (same_name name))

  cases_values : cases_of (planned p) (External (unpack (value_array p.value_count))) ≡ Some (value_unpacker p)
  cases_values =
      let name = unpack (value_array p.value_count) in
      find_later (of_case name) (own_taker p) (value_packer p ∷ value_unpacker p ∷ block_unpacker p ∷ []) (Some (value_unpacker p)) (unpack_taker p.is_valued (value_array p.value_count))
      (find_later (of_case name) (value_packer p) (value_unpacker p ∷ block_unpacker p ∷ []) (Some (value_unpacker p)) (unpack_ctor (value_array p.value_count) p.value_count) (find_first (of_case name) (value_unpacker p) (block_unpacker p ∷ []) (same_name name)))

  cases_blocks : cases_of (planned p) (External (unpack (block_array p.block_count))) ≡ Some (block_unpacker p)
  cases_blocks =
      let name = unpack (block_array p.block_count) in
      find_later (of_case name) (own_taker p) (value_packer p ∷ value_unpacker p ∷ block_unpacker p ∷ []) (Some (block_unpacker p)) (unpack_taker p.is_valued (block_array p.block_count))
      (find_later (of_case name) (value_packer p) (value_unpacker p ∷ block_unpacker p ∷ []) (Some (block_unpacker p)) (unpack_ctor (block_array p.block_count) p.value_count)
      (find_later (of_case name) (value_unpacker p) (block_unpacker p ∷ []) (Some (block_unpacker p)) (unpack_apart p.block_count p.value_count) (find_first (of_case name) (block_unpacker p) [] (same_name name))))

  -- ---- what is answered

  turn_gives : (callee : Callee) (a : TurnAnswers) (v : Value) (place : ℕ) (vs : List Value) (made : List Made) → turns_of (planned p) callee ≡ Some a
      → a.turns ≡ [] → a.rest ≡ Plain (v ∷ [])
      → (after : List Made) × (called_with (planned p) place (ByTurns callee return_kind.Plain) vs made ≡ Answered v after)
  turn_gives callee a v place vs made h none rest =
      let after = made ++ record { callee = callee; args = vs } ∷ [] in
      (after, ap (λ o. answered place (answer_held (turn_at o (times callee made))) after) h ∙ ap (λ ts. answered place (answer_held (slice_index_or ts (times callee made) a.rest)) after) none ∙ ap (λ x. answered place (answer_held x) after) rest)

  case_gives : (callee : Callee) (a : PureAnswers) (vs : List Value) → cases_of (planned p) callee ≡ Some a → a.cases ≡ [] → case (planned p) callee vs ≡ a.rest
  case_gives callee a vs h none = ap (λ o. case_at o vs) h ∙ ap (λ (cs : List (List Value × Answer)). case_or a.rest (find (λ (c : List Value × Answer). same_values c.0 vs) cs)) none

  pub makers_answer : AnswersSo (planned p) (plan_value p) maker_calling (Planned p)
  makers_answer ValuedInst vs h place made = turn_gives (External (maker (whole_by true))) (own_maker p) p.own place vs made (subst (λ b. turns_of (planned p) (External (maker (whole_by b))) ≡ Some (own_maker p)) h.0 turns_own) refl refl
  makers_answer SkeletonInst vs h place made = turn_gives (External (maker (whole_by false))) (own_maker p) p.own place vs made (subst (λ b. turns_of (planned p) (External (maker (whole_by b))) ≡ Some (own_maker p)) h.0 turns_own) refl refl
  makers_answer (ValueArray n) vs h place made =
      let is = case_gives (External (value_array_ctor n)) (value_packer p) vs (subst (λ k. cases_of (planned p) (External (value_array_ctor k)) ≡ Some (value_packer p)) (sym h.0) cases_ctor) refl in
      (made, ap (λ a. answered place (answer_held a) made) is)
  makers_answer (BlockArray n) vs h place made = turn_gives (External (pack (block_array n))) (block_packer p) p.blocks place vs made (subst (λ k. turns_of (planned p) (External (pack (block_array k))) ≡ Some (block_packer p)) (sym h.0) turns_pack) refl refl

  pub takers_answer : (w : Whole) (vs : List Value) → Planned p w vs → answer_to (planned p) (taker_calling w) (plan_value p w) ≡ Some (gives_back w vs)
  takers_answer ValuedInst vs h =
      ap Some (case_gives (External (taker (whole_by true))) (own_taker p) (p.own ∷ []) (subst (λ b. cases_of (planned p) (External (taker (whole_by b))) ≡ Some (own_taker p)) h.0 cases_own) refl ∙ ap (λ b. gives_back (whole_by b) p.own_parts) h.0 ∙ ap (gives_back ValuedInst) (sym h.1))
  takers_answer SkeletonInst vs h =
      ap Some (case_gives (External (taker (whole_by false))) (own_taker p) (p.own ∷ []) (subst (λ b. cases_of (planned p) (External (taker (whole_by b))) ≡ Some (own_taker p)) h.0 cases_own) refl ∙ ap (λ b. gives_back (whole_by b) p.own_parts) h.0 ∙ ap (gives_back SkeletonInst) (sym h.1))
  takers_answer (ValueArray n) vs h =
      ap Some (case_gives (External (unpack (value_array n))) (value_unpacker p) (p.values ∷ []) (subst (λ k. cases_of (planned p) (External (unpack (value_array k))) ≡ Some (value_unpacker p)) (sym h.0) cases_values) refl ∙ ap Plain (sym h.1))
  takers_answer (BlockArray n) vs h =
      ap Some (case_gives (External (unpack (block_array n))) (block_unpacker p) (p.blocks ∷ []) (subst (λ k. cases_of (planned p) (External (unpack (block_array k))) ≡ Some (block_unpacker p)) (sym h.0) cases_blocks) refl ∙ ap Plain (sym h.1))

  -- ---- lawful answers

  turns_fit : (env : Environment) (ret : TypeId) (name : List ℕ) (v : Value)
      → turns_of (planned p) (External name) ≡ Some (always_turn name (Plain (v ∷ []))) → HasType env v ret
      → CallingFits env (planned p) (ret ∷ []) (ByTurns (External name) return_kind.Plain)
  turns_fit env ret name v h typed =
      subst (λ o. IsSomeAnd o (λ a. All (Fits env return_kind.Plain (ret ∷ [])) (all_turns a))) (sym h) (All-from_recursion (Fits env return_kind.Plain (ret ∷ [])) (Plain (v ∷ []) ∷ []) ((typed, tt), tt))

  pub makers_fit : (env : Environment) (ret : TypeId) (w : Whole) (vs : List Value) → Planned p w vs → HasType env (plan_value p w) ret
      → CallingFits env (planned p) (ret ∷ []) (maker_calling w)
  makers_fit env ret ValuedInst vs h typed = turns_fit env ret (maker (whole_by true)) p.own (subst (λ b. turns_of (planned p) (External (maker (whole_by b))) ≡ Some (always_turn (maker (whole_by b)) (Plain (p.own ∷ [])))) h.0 turns_own) typed
  makers_fit env ret SkeletonInst vs h typed = turns_fit env ret (maker (whole_by false)) p.own (subst (λ b. turns_of (planned p) (External (maker (whole_by b))) ≡ Some (always_turn (maker (whole_by b)) (Plain (p.own ∷ [])))) h.0 turns_own) typed
  makers_fit env ret (BlockArray n) vs h typed = turns_fit env ret (pack (block_array n)) p.blocks (subst (λ k. turns_of (planned p) (External (pack (block_array k))) ≡ Some (always_turn (pack (block_array k)) (Plain (p.blocks ∷ [])))) (sym h.0) turns_pack) typed
  makers_fit env ret (ValueArray n) vs h typed = (
    subst (λ o. IsSomeAnd o (λ a. All (Fits env return_kind.Plain (ret ∷ [])) (all_cases a))) (sym (subst (λ k. cases_of (planned p) (External (value_array_ctor k)) ≡ Some (value_packer p)) (sym h.0) cases_ctor))
        (All-from_recursion (Fits env return_kind.Plain (ret ∷ [])) (Plain (p.values ∷ []) ∷ []) ((typed, tt), tt)),
    subst (λ k. turns_of (planned p) (External (value_array_ctor k)) ≡ None) (sym h.0) turns_none,
  )

  -- what is taken by cases is taken by no turns
  untaken : (name : List ℕ) → bytes_eq name (maker (whole_by p.is_valued)) ≡ false → bytes_eq name (pack (block_array p.block_count)) ≡ false
      → turns_of (planned p) (External name) ≡ None
  untaken name h k = find_later (of_turn name) (own_maker p) (block_packer p ∷ []) None h (find_later (of_turn name) (block_packer p) [] None k refl)

  cases_fit : (env : Environment) (kind : ReturnKind) (tys : List TypeId) (name : List ℕ) (a : Answer)
      → cases_of (planned p) (External name) ≡ Some (always_pure name a)
      → turns_of (planned p) (External name) ≡ None → Fits env kind tys a → CallingFits env (planned p) tys (ByCases (External name) kind)
  cases_fit env kind tys name a h none fits =
      (subst (λ o. IsSomeAnd o (λ x. All (Fits env kind tys) (all_cases x))) (sym h) (All-from_recursion (Fits env kind tys) (a ∷ []) (fits, tt)), none)

  own_fits : (env : Environment) (tys : List TypeId) (b : Bool) → p.is_valued ≡ b → HaveTypes env p.own_parts tys
      → CallingFits env (planned p) tys (taker_calling (whole_by b))
  own_fits env tys b is h = by b (subst (λ c. cases_of (planned p) (External (taker (whole_by c))) ≡ Some (always_pure (taker (whole_by c)) (gives_back (whole_by c) p.own_parts))) is cases_own)
      (subst (λ c. turns_of (planned p) (External (taker (whole_by c))) ≡ None) is (untaken (taker (whole_by p.is_valued)) (taker_maker p.is_valued) (taker_pack p.is_valued p.block_count)))
    where
      by : (c : Bool)
          → cases_of (planned p) (External (taker (whole_by c))) ≡ Some (always_pure (taker (whole_by c)) (gives_back (whole_by c) p.own_parts))
          → turns_of (planned p) (External (taker (whole_by c))) ≡ None
          → CallingFits env (planned p) tys (taker_calling (whole_by c))
      by true found none = cases_fit env return_kind.Iterator tys (taker (whole_by true)) (Several (p.own_parts ∷ [])) found none (h, tt)
      by false found none = cases_fit env return_kind.Option tys (taker (whole_by false)) (Found p.own_parts) found none h

  -- the takers of planned wholes answer parts of these types
  pub takers_fit : (env : Environment) (tys : List TypeId) (w : Whole) (vs : List Value) → Planned p w vs → HaveTypes env vs tys
      → CallingFits env (planned p) tys (taker_calling w)
  takers_fit env tys ValuedInst vs h typed = own_fits env tys true h.0 (subst (λ xs. HaveTypes env xs tys) h.1 typed)
  takers_fit env tys SkeletonInst vs h typed = own_fits env tys false h.0 (subst (λ xs. HaveTypes env xs tys) h.1 typed)
  takers_fit env tys (ValueArray n) vs h typed =
      subst (λ k. CallingFits env (planned p) tys (ByCases (External (unpack (value_array k))) return_kind.Plain)) (sym h.0)
      (cases_fit env return_kind.Plain tys (unpack (value_array p.value_count)) (Plain p.value_parts) cases_values
      (untaken (unpack (value_array p.value_count)) (unpack_maker p.is_valued (value_array p.value_count)) (unpack_pack (value_array p.value_count) (block_array p.block_count)))
      (subst (λ xs. HaveTypes env xs tys) h.1 typed))
  takers_fit env tys (BlockArray n) vs h typed =
      subst (λ k. CallingFits env (planned p) tys (ByCases (External (unpack (block_array k))) return_kind.Plain)) (sym h.0)
      (cases_fit env return_kind.Plain tys (unpack (block_array p.block_count)) (Plain p.block_parts) cases_blocks
      (untaken (unpack (block_array p.block_count)) (unpack_maker p.is_valued (block_array p.block_count)) (unpack_pack (block_array p.block_count) (block_array p.block_count)))
      (subst (λ xs. HaveTypes env xs tys) h.1 typed))

-- ---- terms of one name

-- two wholes are taken apart by terms of one name, into the same
pub record AreAlike (w x : Whole) : Type 0 where
  pub taken : taker w ≡ taker x
  pub back : (vs : List Value) → gives_back w vs ≡ gives_back x vs

differ : (a b : List ℕ) → a ≡ b → bytes_eq a b ≡ false → ⊥
differ a b h e = not_both ((bytes_eq-Decides a b).1 h) e

-- wholes that one maker makes are taken apart alike
pub makers_alike : (w x : Whole) → maker w ≡ maker x → AreAlike w x
unfolding value_array_ctor value_array block_array
makers_alike ValuedInst ValuedInst h = record { taken = refl; back = λ vs. refl }
makers_alike SkeletonInst SkeletonInst h = record { taken = refl; back = λ vs. refl }
makers_alike (ValueArray n) (ValueArray k) h = record { taken = append_cancel_right (value_array n) (value_array k) (codes "_ctor") h; back = λ vs. refl }
makers_alike (BlockArray n) (BlockArray k) h = record { taken = h; back = λ vs. refl }
makers_alike ValuedInst SkeletonInst h = absurd (differ (maker ValuedInst) (maker SkeletonInst) h refl)
makers_alike ValuedInst (ValueArray k) h = absurd (differ (maker ValuedInst) (maker (ValueArray k)) h refl)
makers_alike ValuedInst (BlockArray k) h = absurd (differ (maker ValuedInst) (maker (BlockArray k)) h refl)
makers_alike SkeletonInst ValuedInst h = absurd (differ (maker SkeletonInst) (maker ValuedInst) h refl)
makers_alike SkeletonInst (ValueArray k) h = absurd (differ (maker SkeletonInst) (maker (ValueArray k)) h refl)
makers_alike SkeletonInst (BlockArray k) h = absurd (differ (maker SkeletonInst) (maker (BlockArray k)) h refl)
makers_alike (ValueArray n) ValuedInst h = absurd (differ (maker (ValueArray n)) (maker ValuedInst) h refl)
makers_alike (ValueArray n) SkeletonInst h = absurd (differ (maker (ValueArray n)) (maker SkeletonInst) h refl)
makers_alike (ValueArray n) (BlockArray k) h = absurd (differ (maker (ValueArray n)) (maker (BlockArray k)) h refl)
makers_alike (BlockArray n) ValuedInst h = absurd (differ (maker (BlockArray n)) (maker ValuedInst) h refl)
makers_alike (BlockArray n) SkeletonInst h = absurd (differ (maker (BlockArray n)) (maker SkeletonInst) h refl)
makers_alike (BlockArray n) (ValueArray k) h = absurd (differ (maker (BlockArray n)) (maker (ValueArray k)) h refl)

-- each taker has a name
pub taker_named : (w : Whole) → taker w ≡ [] → ⊥
unfolding value_array block_array
taker_named ValuedInst h = differ (taker ValuedInst) [] h refl
taker_named SkeletonInst h = differ (taker SkeletonInst) [] h refl
taker_named (ValueArray n) h = differ (taker (ValueArray n)) [] h refl
taker_named (BlockArray n) h = differ (taker (BlockArray n)) [] h refl
