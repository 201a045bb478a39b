-- What is known after words is true of them.
use Rattle.std.proofs.Common.{◌≡◌, ℕ, ◌≤◌, List, [], ◌∷◌, ◌++◌, length, append_assoc, append-nil, Bool, true, false, not, ◌&&◌, Option, Some, None, refl, ap, sym, ◌∙◌, subst, arith}
use Rattle.std.specs.Prelude.{codes}
use Rattle.std.specs.Prelude.{is_some}
use Rattle.std.specs.List.{list_all}
use Rattle.std.proofs.lemmas.List.{length-append}
use Rattle.isle_core.specs.declared.options.CodegenOptions.{CodegenOptions}
use Rattle.isle_settings.specs.declared.isa.Isa.{Isa}
use Rattle.isle_values.specs.Written.{Writtens}
use Rattle.isle_values.specs.Spelling.{SpellsValues}
use Rattle.isle_values.specs.Reading.{spelt}
use Rattle.isle_values.proofs.Spelt.{IsSpelt, spelt_is}
use Rattle.isle_command_line.specs.Words.{is_name}
use Rattle.isle_command_line.specs.Targets.{target_of}
use Rattle.isle_command_line.specs.Lines as choice
use Rattle.isle_command_line.specs.Lines.{LineS, SourceS, AnswersS, no_options}
use Rattle.isle_command_line.specs.Reading.{after_first_word, after_name, head_of, source_of, optional, with_values, run_request, after_last, is_trace, is_answers, nothing_given, given_more, after_mark, with_threshold, with_limit, with_prefix, after_kind, after_target, after_size, next, onward, read, asks, first, mark, kind_of, count, size, parts}
use Rattle.isle_command_line.specs.declared.commands.Kind.{Kind}
use Rattle.isle_command_line.specs.declared.commands.Source.{Source}
use Rattle.isle_command_line.specs.Request.{Request}
use Rattle.isle_command_line.specs.Request as command
use Rattle.isle_command_line.specs.declared.word.FirstWord.{FirstWord}
use Rattle.isle_command_line.specs.declared.word.FirstWord.TheVariants as first_word
use Rattle.isle_command_line.specs.declared.word.OptionWord.{OptionWord}
use Rattle.isle_command_line.specs.declared.word.OptionWord.TheVariants as marked
use Rattle.isle_command_line.specs.declared.state.GivenOptions.{GivenOptions}
use Rattle.isle_command_line.specs.declared.state.RunHead.{RunHead}
use Rattle.isle_command_line.specs.declared.state.Verb.{Verb}
use Rattle.isle_command_line.specs.declared.state.Verb.TheVariants as verb
use Rattle.isle_command_line.specs.Known.{Known, RunParts}
use Rattle.isle_command_line.specs.Known as state
use Rattle.isle_command_line.proofs.WordLaws.{on_if, off_if, both, IsFirst, first_is, IsMarked, mark_is, IsKind, kind_is, IsCounted, count_is, IsSized, size_is, IsParted, parts_is}
use Rattle.isle_command_line.proofs.ChoiceLaws.{free, Asked, Chose, chose_none, chose_more, chose_asked}
use Rattle.isle_command_line.proofs.RunWords.{trace_is, answers_is, source_is}

abbrev pub verb_word : Verb → List ℕ
verb_word verb.Compile = codes "compile"
verb_word verb.Build = codes "build"
verb_word (verb.Run t) = codes "run"

-- the words after the first one are these options, after --trace if the run is traced
abbrev pub Begun : Verb → (List (List ℕ) → Type 0) → List (List ℕ) → Type 0
Begun (verb.Run true) Are us = (vs : List (List ℕ)) × Are vs × (us ≡ codes "--trace" ∷ vs)
Begun (verb.Run false) Are us = Are us
Begun verb.Compile Are us = Are us
Begun verb.Build Are us = Are us

begun_more : (v : Verb) (g : GivenOptions) (us : List (List ℕ)) (c : choice.Choice) (first : List (List ℕ)) → Begun v (Chose g) us → choice.ChoiceS c first → free g c ≡ true
    → Begun v (Chose (given_more g c)) (us ++ first)
begun_more (verb.Run true) g us c first h s f = (h.0 ++ first, chose_more g h.0 c first h.1 s f, ap (λ z. z ++ first) h.2)
begun_more (verb.Run false) g us c first h s f = chose_more g us c first h s f
begun_more verb.Compile g us c first h s f = chose_more g us c first h s f
begun_more verb.Build g us c first h s f = chose_more g us c first h s f

-- lines of this verb have a term
abbrev pub HasTerm : Verb → Type 0
HasTerm verb.Compile = ⊥
HasTerm verb.Build = ⊥
HasTerm (verb.Run t) = Unit {0}

-- the words are what a line with a term begins with, up to its source
pub record HasHead (head : RunHead) (front : List (List ℕ)) : Type 0 where
  pub with_term : HasTerm head.verb
  pub options : List (List ℕ)
  pub begun : Begun head.verb (Chose head.given) options
  pub from : List ℕ
  pub is : SourceS head.source from
  pub words : front ≡ options ++ from ∷ []

abbrev pub Answers : Option Request → List (List ℕ) → Type 0
Answers (Some c) ws = LineS ws c
Answers None ws = Unit {0}

-- the request of a run
abbrev run : (t : Bool) (o : CodegenOptions) (s : Source) (m : List ℕ) (vs : Writtens) (a : Option (List ℕ)) → Request
run t o s m vs a = command.Run (record { trace = t; options = o; source = s; term = m; values = vs; answers = a })

-- the line of a run
ran_by : (v : Verb) (g : GivenOptions) (s : Source) (front : List (List ℕ)) (m x : List ℕ) (vs : Writtens) (a : Option (List ℕ)) (last : List (List ℕ)) → HasHead (record { verb = v; given = g; source = s }) front
    → is_name m ≡ true → SpellsValues x vs → AnswersS a last
    → Answers (run_request v (record { head = record { verb = v; given = g; source = s }; term = m; values = vs }) a) (verb_word v ∷ (front ++ m ∷ x ∷ last))
ran_by verb.Compile g s front m x vs a last h good is la = tt
ran_by verb.Build g s front m x vs a last h good is la = tt
ran_by (verb.Run true) g s front m x vs a last h good is la =
    let c = chose_asked g h.begun.0 h.begun.1 in
    let e : front ++ m ∷ x ∷ last ≡ codes "--trace" ∷ (h.begun.0 ++ h.from ∷ m ∷ x ∷ last) = ap (λ z. z ++ m ∷ x ∷ last) h.words ∙ append_assoc h.options (h.from ∷ []) (m ∷ x ∷ last) ∙ ap (λ z. z ++ h.from ∷ m ∷ x ∷ last) h.begun.2 in
    subst (λ z. LineS (codes "run" ∷ z) (run true g.options s m vs a)) (sym e)
    (subst (λ p. LineS (codes "run" ∷ codes "--trace" ∷ (h.begun.0 ++ h.from ∷ m ∷ x ∷ last)) (run true p s m vs a)) c.asked
    (choice.run true c.choices h.begun.0 s h.from m x vs a last c.spelt c.once h.is good is la))
ran_by (verb.Run false) g s front m x vs a last h good is la =
    let c = chose_asked g h.options h.begun in
    let e : front ++ m ∷ x ∷ last ≡ h.options ++ h.from ∷ m ∷ x ∷ last = ap (λ z. z ++ m ∷ x ∷ last) h.words ∙ append_assoc h.options (h.from ∷ []) (m ∷ x ∷ last) in
    subst (λ z. LineS (codes "run" ∷ z) (run false g.options s m vs a)) (sym e)
    (subst (λ p. LineS (codes "run" ∷ (h.options ++ h.from ∷ m ∷ x ∷ last)) (run false p s m vs a)) c.asked
    (choice.run false c.choices h.options s h.from m x vs a last c.spelt c.once h.is good is la))

-- the line of these parts, if its verb has one
pub ran : (p : RunParts) (front : List (List ℕ)) (x : List ℕ) (a : Option (List ℕ)) (last : List (List ℕ)) → HasHead p.head front → is_name p.term ≡ true → SpellsValues x p.values → AnswersS a last
    → Answers (run_request p.head.verb p a) (verb_word p.head.verb ∷ (front ++ p.term ∷ x ∷ last))
ran p front x a last h good is la = ran_by p.head.verb p.head.given p.head.source front p.term x p.values a last h good is la

-- the words are those of a line with a term up to its values, with these after them
abbrev pub HasValues : RunParts → (last ws : List (List ℕ)) → Type 0
HasValues p last ws = (front : List (List ℕ)) × HasHead p.head front × (is_name p.term ≡ true) × (x : List ℕ) × SpellsValues x p.values × (ws ≡ verb_word p.head.verb ∷ (front ++ p.term ∷ x ∷ last))

-- what is known says of the words so far
abbrev pub HasRead : Known → List (List ℕ) → Type 0
HasRead state.Begin ws = ws ≡ []
HasRead (state.Whole c) ws = LineS ws c
HasRead (state.Options v g) ws = (us : List (List ℕ)) × Begun v (Chose g) us × (ws ≡ verb_word v ∷ us)
HasRead (state.Threshold v g) ws = (us : List (List ℕ)) × Begun v (Chose g) us × (is_some g.options.match_arm_split_threshold ≡ false) × (ws ≡ verb_word v ∷ (us ++ codes "--threshold" ∷ []))
HasRead (state.MaxReturns v g) ws = (us : List (List ℕ)) × Begun v (Chose g) us × (g.limited ≡ false) × (ws ≡ verb_word v ∷ (us ++ codes "--max-returns" ∷ []))
HasRead (state.Prefix v g) ws = (us : List (List ℕ)) × Begun v (Chose g) us × (ws ≡ verb_word v ∷ (us ++ codes "--prefix" ∷ []))
HasRead (state.Names o ns) ws = (us : List (List ℕ)) × Asked o us × (1 ≤ length ns) × (list_all is_name ns ≡ true) × (ws ≡ codes "compile" ∷ (us ++ ns))
HasRead state.Kind ws = ws ≡ codes "prelude" ∷ []
HasRead state.Target ws = ws ≡ codes "isa" ∷ []
HasRead state.Size ws = ws ≡ codes "sample" ∷ []
HasRead state.Run ws = ws ≡ codes "run" ∷ []
HasRead (state.Term h) ws = (front : List (List ℕ)) × HasHead h front × (ws ≡ verb_word h.verb ∷ front)
HasRead (state.Values h m) ws = (front : List (List ℕ)) × HasHead h front × (is_name m ≡ true) × (ws ≡ verb_word h.verb ∷ (front ++ m ∷ []))
HasRead (state.AfterValues p) ws = HasValues p [] ws
HasRead (state.Answers p) ws = HasValues p (codes "--answers" ∷ []) ws

-- if anything is known
abbrev pub After : Option Known → List (List ℕ) → Type 0
After (Some s) ws = HasRead s ws
After None ws = Unit {0}

has_read_first : (f : FirstWord) (w : List ℕ) → IsFirst f w → After (after_first_word f) (w ∷ [])
has_read_first first_word.Help w is = subst (λ v. LineS (v ∷ []) command.Help) (sym is) choice.help
has_read_first first_word.Version w is = subst (λ v. LineS (v ∷ []) command.Version) (sym is) choice.version
has_read_first first_word.Compile w is = ([], chose_none, ap (λ v. v ∷ []) is)
has_read_first first_word.Build w is = ([], chose_none, ap (λ v. v ∷ []) is)
has_read_first first_word.Prelude w is = ap (λ v. v ∷ []) is
has_read_first first_word.Units w is = subst (λ v. LineS (v ∷ []) command.Units) (sym is) choice.units
has_read_first first_word.Isa w is = ap (λ v. v ∷ []) is
has_read_first first_word.Sample w is = ap (λ v. v ∷ []) is
has_read_first first_word.Run w is = ap (λ v. v ∷ []) is
has_read_first first_word.Other w is = tt

-- the line of a unit that is built
pub built : (o : CodegenOptions) (us : List (List ℕ)) (w : List ℕ) → Asked o us → is_name w ≡ true → LineS (codes "build" ∷ us ++ w ∷ []) (command.Build o w)
built o us w h good = subst (λ p. LineS (codes "build" ∷ us ++ w ∷ []) (command.Build p w)) h.asked (choice.build h.choices us w h.spelt h.once good)

-- the line of inputs that are compiled
pub compiled : (o : CodegenOptions) (us : List (List ℕ)) (n : List ℕ) (ns : List (List ℕ)) → Asked o us → list_all is_name (n ∷ ns) ≡ true → LineS (codes "compile" ∷ us ++ n ∷ ns) (command.Compile o (n ∷ ns))
compiled o us n ns h good = subst (λ p. LineS (codes "compile" ∷ us ++ n ∷ ns) (command.Compile p (n ∷ ns))) h.asked (choice.compile h.choices us n ns h.spelt h.once good)

pub has_read_named : (v : Verb) (g : GivenOptions) (ws : List (List ℕ)) (w : List ℕ) → HasRead (state.Options v g) ws → is_name w ≡ true → After (after_name v g w) (ws ++ w ∷ [])
has_read_named verb.Compile g ws w h good = (h.0, chose_asked g h.0 h.1, omega arith, (λ k. good k && true), ap (λ z. z ++ w ∷ []) h.2)
has_read_named verb.Build g ws w h good = subst (λ z. LineS z (command.Build g.options w)) (sym (ap (λ z. z ++ w ∷ []) h.2)) (built g.options h.0 w (chose_asked g h.0 h.1) good)
has_read_named (verb.Run t) g ws w h good = (h.0 ++ w ∷ [], record { with_term = tt; options = h.0; begun = h.1; from = w; is = source_is w good; words = refl }, ap (λ z. z ++ w ∷ []) h.2)

has_read_marked : (v : Verb) (g : GivenOptions) (ws : List (List ℕ)) (m : OptionWord) (w : List ℕ) → HasRead (state.Options v g) ws → IsMarked m w → After (after_mark v g m) (ws ++ w ∷ [])
has_read_marked v g ws marked.NoAllow w h is = off_if (λ r. After r (ws ++ w ∷ [])) g.options.exclude_global_allow_pragmas _ _ tt
    (λ off. (h.0 ++ codes "--no-allow" ∷ [], begun_more v g h.0 choice.NoAllow (codes "--no-allow" ∷ []) h.1 choice.no_allow (ap not off), λ k. h.2 k ++ is k ∷ []))
has_read_marked v g ws marked.Log w h is = off_if (λ r. After r (ws ++ w ∷ [])) g.options.emit_logging _ _ tt
    (λ off. (h.0 ++ codes "--log" ∷ [], begun_more v g h.0 choice.Log (codes "--log" ∷ []) h.1 choice.log (ap not off), λ k. h.2 k ++ is k ∷ []))
has_read_marked v g ws marked.Split w h is = off_if (λ r. After r (ws ++ w ∷ [])) g.options.split_match_arms _ _ tt
    (λ off. (h.0 ++ codes "--split" ∷ [], begun_more v g h.0 choice.Split (codes "--split" ∷ []) h.1 choice.split (ap not off), λ k. h.2 k ++ is k ∷ []))
has_read_marked v g ws marked.Threshold w h is = off_if (λ r. After r (ws ++ w ∷ [])) (is_some g.options.match_arm_split_threshold) _ _ tt
    (λ off. (h.0, h.1, off, λ k. h.2 k ++ is k ∷ []))
has_read_marked v g ws marked.MaxReturns w h is = off_if (λ r. After r (ws ++ w ∷ [])) g.limited _ _ tt
    (λ off. (h.0, h.1, off, λ k. h.2 k ++ is k ∷ []))
has_read_marked v g ws marked.Prefix w h is = (h.0, h.1, λ k. h.2 k ++ is k ∷ [])
has_read_marked v g ws marked.Other w h is = tt

has_read_counted : (v : Verb) (g : GivenOptions) (ws : List (List ℕ)) (r : Option ℕ) (w : List ℕ) → HasRead (state.Threshold v g) ws → IsCounted r w → After (with_threshold v g r) (ws ++ w ∷ [])
has_read_counted v g ws None w h is = tt
has_read_counted v g ws (Some n) w h is = (
  h.0 ++ codes "--threshold" ∷ w ∷ [],
  begun_more v g h.0 (choice.Threshold n) (codes "--threshold" ∷ w ∷ []) h.1 (choice.threshold n w is) (ap not h.2),
  ap (λ z. z ++ w ∷ []) h.3 ∙ ap (λ z. verb_word v ∷ z) (append_assoc h.0 (codes "--threshold" ∷ []) (w ∷ [])),
)

has_read_limit : (v : Verb) (g : GivenOptions) (ws : List (List ℕ)) (r : Option ℕ) (w : List ℕ) → HasRead (state.MaxReturns v g) ws → IsCounted r w → After (with_limit v g r) (ws ++ w ∷ [])
has_read_limit v g ws None w h is = tt
has_read_limit v g ws (Some n) w h is = (
  h.0 ++ codes "--max-returns" ∷ w ∷ [],
  begun_more v g h.0 (choice.MaxReturns n) (codes "--max-returns" ∷ w ∷ []) h.1 (choice.max_returns n w is) (ap not h.2),
  ap (λ z. z ++ w ∷ []) h.3 ∙ ap (λ z. verb_word v ∷ z) (append_assoc h.0 (codes "--max-returns" ∷ []) (w ∷ [])),
)

has_read_prefixed : (v : Verb) (g : GivenOptions) (ws : List (List ℕ)) (r : Option (List ℕ × List ℕ)) (w : List ℕ) → HasRead (state.Prefix v g) ws → IsParted r w → After (with_prefix v g r) (ws ++ w ∷ [])
has_read_prefixed v g ws None w h is = tt
has_read_prefixed v g ws (Some p) w h is = on_if (λ r. After r (ws ++ w ∷ [])) (is_name p.1) _ _
    (λ good. (
      h.0 ++ codes "--prefix" ∷ w ∷ [],
      begun_more v g h.0 (choice.Prefixed p.0 p.1) (codes "--prefix" ∷ w ∷ []) h.1 (choice.prefixed p.0 p.1 w (record { parts = is.0; first = is.1; named = good })) refl,
      ap (λ z. z ++ w ∷ []) h.2 ∙ ap (λ z. verb_word v ∷ z) (append_assoc h.0 (codes "--prefix" ∷ []) (w ∷ [])),
    ))
    tt

all_push : (ns : List (List ℕ)) (w : List ℕ) → list_all is_name ns ≡ true → is_name w ≡ true → list_all is_name (ns ++ w ∷ []) ≡ true
all_push [] w h k = λ i. k i && true
all_push (n ∷ ns) w h k = let f = both _ _ h in let rest = all_push ns w f.1 k in λ i. f.0 i && rest i

has_read_more : (o : CodegenOptions) (ns : List (List ℕ)) (ws : List (List ℕ)) (w : List ℕ) → HasRead (state.Names o ns) ws → is_name w ≡ true → HasRead (state.Names o (ns ++ w ∷ [])) (ws ++ w ∷ [])
has_read_more o ns ws w h good =
    let long = length-append ns (w ∷ []) in
    let some = h.2 in
    (h.0, h.1, omega (arith, long, some), all_push ns w h.3 good, ap (λ z. z ++ w ∷ []) h.4 ∙ ap (λ z. codes "compile" ∷ z) (append_assoc h.0 ns (w ∷ [])))

has_read_asked : (r : Option Kind) (ws : List (List ℕ)) (w : List ℕ) → ws ≡ codes "prelude" ∷ [] → IsKind r w → After (after_kind r) (ws ++ w ∷ [])
has_read_asked None ws w h is = tt
has_read_asked (Some k) ws w h is =
    let e : ws ++ w ∷ [] ≡ codes "prelude" ∷ choice.kind_word k ∷ [] = λ i. h i ++ is i ∷ [] in
    subst (λ z. LineS z (command.Prelude k)) (sym e) (choice.prelude k)

has_read_targeted : (r : Option Isa) (ws : List (List ℕ)) (w : List ℕ) → ws ≡ codes "isa" ∷ [] → target_of w ≡ r → After (after_target r) (ws ++ w ∷ [])
has_read_targeted None ws w h is = tt
has_read_targeted (Some target) ws w h is = subst (λ z. LineS (z ++ w ∷ []) (command.Isa target)) (sym h) (choice.isa target w is)

has_read_sized : (r : Option ℕ) (ws : List (List ℕ)) (w : List ℕ) → ws ≡ codes "sample" ∷ [] → IsSized r w → After (after_size r) (ws ++ w ∷ [])
has_read_sized None ws w h is = tt
has_read_sized (Some n) ws w h is = subst (λ z. LineS (z ++ w ∷ []) (command.Sample n)) (sym h) (choice.sample n w is)

has_read_optional : (v : Verb) (g : GivenOptions) (ws : List (List ℕ)) (w : List ℕ) → HasRead (state.Options v g) ws → After (optional v g w) (ws ++ w ∷ [])
has_read_optional v g ws w h = on_if (λ r. After r (ws ++ w ∷ [])) (is_name w) _ _ (has_read_named v g ws w h) (has_read_marked v g ws (mark w) w h (mark_is w))

has_read_run : (ws : List (List ℕ)) (w : List ℕ) → HasRead state.Run ws → After (next state.Run w) (ws ++ w ∷ [])
has_read_run ws w h = on_if (λ r. After r (ws ++ w ∷ [])) (is_trace w) _ _
    (λ e. (codes "--trace" ∷ [], ([], chose_none, refl), λ k. h k ++ trace_is w e k ∷ []))
    (has_read_optional (verb.Run false) nothing_given ws w ([], chose_none, h))

has_read_values : (d : RunHead) (m : List ℕ) (ws : List (List ℕ)) (r : Option Writtens) (w : List ℕ) → HasRead (state.Values d m) ws → IsSpelt r w → After (with_values d m r) (ws ++ w ∷ [])
has_read_values d m ws None w h is = tt
has_read_values d m ws (Some vs) w h is = (h.0, h.1, h.2, w, is, ap (λ z. z ++ w ∷ []) h.3 ∙ ap (λ z. verb_word d.verb ∷ z) (append_assoc h.0 (m ∷ []) (w ∷ [])))

has_read_after_values : (p : RunParts) (ws : List (List ℕ)) (w : List ℕ) → HasRead (state.AfterValues p) ws → After (next (state.AfterValues p) w) (ws ++ w ∷ [])
has_read_after_values p ws w h = on_if (λ r. After r (ws ++ w ∷ [])) (is_answers w) _ _
    (λ e. (h.0, h.1, h.2, h.3, h.4, (λ k. h.5 k ++ answers_is w e k ∷ []) ∙ ap (λ z. verb_word p.head.verb ∷ z) (append_assoc h.0 (p.term ∷ h.3 ∷ []) (codes "--answers" ∷ []))))
    tt

-- a request that the words spell is known after them
after_request : (r : Option Request) (ws : List (List ℕ)) → Answers r ws → After (after_last r) ws
after_request (Some c) ws h = h
after_request None ws h = tt

has_read_answers : (p : RunParts) (ws : List (List ℕ)) (w : List ℕ) → HasRead (state.Answers p) ws → After (next (state.Answers p) w) (ws ++ w ∷ [])
has_read_answers p ws w h = on_if (λ r. After r (ws ++ w ∷ [])) (is_name w) _ _
    (λ good.
    let e : ws ++ w ∷ [] ≡ verb_word p.head.verb ∷ (h.0 ++ p.term ∷ h.3 ∷ codes "--answers" ∷ w ∷ []) = ap (λ z. z ++ w ∷ []) h.5 ∙ ap (λ z. verb_word p.head.verb ∷ z) (append_assoc h.0 (p.term ∷ h.3 ∷ codes "--answers" ∷ []) (w ∷ [])) in
    subst (After (after_last (run_request p.head.verb p (Some w)))) (sym e)
    (after_request (run_request p.head.verb p (Some w)) _ (ran p h.0 h.3 (Some w) (codes "--answers" ∷ w ∷ []) h.1 h.2 h.4 (choice.answers w good))))
    tt

-- one word more
pub has_read_next : (s : Known) (ws : List (List ℕ)) (w : List ℕ) → HasRead s ws → After (next s w) (ws ++ w ∷ [])
has_read_next state.Begin ws w h = subst (λ z. After (after_first_word (first w)) (z ++ w ∷ [])) (sym h) (has_read_first (first w) w (first_is w))
has_read_next (state.Whole c) ws w h = tt
has_read_next (state.Options v g) ws w h = has_read_optional v g ws w h
has_read_next (state.Threshold v g) ws w h = has_read_counted v g ws (count w) w h (count_is w)
has_read_next (state.MaxReturns v g) ws w h = has_read_limit v g ws (count w) w h (count_is w)
has_read_next (state.Prefix v g) ws w h = has_read_prefixed v g ws (parts w) w h (parts_is w)
has_read_next (state.Names o ns) ws w h = on_if (λ r. After r (ws ++ w ∷ [])) (is_name w) _ _ (has_read_more o ns ws w h) tt
has_read_next state.Kind ws w h = has_read_asked (kind_of w) ws w h (kind_is w)
has_read_next state.Target ws w h = has_read_targeted (target_of w) ws w h refl
has_read_next state.Size ws w h = has_read_sized (size w) ws w h (size_is w)
has_read_next state.Run ws w h = has_read_run ws w h
has_read_next (state.Term d) ws w h = on_if (λ r. After r (ws ++ w ∷ [])) (is_name w) _ _ (λ good. (h.0, h.1, good, ap (λ z. z ++ w ∷ []) h.2)) tt
has_read_next (state.Values d m) ws w h = has_read_values d m ws (spelt w) w h (spelt_is w)
has_read_next (state.AfterValues p) ws w h = has_read_after_values p ws w h
has_read_next (state.Answers p) ws w h = has_read_answers p ws w h

has_read : (s : Known) (ws vs : List (List ℕ)) → HasRead s ws → After (read s vs) (ws ++ vs)
has_read s ws [] h = subst (HasRead s) (sym (append-nil ws)) h
has_read s ws (v ∷ vs) h = by (next s v) (has_read_next s ws v h) (λ t g. has_read t (ws ++ v ∷ []) vs g)
  where
    by : (o : Option Known) → After o (ws ++ v ∷ []) → ((t : Known) → HasRead t (ws ++ v ∷ []) → After (read t vs) ((ws ++ v ∷ []) ++ vs)) → After (onward o (λ t. read t vs)) (ws ++ v ∷ vs)
    by None h go = tt
    by (Some t) h go = subst (After (read t vs)) (append_assoc ws (v ∷ []) vs) (go t h)

-- what is known after words is true of them
pub told : (ws : List (List ℕ)) → After (read state.Begin ws) ws
told ws = has_read state.Begin [] ws refl

-- what is asked for then is what the words ask for
pub has_read_asks : (s : Known) (ws : List (List ℕ)) → HasRead s ws → Answers (asks s) ws
has_read_asks state.Begin ws h = subst (λ z. LineS z (command.Compile no_options (codes "first.isle" ∷ []))) (sym h) choice.stored
has_read_asks (state.Whole c) ws h = h
has_read_asks (state.Options v g) ws h = tt
has_read_asks (state.Threshold v g) ws h = tt
has_read_asks (state.MaxReturns v g) ws h = tt
has_read_asks (state.Prefix v g) ws h = tt
has_read_asks (state.Names o []) ws h = let some = h.2 in absurd (omega (arith, some))
has_read_asks (state.Names o (n ∷ ns)) ws h = subst (λ z. LineS z (command.Compile o (n ∷ ns))) (sym h.4) (compiled o h.0 n ns h.1 h.3)
has_read_asks state.Kind ws h = tt
has_read_asks state.Target ws h = tt
has_read_asks state.Size ws h = tt
has_read_asks state.Run ws h = tt
has_read_asks (state.Term d) ws h = tt
has_read_asks (state.Values d m) ws h = tt
has_read_asks (state.AfterValues p) ws h = subst (Answers (run_request p.head.verb p None)) (sym h.5) (ran p h.0 h.3 None [] h.1 h.2 h.4 choice.no_answers)
has_read_asks (state.Answers p) ws h = tt
