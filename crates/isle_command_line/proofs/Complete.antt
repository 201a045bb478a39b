-- Each line is read as what it asks for.
use Rattle.std.proofs.Common.{◌≡◌, ℕ, List, [], ◌∷◌, ◌++◌, append_assoc, append-nil, Bool, true, false, not, Option, Some, None, refl, ap, sym, ◌∙◌, fold}
use Rattle.std.specs.Prelude.{if◌then◌else◌}
use Rattle.std.specs.Prelude.{is_some}
use Rattle.std.specs.List.{list_all}
use Rattle.isle_core.specs.declared.options.CodegenOptions.{CodegenOptions}
use Rattle.isle_values.specs.Written.{Writtens}
use Rattle.isle_values.specs.Reading.{spelt}
use Rattle.isle_values.proofs.Spelt.{spelt_again}
use Rattle.isle_command_line.specs.Words.{is_name}
use Rattle.isle_command_line.specs.Lines as choice
use Rattle.isle_command_line.specs.Lines.{Choice, ChoiceS, no_allow, log, split, threshold, max_returns, prefixed, ChoicesS, no_choice, a_choice, AreOnce, options_of, kind_word, LineS, AnswersS, traced}
use Rattle.isle_command_line.specs.Reading as reading
use Rattle.isle_command_line.specs.Reading.{after_name, head_of, with_values, optional, is_trace, is_answers, nothing_given, given_more, after_mark, with_threshold, with_limit, after_kind, after_target, after_size, next, onward, read, asks, first, mark, kind_of, count, size, parts}
use Rattle.isle_command_line.specs.Request.{Request}
use Rattle.isle_command_line.specs.declared.commands.Source.{Source}
use Rattle.isle_command_line.specs.declared.state.GivenOptions.{GivenOptions}
use Rattle.isle_command_line.specs.declared.state.RunHead.{RunHead}
use Rattle.isle_command_line.specs.declared.state.Verb.{Verb}
use Rattle.isle_command_line.specs.declared.state.Verb.TheVariants as verb
use Rattle.isle_command_line.specs.Request as command
use Rattle.isle_command_line.specs.Known.{Known, RunParts}
use Rattle.isle_command_line.specs.Known as state
use Rattle.isle_command_line.proofs.WordLaws.{both, kind_again, count_again, size_again, parts_again}
use Rattle.isle_command_line.proofs.RunWords.{name_no_trace, source_again, source_named}
use Rattle.isle_command_line.proofs.ChoiceLaws.{free, all_kept, all_free, given_asked}

-- what the words ask for if something is known after them
abbrev pub request_of : Option Known → Option Request
request_of (Some s) = asks s
request_of None = None

unless : (b : Bool) (s : Known) (f : Known → Option Known) → not b ≡ true → onward (if b then None else Some s) f ≡ f s
unless false s f h = refl
unless true s f h = cc

read_choice : {c : Choice} {us : List (List ℕ)} → ChoiceS c us → (v : Verb) (g : GivenOptions) (more : List (List ℕ)) → free g c ≡ true → read (state.Options v g) (us ++ more) ≡ read (state.Options v (given_more g c)) more
unfolding mark
read_choice no_allow v g more h = unless g.options.exclude_global_allow_pragmas (state.Options v (given_more g choice.NoAllow)) (λ t. read t more) h
read_choice log v g more h = unless g.options.emit_logging (state.Options v (given_more g choice.Log)) (λ t. read t more) h
read_choice split v g more h = unless g.options.split_match_arms (state.Options v (given_more g choice.Split)) (λ t. read t more) h
read_choice (threshold n word is) v g more h =
    unless (is_some g.options.match_arm_split_threshold) (state.Threshold v g) (λ t. read t (word ∷ more)) h
    ∙ ap (λ r. onward (with_threshold v g r) (λ t. read t more)) (count_again word n is)
read_choice (max_returns n word is) v g more h =
    unless g.limited (state.MaxReturns v g) (λ t. read t (word ∷ more)) h
    ∙ ap (λ r. onward (with_limit v g r) (λ t. read t more)) (count_again word n is)
read_choice (prefixed p n word is) v g more h =
    ap (λ r. onward (reading.with_prefix v g r) (λ t. read t more)) (parts_again word p n is)
    ∙ ap (λ b. onward (if b then Some (state.Options v (given_more g (choice.Prefixed p n))) else None) (λ t. read t more)) is.named

read_choices : {cs : List Choice} {us : List (List ℕ)} → ChoicesS cs us → (v : Verb) (g : GivenOptions) (more : List (List ℕ)) → list_all (free g) cs ≡ true → AreOnce cs
    → read (state.Options v g) (us ++ more) ≡ read (state.Options v (fold given_more g cs)) more
read_choices no_choice v g more h once = refl
read_choices (a_choice c cs us others s ss) v g more h once =
    let f : (free g c ≡ true) × (list_all (free g) cs ≡ true) = both _ _ h in
    ap (read (state.Options v g)) (append_assoc us others more) ∙ read_choice s v g (others ++ more) f.0
    ∙ read_choices ss v (given_more g c) more (all_kept g c cs f.1 once.0) once.1

read_names : (o : CodegenOptions) (ns ms : List (List ℕ)) → list_all is_name ms ≡ true → read (state.Names o ns) ms ≡ Some (state.Names o (ns ++ ms))
read_names o ns [] h = ap (λ z. Some (state.Names o z)) (sym (append-nil ns))
read_names o ns (m ∷ ms) h =
    let f : (is_name m ≡ true) × (list_all is_name ms ≡ true) = both _ _ h in
    ap (λ b. onward (if b then Some (state.Names o (ns ++ m ∷ [])) else None) (λ t. read t ms)) f.0
    ∙ read_names o (ns ++ m ∷ []) ms f.1 ∙ ap (λ z. Some (state.Names o z)) (append_assoc ns (m ∷ []) ms)

read_named : (v : Verb) (g : GivenOptions) (w : List ℕ) (more : List (List ℕ)) → is_name w ≡ true → read (state.Options v g) (w ∷ more) ≡ onward (after_name v g w) (λ t. read t more)
read_named v g w more h = ap (λ b. onward (if b then after_name v g w else after_mark v g (mark w)) (λ t. read t more)) h

-- what these options give
abbrev given : List Choice → GivenOptions
given cs = fold given_more nothing_given cs

-- options and the first name
read_given : {cs : List Choice} {us : List (List ℕ)} → ChoicesS cs us → AreOnce cs → (v : Verb) (w : List ℕ) (more : List (List ℕ)) → is_name w ≡ true
    → read (state.Options v nothing_given) (us ++ w ∷ more) ≡ onward (after_name v (given cs) w) (λ t. read t more)
read_given {cs = cs} ss once v w more h = read_choices ss v nothing_given (w ∷ more) (all_free cs) once ∙ read_named v (given cs) w more h

-- a run that is not traced goes on with its options
read_untraced : {cs : List Choice} {us : List (List ℕ)} → ChoicesS cs us → (w : List ℕ) (more : List (List ℕ)) → is_name w ≡ true
    → read state.Run (us ++ w ∷ more) ≡ read (state.Options (verb.Run false) nothing_given) (us ++ w ∷ more)
unfolding is_trace
read_untraced no_choice w more h = ap (λ b. onward (if b then Some (state.Options (verb.Run true) nothing_given) else optional (verb.Run false) nothing_given w) (λ t. read t more)) (name_no_trace w h)
read_untraced (a_choice c cs us others no_allow ss) w more h = refl
read_untraced (a_choice c cs us others log ss) w more h = refl
read_untraced (a_choice c cs us others split ss) w more h = refl
read_untraced (a_choice c cs us others (threshold n word is) ss) w more h = refl
read_untraced (a_choice c cs us others (max_returns n word is) ss) w more h = refl
read_untraced (a_choice c cs us others (prefixed p n word is) ss) w more h = refl

read_run : (t : Bool) {cs : List Choice} {us : List (List ℕ)} → ChoicesS cs us → (w : List ℕ) (more : List (List ℕ)) → is_name w ≡ true
    → read state.Run (traced t ++ us ++ w ∷ more) ≡ read (state.Options (verb.Run t) nothing_given) (us ++ w ∷ more)
unfolding is_trace
read_run true ss w more h = refl
read_run false ss w more h = read_untraced ss w more h

-- the line of a run
abbrev run : (t : Bool) (o : CodegenOptions) (s : Source) (m : List ℕ) (vs : Writtens) (a : Option (List ℕ)) → Request
run t o s m vs a = command.Run (record { trace = t; options = o; source = s; term = m; values = vs; answers = a })

-- what stands before its term
abbrev head : (t : Bool) (g : GivenOptions) (s : Source) → RunHead
head t g s = record { verb = verb.Run t; given = g; source = s }

read_last : (t : Bool) (g : GivenOptions) (s : Source) (m : List ℕ) (vs : Writtens) {a : Option (List ℕ)} {last : List (List ℕ)} → AnswersS a last
    → request_of (read (state.AfterValues (record { head = head t g s; term = m; values = vs })) last) ≡ Some (run t g.options s m vs a)
unfolding is_answers
read_last t g s m vs choice.no_answers = refl
read_last t g s m vs (choice.answers f h) = ap (λ b. request_of (onward (if b then Some (state.Whole (run t g.options s m vs (Some f))) else None) (λ k. Some k))) h

read_term : (h : RunHead) (m x : List ℕ) (vs : Writtens) (last : List (List ℕ)) → is_name m ≡ true → spelt x ≡ Some vs
    → read (state.Term h) (m ∷ x ∷ last) ≡ read (state.AfterValues (record { head = h; term = m; values = vs })) last
read_term h m x vs last good e =
    ap (λ b. onward (if b then Some (state.Values h m) else None) (λ k. read k (x ∷ last))) good
    ∙ ap (λ r. onward (with_values h m r) (λ k. read k last)) e

-- each line is read as what it asks for
pub complete : {ws : List (List ℕ)} {c : Request} → LineS ws c → request_of (read state.Begin ws) ≡ Some c
unfolding first
complete choice.stored = refl
complete choice.help = refl
complete choice.version = refl
complete (choice.compile cs us name names ss once good) =
    let f : (is_name name ≡ true) × (list_all is_name names ≡ true) = both _ _ good in
    ap request_of (read_given ss once verb.Compile name names f.0 ∙ read_names (given cs).options (name ∷ []) names f.1)
    ∙ ap (λ o. Some (command.Compile o (name ∷ names))) (given_asked cs nothing_given)
complete (choice.build cs us unit ss once good) = ap request_of (read_given ss once verb.Build unit [] good) ∙ ap (λ o. Some (command.Build o unit)) (given_asked cs nothing_given)
complete (choice.prelude k) = ap (λ r. request_of (onward (after_kind r) (λ t. Some t))) (kind_again k)
complete choice.units = refl
complete (choice.isa target w is) = ap (λ r. request_of (onward (after_target r) (λ t. Some t))) is
complete (choice.sample n w is) = ap (λ r. request_of (onward (after_size r) (λ t. Some t))) (size_again w n is)
complete (choice.run t cs us s from m x vs a last ss once is good spells la) =
    ap request_of (read_run t ss from (m ∷ x ∷ last) (source_named is)
    ∙ read_given ss once (verb.Run t) from (m ∷ x ∷ last) (source_named is)
    ∙ ap (λ r. read (state.Term (head t (given cs) r)) (m ∷ x ∷ last)) (source_again is)
    ∙ read_term (head t (given cs) s) m x vs last good (spelt_again x vs spells))
    ∙ read_last t (given cs) s m vs la
    ∙ ap (λ o. Some (run t o s m vs a)) (given_asked cs nothing_given)
