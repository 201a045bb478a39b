-- Lines are read exactly.
use Rattle.std.proofs.Common.{◌≡◌, ℕ, ◌+◌, List, [], ◌∷◌, ◌++◌, append_assoc, append-nil, Bool, true, take, drop, Option, Some, None, Result, Ok, Err, refl, ap, sym, ◌∙◌, subst, arith}
use Rattle.std.specs.Prelude.{codes, IsSome, IsOkUnless}
use Rattle.std.proofs.lemmas.List.{take-append-drop}
use Rattle.isle_core.specs.declared.options.CodegenOptions.{CodegenOptions}
use Rattle.isle_settings.specs.Isas.{isa_named}
use Rattle.isle_settings.specs.declared.isa.Isa.TheVariants as isa
use Rattle.isle_values.specs.Written.{NoValue}
use Rattle.isle_values.proofs.Spelt.{empty_list}
use Rattle.isle_command_line.specs.Targets.{target_of}
use Rattle.isle_command_line.specs.Lines as choice
use Rattle.isle_command_line.specs.Lines.{LineS, Continues, IsBad, IsMissing}
use Rattle.isle_command_line.specs.Reading.{nothing_given, given_more, onward, read, asks, with_values, head_of, run_request, after_last, source_of, is_trace, is_answers, count, size, parts, kind_of, StopsAt}
use Rattle.isle_command_line.specs.Request.{Request}
use Rattle.isle_command_line.specs.Request as command
use Rattle.isle_command_line.specs.declared.commands.Kind.TheVariants as kind
use Rattle.isle_command_line.specs.declared.commands.Source.{Source}
use Rattle.isle_command_line.specs.declared.commands.Source.TheVariants as source
use Rattle.isle_command_line.specs.declared.commands.LineFail.{LineFail}
use Rattle.isle_command_line.specs.declared.commands.LineFail.TheVariants as fail
use Rattle.isle_command_line.specs.declared.state.GivenOptions.{GivenOptions}
use Rattle.isle_command_line.specs.declared.state.RunHead.{RunHead}
use Rattle.isle_command_line.specs.declared.state.Verb.{Verb}
use Rattle.isle_command_line.specs.declared.state.Verb.TheVariants as verb
use Rattle.isle_command_line.specs.Known.{Known, RunParts}
use Rattle.isle_command_line.specs.Known as state
use Rattle.isle_command_line.proofs.Steps.{read_append}
use Rattle.isle_command_line.proofs.Sound.{HasRead, After, Answers, HasTerm, told, has_read_asks, has_read_named, has_read_next}
use Rattle.isle_command_line.proofs.Complete.{request_of, complete}

-- what is asked for, if something is known
pub line_of : (ws : List (List ℕ)) (s : Known) (c : Request) → read state.Begin ws ≡ Some s → asks s ≡ Some c → LineS ws c
line_of ws s c e f = subst (λ r. Answers r ws) f (has_read_asks s ws (subst (λ r. After r ws) e (told ws)))

-- words ask for one thing at most
pub one_line : {ws : List (List ℕ)} {c d : Request} → LineS ws c → LineS ws d → d ≡ c
one_line {ws = ws} {c = c} {d = d} h k = let e : Some d ≡ Some c = sym (complete k) ∙ complete h in cc

continues_less : (ws : List (List ℕ)) (w : List ℕ) → Continues (ws ++ w ∷ []) → Continues ws
continues_less ws w h = (w ∷ h.0, h.1, subst (λ z. LineS z h.1) (append_assoc ws (w ∷ []) h.0) h.2)

whole : (ws : List (List ℕ)) (c : Request) → LineS ws c → Continues ws
whole ws c h = ([], c, subst (λ z. LineS z c) (sym (append-nil ws)) h)

-- a request that is spelt after words
spelt_request : (r : Option Request) (ws : List (List ℕ)) → IsSome r → Answers r ws → Continues ws
spelt_request (Some c) ws some h = whole ws c h
spelt_request None ws some h = cc

-- lines of a verb that has a term have a request
has_request : (v : Verb) (p : RunParts) (a : Option (List ℕ)) → HasTerm v → IsSome (run_request v p a)
has_request verb.Compile p a h = absurd h
has_request verb.Build p a h = absurd h
has_request (verb.Run t) p a h = refl

request_continues : (r : Option Request) (ws : List (List ℕ)) → IsSome r → After (after_last r) ws → Continues ws
request_continues (Some c) ws some h = whole ws c h
request_continues None ws some h = cc

after_term : (p : RunParts) (ws : List (List ℕ)) → HasRead (state.AfterValues p) ws → Continues ws
after_term p ws h = spelt_request (run_request p.head.verb p None) ws (has_request p.head.verb p None h.1.with_term) (has_read_asks (state.AfterValues p) ws h)

with_empty : (d : RunHead) (m : List ℕ) (ws : List (List ℕ)) → HasRead (state.Values d m) ws → Continues ws
with_empty d m ws h = continues_less ws (codes "()") (after_term (record { head = d; term = m; values = NoValue }) _
    (subst (λ r. After (with_values d m r) (ws ++ codes "()" ∷ [])) empty_list (has_read_next (state.Values d m) ws (codes "()") h)))

with_term : (d : RunHead) (ws : List (List ℕ)) → HasRead (state.Term d) ws → Continues ws
with_term d ws h = continues_less ws (codes "a") (with_empty d (codes "a") _ (has_read_next (state.Term d) ws (codes "a") h))

with_answers : (p : RunParts) (ws : List (List ℕ)) → HasRead (state.Answers p) ws → Continues ws
with_answers p ws h = continues_less ws (codes "a") (request_continues (run_request p.head.verb p (Some (codes "a"))) _ (has_request p.head.verb p (Some (codes "a")) h.1.with_term) (has_read_next (state.Answers p) ws (codes "a") h))

with_name : (v : Verb) (g : GivenOptions) (ws : List (List ℕ)) → HasRead (state.Options v g) ws → Continues ws
unfolding source_of
with_name verb.Compile g ws h = continues_less ws (codes "a") (whole _ (command.Compile g.options (codes "a" ∷ []))
    (has_read_asks (state.Names g.options (codes "a" ∷ [])) _ (has_read_named verb.Compile g ws (codes "a") h refl)))
with_name (verb.Run t) g ws h = continues_less ws (codes "a") (with_term (head_of (verb.Run t) g (codes "a")) _ (has_read_named (verb.Run t) g ws (codes "a") h refl))
with_name verb.Build g ws h = continues_less ws (codes "a") (whole _ (command.Build g.options (codes "a")) (has_read_named verb.Build g ws (codes "a") h refl))

-- a line begins with words after which something is known
pub continues : (s : Known) (ws : List (List ℕ)) → HasRead s ws → Continues ws
unfolding count size parts kind_of target_of isa_named is_trace is_answers
continues state.Begin ws h = whole ws _ (has_read_asks state.Begin ws h)
continues (state.Whole c) ws h = whole ws c h
continues (state.Options v g) ws h = with_name v g ws h
continues (state.Threshold v g) ws h = continues_less ws (codes "0") (with_name v (given_more g (choice.Threshold 0)) _ (has_read_next (state.Threshold v g) ws (codes "0") h))
continues (state.MaxReturns v g) ws h = continues_less ws (codes "0") (with_name v (given_more g (choice.MaxReturns 0)) _ (has_read_next (state.MaxReturns v g) ws (codes "0") h))
continues (state.Prefix v g) ws h = continues_less ws (codes "=a") (with_name v (given_more g (choice.Prefixed [] (codes "a"))) _ (has_read_next (state.Prefix v g) ws (codes "=a") h))
continues (state.Names o []) ws h = let some = h.2 in absurd (omega (arith, some))
continues (state.Names o (n ∷ ns)) ws h = whole ws (command.Compile o (n ∷ ns)) (has_read_asks (state.Names o (n ∷ ns)) ws h)
continues state.Kind ws h = continues_less ws (codes "numerics") (whole _ (command.Prelude kind.Numerics) (has_read_next state.Kind ws (codes "numerics") h))
continues state.Target ws h = continues_less ws (codes "x86") (whole _ (command.Isa isa.X86) (has_read_next state.Target ws (codes "x86") h))
continues state.Size ws h = continues_less ws (codes "1") (whole _ (command.Sample 1) (has_read_next state.Size ws (codes "1") h))
continues state.Run ws h = continues_less ws (codes "--trace") (with_name (verb.Run true) nothing_given _ (has_read_next state.Run ws (codes "--trace") h))
continues (state.Term d) ws h = with_term d ws h
continues (state.Values d m) ws h = with_empty d m ws h
continues (state.AfterValues p) ws h = after_term p ws h
continues (state.Answers p) ws h = with_answers p ws h

known_continues : (o : Option Known) (ws : List (List ℕ)) → IsSome o → After o ws → Continues ws
known_continues (Some s) ws h t = continues s ws t
known_continues None ws h t = cc

not_continued : (ws : List (List ℕ)) → read state.Begin ws ≡ None → Continues ws → ⊥
not_continued ws e h =
    let known : read state.Begin (ws ++ h.0) ≡ None = read_append state.Begin ws h.0 ∙ ap (λ r. onward r (λ t. read t h.0)) e in
    let request : None ≡ Some h.1 = sym (ap request_of known) ∙ complete h.2 in
    cc

-- the first word with which no line continues
pub bad_at : (ws : List (List ℕ)) (i : ℕ) → StopsAt ws i → IsBad ws i
bad_at ws i h = record {
  found = h.found;
  before = known_continues (read state.Begin (take i ws)) (take i ws) h.before (told (take i ws));
  bad = not_continued (take (i + 1) ws) h.bad;
}

-- a line would go on
pub is_missing : (ws : List (List ℕ)) (s : Known) → read state.Begin ws ≡ Some s → asks s ≡ None → IsMissing ws
is_missing ws s e f = record {
  before = continues s ws (subst (λ r. After r ws) e (told ws));
  none = λ c k. let request : None ≡ Some c = sym f ∙ sym (ap request_of e) ∙ complete k in cc;
}

-- a line has no bad word
pub line_not_bad : (ws : List (List ℕ)) (i : ℕ) (c : Request) → LineS ws c → IsBad ws i → ⊥
line_not_bad ws i c h b = b.bad (drop (i + 1) ws, c, subst (λ z. LineS z c) (sym (take-append-drop (i + 1) ws)) h)

-- what is a line is read, want of memory aside
pub line_read : {A : Type 0} (ws : List (List ℕ)) (c : Request) (r : Result A LineFail) → LineS ws c → ((i : ℕ) → r ≡ Err (fail.Bad i) → IsBad ws i) → (r ≡ Err fail.Missing → IsMissing ws) → IsOkUnless r fail.Memory
line_read ws c (Ok d) h bad missing = tt
line_read ws c (Err (fail.Bad i)) h bad missing = absurd (line_not_bad ws i c h (bad i refl))
line_read ws c (Err fail.Missing) h bad missing = absurd ((missing refl).none c h)
line_read ws c (Err fail.Memory) h bad missing = refl
