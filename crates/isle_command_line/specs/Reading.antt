-- What is known after the first words of a line, and how each word more changes it.
use Rattle.std.specs.Prelude.{◌≡◌, ℕ, ◌+◌, ◌<◌, List, [], ◌∷◌, ◌++◌, length, take, Bool, true, false, ◌&&◌, ◌||◌, ◌==◌, nat_le, Option, Some, None, codes, if◌then◌else◌, is_some, IsSome}
use Rattle.std.specs.List.{list_all, position_or_len, before_first, after_first}
use Rattle.std.specs.Str.{bytes_eq}
use Rattle.isle_core.specs.Printed.{after_prefix}
use Rattle.isle_settings.specs.declared.isa.Isa.{Isa}
use Rattle.isle_values.specs.Reading.{spelt}
use Rattle.isle_values.specs.Written.{Writtens}
use Rattle.isle_command_line.specs.Words.{is_name, is_digit, decimal_value}
use Rattle.isle_command_line.specs.Targets.{target_of}
use Rattle.isle_command_line.specs.Lines as choice
use Rattle.isle_command_line.specs.Lines.{Choice, no_options, with_choice}
use Rattle.isle_command_line.specs.declared.commands.Kind.{Kind}
use Rattle.isle_command_line.specs.declared.commands.Source.{Source}
use Rattle.isle_command_line.specs.declared.commands.Source.TheVariants as source
use Rattle.isle_command_line.specs.declared.commands.Kind.TheVariants as kind
use Rattle.isle_command_line.specs.Request.{Request}
use Rattle.isle_command_line.specs.Request as command
use Rattle.isle_command_line.specs.declared.word.FirstWord.{FirstWord}
use Rattle.isle_command_line.specs.declared.word.FirstWord.TheVariants as first_word
use Rattle.isle_command_line.specs.declared.word.OptionWord.{OptionWord}
use Rattle.isle_command_line.specs.declared.word.OptionWord.TheVariants as marked
use Rattle.isle_command_line.specs.declared.state.GivenOptions.{GivenOptions}
use Rattle.isle_command_line.specs.declared.state.RunHead.{RunHead}
use Rattle.isle_command_line.specs.declared.state.Verb.{Verb}
use Rattle.isle_command_line.specs.declared.state.Verb.TheVariants as verb
use Rattle.isle_command_line.specs.Known.{Known, RunParts}
use Rattle.isle_command_line.specs.Known as state

-- what the first word of a line is
unfoldable pub first : List ℕ → FirstWord
first w =
    if bytes_eq w (codes "--help") then first_word.Help else
    if bytes_eq w (codes "--version") then first_word.Version else
    if bytes_eq w (codes "compile") then first_word.Compile else
    if bytes_eq w (codes "build") then first_word.Build else
    if bytes_eq w (codes "prelude") then first_word.Prelude else
    if bytes_eq w (codes "units") then first_word.Units else
    if bytes_eq w (codes "isa") then first_word.Isa else
    if bytes_eq w (codes "sample") then first_word.Sample else
    if bytes_eq w (codes "run") then first_word.Run else first_word.Other

-- the option that a word names
unfoldable pub mark : List ℕ → OptionWord
mark w =
    if bytes_eq w (codes "--no-allow") then marked.NoAllow else
    if bytes_eq w (codes "--log") then marked.Log else
    if bytes_eq w (codes "--split") then marked.Split else
    if bytes_eq w (codes "--threshold") then marked.Threshold else
    if bytes_eq w (codes "--max-returns") then marked.MaxReturns else
    if bytes_eq w (codes "--prefix") then marked.Prefix else marked.Other

-- the kind that a word names
unfoldable pub kind_of : List ℕ → Option Kind
kind_of w =
    if bytes_eq w (codes "numerics") then Some kind.Numerics else
    if bytes_eq w (codes "numerics-rust") then Some kind.NumericsRust else
    if bytes_eq w (codes "clif-opt") then Some kind.ClifOpt else
    if bytes_eq w (codes "clif-lower") then Some kind.ClifLower else
    if bytes_eq w (codes "assembler") then Some kind.Assembler else
    if bytes_eq w (codes "assembler-rust") then Some kind.AssemblerRust else
    if bytes_eq w (codes "pulley") then Some kind.Pulley else
    if bytes_eq w (codes "pulley-rust") then Some kind.PulleyRust else None

-- the number that 1 to 18 digits spell
unfoldable pub count : List ℕ → Option ℕ
count w = if nat_le 1 (length w) && (nat_le (length w) 18 && list_all is_digit w) then Some (decimal_value w) else None

-- a count, if it is the size of a sample
abbrev pub bounded : Option ℕ → Option ℕ
bounded (Some n) = if nat_le 1 n && nat_le n 10000 then Some n else None
bounded None = None

-- the size of a sample that at most 5 digits spell
unfoldable pub size : List ℕ → Option ℕ
size w = if nat_le (length w) 5 then bounded (count w) else None

-- what stands before the first = and after it
unfoldable pub parts : List ℕ → Option (List ℕ × List ℕ)
parts w = if position_or_len (λ b. b == 61) w == length w then None else Some (before_first (λ b. b == 61) w, after_first (λ b. b == 61) w)

-- the word that asks for a trace
unfoldable pub is_trace : List ℕ → Bool
is_trace w = bytes_eq w (codes "--trace")

-- the word in front of a file of answers
unfoldable pub is_answers : List ℕ → Bool
is_answers w = bytes_eq w (codes "--answers")

-- a source, by what stands after unit:
abbrev pub source_by : List ℕ → Option (List ℕ) → Source
source_by w None = source.File w
source_by w (Some n) = source.Unit n

-- the source that a name is
unfoldable pub source_of : List ℕ → Source
source_of w = source_by w (after_prefix (codes "unit:") w)

-- no option is given so far
abbrev pub nothing_given : GivenOptions
nothing_given = record { options = no_options; limited = false }

-- an option gives the limit of results
abbrev pub is_limit : Choice → Bool
is_limit choice.NoAllow = false
is_limit choice.Log = false
is_limit choice.Split = false
is_limit (choice.Threshold n) = false
is_limit (choice.MaxReturns n) = true
is_limit (choice.Prefixed prefix name) = false

-- one option more is given
abbrev pub given_more : GivenOptions → Choice → GivenOptions
given_more g c = record { options = with_choice g.options c; limited = is_limit c || g.limited }

-- after the first word
abbrev pub after_first_word : FirstWord → Option Known
after_first_word first_word.Help = Some (state.Whole command.Help)
after_first_word first_word.Version = Some (state.Whole command.Version)
after_first_word first_word.Compile = Some (state.Options verb.Compile nothing_given)
after_first_word first_word.Build = Some (state.Options verb.Build nothing_given)
after_first_word first_word.Prelude = Some state.Kind
after_first_word first_word.Units = Some (state.Whole command.Units)
after_first_word first_word.Isa = Some state.Target
after_first_word first_word.Sample = Some state.Size
after_first_word first_word.Run = Some state.Run
after_first_word first_word.Other = None

-- what stands before the term, with the source that a word names
abbrev pub head_of : Verb → GivenOptions → List ℕ → RunHead
head_of v g w = record { verb = v; given = g; source = source_of w }

-- after the first name
abbrev pub after_name : Verb → GivenOptions → List ℕ → Option Known
after_name verb.Compile g w = Some (state.Names g.options (w ∷ []))
after_name verb.Build g w = Some (state.Whole (command.Build g.options w))
after_name (verb.Run t) g w = Some (state.Term (head_of (verb.Run t) g w))

-- after a word that names an option
abbrev pub after_mark : Verb → GivenOptions → OptionWord → Option Known
after_mark v g marked.NoAllow = if g.options.exclude_global_allow_pragmas then None else Some (state.Options v (given_more g choice.NoAllow))
after_mark v g marked.Log = if g.options.emit_logging then None else Some (state.Options v (given_more g choice.Log))
after_mark v g marked.Split = if g.options.split_match_arms then None else Some (state.Options v (given_more g choice.Split))
after_mark v g marked.Threshold = if is_some g.options.match_arm_split_threshold then None else Some (state.Threshold v g)
after_mark v g marked.MaxReturns = if g.limited then None else Some (state.MaxReturns v g)
after_mark v g marked.Prefix = Some (state.Prefix v g)
after_mark v g marked.Other = None

-- after a threshold
abbrev pub with_threshold : Verb → GivenOptions → Option ℕ → Option Known
with_threshold v g (Some n) = Some (state.Options v (given_more g (choice.Threshold n)))
with_threshold v g None = None

-- after a limit of results
abbrev pub with_limit : Verb → GivenOptions → Option ℕ → Option Known
with_limit v g (Some n) = Some (state.Options v (given_more g (choice.MaxReturns n)))
with_limit v g None = None

-- after a prefix
abbrev pub with_prefix : Verb → GivenOptions → Option (List ℕ × List ℕ) → Option Known
with_prefix v g (Some p) = if is_name p.1 then Some (state.Options v (given_more g (choice.Prefixed p.0 p.1))) else None
with_prefix v g None = None

-- after a kind
abbrev pub after_kind : Option Kind → Option Known
after_kind (Some k) = Some (state.Whole (command.Prelude k))
after_kind None = None

-- after a target
abbrev pub after_target : Option Isa → Option Known
after_target (Some target) = Some (state.Whole (command.Isa target))
after_target None = None

-- after the size of a sample
abbrev pub after_size : Option ℕ → Option Known
after_size (Some n) = Some (state.Whole (command.Sample n))
after_size None = None

-- after an option or the first name
abbrev pub optional : Verb → GivenOptions → List ℕ → Option Known
optional v g w = if is_name w then after_name v g w else after_mark v g (mark w)

-- after values
abbrev pub with_values : RunHead → (term : List ℕ) → Option Writtens → Option Known
with_values h m (Some vs) = Some (state.AfterValues (record { head = h; term = m; values = vs }))
with_values h m None = None

-- what a line of these parts asks for, with this file of answers, if lines of its verb have a term
abbrev pub run_request : Verb → RunParts → (answers : Option (List ℕ)) → Option Request
run_request verb.Compile p a = None
run_request verb.Build p a = None
run_request (verb.Run t) p a = Some (command.Run (record { trace = t; options = p.head.given.options; source = p.head.source; term = p.term; values = p.values; answers = a }))

-- after the last word that a line may have
abbrev pub after_last : Option Request → Option Known
after_last (Some r) = Some (state.Whole r)
after_last None = None

-- what is known after one word more, if a line continues with it
abbrev pub next : Known → List ℕ → Option Known
next state.Begin w = after_first_word (first w)
next (state.Whole c) w = None
next (state.Options v g) w = optional v g w
next (state.Threshold v g) w = with_threshold v g (count w)
next (state.MaxReturns v g) w = with_limit v g (count w)
next (state.Prefix v g) w = with_prefix v g (parts w)
next (state.Names o ns) w = if is_name w then Some (state.Names o (ns ++ w ∷ [])) else None
next state.Kind w = after_kind (kind_of w)
next state.Target w = after_target (target_of w)
next state.Size w = after_size (size w)
next state.Run w = if is_trace w then Some (state.Options (verb.Run true) nothing_given) else optional (verb.Run false) nothing_given w
next (state.Term h) w = if is_name w then Some (state.Values h w) else None
next (state.Values h m) w = with_values h m (spelt w)
next (state.AfterValues p) w = if is_answers w then Some (state.Answers p) else None
next (state.Answers p) w = if is_name w then after_last (run_request p.head.verb p (Some w)) else None

-- goes on if something is known
abbrev pub onward : Option Known → (Known → Option Known) → Option Known
onward (Some s) f = f s
onward None f = None

-- what is known after words, where a line begins with them
abbrev pub read : Known → List (List ℕ) → Option Known
read s [] = Some s
read s (w ∷ ws) = onward (next s w) (λ t. read t ws)

-- what the words so far ask for, if they are a line
abbrev pub asks : Known → Option Request
asks state.Begin = Some (command.Compile no_options (codes "first.isle" ∷ []))
asks (state.Whole c) = Some c
asks (state.Options v g) = None
asks (state.Threshold v g) = None
asks (state.MaxReturns v g) = None
asks (state.Prefix v g) = None
asks (state.Names o ns) = Some (command.Compile o ns)
asks state.Kind = None
asks state.Target = None
asks state.Size = None
asks state.Run = None
asks (state.Term h) = None
asks (state.Values h m) = None
asks (state.AfterValues p) = run_request p.head.verb p None
asks (state.Answers p) = None

-- the word of this number is the first with which no line continues
pub record StopsAt (words : List (List ℕ)) (i : ℕ) : Type 0 where
  pub found : i < length words
  pub before : IsSome (read state.Begin (take i words))
  pub bad : read state.Begin (take (i + 1) words) ≡ None
