-- What is left of a file after some reads, and that a text is UTF-8.
use Rattle.std.proofs.Common.{ℕ, ◌+◌, ◌≤◌, List, length, drop, Some, None, ap, sym, ◌∙◌, subst}
use Rattle.std.proofs.Math.Seq.{drop-append-add}
use Rattle.std.proofs.lemmas.Str.{IsUtf8-string_bytes}
use Rattle.isle_outside.specs.Directory.{Current, Nothing, Reading, InFolder, GivesNext, IsReading}
use Rattle.isle_outside.specs.Reading.{Front, TakenAtMost, left_of}

pub ruleset texts = (IsUtf8-string_bytes)

-- after a read, no more were taken than those of all reads
pub taken_in_all : (old mid now : Current) (bytes buf : List ℕ) (n most : ℕ) → Front old mid bytes → GivesNext mid now n buf → length bytes + n ≤ most → TakenAtMost most (left_of old) now
taken_in_all Nothing mid now bytes buf n most front gives within = absurd front
taken_in_all (InFolder name) mid now bytes buf n most front gives within = absurd front
taken_in_all (Reading None) mid now bytes buf n most front gives within = subst (TakenAtMost most None) (sym (rw front at gives)) tt
taken_in_all (Reading (Some all)) mid now bytes buf n most front gives within =
    let given = rw front.1 at gives in
    subst (TakenAtMost most (Some all)) (sym given.2) (length bytes + n, within, sym (ap (drop (length bytes + n)) front.2 ∙ drop-append-add bytes front.0 n))

-- after a read the file is current still
pub reads_on : (old now : Current) (n : ℕ) (buf : List ℕ) → GivesNext old now n buf → IsReading now
reads_on Nothing now n buf gives = absurd gives
reads_on (InFolder name) now n buf gives = absurd gives
reads_on (Reading None) now n buf gives = subst IsReading (sym gives) tt
reads_on (Reading (Some left)) now n buf gives = subst IsReading (sym gives.2) tt
