-- Texts that are made of pieces are UTF-8.
use Rattle.std.proofs.Common.{◌≡◌, ℕ, ◌<◌, List, [], ◌∷◌, IsAscii, true, arith}
use Rattle.std.specs.Str.{IsUtf8}
use Rattle.std.proofs.lemmas.Str.{IsAscii-append, IsUtf8-from_ascii}
use Rattle.std.proofs.lemmas.Str.Ascii.{IsAscii-nil, IsAscii-cons}
use Rattle.std.proofs.lemmas.Bool.{and_parts, ltb-true}
use Rattle.std.proofs.lemmas.Bool.Decides.{nat_tests}
use Rattle.isle_lexer.specs.Token.{is_blank, is_word_byte}
use Rattle.isle_writing.specs.Writable.{is_plain_byte, IsPlain}
use Rattle.isle_writing.proofs.Pieces.{Piece, Blank, Opens, Closes, Sign, Spelt, bytes_of, AreApart}

plain_ascii : (w : List ℕ) → IsPlain w → IsAscii w
plain_ascii [] h = IsAscii-nil
plain_ascii (b ∷ w) h =
    let parts = and_parts (is_plain_byte b) _ h in
    IsAscii-cons b w (ltb-true b 128 (and_parts (is_word_byte b) _ parts.0).1) (plain_ascii w parts.1)

blank_low : (b : ℕ) → is_blank b ≡ true → b < 128
blank_low b h = grind (arith, nat_tests)

pieces_ascii : (ps : List Piece) → AreApart ps → IsAscii (bytes_of ps)
pieces_ascii [] h = IsAscii-nil
pieces_ascii (Blank b ∷ ps) h = IsAscii-cons b (bytes_of ps) (blank_low b h.0) (pieces_ascii ps h.1)
pieces_ascii (Opens ∷ ps) h = IsAscii-cons 40 (bytes_of ps) (omega arith) (pieces_ascii ps h)
pieces_ascii (Closes ∷ ps) h = IsAscii-cons 41 (bytes_of ps) (omega arith) (pieces_ascii ps h)
pieces_ascii (Sign ∷ ps) h = IsAscii-cons 64 (bytes_of ps) (omega arith) (pieces_ascii ps h)
pieces_ascii (Spelt w ∷ ps) h = IsAscii-append w (bytes_of ps) (plain_ascii w h.0.1) (pieces_ascii ps h.1.1)

-- they are
pub pieces_utf8 : (ps : List Piece) → AreApart ps → IsUtf8 (bytes_of ps)
pieces_utf8 ps h = IsUtf8-from_ascii (bytes_of ps) (pieces_ascii ps h)
