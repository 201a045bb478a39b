use Rattle.std.proofs.Common.{rules, ◌≡◌, ◌∙◌, string_bytes}
use Rattle.isle_prelude.specs.TermPieces.{file_piece}
use Rattle.isle_prelude.proofs.FileTexts.{file_law}
use Rattle.isle_prelude.proofs.files.file_text.Goals as goal

pub returns : goal.returns
returns c =
    let appended : string_bytes c.push_file.new.text ≡ file_piece c.args.file c.args.tables.now.formats c.args.tables.now.instructions = search rules in
    appended ∙ file_law c.args.file c.args.tables.now
