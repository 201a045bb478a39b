-- The four files, and that no two of them have one name.
use Rattle.std.proofs.Common.{◌≡◌, ℕ, List, [], ◌∷◌, false, refl, ap, ◌∙◌}
use Rattle.std.specs.Prelude.{string_bytes}
use Rattle.isle_meta.specs.Layout.{joined_name}
use Rattle.isle_meta.specs.TableNames.{repeats}
use Rattle.isle_prelude_files.specs.Made.{files_with, given_names}
use Rattle.isle_prelude_files.specs.Outputs.{File, file_of, files_of, names_of}
use Rattle.isle_prelude_files.specs.declared.names.Names.{Names}
use Rattle.isle_prelude_files.specs.declared.texts.Texts.{Texts}
use Rattle.isle_prelude_files.specs.declared.writing.Output.{Output}
use Rattle.isle_prelude_files.proofs.NameLaws.{repeats_joined}

-- a text beside its name
pub beside : (o : Output) (name given text : List ℕ) → file_of o ≡ (name, given) → given ≡ text → file_of o ≡ (name, text)
beside o name given text e k = e ∙ ap (λ (w : List ℕ). (name, w)) k

-- four of them, each as it is told
four_same : (a b c d w x y z : File) → a ≡ w → b ≡ x → c ≡ y → d ≡ z → a ∷ b ∷ c ∷ d ∷ [] ≡ w ∷ x ∷ y ∷ z ∷ []
four_same a b c d w x y z e f g h = rw (e, f, g, h) refl

-- the four texts, each beside its name
pub four_files : (a b c d : Output) (n : Names) (x : Texts) → file_of a ≡ (joined_name n.folder.now n.numerics.now, string_bytes x.numerics) → file_of b ≡ (joined_name n.folder.now n.methods.now, string_bytes x.methods)
    → file_of c ≡ (joined_name n.folder.now n.opt.now, string_bytes x.opt) → file_of d ≡ (joined_name n.folder.now n.lower.now, string_bytes x.lower) → files_of (a ∷ b ∷ c ∷ d ∷ []) ≡ files_with n x
four_files a b c d n x e f g h = four_same (file_of a) (file_of b) (file_of c) (file_of d) _ _ _ _ e f g h

-- no two of them have one name
pub four_apart : (files : List File) (n : Names) (x : Texts) → files ≡ files_with n x → repeats (given_names n) ≡ false → repeats (names_of files) ≡ false
four_apart files n x e h = ap (λ (fs : List File). repeats (names_of fs)) e ∙ repeats_joined n.folder.now (given_names n) ∙ h
