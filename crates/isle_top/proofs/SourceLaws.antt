-- What is so of each source, a file or the files of a unit.
use Rattle.std.proofs.Common.{◌≡◌, ℕ, List, [], ◌∷◌, ◌++◌, true, false, Option, Some, None, refl, sym, ap, ◌∙◌, subst}
use Rattle.std.specs.Prelude.{IsSome, is_some}
use Rattle.std.specs.Option.{option_map_or}
use Rattle.std.proofs.lemmas.Option.{same_Some}
use Rattle.isle_build.specs.GeneratedFiles.{generated_texts}
use Rattle.isle_build.specs.UnitSource.{IsSourceOfUnit, IsUnitSource, unit_named}
use Rattle.isle_command_line.specs.declared.commands.Source.{Source}
use Rattle.isle_command_line.specs.declared.commands.Source.TheVariants as source
use Rattle.isle_core.specs.Inputs.{AreRead}
use Rattle.isle_core.specs.declared.files.Files.{Files}
use Rattle.isle_core.specs.declared.options.CodegenOptions.{CodegenOptions}
use Rattle.isle_meta.specs.declared.tables.Tables.{Tables}
use Rattle.isle_outside.specs.Directory.{Contents}
use Rattle.isle_table_check.specs.SupportedTables.{AreSupported, IsFirstUnsupported}
use Rattle.isle_table_check.proofs.TableLaws.{unsupported_apart}
use Rattle.isle_units.specs.declared.compilation.IsleCompilation.{IsleCompilation}
use Rattle.isle_top.specs.declared.refusal.Refusal.{Refusal}
use Rattle.isle_top.specs.Job.{Around, Job}
use Rattle.isle_top.specs.Sourcing.{Sourcing, FailsEarly, no_unit, no_tables, from_names, from_unit, sourcing_of}
use Rattle.isle_top.specs.Statuses.{IsOfJob}
use Rattle.isle_top.specs.Tabling.{OfTables, handed, not_had, had, unsupported}
use Rattle.isle_top.proofs.ReadLaws.{read_once, source_once}

-- ---- units

-- the files of a unit hold one source
unit_once : (t : Tables) (options : CodegenOptions) (u : IsleCompilation) (fs : Contents) (a b : Files) → IsUnitSource t options u (Some fs) a → IsUnitSource t options u (Some fs) b → a ≡ b
unit_once t options u fs a b s r =
    ap (λ (ns : List (List ℕ)). record { file_names = ns; file_texts = a.file_texts }) (s.named ∙ sym r.named)
    ∙ ap (λ (ts : List (List ℕ)). record { file_names = b.file_names; file_texts = ts })
    (s.texts.all ∙ ap (λ (read : List (List ℕ)). read ++ generated_texts t u.untracked_inputs) (read_once fs u.tracked_inputs s.texts.read r.texts.read s.texts.found r.texts.found) ∙ sym r.texts.all)

-- two units of one name are one
pub same_unit : (name : List ℕ) (u v : IsleCompilation) → unit_named name ≡ Some u → unit_named name ≡ Some v → u ≡ v
same_unit name u v h k = same_Some u v (sym h ∙ k)

-- of one name they hold one source
pub units_once : (t : Tables) (options : CodegenOptions) (name : List ℕ) (fs : Contents) (a b : Files) → IsSourceOfUnit t options name (Some fs) a → IsSourceOfUnit t options name (Some fs) b → a ≡ b
units_once t options name fs a b h k =
    unit_once t options h.unit fs a b h.is_source (subst (λ u. IsUnitSource t options u (Some fs) b) (sym (same_unit name h.unit k.unit h.listed k.listed)) k.is_source)

-- what is so of a unit's tracked files is so of those of its name
pub of_tracked : (name : List ℕ) (u : IsleCompilation) (P : List (List ℕ) → Type 0) → unit_named name ≡ Some u → P u.tracked_inputs → P (option_map_or (λ (v : IsleCompilation). v.tracked_inputs) (unit_named name) [])
of_tracked name u P h p = subst (λ (o : Option IsleCompilation). P (option_map_or (λ (v : IsleCompilation). v.tracked_inputs) o [])) (sym h) p

-- a unit that is listed has its name
pub none_listed : (o : Option IsleCompilation) → IsSome o → o ≡ None → ⊥
none_listed None s e = absurd (let bad : false ≡ true = s in cc)
none_listed (Some u) s e = absurd (let bad : Some u ≡ None = e in cc)

-- ---- tables that are handed in

-- what is so of them is so of these
pub of_handed : (t : Tables) (files : Option Contents) (P : Tables → Type 0) → OfTables (handed t) files P → P t
of_handed t files P h = subst P h.1 h.2

-- ---- sources

-- what is so of a source: over the same files it is one; it can be had where it is, and its files were read; and then it doesn't fail before one of its
-- own is read; and what is told of such a failure is there
pub record IsSteady (from : Sourcing) : Type 1 where
  pub once : (fs : Contents) (a b : Files) → from.is_source (Some fs) a → from.is_source (Some fs) b → a ≡ b
  pub ready : (files : Option Contents) (a : Files) → from.is_source files a → from.ready files
  pub read : (fs : Contents) (a : Files) → from.is_source (Some fs) a → (texts : List (List ℕ)) × AreRead fs from.inputs texts
  pub never : (e : Refusal) (around : Around) → from.ready around.files → from.early e around → ⊥
  pub told : (job : Job) (e : Refusal) (around : Around) → from.early e around → IsOfJob job e

-- so of files that are named
pub names_steady : (options : CodegenOptions) (names : List (List ℕ)) → IsSteady (from_names options names)
names_steady options names = record {
  once = λ fs a b h k. source_once options fs names a b h k;
  ready = λ files a h. tt;
  read = λ fs a h. (a.file_texts, h.read);
  never = λ e around r h. h;
  told = λ job e around h. absurd h;
}

module _ (t : Tables) (options : CodegenOptions) (unit : List ℕ) where
  -- one that can be had doesn't fail early
  unit_never : (e : Refusal) (around : Around) → (from_unit (handed t) options unit).ready around.files → FailsEarly (handed t) unit around e → ⊥
  unit_never _ around r (no_unit is) = none_listed (unit_named unit) r.0 is
  unit_never _ around r (no_tables e some (not_had _ h)) = h
  unit_never _ around r (no_tables e some (had u _ are tried (unsupported found first))) =
      unsupported_apart t found (subst (λ (v : Tables). IsFirstUnsupported v (Some found)) are first) (of_handed t around.files AreSupported r.1)

  unit_told : (job : Job) (e : Refusal) (around : Around) → FailsEarly (handed t) unit around e → IsOfJob job e
  unit_told job _ around (no_unit is) = tt
  unit_told job _ around (no_tables e some (not_had _ h)) = absurd h
  unit_told job _ around (no_tables e some (had u _ are tried (unsupported found first))) = tt

  -- the source of a unit over tables that are handed in
  unit_of : (files : Option Contents) (a : Files) → (from_unit (handed t) options unit).is_source files a → IsSourceOfUnit t options unit files a
  unit_of files a h = of_handed t files (λ u. IsSourceOfUnit u options unit files a) h

  -- so of the files of a unit
  pub unit_steady : IsSteady (from_unit (handed t) options unit)
  unit_steady = record {
    once = λ fs a b h k. units_once t options unit fs a b (unit_of (Some fs) a h) (unit_of (Some fs) b k);
    ready = λ files a h. let s = unit_of files a h in (ap is_some s.listed, (t, refl, s.is_source.supported));
    read = λ fs a h. let s = unit_of (Some fs) a h in
        of_tracked unit s.unit (λ (names : List (List ℕ)). (texts : List (List ℕ)) × AreRead fs names texts) s.listed (s.is_source.texts.read, s.is_source.texts.found);
    never = unit_never;
    told = unit_told;
  }

-- so of what a word names
pub source_steady : (t : Tables) (options : CodegenOptions) (s : Source) → IsSteady (sourcing_of (handed t) options s)
source_steady t options (source.File name) = names_steady options (name ∷ [])
source_steady t options (source.Unit unit) = unit_steady t options unit
