-- The metadata of a pane's terminal.
use Rattle.std.specs.Prelude.{ℕ, ◌≡◌, List, ◌++◌, map}
use Rattle.roam_text.specs.Log.{Byte}
use Rattle.roam_text.specs.Strings.{strings_by}
use Rattle.roam_text.specs.Stands.{View, Stands as ReaderStands}
use Rattle.roam_text.specs.StringPhases.{StringView, Follows}
use Rattle.roam_pane_metadata.specs.declared.settings.Settings.{Settings}
use Rattle.roam_pane_metadata.specs.declared.screen_modes.ScreenModes.{ScreenModes}
use Rattle.roam_pane_metadata.specs.Settings.{settings_of}
use Rattle.roam_pane_metadata.specs.Keeping.{TextsView, Keeps}
use Rattle.roam_pane_metadata.specs.Emissions.{resets_of, emissions_of}
use Rattle.roam_pane_metadata.specs.Queries.{by_functions, queries_of}
use Rattle.roam_pane_metadata.specs.ScreenModes.{modes_of}
use Rattle.roam_pane_metadata.specs.Asking.{AskedView, HeadView, Heads, Recalls}

-- two readers of bytes, the settings, the stored texts, the modes of the screen, and the questions
pub record MetadataView : Type 0 where
  pub reader : View
  pub strings : StringView
  pub settings : Settings
  pub texts : TextsView
  pub modes : ScreenModes
  pub head : HeadView
  pub asked : AskedView

-- bytes behind these say and ask the same as behind the others
pub record ReadsSame (bytes read : List ℕ) : Type 0 where
  pub settings : settings_of bytes ≡ settings_of read
  pub strings : strings_by (map Byte bytes) ≡ strings_by (map Byte read)
  pub resets : resets_of bytes ≡ resets_of read
  pub modes : modes_of bytes ≡ modes_of read
  pub asked : by_functions bytes ≡ by_functions read

abbrev pub ReadsAs : List ℕ → List ℕ → Type 0
ReadsAs bytes read = (more : List ℕ) → ReadsSame (bytes ++ more) (read ++ more)

-- It has read these bytes. The settings and the questions are all of theirs. The stored texts are those of their control strings for which
-- there was memory, less the titles that resets removed. Its readers were given bytes after which all later ones say and ask the same.
pub record Stands (metadata : MetadataView) (bytes : List ℕ) : Type 0 where
  pub read : List ℕ
  pub reader : ReaderStands metadata.reader (map Byte read)
  pub strings : Follows metadata.strings (map Byte read)
  pub same : ReadsAs bytes read
  pub settings : metadata.settings ≡ settings_of bytes
  pub texts : Keeps metadata.texts (emissions_of bytes) (strings_by (map Byte bytes)).begun
  pub modes : metadata.modes ≡ modes_of bytes
  pub head : Heads metadata.head (strings_by (map Byte bytes)).begun
  pub asked : Recalls metadata.asked (queries_of bytes)
