-- The metadata of a session's panes, as known.
use Rattle.std.specs.Prelude.{ℕ, Bool, true, false, ◌==◌, ◌&&◌, [], ◌∷◌, slice_index_or, Option, None, Some, if◌then◌else◌}
use Rattle.roam_pane_metadata.specs.Settings.{fresh_settings}
use Rattle.roam_pane_metadata.specs.declared.settings.Settings.{Settings}
use Rattle.roam_pane_metadata.specs.declared.settings.Tracking.{Tracking}
use Rattle.roam_pane_metadata.specs.declared.settings.Tracking.TheVariants.{Off, Buttons, Drags, Motion}
use Rattle.roam_pane_protocol.specs.declared.metadata_list.MetadataList.{MetadataList}
use Rattle.roam_pane_protocol.specs.declared.metadata_list.MetadataPane.{MetadataPane}

-- no pane is there
abbrev pub nothing_metadata : MetadataList
nothing_metadata = record { all = None ∷ None ∷ None ∷ None ∷ None ∷ None ∷ None ∷ None ∷ None ∷ None ∷ [] }

-- the metadata of a pane, if it is there
abbrev pub metadata_at : MetadataList → ℕ → Option MetadataPane
metadata_at known p = slice_index_or known.all p None

-- that of a pane whose program has written nothing
abbrev pub fresh_metadata : ℕ → MetadataPane
fresh_metadata generation = record { generation = generation; settings = fresh_settings; titles = 0 }

-- the known metadata of a generation of a pane: none is known of another generation, and its program has written nothing
abbrev pub in_generation : ℕ → Option MetadataPane → MetadataPane
in_generation generation None = fresh_metadata generation
in_generation generation (Some b) = if b.generation == generation then b else fresh_metadata generation

-- the same reports of the mouse are asked for
abbrev pub same_tracking : Tracking → Tracking → Bool
same_tracking Off Off = true
same_tracking Buttons Buttons = true
same_tracking Drags Drags = true
same_tracking Motion Motion = true
same_tracking one other = false

-- the same
abbrev pub same_flag : Bool → Bool → Bool
same_flag true other = other
same_flag false true = false
same_flag false false = true

-- the same modes are set
abbrev pub same_modes : Settings → Settings → Bool
same_modes one other =
    same_tracking one.tracking other.tracking
    && (same_flag one.sgr_reports other.sgr_reports
    && (same_flag one.focus_reports other.focus_reports
    && (same_flag one.bracketed_paste other.bracketed_paste
    && (same_flag one.alternate_screen other.alternate_screen
    && (same_flag one.application_keypad other.application_keypad && (one.other_keys == other.other_keys))))))

-- with other modes
abbrev pub with_modes : Settings → MetadataPane → MetadataPane
with_modes s b = record b { settings = record s { shape = b.settings.shape; bells = b.settings.bells } }

-- with another shape of the cursor
abbrev pub with_shape : ℕ → MetadataPane → MetadataPane
with_shape n b = record b { settings = record b.settings { shape = n } }

-- with so many bells
abbrev pub with_bells : ℕ → MetadataPane → MetadataPane
with_bells n b = record b { settings = record b.settings { bells = n } }

-- with so many titles
abbrev pub with_titles : ℕ → MetadataPane → MetadataPane
with_titles n b = record b { titles = n }

-- the knowledge assumed of a subscriber that comes now: it gets no bell that rang before, and everything else
abbrev pub before_told : MetadataPane → MetadataPane
before_told b = with_bells b.settings.bells (fresh_metadata b.generation)

-- with no more bells than were known of this generation
abbrev pub without_new_bells : Option MetadataPane → MetadataPane → MetadataPane
without_new_bells known b = with_bells (in_generation b.generation known).settings.bells b
