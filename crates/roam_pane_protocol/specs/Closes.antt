-- A subscriber's line that closes a pane, and its effect (this project's profile).
use Rattle.std.specs.Prelude.{◌≡◌, ◌≤◌, ◌<◌, ◌^◌, ℕ, Bool, true, false, not, ◌==◌, ◌&&◌, nat_le, List, [], ◌∷◌, ◌++◌, Option, Some, None, is_some, IfSome, if◌then◌else◌, codes, decimal}
use Rattle.roam_pane_protocol.specs.Known.{pane_at}
use Rattle.roam_pane_protocol.specs.declared.pane_list.ListedPane.{ListedPane}
use Rattle.roam_pane_protocol.specs.declared.pane_list.PaneList.{PaneList}
use Rattle.roam_pane_protocol.specs.declared.closes.Close.{Close}
use Rattle.roam_pane_protocol.specs.declared.closes.Closing.{Closing}
use Rattle.roam_pane_protocol.specs.declared.closes.Closing.TheVariants as closing

-- ---- its text

-- the word that a close begins with, and the space behind it
abbrev pub close_head : List ℕ
close_head = codes "close "

-- a number of a pane
abbrev pub IsPane : ℕ → Type 0
IsPane p = (1 ≤ p) × (p ≤ 9)

-- a pane, a generation of 64 bits, and a pane to focus if one is named
pub record IsClose (close : Close) : Type 0 where
  pub pane : IsPane close.pane
  pub generation : close.generation < 2 ^ 64
  pub focus : IfSome close.focus IsPane

-- the pane to focus, if one is named
abbrev pub focus_text : Option ℕ → List ℕ
focus_text None = []
focus_text (Some p) = 0x20 ∷ decimal p

-- a close as it is written, without its LF
abbrev pub close_text : Close → List ℕ
close_text close = close_head ++ (decimal close.pane ++ 0x20 ∷ (decimal close.generation ++ focus_text close.focus))

-- ---- its effect

-- a pane of this number is there
abbrev pub is_there : PaneList → ℕ → Bool
is_there known p = nat_le 1 p && (nat_le p 9 && is_some (pane_at known p))

-- it is of this generation
abbrev pub has_generation : Option ListedPane → ℕ → Bool
has_generation None generation = false
has_generation (Some pane) generation = pane.generation == generation

-- a pane of this number is there, and of this generation
abbrev pub is_making : PaneList → ℕ → ℕ → Bool
is_making known p generation = is_there known p && has_generation (pane_at known p) generation

-- no other is there
abbrev pub IsAlone : PaneList → ℕ → Type 0
IsAlone known p = (q : ℕ) → is_there known q ≡ true → q ≡ p

-- a pane is there that isn't the one that is closed
abbrev pub may_follow : PaneList → ℕ → ℕ → Bool
may_follow known closed p = not (p == closed) && is_there known p

-- the pane that has the focus now, if it may keep it
abbrev pub focus_kept : PaneList → ℕ → Option ℕ
focus_kept known closed = if may_follow known closed known.focus then Some known.focus else None

-- the pane that gets the focus after a close: the named one, if it may have it; else the one that has it now, if it may
abbrev pub focus_named : PaneList → ℕ → Option ℕ → Option ℕ
focus_named known closed None = focus_kept known closed
focus_named known closed (Some p) = if may_follow known closed p then Some p else focus_kept known closed

abbrev pub focus_after : PaneList → Close → Option ℕ
focus_after known close = focus_named known close.pane close.focus

-- if there are acts, this pane gets the focus after them
abbrev pub Acts : Closing → Option ℕ → Type 0
Acts closing.Gone pane = Unit {0}
Acts closing.LastPane pane = Unit {0}
Acts (closing.Acts after) pane = after ≡ pane
