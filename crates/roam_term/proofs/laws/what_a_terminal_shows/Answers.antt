use Rattle.roam_term.proofs.Picturing.{picture_screen}
use Rattle.roam_term.proofs.Grounds as grounds
use Rattle.roam_term.proofs.laws.what_a_terminal_shows.Goals as goal

pub returns : goal.returns
returns c = record {
  screen = picture_screen;
  placed = grounds.cursor_is_placed;
  styled = grounds.style_is_set;
  mixed = grounds.mixture_is_set;
  erased = grounds.all_is_erased;
  printed = grounds.character_is_printed;
  joined = grounds.character_is_joined;
  hidden_cursor = grounds.cursor_is_hidden;
  shown_cursor = grounds.cursor_is_shown;
  reset = grounds.all_is_reset;
}
