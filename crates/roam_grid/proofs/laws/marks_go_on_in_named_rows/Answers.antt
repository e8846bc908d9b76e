use Rattle.roam_grid.proofs.UnmarkedPuts.{put_is, joined_changes}
use Rattle.roam_grid.proofs.NamedGuards.{page_marks_selective, line_marks_selective}
use Rattle.roam_grid.proofs.Named.{up_marks, down_marks, lines_up, lines_down, inserted_marks, deleted_marks, erased_marks, line_marks, page_marks, written_marks, all_marked}
use Rattle.roam_grid.proofs.laws.marks_go_on_in_named_rows.Goals as goal

pub returns : goal.returns
returns c = record {
  scrolled_up = λ n s m h. up_marks s m h n;
  scrolled_down = λ n s m h. down_marks s m h n;
  cells_inserted = λ n s m h. inserted_marks s m h n;
  cells_deleted = λ n s m h. deleted_marks s m h n;
  cells_erased = λ n s m h pos. erased_marks s m h n pos;
  lines_inserted = λ n s m h between. lines_down s m h n between;
  lines_deleted = λ n s m h between. lines_up s m h n between;
  erased_in_page = λ e s m h. page_marks s m h e;
  erased_in_line = λ e s m h. line_marks s m h e;
  erased_selectively_in_page = λ e s m h. page_marks_selective s m h e;
  erased_selectively_in_line = λ e s m h. line_marks_selective s m h e;
  written = λ x s m h. written_marks s m h x;
  put = λ x w s m h. put_is x w s m h;
  joined = λ point s m r h r_in off on. joined_changes s m h point r r_in off on;
  all = all_marked;
}
