use Rattle.roam_grid.proofs.UnmarkedPuts.{put_shows, put_all_shows, joined_shows}
use Rattle.roam_grid.proofs.Unmarked.{up_shows, down_shows, inserted_shows, deleted_shows, erased_shows, line_shows, page_shows, line_shows_selective, page_shows_selective, lines_inserted_show, lines_deleted_show, reverse_shows, index_shows}
use Rattle.roam_grid.proofs.laws.unmarked_rows_show_what_they_showed.Goals as goal

pub returns : goal.returns
returns c = record {
  put = λ x w s m h no_half. put_shows x w s m h no_half;
  put_all = λ xs w s m h no_half. put_all_shows xs w s m h no_half;
  joined = λ point s m h. joined_shows s m h point;
  indexed = λ s m h. index_shows s m h;
  reverse_indexed = λ s m h. reverse_shows s m h;
  scrolled_up = λ n s m h. up_shows s m h n;
  scrolled_down = λ n s m h. down_shows s m h n;
  cells_inserted = λ n s m h. inserted_shows s m h n;
  cells_deleted = λ n s m h. deleted_shows s m h n;
  cells_erased = λ n s m h pos. erased_shows s m h n pos;
  lines_inserted = λ n s m h. lines_inserted_show s m h n;
  lines_deleted = λ n s m h. lines_deleted_show s m h n;
  erased_in_page = λ e s m h. page_shows s m h e;
  erased_in_line = λ e s m h. line_shows s m h e;
  erased_selectively_in_page = λ e s m h. page_shows_selective s m h e;
  erased_selectively_in_line = λ e s m h. line_shows_selective s m h e;
}
