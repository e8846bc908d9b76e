use Rattle.roam_grid.proofs.Buffers.{kept_up, kept_down, first_up, first_down}
use Rattle.roam_grid.proofs.laws.scrolls_leave_the_buffer.Goals as goal

pub returns : goal.returns
returns c = record {
  up = λ n v are full. kept_up n v are full;
  down = λ n v are full. kept_down n v are full;
  first_up = λ n s first e. first_up n s first e;
  first_down = λ n s first e. first_down n s first e;
}
