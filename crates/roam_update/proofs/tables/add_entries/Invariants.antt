use Rattle.std.proofs.Common.{◌≡◌, ◌≤◌, ◌*◌, ◌-◌, map, drop, length, ◌⊎◌}
use Rattle.std.specs.Prelude.{IsSome}
use Rattle.roam_cells.specs.Inks.{style_numbered}
use Rattle.roam_update.specs.TableText.{entry_read, table_read}
use Rattle.roam_update.proofs.tables.add_entries.Given as goal

abbrev pub invariant-loop-k : goal.invariant-loop-k
invariant-loop-k l =
    record {
      keys : map style_numbered l.keys.keys ≡ l.table.items;
      rest : l.rest ≡ drop (9 * l._k) l.text;
      long : 9 * l._k ≤ length l.text;
      first : (l._k ≡ 0) ⊎ IsSome (entry_read l.text);
      same : table_read (l.n - l._k) l.table.items l.rest ≡ table_read l.n l.fn.table.items l.text;
    }
