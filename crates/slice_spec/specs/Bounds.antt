-- What holds of a place and of buffers that are not refused.
use Rattle.std.specs.Prelude.{List, ℕ, ◌*◌, ◌≤◌, length}
use Rattle.wire.specs.Limits.{max_store, max_table}
use Rattle.slice_spec.specs.Slice.{Place}

pub record Fits (p : Place) (document table : List ℕ) : Type 0 where
  pub at-fits : p.at ≤ length document
  pub names-fit : 2 * p.names ≤ length table
  pub document-small : length document ≤ max_store
  pub table-small : length table ≤ max_table
