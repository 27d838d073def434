-- A place and buffers that are not refused fit.
use Rattle.std.specs.Prelude.{false, List, ◌≡◌, ℕ, ◌%◌, ltb, eqb, length}
use Rattle.std.proofs.Common.{ltb-false}
use Rattle.wire.specs.Limits.{max_store}
use Rattle.grammar.proofs.Choice.{neither}
use Rattle.slice_spec.specs.Slice.{Place, sizes_bad, place_bad}
use Rattle.slice_spec.specs.Bounds.{Fits}

pub fits : (p : Place) (document table : List ℕ) → sizes_bad document table ≡ false → place_bad p document table ≡ false → Fits p document table
unfolding sizes_bad place_bad
fits p document table a b =
    let s₁ = neither (ltb max_store (length document)) _ a in
    let s₂ = neither (eqb (length table % 2) 1) _ s₁.1 in
    let t₁ = neither (ltb (length document) p.at) _ b in
    record {
      at-fits = ltb-false _ _ t₁.0;
      names-fit = ltb-false _ _ t₁.1;
      document-small = ltb-false _ _ s₁.0;
      table-small = ltb-false _ _ s₂.1;
    }
