use Rattle.std.proofs.Common.{ℕ, ◌≡◌, length, sym, replicate}
use Rattle.std.proofs.lemmas.List.{length-replicate}
use Rattle.abx2xml.proofs.print.Goals as goal

-- The arrays' lengths are told, and not computed.
zeros : (n : ℕ) → n ≡ length {A = ℕ} (replicate n 0)
zeros n = sym (length-replicate n 0)

pub slice_bounds-print_by-end : goal.slice_bounds-print_by-end
slice_bounds-print_by-end c = zeros 1_048_576

pub slice_bounds-print_by-end-2 : goal.slice_bounds-print_by-end-2
slice_bounds-print_by-end-2 c = zeros 131_070

pub slice_bounds-print_by-end-3 : goal.slice_bounds-print_by-end-3
slice_bounds-print_by-end-3 c = zeros 1_048_576

pub slice_bounds-print_by-end-4 : goal.slice_bounds-print_by-end-4
slice_bounds-print_by-end-4 c = zeros 786_432

pub slice_bounds-print_by-end-5 : goal.slice_bounds-print_by-end-5
slice_bounds-print_by-end-5 c = zeros 524_288
