use Rattle.std.proofs.Common.{◌≡◌, ◌*◌, ◌-◌, length}
use Rattle.names.specs.Hash.{mix_eights}
use Rattle.names.proofs.many_bytes.Given as goal

abbrev pub invariant-loop-k : goal.invariant-loop-k
invariant-loop-k l = mix_eights (l.turns - l.k) l.hash l.name (8 * l.k) ≡ mix_eights l.turns (length l.name) l.name 0
