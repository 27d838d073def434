use Rattle.std.proofs.Common.{◌≡◌, ◌&&◌, ◌-◌, length}
use Rattle.event.specs.Words.{zeros}
use Rattle.forms.proofs.unused.Given as goal

abbrev pub invariant-loop-word : goal.invariant-loop-word
invariant-loop-word l = (l.all && zeros l.words l.word-index (length l.words - l.word-index)) ≡ zeros l.words 0 (length l.words)
