-- The notes that a call keeps of the names it has met: five words each, linked by slots.
use Rattle.std.specs.Prelude as Code
use Rattle.std.specs.Prelude.{Bool, false, List, ◌≡◌, ℕ, ◌+◌, ◌*◌, ◌/◌, ◌%◌, ◌≤◌, ◌<◌, length, get_or, Some, None}
use Rattle.std.proofs.Math.Option.{none, some}
use Rattle.event.specs.Span.{span}
use Rattle.slots.specs.Slots.{slot_of}
use Rattle.grammar.specs.Document.{Pool}
use Rattle.writer_spec.specs.Encode.{find}
use Rattle.writer_spec.specs.Faults.{string_fault}

-- ---- a note's words: the name's span, its index in the pool, and the number of the note before it in its slot

module _ (first second : List ℕ) where
  unfoldable pub note_name : List ℕ → ℕ → List ℕ
  note_name notes k = span first second (get_or notes (5 * k) 0) (get_or notes (5 * k + 1) 0) (get_or notes (5 * k + 2) 0)

  abbrev pub note_index : List ℕ → ℕ → ℕ
  note_index notes k = get_or notes (5 * k + 3) 0

  abbrev pub note_link : List ℕ → ℕ → ℕ
  note_link notes k = get_or notes (5 * k + 4) 0

  abbrev pub count : List ℕ → ℕ
  count notes = length notes / 5

  -- counted from 1, `next` is the last note below `top` that has the slot; 0 where there is none
  pub record Chain (slots : ℕ) (notes : List ℕ) (slot next top : ℕ) : Type 0 where
    pub below : next ≤ top
    pub its-slot : (k : ℕ) → next ≡ k + 1 → slot_of slots (note_name notes k) ≡ slot
    pub last : (j : ℕ) → next ≤ j → j < top → slot_of slots (note_name notes j) ≡ slot → ⊥

  pub record Linked (notes heads : List ℕ) : Type 0 where
    pub whole : length notes % 5 ≡ 0
    pub by_heads : (slot : ℕ) → slot < length heads → Chain (length heads) notes slot (get_or heads slot 0) (count notes)
    pub by-links : (k : ℕ) → k < count notes → Chain (length heads) notes (slot_of (length heads) (note_name notes k)) (note_link notes k) k

  -- no note is of this name
  abbrev pub Unnoted : List ℕ → List ℕ → Type 0
  Unnoted notes n = (k : ℕ) → k < count notes → note_name notes k ≡ n → ⊥

  abbrev pub LookSays : List ℕ → List ℕ → Code.Option ℕ → Type 0
  LookSays notes n (Some i) = (k : ℕ) × (k < count notes) × (note_name notes k ≡ n) × (note_index notes k ≡ i)
  LookSays notes n None = Unnoted notes n

  -- What the notes say of the pool now, where it was `pool₀` when the call began: a note's name has no fault, its search
  -- meets no bad pair, and it stands in the pool first at the note's index. A name with no note is where it was.
  pub record Noted (bad : List ℕ → Bool) (pool₀ pool : Pool) (notes heads : List ℕ) : Type 0 where
    pub linked : Linked notes heads
    pub places : (k : ℕ) → k < count notes → find pool (note_name notes k) ≡ some (note_index notes k)
    pub faultless : (k : ℕ) → k < count notes → string_fault (note_name notes k) ≡ none
    pub searchable : (k : ℕ) → k < count notes → bad (note_name notes k) ≡ false
    pub distinct : (j k : ℕ) → j < count notes → k < count notes → note_name notes j ≡ note_name notes k → j ≡ k
    pub complete : (n : List ℕ) → Unnoted notes n → find pool n ≡ find pool₀ n

-- a note of the very span that a row's name has, and the index that it gives
abbrev pub Recalled : List ℕ → List ℕ → Code.Option ℕ → Type 0
Recalled w notes (Some i) =
    (k : ℕ) × (k < length notes / 5) × (get_or notes (5 * k) 0 ≡ get_or w 1 0) × (get_or notes (5 * k + 1) 0 ≡ get_or w 2 0)
    × (get_or notes (5 * k + 2) 0 ≡ get_or w 3 0) × (get_or notes (5 * k + 3) 0 ≡ i)
Recalled w notes None = Unit {0}
