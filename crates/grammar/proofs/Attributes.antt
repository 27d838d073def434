-- A walk over an event's rows, for every pass: what is read at a place, and what is left to do then.
use Rattle.std.specs.Prelude.{Bool, true, false, List, [], ◌≡◌, refl, ℕ, ◌≤◌, ◌<◌, ltb, leb, eqb, length, get_or}
use Rattle.std.proofs.Common.{sym, ◌∙◌, arith}
use borrow.Author.Tests.{ltb-true, ltb-false, eqb-true, eqb-false, lt-ltb, le-ltb, eq-eqb, ne_eqb, le-leb, lt-leb}
use Rattle.wire.specs.Token as Token
use Rattle.wire.specs.Token.{command}
use Rattle.grammar.proofs.Choice.{by_test}
use Rattle.grammar.specs.Reader.{Read, got, short, refused}
use Rattle.grammar.specs.Grammar.{Item, Items, item, whole, lacks, stops, after, attribute, first, event}
use Rattle.grammar.specs.Scan.{complete, outcome}
use Rattle.grammar.specs.Fits.{ItemFits}
use Rattle.grammar.proofs.Laws.{good-first}
use Rattle.grammar.proofs.Binds.{Got}
use Rattle.grammar.specs.Turn.{rest}
use Rattle.grammar.proofs.Turn.{rest_end, rest-other, rest_more, rest-short, rest-stops, attribute-fits}
use Rattle.grammar.specs.Attributes.{is_attribute}
use Rattle.grammar.specs.Endings.{Ended}

pub stands : (s : List ℕ) (at : ℕ) → is_attribute s at ≡ true → (at < length s) × (command (get_or s at 0) ≡ Token.attribute)
unfolding is_attribute
stands s at b =
    by_test (ltb at (length s))
    (λ h. (ltb-true at (length s) h, eqb-true _ _ (rw h at b)))
    (λ h. let z = rw h at b in absurd (no z))
  where
    no : false ≡ true → ⊥
    no z = let y : ◌≡◌ {A = ℕ} 0 1 = cc z in omega arith

pub is-attribute : (s : List ℕ) (at : ℕ) → at < length s → (b : Bool) → b ≡ eqb (command (get_or s at 0)) Token.attribute → b ≡ is_attribute s at
unfolding is_attribute
is-attribute s at h b e = rw (lt-ltb at (length s) h) e

pub is-other : (s : List ℕ) (at : ℕ) → length s ≤ at → false ≡ is_attribute s at
unfolding is_attribute
is-other s at h = rw (le-ltb at (length s) h)

-- by the command of the byte there
module _ (s : List ℕ) (at kind : ℕ) (h : at < length s) (q : kind ≡ command (get_or s at 0)) where
  pub told-attribute : kind ≡ Token.attribute → is_attribute s at ≡ true
  unfolding is_attribute
  told-attribute k = rw (lt-ltb at (length s) h, eq-eqb _ _ (sym q ∙ k))

  pub told-other : (kind ≡ Token.attribute → ⊥) → is_attribute s at ≡ false
  unfolding is_attribute
  told-other k = rw (lt-ltb at (length s) h, ne_eqb _ _ (λ t. k (q ∙ t)))

module _ (S : ℕ → Bool) (s : List ℕ) (names at : ℕ) where
  none-stands : is_attribute s at ≡ false → rest S s names at ≡ whole at (leb (length s) at)
  unfolding is_attribute
  none-stands b =
      by_test (ltb at (length s))
      (λ h. let k = ltb-true at (length s) h in rw (lt-leb (length s) at k) (rest-other S s names at k (eqb-false _ _ (rw h at b))))
      (λ h. let k = ltb-false at (length s) h in rw (le-leb (length s) at k) (rest_end S s names at k))

-- ---- what is left

-- an attribute was read: it moves on and fits, and it and those after it are left
pub record Turn (Left : Items → Type 0) (S : ℕ → Bool) (s : List ℕ) (names at : ℕ) (i : Item) (n : ℕ) : Type 0 where
  pub moves : at < n
  pub within : n ≤ length s
  pub fits : ItemFits (length s) names i
  pub left : Left (item i (rest S s (after names i) n))

module _ (Left : Items → Type 0) (S : ℕ → Bool) (s : List ℕ) (names at : ℕ) (g : Left (rest S s names at)) where
  pub turn_end : is_attribute s at ≡ false → Left (whole at (leb (length s) at))
  turn_end b = rw (none-stands S s names at b) at g

  module _ (b : is_attribute s at ≡ true) where
    pub turn-row : (i : Item) (n : ℕ) → attribute S names s at ≡ got i n → Turn Left S s names at i n
    turn-row i n e =
        let h = stands s at b in
        let f = attribute-fits S s names at i n (omega (arith, h.0)) e in
        record { moves = f.0; within = f.1; fits = f.2; left = rw (rest_more S s names at h.0 h.1 i n e) at g }

    pub turn-short : (j : ℕ) → attribute S names s at ≡ short j → Left (lacks j)
    turn-short j e = let h = stands s at b in rw (rest-short S s names at h.0 h.1 j e) at g

    pub turn-stops : (n d : ℕ) → attribute S names s at ≡ refused n d → Left (stops n d)
    turn-stops n d e = let h = stands s at b in rw (rest-stops S s names at h.0 h.1 n d e) at g

-- the rest by so many names that are as many
pub left-names : (Left : Items → Type 0) (S : ℕ → Bool) (s : List ℕ) (n a b : ℕ) → b ≡ a → Left (rest S s a n) → Left (rest S s b n)
left-names Left S s n a b e g = rw e g

-- ---- the event's own row

-- it was read: it moves on and fits, and it and those after it are left
pub record Own (Left : Items → Type 0) (s : List ℕ) (names : ℕ) (i : Item) (n : ℕ) : Type 0 where
  pub moves : 0 < n
  pub within : n ≤ length s
  pub fits : ItemFits (length s) names i
  pub others : Items
  pub left : Left (item i others)

module _ (Left : Items → Type 0) (S : ℕ → Bool) (s : List ℕ) (names : ℕ) (g : Left (event S names s)) where
  pub own-short : (j : ℕ) → first S names s 0 ≡ short j → Left (lacks j)
  unfolding event
  own-short j e = rw e at g

  pub own-stops : (n d : ℕ) → first S names s 0 ≡ refused n d → Left (stops n d)
  unfolding event
  own-stops n d e = rw e at g

  module _ (i : Item) (n : ℕ) (e : first S names s 0 ≡ got i n) where
    pub own-tag : i.kind ≡ Token.start_tag → Left (item i (rest S s (after names i) n))
    unfolding event
    own-tag k = rw (e, eq-eqb _ _ k) at g

    pub own-single : (i.kind ≡ Token.start_tag → ⊥) → Left (item i (whole n false))
    unfolding event
    own-single k = rw (e, ne_eqb _ _ k) at g

    pub own_row : Own Left s names i n
    own_row =
        let w = rw e at ((good-first s [] S names).law 0 (omega arith)) in
        by_test (eqb i.kind Token.start_tag) (λ b. record { moves = omega (arith, w.0); within = w.1; fits = w.2; others = _; left = own-tag (eqb-true _ _ b) })
        (λ b. record { moves = omega (arith, w.0); within = w.1; fits = w.2; others = _; left = own-single (eqb-false _ _ b) })

-- ---- an event, or a part of it, that was read whole

pub complete-ended : (finished : Bool) (n : ℕ) (is : Items) → outcome finished is ≡ complete n → Ended is
unfolding outcome
complete-ended finished n (item i is) e = complete-ended finished n is e
complete-ended finished n (whole m d) e = tt
complete-ended true n (lacks k) e = let z : ◌≡◌ {A = ℕ} 0 1 = cc e in absurd (omega arith)
complete-ended false n (lacks k) e = let z : ◌≡◌ {A = ℕ} 0 1 = cc e in absurd (omega arith)
complete-ended finished n (stops m d) e = let z : ◌≡◌ {A = ℕ} 0 1 = cc e in absurd (omega arith)

-- its rows were read
module _ (S : ℕ → Bool) (s : List ℕ) (names : ℕ) where
  pub attribute-before : (at : ℕ) → Ended (rest S s names at) → is_attribute s at ≡ true → Got (attribute S names s at)
  attribute-before at w b = go (attribute S names s at) refl
    where
      go : (x : Read Item) → attribute S names s at ≡ x → Got (attribute S names s at)
      go (got i n) e = record { it = i; place = n; is = e }
      go (short j) e = absurd (turn-short Ended S s names at w b j e)
      go (refused j d) e = absurd (turn-stops Ended S s names at w b j d e)

  pub own-before : Ended (event S names s) → Got (first S names s 0)
  own-before w = go (first S names s 0) refl
    where
      go : (x : Read Item) → first S names s 0 ≡ x → Got (first S names s 0)
      go (got i n) e = record { it = i; place = n; is = e }
      go (short j) e = absurd (own-short Ended S s names w j e)
      go (refused j d) e = absurd (own-stops Ended S s names w j d e)
