-- Row by row and event by event are the same, where attributes stand only after a start tag or another attribute.
use Rattle.std.specs.Prelude.{Bool, true, false, ◌&&◌, ◌||◌, not, cond, List, [], ◌∷◌, ◌++◌, ◌≡◌, refl, ℕ, ◌+◌, length, eqb, ltb}
use Rattle.std.proofs.Math.Bool.{and-eq-true_iff, and_assoc, and-true}
use Rattle.std.proofs.Math.Option.{none}
use Rattle.std.proofs.Common.{append_assoc, append-nil, sym, ap, ◌∙◌, add_assoc, eqb-true, length-append}
use Rattle.wire.specs.Refusal.{invalid_utf8, output_full, illegal_char}
use Rattle.wire.specs.Token as Token
use Rattle.utf8.specs.Utf8.{well_formed}
use Rattle.event.specs.Row.{Row, Event}
use Rattle.event.specs.Words.{opens}
use Rattle.event.specs.Attributes.{placed}
use Rattle.grammar.proofs.Choice.{by_test}
use Rattle.writer_spec.specs.Faults.{glue, group}
use Rattle.writer_spec.proofs.Events.{glue-first}
use Rattle.writer_spec.specs.Writer.{Refusal, ◌before◌, refuse_if, ends}
use Rattle.text.specs.Ascii.{ascii}
use Rattle.xml_spec.specs.Chars.{legal}
use Rattle.xml_spec.specs.Xml.{attribute_xml, attributes_xml, event_xml, xml}
use Rattle.xml_spec.specs.ToXml.{of_row, of_event, events_refusal}
use Rattle.xml_spec.specs.Rows.{row_xml, rows_xml, end_refusal, rows_refusal}

-- ---- text

-- a part of an event: from an attribute on, or the whole of it
unfoldable pub part_xml : Event → List ℕ
part_xml [] = []
part_xml (r ∷ rs) = cond (eqb r.kind Token.attribute) (attributes_xml (r ∷ rs) ++ ascii ">") (event_xml (r ∷ rs))

unfoldable pub parts_xml : List Event → List ℕ
parts_xml [] = []
parts_xml (e ∷ es) = part_xml e ++ xml es

-- the tests of a kind that is known
abbrev Tests : Bool → Bool → Bool → Bool → ℕ → Type 0
Tests below start end attribute k =
    (ltb k Token.start_tag ≡ below) × (eqb k Token.start_tag ≡ start) × (eqb k Token.end_tag ≡ end) × (eqb k Token.attribute ≡ attribute)

start-tests : (k : ℕ) → eqb k Token.start_tag ≡ true → Tests false true false false k
start-tests k s = rw (eqb-true k 2 s) (refl, refl, refl, refl)

attribute-tests : (k : ℕ) → eqb k Token.attribute ≡ true → Tests false false false true k
attribute-tests k s = rw (eqb-true k 15 s) (refl, refl, refl, refl)

-- an event that begins with no attribute is whole
whole_part : (r : Row) (rs : List Row) → eqb r.kind Token.attribute ≡ false → part_xml (r ∷ rs) ≡ event_xml (r ∷ rs)
unfolding part_xml
whole_part r rs a = rw a

-- a row before an attribute is a start tag or an attribute
pub row-then : (r q : Row) (qs : List Row) → opens r.kind ≡ true → eqb q.kind Token.attribute ≡ true
    → row_xml false r ++ part_xml (q ∷ qs) ≡ part_xml (r ∷ q ∷ qs)
unfolding row_xml part_xml event_xml attributes_xml opens
row-then r q qs o a =
    by_test (eqb r.kind Token.start_tag)
    (λ s. let t = start-tests r.kind s in rw (a, t.0, t.1, t.3, append-nil r.name, append_assoc r.name))
    (λ s. let t = attribute-tests r.kind (sym (rw s) ∙ o) in rw (a, t.0, t.1, t.2, t.3, append-nil (attribute_xml r), append_assoc (attribute_xml r)))

-- the last row of its event
pub row_last : (r : Row) → row_xml true r ≡ part_xml (r ∷ [])
unfolding row_xml part_xml event_xml attributes_xml
row_last r =
    by_test (eqb r.kind Token.attribute)
    (λ a. let t = attribute-tests r.kind a in rw (t.0, t.1, t.2, t.3, append-nil (attribute_xml r)))
    (λ a. rw (a, append-nil r.name))

-- a row before the events that begin with row q
text-step : (r q : Row) (qs : List Row) (es : List Event) → (not (eqb q.kind Token.attribute) || opens r.kind) ≡ true
    → row_xml (not (eqb q.kind Token.attribute)) r ++ parts_xml ((q ∷ qs) ∷ es) ≡ parts_xml (glue r ((q ∷ qs) ∷ es))
unfolding parts_xml glue xml
text-step r q qs es p =
    by_test (eqb q.kind Token.attribute)
    (λ a.
    let o : opens r.kind ≡ true = sym (rw a) ∙ p in
    rw a (sym (append_assoc (row_xml false r) (part_xml (q ∷ qs)) (xml es)) ∙ ap (λ (t : List ℕ). t ++ xml es) (row-then r q qs o a)))
    (λ a. rw (a, whole_part q qs a) (ap (λ (t : List ℕ). t ++ (event_xml (q ∷ qs) ++ xml es)) (row_last r)))

text-two : (r q : Row) (rs : List Row) → (not (eqb q.kind Token.attribute) || opens r.kind) ≡ true
    → rows_xml (q ∷ rs) ≡ parts_xml (group (q ∷ rs)) → rows_xml (r ∷ q ∷ rs) ≡ parts_xml (group (r ∷ q ∷ rs))
unfolding rows_xml ends group
text-two r q rs p same = let front = glue-first q (group rs) in rw (same, front.2) (text-step r q front.0 front.1 p)

pub parts-joined : (inside : Bool) (rs : List Row) → placed inside rs ≡ true → rows_xml rs ≡ parts_xml (group rs)
unfolding placed rows_xml parts_xml group glue xml ends
parts-joined inside [] p = refl
parts-joined inside (r ∷ []) p = rw (append-nil (row_xml true r), append-nil (part_xml (r ∷ []))) (row_last r)
parts-joined inside (r ∷ q ∷ rs) p =
    let both = (and-eq-true_iff (not (eqb r.kind Token.attribute) || inside) _).0 p in
    let more = (and-eq-true_iff (not (eqb q.kind Token.attribute) || opens r.kind) _).0 both.1 in
    text-two r q rs more.0 (parts-joined (opens r.kind) (q ∷ rs) both.1)

-- ---- refusals

-- of a list whose first event may be a part of one; `all_legal` says that no string before it in its event is illegal
unfoldable pub parts_refusal : ℕ → ℕ → Bool → List Event → Refusal
parts_refusal room at all_legal [] = none
parts_refusal room at all_legal (e ∷ es) =
    let after : ℕ = at + length (part_xml e) in
    refuse_if (not (of_event well_formed e)) invalid_utf8
    before refuse_if (not (all_legal && of_event legal e)) illegal_char
    before refuse_if (ltb room after) output_full
    before events_refusal room after es

both-refuse : (a b : Bool) (n : ℕ) (f : Refusal) → (refuse_if (not a) n before refuse_if (not b) n before f) ≡ (refuse_if (not (a && b)) n before f)
both-refuse true b n f = refl
both-refuse false b n f = refl

end_before : (room at : ℕ) (ok : Bool) (f : Refusal)
    → (end_refusal room at ok before f) ≡ (refuse_if (not ok) illegal_char before refuse_if (ltb room at) output_full before f)
unfolding end_refusal
end_before room at true f = refl
end_before room at false f = refl

refusal-step : (room at : ℕ) (ok : Bool) (r q : Row) (qs : List Row) (es : List Event) → (not (eqb q.kind Token.attribute) || opens r.kind) ≡ true
    → (let last : Bool = not (eqb q.kind Token.attribute) in
    let after : ℕ = at + length (row_xml last r) in
    let still : Bool = ok && of_row legal r in
    refuse_if (not (of_row well_formed r)) invalid_utf8
    before cond last (end_refusal room after still before parts_refusal room after true ((q ∷ qs) ∷ es)) (parts_refusal room after still ((q ∷ qs) ∷ es)))
    ≡ parts_refusal room at ok (glue r ((q ∷ qs) ∷ es))
unfolding parts_refusal glue of_event events_refusal
refusal-step room at ok r q qs es p =
    by_test (eqb q.kind Token.attribute)
    (λ a.
    let o : opens r.kind ≡ true = sym (rw a) ∙ p in
    rw (a, ← row-then r q qs o a, length-append (row_xml false r) (part_xml (q ∷ qs)), ← add_assoc at (length (row_xml false r)), and_assoc ok (of_row legal r))
    (both-refuse (of_row well_formed r) (of_row well_formed q && of_event well_formed qs) invalid_utf8 _))
    (λ a. rw (a, whole_part q qs a, ← row_last r, and-true (of_row well_formed r), and-true (of_row legal r)) (ap (λ (f : Refusal). refuse_if (not (of_row well_formed r)) invalid_utf8 before f) (end_before room _ _ _)))

refusal-two : (room at : ℕ) (ok : Bool) (r q : Row) (rs : List Row) → (not (eqb q.kind Token.attribute) || opens r.kind) ≡ true
    → ((at : ℕ) (ok : Bool) → rows_refusal room at ok (q ∷ rs) ≡ parts_refusal room at ok (group (q ∷ rs)))
    → rows_refusal room at ok (r ∷ q ∷ rs) ≡ parts_refusal room at ok (group (r ∷ q ∷ rs))
unfolding rows_refusal ends group
refusal-two room at ok r q rs p same =
    let front = glue-first q (group rs) in
    rw (same (at + length (row_xml (not (eqb q.kind Token.attribute)) r)) true, same (at + length (row_xml (not (eqb q.kind Token.attribute)) r)) (ok && of_row legal r), front.2)
    (refusal-step room at ok r q front.0 front.1 p)

pub parts-refused : (room at : ℕ) (ok inside : Bool) (rs : List Row) → placed inside rs ≡ true → rows_refusal room at ok rs ≡ parts_refusal room at ok (group rs)
unfolding placed rows_refusal parts_refusal group glue of_event events_refusal ends
parts-refused room at ok inside [] p = refl
parts-refused room at ok inside (r ∷ []) p =
    rw (← row_last r, and-true (of_row well_formed r), and-true (of_row legal r)) (ap (λ (f : Refusal). refuse_if (not (of_row well_formed r)) invalid_utf8 before f) (end_before room _ _ none))
parts-refused room at ok inside (r ∷ q ∷ rs) p =
    let both = (and-eq-true_iff (not (eqb r.kind Token.attribute) || inside) _).0 p in
    let more = (and-eq-true_iff (not (eqb q.kind Token.attribute) || opens r.kind) _).0 both.1 in
    refusal-two room at ok r q rs more.0 (λ at' ok'. parts-refused room at' ok' (opens r.kind) (q ∷ rs) both.1)

-- ---- a list that forms begins with no attribute: its first event is whole

no-attribute : (a : Bool) → (not a || false) ≡ true → a ≡ false
no-attribute true h = sym h
no-attribute false h = refl

-- so where the first event is whole, nothing is left of parts
first-whole : (rs : List Row) → placed false rs ≡ true → parts_xml (group rs) ≡ xml (group rs)
unfolding placed parts_xml group xml
first-whole [] p = refl
first-whole (r ∷ rs) p =
    let front = glue-first r (group rs) in
    let whole = whole_part r front.0 (no-attribute (eqb r.kind Token.attribute) ((and-eq-true_iff _ _).0 p).0) in
    rw front.2 (ap (λ (t : List ℕ). t ++ xml front.1) whole)

first-refused : (room at : ℕ) (rs : List Row) → placed false rs ≡ true → parts_refusal room at true (group rs) ≡ events_refusal room at (group rs)
unfolding placed parts_refusal group events_refusal
first-refused room at [] p = refl
first-refused room at (r ∷ rs) p =
    let front = glue-first r (group rs) in
    let whole = whole_part r front.0 (no-attribute (eqb r.kind Token.attribute) ((and-eq-true_iff _ _).0 p).0) in
    rw (front.2, whole)

-- an event's text is that of its rows joined, and so is a list's
pub rows-joined : (rs : List Row) → placed false rs ≡ true → rows_xml rs ≡ xml (group rs)
rows-joined rs p = parts-joined false rs p ∙ first-whole rs p

pub rows-refused : (room at : ℕ) (rs : List Row) → placed false rs ≡ true → rows_refusal room at true rs ≡ events_refusal room at (group rs)
rows-refused room at rs p = parts-refused room at true false rs p ∙ first-refused room at rs p
