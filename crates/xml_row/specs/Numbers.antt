-- A signed number by its sign and its size.
use Rattle.std.specs.Prelude.{Bool, true, false, cond, List, ◌++◌, ◌≡◌, ℕ, ◌*◌, ◌-◌, ◌≤◌, ◌<◌}
use Rattle.std.proofs.Common.{lt-ltb, le-ltb}
use Rattle.text.specs.Ascii.{ascii}
use Rattle.text.specs.Numerals.{numeral}
use Rattle.xml_spec.specs.Xml.{signed}

unfoldable pub signed_by : ℕ → Bool → ℕ → List ℕ
signed_by base negative size = cond negative (ascii "-" ++ numeral base size) (numeral base size)

pub positive : (base half n : ℕ) → n < half → signed_by base false n ≡ signed base half n
unfolding signed_by signed
positive base half n h = rw (lt-ltb n half h)

pub negative : (base half n size : ℕ) → half ≤ n → size ≡ 2 * half - n → signed_by base true size ≡ signed base half n
unfolding signed_by signed
negative base half n size h e = rw (le-ltb n half h, e)
