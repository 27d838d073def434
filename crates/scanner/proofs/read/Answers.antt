use Rattle.std.proofs.Common.{◌≡◌, Some, None, Ok, Err, true≢false, sym, ap, ◌∙◌, arith, rules}
use Rattle.extent.specs.Answers.{outcome_of}
use Rattle.scanner.proofs.Stepping.{a-row, rows_short, pairs-short, bytes-short, can-fill, filled_is, incomplete-is, bad-is}
use Rattle.scanner.proofs.read.Goals as goal
use Rattle.scanner.proofs.read.Goals.{else-home-via-then-home+else-store-kept, else-home-via-else-home}

pub returns-in_err-len : goal.returns-in_err-len
returns-in_err-len c =
    let e : c.from_residual.result ≡ Err c.in_err-len.field-0.0 = search rules in
    rw e (bad-is _ _ _ _ _ _ _ _ _ _ c.requires _ c.measure-m.ensures _ _ (ap outcome_of c.in_err-len.was))

pub returns-in_default : goal.returns-in_default
returns-in_default c =
    let e : c.measure-m.result.outcome ≡ Ok None = cc in
    incomplete-is _ _ _ _ _ _ _ _ _ _ c.requires _ c.measure-m.ensures (ap outcome_of e)

pub returns-then-rows-m : goal.returns-then-rows-m
returns-then-rows-m c =
    let e : c.measure-m.result.outcome ≡ Ok (Some c.in-Some.len) = cc in
    rows_short _ _ _ _ _ _ _ _ _ _ c.requires _ c.measure-m.ensures _ (ap outcome_of e) c.if-rows-m.true

pub returns-then-table-kept : goal.returns-then-table-kept
returns-then-table-kept c =
    let e : c.measure-m.result.outcome ≡ Ok (Some c.in-Some.len) = cc in
    pairs-short _ _ _ _ _ _ _ _ _ _ c.requires _ c.measure-m.ensures _ (ap outcome_of e) c.if-rows-m.false c.if-table-kept.true

pub returns-then-store-kept : goal.returns-then-store-kept
returns-then-store-kept c =
    let e : c.measure-m.result.outcome ≡ Ok (Some c.in-Some.len) = cc in
    bytes-short _ _ _ _ _ _ _ _ _ _ c.requires _ c.measure-m.ensures _ (ap outcome_of e) c.if-rows-m.false c.if-table-kept.false c.if-home.true c.if-store-kept.true

pub fill-requires : goal.fill-requires
fill-requires c =
    let e : c.measure-m.result.outcome ≡ Ok (Some c.in-Some.len) = cc in
    record {
      from_in_bounds = (omega arith, a-row _ _ _ _ _ _ _ _ _ _ c.requires _ c.measure-m.ensures _ (ap outcome_of e) c.if-rows-m.false);
      ready = can-fill _ _ _ _ _ _ _ _ _ _ c.requires _ c.measure-m.ensures _ (ap outcome_of e) c.if-rows-m.false c.if-table-kept.false
          (λ t. elim c.else-home.branch [ else-home-via-then-home+else-store-kept w ↦ w.if-store-kept.false | else-home-via-else-home w ↦ absurd (true≢false (sym t ∙ w.if-home.false)) ]);
    }

pub returns : goal.returns
returns c =
    let e : c.measure-m.result.outcome ≡ Ok (Some c.in-Some.len) = cc in
    filled_is _ _ _ _ _ _ _ _ _ _ c.requires _ c.measure-m.ensures _ (ap outcome_of e) c.if-rows-m.false c.if-table-kept.false
    (λ t. elim c.else-home.branch [ else-home-via-then-home+else-store-kept w ↦ w.if-store-kept.false | else-home-via-else-home w ↦ absurd (true≢false (sym t ∙ w.if-home.false)) ])
    _ _ _ _ _ c.fill.ensures
