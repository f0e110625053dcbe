use Rattle.std.proofs.Common.{inl, inr, refl}
use Rattle.grs_top.proofs.command.write_due.Goals as goal

pub returns-in-Ok : goal.returns-in-Ok
returns-in-Ok g c =
    let whole = rw c.as_slice.ensures at c.in-Ok.ensures.whole in
    inl (whole, c.in-Ok.ensures.kept, refl)

pub returns-in-Err : goal.returns-in-Err
returns-in-Err g c =
    let part = rw c.as_slice.ensures at c.in-Err.ensures.part in
    inr (part, c.in-Err.ensures.failed, refl)
