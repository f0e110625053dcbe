-- A Take that finds an empty inbox.
use Rattle.std.proofs.Common.{◌≡◌, ℕ, Bool, true, false, cond, List, [], ◌∷◌, length, refl, arith}
use Rattle.std.proofs.lemmas.Bool.{false≢true, eqb-true}
use Rattle.std.specs.Prelude.{not, ◌==◌, ◌&&◌}
use Rattle.grs_base.specs.declared.resource.SysId.{SysId}
use Rattle.grs_wire.specs.Masks.{has}
use Rattle.grs_wire.specs.declared.medium.Mail.{Mail}
use Rattle.grs_wire.specs.declared.medium.Reply.{Reply}
use Rattle.grs_wire.specs.declared.medium.Reply.TheVariants.{Empty, Stale, Removed}
use Rattle.grs_medium.specs.Apply.{apply, row, take_row, take_from}
use Rattle.grs_medium.specs.Inboxes.{is_empty}
use Rattle.grs_medium.specs.Medium.{MediumState, inbox}
use Rattle.grs_medium.specs.TakeReplies.{TakeFindsNothing}

pub take_finds_nothing : TakeFindsNothing
unfolding apply row take_row
take_finds_nothing m c known h = go (has m.removed c.0) (known == m.removed) (inbox m c.0) h
  where
    go : (b d : Bool) (box : List Mail) → (not b && d && is_empty box) ≡ true
        → cond {A = Reply × MediumState} b (Removed, m) (cond d (take_from m c box) (Stale m.removed, m)) ≡ (Empty, m)
    go true d box k = absurd (false≢true k)
    go false false box k = absurd (false≢true k)
    go false true [] k = refl
    go false true (mail ∷ box) k =
        let none : length (mail ∷ box) ≡ 0 = eqb-true (length (mail ∷ box)) 0 k in absurd (omega arith)
