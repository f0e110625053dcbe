-- The part of the lists on resources of the whole complex is what the items that went with the message lead to.
use Rattle.std.proofs.Common.{◌≡◌, ℕ, Bool, true, false, cond, List, [], ◌∷◌, refl, ap, sym, ◌∙◌, arith}
use Rattle.grs_base.specs.State.{State, list_of, is_systems, remove_state}
use Rattle.grs_base.specs.declared.resource.Res.{Res}
use Rattle.grs_base.specs.declared.resource.TaskId.{TaskId}
use Rattle.grs_wire.specs.History.{after_fixed}
use Rattle.grs_wire.specs.Wants.{after_want}
use Rattle.grs_wire.specs.declared.request.Fixed.{Fixed}
use Rattle.grs_wire.specs.declared.request.Fixed.TheVariants.{Asked, LocalLook, Purged}
use Rattle.grs_wire.specs.declared.request.Want.{Want}
use Rattle.grs_wire.specs.declared.request.Want.TheVariants as wants
use Rattle.grs_known.specs.Items.{RunItem, wants_round, goes_round, rounds, lists_from, lists}
use Rattle.grs_known.specs.Parts.{systems_part, TableIsPart}
use Rattle.grs_known.proofs.lists.Parts.{list_of-part, after_want-part, part-want_other}
use Rattle.grs_known.proofs.known.ItemLaws.{lists_from-append}

pub list_of-systems : (s : State) (r : Res) → is_systems r ≡ true → list_of (systems_part s) r ≡ list_of s r
list_of-systems s r h = list_of-part is_systems s r h

-- ---- what goes with the message is done to the part
pub part-want : (s : State) (t : TaskId) (w : Want) → wants_round w ≡ true
    → systems_part (after_want s t w) ≡ after_want (systems_part s) t w
part-want s t (wants.Enq r c ret full) wide = sym (after_want-part is_systems s t (wants.Enq r c ret full) r refl wide)
part-want s t (wants.Deq r have) wide = sym (after_want-part is_systems s t (wants.Deq r have) r refl wide)
part-want s t (wants.Release r) wide = sym (after_want-part is_systems s t (wants.Release r) r refl wide)
part-want s t (wants.Look first count f) wide = refl

pub part-remove : (s : State) (n : ℕ) → systems_part (remove_state s n) ≡ remove_state (systems_part s) n
part-remove [] n = refl
part-remove (x ∷ s) n = grind (arith, part-remove s n)

part-fixed : (s : State) (f : Fixed) → goes_round f ≡ true
    → systems_part (after_fixed s f) ≡ after_fixed (systems_part s) f
part-fixed s (Asked q) e = part-want s q.task q.want e
part-fixed s (LocalLook t f) e = refl
part-fixed s (Purged target) e = part-remove s target.0

-- ---- and nothing else is
part-narrow : (s : State) (t : TaskId) (w : Want) → wants_round w ≡ false
    → systems_part (after_want s t w) ≡ systems_part s
part-narrow s t (wants.Enq r c ret full) narrow = part-want_other is_systems s t (wants.Enq r c ret full) r refl narrow
part-narrow s t (wants.Deq r have) narrow = part-want_other is_systems s t (wants.Deq r have) r refl narrow
part-narrow s t (wants.Release r) narrow = part-want_other is_systems s t (wants.Release r) r refl narrow
part-narrow s t (wants.Look first count f) narrow = cc

part-fixed_other : (s : State) (f : Fixed) → goes_round f ≡ false → systems_part (after_fixed s f) ≡ systems_part s
part-fixed_other s (Asked q) e = part-narrow s q.task q.want e
part-fixed_other s (LocalLook t f) e = refl
part-fixed_other s (Purged target) e = cc

-- ---- items
pub part-items : (s : State) (xs : List RunItem)
    → lists_from (systems_part s) (rounds xs) ≡ systems_part (lists_from s xs)
part-items s [] = refl
part-items s (x ∷ xs) = go (goes_round x.fixed) refl ∙ part-items (after_fixed s x.fixed) xs
  where
    go : (b : Bool) → goes_round x.fixed ≡ b
        → lists_from (systems_part s) (cond b (x ∷ rounds xs) (rounds xs))
        ≡ lists_from (systems_part (after_fixed s x.fixed)) (rounds xs)
    go true e = ap (λ z. lists_from z (rounds xs)) (sym (part-fixed s x.fixed e))
    go false e = ap (λ z. lists_from z (rounds xs)) (sym (part-fixed_other s x.fixed e))

pub table_is_part : TableIsPart
table_is_part front rest =
    ap (λ z. lists_from z (rounds rest)) (part-items [] front)
    ∙ part-items (lists front) rest
    ∙ ap systems_part (sym (lists_from-append [] front rest))
