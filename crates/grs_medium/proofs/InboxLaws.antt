-- What a change of one box is to the list of all mail.
use Rattle.std.proofs.Common.{◌≡◌, ℕ, ◌<◌, List, [], length, map, set, get_or, ap, sym, ◌∙◌, subst, arith}
use Rattle.std.proofs.lemmas.List.{get_or-map, length-map, map-set, set-get_or}
use Rattle.std.specs.Prelude.{Option}
use Rattle.std.specs.declared.alloc.Global.{Global}
use Rattle.std.specs.declared.collections.VecDeque.{VecDeque}
use Rattle.grs_base.specs.declared.resource.SysId.{SysId}
use Rattle.grs_wire.specs.declared.gather.Moved.{Moved}
use Rattle.grs_wire.specs.declared.medium.Mail.{Mail}
use Rattle.grs_medium.specs.Inboxes.{InboxesValue, inbox_of}

abbrev pub Box : Type 0
Box = VecDeque Mail Global

-- the mail of all boxes
abbrev pub mail_in : List Box → List (List Mail)
mail_in boxes = map (λ (b : Box). b.items) boxes

-- one box becomes another, whose mail is made of its own
pub boxes-changed : (boxes : List Box) (i : ℕ) (g : List Mail → List Mail) {old : Box} (new : Box) → i < length boxes
    → old ≡ get_or boxes i old → new.items ≡ g old.items
    → mail_in (set boxes i new) ≡ set (mail_in boxes) i (g (inbox_of (mail_in boxes) i))
boxes-changed boxes i g {old} new inside read is =
    map-set (λ (b : Box). b.items) boxes i new
    ∙ ap (λ (mail : List Mail). set (mail_in boxes) i mail)
    (is ∙ ap g (ap (λ (b : Box). b.items) read ∙ sym (get_or-map (λ (b : Box). b.items) boxes i old [] inside)))

-- or one of the same mail
pub boxes-same : (boxes : List Box) (i : ℕ) {old : Box} (new : Box) → i < length boxes → old ≡ get_or boxes i old
    → new.items ≡ old.items → mail_in (set boxes i new) ≡ mail_in boxes
boxes-same boxes i {old} new inside read is =
    boxes-changed boxes i (λ (mail : List Mail). mail) new inside read is ∙ set-get_or (mail_in boxes) i []

-- one box of what is seen as these inboxes
module _ (boxes : List Box) {ready : Option SysId} {moved : List (List Moved)} {seen : InboxesValue}
    (view : record { mail = mail_in boxes; ready = ready; moved = moved } ≡ seen) {i : ℕ} where
  pub inside-boxes : i < length seen.mail → i < length boxes
  inside-boxes inside =
      let long : length (mail_in boxes) ≡ length seen.mail = ap (λ (v : InboxesValue). length v.mail) view in
      omega (arith, length-map boxes (λ (b : Box). b.items))

  -- as above
  pub mail-changed : (g : List Mail → List Mail) {old : Box} (new : Box) → i < length boxes → old ≡ get_or boxes i old
      → new.items ≡ g old.items → mail_in (set boxes i new) ≡ set seen.mail i (g (inbox_of seen.mail i))
  mail-changed g {old} new inside read is =
      subst
      (λ (v : InboxesValue). mail_in (set boxes i new) ≡ set v.mail i (g (inbox_of v.mail i)))
      view
      (boxes-changed boxes i g new inside read is)

  pub mail-same : {old : Box} (new : Box) → i < length seen.mail → old ≡ get_or boxes i old → new.items ≡ old.items
      → mail_in (set boxes i new) ≡ seen.mail
  mail-same new inside read is =
      mail-changed (λ (mail : List Mail). mail) new (inside-boxes inside) read is ∙ set-get_or seen.mail i []
