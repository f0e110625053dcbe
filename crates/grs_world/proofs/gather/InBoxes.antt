-- What the notices in one inbox name, by the lock words and by who is removed (`InBox`): what leaves it so.
use Rattle.grs_world.proofs.Common.{[], ◌&&◌, ◌++◌, ◌<◌, ◌==◌, ◌||◌, ◌∙◌, ◌∷◌, ◌≡◌, ◌≢◌, All, and-false, and-true, ap}
use Rattle.grs_world.proofs.Common.{append-nil, Bool, cond, eqb-true, false, filter, has, has-with_other, has-with_same}
use Rattle.grs_world.proofs.Common.{interest, is_interested, is_manager, IsManaged, leave_reply, left_words, length}
use Rattle.grs_world.proofs.Common.{List, list_any, list_any-append, Mail, manager, manager_at, Moved, ne_eqb, no_truth}
use Rattle.grs_world.proofs.Common.{None, not, noticed, Option, or-false, or_left, or_parts, or_right, refl, Some}
use Rattle.grs_world.proofs.Common.{subst, sym, SysId, true, with_also, word_at, ℕ, ℕ_discrete}
use Rattle.grs_medium.specs.Inboxes.{notices_to}
use Rattle.std.proofs.lemmas.List.{get_or-map}
use Rattle.grs_wire.specs.Notices.{names}
use Rattle.grs_medium.proofs.Removals.{told-where}
use Rattle.lock_structure.proofs.LawProofs.{leave_manages, leave_parts, manager_is_kept}
use Rattle.lock_structure.proofs.Purges.{moved_for_interested, purge_keeps_others, purge_takes_target}
use Rattle.lock_structure.specs.Purge.{made_known, moved_at, moved_for, purged_word, purged_words}
use Rattle.grs_world.proofs.star.Members.{has_manager, managed-is, manager-here}
use Rattle.grs_world.specs.Noticed.{AllName, InBox, NamesOne, items_in}
use Rattle.grs_wire.specs.declared.medium.Mail.TheVariants as mails
use Rattle.grs_wire.specs.declared.medium.Reply.TheVariants as replies

-- ---- notices in an inbox
none-filtered : (p : Moved → Bool) (xs : List Moved) → list_any p xs ≡ false → filter p xs ≡ []
none-filtered p [] h = refl
none-filtered p (x ∷ xs) h =
    let both = or_parts (p x) (list_any p xs) h in
    ap (λ b. cond b (x ∷ filter p xs) (filter p xs)) both.0 ∙ none-filtered p xs both.1

pub none-named : (e : ℕ) (y : Mail) → names e y ≡ false → items_in e y ≡ []
none-named e (mails.Notice target moved) h = none-filtered (λ m. m.entry == e) moved h
none-named e (mails.Request x from q) h = refl
none-named e (mails.Answered t answer rank) h = refl
none-named e (mails.Granted t r) h = refl
none-named e (mails.Part x from records) h = refl

all-none : (words : List ℕ) (removed e s : ℕ) (later : Bool) (y : Mail) → names e y ≡ false
    → AllName words removed e s later (items_in e y)
all-none words removed e s later y away = subst (AllName words removed e s later) (sym (none-named e y away)) tt

-- where no notice names it there is nothing to say
pub unnoticed : (words : List ℕ) (removed e s : ℕ) (ms : List Mail) → noticed e ms ≡ false → InBox words removed e s ms
unnoticed words removed e s [] h = tt
unnoticed words removed e s (y ∷ ms) h =
    let both = or_parts (names e y) (noticed e ms) h in
    (all-none words removed e s (noticed e ms) y both.0, unnoticed words removed e s ms both.1)

-- a mail comes that is no notice of it
pub noticed-more : (e : ℕ) (ms : List Mail) (y : Mail) → names e y ≡ false → noticed e (ms ++ y ∷ []) ≡ noticed e ms
noticed-more e ms y away =
    list_any-append (names e) ms (y ∷ [])
    ∙ (ap (λ b. noticed e ms || (b || false)) away ∙ or-false (noticed e ms))

pub box-more : (words : List ℕ) (removed e s : ℕ) (ms : List Mail) (y : Mail) → names e y ≡ false
    → InBox words removed e s ms → InBox words removed e s (ms ++ y ∷ [])
box-more words removed e s [] y away h = (all-none words removed e s false y away, tt)
box-more words removed e s (z ∷ ms) y away h = (
  subst (λ b. AllName words removed e s b (items_in e z)) (sym (noticed-more e ms y away)) h.0,
  box-more words removed e s ms y away h.1,
)

-- ---- the words change, and more systems are removed
module _ (words words' : List ℕ) (removed removed' e s : ℕ)
    (closer : is_interested words e s ≡ true → is_interested words' e s ≡ true)
    (gone : (u : ℕ) → has removed u ≡ true → has removed' u ≡ true) where
  module _
      (named : (m : SysId) → is_interested words e s ≡ true → manager_at words e ≡ Some m
      → manager_at words' e ≡ Some m) where
    one-keeps : (x : Moved) (later : Bool) → is_interested words e s ≡ true → NamesOne words removed e x later
        → NamesOne words' removed' e x later
    one-keeps x false near h = named x.manager near h
    one-keeps x true near h = gone x.manager.0 h

    all-keep : (later : Bool) (xs : List Moved) → AllName words removed e s later xs
        → AllName words' removed' e s later xs
    all-keep later [] h = tt
    all-keep later (x ∷ xs) h = (closer h.0, one-keeps x later h.0 h.1, all-keep later xs h.2)

    pub box-keeps : (ms : List Mail) → InBox words removed e s ms → InBox words' removed' e s ms
    box-keeps [] h = tt
    box-keeps (y ∷ ms) h = (all-keep (noticed e ms) (items_in e y) h.0, box-keeps ms h.1)

  -- the manager was removed, and a notice says who is the next one
  module _ (was : (x : Moved) → manager_at words e ≡ Some x.manager → has removed' x.manager.0 ≡ true) where
    one-gone : (x : Moved) (later : Bool) → NamesOne words removed e x later → NamesOne words' removed' e x true
    one-gone x false h = was x h
    one-gone x true h = gone x.manager.0 h

    all-gone : (later : Bool) (xs : List Moved) → AllName words removed e s later xs
        → AllName words' removed' e s true xs
    all-gone later [] h = tt
    all-gone later (x ∷ xs) h = (closer h.0, one-gone x later h.1, all-gone later xs h.2)

    noticed-behind : (ms : List Mail) (y : Mail) → names e y ≡ true → noticed e (ms ++ y ∷ []) ≡ true
    noticed-behind ms y here =
        list_any-append (names e) ms (y ∷ [])
        ∙ or_right (noticed e ms) (names e y || false) (or_left (names e y) false here)

    box-moved : (ms : List Mail) (y : Mail) → names e y ≡ true → AllName words' removed' e s false (items_in e y)
        → InBox words removed e s ms → InBox words' removed' e s (ms ++ y ∷ [])
    box-moved [] y here new h = (new, tt)
    box-moved (z ∷ ms) y here new h = (
      subst (λ b. AllName words' removed' e s b (items_in e z)) (sym (noticed-behind ms y here))
          (all-gone (noticed e ms) (items_in e z) h.0),
      box-moved ms y here new h.1,
    )

-- by more managers each that was named is
pub named-from : (words words' : List ℕ) (e : ℕ)
    → ((m : ℕ) → has_manager words e m ≡ true → has_manager words' e m ≡ true) → (m : SysId)
    → manager_at words e ≡ Some m → manager_at words' e ≡ Some m
named-from words words' e more m at =
    managed-is words' e m.0 (manager_at words' e) refl (more m.0 (manager-here words e m at))

-- ---- a system leaves an entry
module _ (words : List ℕ) (x : ℕ) (c : SysId) (there : x < length words) (managed : All IsManaged words)
    (is : leave_reply (word_at words x) c ≡ replies.Left) where
  -- of another entry, and of another system, the interest stays
  pub other-entry : (e s : ℕ) → (e == x) ≡ false → is_interested (left_words words x c) e s ≡ is_interested words e s
  other-entry e s apart =
      leave_parts words x c there is e s
      ∙ (ap (λ b. is_interested words e s && not (b && (s == c.0))) apart ∙ and-true (is_interested words e s))

  pub other-system : (e s : ℕ) → (s == c.0) ≡ false → is_interested (left_words words x c) e s ≡ is_interested words e s
  other-system e s apart =
      leave_parts words x c there is e s
      ∙ (ap (λ b. is_interested words e s && not ((e == x) && b)) apart
      ∙ (ap (λ b. is_interested words e s && not b) (and-false (e == x)) ∙ and-true (is_interested words e s)))

  -- so does the manager, where another one has interest
  manager-left : (e : ℕ)
      → manager_at (left_words words x c) e
      ≡ cond ((e == x) && is_manager (manager_at words e) c) None (manager_at words e)
  manager-left = leave_manages words x c there managed is

  pub other-manager : (e : ℕ) → (e == x) ≡ false → manager_at (left_words words x c) e ≡ manager_at words e
  other-manager e apart =
      manager-left e
      ∙ ap (λ b. cond (b && is_manager (manager_at words e) c) None (manager_at words e)) apart

  pub stays-with : (e s : ℕ) → s ≢ c.0 → is_interested words e s ≡ true
      → manager_at (left_words words x c) e ≡ manager_at words e
  stays-with e s ne near = go (e == x) refl
    where
      kept : e ≡ x → is_manager (manager_at words e) c ≡ true
          → manager_at (left_words words x c) e ≡ manager_at words e
      kept same mine =
          let named : manager_at words x ≡ Some c =
          managed-is words x c.0 (manager_at words x) refl
          (ap (λ i. has_manager words i c.0) (sym same) ∙ mine) in
          let kept_all = manager_is_kept (word_at words x) c s (managed x 0 there) named ne
          (ap (λ i. is_interested words i s) (sym same) ∙ near) in
          absurd (let wrong = sym is ∙ kept_all in cc)

      by_manager : (b : Bool) → e ≡ x → is_manager (manager_at words e) c ≡ b
          → manager_at (left_words words x c) e ≡ manager_at words e
      by_manager true same mine = kept same mine
      by_manager false same other =
          manager-left e
          ∙ (ap (λ b. cond ((e == x) && b) None (manager_at words e)) other
          ∙ ap (λ b. cond b None (manager_at words e)) (and-false (e == x)))

      go : (b : Bool) → (e == x) ≡ b → manager_at (left_words words x c) e ≡ manager_at words e
      go true f = by_manager (is_manager (manager_at words e) c) (eqb-true e x f) refl
      go false f = other-manager e f

-- ---- a system is removed
pub also-more : (set t u : ℕ) → has set u ≡ true → has (with_also set t) u ≡ true
also-more set t u h = go (ℕ_discrete u t)
  where
    go : Dec (u ≡ t) → has (with_also set t) u ≡ true
    go (yes same) = ap (has (with_also set t)) same ∙ has-with_same set t
    go (no other) = has-with_other set t u other ∙ h

module _ (words : List ℕ) (t : SysId) (e : ℕ) (there : e < length words) where
  abbrev w : ℕ
  w = word_at words e

  pub now : word_at (purged_words words t) e ≡ purged_word w t
  now = get_or-map (λ (x : ℕ). purged_word x t) words e 0 0 there

  pub near-others : (s : ℕ) → s ≢ t.0 → is_interested (purged_words words t) e s ≡ is_interested words e s
  near-others s ne =
      ap (λ (x : ℕ). has (interest x) s) now
      ∙ (purge_takes_target w t s
      ∙ (ap (λ b. is_interested words e s && not b) (ne_eqb s t.0 ne) ∙ and-true (is_interested words e s)))

  pub manager-others : is_manager (manager_at words e) t ≡ false
      → manager_at (purged_words words t) e ≡ manager_at words e
  manager-others other = ap manager now ∙ (purge_keeps_others w t other).0

  -- the items by which another one gets to know of it
  items-are : (s : SysId)
      → filter (λ m. m.entry == e) (moved_for words t s)
      ≡ cond (is_interested (purged_words words t) e s.0) (moved_at e w t) []
  items-are s = moved_for_interested words t s e there

  new-names : (removed' : ℕ) (s : SysId) → s.0 ≢ t.0 → is_manager (manager_at words e) t ≡ true
      → is_interested words e s.0 ≡ true
      → AllName (purged_words words t) removed' e s.0 false (filter (λ m. m.entry == e) (moved_for words t s))
  new-names removed' s ne mine near =
      subst (AllName (purged_words words t) removed' e s.0 false)
      (sym (items-are s
      ∙ (ap (λ b. cond b (moved_at e w t) []) (near-others s.0 ne ∙ near)
      ∙ ap (λ b. cond b (made_known e (manager (purged_word w t)) (purged_word w t)) []) mine)))
      (by_manager (manager (purged_word w t)) refl)
    where
      by_manager : (o : Option SysId) → manager (purged_word w t) ≡ o
          → AllName (purged_words words t) removed' e s.0 false (made_known e o (purged_word w t))
      by_manager None is = tt
      by_manager (Some m) is = (near-others s.0 ne ∙ near, ap manager now ∙ is, tt)

module _ (words : List ℕ) (removed : ℕ) (t s : SysId) (e : ℕ) (there : e < length words) (ne : s.0 ≢ t.0) where
  abbrev behind : List ℕ
  behind = purged_words words t

  abbrev gone_set : ℕ
  gone_set = with_also removed t.0

  stays-near : is_interested words e s.0 ≡ true → is_interested behind e s.0 ≡ true
  stays-near near = near-others words t e there s.0 ne ∙ near

  -- nothing new comes of an entry that t doesn't manage, or in which s has no interest
  box-other : is_manager (manager_at words e) t ≡ false → (ms : List Mail) → InBox words removed e s.0 ms
      → InBox behind gone_set e s.0 ms
  box-other other =
      box-keeps words behind removed gone_set e s.0 stays-near (λ u. also-more removed t.0 u)
      (λ m near at. manager-others words t e there other ∙ at)

  was-named : is_manager (manager_at words e) t ≡ true → (x : Moved) → manager_at words e ≡ Some x.manager
      → has gone_set x.manager.0 ≡ true
  was-named mine x at =
      ap (has gone_set) (eqb-true x.manager.0 t.0 (sym (ap (λ o. is_manager o t) at) ∙ mine))
      ∙ has-with_same removed t.0

  box-far : is_interested words e s.0 ≡ false → (ms : List Mail) → InBox words removed e s.0 ms
      → InBox behind gone_set e s.0 ms
  box-far far [] h = tt
  box-far far (y ∷ ms) h = (all-far (items_in e y) h.0, box-far far ms h.1)
    where
      all-far : (xs : List Moved) → AllName words removed e s.0 (noticed e ms) xs
          → AllName behind gone_set e s.0 (noticed e ms) xs
      all-far [] k = tt
      all-far (x ∷ xs) k = no_truth (is_interested words e s.0) k.0 far

  -- the mail of s, and behind it the notice by which it gets to know of this
  pub box-posted : (ms : List Mail) (mvs : List Moved) → mvs ≡ moved_for words t s → InBox words removed e s.0 ms
      → InBox behind gone_set e s.0 (ms ++ notices_to t mvs)
  box-posted ms mvs are h =
      by_names (is_manager (manager_at words e) t) refl (is_interested words e s.0) refl
    where
      named : list_any (λ m. m.entry == e) mvs
          ≡ (is_manager (manager_at words e) t && is_interested words e s.0)
      named = ap (λ (xs : List Moved). list_any (λ m. m.entry == e) xs) are ∙ told-where words t s e there ne

      quiet : (xs : List Moved) → list_any (λ m. m.entry == e) xs ≡ false → InBox behind gone_set e s.0 ms
          → InBox behind gone_set e s.0 (ms ++ notices_to t xs)
      quiet [] away k = subst (InBox behind gone_set e s.0) (sym (append-nil ms)) k
      quiet (m ∷ xs) away k = box-more behind gone_set e s.0 ms (mails.Notice t (m ∷ xs)) away k

      loud : (xs : List Moved) → xs ≡ moved_for words t s → list_any (λ m. m.entry == e) xs ≡ true
          → is_manager (manager_at words e) t ≡ true → is_interested words e s.0 ≡ true
          → InBox behind gone_set e s.0 (ms ++ notices_to t xs)
      loud [] same here mine near = absurd (cc)
      loud (m ∷ xs) same here mine near =
          box-moved words behind removed gone_set e s.0 stays-near (λ u. also-more removed t.0 u) (was-named mine) ms
          (mails.Notice t (m ∷ xs)) here
          (subst (λ (zs : List Moved). AllName behind gone_set e s.0 false (filter (λ z. z.entry == e) zs)) (sym same)
          (new-names words t e there gone_set s ne mine near))
          h

      by_names : (a : Bool) → is_manager (manager_at words e) t ≡ a → (b : Bool) → is_interested words e s.0 ≡ b
          → InBox behind gone_set e s.0 (ms ++ notices_to t mvs)
      by_names true mine true near =
          loud mvs are (named ∙ (ap (λ z. z && is_interested words e s.0) mine ∙ near)) mine near
      by_names true mine false far =
          quiet mvs (named ∙ (ap (λ z. z && is_interested words e s.0) mine ∙ far)) (box-far far ms h)
      by_names false other b is =
          quiet mvs (named ∙ ap (λ z. z && is_interested words e s.0) other) (box-other other ms h)
