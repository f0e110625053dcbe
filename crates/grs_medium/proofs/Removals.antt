-- What a removal in star mode leaves in the inboxes, and of the flags of rest.
use Rattle.std.proofs.Common.{◌≡◌, ◌≢◌, ◌<◌, ◌≤◌, ◌+◌, ℕ, zero, suc, Bool, true, false, cond, not, ◌&&◌, ◌||◌, List, []}
use Rattle.std.proofs.Common.{◌∷◌, ◌++◌, length, take, get_or, set, refl, ap, sym, ◌∙◌, subst, arith}
use Rattle.std.specs.Prelude.{filter, Option, Some, None, nat_lt, ◌==◌}
use Rattle.std.specs.List.{list_any}
use Rattle.std.proofs.lemmas.Bool.{and_parts, and_right, eqb-true, eqb-false, ltb-true, true≢false}
use Rattle.std.proofs.lemmas.List.{append-nil, get_or-map, get_or-set_same, get_or-set_other, length-append, length-set}
use Rattle.std.proofs.lemmas.List.{take_at}
use Rattle.std.proofs.lemmas.List.Folds.{list_any-append}
use Rattle.std.proofs.lemmas.List.FromFn.{get_or-map-range_with_len}
use Rattle.grs_base.specs.declared.resource.SysId.{SysId}
use Rattle.grs_wire.specs.declared.gather.Moved.{Moved}
use Rattle.grs_wire.specs.declared.medium.Act.TheVariants.{Purge}
use Rattle.grs_wire.specs.declared.medium.Call.{Call}
use Rattle.grs_wire.specs.declared.medium.Mail.{Mail}
use Rattle.grs_wire.specs.declared.medium.Reply.{Reply}
use Rattle.grs_wire.specs.declared.medium.Reply.TheVariants.{Purged, NoSuch, Stale, Removed}
use Rattle.grs_wire.specs.LockWords.{interest, manager, is_manager}
use Rattle.grs_wire.specs.Masks.{has, without, with_also, others, without_others}
use Rattle.grs_wire.specs.Notices.{names, noticed}
use Rattle.grs_wire.proofs.MaskLaws.{has-zero, has-with_same, has-with_other, has-without_same, has-without_other}
use Rattle.lock_structure.specs.Least.{least_of}
use Rattle.lock_structure.specs.Purge.{purged_word, purged_words, made_known, moved_at, moved, moved_for}
use Rattle.lock_structure.specs.Words.{word_at}
use Rattle.lock_structure.proofs.LeastLaws.{none-passes}
use Rattle.lock_structure.proofs.Others.{member-lt}
use Rattle.lock_structure.proofs.Purges.{manager-purged, purge_takes_target, moved_for_interested, moved_for_others}
use Rattle.rsa_message.specs.Message.{departed}
use Rattle.grs_medium.specs.Apply.{row, apply, purge_row, is_live, moved_by, without_system}
use Rattle.grs_medium.specs.Apply.{without_in_star}
use Rattle.grs_medium.specs.Causes.{is_removed}
use Rattle.grs_medium.specs.Inboxes.{notices_to, posted, emptied}
use Rattle.grs_medium.specs.Medium.{MediumState, systems_of, inbox}
use Rattle.grs_medium.specs.Removals.{Removes, RemovalIsNoticed, RemovalKeepsMail, RemovalEmptiesInbox, RemovalWakes}
use Rattle.grs_medium.proofs.CauseLaws.{purged_comes}
use Rattle.grs_medium.proofs.LiveLaws.{has-live}

-- ---- the medium behind it
purged-by : {M : Type 0} (b k l s : Bool) (m gone ring : M) (set : ℕ) → (not b && not (not k)) ≡ true → l ≡ true
    → s ≡ true
    → (cond {A = Reply × M} b (Removed, m) (cond k (cond l (Purged, cond s gone ring) (NoSuch, m)) (Stale set, m))).1
    ≡ gone
purged-by false true true true m gone ring set heard living star = refl
purged-by true k l s m gone ring set heard living star = absurd (true≢false (sym heard))
purged-by false false l s m gone ring set heard living star = absurd (true≢false (sym heard))
purged-by false true false s m gone ring set heard living star = absurd (true≢false (sym living))
purged-by false true true false m gone ring set heard living star = absurd (true≢false (sym star))

was-live : (m after : MediumState) (c t : SysId) → Removes m c t after → is_live m t ≡ true
was-live m after c t r = ((purged_comes m c (record { known = r.known; act = Purge t })).0 r.told).1

removed-is : (m after : MediumState) (c t : SysId) → Removes m c t after → after ≡ without_in_star m t
unfolding apply row purge_row
removed-is m after c t r =
    let call : Call = record { known = r.known; act = Purge t } in
    let h = (purged_comes m c call).0 r.told in
    r.is
    ∙ purged-by (is_removed m c) (r.known == m.removed) (is_live m t) m.star m (without_in_star m t)
    (without_system m c t) m.removed h.0 h.1 r.star

-- ---- the inboxes
posted-at : (t : SysId) (moved : List (List Moved)) (boxes : List (List Mail)) (k : ℕ) → k < length boxes
    → get_or (posted t moved boxes) k [] ≡ get_or boxes k [] ++ notices_to t (get_or moved k [])
posted-at t moved [] k inside = absurd (omega (arith, inside))
posted-at t [] (b ∷ boxes) k inside = sym (append-nil (get_or (b ∷ boxes) k []))
posted-at t (m ∷ ms) (b ∷ boxes) zero inside = refl
posted-at t (m ∷ ms) (b ∷ boxes) (suc k) inside = posted-at t ms boxes k (omega (arith, inside))

-- what each gets to know, by number
abbrev pub told_by : MediumState → SysId → List (List Moved)
told_by m t = moved_by m.words (systems_of m) t

pub moved-at : (m : MediumState) (t s : SysId) → s.0 < systems_of m → get_or (told_by m t) s.0 [] ≡ moved_for m.words t s
moved-at m t s low =
    get_or-map-range_with_len (λ k. moved_for m.words t (record { 0 = k })) 0 (systems_of m) s.0 s.0 [] low
    (omega arith)

-- or nothing, where there is no such system
abbrev pub told_to : MediumState → SysId → SysId → List Moved
told_to m t s = get_or (told_by m t) s.0 []

pub inbox-left : (m : MediumState) (t s : SysId) → s.0 < length m.inboxes → s.0 ≢ t.0
    → inbox (without_in_star m t) s.0 ≡ inbox m s.0 ++ notices_to t (told_to m t s)
inbox-left m t s inside other =
    posted-at t (told_by m t) (emptied m.inboxes t.0) s.0
    (subst (λ n. s.0 < n) (sym (length-set m.inboxes t.0 [])) inside)
    ∙ ap (λ (mails : List Mail). mails ++ notices_to t (told_to m t s)) (get_or-set_other m.inboxes t.0 s.0 [] [] other)

-- ---- who gets to know what
abbrev some : {A : Type 0} → List A → Bool
some [] = false
some (x ∷ xs) = true

any-filtered : {A : Type 0} (p : A → Bool) (xs : List A) → list_any p xs ≡ some (filter p xs)
any-filtered p [] = refl
any-filtered p (x ∷ xs) = go (p x) (any-filtered p xs)
  where
    go : (b : Bool) → list_any p xs ≡ some (filter p xs)
        → (b || list_any p xs) ≡ some (cond b (x ∷ filter p xs) (filter p xs))
    go true rest = refl
    go false rest = rest

notice-names : (t : SysId) (e : ℕ) (ms : List Moved) → noticed e (notices_to t ms) ≡ list_any (λ m. m.entry == e) ms
notice-names t e [] = refl
notice-names t e (m ∷ ms) = or-false (list_any (λ x. x.entry == e) (m ∷ ms))
  where
    or-false : (b : Bool) → (b || false) ≡ b
    or-false true = refl
    or-false false = refl

-- an entry that t managed, and in which another has interest, is made known
some-known : (e w : ℕ) (t s : SysId) → s.0 ≢ t.0 → has (interest w) s.0 ≡ true → is_manager (manager w) t ≡ true
    → some (made_known e (manager (purged_word w t)) (purged_word w t)) ≡ true
some-known e w t s other has_part managed =
    subst (λ (o : Option SysId). some (made_known e o (purged_word w t)) ≡ true)
    (sym (manager-purged w t ∙ ap (λ (b : Bool). cond b (least_of left) (manager w)) managed)) (go (least_of left) refl)
  where
    left : ℕ
    left = without (interest w) t.0

    go : (o : Option SysId) → least_of left ≡ o → some (made_known e o (purged_word w t)) ≡ true
    go (Some x) is = refl
    go None is =
        let low : s.0 < 8 = member-lt (interest w) s.0 (omega arith) has_part in
        absurd (true≢false (sym (has-without_other (interest w) t.0 s.0 other ∙ has_part)
        ∙ none-passes 8 (has left) is s.0 low))

pub told-where : (words : List ℕ) (t s : SysId) (e : ℕ) → e < length words → s.0 ≢ t.0
    → list_any (λ m. m.entry == e) (moved_for words t s)
    ≡ (is_manager (manager (word_at words e)) t && has (interest (word_at words e)) s.0)
told-where words t s e inside other =
    any-filtered (λ (m : Moved). m.entry == e) (moved_for words t s)
    ∙ (ap some (moved_for_interested words t s e inside)
    ∙ (ap (λ (b : Bool). some (cond b (moved_at e w t) [])) part
    ∙ go (has (interest w) s.0) refl (is_manager (manager w) t) refl))
  where
    w : ℕ
    w = word_at words e

    part : has (interest (word_at (purged_words words t) e)) s.0 ≡ has (interest w) s.0
    part =
        ap (λ (x : ℕ). has (interest x) s.0) (get_or-map (λ (x : ℕ). purged_word x t) words e 0 0 inside)
        ∙ (purge_takes_target w t s.0 ∙ kept (has (interest w) s.0) (s.0 == t.0) refl)
      where
        kept : (a b : Bool) → (s.0 == t.0) ≡ b → (a && not b) ≡ a
        kept true true same = absurd (other (eqb-true s.0 t.0 same))
        kept false true same = refl
        kept true false apart = refl
        kept false false apart = refl

    go : (a : Bool) → has (interest w) s.0 ≡ a → (b : Bool) → is_manager (manager w) t ≡ b
        → some (cond a (cond b (made_known e (manager (purged_word w t)) (purged_word w t)) []) []) ≡ (b && a)
    go true here true managed = some-known e w t s other here managed
    go true here false managed = refl
    go false gone true managed = refl
    go false gone false managed = refl

pub removal_is_noticed : RemovalIsNoticed
removal_is_noticed m after c t s entry r low inside other there =
    ap (λ (x : MediumState). noticed entry (inbox x s.0)) (removed-is m after c t r)
    ∙ (ap (noticed entry) (inbox-left m t s inside other)
    ∙ (list_any-append (names entry) (inbox m s.0) (notices_to t (told_to m t s))
    ∙ ap (λ (b : Bool). noticed entry (inbox m s.0) || b)
    (notice-names t entry (told_to m t s)
    ∙ (ap (list_any (λ (x : Moved). x.entry == entry)) (moved-at m t s low)
    ∙ told-where m.words t s entry there other))))

-- ---- the other mail
one-more : (t : SysId) (ms : List Moved) → length (notices_to t ms) ≤ 1
one-more t [] = omega arith
one-more t (m ∷ ms) = omega arith

pub removal_keeps_mail : RemovalKeepsMail
removal_keeps_mail m after c t s r inside other =
    let box : inbox after s.0 ≡ inbox m s.0 ++ notices_to t (told_to m t s) =
    ap (λ (x : MediumState). inbox x s.0) (removed-is m after c t r) ∙ inbox-left m t s inside other in (
      ap (take (length (inbox m s.0))) box
          ∙ take_at (inbox m s.0) (notices_to t (told_to m t s)) (length (inbox m s.0)) refl,
      subst (λ (mails : List Mail). length mails ≤ length (inbox m s.0) + 1) (sym box)
          (omega (arith, length-append (inbox m s.0) (notices_to t (told_to m t s)), one-more t (told_to m t s))),
    )

pub removal_empties_inbox : RemovalEmptiesInbox
removal_empties_inbox m after c t r inside =
    let low : t.0 < systems_of m =
    ltb-true t.0 (systems_of m)
    (and_parts (nat_lt t.0 (systems_of m)) (not (has m.removed t.0)) (was-live m after c t r)).0 in
    ap (λ (x : MediumState). inbox x t.0) (removed-is m after c t r)
    ∙ (posted-at t (told_by m t) (emptied m.inboxes t.0) t.0
    (subst (λ n. t.0 < n) (sym (length-set m.inboxes t.0 [])) inside)
    ∙ (ap (λ (mails : List Mail). mails ++ notices_to t (told_to m t t)) (get_or-set_same m.inboxes t.0 [] [] inside)
    ∙ ap (notices_to t) (moved-at m t t low ∙ moved_for_others m.words t)))

-- ---- the flags of rest
pub has-without_others : (n m f s : ℕ) → has (without_others n m f) s ≡ (has f s && not (has (others n m) s))
has-without_others zero m f s = sym (ap (λ (b : Bool). has f s && not b) (has-zero s) ∙ and-true (has f s))
  where
    and-true : (b : Bool) → (b && true) ≡ b
    and-true true = refl
    and-true false = refl
has-without_others (suc n) m f s = go (has m n) (s == n) refl (has-without_others n m f)
  where
    go : (b d : Bool) → (s == n) ≡ d
        → ((k : ℕ) → has (without_others n m f) k ≡ (has f k && not (has (others n m) k)))
        → has (cond b (without_others n m f) (without (without_others n m f) n)) s
        ≡ (has f s && not (has (cond b (others n m) (with_also (others n m) n)) s))
    go true d is below = below s
    go false true is below =
        subst (λ k. has (without (without_others n m f) n) k ≡ (has f k && not (has (with_also (others n m) n) k)))
        (sym (eqb-true s n is))
        (has-without_same (without_others n m f) n
        ∙ sym (and_right (has f n) (not (has (with_also (others n m) n) n)) (ap not (has-with_same (others n m) n))))
    go false false is below =
        has-without_other (without_others n m f) n s (eqb-false s n is)
        ∙ (below s
        ∙ ap (λ (b : Bool). has f s && not b) (sym (has-with_other (others n m) n s (eqb-false s n is))))

pub removal_wakes : RemovalWakes
unfolding departed
removal_wakes m after c t s r =
    let same = removed-is m after c t r in
    ap (λ (x : MediumState). has x.rest s.0) same
    ∙ (has-without_others (systems_of m) (with_also m.removed t.0) m.rest s.0
    ∙ (ap (λ (b : Bool). has m.rest s.0 && not b) (has-live (systems_of m) (with_also m.removed t.0) s.0)
    ∙ ap (λ (x : MediumState). has m.rest s.0 && not (is_live x s)) (sym same)))
