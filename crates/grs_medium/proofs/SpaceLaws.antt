-- Room in the inboxes of those who get to know something, and how their notices are posted.
use Rattle.std.proofs.Common.{◌≡◌, ◌<◌, ◌≤◌, ◌+◌, ℕ, zero, suc, true, List, [], ◌∷◌, ◌++◌, length, take, drop}
use Rattle.std.proofs.Common.{get_or, set, refl, ap, sym, ◌∙◌, subst, arith}
use Rattle.std.specs.Prelude.{◌↔◌, Option, None, is_some}
use Rattle.std.proofs.lemmas.Bool.{true≢false}
use Rattle.std.proofs.lemmas.List.{get_or-set_same, get_or-set_other, get_or-take, get_or_past, get_or_push, length-map}
use Rattle.std.proofs.lemmas.List.{length-set, length_push, take_all, take_at, take-take}
use Rattle.std.proofs.lemmas.List.FromFn.{length-map-range_with_len}
use Rattle.std.specs.VecDeque.{deque_len, deque_capacity}
use native.Mathlib.Decide.{ℕ_discrete, dec_lt}
use Rattle.grs_base.specs.declared.resource.SysId.{SysId}
use Rattle.grs_wire.specs.declared.gather.Moved.{Moved}
use Rattle.grs_wire.specs.declared.medium.Mail.{Mail}
use Rattle.lock_structure.specs.Purge.{moved_for}
use Rattle.grs_medium.specs.Apply.{moved_by}
use Rattle.grs_medium.specs.Inboxes.{HasSpace, HaveSpace, inbox_of, has_news, notices_to, posted}
use Rattle.grs_medium.proofs.InboxLaws.{Box, mail_in, boxes-changed}

-- room for those below a number
abbrev pub SpaceBelow : ℕ → List (List Moved) → List Box → Type 0
SpaceBelow n moved boxes =
    (s : SysId) → s.0 < n → has_news (get_or moved s.0 []) ≡ true
    → HasSpace boxes (λ (b : Box). deque_len b) (λ (b : Box). deque_capacity b) s

pub space-more : (moved : List (List Moved)) (boxes : List Box) (s : ℕ) (new : Box) (items : List Moved)
    → s < length boxes → items ≡ get_or moved s [] → (has_news items ≡ true → deque_len new < deque_capacity new)
    → SpaceBelow s moved boxes → SpaceBelow (s + 1) moved (set boxes s new)
space-more moved boxes s new items inside is room below k low some = go (ℕ_discrete k.0 s)
  where
    go : Dec (k.0 ≡ s)
        → HasSpace (set boxes s new) (λ (b : Box). deque_len b) (λ (b : Box). deque_capacity b) k
    go (yes same) = (
      omega (arith, inside, same, length-set boxes s new),
      λ d.
          subst (λ (b : Box). deque_len b < deque_capacity b)
          (sym (ap (λ (i : ℕ). get_or (set boxes s new) i d) same ∙ get_or-set_same boxes s new d inside))
          (room (ap has_news is ∙ ap (λ (i : ℕ). has_news (get_or moved i [])) (sym same) ∙ some)),
    )
    go (no other) =
        let h = below k (omega (arith, low, other)) some in (
          subst (λ (n : ℕ). k.0 < n) (sym (length-set boxes s new)) h.0,
          λ d.
              subst (λ (b : Box). deque_len b < deque_capacity b)
              (sym (get_or-set_other boxes s k.0 new d other)) (h.1 d),
        )

-- those for whom nothing was got ready need none
pub space-past : (n : ℕ) (moved : List (List Moved)) (boxes : List Box) → length moved ≤ n → SpaceBelow n moved boxes
    → HaveSpace moved boxes (λ (b : Box). deque_len b) (λ (b : Box). deque_capacity b)
space-past n moved boxes all below s some = below s (told-inside moved s.0 n all some) some
  where
    told-inside : (ms : List (List Moved)) (i k : ℕ) → length ms ≤ k → has_news (get_or ms i []) ≡ true → i < k
    told-inside [] i k long h = absurd cc
    told-inside (m ∷ ms) zero k long h = omega (arith, long)
    told-inside (m ∷ ms) (suc i) zero long h = absurd (omega (arith, long))
    told-inside (m ∷ ms) (suc i) (suc k) long h =
        let less : i < k = told-inside ms i k (omega (arith, long)) h in omega (arith, less)

-- as many inboxes
pub length-posted : (t : SysId) (moved : List (List Moved)) (boxes : List (List Mail))
    → length (posted t moved boxes) ≡ length boxes
length-posted t [] [] = refl
length-posted t (m ∷ ms) [] = refl
length-posted t [] (b ∷ boxes) = refl
length-posted t (m ∷ ms) (b ∷ boxes) = ap suc (length-posted t ms boxes)

-- what is got ready is for as many systems as there are
pub length-moved_by : (words : List ℕ) (systems : ℕ) (t : SysId) → length (moved_by words systems t) ≡ systems
length-moved_by words systems t =
    length-map-range_with_len (λ s. moved_for words t (record { 0 = s })) 0 systems

-- ---- one inbox after the other, from the last one on
-- the inboxes from the one numbered k on are posted
abbrev pub posted_from : SysId → List (List Moved) → List (List Mail) → ℕ → List (List Mail)
posted_from t moved mail k = take k mail ++ posted t (drop k moved) (drop k mail)

-- before the first
posted-none : (t : SysId) (moved : List (List Moved)) (mail : List (List Mail))
    → mail ≡ posted_from t moved mail (length moved)
posted-none t [] [] = refl
posted-none t [] (b ∷ mail) = refl
posted-none t (m ∷ ms) [] = refl
posted-none t (m ∷ ms) (b ∷ mail) = ap (λ (l : List (List Mail)). b ∷ l) (posted-none t ms mail)

-- one more
posted-more : (t : SysId) (moved : List (List Moved)) (mail : List (List Mail)) (k : ℕ) → k < length moved
    → k < length mail
    → set (posted_from t moved mail (suc k)) k
    (get_or (posted_from t moved mail (suc k)) k [] ++ notices_to t (get_or moved k []))
    ≡ posted_from t moved mail k
posted-more t [] mail k low inside = absurd (omega (arith, low))
posted-more t (m ∷ ms) [] k low inside = absurd (omega (arith, inside))
posted-more t (m ∷ ms) (b ∷ mail) zero low inside = refl
posted-more t (m ∷ ms) (b ∷ mail) (suc k) low inside =
    ap (λ (l : List (List Mail)). b ∷ l) (posted-more t ms mail k (omega (arith, low)) (omega (arith, inside)))

-- a box of mail, with that of one system posted
boxes-posted : (t : SysId) (moved : List (List Moved)) (mail : List (List Mail)) (boxes : List Box) (k : ℕ) {old : Box}
    (new : Box) (items : List Moved) → k < length moved → k < length mail → k < length boxes
    → mail_in boxes ≡ posted_from t moved mail (suc k) → old ≡ get_or boxes k old → items ≡ get_or moved k []
    → new.items ≡ old.items ++ notices_to t items → mail_in (set boxes k new) ≡ posted_from t moved mail k
boxes-posted t moved mail boxes k new items low inside here before read what is =
    boxes-changed boxes k (λ (l : List Mail). l ++ notices_to t items) new here read is
    ∙ (ap (λ (l : List Moved). set (mail_in boxes) k (inbox_of (mail_in boxes) k ++ notices_to t l)) what
    ∙ (ap (λ (l : List (List Mail)). set l k (inbox_of l k ++ notices_to t (get_or moved k []))) before
    ∙ posted-more t moved mail k low inside))

at-most : (k : ℕ) (moved : List (List Moved)) → length (take k moved) ≤ k
at-most zero moved = omega arith
at-most (suc k) [] = omega arith
at-most (suc k) (m ∷ ms) = omega (arith, at-most k ms)

at-most-all : (k : ℕ) {still : List (List Moved)} (moved : List (List Moved)) → still ≡ take k moved
    → length still ≤ length moved
at-most-all k moved is =
    subst (λ (n : ℕ). n ≤ length moved) (sym (ap (λ (l : List (List Moved)). length l) is)) (go k moved)
  where
    go : (n : ℕ) (ms : List (List Moved)) → length (take n ms) ≤ length ms
    go zero ms = omega arith
    go (suc n) [] = omega arith
    go (suc n) (m ∷ ms) = omega (arith, go n ms)

-- Room stays for those below whoever got a notice.
space-left : (moved : List (List Moved)) (boxes : List Box) (k : ℕ) (new : Box)
    → HaveSpace moved boxes (λ (b : Box). deque_len b) (λ (b : Box). deque_capacity b)
    → HaveSpace (take k moved) (set boxes k new) (λ (b : Box). deque_len b) (λ (b : Box). deque_capacity b)
space-left moved boxes k new have s some = go (dec_lt s.0 k)
  where
    go : Dec (s.0 < k)
        → HasSpace (set boxes k new) (λ (b : Box). deque_len b) (λ (b : Box). deque_capacity b) s
    go (no past) = absurd (nothing (get_or_past (take k moved) s.0 [] (omega (arith, past, at-most k moved))))
      where
        nothing : ¬ (get_or (take k moved) s.0 [] ≡ [])
        nothing e = true≢false (sym some ∙ ap has_news e)
    go (yes low) =
        let h = have s (ap has_news (sym (get_or-take k moved s.0 [] low)) ∙ some) in (
          subst (λ (n : ℕ). s.0 < n) (sym (length-set boxes k new)) h.0,
          λ d.
              subst (λ (b : Box). deque_len b < deque_capacity b)
              (sym (get_or-set_other boxes k s.0 new d (λ (e : s.0 ≡ k). absurd (omega (arith, low, e))))) (h.1 d),
        )

-- ---- posting: of the inboxes as they were, all are posted but as many as are told still, from the first on
pub record Posting (t : SysId) (told : List (List Moved)) (before : List Box) (still : List (List Moved))
    (boxes : List Box) : Type 0 where
  pub count : length boxes ≡ length before
  pub front : still ≡ take (length still) told
  pub mail : mail_in boxes ≡ posted_from t told (mail_in before) (length still)
  pub room : HaveSpace still boxes (λ (b : Box). deque_len b) (λ (b : Box). deque_capacity b)

pub posting-begins : (t : SysId) (told : List (List Moved)) (before : List Box)
    → HaveSpace told before (λ (b : Box). deque_len b) (λ (b : Box). deque_capacity b)
    → Posting t told before told before
posting-begins t told before have = record {
  count = refl;
  front = sym (take_all (length told) told (omega arith));
  mail = posted-none t told (mail_in before);
  room = have;
}

pub posting-ends : (t : SysId) (told : List (List Moved)) (before : List Box) (still : List (List Moved))
    (boxes : List Box) → Posting t told before still boxes → length still ≡ 0
    → mail_in boxes ≡ posted t told (mail_in before)
posting-ends t told before still boxes p none =
    p.mail ∙ ap (λ (k : ℕ). posted_from t told (mail_in before) k) none

-- nobody is told still where none was left to be taken out
pub none-left : {X : Type 0} (r : Option X) (n : ℕ) → r ≡ None → ((is_some r ≡ true) ↔ (0 < n)) → n ≡ 0
none-left r zero is some = refl
none-left r (suc n) is some = absurd (true≢false (sym (some.1 (omega arith)) ∙ ap is_some is))

-- the last one of those who are told still
module _ (t : SysId) (told : List (List Moved)) (before : List Box) (still rest : List (List Moved)) (boxes : List Box)
    (items : List Moved) (k : ℕ) {old : Box} (p : Posting t told before still boxes)
    (parts : still ≡ rest ++ items ∷ []) (long : length rest ≡ k) (read : old ≡ get_or boxes k old) where
  last-is : items ≡ get_or still k []
  last-is = sym (ap (λ (l : List (List Moved)). get_or l k []) parts ∙ get_or_push rest items [] k long)

  one-less : length still ≡ suc k
  one-less = ap (λ (l : List (List Moved)). length l) parts ∙ (length_push rest items ∙ omega (arith, long))

  pub last-has-room : has_news items ≡ true → deque_len old < deque_capacity old
  last-has-room some =
      subst (λ (b : Box). deque_len b < deque_capacity b) (sym read)
      ((p.room (record { 0 = k }) (sym (ap has_news last-is) ∙ some)).1 old)

  pub posting-goes-on : (new : Box) → length told ≤ length before → new.items ≡ old.items ++ notices_to t items
      → Posting t told before rest (set boxes k new)
  posting-goes-on new few is = record {
    count = length-set boxes k new ∙ p.count;
    front =
        rest-is
        ∙ (ap (take k) p.front
        ∙ (take-take k (length still) told (omega (arith, one-less))
        ∙ ap (λ (n : ℕ). take n told) (sym long)));
    mail =
        boxes-posted t told (mail_in before) boxes k new items low
        (omega (arith, low, few, length-map before (λ (b : Box). b.items))) (omega (arith, low, few, p.count))
        (p.mail ∙ ap (λ (n : ℕ). posted_from t told (mail_in before) n) one-less) read
        (last-is
        ∙ (ap (λ (l : List (List Moved)). get_or l k []) p.front
        ∙ get_or-take (length still) told k [] (omega (arith, one-less)))) is
        ∙ ap (λ (n : ℕ). posted_from t told (mail_in before) n) (sym long);
    room =
        subst (λ (l : List (List Moved)).
        HaveSpace l (set boxes k new) (λ (b : Box). deque_len b) (λ (b : Box). deque_capacity b))
        (sym rest-is) (space-left still boxes k new p.room);
  }
    where
      rest-is : rest ≡ take k still
      rest-is = sym (ap (take k) parts ∙ take_at rest (items ∷ []) k long)

      low : k < length told
      low =
          let some : length still ≤ length told = at-most-all (length still) told p.front in
          omega (arith, some, one-less)
