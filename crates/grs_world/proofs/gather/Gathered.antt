-- What a system keeps of the entries that it gathers: each part has records of tasks of its sender alone; and where
-- nothing of it is of a system, it awaits no part of that one, and has none that it sent.
use Rattle.grs_world.proofs.Common.{[], ◌&&◌, ◌++◌, ◌<◌, ◌==◌, ◌∙◌, ◌∷◌, ◌≡◌, and_from, and_parts, ap, awaited}
use Rattle.grs_world.proofs.Common.{awaiting, Bool, by_test, entry_of_res, eq-eqb, eqb-true, false, false_by, filter}
use Rattle.grs_world.proofs.Common.{Gathering, gathering_at, has, has-without_other, has-without_same, is_entry}
use Rattle.grs_world.proofs.Common.{last_number, length, List, list_all, map, most_systems, nat_le, no_truth, None, not}
use Rattle.grs_world.proofs.Common.{Option, option_map, option_map_or, part_of, PartRec, refl, slice_set, Some, SysId}
use Rattle.grs_world.proofs.Common.{TaskId, TasksView, true, without, without_those, ℕ, ℕ_discrete}
use Rattle.system_purge.specs.Gathers.{GathersView, behind_loss, parts_in, with_part, with_part_at, without_entry}
use Rattle.system_purge.specs.Gathers.{without_sender}
use Rattle.grs_wire.proofs.MaskLaws.{has-without_all}
use Rattle.std.specs.List.{flat_map}
use Rattle.system_purge.specs.Gather.{gathered, is_of_part}
use Rattle.grs_node.proofs.Orderly.{all-at, all-items, all-set}
use Rattle.system_purge.proofs.GatheredParts.{all-gathered, all-joined, all-left, all-more, all-weaker, own-counts}
use Rattle.system_purge.specs.declared.gathers.SentPart.{SentPart}
use Rattle.grs_world.specs.Gone.{is_free_of, is_sent_by_other}

off-by : (b : Bool) → not b ≡ true → b ≡ false
off-by true h = absurd (cc)
off-by false h = refl

-- what isn't in a set isn't in it without another one
still-off : (m s u : ℕ) → has m u ≡ false → has (without m s) u ≡ false
still-off m s u h = go (ℕ_discrete u s)
  where
    go : Dec (u ≡ s) → has (without m s) u ≡ false
    go (yes same) = ap (has (without m s)) same ∙ has-without_same m s
    go (no other) = has-without_other m s u other ∙ h

-- ---- records are of their senders
-- whether the records of a part are of tasks of its sender, and so of all parts of an entry
abbrev pub is_right : SentPart → Bool
is_right q = list_all (λ y. y.task.system.0 == q.from.0) q.records

abbrev pub are_right : Option Gathering → Bool
are_right None = true
are_right (Some g) = list_all is_right g.parts

abbrev pub AreRight : GathersView → Type 0
AreRight gs = list_all are_right gs ≡ true

pub awaiting-right : (gs : GathersView) (e systems : ℕ) → AreRight gs → AreRight (awaiting gs e systems)
awaiting-right gs e systems h = all-set are_right gs e (Some (record { awaits = systems; parts = [] })) h refl

sender-of : (n e : ℕ) (s : SysId) (r : PartRec) → is_of_part n e s r ≡ true → (r.task.system.0 == s.0) ≡ true
sender-of n e s r h =
    (and_parts (is_entry e (entry_of_res n r.res)) (r.task.system.0 == s.0)
    (and_parts (is_entry e (entry_of_res n r.res) && (r.task.system.0 == s.0)) (nat_le r.rank last_number) h).0).1

part-right : (n e : ℕ) (s : SysId) (recs : List PartRec) (g : Gathering) → are_right (Some g) ≡ true
    → are_right (Some (with_part n e s recs g)) ≡ true
part-right n e s recs g h =
    by_test (λ (k : Gathering). are_right (Some k) ≡ true) (has g.awaits s.0)
    (record {
      awaits = without g.awaits s.0;
      parts = g.parts ++ record { from = s; records = filter (is_of_part n e s) recs } ∷ [];
    })
    g
    (λ owes.
    all-more is_right g.parts (record { from = s; records = filter (is_of_part n e s) recs }) h
    (all-weaker (is_of_part n e s) (λ y. y.task.system.0 == s.0) (filter (is_of_part n e s) recs) (sender-of n e s)
    (all-items (is_of_part n e s) recs)))
    (λ none. h)

-- a part came to an entry that is gathered: what each such part leaves so stays so
came-some : (test : Option Gathering → Bool) (gs : GathersView) (e : ℕ) (s : SysId) (recs : List PartRec)
    → test None ≡ true
    → ((g : Gathering) → test (Some g) ≡ true → test (Some (with_part (length gs) e s recs g)) ≡ true)
    → list_all test gs ≡ true → list_all test (with_part_at gs e s recs) ≡ true
came-some test gs e s recs none stay h = go (gathering_at gs e) (all-at test gs e h none)
  where
    go : (o : Option Gathering) → test o ≡ true
        → list_all test (option_map_or (λ g. slice_set gs e (Some (with_part (length gs) e s recs g))) o gs) ≡ true
    go None is = h
    go (Some g) is = all-set test gs e (Some (with_part (length gs) e s recs g)) h (stay g is)

pub came-right : (gs : GathersView) (e : ℕ) (s : SysId) (recs : List PartRec) → AreRight gs
    → AreRight (with_part_at gs e s recs)
came-right gs e s recs h =
    came-some are_right gs e s recs refl (λ g is. part-right (length gs) e s recs g is) h

pub taken-right : (gs : GathersView) (e : ℕ) → AreRight gs → AreRight (without_entry gs e)
taken-right gs e h = all-set are_right gs e None h refl

-- a system is lost: what that leaves of each entry
lost-each : (test kept : Option Gathering → Bool) (s : SysId)
    → ((o : Option Gathering) → test o ≡ true → kept (option_map (without_sender s) o) ≡ true) → (gs : GathersView)
    → list_all test gs ≡ true → list_all kept (behind_loss gs s) ≡ true
lost-each test kept s stay [] h = refl
lost-each test kept s stay (o ∷ gs) h =
    let both = and_parts (test o) (list_all test gs) h in
    and_from (kept (option_map (without_sender s) o)) (list_all kept (behind_loss gs s)) (stay o both.0)
    (lost-each test kept s stay gs both.1)

lost-right : (s : SysId) (o : Option Gathering) → are_right o ≡ true
    → are_right (option_map (without_sender s) o) ≡ true
lost-right s None h = refl
lost-right s (Some g) h = all-left is_right (λ q. not (q.from.0 == s.0)) g.parts h

pub losing-right : (gs : GathersView) (s : SysId) → AreRight gs → AreRight (behind_loss gs s)
losing-right gs s h = lost-each are_right are_right s (lost-right s) gs h

-- ---- nothing is of a system
module _ (u : ℕ) where
  -- whether a system didn't send a part, and is in no way awaited or kept of an entry
  abbrev pub is_other : SentPart → Bool
  is_other = is_sent_by_other u

  abbrev pub is_free : Option Gathering → Bool
  is_free = is_free_of u

  abbrev pub AreFree : GathersView → Type 0
  AreFree gs = list_all is_free gs ≡ true

  free-from : (awaits : ℕ) (parts : List SentPart) → has awaits u ≡ false → list_all is_other parts ≡ true
      → is_free (Some (record { awaits = awaits; parts = parts })) ≡ true
  free-from awaits parts off others = and_from (not (has awaits u)) (list_all is_other parts) (ap not off) others

  -- an entry is gathered from now on: nobody is awaited who is known to be removed
  pub awaiting-free : (gs : GathersView) (e known s mask : ℕ) → u < most_systems → has known u ≡ true → AreFree gs
      → AreFree (awaiting gs e (awaited known s mask))
  awaiting-free gs e known s mask below knows h =
      all-set is_free gs e (Some (record { awaits = awaited known s mask; parts = [] })) h
      (free-from (awaited known s mask) [] off refl)
    where
      never : (b : Bool) → (b && false) ≡ false
      never true = refl
      never false = refl

      off : has (awaited known s mask) u ≡ false
      off =
          still-off (without_those known mask) s u
          (has-without_all most_systems known mask u below
          ∙ (ap (λ b. has mask u && not b) knows ∙ never (has mask u)))

  -- a part of another system came
  part-free : (n e : ℕ) (s : SysId) (recs : List PartRec) (g : Gathering) → (s.0 == u) ≡ false
      → is_free (Some g) ≡ true → is_free (Some (with_part n e s recs g)) ≡ true
  part-free n e s recs g apart h =
      by_test (λ (k : Gathering). is_free (Some k) ≡ true) (has g.awaits s.0)
      (record {
        awaits = without g.awaits s.0;
        parts = g.parts ++ record { from = s; records = filter (is_of_part n e s) recs } ∷ [];
      })
      g
      (λ owes.
      let both = and_parts (not (has g.awaits u)) (list_all is_other g.parts) h in
      free-from (without g.awaits s.0) (g.parts ++ record { from = s; records = filter (is_of_part n e s) recs } ∷ [])
      (still-off g.awaits s.0 u (off-by (has g.awaits u) both.0))
      (all-more is_other g.parts (record { from = s; records = filter (is_of_part n e s) recs }) both.1 (ap not apart)))
      (λ none. h)

  pub came-free : (gs : GathersView) (e : ℕ) (s : SysId) (recs : List PartRec) → (s.0 == u) ≡ false → AreFree gs
      → AreFree (with_part_at gs e s recs)
  came-free gs e s recs apart h =
      came-some is_free gs e s recs refl (λ g is. part-free (length gs) e s recs g apart is) h

  -- an entry is gathered no longer
  pub taken-free : (gs : GathersView) (e : ℕ) → AreFree gs → AreFree (without_entry gs e)
  taken-free gs e h = all-set is_free gs e None h refl

  -- another system is lost
  lost-free : (s : SysId) (o : Option Gathering) → is_free o ≡ true → is_free (option_map (without_sender s) o) ≡ true
  lost-free s None h = refl
  lost-free s (Some g) h =
      let both = and_parts (not (has g.awaits u)) (list_all is_other g.parts) h in
      free-from (without g.awaits s.0) (filter (λ q. not (q.from.0 == s.0)) g.parts)
      (still-off g.awaits s.0 u (off-by (has g.awaits u) both.0))
      (all-left is_other (λ q. not (q.from.0 == s.0)) g.parts both.1)

  pub losing-free : (gs : GathersView) (s : SysId) → AreFree gs → AreFree (behind_loss gs s)
  losing-free gs s h = lost-each is_free is_free s (lost-free s) gs h

  -- the records that are gathered of an entry are of no task of it
  itself : (k : ℕ) → (k == k) ≡ true
  itself k = eq-eqb k k refl

  of-sender : (q : SentPart) → is_other q ≡ true → is_right q ≡ true
      → list_all (λ y. not (u == y.task.system.0)) q.records ≡ true
  of-sender q other right =
      all-weaker (λ y. y.task.system.0 == q.from.0) (λ y. not (u == y.task.system.0)) q.records
      (λ y is.
      ap not (false_by (u == y.task.system.0) (λ same.
      no_truth (q.from.0 == u)
      (ap (λ k. q.from.0 == k) (eqb-true u y.task.system.0 same ∙ eqb-true y.task.system.0 q.from.0 is)
      ∙ itself q.from.0)
      (off-by (q.from.0 == u) other))))
      right

  parts-free : (qs : List SentPart) → list_all is_other qs ≡ true → list_all is_right qs ≡ true
      → list_all (λ y. not (u == y.task.system.0)) (flat_map (λ part. part) (map (λ q. q.records) qs)) ≡ true
  parts-free [] h right = refl
  parts-free (q ∷ qs) h right =
      let both = and_parts (is_other q) (list_all is_other qs) h in
      let rights = and_parts (is_right q) (list_all is_right qs) right in
      all-joined (λ y. not (u == y.task.system.0)) q.records (flat_map (λ part. part) (map (λ z. z.records) qs))
      (of-sender q both.0 rights.0) (parts-free qs both.1 rights.1)

  theirs-free : (o : Option Gathering) → is_free o ≡ true → are_right o ≡ true
      → list_all (λ y. not (u == y.task.system.0)) (flat_map (λ part. part) (parts_in o)) ≡ true
  theirs-free None h right = refl
  theirs-free (Some g) h right =
      parts-free g.parts (and_parts (not (has g.awaits u)) (list_all is_other g.parts) h).1 right

  pub gathered-free : (n e : ℕ) (names : List TaskId) (v : TasksView) (gs : GathersView) → (u == v.system) ≡ false
      → AreFree gs → AreRight gs
      → list_all (λ y. not (u == y.task.system.0)) (gathered (part_of n e names v) (parts_in (gathering_at gs e)))
      ≡ true
  gathered-free n e names v gs apart h right =
      all-gathered (λ y. not (u == y.task.system.0)) (part_of n e names v) (parts_in (gathering_at gs e))
      (all-weaker (is_of_part n e (record { 0 = v.system })) (λ y. not (u == y.task.system.0)) (part_of n e names v)
      (λ y is.
      ap not (ap (λ k. u == k) (eqb-true y.task.system.0 v.system (sender-of n e (record { 0 = v.system }) y is))
      ∙ apart))
      (own-counts n e names v))
      (theirs-free (gathering_at gs e) (all-at is_free gs e h refl) (all-at are_right gs e right refl))

-- so nothing is kept of a system that is lost
gone-free : (s : SysId) (o : Option Gathering) → is_free s.0 (option_map (without_sender s) o) ≡ true
gone-free s None = refl
gone-free s (Some g) =
    free-from s.0 (without g.awaits s.0) (filter (λ q. not (q.from.0 == s.0)) g.parts) (has-without_same g.awaits s.0)
    (all-items (λ q. not (q.from.0 == s.0)) g.parts)

pub gone-all : (gs : GathersView) (s : SysId) → AreFree s.0 (behind_loss gs s)
gone-all [] s = refl
gone-all (o ∷ gs) s =
    and_from (is_free s.0 (option_map (without_sender s) o)) (list_all (is_free s.0) (behind_loss gs s)) (gone-free s o)
    (gone-all gs s)
