-- How far a lap has come: whoever has still to process an old entry is ahead of the message.
use Rattle.grs_world.proofs.Common.{◌%◌, ◌++◌, ◌+◌, ◌-◌, ◌<◌, ◌∙◌, ◌≡◌, ◌≢◌, ◌≤◌, ap, arith, Bool, cleared, cond, false}
use Rattle.grs_world.proofs.Common.{false_by, first_after, has, length, List, live_below, Message, Option, refl, Req}
use Rattle.grs_world.proofs.Common.{RingEntry, same_Some, Some, stamped, subst, sym, SysId, true, true≢false}
use Rattle.grs_world.proofs.Common.{turned_open, without, ℕ}
use Rattle.rsa_message.specs.Message.{is_due, moves, or_else}
use Rattle.std.proofs.Math.Nat.{mod-eq_of_lt}
use Rattle.grs_medium.proofs.Round.{first_found}
use Rattle.grs_medium.proofs.Waiting.{Masks, masks_cleared, masks_joined, stamped_unseen}
use Rattle.grs_world.proofs.lap.Old.{Search, nobody, old_cleared, old_joined, old_stamped, old_unseen, search_below}
use Rattle.grs_world.proofs.lap.Old.{somebody, waits_old}
use Rattle.grs_world.proofs.lap.Places.{ahead_less, one_less, one_there, place_of, same_place, still_ahead, whole_round}
use Rattle.grs_world.proofs.message.LapsMessage.{further, the_way}

-- Nobody has still to process an entry with a number below b.
abbrev pub Done : ℕ → Message → Type 0
Done b m = (u : ℕ) → u < m.systems → waits_old b u m.entries ≡ false

-- The message of a lap that began at s stands at a place of the round; whoever has still to process an old entry has
-- one from there on; and there aren't more live systems there than Turns left.
pub record Going (removed b s : ℕ) (m : Message) (left : ℕ) : Type 0 where
  pub place : ℕ
  pub inside : place < m.systems
  pub here : (h : SysId) → m.holder ≡ Some h → (s + place) % m.systems ≡ h.0
  pub ahead : (u : ℕ) → u < m.systems → waits_old b u m.entries ≡ true
      → (k : ℕ) × (place ≤ k) × (k < m.systems) × ((s + k) % m.systems ≡ u)
  pub enough : still_ahead removed m.systems s (m.systems - place) ≤ left

pub data Phase (removed b s : ℕ) (m : Message) (left : ℕ) : Type 0 where
  done : Done b m → Phase removed b s m left
  going : Going removed b s m left → Phase removed b s m left

-- at the start
pub begins : (removed b : ℕ) (s : SysId) (m : Message) → m.holder ≡ Some s → s.0 < m.systems
    → Phase removed b s.0 m (live_below removed m.systems)
begins removed b s m here low = going (record {
  place = 0;
  inside = omega (arith, low);
  here = λ h at.
      let none : s.0 + 0 ≡ s.0 = omega arith in
      ap (λ (x : ℕ). x % m.systems) none
      ∙ (stays ∙ ap (λ (x : SysId). x.0) (same_Some s h (sym here ∙ at)));
  ahead = λ u in_it old.
      let k = place_of m.systems s.0 u low in_it in (k.0, omega arith, k.1, k.2);
  enough = subst (λ (x : ℕ). x ≤ live_below removed m.systems) (sym all) (omega arith);
})
  where
    stays : s.0 % m.systems ≡ s.0
    stays = mod-eq_of_lt low

    all : still_ahead removed m.systems s.0 (m.systems - 0) ≡ live_below removed m.systems
    all =
        let none : m.systems - 0 ≡ m.systems = omega arith in
        ap (still_ahead removed m.systems s.0) none ∙ whole_round removed m.systems s.0 low

-- Where no Turn is left, nobody has.
pub ends : (removed b s : ℕ) (m : Message) → s < m.systems
    → ((u : ℕ) → waits_old b u m.entries ≡ true → has removed u ≡ false) → Phase removed b s m 0 → Done b m
ends removed b s m low live (done d) u in_it = d u in_it
ends removed b s m low live (going g) u in_it =
    false_by (waits_old b u m.entries) (λ h. absurd (clash h (g.ahead u in_it h)))
  where
    clash : waits_old b u m.entries ≡ true
        → ((k : ℕ) × (g.place ≤ k) × (k < m.systems) × ((s + k) % m.systems ≡ u)) → ⊥
    clash h k =
        let one = one_there removed m.systems s low k.0 u k.2 k.3 (live u h) in
        let less = ahead_less removed m.systems s low g.place k.0 k.1 k.2 in
        absurd (omega (arith, one, less, g.enough))

-- A Turn at the open message of the system at which it stands.
module _ (m : Message) (c : SysId) (out : List Req) (live rest removed b s left : ℕ) (here : m.holder ≡ Some c)
    (low : s < m.systems) (there : has removed c.0 ≡ false) (masks : Masks live m.entries) (later : b ≤ m.next) where
  abbrev new : List RingEntry
  new = cleared c m.entries ++ stamped m.next c live out

  abbrev test : SysId → Bool
  test = is_due new live (cond (moves m c (length out)) (without rest c.0) rest)

  -- who then has still to process an old entry had so before, and isn't the caller
  was_old : (u : ℕ) → waits_old b u new ≡ true → (u ≢ c.0) × (waits_old b u m.entries ≡ true)
  was_old u h =
      old_cleared b u c m.entries
      (old_joined b u (cleared c m.entries) (stamped m.next c live out) (old_stamped b u m.next live c out later) h)

  passes : (u : ℕ) → waits_old b u new ≡ true → test (record { 0 = u }) ≡ true
  passes u h =
      let unseen = old_unseen b u new h in
      let alive : has live u ≡ true =
      masks_joined live (cleared c m.entries) (stamped m.next c live out) (masks_cleared live c m.entries masks)
      (stamped_unseen c m.next live out) u unseen in
      rw (alive, unseen) refl

  module _ (g : Going removed b s m left) where
    -- The message comes to it, and to nobody behind it.
    reached : (u : ℕ) → u < m.systems → waits_old b u new ≡ true
        → (k j : ℕ)
        × (k < m.systems)
        × ((s + k) % m.systems ≡ u)
        × (0 < j)
        × (g.place + j ≤ k)
        × (first_after m.systems c test ≡ Some (record { 0 = (c.0 + j) % m.systems }))
    reached u in_it h =
        let was = was_old u h in
        let k = g.ahead u in_it was.1 in
        let at : (s + g.place) % m.systems ≡ c.0 = g.here c here in
        let ne : g.place
        ≢ k.0 = λ same. was.0 (sym k.3 ∙ (ap (λ (x : ℕ). (s + x) % m.systems) (sym same) ∙ at)) in
        let way : (c.0 + (k.0 - g.place)) % m.systems ≡ u = the_way m.systems c.0 s g.place k.0 k.1 at ∙ k.3 in
        let r =
        first_found test m.systems c (k.0 - g.place) (omega (arith, k.1, ne)) (omega (arith, k.2))
        (subst (λ (x : ℕ). test (record { 0 = x }) ≡ true) (sym way) (passes u h)) in
        (k.0, r.0, k.2, k.3, r.1, omega (arith, r.2, k.1), r.3)

    on : (u : ℕ) → u < m.systems → waits_old b u new ≡ true
        → Going removed b s (turned_open m c out live rest) (left - 1)
    on u in_it h =
        let r = reached u in_it h in
        let at : (s + g.place) % m.systems ≡ c.0 = g.here c here in
        let inside : g.place + r.1 < m.systems = omega (arith, r.2, r.5) in
        record {
          place = g.place + r.1;
          inside = inside;
          here = λ t held.
              let moved : or_else (first_after m.systems c test) c ≡ t = same_Some _ t held in
              further m.systems c.0 s g.place r.1 at
              ∙ ap (λ (o : Option SysId). (or_else o c).0) (sym r.6)
              ∙ ap (λ (x : SysId). x.0) moved;
          ahead = λ v below old.
              let q = reached v below old in
              let same : (c.0 + q.1) % m.systems ≡ (c.0 + r.1) % m.systems =
              ap (λ (x : SysId). x.0) (same_Some _ _ (sym q.6 ∙ r.6)) in
              let equal : q.1 ≡ r.1 =
              same_place m.systems c.0 q.1 r.1 (omega (arith, inside)) (omega (arith, q.2, q.5))
              (omega (arith, r.2, r.5)) same in
              (q.0, omega (arith, q.5, equal), q.2, q.3);
          enough =
              let less =
              one_less removed m.systems s low g.place (g.place + r.1) c.0 (omega (arith, r.4)) inside at there in
              omega (arith, less, g.enough);
        }

  pub turned_phase : Phase removed b s m left → Phase removed b s (turned_open m c out live rest) (left - 1)
  turned_phase (done d) =
      done (λ u in_it.
      false_by (waits_old b u new) (λ h. absurd (true≢false (sym (was_old u h).1 ∙ d u in_it))))
  turned_phase (going g) = by_search (search_below (λ u. waits_old b u new) m.systems)
    where
      by_search : Search (λ u. waits_old b u new) m.systems
          → Phase removed b s (turned_open m c out live rest) (left - 1)
      by_search (nobody none) = done none
      by_search (somebody u in_it h) = going (on g u in_it h)
