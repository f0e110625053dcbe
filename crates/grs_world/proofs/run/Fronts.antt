-- Each system's table is that of a front of the history, as it is counted by what was fixed.
use Rattle.grs_world.proofs.Common.{[], ◌++◌, ◌-◌, ◌==◌, ◌∙◌, ◌∷◌, ◌≡◌, after_fixed, and_parts, ap, append-nil}
use Rattle.grs_world.proofs.Common.{append_assoc, arith, Bodies, Bool, cond, Deck, Event, false, first_number, Fixed}
use Rattle.grs_world.proofs.Common.{fixed_entries, goes_round, has, is_live, is_none, IsHistory, items, items-append}
use Rattle.grs_world.proofs.Common.{items_are_history, items_from, length, List, lists, live, lives, nat_lt, NodeState}
use Rattle.grs_world.proofs.Common.{None, not, not-true, Option, refl, replay, RingEntry, rounds, run, RunItem}
use Rattle.grs_world.proofs.Common.{slice_get, Some, StarPart, State, subst, suc, sym, SysId, table-is, take, true}
use Rattle.grs_world.proofs.Common.{unseen, unwrap_or, World, zero, ℕ}
use Rattle.std.proofs.Common.{ne_eqb}
use Rattle.grs_wire.specs.History.{answered}
use Rattle.rsa_message.proofs.Stands.{waits_live, first_number-seen}
use Rattle.grs_known.specs.Items.{AllCount}
use Rattle.grs_known.proofs.known.Histories.{count-front}
use Rattle.grs_known.proofs.known.ItemLaws.{lists_are_replayed}
use Rattle.std.proofs.Math.Seq.{take-append_seam}
use Rattle.grs_known.specs.Parts.{systems_part}
use Rattle.grs_world.specs.Tables.{before_number, processed, TablesAreFronts}
use Rattle.grs_world.proofs.run.Growing.{fixeds}
use Rattle.grs_world.proofs.run.InRing.{live-is}
use Rattle.grs_world.proofs.run.Messages.{length-fixeds, given-due}
use Rattle.grs_world.proofs.run.Runs.{seen_at, GoodMessage}
use Rattle.grs_world.proofs.move.Changing.{IsChanging, Shown, has_changed, waits_yet}
use Rattle.grs_world.proofs.move.Moved.{alive}
use Rattle.grs_world.proofs.move.Sound.{GoodRun, in_ring, in_star}
use Rattle.grs_world.proofs.run.Site.{at_site}

-- ---- fronts by number
-- The items that went with the message before this number are so many first ones.
front-rounds : (s : State) (k : ℕ) (fs : List (SysId × Fixed))
    → rounds (items_from s (before_number (suc k) fs)) ≡ take k (rounds (items_from s fs))
front-rounds s zero [] = refl
front-rounds s (suc k) [] = refl
front-rounds s k (f ∷ fs) = go (goes_round f.1) refl k (λ j. front-rounds (after_fixed s f.1) j fs)
  where
    x : RunItem
    x = record { by = f.0; fixed = f.1; entries = fixed_entries s f.0 f.1 }

    rest : List RunItem
    rest = rounds (items_from (after_fixed s f.1) fs)

    go : (b : Bool) → goes_round f.1 ≡ b → (k : ℕ)
        → ((j : ℕ) → rounds (items_from (after_fixed s f.1) (before_number (suc j) fs)) ≡ take j rest) →
        rounds (items_from s
        (cond b (cond (suc k == 1) [] (f ∷ before_number (suc k - 1) fs)) (f ∷ before_number (suc k) fs)))
        ≡ take k (cond b (x ∷ rest) rest)
    go false e k ih =
        ap (λ b.
        cond b (x ∷ rounds (items_from (after_fixed s f.1) (before_number (suc k) fs)))
        (rounds (items_from (after_fixed s f.1) (before_number (suc k) fs))))
        e
        ∙ ih k
    go true e zero ih = refl
    go true e (suc k) ih =
        let far : (suc (suc k) == 1) ≡ false = ne_eqb (suc (suc k)) 1 (λ z. omega arith) in
        let less : suc (suc k) - 1 ≡ suc k = omega arith in
        ap (λ b. rounds (items_from s (cond b [] (f ∷ before_number (suc (suc k) - 1) fs)))) far
        ∙ ap (λ j. rounds (items_from s (f ∷ before_number j fs))) less
        ∙ ap (λ b.
        cond b (x ∷ rounds (items_from (after_fixed s f.1) (before_number (suc k) fs)))
        (rounds (items_from (after_fixed s f.1) (before_number (suc k) fs))))
        e
        ∙ ap (λ xs. x ∷ xs) (ih k)

-- They are the first of what was fixed.
before-front : (k : ℕ) (fs : List (SysId × Fixed)) → (rest : List (SysId × Fixed)) × (before_number k fs ++ rest ≡ fs)
before-front k [] = ([], refl)
before-front k (f ∷ fs) = go (goes_round f.1) (k == 1) (before-front (k - 1) fs) (before-front k fs)
  where
    go : (b c : Bool) → (rest : List (SysId × Fixed)) × (before_number (k - 1) fs ++ rest ≡ fs)
        → (rest : List (SysId × Fixed)) × (before_number k fs ++ rest ≡ fs) →
        (rest : List (SysId × Fixed))
        × (cond b (cond c [] (f ∷ before_number (k - 1) fs)) (f ∷ before_number k fs) ++ rest ≡ f ∷ fs)
    go true true m n = (f ∷ fs, refl)
    go true false m n = (m.0, ap (λ zs. f ∷ zs) m.1)
    go false c m n = (n.0, ap (λ zs. f ∷ zs) n.1)

none_due : (xs : List RunItem) (es : List RingEntry) → first_number es ≡ None → Bodies (fixeds xs) es → xs ≡ []
none_due [] es f b = refl
none_due (x ∷ xs) [] f b = elim b [ ]
none_due (x ∷ xs) (e ∷ es) f b = absurd (cc)

-- What a system has processed of all that went with the message: it ends where its first unseen entry stands, and that
-- is behind so many others.
module _ (deck : Deck) (w : World) (right : IsHistory deck (items w.fixed)) (before : ℕ → List RunItem)
    (log since due : List RunItem) (s : SysId) (n : NodeState) (rounds_are : rounds (items w.fixed) ≡ log ++ since)
    (parts : log ≡ before s.0 ++ due)
    (alive : has (live w.medium) s.0 ≡ true) (message : GoodMessage w.medium (fixeds log) (seen_at before))
    (shared : n.shared ≡ lists (before s.0)) where
  record Stops (number : ℕ) : Type 0 where
    count : ℕ
    is : number ≡ suc count
    front : before s.0 ≡ take count (rounds (items w.fixed))

  all_rounds : rounds (items w.fixed) ≡ before s.0 ++ (due ++ since)
  all_rounds = rounds_are ∙ (ap (λ zs. zs ++ since) parts ∙ append_assoc (before s.0) due since)

  front_is : before s.0 ≡ take (length (before s.0)) (rounds (items w.fixed))
  front_is = sym (take-append_seam (before s.0) (due ++ since)) ∙ ap (take (length (before s.0))) (sym all_rounds)

  stops : (o : Option ℕ) → first_number (unseen s w.medium.message.entries) ≡ o
      → Stops (unwrap_or o w.medium.message.next)
  stops None f =
      let none : due ≡ [] =
      none_due due (unseen s w.medium.message.entries) f (given-due w.medium s before due log parts alive message) in
      let all : log ≡ before s.0 = parts ∙ (ap (λ zs. before s.0 ++ zs) none ∙ append-nil (before s.0)) in
      record {
        count = length (before s.0);
        is = message.next ∙ ap suc (length-fixeds log ∙ ap (λ (zs : List RunItem). length zs) all);
        front = front_is;
      }
  stops (Some number) f = record {
    count = length (before s.0);
    is =
        first_number-seen s (seen_at before s.0) (waits_live (live w.medium) (seen_at before) s.0 alive) (omega arith)
        message.stands number f;
    front = front_is;
  }

  pub table_is : n.shared ≡ systems_part (replay deck.limit (answered (processed w s)))
  table_is =
      let stop = stops (first_number (unseen s w.medium.message.entries)) refl in
      let front : List (SysId × Fixed) = before_number (suc stop.count) w.fixed in
      let is : processed w s ≡ front = ap (λ k. before_number k w.fixed) stop.is in
      let more = before-front (suc stop.count) w.fixed in
      let count : AllCount deck.limit [] (items front) =
      count-front deck.limit [] (items front) _
      (subst (AllCount deck.limit []) (ap items (sym more.1) ∙ items-append front more.0) right.count) in
      let replayed : lists (items front) ≡ replay deck.limit (answered front) =
      lists_are_replayed deck.limit (items front) (items_are_history front).1 count
      ∙ ap (replay deck.limit) (items_are_history front).0 in
      shared
      ∙ ap lists (stop.front ∙ sym (front-rounds [] stop.count w.fixed))
      ∙ table-is (items front)
      ∙ ap systems_part (replayed ∙ ap (λ fs. replay deck.limit (answered fs)) (sym is))

pub good_tables : (deck : Deck) (es : List Event) → GoodRun deck es (run deck es) → TablesAreFronts deck es
good_tables deck es good s n at keeps = by_run good
  where
    w : World
    w = run deck es

    live_there : lives (length w.nodes) w.medium.removed s.0 ≡ true
    live_there = (and_parts (is_live w s) (is_none n.star) keeps).0

    unremoved : has w.medium.removed s.0 ≡ false
    unremoved = not-true _ (and_parts (nat_lt s.0 (length w.nodes)) (not (has w.medium.removed s.0)) live_there).1

    alone : n.star ≡ None
    alone = none_is n.star (and_parts (is_live w s) (is_none n.star) keeps).1
      where
        none_is : (o : Option StarPart) → is_none o ≡ true → o ≡ None
        none_is None h = refl
        none_is (Some p) h = absurd (cc)

    by_shown : (g : IsChanging deck (run deck es)) (k m : NodeState) → slice_get (run deck es).nodes s.0 ≡ Some m
        → m.star ≡ None → slice_get g.view s.0 ≡ Some k
        → Shown deck s.0 (items (run deck es).fixed) (g.before s.0) (g.due s.0) g.since (g.whole.out s.0) k m
        → m.shared ≡ systems_part (replay deck.limit (answered (processed (run deck es) s)))
    by_shown g k m here none there (has_changed z) =
        absurd (let e : None ≡ Some (g.whole.roles.node s.0 k (at_site there unremoved)).part =
        sym none ∙ (g.whole.roles.node s.0 k (at_site there unremoved)).star in
        cc)
    by_shown g k m here none there (waits_yet x h is empty) =
        table_is deck w g.whole.right g.before g.log g.since (g.due s.0) s x g.rounds_are (g.parts s.0)
        (alive deck w g s x here unremoved) g.message h.seen.shared

    by_run : GoodRun deck es (run deck es)
        → n.shared ≡ systems_part (replay deck.limit (answered (processed (run deck es) s)))
    by_run (in_ring begins ring g d) =
        let here : has (live w.medium) s.0 ≡ true = live-is deck w ring s.0 ∙ live_there in
        table_is deck w g.history g.before (rounds (items w.fixed)) [] (g.later s.0) s n
        (sym (append-nil (rounds (items w.fixed)))) (g.whole s.0) here g.message (g.systems s.0 n at here).shared
    by_run (in_star f g told d) = let old = g.shown s.0 n at unremoved in by_shown g old.0 n at alone old.1 old.2
