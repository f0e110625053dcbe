-- In each run each entry of the message has somebody who has still to process it, where some system is live, and a
-- number below that of the next.
use Rattle.grs_world.proofs.Common.{[], ◌++◌, ◌+◌, ◌<◌, ◌==◌, ◌∙◌, ◌∷◌, ◌≡◌, ◌≢◌, ◌≤◌, and_parts, any_unseen, ap, arith}
use Rattle.grs_world.proofs.Common.{Bool, cleared, cond, Deck, dropped, eq-eqb, Event, false, false_by, filter}
use Rattle.grs_world.proofs.Common.{first_medium, first_world, happens, has, has-live, has-with_other, has-with_same}
use Rattle.grs_world.proofs.Common.{has-without_other, has-zero, is_unseen, left_by, length, List, list_any, live}
use Rattle.grs_world.proofs.Common.{ltb-true, map, MediumState, most_additions, nat_lt, no_truth, NodeState, not}
use Rattle.grs_world.proofs.Common.{or_left, or_right, refl, Req, RingEntry, run, stamped, subst, suc, sym, SysId, take}
use Rattle.grs_world.proofs.Common.{true, true≢false, turned_open, Turnout, WaitsForLive, with_also, without}
use Rattle.grs_world.proofs.Common.{without_system, World, ℕ, ℕ_discrete}
use Rattle.grs_wire.specs.Masks.{only}
use Rattle.grs_medium.proofs.LiveLaws.{same_set}
use Rattle.grs_medium.specs.Apply.{is_live}
use Rattle.grs_medium.proofs.GoesOn.{masks_of}
use Rattle.grs_world.proofs.lap.Old.{Search, nobody, search_below, somebody}
use Rattle.grs_world.proofs.run.Each.{each_run}
use Rattle.grs_world.proofs.run.InRing.{CameInRing, IsRing, begins_ring, changed, medium_in_ring, informed, is_ring}
use Rattle.grs_world.proofs.run.InRing.{no_such, nothing, removes_one, star-stays, turn, went_on}
use Rattle.grs_world.proofs.run.Waits.{run_waits}

-- A system below n has still to process the entry, whose number is below the next.
abbrev pub Held : ℕ → ℕ → RingEntry → Type 0
Held n next e = ((u : ℕ) × (u < n) × (has e.mask u ≡ true)) × (e.number < next)

abbrev pub AllHeld : ℕ → ℕ → List RingEntry → Type 0
AllHeld n next [] = Unit {0}
AllHeld n next (e ∷ es) = Held n next e × AllHeld n next es

-- ---- once c has left
-- A set of systems below n that isn't that of c alone has another one.
others_left : (n mask c u : ℕ) → ((s : ℕ) → has mask s ≡ true → s < n) → has mask u ≡ true
    → (mask == only c) ≡ false → (s : ℕ) × (s < n) × (has (without mask c) s ≡ true)
others_left n mask c u below here apart = go (search_below (λ s. has (without mask c) s) n)
  where
    alone : ((s : ℕ) → s < n → has (without mask c) s ≡ false) → (s : ℕ) → has mask s ≡ has (only c) s
    alone none s = at (ℕ_discrete s c)
      where
        off : s ≢ c → has mask s ≡ false
        off ne =
            false_by (has mask s) (λ h. sym (has-without_other mask c s ne) ∙ none s (below s h))

        c_in : has mask c ≡ true
        c_in = by (ℕ_discrete u c)
          where
            by : Dec (u ≡ c) → has mask c ≡ true
            by (yes same) = ap (has mask) (sym same) ∙ here
            by (no ne) =
                absurd (true≢false (sym here ∙ (sym (has-without_other mask c u ne) ∙ none u (below u here))))

        at : Dec (s ≡ c) → has mask s ≡ has (only c) s
        at (yes same) = ap (has mask) same ∙ c_in ∙ sym (ap (has (only c)) same ∙ has-with_same 0 c)
        at (no ne) = off ne ∙ sym (has-with_other 0 c s ne ∙ has-zero s)

    go : Search (λ s. has (without mask c) s) n → (s : ℕ) × (s < n) × (has (without mask c) s ≡ true)
    go (somebody s l h) = (s, l, h)
    go (nobody none) =
        absurd (true≢false (sym (eq-eqb mask (only c) (same_set mask (only c) (alone none))) ∙ apart))

cleared_held : (n next : ℕ) (c : SysId) (es : List RingEntry)
    → ((s : ℕ) → any_unseen (record { 0 = s }) es ≡ true → s < n) → AllHeld n next es → AllHeld n next (cleared c es)
unfolding cleared any_unseen
cleared_held n next c [] below all = tt
cleared_held n next c (e ∷ es) below all =
    go (e.mask == only c.0) refl
    (cleared_held n next c es (λ s h. below s (or_right (has e.mask s) (list_any (is_unseen (record { 0 = s })) es) h))
    all.1)
  where
    go : (b : Bool) → (e.mask == only c.0) ≡ b → AllHeld n next (cleared c es)
        → AllHeld n next (map (left_by c)
        (cond (not b) (e ∷ filter (λ x. not (x.mask == only c.0)) es) (filter (λ x. not (x.mask == only c.0)) es)))
    go true k rest = rest
    go false k rest = (
      (
        others_left n e.mask c.0 ((all.0).0).0
            (λ s h. below s (or_left (has e.mask s) (list_any (is_unseen (record { 0 = s })) es) h)) ((all.0).0).2 k,
        (all.0).1,
      ),
      rest,
    )

stamped_held : (n number live u : ℕ) (c : SysId) (rs : List Req) → u < n → has live u ≡ true
    → AllHeld n (number + length rs) (stamped number c live rs)
unfolding stamped
stamped_held n number live u c [] low h = tt
stamped_held n number live u c (r ∷ rs) low h = (
  ((u, low, h), omega arith),
  subst (λ (x : ℕ). AllHeld n x (stamped (suc number) c live rs)) (omega arith)
      (stamped_held n (suc number) live u c rs low h),
)

more_held : (n a b : ℕ) (es : List RingEntry) → a ≤ b → AllHeld n a es → AllHeld n b es
more_held n a b [] l all = tt
more_held n a b (e ∷ es) l all = (((all.0).0, omega (arith, l, (all.0).1)), more_held n a b es l all.1)

joined_held : (n next : ℕ) (xs ys : List RingEntry) → AllHeld n next xs → AllHeld n next ys → AllHeld n next (xs ++ ys)
joined_held n next [] ys a b = b
joined_held n next (x ∷ xs) ys a b = (a.0, joined_held n next xs ys a.1 b)

-- ---- in a run
abbrev pub HeldIn : MediumState → Type 0
HeldIn m =
    m.star ≡ false → (s : ℕ) → has (live m) s ≡ true → AllHeld m.message.systems m.message.next m.message.entries

module _ (deck : Deck) (w : World) (e : Event) (ring : IsRing deck w) (waits : WaitsForLive w.medium)
    (held : HeldIn w.medium) where
  below : (s : ℕ) → has (live w.medium) s ≡ true → s < w.medium.message.systems
  below s h =
      ltb-true s w.medium.message.systems
      (and_parts (nat_lt s w.medium.message.systems) (not (has w.medium.removed s))
      (sym (has-live w.medium.message.systems w.medium.removed s) ∙ h)).0

  masks : (s : ℕ) → any_unseen (record { 0 = s }) w.medium.message.entries ≡ true → s < w.medium.message.systems
  masks s h = below s (masks_of w.medium waits s h)

  dropped_held : (target : SysId) → is_live w.medium target ≡ true → HeldIn (without_system w.medium e.system target)
  unfolding dropped
  dropped_held target lives star s h =
      let n : ℕ = w.medium.message.systems in
      let now : ℕ = with_also w.medium.removed target.0 in
      let parts = and_parts (nat_lt s n) (not (has now s)) (sym (has-live n now s) ∙ h) in
      let ne : s
      ≢ target.0 = λ same.
      no_truth (not (has now s)) parts.1 (ap (λ (x : ℕ). not (has now x)) same
      ∙ ap not (has-with_same w.medium.removed target.0)) in
      let before : has (live w.medium) s ≡ true =
      has-live n w.medium.removed s
      ∙ rw (parts.0, sym (has-with_other w.medium.removed target.0 s ne)) parts.1 in
      joined_held n (suc w.medium.message.next) (cleared target w.medium.message.entries) _
      (more_held n w.medium.message.next (suc w.medium.message.next) (cleared target w.medium.message.entries)
      (omega arith)
      (cleared_held n w.medium.message.next target w.medium.message.entries masks (held ring.mode s before)))
      (((s, ltb-true s n parts.0, h), omega arith), tt)

  turned_held : (out : List Req) (flags : ℕ) (s : ℕ) → has (live w.medium) s ≡ true
      → AllHeld w.medium.message.systems (w.medium.message.next + length out)
      (turned_open w.medium.message e.system out (live w.medium) flags).entries
  turned_held out flags s h =
      let m = w.medium.message in
      joined_held m.systems (m.next + length out) (cleared e.system m.entries)
      (stamped m.next e.system (live w.medium) out)
      (more_held m.systems m.next (m.next + length out) (cleared e.system m.entries) (omega arith)
      (cleared_held m.systems m.next e.system m.entries masks (held ring.mode s h)))
      (stamped_held m.systems m.next (live w.medium) s e.system out (below s h) h)

  next_held : HeldIn (happens deck w e).medium
  unfolding dropped
  next_held = medium_in_ring deck w e HeldIn ring held (λ n o at alive came. by_case n o came)
    where
      by_case : (n : NodeState) (o : Turnout) → CameInRing deck w e.system n o → HeldIn o.medium
      by_case n o (nothing flags) = held
      by_case n o (went_on t may) = held
      by_case n o (informed known) = held
      by_case n o (no_such target next gone) = held
      by_case n o (removes_one target next there) = dropped_held target there
      by_case n o (turn flags here) = λ star s h. turned_held (take most_additions n.outbox) w.medium.rest s h
      by_case n o (changed next idle) = λ star. absurd (true≢false star)

pub run_held : (deck : Deck) (es : List Event) → HeldIn (run deck es).medium
unfolding first_world
run_held deck es =
    each_run deck (λ us w. HeldIn w.medium) (at_start deck.star)
    (λ us e g. step us e g (run deck us).medium.star refl) es
  where
    at_start : (b : Bool) → HeldIn (first_medium (length deck.systems) deck.entries b)
    at_start true star s h = absurd (true≢false star)
    at_start false star s h = tt

    step : (us : List Event) (e : Event) → HeldIn (run deck us).medium → (b : Bool) → (run deck us).medium.star ≡ b
        → HeldIn (happens deck (run deck us) e).medium
    step us e g true is star = absurd (true≢false (sym (star-stays deck (run deck us) e is) ∙ star))
    step us e g false is star =
        next_held deck (run deck us) e (is_ring deck (begins_ring deck us is) us is) (run_waits deck us) g star
