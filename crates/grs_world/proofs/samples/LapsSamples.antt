-- Worked messages, by which the law that a request comes back last is checked.
use Rattle.grs_world.proofs.Common.{[], ◌∙◌, ◌∷◌, ◌≡◌, any_unseen, ap, apply, arith, cleared, dropped, E, Enq, false}
use Rattle.grs_world.proofs.Common.{first_after, first_medium, has, List, MediumState, Message, purge_row, refl, Remove}
use Rattle.grs_world.proofs.Common.{Req, Request, rest_after_turn, RetNone, RingEntry, row, Some, stamped, SysId, true}
use Rattle.grs_world.proofs.Common.{turn_reply, turn_row, turned, unseen, wakes, with_also, without, ℕ}
use Rattle.grs_medium.specs.Apply.{medium_after}
use Rattle.grs_base.specs.declared.resource.Res.TheVariants.{Systems}
use Rattle.grs_wire.specs.declared.medium.Act.TheVariants.{Turn, Purge}
use Rattle.grs_world.specs.Laps.{LastAtHome}

abbrev sys : ℕ → SysId
sys n = record { 0 = n }

-- A task of system n makes this request, which has this entry.
abbrev ask : ℕ → Req
ask n = record {
  task = record { system = sys n; job = 0; task = 0 };
  want = Enq (Systems (65 ∷ []) (66 ∷ [])) E RetNone false;
}

abbrev entry : ℕ → ℕ → ℕ → RingEntry
entry number n mask = record { number = number; from = sys n; body = Request (ask n); mask = mask }

-- The medium is this after a Turn of each of these systems, which puts these requests in.
abbrev after_turns : MediumState → List (ℕ × List Req) → MediumState
after_turns m [] = m
after_turns m ((c, out) ∷ turns) = after_turns (medium_after m (sys c) (record { known = 0; act = Turn out })) turns

abbrev ring : List (ℕ × List Req) → Message
ring turns = (after_turns (first_medium 3 1 false) turns).message

abbrev message_at : ℕ → List RingEntry → ℕ → Message
message_at n entries
    next = record { systems = 3; holder = Some (sys n); closed = false; still = 0; entries = entries; next = next }

-- A request of system 0 goes round, and one of system 2 behind it: each comes home to its own system alone.
goes_round :
    (ring ((0, ask 0 ∷ []) ∷ []) ≡ message_at 1 (entry 1 0 7 ∷ []) 2)
    × (ring ((0, ask 0 ∷ []) ∷ (1, []) ∷ []) ≡ message_at 2 (entry 1 0 5 ∷ []) 2)
    × (ring ((0, ask 0 ∷ []) ∷ (1, []) ∷ (2, ask 2 ∷ []) ∷ []) ≡ message_at 0 (entry 1 0 1 ∷ entry 2 2 7 ∷ []) 3)
    × (ring ((0, ask 0 ∷ []) ∷ (1, []) ∷ (2, ask 2 ∷ []) ∷ (0, []) ∷ (1, []) ∷ []) ≡ message_at 2 (entry 2 2 4 ∷ []) 3)
unfolding has without with_also first_after unseen any_unseen cleared stamped turn_reply wakes rest_after_turn turned
    turn_row row apply
goes_round = (refl, refl, refl, refl)

-- No message comes home before system 1 has processed the entry.
pub home_early : LastAtHome (message_at 0 (entry 1 0 3 ∷ []) 2) → ⊥
unfolding has
home_early law =
    let unseen_by_1 : true ≡ false = law (sys 0) [] [] (entry 1 0 3) (ask 0) refl refl refl refl 1 (λ e. omega arith) in
    absurd cc

-- System 0, at which the message stands, removes system 2: the entry is its own, and system 1 has still to process it.
-- Nothing is said of such an entry.
abbrev removal : RingEntry
removal = record { number = 1; from = sys 0; body = Remove (sys 2); mask = 3 }

removes : (medium_after (first_medium 3 1 false) (sys 0) (record { known = 0; act = Purge (sys 2) })).message
    ≡ message_at 0 (removal ∷ []) 2
unfolding has without with_also first_after cleared dropped purge_row row apply
removes = refl

removal_at_home : LastAtHome (message_at 0 (removal ∷ []) 2)
removal_at_home s [] behind e q held body from here u other =
    let same : removal ≡ e = cc in
    let no_request : Remove (sys 2) ≡ Request q = ap (λ (x : RingEntry). x.body) same ∙ body in
    absurd cc
removal_at_home s (x ∷ []) behind e q held body from here u other = absurd cc
removal_at_home s (x ∷ y ∷ before) behind e q held body from here u other = absurd cc
