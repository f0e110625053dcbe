-- The message waits for no removed system.
use Rattle.grs_world.proofs.Common.{[], ◌<◌, ◌∙◌, ◌∷◌, ◌≡◌, any_unseen, ap, arith, Bool, Deck, Event, first_world, has}
use Rattle.grs_world.proofs.Common.{is_live, is_unseen, length, List, list_any, lives, or_left, or_right, RingEntry}
use Rattle.grs_world.proofs.Common.{run, slice_index_or, suc, sym, SysId, true, zero, ℕ}
use Rattle.std.specs.Prelude.{Contains}
use Rattle.grs_medium.specs.Apply.{is_live as medium_is_live}
use Rattle.grs_world.proofs.run.First.{count_first}
use Rattle.grs_world.specs.Removing.{MessageGoesOn}
use Rattle.grs_world.proofs.run.Each.{each_event, each_run}
use Rattle.grs_world.proofs.run.Placed.{count-placed}
use Rattle.grs_world.proofs.run.Laps.{goes_on}
use Rattle.grs_world.proofs.run.Waits.{run_waits}

-- an element that passes is one of them
one-passes : {X : Type 0} (p : X → Bool) (x : X) → p x ≡ true → (xs : List X) (k : ℕ) → k < length xs
    → slice_index_or xs k x ≡ x → list_any p xs ≡ true
one-passes p x h [] k l is = absurd (omega arith)
one-passes p x h (y ∷ xs) zero l is = or_left (p y) (list_any p xs) (ap p is ∙ h)
one-passes p x h (y ∷ xs) (suc k) l is = or_right (p y) (list_any p xs) (one-passes p x h xs k (omega (arith, l)) is)

has_unseen : (es : List RingEntry) (x : RingEntry) (s : SysId) → Contains es x → has x.mask s.0 ≡ true
    → any_unseen s es ≡ true
unfolding any_unseen
has_unseen es x s c h = one-passes (is_unseen s) x h es c.0 c.1 c.2

module _ (deck : Deck) where
  -- there are as many systems as at the start
  pub as_many : (es : List Event) → length (run deck es).nodes ≡ length deck.systems
  unfolding first_world
  as_many = each_run deck (λ us w. length w.nodes ≡ length deck.systems) (count_first deck 0 deck.systems)
      (λ us e g.
      each_event deck (run deck us) e (λ w. length w.nodes ≡ length deck.systems) g
      (λ n at. count-placed (run deck us) e.system n _ ∙ g))

  live_as : (es : List Event) (s : SysId) → medium_is_live (run deck es).medium s ≡ is_live (run deck es) s
  live_as es s =
      ap (λ n. lives n (run deck es).medium.removed s.0) ((goes_on deck es).around ∙ sym (as_many es))

  pub message_waits : (es : List Event) → MessageGoesOn deck es
  message_waits es = record {
    masks = λ x s there h.
        sym (live_as es s)
        ∙ (run_waits deck es).masks s (has_unseen (run deck es).medium.message.entries x s there h);
    holder = λ s ring alive.
        let r = (run_waits deck es).holder s ring (live_as es s ∙ alive) in (r.0, r.1, sym (live_as es r.0) ∙ r.2);
  }
