-- Runs that remove no system in star mode: so it is of each front of theirs, and of its next event; and of each run
-- that is in ring mode.
use Rattle.grs_world.proofs.Common.{[], ◌&&◌, ◌++◌, ◌∙◌, ◌∷◌, ◌≡◌, ap, Bool, cond, Deck, Event, false, first_world}
use Rattle.grs_world.proofs.Common.{happens, is_purged, List, MediumState, no_truth, NoneInStar, refl, removes_in_star}
use Rattle.grs_world.proofs.Common.{reply_of, run, run_from, true, World}
use Rattle.grs_world.specs.InStar.{removals_from}
use Rattle.grs_world.proofs.run.Each.{each_run}
use Rattle.grs_world.proofs.run.InRing.{star-stays}

pub no-front : {X : Type 0} (xs ys : List X) → xs ++ ys ≡ [] → xs ≡ []
no-front [] ys h = refl
no-front (x ∷ xs) ys h = absurd (cc)

pub no-back : {X : Type 0} (xs ys : List X) → xs ++ ys ≡ [] → ys ≡ []
no-back [] ys h = h
no-back (x ∷ xs) ys h = absurd (cc)

pub not-removed : (b : Bool) (m : MediumState) → cond b (m ∷ []) [] ≡ [] → b ≡ false
not-removed true m h = absurd (cc)
not-removed false m h = refl

module _ (deck : Deck) where
  -- these events and one more
  record Both (w : World) (es : List Event) (e : Event) : Type 0 where
    before : removals_from deck w es ≡ []
    last : removes_in_star deck (run_from deck w es) e ≡ false

  from-both : (w : World) (es : List Event) (e : Event) → removals_from deck w (es ++ e ∷ []) ≡ [] → Both w es e
  from-both w [] e none = record {
    before = refl;
    last =
        not-removed (removes_in_star deck w e) w.medium
        (no-front (cond (removes_in_star deck w e) (w.medium ∷ []) []) [] none);
  }
  from-both w (x ∷ es) e none =
      let here : List MediumState = cond (removes_in_star deck w x) (w.medium ∷ []) [] in
      let more = from-both (happens deck w x) es e (no-back here _ none) in
      record {
        before =
            ap (λ ms. ms ++ removals_from deck (happens deck w x) es) (no-front here _ none)
            ∙ more.before;
        last = more.last;
      }

  from-push : (w : World) (es : List Event) (e : Event) → removals_from deck w es ≡ []
      → removes_in_star deck (run_from deck w es) e ≡ false → removals_from deck w (es ++ e ∷ []) ≡ []
  from-push w [] e none last = ap (λ b. cond b (w.medium ∷ []) [] ++ []) last
  from-push w (x ∷ es) e none last =
      let here : List MediumState = cond (removes_in_star deck w x) (w.medium ∷ []) [] in
      ap (λ ms. ms ++ removals_from deck (happens deck w x) (es ++ e ∷ []))
      (no-front here (removals_from deck (happens deck w x) es) none)
      ∙ from-push (happens deck w x) es e (no-back here (removals_from deck (happens deck w x) es) none) last

  -- a run that removes none, and an event that doesn't
  pub none_push : (es : List Event) (e : Event) → NoneInStar deck es → removes_in_star deck (run deck es) e ≡ false
      → NoneInStar deck (es ++ e ∷ [])
  none_push es e none last = from-push (first_world deck) es e none last

  pub none_before : (es : List Event) (e : Event) → NoneInStar deck (es ++ e ∷ []) → NoneInStar deck es
  none_before es e none = (from-both (first_world deck) es e none).before

  pub none_next : (es : List Event) (e : Event) → NoneInStar deck (es ++ e ∷ [])
      → removes_in_star deck (run deck es) e ≡ false
  none_next es e none = (from-both (first_world deck) es e none).last

  -- What holds of the first world, and of the world after each event that removes no system in star mode if it did
  -- before, holds of every such run.
  pub each_spared : (P : List Event → World → Type 0) → P [] (first_world deck)
      → ((es : List Event) (e : Event) → NoneInStar deck (es ++ e ∷ []) → P es (run deck es)
      → P (es ++ e ∷ []) (happens deck (run deck es) e))
      → (es : List Event) → NoneInStar deck es → P es (run deck es)
  each_spared P first next =
      each_run deck (λ es w. NoneInStar deck es → P es w) (λ none. first)
      (λ es e more none. next es e none (more (none_before es e none)))

  -- ---- The mode stays star mode, so who is in ring mode has removed none there.
  star-from : (w : World) (es : List Event) → w.medium.star ≡ true → (run_from deck w es).medium.star ≡ true
  star-from w [] star = star
  star-from w (e ∷ es) star = star-from (happens deck w e) es (star-stays deck w e star)

  ring-from : (w : World) (es : List Event) → (run_from deck w es).medium.star ≡ false → removals_from deck w es ≡ []
  ring-from w [] ring = refl
  ring-from w (e ∷ es) ring = by_mode w.medium.star refl (ring-from (happens deck w e) es ring)
    where
      by_mode : (b : Bool) → w.medium.star ≡ b → removals_from deck (happens deck w e) es ≡ [] →
          cond (b && is_purged (reply_of deck w e)) (w.medium ∷ []) [] ++ removals_from deck (happens deck w e) es
          ≡ []
      by_mode true star none =
          no_truth (run_from deck (happens deck w e) es).medium.star
          (star-from (happens deck w e) es (star-stays deck w e star)) ring
      by_mode false was none = none

  pub none_in_ring : (es : List Event) → (run deck es).medium.star ≡ false → NoneInStar deck es
  none_in_ring es ring = ring-from (first_world deck) es ring

  -- One event more of such a run removes none there either.
  none-more : (w : World) (es : List Event) (e : Event) → (run_from deck w es).medium.star ≡ false
      → removals_from deck w es ≡ [] → removals_from deck w (es ++ e ∷ []) ≡ []
  none-more w [] e ring none = ap (λ b. cond (b && is_purged (reply_of deck w e)) (w.medium ∷ []) [] ++ []) ring
  none-more w (x ∷ es) e ring none =
      let here : List MediumState = cond (removes_in_star deck w x) (w.medium ∷ []) [] in
      ap (λ ms. ms ++ removals_from deck (happens deck w x) (es ++ e ∷ [])) (no-front here _ none)
      ∙ none-more (happens deck w x) es e ring (no-back here _ none)

  pub none_behind_ring : (es : List Event) (e : Event) → (run deck es).medium.star ≡ false
      → NoneInStar deck (es ++ e ∷ [])
  none_behind_ring es e ring = none-more (first_world deck) es e ring (none_in_ring es ring)
