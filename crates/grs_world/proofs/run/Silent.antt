-- A removed system tells nothing more.
use Rattle.grs_world.proofs.Common.{[], ◌&&◌, ◌++◌, ◌+◌, ◌-◌, ◌<◌, ◌∙◌, ◌∷◌, ◌≡◌, all-kept, and_from, and_parts, ap}
use Rattle.grs_world.proofs.Common.{arith, Bool, Deck, Event, false, hist, length, List, list_all, list_any, nat_lt}
use Rattle.grs_world.proofs.Common.{None, not, Option, refl, removes, run, slice_get, slice_get_within, Some, sym, Told}
use Rattle.grs_world.proofs.Common.{told_by, ToldLine, true, ℕ}
use Rattle.std.proofs.lemmas.List.{take-append-le, take_at}
use Rattle.grs_world.proofs.run.Each.{all_told}
use Rattle.grs_world.proofs.run.OfEvents.{of-last, of-longer}
use Rattle.grs_world.proofs.run.Removals.{removed_in_history}
use Rattle.grs_world.specs.Agree.{RemovedTellNothing, is_by_live, is_event_of, is_of_event}

-- whether this is of one of these events, and of a system that was live then
abbrev is_live_line : Deck → List Event → Told → Bool
is_live_line deck es x = is_of_event es x && is_by_live deck es x

of-event : (es : List Event) (x : Told) → is_of_event es x ≡ true → x.event - 1 < length es
of-event es x h =
    go (slice_get es (x.event - 1)) refl
    (and_parts (nat_lt 0 x.event) (is_event_of x.system (slice_get es (x.event - 1))) h).1
  where
    go : (o : Option Event) → slice_get es (x.event - 1) ≡ o → is_event_of x.system o ≡ true → x.event - 1 < length es
    go None at f = absurd (cc)
    go (Some e) at f = slice_get_within es (x.event - 1) e at

-- further events change nothing of it
live-longer : (deck : Deck) (es : List Event) (e : Event) (x : Told) → is_live_line deck es x ≡ true
    → is_live_line deck (es ++ e ∷ []) x ≡ true
live-longer deck es e x h =
    let both = and_parts (is_of_event es x) (is_by_live deck es x) h in
    and_from (is_of_event (es ++ e ∷ []) x) (is_by_live deck (es ++ e ∷ []) x) (of-longer es e x both.0)
    (ap (λ us. not (list_any (removes x.system) (hist deck us)))
    (take-append-le (x.event - 1) es (e ∷ []) (omega (arith, of-event es x both.0)))
    ∙ both.1)

-- what an event tells is of a live system
live-last : (deck : Deck) (es : List Event) (e : Event) (k : ℕ) (ls : List ToldLine) → k ≡ length es
    → list_any (removes e.system) (hist deck es) ≡ false
    → list_all (is_by_live deck (es ++ e ∷ [])) (told_by (k + 1) e.system ls) ≡ true
live-last deck es e k [] count live = refl
live-last deck es e k (l ∷ ls) count live =
    let place : k + 1 - 1 ≡ length es = omega (arith, count) in
    and_from _ _
    (ap (λ us. not (list_any (removes e.system) (hist deck us)))
    (take_at es (e ∷ []) (k + 1 - 1) (sym place))
    ∙ ap not live)
    (live-last deck es e k ls count live)

all-both : {X : Type 0} (p q : X → Bool) (xs : List X) → list_all p xs ≡ true → list_all q xs ≡ true
    → list_all (λ x. p x && q x) xs ≡ true
all-both p q [] a b = refl
all-both p q (x ∷ xs) a b =
    let f = and_parts (p x) (list_all p xs) a in
    let g = and_parts (q x) (list_all q xs) b in
    and_from (p x && q x) (list_all (λ y. p y && q y) xs) (and_from (p x) (q x) f.0 g.0) (all-both p q xs f.1 g.1)

pub removed-silent : (deck : Deck) (es : List Event) → RemovedTellNothing deck es
removed-silent deck es =
    all-kept (is_live_line deck es) (is_by_live deck es)
    (λ x h. (and_parts (is_of_event es x) (is_by_live deck es x) h).1) (run deck es).told
    (all_told deck (is_live_line deck) (live-longer deck)
    (λ us e ls live.
    all-both (is_of_event (us ++ e ∷ [])) (is_by_live deck (us ++ e ∷ []))
    (told_by (length us + 1) e.system ls) (of-last us e (length us) ls refl)
    (live-last deck us e (length us) ls refl (sym (removed_in_history deck us e.system) ∙ live)))
    es)
