-- Each told line is of an event, and of that event's system.
use Rattle.grs_world.proofs.Common.{[], ◌++◌, ◌+◌, ◌-◌, ◌∙◌, ◌∷◌, ◌≡◌, and_from, and_parts, ap, arith, Deck, eq-eqb}
use Rattle.grs_world.proofs.Common.{Event, length, List, list_all, lt-ltb, nat_lt, None, Option, refl, run, slice_get}
use Rattle.grs_world.proofs.Common.{Some, subst, sym, Told, told_by, ToldLine, true, ℕ}
use Rattle.grs_world.specs.Agree.{is_event_of, is_of_event}
use Rattle.grs_known.proofs.lists.Facts.{slice_get-append, slice_get-end}
use Rattle.grs_world.proofs.run.Each.{all_told}

-- A line of an event is one of it behind further events too.
pub of-longer : (es : List Event) (e : Event) (x : Told) → is_of_event es x ≡ true → is_of_event (es ++ e ∷ []) x ≡ true
of-longer es e x h =
    let parts = and_parts (nat_lt 0 x.event) (is_event_of x.system (slice_get es (x.event - 1))) h in
    and_from (nat_lt 0 x.event) (is_event_of x.system (slice_get (es ++ e ∷ []) (x.event - 1))) parts.0
    (go (slice_get es (x.event - 1)) refl parts.1)
  where
    go : (o : Option Event) → slice_get es (x.event - 1) ≡ o → is_event_of x.system o ≡ true
        → is_event_of x.system (slice_get (es ++ e ∷ []) (x.event - 1)) ≡ true
    go None at f = absurd cc
    go (Some y) at f =
        subst (λ o. is_event_of x.system o ≡ true) (sym (slice_get-append es (e ∷ []) (x.event - 1) y at)) f

-- The lines of the last event are of it.
pub of-last : (es : List Event) (e : Event) (k : ℕ) (ls : List ToldLine) → k ≡ length es
    → list_all (is_of_event (es ++ e ∷ [])) (told_by (k + 1) e.system ls) ≡ true
of-last es e k [] count = refl
of-last es e k (l ∷ ls) count =
    let place : k + 1 - 1 ≡ length es = omega (arith, count) in
    let at : slice_get (es ++ e ∷ []) (k + 1 - 1) ≡ Some e =
    ap (slice_get (es ++ e ∷ [])) place ∙ slice_get-end es e [] in
    and_from _ _ (and_from (nat_lt 0 (k + 1)) _ (lt-ltb 0 (k + 1) (omega arith))
    (subst (λ o. is_event_of e.system o ≡ true) (sym at) (eq-eqb e.system.0 e.system.0 refl)))
    (of-last es e k ls count)

pub told_of_events : (deck : Deck) (es : List Event) → list_all (is_of_event es) (run deck es).told ≡ true
told_of_events deck = all_told deck is_of_event of-longer (λ us e ls live. of-last us e (length us) ls refl)
