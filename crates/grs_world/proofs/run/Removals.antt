-- Who is removed in a run is who was removed by what was fixed, and each removal is told by the event that fixes it.
use Rattle.grs_world.proofs.Common.{[], ◌&&◌, ◌++◌, ◌+◌, ◌-◌, ◌<◌, ◌==◌, ◌||◌, ◌∙◌, ◌∷◌, ◌≡◌, after_fixed, and_from}
use Rattle.grs_world.proofs.Common.{and_parts, ap, append-nil, append_assoc, arith, Bool, by_test, chosen, Deck}
use Rattle.grs_world.proofs.Common.{desk_told, drop, drop-append_seam, eq-eqb, eqb-false, eqb-true, Event, false}
use Rattle.grs_world.proofs.Common.{false_by, first_world, Fixed, fixed_by, fixed_entries, happens, has, has-with_other}
use Rattle.grs_world.proofs.Common.{has-with_same, has-zero, history, items, items_are_history, length, List, list_any}
use Rattle.grs_world.proofs.Common.{list_any-append, LocalLook, lt-ltb, MediumState, nat_lt, next_order, no_truth}
use Rattle.grs_world.proofs.Common.{NodeState, None, not, Option, or-false, or_left, or_right, placed, Purged, purged}
use Rattle.grs_world.proofs.Common.{refl, removes, run, run_from, same_Some, slice_get, Some, State, subst, suc, sym}
use Rattle.grs_world.proofs.Common.{SysId, take, take-append-drop, Told, told_by, told_in, ToldLine, true, Turnout}
use Rattle.grs_world.proofs.Common.{with_also, without_in_star, without_system, without_target, World, zero, ℕ}
use Rattle.std.proofs.Common.{subst₂}
use Rattle.grs_wire.specs.History.{answered_from, answered}
use Rattle.grs_wire.specs.declared.request.Fixed.TheVariants.{Asked}
use Rattle.grs_medium.specs.Apply.{is_live}
use Rattle.grs_known.proofs.known.Histories.{ask-keeps}
use Rattle.grs_world.specs.Agree.{is_purge, purges, is_removal, is_vary, order_of, fixed_in, RemovalsTold}
use Rattle.grs_world.specs.Removing.{RemovedAreInHistory}
use Rattle.grs_world.proofs.run.Desks.{order-is}
use Rattle.grs_world.proofs.run.Each.{each_event, each_live, each_run, run-push, counted_events}
use Rattle.grs_world.proofs.run.Laps.{goes_on}
use Rattle.grs_world.proofs.run.Lost.{told-lost}
use Rattle.grs_world.proofs.run.Placed.{fixed-placed, of_medium, told-placed}
use Rattle.grs_world.proofs.run.Purges.{Removes, RemovesNone, nobody, one, what_removes}
use Rattle.grs_world.proofs.system.Desks.{desk-told}
use Rattle.grs_wire.specs.declared.deck.Choice.TheVariants as choices
use Rattle.grs_wire.specs.declared.deck.Order.TheVariants as orders
use Rattle.grs_wire.specs.declared.told.Said.TheVariants as saids
use Rattle.grs_wire.specs.declared.told.ToldLine.TheVariants as lines

-- ---- what was fixed, and the history
-- whether one of these removes a system
abbrev pub takes_out : SysId → List (SysId × Fixed) → Bool
takes_out s fs = list_any (λ x. is_purge s x.1) fs

pub one-removes : (st : State) (by : SysId) (f : Fixed) (s : SysId)
    → list_any (removes s) (fixed_entries st by f) ≡ is_purge s f
one-removes st by (Asked q) s = ask-keeps st q.task q.want s
one-removes st by (LocalLook t f) s = refl
one-removes st by (Purged target) s = or-false (s.0 == target.0)

from-fixed : (st : State) (fs : List (SysId × Fixed)) (s : SysId)
    → list_any (removes s) (answered_from st fs) ≡ takes_out s fs
from-fixed st [] s = refl
from-fixed st (f ∷ fs) s =
    list_any-append (removes s) (fixed_entries st f.0 f.1) (answered_from (after_fixed st f.1) fs)
    ∙ ap (λ b. b || list_any (removes s) (answered_from (after_fixed st f.1) fs)) (one-removes st f.0 f.1 s)
    ∙ ap (λ b. is_purge s f.1 || b) (from-fixed (after_fixed st f.1) fs s)

pub removes-fixed : (fs : List (SysId × Fixed)) (s : SysId) → list_any (removes s) (answered fs) ≡ takes_out s fs
removes-fixed fs s = from-fixed [] fs s

by-system : (s c : SysId) (fs : List Fixed) → takes_out s (fixed_by c fs) ≡ list_any (is_purge s) fs
by-system s c [] = refl
by-system s c (f ∷ fs) = ap (λ b. is_purge s f || b) (by-system s c fs)

-- ---- who is removed
abbrev AreOut : ℕ → List (SysId × Fixed) → Type 0
AreOut removed fixed = (s : SysId) → has removed s.0 ≡ takes_out s fixed

abbrev pub AreTakenOut : World → Type 0
AreTakenOut w = AreOut w.medium.removed w.fixed

module _ (deck : Deck) where
  taken_next : (w : World) (e : Event) → AreTakenOut w → AreTakenOut (happens deck w e)
  unfolding purged
  taken_next w e g = each_live deck w e AreTakenOut g (λ n at alive.
      let o = chosen deck w.medium e.system n e.choice in
      subst (λ fs. AreOut (placed w e.system n o).medium.removed fs) (sym (fixed-placed w e.system n o))
      (of_medium w e.system n o (λ m. AreOut m.removed (w.fixed ++ fixed_by e.system o.step.fixed))
      (by_event n o (what_removes deck w.medium e.system n alive e.choice))))
    where
      grown : (o : Turnout) (s : SysId)
          → takes_out s (w.fixed ++ fixed_by e.system o.step.fixed)
          ≡ (takes_out s w.fixed || list_any (is_purge s) o.step.fixed)
      grown o s =
          list_any-append (λ (x : SysId × Fixed). is_purge s x.1) w.fixed (fixed_by e.system o.step.fixed)
          ∙ ap (λ b. takes_out s w.fixed || b) (by-system s e.system o.step.fixed)

      same : (o : Turnout) → o.medium.removed ≡ w.medium.removed → RemovesNone o.step.fixed
          → AreOut o.medium.removed (w.fixed ++ fixed_by e.system o.step.fixed)
      same o kept none s =
          ap (λ i. has i s.0) kept
          ∙ (g s ∙ sym (grown o s ∙ (ap (λ b. takes_out s w.fixed || b) (none s) ∙ or-false (takes_out s w.fixed))))

      -- one more
      with_one : (target : SysId) (s : SysId) (b : Bool) → (s.0 == target.0) ≡ b
          → has (with_also w.medium.removed target.0) s.0 ≡ (takes_out s w.fixed || (b || false))
      with_one target s true is =
          ap (has (with_also w.medium.removed target.0)) (eqb-true s.0 target.0 is)
          ∙ (has-with_same w.medium.removed target.0 ∙ sym (or_right (takes_out s w.fixed) true refl))
      with_one target s false is =
          has-with_other w.medium.removed target.0 s.0 (eqb-false s.0 target.0 is)
          ∙ (g s ∙ sym (or-false (takes_out s w.fixed)))

      without-removed : (target : SysId)
          → (without_target w.medium e.system target).removed ≡ with_also w.medium.removed target.0
      without-removed target =
          by_test (λ (k : MediumState). k.removed ≡ with_also w.medium.removed target.0) w.medium.star
          (without_in_star w.medium target) (without_system w.medium e.system target) (λ star. refl) (λ ring. refl)

      by_event : (n : NodeState) (o : Turnout) → Removes deck w.medium e.system n e.choice o
          → AreOut o.medium.removed (w.fixed ++ fixed_by e.system o.step.fixed)
      by_event n o (nobody kept none) = same o kept none
      by_event n o (one target choice next lives is) =
          subst (λ (x : Turnout). AreOut x.medium.removed (w.fixed ++ fixed_by e.system x.step.fixed)) (sym is)
          (λ s.
          ap (λ i. has i s.0) (without-removed target)
          ∙ (with_one target s (s.0 == target.0) refl
          ∙ sym (grown (record {
            medium = without_target w.medium e.system target;
            step = purged deck n (choices.Purge target);
          })
          s)))

  taken_first : AreTakenOut (first_world deck)
  unfolding first_world
  taken_first s = has-zero s.0

  pub taken_out : (es : List Event) → AreTakenOut (run deck es)
  taken_out es = each_run deck (λ us w. AreTakenOut w) taken_first (λ us e g. taken_next (run deck us) e g) es

  pub removed_in_history : (es : List Event) → RemovedAreInHistory deck es
  removed_in_history es s = taken_out es s ∙ sym (removes-fixed (run deck es).fixed s)

-- Of the systems of the deck, who isn't live any more was removed by what was fixed.
abbrev pub GoneAreRemoved : Deck → World → Type 0
GoneAreRemoved deck w =
    (target : SysId) → target.0 < length deck.systems → is_live w.medium target ≡ false
    → list_any (removes target) (history (items w.fixed)) ≡ true

pub gone_are_removed : (deck : Deck) (es : List Event) → GoneAreRemoved deck (run deck es)
gone_are_removed deck es target below out =
    ap (list_any (removes target)) (items_are_history (run deck es).fixed).0
    ∙ (sym (removed_in_history deck es target) ∙ was_removed (has (run deck es).medium.removed target.0) refl)
  where
    m : MediumState
    m = (run deck es).medium

    within : nat_lt target.0 (run deck es).medium.message.systems ≡ true
    within = lt-ltb target.0 m.message.systems (omega (arith, below, (goes_on deck es).around))

    was_removed : (b : Bool) → has (run deck es).medium.removed target.0 ≡ b → b ≡ true
    was_removed true is = refl
    was_removed false is = sym out ∙ (ap (λ b. b && not (has m.removed target.0)) within ∙ ap not is)

-- ---- each removal is told by the event that fixes it
dropped-all : {X : Type 0} (xs : List X) → drop (length xs) xs ≡ []
dropped-all [] = refl
dropped-all (x ∷ xs) = dropped-all xs

-- the first elements, and one more, if there is one
take-more : (es : List Event) (k : ℕ) (e : Event) → slice_get es k ≡ Some e
    → (take (suc k) es ≡ take k es ++ e ∷ []) × (length (take k es) ≡ k)
take-more [] k e at = absurd (cc)
take-more (x ∷ es) zero e at = (ap (λ z. z ∷ []) (same_Some x e at), refl)
take-more (x ∷ es) (suc k) e at = let more = take-more es k e at in (ap (λ ys. x ∷ ys) more.0, ap suc more.1)

take-no_more : (es : List Event) (k : ℕ) → slice_get es k ≡ None → take (suc k) es ≡ take k es
take-no_more [] zero at = refl
take-no_more [] (suc k) at = refl
take-no_more (x ∷ es) zero at = absurd (cc)
take-no_more (x ∷ es) (suc k) at = ap (λ ys. x ∷ ys) (take-no_more es k at)

module _ (deck : Deck) where
  -- what was told stays, whatever events come
  run-behind : (w : World) (xs ys : List Event) → run_from deck w (xs ++ ys) ≡ run_from deck (run_from deck w xs) ys
  run-behind w [] ys = refl
  run-behind w (x ∷ xs) ys = run-behind (happens deck w x) xs ys

  told-stays : (p : Told → Bool) (w : World) (es : List Event) → list_any p w.told ≡ true
      → list_any p (run_from deck w es).told ≡ true
  told-stays p w [] h = h
  told-stays p w (e ∷ es) h = told-stays p (happens deck w e) es (each_event deck w e (λ x. list_any p x.told ≡ true) h
      (λ n at.
      ap (list_any p) (told-placed w e.system n _) ∙ (list_any-append p w.told _ ∙ or_left (list_any p w.told) _ h)))

  purges-none : (s target c : SysId) (fs : List Fixed) → RemovesNone fs → purges s target (fixed_by c fs) ≡ false
  purges-none s target c fs none =
      false_by (purges s target (fixed_by c fs))
      (λ h. no_truth (list_any (is_purge target) fs) (among fs h) (none target))
    where
      among : (gs : List Fixed) → purges s target (fixed_by c gs) ≡ true → list_any (is_purge target) gs ≡ true
      among [] h = h
      among (g ∷ gs) h = go (is_purge target g) (c.0 == s.0) h (among gs)
        where
          go : (b d : Bool) → ((d && b) || purges s target (fixed_by c gs)) ≡ true
              → (purges s target (fixed_by c gs) ≡ true → list_any (is_purge target) gs ≡ true)
              → (b || list_any (is_purge target) gs) ≡ true
          go true d k more = refl
          go false true k more = more k
          go false false k more = more k

  -- a system shows its number where it is live
  abbrev pub AreHome : List Event → Type 0
  AreHome es =
      (s : ℕ) (n : NodeState) → slice_get (run deck es).nodes s ≡ Some n → has (run deck es).medium.removed s ≡ false
      → n.tasks.system ≡ s

  module _ (vs : List Event) (e : Event) (home : AreHome vs) (s target : SysId) where
    abbrev w : World
    w = run deck vs

    abbrev ToldIn : List (SysId × Fixed) → List Told → Type 0
    ToldIn fixed told =
        purges s target (drop (length (run deck vs).fixed) fixed) ≡ true
        → list_any (is_removal deck (length vs + 1) s target) told ≡ true

    abbrev ToldBy : NodeState → Turnout → Type 0
    ToldBy n o =
        ToldIn (w.fixed ++ fixed_by e.system o.step.fixed)
        (w.told ++ told_by (w.events + 1) e.system (told_in n o.step))

    -- the event removed a system
    removal_told : (n : NodeState) (named : SysId) → slice_get w.nodes e.system.0 ≡ Some n
        → has w.medium.removed e.system.0 ≡ false → next_order deck n ≡ Some (orders.Vary named) →
        ToldBy n (record {
          medium = without_target w.medium e.system named;
          step = purged deck n (choices.Purge named);
        })
    unfolding purged
    removal_told n named at alive next h =
        let c : SysId = e.system in
        let parts =
        and_parts (c.0 == s.0) (target.0 == named.0) (sym (or-false ((c.0 == s.0) && (target.0 == named.0)))
        ∙ (ap (purges s target) (sym (drop-append_seam w.fixed (fixed_by c (Purged named ∷ [])))) ∙ h)) in
        let same : c ≡ s = ap (λ (k : ℕ). let z : SysId = record { 0 = k } in z) (eqb-true c.0 s.0 parts.0) in
        let order =
        ap (λ (z : SysId). order_of deck z (n.done + 1)) (sym same)
        ∙ order-is deck c n (orders.Vary named) (home c.0 n at alive) next in
        let number : (w.events + 1 == length vs + 1) ≡ true =
        eq-eqb (w.events + 1) (length vs + 1) (ap (λ k. k + 1) (counted_events deck vs)) in
        let line : Told = record { event = w.events + 1; system = c; line = lines.Desk (n.done + 1) saids.VaryDone } in
        let first : ToldLine = lines.Desk (n.done + 1) saids.VaryDone in
        let left : NodeState = record (desk_told n saids.VaryDone) { known = with_also n.known named.0 } in
        let more =
        told-lost (n.tasks.told ++ first ∷ []) deck left (named ∷ [])
        ([], desk-told n saids.VaryDone ∙ sym (append-nil (n.tasks.told ++ first ∷ []))) in
        let told_is : told_in n (purged deck n (choices.Purge named)) ≡ first ∷ more.0 =
        ap (drop (length n.tasks.told)) (more.1 ∙ append_assoc n.tasks.told (first ∷ []) more.0)
        ∙ drop-append_seam n.tasks.told (first ∷ more.0) in
        let here : is_removal deck (length vs + 1) s target line ≡ true =
        and_from _ _ number (and_from _ _ parts.0 (ap (is_vary target) order ∙ parts.1)) in
        list_any-append (is_removal deck (length vs + 1) s target) w.told
        (told_by (w.events + 1) c (told_in n (purged deck n (choices.Purge named))))
        ∙ or_right (list_any (is_removal deck (length vs + 1) s target) w.told) _
        (ap (λ ls. list_any (is_removal deck (length vs + 1) s target) (told_by (w.events + 1) c ls)) told_is
        ∙ or_left _ _ here)

    by_event : (n : NodeState) → slice_get w.nodes e.system.0 ≡ Some n → has w.medium.removed e.system.0 ≡ false
        → (o : Turnout) → Removes deck w.medium e.system n e.choice o → ToldBy n o
    by_event n at alive o (nobody kept none) h =
        no_truth (purges s target (fixed_by e.system o.step.fixed))
        (ap (purges s target) (sym (drop-append_seam w.fixed (fixed_by e.system o.step.fixed))) ∙ h)
        (purges-none s target e.system o.step.fixed none)
    by_event n at alive o (one named choice next lives is) h =
        subst (ToldBy n) (sym is) (removal_told n named at alive next) h

    told_by_event : ToldIn (run deck (vs ++ e ∷ [])).fixed (run deck (vs ++ e ∷ [])).told
    told_by_event = subst (λ (x : World). ToldIn x.fixed x.told) (sym (run-push deck vs (first_world deck) e))
        (each_live deck w e (λ (x : World). ToldIn x.fixed x.told)
        (λ h. absurd (let none : false ≡ true = ap (purges s target) (sym (dropped-all w.fixed)) ∙ h in cc))
        (λ n at alive.
        let o = chosen deck w.medium e.system n e.choice in
        subst₂ ToldIn (sym (fixed-placed w e.system n o)) (sym (told-placed w e.system n o))
        (by_event n at alive o (what_removes deck w.medium e.system n alive e.choice))))

  pub removals_told : (es : List Event) → ((k : ℕ) → AreHome (take k es)) → (e : ℕ)
      → RemovalsTold deck e (fixed_in deck es e) (run deck es).told
  removals_told es home zero s target h =
      absurd (let none : false ≡ true = ap (purges s target) (sym (dropped-all (run deck []).fixed)) ∙ h in cc)
  removals_told es home (suc k) s target h = go (slice_get es k) refl
    where
      less : suc k - 1 ≡ k
      less = omega arith

      now : purges s target (drop (length (run deck (take k es)).fixed) (run deck (take (suc k) es)).fixed) ≡ true
      now =
          ap (λ i. purges s target (drop (length (run deck (take i es)).fixed) (run deck (take (suc k) es)).fixed))
          (sym less)
          ∙ h

      go : (o : Option Event) → slice_get es k ≡ o
          → list_any (is_removal deck (suc k) s target) (run deck es).told ≡ true
      go None at =
          absurd (let none : false ≡ true =
          ap (purges s target) (sym (dropped-all (run deck (take k es)).fixed))
          ∙ (ap (λ us. purges s target (drop (length (run deck (take k es)).fixed) (run deck us).fixed))
          (sym (take-no_more es k at))
          ∙ now) in
          cc)
      go (Some e) at =
          let more = take-more es k e at in
          let vs : List Event = take k es in
          let number : length vs + 1 ≡ suc k = omega (arith, more.1) in
          let told : list_any (is_removal deck (length vs + 1) s target) (run deck (vs ++ e ∷ [])).told ≡ true =
          told_by_event vs e (home k) s target
          (subst (λ us. purges s target (drop (length (run deck vs).fixed) (run deck us).fixed) ≡ true) more.0 now) in
          let all : es ≡ (vs ++ e ∷ []) ++ drop (suc k) es =
          sym (take-append-drop (suc k) es) ∙ ap (λ us. us ++ drop (suc k) es) more.0 in
          subst (λ us. list_any (is_removal deck (suc k) s target) (run deck us).told ≡ true) (sym all)
          (subst (λ (x : World). list_any (is_removal deck (suc k) s target) x.told ≡ true)
          (sym (run-behind (first_world deck) (vs ++ e ∷ []) (drop (suc k) es)))
          (told-stays (is_removal deck (suc k) s target) (run deck (vs ++ e ∷ [])) (drop (suc k) es)
          (subst (λ j. list_any (is_removal deck j s target) (run deck (vs ++ e ∷ [])).told ≡ true) number told)))
