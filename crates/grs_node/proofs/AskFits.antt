-- Before a system acts it fits the deck, and so its calls go to systems and lock entries that there are.
use Rattle.std.proofs.Common.{◌≡◌, ◌≢◌, ◌<◌, ◌+◌, ℕ, zero, suc, Bool, true, false, cond, List, [], ◌∷◌}
use Rattle.std.proofs.Common.{length, Option, Some, None, refl, ap, sym, ◌∙◌}
use Rattle.std.proofs.Common.{subst, arith}
use Rattle.std.specs.Prelude.{not, ◌&&◌, ◌==◌, nat_lt, nat_le, slice_index_or}
use Rattle.std.specs.Prelude.{find}
use Rattle.std.specs.List.{list_all}
use Rattle.std.specs.Option.{option_map, option_map_or}
use Rattle.std.specs.Ordering.{is_lt}
use Rattle.grs_base.specs.Limits.{most_additions}
use Rattle.grs_base.specs.ResOrder.{res_order}
use Rattle.std.proofs.lemmas.Bool.{and_parts, eqb-true}
use Rattle.std.proofs.lemmas.Bool.Decides.{nat_tests}
use Rattle.std.proofs.lemmas.List.{length-take}
use Rattle.std.proofs.lemmas.Nat.{mod_below}
use Rattle.grs_base.specs.Slices.{entry_of, slice_of}
use Rattle.grs_base.specs.declared.resource.Res.TheVariants.{Step as StepRes, System as SystemRes, Systems}
use Rattle.contention_mgr.proofs.ElementLemmas.{elements-kept}
use Rattle.contention_mgr.specs.Elements.{elements_of}
use Rattle.contention_mgr.specs.Manager.{Ranked, first_untold, owner_of, sooner}
use Rattle.contention_mgr.specs.Manager.{is_untold, are_of, entry_wanted, managed_at, items_of}
use Rattle.lock_structure.specs.Entries.{entry_of_res}
use Rattle.grs_base.specs.declared.resource.Res.{Res}
use Rattle.grs_base.specs.declared.resource.SysId.{SysId}
use Rattle.grs_base.specs.declared.resource.TaskId.{TaskId}
use Rattle.grs_node.specs.Addressed.{is_act_addressed, is_addressed, is_within, PartFits, AnyPartFits}
use Rattle.grs_node.specs.Addressed.{NodeFits, is_owed_within}
use Rattle.grs_node.specs.Names.{names_of}
use Rattle.grs_node.specs.Room.{told_next}
use Rattle.grs_node.specs.Node.{NodeState, purge_call, prepare, star_call}
use Rattle.grs_node.specs.Node.{prepared_by, star_need, turn_call, may_go, may_send, is_pending}
use Rattle.grs_node.specs.Node.{next_order}
use Rattle.grs_node.specs.Star.{StarPart, to_tell, send_of, send_to, first_held, settle_by}
use Rattle.grs_node.specs.Star.{tell_by, part_by, owed_to, leave_by, may_leave, has_interest, gathers}
use Rattle.grs_node.specs.Star.{may_settle, besides_first, entry_for}
use Rattle.grs_wire.specs.Masks.{has}
use Rattle.system_purge.specs.Gather.{part_of}
use Rattle.grs_node.specs.declared.prepared.Prepared.TheVariants.{Quiet, Call, Nothing}
use Rattle.grs_node.specs.declared.star.Need.{Need}
use Rattle.grs_node.specs.declared.star.Need.TheVariants.{Asks, Idle}
use Rattle.grs_node.proofs.Calls.{target-of}
use Rattle.grs_node.proofs.Orderly.{at, all-at}
use Rattle.grs_node.proofs.ChangeFits.{switch-fits}
use Rattle.grs_wire.specs.declared.deck.Choice.{Choice}
use Rattle.grs_wire.specs.declared.deck.Deck.{Deck}
use Rattle.grs_wire.specs.declared.deck.Order.{Order}
use Rattle.grs_wire.specs.declared.request.Req.{Req}
use Rattle.grs_wire.specs.declared.request.Want.{Want}
use Rattle.grs_wire.specs.declared.request.Want.TheVariants.{Enq, Deq, Release, Look}
use Rattle.task_state.specs.View.{TasksView, state_of}
use Rattle.task_state.specs.declared.state.Asked.{Asked}
use Rattle.grs_wire.specs.declared.deck.Choice.TheVariants as choices
use Rattle.grs_wire.specs.declared.deck.Order.TheVariants as orders
use Rattle.grs_wire.specs.declared.medium.Act.TheVariants as acts
use Rattle.grs_wire.specs.declared.medium.Mail.TheVariants as mails

-- ---- lock entries
pub lt-below : (a b : ℕ) → a < b → nat_lt a b ≡ true
lt-below a b h = grind (arith, nat_tests, h)

below-slice : (n slice e : ℕ) → 0 < n → Some (entry_of slice n) ≡ Some e → nat_lt e n ≡ true
below-slice n slice e some is =
    subst (λ (o : Option ℕ). option_map_or (λ x. nat_lt x n) o true ≡ true) is
    (lt-below (entry_of slice n) n (mod_below slice n some))

below-res : (n : ℕ) (r : Res) (e : ℕ) → 0 < n → entry_of_res n r ≡ Some e → nat_lt e n ≡ true
below-res n (StepRes s j q r) e some is = cc
below-res n (SystemRes s q r) e some is = cc
below-res n (Systems q r) e some is = below-slice n (slice_of q r) e some is

-- the lock entry of a request is one that there is
pub below-wanted : (n : ℕ) (w : Want) (e : ℕ) → 0 < n → entry_wanted n w ≡ Some e → nat_lt e n ≡ true
below-wanted n (Enq r c ret full) e some is = below-res n r e some is
below-wanted n (Deq r have) e some is = below-res n r e some is
below-wanted n (Release r) e some is = below-res n r e some is
below-wanted n (Look first count f) e some is =
    go (nat_lt 0 count && nat_le (first + count) 64 && are_of n (entry_of first n) first count) is
  where
    go : (b : Bool) → cond b (Some (entry_of first n)) None ≡ Some e → nat_lt e n ≡ true
    go true h = below-slice n first e some h
    go false h = cc

-- ---- who is told first
sooner-of : (p : TaskId → Bool) (y : Ranked) (o : Option Ranked) → p y.elem.task ≡ true
    → option_map_or (λ z. p z.elem.task) o true ≡ true → p (sooner y o).elem.task ≡ true
sooner-of p y None here later = here
sooner-of p y (Some z) here later = go (is_lt (res_order z.res y.res))
  where
    go : (b : Bool) → p (cond b z y).elem.task ≡ true
    go true = later
    go false = here

any-first : (p : TaskId → Bool) (home : ℕ) (xs : List Ranked) → elements_of p xs ≡ true
    → option_map_or (λ z. p z.elem.task) (first_untold home xs) true ≡ true
any-first p home [] h = refl
any-first p home (y ∷ xs) h = go (is_untold home y) (any-first p home xs (and_parts (p y.elem.task) _ h).1)
  where
    go : (b : Bool) → option_map_or (λ z. p z.elem.task) (first_untold home xs) true ≡ true
        → option_map_or (λ z. p z.elem.task) (cond b (Some (sooner y (first_untold home xs))) (first_untold home xs))
        true
        ≡ true
    go true later = sooner-of p y (first_untold home xs) (and_parts (p y.elem.task) _ h).0 later
    go false later = later

first-of : (p : TaskId → Bool) (home : ℕ) (xs : List Ranked) (x : Ranked) → elements_of p xs ≡ true
    → first_untold home xs ≡ Some x → p x.elem.task ≡ true
first-of p home xs x h is =
    subst (λ (o : Option Ranked). option_map_or (λ z. p z.elem.task) o true ≡ true) is (any-first p home xs h)

-- ---- the first request that passes a test, and the others
pub found : (good test : Req → Bool) (qs : List Req) → list_all good qs ≡ true
    → option_map_or good (find test qs) true ≡ true
found good test [] h = refl
found good test (q ∷ qs) h = go (test q) (found good test qs (and_parts (good q) (list_all good qs) h).1)
  where
    go : (b : Bool) → option_map_or good (find test qs) true ≡ true
        → option_map_or good (cond b (Some q) (find test qs)) true ≡ true
    go true rest = (and_parts (good q) (list_all good qs) h).0
    go false rest = rest

pub left-others : (good test : Req → Bool) (qs : List Req) → list_all good qs ≡ true
    → list_all good (besides_first test qs) ≡ true
left-others good test [] h = refl
left-others good test (q ∷ qs) h = go (test q) (left-others good test qs (and_parts (good q) (list_all good qs) h).1)
  where
    parts : (good q ≡ true) × (list_all good qs ≡ true)
    parts = and_parts (good q) (list_all good qs) h

    joined : (a b : Bool) → a ≡ true → b ≡ true → (a && b) ≡ true
    joined a b e f = rw (e, f) refl

    go : (b : Bool) → list_all good (besides_first test qs) ≡ true
        → list_all good (cond b qs (q ∷ besides_first test qs)) ≡ true
    go true rest = parts.1
    go false rest = joined (good q) (list_all good (besides_first test qs)) parts.0 rest

-- ---- what is prepared
abbrev need-fits : Deck → ℕ → Need → Bool
need-fits deck home (Asks act) = is_act_addressed deck home act
need-fits deck home Idle = true

prepared-fits : (deck : Deck) (home known : ℕ) (need : Need) → need-fits deck home need ≡ true
    → is_addressed deck home (prepared_by known need) ≡ true
prepared-fits deck home known (Asks act) h = h
prepared-fits deck home known Idle h = refl

module _ (deck : Deck) (home : ℕ) (p : StarPart) (fits : PartFits deck home p) where
  send-fits : (t : TaskId) (o : Option Asked) → need-fits deck home (send_of p t o) ≡ true
  send-fits t None = refl
  send-fits t (Some a) = go (entry_for p a.req.want) refl
    where
      one : (e : ℕ) (b : Bool) → nat_lt e deck.entries ≡ true
          → need-fits deck home (cond b Idle (Asks (acts.Submit e (record { task = t; want = a.req.want })))) ≡ true
      one e true h = refl
      one e false h = h

      go : (at : Option ℕ) → entry_for p a.req.want ≡ at
          → need-fits deck home (send_to p (record { task = t; want = a.req.want }) at) ≡ true
      go None is = refl
      go (Some e) is =
          one e (gathers p e) (below-wanted deck.entries a.req.want e fits.some
          (ap (λ (n : ℕ). entry_wanted n a.req.want) (sym fits.entries) ∙ is))

  settle-fits : (o : Option Req) → option_map_or (λ q. is_within deck q.task) o true ≡ true
      → need-fits deck home (settle_by p o) ≡ true
  settle-fits None h = refl
  settle-fits (Some q) h = h

  part-fits-deck : (names : List TaskId) (known : ℕ) (v : TasksView) (e : ℕ) (o : Option SysId)
      → is_owed_within deck o ≡ true → need-fits deck home (part_by names known p v e o) ≡ true
  part-fits-deck names known v e None h = refl
  part-fits-deck names known v e (Some to) h = go (has known to.0)
    where
      go : (b : Bool)
          → need-fits deck home
          (cond b Idle
          (Asks (acts.Tell to (mails.Part e p.manager.system (part_of (length p.manager.entries) e names v)))))
          ≡ true
      go true = refl
      go false = h

  tell-fits : (e : ℕ) → need-fits deck home (tell_by (to_tell p e)) ≡ true
  tell-fits e = go (first_untold p.manager.system.0 (items_of (managed_at p.manager e))) refl
    where
      go : (o : Option Ranked) → first_untold p.manager.system.0 (items_of (managed_at p.manager e)) ≡ o
          → need-fits deck home (tell_by (option_map owner_of o)) ≡ true
      go None is = refl
      go (Some x) is =
          first-of (is_within deck) p.manager.system.0 (items_of (managed_at p.manager e)) x
          (elements-kept (is_within deck) p.manager.entries e fits.elements) is

  interest-below : (flags : List Bool) (e : ℕ) → slice_index_or flags e false ≡ true → nat_lt e (length flags) ≡ true
  interest-below [] e h = cc
  interest-below (b ∷ bs) zero h = grind (arith, nat_tests)
  interest-below (b ∷ bs) (suc e) h = grind (arith, nat_tests, interest-below bs e h)

  leave-fits : (v : TasksView) (e : ℕ) → need-fits deck home (leave_by p v e) ≡ true
  leave-fits v e = go (may_leave p v e) refl
    where
      go : (b : Bool) → may_leave p v e ≡ b → need-fits deck home (cond b (Asks (acts.Leave e)) Idle) ≡ true
      go false is = refl
      go true is =
          ap (λ (n : ℕ). nat_lt e n) (sym fits.interest)
          ∙ interest-below p.interest e (and_parts (has_interest p e) _ is).0

need-choice : (deck : Deck) (home : ℕ) (n : NodeState) (p : StarPart) → PartFits deck home p → (choice : Choice)
    → need-fits deck home (star_need deck n p choice) ≡ true
need-choice deck home n p fits (choices.Send t) = go (may_send deck n t)
  where
    go : (b : Bool) → need-fits deck home (cond b (send_of p t (state_of n.tasks t).outstanding) Idle) ≡ true
    go true = send-fits deck home p fits t (state_of n.tasks t).outstanding
    go false = refl
need-choice deck home n p fits choices.Take = refl
need-choice deck home n p fits choices.Settle =
    settle-fits deck home p fits (first_held p) (found (λ q. is_within deck q.task) (may_settle p) p.held fits.held)
need-choice deck home n p fits (choices.Tell e) = tell-fits deck home p fits e
need-choice deck home n p fits (choices.Leave e) = leave-fits deck home p fits n.tasks e
need-choice deck home n p fits (choices.Part e) =
    part-fits-deck deck home p fits (names_of deck n.tasks.system) n.known n.tasks e (owed_to p e)
    (all-at (is_owed_within deck) p.owes e fits.gathering.owed refl)
need-choice deck home n p fits (choices.Task t) = refl
need-choice deck home n p fits choices.Turn = refl
need-choice deck home n p fits choices.Switch = refl
need-choice deck home n p fits (choices.Purge s) = refl
need-choice deck home n p fits choices.Rest = refl

star-call-fits : (deck : Deck) (home : ℕ) (n : NodeState) (o : Option StarPart) (choice : Choice)
    → AnyPartFits deck home o → is_addressed deck home (star_call deck n o choice) ≡ true
unfolding star_call
star-call-fits deck home n None choice fits = refl
star-call-fits deck home n (Some p) choice fits =
    prepared-fits deck home n.known (star_need deck n p choice) (need-choice deck home n p fits choice)

turn-fits : (deck : Deck) (home : ℕ) (n : NodeState) (o : Option StarPart)
    → is_addressed deck home (turn_call n o) ≡ true
turn-fits deck home n None = let few = length-take most_additions n.outbox in grind (arith, nat_tests, few)
turn-fits deck home n (Some p) = refl

quiet-fits : (deck : Deck) (home : ℕ) (b : Bool) → is_addressed deck home (cond b Quiet Nothing) ≡ true
quiet-fits deck home true = refl
quiet-fits deck home false = refl

rest-fits : (deck : Deck) (home known : ℕ) (b : Bool)
    → is_addressed deck home (cond b Nothing (Call (record { known = known; act = acts.Rest }))) ≡ true
rest-fits deck home known true = refl
rest-fits deck home known false = refl

-- a removal is of another system
purge-fits : (deck : Deck) (n : NodeState) (target : SysId) (o : Option Order) → next_order deck n ≡ o → NodeFits deck n
    → is_addressed deck n.tasks.system (purge_call n target o) ≡ true
purge-fits deck n target None is fits = refl
purge-fits deck n target (Some orders.Star) is fits = refl
purge-fits deck n target (Some (orders.Vary named)) is fits = go (named.0 == target.0) refl
  where
    other : (a b : ℕ) → a ≢ b → (a == b) ≡ false
    other a b h = apart (a == b) refl
      where
        apart : (c : Bool) → (a == b) ≡ c → (a == b) ≡ false
        apart true e = absurd (h (eqb-true a b e))
        apart false e = e

    joined : (a b : Bool) → a ≡ true → b ≡ false → (a && not b) ≡ true
    joined a b e f = rw (e, f) refl

    go : (b : Bool) → (named.0 == target.0) ≡ b
        → is_addressed deck n.tasks.system (cond b (Call (record { known = n.known; act = acts.Purge target })) Nothing)
        ≡ true
    go false e = refl
    go true e =
        let same : named.0 ≡ target.0 = eqb-true named.0 target.0 e in
        let fit = target-of deck n named (length deck.systems) fits.orders is in
        let below : nat_lt target.0 (length deck.systems) ≡ true =
        lt-below target.0 (length deck.systems) (subst (λ (k : ℕ). k < length deck.systems) same fit.0) in
        let apart : (target.0 == n.tasks.system) ≡ false =
        other target.0 n.tasks.system (subst (λ (k : ℕ). k ≢ n.tasks.system) same fit.1) in
        joined (nat_lt target.0 (length deck.systems)) (target.0 == n.tasks.system) below apart

pub prepare-addressed : (deck : Deck) (n : NodeState) (choice : Choice) → NodeFits deck n
    → is_addressed deck n.tasks.system (prepare deck n choice) ≡ true
unfolding prepare
prepare-addressed deck n (choices.Task t) fits = quiet-fits deck n.tasks.system (may_go deck n t)
prepare-addressed deck n choices.Turn fits = turn-fits deck n.tasks.system n n.star
prepare-addressed deck n choices.Rest fits = rest-fits deck n.tasks.system n.known (is_pending deck n)
prepare-addressed deck n (choices.Send t) fits = star-call-fits deck n.tasks.system n n.star (choices.Send t) fits.part
prepare-addressed deck n choices.Take fits = star-call-fits deck n.tasks.system n n.star choices.Take fits.part
prepare-addressed deck n choices.Settle fits = star-call-fits deck n.tasks.system n n.star choices.Settle fits.part
prepare-addressed deck n (choices.Tell e) fits = star-call-fits deck n.tasks.system n n.star (choices.Tell e) fits.part
prepare-addressed deck n (choices.Part e) fits = star-call-fits deck n.tasks.system n n.star (choices.Part e) fits.part
prepare-addressed deck n (choices.Leave e) fits =
    star-call-fits deck n.tasks.system n n.star (choices.Leave e) fits.part
prepare-addressed deck n choices.Switch fits = switch-fits deck n (next_order deck n) fits.shared
prepare-addressed deck n (choices.Purge s) fits = purge-fits deck n s (next_order deck n) refl fits

pub ruleset prepares = (prepare-addressed)

-- a Tell makes the call that tells who is told next
pub tell-prepared : (deck : Deck) (n : NodeState) (e : ℕ)
    → prepare deck n (choices.Tell e) ≡ prepared_by n.known (tell_by (told_next n.star e))
unfolding prepare star_call
tell-prepared deck n e = go n.star
  where
    go : (part : Option StarPart)
        → star_call deck n part (choices.Tell e) ≡ prepared_by n.known (tell_by (told_next part e))
    go None = refl
    go (Some p) = refl

pub ruleset tells = (tell-prepared, prepare-addressed)
