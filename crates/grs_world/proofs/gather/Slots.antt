-- Each element of the lists of a lock entry is of a resource of that entry, at whoever manages it, in every run of a
-- complex that begins in star mode, whichever systems are removed.
use Rattle.grs_world.proofs.Common.{[], ◌&&◌, ◌++◌, ◌+◌, ◌==◌, ◌∙◌, ◌∷◌, ◌≡◌, ◌≢◌, ◌⊎◌, after_request, after_telling}
use Rattle.grs_world.proofs.Common.{and_from, and_parts, ap, arith, awaited, awaiting, begun, Bool, by_test, Choice}
use Rattle.grs_world.proofs.Common.{cond, Ctl, decide_own, Deck, Deq, desk_told, Enq, entry_of_res, entry_wanted}
use Rattle.grs_world.proofs.Common.{eq-eqb, eqb-false, eqb-true, Event, false, filter, first_node, first_part}
use Rattle.grs_world.proofs.Common.{fixing_none, Gathering, gathering_at, inl, inr, is_for_deck, is_item_of, is_news}
use Rattle.grs_world.proofs.Common.{is_none, is_of_deck, is_some, kept_for, known_from, length, length-map}
use Rattle.grs_world.proofs.Common.{length-replicate, length-set, lines_of, List, list_all, list_of, Look, lose, losing}
use Rattle.grs_world.proofs.Common.{losing_in, Mail, Managed, managed_at, managed_of, ManagerView, map, MediumState}
use Rattle.grs_world.proofs.Common.{members, move_entry, Moved, names_of, new_owners, no_elements, NodeState, None, not}
use Rattle.grs_world.proofs.Common.{Option, option_map, option_map_or, owing, PartRec, plain, purged, Ranked, refl}
use Rattle.grs_world.proofs.Common.{Release, replicate, Res, run, Said, same_Some, sent_again, settled, slice_get}
use Rattle.grs_world.proofs.Common.{slice_set, Some, stale, Standing, standing, standing_of, StarPart, State}
use Rattle.grs_world.proofs.Common.{stays-task, subst, suc, switched, sym, SysId, take_mail, take_up, TaskId, took_mail}
use Rattle.grs_world.proofs.Common.{true, Turnout, unwrap_or, Want, with_also, with_entry, with_role, without_those}
use Rattle.grs_world.proofs.Common.{zero, ℕ}
use Rattle.contention_mgr.specs.Manager.{enqueued, exclusive, given_up, is_of, made_exclusive, managed_for, marked}
use Rattle.contention_mgr.specs.Manager.{taken_out, told as told_in, with_control, with_mark}
use Rattle.contention_mgr.specs.Installs.{kept_of, lists_of}
use Rattle.contention_mgr.specs.Loses.{after_losing, Freed, freed_lists, lost, stays, with_freed}
use Rattle.grs_base.specs.Lists.{is_owner}
use Rattle.grs_base.specs.declared.decision.Effect.{Effect}
use Rattle.grs_node.specs.Node.{changed as changed_now}
use Rattle.grs_node.specs.Star.{is_held_for, managing, not_managing}
use Rattle.lock_structure.specs.Entries.{is_entry}
use Rattle.system_purge.proofs.GatheredParts.{all-left, all-lost-right, all-more, gathered-of-entry, get-right}
use Rattle.system_purge.proofs.GatheredParts.{none-right, part-right, set-right}
use Rattle.system_purge.specs.Gather.{gathered, part_of}
use Rattle.system_purge.specs.Gathers.{keep_right_from, keeps_right, parts_in, with_part, with_part_at, without_sender}
use Rattle.grs_world.proofs.gather.way.Steps.{set-other}
use Rattle.grs_world.proofs.run.Came.{acted, Acts, already, began, Came, changed, decided, informed, last_turn, left}
use Rattle.grs_world.proofs.run.Came.{no_part, no_such, nothing, parted, removes_one, removes_star, Result, sent}
use Rattle.grs_world.proofs.run.Came.{settled as settled_one, told, took, turn, went_on}
use Rattle.grs_world.proofs.run.Chosen.{came}
use Rattle.grs_world.proofs.run.Each.{systems_run}
use Rattle.grs_world.proofs.run.Lost.{by-loss, by-notice, by-part}
use Rattle.grs_base.specs.declared.decision.Effect.TheVariants as effects
use Rattle.grs_wire.specs.declared.medium.Mail.TheVariants as mails
use Rattle.grs_wire.specs.declared.told.Said.TheVariants as saids

-- ---- the elements of entry f, where there are n
module _ (n f : ℕ) where
  abbrev pub is_in : Ranked → Bool
  is_in x = is_entry f (entry_of_res n x.res)

  abbrev pub AllIn : List Ranked → Type 0
  AllIn xs = list_all (λ x. is_entry f (entry_of_res n x.res)) xs ≡ true

  -- what changes no element's resource
  same-res : (g : Ranked → Ranked) → ((x : Ranked) → is_in (g x) ≡ is_in x) → (xs : List Ranked) → AllIn xs
      → AllIn (map g xs)
  same-res g same [] h = refl
  same-res g same (x ∷ xs) h =
      let both = and_parts (is_in x) (list_all (λ y. is_entry f (entry_of_res n y.res)) xs) h in
      and_from (is_in (g x)) (list_all (λ y. is_entry f (entry_of_res n y.res)) (map g xs)) (same x ∙ both.0)
      (same-res g same xs both.1)

  exclusive-in : (r : Res) (t : TaskId) (xs : List Ranked) → AllIn xs → AllIn (made_exclusive r t xs)
  exclusive-in r t xs h =
      same-res (λ x. cond (is_of r t x) (exclusive x) x)
      (λ x.
      by_test (λ (y : Ranked). is_in y ≡ is_in x) (is_of r t x) (exclusive x) x (λ here. refl) (λ other. refl))
      xs h

  mark-in : (b : Bool) (r : Res) (t : TaskId) (xs : List Ranked) → AllIn xs → AllIn (with_mark b r t xs)
  mark-in b r t xs h =
      same-res (λ x. cond (is_of r t x) (marked b x) x)
      (λ x.
      by_test (λ (y : Ranked). is_in y ≡ is_in x) (is_of r t x) (marked b x) x (λ here. refl) (λ other. refl))
      xs h

  control-in : (s : ℕ) (r : Res) (ts : List TaskId) (xs : List Ranked) → AllIn xs → AllIn (with_control s r ts xs)
  control-in s r [] xs h = h
  control-in s r (t ∷ ts) xs h =
      control-in s r ts (cond (not (s == t.system.0)) (with_mark true r t xs) xs)
      (by_test (λ (ys : List Ranked). AllIn ys) (not (s == t.system.0)) (with_mark true r t xs) xs
      (λ far. mark-in true r t xs h) (λ near. h))

  enqueued-in : (m : Managed) (r : Res) (t : TaskId) (c : Ctl) (x : Effect) → entry_of_res n r ≡ Some f
      → AllIn m.items → AllIn (enqueued m r t c x).items
  enqueued-in m r t c effects.Nothing here h = h
  enqueued-in m r t c effects.Append here h =
      all-more (λ y. is_entry f (entry_of_res n y.res)) m.items _ h (ap (is_entry f) here ∙ eq-eqb f f refl)
  enqueued-in m r t c effects.MakeExclusive here h = exclusive-in r t m.items h

  given-in : (s : ℕ) (m : Managed) (r : Res) (t : TaskId) (owners : List TaskId) → AllIn m.items
      → AllIn (given_up s m r t owners).items
  given-in s m r t owners h =
      control-in s r owners (taken_out r t m.items)
      (all-left (λ y. is_entry f (entry_of_res n y.res)) (λ x. not (is_of r t x)) m.items h)

  settled-in : (s : ℕ) (m : Managed) (t : TaskId) (w : Want) → entry_wanted n w ≡ Some f → AllIn m.items
      → AllIn (settled s m t w).items
  settled-in s m t (Enq r c ret full) here h = enqueued-in m r t c _ here h
  settled-in s m t (Deq r have) here h =
      by_test (λ (k : Managed). AllIn k.items) (is_owner (standing_of (list_of (plain m.items) r) t))
      (given_up s m r t (new_owners (plain m.items) t (Deq r have))) m
      (λ owns. given-in s m r t (new_owners (plain m.items) t (Deq r have)) h) (λ none. h)
  settled-in s m t (Release r) here h = given-in s m r t (new_owners (plain m.items) t (Release r)) h
  settled-in s m t (Look first count x) here h = h

  -- records that are taken up, and elements that are left behind a loss
  records-in : (s : ℕ) (lists : State) (ys : List PartRec)
      → list_all (λ y. is_entry f (entry_of_res n y.res)) ys ≡ true → AllIn (map (kept_of s lists) ys)
  records-in s lists [] h = refl
  records-in s lists (y ∷ ys) h =
      let both =
      and_parts (is_entry f (entry_of_res n y.res)) (list_all (λ z. is_entry f (entry_of_res n z.res)) ys) h in
      and_from (is_entry f (entry_of_res n y.res)) _ both.0 (records-in s lists ys both.1)

  freed-in : (s : ℕ) (fs : List Freed) (xs : List Ranked) → AllIn xs → AllIn (with_freed s fs xs)
  freed-in s [] xs h = h
  freed-in s (x ∷ fs) xs h = freed-in s fs (with_control s x.0 x.1 xs) (control-in s x.0 x.1 xs h)

  lost-in : (s u : ℕ) (m : Managed) → AllIn m.items → AllIn (lost s u m).items
  lost-in s u m h =
      freed-in s (freed_lists u (plain m.items)) (filter (stays u) m.items)
      (all-left (λ y. is_entry f (entry_of_res n y.res)) (stays u) m.items h)

-- ---- a manager
abbrev pub SlotsIn : ℕ → ManagerView → Type 0
SlotsIn n v = (f : ℕ) (m : Managed) → managed_at v f ≡ Some m → AllIn n f m.items

-- what is set at a place is there, or the place isn't
pub set-either : {X : Type 0} (os : List (Option X)) (i : ℕ) (o : Option X)
    → (unwrap_or (slice_get (slice_set os i o) i) None ≡ o)
    ⊎ (unwrap_or (slice_get (slice_set os i o) i) None ≡ unwrap_or (slice_get os i) None)
set-either [] i o = inr refl
set-either (x ∷ os) zero o = inl refl
set-either (x ∷ os) (suc i) o = set-either os i o

pub map-at : {X : Type 0} (g : X → X) (os : List (Option X)) (i : ℕ)
    → unwrap_or (slice_get (map (option_map g) os) i) None ≡ option_map g (unwrap_or (slice_get os i) None)
map-at g [] i = refl
map-at g (x ∷ os) zero = refl
map-at g (x ∷ os) (suc i) = map-at g os i

module _ (n : ℕ) where
  entry-in : (v : ManagerView) (e : Option ℕ) (o : Option Managed)
      → ((f : ℕ) (m : Managed) → e ≡ Some f → o ≡ Some m → AllIn n f m.items) → SlotsIn n v
      → SlotsIn n (with_entry v e o)
  entry-in v None o new h f m is = h f m is
  entry-in v (Some e) o new h f m is = go (f == e) refl
    where
      go : (b : Bool) → (f == e) ≡ b → AllIn n f m.items
      go false other = h f m (sym (set-other v.entries e f o (eqb-false f e other)) ∙ is)
      go true same = by (set-either v.entries e o)
        where
          place : f ≡ e
          place = eqb-true f e same

          by : (unwrap_or (slice_get (slice_set v.entries e o) e) None ≡ o)
              ⊎ (unwrap_or (slice_get (slice_set v.entries e o) e) None ≡ unwrap_or (slice_get v.entries e) None)
              → AllIn n f m.items
          by (inl there) =
              new f m (ap Some (sym place))
              (sym there ∙ (ap (λ i. unwrap_or (slice_get (slice_set v.entries e o) i) None) (sym place) ∙ is))
          by (inr past) =
              h f m
              (ap (λ i. unwrap_or (slice_get v.entries i) None) place
              ∙ (sym past ∙ (ap (λ i. unwrap_or (slice_get (slice_set v.entries e o) i) None) (sym place) ∙ is)))

  some-in : (v : ManagerView) (e : Option ℕ) (g : Managed → Managed) (o : Option Managed) → kept_for v.entries e ≡ o
      → ((f : ℕ) (m : Managed) → e ≡ Some f → AllIn n f m.items → AllIn n f (g m).items) → SlotsIn n v
      → SlotsIn n (option_map_or (λ m. with_entry v e (Some (g m))) o v)
  some-in v e g None at stay h = h
  some-in v e g (Some m) at stay h =
      entry-in v e (Some (g m))
      (λ f k is same.
      subst (λ (z : Managed). AllIn n f z.items) (same_Some (g m) k same)
      (stay f m is (h f m (sym (ap (kept_for v.entries) is) ∙ at))))
      h

  request-in : (v : ManagerView) (t : TaskId) (w : Want) → length v.entries ≡ n → SlotsIn n v
      → SlotsIn n (after_request v t w)
  request-in v t w count h =
      some-in v (entry_wanted (length v.entries) w) (λ m. settled v.system.0 m t w) (managed_for v w) refl
      (λ f m is k. settled-in n f v.system.0 m t w (ap (λ i. entry_wanted i w) (sym count) ∙ is) k) h

  telling-in : (v : ManagerView) (t : TaskId) (r : Res) → SlotsIn n v → SlotsIn n (after_telling v t r)
  telling-in v t r h =
      some-in v (entry_of_res (length v.entries) r) (told_in t r) (managed_of v r) refl
      (λ f m is k. mark-in n f false r t m.items k) h

  managing-in : (v : ManagerView) (e : ℕ) → SlotsIn n v → SlotsIn n (managing v e)
  managing-in v e h =
      by_test (λ (z : ManagerView). SlotsIn n z) (is_some (managed_at v e)) v
      (with_entry v (Some e) (Some no_elements)) (λ mine. h)
      (λ other.
      entry-in v (Some e) (Some no_elements)
      (λ f m is same. subst (λ (z : Managed). AllIn n f z.items) (same_Some no_elements m same) refl) h)

  leaving-in : (v : ManagerView) (e : ℕ) → SlotsIn n v → SlotsIn n (not_managing v e)
  leaving-in v e h =
      by_test (λ (z : ManagerView). SlotsIn n z) (is_some (managed_at v e)) (with_entry v (Some e) None) v
      (λ mine. entry-in v (Some e) None (λ f m is same. absurd (cc)) h) (λ other. h)

  losses-in : (v : ManagerView) (s : SysId) → SlotsIn n v → SlotsIn n (after_losing v s)
  losses-in v s h f m is =
      go (managed_at v f) refl (sym (map-at (lost v.system.0 s.0) v.entries f) ∙ is)
    where
      go : (o : Option Managed) → managed_at v f ≡ o → option_map (lost v.system.0 s.0) o ≡ Some m
          → AllIn n f m.items
      go None at k = absurd (cc)
      go (Some x) at k =
          subst (λ (z : Managed). AllIn n f z.items) (same_Some (lost v.system.0 s.0 x) m k)
          (lost-in n f v.system.0 s.0 x (h f x at))

  -- ---- a system's part
  pub record IsPure (p : StarPart) : Type 0 where
    pub count : length p.manager.entries ≡ n
    pub gathers : length p.gathers ≡ n
    pub lists : SlotsIn n p.manager
    pub right : keep_right_from n 0 p.gathers ≡ true

  -- with another manager of as many entries
  of-manager : (p : StarPart) (v : ManagerView) → length v.entries ≡ length p.manager.entries → SlotsIn n v → IsPure p
      → IsPure (record p { manager = v })
  of-manager p v count lists h = record {
    count = count ∙ h.count;
    gathers = h.gathers;
    lists = lists;
    right = h.right;
  }

  at-right : (gs : List (Option Gathering)) (e : ℕ) → keep_right_from n 0 gs ≡ true
      → keeps_right n e (gathering_at gs e) ≡ true
  at-right gs e h = subst (λ k. keeps_right n k (gathering_at gs e) ≡ true) (omega arith) (get-right n 0 e gs h)

  set-at : (gs : List (Option Gathering)) (e : ℕ) (o : Option Gathering) → keep_right_from n 0 gs ≡ true
      → keeps_right n e o ≡ true → keep_right_from n 0 (slice_set gs e o) ≡ true
  set-at gs e o h new = set-right n 0 e gs o h (subst (λ k. keeps_right n k o ≡ true) (omega arith) new)

  up-pure : (names : List TaskId) (x : Standing) (e : ℕ) → IsPure x.part → IsPure (take_up names x e).part
  up-pure names x e h = record {
    count = length-set x.part.manager.entries e _ ∙ h.count;
    gathers = length-set x.part.gathers e None ∙ h.gathers;
    lists =
        entry-in x.part.manager (Some e) _
        (λ f m is same.
        subst (λ (z : Managed). AllIn n f z.items) (same_Some _ m same)
        (records-in n f x.part.manager.system.0
        (lists_of (gathered (part_of (length x.part.manager.entries) e names x.tasks)
        (parts_in (gathering_at x.part.gathers e))))
        (gathered (part_of (length x.part.manager.entries) e names x.tasks) (parts_in (gathering_at x.part.gathers e)))
        (subst
        (λ i.
        list_all (λ y. is_entry i (entry_of_res n y.res))
        (gathered (part_of (length x.part.manager.entries) e names x.tasks) (parts_in (gathering_at x.part.gathers e)))
        ≡ true)
        (same_Some e f is)
        (subst
        (λ k.
        list_all (λ y. is_entry e (entry_of_res n y.res))
        (gathered (part_of k e names x.tasks) (parts_in (gathering_at x.part.gathers e))) ≡ true)
        (sym h.count)
        (gathered-of-entry n e names x.tasks (gathering_at x.part.gathers e) (at-right x.part.gathers e h.right))))))
        h.lists;
    right = set-right n 0 e x.part.gathers None h.right refl;
  }

  lose-pure : (x : Standing) (s : SysId) → IsPure x.part → IsPure (lose x s).part
  lose-pure x s h = record {
    count = length-map x.part.manager.entries (option_map (lost x.part.manager.system.0 s.0)) ∙ h.count;
    gathers = length-map x.part.gathers (option_map (without_sender s)) ∙ h.gathers;
    lists = losses-in x.part.manager s h.lists;
    right = all-lost-right n 0 s x.part.gathers h.right;
  }

  role-pure : (known : ℕ) (p : StarPart) (m : Moved) → IsPure p → IsPure (with_role known p m)
  role-pure known p m h =
      by_test (λ (r : StarPart). IsPure r) (m.manager.0 == p.manager.system.0)
      (record p {
        gathers = awaiting p.gathers m.entry (awaited known p.manager.system.0 m.mask);
        owes = owing p.owes m.entry None;
      })
      (record p { owes = owing p.owes m.entry (Some m.manager) })
      (λ own. record {
        count = h.count;
        gathers =
            length-set p.gathers m.entry
            (Some (record { awaits = awaited known p.manager.system.0 m.mask; parts = [] }))
            ∙ h.gathers;
        lists = h.lists;
        right =
            set-at p.gathers m.entry
            (Some (record { awaits = awaited known p.manager.system.0 m.mask; parts = [] })) h.right refl;
      })
      (λ other. record { count = h.count; gathers = h.gathers; lists = h.lists; right = h.right })

  moved-pure : (known : ℕ) (x : Standing) (m : Moved) → IsPure x.part → IsPure (move_entry known x m).part
  moved-pure known x m h =
      by_test (λ (y : Standing). IsPure y.part) (is_news x.part m.entry)
      (standing (sent_again x.part m.entry x.tasks) (with_role known x.part m)) x (λ news. role-pure known x.part m h)
      (λ old. h)

  came-pure : (p : StarPart) (e : ℕ) (from : SysId) (recs : List PartRec) → IsPure p
      → IsPure (record p { gathers = with_part_at p.gathers e from recs })
  came-pure p e from recs h = go (gathering_at p.gathers e) refl
    where
      go : (o : Option Gathering) → gathering_at p.gathers e ≡ o →
          IsPure (record p {
            gathers =
                option_map_or (λ g. slice_set p.gathers e (Some (with_part (length p.gathers) e from recs g))) o
                p.gathers;
          })
      go None is = record { count = h.count; gathers = h.gathers; lists = h.lists; right = h.right }
      go (Some g) is = record {
        count = h.count;
        gathers = length-set p.gathers e (Some (with_part (length p.gathers) e from recs g)) ∙ h.gathers;
        lists = h.lists;
        right =
            set-at p.gathers e (Some (with_part (length p.gathers) e from recs g)) h.right
            (subst (λ k. keeps_right n e (Some (with_part k e from recs g)) ≡ true) (sym h.gathers)
            (part-right n e from recs g (subst (λ o. keeps_right n e o ≡ true) is (at-right p.gathers e h.right))));
      }

none-there : {X : Type 0} (k f : ℕ) (m : Managed)
    → unwrap_or (slice_get (replicate {A = Option Managed} k None) f) None ≡ Some m → X
none-there zero f m is = absurd (cc)
none-there (suc k) zero m is = absurd (cc)
none-there (suc k) (suc f) m is = none-there k f m is

-- ---- a system
module _ (deck : Deck) where
  pub record HasPure (k : NodeState) : Type 0 where
    pub part : StarPart
    pub star : k.star ≡ Some part
    pub pure : IsPure deck.entries part

  with-pure : (k : NodeState) (q : StarPart) → k.star ≡ Some q → IsPure deck.entries q → HasPure k
  with-pure k q star pure = record { part = q; star = star; pure = pure }

  same-pure : (n k : NodeState) → k.star ≡ n.star → HasPure n → HasPure k
  same-pure n k same h = record { part = h.part; star = same ∙ h.star; pure = h.pure }

  lost-pure : (n : NodeState) (ss : List SysId) → HasPure n → HasPure (losing deck n ss)
  unfolding losing
  lost-pure n ss h =
      subst (λ o. HasPure (losing_in deck n o ss)) (sym h.star)
      (with-pure (losing_in deck n (Some h.part) ss) _ refl
      (by-loss (λ (x : Standing). IsPure deck.entries x.part) (up-pure deck.entries) (lose-pure deck.entries)
      (names_of deck n.tasks.system) (standing n.tasks h.part) ss h.pure))

  desk-pure : (n : NodeState) (said : Said) → HasPure n → HasPure (desk_told n said)
  unfolding desk_told
  desk-pure n said h = record { part = h.part; star = h.star; pure = h.pure }

  switched-pure : (n : NodeState) → HasPure n → HasPure (switched deck n)
  unfolding switched
  switched-pure n h =
      by_test HasPure (is_none n.star) (changed_now deck (desk_told n saids.StarDone)) n
      (λ alone. absurd (let no : true ≡ false = sym alone ∙ ap is_none h.star in cc)) (λ there. h)

  mail-pure : (n : NodeState) (p : StarPart) (mail : Mail) → IsPure deck.entries p
      → IsPure deck.entries (take_mail deck n.known n.tasks p mail).part
  unfolding took_mail
  mail-pure n p mail h = go (is_for_deck deck mail) mail
    where
      go : (b : Bool) (m : Mail)
          → IsPure deck.entries (cond b (took_mail deck n.known n.tasks p m) (fixing_none n.tasks p)).part
      go false m = h
      go true (mails.Request e from q) =
          by_test (IsPure deck.entries) (is_held_for n.known p e q) (record p { held = p.held ++ q ∷ [] }) p
          (λ here. record { count = h.count; gathers = h.gathers; lists = h.lists; right = h.right }) (λ away. h)
      go true (mails.Answered t answer rank) = h
      go true (mails.Granted t r) = h
      go true (mails.Notice target moved) =
          by-notice (λ (x : Standing). IsPure deck.entries x.part) (up-pure deck.entries) n.known
          (moved-pure deck.entries n.known) (names_of deck n.tasks.system) (standing n.tasks p)
          (filter (is_item_of deck) moved) h
      go true (mails.Part e from records) =
          by-part (λ (x : Standing). IsPure deck.entries x.part) (up-pure deck.entries) n.known
          (names_of deck n.tasks.system) (standing n.tasks p) e from (filter (λ r. is_of_deck deck r.task) records)
          (came-pure deck.entries p e from (filter (λ (r : PartRec). is_of_deck deck r.task) records) h) h

  begun-pure : (p : StarPart) (e : ℕ) → IsPure deck.entries p → IsPure deck.entries (begun p e)
  begun-pure p e h = record {
    count =
        by_test (λ (z : ManagerView). length z.entries ≡ length p.manager.entries) (is_some (managed_at p.manager e))
        p.manager
        (with_entry p.manager (Some e) (Some no_elements)) (λ mine. refl)
        (λ other. length-set p.manager.entries e (Some no_elements))
        ∙ h.count;
    gathers = h.gathers;
    lists = managing-in deck.entries p.manager e h.lists;
    right = h.right;
  }

  counted-some : (v : ManagerView) (e : Option ℕ) (g : Managed → Managed) (o : Option Managed)
      → length (option_map_or (λ m. with_entry v e (Some (g m))) o v).entries ≡ length v.entries
  counted-some v e g None = refl
  counted-some v None g (Some m) = refl
  counted-some v (Some e) g (Some m) = length-set v.entries e (Some (g m))

  request-count : (v : ManagerView) (t : TaskId) (w : Want) → length (after_request v t w).entries ≡ length v.entries
  request-count v t w =
      counted-some v (entry_wanted (length v.entries) w) (λ m. settled v.system.0 m t w) (managed_for v w)

  request-pure : (p : StarPart) (t : TaskId) (w : Want) → IsPure deck.entries p
      → IsPure deck.entries (record p { manager = after_request p.manager t w })
  request-pure p t w h =
      of-manager deck.entries p (after_request p.manager t w) (request-count p.manager t w)
      (request-in deck.entries p.manager t w h.count h.lists) h

  acts-pure : (m : MediumState) (c : SysId) (n : NodeState) (p : StarPart) (choice : Choice) (b : Result) (o : Turnout)
      → Acts deck m c n p choice b o → IsPure deck.entries p → HasPure o.step.node
  unfolding decide_own
  acts-pure m c n p choice b o (decided t a x asked to at same) h =
      with-pure o.step.node _ refl (request-pure (begun p x) t a.req.want (begun-pure p x h))
  acts-pure m c n p choice b o (began t a x asked none) h =
      with-pure o.step.node _ refl (request-pure (begun p x) t a.req.want (begun-pure p x h))
  acts-pure m c n p choice b o (sent t a x asked to at apart) h =
      with-pure o.step.node _ refl
      (record { count = h.count; gathers = h.gathers; lists = h.lists; right = h.right })
  acts-pure m c n p choice b o (took mail rest at) h = with-pure o.step.node _ refl (mail-pure n p mail h)
  acts-pure m c n p choice b o (settled_one q first) h =
      let z = request-pure p q.task q.want h in
      with-pure o.step.node _ refl
      (record { count = z.count; gathers = z.gathers; lists = z.lists; right = z.right })
  acts-pure m c n p choice b o (told e x first) h =
      with-pure o.step.node _ refl
      (of-manager deck.entries p (after_telling p.manager x.0 x.1)
      (counted-some p.manager (entry_of_res (length p.manager.entries) x.1) (told_in x.0 x.1)
      (managed_of p.manager x.1))
      (telling-in deck.entries p.manager x.0 x.1 h.lists) h)
  acts-pure m c n p choice b o (parted e to owes unknown) h =
      with-pure o.step.node _ refl
      (record { count = h.count; gathers = h.gathers; lists = h.lists; right = h.right })
  acts-pure m c n p choice b o (left x flags free by) h =
      with-pure o.step.node _ refl (record {
        count =
            by_test (λ (z : ManagerView). length z.entries ≡ length p.manager.entries)
            (is_some (managed_at p.manager x)) (with_entry p.manager (Some x) None) p.manager
            (λ mine. length-set p.manager.entries x None) (λ other. refl)
            ∙ h.count;
        gathers = h.gathers;
        lists = leaving-in deck.entries p.manager x h.lists;
        right = h.right;
      })

  pure-came : (m : MediumState) (c : SysId) (n : NodeState) (choice : Choice) (b : Result) (o : Turnout)
      → Came deck m c n choice b o → HasPure n → HasPure o.step.node
  unfolding purged stale
  pure-came m c n choice b o (nothing k r silent flags) h = h
  pure-came m c n choice b o (informed k) h =
      let known : ℕ = known_from deck n.known m.removed in
      lost-pure (record n { known = known }) (members (without_those n.known known))
      (record { part = h.part; star = h.star; pure = h.pure })
  pure-came m c n choice b o (went_on t may) h =
      same-pure n o.step.node (stays-task deck.limit n t (lines_of deck t)).star h
  pure-came m c n choice b o (turn flags alone unclosed here) h = no_part n h.part h.star alone
  pure-came m c n choice b o (last_turn flags alone shut here) h = no_part n h.part h.star alone
  pure-came m c n choice b o (changed ring next seen) h = switched-pure n h
  pure-came m c n choice b o (already mode next) h = desk-pure n saids.StarAlready h
  pure-came m c n choice b o (removes_one target ring next lives) h =
      lost-pure (record (desk_told n saids.VaryDone) { known = with_also n.known target.0 }) (target ∷ [])
      (same-pure (desk_told n saids.VaryDone) _ refl (desk-pure n saids.VaryDone h))
  pure-came m c n choice b o (removes_star target mode next lives) h =
      lost-pure (record (desk_told n saids.VaryDone) { known = with_also n.known target.0 }) (target ∷ [])
      (same-pure (desk_told n saids.VaryDone) _ refl (desk-pure n saids.VaryDone h))
  pure-came m c n choice b o (no_such target next gone) h = desk-pure n saids.VaryNoSuch h
  pure-came m c n choice b o (acted p is k r x acts) h =
      acts-pure m c n p k r x acts (subst (IsPure deck.entries) (same_Some h.part p (sym h.star ∙ is)) h.pure)

  -- ---- so in every run
  pure-first : deck.star ≡ true → (s : ℕ) → HasPure (first_node deck s)
  unfolding first_node
  pure-first star s = record {
    part = first_part (record { 0 = s }) deck.entries;
    star = ap (λ b. cond b (Some (first_part (record { 0 = s }) deck.entries)) None) star;
    pure = record {
      count = length-replicate deck.entries None;
      gathers = length-replicate deck.entries None;
      lists = λ f m is. none-there deck.entries f m is;
      right = none-right deck.entries 0 deck.entries;
    };
  }

pub pure_run : (deck : Deck) → deck.star ≡ true → (es : List Event) (s : ℕ) (n : NodeState)
    → slice_get (run deck es).nodes s ≡ Some n → HasPure deck n
pure_run deck star =
    systems_run deck (λ s n. HasPure deck n) (pure-first deck star)
    (λ m c n choice live h. pure-came deck m c n choice _ _ (came deck m c n live choice) h)
