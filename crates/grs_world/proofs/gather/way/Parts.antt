-- In a complex that begins in star mode each system has its part, in every run: it is its own system's, and keeps what
-- is gathered of each lock entry of the deck.
use Rattle.grs_world.proofs.Common.{[], ◌++◌, ◌==◌, ◌∙◌, ◌∷◌, ◌≡◌, after_request, after_telling, ap, awaited, awaiting}
use Rattle.grs_world.proofs.Common.{begun, Bool, by_test, Choice, cond, decide_own, Deck, desk_told, entry_of_res}
use Rattle.grs_world.proofs.Common.{entry_wanted, Event, false, filter, first_node, first_part, fixing_none, Gathering}
use Rattle.grs_world.proofs.Common.{gathering_at, is_for_deck, is_item_of, is_news, is_none, is_of_deck, is_some}
use Rattle.grs_world.proofs.Common.{known_from, length, length-map, length-replicate, length-set, lines_of, List, lose}
use Rattle.grs_world.proofs.Common.{losing, losing_in, Mail, Managed, managed_at, managed_of, ManagerView, MediumState}
use Rattle.grs_world.proofs.Common.{members, move_entry, Moved, names_of, no_elements, NodeState, None, Option}
use Rattle.grs_world.proofs.Common.{option_map, option_map_or, owing, PartRec, purged, refl, Res, run, Said, same_Some}
use Rattle.grs_world.proofs.Common.{sent_again, settled, slice_get, slice_set, Some, stale, Standing, standing}
use Rattle.grs_world.proofs.Common.{StarPart, stays-task, subst, switched, sym, SysId, take_mail, take_up, TaskId}
use Rattle.grs_world.proofs.Common.{took_mail, true, Turnout, Want, with_also, with_entry, with_role, without_those, ℕ}
use Rattle.contention_mgr.specs.Manager.{managed_for, told as told_in}
use Rattle.grs_node.specs.Node.{changed as changed_now}
use Rattle.grs_node.specs.Star.{is_held_for, managing, not_managing}
use Rattle.system_purge.specs.Gathers.{with_part, with_part_at, without_sender}
use Rattle.grs_world.proofs.run.Came.{Acts, Came, Result, acted, already, began, changed, decided, informed, last_turn}
use Rattle.grs_world.proofs.run.Came.{left, no_part, no_such, nothing, parted, removes_one, removes_star, sent}
use Rattle.grs_world.proofs.run.Came.{settled as settled_one, told, took, turn, went_on}
use Rattle.grs_world.proofs.run.Chosen.{came}
use Rattle.grs_world.proofs.run.Each.{systems_run}
use Rattle.grs_world.proofs.run.Lost.{by-loss, by-notice, by-part}
use Rattle.grs_wire.specs.declared.medium.Mail.TheVariants as mails
use Rattle.grs_wire.specs.declared.told.Said.TheVariants as saids

pub record IsPartOf (entries s : ℕ) (p : StarPart) : Type 0 where
  pub home : p.manager.system.0 ≡ s
  pub count : length p.gathers ≡ entries

pub record HasPart (entries s : ℕ) (n : NodeState) : Type 0 where
  pub part : StarPart
  pub star : n.star ≡ Some part
  pub fits : IsPartOf entries s part

-- ---- a manager stays its system's
home-some : (v : ManagerView) (e : Option ℕ) (f : Managed → Managed) (o : Option Managed)
    → (option_map_or (λ m. with_entry v e (Some (f m))) o v).system ≡ v.system
home-some v e f None = refl
home-some v None f (Some m) = refl
home-some v (Some e) f (Some m) = refl

home-request : (v : ManagerView) (t : TaskId) (w : Want) → (after_request v t w).system ≡ v.system
home-request v t w =
    home-some v (entry_wanted (length v.entries) w) (λ m. settled v.system.0 m t w) (managed_for v w)

home-telling : (v : ManagerView) (t : TaskId) (r : Res) → (after_telling v t r).system ≡ v.system
home-telling v t r = home-some v (entry_of_res (length v.entries) r) (told_in t r) (managed_of v r)

home-managing : (v : ManagerView) (e : ℕ) → (managing v e).system ≡ v.system
home-managing v e =
    by_test (λ (z : ManagerView). z.system ≡ v.system) (is_some (managed_at v e)) v
    (with_entry v (Some e) (Some no_elements)) (λ h. refl) (λ h. refl)

home-left : (v : ManagerView) (e : ℕ) → (not_managing v e).system ≡ v.system
home-left v e =
    by_test (λ (z : ManagerView). z.system ≡ v.system) (is_some (managed_at v e)) (with_entry v (Some e) None) v
    (λ h. refl) (λ h. refl)

came-count : (gs : List (Option Gathering)) (e : ℕ) (s : SysId) (recs : List PartRec)
    → length (with_part_at gs e s recs) ≡ length gs
came-count gs e s recs = go (gathering_at gs e)
  where
    go : (o : Option Gathering)
        → length (option_map_or (λ g. slice_set gs e (Some (with_part (length gs) e s recs g))) o gs) ≡ length gs
    go None = refl
    go (Some g) = length-set gs e (Some (with_part (length gs) e s recs g))

-- ---- a part
module _ (entries s : ℕ) where
  abbrev Fits : StarPart → Type 0
  Fits p = IsPartOf entries s p

  of-manager : (p : StarPart) (v : ManagerView) → v.system ≡ p.manager.system → IsPartOf entries s p
      → IsPartOf entries s (record p { manager = v })
  of-manager p v same h = record { home = ap (λ (z : SysId). z.0) same ∙ h.home; count = h.count }

  of-up : (names : List TaskId) (x : Standing) (e : ℕ) → IsPartOf entries s x.part
      → IsPartOf entries s (take_up names x e).part
  of-up names x e h = record { home = h.home; count = length-set x.part.gathers e None ∙ h.count }

  of-lost : (x : Standing) (t : SysId) → IsPartOf entries s x.part → IsPartOf entries s (lose x t).part
  of-lost x t h = record {
    home = h.home;
    count = length-map x.part.gathers (option_map (without_sender t)) ∙ h.count;
  }

  of-moved : (known : ℕ) (x : Standing) (m : Moved) → IsPartOf entries s x.part
      → IsPartOf entries s (move_entry known x m).part
  of-moved known x m h =
      by_test (λ (y : Standing). IsPartOf entries s y.part) (is_news x.part m.entry)
      (standing (sent_again x.part m.entry x.tasks) (with_role known x.part m)) x
      (λ news.
      by_test (IsPartOf entries s) (m.manager.0 == x.part.manager.system.0)
      (record x.part {
        gathers = awaiting x.part.gathers m.entry (awaited known x.part.manager.system.0 m.mask);
        owes = owing x.part.owes m.entry None;
      })
      (record x.part { owes = owing x.part.owes m.entry (Some m.manager) })
      (λ own. record {
        home = h.home;
        count =
            length-set x.part.gathers m.entry
            (Some (record { awaits = awaited known x.part.manager.system.0 m.mask; parts = [] }))
            ∙ h.count;
      })
      (λ other. record { home = h.home; count = h.count }))
      (λ old. h)

-- ---- a system
module _ (deck : Deck) (s : ℕ) where
  with-part : (k : NodeState) (q : StarPart) → k.star ≡ Some q → IsPartOf deck.entries s q
      → HasPart deck.entries s k
  with-part k q star fits = record { part = q; star = star; fits = fits }

  same-part : (n k : NodeState) → k.star ≡ n.star → HasPart deck.entries s n → HasPart deck.entries s k
  same-part n k same h = record { part = h.part; star = same ∙ h.star; fits = h.fits }

  lost-part : (n : NodeState) (ss : List SysId) → HasPart deck.entries s n → HasPart deck.entries s (losing deck n ss)
  unfolding losing
  lost-part n ss h =
      subst (λ o. HasPart deck.entries s (losing_in deck n o ss)) (sym h.star)
      (with-part (losing_in deck n (Some h.part) ss) _ refl
      (by-loss (λ (x : Standing). IsPartOf deck.entries s x.part) (of-up deck.entries s) (of-lost deck.entries s)
      (names_of deck n.tasks.system) (standing n.tasks h.part) ss h.fits))

  desk-part : (n : NodeState) (said : Said) → HasPart deck.entries s n → HasPart deck.entries s (desk_told n said)
  unfolding desk_told
  desk-part n said h = record { part = h.part; star = h.star; fits = h.fits }

  switched-part : (n : NodeState) → HasPart deck.entries s n → HasPart deck.entries s (switched deck n)
  unfolding switched
  switched-part n h =
      by_test (HasPart deck.entries s) (is_none n.star) (changed_now deck (desk_told n saids.StarDone)) n
      (λ alone. absurd (let no : true ≡ false = sym alone ∙ ap is_none h.star in cc)) (λ there. h)

  mail-part : (n : NodeState) (p : StarPart) (mail : Mail) → IsPartOf deck.entries s p
      → IsPartOf deck.entries s (take_mail deck n.known n.tasks p mail).part
  unfolding took_mail
  mail-part n p mail h = go (is_for_deck deck mail) mail
    where
      go : (b : Bool) (m : Mail)
          → IsPartOf deck.entries s (cond b (took_mail deck n.known n.tasks p m) (fixing_none n.tasks p)).part
      go false m = h
      go true (mails.Request e from q) =
          by_test (IsPartOf deck.entries s) (is_held_for n.known p e q) (record p { held = p.held ++ q ∷ [] }) p
          (λ here. record { home = h.home; count = h.count }) (λ away. h)
      go true (mails.Answered t answer rank) = h
      go true (mails.Granted t r) = h
      go true (mails.Notice target moved) =
          by-notice (λ (x : Standing). IsPartOf deck.entries s x.part) (of-up deck.entries s) n.known
          (of-moved deck.entries s n.known) (names_of deck n.tasks.system) (standing n.tasks p)
          (filter (is_item_of deck) moved) h
      go true (mails.Part e from records) =
          by-part (λ (x : Standing). IsPartOf deck.entries s x.part) (of-up deck.entries s) n.known
          (names_of deck n.tasks.system) (standing n.tasks p) e from (filter (λ r. is_of_deck deck r.task) records)
          (record {
            home = h.home;
            count =
                came-count p.gathers e from (filter (λ (r : PartRec). is_of_deck deck r.task) records) ∙ h.count;
          })
          h

  begun-part : (p : StarPart) (e : ℕ) → IsPartOf deck.entries s p → IsPartOf deck.entries s (begun p e)
  begun-part p e h = record {
    home = ap (λ (z : SysId). z.0) (home-managing p.manager e) ∙ h.home;
    count = h.count;
  }

  request-part : (p : StarPart) (t : TaskId) (w : Want) → IsPartOf deck.entries s p
      → IsPartOf deck.entries s (record p { manager = after_request p.manager t w })
  request-part p t w h = record {
    home = ap (λ (z : SysId). z.0) (home-request p.manager t w) ∙ h.home;
    count = h.count;
  }

  acts-part : (m : MediumState) (c : SysId) (n : NodeState) (p : StarPart) (choice : Choice) (b : Result) (o : Turnout)
      → Acts deck m c n p choice b o → IsPartOf deck.entries s p → HasPart deck.entries s o.step.node
  unfolding decide_own
  acts-part m c n p choice b o (decided t a x asked to at same) h =
      with-part o.step.node _ refl (request-part (begun p x) t a.req.want (begun-part p x h))
  acts-part m c n p choice b o (began t a x asked none) h =
      with-part o.step.node _ refl (request-part (begun p x) t a.req.want (begun-part p x h))
  acts-part m c n p choice b o (sent t a x asked to at apart) h =
      with-part o.step.node _ refl (record { home = h.home; count = h.count })
  acts-part m c n p choice b o (took mail rest at) h = with-part o.step.node _ refl (mail-part n p mail h)
  acts-part m c n p choice b o (settled_one q first) h =
      with-part o.step.node _ refl (record {
        home = ap (λ (z : SysId). z.0) (home-request p.manager q.task q.want) ∙ h.home;
        count = h.count;
      })
  acts-part m c n p choice b o (told e x first) h =
      with-part o.step.node _ refl (record {
        home = ap (λ (z : SysId). z.0) (home-telling p.manager x.0 x.1) ∙ h.home;
        count = h.count;
      })
  acts-part m c n p choice b o (parted e to owes unknown) h =
      with-part o.step.node _ refl (record { home = h.home; count = h.count })
  acts-part m c n p choice b o (left x flags free by) h =
      with-part o.step.node _ refl (record {
        home = ap (λ (z : SysId). z.0) (home-left p.manager x) ∙ h.home;
        count = h.count;
      })

  part-came : (m : MediumState) (c : SysId) (n : NodeState) (choice : Choice) (b : Result) (o : Turnout)
      → Came deck m c n choice b o → HasPart deck.entries s n → HasPart deck.entries s o.step.node
  unfolding purged stale
  part-came m c n choice b o (nothing k r silent flags) h = h
  part-came m c n choice b o (informed k) h =
      let known : ℕ = known_from deck n.known m.removed in
      lost-part (record n { known = known }) (members (without_those n.known known))
      (record { part = h.part; star = h.star; fits = h.fits })
  part-came m c n choice b o (went_on t may) h =
      same-part n o.step.node (stays-task deck.limit n t (lines_of deck t)).star h
  part-came m c n choice b o (turn flags alone unclosed here) h = no_part n h.part h.star alone
  part-came m c n choice b o (last_turn flags alone shut here) h = no_part n h.part h.star alone
  part-came m c n choice b o (changed ring next seen) h = switched-part n h
  part-came m c n choice b o (already mode next) h = desk-part n saids.StarAlready h
  part-came m c n choice b o (removes_one target ring next lives) h =
      lost-part (record (desk_told n saids.VaryDone) { known = with_also n.known target.0 }) (target ∷ [])
      (same-part (desk_told n saids.VaryDone) _ refl (desk-part n saids.VaryDone h))
  part-came m c n choice b o (removes_star target mode next lives) h =
      lost-part (record (desk_told n saids.VaryDone) { known = with_also n.known target.0 }) (target ∷ [])
      (same-part (desk_told n saids.VaryDone) _ refl (desk-part n saids.VaryDone h))
  part-came m c n choice b o (no_such target next gone) h = desk-part n saids.VaryNoSuch h
  part-came m c n choice b o (acted p is k r x acts) h =
      acts-part m c n p k r x acts (subst (IsPartOf deck.entries s) (same_Some h.part p (sym h.star ∙ is)) h.fits)

-- ---- so in every run
part-first : (deck : Deck) → deck.star ≡ true → (s : ℕ) → HasPart deck.entries s (first_node deck s)
unfolding first_node
part-first deck star s = record {
  part = first_part (record { 0 = s }) deck.entries;
  star = ap (λ b. cond b (Some (first_part (record { 0 = s }) deck.entries)) None) star;
  fits = record { home = refl; count = length-replicate deck.entries None };
}

pub part_run : (deck : Deck) → deck.star ≡ true → (es : List Event) (s : ℕ) (n : NodeState)
    → slice_get (run deck es).nodes s ≡ Some n → HasPart deck.entries s n
part_run deck star =
    systems_run deck (λ s n. HasPart deck.entries s n) (part-first deck star)
    (λ m c n choice live h. part-came deck c.0 m c n choice _ _ (came deck m c n live choice) h)

pub home-of : (entries s : ℕ) (n : NodeState) → HasPart entries s n → (p : StarPart) → n.star ≡ Some p
    → p.manager.system.0 ≡ s
home-of entries s n h p is =
    ap (λ (z : StarPart). z.manager.system.0) (sym (same_Some h.part p (sym h.star ∙ is))) ∙ h.fits.home
