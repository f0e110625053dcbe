-- An answer in an inbox stands in front of a notice of its entry, as long as the entry's manager has still to gather:
-- who was to send it was removed, and by that the notice came. So it is in every run.
use Rattle.grs_world.proofs.Common.{[], ◌&&◌, ◌++◌, ◌<◌, ◌==◌, ◌||◌, ◌∙◌, ◌∷◌, ◌≡◌, ◌≢◌, ◌⊎◌, ap, Asked, awaited}
use Rattle.grs_world.proofs.Common.{awaiting, Bool, by_test, cond, Deck, false, false_by, filter, fixing_none, has}
use Rattle.grs_world.proofs.Common.{inbox, inl, inr, is_for_deck, is_interested, is_item_of, is_news, is_of_deck}
use Rattle.grs_world.proofs.Common.{length, List, list_any, lose_all, Mail, manager_at, manages, move_each, move_entry}
use Rattle.grs_world.proofs.Common.{Moved, names_of, no_truth, NodeState, None, noticed, owing, refl, same_Some}
use Rattle.grs_world.proofs.Common.{sent_again, Some, Standing, standing, StarPart, state_of, subst, sym, SysId}
use Rattle.grs_world.proofs.Common.{take_mail, take_up_all, TaskId, took_mail, true, Turnout, with_role, World, ℕ}
use Rattle.contention_mgr.specs.Manager.{entry_wanted}
use Rattle.grs_node.specs.Star.{is_held_for}
use Rattle.grs_wire.specs.Notices.{names}
use Rattle.system_purge.specs.Gathers.{with_part_at}
use Rattle.grs_world.proofs.gather.once.Step.{AreOnce}
use Rattle.grs_world.proofs.gather.way.Entry.{as_before, at, RoleStays, taken_up}
use Rattle.grs_world.proofs.gather.way.Steps.{all-lost, all-up, AllOff, keeps-same}
use Rattle.grs_world.proofs.run.Placed.{world_then}
use Rattle.grs_world.proofs.run.Site.{each_site, Site}
use Rattle.grs_world.specs.InHands.{HasSent, is_answer_to, is_answered_once, IsAnswered}
use Rattle.grs_world.specs.OnTheWay.{stance_of}
use Rattle.grs_wire.specs.declared.medium.Mail.TheVariants as mails

-- ---- who manages an entry does so still behind losses and mail
abbrev pub none-alive : ℕ → Bool
none-alive u = false

pub off-all : (e : ℕ) (ts : List SysId) → AllOff none-alive 0 e ts
off-all e [] = tt
off-all e (t ∷ ts) = (λ u h. absurd (cc), off-all e ts)

by-role : (e : ℕ) (p q : StarPart) → RoleStays none-alive 0 (stance_of e p []) (stance_of e q [])
    → manages p e ≡ true → manages q e ≡ true
by-role e p q (as_before same alike) h = same ∙ h
by-role e p q (taken_up now none g gathers off) h = now

pub lost-manages : (e : ℕ) (names : List TaskId) (x : Standing) (ts : List SysId) → manages x.part e ≡ true
    → manages (lose_all names x ts).part e ≡ true
lost-manages e names x ts h =
    by-role e x.part (lose_all names x ts).part
    (all-lost none-alive 0 e (length x.part.manager.entries) x.part names x ts (off-all e ts)
    (keeps-same none-alive 0 e x.part)).role
    h

up-manages : (e : ℕ) (names : List TaskId) (x : Standing) → manages x.part e ≡ true
    → manages (take_up_all names x).part e ≡ true
up-manages e names x h =
    by-role e x.part (take_up_all names x).part
    (all-up none-alive 0 e (length x.part.manager.entries) x.part names x (keeps-same none-alive 0 e x.part)).role h

-- a notice changes no lists by itself
moved-manages : (e known : ℕ) (ms : List Moved) (x : Standing) → manages x.part e ≡ true
    → manages (move_each known x ms).part e ≡ true
unfolding move_each
moved-manages e known [] x h = h
moved-manages e known (m ∷ ms) x h = moved-manages e known ms (move_entry known x m) (go (is_news x.part m.entry))
  where
    go : (b : Bool)
        → manages (cond b (standing (sent_again x.part m.entry x.tasks) (with_role known x.part m)) x).part e ≡ true
    go false = h
    go true = by (m.manager.0 == x.part.manager.system.0)
      where
        by : (b : Bool) → manages (cond b
            (record x.part {
              gathers =
                  awaiting x.part.gathers m.entry (awaited known x.part.manager.system.0 m.mask);
              owes = owing x.part.owes m.entry None;
            })
            (record x.part { owes = owing x.part.owes m.entry (Some m.manager) })) e ≡ true
        by true = h
        by false = h

module _ (deck : Deck) (n : NodeState) (p : StarPart) (e : ℕ) (h : manages p e ≡ true) where
  pub take-manages : (mail : Mail) → manages (take_mail deck n.known n.tasks p mail).part e ≡ true
  unfolding took_mail
  take-manages mail = go (is_for_deck deck mail) mail
    where
      go : (b : Bool) (y : Mail) → manages (cond b (took_mail deck n.known n.tasks p y) (fixing_none n.tasks p)).part e
          ≡ true
      go false y = h
      go true (mails.Request f from q) =
          by_test (λ (z : StarPart). manages z e ≡ true) (is_held_for n.known p f q)
          (record p { held = p.held ++ q ∷ [] }) p (λ here. h) (λ away. h)
      go true (mails.Answered t answer rank) = h
      go true (mails.Granted t r) = h
      go true (mails.Notice target moved) =
          up-manages e (names_of deck n.tasks.system)
          (move_each n.known (standing n.tasks p) (filter (is_item_of deck) moved))
          (moved-manages e n.known (filter (is_item_of deck) moved) (standing n.tasks p) h)
      go true (mails.Part f from records) =
          by_test (λ (x : Standing). manages x.part e ≡ true) (has n.known from.0) (standing n.tasks p)
          (take_up_all (names_of deck n.tasks.system)
          (standing n.tasks
          (record p { gathers = with_part_at p.gathers f from (filter (λ r. is_of_deck deck r.task) records) })))
          (λ gone. h)
          (λ there.
          up-manages e (names_of deck n.tasks.system)
          (standing n.tasks
          (record p { gathers = with_part_at p.gathers f from (filter (λ r. is_of_deck deck r.task) records) })) h)

-- ---- a world
-- The manager of an entry by its word has still to gather it.
pub record IsOpen (w : World) (e : ℕ) : Type 0 where
  pub m : ℕ
  pub node : NodeState
  pub part : StarPart
  pub named : manager_at w.medium.words e ≡ Some (at m)
  pub site : Site w m node
  pub star : node.star ≡ Some part
  pub off : manages part e ≡ false

abbrev pub AreSilent : Deck → World → Type 0
AreSilent deck w =
    (t : TaskId) (k : NodeState) (a : Asked) (e : ℕ) → Site w t.system.0 k
    → list_any (is_answer_to t.task) (inbox w.medium t.system.0) ≡ true → HasSent deck w.medium.words k.tasks t a e
    → IsOpen w e → noticed e (inbox w.medium t.system.0) ≡ true

-- ---- an event, by which these answers come
module _ (deck : Deck) (w : World) (c : SysId) (n : NodeState) (p : StarPart) (site : Site w c.0 n)
    (star : n.star ≡ Some p) (J : AreOnce deck w) (S : AreSilent deck w) (o : Turnout) (r : StarPart)
    (now : o.step.node.star ≡ Some r)
    (was-live : (u : ℕ) → has o.medium.removed u ≡ false → has w.medium.removed u ≡ false) (New : TaskId → Type 0)
    (back : (e u m : ℕ) (k : NodeState) → Site w u k → has o.medium.removed u ≡ false
    → is_interested w.medium.words e u ≡ true → manager_at o.medium.words e ≡ Some (at m)
    → (manager_at w.medium.words e ≡ Some (at m)) ⊎ (noticed e (inbox o.medium u) ≡ true))
    (mine : (e : ℕ) → manager_at o.medium.words e ≡ Some (at c.0) → manages p e ≡ true → manages r e ≡ true)
    (box : (t : TaskId) (k : NodeState) → Site w t.system.0 k → has o.medium.removed t.system.0 ≡ false
    → list_any (is_answer_to t.task) (inbox o.medium t.system.0) ≡ true
    → (list_any (is_answer_to t.task) (inbox w.medium t.system.0) ≡ true) ⊎ New t)
    (stays : (t : TaskId) (k : NodeState) → Site w t.system.0 k → has o.medium.removed t.system.0 ≡ false → (e : ℕ)
    → is_answered_once e t.task (inbox w.medium t.system.0) ≡ true
    → list_any (is_answer_to t.task) (inbox o.medium t.system.0) ≡ true
    → noticed e (inbox w.medium t.system.0) ≡ true → noticed e (inbox o.medium t.system.0) ≡ true)
    (tasks : (t : TaskId) (x : Asked) (e : ℕ) → t.system.0 ≡ c.0 → HasSent deck w.medium.words n.tasks t x e
    → is_answered_once e t.task (inbox w.medium t.system.0) ≡ true
    → list_any (is_answer_to t.task) (inbox o.medium t.system.0) ≡ true
    → (state_of o.step.node.tasks t).outstanding ≡ Some x)
    (new : (t : TaskId) (k : NodeState) (a : Asked) (e : ℕ) → New t → Site (world_then w c n o) t.system.0 k
    → HasSent deck o.medium.words k.tasks t a e → IsOpen (world_then w c n o) e → ⊥) where
  -- what has still to be gathered had so before, or a notice came
  open-was : (e u : ℕ) (k : NodeState) → Site w u k → has o.medium.removed u ≡ false
      → is_interested w.medium.words e u ≡ true → IsOpen (world_then w c n o) e
      → IsOpen w e ⊎ (noticed e (inbox o.medium u) ≡ true)
  open-was e u k at_k live near h = go (back e u h.m k at_k live near h.named)
    where
      own : (m : ℕ) → m ≡ c.0 → manager_at o.medium.words e ≡ Some (at m) → manager_at w.medium.words e ≡ Some (at m)
          → o.step.node.star ≡ Some h.part → IsOpen w e
      own m same named was star_m = record {
        m = c.0;
        node = n;
        part = p;
        named = was ∙ ap (λ i. Some (at i)) same;
        site = site;
        star = star;
        off =
            false_by (manages p e) (λ yes.
            no_truth (manages r e) (mine e (named ∙ ap (λ i. Some (at i)) same) yes)
            (ap (λ (z : StarPart). manages z e) (same_Some r h.part (sym now ∙ star_m)) ∙ h.off));
      }

      go : (manager_at w.medium.words e ≡ Some (at h.m)) ⊎ (noticed e (inbox o.medium u) ≡ true)
          → IsOpen w e ⊎ (noticed e (inbox o.medium u) ≡ true)
      go (inr told) = inr told
      go (inl was) =
          inl (each_site w c n site o was-live
          (λ i y. i ≡ h.m → y.star ≡ Some h.part → IsOpen w e)
          (λ same star_y.
          own c.0 refl (h.named ∙ ap (λ i. Some (at i)) (sym same)) (was ∙ ap (λ i. Some (at i)) (sym same)) star_y)
          (λ i y ne at_y same star_y. record {
            m = i;
            node = y;
            part = h.part;
            named = was ∙ ap (λ j. Some (at j)) (sym same);
            site = at_y;
            star = star_y;
            off = h.off;
          })
          h.m h.node h.site refl h.star)

  -- an answer that was there
  old : (t : TaskId) (k : NodeState) (x : Asked) (e : ℕ) → Site w t.system.0 k → has o.medium.removed t.system.0 ≡ false
      → list_any (is_answer_to t.task) (inbox o.medium t.system.0) ≡ true
      → list_any (is_answer_to t.task) (inbox w.medium t.system.0) ≡ true
      → ((h : IsAnswered deck w.medium.words t k.tasks (inbox w.medium t.system.0)) → h.entry ≡ e)
      → IsOpen (world_then w c n o) e → noticed e (inbox o.medium t.system.0) ≡ true
  old t k x e at_k live any was entry opened =
      let h = J.answers t k at_k was in
      go h (entry h)
      (open-was e t.system.0 k at_k live
      (ap (λ i. is_interested w.medium.words i t.system.0) (sym (entry h)) ∙ h.has.near) opened)
    where
      go : (h : IsAnswered deck w.medium.words t k.tasks (inbox w.medium t.system.0)) → h.entry ≡ e
          → IsOpen w e ⊎ (noticed e (inbox o.medium t.system.0) ≡ true)
          → noticed e (inbox o.medium t.system.0) ≡ true
      go h same (inr told) = told
      go h same (inl still) =
          stays t k at_k live e (ap (λ i. is_answered_once i t.task (inbox w.medium t.system.0)) (sym same) ∙ h.once)
          any
          (S t k h.asked e at_k was
          (subst (λ i. HasSent deck w.medium.words k.tasks t h.asked i) same h.has) still)

  own-silent : (t : TaskId) (x : Asked) (e : ℕ) → t.system.0 ≡ c.0
      → Site (world_then w c n o) t.system.0 o.step.node
      → list_any (is_answer_to t.task) (inbox o.medium t.system.0) ≡ true
      → HasSent deck o.medium.words o.step.node.tasks t x e → IsOpen (world_then w c n o) e
      → noticed e (inbox o.medium t.system.0) ≡ true
  own-silent t x e home there any sent opened =
      let here : Site w t.system.0 n = subst (λ i. Site w i n) (sym home) site in
      go here (box t n here there.live any)
    where
      go : Site w t.system.0 n → (list_any (is_answer_to t.task) (inbox w.medium t.system.0) ≡ true) ⊎ New t
          → noticed e (inbox o.medium t.system.0) ≡ true
      go here (inr fresh) = absurd (new t o.step.node x e fresh there sent opened)
      go here (inl was) =
          old t n x e here there.live any was
          (λ h.
          same_Some h.entry e
          (sym h.has.at
          ∙ (ap (λ (y : Asked). entry_wanted deck.entries y.req.want)
          (same_Some h.asked x (sym (tasks t h.asked h.entry home h.has h.once any) ∙ sent.asks))
          ∙ sent.at)))
          opened

  other-silent : (t : TaskId) (k : NodeState) (x : Asked) (e : ℕ) → Site w t.system.0 k
      → Site (world_then w c n o) t.system.0 k
      → list_any (is_answer_to t.task) (inbox o.medium t.system.0) ≡ true
      → HasSent deck o.medium.words k.tasks t x e → IsOpen (world_then w c n o) e
      → noticed e (inbox o.medium t.system.0) ≡ true
  other-silent t k x e here there any sent opened = go (box t k here there.live any)
    where
      go : (list_any (is_answer_to t.task) (inbox w.medium t.system.0) ≡ true) ⊎ New t
          → noticed e (inbox o.medium t.system.0) ≡ true
      go (inr fresh) = absurd (new t k x e fresh there sent opened)
      go (inl was) =
          old t k x e here there.live any was
          (λ h.
          same_Some h.entry e
          (sym h.has.at
          ∙ (ap (λ (y : Asked). entry_wanted deck.entries y.req.want) (same_Some h.asked x (sym h.has.asks ∙ sent.asks))
          ∙ sent.at)))
          opened

  pub silent-then : AreSilent deck (world_then w c n o)
  silent-then t k x e there any sent opened =
      each_site w c n site o was-live
      (λ u y.
      t.system.0 ≡ u → Site (world_then w c n o) t.system.0 y → HasSent deck o.medium.words y.tasks t x e
      → noticed e (inbox o.medium t.system.0) ≡ true)
      (λ home at_y sent_y. own-silent t x e home at_y any sent_y opened)
      (λ u y ne was_y home at_y sent_y.
      other-silent t y x e (subst (λ i. Site w i y) (sym home) was_y) at_y any sent_y opened)
      t.system.0 k there refl there sent
