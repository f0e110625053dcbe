-- A system takes a mail: what that leaves of what all are to an entry.
use Rattle.grs_world.proofs.Common.{[], ◌&&◌, ◌<◌, ◌==◌, ◌∙◌, ◌∷◌, ◌≡◌, ◌≢◌, and-false, and_parts, ap, arith, awaited}
use Rattle.grs_world.proofs.Common.{awake, Bool, cond, Deck, drop, eq-eqb, eqb-false, eqb-true, false, false_by, filter}
use Rattle.grs_world.proofs.Common.{fixing_none, Gathering, gathering_at, has, has-without_other, has-without_same}
use Rattle.grs_world.proofs.Common.{inbox, inl, is_item_of, is_some, length, List, list_all, Mail, manager_at, manages}
use Rattle.grs_world.proofs.Common.{most_systems, move_each, Moved, names_of, nat_lt, no_truth, NodeState, None, not}
use Rattle.grs_world.proofs.Common.{noticed, Option, or_left, owed_to, refl, same_Some, slice_get, slice_get_within}
use Rattle.grs_world.proofs.Common.{Some, Standing, standing, StarPart, StarStep, subst, sym, SysId, take_mail}
use Rattle.grs_world.proofs.Common.{take_up_all, took_mail, true, true≢false, Turnout, with_star, without_first}
use Rattle.grs_world.proofs.Common.{without_those, World, ℕ}
use Rattle.grs_wire.specs.Notices.{names}
use Rattle.grs_node.specs.Node.{fixing_nothing}
use Rattle.grs_node.specs.Removal.{took_notice}
use Rattle.grs_wire.proofs.MaskLaws.{has-without_all}
use Rattle.grs_world.proofs.gather.way.Boxes.{early, early-left, last-first, last-later, last-none, last-there}
use Rattle.grs_world.proofs.gather.way.Boxes.{names-some}
use Rattle.grs_world.proofs.gather.way.Changed.{with_stance}
use Rattle.grs_world.proofs.gather.way.Entry.{at, IsAt, IsEntry, is_there, none-some, RoleStays, there-is}
use Rattle.grs_world.proofs.gather.way.Items.{mail_fits}
use Rattle.grs_world.proofs.gather.way.Noticed.{begins, takes-earlier, takes-last}
use Rattle.grs_world.proofs.gather.way.Acting.{Acting}
use Rattle.grs_world.proofs.gather.way.Scene.{box-left, box-same, BoxStays, entry_in, live-entry, role-from, stance-is}
use Rattle.grs_world.proofs.gather.way.Scene.{stands, stays-then, taken-then}
use Rattle.grs_world.proofs.gather.way.Steps.{all-up, begins-then, EachNamed, HasBegun, IsOut, Keeps, keeps-same}
use Rattle.grs_world.proofs.gather.way.Steps.{moved-other, owes-then, OwesSuch}
use Rattle.grs_world.proofs.run.Placed.{world_then}
use Rattle.grs_world.proofs.star.Boxes.{taken-box, untaken-box}
use Rattle.grs_world.specs.Noticed.{AllName, InBox, items_in, NamesOne}
use Rattle.grs_world.specs.OnTheWay.{last_item, parts_from, part_from, Stance, stance_at, stance_of}
use Rattle.grs_wire.specs.declared.medium.Mail.TheVariants as mails

-- ---- the items of a notice
-- what holds of each that names the entry
each-named : (words : List ℕ) (removed e s : ℕ) (later : Bool) (Q : Moved → Type 0)
    → ((m : Moved) → NamesOne words removed e m later → Q m) → (ms : List Moved)
    → AllName words removed e s later (filter (λ m. m.entry == e) ms) → EachNamed e Q ms
each-named words removed e s later Q to [] h = tt
each-named words removed e s later Q to (m ∷ ms) h =
    go (m.entry == e) refl h (each-named words removed e s later Q to ms)
  where
    go : (b : Bool) → (m.entry == e) ≡ b
        → AllName words removed e s later (cond b (m ∷ filter (λ z. z.entry == e) ms) (filter (λ z. z.entry == e) ms))
        → (AllName words removed e s later (filter (λ z. z.entry == e) ms) → EachNamed e Q ms)
        → EachNamed e Q (m ∷ ms)
    go true is k more = (λ same. to m k.1, more k.2)
    go false is k more = (λ same. no_truth (m.entry == e) same is, more k)

all-kept-in : {X : Type 0} (t : X → Bool) (xs : List X) → list_all t xs ≡ true → filter t xs ≡ xs
all-kept-in t [] h = refl
all-kept-in t (x ∷ xs) h =
    let both = and_parts (t x) (list_all t xs) h in
    ap (λ b. cond b (x ∷ filter t xs) (filter t xs)) both.0 ∙ ap (λ (ys : List _). x ∷ ys) (all-kept-in t xs both.1)

module _ (deck : Deck) (w : World) (c : SysId) (n : NodeState) (p : StarPart) (a : Acting deck w c n p)
    (knows : n.known ≡ w.medium.removed) (y : Mail) (rest : List Mail)
    (comes : inbox w.medium c.0 ≡ y ∷ rest) (e : ℕ) (inside : e < deck.entries) (J : IsEntry (entry_in w e)) where
  abbrev o : Turnout
  o = record {
    medium = record w.medium { inboxes = without_first w.medium.inboxes c.0; rest = awake w.medium c };
    step = with_star n (take_mail deck n.known n.tasks p y);
  }

  abbrev pub taking : Turnout
  taking = o

  abbrev q : StarPart
  q = (take_mail deck n.known n.tasks p y).part

  abbrev alive : ℕ → Bool
  alive = is_there (entry_in (world_then w c n o) e)

  abbrev X : Stance
  X = stance_of e p (inbox w.medium c.0)

  here : c.0 < length deck.systems
  here = let within = slice_get_within w.nodes c.0 n a.site.at in let count = a.count in omega (arith, within, count)

  own : stance_at w e c.0 ≡ Some (stance_of e p (inbox w.medium c.0))
  own = stance-is w e c.0 n p a.site a.star

  pub fits : mail_fits deck y ≡ true
  fits =
      (and_parts (mail_fits deck y) (list_all (mail_fits deck) rest)
      (sym (ap (list_all (mail_fits deck)) comes) ∙ a.fit.fits c.0 a.site.live)).0

  box : inbox o.medium c.0 ≡ rest
  box =
      taken-box w.medium.inboxes c.0 (let boxes = a.fit.boxes in let inside = here in omega (arith, inside, boxes))
      ∙ ap (λ (ms : List Mail). drop 1 ms) comes

  boxes : (s : ℕ) → s ≢ c.0 → inbox o.medium s ≡ inbox w.medium s
  boxes s ne = untaken-box w.medium.inboxes c.0 s ne

  early-was : (u : ℕ) → early e u rest ≡ true → early e u (inbox w.medium c.0) ≡ true
  early-was u h = ap (early e u) comes ∙ early-left e u y rest h

  -- ---- nothing of the entry
  pub quiet : names e y ≡ false → ((u : ℕ) → (c.0 == u) ≡ false → alive u ≡ true → part_from e u y ≡ [])
      → RoleStays alive c.0 (stance_of e p []) (stance_of e q []) → owed_to q e ≡ owed_to p e
      → IsEntry (entry_in (world_then w c n taking) e)
  quiet away none role owes =
      stays-then w e c n a.site o (λ u h. h) p a.star J refl (λ s S live is h. inl h) box-stays q refl owes role
    where
      box-stays : (s : ℕ) → has w.medium.removed s ≡ false
          → BoxStays alive s e (inbox w.medium s) (inbox o.medium s)
      box-stays s live = go (s == c.0) refl
        where
          go : (b : Bool) → (s == c.0) ≡ b → BoxStays alive s e (inbox w.medium s) (inbox o.medium s)
          go true same =
              let place : s ≡ c.0 = eqb-true s c.0 same in
              subst (λ i. BoxStays alive i e (inbox w.medium i) (inbox o.medium i)) (sym place)
              (subst (λ (ms : List Mail). BoxStays alive c.0 e ms (inbox o.medium c.0)) (sym comes)
              (subst (λ (ms : List Mail). BoxStays alive c.0 e (y ∷ rest) ms) (sym box)
              (box-left alive c.0 e y rest away none)))
          go false other =
              subst (λ (ms : List Mail). BoxStays alive s e (inbox w.medium s) ms)
              (sym (boxes s (eqb-false s c.0 other))) (box-same alive s e (inbox w.medium s))

  -- ---- a system that changed so, before it takes up what it may
  module _ (Y : Stance) (H : IsEntry (with_stance (entry_in w e) c.0 Y)) (r : StarPart)
      (keeps : Keeps alive c.0 e (length r.manager.entries) r q) (manages_it : Y.manages ≡ manages r e)
      (gathering : Y.gathering ≡ gathering_at r.gathers e) (owes : Y.owes ≡ owed_to r e)
      (notice : Y.notice ≡ last_item e rest) (coming : (u : ℕ) → Y.coming u ≡ parts_from e rest u) where
    pub changed : IsEntry (entry_in (world_then w c n taking) e)
    changed =
        taken-then w e c n p a.star a.site o refl refl rest box boxes Y H r q refl (length r.manager.entries) keeps
        manages_it gathering owes notice coming early-was

-- ---- a notice
module _ (deck : Deck) (w : World) (c : SysId) (n : NodeState) (p : StarPart) (a : Acting deck w c n p)
    (knows : n.known ≡ w.medium.removed) (target : SysId) (moved : List Moved)
    (rest : List Mail) (comes : inbox w.medium c.0 ≡ mails.Notice target moved ∷ rest) (e : ℕ)
    (inside : e < deck.entries) (J : IsEntry (entry_in w e)) where
  abbrev mail : Mail
  mail = mails.Notice target moved

  abbrev W : World
  W = world_then w c n (taking deck w c n p a knows (mails.Notice target moved) rest comes e inside J)

  abbrev there : ℕ → Bool
  there = is_there (entry_in W e)

  abbrev x : Standing
  x = move_each n.known (standing n.tasks p) moved

  good : mail_fits deck mail ≡ true
  good = fits deck w c n p a knows mail rest comes e inside J

  -- all its items count
  taken-is : take_mail deck n.known n.tasks p mail
      ≡ fixing_nothing (took_notice n.known (names_of deck n.tasks.system) (standing n.tasks p) moved)
  unfolding took_mail
  taken-is =
      let both = and_parts (nat_lt target.0 (length deck.systems)) (list_all (is_item_of deck) moved) good in
      ap
      (λ b.
      cond b
      (fixing_nothing
      (took_notice n.known (names_of deck n.tasks.system) (standing n.tasks p) (filter (is_item_of deck) moved)))
      (fixing_none n.tasks p))
      both.0
      ∙ ap (λ ms. fixing_nothing (took_notice n.known (names_of deck n.tasks.system) (standing n.tasks p) ms))
      (all-kept-in (is_item_of deck) moved both.1)

  part-is : (take_mail deck n.known n.tasks p mail).part
      ≡ (take_up_all (names_of deck n.tasks.system) (move_each n.known (standing n.tasks p) moved)).part
  part-is = ap (λ (z : StarStep). z.part) taken-is

  keeps-up : Keeps there c.0 e (length x.part.manager.entries) x.part (take_mail deck n.known n.tasks p mail).part
  keeps-up =
      subst (Keeps there c.0 e (length x.part.manager.entries) x.part) (sym part-is)
      (all-up there c.0 e (length x.part.manager.entries) x.part (names_of deck n.tasks.system) x
      (keeps-same there c.0 e x.part))

  -- it doesn't name the entry
  pub notice-quiet : names e (mails.Notice target moved) ≡ false →
      IsEntry (entry_in (world_then w c n (taking deck w c n p a knows
      (mails.Notice target moved) rest comes e inside J)) e)
  notice-quiet away =
      let k = moved-other n.known e moved away (standing n.tasks p) in
      quiet deck w c n p a knows mail rest comes e inside J away (λ u ne h. refl)
      (role-of k (keeps-up).role) ((keeps-up).owes ∙ k.2)
    where
      role-of :
          (manages x.part e ≡ manages p e) × (gathering_at x.part.gathers e ≡ gathering_at p.gathers e)
          × (owed_to x.part e ≡ owed_to p e)
          → RoleStays there c.0 (stance_of e x.part [])
          (stance_of e (take_mail deck n.known n.tasks p mail).part [])
          → RoleStays there c.0 (stance_of e p [])
          (stance_of e (take_mail deck n.known n.tasks p mail).part [])
      role-of k h = role-from there c.0 (stance_of e x.part []) (stance_of e p []) _ (sym k.0) (sym k.1) h

  -- it does
  module _ (here : names e (mails.Notice target moved) ≡ true) where
    named : AllName w.medium.words w.medium.removed e c.0 (noticed e rest) (items_in e (mails.Notice target moved))
    named =
        (subst (InBox w.medium.words w.medium.removed e c.0) comes (a.fit.named c.0 e a.site.live inside)).0

    own_stance : stance_at w e c.0 ≡ Some (stance_of e p (inbox w.medium c.0))
    own_stance = stance-is w e c.0 n p a.site a.star

    j : IsAt (entry_in w e) c.0 (stance_of e p (inbox w.medium c.0))
    j = J.each c.0 (stance_of e p (inbox w.medium c.0)) own_stance

    first : (z : Moved) × (slice_get (items_in e (mails.Notice target moved)) 0 ≡ Some z)
    first = go (slice_get (items_in e mail) 0) refl (sym (names-some e mail) ∙ here)
      where
        go : (o : Option Moved) → slice_get (items_in e mail) 0 ≡ o
            → is_some (slice_get (items_in e mail) 0) ≡ true
            → (z : Moved) × (slice_get (items_in e mail) 0 ≡ Some z)
        go (Some z) is k = (z, is)
        go None is k = absurd (true≢false (sym k ∙ ap is_some is))

    is-noticed : (z : Moved) × (last_item e (inbox w.medium c.0) ≡ Some z)
    is-noticed = last-there e (inbox w.medium c.0) (ap (noticed e) comes ∙ or_left (names e mail) (noticed e rest) here)

    manages-none : manages p e ≡ false
    manages-none =
        false_by (manages p e)
        (λ h. none-some (last_item e (inbox w.medium c.0)) (is-noticed).0 (is-noticed).1 (j.manages h).2)

    gathers-none : gathering_at p.gathers e ≡ None
    gathers-none = go (gathering_at p.gathers e) refl
      where
        go : (o : Option Gathering) → gathering_at p.gathers e ≡ o → gathering_at p.gathers e ≡ None
        go None is = is
        go (Some h) is = none-some (last_item e (inbox w.medium c.0)) (is-noticed).0 (is-noticed).1 (j.gathers h is).1

    out : IsOut n.known e c.0 (owed_to p e) (standing n.tasks p)
    out = record {
      system = a.part.home;
      manages_none = manages-none;
      gathers_none = gathers-none;
      owes = refl;
      count = subst (λ i. e < i) (sym a.sized.2) inside;
    }

    coming-is : (u : ℕ) → parts_from e (inbox w.medium c.0) u ≡ parts_from e rest u
    coming-is u = ap (λ ms. parts_from e ms u) comes

    -- a later one stands behind it
    pub notice-earlier : noticed e rest ≡ true →
        IsEntry (entry_in (world_then w c n (taking deck w c n p a knows
        (mails.Notice target moved) rest comes e inside J)) e)
    notice-earlier later =
        changed deck w c n p a knows mail rest comes e inside J
        (record (stance_of e p (inbox w.medium c.0)) { owes = Some z.0.manager })
        (takes-earlier (entry_in w e) J c.0 (stance_of e p (inbox w.medium c.0)) own_stance (is-noticed).0
        (is-noticed).1 z.0.manager z.1 (far z.0 z.1))
        x.part keeps-up (manages-none ∙ sym z.2.manages_none) (gathers-none ∙ sym z.2.gathers_none) (sym z.2.owes)
        (ap (last_item e) comes ∙ last-later e mail rest later) coming-is
      where
        far : (m : Moved) → has w.medium.removed m.manager.0 ≡ true → (m.manager.0 == c.0) ≡ false
        far m is =
            false_by (m.manager.0 == c.0) (λ same.
            no_truth (has w.medium.removed c.0) (ap (has w.medium.removed) (sym (eqb-true m.manager.0 c.0 same)) ∙ is)
            a.site.live)

        z : OwesSuch n.known e (λ m. has w.medium.removed m.manager.0 ≡ true) c.0 far x
        z =
            owes-then n.known e (λ m. has w.medium.removed m.manager.0 ≡ true) c.0 far moved
            (each-named w.medium.words w.medium.removed e c.0 true
            (λ m. has w.medium.removed m.manager.0 ≡ true) (λ m k. k) moved
            (subst (λ b. AllName w.medium.words w.medium.removed e c.0 b (items_in e mail)) later named))
            here (owed_to p e) (standing n.tasks p) out

    -- it is the last one: it names the manager by the word
    module _ (last : noticed e rest ≡ false) where
      each : EachNamed e (λ m. manager_at w.medium.words e ≡ Some m.manager) moved
      each =
          each-named w.medium.words w.medium.removed e c.0 false (λ m. manager_at w.medium.words e ≡ Some m.manager)
          (λ m k. k) moved
          (subst (λ b. AllName w.medium.words w.medium.removed e c.0 b (items_in e mail)) last named)

      unnoticed : last_item e rest ≡ None
      unnoticed = last-none e rest last

      notice-is : last_item e (inbox w.medium c.0) ≡ Some (first).0
      notice-is = ap (last_item e) comes ∙ (last-first e mail rest last ∙ (first).1)

      word : manager_at w.medium.words e ≡ Some ((first).0).manager
      word = (j.noticed (first).0 notice-is).1

      -- which is another system
      by-other : (((first).0).manager.0 == c.0) ≡ false →
          IsEntry (entry_in (world_then w c n (taking deck w c n p a knows
          (mails.Notice target moved) rest comes e inside J)) e)
      by-other apart =
          changed deck w c n p a knows mail rest comes e inside J
          (record (stance_of e p (inbox w.medium c.0)) { notice = None; owes = Some z.0.manager })
          (takes-last (entry_in w e) J c.0 (stance_of e p (inbox w.medium c.0)) own_stance (first).0 notice-is
          z.0.manager z.1 (far z.0 z.1))
          x.part keeps-up (manages-none ∙ sym z.2.manages_none) (gathers-none ∙ sym z.2.gathers_none) (sym z.2.owes)
          (sym unnoticed) coming-is
        where
          far : (m : Moved) → manager_at w.medium.words e ≡ Some m.manager → (m.manager.0 == c.0) ≡ false
          far m is =
              ap (λ (v : SysId). v.0 == c.0) (same_Some m.manager ((first).0).manager (sym is ∙ word)) ∙ apart

          z : OwesSuch n.known e (λ m. manager_at w.medium.words e ≡ Some m.manager) c.0 far x
          z =
              owes-then n.known e (λ m. manager_at w.medium.words e ≡ Some m.manager) c.0 far moved each here
              (owed_to p e) (standing n.tasks p) out

      -- which is this one
      by-itself : (((first).0).manager.0 == c.0) ≡ true →
          IsEntry (entry_in (world_then w c n (taking deck w c n p a knows
          (mails.Notice target moved) rest comes e inside J)) e)
      by-itself same =
          changed deck w c n p a knows mail rest comes e inside J
          (record (stance_of e p (inbox w.medium c.0)) {
            gathering = Some (record { awaits = awaited n.known c.0 ((first).0).mask; parts = [] });
            owes = None;
            notice = None;
          })
          (begins (entry_in w e) J c.0 (stance_of e p (inbox w.medium c.0)) own_stance (first).0 notice-is
          (word ∙ ap (λ i. Some (at i)) (eqb-true ((first).0).manager.0 c.0 same))
          (awaited n.known c.0 ((first).0).mask) waits)
          x.part keeps-up (manages-none ∙ sym z.manages_none) (sym z.gathers_it) (sym z.owes) (sym unnoticed) coming-is
        where
          all-own : EachNamed e (λ m. (m.manager.0 == c.0) ≡ true) moved
          all-own = more moved each
            where
              more : (ms : List Moved) → EachNamed e (λ m. manager_at w.medium.words e ≡ Some m.manager) ms
                  → EachNamed e (λ m. (m.manager.0 == c.0) ≡ true) ms
              more [] h = tt
              more (m ∷ ms) h = (
                λ is.
                    ap (λ (v : SysId). v.0 == c.0) (same_Some m.manager ((first).0).manager (sym (h.0 is) ∙ word))
                    ∙ same,
                more ms h.1,
              )

          z : HasBegun n.known e c.0 (record { awaits = awaited n.known c.0 ((first).0).mask; parts = [] }) x
          z =
              begins-then n.known e c.0 moved all-own (first).0 (first).1 deck.entries inside (owed_to p e)
              (standing n.tasks p) a.part.count out

          -- who is there wasn't removed, and is below the most
          waits : (u : ℕ) → is_there (entry_in w e) u ≡ true
              → has (awaited n.known c.0 ((first).0).mask) u ≡ (has ((first).0).mask u && not (c.0 == u))
          waits u h =
              let S = there-is (entry_in w e) u h in
              let live : has n.known u ≡ false =
              ap (λ i. has i u) knows ∙ live-entry w e u S.0 S.1 in
              go (c.0 == u) refl live
            where
              small : u < most_systems
              small =
                  let S = there-is (entry_in w e) u h in
                  let z = stands w e u S.0 S.1 in
                  let within = slice_get_within w.nodes u z.node z.site.at in
                  let count = a.count in
                  let few = a.few in
                  omega (arith, within, count, few)

              go : (b : Bool) → (c.0 == u) ≡ b → has n.known u ≡ false
                  → has (awaited n.known c.0 ((first).0).mask) u ≡ (has ((first).0).mask u && not b)
              go true is live =
                  let place : c.0 ≡ u = eqb-true c.0 u is in
                  ap (has (awaited n.known c.0 ((first).0).mask)) (sym place)
                  ∙ (has-without_same (without_those n.known ((first).0).mask) c.0
                  ∙ sym (and-false (has ((first).0).mask u)))
              go false is live =
                  has-without_other (without_those n.known ((first).0).mask) c.0 u
                  (λ place. no_truth (c.0 == u) (eq-eqb c.0 u (sym place)) is)
                  ∙ (has-without_all most_systems n.known ((first).0).mask u small
                  ∙ ap (λ d. has ((first).0).mask u && not d) live)

      pub notice-last :
          IsEntry (entry_in (world_then w c n (taking deck w c n p a knows
          (mails.Notice target moved) rest comes e inside J)) e)
      notice-last = go (((first).0).manager.0 == c.0) refl
        where
          go : (b : Bool) → (((first).0).manager.0 == c.0) ≡ b → IsEntry (entry_in W e)
          go true same = by-itself same
          go false apart = by-other apart
