-- A system takes a part of an entry, or a mail that is neither a notice nor a part.
use Rattle.grs_world.proofs.Common.{[], ◌&&◌, ◌++◌, ◌<◌, ◌==◌, ◌∙◌, ◌∷◌, ◌≡◌, and-false, ap, Bool, by_test, cond, Deck}
use Rattle.grs_world.proofs.Common.{eq-eqb, eqb-true, false, false_by, filter, fixing_none, Gathering, gathering_at}
use Rattle.grs_world.proofs.Common.{has, has-without_other, has-without_same, inbox, is_for_deck, is_of_deck, is_some}
use Rattle.grs_world.proofs.Common.{length, List, Mail, manages, map, names_of, no_truth, NodeState, None, noticed}
use Rattle.grs_world.proofs.Common.{Option, owed_to, PartRec, refl, Some, standing, StarPart, StarStep, subst, sym}
use Rattle.grs_world.proofs.Common.{SysId, take_mail, take_up_all, took_mail, true, without, World, ℕ}
use Rattle.grs_wire.specs.Notices.{names}
use Rattle.grs_node.specs.Node.{fixing_nothing}
use Rattle.grs_node.specs.Removal.{took_part}
use Rattle.grs_node.specs.Star.{is_held_for}
use Rattle.system_purge.specs.Gather.{is_of_part}
use Rattle.system_purge.specs.Gathers.{with_part, with_part_at}
use Rattle.system_purge.specs.declared.gathers.SentPart.{SentPart}
use Rattle.grs_world.proofs.gather.way.Acting.{Acting}
use Rattle.grs_world.proofs.gather.way.Boxes.{behind-part, early, is_part, last-left, last-none}
use Rattle.grs_world.proofs.gather.way.Comes.{Expects, expects, takes-part}
use Rattle.grs_world.proofs.gather.way.Entry.{AlikeIn, IsAt, IsEntry, RoleStays, as_before, at, is_there, there-is}
use Rattle.grs_world.proofs.gather.way.Scene.{each-then, entry_in, live-entry, role-from, stance-is}
use Rattle.grs_world.proofs.gather.way.Steps.{Keeps, alike-same, all-up, came-here, came-none, came-other, keeps-same}
use Rattle.grs_world.proofs.gather.way.Steps.{role-then}
use Rattle.grs_world.proofs.gather.way.Takes.{changed, fits, quiet, taking}
use Rattle.grs_world.proofs.run.Knowing.{KnowsRemoved}
use Rattle.grs_world.proofs.run.Placed.{world_then}
use Rattle.grs_world.specs.OnTheWay.{Stance, kept_of, last_item, part_from, parts_from, stance_at, stance_of}
use Rattle.grs_wire.specs.declared.medium.Mail.TheVariants as mails

-- ---- a mail that is neither
abbrev pub IsOther : Mail → Type 0
IsOther (mails.Request e from q) = Unit {0}
IsOther (mails.Answered t answer rank) = Unit {0}
IsOther (mails.Granted t r) = Unit {0}
IsOther (mails.Notice target moved) = ⊥
IsOther (mails.Part e from records) = ⊥

other-names : (e : ℕ) (y : Mail) → IsOther y → names e y ≡ false
other-names e (mails.Request x from q) h = refl
other-names e (mails.Answered t answer rank) h = refl
other-names e (mails.Granted t r) h = refl
other-names e (mails.Notice target moved) h = absurd h
other-names e (mails.Part x from records) h = absurd h

other-none : (e u : ℕ) (y : Mail) → IsOther y → part_from e u y ≡ []
other-none e u (mails.Request x from q) h = refl
other-none e u (mails.Answered t answer rank) h = refl
other-none e u (mails.Granted t r) h = refl
other-none e u (mails.Notice target moved) h = absurd h
other-none e u (mails.Part x from records) h = absurd h

-- of entries it changes nothing
abbrev SamePart : ℕ → StarPart → StarPart → Type 0
SamePart e p q =
    (manages q e ≡ manages p e) × (gathering_at q.gathers e ≡ gathering_at p.gathers e) × (owed_to q e ≡ owed_to p e)

other-same : (deck : Deck) (n : NodeState) (p : StarPart) (e : ℕ) (y : Mail) → IsOther y
    → SamePart e p (take_mail deck n.known n.tasks p y).part
unfolding took_mail
other-same deck n p e y h = go (is_for_deck deck y) y h
  where
    go : (b : Bool) (m : Mail) → IsOther m
        → SamePart e p (cond b (took_mail deck n.known n.tasks p m) (fixing_none n.tasks p)).part
    go false m k = (refl, refl, refl)
    go true (mails.Request x from q) k =
        by_test (SamePart e p) (is_held_for n.known p x q) (record p { held = p.held ++ q ∷ [] }) p
        (λ here. (refl, refl, refl)) (λ away. (refl, refl, refl))
    go true (mails.Answered t answer rank) k = (refl, refl, refl)
    go true (mails.Granted t r) k = (refl, refl, refl)
    go true (mails.Notice target moved) k = absurd k
    go true (mails.Part x from records) k = absurd k

-- ---- a part that came of another system
kept-other : (u : ℕ) (q : SentPart) (qs : List SentPart) → (q.from.0 == u) ≡ false
    → map (λ (z : SentPart). z.records) (filter (λ (z : SentPart). z.from.0 == u) (qs ++ q ∷ []))
    ≡ map (λ (z : SentPart). z.records) (filter (λ (z : SentPart). z.from.0 == u) qs)
kept-other u q [] away = ap (λ b. map (λ (z : SentPart). z.records) (cond b (q ∷ []) [])) away
kept-other u q (z ∷ qs) away = go (z.from.0 == u) (kept-other u q qs away)
  where
    go : (b : Bool)
        → map (λ (y : SentPart). y.records) (filter (λ (y : SentPart). y.from.0 == u) (qs ++ q ∷ []))
        ≡ map (λ (y : SentPart). y.records) (filter (λ (y : SentPart). y.from.0 == u) qs) →
        map (λ (y : SentPart). y.records)
        (cond b (z ∷ filter (λ (y : SentPart). y.from.0 == u) (qs ++ q ∷ []))
        (filter (λ (y : SentPart). y.from.0 == u) (qs ++ q ∷ [])))
        ≡ map (λ (y : SentPart). y.records)
        (cond b (z ∷ filter (λ (y : SentPart). y.from.0 == u) qs) (filter (λ (y : SentPart). y.from.0 == u) qs))
    go true more = ap (λ (ys : List (List PartRec)). z.records ∷ ys) more
    go false more = more

kept-new : (u : ℕ) (q : SentPart) (qs : List SentPart) → (q.from.0 == u) ≡ true
    → map (λ (z : SentPart). z.records) (filter (λ (z : SentPart). z.from.0 == u) (qs ++ q ∷ []))
    ≡ map (λ (z : SentPart). z.records) (filter (λ (z : SentPart). z.from.0 == u) qs) ++ q.records ∷ []
kept-new u q [] here = ap (λ b. map (λ (z : SentPart). z.records) (cond b (q ∷ []) [])) here
kept-new u q (z ∷ qs) here = go (z.from.0 == u) (kept-new u q qs here)
  where
    go : (b : Bool)
        → map (λ (y : SentPart). y.records) (filter (λ (y : SentPart). y.from.0 == u) (qs ++ q ∷ []))
        ≡ map (λ (y : SentPart). y.records) (filter (λ (y : SentPart). y.from.0 == u) qs) ++ q.records ∷ [] →
        map (λ (y : SentPart). y.records)
        (cond b (z ∷ filter (λ (y : SentPart). y.from.0 == u) (qs ++ q ∷ []))
        (filter (λ (y : SentPart). y.from.0 == u) (qs ++ q ∷ [])))
        ≡ map (λ (y : SentPart). y.records)
        (cond b (z ∷ filter (λ (y : SentPart). y.from.0 == u) qs) (filter (λ (y : SentPart). y.from.0 == u) qs))
        ++ q.records ∷ []
    go true more = ap (λ (ys : List (List PartRec)). z.records ∷ ys) more
    go false more = more

module _ (from : SysId) (entries e : ℕ) (recs : List PartRec) (g : Gathering) where
  abbrev sent : SentPart
  sent = record { from = from; records = filter (is_of_part entries e from) recs }

  abbrev pub more : Gathering
  more = record {
    awaits = without g.awaits from.0;
    parts = g.parts ++ record { from = from; records = filter (is_of_part entries e from) recs } ∷ [];
  }

  pub more-other : (v : ℕ) → (from.0 == v) ≡ false → (has more.awaits v ≡ has g.awaits v)
      × (kept_of (Some more) v ≡ kept_of (Some g) v)
  more-other v away = (
    has-without_other g.awaits from.0 v (λ same. no_truth (from.0 == v) (eq-eqb from.0 v (sym same)) away),
    kept-other v sent g.parts away,
  )

  pub more-here : (has more.awaits from.0 ≡ false)
      × (kept_of (Some more) from.0
      ≡ kept_of (Some g) from.0 ++ filter (is_of_part entries e from) recs ∷ [])
  more-here = (has-without_same g.awaits from.0, kept-new from.0 sent g.parts (eq-eqb from.0 from.0 refl))

  with-other : (v : ℕ) → (from.0 == v) ≡ false
      → (has (with_part entries e from recs g).awaits v ≡ has g.awaits v)
      × (kept_of (Some (with_part entries e from recs g)) v ≡ kept_of (Some g) v)
  with-other v away =
      by_test
      (λ (h : Gathering). (has h.awaits v ≡ has g.awaits v) × (kept_of (Some h) v ≡ kept_of (Some g) v))
      (has g.awaits from.0) more g (λ waits. more-other v away) (λ none. (refl, refl))

  pub with-awaited : has g.awaits from.0 ≡ true → with_part entries e from recs g ≡ more
  with-awaited waits = ap (λ b. cond b more g) waits

came-alike : (alive : ℕ → Bool) (s : ℕ) (gs : List (Option Gathering)) (e : ℕ) (from : SysId) (recs : List PartRec)
    → ((v : ℕ) → (s == v) ≡ false → alive v ≡ true → (from.0 == v) ≡ false)
    → AlikeIn alive s (gathering_at gs e) (gathering_at (with_part_at gs e from recs) e)
came-alike alive s gs e from recs away = go (gathering_at gs e) refl
  where
    go : (o : Option Gathering) → gathering_at gs e ≡ o
        → AlikeIn alive s (gathering_at gs e) (gathering_at (with_part_at gs e from recs) e)
    go None is =
        subst (AlikeIn alive s (gathering_at gs e)) (sym (came-none gs e from recs is))
        (subst (λ o. AlikeIn alive s o None) (sym is) tt)
    go (Some g) is =
        subst (AlikeIn alive s (gathering_at gs e)) (sym (came-here gs e from recs g is))
        (subst (λ o. AlikeIn alive s o (Some (with_part (length gs) e from recs g))) (sym is)
        (λ v ne there. with-other from (length gs) e recs g v (away v ne there)))

-- ---- the event
module _ (deck : Deck) (w : World) (c : SysId) (n : NodeState) (p : StarPart) (a : Acting deck w c n p)
    (knows : n.known ≡ w.medium.removed) where
  -- a mail that is neither
  pub other-taken : (y : Mail) (rest : List Mail) (comes : inbox w.medium c.0 ≡ y ∷ rest) (e : ℕ)
      (inside : e < deck.entries) (J : IsEntry (entry_in w e)) → IsOther y →
      IsEntry (entry_in (world_then w c n (taking deck w c n p a knows y rest comes e inside J)) e)
  other-taken y rest comes e inside J other =
      let k = other-same deck n p e y other in
      quiet deck w c n p a knows y rest comes e inside J (other-names e y other)
      (λ u ne there. other-none e u y other)
      (as_before k.0
      (subst (AlikeIn _ c.0 (gathering_at p.gathers e)) (sym k.1) (alike-same _ c.0 (gathering_at p.gathers e))))
      k.2

  module _ (f : ℕ) (from : SysId) (recs : List PartRec) (rest : List Mail)
      (comes : inbox w.medium c.0 ≡ mails.Part f from recs ∷ rest) (e : ℕ) (inside : e < deck.entries)
      (J : IsEntry (entry_in w e)) where
    abbrev mail : Mail
    mail = mails.Part f from recs

    abbrev W : World
    W = world_then w c n (taking deck w c n p a knows (mails.Part f from recs) rest comes e inside J)

    abbrev alive : ℕ → Bool
    alive = is_there (entry_in W e)

    abbrev those : List PartRec
    those = filter (λ (r : PartRec). is_of_deck deck r.task) recs

    abbrev r : StarPart
    r = record p { gathers = with_part_at p.gathers f from those }

    taken-is : take_mail deck n.known n.tasks p mail
        ≡ fixing_nothing (took_part n.known (names_of deck n.tasks.system) (standing n.tasks p) f from those)
    unfolding took_mail
    taken-is =
        ap
        (λ b.
        cond b
        (fixing_nothing (took_part n.known (names_of deck n.tasks.system) (standing n.tasks p) f from those))
        (fixing_none n.tasks p))
        (fits deck w c n p a knows mail rest comes e inside J)

    -- of who is known to be removed it is dropped
    part-dropped : has n.known from.0 ≡ true → (take_mail deck n.known n.tasks p mail).part ≡ p
    part-dropped gone =
        ap (λ (z : StarStep). z.part) taken-is
        ∙ ap
        (λ b.
        (cond b (standing n.tasks p)
        (take_up_all (names_of deck n.tasks.system)
        (standing n.tasks (record p { gathers = with_part_at p.gathers f from those })))).part)
        gone

    keeps-up : has n.known from.0 ≡ false
        → Keeps alive c.0 e (length r.manager.entries) r (take_mail deck n.known n.tasks p mail).part
    keeps-up live =
        subst (Keeps alive c.0 e (length r.manager.entries) r)
        (sym (ap (λ (z : StarStep). z.part) taken-is
        ∙ ap
        (λ b.
        (cond b (standing n.tasks p)
        (take_up_all (names_of deck n.tasks.system)
        (standing n.tasks (record p { gathers = with_part_at p.gathers f from those })))).part)
        live))
        (all-up alive c.0 e (length r.manager.entries) r (names_of deck n.tasks.system) (standing n.tasks r)
        (keeps-same alive c.0 e r))

    -- nothing of it is of these systems
    part-away : ((u : ℕ) → (c.0 == u) ≡ false → alive u ≡ true → ((f == e) && (from.0 == u)) ≡ false)
        → (u : ℕ) → (c.0 == u) ≡ false → alive u ≡ true → part_from e u mail ≡ []
    part-away off u ne there = ap (λ b. cond b (recs ∷ []) []) (off u ne there)

    quiet-part : ((u : ℕ) → (c.0 == u) ≡ false → alive u ≡ true → ((f == e) && (from.0 == u)) ≡ false)
        → AlikeIn alive c.0 (gathering_at p.gathers e) (gathering_at r.gathers e) → IsEntry (entry_in W e)
    quiet-part off alike = go (has n.known from.0) refl
      where
        go : (b : Bool) → has n.known from.0 ≡ b → IsEntry (entry_in W e)
        go true gone =
            quiet deck w c n p a knows mail rest comes e inside J refl (part-away off)
            (subst (λ (z : StarPart). RoleStays alive c.0 (stance_of e p []) (stance_of e z []))
            (sym (part-dropped gone))
            (as_before refl (alike-same alive c.0 (gathering_at p.gathers e))))
            (ap (λ (z : StarPart). owed_to z e) (part-dropped gone))
        go false live =
            let k = keeps-up live in
            quiet deck w c n p a knows mail rest comes e inside J refl (part-away off)
            (role-then alive c.0 (stance_of e p []) (stance_of e r [])
            (stance_of e (take_mail deck n.known n.tasks p mail).part []) (as_before refl alike) k.role)
            k.owes

    -- it is of the entry, and of another system that is there
    module _ (same : f ≡ e) (apart : (c.0 == from.0) ≡ false) (there : alive from.0 ≡ true) where
      own : stance_at w e c.0 ≡ Some (stance_of e p (inbox w.medium c.0))
      own = stance-is w e c.0 n p a.site a.star

      was-there : is_there (entry_in w e) from.0 ≡ true
      was-there =
          let T = there-is (entry_in W e) from.0 there in
          each-then w e c n a.site (taking deck w c n p a knows mail rest comes e inside J) (λ u h. h)
          (λ s S. is_there (entry_in w e) s ≡ true) (λ q star live. ap is_some own)
          (λ s k q ne u star live. ap is_some (stance-is w e s k q u star)) from.0 T.0 T.1

      U : (S : Stance) × (stance_at w e from.0 ≡ Some S)
      U = there-is (entry_in w e) from.0 was-there

      known-not : has n.known from.0 ≡ false
      known-not = ap (λ i. has i from.0) knows ∙ live-entry w e from.0 U.0 U.1

      here : ((f == e) && (from.0 == from.0)) ≡ true
      here =
          ap (λ b. b && (from.0 == from.0)) (eq-eqb f e same) ∙ eq-eqb from.0 from.0 refl

      part-here : part_from e from.0 mail ≡ recs ∷ []
      part-here = ap (λ b. cond b (recs ∷ []) []) here

      coming-here : parts_from e (inbox w.medium c.0) from.0 ≡ recs ∷ parts_from e rest from.0
      coming-here =
          ap (λ ms. parts_from e ms from.0) comes
          ∙ ap (λ (zs : List (List PartRec)). zs ++ parts_from e rest from.0) part-here

      j : IsAt (entry_in w e) c.0 (stance_of e p (inbox w.medium c.0))
      j = J.each c.0 (stance_of e p (inbox w.medium c.0)) own

      quiet-rest : noticed e rest ≡ false
      quiet-rest =
          behind-part e from.0 mail rest (ap is_part part-here)
          (sym (ap (early e from.0) comes) ∙ j.behind from.0 apart was-there)

      last-is : last_item e (inbox w.medium c.0) ≡ last_item e rest
      last-is = ap (last_item e) comes ∙ last-left e mail rest refl

      unnoticed : last_item e (inbox w.medium c.0) ≡ None
      unnoticed = last-is ∙ last-none e rest quiet-rest

      abbrev k : Expects (entry_in w e) J c.0 (stance_of e p (inbox w.medium c.0)) own from.0 U.0 apart U.1 recs
          (parts_from e rest from.0) coming-here unnoticed
      k =
          expects (entry_in w e) J c.0 (stance_of e p (inbox w.medium c.0)) own from.0 U.0 apart U.1 recs
          (parts_from e rest from.0) coming-here unnoticed

      abbrev h : Gathering
      h = more from (length p.gathers) e those k.gathering

      gathers-it : gathering_at r.gathers e ≡ Some (more from (length p.gathers) e those k.gathering)
      gathers-it =
          ap (λ i. gathering_at (with_part_at p.gathers i from those) e) same
          ∙ (came-here p.gathers e from those k.gathering k.gathers
          ∙ ap (λ (z : Gathering). Some z) (with-awaited from (length p.gathers) e those k.gathering k.awaits_it))

      moved-part : IsEntry (entry_in (world_then w c n (taking deck w c n p a knows (mails.Part f from recs) rest comes
          e inside J)) e)
      moved-part =
          changed deck w c n p a knows mail rest comes e inside J (stance_of e r rest)
          (takes-part (entry_in w e) J c.0 (stance_of e p (inbox w.medium c.0)) own from.0 U.0 apart U.1 recs
          (parts_from e rest from.0) coming-here unnoticed (stance_of e r rest)
          (more from (length p.gathers) e those k.gathering)
          (filter (is_of_part (length p.gathers) e from) those) refl refl (sym last-is) gathers-it others refl
          (λ v off. more-other from (length p.gathers) e those k.gathering v (flip v off))
          (more-here from (length p.gathers) e those k.gathering).0
          (more-here from (length p.gathers) e those k.gathering).1)
          r (keeps-up known-not) refl refl refl refl (λ u. refl)
        where
          flip : (v : ℕ) → (v == from.0) ≡ false → (from.0 == v) ≡ false
          flip v off =
              false_by (from.0 == v) (λ is.
              no_truth (v == from.0) (eq-eqb v from.0 (sym (eqb-true from.0 v is))) off)

          others : (v : ℕ) → (v == from.0) ≡ false → parts_from e rest v ≡ parts_from e (inbox w.medium c.0) v
          others v off =
              sym (ap (λ ms. parts_from e ms v) comes
              ∙ ap (λ (zs : List (List PartRec)). zs ++ parts_from e rest v)
              (ap (λ b. cond b (recs ∷ []) [])
              (ap (λ b. (f == e) && b) (flip v off) ∙ and-false (f == e))))

    pub part-taken :
        IsEntry (entry_in (world_then w c n (taking deck w c n p a knows (mails.Part f from recs) rest comes
        e inside J)) e)
    part-taken = go (f == e) refl
      where
        by-there : f ≡ e → (c.0 == from.0) ≡ false → (b : Bool) → alive from.0 ≡ b → IsEntry (entry_in W e)
        by-there same apart true there = moved-part same apart there
        by-there same apart false gone =
            let away : (v : ℕ) → (c.0 == v) ≡ false → alive v ≡ true → (from.0 == v) ≡ false =
            λ v ne there.
            false_by (from.0 == v) (λ is.
            no_truth (alive v) there (ap alive (sym (eqb-true from.0 v is)) ∙ gone)) in
            quiet-part (λ v ne there. ap (λ b. (f == e) && b) (away v ne there) ∙ and-false (f == e))
            (subst (λ i.
            AlikeIn alive c.0 (gathering_at p.gathers e) (gathering_at (with_part_at p.gathers i from those) e))
            (sym same) (came-alike alive c.0 p.gathers e from those away))

        by-own : f ≡ e → (b : Bool) → (c.0 == from.0) ≡ b → IsEntry (entry_in W e)
        by-own same true mine =
            let away : (v : ℕ) → (c.0 == v) ≡ false → alive v ≡ true → (from.0 == v) ≡ false =
            λ v ne there. ap (λ i. i == v) (sym (eqb-true c.0 from.0 mine)) ∙ ne in
            quiet-part (λ v ne there. ap (λ b. (f == e) && b) (away v ne there) ∙ and-false (f == e))
            (subst (λ i.
            AlikeIn alive c.0 (gathering_at p.gathers e) (gathering_at (with_part_at p.gathers i from those) e))
            (sym same) (came-alike alive c.0 p.gathers e from those away))
        by-own same false apart = by-there same apart (alive from.0) refl

        go : (b : Bool) → (f == e) ≡ b → IsEntry (entry_in W e)
        go true same = by-own (eqb-true f e same) (c.0 == from.0) refl
        go false off =
            quiet-part (λ v ne there. ap (λ b. b && (from.0 == v)) off)
            (subst (AlikeIn alive c.0 (gathering_at p.gathers e))
            (sym (came-other p.gathers e f from those (λ same. no_truth (f == e) (eq-eqb f e (sym same)) off)))
            (alike-same alive c.0 (gathering_at p.gathers e)))
