-- What holds of the medium and of each live system of a run in star mode, as far as words, roles and lists go; and how
-- an event of one system keeps it. In star mode no event removes a system.
use Rattle.grs_world.proofs.Common.{[], ◌++◌, ◌<◌, ◌∙◌, ◌∷◌, ◌≡◌, ◌≢◌, after_fixed, Alike, All, ap, Bool, Deck, eq-eqb}
use Rattle.grs_world.proofs.Common.{eqb-true, false, false_by, Fixed, fixed_by, has, has_interest, is_interested}
use Rattle.grs_world.proofs.Common.{is_manager, IsManaged, items, items-append, items_from, items_of, length}
use Rattle.grs_world.proofs.Common.{length-set, List, lists, lives, lt-ltb, managed_at, manager_at, manages, nat_lt}
use Rattle.grs_world.proofs.Common.{no_truth, NodeState, None, Option, plain, refl, same_Some, set, Some, StarPart}
use Rattle.grs_world.proofs.Common.{State, subst, sym, SysId, true, Turnout, World, ℕ}
use Rattle.grs_known.specs.Items.{lists_from}
use Rattle.contention_mgr.specs.Laws.{AreWellKept}
use Rattle.grs_known.proofs.known.ItemLaws.{lists_from-append}
use Rattle.grs_world.proofs.star.Calm.{IsCalm}
use Rattle.grs_world.proofs.star.Under.{under}
use Rattle.grs_world.proofs.run.Site.{Site, site-below, each_site}
use Rattle.grs_world.proofs.run.Placed.{world_then}

-- whether a system manages an entry, by the words
abbrev pub has_manager : List ℕ → ℕ → ℕ → Bool
has_manager words e s = is_manager (manager_at words e) (record { 0 = s })

pub managed-is : (words : List ℕ) (e s : ℕ) (o : Option SysId) → manager_at words e ≡ o
    → is_manager o (record { 0 = s }) ≡ true → manager_at words e ≡ Some (record { 0 = s })
managed-is words e s None at h = absurd (cc)
managed-is words e s (Some m) at h = at ∙ ap (λ (k : ℕ). Some (record { 0 = k })) (eqb-true m.0 s h)

pub manager-here : (words : List ℕ) (e : ℕ) (m : SysId) → manager_at words e ≡ Some m → has_manager words e m.0 ≡ true
manager-here words e m h = ap (λ o. is_manager o (record { 0 = m.0 })) h ∙ eq-eqb m.0 m.0 refl

-- an entry has one manager
pub one-manages : (words : List ℕ) (e m k : ℕ) → has_manager words e m ≡ true → has_manager words e k ≡ true → m ≡ k
one-manages words e m k mine other =
    ap (λ (z : SysId). z.0) (same_Some (record { 0 = m }) (record { 0 = k })
    (sym (managed-is words e m (manager_at words e) refl mine) ∙ managed-is words e k (manager_at words e) refl other))

-- What holds of a system's part in star mode, by the words and by all lists.
pub record IsPart (deck : Deck) (words : List ℕ) (L : State) (s : ℕ) (p : StarPart) : Type 0 where
  pub home : p.manager.system.0 ≡ s
  pub entries : length p.manager.entries ≡ deck.entries
  pub interests : length p.interest ≡ deck.entries
  -- it manages the entries whose words name it, and has interest in those whose words hold it
  pub roles : (e : ℕ) → manages p e ≡ has_manager words e s
  pub interest : (e : ℕ) → has_interest p e ≡ is_interested words e s
  -- of an entry that it manages it keeps the lists
  pub lists : (e : ℕ) → manages p e ≡ true → Alike (plain (items_of (managed_at p.manager e))) (under deck.entries e L)
  -- there ranks rise, and each who is still to be told owns and is of another system
  pub well : AreWellKept p.manager
  -- it gathers no entry, and owes no part of one
  pub calm : IsCalm p.gathers p.owes

-- What holds of the system.
pub record IsMember (deck : Deck) (words : List ℕ) (L : State) (s : ℕ) (n : NodeState) : Type 0 where
  pub part : StarPart
  pub star : n.star ≡ Some part
  pub outbox : n.outbox ≡ []
  pub fits : IsPart deck words L s part

-- the lists after all that was fixed
abbrev pub all_lists : World → State
all_lists w = lists (items w.fixed)

abbrev pub lists_after : State → List Fixed → State
lists_after s [] = s
lists_after s (f ∷ fs) = lists_after (after_fixed s f) fs

after-items : (s : State) (c : SysId) (fs : List Fixed) → lists_from s (items_from s (fixed_by c fs)) ≡ lists_after s fs
after-items s c [] = refl
after-items s c (f ∷ fs) = after-items (after_fixed s f) c fs

pub lists-grown : (xs : List (SysId × Fixed)) (c : SysId) (fs : List Fixed)
    → lists (items (xs ++ fixed_by c fs)) ≡ lists_after (lists (items xs)) fs
lists-grown xs c fs =
    ap lists (items-append xs (fixed_by c fs))
    ∙ lists_from-append [] (items xs) (items_from (lists (items xs)) (fixed_by c fs))
    ∙ after-items (lists (items xs)) c fs

-- What holds of the medium and all live systems.
pub record IsStar (deck : Deck) (w : World) : Type 0 where
  pub mode : w.medium.star ≡ true
  pub words : length w.medium.words ≡ deck.entries
  pub inboxes : length w.medium.inboxes ≡ length deck.systems
  pub systems : length w.nodes ≡ length deck.systems
  pub managed : All IsManaged w.medium.words
  -- nobody but a live system has interest or manages
  pub nobody : (e s : ℕ) → lives (length w.nodes) w.medium.removed s ≡ false
      → (is_interested w.medium.words e s ≡ false) × (has_manager w.medium.words e s ≡ false)
  -- where there is no manager nothing is queued
  pub free : (e : ℕ) → manager_at w.medium.words e ≡ None → under deck.entries e (all_lists w) ≡ []
  pub node : (s : ℕ) (n : NodeState) → Site w s n → IsMember deck w.medium.words (all_lists w) s n

-- What an event of system c does to words and lists: nothing to the others' interest and roles, and nothing to the
-- lists of an entry that c doesn't manage.
pub record Moves (deck : Deck) (c : ℕ) (words words' : List ℕ) (L L' : State) : Type 0 where
  pub count : length words' ≡ length words
  pub managed : All IsManaged words'
  pub managers : (e u : ℕ) → u ≢ c → has_manager words' e u ≡ has_manager words e u
  pub interest : (e u : ℕ) → u ≢ c → is_interested words' e u ≡ is_interested words e u
  pub lists : (e : ℕ) → has_manager words e c ≡ false → has_manager words' e c ≡ false
      → under deck.entries e L' ≡ under deck.entries e L
  pub free : (e : ℕ) → manager_at words' e ≡ None → under deck.entries e L' ≡ []

-- What an event of a system comes to.
pub record IsStep (deck : Deck) (w : World) (c : SysId) (n : NodeState) (o : Turnout) : Type 0 where
  pub mode : o.medium.star ≡ true
  pub removed : o.medium.removed ≡ w.medium.removed
  pub inboxes : length o.medium.inboxes ≡ length w.medium.inboxes
  pub message : o.medium.message ≡ w.medium.message
  pub moves : Moves deck c.0 w.medium.words o.medium.words (all_lists w) (lists_after (all_lists w) o.step.fixed)
  pub member : IsMember deck o.medium.words (lists_after (all_lists w) o.step.fixed) c.0 o.step.node

-- nothing happens to words and lists
pub stays : (deck : Deck) (w : World) (c : ℕ) → IsStar deck w
    → Moves deck c w.medium.words w.medium.words (all_lists w) (all_lists w)
stays deck w c g = record {
  count = refl;
  managed = g.managed;
  managers = λ e u ne. refl;
  interest = λ e u ne. refl;
  lists = λ e h k. refl;
  free = g.free;
}

-- another system, which is as it was
member-other : (deck : Deck) (c : ℕ) (words words' : List ℕ) (L L' : State) (u : ℕ) (n : NodeState) → u ≢ c
    → Moves deck c words words' L L' → IsMember deck words L u n → IsMember deck words' L' u n
member-other deck c words words' L L' u n ne m k = record {
  part = k.part;
  star = k.star;
  outbox = k.outbox;
  fits = record {
    home = k.fits.home;
    entries = k.fits.entries;
    interests = k.fits.interests;
    roles = λ e. k.fits.roles e ∙ sym (m.managers e u ne);
    interest = λ e. k.fits.interest e ∙ sym (m.interest e u ne);
    lists = λ e h.
        let mine : has_manager words e u ≡ true = sym (k.fits.roles e) ∙ h in
        subst (Alike (plain (items_of (managed_at k.part.manager e))))
        (sym (m.lists e (alone words e mine) (alone words' e (m.managers e u ne ∙ mine)))) (k.fits.lists e h);
    well = k.fits.well;
    calm = k.fits.calm;
  };
}
  where
    alone : (ws : List ℕ) (e : ℕ) → has_manager ws e u ≡ true → has_manager ws e c ≡ false
    alone ws e h = false_by (has_manager ws e c) (λ mine. absurd (ne (one-manages ws e u c h mine)))

-- the world after the event
module _ (deck : Deck) (w : World) (c : SysId) (n : NodeState) (at : Site w c.0 n) (g : IsStar deck w) (o : Turnout)
    (h : IsStep deck w c n o) where
  grown : all_lists (world_then w c n o) ≡ lists_after (all_lists w) o.step.fixed
  grown = lists-grown w.fixed c o.step.fixed

  count : length (set w.nodes c.0 o.step.node) ≡ length w.nodes
  count = length-set w.nodes c.0 o.step.node

  here : c.0 < length w.nodes
  here = site-below w c.0 n at

  -- who isn't live now wasn't before, and is another system
  beyond : (s : ℕ) → lives (length (set w.nodes c.0 o.step.node)) o.medium.removed s ≡ false
      → (s ≢ c.0) × (lives (length w.nodes) w.medium.removed s ≡ false)
  beyond s gone =
      let was : lives (length w.nodes) w.medium.removed s ≡ false =
      ap (λ i. lives i w.medium.removed s) (sym count)
      ∙ (ap (λ i. lives (length (set w.nodes c.0 o.step.node)) i s) (sym h.removed) ∙ gone) in
      let within : nat_lt c.0 (length w.nodes) ≡ true = lt-ltb c.0 (length w.nodes) here in (
        λ e.
            no_truth (lives (length w.nodes) w.medium.removed c.0) (rw (within, at.live) refl)
            (ap (lives (length w.nodes) w.medium.removed) (sym e) ∙ was),
        was,
      )

  pub framed : IsStar deck (world_then w c n o)
  framed = record {
    mode = h.mode;
    words = h.moves.count ∙ g.words;
    inboxes = h.inboxes ∙ g.inboxes;
    systems = count ∙ g.systems;
    managed = h.moves.managed;
    nobody = λ e s past. (
      h.moves.interest e s (beyond s past).0 ∙ (g.nobody e s (beyond s past).1).0,
      h.moves.managers e s (beyond s past).0 ∙ (g.nobody e s (beyond s past).1).1,
    );
    free = λ e none. ap (under deck.entries e) grown ∙ h.moves.free e none;
    node = λ s k u.
        subst (λ L. IsMember deck o.medium.words L s k) (sym grown) (each_site w c n at o
        (λ i l. sym (ap (λ z. has z i) h.removed) ∙ l)
        (IsMember deck o.medium.words (lists_after (all_lists w) o.step.fixed)) h.member
        (λ i z ne found.
        member-other deck c.0 w.medium.words o.medium.words (all_lists w) (lists_after (all_lists w) o.step.fixed) i z
        ne h.moves (g.node i z found))
        s k u);
  }
