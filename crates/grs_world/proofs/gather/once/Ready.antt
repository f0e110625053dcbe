-- No notice of its entry stands behind a request in a system's hands: each is there to be settled, as soon as the
-- entry's lists are. So it is in every run.
use Rattle.grs_world.proofs.Common.{[], ◌++◌, ◌<◌, ◌==◌, ◌∙◌, ◌∷◌, ◌≡◌, ◌≢◌, ◌⊎◌, ap, arith, awake, Bool, by_test, cond}
use Rattle.grs_world.proofs.Common.{Deck, eqb-false, eqb-true, false, filter, fixing_none, has, inbox, inbox_of, inl}
use Rattle.grs_world.proofs.Common.{inr, is_for_deck, is_item_of, is_of_deck, length, List, Mail, names_of, NodeState}
use Rattle.grs_world.proofs.Common.{noticed, or_parts, refl, Req, same_Some, slice_get_within, Some, Standing, standing}
use Rattle.grs_world.proofs.Common.{StarPart, subst, sym, SysId, take_mail, took_mail, true, Turnout, with_mail}
use Rattle.grs_world.proofs.Common.{with_star, without_first, World, ℕ}
use Rattle.std.specs.Prelude.{drop}
use Rattle.grs_node.specs.Star.{is_held_for}
use Rattle.contention_mgr.specs.Manager.{entry_wanted}
use Rattle.grs_wire.specs.Notices.{names}
use Rattle.grs_world.proofs.gather.InBoxes.{noticed-more}
use Rattle.grs_world.proofs.gather.once.Acts.{posted-at}
use Rattle.grs_world.proofs.gather.once.Lists.{Fewer, in-either, in-left, in-right, request_in, requests-first}
use Rattle.grs_world.proofs.gather.once.Takes.{moved-held}
use Rattle.grs_world.proofs.gather.way.Acting.{Acting}
use Rattle.grs_world.proofs.run.Lost.{by-notice, by-part}
use Rattle.grs_world.proofs.run.Placed.{world_then}
use Rattle.grs_world.proofs.run.Site.{each_site, Site}
use Rattle.grs_world.proofs.star.Boxes.{taken-box, untaken-box}
use Rattle.grs_world.proofs.star.Systems.{requests_in}
use Rattle.grs_world.proofs.star.Worlds.{IsIn}
use Rattle.grs_wire.specs.declared.medium.Mail.TheVariants as mails

-- ---- each request of an inbox, with the mail behind it
abbrev pub EachBehind : (Req → List Mail → Type 0) → List Req → List Mail → Type 0
EachBehind R [] ms = Unit {0}
EachBehind R (q ∷ qs) ms = R q ms × EachBehind R qs ms

abbrev pub AllBehind : (Req → List Mail → Type 0) → List Mail → Type 0
AllBehind R [] = Unit {0}
AllBehind R (y ∷ ms) = EachBehind R (request_in y) ms × AllBehind R ms

each-behind : (R Q : Req → List Mail → Type 0) (qs : List Req) (ms ks : List Mail)
    → ((q : Req) → IsIn q qs → R q ms → Q q ks) → EachBehind R qs ms → EachBehind Q qs ks
each-behind R Q [] ms ks more h = tt
each-behind R Q (q ∷ qs) ms ks more h =
    (more q (inl refl) h.0, each-behind R Q qs ms ks (λ r among k. more r (inr among) k) h.1)

-- a mail comes that isn't a request, or one behind which nothing stands
pub all-more : (R Q : Req → List Mail → Type 0) (ms : List Mail) (y : Mail)
    → ((q : Req) (ks : List Mail) → IsIn q (requests_in ms) → R q ks → Q q (ks ++ y ∷ []))
    → EachBehind Q (request_in y) [] → AllBehind R ms → AllBehind Q (ms ++ y ∷ [])
all-more R Q [] y more last h = (last, tt)
all-more R Q (z ∷ ms) y more last h = (
  each-behind R Q (request_in z) ms (ms ++ y ∷ []) (λ q among k. more q ms (front q among) k) h.0,
  all-more R Q ms y (λ q ks among k. more q ks (later q among) k) last h.1,
)
  where
    front : (q : Req) → IsIn q (request_in z) → IsIn q (requests_in (z ∷ ms))
    front q among =
        subst (λ qs. IsIn q qs) (sym (requests-first z ms)) (in-left q (request_in z) (requests_in ms) among)

    later : (q : Req) → IsIn q (requests_in ms) → IsIn q (requests_in (z ∷ ms))
    later q among =
        subst (λ qs. IsIn q qs) (sym (requests-first z ms)) (in-right q (request_in z) (requests_in ms) among)

-- the same mail
pub all-same : (R Q : Req → List Mail → Type 0) (ms : List Mail)
    → ((q : Req) (ks : List Mail) → R q ks → Q q ks) → AllBehind R ms → AllBehind Q ms
all-same R Q [] more h = tt
all-same R Q (y ∷ ms) more h =
    (each-behind R Q (request_in y) ms ms (λ q among k. more q ms k) h.0, all-same R Q ms more h.1)

-- ---- a world
-- no notice of the request's entry is among these mails, if its task's system is live
abbrev pub IsQuiet : Deck → World → Req → List Mail → Type 0
IsQuiet deck w q ms =
    (k : NodeState) → Site w q.task.system.0 k → (e : ℕ) → entry_wanted deck.entries q.want ≡ Some e
    → noticed e ms ≡ false

pub record AreReady (deck : Deck) (w : World) : Type 0 where
  pub held : (m : ℕ) (n : NodeState) (p : StarPart) → Site w m n → n.star ≡ Some p → (q : Req) → IsIn q p.held
      → IsQuiet deck w q (inbox w.medium m)
  pub mail : (m : ℕ) (n : NodeState) (p : StarPart) → Site w m n → n.star ≡ Some p
      → AllBehind (IsQuiet deck w) (inbox w.medium m)

-- ---- an event
module _ (deck : Deck) (w : World) (c : SysId) (n : NodeState) (site : Site w c.0 n) (o : Turnout)
    (gone : (u : ℕ) → has o.medium.removed u ≡ false → has w.medium.removed u ≡ false) where
  -- who is there was there
  pub was-there : (u : ℕ) (k : NodeState) → Site (world_then w c n o) u k → (z : NodeState) × Site w u z
  was-there u k there =
      each_site w c n site o gone (λ i y. (z : NodeState) × Site w i z) (n, site) (λ i y ne was. (y, was)) u k there

  pub quiet-then : (q : Req) (ms : List Mail) → IsQuiet deck w q ms → IsQuiet deck (world_then w c n o) q ms
  quiet-then q ms h k there e is = let z = was-there q.task.system.0 k there in h z.0 z.1 e is

-- ---- what is held and comes behind an event
module _ (deck : Deck) (w : World) (c : SysId) (n : NodeState) (p : StarPart) (site : Site w c.0 n)
    (star : n.star ≡ Some p) (G : AreReady deck w) (o : Turnout) (r : StarPart) (now : o.step.node.star ≡ Some r)
    (was-live : (u : ℕ) → has o.medium.removed u ≡ false → has w.medium.removed u ≡ false) where
  -- each system's, by its own inbox
  module _
      (own_held : has o.medium.removed c.0 ≡ false → (q : Req) → IsIn q r.held
      → IsQuiet deck w q (inbox o.medium c.0))
      (held : (m : ℕ) (k : NodeState) (z : StarPart) → m ≢ c.0 → Site w m k → k.star ≡ Some z
      → has o.medium.removed m ≡ false → (q : Req) → IsIn q z.held → IsQuiet deck w q (inbox o.medium m))
      (mail : (m : ℕ) (k : NodeState) (z : StarPart) → Site w m k → k.star ≡ Some z → has o.medium.removed m ≡ false
      → AllBehind (IsQuiet deck w) (inbox o.medium m)) where
    pub ready-by : AreReady deck (world_then w c n o)
    ready-by = record {
      held = λ m x z at_m star_z q among.
          each_site w c n site o was-live
          (λ i y.
          has o.medium.removed i ≡ false → y.star ≡ Some z
          → IsQuiet deck (world_then w c n o) q (inbox o.medium i))
          (λ live star_y.
          quiet-then deck w c n site o was-live q (inbox o.medium c.0)
          (own_held live q (subst (λ (v : StarPart). IsIn q v.held) (sym (same_Some r z (sym now ∙ star_y))) among)))
          (λ i y ne at_y live star_y.
          quiet-then deck w c n site o was-live q (inbox o.medium i) (held i y z ne at_y star_y live q among))
          m x at_m at_m.live star_z;
      mail = λ m x z at_m star_z.
          all-same (IsQuiet deck w) (IsQuiet deck (world_then w c n o)) (inbox o.medium m)
          (quiet-then deck w c n site o was-live)
          (each_site w c n site o was-live
          (λ i y. has o.medium.removed i ≡ false → y.star ≡ Some z → AllBehind (IsQuiet deck w) (inbox o.medium i))
          (λ live star_y. mail c.0 n p site star live)
          (λ i y ne at_y live star_y. mail i y z at_y star_y live)
          m x at_m at_m.live star_z);
    }

  -- the mail stays
  pub still-ready : o.medium.inboxes ≡ w.medium.inboxes → Fewer p.held r.held → AreReady deck (world_then w c n o)
  still-ready inboxes fewer =
      ready-by
      (λ live q among.
      subst (λ bs. IsQuiet deck w q (inbox_of bs c.0)) (sym inboxes)
      (G.held c.0 n p site star q (fewer.among q among)))
      (λ m k z ne at_m star_m live q among.
      subst (λ bs. IsQuiet deck w q (inbox_of bs m)) (sym inboxes) (G.held m k z at_m star_m q among))
      (λ m k z at_m star_m live.
      subst (λ bs. AllBehind (IsQuiet deck w) (inbox_of bs m)) (sym inboxes) (G.mail m k z at_m star_m))

  -- a mail comes that is no notice
  pub posted-ready : (to : ℕ) (y : Mail) → o.medium.inboxes ≡ with_mail w.medium.inboxes to y
      → ((e : ℕ) → names e y ≡ false) → Fewer p.held r.held → AreReady deck (world_then w c n o)
  posted-ready to y inboxes away fewer =
      ready-by (λ live q among. quiet-box c.0 q (G.held c.0 n p site star q (fewer.among q among)))
      (λ m k z ne at_m star_m live q among. quiet-box m q (G.held m k z at_m star_m q among))
      (λ m k z at_m star_m live. mail-box m (G.mail m k z at_m star_m))
    where
      more : (q : Req) (ms : List Mail) → IsQuiet deck w q ms → IsQuiet deck w q (ms ++ y ∷ [])
      more q ms h k there e is = noticed-more e ms y (away e) ∙ h k there e is

      quiet-box : (m : ℕ) (q : Req) → IsQuiet deck w q (inbox w.medium m) → IsQuiet deck w q (inbox o.medium m)
      quiet-box m q h =
          subst (λ bs. IsQuiet deck w q (inbox_of bs m)) (sym inboxes)
          (posted-at w.medium.inboxes to m y (IsQuiet deck w q) h (λ here. more q (inbox w.medium m) h))

      last : (qs : List Req) → EachBehind (IsQuiet deck w) qs []
      last [] = tt
      last (q ∷ qs) = (λ k there e is. refl, last qs)

      mail-box : (m : ℕ) → AllBehind (IsQuiet deck w) (inbox w.medium m)
          → AllBehind (IsQuiet deck w) (inbox o.medium m)
      mail-box m h =
          subst (λ bs. AllBehind (IsQuiet deck w) (inbox_of bs m)) (sym inboxes)
          (posted-at w.medium.inboxes to m y (AllBehind (IsQuiet deck w)) h
          (λ here.
          all-more (IsQuiet deck w) (IsQuiet deck w) (inbox w.medium m) y (λ q ks among k. more q ks k)
          (last (request_in y)) h))

-- ---- the first mail is taken
module _ (deck : Deck) (n : NodeState) (p : StarPart) where
  take-held : (mail : Mail) (q : Req) → IsIn q (take_mail deck n.known n.tasks p mail).part.held
      → IsIn q p.held ⊎ IsIn q (request_in mail)
  unfolding took_mail
  take-held mail q = go (is_for_deck deck mail) mail
    where
      as-held : (hs : List Req) → hs ≡ p.held → IsIn q hs → IsIn q p.held
      as-held hs same among = subst (λ (qs : List Req). IsIn q qs) same among

      go : (b : Bool) (y : Mail)
          → IsIn q (cond b (took_mail deck n.known n.tasks p y) (fixing_none n.tasks p)).part.held
          → IsIn q p.held ⊎ IsIn q (request_in y)
      go false y h = inl h
      go true (mails.Request e from x) h =
          by_test (λ (z : StarPart). IsIn q z.held → IsIn q p.held ⊎ IsIn q (x ∷ [])) (is_held_for n.known p e x)
          (record p { held = p.held ++ x ∷ [] }) p (λ here k. in-either q p.held (x ∷ []) k) (λ away k. inl k) h
      go true (mails.Answered t answer rank) h = inl h
      go true (mails.Granted t z) h = inl h
      go true (mails.Notice target moved) h =
          inl (as-held _
          (by-notice (λ (x : Standing). x.part.held ≡ p.held) (λ ns y e k. k) n.known (moved-held p.held n.known)
          (names_of deck n.tasks.system) (standing n.tasks p) (filter (is_item_of deck) moved) refl)
          h)
      go true (mails.Part e from records) h =
          inl (as-held _
          (by-part (λ (x : Standing). x.part.held ≡ p.held) (λ ns y x k. k) n.known (names_of deck n.tasks.system)
          (standing n.tasks p) e from (filter (λ z. is_of_deck deck z.task) records) refl refl)
          h)

module _ (deck : Deck) (w : World) (c : SysId) (n : NodeState) (p : StarPart) (a : Acting deck w c n p)
    (G : AreReady deck w) (mail : Mail) (rest : List Mail) (front : inbox w.medium c.0 ≡ mail ∷ rest) where
  inside : c.0 < length w.medium.inboxes
  inside =
      let within = slice_get_within w.nodes c.0 n a.site.at in
      let count = a.count in
      let boxes = a.fit.boxes in
      omega (arith, within, count, boxes)

  box-own : inbox_of (without_first w.medium.inboxes c.0) c.0 ≡ rest
  box-own = taken-box w.medium.inboxes c.0 inside ∙ ap (λ (ms : List Mail). drop 1 ms) front

  all-mail : AllBehind (IsQuiet deck w) (mail ∷ rest)
  all-mail = subst (λ (ms : List Mail). AllBehind (IsQuiet deck w) ms) front (G.mail c.0 n p a.site a.star)

  one-of : (R : Req → List Mail → Type 0) (qs : List Req) (q : Req) → IsIn q qs → EachBehind R qs rest → R q rest
  one-of R [] q among h = elim among [ ]
  one-of R (x ∷ qs) q (inl same) h = subst (λ (z : Req). R z rest) (sym same) h.0
  one-of R (x ∷ qs) q (inr more) h = one-of R qs q more h.1

  rest-quiet : (q : Req) → IsIn q p.held ⊎ IsIn q (request_in mail) → IsQuiet deck w q rest
  rest-quiet q (inl among) k there e is =
      (or_parts (names e mail) (noticed e rest)
      (sym (ap (noticed e) front) ∙ G.held c.0 n p a.site a.star q among k there e is)).1
  rest-quiet q (inr first) k there e is = one-of (IsQuiet deck w) (request_in mail) q first all-mail.0 k there e is

  box-mail : (m : ℕ) (b : Bool) → (m == c.0) ≡ b → AllBehind (IsQuiet deck w) (inbox w.medium m)
      → AllBehind (IsQuiet deck w) (inbox_of (without_first w.medium.inboxes c.0) m)
  box-mail m true same h =
      subst (λ (ms : List Mail). AllBehind (IsQuiet deck w) ms)
      (sym (ap (inbox_of (without_first w.medium.inboxes c.0)) (eqb-true m c.0 same) ∙ box-own)) all-mail.1
  box-mail m false other h =
      subst (λ (ms : List Mail). AllBehind (IsQuiet deck w) ms)
      (sym (untaken-box w.medium.inboxes c.0 m (eqb-false m c.0 other))) h

  pub taken-ready : AreReady deck (world_then w c n (record {
    medium = record w.medium { inboxes = without_first w.medium.inboxes c.0; rest = awake w.medium c };
    step = with_star n (take_mail deck n.known n.tasks p mail);
  }))
  taken-ready =
      ready-by deck w c n p a.site a.star G (record {
        medium = record w.medium { inboxes = without_first w.medium.inboxes c.0; rest = awake w.medium c };
        step = with_star n (take_mail deck n.known n.tasks p mail);
      })
      (take_mail deck n.known n.tasks p mail).part refl (λ u live. live)
      (λ live q among. subst (IsQuiet deck w q) (sym box-own) (rest-quiet q (take-held deck n p mail q among)))
      (λ m k z ne at_m star_m live q among.
      subst (IsQuiet deck w q) (sym (untaken-box w.medium.inboxes c.0 m ne)) (G.held m k z at_m star_m q among))
      (λ m k z at_m star_m live. box-mail m (m == c.0) refl (G.mail m k z at_m star_m))
