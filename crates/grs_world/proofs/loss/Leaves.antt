-- What the removal of a system that manages no lock entry leaves of each other system: of its part, of its tasks, and
-- of the requests in its hands.
use Rattle.grs_world.proofs.Common.{[], ◌&&◌, ◌++◌, ◌<◌, ◌==◌, ◌||◌, ◌∙◌, ◌∷◌, ◌≡◌, ◌≢◌, and_parts, Answered, ap, arith}
use Rattle.grs_world.proofs.Common.{Bool, Coming, cond, Deck, Elem, eqb-true, false, false_by, filter, Granted, has}
use Rattle.grs_world.proofs.Common.{is_interested, is_of, is_systems, items_of, length, List, list_any, list_any-append}
use Rattle.grs_world.proofs.Common.{list_of, lists, lt-ltb, ltb-true, Mail, managed_at, manages, members, members_below}
use Rattle.grs_world.proofs.Common.{mine, most_systems, nat_lt, ne_eqb, no_truth, NodeState, not, Notice, or-false}
use Rattle.grs_world.proofs.Common.{Part, plain, refl, remove_state, removes_system_of, Req, Res, rounds, RunItem}
use Rattle.grs_world.proofs.Common.{slice_index_or, StarPart, State, suc, sym, SysId, TaskId, true, without_those, zero}
use Rattle.grs_world.proofs.Common.{ℕ}
use Rattle.contention_mgr.specs.Laws.{AreWellKept}
use Rattle.grs_base.specs.State.{is_of_other}
use Rattle.grs_known.proofs.known.Blank.{blank, coming-other}
use Rattle.grs_known.specs.Known.{Known, learns_control, learns_item}
use Rattle.grs_wire.proofs.RemoveLaws.{by_systems, list_of-remove, list_of-remove_other}
use Rattle.grs_wire.specs.declared.medium.Mail.TheVariants.{Request}
use Rattle.grs_world.proofs.loss.Losing.{calm-lost, filter-both, in-those, is_in, left_of, list-narrow, list-without}
use Rattle.grs_world.proofs.loss.Losing.{lists-lost, lose_part, lose_parts, lost-count, lost-interest, lost-system}
use Rattle.grs_world.proofs.loss.Losing.{manages-lost, well-lost}
use Rattle.grs_world.proofs.star.Answering.{apart-filter}
use Rattle.grs_world.proofs.star.Calm.{IsCalm}
use Rattle.grs_world.proofs.star.Ghosts.{ghosted, without-later}
use Rattle.grs_world.proofs.star.Members.{has_manager, IsPart}
use Rattle.grs_world.proofs.star.Systems.{AllFit, IsSystem, is_late, is_plain_answer, Keeps, news_of, requests_in}
use Rattle.grs_world.proofs.star.Systems.{right-late, system-words}
use Rattle.grs_world.proofs.star.Under.{in_entry, list-under, none-under, under}
use Rattle.grs_world.proofs.star.Worlds.{AllHands, Hands}
use Rattle.grs_world.proofs.system.AtNode.{mine-left, seen-removal}
use Rattle.grs_wire.specs.declared.request.Fixed.TheVariants as fixing

-- ---- lists of an entry
module _ (entries e : ℕ) (L : State) (n : ℕ) (r : Res) where
  by-entry : (P : Type 0) → (in_entry entries e r ≡ true → P) → (in_entry entries e r ≡ false → P) → P
  by-entry P yes_ no_ = go (in_entry entries e r) refl
    where
      go : (b : Bool) → in_entry entries e r ≡ b → P
      go true is = yes_ is
      go false is = no_ is

  pub under-wide : is_systems r ≡ true
      → list_of (under entries e (remove_state L n)) r ≡ filter (is_of_other n) (list_of (under entries e L) r)
  under-wide wide =
      by-entry _
      (λ is.
      list-under entries e (remove_state L n) r is
      ∙ (list_of-remove L n r wide ∙ sym (ap (filter (is_of_other n)) (list-under entries e L r is))))
      (λ off.
      none-under (in_entry entries e) (remove_state L n) r off
      ∙ sym (ap (filter (is_of_other n)) (none-under (in_entry entries e) L r off)))

  pub under-narrow : is_systems r ≡ false
      → list_of (under entries e (remove_state L n)) r ≡ list_of (under entries e L) r
  under-narrow narrow =
      by-entry _
      (λ is.
      list-under entries e (remove_state L n) r is
      ∙ (list_of-remove_other L n r narrow ∙ sym (list-under entries e L r is)))
      (λ off.
      none-under (in_entry entries e) (remove_state L n) r off ∙ sym (none-under (in_entry entries e) L r off))

-- ---- the systems that are lost, with one more
pub in-more : (known removed more : ℕ) (t : SysId) → t.0 < most_systems
    → ((u : ℕ) → has more u ≡ ((t.0 == u) || has removed u)) → has known t.0 ≡ false → (u : ℕ)
    → is_in u (members (without_those known more))
    ≡ (is_in u (members (without_those known removed)) || (t.0 == u))
unfolding members_below
in-more known removed more t low is apart u = go (nat_lt u most_systems) refl
  where
    past : (set : ℕ) (k : ℕ) → (u < k → ⊥) → is_in u (members_below set k) ≡ false
    past set zero h = refl
    past set (suc k) h =
        list_any-append (λ (z : SysId). z.0 == u) (members_below set k) (cond (has set k) (record { 0 = k } ∷ []) [])
        ∙ (ap (λ b. b || is_in u (cond (has set k) (record { 0 = k } ∷ []) [])) (past set k (λ l. h (omega (arith, l))))
        ∙ one (has set k))
      where
        one : (b : Bool) → is_in u (cond b (record { 0 = k } ∷ []) []) ≡ false
        one true =
            or-false (k == u)
            ∙ false_by (k == u) (λ same. absurd (h (let z : k ≡ u = eqb-true k u same in omega (arith, z))))
        one false = refl

    here : (b c d : Bool) → (t.0 == u) ≡ b → has removed u ≡ c → has known u ≡ d
        → ((b || c) && not d) ≡ ((c && not d) || b)
    here true c true same r k =
        no_truth (has known u) k (ap (has known) (sym (eqb-true t.0 u same)) ∙ apart)
    here true true false same r k = refl
    here true false false same r k = refl
    here false true true same r k = refl
    here false true false same r k = refl
    here false false d same r k = refl

    go : (b : Bool) → nat_lt u most_systems ≡ b
        → is_in u (members (without_those known more))
        ≡ (is_in u (members (without_those known removed)) || (t.0 == u))
    go true l =
        let low_u : u < most_systems = ltb-true u most_systems l in
        in-those known more u low_u
        ∙ (ap (λ b. b && not (has known u)) (is u)
        ∙ (here (t.0 == u) (has removed u) (has known u) refl refl refl
        ∙ ap (λ b. b || (t.0 == u)) (sym (in-those known removed u low_u))))
    go false l =
        let over : u < most_systems → ⊥ =
        λ h. no_truth (nat_lt u most_systems) (lt-ltb u most_systems h) l in
        past (without_those known more) most_systems over
        ∙ sym (ap (λ b. b || (t.0 == u)) (past (without_those known removed) most_systems over)
        ∙ false_by (t.0 == u) (λ same.
        absurd (over (let z : t.0 ≡ u = eqb-true t.0 u same in omega (arith, z, low)))))

-- ---- the part
module _ (deck : Deck) (words words' : List ℕ) (L : State) (s : ℕ) (t : SysId)
    (roles : (e : ℕ) → has_manager words' e s ≡ has_manager words e s)
    (near : (e : ℕ) → is_interested words' e s ≡ is_interested words e s) (p : StarPart) (ss ts : List SysId)
    (more : (u : ℕ) → is_in u ts ≡ (is_in u ss || (t.0 == u))) where
  -- its lists, without the elements of one more
  left-more : (xs : List Elem) → filter (is_of_other t.0) (left_of ss xs) ≡ left_of ts xs
  left-more xs =
      filter-both (λ x. not (is_in x.task.system.0 ss)) (is_of_other t.0) (λ x. not (is_in x.task.system.0 ts))
      (λ x. ap not (more x.task.system.0) ∙ not-or (is_in x.task.system.0 ss) (t.0 == x.task.system.0)) xs
    where
      not-or : (a b : Bool) → not (a || b) ≡ (not a && not b)
      not-or true b = refl
      not-or false b = refl

  pub part-removed : IsPart deck words L s (lose_parts p ss) → AreWellKept p.manager → IsCalm p.gathers p.owes
      → IsPart deck words' (remove_state L t.0) s (lose_parts p ts)
  part-removed fits well calm = record {
    home = ap (λ (z : SysId). z.0) (lost-system p ts ∙ sym (lost-system p ss)) ∙ fits.home;
    entries = lost-count p ts ∙ (sym (lost-count p ss) ∙ fits.entries);
    interests = ap length (lost-interest p ts ∙ sym (lost-interest p ss)) ∙ fits.interests;
    roles = λ e. manages-lost p ts e ∙ (sym (manages-lost p ss e) ∙ (fits.roles e ∙ sym (roles e)));
    interest = λ e.
        ap (λ bs. slice_index_or bs e false) (lost-interest p ts ∙ sym (lost-interest p ss))
        ∙ (fits.interest e ∙ sym (near e));
    lists = λ e mine. record { lists = same e (manages-lost p ss e ∙ (sym (manages-lost p ts e) ∙ mine)) };
    well = well-lost p ts well;
    calm = calm-lost p ts calm;
  }
    where
      kept : ℕ → State
      kept e = plain (items_of (managed_at p.manager e))

      was : (e : ℕ) → manages (lose_parts p ss) e ≡ true → (r : Res)
          → list_of (plain (items_of (managed_at (lose_parts p ss).manager e))) r ≡ list_of (under deck.entries e L) r
      was e mine r = (fits.lists e mine).lists r

      same : (e : ℕ) → manages (lose_parts p ss) e ≡ true → (r : Res)
          → list_of (plain (items_of (managed_at (lose_parts p ts).manager e))) r
          ≡ list_of (under deck.entries e (remove_state L t.0)) r
      same e mine r =
          ap (λ st. list_of st r) (lists-lost p ts e)
          ∙ by_systems r _
          (λ wide.
          list-without (kept e) ts r wide
          ∙ (sym (left-more (list_of (kept e) r))
          ∙ (ap (filter (is_of_other t.0))
          (sym (list-without (kept e) ss r wide) ∙ (ap (λ st. list_of st r) (sym (lists-lost p ss e)) ∙ was e mine r))
          ∙ sym (under-wide deck.entries e L t.0 r wide))))
          (λ narrow.
          list-narrow (kept e) ts r narrow
          ∙ (sym (list-narrow (kept e) ss r narrow)
          ∙ (ap (λ st. list_of st r) (sym (lists-lost p ss e))
          ∙ (was e mine r ∙ sym (under-narrow deck.entries e L t.0 r narrow)))))

-- ---- mail, without the requests of systems
abbrev pub is_from : (ℕ → Bool) → Mail → Bool
is_from gone (Request e from q) = gone q.task.system.0
is_from gone (Answered t answer rank) = false
is_from gone (Granted t r) = false
is_from gone (Notice target moved) = false
is_from gone (Part e from records) = false

abbrev pub mail_without : (ℕ → Bool) → List Mail → List Mail
mail_without gone ms = filter (λ m. not (is_from gone m)) ms

pub without-more : (a b c : ℕ → Bool) → ((u : ℕ) → c u ≡ (b u || a u)) → (ms : List Mail)
    → mail_without b (mail_without a ms) ≡ mail_without c ms
without-more a b c is ms =
    filter-both (λ m. not (is_from a m)) (λ m. not (is_from b m)) (λ m. not (is_from c m)) by_mail ms
  where
    flip : (x y : Bool) → not (x || y) ≡ (not y && not x)
    flip true true = refl
    flip true false = refl
    flip false true = refl
    flip false false = refl

    by_mail : (m : Mail) → not (is_from c m) ≡ (not (is_from a m) && not (is_from b m))
    by_mail (Request e from q) =
        ap not (is q.task.system.0) ∙ flip (b q.task.system.0) (a q.task.system.0)
    by_mail (Answered t answer rank) = refl
    by_mail (Granted t r) = refl
    by_mail (Notice target moved) = refl
    by_mail (Part e from records) = refl

-- the requests that are left
pub requests-left : (gone : ℕ → Bool) (ms : List Mail)
    → requests_in (mail_without gone ms) ≡ filter (λ q. not (gone q.task.system.0)) (requests_in ms)
requests-left gone [] = refl
requests-left gone (Request e from q ∷ ms) = go (gone q.task.system.0) (requests-left gone ms)
  where
    go : (b : Bool)
        → requests_in (mail_without gone ms) ≡ filter (λ z. not (gone z.task.system.0)) (requests_in ms)
        → requests_in (cond (not b) (Request e from q ∷ mail_without gone ms) (mail_without gone ms))
        ≡ cond (not b) (q ∷ filter (λ z. not (gone z.task.system.0)) (requests_in ms))
        (filter (λ z. not (gone z.task.system.0)) (requests_in ms))
    go true more = more
    go false more = ap (λ (qs : List Req). q ∷ qs) more
requests-left gone (Answered t answer rank ∷ ms) = requests-left gone ms
requests-left gone (Granted t r ∷ ms) = requests-left gone ms
requests-left gone (Notice target moved ∷ ms) = requests-left gone ms
requests-left gone (Part e from records ∷ ms) = requests-left gone ms

module _ (gone : ℕ → Bool) where
  -- what comes of a task stands in other mail
  coming-left : (t : TaskId) (T : List RunItem) (ms : List Mail) (k : Known) → Coming t k T (news_of ms)
      → Coming t k T (news_of (mail_without gone ms))
  coming-left t T [] k h = tt
  coming-left t T (Request e from q ∷ ms) k h = go (gone q.task.system.0) (coming-left t T ms k h)
    where
      go : (b : Bool) → Coming t k T (news_of (mail_without gone ms))
          → Coming t k T (news_of (cond (not b) (Request e from q ∷ mail_without gone ms) (mail_without gone ms)))
      go true more = more
      go false more = more
  coming-left t T (Answered u answer rank ∷ ms) k h = (
    λ same. let z = h.0 same in (z.0, z.1, z.2, coming-left t T ms (learns_item k z.0) z.3),
    λ other. coming-left t T ms k (h.1 other),
  )
  coming-left t T (Granted u r ∷ ms) k h = (
    λ same. let z = h.0 same in (z.0, coming-left t T ms (learns_control k r) z.1),
    λ other. coming-left t T ms k (h.1 other),
  )
  coming-left t T (Notice target moved ∷ ms) k h = coming-left t T ms k h
  coming-left t T (Part e from records ∷ ms) k h = coming-left t T ms k h

  answered-left : (t : TaskId) (ms : List Mail) → list_any (is_plain_answer t) ms ≡ true
      → list_any (is_plain_answer t) (mail_without gone ms) ≡ true
  answered-left t [] h = h
  answered-left t (Request e from q ∷ ms) h = go (gone q.task.system.0) (answered-left t ms h)
    where
      go : (b : Bool) → list_any (is_plain_answer t) (mail_without gone ms) ≡ true
          → list_any (is_plain_answer t)
          (cond (not b) (Request e from q ∷ mail_without gone ms) (mail_without gone ms))
          ≡ true
      go true more = more
      go false more = more
  answered-left t (Answered u answer rank ∷ ms) h =
      go (is_plain_answer t (Answered u answer rank)) h (answered-left t ms)
    where
      go : (b : Bool) → (b || list_any (is_plain_answer t) ms) ≡ true
          → (list_any (is_plain_answer t) ms ≡ true → list_any (is_plain_answer t) (mail_without gone ms) ≡ true)
          → (b || list_any (is_plain_answer t) (mail_without gone ms)) ≡ true
      go true is more = refl
      go false is more = more is
  answered-left t (Granted u r ∷ ms) h = answered-left t ms h
  answered-left t (Notice target moved ∷ ms) h = answered-left t ms h
  answered-left t (Part e from records ∷ ms) h = answered-left t ms h

  fits-left : (deck : Deck) (words : List ℕ) (s : ℕ) (ms : List Mail) → AllFit deck words s ms
      → AllFit deck words s (mail_without gone ms)
  fits-left deck words s [] h = tt
  fits-left deck words s (Request e from q ∷ ms) h = go (gone q.task.system.0) (fits-left deck words s ms h.1)
    where
      go : (b : Bool) → AllFit deck words s (mail_without gone ms)
          → AllFit deck words s (cond (not b) (Request e from q ∷ mail_without gone ms) (mail_without gone ms))
      go true more = more
      go false more = (tt, more)
  fits-left deck words s (Answered t answer rank ∷ ms) h = (h.0, fits-left deck words s ms h.1)
  fits-left deck words s (Granted t r ∷ ms) h = (h.0, fits-left deck words s ms h.1)
  fits-left deck words s (Notice target moved ∷ ms) h = absurd h.0
  fits-left deck words s (Part e from records ∷ ms) h = absurd h.0

  -- so a system stands as it did
  pub system-left : (deck : Deck) (words : List ℕ) (T : List RunItem) (s : ℕ) (n : NodeState) (ms : List Mail)
      (later : List RunItem) (out : List Req) → IsSystem deck words T s n ms later out
      → IsSystem deck words T s n (mail_without gone ms) later out
  system-left deck words T s n ms later out h = record {
    at = h.at;
    late = h.late;
    sent = h.sent;
    near = h.near;
    coming = λ t home. coming-left t T ms (blank (is_late t later)) (h.coming t home);
    answered = λ t x home due gave. answered-left t ms (h.answered t x home due gave);
    fits = fits-left deck words s ms h.fits;
  }

-- ---- the removal is fixed, as another system sees it
pub system-removed : (deck : Deck) (words words' : List ℕ) (T : List RunItem) (s : ℕ) (n : NodeState) (ms : List Mail)
    (later : List RunItem) (out : List Req) (x : RunItem) (t : SysId) → x.fixed ≡ fixing.Purged t → t.0 ≢ s
    → Keeps words words' s → IsSystem deck words T s n ms later out
    → IsSystem deck words' (T ++ x ∷ []) s n ms later out
system-removed deck words words' T s n ms later out x t purged ne keeps was =
    let h = system-words deck words words' T s n ms later out keeps was in
    record {
      at =
          without-later deck s (T ++ x ∷ []) later (rounds (x ∷ [])) out n
          (λ u ls o. mine-left u [] x (ap (is_of u) purged))
          (seen-removal deck s T [] later out (ghosted n) x t purged ne h.at);
      late = h.late;
      sent = h.sent;
      near = h.near;
      coming = λ u home.
          coming-other u (is_late u later) T x (news_of ms) (ap (is_of u) purged)
          (ap (removes_system_of u) purged
          ∙ ne_eqb t.0 u.system.0 (λ same.
          ne (same ∙ eqb-true u.system.0 s (and_parts (u.system.0 == s) _ home).0)))
          (right-late deck s T later out n h.at u home) (h.coming u home);
      answered = h.answered;
      fits = h.fits;
    }

-- ---- the requests in its hands
module _ (deck : Deck) (words words' : List ℕ) (live live' : ℕ → Bool) (later : ℕ → List RunItem) (out : ℕ → List Req)
    (m : ℕ) (gone : ℕ → Bool) (lives : (u : ℕ) → gone u ≡ false → live u ≡ true → live' u ≡ true)
    (managed : (e : ℕ) → has_manager words e m ≡ true → has_manager words' e m ≡ true) where
  hands-each : (qs : List Req) → AllHands deck words live later out m qs
      → AllHands deck words' live' later out m (filter (λ q. not (gone q.task.system.0)) qs)
  hands-each [] h = tt
  hands-each (q ∷ qs) h = go (gone q.task.system.0) refl (hands-each qs h.1)
    where
      go : (b : Bool) → gone q.task.system.0 ≡ b
          → AllHands deck words' live' later out m (filter (λ z. not (gone z.task.system.0)) qs)
          → AllHands deck words' live' later out m
          (cond (not b) (q ∷ filter (λ z. not (gone z.task.system.0)) qs)
          (filter (λ z. not (gone z.task.system.0)) qs))
      go true is more = more
      go false is more = (
        record {
          apart = h.0.apart;
          below = lives q.task.system.0 is h.0.below;
          among = h.0.among;
          idle = h.0.idle;
          entry = h.0.entry;
          at = h.0.at;
          managed = managed h.0.entry h.0.managed;
        },
        more,
      )

  pub hands-left : (qs : List Req) → Hands deck words live later out m qs
      → Hands deck words' live' later out m (filter (λ q. not (gone q.task.system.0)) qs)
  hands-left qs h = record {
    each = hands-each qs h.each;
    apart = apart-filter (λ q. not (gone q.task.system.0)) qs h.apart;
  }

-- what a part that loses systems still holds
pub held-left : (p : StarPart) (ss : List SysId)
    → (lose_parts p ss).held ≡ filter (λ q. not (is_in q.task.system.0 ss)) p.held
held-left p [] = sym (all-left p.held)
  where
    all-left : (qs : List Req) → filter (λ q. not (is_in q.task.system.0 [])) qs ≡ qs
    all-left [] = refl
    all-left (q ∷ qs) = ap (λ (zs : List Req). q ∷ zs) (all-left qs)
held-left p (s ∷ ss) =
    held-left (lose_part p s) ss
    ∙ filter-both (λ q. not (s.0 == q.task.system.0)) (λ q. not (is_in q.task.system.0 ss))
    (λ q. not (is_in q.task.system.0 (s ∷ ss)))
    (λ q. not-or (s.0 == q.task.system.0) (is_in q.task.system.0 ss)) p.held
  where
    not-or : (a b : Bool) → not (a || b) ≡ (not a && not b)
    not-or true b = refl
    not-or false b = refl
