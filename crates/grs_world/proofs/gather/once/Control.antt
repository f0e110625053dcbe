-- Of an entry that has still to be gathered no control comes behind its notices to a system whose part is on its way:
-- nobody manages the entry who could tell it. What an event has to leave for that to stay so.
use Rattle.grs_world.proofs.Common.{[], ◌&&◌, ◌++◌, ◌<◌, ◌==◌, ◌||◌, ◌∙◌, ◌∷◌, ◌≡◌, ◌≢◌, ◌⊎◌, ap, Bool, cond, Deck}
use Rattle.grs_world.proofs.Common.{eq-eqb, eqb-true, false, false_by, Gathering, gathering_at, has, inbox, inl, inr}
use Rattle.grs_world.proofs.Common.{List, list_any, list_any-append, Mail, manager_at, manages, Moved, no_truth}
use Rattle.grs_world.proofs.Common.{NodeState, None, not, noticed, Option, option_map_or, or_left, or_right, owed_to}
use Rattle.grs_world.proofs.Common.{PartRec, refl, same_Some, slice_get, Some, StarPart, subst, sym, SysId, true}
use Rattle.grs_world.proofs.Common.{Turnout, World, ℕ}
use Rattle.grs_wire.specs.Notices.{names}
use Rattle.grs_world.proofs.gather.InBoxes.{noticed-more}
use Rattle.grs_world.proofs.gather.way.Boxes.{last-there}
use Rattle.grs_world.proofs.gather.way.Entry.{at, IsAt, IsEntry, none-some}
use Rattle.grs_world.proofs.gather.way.Scene.{entry_in, stance-is}
use Rattle.grs_world.proofs.run.Placed.{world_then}
use Rattle.grs_world.proofs.run.Site.{each_site, Site}
use Rattle.grs_world.specs.InHands.{is_control_of, is_told_late}
use Rattle.grs_world.specs.OnTheWay.{IsDone, last_item, part_from, PartIs, parts_from, Stance, stance_of}
use Rattle.std.proofs.Common.{is_some}
use Rattle.grs_wire.specs.declared.medium.Mail.TheVariants as mails

-- ---- an inbox
-- a mail comes that is no control of the entry
pub late-more : (n e : ℕ) (ms : List Mail) (y : Mail) → is_control_of n e y ≡ false
    → is_told_late n e (ms ++ y ∷ []) ≡ true → is_told_late n e ms ≡ true
late-more n e [] y none h =
    no_truth ((is_control_of n e y && true) || false) h (ap (λ b. (b && true) || false) none)
late-more n e (z ∷ ms) y none h = go (names e y) refl (is_control_of n e z) h (λ k. late-more n e ms y none k)
  where
    quiet : names e y ≡ false → noticed e (ms ++ y ∷ []) ≡ noticed e ms
    quiet away = noticed-more e ms y away

    loud : names e y ≡ true → noticed e (ms ++ y ∷ []) ≡ true
    loud here =
        list_any-append (names e) ms (y ∷ [])
        ∙ or_right (noticed e ms) (names e y || false) (or_left (names e y) false here)

    go : (d : Bool) → names e y ≡ d → (b : Bool)
        → ((b && not (noticed e (ms ++ y ∷ []))) || is_told_late n e (ms ++ y ∷ [])) ≡ true
        → (is_told_late n e (ms ++ y ∷ []) ≡ true → is_told_late n e ms ≡ true)
        → ((b && not (noticed e ms)) || is_told_late n e ms) ≡ true
    go d is false k more = more k
    go false away true k more =
        by (noticed e ms) (ap (λ b. (not b) || is_told_late n e (ms ++ y ∷ [])) (sym (quiet away)) ∙ k) more
      where
        by : (b : Bool) → (not b || is_told_late n e (ms ++ y ∷ [])) ≡ true
            → (is_told_late n e (ms ++ y ∷ []) ≡ true → is_told_late n e ms ≡ true)
            → (not b || is_told_late n e ms) ≡ true
        by true j less = less j
        by false j less = refl
    go true here true k more =
        or_right (not (noticed e ms)) (is_told_late n e ms)
        (more (sym (ap (λ b. not b || is_told_late n e (ms ++ y ∷ [])) (loud here)) ∙ k))

-- behind a notice of the entry nothing comes late
pub late-noticed : (n e : ℕ) (ms : List Mail) (y : Mail) → is_control_of n e y ≡ false → names e y ≡ true
    → is_told_late n e (ms ++ y ∷ []) ≡ false
late-noticed n e [] y none here = ap (λ b. (b && true) || false) none
late-noticed n e (z ∷ ms) y none here =
    ap (λ b. (is_control_of n e z && not b) || is_told_late n e (ms ++ y ∷ []))
    (list_any-append (names e) ms (y ∷ [])
    ∙ or_right (noticed e ms) (names e y || false) (or_left (names e y) false here))
    ∙ (ap (λ b. (is_control_of n e z && false) || b) (late-noticed n e ms y none here) ∙ off (is_control_of n e z))
  where
    off : (b : Bool) → ((b && false) || false) ≡ false
    off true = refl
    off false = refl

-- the first one is taken
pub late-left : (n e : ℕ) (y : Mail) (ms : List Mail) → is_told_late n e ms ≡ true → is_told_late n e (y ∷ ms) ≡ true
late-left n e y ms h = or_right (is_control_of n e y && not (noticed e ms)) (is_told_late n e ms) h

-- ---- parts
-- whether a part of the entry from u is among these mails, or kept
abbrev pub is_part_of : ℕ → ℕ → Mail → Bool
is_part_of e u (mails.Part x from records) = (x == e) && (from.0 == u)
is_part_of e u mail = false

abbrev pub are_coming : ℕ → ℕ → List Mail → Bool
are_coming e u ms = list_any (is_part_of e u) ms

abbrev pub are_kept : Option Gathering → ℕ → Bool
are_kept o u = option_map_or (λ g. list_any (λ p. p.from.0 == u) g.parts) o false

-- some stand in a list that is so
pub coming-some : (e u : ℕ) (ms : List Mail) → are_coming e u ms ≡ true
    → (p : List PartRec) × (rest : List (List PartRec)) × (parts_from e ms u ≡ p ∷ rest)
coming-some e u [] h = absurd (cc)
coming-some e u (y ∷ ms) h = go y h (λ k. coming-some e u ms k)
  where
    one : (b : Bool) (records : List PartRec) → (b || are_coming e u ms) ≡ true
        → (are_coming e u ms ≡ true
        → (p : List PartRec) × (rest : List (List PartRec)) × (parts_from e ms u ≡ p ∷ rest))
        → (p : List PartRec) × (rest : List (List PartRec)) × (cond b (records ∷ []) [] ++ parts_from e ms u ≡ p ∷ rest)
    one true records k more = (records, parts_from e ms u, refl)
    one false records k more = more k

    go : (z : Mail) → (is_part_of e u z || are_coming e u ms) ≡ true
        → (are_coming e u ms ≡ true
        → (p : List PartRec) × (rest : List (List PartRec)) × (parts_from e ms u ≡ p ∷ rest))
        → (p : List PartRec) × (rest : List (List PartRec)) × (part_from e u z ++ parts_from e ms u ≡ p ∷ rest)
    go (mails.Request x from q) k more = more k
    go (mails.Answered t answer rank) k more = more k
    go (mails.Granted t r) k more = more k
    go (mails.Notice target moved) k more = more k
    go (mails.Part x from records) k more = one ((x == e) && (from.0 == u)) records k more

-- ---- a system whose part is on its way
pub data Due (w : World) (e u : ℕ) (p : StarPart) : Type 0 where
  by_notice : noticed e (inbox w.medium u) ≡ true → Due w e u p
  by_owing : (to : SysId) → owed_to p e ≡ Some to → Due w e u p
  by_coming : (m : ℕ) (k : NodeState) (q : StarPart) → Site w m k → k.star ≡ Some q → (m == u) ≡ false
      → are_coming e u (inbox w.medium m) ≡ true → Due w e u p
  by_keeping : (m : ℕ) (k : NodeState) (q : StarPart) → Site w m k → k.star ≡ Some q → (m == u) ≡ false
      → are_kept (gathering_at q.gathers e) u ≡ true → Due w e u p

abbrev pub AreHushed : Deck → World → Type 0
AreHushed deck w =
    (e : ℕ) (u : ℕ) (k : NodeState) (p : StarPart) → e < deck.entries → Site w u k → k.star ≡ Some p → Due w e u p
    → is_told_late deck.entries e (inbox w.medium u) ≡ false

-- ---- none is of an entry that is managed
module _ (w : World) (e : ℕ) (E : IsEntry (entry_in w e)) (c : ℕ) (n : NodeState) (p : StarPart) (site : Site w c n)
    (star : n.star ≡ Some p) (mine : manages p e ≡ true) where
  abbrev C : Stance
  C = stance_of e p (inbox w.medium c)

  own : IsAt (entry_in w e) c (stance_of e p (inbox w.medium c))
  own = E.each c (stance_of e p (inbox w.medium c)) (stance-is w e c n p site star)

  -- who gathers it or has its parts is c itself
  module _ (u : ℕ) (k : NodeState) (q : StarPart) (site_u : Site w u k) (star_u : k.star ≡ Some q) where
    there : (IsAt (entry_in w e) u (stance_of e q (inbox w.medium u)))
    there = E.each u (stance_of e q (inbox w.medium u)) (stance-is w e u k q site_u star_u)

    done : (c == u) ≡ false → IsDone u (stance_of e p (inbox w.medium c)) (stance_of e q (inbox w.medium u))
    done apart =
        subst
        (PartIs c u (stance_of e p (inbox w.medium c)) (stance_of e q (inbox w.medium u))) mine
        (E.way c u (stance_of e p (inbox w.medium c)) (stance_of e q (inbox w.medium u)) apart (own.manages mine).0
        (stance-is w e c n p site star) (stance-is w e u k q site_u star_u))

    -- it has no notice of it and owes nothing
    unnoticed : (b : Bool) → (c == u) ≡ b → (stance_of e q (inbox w.medium u)).notice ≡ None
    unnoticed false apart = (done apart).notice
    unnoticed true same =
        ap (λ i. last_item e (inbox w.medium i)) (sym (eqb-true c u same)) ∙ (own.manages mine).2

    unowing : (to : SysId) → owed_to q e ≡ Some to → (b : Bool) → (c == u) ≡ b → ⊥
    unowing to owes false apart = none-some (owed_to q e) to owes (done apart).owes
    unowing to owes true same = go (there.owes to owes).2
      where
        go : (((x : Moved) × ((stance_of e q (inbox w.medium u)).notice ≡ Some x)) × (has w.medium.removed to.0 ≡ true))
            ⊎ (((stance_of e q (inbox w.medium u)).notice ≡ None) × (manager_at w.medium.words e ≡ Some to))
            → ⊥
        go (inl z) =
            none-some (stance_of e q (inbox w.medium u)).notice (z.0).0 (z.0).1 (unnoticed true same)
        go (inr z) =
            no_truth (to.0 == u)
            (eq-eqb to.0 u
            (ap (λ (i : SysId). i.0) (same_Some to (at c) (sym z.1 ∙ (own.manages mine).0)) ∙ eqb-true c u same))
            (there.owes to owes).1

    -- no part is coming to anybody but the manager
    uncoming : (m : ℕ) (z : NodeState) (r : StarPart) → Site w m z → z.star ≡ Some r → (m == u) ≡ false
        → are_coming e u (inbox w.medium m) ≡ true → ⊥
    uncoming m z r site_m star_m apart any =
        let some = coming-some e u (inbox w.medium m) any in
        let named =
        (E.each m (stance_of e r (inbox w.medium m)) (stance-is w e m z r site_m star_m)).parts u apart
        (ap is_some (stance-is w e u k q site_u star_u)) some.0 some.1 some.2 in
        let place : m ≡ c =
        ap (λ (i : SysId). i.0) (same_Some (at m) (at c) (sym named ∙ (own.manages mine).0)) in
        absurd (let no : some.0 ∷ some.1 ≡ [] =
        sym some.2 ∙ (ap (λ i. parts_from e (inbox w.medium i) u) place
        ∙ (done (ap (λ i. i == u) (sym place) ∙ apart)).coming) in cc)

    unkept : (m : ℕ) (z : NodeState) (r : StarPart) → Site w m z → z.star ≡ Some r
        → are_kept (gathering_at r.gathers e) u ≡ true → ⊥
    unkept m z r site_m star_m any = go (gathering_at r.gathers e) refl any
      where
        go : (o : Option Gathering) → gathering_at r.gathers e ≡ o → are_kept o u ≡ true → ⊥
        go None is h = absurd (cc)
        go (Some g) is h =
            let named =
            ((E.each m (stance_of e r (inbox w.medium m)) (stance-is w e m z r site_m star_m)).gathers g is).0 in
            let place : m ≡ c =
            ap (λ (i : SysId). i.0) (same_Some (at m) (at c) (sym named ∙ (own.manages mine).0)) in
            by place (own.manages mine).1
          where
            same-part : m ≡ c → p ≡ r
            same-part place =
                same_Some p r
                (sym star
                ∙ (ap (λ (x : NodeState). x.star)
                (same_Some n z (sym site.at ∙ (ap (slice_get w.nodes) (sym place) ∙ site_m.at)))
                ∙ star_m))

            by : m ≡ c → gathering_at p.gathers e ≡ None → ⊥
            by place none =
                none-some (gathering_at p.gathers e) g
                (ap (λ (x : StarPart). gathering_at x.gathers e) (same-part place) ∙ is) none

    pub none-due : Due w e u q → ⊥
    none-due (by_notice h) =
        let x = last-there e (inbox w.medium u) h in
        none-some (last_item e (inbox w.medium u)) x.0 x.1 (unnoticed (c == u) refl)
    none-due (by_owing to owes) = unowing to owes (c == u) refl
    none-due (by_coming m z r site_m star_m apart any) = uncoming m z r site_m star_m apart any
    none-due (by_keeping m z r site_m star_m apart any) = unkept m z r site_m star_m any

-- ---- an event
module _ (deck : Deck) (w : World) (c : SysId) (n : NodeState) (p : StarPart) (site : Site w c.0 n)
    (star : n.star ≡ Some p) (E : (e : ℕ) → e < deck.entries → IsEntry (entry_in w e)) (H : AreHushed deck w)
    (o : Turnout) (r : StarPart) (now : o.step.node.star ≡ Some r)
    (was-live : (u : ℕ) → has o.medium.removed u ≡ false → has w.medium.removed u ≡ false)
    (late : (e u : ℕ) (k : NodeState) → Site w u k → has o.medium.removed u ≡ false
    → is_told_late deck.entries e (inbox o.medium u) ≡ true
    → (is_told_late deck.entries e (inbox w.medium u) ≡ true) ⊎ (manages p e ≡ true))
    (notice : (e u : ℕ) (k : NodeState) → Site w u k → has o.medium.removed u ≡ false
    → noticed e (inbox o.medium u) ≡ true
    → (noticed e (inbox w.medium u) ≡ true) ⊎ (is_told_late deck.entries e (inbox o.medium u) ≡ false))
    (owes : (e : ℕ) (to : SysId) → owed_to r e ≡ Some to
    → ((x : SysId) × (owed_to p e ≡ Some x)) ⊎ (noticed e (inbox w.medium c.0) ≡ true))
    (coming : (e u m : ℕ) (k : NodeState) → Site w m k → has o.medium.removed m ≡ false
    → are_coming e u (inbox o.medium m) ≡ true
    → (are_coming e u (inbox w.medium m) ≡ true) ⊎ ((u ≡ c.0) × ((x : SysId) × (owed_to p e ≡ Some x))))
    (kept : (e u : ℕ) → are_kept (gathering_at r.gathers e) u ≡ true
    → (are_kept (gathering_at p.gathers e) u ≡ true) ⊎ (are_coming e u (inbox w.medium c.0) ≡ true)) where
  -- what was so of a system that is there, by what is so of it then
  module _ (e u : ℕ) (k : NodeState) (q : StarPart) (site_u : Site w u k) (star_u : k.star ≡ Some q)
      (live : has o.medium.removed u ≡ false) where
    from-coming : (m : ℕ) (z : NodeState) (v : StarPart) → Site w m z → z.star ≡ Some v → (m == u) ≡ false
        → has o.medium.removed m ≡ false → are_coming e u (inbox o.medium m) ≡ true
        → Due w e u q ⊎ (is_told_late deck.entries e (inbox o.medium u) ≡ false)
    from-coming m z v site_m star_m apart live_m any = go (coming e u m z site_m live_m any)
      where
        same : u ≡ c.0 → q ≡ p
        same place =
            same_Some q p
            (sym star_u
            ∙ (ap (λ (x : NodeState). x.star)
            (same_Some k n (sym site_u.at ∙ (ap (slice_get w.nodes) place ∙ site.at)))
            ∙ star))

        go : (are_coming e u (inbox w.medium m) ≡ true) ⊎ ((u ≡ c.0) × ((x : SysId) × (owed_to p e ≡ Some x)))
            → Due w e u q ⊎ (is_told_late deck.entries e (inbox o.medium u) ≡ false)
        go (inl was) = inl (by_coming m z v site_m star_m apart was)
        go (inr own) = inl (by_owing (own.1).0 (ap (λ (x : StarPart). owed_to x e) (same own.0) ∙ (own.1).1))

    from-notice : noticed e (inbox o.medium u) ≡ true
        → Due w e u q ⊎ (is_told_late deck.entries e (inbox o.medium u) ≡ false)
    from-notice h = go (notice e u k site_u live h)
      where
        go : (noticed e (inbox w.medium u) ≡ true) ⊎ (is_told_late deck.entries e (inbox o.medium u) ≡ false)
            → Due w e u q ⊎ (is_told_late deck.entries e (inbox o.medium u) ≡ false)
        go (inl was) = inl (by_notice was)
        go (inr told) = inr told

    from-each-coming : (m : ℕ) (z : NodeState) (v : StarPart) → Site (world_then w c n o) m z → z.star ≡ Some v
        → (m == u) ≡ false → are_coming e u (inbox o.medium m) ≡ true
        → Due w e u q ⊎ (is_told_late deck.entries e (inbox o.medium u) ≡ false)
    from-each-coming m z v at_m star_m apart any =
        each_site w c n site o was-live
        (λ i y.
        has o.medium.removed i ≡ false → y.star ≡ Some v → (i == u) ≡ false
        → are_coming e u (inbox o.medium i) ≡ true
        → Due w e u q ⊎ (is_told_late deck.entries e (inbox o.medium u) ≡ false))
        (λ live_i star_i far h. from-coming c.0 n p site star far live_i h)
        (λ i y ne at_i live_i star_i far h. from-coming i y v at_i star_i far live_i h)
        m z at_m at_m.live star_m apart any

    own-kept : (v : StarPart) → o.step.node.star ≡ Some v → (c.0 == u) ≡ false
        → are_kept (gathering_at v.gathers e) u ≡ true
        → Due w e u q ⊎ (is_told_late deck.entries e (inbox o.medium u) ≡ false)
    own-kept v star_v apart any =
        go (kept e u (ap (λ (x : StarPart). are_kept (gathering_at x.gathers e) u) (same_Some r v (sym now ∙ star_v))
        ∙ any))
      where
        go : (are_kept (gathering_at p.gathers e) u ≡ true) ⊎ (are_coming e u (inbox w.medium c.0) ≡ true)
            → Due w e u q ⊎ (is_told_late deck.entries e (inbox o.medium u) ≡ false)
        go (inl was) = inl (by_keeping c.0 n p site star apart was)
        go (inr came) = inl (by_coming c.0 n p site star apart came)

    from-each-kept : (m : ℕ) (z : NodeState) (v : StarPart) → Site (world_then w c n o) m z → z.star ≡ Some v
        → (m == u) ≡ false → are_kept (gathering_at v.gathers e) u ≡ true
        → Due w e u q ⊎ (is_told_late deck.entries e (inbox o.medium u) ≡ false)
    from-each-kept m z v at_m star_m apart any =
        each_site w c n site o was-live
        (λ i y.
        y.star ≡ Some v → (i == u) ≡ false
        → Due w e u q ⊎ (is_told_late deck.entries e (inbox o.medium u) ≡ false))
        (λ star_i far. own-kept v star_i far any)
        (λ i y ne at_i star_i far. inl (by_keeping i y v at_i star_i far any)) m z at_m star_m apart

    -- so it holds of its inbox then
    settle : e < deck.entries → Due w e u q ⊎ (is_told_late deck.entries e (inbox o.medium u) ≡ false)
        → is_told_late deck.entries e (inbox o.medium u) ≡ false
    settle inside (inr told) = told
    settle inside (inl was) =
        false_by (is_told_late deck.entries e (inbox o.medium u)) (λ h. go (late e u k site_u live h))
      where
        go : (is_told_late deck.entries e (inbox w.medium u) ≡ true) ⊎ (manages p e ≡ true)
            → is_told_late deck.entries e (inbox o.medium u) ≡ false
        go (inl before) =
            no_truth (is_told_late deck.entries e (inbox w.medium u)) before
            (H e u k q inside site_u star_u was)
        go (inr mine) = absurd (none-due w e (E e inside) c.0 n p site star mine u k q site_u star_u was)

  own-back : (e : ℕ) (v : StarPart) → o.step.node.star ≡ Some v → has o.medium.removed c.0 ≡ false
      → Due (world_then w c n o) e c.0 v
      → Due w e c.0 p ⊎ (is_told_late deck.entries e (inbox o.medium c.0) ≡ false)
  own-back e v star_v live (by_notice h) = from-notice e c.0 n p site star live h
  own-back e v star_v live (by_owing to owed) =
      go (owes e to (ap (λ (x : StarPart). owed_to x e) (same_Some r v (sym now ∙ star_v)) ∙ owed))
    where
      go : ((x : SysId) × (owed_to p e ≡ Some x)) ⊎ (noticed e (inbox w.medium c.0) ≡ true)
          → Due w e c.0 p ⊎ (is_told_late deck.entries e (inbox o.medium c.0) ≡ false)
      go (inl z) = inl (by_owing z.0 z.1)
      go (inr told) = inl (by_notice told)
  own-back e v star_v live (by_coming m z q at_m star_m apart any) =
      from-each-coming e c.0 n p site star live m z q at_m star_m apart any
  own-back e v star_v live (by_keeping m z q at_m star_m apart any) =
      from-each-kept e c.0 n p site star live m z q at_m star_m apart any

  other-back : (e u : ℕ) (k : NodeState) (q : StarPart) → Site w u k → k.star ≡ Some q
      → has o.medium.removed u ≡ false → Due (world_then w c n o) e u q
      → Due w e u q ⊎ (is_told_late deck.entries e (inbox o.medium u) ≡ false)
  other-back e u k q site_u star_u live (by_notice h) = from-notice e u k q site_u star_u live h
  other-back e u k q site_u star_u live (by_owing to owed) = inl (by_owing to owed)
  other-back e u k q site_u star_u live (by_coming m z v at_m star_m apart any) =
      from-each-coming e u k q site_u star_u live m z v at_m star_m apart any
  other-back e u k q site_u star_u live (by_keeping m z v at_m star_m apart any) =
      from-each-kept e u k q site_u star_u live m z v at_m star_m apart any

  pub hushed-then : AreHushed deck (world_then w c n o)
  hushed-then e u k q inside there star_k due =
      each_site w c n site o was-live
      (λ i y.
      has o.medium.removed i ≡ false → y.star ≡ Some q → Due (world_then w c n o) e i q
      → is_told_late deck.entries e (inbox o.medium i) ≡ false)
      (λ live star_y d. settle e c.0 n p site star live inside (own-back e q star_y live d))
      (λ i y ne at_i live star_y d. settle e i y q at_i star_y live inside (other-back e i y q at_i star_y live d))
      u k there there.live star_k due
