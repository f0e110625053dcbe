-- Whom the message waits for, as it is put on and as a system leaves it.
use Rattle.std.proofs.Common.{ℕ, suc, ◌≡◌, ◌≢◌, ◌<◌, ◌+◌, ◌%◌, Bool, true, false, cond, not, ◌||◌, List, [], ◌∷◌, ◌++◌}
use Rattle.std.proofs.Common.{length, map, Option, Some, None, refl, sym, ap, ◌∙◌, subst}
use Rattle.std.specs.Prelude.{filter, find, ◌==◌}
use Rattle.std.specs.List.{list_any}
use Rattle.std.proofs.lemmas.List.Folds.{list_any-append}
use Rattle.std.proofs.lemmas.Option.{same_Some}
use Rattle.std.proofs.Math.Bool.{or-false}
use Rattle.std.proofs.lemmas.Bool.{and_parts, eq-eqb, or_left, or_right, true≢false}
use Rattle.grs_base.specs.declared.resource.SysId.{SysId}
use Rattle.grs_wire.specs.declared.medium.RingEntry.{RingEntry}
use Rattle.grs_wire.specs.declared.medium.RingBody.TheVariants.{Remove}
use Rattle.grs_wire.specs.declared.request.Req.{Req}
use Rattle.grs_wire.specs.Masks.{has, without, only}
use Rattle.grs_wire.specs.Unseen.{is_unseen}
use Rattle.grs_wire.proofs.WantLaws.{by_test}
use Rattle.grs_wire.proofs.MaskLaws.{has-without_same, has-without_other}
use Rattle.rsa_message.specs.Message.{Message, first_after, or_else, any_unseen, left_by, cleared, dropped, stamped}
use Rattle.rsa_message.specs.Message.{stands_at, is_due, moves, turned, turned_open, turned_closed}
use Rattle.rsa_message.proofs.OrderLaws.{stands_at-exact}
use Rattle.grs_medium.proofs.Round.{after_some, first_found}

-- Whoever has still to process one of these is live.
abbrev pub Masks : ℕ → List RingEntry → Type 0
Masks live es = (u : ℕ) → any_unseen (record { 0 = u }) es ≡ true → has live u ≡ true

-- who has still to process one of these, once c has left
pub cleared_unseen : (c : SysId) (es : List RingEntry) (u : ℕ) → any_unseen (record { 0 = u }) (cleared c es) ≡ true
    → (u ≢ c.0) × (any_unseen (record { 0 = u }) es ≡ true)
unfolding cleared any_unseen
cleared_unseen c [] u h = absurd (cc)
cleared_unseen c (e ∷ es) u h = go (not (e.mask == only c.0)) (cleared_unseen c es u) h
  where
    Both : Type 0
    Both = (u ≢ c.0) × (list_any (is_unseen (record { 0 = u })) (e ∷ es) ≡ true)

    behind :
        (list_any (is_unseen (record { 0 = u })) (cleared c es) ≡ true
        → (u ≢ c.0) × (list_any (is_unseen (record { 0 = u })) es ≡ true))
        → list_any (is_unseen (record { 0 = u })) (cleared c es) ≡ true → Both
    behind more k = let r = more k in (r.0, or_right (has e.mask u) (list_any (is_unseen (record { 0 = u })) es) r.1)

    here : (b : Bool) → has (without e.mask c.0) u ≡ b
        → (list_any (is_unseen (record { 0 = u })) (cleared c es) ≡ true
        → (u ≢ c.0) × (list_any (is_unseen (record { 0 = u })) es ≡ true))
        → (b || list_any (is_unseen (record { 0 = u })) (cleared c es)) ≡ true → Both
    here true is more k =
        let ne : u
        ≢ c.0 = λ same.
        let no : true ≡ false = sym is ∙ (ap (has (without e.mask c.0)) same ∙ has-without_same e.mask c.0) in
        absurd (cc) in (
          ne,
          or_left (has e.mask u) (list_any (is_unseen (record { 0 = u })) es)
              (sym (has-without_other e.mask c.0 u ne) ∙ is),
        )
    here false is more k = behind more k

    go : (b : Bool)
        → (list_any (is_unseen (record { 0 = u })) (cleared c es) ≡ true
        → (u ≢ c.0) × (list_any (is_unseen (record { 0 = u })) es ≡ true))
        →
        list_any (is_unseen (record { 0 = u })) (map (left_by c)
        (cond b (e ∷ filter (λ x. not (x.mask == only c.0)) es) (filter (λ x. not (x.mask == only c.0)) es)))
        ≡ true
        → Both
    go true more k = here (has (without e.mask c.0) u) refl more k
    go false more k = behind more k

-- who is in no mask has none to process
pub no_unseen : (live u : ℕ) (e : RingEntry) → e.mask ≡ live → has live u ≡ false
    → any_unseen (record { 0 = u }) (e ∷ []) ≡ true → ⊥
unfolding any_unseen
no_unseen live u e mask out k =
    let f : true ≡ false = sym k ∙ (or-false (has e.mask u) ∙ (ap (λ (x : ℕ). has x u) mask ∙ out)) in absurd cc

-- new requests are waited for by those in their mask
pub stamped_unseen : (c : SysId) (number mask : ℕ) (rs : List Req) (u : ℕ)
    → any_unseen (record { 0 = u }) (stamped number c mask rs) ≡ true → has mask u ≡ true
unfolding stamped any_unseen
stamped_unseen c number mask [] u h = absurd (cc)
stamped_unseen c number mask (r ∷ rs) u h = go (has mask u) refl (stamped_unseen c (suc number) mask rs u) h
  where
    go : (b : Bool) → has mask u ≡ b
        → (list_any (is_unseen (record { 0 = u })) (stamped (suc number) c mask rs) ≡ true → has mask u ≡ true)
        → (b || list_any (is_unseen (record { 0 = u })) (stamped (suc number) c mask rs)) ≡ true → has mask u ≡ true
    go true is more k = is
    go false is more k = more k

pub masks_joined : (live : ℕ) (xs ys : List RingEntry) → Masks live xs → Masks live ys → Masks live (xs ++ ys)
unfolding any_unseen
masks_joined live xs ys a b u h =
    go (list_any (is_unseen (record { 0 = u })) xs) refl
    (sym (list_any-append (is_unseen (record { 0 = u })) xs ys) ∙ h)
  where
    go : (k : Bool) → list_any (is_unseen (record { 0 = u })) xs ≡ k
        → (k || list_any (is_unseen (record { 0 = u })) ys) ≡ true → has live u ≡ true
    go true is e = a u is
    go false is e = b u e

pub masks_cleared : (live : ℕ) (c : SysId) (es : List RingEntry) → Masks live es → Masks live (cleared c es)
masks_cleared live c es masks u h = masks u (cleared_unseen c es u h).1

-- the first that passes a test passes it
find_passes : (test : SysId → Bool) (xs : List SysId) (h : SysId) → find test xs ≡ Some h → test h ≡ true
find_passes test [] h e = absurd cc
find_passes test (x ∷ xs) h e = go (test x) refl (find_passes test xs h) e
  where
    go : (b : Bool) → test x ≡ b → (find test xs ≡ Some h → test h ≡ true) → cond b (Some x) (find test xs) ≡ Some h
        → test h ≡ true
    go true is more k = let same : x ≡ h = cc in subst (λ (y : SysId). test y ≡ true) same is
    go false is more k = more k

pub first_passes : (test : SysId → Bool) (n : ℕ) (c h : SysId) → first_after n c test ≡ Some h → test h ≡ true
unfolding first_after
first_passes test n c h e = find_passes test _ h e

-- where the message moves on from a live system it stands at a live one
pub live_onward : (live : ℕ) (c : SysId) (test : SysId → Bool) → ((h : SysId) → test h ≡ true → has live h.0 ≡ true)
    → has live c.0 ≡ true → (first : Option SysId) → ((h : SysId) → first ≡ Some h → test h ≡ true)
    → has live (or_else first c).0 ≡ true
live_onward live c test within here None each = here
live_onward live c test within here (Some h) each = within h (each h refl)

-- ---- a Turn
pub turn_masks : (m : Message) (c : SysId) (out : List Req) (live rest : ℕ) → Masks live m.entries
    → Masks live (turned m c out live rest).entries
unfolding turned
turn_masks m c out live rest masks =
    by_test Kept (stands_at m.holder c) (cond m.closed (turned_closed m c) (turned_open m c out live rest)) m
    (λ here.
    by_test Kept m.closed (turned_closed m c) (turned_open m c out live rest)
    (λ shut. masks_cleared live c m.entries masks)
    (λ not_shut.
    masks_joined live (cleared c m.entries) (stamped m.next c live out) (masks_cleared live c m.entries masks)
    (stamped_unseen c m.next live out)))
    (λ away. masks)
  where
    Kept : Message → Type 0
    Kept x = Masks live x.entries

-- Where some system is live, the message stands at a live one.
abbrev pub StandsLive : Message → ℕ → Type 0
StandsLive m live =
    (u : ℕ) → u < m.systems → has live u ≡ true → (h : SysId) × (m.holder ≡ Some h) × (has live h.0 ≡ true)

pub turn_stands : (m : Message) (c : SysId) (out : List Req) (live rest : ℕ) → m.closed ≡ false → StandsLive m live
    → StandsLive (turned m c out live rest) live
unfolding turned
turn_stands m c out live rest opened stands =
    by_test Kept (stands_at m.holder c) (cond m.closed (turned_closed m c) (turned_open m c out live rest)) m
    (λ here.
    by_test Kept m.closed (turned_closed m c) (turned_open m c out live rest)
    (λ shut. absurd (true≢false (sym shut ∙ opened)))
    (λ not_shut u low lives.
    let r = stands u low lives in
    let same : r.0 ≡ c = same_Some r.0 c (sym r.1 ∙ stands_at-exact m.holder c here) in
    let alive : has live c.0 ≡ true = subst (λ (x : SysId). has live x.0 ≡ true) same r.2 in (
      or_else (first_after m.systems c test) c,
      refl,
      live_onward live c test (λ h t. (and_parts (has live h.0) _ t).0) alive (first_after m.systems c test)
          (λ h at. first_passes test m.systems c h at),
    )))
    (λ away. stands)
  where
    Kept : Message → Type 0
    Kept x = StandsLive x live

    test : SysId → Bool
    test =
        is_due (cleared c m.entries ++ stamped m.next c live out) live
        (cond (moves m c (length out)) (without rest c.0) rest)

-- ---- a system is removed
pub cleared_live : (t : SysId) (before live : ℕ) → ((u : ℕ) → u ≢ t.0 → has live u ≡ has before u)
    → (es : List RingEntry) → Masks before es → Masks live (cleared t es)
cleared_live t before live same es masks u h = let r = cleared_unseen t es u h in same u r.0 ∙ masks u r.1

-- an entry with the set of the live systems
all_live : (live : ℕ) (e : RingEntry) → e.mask ≡ live → Masks live (e ∷ [])
all_live live e mask u h = by_mask (has live u) refl h
  where
    by_mask : (b : Bool) → has live u ≡ b → any_unseen (record { 0 = u }) (e ∷ []) ≡ true → has live u ≡ true
    by_mask true is k = is
    by_mask false is k = absurd (no_unseen live u e mask is k)

pub dropped_masks : (m : Message) (c t : SysId) (before live : ℕ)
    → ((u : ℕ) → u ≢ t.0 → has live u ≡ has before u) → Masks before m.entries
    → Masks live (dropped m c t live).entries
unfolding dropped
dropped_masks m c t before live same masks =
    let new : RingEntry = record { number = m.next; from = c; body = Remove t; mask = live } in
    masks_joined live (cleared t m.entries) (new ∷ []) (cleared_live t before live same m.entries masks)
    (all_live live new refl)

pub dropped_stands : (m : Message) (c t : SysId) (before live : ℕ) → t.0 < m.systems → has live t.0 ≡ false
    → ((u : ℕ) → u ≢ t.0 → has live u ≡ has before u) → StandsLive m before → StandsLive (dropped m c t live) live
unfolding dropped
dropped_stands m c t before live low gone same stands u below lives = go (stands_at m.holder t) refl
  where
    test : SysId → Bool
    test s = has live s.0

    apart : (v : ℕ) → has live v ≡ true → v ≢ t.0
    apart v h is = true≢false (sym h ∙ (ap (has live) is ∙ gone))

    go : (b : Bool) → stands_at m.holder t ≡ b
        → (h : SysId) × (cond b (first_after m.systems t test) m.holder ≡ Some h) × (has live h.0 ≡ true)
    go true here =
        let k = after_some m.systems t.0 u low below in
        let r =
        first_found test m.systems t k.0 k.1 k.2 (subst (λ (x : ℕ). has live x ≡ true) (sym k.3) lives) in
        (record { 0 = (t.0 + r.0) % m.systems }, r.3, first_passes test m.systems t _ r.3)
    go false here =
        let r = stands u below (sym (same u (apart u lives)) ∙ lives) in (
          r.0,
          r.1,
          same (r.0).0
              (λ is.
              true≢false (sym (ap (λ o. stands_at o t) r.1 ∙ eq-eqb (r.0).0 t.0 is) ∙ here))
              ∙ r.2,
        )
