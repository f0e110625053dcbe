-- What an event of a system fixes, behind the items of the run: the history goes on, and the other systems stand as
-- they did.
use Rattle.grs_world.proofs.Common.{[], ◌++◌, ◌==◌, ◌∙◌, ◌∷◌, ◌≡◌, ◌≢◌, a_look, a_removal, AllAsk, an_ask, and_parts}
use Rattle.grs_world.proofs.Common.{ap, append-nil, append_assoc, askers, AsksOrRemoves, Bool, cond, Deck, eqb-false}
use Rattle.grs_world.proofs.Common.{eqb-true, false, false_by, filter-append, filter-cons_left, Fixed, fixed_by}
use Rattle.grs_world.proofs.Common.{goes_round, is_among, is_of, IsAsk, IsHistory, items, items-append, List, list_all}
use Rattle.grs_world.proofs.Common.{made_item, map, map-append, mine, no_truth, NodeState, or_parts, own_asked}
use Rattle.grs_world.proofs.Common.{own_requests, refl, Req, rounds, RunItem, same_task, same_task-exact, subst, sym}
use Rattle.grs_world.proofs.Common.{SysId, TaskId, true, ℕ}
use Rattle.grs_wire.specs.declared.request.Fixed.TheVariants.{Asked}
use Rattle.grs_world.proofs.system.AtNode.{Seen, MayFix, own_ask, own_look, fix-history, seen-fixed}

-- what was fixed, without its entries
abbrev pub fixeds : List RunItem → List Fixed
fixeds xs = map (λ x. x.fixed) xs

-- Behind the items P system c fixed this: the items are U now, and these went with the message.
pub data Grows (deck : Deck) (c : SysId) (P : List RunItem) : List Fixed → List RunItem → List RunItem → Type 0 where
  same : Grows deck c P [] P []
  more : (fs : List Fixed) (U new : List RunItem) (f : Fixed) → Grows deck c P fs U new → MayFix deck c.0 c U f →
      Grows deck c P (fs ++ f ∷ []) (U ++ made_item c U f ∷ []) (new ++ rounds (made_item c U f ∷ []))

-- ---- the items, and the history
pub grows-items : {deck : Deck} {c : SysId} (gs : List (SysId × Fixed)) {fs : List Fixed} {U new : List RunItem}
    → Grows deck c (items gs) fs U new → items (gs ++ fixed_by c fs) ≡ U
grows-items gs same = ap items (append-nil gs)
grows-items {c = c} gs (more fs U new f g may) =
    ap items (ap (λ zs. gs ++ zs) (map-append (λ z. (c, z)) fs (f ∷ []))
    ∙ sym (append_assoc gs (fixed_by c fs) ((c, f) ∷ [])))
    ∙ items-append (gs ++ fixed_by c fs) ((c, f) ∷ [])
    ∙ ap (λ z. z ++ made_item c z f ∷ []) (grows-items gs g)

pub grows-history : {deck : Deck} {c : SysId} {P : List RunItem} {fs : List Fixed} {U new : List RunItem}
    → IsHistory deck P → Grows deck c P fs U new → IsHistory deck U
grows-history h same = h
grows-history h (more fs U new f g may) = fix-history (grows-history h g) may

pub grows-rounds : {deck : Deck} {c : SysId} {P : List RunItem} {fs : List Fixed} {U new : List RunItem}
    → Grows deck c P fs U new → rounds U ≡ rounds P ++ new
grows-rounds {P = P} same = sym (append-nil (rounds P))
grows-rounds {c = c} {P = P} (more fs U new f g may) =
    filter-append (λ x. goes_round x.fixed) U (made_item c U f ∷ [])
    ∙ ap (λ z. z ++ rounds (made_item c U f ∷ [])) (grows-rounds g)
    ∙ append_assoc (rounds P) new (rounds (made_item c U f ∷ []))

-- ---- another system
pub grows-seen :
    {deck : Deck} {c : SysId} {P : List RunItem} {fs : List Fixed} {U new : List RunItem} (u : ℕ)
    (before later : List RunItem) (out : List Req) (n : NodeState)
    → u ≢ c.0 → Seen deck u P before later out n → Grows deck c P fs U new → Seen deck u U before (later ++ new) out n
grows-seen {deck = deck} {P = P} u before later out n ne seen same =
    subst (λ zs. Seen deck u P before zs out n) (sym (append-nil later)) seen
grows-seen {deck = deck} {c = c} u before later out n ne seen (more fs U new f g may) =
    subst (λ zs. Seen deck u (U ++ made_item c U f ∷ []) before zs out n)
    (append_assoc later new (rounds (made_item c U f ∷ [])))
    (seen-fixed u before (later ++ new) out n (grows-seen u before later out n ne seen g) may (λ e. ne (sym e)))

pub own_requests-append : (s : ℕ) (xs ys : List RunItem)
    → own_requests s (xs ++ ys) ≡ own_requests s xs ++ own_requests s ys
own_requests-append s [] ys = refl
own_requests-append s (x ∷ xs) ys =
    ap (λ z. own_asked s x.fixed ++ z) (own_requests-append s xs ys)
    ∙ sym (append_assoc (own_asked s x.fixed) (own_requests s xs) (own_requests s ys))

fix-away : {deck : Deck} {c : SysId} {U : List RunItem} {f : Fixed} (u : ℕ) → u ≢ c.0 → MayFix deck c.0 c U f
    → own_requests u (rounds (made_item c U f ∷ [])) ≡ []
fix-away u ne (own_look t f home may) = refl
fix-away {c = c} {U = U} u ne (own_ask q home may) = go (goes_round (Asked q))
  where
    away : (q.task.system.0 == u) ≡ false
    away = false_by (q.task.system.0 == u) (λ e. absurd (ne (sym (eqb-true q.task.system.0 u e) ∙ home)))

    go : (b : Bool) → own_requests u (cond b (made_item c U (Asked q) ∷ []) []) ≡ []
    go true = append-nil (own_asked u (Asked q)) ∙ ap (λ b. cond b (q ∷ []) []) away
    go false = refl

pub grows-requests : {deck : Deck} {c : SysId} {P : List RunItem} {fs : List Fixed} {U new : List RunItem} (u : ℕ)
    → u ≢ c.0 → Grows deck c P fs U new → own_requests u new ≡ []
grows-requests u ne same = refl
grows-requests {c = c} u ne (more fs U new f g may) =
    own_requests-append u new (rounds (made_item c U f ∷ []))
    ∙ ap (λ z. z ++ own_requests u (rounds (made_item c U f ∷ []))) (grows-requests u ne g)
    ∙ fix-away u ne may

-- ---- whose items are due
pub asks-rounds : (deck : Deck) (xs : List RunItem) → AllAsk deck xs → AllAsk deck (rounds xs)
asks-rounds deck [] a = tt
asks-rounds deck (x ∷ xs) a = go (goes_round x.fixed) (asks-rounds deck xs a.1)
  where
    go : (b : Bool) → AllAsk deck (rounds xs) → AllAsk deck (cond b (x ∷ rounds xs) (rounds xs))
    go true ih = (a.0, ih)
    go false ih = ih

-- A task of the system that has no request among these, which went with the message, has no item among them.
pub idle-asks : (deck : Deck) (s : ℕ) (t : TaskId) → t.system.0 ≡ s → (xs : List RunItem) → AllAsk deck xs
    → list_all (λ x. goes_round x.fixed) xs ≡ true → is_among t (askers (own_requests s xs)) ≡ false → mine t xs ≡ []
idle-asks deck s t home [] a round e = refl
idle-asks deck s t home (x ∷ xs) a round e = by_item a.0 (idle-asks deck s t home xs a.1 (both round).1)
  where
    both : list_all (λ y. goes_round y.fixed) (x ∷ xs) ≡ true
        → (goes_round x.fixed ≡ true) × (list_all (λ y. goes_round y.fixed) xs ≡ true)
    both all = and_parts (goes_round x.fixed) (list_all (λ y. goes_round y.fixed) xs) all

    go : (i : IsAsk deck x) → (is_among t (askers (own_requests s xs)) ≡ false → mine t xs ≡ []) → mine t (x ∷ xs) ≡ []
    go i ih =
        by_own (i.req.task.system.0 == s) refl
        (subst (λ f. is_among t (askers (own_asked s f ++ own_requests s xs)) ≡ false) i.asked e)
      where
        apart : same_task t i.req.task ≡ false → is_of t x.fixed ≡ false
        apart f = ap (is_of t) i.asked ∙ f

        by_own : (b : Bool) → (i.req.task.system.0 == s) ≡ b
            → is_among t (askers (cond b (i.req ∷ []) [] ++ own_requests s xs)) ≡ false → mine t (x ∷ xs) ≡ []
        by_own true f d =
            let parts = or_parts (same_task t i.req.task) (is_among t (askers (own_requests s xs))) d in
            filter-cons_left (λ z. is_of t z.fixed) x xs (apart parts.0) ∙ ih parts.1
        by_own false f d =
            filter-cons_left (λ z. is_of t z.fixed) x xs (apart
            (false_by (same_task t i.req.task) (λ k.
            absurd (eqb-false i.req.task.system.0 s f
            (ap (λ (z : TaskId). z.system.0) (sym (same_task-exact t i.req.task k)) ∙ home)))))
            ∙ ih d

    by_item : AsksOrRemoves deck x → (is_among t (askers (own_requests s xs)) ≡ false → mine t xs ≡ [])
        → mine t (x ∷ xs) ≡ []
    by_item (an_ask i) ih = go i ih
    by_item (a_look u f looks known) ih =
        let narrow : goes_round x.fixed ≡ false = ap goes_round looks in
        no_truth (goes_round x.fixed) (both round).0 narrow
    by_item (a_removal target purged) ih =
        filter-cons_left (λ z. is_of t z.fixed) x xs (ap (is_of t) purged)
        ∙ ih (subst (λ f. is_among t (askers (own_asked s f ++ own_requests s xs)) ≡ false) purged e)
