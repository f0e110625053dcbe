-- A system in the ring, where the run has these items: its tasks, its own lists and its table.
use Rattle.grs_world.proofs.Common.{[], ◌++◌, ◌∙◌, ◌∷◌, ◌≡◌, ◌≢◌, after_fixed, after_want, ap, append-nil, askers, Bool}
use Rattle.grs_world.proofs.Common.{cond, Deck, Deq, Enq, eqb-true, false, false_by, Filter, filter-append}
use Rattle.grs_world.proofs.Common.{filter-cons_left, Fixed, follows, goes_round, here-kept, here-other, history}
use Rattle.grs_world.proofs.Common.{is_home_at, is_of, is_res_of, is_systems, IsAsk, IsGood, IsHistory, IsOurs, List}
use Rattle.grs_world.proofs.Common.{list_all, lists, lists-push, Look, made_item, MayFollow, Meaning, mine, ne_eqb}
use Rattle.grs_world.proofs.Common.{NodeState, None, Opens, Option, or_other, part, refl, Release, removes_system_of}
use Rattle.grs_world.proofs.Common.{Req, Res, res_wanted, rounds, RunItem, same_task, same_task-exact, Some}
use Rattle.grs_world.proofs.Common.{stand_apart, State, Step, sym, SysId, TaskId, TasksView, ToldBy, true, Want, ℕ}
use Rattle.grs_known.proofs.known.Histories.{AsksHere, MayLook, follows-look, goes-ask, stays-ask}
use Rattle.grs_known.proofs.lists.Parts.{part-removed, own-one_system, after_want-part, part-want_other, systems-other}
use Rattle.grs_known.proofs.system.Ours.{Holds}
use Rattle.grs_base.specs.declared.resource.Res.TheVariants as resources
use Rattle.grs_wire.specs.declared.request.Fixed.TheVariants as fixing

-- what is open at a system: its unseen items, its requests that were sent, and those that wait
abbrev pub opens_of : List RunItem → List Req → NodeState → Opens
opens_of later out n = record { later = later; out = out; all = out ++ n.outbox }

-- System s has processed these of the items that went with the message, and has still to process those behind them;
-- `out` are its requests among the latter.
pub record Seen (deck : Deck) (s : ℕ) (P before later : List RunItem) (out : List Req) (n : NodeState) : Type 0 where
  pub good : IsGood deck s (opens_of later out n) P n.tasks
  -- its own lists are the history's, and its table is what it has processed
  pub own : n.own ≡ part (is_res_of s) (lists P)
  pub shared : n.shared ≡ lists before
  -- the open requests are of tasks of the system, each of another one
  pub homes : list_all (λ q. is_home_at deck s q.task) (out ++ n.outbox) ≡ true
  pub apart : stand_apart (askers (out ++ n.outbox)) ≡ true

-- What a system fixes behind these items for a task of its own, and what may follow: a request, or a look at the lists
-- of the system's own resources.
pub data MayFix (deck : Deck) (s : ℕ) (c : SysId) (T : List RunItem) : Fixed → Type 0 where
  own_ask : (q : Req) → q.task.system.0 ≡ s → MayFollow deck T (made_item c T (fixing.Asked q))
      → MayFix deck s c T (fixing.Asked q)
  own_look : (t : TaskId) (f : Filter) → t.system.0 ≡ s → MayLook deck T (made_item c T (fixing.LocalLook t f))
      → MayFix deck s c T (fixing.LocalLook t f)

-- What a Task event of a system comes to: nothing is fixed, or an item that doesn't go with the message.
pub data QuietStep (deck : Deck) (s : ℕ) (c : SysId) (P before later : List RunItem) (out : List Req) (n : NodeState)
    (step : Step) :
    Type 0 where
  keeps : step.fixed ≡ [] → Seen deck s P before later out step.node
      → ToldBy deck s (out ++ step.node.outbox) (history P) n.tasks.told step.node.tasks.told
      → QuietStep deck s c P before later out n step
  fixes : (f : Fixed) → step.fixed ≡ f ∷ [] → goes_round f ≡ false → MayFix deck s c P f →
      Seen deck s (P ++ made_item c P f ∷ []) before later out step.node →
      ToldBy deck s (out ++ step.node.outbox) (history (P ++ made_item c P f ∷ [])) n.tasks.told step.node.tasks.told
      → QuietStep deck s c P before later out n step

-- ---- the store
pub after-asked : (P : List RunItem) (x : RunItem) (q : Req) → x.fixed ≡ fixing.Asked q
    → lists (P ++ x ∷ []) ≡ after_want (lists P) q.task q.want
after-asked P x q asked = lists-push P x ∙ ap (after_fixed (lists P)) asked

-- the part of some resources behind a request for one of them, and for another one
module _ (p : Res → Bool) (P : List RunItem) (x : RunItem) (q : Req) (r : Res) (asked : x.fixed ≡ fixing.Asked q)
    (wanted : res_wanted q.want ≡ Some r) (s : State) (is : s ≡ part p (lists P)) where
  pub part-same : p r ≡ true → after_want s q.task q.want ≡ part p (lists (P ++ x ∷ []))
  part-same own =
      ap (λ z. after_want z q.task q.want) is
      ∙ after_want-part p (lists P) q.task q.want r wanted own
      ∙ ap (part p) (sym (after-asked P x q asked))

  pub part-other : p r ≡ false → s ≡ part p (lists (P ++ x ∷ []))
  part-other other =
      is ∙ sym (part-want_other p (lists P) q.task q.want r wanted other) ∙ ap (part p) (sym (after-asked P x q asked))

-- looks leave the lists
want-looks : (s : State) (t : TaskId) (w : Want) → res_wanted w ≡ None → after_want s t w ≡ s
want-looks s t (Enq r c ret full) e = absurd (cc)
want-looks s t (Deq r have) e = absurd (cc)
want-looks s t (Release r) e = absurd (cc)
want-looks s t (Look first count f) e = refl

pub part-looks : (p : Res → Bool) (P : List RunItem) (x : RunItem) (q : Req) → x.fixed ≡ fixing.Asked q
    → res_wanted q.want ≡ None → part p (lists P) ≡ part p (lists (P ++ x ∷ []))
part-looks p P x q asked none =
    ap (part p) (sym (want-looks (lists P) q.task q.want none) ∙ sym (after-asked P x q asked))

-- and so does a look at a system's own lists
pub part-look : (p : Res → Bool) (P : List RunItem) (x : RunItem) (t : TaskId) (f : Filter)
    → x.fixed ≡ fixing.LocalLook t f → part p (lists P) ≡ part p (lists (P ++ x ∷ []))
part-look p P x t f looks = ap (part p) (sym (lists-push P x ∙ ap (after_fixed (lists P)) looks))

-- ---- another system's item
two_homes : (s u : ℕ) (r : Res) → is_res_of s r ≡ true → is_res_of u r ≡ true → u ≡ s
two_homes s u (resources.Step n j q r) h k = sym (eqb-true n.0 u k) ∙ eqb-true n.0 s h
two_homes s u (resources.System n q r) h k = sym (eqb-true n.0 u k) ∙ eqb-true n.0 s h
two_homes s u (resources.Systems q r) h k = cc

-- what a task of another system may ask for is no resource of this one
away-res : (s : ℕ) (t : TaskId) (r : Res) → AsksHere t (Some r) → t.system.0 ≢ s → is_res_of s r ≡ false
away-res s t r place ne =
    false_by (is_res_of s r) (λ own.
    absurd (ne (two_homes s t.system.0 r own (or_other (is_systems r) _ place (own-one_system s r own)))))

-- so its request leaves the part of the lists that is the system's own
part-away : (deck : Deck) (s : ℕ) (P : List RunItem) (x : RunItem) (a : IsAsk deck x) → a.req.task.system.0 ≢ s
    → part (is_res_of s) (lists P) ≡ part (is_res_of s) (lists (P ++ x ∷ []))
part-away deck s P x a ne = go (res_wanted a.req.want) refl a.place
  where
    go : (o : Option Res) → res_wanted a.req.want ≡ o → AsksHere a.req.task o
        → part (is_res_of s) (lists P) ≡ part (is_res_of s) (lists (P ++ x ∷ []))
    go None e place = part-looks (is_res_of s) P x a.req a.asked e
    go (Some r) e place =
        part-other (is_res_of s) P x a.req r a.asked e (part (is_res_of s) (lists P)) refl
        (away-res s a.req.task r place ne)

-- as does a request that goes with the message
pub part-round : (deck : Deck) (s : ℕ) (P : List RunItem) (x : RunItem) (a : IsAsk deck x)
    → goes_round x.fixed ≡ true → part (is_res_of s) (lists P) ≡ part (is_res_of s) (lists (P ++ x ∷ []))
part-round deck s P x a round = go (res_wanted a.req.want) refl
  where
    go : (o : Option Res) → res_wanted a.req.want ≡ o
        → part (is_res_of s) (lists P) ≡ part (is_res_of s) (lists (P ++ x ∷ []))
    go None e = part-looks (is_res_of s) P x a.req a.asked e
    go (Some r) e =
        part-other (is_res_of s) P x a.req r a.asked e (part (is_res_of s) (lists P)) refl
        (systems-other s r (sym (goes-ask deck x a r e) ∙ round))

apart-home : (s : ℕ) (u t : TaskId) → t.system.0 ≢ s → u.system.0 ≡ s → same_task u t ≡ false
apart-home s u t ne home =
    false_by (same_task u t)
    (λ e. absurd (ne (ap (λ (z : TaskId). z.system.0) (sym (same_task-exact u t e)) ∙ home)))

pub not-ours : (deck : Deck) (s : ℕ) (v : TasksView) (x : RunItem) (a : IsAsk deck x) → a.req.task.system.0 ≢ s
    → (u : TaskId) (ls : List Meaning) → IsOurs deck s v u ls → is_of u x.fixed ≡ false
not-ours deck s v x a ne u ls o = ap (is_of u) a.asked ∙ apart-home s u a.req.task ne o.home

pub mine-left : (u : TaskId) (later : List RunItem) (x : RunItem) → is_of u x.fixed ≡ false
    → mine u (later ++ rounds (x ∷ [])) ≡ mine u later
mine-left u later x apart =
    filter-append (λ y. is_of u y.fixed) later (rounds (x ∷ []))
    ∙ ap (λ ys. mine u later ++ ys) (none (goes_round x.fixed))
    ∙ append-nil (mine u later)
  where
    none : (b : Bool) → mine u (cond b (x ∷ []) []) ≡ []
    none true = filter-cons_left (λ y. is_of u y.fixed) x [] apart
    none false = refl

-- leaves the system, which has still to process it if it went with the message
module _ (deck : Deck) (s : ℕ) (P before later : List RunItem) (out : List Req) (n : NodeState) (x : RunItem)
    (seen : Seen deck s P before later out n) where
  pub seen-more : part (is_res_of s) (lists P) ≡ part (is_res_of s) (lists (P ++ x ∷ []))
      → Holds deck s (opens_of (later ++ rounds (x ∷ [])) out n) (P ++ x ∷ []) n.tasks
      → Seen deck s (P ++ x ∷ []) before (later ++ rounds (x ∷ [])) out n
  seen-more same tasks = record {
    good = record { tasks = tasks; here = seen.good.here; system = seen.good.system };
    own = seen.own ∙ same;
    shared = seen.shared;
    homes = seen.homes;
    apart = seen.apart;
  }

  -- where it is of none of the system's tasks
  pub seen-away : part (is_res_of s) (lists P) ≡ part (is_res_of s) (lists (P ++ x ∷ []))
      → ((u : TaskId) → u.system.0 ≡ s → is_of u x.fixed ≡ false)
      → ((u : TaskId) → u.system.0 ≡ s → removes_system_of u x.fixed ≡ false)
      → Seen deck s (P ++ x ∷ []) before (later ++ rounds (x ∷ [])) out n
  seen-away same apart stays = seen-more same (record {
    each = λ u ls o.
        here-kept deck (opens_of later out n) (opens_of (later ++ rounds (x ∷ [])) out n) (P ++ x ∷ []) n.tasks.told
        n.tasks.told u ls _ (mine-left u later x (apart u o.home)) (λ k. k) (λ k. k) (λ p leaving y j. j)
        (here-other deck (opens_of later out n) P x n.tasks.told u ls _ (apart u o.home) (stays u o.home)
        (seen.good.tasks.each u ls o));
  })

pub seen-other : (deck : Deck) (s : ℕ) (P before later : List RunItem) (out : List Req) (n : NodeState) (x : RunItem)
    (a : IsAsk deck x)
    → Seen deck s P before later out n → a.req.task.system.0 ≢ s
    → Seen deck s (P ++ x ∷ []) before (later ++ rounds (x ∷ [])) out n
seen-other deck s P before later out n x a seen ne =
    seen-away deck s P before later out n x seen (part-away deck s P x a ne)
    (λ u home. ap (is_of u) a.asked ∙ apart-home s u a.req.task ne home) (λ u home. stays-ask deck u x a)

-- a look of another system at its own lists
pub seen-look : (deck : Deck) (s : ℕ) (P before later : List RunItem) (out : List Req) (n : NodeState) (x : RunItem)
    (t : TaskId) (f : Filter)
    → x.fixed ≡ fixing.LocalLook t f → Seen deck s P before later out n → t.system.0 ≢ s
    → Seen deck s (P ++ x ∷ []) before (later ++ rounds (x ∷ [])) out n
seen-look deck s P before later out n x t f looks seen ne =
    seen-away deck s P before later out n x seen (part-look (is_res_of s) P x t f looks)
    (λ u home. ap (is_of u) looks ∙ apart-home s u t ne home) (λ u home. ap (removes_system_of u) looks)

-- ---- what a system fixes for a task of its own
pub fix-history : {deck : Deck} {s : ℕ} {c : SysId} {T : List RunItem} {f : Fixed} → IsHistory deck T
    → MayFix deck s c T f → IsHistory deck (T ++ made_item c T f ∷ [])
fix-history {deck = deck} {c = c} {T = T} h (own_ask q home may) =
    follows deck T (made_item c T (fixing.Asked q)) h may
fix-history {deck = deck} {c = c} {T = T} h (own_look t f home may) =
    follows-look deck T (made_item c T (fixing.LocalLook t f)) h may

pub fix-home : {deck : Deck} {s : ℕ} {c : SysId} {T : List RunItem} {f : Fixed} → MayFix deck s c T f
    → (u : TaskId) → is_of u f ≡ true → u.system.0 ≡ s
fix-home (own_ask q home may) u e = ap (λ (z : TaskId). z.system.0) (same_task-exact u q.task e) ∙ home
fix-home (own_look t f home may) u e = ap (λ (z : TaskId). z.system.0) (same_task-exact u t e) ∙ home

pub fix-stays : {deck : Deck} {s : ℕ} {c : SysId} {T : List RunItem} {f : Fixed} → MayFix deck s c T f
    → (u : TaskId) → removes_system_of u f ≡ false
fix-stays (own_ask q home may) u = refl
fix-stays (own_look t f home may) u = refl

-- each other system stays as it was
pub seen-fixed : {deck : Deck} {s : ℕ} {c : SysId} {T : List RunItem} {f : Fixed} (u : ℕ) (before later : List RunItem)
    (out : List Req) (n : NodeState)
    → Seen deck u T before later out n → MayFix deck s c T f → s ≢ u →
    Seen deck u (T ++ made_item c T f ∷ []) before (later ++ rounds (made_item c T f ∷ [])) out n
seen-fixed {deck = deck} {c = c} {T = T} u before later out n seen (own_ask q home may) ne =
    seen-other deck u T before later out n (made_item c T (fixing.Asked q)) may.ask seen
    (λ e. ne (sym home ∙ asker may.ask.req may.ask.asked ∙ e))
  where
    asker : (p : Req) → fixing.Asked q ≡ fixing.Asked p → q.task.system.0 ≡ p.task.system.0
    asker p e = let is : q ≡ p = cc in ap (λ (z : Req). z.task.system.0) is
seen-fixed {deck = deck} {c = c} {T = T} u before later out n seen (own_look t f home may) ne =
    seen-look deck u T before later out n (made_item c T (fixing.LocalLook t f)) t f refl seen
    (λ e. ne (sym home ∙ e))

-- ---- the removal of another system
-- leaves it too: it has still to process the removal
pub seen-removal :
    (deck : Deck) (s : ℕ) (P before later : List RunItem) (out : List Req) (n : NodeState) (x : RunItem)
    (target : SysId)
    → x.fixed ≡ fixing.Purged target → target.0 ≢ s → Seen deck s P before later out n
    → Seen deck s (P ++ x ∷ []) before (later ++ rounds (x ∷ [])) out n
seen-removal deck s P before later out n x target purged ne seen =
    seen-away deck s P before later out n x seen
    (sym (part-removed s (lists P) target.0)
    ∙ ap (part (is_res_of s)) (sym (lists-push P x ∙ ap (after_fixed (lists P)) purged)))
    (λ u home. ap (is_of u) purged)
    (λ u home. ap (removes_system_of u) purged ∙ ne_eqb target.0 u.system.0 (λ e. ne (e ∙ home)))

-- ---- what a system knows of removed ones says nothing of its tasks and its lists
pub seen-known : (deck : Deck) (s : ℕ) (P before later : List RunItem) (out : List Req) (n : NodeState) (known : ℕ)
    → Seen deck s P before later out n → Seen deck s P before later out (record n { known = known })
seen-known deck s P before later out n known
    h = record { good = h.good; own = h.own; shared = h.shared; homes = h.homes; apart = h.apart }
