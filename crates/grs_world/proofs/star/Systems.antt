-- What holds of one system of a run in star mode, by the words, the items and its inbox; and how it is kept.
use Rattle.grs_world.proofs.Common.{[], ◌&&◌, ◌++◌, ◌==◌, ◌||◌, ◌∙◌, ◌∷◌, ◌≡◌, and_from, and_parts, answer_to, Answered}
use Rattle.grs_world.proofs.Common.{any-last, any-more, ap, append-nil, askers, blank, Bool, Coming, cond, Deck, Deq}
use Rattle.grs_world.proofs.Common.{Enq, entries_for, entry_of_res, entry_wanted, eq-eqb, eqb-true, false, false_by}
use Rattle.grs_world.proofs.Common.{filter-append, filter-cons_kept, filter-cons_left, Fixed, gives_back, gives_up}
use Rattle.grs_world.proofs.Common.{Granted, is_among, is_home_at, is_interested, is_of, is_some, IsHere, IsHistory}
use Rattle.grs_world.proofs.Common.{IsOurs, last_of, List, list_all, list_any, list_of, lists, Look, made_item, Mail}
use Rattle.grs_world.proofs.Common.{map, map-append, Meaning, mine, no_truth, NodeState, None, Notice, noticed, one}
use Rattle.grs_world.proofs.Common.{Option, or_right, outstanding, owns, Part, refl, Release, replies_are_answers}
use Rattle.grs_world.proofs.Common.{reply_in, Req, Res, RunItem, same_task, same_task-exact, Some, State, state_of}
use Rattle.grs_world.proofs.Common.{subst, sym, SysId, TaskId, true, Want, ℕ}
use Rattle.grs_wire.specs.declared.medium.Mail.TheVariants.{Request}
use Rattle.grs_known.proofs.lists.Facts.{list_any-push}
use Rattle.grs_known.proofs.known.Blank.{right-blank, coming-other, coming-sent, coming-granted}
use Rattle.grs_known.specs.Known.{Known, IsRight, learns_item, learns_control, News, Answers, Grants, Wants, Silent}
use Rattle.grs_known.specs.Known.{is_answer_to}
use Rattle.grs_known.proofs.lists.Truths.{or_off}
use Rattle.grs_world.proofs.system.AtNode.{opens_of, seen-known}
use Rattle.grs_world.proofs.system.Puts.{home-task}
use Rattle.grs_world.proofs.star.Answering.{Settled, asker-settled}
use Rattle.grs_world.proofs.star.Ghosts.{ghosted, IsAt, IsOthers, at-other}
use Rattle.grs_world.proofs.star.Members.{has_manager}
use Rattle.grs_world.proofs.star.Shown.{AreApart, apart-lists}
use Rattle.grs_wire.specs.declared.request.Fixed.TheVariants as fixing
pub use Rattle.grs_world.specs.InHands.{requests_in}

-- ---- what comes, by the mail
abbrev pub news1 : Mail → News
news1 (Request e from q) = Wants q
news1 (Answered t answer rank) = Answers t answer
news1 (Granted t r) = Grants t r
news1 (Notice target moved) = Silent
news1 (Part e from records) = Silent

abbrev pub news_of : List Mail → List News
news_of ms = map news1 ms

-- whether a task's last item is still to come
abbrev pub is_late : TaskId → List RunItem → Bool
is_late t later = list_any (λ x. is_of t x.fixed) later

-- ---- where requests, answers and control are
-- another system manages this entry, in which this one has interest
abbrev pub Away : List ℕ → ℕ → ℕ → Type 0
Away words s x = (has_manager words x s ≡ false) × (is_interested words x s ≡ true)

-- An item whose answer is still to come: it is of an entry that another system manages.
pub record IsLate (deck : Deck) (words : List ℕ) (s : ℕ) (x : RunItem) : Type 0 where
  pub req : Req
  pub asked : x.fixed ≡ fixing.Asked req
  pub home : is_home_at deck s req.task ≡ true
  pub lists : State
  pub apart : AreApart lists
  pub made : x.entries ≡ entries_for lists req.task req.want
  pub entry : ℕ
  pub at : entry_wanted deck.entries req.want ≡ Some entry
  pub away : Away words s entry

abbrev pub AllLate : Deck → List ℕ → ℕ → List RunItem → Type 0
AllLate deck words s [] = Unit {0}
AllLate deck words s (x ∷ xs) = IsLate deck words s x × AllLate deck words s xs

-- Control that comes is of such an entry too.
pub record IsAway (deck : Deck) (words : List ℕ) (s : ℕ) (t : TaskId) (r : Res) : Type 0 where
  pub home : is_home_at deck s t ≡ true
  pub entry : ℕ
  pub at : entry_of_res deck.entries r ≡ Some entry
  pub away : Away words s entry

-- no system is sent a notice or a part
abbrev pub MailFits : Deck → List ℕ → ℕ → Mail → Type 0
MailFits deck words s (Request e from q) = Unit {0}
MailFits deck words s (Answered t answer rank) = Unit {0}
MailFits deck words s (Granted t r) = IsAway deck words s t r
MailFits deck words s (Notice target moved) = ⊥
MailFits deck words s (Part e from records) = ⊥

abbrev pub AllFit : Deck → List ℕ → ℕ → List Mail → Type 0
AllFit deck words s [] = Unit {0}
AllFit deck words s (m ∷ ms) = MailFits deck words s m × AllFit deck words s ms

-- so none of these mails is a notice
pub none-noticed : (deck : Deck) (words : List ℕ) (s e : ℕ) (ms : List Mail) → AllFit deck words s ms
    → noticed e ms ≡ false
none-noticed deck words s e [] h = refl
none-noticed deck words s e (Request x from q ∷ ms) h = none-noticed deck words s e ms h.1
none-noticed deck words s e (Answered t answer rank ∷ ms) h = none-noticed deck words s e ms h.1
none-noticed deck words s e (Granted t r ∷ ms) h = none-noticed deck words s e ms h.1
none-noticed deck words s e (Notice target moved ∷ ms) h = absurd h.0
none-noticed deck words s e (Part x from records ∷ ms) h = none-noticed deck words s e ms h.1

-- whether a system has interest in the entry of a request
abbrev pub near_at : List ℕ → ℕ → Option ℕ → Bool
near_at words s None = true
near_at words s (Some x) = is_interested words x s

abbrev pub is_near : Deck → List ℕ → ℕ → Req → Bool
is_near deck words s q = near_at words s (entry_wanted deck.entries q.want)

-- whether a request gives something up
abbrev pub gives_want : Want → Bool
gives_want (Enq r c ret full) = false
gives_want (Deq r have) = true
gives_want (Release r) = true
gives_want (Look first count f) = false

abbrev pub gives : Fixed → Bool
gives (fixing.Asked q) = gives_want q.want
gives (fixing.LocalLook t f) = false
gives (fixing.Purged target) = false

-- whether a mail answers this task, without a rank
abbrev pub is_plain_answer : TaskId → Mail → Bool
is_plain_answer t (Request e from q) = false
is_plain_answer t (Answered u answer rank) = same_task t u && (rank == 0)
is_plain_answer t (Granted u r) = false
is_plain_answer t (Notice target moved) = false
is_plain_answer t (Part e from records) = false

-- ---- A system s, with these mails in its inbox.
pub record IsSystem (deck : Deck) (words : List ℕ) (T : List RunItem) (s : ℕ) (n : NodeState) (ms : List Mail)
    (later : List RunItem) (out : List Req) :
    Type 0 where
  pub at : IsAt deck s T later out n
  pub late : AllLate deck words s later
  -- who has nothing sent has nothing to come
  pub sent : (t : TaskId) → is_among t (askers out) ≡ false → mine t later ≡ []
  pub near : list_all (is_near deck words s) out ≡ true
  pub coming : (t : TaskId) → is_home_at deck s t ≡ true → Coming t (blank (is_late t later)) T (news_of ms)
  -- an answer to what gives something up isn't lost
  pub answered : (t : TaskId) (x : RunItem) → is_home_at deck s t ≡ true → mine t later ≡ x ∷ [] → gives x.fixed ≡ true
      → list_any (is_plain_answer t) ms ≡ true
  pub fits : AllFit deck words s ms

-- what a system knows of removed ones says nothing of its tasks
pub system-known :
    (deck : Deck) (words : List ℕ) (T : List RunItem) (s : ℕ) (n : NodeState) (ms : List Mail) (later : List RunItem)
    (out : List Req) (known : ℕ)
    → IsSystem deck words T s n ms later out → IsSystem deck words T s (record n { known = known }) ms later out
system-known deck words T s n ms later out known h = record {
  at = seen-known deck s T [] later out (ghosted n) known h.at;
  late = h.late;
  sent = h.sent;
  near = h.near;
  coming = h.coming;
  answered = h.answered;
  fits = h.fits;
}

-- ---- the words change, or another system's item is fixed
-- what the words say of a system stays, as far as it matters to it
pub record Keeps (words words' : List ℕ) (s : ℕ) : Type 0 where
  pub away : (x : ℕ) → Away words s x → Away words' s x
  pub near : (x : ℕ) → is_interested words x s ≡ true → is_interested words' x s ≡ true

late-keeps : (deck : Deck) (words words' : List ℕ) (s : ℕ) (xs : List RunItem) → Keeps words words' s
    → AllLate deck words s xs → AllLate deck words' s xs
late-keeps deck words words' s [] k h = tt
late-keeps deck words words' s (x ∷ xs) k h = (
  record {
    req = h.0.req;
    asked = h.0.asked;
    home = h.0.home;
    lists = h.0.lists;
    apart = h.0.apart;
    made = h.0.made;
    entry = h.0.entry;
    at = h.0.at;
    away = k.away h.0.entry h.0.away;
  },
  late-keeps deck words words' s xs k h.1,
)

fit-keeps : (deck : Deck) (words words' : List ℕ) (s : ℕ) (ms : List Mail) → Keeps words words' s
    → AllFit deck words s ms → AllFit deck words' s ms
fit-keeps deck words words' s [] k h = tt
fit-keeps deck words words' s (Request e from q ∷ ms) k h = (tt, fit-keeps deck words words' s ms k h.1)
fit-keeps deck words words' s (Answered t answer rank ∷ ms) k h = (tt, fit-keeps deck words words' s ms k h.1)
fit-keeps deck words words' s (Granted t r ∷ ms) k h = (
  record { home = h.0.home; entry = h.0.entry; at = h.0.at; away = k.away h.0.entry h.0.away },
  fit-keeps deck words words' s ms k h.1,
)
fit-keeps deck words words' s (Notice target moved ∷ ms) k h = absurd h.0
fit-keeps deck words words' s (Part e from records ∷ ms) k h = absurd h.0

near-keeps : (deck : Deck) (words words' : List ℕ) (s : ℕ) (qs : List Req) → Keeps words words' s
    → list_all (is_near deck words s) qs ≡ true → list_all (is_near deck words' s) qs ≡ true
near-keeps deck words words' s [] k h = refl
near-keeps deck words words' s (q ∷ qs) k h =
    let both = and_parts (is_near deck words s q) (list_all (is_near deck words s) qs) h in
    and_from (is_near deck words' s q) (list_all (is_near deck words' s) qs)
    (go (entry_wanted deck.entries q.want) both.0) (near-keeps deck words words' s qs k both.1)
  where
    go : (o : Option ℕ) → near_at words s o ≡ true → near_at words' s o ≡ true
    go None e = refl
    go (Some x) e = k.near x e

pub system-words :
    (deck : Deck) (words words' : List ℕ) (T : List RunItem) (s : ℕ) (n : NodeState) (ms : List Mail)
    (later : List RunItem) (out : List Req)
    → Keeps words words' s → IsSystem deck words T s n ms later out → IsSystem deck words' T s n ms later out
system-words deck words words' T s n ms later out k h = record {
  at = h.at;
  late = late-keeps deck words words' s later k h.late;
  sent = h.sent;
  near = near-keeps deck words words' s out k h.near;
  coming = h.coming;
  answered = h.answered;
  fits = fit-keeps deck words words' s ms k h.fits;
}

-- whether a task is behind goes with what is to come
pub late-none : (t : TaskId) (xs : List RunItem) → mine t xs ≡ [] → is_late t xs ≡ false
late-none t [] h = refl
late-none t (x ∷ xs) h = go (is_of t x.fixed) h (late-none t xs)
  where
    go : (b : Bool) → cond b (x ∷ mine t xs) (mine t xs) ≡ [] → (mine t xs ≡ [] → is_late t xs ≡ false)
        → (b || is_late t xs) ≡ false
    go true e more = absurd (cc)
    go false e more = more e

pub late-one : (t : TaskId) (y : RunItem) (ys xs : List RunItem) → mine t xs ≡ y ∷ ys → is_late t xs ≡ true
late-one t y ys [] h = absurd (cc)
late-one t y ys (x ∷ xs) h = go (is_of t x.fixed) h (late-one t y ys xs)
  where
    go : (b : Bool) → cond b (x ∷ mine t xs) (mine t xs) ≡ y ∷ ys → (mine t xs ≡ y ∷ ys → is_late t xs ≡ true)
        → (b || is_late t xs) ≡ true
    go true e more = refl
    go false e more = more e

module _ (deck : Deck) (s : ℕ) (T later : List RunItem) (out : List Req) (n : NodeState) (k : IsAt deck s T later out n)
    (t : TaskId) (home : is_home_at deck s t ≡ true) where
  pub ours : (ls : List Meaning) × IsOurs deck s n.tasks t ls
  ours = home-task deck s (opens_of later out (ghosted n)) T n.tasks t k.good home

  abbrev pub here :
      IsHere deck (opens_of later out (ghosted n)) T n.tasks.told t
      (home-task deck s (opens_of later out (ghosted n)) T n.tasks t k.good home).0 (state_of n.tasks t)
  here =
      k.good.tasks.each t (home-task deck s (opens_of later out (ghosted n)) T n.tasks t k.good home).0
      (home-task deck s (opens_of later out (ghosted n)) T n.tasks t k.good home).1

  pub behind-late : here.known.behind ≡ is_late t later
  behind-late = go (outstanding t here.known T) refl
    where
      go : (o : Option RunItem) → outstanding t here.known T ≡ o → here.known.behind ≡ is_late t later
      go None e =
          false_by here.known.behind
          (λ b. absurd (let f : false ≡ true = ap is_some (sym e) ∙ here.knows.right.waits b in cc))
          ∙ sym (late-none t later (here.due ∙ ap one e))
      go (Some x) e = by_behind here.known.behind refl ∙ sym (late-one t x [] later (here.due ∙ ap one e))
        where
          by_behind : (b : Bool) → here.known.behind ≡ b → here.known.behind ≡ true
          by_behind true f = f
          by_behind false f =
              absurd (let g : None ≡ Some x = sym (ap (λ b. cond b (last_of (mine t T)) None) f) ∙ e in cc)

  pub right-late : IsRight t (blank (is_late t later)) T
  right-late = subst (λ b. IsRight t (blank b) T) behind-late (right-blank t here.known T here.knows.right)

-- another system's item is fixed
pub system-other :
    (deck : Deck) (words : List ℕ) (T : List RunItem) (s : ℕ) (n : NodeState) (ms : List Mail) (later : List RunItem)
    (out : List Req) (x : RunItem)
    → IsOthers deck s T x → IsSystem deck words T s n ms later out → IsSystem deck words (T ++ x ∷ []) s n ms later out
system-other deck words T s n ms later out x others h = record {
  at = at-other deck s T later out n x others h.at;
  late = h.late;
  sent = h.sent;
  near = h.near;
  coming = λ t home.
      coming-other t (is_late t later) T x (news_of ms) (others.apart t (home-is t home)) (others.stays t)
      (right-late deck s T later out n h.at t home) (h.coming t home);
  answered = h.answered;
  fits = h.fits;
}
  where
    home-is : (t : TaskId) → is_home_at deck s t ≡ true → t.system.0 ≡ s
    home-is t home = eqb-true t.system.0 s (and_parts (t.system.0 == s) _ home).0

-- what gives nothing up gives no resource up
pub gives-none : (r : Res) (f : Fixed) → gives f ≡ false → gives_back r f ≡ false
gives-none r (fixing.LocalLook t f) h = refl
gives-none r (fixing.Purged target) h = refl
gives-none r (fixing.Asked q) h = go q.want h
  where
    go : (w : Want) → gives_want w ≡ false → gives_up r w ≡ false
    go (Enq p c ret full) e = refl
    go (Deq p have) e = absurd (cc)
    go (Release p) e = absurd (cc)
    go (Look first count f) e = refl

pub any-answer : (t : TaskId) (ms : List Mail) → list_any (is_plain_answer t) ms ≡ true
    → list_any (is_answer_to t) (news_of ms) ≡ true
any-answer t [] h = absurd (cc)
any-answer t (Request e from q ∷ ms) h = any-answer t ms h
any-answer t (Granted u r ∷ ms) h = any-answer t ms h
any-answer t (Notice target moved ∷ ms) h = any-answer t ms h
any-answer t (Part e from records ∷ ms) h = any-answer t ms h
any-answer t (Answered u answer rank ∷ ms) h = go (same_task t u) (rank == 0) h (any-answer t ms)
  where
    go : (b c : Bool) → ((b && c) || list_any (is_plain_answer t) ms) ≡ true
        → (list_any (is_plain_answer t) ms ≡ true → list_any (is_answer_to t) (news_of ms) ≡ true)
        → (b || list_any (is_answer_to t) (news_of ms)) ≡ true
    go true c e more = refl
    go false c e more = more e

-- ---- a mail comes last
-- what is said of one task alone
coming-append : (t : TaskId) (T : List RunItem) (z : News) → ((k : Known) → Coming t k T (z ∷ []))
    → (k : Known) (ns : List News) → Coming t k T ns → Coming t k T (ns ++ z ∷ [])
coming-append t T z more k [] h = more k
coming-append t T z more k (Answers u a ∷ ns) h = (
  λ same. let y = h.0 same in (y.0, y.1, y.2, coming-append t T z more (learns_item k y.0) ns y.3),
  λ apart. coming-append t T z more k ns (h.1 apart),
)
coming-append t T z more k (Grants u r ∷ ns) h = (
  λ same. let y = h.0 same in (y.0, coming-append t T z more (learns_control k r) ns y.1),
  λ apart. coming-append t T z more k ns (h.1 apart),
)
coming-append t T z more k (Wants q ∷ ns) h = coming-append t T z more k ns h
coming-append t T z more k (Silent ∷ ns) h = coming-append t T z more k ns h

fit-append : (deck : Deck) (words : List ℕ) (s : ℕ) (ms : List Mail) (m : Mail) → MailFits deck words s m
    → AllFit deck words s ms → AllFit deck words s (ms ++ m ∷ [])
fit-append deck words s [] m h k = (h, tt)
fit-append deck words s (x ∷ ms) m h k = (k.0, fit-append deck words s ms m h k.1)

late-append : (deck : Deck) (words : List ℕ) (s : ℕ) (xs : List RunItem) (x : RunItem) → IsLate deck words s x
    → AllLate deck words s xs → AllLate deck words s (xs ++ x ∷ [])
late-append deck words s [] x h k = (h, tt)
late-append deck words s (y ∷ xs) x h k = (k.0, late-append deck words s xs x h k.1)

module _ (deck : Deck) (words : List ℕ) (T : List RunItem) (s : ℕ) (n : NodeState) (ms : List Mail)
    (later : List RunItem) (out : List Req) (h : IsSystem deck words T s n ms later out) where
  news-push : (m : Mail) → news_of (ms ++ m ∷ []) ≡ news_of ms ++ news1 m ∷ []
  news-push m = map-append news1 ms (m ∷ [])

  -- a request for the system as a manager
  pub system-requested : (e : ℕ) (from : SysId) (q : Req)
      → IsSystem deck words T s n (ms ++ Request e from q ∷ []) later out
  system-requested e from q = record {
    at = h.at;
    late = h.late;
    sent = h.sent;
    near = h.near;
    coming = λ t home.
        subst (Coming t (blank (is_late t later)) T) (sym (news-push (Request e from q)))
        (coming-append t T (Wants q) (λ k. tt) (blank (is_late t later)) (news_of ms) (h.coming t home));
    answered = λ t x home due gave. any-more (is_plain_answer t) ms (Request e from q) (h.answered t x home due gave);
    fits = fit-append deck words s ms (Request e from q) tt h.fits;
  }

  -- control for one of its tasks, which owns
  pub system-granted : (right : IsHistory deck T) (t : TaskId) (r : Res) → is_home_at deck s t ≡ true
      → owns (list_of (lists T) r) t ≡ true → IsAway deck words s t r
      → IsSystem deck words T s n (ms ++ Granted t r ∷ []) later out
  system-granted right t r home owned away = record {
    at = h.at;
    late = h.late;
    sent = h.sent;
    near = h.near;
    coming = λ u mine_u.
        subst (Coming u (blank (is_late u later)) T) (sym (news-push (Granted t r)))
        (by_task u mine_u (same_task u t) refl);
    answered = λ u x home_u due gave. any-more (is_plain_answer u) ms (Granted t r) (h.answered u x home_u due gave);
    fits = fit-append deck words s ms (Granted t r) away h.fits;
  }
    where
      -- an answer that is lost gives nothing up
      stays : (x : RunItem) → outstanding t (blank (is_late t later)) T ≡ Some x
          → list_any (is_answer_to t) (news_of ms) ≡ false → gives_back r x.fixed ≡ false
      stays x is none =
          gives-none r x.fixed (false_by (gives x.fixed) (λ gave.
          no_truth (list_any (is_answer_to t) (news_of ms)) (any-answer t ms (h.answered t x home due gave)) none))
        where
          due : mine t later ≡ x ∷ []
          due =
              (here deck s T later out n h.at t home).due
              ∙ ap one (ap (λ b. cond b (last_of (mine t T)) None) (behind-late deck s T later out n h.at t home) ∙ is)

      by_task : (u : TaskId) → is_home_at deck s u ≡ true → (b : Bool) → same_task u t ≡ b
          → Coming u (blank (is_late u later)) T (news_of ms ++ Grants t r ∷ [])
      by_task u mine_u false apart =
          coming-append u T (Grants t r) (λ k. (λ same. no_truth (same_task u t) same apart, λ f. tt))
          (blank (is_late u later)) (news_of ms) (h.coming u mine_u)
      by_task u mine_u true same =
          subst (λ z. Coming z (blank (is_late z later)) T (news_of ms ++ Grants t r ∷ []))
          (sym (same_task-exact u t same))
          (coming-granted t (is_late t later) T (news_of ms) r owned stays (h.coming t home))

  -- the answer to a request of one of its tasks, which another system settles
  module _ (right : IsHistory deck T) (front : List Req) (q : Req) (rest : List Req) (among : out ≡ front ++ q ∷ rest)
      (idle : mine q.task later ≡ []) (home : is_home_at deck s q.task ≡ true) (c : SysId) (entry : ℕ)
      (is : entry_wanted deck.entries q.want ≡ Some entry) (away : Away words s entry) where
    abbrev item : RunItem
    item = made_item c T (fixing.Asked q)

    settled : Settled deck s T later out n q c
    settled = asker-settled deck s T later right out n h.at front q rest among idle c

    late_now : (t : TaskId) → is_late t (later ++ item ∷ []) ≡ (is_late t later || same_task t q.task)
    late_now t = list_any-push (λ x. is_of t x.fixed) later item

    mine_now : (t : TaskId) → same_task t q.task ≡ false → mine t (later ++ item ∷ []) ≡ mine t later
    mine_now t apart =
        filter-append (λ x. is_of t x.fixed) later (item ∷ [])
        ∙ (ap (λ xs. mine t later ++ xs) (filter-cons_left (λ x. is_of t x.fixed) item [] apart)
        ∙ append-nil (mine t later))

    in_out : (t : TaskId) → same_task t q.task ≡ true → (qs : List Req) → is_among t (askers (qs ++ q ∷ rest)) ≡ true
    in_out t same [] = ap (λ b. b || is_among t (askers rest)) same
    in_out t same (z ∷ qs) = or_right (same_task t z.task) (is_among t (askers (qs ++ q ∷ rest))) (in_out t same qs)

    pub system-settled : (rank : ℕ) → (gives_want q.want ≡ true → rank ≡ 0)
        → IsSystem deck words (T ++ item ∷ []) s n (ms ++ Answered q.task (answer_to (lists T) q.task q.want) rank ∷ [])
        (later ++ item ∷ []) out
    system-settled rank plain = record {
      at = settled.at;
      late =
          late-append deck words s later item (record {
            req = q;
            asked = refl;
            home = home;
            lists = lists T;
            apart = apart-lists T;
            made = refl;
            entry = entry;
            at = is;
            away = away;
          })
          h.late;
      sent = λ t none. by_sent t none (same_task t q.task) refl;
      near = h.near;
      coming = λ t mine_t.
          subst (Coming t (blank (is_late t (later ++ item ∷ []))) (T ++ item ∷ [])) (sym (news-push answer))
          (by_coming t mine_t (same_task t q.task) refl);
      answered = λ t x home_t due gave. by_answered t x home_t due gave (same_task t q.task) refl;
      fits = fit-append deck words s ms answer tt h.fits;
    }
      where
        answer : Mail
        answer = Answered q.task (answer_to (lists T) q.task q.want) rank

        by_sent : (t : TaskId) → is_among t (askers out) ≡ false → (b : Bool) → same_task t q.task ≡ b
            → mine t (later ++ item ∷ []) ≡ []
        by_sent t none true same =
            no_truth (is_among t (askers out)) (ap (λ qs. is_among t (askers qs)) among ∙ in_out t same front) none
        by_sent t none false apart = mine_now t apart ∙ h.sent t none

        by_coming : (t : TaskId) → is_home_at deck s t ≡ true → (b : Bool) → same_task t q.task ≡ b
            → Coming t (blank (is_late t (later ++ item ∷ []))) (T ++ item ∷ [])
            (news_of ms ++ Answers q.task (answer_to (lists T) q.task q.want) ∷ [])
        by_coming t mine_t false apart =
            let same_late : is_late t later ≡ is_late t (later ++ item ∷ []) =
            sym (late_now t ∙ (ap (λ b. is_late t later || b) apart ∙ or_off (is_late t later) false refl)) in
            subst (λ b.
            Coming t (blank b) (T ++ item ∷ []) (news_of ms ++ Answers q.task (answer_to (lists T) q.task q.want) ∷ []))
            same_late
            (coming-append t (T ++ item ∷ []) (Answers q.task (answer_to (lists T) q.task q.want))
            (λ k. (λ same. no_truth (same_task t q.task) same apart, λ f. tt)) (blank (is_late t later)) (news_of ms)
            (coming-other t (is_late t later) T item (news_of ms) apart refl
            (right-late deck s T later out n h.at t mine_t) (h.coming t mine_t)))
        by_coming t mine_t true same =
            let e : t ≡ q.task = same_task-exact t q.task same in
            let none : is_late t later ≡ false = ap (λ z. is_late z later) e ∙ late-none q.task later idle in
            let now : is_late t (later ++ item ∷ []) ≡ true =
            late_now t ∙ or_right (is_late t later) (same_task t q.task) same in
            subst (λ b.
            Coming t (blank b) (T ++ item ∷ []) (news_of ms ++ Answers q.task (answer_to (lists T) q.task q.want) ∷ []))
            (sym now)
            (subst (λ a. Coming t (blank true) (T ++ item ∷ []) (news_of ms ++ Answers q.task a ∷ []))
            (replies_are_answers (lists T) q.task q.want)
            (subst (λ z. Coming t (blank true) (T ++ item ∷ []) (news_of ms ++ Answers z (reply_in item.entries) ∷ []))
            e
            (coming-sent t T item (news_of ms) same refl
            (subst (λ b. IsRight t (blank b) T) none (right-late deck s T later out n h.at t mine_t))
            (subst (λ b. Coming t (blank b) T (news_of ms)) none (h.coming t mine_t)))))

        by_answered : (t : TaskId) (x : RunItem) → is_home_at deck s t ≡ true → mine t (later ++ item ∷ []) ≡ x ∷ []
            → gives x.fixed ≡ true → (b : Bool) → same_task t q.task ≡ b
            → list_any (is_plain_answer t) (ms ++ answer ∷ []) ≡ true
        by_answered t x home_t due gave false apart =
            any-more (is_plain_answer t) ms answer (h.answered t x home_t (sym (mine_now t apart) ∙ due) gave)
        by_answered t x home_t due gave true same =
            let e : t ≡ q.task = same_task-exact t q.task same in
            let only : item ∷ [] ≡ x ∷ [] =
            sym (filter-append (λ y. is_of t y.fixed) later (item ∷ [])
            ∙ (ap (λ xs. xs ++ mine t (item ∷ [])) (ap (λ z. mine z later) e ∙ idle)
            ∙ filter-cons_kept (λ y. is_of t y.fixed) item [] same))
            ∙ due in
            let is_item : item ≡ x = cc in
            any-last (is_plain_answer t) ms answer (and_from (same_task t q.task) (rank == 0) same
            (eq-eqb rank 0 (plain (ap (λ (y : RunItem). gives y.fixed) is_item ∙ gave))))
