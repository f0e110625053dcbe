-- A system in star mode takes the first mail of its inbox.
use Rattle.grs_world.proofs.Common.{[], ◌&&◌, ◌++◌, ◌<◌, ◌==◌, ◌||◌, ◌∙◌, ◌∷◌, ◌≡◌, ◌≢◌, after_mail, and_from}
use Rattle.grs_world.proofs.Common.{and_parts, Answer, Answered, ap, append_assoc, arith, askers, awake, Bool, by_test}
use Rattle.grs_world.proofs.Common.{cond, Deck, entry_for, eqb-true, false, false_by, filter, fixing_none, Granted}
use Rattle.grs_world.proofs.Common.{history, inbox, inl, inr, is_among, is_entry, is_for_deck, is_of_deck, items}
use Rattle.grs_world.proofs.Common.{length, List, Mail, manages, MediumState, mine, names_of_deck, no_truth, NodeState}
use Rattle.grs_world.proofs.Common.{none, not, not-true, Notice, or_parts, Part, placed, put_at, put_here, put_other}
use Rattle.grs_world.proofs.Common.{refl, Req, Res, RunItem, same_Some, same_task, same_task-exact, Some, stand_apart}
use Rattle.grs_world.proofs.Common.{StarPart, StarStep, subst, sym, SysId, task_swap, TaskId, TasksView, tell_control}
use Rattle.grs_world.proofs.Common.{told-news, ToldNews, true, Turnout, with_star, without_first, World, ℕ}
use Rattle.grs_wire.specs.declared.medium.Mail.TheVariants.{Request}
use Rattle.std.specs.Prelude.{drop}
use Rattle.grs_world.proofs.star.Plain.{take_mail, took_mail}
use Rattle.grs_world.proofs.star.Answering.{others_of, without_asker, mine-others}
use Rattle.grs_world.proofs.star.Mailed.{TookAnswer, learns, leaves, took-request, took-control, took-answer, not_here}
use Rattle.grs_world.proofs.star.Mailed.{strange-answer, strange-control}
use Rattle.grs_world.proofs.star.Heard.{StaysHeard}
use Rattle.grs_world.proofs.star.Members.{IsPart, all_lists}
use Rattle.grs_world.proofs.star.hearing.Taken.{heard-answered, heard-control, heard-dropped, heard-held, heard-missed}
use Rattle.grs_world.proofs.star.hearing.Taken.{heard-strange}
use Rattle.grs_world.proofs.star.ranks.Ranked.{StaysRanked}
use Rattle.grs_world.proofs.star.ranks.Takes.{ranked-answered, ranked-granted, ranked-missed, ranked-request}
use Rattle.grs_world.proofs.star.ranks.Takes.{ranked-strange}
use Rattle.grs_world.proofs.star.OwnEvents.{Goes}
use Rattle.grs_world.proofs.star.Systems.{IsSystem, is_late, late-none, requests_in}
use Rattle.grs_world.proofs.star.Worlds.{IsIn, IsHand, AllHands, Hands, IsWhole, are_live, in_hands, items-none}
use Rattle.grs_world.proofs.star.Worlds.{whole-placed, none_fixed}
use Rattle.grs_world.proofs.star.steps.Outcome.{Comes, part}
use Rattle.grs_world.proofs.run.Desks.{tells_tasks}
use Rattle.grs_world.proofs.at_rest.StarTasks.{Keeps, dated-by, keeps-control, keeps-mail, keeps-none}
use Rattle.grs_world.proofs.at_rest.Steps.{AllDate}
use Rattle.grs_world.proofs.run.Site.{Site, site-below}
use Rattle.grs_world.proofs.star.Boxes.{taken-box, untaken-box}

-- ---- a request of a task that isn't answered stays in whose hands it is
in-filter : (f : Req → Bool) (q : Req) (qs : List Req) → f q ≡ true → IsIn q qs → IsIn q (filter f qs)
in-filter f q [] kept h = h
in-filter f q (x ∷ qs) kept (inl e) =
    subst (λ b. IsIn q (cond b (x ∷ filter f qs) (filter f qs))) (sym (ap f (sym e) ∙ kept)) (inl e)
in-filter f q (x ∷ qs) kept (inr h) = go (f x) (in-filter f q qs kept h)
  where
    go : (b : Bool) → IsIn q (filter f qs) → IsIn q (cond b (x ∷ filter f qs) (filter f qs))
    go true k = inr k
    go false k = k

module _ (deck : Deck) (words : List ℕ) (live : ℕ → Bool) (later : ℕ → List RunItem) (out : ℕ → List Req) (c : ℕ)
    (t : TaskId) (late : is_late t (later c) ≡ true) where
  abbrev later' : ℕ → List RunItem
  later' = put_at later c (others_of t (later c))

  abbrev out' : ℕ → List Req
  out' = put_at out c (without_asker t (out c))

  hand-stays : (m : ℕ) (q : Req) → IsHand deck words live later out m q → IsHand deck words live later' out' m q
  hand-stays m q h = record {
    apart = h.apart;
    below = h.below;
    among = among (q.task.system.0 == c) refl;
    idle = idle (q.task.system.0 == c) refl;
    entry = h.entry;
    at = h.at;
    managed = h.managed;
  }
    where
      -- it is of another task
      other : q.task.system.0 ≡ c → same_task t q.task ≡ false
      other home =
          false_by (same_task t q.task) (λ e.
          no_truth (is_late t (later c)) late (late-none t (later c)
          (ap (λ z. mine z (later c)) (same_task-exact t q.task e)
          ∙ (ap (λ u. mine q.task (later u)) (sym home) ∙ h.idle))))

      among : (b : Bool) → (q.task.system.0 == c) ≡ b → IsIn q (cond b (without_asker t (out c)) (out q.task.system.0))
      among false e = h.among
      among true e =
          let home : q.task.system.0 ≡ c = eqb-true q.task.system.0 c e in
          in-filter (λ z. not (same_task t z.task)) q (out c) (ap not (other home))
          (subst (λ u. IsIn q (out u)) home h.among)

      idle : (b : Bool) → (q.task.system.0 == c) ≡ b
          → mine q.task (cond b (others_of t (later c)) (later q.task.system.0)) ≡ []
      idle false e = h.idle
      idle true e =
          let home : q.task.system.0 ≡ c = eqb-true q.task.system.0 c e in
          mine-others t q.task (later c) (task_swap t q.task (other home))
          ∙ (ap (λ u. mine q.task (later u)) (sym home) ∙ h.idle)

  hands-stay : (m : ℕ) (qs : List Req) → AllHands deck words live later out m qs
      → AllHands deck words live later' out' m qs
  hands-stay m [] h = tt
  hands-stay m (q ∷ qs) h = (hand-stays m q h.0, hands-stay m qs h.1)

-- ---- one request fewer in a system's hands
all-fewer :
    (deck : Deck) (words : List ℕ) (live : ℕ → Bool) (later : ℕ → List RunItem) (out : ℕ → List Req) (m : ℕ)
    (xs : List Req) (q : Req) (ys : List Req)
    → AllHands deck words live later out m (xs ++ q ∷ ys) → AllHands deck words live later out m (xs ++ ys)
all-fewer deck words count later out m [] q ys h = h.1
all-fewer deck words count later out m (x ∷ xs) q ys h = (h.0, all-fewer deck words count later out m xs q ys h.1)

among-fewer : (t : TaskId) (xs : List Req) (q : Req) (ys : List Req) → is_among t (askers (xs ++ q ∷ ys)) ≡ false
    → is_among t (askers (xs ++ ys)) ≡ false
among-fewer t [] q ys h = (or_parts (same_task t q.task) (is_among t (askers ys)) h).1
among-fewer t (x ∷ xs) q ys h =
    let both = or_parts (same_task t x.task) (is_among t (askers (xs ++ q ∷ ys))) h in
    ap (λ b. b || is_among t (askers (xs ++ ys))) both.0 ∙ among-fewer t xs q ys both.1

apart-fewer : (xs : List Req) (q : Req) (ys : List Req) → stand_apart (askers (xs ++ q ∷ ys)) ≡ true
    → stand_apart (askers (xs ++ ys)) ≡ true
apart-fewer [] q ys h = (and_parts (not (is_among q.task (askers ys))) (stand_apart (askers ys)) h).1
apart-fewer (x ∷ xs) q ys h =
    let both = and_parts (not (is_among x.task (askers (xs ++ q ∷ ys)))) (stand_apart (askers (xs ++ q ∷ ys))) h in
    and_from (not (is_among x.task (askers (xs ++ ys)))) (stand_apart (askers (xs ++ ys)))
    (ap not (among-fewer x.task xs q ys (not-true (is_among x.task (askers (xs ++ q ∷ ys))) both.0)))
    (apart-fewer xs q ys both.1)

-- ---- the first mail of the inbox is taken
module _ (deck : Deck) (w : World) (g : IsWhole deck w) (c : SysId) (n : NodeState) (at : Site w c.0 n) (mail : Mail)
    (rest : List Mail) (is : inbox w.medium c.0 ≡ mail ∷ rest) where
  abbrev T : List RunItem
  T = items w.fixed

  abbrev took : MediumState
  took = record w.medium { inboxes = without_first w.medium.inboxes c.0; rest = awake w.medium c }

  -- what the event comes to, where the system has these tasks and this part afterwards
  abbrev to : TasksView → StarPart → Turnout
  to v q = record { medium = took; step = record { node = record n { tasks = v; star = Some q }; fixed = [] } }

  here_box : c.0 < length w.medium.inboxes
  here_box = let k = site-below w c.0 n at in omega (arith, k, g.roles.systems, g.roles.inboxes)

  own_box : inbox took c.0 ≡ rest
  own_box = taken-box w.medium.inboxes c.0 here_box ∙ ap (drop 1) is

  other_box : (s : ℕ) → s ≢ c.0 → inbox took s ≡ inbox w.medium s
  other_box s ne = untaken-box w.medium.inboxes c.0 s ne

  -- these are open afterwards, at other systems the same
  took-mail : (later : ℕ → List RunItem) (out : ℕ → List Req) → ((s : ℕ) → s ≢ c.0 → later s ≡ g.later s)
      → ((s : ℕ) → s ≢ c.0 → out s ≡ g.out s) →
      ((m : ℕ) (qs : List Req) → AllHands deck w.medium.words (are_live w) g.later g.out m qs
      → AllHands deck w.medium.words (are_live w) later out m qs)
      → (v : TasksView) (q : StarPart) →
      Goes deck w.medium.words T c.0 (record n { tasks = v; star = Some q }) rest (later c.0) (out c.0) n.tasks.told
      → Hands deck w.medium.words (are_live w) g.later g.out c.0 (in_hands q rest) →
      (IsWhole deck (placed w c n (to v q)) → StaysHeard deck w c n (to v q))
      → (IsWhole deck (placed w c n (to v q)) → StaysRanked deck w c n (to v q))
      → (AllDate false deck n.tasks → Keeps deck n.tasks v) → Comes deck w g c n (to v q)
  took-mail later out same_later same_out stay v q goes own heard ranked keeps step = record {
    stays =
        whole-placed deck w g c n at (to v q) step T (items-none w.fixed c) later out same_out none_fixed g.right
        g.near
        (subst (λ ms.
        IsSystem deck w.medium.words T c.0 (record n { tasks = v; star = Some q }) ms (later c.0) (out c.0))
        (sym own_box) goes.system)
        (λ s k ne found.
        subst (λ ms. IsSystem deck w.medium.words T s k ms (later s) (out s)) (sym (other_box s ne))
        (subst (λ xs. IsSystem deck w.medium.words T s k (inbox w.medium s) xs (out s)) (sym (same_later s ne))
        (subst (λ qs. IsSystem deck w.medium.words T s k (inbox w.medium s) (g.later s) qs) (sym (same_out s ne))
        (g.system s k found))))
        (λ p found.
        subst (λ z. Hands deck w.medium.words (are_live w) later out c.0 (in_hands z (inbox took c.0)))
        (same_Some q p found)
        (subst (λ ms. Hands deck w.medium.words (are_live w) later out c.0 (in_hands q ms)) (sym own_box)
        (kept c.0 (in_hands q rest) own)))
        (λ m k p ne found star.
        subst (λ ms. Hands deck w.medium.words (are_live w) later out m (in_hands p ms)) (sym (other_box m ne))
        (kept m (in_hands p (inbox w.medium m)) (g.hands m k p found star)));
    news =
        tells_tasks (subst (λ U. ToldNews deck c.0 (history U) n.tasks.told v.told) (sym (items-none w.fixed c))
        (told-news goes.told))
        refl refl;
    heard = heard;
    ranked = ranked;
    dated = λ h. dated-by deck c.0 n (record n { tasks = v; star = Some q }) refl h (keeps h.date);
  }
    where
      kept : (m : ℕ) (qs : List Req) → Hands deck w.medium.words (are_live w) g.later g.out m qs
          → Hands deck w.medium.words (are_live w) later out m qs
      kept m qs h = record { each = stay m qs h.each; apart = h.apart }

  -- the same is open afterwards
  took-same : (v : TasksView) (q : StarPart)
      → Goes deck w.medium.words T c.0 (record n { tasks = v; star = Some q }) rest (g.later c.0) (g.out c.0)
      n.tasks.told
      →
      Hands deck w.medium.words (are_live w) g.later g.out c.0 (in_hands q rest)
      → (IsWhole deck (placed w c n (to v q)) → StaysHeard deck w c n (to v q))
      → (IsWhole deck (placed w c n (to v q)) → StaysRanked deck w c n (to v q))
      → (AllDate false deck n.tasks → Keeps deck n.tasks v) → Comes deck w g c n (to v q)
  took-same v q goes own heard ranked keeps step =
      took-mail g.later g.out (λ s ne. refl) (λ s ne. refl) (λ m qs h. h) v q goes own heard ranked keeps step

  -- the answer to a task's request was learned
  took-learned : (t : TaskId) (v : TasksView) (q : StarPart) → is_late t (g.later c.0) ≡ true →
      Goes deck w.medium.words T c.0 (record n { tasks = v; star = Some q }) rest (others_of t (g.later c.0))
      (without_asker t (g.out c.0)) n.tasks.told
      →
      Hands deck w.medium.words (are_live w) g.later g.out c.0 (in_hands q rest)
      → (IsWhole deck (placed w c n (to v q)) → StaysHeard deck w c n (to v q))
      → (IsWhole deck (placed w c n (to v q)) → StaysRanked deck w c n (to v q))
      → (AllDate false deck n.tasks → Keeps deck n.tasks v) → Comes deck w g c n (to v q)
  took-learned t v q late goes own heard ranked keeps step =
      let xs = others_of t (g.later c.0) in
      let qs = without_asker t (g.out c.0) in
      took-mail (put_at g.later c.0 xs) (put_at g.out c.0 qs) (put_other g.later c.0 xs) (put_other g.out c.0 qs)
      (hands-stay deck w.medium.words (are_live w) g.later g.out c.0 t late) v q
      (subst (λ ys.
      Goes deck w.medium.words T c.0 (record n { tasks = v; star = Some q }) rest ys (put_at g.out c.0 qs c.0)
      n.tasks.told)
      (sym (put_here g.later c.0 xs))
      (subst (λ rs. Goes deck w.medium.words T c.0 (record n { tasks = v; star = Some q }) rest xs rs n.tasks.told)
      (sym (put_here g.out c.0 qs)) goes))
      own heard ranked keeps step

-- ---- by the mail
module _ (deck : Deck) (w : World) (g : IsWhole deck w) (c : SysId) (n : NodeState) (at : Site w c.0 n) (p : StarPart)
    (star : n.star ≡ Some p) (rest : List Mail) where
  abbrev words : List ℕ
  words = w.medium.words

  abbrev live : ℕ → Bool
  live = are_live w

  fits : IsPart deck w.medium.words (all_lists w) c.0 p
  fits =
      subst (IsPart deck w.medium.words (all_lists w) c.0)
      (same_Some (g.roles.node c.0 n at).part p (sym (g.roles.node c.0 n at).star ∙ star))
      (g.roles.node c.0 n at).fits

  hands_now : (mail : Mail) → inbox w.medium c.0 ≡ mail ∷ rest
      → Hands deck w.medium.words live g.later g.out c.0 (in_hands p (mail ∷ rest))
  hands_now mail is =
      subst (λ ms. Hands deck words live g.later g.out c.0 (in_hands p ms)) is (g.hands c.0 n p at star)

  system_now : (mail : Mail) → inbox w.medium c.0 ≡ mail ∷ rest
      → IsSystem deck w.medium.words (items w.fixed) c.0 n (mail ∷ rest) (g.later c.0) (g.out c.0)
  system_now mail is =
      subst (λ ms. IsSystem deck words (items w.fixed) c.0 n ms (g.later c.0) (g.out c.0)) is (g.system c.0 n at)

  -- a request isn't in the inbox any more
  no_request : (e : ℕ) (from : SysId) (q : Req) (is : inbox w.medium c.0 ≡ Request e from q ∷ rest) (k : StarPart)
      → Goes deck w.medium.words (items w.fixed) c.0 (record n { tasks = n.tasks; star = Some k }) rest (g.later c.0)
      (g.out c.0) n.tasks.told
  no_request e from q is k = record {
    system =
        took-request deck words (items w.fixed) c.0 n e from q rest (g.later c.0) (g.out c.0) (Some k)
        (system_now (Request e from q) is);
    told = none;
  }

  -- it is held last: the same requests are in the system's hands, in the same order
  holds_request : (e : ℕ) (from : SysId) (q : Req) (is : inbox w.medium c.0 ≡ Request e from q ∷ rest)
      → Comes deck w g c n
      (to deck w g c n at (Request e from q) rest is n.tasks (record p { held = p.held ++ q ∷ [] }))
  holds_request e from q is =
      took-same deck w g c n at (Request e from q) rest is n.tasks (record p { held = p.held ++ q ∷ [] })
      (no_request e from q is (record p { held = p.held ++ q ∷ [] }))
      (subst (Hands deck words live g.later g.out c.0) (sym (append_assoc p.held (q ∷ []) (requests_in rest)))
      (hands_now (Request e from q) is))
      (heard-held deck w g c n at p star fits rest (awake w.medium c) e from q is)
      (ranked-request deck w g c n at p star (awake w.medium c) e from q rest is
      (record p { held = p.held ++ q ∷ [] }) refl)
      (λ h. keeps-none deck n.tasks h)

  -- it has no effect
  drops_request : (e : ℕ) (from : SysId) (q : Req) (is : inbox w.medium c.0 ≡ Request e from q ∷ rest)
      → (is_for_deck deck (Request e from q) ≡ true → (is_entry e (entry_for p q.want) && manages p e) ≡ false)
      → Comes deck w g c n (to deck w g c n at (Request e from q) rest is n.tasks p)
  drops_request e from q is never =
      let h = hands_now (Request e from q) is in
      took-same deck w g c n at (Request e from q) rest is n.tasks p (no_request e from q is p)
      (record {
        each = all-fewer deck words live g.later g.out c.0 p.held q (requests_in rest) h.each;
        apart = apart-fewer p.held q (requests_in rest) h.apart;
      })
      (heard-dropped deck w g c n at p star fits rest (awake w.medium c) e from q is never)
      (ranked-request deck w g c n at p star (awake w.medium c) e from q rest is p refl)
      (λ k. keeps-none deck n.tasks k)

  -- an answer
  takes_answer : (t : TaskId) (answer : Answer) (rank : ℕ) (is : inbox w.medium c.0 ≡ Answered t answer rank ∷ rest)
      → is_of_deck deck t ≡ true
      → Comes deck w g c n
      (to deck w g c n at (Answered t answer rank) rest is (after_mail n.tasks (Answered t answer rank)) p)
  takes_answer t answer rank is of_deck =
      go (took-answer deck words (items w.fixed) g.right c.0 n rest (g.later c.0) (g.out c.0) t answer rank h of_deck
      (Some p))
    where
      h : IsSystem deck w.medium.words (items w.fixed) c.0 n (Answered t answer rank ∷ rest) (g.later c.0) (g.out c.0)
      h = system_now (Answered t answer rank) is

      go :
          TookAnswer deck w.medium.words (items w.fixed) g.right c.0 n rest (g.later c.0) (g.out c.0) t answer rank h
          (record n { tasks = after_mail n.tasks (Answered t answer rank); star = Some p })
          →
          Comes deck w g c n
          (to deck w g c n at (Answered t answer rank) rest is (after_mail n.tasks (Answered t answer rank)) p)
      go (learns late z) =
          took-learned deck w g c n at (Answered t answer rank) rest is t
          (after_mail n.tasks (Answered t answer rank)) p late z (hands_now (Answered t answer rank) is)
          (heard-answered deck w g c n at p star fits rest (awake w.medium c) t answer rank is of_deck)
          (ranked-answered deck w g c n at p star (awake w.medium c) fits t answer rank rest is of_deck)
          (λ k. keeps-mail deck n.tasks t answer rank of_deck k)
      go (leaves z) =
          took-same deck w g c n at (Answered t answer rank) rest is (after_mail n.tasks (Answered t answer rank))
          p z (hands_now (Answered t answer rank) is)
          (heard-answered deck w g c n at p star fits rest (awake w.medium c) t answer rank is of_deck)
          (ranked-answered deck w g c n at p star (awake w.medium c) fits t answer rank rest is of_deck)
          (λ k. keeps-mail deck n.tasks t answer rank of_deck k)

  drops_answer : (t : TaskId) (answer : Answer) (rank : ℕ) (is : inbox w.medium c.0 ≡ Answered t answer rank ∷ rest)
      → is_for_deck deck (Answered t answer rank) ≡ false
      → Comes deck w g c n (to deck w g c n at (Answered t answer rank) rest is n.tasks p)
  drops_answer t answer rank is strange =
      took-same deck w g c n at (Answered t answer rank) rest is n.tasks p
      (record {
        system =
            strange-answer deck words (items w.fixed) g.right c.0 n rest (g.later c.0) (g.out c.0) t answer rank
            (system_now (Answered t answer rank) is) strange (Some p);
        told = none;
      })
      (hands_now (Answered t answer rank) is)
      (heard-missed deck w g c n at p star fits rest (awake w.medium c) t answer rank is
      (not_here deck words (items w.fixed) g.right c.0 n rest (g.later c.0) (g.out c.0) t answer rank
      (system_now (Answered t answer rank) is) strange))
      (ranked-missed deck w g c n at p star (awake w.medium c) t answer rank rest is
      (not_here deck words (items w.fixed) g.right c.0 n rest (g.later c.0) (g.out c.0) t answer rank
      (system_now (Answered t answer rank) is) strange))
      (λ k. keeps-none deck n.tasks k)

  -- control
  takes_control : (t : TaskId) (r : Res) (is : inbox w.medium c.0 ≡ Granted t r ∷ rest) → is_of_deck deck t ≡ true
      → Comes deck w g c n (to deck w g c n at (Granted t r) rest is (tell_control n.tasks r t) p)
  takes_control t r is of_deck = took-same deck w g c n at (Granted t r) rest is (tell_control n.tasks r t) p
      (took-control deck words (items w.fixed) g.right c.0 n rest (g.later c.0) (g.out c.0) t r
      (system_now (Granted t r) is) of_deck (Some p))
      (hands_now (Granted t r) is) (heard-control deck w g c n at p star fits rest (awake w.medium c) t r is)
      (ranked-granted deck w g c n at p star (awake w.medium c) t r rest is)
      (λ k. keeps-control deck n.tasks r t k)

  drops_control : (t : TaskId) (r : Res) (is : inbox w.medium c.0 ≡ Granted t r ∷ rest) → is_of_deck deck t ≡ false
      → Comes deck w g c n (to deck w g c n at (Granted t r) rest is n.tasks p)
  drops_control t r is strange = took-same deck w g c n at (Granted t r) rest is n.tasks p
      (record {
        system =
            strange-control deck words (items w.fixed) g.right c.0 n rest (g.later c.0) (g.out c.0) t r
            (system_now (Granted t r) is) (Some p);
        told = none;
      })
      (hands_now (Granted t r) is)
      (heard-strange deck w g c n at p star fits rest (awake w.medium c) t r is strange)
      (ranked-strange deck w g c n at p star (awake w.medium c) t r rest is)
      (λ k. keeps-none deck n.tasks k)

  -- whatever the mail is
  abbrev Takes : StarStep → Type 0
  Takes st =
      Comes deck w g c n (record {
        medium = record w.medium { inboxes = without_first w.medium.inboxes c.0; rest = awake w.medium c };
        step = with_star n st;
      })

  takes : (mail : Mail) → inbox w.medium c.0 ≡ mail ∷ rest → Takes (take_mail deck n.tasks p mail)
  unfolding took_mail after_mail
  takes (Request e from q) is =
      by_test Takes (is_for_deck deck (Request e from q)) (took_mail n.tasks p (Request e from q))
      (fixing_none n.tasks p)
      (λ h.
      by_test (λ k. Takes (fixing_none n.tasks k)) (is_entry e (entry_for p q.want) && manages p e)
      (record p { held = p.held ++ q ∷ [] }) p (λ f. holds_request e from q is)
      (λ f. drops_request e from q is (λ k. f)))
      (λ h. drops_request e from q is (λ k. no_truth (is_for_deck deck (Request e from q)) k h))
  takes (Answered t answer rank) is =
      by_test Takes (is_for_deck deck (Answered t answer rank)) (took_mail n.tasks p (Answered t answer rank))
      (fixing_none n.tasks p)
      (λ h. takes_answer t answer rank is (and_parts (is_of_deck deck t) (names_of_deck deck answer) h).0)
      (λ h. drops_answer t answer rank is h)
  takes (Granted t r) is =
      by_test Takes (is_of_deck deck t) (took_mail n.tasks p (Granted t r)) (fixing_none n.tasks p)
      (λ h. takes_control t r is h) (λ h. drops_control t r is h)
  takes (Notice target moved) is = absurd (system_now (Notice target moved) is).fits.0
  takes (Part e from records) is = absurd (system_now (Part e from records) is).fits.0

-- ---- the event
module _ (deck : Deck) (w : World) (g : IsWhole deck w) (c : SysId) (n : NodeState) (at : Site w c.0 n) where
  pub outcome-take : (mail : Mail) (rest : List Mail) → inbox w.medium c.0 ≡ mail ∷ rest →
      Comes deck w g c n (record {
        medium = record w.medium { inboxes = without_first w.medium.inboxes c.0; rest = awake w.medium c };
        step = with_star n (take_mail deck n.tasks (part deck w g c n at) mail);
      })
  outcome-take mail rest is =
      takes deck w g c n at (part deck w g c n at) (g.roles.node c.0 n at).star rest mail is
