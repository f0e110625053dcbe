-- Each event of a system in star mode keeps what is said of words, roles and lists.
use Rattle.grs_world.proofs.Common.{[], ◌&&◌, ◌++◌, ◌<◌, ◌==◌, ◌||◌, ◌∙◌, ◌∷◌, ◌≡◌, ◌≢◌, after_request, after_want}
use Rattle.grs_world.proofs.Common.{Alike, and-false, and-true, and_parts, answer_for, ap, arith, Asked, awake, Bool}
use Rattle.grs_world.proofs.Common.{by_test, Choice, chosen, cond, decide_own, Deck, desk_told, entry_for, entry_wanted}
use Rattle.grs_world.proofs.Common.{eq-eqb, eqb-true, false, Fixed, fixing_none, has_interest, interest, is_busy_in}
use Rattle.grs_world.proofs.Common.{is_done_with, is_entry, is_for_deck, is_interested, is_manager, is_some, items_of}
use Rattle.grs_world.proofs.Common.{kept_for, leave_reply, left_at, left_words, length, length-set, lines_of, List}
use Rattle.grs_world.proofs.Common.{list_any, Mail, managed_at, manager, manager_at, manages, MediumState, most_systems}
use Rattle.grs_world.proofs.Common.{ne_eqb, no_elements, no_truth, NodeState, None, not, only, Option, or-false, plain}
use Rattle.grs_world.proofs.Common.{rank_of, Ranked, refl, Req, request_of, Res, Said, Some, StarPart, StarStep, State}
use Rattle.grs_world.proofs.Common.{submitted_words, subst, sym, SysId, task_step, TaskId, TasksView, true, Turnout}
use Rattle.grs_world.proofs.Common.{unwrap_or, with_interest, with_mail, with_phase, with_star, without_first, word_at}
use Rattle.grs_world.proofs.Common.{World, ℕ}
use Rattle.std.specs.Prelude.{drop}
use Rattle.grs_known.proofs.lists.Alike.{alike-itself, alike-none}
use Rattle.std.proofs.Math.Bool.{or-true}
use Rattle.grs_node.specs.Star.{serves, told_by}
use Rattle.contention_mgr.proofs.ManagerLaws.{entries_are_well_kept}
use Rattle.lock_structure.proofs.LawProofs.{submit_keeps_all_managed, leave_keeps_all_managed, submit_joins}
use Rattle.lock_structure.proofs.LawProofs.{submit_manages, leave_parts, leave_manages}
use Rattle.grs_world.proofs.star.Plain.{begun, may_leave, settled_first, take_mail, took_mail, with_held, Acts, Came}
use Rattle.grs_world.proofs.star.Plain.{IsUsual, acted, already, began, decided, informed, left, no_such, came-usual}
use Rattle.grs_world.proofs.star.Plain.{nothing, sent, settled, told, took, went_on}
use Rattle.grs_world.proofs.star.Members.{IsPart, IsMember, IsStar, IsStep, Moves, has_manager, all_lists, lists_after}
use Rattle.grs_world.proofs.star.Members.{stays}
use Rattle.grs_world.proofs.star.Roles.{part-settled, part-told, part-held, part-interest, part-place, part-left}
use Rattle.grs_world.proofs.star.Roles.{want-within, interest-within}
use Rattle.grs_world.proofs.star.Tasks.{task-quiet}
use Rattle.grs_world.proofs.star.Under.{under, under-other}
use Rattle.grs_world.proofs.run.Came.{ChoiceRemovesNone}
use Rattle.grs_world.proofs.run.Chosen.{came}
use Rattle.grs_world.proofs.run.Site.{Site}
use Rattle.grs_wire.specs.declared.medium.Mail.TheVariants as mails
use Rattle.grs_wire.specs.declared.medium.Reply.TheVariants as replies
use Rattle.grs_wire.specs.declared.request.Fixed.TheVariants as fixes
use Rattle.task_state.specs.declared.state.Phase.TheVariants as phases
use Rattle.grs_wire.specs.declared.told.Said.TheVariants as saids

module _ (deck : Deck) (some : 0 < deck.entries) (w : World) (c : SysId) (few : c.0 < most_systems) (n : NodeState)
    (at : Site w c.0 n) (g : IsStar deck w) (me : IsMember deck w.medium.words (all_lists w) c.0 n) where
  abbrev words : List ℕ
  words = w.medium.words

  abbrev L : State
  L = all_lists w

  abbrev p : StarPart
  p = me.part

  abbrev Leads : Turnout → Type 0
  Leads o = IsStep deck w c n o

  -- the medium with other words, inboxes and flags of rest
  abbrev med : List ℕ → List (List Mail) → ℕ → MediumState
  med ws boxes flags = record w.medium { words = ws; inboxes = boxes; rest = flags }

  -- a step by which words and lists become these
  step : (ws : List ℕ) (boxes : List (List Mail)) (flags : ℕ) (v : TasksView) (q : StarPart) (fs : List Fixed)
      → length boxes ≡ length w.medium.inboxes → Moves deck c.0 w.medium.words ws L (lists_after L fs)
      → IsPart deck ws (lists_after L fs) c.0 q
      → Leads (record { medium = med ws boxes flags; step = with_star n (record { tasks = v; part = q; fixed = fs }) })
  step ws boxes flags v q fs same m k = record {
    mode = g.mode;
    removed = refl;
    inboxes = same;
    message = refl;
    moves = m;
    member = record { part = q; star = refl; outbox = me.outbox; fits = k };
  }

  -- one that leaves words and lists
  still : (boxes : List (List Mail)) (flags : ℕ) (v : TasksView) (q : StarPart) → length boxes ≡ length w.medium.inboxes
      → IsPart deck w.medium.words L c.0 q
      → Leads (record { medium = med w.medium.words boxes flags; step = with_star n (fixing_none v q) })
  still boxes flags v q same k = step words boxes flags v q [] same (stays deck w c.0 g) k

  -- ---- nothing but a flag of rest, or it is told which systems were removed
  good_nothing : (flags : ℕ) → Leads (record { medium = record w.medium { rest = flags }; step = only n })
  good_nothing flags = record {
    mode = g.mode;
    removed = refl;
    inboxes = refl;
    message = refl;
    moves = stays deck w c.0 g;
    member = me;
  }

  good_known : (known : ℕ) → Leads (record { medium = w.medium; step = only (record n { known = known }) })
  good_known known = record {
    mode = g.mode;
    removed = refl;
    inboxes = refl;
    message = refl;
    moves = stays deck w c.0 g;
    member = record { part = me.part; star = me.star; outbox = me.outbox; fits = me.fits };
  }

  -- ---- a task goes on
  good_task : (t : TaskId) → Leads (record { medium = w.medium; step = task_step deck.limit n t (lines_of deck t) })
  good_task t =
      let k = task-quiet p n me.star deck.limit t (lines_of deck t) in
      let st = task_step deck.limit n t (lines_of deck t) in
      record {
        mode = g.mode;
        removed = refl;
        inboxes = refl;
        message = refl;
        moves = record {
          count = refl;
          managed = g.managed;
          managers = λ e u ne. refl;
          interest = λ e u ne. refl;
          lists = λ e h j. k.lists deck.entries e L;
          free = λ e none. k.lists deck.entries e L ∙ g.free e none;
        };
        member = record {
          part = p;
          star = k.star ∙ me.star;
          outbox = k.outbox ∙ me.outbox;
          fits = record {
            home = me.fits.home;
            entries = me.fits.entries;
            interests = me.fits.interests;
            roles = me.fits.roles;
            interest = me.fits.interest;
            lists = λ e h.
                subst (Alike (plain (items_of (managed_at p.manager e)))) (sym (k.lists deck.entries e L))
                (me.fits.lists e h);
            well = me.fits.well;
            calm = me.fits.calm;
          };
        };
      }

  -- ---- a request is decided by the manager of its entry
  -- what it does to the lists of all entries, where the words become these
  decides : (x : ℕ) (q : Req) → entry_wanted deck.entries q.want ≡ Some x → has_manager w.medium.words x c.0 ≡ true
      → Moves deck c.0 w.medium.words w.medium.words L (after_want L q.task q.want)
  decides x q is mine = record {
    count = refl;
    managed = g.managed;
    managers = λ e u ne. refl;
    interest = λ e u ne. refl;
    lists = λ e h j.
        under-other deck.entries e L q.task q.want
        (other e (λ same. no_truth (has_manager words e c.0) (ap (λ i. has_manager words i c.0) same ∙ mine) h));
    free = λ e none. under-other deck.entries e L q.task q.want (other e (λ same. nobody e same none)) ∙ g.free e none;
  }
    where
      other : (e : ℕ) → e ≢ x → is_entry e (entry_wanted deck.entries q.want) ≡ false
      other e ne = ap (is_entry e) is ∙ ne_eqb x e (λ f. ne (sym f))

      nobody : (e : ℕ) → e ≡ x → manager_at w.medium.words e ≡ None → ⊥
      nobody e same none =
          absurd (let f : true ≡ false =
          sym (ap (λ i. has_manager words i c.0) same ∙ mine) ∙ ap (λ o. is_manager o (record { 0 = c.0 })) none in
          cc)

  served : (q : Req) → serves me.part q ≡ true
      → (x : ℕ) × (entry_wanted deck.entries q.want ≡ Some x) × (manages me.part x ≡ true)
  served q h = go (entry_wanted (length p.manager.entries) q.want) refl h
    where
      go : (o : Option ℕ) → entry_wanted (length me.part.manager.entries) q.want ≡ o
          → is_some (kept_for me.part.manager.entries o) ≡ true
          → (x : ℕ) × (entry_wanted deck.entries q.want ≡ Some x) × (manages me.part x ≡ true)
      go None e f = absurd (cc)
      go (Some x) e f = (x, ap (λ k. entry_wanted k q.want) (sym me.fits.entries) ∙ e, f)

  at_entries : (q : Req) (x : ℕ) → entry_for me.part q.want ≡ Some x → entry_wanted deck.entries q.want ≡ Some x
  at_entries q x f = ap (λ k. entry_wanted k q.want) (sym me.fits.entries) ∙ f

  within : (q : Req) (x : ℕ) → entry_for me.part q.want ≡ Some x → x < deck.entries
  within q x f = want-within deck.entries q.want x some (at_entries q x f)

  -- ---- Settle
  settles : (q : Req) → serves me.part q ≡ true →
      Leads (record {
        medium =
            med w.medium.words
            (with_mail w.medium.inboxes q.task.system.0
            (mails.Answered q.task (answer_for me.part q) (rank_of me.part q))) (awake w.medium c);
        step = with_star n (settled_first n.tasks me.part q);
      })
  settles q h =
      let s = served q h in
      let mine : has_manager words s.0 c.0 ≡ true = sym (me.fits.roles s.0) ∙ s.2 in
      step words _ (awake w.medium c) (settled_first n.tasks p q).tasks
      (record p { manager = after_request p.manager q.task q.want; held = drop 1 p.held }) (fixes.Asked q ∷ [])
      (length-set w.medium.inboxes q.task.system.0 _) (decides s.0 q s.1 mine)
      (part-settled deck words L c.0 p q.task q.want s.0 (drop 1 p.held) me.fits s.1 s.2)

  -- ---- Tell
  tells : (x : TaskId × Res) →
      Leads (record {
        medium =
            med w.medium.words (with_mail w.medium.inboxes x.0.system.0 (mails.Granted x.0 x.1)) (awake w.medium c);
        step = with_star n (fixing_none n.tasks (told_by me.part (Some x)));
      })
  tells x =
      still _ (awake w.medium c) n.tasks (told_by p (Some x)) (length-set w.medium.inboxes x.0.system.0 _)
      (part-told deck words L c.0 p (Some x) me.fits)

  -- ---- Take
  takes : (mail : Mail) →
      Leads (record {
        medium = med w.medium.words (without_first w.medium.inboxes c.0) (awake w.medium c);
        step = with_star n (take_mail deck n.tasks me.part mail);
      })
  unfolding took_mail
  takes mail =
      by_test (λ (st : StarStep).
      Leads (record { medium = med words boxes (awake w.medium c); step = with_star n st }))
      (is_for_deck deck mail) (took_mail n.tasks p mail) (fixing_none n.tasks p) (λ h. by_mail mail)
      (λ h. still boxes (awake w.medium c) n.tasks p (length-set w.medium.inboxes c.0 _) me.fits)
    where
      boxes : List (List Mail)
      boxes = without_first w.medium.inboxes c.0

      takes_held : (e : ℕ) (q : Req) → IsPart deck w.medium.words L c.0 (with_held me.part e q)
      takes_held e q =
          by_test (IsPart deck words L c.0) (is_entry e (entry_for p q.want) && manages p e)
          (record p { held = p.held ++ q ∷ [] }) p (λ h. part-held deck words L c.0 p (p.held ++ q ∷ []) me.fits)
          (λ h. me.fits)

      by_mail : (mail : Mail)
          → Leads (record {
            medium = med w.medium.words (without_first w.medium.inboxes c.0) (awake w.medium c);
            step = with_star n (took_mail n.tasks me.part mail);
          })
      by_mail (mails.Request e from q) =
          still boxes (awake w.medium c) n.tasks (with_held p e q) (length-set w.medium.inboxes c.0 _) (takes_held e q)
      by_mail (mails.Answered t answer rank) =
          still boxes (awake w.medium c) _ p (length-set w.medium.inboxes c.0 _) me.fits
      by_mail (mails.Granted t r) = still boxes (awake w.medium c) _ p (length-set w.medium.inboxes c.0 _) me.fits
      by_mail (mails.Notice target moved) =
          still boxes (awake w.medium c) _ p (length-set w.medium.inboxes c.0 _) me.fits
      by_mail (mails.Part e from records) =
          still boxes (awake w.medium c) _ p (length-set w.medium.inboxes c.0 _) me.fits

  -- ---- Send
  -- the words after a request of an entry that this system doesn't manage
  module _ (x : ℕ) (inside : x < deck.entries) where
    there : x < length w.medium.words
    there = omega (arith, inside, g.words)

    abbrev joined_words : List ℕ
    joined_words = submitted_words w.medium.words x c

    joins : (e s : ℕ) → is_interested joined_words e s ≡ (is_interested w.medium.words e s || ((e == x) && (s == c.0)))
    joins = submit_joins words x c there few g.managed

    manages_now : (e : ℕ)
        → manager_at joined_words e
        ≡ cond (e == x) (Some (unwrap_or (manager_at w.medium.words x) c)) (manager_at w.medium.words e)
    manages_now = submit_manages words x c there few

    -- whatever the lists become that this system manages
    submits : (L' : State)
        → ((e : ℕ) → has_manager joined_words e c.0 ≡ false → under deck.entries e L' ≡ under deck.entries e L)
        → Moves deck c.0 w.medium.words joined_words L L'
    submits L' lists = record {
      count = length-set words x _;
      managed = submit_keeps_all_managed words x c there few g.managed;
      managers = λ e u ne.
          ap (λ o. is_manager o (record { 0 = u })) (manages_now e)
          ∙ by_entry e u ne (e == x) refl (manager_at words x) refl;
      interest = λ e u ne.
          joins e u
          ∙ (ap (λ b. is_interested words e u || ((e == x) && b)) (ne_eqb u c.0 ne)
          ∙ (ap (λ b. is_interested words e u || b) (and-false (e == x)) ∙ or-false (is_interested words e u)));
      lists = λ e h j. lists e j;
      free = λ e none.
          frees e (e == x) refl (sym (manages_now e) ∙ none)
          (lists e (ap (λ o. is_manager o (record { 0 = c.0 })) none));
    }
      where
        by_entry : (e u : ℕ) → u ≢ c.0 → (b : Bool) → (e == x) ≡ b → (o : Option SysId)
            → manager_at w.medium.words x ≡ o
            → is_manager (cond b (Some (unwrap_or o c)) (manager_at w.medium.words e)) (record { 0 = u })
            ≡ has_manager w.medium.words e u
        by_entry e u ne false f o k = refl
        by_entry e u ne true f None k =
            ne_eqb c.0 u (λ z. ne (sym z))
            ∙ sym (ap (λ i. has_manager words i u) (eqb-true e x f) ∙ ap (λ z. is_manager z (record { 0 = u })) k)
        by_entry e u ne true f (Some s) k =
            sym (ap (λ i. has_manager words i u) (eqb-true e x f) ∙ ap (λ z. is_manager z (record { 0 = u })) k)

        frees : (e : ℕ) (b : Bool) → (e == x) ≡ b
            → cond b (Some (unwrap_or (manager_at w.medium.words x) c)) (manager_at w.medium.words e) ≡ None
            → under deck.entries e L' ≡ under deck.entries e L → under deck.entries e L' ≡ []
        frees e true f h j = absurd (cc)
        frees e false f h j = j ∙ g.free e h

    interest_now : (e : ℕ) → is_interested joined_words e c.0 ≡ cond (e == x) true (is_interested w.medium.words e c.0)
    interest_now e =
        joins e c.0 ∙ (ap (λ b. is_interested words e c.0 || ((e == x) && b)) (eq-eqb c.0 c.0 refl) ∙ go (e == x))
      where
        go : (b : Bool)
            → (is_interested w.medium.words e c.0 || (b && true)) ≡ cond b true (is_interested w.medium.words e c.0)
        go true = or-true (is_interested words e c.0)
        go false = or-false (is_interested words e c.0)

    -- where another system manages it
    role_stays : (s : SysId) → manager_at w.medium.words x ≡ Some s → (e : ℕ)
        → has_manager joined_words e c.0 ≡ has_manager w.medium.words e c.0
    role_stays s is e = ap (λ o. is_manager o (record { 0 = c.0 })) (manages_now e) ∙ go (e == x) refl
      where
        go : (b : Bool) → (e == x) ≡ b
            → is_manager (cond b (Some (unwrap_or (manager_at w.medium.words x) c)) (manager_at w.medium.words e))
            (record { 0 = c.0 })
            ≡ has_manager w.medium.words e c.0
        go true f =
            ap (λ o. is_manager (Some (unwrap_or o c)) (record { 0 = c.0 })) is
            ∙ sym (ap (λ i. has_manager words i c.0) (eqb-true e x f) ∙ ap (λ o. is_manager o (record { 0 = c.0 })) is)
        go false f = refl

    sent_part : (s : SysId) → manager_at w.medium.words x ≡ Some s
        → IsPart deck joined_words L c.0 (with_interest me.part x true)
    sent_part s is = part-interest deck words joined_words L c.0 p x true me.fits inside (role_stays s is) interest_now

    -- where nobody does
    role_gained : manager_at w.medium.words x ≡ None → (e : ℕ)
        → has_manager joined_words e c.0 ≡ cond (e == x) true (has_manager w.medium.words e c.0)
    role_gained is e = ap (λ o. is_manager o (record { 0 = c.0 })) (manages_now e) ∙ go (e == x)
      where
        go : (b : Bool)
            → is_manager (cond b (Some (unwrap_or (manager_at w.medium.words x) c)) (manager_at w.medium.words e))
            (record { 0 = c.0 })
            ≡ cond b true (has_manager w.medium.words e c.0)
        go true = ap (λ o. is_manager (Some (unwrap_or o c)) (record { 0 = c.0 })) is ∙ eq-eqb c.0 c.0 refl
        go false = refl

    pub begun_part : manager_at w.medium.words x ≡ None → IsPart deck joined_words L c.0 (begun me.part x)
    begun_part is =
        part-place deck words joined_words L c.0 p x (Some no_elements) true me.fits inside (role_gained is)
        interest_now (λ h. subst (Alike []) (sym (g.free x is)) (alike-itself []))
        (entries_are_well_kept p.manager x me.fits.well).0

    -- the entry is managed by another system, to which the request goes
    sends_away : (t : TaskId) (a : Asked) (s : SysId) → manager_at w.medium.words x ≡ Some s →
        Leads (record {
          medium =
              med joined_words (with_mail w.medium.inboxes s.0 (mails.Request x c (request_of t a))) (awake w.medium c);
          step = with_star n (fixing_none (with_phase n.tasks t phases.Sent) (with_interest me.part x true));
        })
    sends_away t a s is =
        step joined_words _ (awake w.medium c) (with_phase n.tasks t phases.Sent) (with_interest p x true) []
        (length-set w.medium.inboxes s.0 _) (submits L (λ e h. refl)) (sent_part s is)

    -- nobody manages it: this system does from now on, and decides the request
    begins : (t : TaskId) (a : Asked) → entry_for me.part a.req.want ≡ Some x → manager_at w.medium.words x ≡ None →
        Leads (record {
          medium = med joined_words w.medium.inboxes (awake w.medium c);
          step = with_star n (decide_own n.tasks (begun me.part x) t a);
        })
    unfolding decide_own
    begins t a f is =
        let q : StarPart = begun p x in
        let here : entry_wanted deck.entries a.req.want ≡ Some x = at_entries (request_of t a) x f in
        let managing : manages q x ≡ true =
        (begun_part is).roles x
        ∙ (role_gained is x ∙ ap (λ b. cond b true (has_manager words x c.0)) (eq-eqb x x refl)) in
        step joined_words w.medium.inboxes (awake w.medium c) (decide_own n.tasks q t a).tasks
        (decide_own n.tasks q t a).part (fixes.Asked (request_of t a) ∷ []) refl
        (submits (after_want L t a.req.want) (λ e h.
        under-other deck.entries e L t a.req.want (ap (is_entry e) here
        ∙ ne_eqb x e (λ same.
        no_truth (has_manager joined_words e c.0)
        (ap (λ i. has_manager joined_words i c.0) (sym same) ∙ (sym ((begun_part is).roles x) ∙ managing)) h))))
        (part-settled deck joined_words L c.0 q t a.req.want x q.held (begun_part is) here managing)

  -- a request of an entry that the system manages itself
  decides_own : (t : TaskId) (a : Asked) (x : ℕ) → entry_for me.part a.req.want ≡ Some x → manages me.part x ≡ true
      → Leads (record { medium = w.medium; step = with_star n (decide_own n.tasks me.part t a) })
  unfolding decide_own
  decides_own t a x f mine =
      let here : entry_wanted deck.entries a.req.want ≡ Some x = at_entries (request_of t a) x f in
      let named : has_manager words x c.0 ≡ true = sym (me.fits.roles x) ∙ mine in
      step words w.medium.inboxes w.medium.rest (decide_own n.tasks p t a).tasks (decide_own n.tasks p t a).part
      (fixes.Asked (request_of t a) ∷ []) refl (decides x (request_of t a) here named)
      (part-settled deck words L c.0 p t a.req.want x p.held me.fits here mine)

  -- ---- Leave
  module _ (x : ℕ) (free : may_leave me.part n.tasks x ≡ true) where
    interested : has_interest me.part x ≡ true
    interested =
        (and_parts (has_interest p x) (not (list_any (is_busy_in p x) n.tasks.tasks) && is_done_with p x) free).0

    done : is_done_with me.part x ≡ true
    done =
        (and_parts (not (list_any (is_busy_in p x) n.tasks.tasks)) (is_done_with p x)
        (and_parts (has_interest p x) (not (list_any (is_busy_in p x) n.tasks.tasks) && is_done_with p x) free).1).1

    inside_leave : x < deck.entries
    inside_leave = let k = interest-within p x interested in omega (arith, k, me.fits.interests)

    pub there_leave : x < length w.medium.words
    there_leave = omega (arith, inside_leave, g.words)

    abbrev words_left : List ℕ
    words_left = left_words w.medium.words x c

    -- nothing stands in the lists of an entry that it manages
    none_listed : has_manager w.medium.words x c.0 ≡ true → under deck.entries x L ≡ []
    none_listed mine =
        alike-none (under deck.entries x L) (subst (λ zs. Alike (plain zs) (under deck.entries x L))
        (no_items (items_of (managed_at p.manager x))
        (and_parts (length (items_of (managed_at p.manager x)) == 0) _ done).0)
        (me.fits.lists x (me.fits.roles x ∙ mine)))
      where
        no_items : (xs : List Ranked) → (length xs == 0) ≡ true → xs ≡ []
        no_items [] h = refl
        no_items (y ∷ ys) h = absurd (omega (arith, eqb-true (length (y ∷ ys)) 0 h))

    -- it is answered Left
    module _ (is : leave_reply (word_at w.medium.words x) c ≡ replies.Left) where
      parts : (e s : ℕ)
          → is_interested words_left e s ≡ (is_interested w.medium.words e s && not ((e == x) && (s == c.0)))
      parts = leave_parts words x c there_leave is

      manages_left : (e : ℕ)
          → manager_at words_left e
          ≡ cond ((e == x) && is_manager (manager_at w.medium.words e) c) None (manager_at w.medium.words e)
      manages_left = leave_manages words x c there_leave g.managed is

      leaves : Moves deck c.0 w.medium.words words_left L L
      leaves = record {
        count = length-set words x _;
        managed = leave_keeps_all_managed words x c there_leave g.managed;
        managers = λ e u ne.
            ap (λ o. is_manager o (record { 0 = u })) (manages_left e)
            ∙ by_manager e u ne (e == x) (manager_at words e) refl;
        interest = λ e u ne.
            parts e u
            ∙ (ap (λ b. is_interested words e u && not ((e == x) && b)) (ne_eqb u c.0 ne)
            ∙ (ap (λ b. is_interested words e u && not b) (and-false (e == x)) ∙ and-true (is_interested words e u)));
        lists = λ e h j. refl;
        free = λ e none. frees e (e == x) refl (is_manager (manager_at words e) c) refl (sym (manages_left e) ∙ none);
      }
        where
          by_manager : (e u : ℕ) → u ≢ c.0 → (b : Bool) (o : Option SysId) → manager_at w.medium.words e ≡ o
              → is_manager (cond (b && is_manager o c) None o) (record { 0 = u }) ≡ is_manager o (record { 0 = u })
          by_manager e u ne false o h = refl
          by_manager e u ne true None h = refl
          by_manager e u ne true (Some s) h = go (s.0 == c.0) refl
            where
              go : (d : Bool) → (s.0 == c.0) ≡ d → is_manager (cond d None (Some s)) (record { 0 = u }) ≡ (s.0 == u)
              go true f = sym (ne_eqb s.0 u (λ same. ne (sym same ∙ eqb-true s.0 c.0 f)))
              go false f = refl

          frees : (e : ℕ) (b : Bool) → (e == x) ≡ b → (d : Bool) → is_manager (manager_at w.medium.words e) c ≡ d
              → cond (b && d) None (manager_at w.medium.words e) ≡ None → under deck.entries e L ≡ []
          frees e false f d h none = g.free e none
          frees e true f false h none = g.free e none
          frees e true f true h none =
              let same : e ≡ x = eqb-true e x f in
              ap (λ i. under deck.entries i L) same
              ∙ none_listed (ap (λ i. is_manager (manager_at words i) c) (sym same) ∙ h)

      left_part : IsPart deck words_left L c.0 (left_at me.part x)
      left_part = part-left deck words words_left L c.0 p x me.fits inside_leave
          (λ e. ap (λ o. is_manager o (record { 0 = c.0 })) (manages_left e) ∙ role e (e == x) (manager_at words e))
          (λ e.
          parts e c.0
          ∙ (ap (λ b. is_interested words e c.0 && not ((e == x) && b)) (eq-eqb c.0 c.0 refl)
          ∙ interest_left e (e == x)))
        where
          role : (e : ℕ) (b : Bool) (o : Option SysId)
              → is_manager (cond (b && is_manager o c) None o) (record { 0 = c.0 })
              ≡ cond b false (is_manager o (record { 0 = c.0 }))
          role e false o = refl
          role e true None = refl
          role e true (Some s) = go (s.0 == c.0) refl
            where
              go : (d : Bool) → (s.0 == c.0) ≡ d → is_manager (cond d None (Some s)) (record { 0 = c.0 }) ≡ false
              go true f = refl
              go false f = f

          interest_left : (e : ℕ) (b : Bool)
              → (is_interested w.medium.words e c.0 && not (b && true))
              ≡ cond b false (is_interested w.medium.words e c.0)
          interest_left e true = and-false (is_interested words e c.0)
          interest_left e false = and-true (is_interested words e c.0)

      leaves_it : (flags : ℕ) →
          Leads (record {
            medium = med words_left w.medium.inboxes flags;
            step = with_star n (fixing_none n.tasks (left_at me.part x));
          })
      leaves_it flags = step words_left w.medium.inboxes flags n.tasks (left_at p x) [] refl leaves left_part

  -- ---- its desk is told that the complex changed before, or that there is no such system any more
  good_desk : (said : Said) → Leads (record { medium = w.medium; step = only (desk_told n said) })
  unfolding desk_told
  good_desk said = record {
    mode = g.mode;
    removed = refl;
    inboxes = refl;
    message = refl;
    moves = stays deck w c.0 g;
    member = record { part = me.part; star = me.star; outbox = me.outbox; fits = me.fits };
  }

  -- ---- whatever came of it
  good_acts : (o : Turnout) → Acts deck w.medium c n me.part o → Leads o
  good_acts o (decided t a x asked mine) = decides_own t a x asked.entry mine
  good_acts o (began t a x asked other none) =
      begins x (within (request_of t a) x asked.entry) t a asked.entry none
  good_acts o (sent t a x asked other to at apart) =
      sends_away x (within (request_of t a) x asked.entry) t a to at
  good_acts o (took mail rest at) = takes mail
  good_acts o (settled q first serving) = settles q serving
  good_acts o (told e x first) = tells x
  good_acts o (left x flags free by) = leaves_it x free by flags

  pub good_came : (o : Turnout) → Came deck w.medium c n me.part o → IsStep deck w c n o
  good_came o (nothing flags) = good_nothing flags
  good_came o (informed known) = good_known known
  good_came o (went_on t may) = good_task t
  good_came o (already next) = good_desk saids.StarAlready
  good_came o (no_such target next gone) = good_desk saids.VaryNoSuch
  good_came o (acted x acts) = good_acts o acts

  pub good_choice : IsUsual deck w.medium c n me.part → (choice : Choice)
      → ChoiceRemovesNone deck w.medium c n choice → IsStep deck w c n (chosen deck w.medium c n choice)
  good_choice usual choice kept =
      good_came _ (came-usual deck w.medium c n me.part usual g.mode choice _ _ kept
      (came deck w.medium c n at.live choice))
