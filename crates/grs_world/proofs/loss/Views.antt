-- What a system does by its part in star mode that knows all removed systems is the same in what is shown, where the
-- inboxes have none of their requests: it takes a mail that is shown, or a request of one of them, which it drops.
use Rattle.grs_world.proofs.Common.{[], ◌&&◌, ◌++◌, ◌<◌, ◌==◌, ◌||◌, ◌∙◌, ◌∷◌, ◌≡◌, ◌≢◌, ◌≤◌, and-false, and_parts}
use Rattle.grs_world.proofs.Common.{answer_for, Answered, ap, apply, awake, Bool, Choice, cond, Deck, drop, entry_for}
use Rattle.grs_world.proofs.Common.{eqb-false, eqb-true, false, filter-append, fixing_none, gathers, Granted, has}
use Rattle.grs_world.proofs.Common.{inbox, inbox_of, is_entry, is_for_deck, is_task, length, length-set, List, lt-ltb}
use Rattle.grs_world.proofs.Common.{ltb-true, Mail, manages, may_send, MediumState, names_of, nat_lt, no_truth}
use Rattle.grs_world.proofs.Common.{NodeState, not, Notice, only, Part, part_of, prepare, Prepared, rank_of, refl}
use Rattle.grs_world.proofs.Common.{reply_to, Req, request_of, row, Some, StarPart, Step, subst, sym, SysId, take_mail}
use Rattle.grs_world.proofs.Common.{TaskId, took_mail, true, Turnout, with_mail, with_star, without_first, ℕ}
use Rattle.std.proofs.lemmas.List.{set_past}
use Rattle.grs_node.specs.Star.{with_held}
use Rattle.grs_wire.specs.declared.medium.Mail.TheVariants.{Request}
use Rattle.grs_wire.specs.declared.medium.Call.{Call}
use Rattle.grs_world.proofs.gather.Acts.{all_say, Says}
use Rattle.grs_world.proofs.loss.Leaves.{is_from, mail_without}
use Rattle.grs_world.proofs.loss.Words.{not-below}
use Rattle.grs_world.proofs.run.Came.{Acts, Came, RemovesNoneInStar, Result, result_of}
use Rattle.grs_world.proofs.star.Boxes.{its-box, other-box, taken-box, untaken-box}
use Rattle.grs_node.specs.declared.prepared.Prepared.TheVariants as prepares
use Rattle.grs_wire.specs.declared.deck.Choice.TheVariants as choices
use Rattle.grs_wire.specs.declared.medium.Reply.TheVariants as replies
use Rattle.grs_world.proofs.run.Came as any

-- ---- who is answered anything but which systems were removed knows them
abbrev pub is_heard : Result → Bool
is_heard any.skipped = false
is_heard any.by_itself = false
is_heard (any.replied (replies.Stale set)) = false
is_heard (any.replied r) = true

-- an act isn't refused
pub acts-heard : (deck : Deck) (m : MediumState) (s : SysId) (n : NodeState) (p : StarPart) (choice : Choice)
    (b : Result) (o : Turnout) → Acts deck m s n p choice b o → is_heard b ≡ true
acts-heard deck m s n p choice b o (any.decided t a x asked to at same) = refl
acts-heard deck m s n p choice b o (any.began t a x asked none) = refl
acts-heard deck m s n p choice b o (any.sent t a x asked to at apart) = refl
acts-heard deck m s n p choice b o (any.took mail rest at) = refl
acts-heard deck m s n p choice b o (any.settled q first) = refl
acts-heard deck m s n p choice b o (any.told e x first) = refl
acts-heard deck m s n p choice b o (any.parted e to owes unknown) = refl
acts-heard deck m s n p choice b o (any.left x flags free by) = refl

pub knows-all : (deck : Deck) (m : MediumState) (s : SysId) (n : NodeState) (choice : Choice)
    → has m.removed s.0 ≡ false → is_heard (result_of m s (prepare deck n choice)) ≡ true → n.known ≡ m.removed
unfolding apply
knows-all deck m s n choice live heard = go (prepare deck n choice) (all_say deck n choice) heard
  where
    by_call : (call : Call) → is_heard (any.replied (reply_to m s call)) ≡ true → call.known ≡ m.removed
    by_call call h = by_test_known (call.known == m.removed) refl (has m.removed s.0) live h
      where
        by_test_known : (b : Bool) → (call.known == m.removed) ≡ b → (k : Bool) → k ≡ false →
            is_heard (any.replied (cond k
            (replies.Removed, m)
            (cond b (row m s call.act) (replies.Stale m.removed, m))).0)
            ≡ true → call.known ≡ m.removed
        by_test_known true is k out h = eqb-true call.known m.removed is
        by_test_known false is false out h = no_truth true refl (sym h)
        by_test_known false is true out h = no_truth true refl out

    go : (x : Prepared) → Says n.known x → is_heard (result_of m s x) ≡ true → n.known ≡ m.removed
    go prepares.Nothing says h = no_truth true refl (sym h)
    go prepares.Quiet says h = no_truth true refl (sym h)
    go (prepares.Call call) says h = sym says ∙ by_call call h

-- ---- inboxes that are shown without requests of systems
abbrev pub AreShownBoxes : ℕ → List (List Mail) → List (List Mail) → Type 0
AreShownBoxes removed boxes shown =
    (u : ℕ) → has removed u ≡ false → inbox_of shown u ≡ mail_without (has removed) (inbox_of boxes u)

without-push : (gone : ℕ → Bool) (ms : List Mail) (mail : Mail) → is_from gone mail ≡ false
    → mail_without gone (ms ++ mail ∷ []) ≡ mail_without gone ms ++ mail ∷ []
without-push gone ms mail stays =
    filter-append (λ m. not (is_from gone m)) ms (mail ∷ [])
    ∙ ap (λ b. mail_without gone ms ++ cond (not b) (mail ∷ []) []) stays

module _ (removed : ℕ) (boxes shown : List (List Mail)) (same : length shown ≡ length boxes)
    (are : AreShownBoxes removed boxes shown) where
  -- with a mail more that none of them sent
  pub boxes-more : (to : ℕ) (mail : Mail) → is_from (has removed) mail ≡ false
      → AreShownBoxes removed (with_mail boxes to mail) (with_mail shown to mail)
  boxes-more to mail stays u live = by-place (nat_lt to (length boxes)) refl
    where
      there : to < length boxes → (b : Bool) → (u == to) ≡ b
          → inbox_of (with_mail shown to mail) u ≡ mail_without (has removed) (inbox_of (with_mail boxes to mail) u)
      there inside true e =
          let is : u ≡ to = eqb-true u to e in
          ap (inbox_of (with_mail shown to mail)) is
          ∙ (its-box shown to mail (subst (λ k. to < k) (sym same) inside)
          ∙ (ap (λ ms. ms ++ mail ∷ [])
          (ap (inbox_of shown) (sym is) ∙ (are u live ∙ ap (λ i. mail_without (has removed) (inbox_of boxes i)) is))
          ∙ (sym (without-push (has removed) (inbox_of boxes to) mail stays)
          ∙ (ap (mail_without (has removed)) (sym (its-box boxes to mail inside))
          ∙ ap (λ i. mail_without (has removed) (inbox_of (with_mail boxes to mail) i)) (sym is)))))
      there inside false e =
          let ne : u ≢ to = eqb-false u to e in
          other-box shown to mail u ne
          ∙ (are u live ∙ ap (mail_without (has removed)) (sym (other-box boxes to mail u ne)))

      by-place : (b : Bool) → nat_lt to (length boxes) ≡ b
          → inbox_of (with_mail shown to mail) u ≡ mail_without (has removed) (inbox_of (with_mail boxes to mail) u)
      by-place true is = there (ltb-true to (length boxes) is) (u == to) refl
      by-place false is =
          let past : length boxes ≤ to =
          not-below (length boxes) to (λ l. no_truth (nat_lt to (length boxes)) (lt-ltb to (length boxes) l) is) in
          ap (λ bs. inbox_of bs u)
          (set_past shown to (inbox_of shown to ++ mail ∷ []) (subst (λ k. k ≤ to) (sym same) past))
          ∙ (are u live
          ∙ ap (λ bs. mail_without (has removed) (inbox_of bs u))
          (sym (set_past boxes to (inbox_of boxes to ++ mail ∷ []) past)))

  -- the first mail of one is taken: it is shown, or it is one of theirs
  module _ (s : ℕ) (inside : s < length boxes) (mail : Mail) (rest : List Mail) (is : inbox_of boxes s ≡ mail ∷ rest)
    where
      pub boxes-less : inbox_of shown s ≡ mail ∷ mail_without (has removed) rest
          → AreShownBoxes removed (without_first boxes s) (without_first shown s)
      boxes-less here u live = go (u == s) refl
        where
          go : (b : Bool) → (u == s) ≡ b
              → inbox_of (without_first shown s) u ≡ mail_without (has removed) (inbox_of (without_first boxes s) u)
          go true e =
              let at : u ≡ s = eqb-true u s e in
              ap (inbox_of (without_first shown s)) at
              ∙ (taken-box shown s (subst (λ k. s < k) (sym same) inside)
              ∙ (ap (drop 1) here
              ∙ (ap (λ ms. mail_without (has removed) (drop 1 ms)) (sym is)
              ∙ (ap (mail_without (has removed)) (sym (taken-box boxes s inside))
              ∙ ap (λ i. mail_without (has removed) (inbox_of (without_first boxes s) i)) (sym at)))))
          go false e =
              let ne : u ≢ s = eqb-false u s e in
              untaken-box shown s u ne
              ∙ (are u live ∙ ap (mail_without (has removed)) (sym (untaken-box boxes s u ne)))

      pub boxes-dropped : is_from (has removed) mail ≡ true → AreShownBoxes removed (without_first boxes s) shown
      boxes-dropped theirs u live = go (u == s) refl
        where
          go : (b : Bool) → (u == s) ≡ b
              → inbox_of shown u ≡ mail_without (has removed) (inbox_of (without_first boxes s) u)
          go true e =
              let at : u ≡ s = eqb-true u s e in
              are u live
              ∙ (ap (λ i. mail_without (has removed) (inbox_of boxes i)) at
              ∙ (ap (mail_without (has removed)) is
              ∙ (ap (λ b. cond (not b) (mail ∷ mail_without (has removed) rest) (mail_without (has removed) rest)) theirs
              ∙ (ap (λ ms. mail_without (has removed) (drop 1 ms)) (sym is)
              ∙ (ap (mail_without (has removed)) (sym (taken-box boxes s inside))
              ∙ ap (λ i. mail_without (has removed) (inbox_of (without_first boxes s) i)) (sym at))))))
          go false e = are u live ∙ ap (mail_without (has removed)) (sym (untaken-box boxes s u (eqb-false u s e)))

-- ---- a request of a removed system is dropped
not-held : (known : ℕ) (p : StarPart) (e : ℕ) (q : Req) → has known q.task.system.0 ≡ true → with_held known p e q ≡ p
not-held known p e q theirs =
    ap (λ b. cond (is_entry e (entry_for p q.want) && ((manages p e || gathers p e) && not b))
    (record p { held = p.held ++ q ∷ [] }) p) theirs
    ∙ ap (λ b. cond b (record p { held = p.held ++ q ∷ [] }) p)
    (ap (λ b. is_entry e (entry_for p q.want) && b) (and-false (manages p e || gathers p e))
    ∙ and-false (is_entry e (entry_for p q.want)))

pub took-theirs : (deck : Deck) (n : NodeState) (p : StarPart) → n.star ≡ Some p → (mail : Mail)
    → is_from (has n.known) mail ≡ true → with_star n (take_mail deck n.known n.tasks p mail) ≡ only n
unfolding took_mail
took-theirs deck n p star (Request e from q) theirs =
    ap (with_star n)
    (ap (λ y. cond (is_for_deck deck (Request e from q)) (fixing_none n.tasks y) (fixing_none n.tasks p))
    (not-held n.known p e q theirs)
    ∙ either (is_for_deck deck (Request e from q)))
    ∙ ap (λ o. let st : Step = only (record n { star = o }) in st) (sym star)
  where
    either : (b : Bool) → cond b (fixing_none n.tasks p) (fixing_none n.tasks p) ≡ fixing_none n.tasks p
    either true = refl
    either false = refl
took-theirs deck n p star (Answered t answer rank) theirs = absurd (cc)
took-theirs deck n p star (Granted t r) theirs = absurd (cc)
took-theirs deck n p star (Notice target moved) theirs = absurd (cc)
took-theirs deck n p star (Part e from records) theirs = absurd (cc)

-- ---- What came of an event, in what is shown: the medium with other inboxes, and the same of the system.
pub record IsSeen (deck : Deck) (m : MediumState) (shown : List (List Mail)) (s : SysId) (n : NodeState) (o : Turnout) :
    Type 0 where
  pub boxes : List (List Mail)
  pub choice : Choice
  pub result : Result
  pub came :
      Came deck (record m { inboxes = shown }) s n choice result
      (record { medium = record o.medium { inboxes = boxes }; step = o.step })
  pub none : RemovesNoneInStar (record m { inboxes = shown }) result
  pub mail : AreShownBoxes m.removed o.medium.inboxes boxes
  pub count : length o.medium.inboxes ≡ length m.inboxes

module _ (deck : Deck) (m : MediumState) (shown : List (List Mail)) (same : length shown ≡ length m.inboxes)
    (are : AreShownBoxes m.removed m.inboxes shown) (s : SysId) (live : has m.removed s.0 ≡ false)
    (inside : s.0 < length m.inboxes) (n : NodeState) (home : n.tasks.system ≡ s.0) (p : StarPart)
    (star : n.star ≡ Some p) (all : n.known ≡ m.removed) where
  abbrev Seen : Turnout → Type 0
  Seen o = IsSeen deck m shown s n o

  -- it took a mail
  seen-take : (mail : Mail) (rest : List Mail) → inbox m s.0 ≡ mail ∷ rest →
      Seen (record {
        medium = record m { inboxes = without_first m.inboxes s.0; rest = awake m s };
        step = with_star n (take_mail deck n.known n.tasks p mail);
      })
  seen-take mail rest is = go (is_from (has m.removed) mail) refl
    where
      go : (b : Bool) → is_from (has m.removed) mail ≡ b →
          Seen (record {
            medium = record m { inboxes = without_first m.inboxes s.0; rest = awake m s };
            step = with_star n (take_mail deck n.known n.tasks p mail);
          })
      go false ours =
          let here : inbox_of shown s.0 ≡ mail ∷ mail_without (has m.removed) rest =
          are s.0 live
          ∙ (ap (mail_without (has m.removed)) is
          ∙ ap (λ b. cond (not b) (mail ∷ mail_without (has m.removed) rest) (mail_without (has m.removed) rest))
          ours) in
          record {
            boxes = without_first shown s.0;
            choice = choices.Take;
            result = any.replied (replies.Taken mail);
            came =
                any.acted p star choices.Take (any.replied (replies.Taken mail)) _
                (any.took mail (mail_without (has m.removed) rest) here);
            none = λ mode e. absurd (cc);
            mail = boxes-less m.removed m.inboxes shown same are s.0 inside mail rest is here;
            count = length-set m.inboxes s.0 (drop 1 (inbox_of m.inboxes s.0));
          }
      go true theirs = record {
        boxes = shown;
        choice = choices.Take;
        result = any.replied replies.Empty;
        came =
            subst (λ (st : Step).
            Came deck (record m { inboxes = shown }) s n choices.Take (any.replied replies.Empty)
            (record { medium = record m { inboxes = shown; rest = awake m s }; step = st }))
            (sym (took-theirs deck n p star mail (ap (λ r. is_from (has r) mail) all ∙ theirs)))
            (any.nothing choices.Take (any.replied replies.Empty) refl (awake m s));
        none = λ mode e. absurd (cc);
        mail = boxes-dropped m.removed m.inboxes shown same are s.0 inside mail rest is theirs;
        count = length-set m.inboxes s.0 (drop 1 (inbox_of m.inboxes s.0));
      }

  -- an event that mails nothing
  pub quiet : (choice : Choice) (b : Result) (o : Turnout) → o.medium.inboxes ≡ m.inboxes
      → Came deck (record m { inboxes = shown }) s n choice b
      (record { medium = record o.medium { inboxes = shown }; step = o.step })
      → ((mode : m.star ≡ true) → b ≢ any.replied replies.Purged) → Seen o
  quiet choice b o kept came none = record {
    boxes = shown;
    choice = choice;
    result = b;
    came = came;
    none = none;
    mail = λ u alive. are u alive ∙ ap (λ bs. mail_without (has m.removed) (inbox_of bs u)) (sym kept);
    count = ap length kept;
  }

  -- one that mails something that isn't a request of a removed system
  mailing : (choice : Choice) (b : Result) (o : Turnout) (to : ℕ) (mail : Mail) → is_from (has m.removed) mail ≡ false
      → o.medium.inboxes ≡ with_mail m.inboxes to mail
      → Came deck (record m { inboxes = shown }) s n choice b
      (record { medium = record o.medium { inboxes = with_mail shown to mail }; step = o.step })
      → ((mode : m.star ≡ true) → b ≢ any.replied replies.Purged) → Seen o
  mailing choice b o to mail ours kept came none = record {
    boxes = with_mail shown to mail;
    choice = choice;
    result = b;
    came = came;
    none = none;
    mail = λ u alive.
        boxes-more m.removed m.inboxes shown same are to mail ours u alive
        ∙ ap (λ bs. mail_without (has m.removed) (inbox_of bs u)) (sym kept);
    count = ap length kept ∙ length-set m.inboxes to (inbox_of m.inboxes to ++ mail ∷ []);
  }

  its-home : (u : TaskId) → may_send deck n u ≡ true → u.system.0 ≡ n.tasks.system
  unfolding may_send
  its-home u may =
      sym (eqb-true n.tasks.system u.system.0
      (and_parts (n.tasks.system == u.system.0) _ (and_parts (is_task n.tasks u) _ may).0).0)

  pub seen-acts : (choice : Choice) (b : Result) (o : Turnout) → Acts deck m s n p choice b o → Seen o
  seen-acts choice b o (any.decided t a x asked to at alike) =
      quiet choice b o refl (any.acted p star choice b _ (any.decided t a x asked to at alike)) (λ mode e. absurd (cc))
  seen-acts choice b o (any.began t a x asked none) =
      quiet choice b o refl (any.acted p star choice b _ (any.began t a x asked none)) (λ mode e. absurd (cc))
  seen-acts choice b o (any.sent t a x asked to at apart) =
      mailing choice b o to.0 (Request x s (request_of t a))
      (ap (has m.removed) (its-home t asked.may ∙ home) ∙ live) refl
      (any.acted p star choice b _ (any.sent t a x asked to at apart)) (λ mode e. absurd (cc))
  seen-acts choice b o (any.took mail rest at) = seen-take mail rest at
  seen-acts choice b o (any.settled q first) =
      mailing choice b o q.task.system.0 (Answered q.task (answer_for p q) (rank_of p q)) refl refl
      (any.acted p star choice b _ (any.settled q first)) (λ mode e. absurd (cc))
  seen-acts choice b o (any.told e x next) =
      mailing choice b o x.0.system.0 (Granted x.0 x.1) refl refl
      (any.acted p star choice b _ (any.told e x next)) (λ mode e. absurd (cc))
  seen-acts choice b o (any.parted e to owes unknown) =
      mailing choice b o to.0
      (Part e p.manager.system
      (part_of (length p.manager.entries) e (names_of deck n.tasks.system) n.tasks)) refl refl
      (any.acted p star choice b _ (any.parted e to owes unknown)) (λ mode e. absurd (cc))
  seen-acts choice b o (any.left x flags free by) =
      quiet choice b o refl (any.acted p star choice b _ (any.left x flags free by)) (λ mode e. absurd (cc))
