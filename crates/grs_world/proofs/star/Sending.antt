-- A system sends a request of its own task to the manager of its entry, or decides it as that manager.
use Rattle.grs_world.proofs.Common.{[], ◌&&◌, ◌++◌, ◌<◌, ◌==◌, ◌||◌, ◌∙◌, ◌∷◌, ◌≡◌, ◌≢◌, All, and_parts, answer_to}
use Rattle.grs_world.proofs.Common.{Answered, ap, append_assoc, arith, Asked, askers, Bool, cond, Deck, entry_of_res}
use Rattle.grs_world.proofs.Common.{entry_wanted, eq-eqb, eqb-false, eqb-true, false, false_by, follows, Granted, has}
use Rattle.grs_world.proofs.Common.{has-zero, history, inbox, inl, inr, interest, is_among, is_home_at, is_interested}
use Rattle.grs_world.proofs.Common.{is_manager, is_some, IsManaged, IsOurs, items, length, lines_of, List, list_of}
use Rattle.grs_world.proofs.Common.{lists, lists-push, made_item, Mail, manager_at, MayFollow, Meaning, MediumState}
use Rattle.grs_world.proofs.Common.{mine, most_systems, no_truth, NodeState, None, Notice, Option, or_left, or_right}
use Rattle.grs_world.proofs.Common.{owns, Part, placed, put_at, put_here, put_other, refl, Req, request_of, Res}
use Rattle.grs_world.proofs.Common.{res_wanted, RunItem, same_Some, same_task, same_task-exact, same_task-itself}
use Rattle.grs_world.proofs.Common.{slice_get, slice_get-past, slice_get_within, Some, StarPart, state_of, still-told}
use Rattle.grs_world.proofs.Common.{submitted_words, subst, sym, SysId, TaskId, tell_answer_ranked, tell_new, told-news}
use Rattle.grs_world.proofs.Common.{ToldNews, true, unwrap_or, with_mail, with_phase, word_at, World, ℕ}
use Rattle.grs_wire.specs.declared.medium.Mail.TheVariants.{Request}
use Rattle.lock_structure.specs.Laws.{ManagedBy}
use Rattle.lock_structure.proofs.LawProofs.{empty_is_managed, submit_joins, submit_manages}
use Rattle.grs_known.proofs.system.Askers.{apart-push}
use Rattle.grs_known.proofs.system.Telling.{told-phase}
use Rattle.grs_world.proofs.star.Elements.{AreNear, is_near_res, near-has, near-want, near-words}
use Rattle.grs_world.proofs.star.Members.{IsStep, has_manager, managed-is}
use Rattle.grs_world.proofs.star.OwnEvents.{may-follow, system-decided, system-sent}
use Rattle.grs_world.proofs.star.Runs.{word_past}
use Rattle.grs_world.proofs.star.Systems.{IsSystem, Keeps, Away, near_at, requests_in, system-other, system-requested}
use Rattle.grs_world.proofs.star.Systems.{system-words}
use Rattle.grs_world.proofs.star.Under.{res-entry}
use Rattle.grs_world.proofs.star.Worlds.{IsIn, IsHand, AllHands, Hands, IsWhole, are_live, in_hands, live-below}
use Rattle.grs_world.proofs.star.Worlds.{live-here, manager-live, items-none, items-one, whole-placed, none_fixed}
use Rattle.grs_world.proofs.star.Worlds.{fixes-own}
use Rattle.grs_world.proofs.star.Heard.{StaysHeard}
use Rattle.grs_world.proofs.star.hearing.Sent.{heard-sent}
use Rattle.grs_world.proofs.star.ranks.Mails.{ranked-sent}
use Rattle.grs_world.proofs.star.ranks.Ranked.{StaysRanked}
use Rattle.grs_world.proofs.star.steps.Outcome.{IsOutcome}
use Rattle.grs_world.proofs.run.Desks.{tells_tasks}
use Rattle.grs_world.proofs.at_rest.StarTasks.{dated-by, keeps-decided, keeps-sent}
use Rattle.grs_world.proofs.star.Ghosts.{others-fix}
use Rattle.grs_world.proofs.system.AtNode.{own_ask}
use Rattle.grs_world.proofs.run.Site.{Site}
use Rattle.grs_world.proofs.star.Boxes.{other-box, by_box}
use Rattle.grs_wire.specs.declared.request.Fixed.TheVariants as fixing
use Rattle.task_state.specs.declared.state.Phase.TheVariants as phases

-- ---- the words grow
-- By other words each manager manages what it did, and what matters to a system stays.
pub record WordsGrow (words words' : List ℕ) : Type 0 where
  pub managed : (e m : ℕ) → has_manager words e m ≡ true → has_manager words' e m ≡ true
  pub keeps : (s : ℕ) → Keeps words words' s

pub words-stay : (words : List ℕ) → WordsGrow words words
words-stay words = record { managed = λ e m h. h; keeps = λ s. record { away = λ e a. a; near = λ e h. h } }

-- So they do behind a request.
module _ (words : List ℕ) (x : ℕ) (c : SysId) (there : x < length words) (few : c.0 < most_systems)
    (managed : All IsManaged words) where
  -- the caller has interest
  pub submit-near : is_interested (submitted_words words x c) x c.0 ≡ true
  submit-near =
      submit_joins words x c there few managed x c.0
      ∙ or_right (is_interested words x c.0) ((x == x) && (c.0 == c.0))
      (ap (λ b. b && (c.0 == c.0)) (eq-eqb x x refl) ∙ eq-eqb c.0 c.0 refl)

  manager_now : (e : ℕ)
      → manager_at (submitted_words words x c) e
      ≡ cond (e == x) (Some (unwrap_or (manager_at words x) c)) (manager_at words e)
  manager_now = submit_manages words x c there few

  still_manages : (e m : ℕ) → has_manager words e m ≡ true → has_manager (submitted_words words x c) e m ≡ true
  still_manages e m h = ap (λ o. is_manager o (record { 0 = m })) (manager_now e) ∙ go (e == x) refl
    where
      go : (b : Bool) → (e == x) ≡ b
          → is_manager (cond b (Some (unwrap_or (manager_at words x) c)) (manager_at words e)) (record { 0 = m }) ≡ true
      go false f = h
      go true f =
          let was : manager_at words x ≡ Some (record { 0 = m }) =
          managed-is words x m (manager_at words x) refl (ap (λ i. has_manager words i m) (sym (eqb-true e x f)) ∙ h) in
          ap (λ o. is_manager (Some (unwrap_or o c)) (record { 0 = m })) was ∙ eq-eqb m m refl

  still_near : (e s : ℕ) → is_interested words e s ≡ true → is_interested (submitted_words words x c) e s ≡ true
  still_near e s h =
      submit_joins words x c there few managed e s ∙ or_left (is_interested words e s) ((e == x) && (s == c.0)) h

  still_away : (e s : ℕ) → Away words s e → has_manager (submitted_words words x c) e s ≡ false
  still_away e s a =
      false_by (has_manager (submitted_words words x c) e s)
      (λ h. absurd (by_entry (e == x) refl (sym (ap (λ o. is_manager o (record { 0 = s })) (manager_now e)) ∙ h)))
    where
      at_x : (o : Option SysId) → manager_at words x ≡ o → e ≡ x
          → is_manager (Some (unwrap_or o c)) (record { 0 = s }) ≡ true → ⊥
      at_x (Some k) is same h =
          no_truth (has_manager words e s)
          (ap (λ i. has_manager words i s) same ∙ (ap (λ o. is_manager o (record { 0 = s })) is ∙ h)) a.0
      at_x None is same h =
          let nobody : interest (word_at words x) ≡ 0 =
          subst (λ o. ManagedBy o (interest (word_at words x))) is (managed x 0 there) in
          no_truth (is_interested words e s) a.1
          (ap (λ i. is_interested words i s) same ∙ (ap (λ k. has k s) nobody ∙ has-zero s))

      by_entry : (b : Bool) → (e == x) ≡ b
          → is_manager (cond b (Some (unwrap_or (manager_at words x) c)) (manager_at words e)) (record { 0 = s }) ≡ true
          → ⊥
      by_entry false f h = no_truth (has_manager words e s) h a.0
      by_entry true f h = at_x (manager_at words x) refl (eqb-true e x f) h

  -- and manages the entry, where nobody did
  pub submit-first : manager_at words x ≡ None → has_manager (submitted_words words x c) x c.0 ≡ true
  submit-first nobody =
      ap (λ o. is_manager o (record { 0 = c.0 })) (manager_now x
      ∙ (ap (λ b. cond b (Some (unwrap_or (manager_at words x) c)) (manager_at words x)) (eq-eqb x x refl)
      ∙ ap (λ o. Some (unwrap_or o c)) nobody))
      ∙ eq-eqb c.0 c.0 refl

  pub submit-grows : WordsGrow words (submitted_words words x c)
  submit-grows = record {
    managed = still_manages;
    keeps = λ s. record { away = λ e a. (still_away e s a, still_near e s a.1); near = λ e h. still_near e s h };
  }

-- who manages an entry has interest in it
pub manager-near : (words : List ℕ) → All IsManaged words → (e s : ℕ) → has_manager words e s ≡ true
    → is_interested words e s ≡ true
manager-near words managed e s h = go (slice_get words e) refl
  where
    named : manager_at words e ≡ Some (record { 0 = s })
    named = managed-is words e s (manager_at words e) refl h

    fits : IsManaged (word_at words e) → is_interested words e s ≡ true
    fits k = subst (λ o. ManagedBy o (interest (word_at words e))) named k

    go : (o : Option ℕ) → slice_get words e ≡ o → is_interested words e s ≡ true
    go (Some x) f = fits (managed e 0 (slice_get_within words e x f))
    go None f = fits (subst IsManaged (sym (word_past words e (slice_get-past words e f))) empty_is_managed)

-- ---- requests in hands
in-more : (z : Req) (qs : List Req) (q : Req) → IsIn z qs → IsIn z (qs ++ q ∷ [])
in-more z [] q h = absurd h
in-more z (x ∷ qs) q (inl e) = inl e
in-more z (x ∷ qs) q (inr h) = inr (in-more z qs q h)

in-last : (q : Req) (qs : List Req) → IsIn q (qs ++ q ∷ [])
in-last q [] = inl refl
in-last q (x ∷ qs) = inr (in-last q qs)

in-among : (q : Req) (qs : List Req) → IsIn q qs → is_among q.task (askers qs) ≡ true
in-among q [] h = absurd h
in-among q (x ∷ qs) (inl e) =
    or_left (same_task q.task x.task) (is_among q.task (askers qs))
    (ap (λ (z : Req). same_task q.task z.task) (sym e) ∙ same_task-itself q.task)
in-among q (x ∷ qs) (inr h) = or_right (same_task q.task x.task) (is_among q.task (askers qs)) (in-among q qs h)

all-push :
    (deck : Deck) (words : List ℕ) (live : ℕ → Bool) (later : ℕ → List RunItem) (out : ℕ → List Req) (m : ℕ)
    (zs : List Req) (q : Req)
    → AllHands deck words live later out m zs → IsHand deck words live later out m q
    → AllHands deck words live later out m (zs ++ q ∷ [])
all-push deck words count later out m [] q h k = (k, tt)
all-push deck words count later out m (z ∷ zs) q h k = (h.0, all-push deck words count later out m zs q h.1 k)

-- of a task that sent nothing there is none
not-handed :
    (deck : Deck) (words : List ℕ) (live : ℕ → Bool) (later : ℕ → List RunItem) (out : ℕ → List Req) (t : TaskId)
    → is_among t (askers (out t.system.0)) ≡ false → (m : ℕ) (zs : List Req) → AllHands deck words live later out m zs
    → is_among t (askers zs) ≡ false
not-handed deck words count later out t free m [] h = refl
not-handed deck words count later out t free m (z ∷ zs) h =
    go (same_task t z.task) refl (not-handed deck words count later out t free m zs h.1)
  where
    go : (b : Bool) → same_task t z.task ≡ b → is_among t (askers zs) ≡ false → (b || is_among t (askers zs)) ≡ false
    go false e more = more
    go true e more =
        no_truth (is_among z.task (askers (out z.task.system.0))) (in-among z (out z.task.system.0) h.0.among)
        (subst (λ (u : TaskId). is_among u (askers (out u.system.0)) ≡ false) (same_task-exact t z.task e) free)

-- They stay what they are where the words grow, and more is sent.
module _ (deck : Deck) (words words' : List ℕ) (grow : WordsGrow words words') (live : ℕ → Bool)
    (later : ℕ → List RunItem) (out out' : ℕ → List Req)
    (more : (u : ℕ) (q : Req) → IsIn q (out u) → IsIn q (out' u)) where
  all-grow : (m : ℕ) (qs : List Req) → AllHands deck words live later out m qs
      → AllHands deck words' live later out' m qs
  all-grow m [] h = tt
  all-grow m (q ∷ qs) h = (
    record {
      apart = h.0.apart;
      below = h.0.below;
      among = more q.task.system.0 q h.0.among;
      idle = h.0.idle;
      entry = h.0.entry;
      at = h.0.at;
      managed = grow.managed h.0.entry m h.0.managed;
    },
    all-grow m qs h.1,
  )

  pub hands-grow : (m : ℕ) (qs : List Req) → Hands deck words live later out m qs
      → Hands deck words' live later out' m qs
  hands-grow m qs h = record { each = all-grow m qs h.each; apart = h.apart }

requests-push : (ms : List Mail) (e : ℕ) (from : SysId) (q : Req)
    → requests_in (ms ++ Request e from q ∷ []) ≡ requests_in ms ++ q ∷ []
requests-push [] e from q = refl
requests-push (Request f s z ∷ ms) e from q = ap (λ zs. z ∷ zs) (requests-push ms e from q)
requests-push (Answered t a rank ∷ ms) e from q = requests-push ms e from q
requests-push (Granted t r ∷ ms) e from q = requests-push ms e from q
requests-push (Notice target moved ∷ ms) e from q = requests-push ms e from q
requests-push (Part x s records ∷ ms) e from q = requests-push ms e from q

-- ---- A system c and a request of its task t, where the words become these.
module _ (deck : Deck) (w : World) (g : IsWhole deck w) (c : SysId) (n : NodeState) (at : Site w c.0 n) (words : List ℕ)
    (grow : WordsGrow w.medium.words words) (flags : ℕ) (t : TaskId) (ls : List Meaning)
    (ours : IsOurs deck c.0 n.tasks t ls) (home : is_home_at deck c.0 t ≡ true) (a : Asked)
    (is : (state_of n.tasks t).outstanding ≡ Some a) (free : is_among t (askers (g.out c.0)) ≡ false) (entry : ℕ)
    (of_entry : entry_wanted deck.entries a.req.want ≡ Some entry) where
  abbrev T : List RunItem
  T = items w.fixed

  abbrev q : Req
  q = request_of t a

  near-grown : AreNear deck words (lists T)
  near-grown =
      near-words deck words (lists T) (λ r u has_it.
      by_entry u (entry_of_res deck.entries r) (near-has deck w.medium.words (lists T) r u g.near has_it))
    where
      by_entry : (u : TaskId) (o : Option ℕ) → near_at w.medium.words u.system.0 o ≡ true
          → near_at words u.system.0 o ≡ true
      by_entry u None h = refl
      by_entry u (Some e) h = (grow.keeps u.system.0).near e h

  system-grown : (s : ℕ) (k : NodeState) → Site w s k
      → IsSystem deck words T s k (inbox w.medium s) (g.later s) (g.out s)
  system-grown s k found =
      system-words deck w.medium.words words T s k (inbox w.medium s) (g.later s) (g.out s) (grow.keeps s)
      (g.system s k found)

  -- ---- it goes to the manager of its entry
  module _ (interested : is_interested words entry c.0 ≡ true) (s : SysId)
      (managing : has_manager w.medium.words entry s.0 ≡ true) (apart : s.0 ≢ c.0) where
    abbrev mail : Mail
    mail = Request entry c (request_of t a)

    abbrev sent_on : MediumState
    sent_on =
        record w.medium
        { words = words; inboxes = with_mail w.medium.inboxes s.0 (Request entry c (request_of t a)); rest = flags }

    abbrev out' : ℕ → List Req
    out' = put_at g.out c.0 (g.out c.0 ++ request_of t a ∷ [])

    below : s.0 < length w.nodes
    below = (live-below w s.0 (manager-live deck w g.roles entry s.0 managing)).0

    box_there : s.0 < length w.medium.inboxes
    box_there = let k = below in omega (arith, k, g.roles.systems, g.roles.inboxes)

    own_out : out' c.0 ≡ g.out c.0 ++ q ∷ []
    own_out = put_here g.out c.0 (g.out c.0 ++ q ∷ [])

    other_out : (u : ℕ) → u ≢ c.0 → out' u ≡ g.out u
    other_out u ne = put_other g.out c.0 (g.out c.0 ++ q ∷ []) u ne

    more_out : (u : ℕ) (z : Req) → IsIn z (g.out u) → IsIn z (out' u)
    more_out u z h = go (u == c.0) refl
      where
        go : (b : Bool) → (u == c.0) ≡ b → IsIn z (out' u)
        go true e =
            let same : u ≡ c.0 = eqb-true u c.0 e in
            subst (λ i. IsIn z (out' i)) (sym same)
            (subst (IsIn z) (sym own_out) (in-more z (g.out c.0) q (subst (λ i. IsIn z (g.out i)) same h)))
        go false e = subst (IsIn z) (sym (other_out u (eqb-false u c.0 e))) h

    -- the system sent it
    sender : (o : Option StarPart)
        → IsSystem deck words T c.0 (record n { tasks = with_phase n.tasks t phases.Sent; star = o })
        (inbox w.medium c.0) (g.later c.0) (g.out c.0 ++ q ∷ [])
    sender o =
        system-sent deck w.medium.words T g.right c.0 n (inbox w.medium c.0) (g.later c.0) (g.out c.0)
        (g.system c.0 n at) t ls ours home a is free words o (grow.keeps c.0)
        (ap (near_at words c.0) of_entry ∙ interested)

    -- and it comes to the manager
    others : (u : ℕ) (k : NodeState) → u ≢ c.0 → Site w u k
        → IsSystem deck words T u k (inbox sent_on u) (g.later u) (out' u)
    others u k ne found =
        subst (λ qs. IsSystem deck words T u k (inbox sent_on u) (g.later u) qs) (sym (other_out u ne))
        (by_box w.medium.inboxes s.0 mail (λ ms. IsSystem deck words T u k ms (g.later u) (g.out u)) box_there u
        (λ same.
        system-requested deck words T u k (inbox w.medium u) (g.later u) (g.out u) (system-grown u k found) entry c q)
        (λ ne. system-grown u k found))

    -- in whose hands it is now
    hand : IsHand deck words (are_live w) g.later out' s.0 q
    hand = record {
      apart = λ e. apart (sym e ∙ ours.home);
      below = subst (λ i. are_live w i ≡ true) (sym ours.home) (live-here w c.0 n at);
      among = subst (λ i. IsIn q (out' i)) (sym ours.home) (subst (IsIn q) (sym own_out) (in-last q (g.out c.0)));
      idle = subst (λ i. mine t (g.later i) ≡ []) (sym ours.home) ((g.system c.0 n at).sent t free);
      entry = entry;
      at = of_entry;
      managed = grow.managed entry s.0 managing;
    }

    hands_grown : (m : ℕ) (k : NodeState) (v : StarPart) → Site w m k
        → k.star ≡ Some v → Hands deck words (are_live w) g.later out' m (in_hands v (inbox w.medium m))
    hands_grown m k v found star =
        hands-grow deck w.medium.words words grow (are_live w) g.later g.out out' more_out m
        (in_hands v (inbox w.medium m)) (g.hands m k v found star)

    hands_others : (m : ℕ) (k : NodeState) (v : StarPart) → Site w m k → k.star ≡ Some v
        → Hands deck words (are_live w) g.later out' m (in_hands v (inbox sent_on m))
    hands_others m k v found star =
        let h = hands_grown m k v found star in
        by_box w.medium.inboxes s.0 mail (λ ms. Hands deck words (are_live w) g.later out' m (in_hands v ms)) box_there
        m (λ same.
        let none_there =
        not-handed deck w.medium.words (are_live w) g.later g.out t
        (subst (λ i. is_among t (askers (g.out i)) ≡ false) (sym ours.home) free) m (in_hands v (inbox w.medium m))
        (g.hands m k v found star).each in
        subst (Hands deck words (are_live w) g.later out' m)
        (sym (ap (λ zs. v.held ++ zs) (requests-push (inbox w.medium m) entry c q)
        ∙ sym (append_assoc v.held (requests_in (inbox w.medium m)) (q ∷ []))))
        (record {
          each =
              all-push deck words (are_live w) g.later out' m (in_hands v (inbox w.medium m)) q h.each
              (subst (λ i. IsHand deck words (are_live w) g.later out' i q) (sym same) hand);
          apart = apart-push (in_hands v (inbox w.medium m)) q h.apart none_there;
        }))
        (λ ne. h)

    pub outcome-sent : (p p' : StarPart) → n.star ≡ Some p → p'.held ≡ p.held → p'.manager ≡ p.manager →
        IsStep deck w c n (record {
          medium = sent_on;
          step = record { node = record n { tasks = with_phase n.tasks t phases.Sent; star = Some p' }; fixed = [] };
        })
        →
        IsOutcome deck w g c n (record {
          medium = sent_on;
          step = record { node = record n { tasks = with_phase n.tasks t phases.Sent; star = Some p' }; fixed = [] };
        })
    outcome-sent p p' star held manager step = record {
      stays =
          let own_box : inbox sent_on c.0 ≡ inbox w.medium c.0 =
          other-box w.medium.inboxes s.0 mail c.0 (λ e. apart (sym e)) in
          whole-placed deck w g c n at (record {
            medium = sent_on;
            step = record { node = record n { tasks = with_phase n.tasks t phases.Sent; star = Some p' }; fixed = [] };
          })
          step T (items-none w.fixed c) g.later out' other_out none_fixed
          g.right near-grown
          (subst (λ ms.
          IsSystem deck words T c.0 (record n { tasks = with_phase n.tasks t phases.Sent; star = Some p' }) ms
          (g.later c.0) (out' c.0))
          (sym own_box)
          (subst (λ qs.
          IsSystem deck words T c.0 (record n { tasks = with_phase n.tasks t phases.Sent; star = Some p' })
          (inbox w.medium c.0) (g.later c.0) qs)
          (sym own_out) (sender (Some p'))))
          others
          (λ k found.
          subst (λ (y : StarPart). Hands deck words (are_live w) g.later out' c.0 (in_hands y (inbox sent_on c.0)))
          (same_Some p' k found)
          (subst (λ hs. Hands deck words (are_live w) g.later out' c.0 (hs ++ requests_in (inbox sent_on c.0)))
          (sym held) (hands_others c.0 n p at star)))
          (λ m k v ne found known. hands_others m k v found known);
      news = tells_tasks (still-told (told-phase n.tasks t phases.Sent)) refl refl;
      heard =
          heard-sent deck w g c n at words flags t home ours.here a entry of_entry s apart
          (manager-live deck w g.roles entry s.0 managing) p p' star held manager;
      ranked = λ g'.
          ranked-sent deck w g c n at words flags t ours.here a entry of_entry s apart
          (manager-live deck w g.roles entry s.0 managing) p p' star manager;
      dated = λ h.
          dated-by deck c.0 n (record n { tasks = with_phase n.tasks t phases.Sent; star = Some p' }) refl h
          (keeps-sent deck n.tasks t ours.here h.date);
    }

  -- ---- it decides it as the manager of its entry
  module _ (managing : has_manager words entry c.0 ≡ true) (ts : List TaskId) (rank : ℕ) (p p' : StarPart)
      (star : n.star ≡ Some p) (held : p'.held ≡ p.held) where
    abbrev item : RunItem
    item = made_item c T (fixing.Asked (request_of t a))

    abbrev decided : NodeState
    decided =
        record n {
          tasks =
              tell_new (tell_answer_ranked n.tasks t a (answer_to (lists T) t a.req.want) rank) (res_wanted a.req.want)
              ts;
          star = Some p';
        }

    -- its item is another system's to the others
    others-item : MayFollow deck T item → (s : ℕ) (k : NodeState) → s ≢ c.0 → Site w s k
        → IsSystem deck words (T ++ item ∷ []) s k (inbox w.medium s) (g.later s) (g.out s)
    others-item m s k ne found =
        system-other deck words T s k (inbox w.medium s) (g.later s) (g.out s) item
        (others-fix deck c.0 s c T (fixing.Asked q) (own_ask q ours.home m) (λ e. ne (sym e)))
        (system-grown s k found)

    hands_same : (m : ℕ) (k : NodeState) (v : StarPart) → Site w m k
        → k.star ≡ Some v → Hands deck words (are_live w) g.later g.out m (in_hands v (inbox w.medium m))
    hands_same m k v found known =
        hands-grow deck w.medium.words words grow (are_live w) g.later g.out g.out (λ u z h. h) m
        (in_hands v (inbox w.medium m)) (g.hands m k v found known)

    pub outcome-decided :
        ((r : Res) → res_wanted a.req.want ≡ Some r → (u : TaskId) → is_among u ts ≡ true
        → owns (list_of (lists (T ++ item ∷ [])) r) u ≡ true)
        → (IsWhole deck (placed w c n (record {
          medium = record w.medium { words = words; rest = flags };
          step = record { node = decided; fixed = fixing.Asked q ∷ [] };
        }))
        → StaysHeard deck w c n (record {
          medium = record w.medium { words = words; rest = flags };
          step = record { node = decided; fixed = fixing.Asked q ∷ [] };
        }))
        → (IsWhole deck (placed w c n (record {
          medium = record w.medium { words = words; rest = flags };
          step = record { node = decided; fixed = fixing.Asked q ∷ [] };
        }))
        → StaysRanked deck w c n (record {
          medium = record w.medium { words = words; rest = flags };
          step = record { node = decided; fixed = fixing.Asked q ∷ [] };
        }))
        → IsStep deck w c n (record {
          medium = record w.medium { words = words; rest = flags };
          step = record { node = decided; fixed = fixing.Asked q ∷ [] };
        })
        → IsOutcome deck w g c n (record {
          medium = record w.medium { words = words; rest = flags };
          step = record { node = decided; fixed = fixing.Asked q ∷ [] };
        })
    outcome-decided owned heard ranked step =
        let h = system-grown c.0 n at in
        let m =
        may-follow deck words T g.right c.0 n (inbox w.medium c.0) (g.later c.0) (g.out c.0) h t ls ours home a is free
        c in
        let z =
        system-decided deck words T g.right c.0 n (inbox w.medium c.0) (g.later c.0) (g.out c.0) h t ls ours home a is
        free c entry of_entry managing ts rank (Some p') owned in
        record {
          stays =
              whole-placed deck w g c n at (record {
                medium = record w.medium { words = words; rest = flags };
                step = record { node = decided; fixed = fixing.Asked q ∷ [] };
              })
              step (T ++ item ∷ []) (items-one w.fixed c (fixing.Asked q)) g.later g.out (λ u ne. refl)
              (fixes-own deck c g.out T (fixing.Asked q) (own_ask q ours.home m))
              (follows deck T item g.right m)
              (subst (AreNear deck words) (sym (lists-push T item))
              (near-want deck words (lists T) t a.req.want (λ v e. near v e step.moves.managed) near-grown))
              z.system (others-item m)
              (λ k found.
              subst (λ (y : StarPart).
              Hands deck words (are_live w) g.later g.out c.0 (in_hands y (inbox w.medium c.0)))
              (same_Some p' k found)
              (subst (λ hs. Hands deck words (are_live w) g.later g.out c.0 (hs ++ requests_in (inbox w.medium c.0)))
              (sym held) (hands_same c.0 n p at star)))
              (λ k y v ne found known. hands_same k y v found known);
          news =
              tells_tasks (subst (λ U. ToldNews deck c.0 (history U) n.tasks.told decided.tasks.told)
              (sym (items-one w.fixed c (fixing.Asked q))) (told-news z.told))
              refl refl;
          heard = heard;
          ranked = ranked;
          dated = λ d.
              dated-by deck c.0 n decided refl d (keeps-decided deck n.tasks t a (lists T) rank ts
              (and_parts (t.system.0 == c.0) (is_some (lines_of deck t)) home).1 ours.here is d.date);
        }
      where
        near : (v : Res) → res_wanted a.req.want ≡ Some v → All IsManaged words → is_near_res deck words v t ≡ true
        near v e managed =
            ap (near_at words t.system.0) (res-entry deck.entries a.req.want v entry e of_entry)
            ∙ (ap (is_interested words entry) ours.home ∙ manager-near words managed entry c.0 managing)
