-- What is heard of the mails of an inbox: where more come behind them, and where none answers a task.
use Rattle.grs_world.proofs.Common.{[], ◌&&◌, ◌++◌, ◌||◌, ◌∙◌, ◌∷◌, ◌≡◌, and_from, Answer, Answered, ap, append_assoc}
use Rattle.grs_world.proofs.Common.{askers, Bool, cond, Deck, false, Granted, inl, inr, is_among, last_number, List}
use Rattle.grs_world.proofs.Common.{list_any, Mail, nat_le, not, Notice, or_left, or_right, Part, refl, Req, Res}
use Rattle.grs_world.proofs.Common.{same_res, same_res-itself, same_task, same_task-itself, subst, sym, TaskId, true, ℕ}
use Rattle.grs_wire.specs.declared.medium.Mail.TheVariants.{Request}
use Rattle.std.specs.Prelude.{◌⊎◌}
use Rattle.grs_known.specs.Known.{is_answer_to}
use Rattle.grs_world.proofs.star.Heard.{AreAddressed, grants, hears, is_timely}
use Rattle.grs_world.proofs.star.Systems.{news_of, requests_in}

-- ---- more mails come
pub any-grown : {X : Type 0} (f : X → Bool) (xs ys : List X) → list_any f xs ≡ true → list_any f (xs ++ ys) ≡ true
any-grown f [] ys h = absurd (cc)
any-grown f (x ∷ xs) ys h = go (f x) h (any-grown f xs ys)
  where
    go : (b : Bool) → (b || list_any f xs) ≡ true → (list_any f xs ≡ true → list_any f (xs ++ ys) ≡ true)
        → (b || list_any f (xs ++ ys)) ≡ true
    go true k more = refl
    go false k more = more k

pub hears-grown : (t : TaskId) (r : Res) (recorded : Bool) (ms more : List Mail) → hears t r recorded ms ≡ true
    → hears t r recorded (ms ++ more) ≡ true
hears-grown t r recorded [] more h = absurd (cc)
hears-grown t r recorded (Request e from q ∷ ms) more h = hears-grown t r recorded ms more h
hears-grown t r recorded (Answered u a rank ∷ ms) more h =
    go (is_timely t (Answered u a rank)) (not recorded && grants a) h (hears-grown t r true ms more)
    (hears-grown t r recorded ms more)
  where
    go : (b d : Bool) → cond b (d || hears t r true ms) (hears t r recorded ms) ≡ true
        → (hears t r true ms ≡ true → hears t r true (ms ++ more) ≡ true)
        → (hears t r recorded ms ≡ true → hears t r recorded (ms ++ more) ≡ true) →
        cond b (d || hears t r true (ms ++ more)) (hears t r recorded (ms ++ more)) ≡ true
    go true true k on off = refl
    go true false k on off = on k
    go false d k on off = off k
hears-grown t r recorded (Granted u q ∷ ms) more h =
    go (recorded && (same_task t u && same_res r q)) h (hears-grown t r recorded ms more)
  where
    go : (b : Bool) → (b || hears t r recorded ms) ≡ true
        → (hears t r recorded ms ≡ true → hears t r recorded (ms ++ more) ≡ true)
        → (b || hears t r recorded (ms ++ more)) ≡ true
    go true k on = refl
    go false k on = on k
hears-grown t r recorded (Notice target moved ∷ ms) more h = hears-grown t r recorded ms more h
hears-grown t r recorded (Part e from records ∷ ms) more h = hears-grown t r recorded ms more h

pub addressed-grown : (deck : Deck) (ms more : List Mail) → AreAddressed deck ms → AreAddressed deck more
    → AreAddressed deck (ms ++ more)
addressed-grown deck [] more h k = k
addressed-grown deck (m ∷ ms) more h k = (h.0, addressed-grown deck ms more h.1 k)

pub requests-grown : (ms more : List Mail) → requests_in (ms ++ more) ≡ requests_in ms ++ requests_in more
requests-grown [] more = refl
requests-grown (Request e from q ∷ ms) more = ap (λ qs. q ∷ qs) (requests-grown ms more)
requests-grown (Answered t a rank ∷ ms) more = requests-grown ms more
requests-grown (Granted t r ∷ ms) more = requests-grown ms more
requests-grown (Notice target moved ∷ ms) more = requests-grown ms more
requests-grown (Part e from records ∷ ms) more = requests-grown ms more

pub among-append : (t : TaskId) (xs ys : List Req)
    → is_among t (askers (xs ++ ys)) ≡ (is_among t (askers xs) || is_among t (askers ys))
among-append t [] ys = refl
among-append t (x ∷ xs) ys = go (same_task t x.task) (among-append t xs ys)
  where
    go : (b : Bool) → is_among t (askers (xs ++ ys)) ≡ (is_among t (askers xs) || is_among t (askers ys))
        → (b || is_among t (askers (xs ++ ys))) ≡ ((b || is_among t (askers xs)) || is_among t (askers ys))
    go true h = refl
    go false h = h

pub among-front : (t : TaskId) (xs ys : List Req) → is_among t (askers xs) ≡ true
    → is_among t (askers (xs ++ ys)) ≡ true
among-front t xs ys h = among-append t xs ys ∙ or_left (is_among t (askers xs)) (is_among t (askers ys)) h

pub among-last : (t : TaskId) (xs ys : List Req) → is_among t (askers ys) ≡ true → is_among t (askers (xs ++ ys)) ≡ true
among-last t xs ys h = among-append t xs ys ∙ or_right (is_among t (askers xs)) (is_among t (askers ys)) h

-- the requests in the hands of a system stay in them
pub among-grown : (t : TaskId) (held : List Req) (ms more : List Mail)
    → is_among t (askers (held ++ requests_in ms)) ≡ true
    → is_among t (askers (held ++ requests_in (ms ++ more))) ≡ true
among-grown t held ms more h =
    ap (λ qs. is_among t (askers (held ++ qs))) (requests-grown ms more)
    ∙ (ap (λ qs. is_among t (askers qs)) (sym (append_assoc held (requests_in ms) (requests_in more)))
    ∙ among-front t (held ++ requests_in ms) (requests_in more) h)

-- ---- no mail answers a task
abbrev pub answers : TaskId → List Mail → Bool
answers t ms = list_any (is_answer_to t) (news_of ms)

pub untimely : (t : TaskId) (ms : List Mail) → answers t ms ≡ false → list_any (is_timely t) ms ≡ false
untimely t [] h = refl
untimely t (Request e from q ∷ ms) h = untimely t ms h
untimely t (Granted u r ∷ ms) h = untimely t ms h
untimely t (Notice target moved ∷ ms) h = untimely t ms h
untimely t (Part e from records ∷ ms) h = untimely t ms h
untimely t (Answered u a rank ∷ ms) h = go (same_task t u) (nat_le rank last_number) h (untimely t ms)
  where
    go : (b c : Bool) → (b || answers t ms) ≡ false → (answers t ms ≡ false → list_any (is_timely t) ms ≡ false)
        → ((b && c) || list_any (is_timely t) ms) ≡ false
    go true c k more = absurd (cc)
    go false c k more = more k

-- what it hears is control, which finds a record; so it hears it too where there is one
pub hears-recorded : (t : TaskId) (r : Res) (recorded : Bool) (ms : List Mail) → answers t ms ≡ false
    → hears t r recorded ms ≡ true → hears t r true ms ≡ true
hears-recorded t r recorded [] h k = absurd (cc)
hears-recorded t r recorded (Request e from q ∷ ms) h k = hears-recorded t r recorded ms h k
hears-recorded t r recorded (Answered u a rank ∷ ms) h k =
    go (same_task t u) (nat_le rank last_number) h k (hears-recorded t r recorded ms)
  where
    go : (b c : Bool) → (b || answers t ms) ≡ false
        → cond (b && c) ((not recorded && grants a) || hears t r true ms) (hears t r recorded ms) ≡ true
        → (answers t ms ≡ false → hears t r recorded ms ≡ true → hears t r true ms ≡ true) →
        cond (b && c) ((not true && grants a) || hears t r true ms) (hears t r true ms) ≡ true
    go true c e f more = absurd (cc)
    go false c e f more = more e f
hears-recorded t r recorded (Granted u q ∷ ms) h k =
    go recorded (same_task t u && same_res r q) k (hears-recorded t r recorded ms h)
  where
    go : (b c : Bool) → ((b && c) || hears t r recorded ms) ≡ true
        → (hears t r recorded ms ≡ true → hears t r true ms ≡ true) → ((true && c) || hears t r true ms) ≡ true
    go b true f more = refl
    go true false f more = more f
    go false false f more = more f
hears-recorded t r recorded (Notice target moved ∷ ms) h k = hears-recorded t r recorded ms h k
hears-recorded t r recorded (Part e from records ∷ ms) h k = hears-recorded t r recorded ms h k

-- ---- the last mail
-- an answer that grants makes a record
pub hears-answer : (t : TaskId) (r : Res) (ms : List Mail) (a : Answer) (rank : ℕ) → answers t ms ≡ false
    → is_timely t (Answered t a rank) ≡ true → grants a ≡ true → hears t r false (ms ++ Answered t a rank ∷ []) ≡ true
hears-answer t r [] a rank h timely granted = go (is_timely t (Answered t a rank)) (grants a) timely granted
  where
    go : (b c : Bool) → b ≡ true → c ≡ true → cond b ((not false && c) || false) false ≡ true
    go true true e f = refl
    go true false e f = absurd (cc)
    go false c e f = absurd (cc)
hears-answer t r (Request e from q ∷ ms) a rank h timely granted = hears-answer t r ms a rank h timely granted
hears-answer t r (Granted u q ∷ ms) a rank h timely granted = hears-answer t r ms a rank h timely granted
hears-answer t r (Notice target moved ∷ ms) a rank h timely granted = hears-answer t r ms a rank h timely granted
hears-answer t r (Part e from records ∷ ms) a rank h timely granted = hears-answer t r ms a rank h timely granted
hears-answer t r (Answered u b k ∷ ms) a rank h timely granted =
    go (same_task t u) (nat_le k last_number) h (hears-answer t r ms a rank)
  where
    go : (c d : Bool) → (c || answers t ms) ≡ false
        → (answers t ms ≡ false → is_timely t (Answered t a rank) ≡ true → grants a ≡ true
        → hears t r false (ms ++ Answered t a rank ∷ []) ≡ true)
        →
        cond (c && d) ((not false && grants b) || hears t r true (ms ++ Answered t a rank ∷ []))
        (hears t r false (ms ++ Answered t a rank ∷ []))
        ≡ true
    go true d e more = absurd (cc)
    go false d e more = more e timely granted

pub hears-control : (t : TaskId) (r : Res) (ms : List Mail) → hears t r true (ms ++ Granted t r ∷ []) ≡ true
hears-control t r [] =
    or_left (same_task t t && same_res r r) false
    (and_from (same_task t t) (same_res r r) (same_task-itself t) (same_res-itself r))
hears-control t r (Request e from q ∷ ms) = hears-control t r ms
hears-control t r (Answered u a rank ∷ ms) =
    go (is_timely t (Answered u a rank)) (not true && grants a) (hears-control t r ms)
  where
    go : (b d : Bool) → hears t r true (ms ++ Granted t r ∷ []) ≡ true
        → cond b (d || hears t r true (ms ++ Granted t r ∷ [])) (hears t r true (ms ++ Granted t r ∷ [])) ≡ true
    go true true h = refl
    go true false h = h
    go false d h = h
hears-control t r (Granted u q ∷ ms) =
    or_right (same_task t u && same_res r q) (hears t r true (ms ++ Granted t r ∷ [])) (hears-control t r ms)
hears-control t r (Notice target moved ∷ ms) = hears-control t r ms
hears-control t r (Part e from records ∷ ms) = hears-control t r ms

-- control finds a record, which is there or is made by an answer before
pub hears-granted : (t : TaskId) (r : Res) (recorded : Bool) (ms : List Mail)
    → (recorded ≡ true) ⊎ (list_any (is_timely t) ms ≡ true) → hears t r recorded (ms ++ Granted t r ∷ []) ≡ true
hears-granted t r recorded ms (inl e) =
    subst (λ b. hears t r b (ms ++ Granted t r ∷ []) ≡ true) (sym e) (hears-control t r ms)
hears-granted t r recorded ms (inr h) = behind ms h
  where
    behind : (xs : List Mail) → list_any (is_timely t) xs ≡ true → hears t r recorded (xs ++ Granted t r ∷ []) ≡ true
    behind [] k = absurd (cc)
    behind (Request e from q ∷ xs) k = behind xs k
    behind (Answered u a rank ∷ xs) k = go (is_timely t (Answered u a rank)) (not recorded && grants a) k (behind xs)
      where
        go : (b d : Bool) → (b || list_any (is_timely t) xs) ≡ true
            → (list_any (is_timely t) xs ≡ true → hears t r recorded (xs ++ Granted t r ∷ []) ≡ true)
            → cond b (d || hears t r true (xs ++ Granted t r ∷ [])) (hears t r recorded (xs ++ Granted t r ∷ [])) ≡ true
        go true d e more = or_right d (hears t r true (xs ++ Granted t r ∷ [])) (hears-control t r xs)
        go false d e more = more e
    behind (Granted u q ∷ xs) k =
        or_right (recorded && (same_task t u && same_res r q)) (hears t r recorded (xs ++ Granted t r ∷ []))
        (behind xs k)
    behind (Notice target moved ∷ xs) k = behind xs k
    behind (Part e from records ∷ xs) k = behind xs k

-- ---- the first mail is taken
-- it is of another task
pub hears-other : (t : TaskId) (r : Res) (recorded : Bool) (u : TaskId) (a : Answer) (rank : ℕ) (ms : List Mail)
    → same_task t u ≡ false → hears t r recorded (Answered u a rank ∷ ms) ≡ true → hears t r recorded ms ≡ true
hears-other t r recorded u a rank ms apart h =
    sym (ap (λ b.
    cond (b && nat_le rank last_number) ((not recorded && grants a) || hears t r true ms) (hears t r recorded ms))
    apart)
    ∙ h

pub timely-other : (t u : TaskId) (a : Answer) (rank : ℕ) (ms : List Mail) → same_task t u ≡ false
    → list_any (is_timely t) (Answered u a rank ∷ ms) ≡ true → list_any (is_timely t) ms ≡ true
timely-other t u a rank ms apart h =
    sym (ap (λ b. (b && nat_le rank last_number) || list_any (is_timely t) ms) apart) ∙ h

-- it has a rank that has no effect
pub hears-lost : (t : TaskId) (r : Res) (recorded : Bool) (u : TaskId) (a : Answer) (rank : ℕ) (ms : List Mail)
    → is_timely t (Answered u a rank) ≡ false → hears t r recorded (Answered u a rank ∷ ms) ≡ true
    → hears t r recorded ms ≡ true
hears-lost t r recorded u a rank ms late h =
    sym (ap (λ b. cond b ((not recorded && grants a) || hears t r true ms) (hears t r recorded ms)) late) ∙ h

-- it makes a record, or what is heard comes behind it, where there is one
pub hears-first : (t : TaskId) (r : Res) (recorded : Bool) (a : Answer) (rank : ℕ) (ms : List Mail)
    → nat_le rank last_number ≡ true → hears t r recorded (Answered t a rank ∷ ms) ≡ true
    → ((recorded ≡ false) × (grants a ≡ true)) ⊎ (hears t r true ms ≡ true)
hears-first t r recorded a rank ms low h =
    go (is_timely t (Answered t a rank)) (and_from (same_task t t) (nat_le rank last_number) (same_task-itself t) low)
    recorded refl (grants a) refl h
  where
    go : (b : Bool) → b ≡ true → (c : Bool) → recorded ≡ c → (d : Bool) → grants a ≡ d
        → cond b ((not c && d) || hears t r true ms) (hears t r recorded ms) ≡ true
        → ((recorded ≡ false) × (grants a ≡ true)) ⊎ (hears t r true ms ≡ true)
    go false timely c e d f k = absurd (cc)
    go true timely false e true f k = inl (e, f)
    go true timely false e false f k = inr k
    go true timely true e d f k = inr k

-- control is of this resource, and finds a record; or what is heard comes behind it
pub hears-behind : (t : TaskId) (r : Res) (recorded : Bool) (u : TaskId) (q : Res) (ms : List Mail)
    → hears t r recorded (Granted u q ∷ ms) ≡ true
    → ((recorded ≡ true) × (same_task t u ≡ true) × (same_res r q ≡ true)) ⊎ (hears t r recorded ms ≡ true)
hears-behind t r recorded u q ms h = go recorded refl (same_task t u) refl (same_res r q) refl h
  where
    go : (b : Bool) → recorded ≡ b → (c : Bool) → same_task t u ≡ c → (d : Bool) → same_res r q ≡ d
        → ((b && (c && d)) || hears t r recorded ms) ≡ true
        → ((recorded ≡ true) × (same_task t u ≡ true) × (same_res r q ≡ true)) ⊎ (hears t r recorded ms ≡ true)
    go true e true f true g k = inl (e, f, g)
    go true e true f false g k = inr k
    go true e false f d g k = inr k
    go false e c f d g k = inr k
