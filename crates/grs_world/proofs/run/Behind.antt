-- No entry of a task stands behind the removal of its system, where the history is legal.
use Rattle.grs_world.proofs.Common.{[], ◌++◌, ◌==◌, ◌∙◌, ◌∷◌, ◌≡◌, append-nil, append_assoc, Bool, cond, Deck, eq-eqb}
use Rattle.grs_world.proofs.Common.{Event, false, hist, HistEntry, is_by, LegalFrom, lines_of, List, list_any}
use Rattle.grs_world.proofs.Common.{list_any-append, Meaning, no_truth, None, Option, or_left, or_right, refl, removes}
use Rattle.grs_world.proofs.Common.{same_task-exact, Some, subst, sym, TaskId, true}
use Rattle.std.specs.Prelude.{IsSomeAnd}
use Rattle.grs_legal.specs.Legal.{IsLegal, Legal, MayAsk, MayStand, entries_of}
use Rattle.grs_wire.specs.declared.history.HistEntry.TheVariants.{Enq, Deq, Release, Look, Remove}
use Rattle.grs_world.specs.Removing.{NoneFollows}

-- what a task asks stands behind no removal of its system
live_by : (deck : Deck) (u : TaskId) (P : List HistEntry) (h : HistEntry) → MayAsk deck u P h
    → list_any (removes u.system) P ≡ false
live_by deck u P h may = go (lines_of deck u) may
  where
    go : (o : Option (List Meaning)) → IsSomeAnd o (λ ls. IsLegal deck.limit u ls P h)
        → list_any (removes u.system) P ≡ false
    go None k = absurd k
    go (Some ls) k = k.live

stands_live : (deck : Deck) (t : TaskId) (P : List HistEntry) (h : HistEntry) → MayStand deck P h → is_by t h ≡ true
    → list_any (removes t.system) P ≡ false
stands_live deck t P (Enq u r c ret code) may by =
    subst (λ (z : TaskId). list_any (removes z.system) P ≡ false) (sym (same_task-exact t u by))
    (live_by deck u P (Enq u r c ret code) may)
stands_live deck t P (Deq u r have code) may by =
    subst (λ (z : TaskId). list_any (removes z.system) P ≡ false) (sym (same_task-exact t u by))
    (live_by deck u P (Deq u r have code) may)
stands_live deck t P (Release u r) may by =
    subst (λ (z : TaskId). list_any (removes z.system) P ≡ false) (sym (same_task-exact t u by))
    (live_by deck u P (Release u r) may)
stands_live deck t P (Look u place f rows) may by =
    subst (λ (z : TaskId). list_any (removes z.system) P ≡ false) (sym (same_task-exact t u by))
    (live_by deck u P (Look u place f rows) may)
stands_live deck t P (Remove by target) may is = absurd (cc)

none-behind : (deck : Deck) (t : TaskId) (P hs : List HistEntry) → LegalFrom deck P hs
    → list_any (removes t.system) P ≡ true → entries_of t hs ≡ []
none-behind deck t P [] legal gone = refl
none-behind deck t P (h ∷ hs) legal gone =
    go (is_by t h) refl (none-behind deck t (P ++ h ∷ []) hs legal.1
    (list_any-append (removes t.system) P (h ∷ [])
    ∙ or_left (list_any (removes t.system) P) (list_any (removes t.system) (h ∷ [])) gone))
  where
    go : (b : Bool) → is_by t h ≡ b → entries_of t hs ≡ [] → cond b (h ∷ entries_of t hs) (entries_of t hs) ≡ []
    go true by more = no_truth (list_any (removes t.system) P) gone (stands_live deck t P h legal.0 by)
    go false by more = more

-- the entries behind others
legal-behind : (deck : Deck) (P xs ys : List HistEntry) → LegalFrom deck P (xs ++ ys) → LegalFrom deck (P ++ xs) ys
legal-behind deck P [] ys legal = subst (λ Q. LegalFrom deck Q ys) (sym (append-nil P)) legal
legal-behind deck P (x ∷ xs) ys legal =
    subst (λ Q. LegalFrom deck Q ys) (append_assoc P (x ∷ []) xs) (legal-behind deck (P ++ x ∷ []) xs ys legal.1)

pub legal_behind : (deck : Deck) (es : List Event) → Legal deck (hist deck es) → NoneFollows deck es
legal_behind deck es legal before behind by target t is home =
    let whole : hist deck es ≡ (before ++ Remove by target ∷ []) ++ behind =
    is ∙ sym (append_assoc before (Remove by target ∷ []) behind) in
    none-behind deck t (before ++ Remove by target ∷ []) behind
    (legal-behind deck [] (before ++ Remove by target ∷ []) behind (subst (LegalFrom deck []) whole legal))
    (list_any-append (removes t.system) before (Remove by target ∷ [])
    ∙ or_right (list_any (removes t.system) before) _
    (or_left (t.system.0 == target.0) false (eq-eqb t.system.0 target.0 home)))
