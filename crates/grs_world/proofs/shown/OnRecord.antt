-- What the tasks of the live systems have on record of a resource: where each task has there its elements of a list,
-- with its rank, all have together the elements of the list by their tasks.
use Rattle.grs_world.proofs.Common.{[], ◌++◌, ◌+◌, ◌∙◌, ◌∷◌, ◌≡◌, ap, arith, Bool, cond, Ctl, Deck, Elem, false, filter}
use Rattle.grs_world.proofs.Common.{filter-append, has, List, list_of, map, map-append, names_of, NodeState, None}
use Rattle.grs_world.proofs.Common.{PartRec, Rec, refl, Res, same_res, same_Some, same_task, same_task-exact, slice_get}
use Rattle.grs_world.proofs.Common.{Some, State, subst, suc, sym, TaskId, TaskState, true, World, ℕ}
use Rattle.contention_mgr.specs.Installs.{elem_of}
use Rattle.grs_known.proofs.tasks.Invariant.{key}
use Rattle.grs_known.specs.Past.{own_elements}
use Rattle.grs_legal.specs.Asks.{Script}
use Rattle.grs_node.specs.Names.{names_from}
use Rattle.system_purge.specs.Gather.{part_rec, records_of}
use Rattle.grs_world.proofs.shown.ByTask.{of_task, of_tasks, of_tasks-append}
use Rattle.grs_world.proofs.shown.Names.{live_names, task_at}
use Rattle.grs_world.proofs.shown.Sorted.{AreRanked}
use Rattle.grs_world.proofs.star.hearing.Ranks.{HaveRank}
use Rattle.grs_world.specs.Kept.{caught_up, on_record, shown_from}

-- ---- the elements of one task
-- its own elements on a resource
abbrev own_on : Res → TaskId → List (Res × Ctl) → List Elem
own_on r t [] = []
own_on r t (k ∷ ks) = cond (same_res r k.0) (record { task = t; ctl = k.1 } ∷ own_on r t ks) (own_on r t ks)

-- are those that it has in the list
own-listed : (r : Res) (t : TaskId) (s : State) → own_on r t (own_elements s t) ≡ of_task t (list_of s r)
own-listed r t [] = refl
own-listed r t (h ∷ s) = go (same_res r h.0) (same_task t h.1.task) refl refl (own-listed r t s)
  where
    -- whether the first element is of the resource, and of the task
    go : (a b : Bool) → same_res r h.0 ≡ a → same_task t h.1.task ≡ b
        → own_on r t (own_elements s t) ≡ of_task t (list_of s r)
        → own_on r t (cond b ((h.0, h.1.ctl) ∷ own_elements s t) (own_elements s t))
        ≡ of_task t (cond a (h.1 ∷ list_of s r) (list_of s r))
    go true true is mine more =
        let first : Elem = record { task = t; ctl = h.1.ctl } in
        ap (λ d. cond d (first ∷ own_on r t (own_elements s t)) (own_on r t (own_elements s t))) is
        ∙ (ap (λ (u : TaskId). record { task = u; ctl = h.1.ctl } ∷ own_on r t (own_elements s t))
        (same_task-exact t h.1.task mine)
        ∙ (ap (λ (es : List Elem). h.1 ∷ es) more
        ∙ sym (ap (λ d. cond d (h.1 ∷ of_task t (list_of s r)) (of_task t (list_of s r))) mine)))
    go true false is other more =
        more ∙ sym (ap (λ d. cond d (h.1 ∷ of_task t (list_of s r)) (of_task t (list_of s r))) other)
    go false true off mine more =
        ap
        (λ d.
        cond d (record { task = t; ctl = h.1.ctl } ∷ own_on r t (own_elements s t)) (own_on r t (own_elements s t)))
        off
        ∙ more
    go false false off other more = more

-- what it has on record of a resource, as a part tells of it
abbrev pub own_recs : Res → TaskId → List Rec → List PartRec
own_recs r t xs = filter (λ y. same_res r y.res) (map (part_rec t) xs)

recs-elems : (r : Res) (t : TaskId) (xs : List Rec) → map elem_of (own_recs r t xs) ≡ own_on r t (map key xs)
recs-elems r t [] = refl
recs-elems r t (x ∷ xs) = go (same_res r x.res) (recs-elems r t xs)
  where
    go : (b : Bool) → map elem_of (own_recs r t xs) ≡ own_on r t (map key xs) →
        map elem_of (cond b (part_rec t x ∷ own_recs r t xs) (own_recs r t xs))
        ≡ cond b (record { task = t; ctl = x.ctl } ∷ own_on r t (map key xs)) (own_on r t (map key xs))
    go true more = ap (λ (es : List Elem). record { task = t; ctl = x.ctl } ∷ es) more
    go false more = more

-- where its records are its own elements by these lists, these are those that it has in the list of the resource
pub keys-listed : (r : Res) (t : TaskId) (s : State) (xs : List Rec) → map key xs ≡ own_elements s t
    → map elem_of (own_recs r t xs) ≡ of_task t (list_of s r)
keys-listed r t s xs keys = recs-elems r t xs ∙ (ap (own_on r t) keys ∙ own-listed r t s)

pub recs-ranked : (r : Res) (rank : TaskId → ℕ) (t : TaskId) (xs : List Rec) → HaveRank r (rank t) xs
    → AreRanked r rank (own_recs r t xs)
recs-ranked r rank t [] h = tt
recs-ranked r rank t (x ∷ xs) h = go (same_res r x.res) refl (recs-ranked r rank t xs h.1)
  where
    go : (b : Bool) → same_res r x.res ≡ b → AreRanked r rank (own_recs r t xs)
        → AreRanked r rank (cond b (part_rec t x ∷ own_recs r t xs) (own_recs r t xs))
    go true e more = (h.0 e, more)
    go false e more = more

-- ---- the records of many
module _ (r : Res) (rank : TaskId → ℕ) (listed : List Elem) where
  -- Records that have these tasks' elements of the list, with their ranks.
  pub record HaveThese (ts : List TaskId) (zs : List PartRec) : Type 0 where
    pub elems : map elem_of zs ≡ of_tasks ts listed
    pub ranked : AreRanked r rank zs

  ranked-both : (ys zs : List PartRec) → AreRanked r rank ys → AreRanked r rank zs → AreRanked r rank (ys ++ zs)
  ranked-both [] zs first second = second
  ranked-both (y ∷ ys) zs first second = (first.0, ranked-both ys zs first.1 second)

  have-both : (ts us : List TaskId) (ys zs : List PartRec) → HaveThese ts ys → HaveThese us zs
      → HaveThese (ts ++ us) (ys ++ zs)
  have-both ts us ys zs first second = record {
    elems =
        map-append elem_of ys zs
        ∙ (ap (λ (es : List Elem). es ++ map elem_of zs) first.elems
        ∙ (ap (λ (es : List Elem). of_tasks ts listed ++ es) second.elems ∙ sym (of_tasks-append ts us listed)));
    ranked = ranked-both ys zs first.ranked second.ranked;
  }

  -- a task that has so its elements of the list on record
  pub record HasOwn (t : TaskId) (xs : List Rec) : Type 0 where
    pub elems : map elem_of (own_recs r t xs) ≡ of_task t listed
    pub ranked : AreRanked r rank (own_recs r t xs)

  -- so do the tasks of a system, one by one
  abbrev pub AllOwn : List TaskId → List TaskState → Type 0
  AllOwn [] ys = Unit {0}
  AllOwn (t ∷ ts) [] = ⊥
  AllOwn (t ∷ ts) (y ∷ ys) = HasOwn t y.records × AllOwn ts ys

  own-have : (ts : List TaskId) (ys : List TaskState) → AllOwn ts ys
      → HaveThese ts (filter (λ y. same_res r y.res) (records_of ts ys))
  own-have [] ys h = record { elems = refl; ranked = tt }
  own-have (t ∷ ts) [] h = absurd h
  own-have (t ∷ ts) (y ∷ ys) h =
      let more = own-have ts ys h.1 in
      let is = filter-append (λ (z : PartRec). same_res r z.res) (map (part_rec t) y.records) (records_of ts ys) in
      record {
        elems =
            ap (λ (zs : List PartRec). map elem_of zs) is
            ∙ (map-append elem_of (own_recs r t y.records) (filter (λ z. same_res r z.res) (records_of ts ys))
            ∙ (ap (λ (es : List Elem). es ++ map elem_of (filter (λ z. same_res r z.res) (records_of ts ys))) h.0.elems
            ∙ ap (λ (es : List Elem). of_task t listed ++ es) more.elems));
        ranked =
            subst (λ (zs : List PartRec). AreRanked r rank zs) (sym is)
            (ranked-both (own_recs r t y.records) (filter (λ z. same_res r z.res) (records_of ts ys)) h.0.ranked
            more.ranked);
      }

  -- what there is for each script
  abbrev HasScript : ℕ → ℕ → Script → List TaskState → ℕ → Type 0
  HasScript s n x ys k = (y : TaskState) × (slice_get ys k ≡ Some y) × HasOwn (task_at s x.job (n + k)) y.records

  all-own : (s n : ℕ) (xs : List Script) (ys : List TaskState)
      → ((k : ℕ) (x : Script) → slice_get xs k ≡ Some x → HasScript s n x ys k) → AllOwn (names_from s n xs) ys
  all-own s n [] ys h = tt
  all-own s n (x ∷ xs) [] h =
      let z = h 0 x refl in absurd (let no : None ≡ Some z.0 = z.1 in cc)
  all-own s n (x ∷ xs) (y ∷ ys) h = (first (h 0 x refl), all-own s (suc n) xs ys (λ k z at. later k z (h (suc k) z at)))
    where
      first : HasScript s n x (y ∷ ys) 0 → HasOwn (task_at s x.job n) y.records
      first z =
          let place : n + 0 ≡ n = omega arith in
          subst (λ i. HasOwn (task_at s x.job i) y.records) place
          (subst (λ (a : TaskState). HasOwn (task_at s x.job (n + 0)) a.records) (sym (same_Some y z.0 z.1)) z.2)

      later : (k : ℕ) (z : Script) → HasScript s n z (y ∷ ys) (suc k) → HasScript s (suc n) z ys k
      later k z a =
          let place : n + suc k ≡ suc n + k = omega arith in
          (a.0, a.1, subst (λ i. HasOwn (task_at s z.job i) (a.0).records) place a.2)

  -- what a system has so on record, and what all live ones show
  pub system-has : (deck : Deck) (s : ℕ) (n : NodeState) (xs : List Script)
      → names_of deck n.tasks.system ≡ names_from s 0 xs
      → ((k : ℕ) (x : Script) → slice_get xs k ≡ Some x
      → (y : TaskState) × (slice_get n.tasks.tasks k ≡ Some y) × HasOwn (task_at s x.job (0 + k)) y.records)
      → HaveThese (names_from s 0 xs) (on_record deck n r)
  system-has deck s n xs named each =
      subst
      (λ (ts : List TaskId).
      HaveThese (names_from s 0 xs) (filter (λ y. same_res r y.res) (records_of ts n.tasks.tasks)))
      (sym named) (own-have (names_from s 0 xs) n.tasks.tasks (all-own s 0 xs n.tasks.tasks each))

  pub shown-have : (deck : Deck) (w : World) (s : ℕ) (ns : List NodeState)
      → ((k : ℕ) (n : NodeState) → slice_get ns k ≡ Some n → has w.medium.removed (s + k) ≡ false →
      HaveThese (names_of deck (s + k)) (on_record deck (caught_up deck w (record { 0 = s + k }) n) r))
      → HaveThese (live_names deck w.medium.removed s ns) (shown_from deck w r s ns)
  shown-have deck w s [] each = record { elems = refl; ranked = tt }
  shown-have deck w s (n ∷ ns) each =
      have-both (cond (has w.medium.removed s) [] (names_of deck s)) (live_names deck w.medium.removed (s + 1) ns)
      (cond (has w.medium.removed s) [] (on_record deck (caught_up deck w (record { 0 = s }) n) r))
      (shown_from deck w r (s + 1) ns) (go (has w.medium.removed s) refl)
      (shown-have deck w (s + 1) ns (λ k m at alive. later k m at alive))
    where
      one : Type 0
      one = HaveThese (names_of deck s) (on_record deck (caught_up deck w (record { 0 = s }) n) r)

      here : has w.medium.removed s ≡ false → one
      here alive =
          let place : s + 0 ≡ s = omega arith in
          subst (λ i. HaveThese (names_of deck i) (on_record deck (caught_up deck w (record { 0 = i }) n) r)) place
          (each 0 n refl (subst (λ i. has w.medium.removed i ≡ false) (sym place) alive))

      later : (k : ℕ) (m : NodeState) → slice_get ns k ≡ Some m → has w.medium.removed (s + 1 + k) ≡ false
          → HaveThese (names_of deck (s + 1 + k)) (on_record deck (caught_up deck w (record { 0 = s + 1 + k }) m) r)
      later k m at alive =
          let place : s + suc k ≡ s + 1 + k = omega arith in
          subst (λ i. HaveThese (names_of deck i) (on_record deck (caught_up deck w (record { 0 = i }) m) r)) place
          (each (suc k) m at (subst (λ i. has w.medium.removed i ≡ false) (sym place) alive))

      go : (b : Bool) → has w.medium.removed s ≡ b →
          HaveThese (cond b [] (names_of deck s))
          (cond b [] (on_record deck (caught_up deck w (record { 0 = s }) n) r))
      go true e = record { elems = refl; ranked = tt }
      go false e = here e
