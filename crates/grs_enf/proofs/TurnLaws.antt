-- Of each resource BEGIN and END come by turns.
use Rattle.std.proofs.Common.{◌≡◌, ℕ, suc, Bool, true, false, cond, T, List, [], ◌∷◌, ◌++◌, map, Option, Some, None}
use Rattle.std.proofs.Common.{refl, ap, sym, ◌∙◌, arith, append-nil, length, ◌-◌}
use Rattle.std.specs.Prelude.{filter, if◌then◌else◌}
use Rattle.std.specs.List.{flat_map, list_any}
use Rattle.std.specs.declared.cmp.Ordering.{Ordering}
use Rattle.std.specs.Ordering.{eq_by_cmp}
use Rattle.std.specs.Cmp.{IsTotalOrder}
use Rattle.std.specs.FinMap.{put, find, is_sorted, IsAntisymmetric}
use Rattle.std.specs.FinMap.Entries.{is_sorted-put, find-put, same_entries, where_key, is_sorted-where_key, find-where_key}
use Rattle.grs_base.specs.Same.{same_res}
use Rattle.grs_base.specs.Lists.{owners}
use Rattle.grs_base.specs.ResOrder.{res_order}
use Rattle.grs_base.specs.Rows.{lists_from, lists_of}
use Rattle.grs_base.specs.State.{State, list_of, is_full, is_systems, pick}
use Rattle.grs_base.specs.declared.resource.Ctl.{Ctl}
use Rattle.grs_base.specs.declared.resource.Ctl.TheVariants.{E, S}
use Rattle.grs_base.specs.declared.resource.Elem.{Elem}
use Rattle.grs_base.specs.declared.resource.Res.{Res}
use Rattle.grs_base.specs.declared.resource.SysId.{SysId}
use Rattle.grs_base.proofs.SameLaws.{same_task-exact, same_res-exact, same_res-sym}
use Rattle.grs_base.proofs.OrderLaws.{res_total, res_order-IsAntisymmetric, same_res-tie}
use Rattle.grs_wire.specs.History.{step, replay_from}
use Rattle.grs_wire.specs.Laws.{may_change, list_stepped}
use Rattle.grs_wire.specs.declared.history.HistEntry.{HistEntry}
use Rattle.grs_wire.specs.declared.history.HistEntry.TheVariants.{Enq, Deq, Release, Look, Remove}
use Rattle.grs_wire.proofs.HistoryLaws.{keeps_other_lists, steps_by_lists}
use Rattle.grs_enf.specs.declared.notice.Notice.{Notice}
use Rattle.grs_enf.specs.declared.notice.Noted.{Noted}
use Rattle.grs_enf.specs.declared.notice.What.{What}
use Rattle.grs_enf.specs.declared.notice.What.TheVariants.{Begin, Change, End as Ends}
use Rattle.grs_enf.specs.Same.{same_ctl, same_elems}
use Rattle.grs_enf.specs.Notices.{is_contended, what_of, whats, notices_at, resources_of, notices_among, noted, notices_by}
use Rattle.grs_enf.specs.Notices.{notices}
use Rattle.grs_enf.specs.Laws.{whats_of, leads, NoticesAlternate, OthersStay}

-- two stretches of notices, one behind the other
leads-append : (a b c : Bool) (xs ys : List What) → leads a xs b ≡ true → leads b ys c ≡ true → leads a (xs ++ ys) c ≡ true
leads-append false false c [] ys h g = g
leads-append false true c [] ys h g = cc
leads-append true false c [] ys h g = cc
leads-append true true c [] ys h g = g
leads-append false b c (Begin ∷ xs) ys h g = leads-append true b c xs ys h g
leads-append true b c (Begin ∷ xs) ys h g = cc
leads-append false b c (Change ∷ xs) ys h g = cc
leads-append true b c (Change ∷ xs) ys h g = leads-append true b c xs ys h g
leads-append false b c (Ends ∷ xs) ys h g = cc
leads-append true b c (Ends ∷ xs) ys h g = leads-append false b c xs ys h g

leads-same : (a : Bool) → leads a [] a ≡ true
leads-same true = refl
leads-same false = refl

leads-what : (a b : Bool) → leads a (what_of a b) b ≡ true
leads-what false false = refl
leads-what false true = refl
leads-what true true = refl
leads-what true false = refl

-- lists that are compared as the same are one
ctl-exact : (c d : Ctl) → same_ctl c d ≡ true → c ≡ d
ctl-exact E E h = refl
ctl-exact E S h = cc
ctl-exact S E h = cc
ctl-exact S S h = refl

elem-one : (e f : Elem) → e.task ≡ f.task → e.ctl ≡ f.ctl → e ≡ f
elem-one e f p q = λ i. record { task = p i; ctl = q i }

elems-exact : (es fs : List Elem) → same_elems es fs ≡ true → es ≡ fs
elems-exact [] [] h = refl
elems-exact [] (f ∷ fs) h = cc
elems-exact (e ∷ es) [] h = cc
elems-exact (e ∷ es) (f ∷ fs) h =
    let one : e ≡ f =
    elem-one e f (same_task-exact e.task f.task (grind (arith, h))) (ctl-exact e.ctl f.ctl (grind (arith, h))) in
    let rest : es ≡ fs = elems-exact es fs (grind (arith, h)) in
    λ i. one i ∷ rest i

-- one list, before and after
leads-whats : (before after : List Elem)
    → leads (is_contended before) (whats before after) (is_contended after) ≡ true
leads-whats before after = by (same_elems before after) refl
  where
    by : (s : Bool) → same_elems before after ≡ s
        → leads (is_contended before)
        (if s then [] else what_of (is_contended before) (is_contended after)) (is_contended after) ≡ true
    by true e =
        ap (λ (es : List Elem). leads (is_contended es) [] (is_contended after)) (elems-exact before after e)
        ∙ leads-same (is_contended after)
    by false e = leads-what (is_contended before) (is_contended after)

leads-unchanged : (before after : List Elem) → after ≡ before
    → leads (is_contended before) [] (is_contended after) ≡ true
leads-unchanged before after e =
    ap (λ (es : List Elem). leads (is_contended before) [] (is_contended es)) e ∙ leads-same (is_contended before)

-- what is noticed of one resource among many
pick-append : {X Y : Type 0} (p : X → Bool) (f : X → Y) (xs ys : List X) → pick p f (xs ++ ys) ≡ pick p f xs ++ pick p f ys
pick-append p f [] ys = refl
pick-append {X} {Y} p f (x ∷ xs) ys = by (p x) (pick-append p f xs ys)
  where
    by : (b : Bool) → pick p f (xs ++ ys) ≡ pick p f xs ++ pick p f ys
        → cond b (f x ∷ pick p f (xs ++ ys)) (pick p f (xs ++ ys))
        ≡ cond b (f x ∷ pick p f xs) (pick p f xs) ++ pick p f ys
    by true rest = ap (λ (zs : List Y). f x ∷ zs) rest
    by false rest = rest

abbrev of_res : Res → List Notice → List What
of_res r ns = pick (λ n. same_res r n.res) (λ n. n.what) ns

of_noted : (r : Res) (n : ℕ) (ns : List Notice) → whats_of r (noted n ns) ≡ of_res r ns
of_noted r n [] = refl
of_noted r n (x ∷ ns) = ap (λ (ws : List What). cond (same_res r x.res) (x.what ∷ ws) ws) (of_noted r n ns)

abbrev nothing : List What
nothing = []

of_same : (r q : Res) (before after : List Elem)
    → of_res r (notices_at q before after) ≡ cond (same_res r q) (whats before after) []
of_same r q before after = by (whats before after)
  where
    step : (b : Bool) (w : What) (ws : List What) → cond b (w ∷ cond b ws []) (cond b ws []) ≡ cond b (w ∷ ws) []
    step true w ws = refl
    step false w ws = refl

    none : (b : Bool) → nothing ≡ cond b [] []
    none true = refl
    none false = refl

    by : (ws : List What)
        → of_res r (map (λ w. record { what = w; res = q; owners = owners after; waiters = length after - owners after }) ws)
        ≡ cond (same_res r q) ws []
    by [] = none (same_res r q)
    by (w ∷ ws) =
        ap (λ (vs : List What). cond (same_res r q) (w ∷ vs) vs) (by ws) ∙ step (same_res r q) w ws

module _ (before after : State) where
  abbrev whats_at : Res → List What
  whats_at q = whats (list_of before q) (list_of after q)

  of_among : (r : Res) (rs : List Res)
      → of_res r (notices_among before after rs) ≡ flat_map whats_at (filter (same_res r) rs)
  of_among r [] = refl
  of_among r (q ∷ rs) =
      pick-append (λ n. same_res r n.res) (λ n. n.what) (notices_at q (list_of before q) (list_of after q))
      (notices_among before after rs)
      ∙ ap (λ (ws : List What). ws ++ of_res r (notices_among before after rs))
      (of_same r q (list_of before q) (list_of after q))
      ∙ ap (λ (ws : List What). cond (same_res r q) (whats_at q) [] ++ ws) (of_among r rs)
      ∙ step (same_res r q)
    where
      step : (b : Bool)
          → cond b (whats_at q) [] ++ flat_map whats_at (filter (same_res r) rs)
          ≡ flat_map whats_at (cond b (q ∷ filter (same_res r) rs) (filter (same_res r) rs))
      step true = refl
      step false = refl

  -- the resource stands once among them
  leads-once : (r : Res) (rs : List Res) → filter (same_res r) rs ≡ r ∷ []
      → leads (is_contended (list_of before r)) (of_res r (notices_among before after rs))
      (is_contended (list_of after r)) ≡ true
  leads-once r rs once =
      ap (λ (ws : List What). leads (is_contended (list_of before r)) ws (is_contended (list_of after r)))
      (of_among r rs ∙ ap (flat_map whats_at) once ∙ append-nil (whats_at r))
      ∙ leads-whats (list_of before r) (list_of after r)

  -- it doesn't stand there, and its list stays
  leads-never : (r : Res) (rs : List Res) → filter (same_res r) rs ≡ [] → list_of after r ≡ list_of before r
      → leads (is_contended (list_of before r)) (of_res r (notices_among before after rs))
      (is_contended (list_of after r)) ≡ true
  leads-never r rs none same =
      ap (λ (ws : List What). leads (is_contended (list_of before r)) ws (is_contended (list_of after r)))
      (of_among r rs ∙ ap (flat_map whats_at) none)
      ∙ leads-unchanged (list_of before r) (list_of after r) same

-- the list of a resource, if it has elements
abbrev some_list : List Elem → Option (List Elem)
some_list [] = None
some_list (e ∷ es) = Some (e ∷ es)

abbrev Lists : Type 0
Lists = List (Res × List Elem)

abbrev single : Res → List Elem → Lists
single r [] = []
single r (e ∷ es) = (r, e ∷ es) ∷ []

module _ (R : Res → Res → Ordering) (total : IsTotalOrder R) (exact : IsAntisymmetric R)
    (tie : (a b : Res) → same_res a b ≡ eq_by_cmp R a b) where
  abbrev from : State → State → Lists
  from s [] = []
  from s (h ∷ hs) = put R h.0 (list_of s h.0) (from s hs)

  from-sorted : (s hs : State) → T (is_sorted R (from s hs))
  from-sorted s [] = tt
  from-sorted s (h ∷ hs) = is_sorted-put R total h.0 (list_of s h.0) (from s hs) (from-sorted s hs)

  abbrev shown : List Elem → List Elem → Option (List Elem)
  shown [] ys = None
  shown (x ∷ xs) ys = Some ys

  find-from : (s hs : State) (q : Res) → find R q (from s hs) ≡ shown (list_of hs q) (list_of s q)
  find-from s [] q = refl
  find-from s (h ∷ hs) q =
      find-put R total q h.0 (list_of s h.0) (from s hs)
      ∙ ap (λ (b : Bool). cond b (Some (list_of s h.0)) (find R q (from s hs))) (sym (tie q h.0))
      ∙ step (same_res q h.0) refl (find-from s hs q)
    where
      step : (b : Bool) → same_res q h.0 ≡ b → find R q (from s hs) ≡ shown (list_of hs q) (list_of s q)
          → cond b (Some (list_of s h.0)) (find R q (from s hs))
          ≡ shown (cond b (h.1 ∷ list_of hs q) (list_of hs q)) (list_of s q)
      step true e rest = ap (λ (r : Res). Some (list_of s r)) (sym (same_res-exact q h.0 e))
      step false e rest = rest

  shown-itself : (xs : List Elem) → shown xs xs ≡ some_list xs
  shown-itself [] = refl
  shown-itself (x ∷ xs) = refl

  single-sorted : (r : Res) (xs : List Elem) → T (is_sorted R (single r xs))
  single-sorted r [] = tt
  single-sorted r (x ∷ xs) = tt

  find-single : (r q : Res) (xs : List Elem) → find R q (single r xs) ≡ cond (same_res r q) (some_list xs) None
  find-single r q [] = by (same_res r q)
    where
      by : (b : Bool) → None ≡ cond b (some_list []) None
      by true = refl
      by false = refl
  find-single r q (x ∷ xs) = ap (λ (b : Bool). cond b (Some (x ∷ xs)) None) (sym (tie q r) ∙ same_res-sym q r)

  keys-once : (s : State) (r : Res) → where_key R (same_res r) (from s s) ≡ single r (list_of s r)
  keys-once s r =
      same_entries R total exact (where_key R (same_res r) (from s s)) (single r (list_of s r))
      (is_sorted-where_key R (same_res r) (from s s) (from-sorted s s)) (single-sorted r (list_of s r))
      (λ q.
      find-where_key R (same_res r) q (λ x tied. ap (same_res r) (sym (exact q x tied))) (from s s)
      ∙ ap (λ (o : Option (List Elem)). cond (same_res r q) o None) (find-from s s q ∙ shown-itself (list_of s q))
      ∙ by_test q (same_res r q) refl
      ∙ sym (find-single r q (list_of s r)))
    where
      by_test : (q : Res) (b : Bool) → same_res r q ≡ b
          → cond b (some_list (list_of s q)) None ≡ cond b (some_list (list_of s r)) None
      by_test q true e = ap (λ (x : Res). some_list (list_of s x)) (sym (same_res-exact r q e))
      by_test q false e = refl

lists_from-from : (s hs : State)
    → lists_from s hs ≡ from res_order res_total res_order-IsAntisymmetric same_res-tie s hs
lists_from-from s [] = refl
lists_from-from s (h ∷ hs) = ap (put res_order h.0 (list_of s h.0)) (lists_from-from s hs)

abbrev keys : Lists → List Res
keys es = map (λ e. e.0) es

keys-where : (t : Res → Bool) (es : Lists) → filter t (keys es) ≡ keys (filter (λ e. t e.0) es)
keys-where t [] = refl
keys-where t (e ∷ es) = by (t e.0) (keys-where t es)
  where
    by : (b : Bool) → filter t (keys es) ≡ keys (filter (λ x. t x.0) es) → cond b (e.0 ∷ filter t (keys es)) (filter t (keys es))
        ≡ keys (cond b (e ∷ filter (λ x. t x.0) es) (filter (λ x. t x.0) es))
    by true rest = ap (λ (rs : List Res). e.0 ∷ rs) rest
    by false rest = rest

filter-swap : (p q : Res → Bool) (rs : List Res) → filter p (filter q rs) ≡ filter q (filter p rs)
filter-swap p q [] = refl
filter-swap p q (r ∷ rs) = grind (arith, filter-swap p q rs)

-- a resource stands once among those with elements, if it has some
resource-once : (s : State) (r : Res) → filter (same_res r) (keys (lists_of s)) ≡ keys (single r (list_of s r))
resource-once s r =
    ap (λ (es : Lists). filter (same_res r) (keys es)) (lists_from-from s s)
    ∙ keys-where (same_res r) (from res_order res_total res_order-IsAntisymmetric same_res-tie s s)
    ∙ ap keys (keys-once res_order res_total res_order-IsAntisymmetric same_res-tie s r)

module _ (limit : ℕ) (s : State) (by target : SysId) (r : Res) where
  abbrev after : State
  after = step limit s (Remove by target)

  leads-removal : leads (is_contended (list_of s r))
      (of_res r (notices_among s after (filter is_systems (keys (lists_of s))))) (is_contended (list_of after r)) ≡ true
  leads-removal = by_list (list_of s r) (is_systems r) refl refl
    where
      there : (es : List Elem) → list_of s r ≡ es
          → filter (same_res r) (filter is_systems (keys (lists_of s))) ≡ filter is_systems (keys (single r es))
      there es e =
          filter-swap (same_res r) is_systems (keys (lists_of s))
          ∙ ap (filter is_systems) (resource-once s r ∙ ap (λ (xs : List Elem). keys (single r xs)) e)

      by_list : (es : List Elem) (b : Bool) → list_of s r ≡ es → is_systems r ≡ b
          → leads (is_contended (list_of s r))
          (of_res r (notices_among s after (filter is_systems (keys (lists_of s))))) (is_contended (list_of after r))
          ≡ true
      by_list [] true e k =
          leads-never s after r (filter is_systems (keys (lists_of s))) (there [] e)
          (steps_by_lists limit s (Remove by target) r k
          ∙ ap (λ (xs : List Elem). list_stepped (is_full limit s) xs (Remove by target)) e ∙ sym e)
      by_list [] false e k =
          leads-never s after r (filter is_systems (keys (lists_of s))) (there [] e)
          (keeps_other_lists limit s (Remove by target) r k)
      by_list (x ∷ xs) true e k =
          leads-once s after r (filter is_systems (keys (lists_of s)))
          (there (x ∷ xs) e ∙ ap (λ (b : Bool). cond b (r ∷ []) []) k)
      by_list (x ∷ xs) false e k =
          leads-never s after r (filter is_systems (keys (lists_of s)))
          (there (x ∷ xs) e ∙ ap (λ (b : Bool). cond b (r ∷ []) []) k)
          (keeps_other_lists limit s (Remove by target) r k)

-- ---- no other list changes
none-filtered : (p : Res → Bool) (rs : List Res) → list_any p rs ≡ false → filter p rs ≡ []
none-filtered p [] none = refl
none-filtered p (r ∷ rs) none = grind (arith, none, none-filtered p rs)

others-removal : (limit : ℕ) (s : State) (by target : SysId) (r : Res)
    → filter (same_res r) (filter is_systems (keys (lists_of s))) ≡ []
    → list_of (step limit s (Remove by target)) r ≡ list_of s r
others-removal limit s by target r never = by_list (list_of s r) (is_systems r) refl refl
  where
    by_list : (es : List Elem) (b : Bool) → list_of s r ≡ es → is_systems r ≡ b
        → list_of (step limit s (Remove by target)) r ≡ list_of s r
    by_list es false e k = keeps_other_lists limit s (Remove by target) r k
    by_list [] true e k =
        steps_by_lists limit s (Remove by target) r k
        ∙ ap (λ (xs : List Elem). list_stepped (is_full limit s) xs (Remove by target)) e ∙ sym e
    by_list (x ∷ xs) true e k =
        let there : filter (same_res r) (filter is_systems (keys (lists_of s))) ≡ filter is_systems (r ∷ []) =
        filter-swap (same_res r) is_systems (keys (lists_of s))
        ∙ ap (filter is_systems) (resource-once s r ∙ ap (λ (ys : List Elem). keys (single r ys)) e) in
        let once : [] ≡ r ∷ [] = sym never ∙ there ∙ ap (λ (b : Bool). cond b (r ∷ []) []) k in
        cc

pub others_stay : OthersStay
others_stay limit s (Enq t q c ret code) r none =
    keeps_other_lists limit s (Enq t q c ret code) r (grind (arith, none))
others_stay limit s (Deq t q have code) r none = keeps_other_lists limit s (Deq t q have code) r (grind (arith, none))
others_stay limit s (Release t q) r none = keeps_other_lists limit s (Release t q) r (grind (arith, none))
others_stay limit s (Look t place f rows) r none = refl
others_stay limit s (Remove by target) r none =
    others-removal limit s by target r
    (none-filtered (same_res r) (filter is_systems (map (λ e. e.0) (lists_of s))) none)

-- a request for one resource
leads-request : (limit : ℕ) (s : State) (h : HistEntry) (q r : Res) → (same_res r q ≡ false → may_change h r ≡ false)
    → leads (is_contended (list_of s r)) (of_res r (notices_among s (step limit s h) (q ∷ [])))
    (is_contended (list_of (step limit s h) r))
    ≡ true
leads-request limit s h q r other = by (same_res r q) refl
  where
    by : (b : Bool) → same_res r q ≡ b
        → leads (is_contended (list_of s r)) (of_res r (notices_among s (step limit s h) (q ∷ [])))
        (is_contended (list_of (step limit s h) r))
        ≡ true
    by true e =
        leads-once s (step limit s h) r (q ∷ [])
        (ap (λ (b : Bool). cond b (q ∷ []) []) e ∙ ap (λ (x : Res). x ∷ []) (sym (same_res-exact r q e)))
    by false e =
        leads-never s (step limit s h) r (q ∷ []) (ap (λ (b : Bool). cond b (q ∷ []) []) e)
        (keeps_other_lists limit s h r (other e))

leads-entry : (limit : ℕ) (s : State) (h : HistEntry) (r : Res)
    → leads (is_contended (list_of s r)) (of_res r (notices_among s (step limit s h) (resources_of s h)))
    (is_contended (list_of (step limit s h) r))
    ≡ true
leads-entry limit s (Enq t q c ret code) r = leads-request limit s (Enq t q c ret code) q r (λ e. e)
leads-entry limit s (Deq t q have code) r = leads-request limit s (Deq t q have code) q r (λ e. e)
leads-entry limit s (Release t q) r = leads-request limit s (Release t q) q r (λ e. e)
leads-entry limit s (Look t place f rows) r = leads-same (is_contended (list_of s r))
leads-entry limit s (Remove by target) r = leads-removal limit s by target r

leads-from : (limit : ℕ) (s : State) (n : ℕ) (hs : List HistEntry) (r : Res)
    → leads (is_contended (list_of s r)) (whats_of r (notices_by (step limit) s n hs))
    (is_contended (list_of (replay_from limit s hs) r))
    ≡ true
leads-from limit s n [] r = leads-same (is_contended (list_of s r))
leads-from limit s n (h ∷ hs) r =
    let next : State = step limit s h in
    let first : List Noted = noted n (notices_among s next (resources_of s h)) in
    ap (λ (ws : List What). leads (is_contended (list_of s r)) ws (is_contended (list_of (replay_from limit next hs) r)))
    (pick-append (λ (x : Noted). same_res r x.notice.res) (λ (x : Noted). x.notice.what) first
    (notices_by (step limit) next (suc n) hs)
    ∙ ap (λ (ws : List What). ws ++ whats_of r (notices_by (step limit) next (suc n) hs))
    (of_noted r n (notices_among s next (resources_of s h))))
    ∙ leads-append (is_contended (list_of s r)) (is_contended (list_of next r))
    (is_contended (list_of (replay_from limit next hs) r)) (of_res r (notices_among s next (resources_of s h)))
    (whats_of r (notices_by (step limit) next (suc n) hs)) (leads-entry limit s h r)
    (leads-from limit next (suc n) hs r)

pub notices_turn : NoticesAlternate
notices_turn limit hist r = leads-from limit [] 1 hist r
