-- The reply in a task's outstanding item fits its past by what is known.
use Rattle.std.proofs.Common.{◌≡◌, zero, suc, Bool, true, false, cond, ◌&&◌, ◌||◌, List, [], ◌∷◌, ◌++◌, Option, Some}
use Rattle.std.proofs.Common.{None, refl, ap, sym, ◌∙◌, subst, append_assoc, append-nil}
use Rattle.std.specs.List.{list_any}
use Rattle.std.proofs.lemmas.Bool.{or_parts}
use Rattle.std.proofs.Math.Bool.{or-false}
use Rattle.grs_base.specs.Lists.{standing_of, can_have}
use Rattle.grs_base.specs.State.{list_of, deq_reply}
use Rattle.grs_base.specs.declared.resource.Res.{Res}
use Rattle.grs_base.specs.declared.resource.TaskId.{TaskId}
use Rattle.grs_base.proofs.SameLaws.{same_res-itself, same_task-exact}
use Rattle.grs_wire.specs.History.{entries_for, fixed_entries}
use Rattle.grs_wire.specs.declared.history.HistEntry.{HistEntry}
use Rattle.grs_wire.specs.declared.history.HistEntry.TheVariants as entries
use Rattle.grs_wire.specs.declared.request.Fixed.{Fixed}
use Rattle.grs_wire.specs.declared.request.Fixed.TheVariants.{Asked, LocalLook, Purged}
use Rattle.grs_wire.specs.declared.request.Want.{Want}
use Rattle.grs_wire.specs.declared.request.Want.TheVariants as wants
use Rattle.grs_wire.proofs.WantLaws.{absent-has}
use Rattle.task_state.specs.Replies.{is_granted, gives_up}
use Rattle.grs_known.specs.Items.{RunItem, is_of, removes_system_of, gives_back, took, mine, lists, AllMade, history}
use Rattle.grs_known.specs.Known.{all_but_last, last_of, learned, Still}
use Rattle.grs_known.specs.Past.{own_elements, own_after, past_of, has_own, Fits, ReplyFits}
use Rattle.grs_known.proofs.lists.Own.{has_task-own}
use Rattle.grs_known.proofs.lists.Requests.{queued-absent}
use Rattle.grs_known.proofs.lists.Truths.{false_by}
use Rattle.grs_known.proofs.known.Knowing.{all_but_last-push}
use Rattle.grs_known.proofs.known.Pasts.{elements_are_of_items}

-- ---- the last item of a task, among all
record LastMine (t : TaskId) (T : List RunItem) (x : RunItem) : Type 0 where
  before : List RunItem
  behind : List RunItem
  is : T ≡ before ++ x ∷ behind
  own : is_of t x.fixed ≡ true
  mine_is : mine t T ≡ mine t before ++ x ∷ []

last_mine : (t : TaskId) (T : List RunItem) (x : RunItem) → last_of (mine t T) ≡ Some x → LastMine t T x
last_mine t [] x e = absurd (cc)
last_mine t (y ∷ ys) x e = go (is_of t y.fixed) refl (mine t ys) refl e (last_mine t ys x)
  where
    longer : (b : Bool) → is_of t y.fixed ≡ b → LastMine t ys x → LastMine t (y ∷ ys) x
    longer b o l = record {
      before = y ∷ l.before;
      behind = l.behind;
      is = ap (λ zs. y ∷ zs) l.is;
      own = l.own;
      mine_is = by_own b o;
    }
      where
        by_own : (c : Bool) → is_of t y.fixed ≡ c → mine t (y ∷ ys) ≡ mine t (y ∷ l.before) ++ x ∷ []
        by_own true f = rw f (ap (λ zs. y ∷ zs) l.mine_is)
        by_own false f = rw f l.mine_is

    go : (b : Bool) → is_of t y.fixed ≡ b → (zs : List RunItem) → mine t ys ≡ zs → last_of (cond b (y ∷ zs) zs) ≡ Some x
        → (last_of (mine t ys) ≡ Some x → LastMine t ys x) → LastMine t (y ∷ ys) x
    go true o [] m f more =
        let same : y ≡ x = cc in
        record {
          before = [];
          behind = ys;
          is = ap (λ z. z ∷ ys) same;
          own = subst (λ (z : RunItem). is_of t z.fixed ≡ true) same o;
          mine_is = rw o (ap (λ zs. y ∷ zs) m ∙ ap (λ z. z ∷ []) same);
        }
    go true o (z ∷ zs) m f more = longer true o (more (ap last_of m ∙ f))
    go false o zs m f more = longer false o (more (ap last_of m ∙ f))

-- ---- how it was made
pub made-front : (F xs ys : List RunItem) → AllMade F (xs ++ ys) → AllMade F xs
made-front F [] ys made = tt
made-front F (x ∷ xs) ys made = (made.0, made-front (F ++ x ∷ []) xs ys made.1)

pub made-behind : (F xs ys : List RunItem) → AllMade F (xs ++ ys) → AllMade (F ++ xs) ys
made-behind F [] ys made = subst (λ G. AllMade G ys) (sym (append-nil F)) made
made-behind F (x ∷ xs) ys made =
    subst (λ G. AllMade G ys) (append_assoc F (x ∷ []) xs) (made-behind (F ++ x ∷ []) xs ys made.1)

live-front : (t : TaskId) (xs ys : List RunItem) → list_any (λ y. removes_system_of t y.fixed) (xs ++ ys) ≡ false
    → list_any (λ y. removes_system_of t y.fixed) xs ≡ false
live-front t [] ys e = refl
live-front t (x ∷ xs) ys e =
    let l = or_parts _ _ e in ap (λ b. b || list_any (λ y. removes_system_of t y.fixed) xs) l.0 ∙ live-front t xs ys l.1

head_same : (a b : HistEntry) (hs : List HistEntry) → a ∷ hs ≡ b ∷ [] → a ≡ b
head_same a b hs e = cc

behind_last : (o : Option RunItem) (x : RunItem) (b : Bool) → cond b o None ≡ Some x → (b ≡ true) × (o ≡ Some x)
behind_last o x true e = (refl, e)
behind_last o x false e = absurd (cc)

pub reply_fits : ReplyFits
reply_fits t k T x h made live out one right = by_fixed x.fixed refl last.own (sym at ∙ one)
  where
    is_last : (k.behind ≡ true) × (last_of (mine t T) ≡ Some x)
    is_last = behind_last (last_of (mine t T)) x k.behind out

    last : LastMine t T x
    last = last_mine t T x is_last.1

    made_T : AllMade [] (last.before ++ x ∷ last.behind)
    made_T = subst (AllMade []) last.is made

    at : x.entries ≡ fixed_entries (lists last.before) x.by x.fixed
    at = (made-behind [] last.before (x ∷ last.behind) made_T).0

    learned_is : learned t k T ≡ mine t last.before
    learned_is =
        ap (λ b. cond b (all_but_last (mine t T)) (mine t T)) is_last.0
        ∙ ap all_but_last last.mine_is
        ∙ all_but_last-push (mine t last.before) x

    elements : own_elements (lists last.before) t ≡ own_after [] (history (learned t k T))
    elements =
        elements_are_of_items t last.before (made-front [] last.before (x ∷ last.behind) made_T)
        (live-front t last.before (x ∷ last.behind)
        (subst (λ xs. list_any (λ y. removes_system_of t y.fixed) xs ≡ false) last.is live))
        ∙ ap (λ xs. own_after [] (history xs)) (sym learned_is)

    -- a DEQ of what the task is known to own was answered 00
    granted : (r : Res) (g : HistEntry) → gives_back r x.fixed ≡ true → x.entries ≡ g ∷ [] → k.owns r ≡ true
        → took r g ≡ true
    granted r g e is o =
        sym (or-false (took r g))
        ∙ (subst (λ hs. list_any (took r) hs ≡ true) is ((subst (Still r t T) out (right.owned r o)).1 e))

    by_want : (w : Want) → ((r : Res) → gives_up r w ≡ true → gives_back r x.fixed ≡ true)
        → entries_for (lists last.before) t w ≡ h ∷ [] → Fits (past_of t k T) h
    by_want (wants.Enq r c ret full) gives m = subst (Fits (past_of t k T)) (head_same _ h [] m)
        (λ q.
        sym (ap (has_own r) elements)
        ∙ sym (has_task-own (lists last.before) t r)
        ∙ absent-has (list_of (lists last.before) r) t (queued-absent (standing_of (list_of (lists last.before) r) t)
        ret full (can_have (list_of (lists last.before) r) c) q))
    by_want (wants.Deq r have) gives m =
        let is = head_same _ h [] m in
        subst (Fits (past_of t k T)) is (λ f.
        false_by (k.owns r) (λ o.
        absurd (let g : false ≡ true =
        sym (ap (λ b. b && is_granted (deq_reply (lists last.before) r t have)) (same_res-itself r) ∙ f)
        ∙ granted r (entries.Deq t r have (deq_reply (lists last.before) r t have)) (gives r (same_res-itself r))
        (one ∙ ap (λ z. z ∷ []) (sym is)) o in
        cc)))
    by_want (wants.Release r) gives m = subst (Fits (past_of t k T)) (head_same _ h [] m) tt
    by_want (wants.Look first zero f) gives m = absurd (cc)
    by_want (wants.Look first (suc count) f) gives m = subst (Fits (past_of t k T)) (head_same _ h _ m) tt

    by_fixed : (f : Fixed) → x.fixed ≡ f → is_of t f ≡ true → fixed_entries (lists last.before) x.by f ≡ h ∷ []
        → Fits (past_of t k T) h
    by_fixed (Asked q) e own m =
        by_want q.want (λ r g. ap (gives_back r) e ∙ g)
        (subst (λ u. entries_for (lists last.before) u q.want ≡ h ∷ []) (sym (same_task-exact t q.task own)) m)
    by_fixed (LocalLook u f) e own m = subst (Fits (past_of t k T)) (head_same _ h [] m) tt
    by_fixed (Purged target) e own m = cc
