-- What a system knows of a task, in any mode, and the task's outstanding request: what it tells of the history, and how
-- it goes on.
use Rattle.std.proofs.Common.{◌≡◌, true, false, List, [], ◌∷◌, ◌++◌, Option, Some, None, refl, ap, sym, ◌∙◌, subst}
use Rattle.std.specs.Prelude.{is_some}
use Rattle.std.specs.List.{list_all, list_any}
use Rattle.std.proofs.lemmas.Bool.{or_left}
use Rattle.grs_base.specs.Lists.{owns}
use Rattle.grs_base.specs.State.{list_of}
use Rattle.grs_base.specs.declared.resource.Res.{Res}
use Rattle.grs_base.specs.declared.resource.TaskId.{TaskId}
use Rattle.grs_wire.specs.declared.deck.Deck.{Deck}
use Rattle.grs_wire.specs.declared.history.HistEntry.{HistEntry}
use Rattle.grs_wire.specs.declared.request.Fixed.TheVariants as fixing
use Rattle.task_state.specs.declared.state.Asked.{Asked}
use Rattle.task_state.specs.Replies.{is_leaving}
use Rattle.grs_known.specs.Items.{RunItem, is_of, removes_system_of, gives_back, lists, Made, history, tells}
use Rattle.grs_known.specs.Known.{Known, outstanding, Still, IsRight, falls_behind, learns_item, learns_control}
use Rattle.grs_known.specs.Past.{Past, past_by, past_of, after_entry, after_entries, Fits, Speaks, SpeaksOf, may_leave}
use Rattle.grs_known.proofs.lists.Shows.{is_look, looked, after-looks}
use Rattle.grs_known.proofs.lists.Truths.{false_by, no_truth}
use Rattle.grs_known.proofs.known.Fitting.{reply_fits}
use Rattle.grs_known.proofs.known.Histories.{IsHistory, IsLive, live-push}
use Rattle.grs_known.proofs.known.Knowing.{outstanding-other, learned-other, right-other, outstanding-own, learned-own}
use Rattle.grs_known.proofs.known.Knowing.{right-own, right-answer, given-told, right-control}
use Rattle.grs_known.proofs.known.Pasts.{past_grows, past_speaks, past_speaks_of}

-- the outstanding item is that of the outstanding request
abbrev pub IsOutstanding : Option Asked → Option RunItem → Type 0
IsOutstanding o None = Unit {0}
IsOutstanding None (Some x) = ⊥
IsOutstanding (Some a) (Some x) = x.fixed ≡ fixing.Asked a.req

-- What is known of a task is right, it is behind only with its outstanding request, and its system isn't removed.
pub record Knows (T : List RunItem) (t : TaskId) (o : Option Asked) (k : Known) : Type 0 where
  pub right : IsRight t k T
  pub request : IsOutstanding o (outstanding t k T)
  pub live : IsLive t T

-- ---- with nothing outstanding
pub known-all : (T : List RunItem) (t : TaskId) (k : Known) → IsRight t k T → outstanding t k T ≡ None
    → k.behind ≡ false
known-all T t k right e =
    false_by k.behind (λ b. absurd (let f : false ≡ true = ap is_some (sym e) ∙ right.waits b in cc))

-- a task without a request has no outstanding item
pub knows-closed : (T : List RunItem) (t : TaskId) (o : Option Asked) (k : Known) → o ≡ None → Knows T t o k
    → outstanding t k T ≡ None
knows-closed T t o k e h = go (outstanding t k T) (subst (λ z. IsOutstanding z (outstanding t k T)) e h.request)
  where
    go : (i : Option RunItem) → IsOutstanding None i → i ≡ None
    go None i = refl
    go (Some x) i = absurd i

-- then the past speaks of the history
pub speaks-known : (deck : Deck) (T : List RunItem) (t : TaskId) (k : Known) → IsHistory deck T → IsLive t T
    → IsRight t k T → outstanding t k T ≡ None → Speaks deck.limit t (past_of t k T) (history T)
speaks-known deck T t k g live right e =
    past_speaks deck.limit t k T g.made g.count live (known-all T t k right e) right

-- else of what the request doesn't give up
pub stays-asked : (r : Res) (o : Option Asked) (i : Option RunItem) → IsOutstanding o i → is_leaving r o ≡ false
    → may_leave r i ≡ false
stays-asked r o None h e = refl
stays-asked r None (Some x) h e = absurd h
stays-asked r (Some a) (Some x) h e = ap (gives_back r) h ∙ e

pub speaks_of-known : (deck : Deck) (T : List RunItem) (t : TaskId) (r : Res) (o : Option Asked) (k : Known)
    → IsHistory deck T → Knows T t o k → is_leaving r o ≡ false → SpeaksOf deck.limit t r (past_of t k T) (history T)
speaks_of-known deck T t r o k g h e =
    past_speaks_of deck.limit t r k T g.made g.count (stays-asked r o (outstanding t k T) h.request e) h.right

-- an owner by the lists is still one, where nothing gives the resource up
pub owns-still : (r : Res) (t : TaskId) (T : List RunItem) (i : Option RunItem) → may_leave r i ≡ false
    → owns (list_of (lists T) r) t ≡ true → Still r t T i
owns-still r t T None e h = h
owns-still r t T (Some x) e h = (λ f. h, λ f. no_truth (gives_back r x.fixed) f e)

-- ---- another task's item
pub knows-other : (T : List RunItem) (x : RunItem) (t : TaskId) (o : Option Asked) (k : Known) → is_of t x.fixed ≡ false
    → removes_system_of t x.fixed ≡ false → Knows T t o k → Knows (T ++ x ∷ []) t o k
knows-other T x t o k apart live h = record {
  right = right-other t k T x apart live h.right;
  request = subst (IsOutstanding o) (sym (outstanding-other t k T x apart)) h.request;
  live = live-push t T x h.live live;
}

pub past-other : (T : List RunItem) (x : RunItem) (t : TaskId) (k : Known) → is_of t x.fixed ≡ false
    → past_of t k (T ++ x ∷ []) ≡ past_of t k T
past-other T x t k apart = ap (λ xs. past_by k.owns (history xs)) (learned-other t k T x apart)

-- ---- its own item: it is behind
module _ (T : List RunItem) (x : RunItem) (t : TaskId) (k : Known) (own : is_of t x.fixed ≡ true)
    (now : k.behind ≡ false) where
  pub knows-behind : (a : Asked) → x.fixed ≡ fixing.Asked a.req → Made T x → IsLive t T → IsRight t k T
      → Knows (T ++ x ∷ []) t (Some a) (falls_behind k)
  knows-behind a e made live right = record {
    right = right-own t T x own k now made right;
    request = subst (IsOutstanding (Some a)) (sym (outstanding-own t T x own k)) e;
    live = live-push t T x live (ap (removes_system_of t) e);
  }

  pub past-behind : past_of t (falls_behind k) (T ++ x ∷ []) ≡ past_of t k T
  past-behind = ap (λ xs. past_by k.owns (history xs)) (learned-own t T x own k now)

-- ---- it is learned
-- What is known of a task once the item of this entry is learned; p was its past before.
pub record KnowsEntry (T : List RunItem) (t : TaskId) (p : Past) (h : HistEntry) : Type 0 where
  pub known : Known
  pub knows : Knows T t None known
  pub past : past_of t known T ≡ after_entry h p
  pub fits : Fits p h
  pub control : (r : Res) → tells r h ≡ true → owns (list_of (lists T) r) t ≡ true

pub entry-learned : (deck : Deck) (T : List RunItem) (x : RunItem) (t : TaskId) (k : Known) (h : HistEntry)
    → IsHistory deck T → IsLive t T → IsRight t k T → outstanding t k T ≡ Some x → x.entries ≡ h ∷ []
    → KnowsEntry T t (past_of t k T) h
entry-learned deck T x t k h g live right is one = record {
  known = learns_item k x;
  knows = record { right = right-answer t k T x is right; request = tt; live = live };
  past = past_grows t k T x is ∙ ap (λ hs. after_entries hs (past_of t k T)) one;
  fits = reply_fits t k T x h g.made live is one right;
  control = λ r e. given-told t k T x is right r (ap (list_any (tells r)) one ∙ or_left (tells r h) false e);
}

-- one that its system decides at once
pub entry-decided : (deck : Deck) (T : List RunItem) (x : RunItem) (t : TaskId) (k : Known) (h : HistEntry)
    → IsHistory deck (T ++ x ∷ []) → is_of t x.fixed ≡ true → Made T x → IsLive t (T ++ x ∷ []) → IsRight t k T
    → k.behind ≡ false → x.entries ≡ h ∷ [] →
    KnowsEntry (T ++ x ∷ []) t (past_of t k T) h
entry-decided deck T x t k h g own made live right now one =
    subst (λ p. KnowsEntry (T ++ x ∷ []) t p h) (past-behind T x t k own now)
    (entry-learned deck (T ++ x ∷ []) x t (falls_behind k) h g live (right-own t T x own k now made right)
    (outstanding-own t T x own k) one)

-- ---- looks are learned
-- What is known of a task once the item of these looks is learned; p was its past before.
pub record KnowsLooks (T : List RunItem) (t : TaskId) (p : Past) (hs : List HistEntry) : Type 0 where
  pub known : Known
  pub knows : Knows T t None known
  pub past : past_of t known T ≡ looked hs p

pub looks-learned : (T : List RunItem) (x : RunItem) (t : TaskId) (k : Known) → IsLive t T → IsRight t k T
    → outstanding t k T ≡ Some x → list_all is_look x.entries ≡ true → KnowsLooks T t (past_of t k T) x.entries
looks-learned T x t k live right is looks = record {
  known = learns_item k x;
  knows = record { right = right-answer t k T x is right; request = tt; live = live };
  past = past_grows t k T x is ∙ after-looks x.entries looks (past_of t k T);
}

-- and those that its system sees at once
pub looks-decided : (T : List RunItem) (x : RunItem) (t : TaskId) (k : Known) → is_of t x.fixed ≡ true → Made T x
    → IsLive t (T ++ x ∷ []) → IsRight t k T → k.behind ≡ false → list_all is_look x.entries ≡ true
    → KnowsLooks (T ++ x ∷ []) t (past_of t k T) x.entries
looks-decided T x t k own made live right now looks =
    subst (λ p. KnowsLooks (T ++ x ∷ []) t p x.entries) (past-behind T x t k own now)
    (looks-learned (T ++ x ∷ []) x t (falls_behind k) live (right-own t T x own k now made right)
    (outstanding-own t T x own k) looks)

-- a task that knows all may have a request
pub knows-asks : (T : List RunItem) (t : TaskId) (k : Known) (o : Option Asked) → Knows T t None k → Knows T t o k
knows-asks T t k o h = record {
  right = h.right;
  request = subst (IsOutstanding o) (sym (knows-closed T t None k refl h)) tt;
  live = h.live;
}

-- ---- control is learned
pub knows-control : (T : List RunItem) (t : TaskId) (r : Res) (o : Option Asked) (k : Known) → Knows T t o k
    → Still r t T (outstanding t k T) → Knows T t o (learns_control k r)
knows-control T t r o k h s = record { right = right-control t k T r h.right s; request = h.request; live = h.live }
