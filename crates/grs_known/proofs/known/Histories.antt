-- The history of a run as items: each is a request of a task of the deck or its look at the lists of its system, with
-- the entries that the lists give it, or the removal of a system; and it is legal where it stands.
use Rattle.std.proofs.Common.{◌≡◌, zero, suc, Bool, cond, true, false, not, ◌&&◌, ◌||◌, List, [], ◌∷◌, ◌++◌, Option}
use Rattle.std.proofs.Common.{Some, None, refl, ap, sym, ◌∙◌, subst, append-nil, append_assoc}
use Rattle.std.specs.Prelude.{ℕ, is_some, length, ◌==◌}
use Rattle.std.specs.List.{list_all, list_any}
use Rattle.std.proofs.lemmas.Option.{same_Some}
use Rattle.std.proofs.Math.Bool.{or-false}
use Rattle.std.proofs.lemmas.Bool.{and_from, and_parts, or_parts}
use Rattle.std.proofs.lemmas.List.Folds.{list_any-append}
use Rattle.grs_base.specs.Lists.{owns, has_task}
use Rattle.grs_base.specs.State.{State, list_of, is_systems, remove_state}
use Rattle.grs_base.specs.declared.look.Filter.{Filter}
use Rattle.grs_base.specs.declared.resource.Res.{Res}
use Rattle.grs_base.specs.declared.resource.SysId.{SysId}
use Rattle.grs_base.specs.declared.resource.TaskId.{TaskId}
use Rattle.grs_legal.specs.Asks.{lines_of}
use Rattle.grs_legal.specs.Legal.{Legal, LegalFrom, MayRemove}
use Rattle.grs_wire.specs.History.{removes, replay, after_fixed, look_entries, entries_for, fixed_entries}
use Rattle.grs_wire.specs.Decks.{AreOrders}
use Rattle.grs_wire.specs.Wants.{after_want, res_wanted}
use Rattle.grs_wire.specs.declared.deck.Deck.{Deck}
use Rattle.grs_wire.specs.declared.history.HistEntry.{HistEntry}
use Rattle.grs_wire.specs.declared.history.HistEntry.TheVariants.{Remove}
use Rattle.grs_wire.specs.declared.request.Fixed.{Fixed}
use Rattle.grs_wire.specs.declared.request.Fixed.TheVariants.{Asked, LocalLook, Purged}
use Rattle.grs_wire.specs.declared.request.Req.{Req}
use Rattle.grs_wire.specs.declared.request.Want.{Want}
use Rattle.grs_wire.specs.declared.request.Want.TheVariants as wants
use Rattle.grs_known.specs.Items.{RunItem, wants_round, goes_round, removes_system_of, lists, lists_from, Made, AllMade}
use Rattle.grs_known.specs.Items.{Counts, AllCount, history, items, items_from}
use Rattle.grs_known.proofs.lists.All.{all-want, has_task-all, owns-has}
use Rattle.grs_known.proofs.lists.Facts.{all-filter, all-kept}
use Rattle.grs_known.proofs.lists.Parts.{is_res_of}
use Rattle.grs_known.proofs.lists.Truths.{eqb-flip}
use Rattle.grs_known.proofs.known.ItemLaws.{lists-push, lists_are_replayed}
use Rattle.grs_known.proofs.known.Pasts.{history-append}

-- whether a task may ask for a resource: it is one of the whole complex or of the task's system; looks ask for none
abbrev pub AsksHere : TaskId → Option Res → Type 0
AsksHere t None = Unit {0}
AsksHere t (Some r) = (is_systems r || is_res_of t.system.0 r) ≡ true

-- An item is a request of a task of the deck.
pub record IsAsk (deck : Deck) (x : RunItem) : Type 0 where
  pub req : Req
  pub asked : x.fixed ≡ Asked req
  pub known : is_some (lines_of deck req.task) ≡ true
  pub place : AsksHere req.task (res_wanted req.want)

-- Or it is a look of such a task at the lists of its system, or removes a system.
pub data AsksOrRemoves (deck : Deck) (x : RunItem) : Type 0 where
  an_ask : IsAsk deck x → AsksOrRemoves deck x
  a_look : (t : TaskId) (f : Filter) → x.fixed ≡ LocalLook t f → is_some (lines_of deck t) ≡ true → AsksOrRemoves deck x
  a_removal : (target : SysId) → x.fixed ≡ Purged target → AsksOrRemoves deck x

abbrev pub AllAsk : Deck → List RunItem → Type 0
AllAsk deck [] = Unit {0}
AllAsk deck (x ∷ xs) = AsksOrRemoves deck x × AllAsk deck xs

-- no desk of the deck commands the removal of its own system, or of one that isn't there
abbrev pub OrdersFit : Deck → Type 0
OrdersFit deck = AreOrders (length deck.systems) 0 deck.systems

-- A task may stand on a resource behind these items: none of them removes its system, or the resource isn't one of the
-- whole complex.
abbrev pub may_stand : List RunItem → Res → TaskId → Bool
may_stand T r t = not (is_systems r && list_any (λ x. removes_system_of t x.fixed) T)

-- who stands somewhere behind them may
abbrev pub AllStand : List RunItem → Type 0
AllStand T = list_all (λ h. may_stand T h.0 h.1.task) (lists T) ≡ true

-- The history is legal, where the desks' commands are of other systems that are there.
pub record IsHistory (deck : Deck) (T : List RunItem) : Type 0 where
  pub made : AllMade [] T
  pub count : AllCount deck.limit [] T
  pub asks : AllAsk deck T
  pub stand : AllStand T
  pub legal : OrdersFit deck → Legal deck (history T)

-- none of these items removes the task's system
abbrev pub IsLive : TaskId → List RunItem → Type 0
IsLive t T = list_any (λ x. removes_system_of t x.fixed) T ≡ false

-- A request may stand behind these items, each of its entries behind those before it.
pub record MayFollow (deck : Deck) (T : List RunItem) (x : RunItem) : Type 0 where
  pub ask : IsAsk deck x
  pub live : IsLive ask.req.task T
  pub made : Made T x
  pub counts : Counts deck.limit (lists T) x.fixed
  pub stands : LegalFrom deck (history T) x.entries

-- A look of a task at the lists of its system may stand behind these items.
pub record MayLook (deck : Deck) (T : List RunItem) (x : RunItem) : Type 0 where
  pub task : TaskId
  pub filter : Filter
  pub looks : x.fixed ≡ LocalLook task filter
  pub known : is_some (lines_of deck task) ≡ true
  pub made : Made T x
  pub stands : LegalFrom deck (history T) x.entries

-- A removal may stand behind these items.
pub record MayPurge (deck : Deck) (T : List RunItem) (x : RunItem) : Type 0 where
  pub target : SysId
  pub purged : x.fixed ≡ Purged target
  pub made : Made T x
  pub stands : OrdersFit deck → MayRemove deck (history T) x.by target

-- What a system fixes behind these items, as an item.
abbrev pub made_item : SysId → List RunItem → Fixed → RunItem
made_item c T f = record { by = c; fixed = f; entries = fixed_entries (lists T) c f }

-- ---- one item more
made-push : (F T : List RunItem) (x : RunItem) → AllMade F T → Made (F ++ T) x → AllMade F (T ++ x ∷ [])
made-push F [] x a m = (subst (λ U. Made U x) (append-nil F) m, tt)
made-push F (y ∷ T) x a
    m = (a.0, made-push (F ++ y ∷ []) T x a.1 (subst (λ U. Made U x) (sym (append_assoc F (y ∷ []) T)) m))

count-push : (limit : ℕ) (F T : List RunItem) (x : RunItem) → AllCount limit F T → Counts limit (lists (F ++ T)) x.fixed
    → AllCount limit F (T ++ x ∷ [])
count-push limit F [] x a c = (subst (λ U. Counts limit (lists U) x.fixed) (append-nil F) c, tt)
count-push limit F (y ∷ T) x a c = (
  a.0,
  count-push limit (F ++ y ∷ []) T x a.1
      (subst (λ U. Counts limit (lists U) x.fixed) (sym (append_assoc F (y ∷ []) T)) c),
)

pub asks-push : (deck : Deck) (T : List RunItem) (x : RunItem) → AllAsk deck T → AsksOrRemoves deck x
    → AllAsk deck (T ++ x ∷ [])
asks-push deck [] x a i = (i, tt)
asks-push deck (y ∷ T) x a i = (a.0, asks-push deck T x a.1 i)

legal-append : (deck : Deck) (P hs gs : List HistEntry) → LegalFrom deck P hs → LegalFrom deck (P ++ hs) gs
    → LegalFrom deck P (hs ++ gs)
legal-append deck P [] gs a b = subst (λ Q. LegalFrom deck Q gs) (append-nil P) b
legal-append deck P (h ∷ hs) gs a b = (
  a.0,
  legal-append deck (P ++ h ∷ []) hs gs a.1 (subst (λ Q. LegalFrom deck Q gs) (sym (append_assoc P (h ∷ []) hs)) b),
)

history-push : (T : List RunItem) (x : RunItem) → history (T ++ x ∷ []) ≡ history T ++ x.entries
history-push T x = history-append T (x ∷ []) ∙ ap (λ hs. history T ++ hs) (append-nil x.entries)

-- who may stand, behind one item more
any-push : (T : List RunItem) (x : RunItem) (f : Fixed) → x.fixed ≡ f → (t : TaskId)
    → list_any (λ y. removes_system_of t y.fixed) (T ++ x ∷ [])
    ≡ (list_any (λ y. removes_system_of t y.fixed) T || removes_system_of t f)
any-push T x f is t = list_any-append (λ y. removes_system_of t y.fixed) T (x ∷ [])
    ∙ ap (λ b. list_any (λ y. removes_system_of t y.fixed) T || b)
    (or-false (removes_system_of t x.fixed) ∙ ap (removes_system_of t) is)

stand-ask : (T : List RunItem) (x : RunItem) (q : Req) → x.fixed ≡ Asked q → IsLive q.task T → AllStand T
    → AllStand (T ++ x ∷ [])
stand-ask T x q asked live all =
    subst (λ s. list_all (λ h. may_stand (T ++ x ∷ []) h.0 h.1.task) s ≡ true)
    (sym (lists-push T x ∙ ap (after_fixed (lists T)) asked))
    (all-kept (λ h. may_stand T h.0 h.1.task) (λ h. may_stand (T ++ x ∷ []) h.0 h.1.task)
    (λ h may. same h.0 h.1.task ∙ may) (after_want (lists T) q.task q.want)
    (all-want (may_stand T) (lists T) q.task q.want
    (λ r e. ap (λ b. not (is_systems r && b)) live ∙ both_false (is_systems r)) all))
  where
    both_false : (b : Bool) → not (b && false) ≡ true
    both_false true = refl
    both_false false = refl

    same : (r : Res) (t : TaskId) → may_stand (T ++ x ∷ []) r t ≡ may_stand T r t
    same r t =
        ap (λ b. not (is_systems r && b))
        (any-push T x (Asked q) asked t ∙ or-false (list_any (λ y. removes_system_of t y.fixed) T))

stand-look : (T : List RunItem) (x : RunItem) (t : TaskId) (f : Filter) → x.fixed ≡ LocalLook t f → AllStand T
    → AllStand (T ++ x ∷ [])
stand-look T x t f looks all =
    subst (λ s. list_all (λ h. may_stand (T ++ x ∷ []) h.0 h.1.task) s ≡ true)
    (sym (lists-push T x ∙ ap (after_fixed (lists T)) looks))
    (all-kept (λ h. may_stand T h.0 h.1.task) (λ h. may_stand (T ++ x ∷ []) h.0 h.1.task)
    (λ h may. same h.0 h.1.task ∙ may) (lists T) all)
  where
    same : (r : Res) (u : TaskId) → may_stand (T ++ x ∷ []) r u ≡ may_stand T r u
    same r u =
        ap (λ b. not (is_systems r && b))
        (any-push T x (LocalLook t f) looks u ∙ or-false (list_any (λ y. removes_system_of u y.fixed) T))

stand-purge : (T : List RunItem) (x : RunItem) (target : SysId) → x.fixed ≡ Purged target → AllStand T
    → AllStand (T ++ x ∷ [])
stand-purge T x target purged all =
    subst (λ s. list_all (λ h. may_stand (T ++ x ∷ []) h.0 h.1.task) s ≡ true)
    (sym (lists-push T x ∙ ap (after_fixed (lists T)) purged)) (go (lists T) all)
  where
    neither : (a b c : Bool) → not (a && b) ≡ true → not (a && c) ≡ true → not (a && (b || c)) ≡ true
    neither true true c h k = absurd (cc)
    neither true false c h k = k
    neither false b c h k = refl

    now : (r : Res) (t : TaskId) → may_stand T r t ≡ true → not (is_systems r && (target.0 == t.system.0)) ≡ true
        → may_stand (T ++ x ∷ []) r t ≡ true
    now r t may stays =
        ap (λ b. not (is_systems r && b)) (any-push T x (Purged target) purged t)
        ∙ neither (is_systems r) (list_any (λ y. removes_system_of t y.fixed) T) (target.0 == t.system.0) may stays

    go : (s : State) → list_all (λ h. may_stand T h.0 h.1.task) s ≡ true
        → list_all (λ h. may_stand (T ++ x ∷ []) h.0 h.1.task) (remove_state s target.0) ≡ true
    go [] may = refl
    go (h ∷ s) may =
        let both = and_parts (may_stand T h.0 h.1.task) (list_all (λ z. may_stand T z.0 z.1.task) s) may in
        kept (not (is_systems h.0 && (target.0 == h.1.task.system.0))) refl both.0 (go s both.1)
      where
        kept : (b : Bool) → not (is_systems h.0 && (target.0 == h.1.task.system.0)) ≡ b
            → may_stand T h.0 h.1.task ≡ true
            → list_all (λ z. may_stand (T ++ x ∷ []) z.0 z.1.task) (remove_state s target.0) ≡ true →
            list_all (λ z. may_stand (T ++ x ∷ []) z.0 z.1.task)
            (cond b (h ∷ remove_state s target.0) (remove_state s target.0))
            ≡ true
        kept true stays here more = and_from _ _ (now h.0 h.1.task here stays) more
        kept false gone here more = more

pub follows : (deck : Deck) (T : List RunItem) (x : RunItem) → IsHistory deck T → MayFollow deck T x
    → IsHistory deck (T ++ x ∷ [])
follows deck T x g m = record {
  made = made-push [] T x g.made m.made;
  count = count-push deck.limit [] T x g.count m.counts;
  asks = asks-push deck T x g.asks (an_ask m.ask);
  stand = stand-ask T x m.ask.req m.ask.asked m.live g.stand;
  legal = λ fit.
      subst (LegalFrom deck []) (sym (history-push T x))
      (legal-append deck [] (history T) x.entries (g.legal fit) m.stands);
}

-- and a look at a system's own lists
pub follows-look : (deck : Deck) (T : List RunItem) (x : RunItem) → IsHistory deck T → MayLook deck T x
    → IsHistory deck (T ++ x ∷ [])
follows-look deck T x g m = record {
  made = made-push [] T x g.made m.made;
  count = count-push deck.limit [] T x g.count (subst (Counts deck.limit (lists T)) (sym m.looks) tt);
  asks = asks-push deck T x g.asks (a_look m.task m.filter m.looks m.known);
  stand = stand-look T x m.task m.filter m.looks g.stand;
  legal = λ fit.
      subst (LegalFrom deck []) (sym (history-push T x))
      (legal-append deck [] (history T) x.entries (g.legal fit) m.stands);
}

-- and a removal
pub follows-purge : (deck : Deck) (T : List RunItem) (x : RunItem) → IsHistory deck T → MayPurge deck T x
    → IsHistory deck (T ++ x ∷ [])
follows-purge deck T x g m = record {
  made = made-push [] T x g.made m.made;
  count = count-push deck.limit [] T x g.count (subst (Counts deck.limit (lists T)) (sym m.purged) tt);
  asks = asks-push deck T x g.asks (a_removal m.target m.purged);
  stand = stand-purge T x m.target m.purged g.stand;
  legal = λ fit.
      subst (LegalFrom deck []) (sym (history-push T x ∙ ap (λ hs. history T ++ hs) entry))
      (legal-append deck [] (history T) (Remove x.by m.target ∷ []) (g.legal fit) (m.stands fit, tt));
}
  where
    entry : x.entries ≡ Remove x.by m.target ∷ []
    entry = m.made ∙ ap (fixed_entries (lists T) x.by) m.purged

items_from-append : (s : State) (fs gs : List (SysId × Fixed))
    → items_from s (fs ++ gs) ≡ items_from s fs ++ items_from (lists_from s (items_from s fs)) gs
items_from-append s [] gs = refl
items_from-append s (x ∷ fs) gs =
    ap (λ xs. record { by = x.0; fixed = x.1; entries = fixed_entries s x.0 x.1 } ∷ xs)
    (items_from-append (after_fixed s x.1) fs gs)

pub items-append : (fs gs : List (SysId × Fixed)) → items (fs ++ gs) ≡ items fs ++ items_from (lists (items fs)) gs
items-append fs gs = items_from-append [] fs gs

-- ---- fronts
pub asks-front : (deck : Deck) (xs ys : List RunItem) → AllAsk deck (xs ++ ys) → AllAsk deck xs
asks-front deck [] ys a = tt
asks-front deck (x ∷ xs) ys a = (a.0, asks-front deck xs ys a.1)

pub asks-behind : (deck : Deck) (xs ys : List RunItem) → AllAsk deck (xs ++ ys) → AllAsk deck ys
asks-behind deck [] ys a = a
asks-behind deck (x ∷ xs) ys a = asks-behind deck xs ys a.1

pub count-front : (limit : ℕ) (F xs ys : List RunItem) → AllCount limit F (xs ++ ys) → AllCount limit F xs
count-front limit F [] ys a = tt
count-front limit F (x ∷ xs) ys a = (a.0, count-front limit (F ++ x ∷ []) xs ys a.1)

-- ---- what such items are
pub wants-round : (w : Want) (r : Res) → res_wanted w ≡ Some r → wants_round w ≡ is_systems r
wants-round (wants.Enq q c ret full) r e = ap is_systems (same_Some q r e)
wants-round (wants.Deq q have) r e = ap is_systems (same_Some q r e)
wants-round (wants.Release q) r e = ap is_systems (same_Some q r e)
wants-round (wants.Look first count f) r e = absurd (cc)

pub wants-looks : (w : Want) → res_wanted w ≡ None → wants_round w ≡ true
wants-looks (wants.Enq q c ret full) e = absurd (cc)
wants-looks (wants.Deq q have) e = absurd (cc)
wants-looks (wants.Release q) e = absurd (cc)
wants-looks (wants.Look first count f) e = refl

pub goes-ask : (deck : Deck) (x : RunItem) (a : IsAsk deck x) (r : Res) → res_wanted a.req.want ≡ Some r
    → goes_round x.fixed ≡ is_systems r
goes-ask deck x a r wanted = ap goes_round a.asked ∙ wants-round a.req.want r wanted

pub goes-looks : (deck : Deck) (x : RunItem) (a : IsAsk deck x) → res_wanted a.req.want ≡ None
    → goes_round x.fixed ≡ true
goes-looks deck x a none = ap goes_round a.asked ∙ wants-looks a.req.want none

pub stays-ask : (deck : Deck) (t : TaskId) (x : RunItem) → IsAsk deck x → removes_system_of t x.fixed ≡ false
stays-ask deck t x a = ap (removes_system_of t) a.asked

-- ---- who is live
pub live-push : (t : TaskId) (T : List RunItem) (x : RunItem) → IsLive t T → removes_system_of t x.fixed ≡ false
    → IsLive t (T ++ x ∷ [])
live-push t T x live stays = list_any-append (λ y. removes_system_of t y.fixed) T (x ∷ []) ∙ rw (live, stays) refl

pub live-behind : (t : TaskId) (front rest : List RunItem) → IsLive t (front ++ rest) → IsLive t rest
live-behind t front rest live =
    (or_parts (list_any (λ y. removes_system_of t y.fixed) front) (list_any (λ y. removes_system_of t y.fixed) rest)
    (sym (list_any-append (λ y. removes_system_of t y.fixed) front rest) ∙ live)).1

pub live-front : (t : TaskId) (front rest : List RunItem) → IsLive t (front ++ rest) → IsLive t front
live-front t front rest live =
    (or_parts (list_any (λ y. removes_system_of t y.fixed) front) (list_any (λ y. removes_system_of t y.fixed) rest)
    (sym (list_any-append (λ y. removes_system_of t y.fixed) front rest) ∙ live)).0

-- The history has the removal of a task's system exactly where an item is that.
looks-keep : (s : State) (t : TaskId) (first count : ℕ) (f : Filter) (u : SysId)
    → list_any (removes u) (look_entries s t first count f) ≡ false
looks-keep s t first zero f u = refl
looks-keep s t first (suc count) f u = looks-keep s t (suc first) count f u

pub ask-keeps : (s : State) (t : TaskId) (w : Want) (u : SysId) → list_any (removes u) (entries_for s t w) ≡ false
ask-keeps s t (wants.Enq r c ret full) u = refl
ask-keeps s t (wants.Deq r have) u = refl
ask-keeps s t (wants.Release r) u = refl
ask-keeps s t (wants.Look first count f) u = looks-keep s t first count f u

fixed-removes : (s : State) (by : SysId) (f : Fixed) (t : TaskId)
    → list_any (removes t.system) (fixed_entries s by f) ≡ removes_system_of t f
fixed-removes s by (Asked q) t = ask-keeps s q.task q.want t.system
fixed-removes s by (LocalLook u f) t = refl
fixed-removes s by (Purged target) t = or-false (t.system.0 == target.0) ∙ eqb-flip t.system.0 target.0

pub removes-history : (F T : List RunItem) → AllMade F T → (t : TaskId)
    → list_any (removes t.system) (history T) ≡ list_any (λ x. removes_system_of t x.fixed) T
removes-history F [] made t = refl
removes-history F (x ∷ xs) made t =
    list_any-append (removes t.system) x.entries (history xs)
    ∙ ap (λ b. b || list_any (removes t.system) (history xs))
    (ap (list_any (removes t.system)) made.0 ∙ fixed-removes (lists F) x.by x.fixed t)
    ∙ ap (λ b. removes_system_of t x.fixed || b) (removes-history (F ++ x ∷ []) xs made.1 t)

pub replayed : (deck : Deck) (T : List RunItem) → IsHistory deck T → lists T ≡ replay deck.limit (history T)
replayed deck T g = lists_are_replayed deck.limit T g.made g.count

-- ---- who has elements
-- whether a task of the deck may have an element on a resource
abbrev pub may_have : Deck → Res → TaskId → Bool
may_have deck r t = is_some (lines_of deck t) && (is_systems r || is_res_of t.system.0 r)

pub elements-ask : (deck : Deck) (s : State) (xs : List RunItem) → AllAsk deck xs
    → list_all (λ h. may_have deck h.0 h.1.task) s ≡ true
    → list_all (λ h. may_have deck h.0 h.1.task) (lists_from s xs) ≡ true
elements-ask deck s [] a h = h
elements-ask deck s (x ∷ xs) a h = elements-ask deck (after_fixed s x.fixed) xs a.1 (by_item a.0)
  where
    by_item : AsksOrRemoves deck x → list_all (λ h. may_have deck h.0 h.1.task) (after_fixed s x.fixed) ≡ true
    by_item (a_removal target is) =
        subst (λ f. list_all (λ h. may_have deck h.0 h.1.task) (after_fixed s f) ≡ true) (sym is)
        (all-filter (λ h. may_have deck h.0 h.1.task) (λ h. not (is_systems h.0 && (target.0 == h.1.task.system.0))) s
        h)
    by_item (a_look t f is known) =
        subst (λ z. list_all (λ h. may_have deck h.0 h.1.task) (after_fixed s z) ≡ true) (sym is) h
    by_item (an_ask i) = subst (λ f. list_all (λ h. may_have deck h.0 h.1.task) (after_fixed s f) ≡ true) (sym i.asked)
        (all-want (may_have deck) s i.req.task i.req.want
        (λ r e. and_from _ _ i.known (subst (AsksHere i.req.task) e i.place)) h)

-- who has an element may have it, and so may an owner
pub has-may : (deck : Deck) (T : List RunItem) (r : Res) (t : TaskId) → AllAsk deck T
    → has_task (list_of (lists T) r) t ≡ true → may_have deck r t ≡ true
has-may deck T r t a h = has_task-all (may_have deck) (lists T) r t (elements-ask deck [] T a refl) h

pub owns-may : (deck : Deck) (T : List RunItem) (r : Res) (t : TaskId) → AllAsk deck T
    → owns (list_of (lists T) r) t ≡ true → may_have deck r t ≡ true
owns-may deck T r t a h = has-may deck T r t a (owns-has (list_of (lists T) r) t h)
