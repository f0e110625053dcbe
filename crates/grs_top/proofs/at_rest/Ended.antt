-- Where each system's last call was answered that all have come to rest, or that the system was removed, the world is
-- at rest.
use Rattle.std.proofs.Common.{◌≡◌, ◌≢◌, ◌<◌, ◌+◌, ◌⊎◌, ℕ, suc, Bool, true, false, cond, not, ◌&&◌, ◌||◌, List, [], ◌∷◌}
use Rattle.std.proofs.Common.{◌++◌, length, map, Some, refl, ap, sym, ◌∙◌, subst, inl, inr, arith, append-nil}
use Rattle.std.proofs.Common.{length-append}
use Rattle.std.specs.Prelude.{slice_get, ◌==◌}
use Rattle.std.proofs.Math.Bool.{or-false}
use Rattle.std.proofs.lemmas.Bool.{and_parts, and_from, or_from, eq-eqb, true≢false}
use Rattle.std.proofs.lemmas.Option.{slice_get_within}
use Rattle.std.proofs.lemmas.List.Elements.{filter-append}
use Rattle.grs_base.specs.declared.resource.SysId.{SysId}
use Rattle.grs_bus.specs.Journal.{is_acted_on, is_entered, entry_of, after_all, entries_of}
use Rattle.grs_bus.specs.Seats.{with_entry}
use Rattle.grs_medium.proofs.CauseLaws.{removed_comes}
use Rattle.grs_medium.proofs.KeptSizes.{keeps_systems}
use Rattle.grs_medium.proofs.SetLaws.{all_others_false}
use Rattle.grs_medium.specs.Apply.{resting, rest_row, row, row_changes, changes, apply, reply_to, medium_after}
use Rattle.grs_medium.specs.Medium.{MediumState, systems_of, all_rest, medium_at_end}
use Rattle.grs_wire.specs.Replies.{is_listed}
use Rattle.grs_node.specs.Log.{NodeView}
use Rattle.grs_node.specs.Node.{NodeState}
use Rattle.grs_wire.proofs.MaskLaws.{has-zero, with-present}
use Rattle.grs_wire.specs.Masks.{has}
use Rattle.grs_wire.specs.declared.deck.Deck.{Deck}
use Rattle.grs_wire.specs.declared.deck.Event.{Event}
use Rattle.grs_wire.specs.declared.medium.Act.{Act}
use Rattle.grs_wire.specs.declared.medium.Act.TheVariants as acts
use Rattle.grs_wire.specs.declared.medium.Call.{Call}
use Rattle.grs_wire.specs.declared.medium.JEntry.{JEntry}
use Rattle.grs_wire.specs.declared.medium.Reply.{Reply}
use Rattle.grs_wire.specs.declared.medium.Reply.TheVariants.{Over, Resting, Stale, Removed}
use Rattle.grs_medium.proofs.Replies.{replies_are_listed}
use Rattle.grs_workers.specs.Beside.{medium_of, IsServed, AreServed, RanBeside, LastCall, AllLast}
use Rattle.grs_workers.specs.Stands.{is_last_reply}
use Rattle.grs_world.proofs.at_rest.RingEnd.{no_length}
use Rattle.grs_world.proofs.system.First.{systems_of-first}
use Rattle.grs_world.specs.Running.{at_rest, is_busy, none_busy}
use Rattle.grs_world.specs.World.{World, run}
use Rattle.rsa_message.specs.Message.{any_unseen}
use Rattle.grs_top.proofs.merged.Live.{stays_there, was_there}
use Rattle.grs_top.proofs.at_rest.Idle.{AreInformed, IsInformed, runs_idle}

-- ---- lists

-- behind the part that has all entries of the last one's system there is nothing
nothing-behind : (ys pre more : List JEntry) (e : JEntry) → ys ++ more ≡ pre ++ e ∷ [] → entries_of e.system.0 more ≡ []
    → more ≡ []
nothing-behind [] pre more e same none =
    let last : entries_of e.system.0 more ≡ entries_of e.system.0 pre ++ e ∷ [] =
    ap (entries_of e.system.0) same ∙ filter-append (λ (x : JEntry). x.system.0 == e.system.0) pre (e ∷ [])
    ∙ ap (λ (b : Bool). entries_of e.system.0 pre ++ cond b (e ∷ []) []) (eq-eqb e.system.0 e.system.0 refl) in
    let n : length (entries_of e.system.0 pre ++ e ∷ []) ≡ length (entries_of e.system.0 pre) + 1 =
    length-append (entries_of e.system.0 pre) (e ∷ []) in
    let clash : length (entries_of e.system.0 pre) + 1 ≡ 0 = sym n ∙ ap length (sym last ∙ none) in
    absurd (omega (arith, clash))
nothing-behind (y ∷ ys) [] more e same none = by_rest ys refl
  where
    by_rest : (zs : List JEntry) → ys ≡ zs → more ≡ []
    by_rest [] is = let rest : ys ++ more ≡ [] = cc in ap (λ (l : List JEntry). l ++ more) (sym is) ∙ rest
    by_rest (z ∷ zs) is =
        let rest : ys ++ more ≡ [] = cc in
        let clash : z ∷ (zs ++ more) ≡ [] = ap (λ (l : List JEntry). l ++ more) (sym is) ∙ rest in
        absurd (cc)
nothing-behind (y ∷ ys) (p ∷ pre) more e same none =
    let rest : ys ++ more ≡ pre ++ e ∷ [] = cc in nothing-behind ys pre more e rest none

-- a journal is empty, or has a last entry
record HasLast (es : List JEntry) : Type 0 where
  before : List JEntry
  last : JEntry
  is : es ≡ before ++ last ∷ []

last_entry : (e : JEntry) (es : List JEntry) → HasLast (e ∷ es)
last_entry e [] = record { before = []; last = e; is = refl }
last_entry e (x ∷ es) =
    let l = last_entry x es in
    record { before = e ∷ l.before; last = l.last; is = ap (λ (ys : List JEntry). e ∷ ys) l.is }

-- nothing more of a system's entries is behind those that it has already
none-more : (s : ℕ) (ys more : List JEntry) → entries_of s (ys ++ more) ≡ entries_of s ys → entries_of s more ≡ []
none-more s ys more same =
    by_rest (entries_of s more) (ap length (sym same ∙ filter-append (λ (x : JEntry). x.system.0 == s) ys more)
    ∙ length-append (entries_of s ys) (entries_of s more))
  where
    by_rest : (l : List JEntry) → length (entries_of s ys) ≡ length (entries_of s ys) + length l → l ≡ []
    by_rest [] h = refl
    by_rest (x ∷ l) h = absurd (omega (arith, h))

after_all-append : (m : MediumState) (es fs : List JEntry) → after_all m (es ++ fs) ≡ after_all (after_all m es) fs
after_all-append m [] fs = refl
after_all-append m (e ∷ es) fs = after_all-append (medium_after m e.system e.call) es fs

served-last : (m : MediumState) (es : List JEntry) (e : JEntry) → AreServed m (es ++ e ∷ [])
    → IsServed (after_all m es) e
served-last m [] e h = h.0
served-last m (x ∷ es) e h = served-last (medium_after m x.system x.call) es e h.1

-- ---- a call that is answered that all have come to rest

-- It is a rest, of a system that isn't removed.
pub record IsEnd (m : MediumState) (c : SysId) (call : Call) : Type 0 where
  pub rest : all_rest (resting m c) ≡ true
  pub end : medium_at_end (resting m c) ≡ true
  pub after : medium_after m c call ≡ resting m c
  pub changes : changes m c call ≡ not (has m.rest c.0)

rest-end : (m : MediumState) (c : SysId) (known : ℕ) → reply_to m c (record { known = known; act = acts.Rest }) ≡ Over
    → IsEnd m c (record { known = known; act = acts.Rest })
unfolding apply row rest_row changes row_changes
rest-end m c known over =
    let f =
    facts (has m.removed c.0) (known == m.removed) (all_rest (resting m c) && medium_at_end (resting m c)) over in
    let parts = and_parts _ _ f.2 in record {
      rest = parts.0;
      end = parts.1;
      after = λ i.
          (cond {A = Reply × MediumState} (f.0 i) (Removed, m)
          (cond (f.1 i) (cond (all_rest (resting m c) && medium_at_end (resting m c)) Over Resting, resting m c)
          (Stale m.removed, m))).1;
      changes = λ i. not (f.0 i) && f.1 i && not (has m.rest c.0);
    }
  where
    facts : (b d k : Bool)
        → (cond {A = Reply × MediumState} b (Removed, m)
        (cond d (cond k Over Resting, resting m c) (Stale m.removed, m))).0
        ≡ Over
        → (b ≡ false) × (d ≡ true) × (k ≡ true)
    facts true d k h = absurd (cc)
    facts false true true h = (refl, refl, refl)
    facts false true false h = absurd (cc)
    facts false false k h = absurd (cc)

end_by : (m : MediumState) (c : SysId) (known : ℕ) (act : Act) → is_listed act Over ≡ true
    → reply_to m c (record { known = known; act = act }) ≡ Over → IsEnd m c (record { known = known; act = act })
end_by m c known acts.Rest listed over = rest-end m c known over
end_by m c known (acts.Turn out) listed over = absurd (cc)
end_by m c known (acts.Switch words) listed over = absurd (cc)
end_by m c known (acts.Submit e q) listed over = absurd (cc)
end_by m c known acts.Take listed over = absurd (cc)
end_by m c known (acts.Settle to mail) listed over = absurd (cc)
end_by m c known (acts.Tell to mail) listed over = absurd (cc)
end_by m c known (acts.Leave e) listed over = absurd (cc)
end_by m c known (acts.Purge t) listed over = absurd (cc)

pub end_of : (m : MediumState) (c : SysId) (call : Call) → reply_to m c call ≡ Over → IsEnd m c call
end_of m c call over =
    end_by m c call.known call.act
    (subst (λ (r : Reply). is_listed call.act r ≡ true) over (replies_are_listed m c call))
    over

-- a removed caller has no entry
removed-out : (m : MediumState) (c : SysId) (call : Call) → reply_to m c call ≡ Removed → is_entered m c call ≡ false
unfolding is_entered changes
removed-out m c call told =
    let removed : has m.removed c.0 ≡ true = (removed_comes m c call).0 told in
    ap (λ (b : Bool).
    (not b && (call.known == m.removed) && row_changes m c call.act) || is_acted_on (reply_to m c call))
    removed
    ∙ ap is_acted_on told

over-out : (m : MediumState) (c : SysId) (call : Call) → reply_to m c call ≡ Over
    → is_entered m c call ≡ not (has m.rest c.0)
unfolding is_entered
over-out m c call told =
    (λ i. (end_of m c call told).changes i || is_acted_on (told i)) ∙ or-false (not (has m.rest c.0))

-- ---- the end of a journal

last-either : (r : Reply) → is_last_reply r ≡ true → (r ≡ Over) ⊎ (r ≡ Removed)
last-either Over h = inl refl
last-either Removed h = inr refl
last-either r h = absurd (cc)

record Rested (m : MediumState) : Type 0 where
  rest : all_rest m ≡ true
  end : medium_at_end m ≡ true

-- where the last call of a system that is live in the end is the last of the journal, all have come to rest
rested : (first : MediumState) (journal : List JEntry) (c : SysId) (l : LastCall first journal c)
    → with_entry l.before c l.call l.told ≡ journal → has (after_all first journal).removed c.0 ≡ false
    → Rested (after_all first journal)
rested first journal c l whole live = by_either (last-either l.told.0 l.last)
  where
    by_over : reply_to (after_all first l.before) c l.call ≡ Over → (b : Bool) → l.told.1 ≡ b
        → Rested (after_all first journal)
    by_over over true is =
        let end = end_of (after_all first l.before) c l.call over in
        let all : journal ≡ l.before ++ entry_of c l.call l.told.0 ∷ [] =
        sym whole ∙ ap (λ (b : Bool). cond b (l.before ++ entry_of c l.call l.told.0 ∷ []) l.before) is in
        let last : after_all first journal ≡ resting (after_all first l.before) c =
        ap (after_all first) all ∙ after_all-append first l.before (entry_of c l.call l.told.0 ∷ []) ∙ end.after in
        record { rest = ap (λ (x : MediumState). all_rest x) last ∙ end.rest; end = ap medium_at_end last ∙ end.end }
    by_over over false is =
        let end = end_of (after_all first l.before) c l.call over in
        let all : journal ≡ l.before =
        sym whole ∙ ap (λ (b : Bool). cond b (l.before ++ entry_of c l.call l.told.0 ∷ []) l.before) is in
        let off : not (has (after_all first l.before).rest c.0) ≡ false =
        sym (over-out (after_all first l.before) c l.call over) ∙ sym l.entered ∙ is in
        let set : has (after_all first l.before).rest c.0 ≡ true =
        not-off (has (after_all first l.before).rest c.0) off in
        let same : resting (after_all first l.before) c ≡ after_all first l.before =
        ap (λ r. record (after_all first l.before) { rest = r })
        (with-present (after_all first l.before).rest c.0 set) in
        let last : after_all first journal ≡ resting (after_all first l.before) c =
        ap (after_all first) all ∙ sym same in
        record { rest = ap (λ (x : MediumState). all_rest x) last ∙ end.rest; end = ap medium_at_end last ∙ end.end }
      where
        not-off : (b : Bool) → not b ≡ false → b ≡ true
        not-off true h = refl
        not-off false h = absurd (true≢false h)

    by_removed : reply_to (after_all first l.before) c l.call ≡ Removed → Rested (after_all first journal)
    by_removed told =
        let out : l.told.1 ≡ false = l.entered ∙ removed-out (after_all first l.before) c l.call told in
        let all : journal ≡ l.before =
        sym whole ∙ ap (λ (b : Bool). cond b (l.before ++ entry_of c l.call l.told.0 ∷ []) l.before) out in
        let gone : has (after_all first journal).removed c.0 ≡ true =
        ap (λ (js : List JEntry). has (after_all first js).removed c.0) all
        ∙ (removed_comes (after_all first l.before) c l.call).0 told in
        absurd (true≢false (sym gone ∙ live))

    by_either : (l.told.0 ≡ Over) ⊎ (l.told.0 ≡ Removed) → Rested (after_all first journal)
    by_either (inl is) = by_over (sym l.reply ∙ is) l.told.1 refl
    by_either (inr is) = by_removed (sym l.reply ∙ is)

systems-after : (m : MediumState) (es : List JEntry) → AreServed m es → systems_of (after_all m es) ≡ systems_of m
systems-after m [] h = refl
systems-after m (e ∷ es) h =
    systems-after (medium_after m e.system e.call) es h.1 ∙ keeps_systems m e.system e.call h.0.may_call.1

served-front : (m : MediumState) (es : List JEntry) (e : JEntry) → AreServed m (es ++ e ∷ []) → AreServed m es
served-front m [] e h = tt
served-front m (x ∷ es) e h = (h.0, served-front (medium_after m x.system x.call) es e h.1)

-- the last call of the system that made the last call of the journal
by_last : (first : MediumState) (systems : ℕ) (journal : List JEntry) → systems_of first ≡ systems
    → AreServed first journal → ((c : SysId) → c.0 < systems → LastCall first journal c) → (l : HasLast journal)
    → Rested (after_all first journal)
by_last first systems journal sized served last l =
    let here : AreServed first (l.before ++ l.last ∷ []) = subst (AreServed first) l.is served in
    let e : JEntry = l.last in
    let m : MediumState = after_all first l.before in
    let its : IsServed m e = served-last first l.before e here in
    let below : e.system.0 < systems =
    subst (λ k. e.system.0 < k) (systems-after first l.before (served-front first l.before e here) ∙ sized)
    its.may_call.0 in
    let c = last e.system below in
    let more : entries_of e.system.0 c.begins.0 ≡ [] =
    none-more e.system.0 (with_entry c.before e.system c.call c.told) c.begins.0
    (sym (ap (entries_of e.system.0) c.begins.1) ∙ c.own) in
    let none : c.begins.0 ≡ [] =
    nothing-behind (with_entry c.before e.system c.call c.told) l.before c.begins.0 e (sym c.begins.1 ∙ l.is) more in
    let whole : with_entry c.before e.system c.call c.told ≡ journal =
    sym (c.begins.1
    ∙ ap (λ (js : List JEntry). with_entry c.before e.system c.call c.told ++ js) none
    ∙ append-nil (with_entry c.before e.system c.call c.told)) in
    let there : has m.removed e.system.0 ≡ false = was_there m e.system e.call (λ is. its.there (its.reply ∙ is)) in
    let live : has (after_all first journal).removed e.system.0 ≡ false =
    ap (λ (js : List JEntry). has (after_all first js).removed e.system.0) l.is
    ∙ ap (λ (x : MediumState). has x.removed e.system.0) (after_all-append first l.before (e ∷ []))
    ∙ stays_there m e.system e.call its.may_call.1
    ∙ there in
    rested first journal e.system c whole live

-- of a journal without entries the last call of any system will do
by_none : (first : MediumState) (c : SysId) → has first.removed c.0 ≡ false → LastCall first [] c → Rested first
by_none first c live l = rested first [] c l (whole l.told l.begins.0 l.begins.1) live
  where
    whole : (told : Reply × Bool) (more : List JEntry) → [] ≡ with_entry l.before c l.call told ++ more
        → with_entry l.before c l.call told ≡ []
    whole told [] is = sym (is ∙ append-nil (with_entry l.before c l.call told))
    whole told (x ∷ more) is =
        let n : length (with_entry l.before c l.call told ++ x ∷ more)
        ≡ length (with_entry l.before c l.call told) + length (x ∷ more) =
        length-append (with_entry l.before c l.call told) (x ∷ more) in
        let z : 0 ≡ length (with_entry l.before c l.call told ++ x ∷ more) = ap length is in
        absurd (omega (arith, n, z))

all_rested : (first : MediumState) (systems : ℕ) (journal : List JEntry) → systems_of first ≡ systems
    → first.removed ≡ 0 → 0 < systems → AreServed first journal
    → ((c : SysId) → c.0 < systems → LastCall first journal c) → Rested (after_all first journal)
all_rested first systems [] sized none some served last =
    by_none first (record { 0 = 0 }) (ap (λ r. has r 0) none ∙ has-zero 0) (last (record { 0 = 0 }) some)
all_rested first systems (e ∷ es) sized none some served last =
    by_last first systems (e ∷ es) sized served last (last_entry e es)

-- ---- the world

flag-set : (m : MediumState) (u : ℕ) → all_rest m ≡ true → u < systems_of m → has m.removed u ≡ false
    → has m.rest u ≡ true
flag-set m u all below live = by_flag (has m.rest u) refl
  where
    by_flag : (b : Bool) → has m.rest u ≡ b → b ≡ true
    by_flag true is = refl
    by_flag false is =
        let fails : (has m.removed u || has m.rest u) ≡ false = or_from _ _ live is in
        absurd (true≢false (sym all ∙ all_others_false (systems_of m) m.removed (λ s. has m.rest s) u below fails))

none-from : (deck : Deck) (removed : ℕ) (ns : List NodeState) (s : ℕ)
    → ((i : ℕ) (n : NodeState) → slice_get ns i ≡ Some n → has removed (s + i) ≡ false → is_busy deck removed n ≡ false)
    → none_busy removed s (map (is_busy deck removed) ns) ≡ true
none-from deck removed [] s each = refl
none-from deck removed (n ∷ ns) s each =
    and_from _ _ (by_removed (has removed s) refl)
    (none-from deck removed ns (s + 1) (λ i x at live. let number : s + suc i ≡ s + 1 + i = omega arith in
    each (suc i) x at (ap (has removed) number ∙ live)))
  where
    by_removed : (b : Bool) → has removed s ≡ b → (b || not (is_busy deck removed n)) ≡ true
    by_removed true is = refl
    by_removed false is = let number : s + 0 ≡ s = omega arith in ap not (each 0 n refl (ap (has removed) number ∙ is))

-- at the end nothing of the message is left to process
knows : (m : MediumState) (u : ℕ) (n : NodeState) → medium_at_end m ≡ true → IsInformed m u n → n.known ≡ m.removed
unfolding medium_at_end any_unseen
knows m u n end (inl same) = same
knows m u n end (inr ring) =
    let none : m.message.entries ≡ [] =
    no_length m.message.entries (and_parts (length m.message.entries == 0) _
    (and_parts _ ((length m.message.entries == 0) && (m.message.still == 0)) end).1).0 in
    absurd (true≢false (sym ring.1 ∙ ap (any_unseen (record { 0 = u })) none))

module _ (deck : Deck) (m : MediumState) (journal : List JEntry) (vs : List NodeView) (h : RanBeside deck m journal vs)
    (last : AllLast deck journal) (some : 0 < length deck.systems)
    (informed : (es : List Event) → AreInformed (run deck es))
  where
    ends : Rested m
    ends =
        subst Rested (sym h.medium) (all_rested (medium_of deck) (length deck.systems) journal
        (systems_of-first (length deck.systems) deck.entries deck.star) refl some h.served last)

    -- so is the world of any run that leads to this medium and to so many systems
    pub rests : (es : List Event) → (run deck es).medium ≡ m → length (run deck es).nodes ≡ length deck.systems
        → at_rest deck (run deck es) ≡ true
    unfolding at_rest
    rests es medium count =
        let w : World = run deck es in
        let size : systems_of w.medium ≡ length w.nodes =
        ap systems_of (medium ∙ h.medium)
        ∙ systems-after (medium_of deck) journal h.served
        ∙ systems_of-first (length deck.systems) deck.entries deck.star
        ∙ sym count in
        let all : all_rest w.medium ≡ true = ap (λ (x : MediumState). all_rest x) medium ∙ ends.rest in
        and_from _ _
        (none-from deck w.medium.removed w.nodes 0 (λ i n at live.
        let number : 0 + i ≡ i = omega arith in
        let lives : has w.medium.removed i ≡ false = ap (has w.medium.removed) (sym number) ∙ live in
        let set : has w.medium.rest i ≡ true =
        flag-set w.medium i all (subst (λ k. i < k) (sym size) (slice_get_within w.nodes i n at)) lives in
        or_from _ _ (runs_idle deck informed es i n at lives set)
        (ap not (eq-eqb n.known w.medium.removed
        (knows w.medium i n (ap medium_at_end medium ∙ ends.end) (informed es i n at lives set))))))
        (ap medium_at_end medium ∙ ends.end)
