-- Each deck that is spelled is whole.
use Rattle.std.proofs.Common.{◌≡◌, ℕ, ◌+◌, ◌-◌, ◌<◌, Bool, true, false, cond, eqb, List, [], ◌∷◌, length, take, Option}
use Rattle.std.proofs.Common.{Some, None, refl, sym, ap, subst, arith, filter}
use Rattle.std.specs.Prelude.{All, slice_get, unwrap_or, Result, Ok, Err, IfOk}
use Rattle.grs_base.specs.declared.fault.ReadError.{ReadError}
use Rattle.deck_scan.specs.Gives.{Gives}
use Rattle.std.specs.List.{list_all}
use Rattle.std.proofs.lemmas.Bool.{eqb-false, and_parts}
use Rattle.std.proofs.lemmas.List.Elements.{All-nil, All-push}
use Rattle.std.proofs.lemmas.List.Quantifiers.{position-Some}
use Rattle.std.proofs.lemmas.Option.{slice_get_within}
use Rattle.grs_base.specs.declared.resource.SysId.{SysId}
use Rattle.grs_base.specs.declared.resource.TaskId.{TaskId}
use Rattle.grs_wire.specs.declared.deck.TaskDef.{TaskDef}
use Rattle.grs_wire.specs.declared.deck.SystemDef.{SystemDef}
use Rattle.grs_wire.specs.declared.deck.Event.{Event}
use Rattle.grs_wire.specs.declared.deck.Choice.{Choice}
use Rattle.grs_wire.specs.declared.deck.Choice.TheVariants as choices
use Rattle.grs_wire.specs.declared.deck.Deck.{Deck}
use Rattle.grs_wire.specs.Decks.{task_count, Fits, IsTaskOf, IsChoiceOf, IsEventOf, all_lines, AreLines, AreNamedOnce}
use Rattle.grs_wire.specs.Decks.{IsDeck}
use Rattle.deck_scan.specs.declared.token.Token.{Token}
use Rattle.deck_scan.specs.declared.token.TokenLine.{TokenLine}
use Rattle.deck_form.specs.declared.event.EventAct.{EventAct}
use Rattle.deck_form.specs.declared.event.EventAct.TheVariants as acts
use Rattle.deck_form.specs.declared.complex.Setup.{Setup}
use Rattle.deck_form.specs.declared.form.Stmt.{Stmt}
use Rattle.deck_form.specs.declared.form.Stmt.TheVariants as stmts
use Rattle.deck_form.specs.Complex.{no_setup}
use Rattle.deck_form.specs.Statements.{statements}
use Rattle.deck_form.specs.SystemNames.{system_names}
use Rattle.deck_scan.specs.Next.{◌>>=◌, Sets}
use Rattle.deck_form.specs.Spelled.{Operand, Mode, Entries, Limit, IsFreeOperand, set_operand, IsComplex, IsAct, Spells}
use Rattle.deck_scan.proofs.Taking.{bind_some}
use Rattle.grs_deck.specs.declared.judge.Draft.{Draft}
use Rattle.grs_deck.specs.Places.{system_place, job_place, task_place, system_id, system_at, task_in, unless_own}
use Rattle.grs_deck.specs.Places.{choice_of, event_of}
use Rattle.grs_deck.specs.Grow.{with_event, grow}
use Rattle.grs_deck.specs.Reading.{no_draft, first_draft, reading}
use Rattle.grs_deck.specs.Spells.{MayStand, Says, SpellsDeck}
use Rattle.grs_base.specs.Rnl.{no_entries}
use Rattle.grs_base.specs.declared.rnl.Which.{Which}
use Rattle.grs_base.specs.declared.rnl.Which.TheVariants.{Incl, Excl, Con}
use Rattle.grs_base.specs.declared.rnl.RnlEntry.{RnlEntry}
use Rattle.grs_base.specs.Limits.{is_entries, is_limit}
use Rattle.grs_base.specs.Lines.{is_display}
use Rattle.grs_base.specs.NameLists.{IsListOf, AreLists}
use Rattle.grs_deck.proofs.FitsLaws.{fits_grow, lists_grow}
use Rattle.grs_deck.proofs.SpellsLaws.{no_test, reading_spells}
use Rattle.grs_deck.proofs.Distinct.{once_none, once_grow}
use Rattle.grs_deck.proofs.Named.{names_of_statements}
use Rattle.grs_deck.proofs.Orders.{says_orders}
use Rattle.grs_deck.proofs.TokenBytes.{are_of_bytes, spelled_bytes, statements_bytes}
use Rattle.grs_deck.proofs.Growth.{Keeps, keeps_none, keeps_grow}

abbrev some : {A : Type 0} → A → Option A
some x = Some x

some_is : {A : Type 0} (x y : A) → some x ≡ some y → x ≡ y
some_is x y e = cc

-- ---- the operands of COMPLEX

abbrev IsGiven : (ℕ → Bool) → Option ℕ → Type 0
IsGiven test None = Unit {0}
IsGiven test (Some n) = test n ≡ true

given_or : (test : ℕ → Bool) (o : Option ℕ) (n : ℕ) → test n ≡ true → IsGiven test o → test (unwrap_or o n) ≡ true
given_or test None n h g = h
given_or test (Some m) n h g = g

record IsSetup (o : Setup) : Type 0 where
  entries : IsGiven is_entries o.entries
  limit : IsGiven is_limit o.limit

setup_one : (x : Operand) (o : Setup) → IsFreeOperand x o → IsSetup o → IsSetup (set_operand x o)
setup_one (Mode b) o f h = record { entries = h.entries; limit = h.limit }
setup_one (Entries w n) o f h = record { entries = f.2; limit = h.limit }
setup_one (Limit w n) o f h = record { entries = h.entries; limit = f.2 }

setup_all : (xs : List Operand) (o p : Setup) → Sets IsFreeOperand set_operand o xs p → IsSetup o → IsSetup p
setup_all [] o p s h = subst IsSetup (sym s) h
setup_all (x ∷ xs) o p s h = setup_all xs (set_operand x o) p s.1 (setup_one x o s.0 h)

setup_of : (ts : List Token) (c : Setup) → IsComplex ts c → IsSetup c
setup_of ts c h = setup_all h.given no_setup c h.operands (record { entries = tt; limit = tt })

-- ---- events

task_there : (tasks : List TaskDef) (name : List ℕ) (n : ℕ) → task_place tasks name ≡ Some n → n < length tasks
unfolding task_place
task_there tasks name n e = (position-Some _ tasks n (record { name = []; lines = [] }) e).0

abbrev task_id : SysId → ℕ → ℕ → TaskId
task_id id j n = record { system = id; job = j; task = n }

task_of : (id : SysId) (s : SystemDef) (job task : List ℕ) (t : TaskId) → task_in id s job task ≡ Some t
    → IsTaskOf s id t
task_of id s job task t e =
    let j =
    bind_some (job_place s.jobs job) (λ j.
    slice_get s.jobs j
    >>= λ held. task_place held.tasks task >>= λ k. Some (task_id id j (task_count (take j s.jobs) + k)))
    t e in
    let h =
    bind_some (slice_get s.jobs j.0)
    (λ held. task_place held.tasks task >>= λ k. Some (task_id id j.0 (task_count (take j.0 s.jobs) + k))) t j.2 in
    let k =
    bind_some (task_place h.0.tasks task) (λ k. Some (task_id id j.0 (task_count (take j.0 s.jobs) + k))) t h.2 in
    let made :
    IsTaskOf s id (task_id id j.0 (task_count (take j.0 s.jobs) + k.0)) = record {
      job = h.0;
      place = k.0;
      system = refl;
      held = h.1;
      below = task_there h.0.tasks task k.0 k.1;
      at = refl;
    } in
    subst (IsTaskOf s id) (some_is (task_id id j.0 (task_count (take j.0 s.jobs) + k.0)) t k.2) made

-- the system of a name
record Found (systems : List SystemDef) (x : SysId × SystemDef) : Type 0 where
  at : slice_get systems x.0.0 ≡ Some x.1
  below : x.0.0 < length systems

found_of : (systems : List SystemDef) (name : List ℕ) (x : SysId × SystemDef) → system_at systems name ≡ Some x
    → Found systems x
found_of systems name x e =
    let i = bind_some (system_place systems name) (λ i. slice_get systems i >>= λ s. Some (system_id i, s)) x e in
    let s = bind_some (slice_get systems i.0) (λ s. Some (system_id i.0, s)) x i.2 in
    let made : Found systems (system_id i.0, s.0) = record { at = s.1; below = slice_get_within systems i.0 s.0 s.1 } in
    subst (Found systems) (some_is (system_id i.0, s.0) x s.2) made

own_not : (systems : List SystemDef) (entries : ℕ) (s : SystemDef) (id other : SysId) (c : Choice)
    → other.0 < length systems → unless_own id other ≡ Some c → IsChoiceOf systems entries s id c
own_not systems entries s id other c lt e = go (eqb other.0 id.0) refl e
  where
    go : (b : Bool) → eqb other.0 id.0 ≡ b → cond b None (Some (choices.Purge other)) ≡ Some c
        → IsChoiceOf systems entries s id c
    go true is k = absurd cc
    go false is k =
        subst (IsChoiceOf systems entries s id) (some_is (choices.Purge other) c k) (lt, eqb-false other.0 id.0 is)

choice_is :
    (systems : List SystemDef) (entries : ℕ) (rest : List Token) (s : SystemDef) (id : SysId) (a : EventAct)
    (c : Choice)
    → IsAct entries rest a → choice_of systems id s a ≡ Some c → IsChoiceOf systems entries s id c
choice_is systems entries rest s id (acts.Task j t) c act e =
    let k = bind_some (task_in id s j t) (λ k. Some (choices.Task k)) c e in
    subst (IsChoiceOf systems entries s id) (some_is (choices.Task k.0) c k.2) (task_of id s j t k.0 k.1)
choice_is systems entries rest s id (acts.Send j t) c act e =
    let k = bind_some (task_in id s j t) (λ k. Some (choices.Send k)) c e in
    subst (IsChoiceOf systems entries s id) (some_is (choices.Send k.0) c k.2) (task_of id s j t k.0 k.1)
choice_is systems entries rest s id acts.Turn c act e =
    subst (IsChoiceOf systems entries s id) (some_is choices.Turn c e) tt
choice_is systems entries rest s id acts.Take c act e =
    subst (IsChoiceOf systems entries s id) (some_is choices.Take c e) tt
choice_is systems entries rest s id acts.Settle c act e =
    subst (IsChoiceOf systems entries s id) (some_is choices.Settle c e) tt
choice_is systems entries rest s id (acts.Tell n) c act e =
    subst (IsChoiceOf systems entries s id) (some_is (choices.Tell n) c e) act.3
choice_is systems entries rest s id (acts.Part n) c act e =
    subst (IsChoiceOf systems entries s id) (some_is (choices.Part n) c e) act.3
choice_is systems entries rest s id (acts.Leave n) c act e =
    subst (IsChoiceOf systems entries s id) (some_is (choices.Leave n) c e) act.3
choice_is systems entries rest s id acts.Switch c act e =
    subst (IsChoiceOf systems entries s id) (some_is choices.Switch c e) tt
choice_is systems entries rest s id (acts.Purge n) c act e =
    let x = bind_some (system_at systems n) (λ x. unless_own id x.0) c e in
    own_not systems entries s id x.0.0 c (found_of systems n x.0 x.1).below x.2
choice_is systems entries rest s id acts.Rest c act e =
    subst (IsChoiceOf systems entries s id) (some_is choices.Rest c e) tt

event_is : (systems : List SystemDef) (entries : ℕ) (rest : List Token) (name : List ℕ) (a : EventAct) (e : Event)
    → IsAct entries rest a → event_of systems name a ≡ Some e → IsEventOf systems entries e
event_is systems entries rest name a e act h =
    let x =
    bind_some (system_at systems name)
    (λ x. choice_of systems x.0 x.1 a >>= λ c. Some (record { system = x.0; choice = c })) e h in
    let c = bind_some (choice_of systems x.0.0 x.0.1 a) (λ c. Some (record { system = x.0.0; choice = c })) e x.2 in
    let made :
    IsEventOf systems entries (record { system = x.0.0; choice = c.0 }) = record {
      found = x.0.1;
      system = (found_of systems name x.0 x.1).at;
      below = (found_of systems name x.0 x.1).below;
      choice = choice_is systems entries rest x.0.1 x.0.0 a c.0 act c.1;
    } in
    subst (IsEventOf systems entries) (some_is (record { system = x.0.0; choice = c.0 }) e c.2) made

-- ---- a deck so far

-- before SCHEDULE there is no event
pub record IsDraft (d : Draft) : Type 0 where
  pub fits : Fits d.deck.systems
  pub entries : is_entries d.deck.entries ≡ true
  pub limit : is_limit d.deck.limit ≡ true
  pub lists : AreLists d.deck.lists
  pub events : All (IsEventOf d.deck.systems d.deck.entries) d.deck.events
  pub quiet : d.scheduled ≡ false → d.deck.events ≡ []

no_events : (systems : List SystemDef) (entries : ℕ) (events : List Event) → events ≡ []
    → All (IsEventOf systems entries) events
no_events systems entries events e = rw e (All-nil (IsEventOf systems entries))

-- a statement before SCHEDULE that leaves the events
first_keeps : (d : Draft) (st : Stmt) → Fits (grow d st).deck.systems → AreLists (grow d st).deck.lists
    → is_entries (grow d st).deck.entries ≡ true → is_limit (grow d st).deck.limit ≡ true → (grow d st).deck.events ≡ []
    → IsDraft (grow d st)
first_keeps d st fits lists entries limit none = record {
  fits = fits;
  entries = entries;
  limit = limit;
  lists = lists;
  events = no_events (grow d st).deck.systems (grow d st).deck.entries (grow d st).deck.events none;
  quiet = λ e. none;
}

spelled_first : (d : Draft) (l : TokenLine) (st : Stmt) → d.scheduled ≡ false → IsDraft d
    → Spells d.scheduled d.deck.entries l st → Fits (grow d st).deck.systems → AreLists (grow d st).deck.lists
    → IsDraft (grow d st)
spelled_first d l (stmts.Complex c) e h s fits lists =
    let at : Spells false d.deck.entries l (stmts.Complex c) =
    subst (λ (b : Bool). Spells b d.deck.entries l (stmts.Complex c)) e s in
    let g = setup_of at.1.0 c at.1.2 in
    first_keeps d (stmts.Complex c) fits lists (given_or is_entries c.entries 64 refl g.entries)
    (given_or is_limit c.limit 4096 refl g.limit) (h.quiet e)
spelled_first d l (stmts.System n) e h s fits lists =
    first_keeps d (stmts.System n) fits lists h.entries h.limit (h.quiet e)
spelled_first d l (stmts.Job n) e h s fits lists = first_keeps d (stmts.Job n) fits lists h.entries h.limit (h.quiet e)
spelled_first d l (stmts.Task n) e h s fits lists =
    first_keeps d (stmts.Task n) fits lists h.entries h.limit (h.quiet e)
spelled_first d l (stmts.Rnldef r) e h s fits lists =
    first_keeps d (stmts.Rnldef r) fits lists h.entries h.limit (h.quiet e)
spelled_first d l (stmts.Line a) e h s fits lists =
    first_keeps d (stmts.Line a) fits lists h.entries h.limit (h.quiet e)
spelled_first d l (stmts.Command c) e h s fits lists =
    first_keeps d (stmts.Command c) fits lists h.entries h.limit (h.quiet e)
spelled_first d l stmts.Schedule e h s fits lists =
    first_keeps d stmts.Schedule fits lists h.entries h.limit (h.quiet e)
spelled_first d l (stmts.Event n a) e h s fits lists =
    absurd (let at : Spells false d.deck.entries l (stmts.Event n a) =
    subst (λ (b : Bool). Spells b d.deck.entries l (stmts.Event n a)) e s in
    at.1)

-- an event more
event_more : (d : Draft) (room displays : ℕ) (n : List ℕ) (a : EventAct) (rest : List Token) (o : Option Event)
    → event_of d.deck.systems n a ≡ o → d.scheduled ≡ true → IsAct d.deck.entries rest a → IsDraft d
    → IsDraft
    (record {
      deck = with_event o d.deck;
      names = d.names;
      begun = true;
      scheduled = true;
      room = room;
      displays = displays;
    })
event_more d room displays n a rest None is e act h = record {
  fits = h.fits;
  entries = h.entries;
  limit = h.limit;
  lists = h.lists;
  events = h.events;
  quiet = λ k. absurd cc;
}
event_more d room displays n a rest (Some v) is e act h = record {
  fits = h.fits;
  entries = h.entries;
  limit = h.limit;
  lists = h.lists;
  events =
      All-push (IsEventOf d.deck.systems d.deck.entries) d.deck.events v h.events
      (event_is d.deck.systems d.deck.entries rest n a v act is);
  quiet = λ k. absurd cc;
}

spelled_event : (d : Draft) (l : TokenLine) (st : Stmt) → d.scheduled ≡ true → IsDraft d
    → Spells true d.deck.entries l st → IsDraft (grow d st)
spelled_event d l (stmts.Event n a) e h s =
    rw e (event_more d (d.room - 0) (d.displays - 0) n a s.0 (event_of d.deck.systems n a) refl e s.3 h)
spelled_event d l _ e h s = absurd s

step_keeps : (d : Draft) (l : TokenLine) (st : Stmt) → IsDraft d → Spells d.scheduled d.deck.entries l st
    → MayStand d st → IsDraft (grow d st)
step_keeps d l st h s right = go d.scheduled refl
  where
    go : (b : Bool) → d.scheduled ≡ b → IsDraft (grow d st)
    go true e = spelled_event d l st e h (subst (λ (b : Bool). Spells b d.deck.entries l st) e s)
    go false e =
        let full = (no_test d st right).full in
        spelled_first d l st e h s (fits_grow d st full h.fits) (lists_grow d st full h.lists)

says_keeps : (ls : List TokenLine) (d e : Draft) → Says d ls e → IsDraft d → IsDraft e
says_keeps [] d e s h = subst IsDraft s h
says_keeps (l ∷ ls) d e s h = says_keeps ls (grow d s.0) e s.3 (step_keeps d l s.0 h s.1 s.2)

no_list : (which : Which) → IsListOf which (no_entries which)
no_list which = record { which_is = refl; few = omega arith; own = All-nil (λ (e : RnlEntry). e.which ≡ which) }

none_read : (names : List (List ℕ)) → IsDraft (no_draft names)
none_read names = record {
  lists = record { incl = no_list Incl; excl = no_list Excl; con = no_list Con };
  fits = record { few = omega arith; each = λ k x lt. absurd (omega (arith, lt)) };
  entries = refl;
  limit = refl;
  events = All-nil (IsEventOf [] 64);
  quiet = λ e. refl;
}

says_keep : (ls : List TokenLine) (d e : Draft) → list_all are_of_bytes ls ≡ true → Says d ls e → Keeps d → Keeps e
says_keep [] d e all s h = subst Keeps s h
says_keep (l ∷ ls) d e all s h =
    let k = and_parts (are_of_bytes l) (list_all are_of_bytes ls) all in
    says_keep ls (grow d s.0) e k.1 s.3 (keeps_grow d l s.0 k.0 s.1 s.2 h)

says_once : (ls : List TokenLine) (d e : Draft) → Says d ls e → AreNamedOnce d.deck.systems
    → AreNamedOnce e.deck.systems
says_once [] d e s h = subst (λ (x : Draft). AreNamedOnce x.deck.systems) s h
says_once (l ∷ ls) d e s h = says_once ls (grow d s.0) e s.3 (once_grow d s.0 s.2 h)

lines_of_deck : (d : Draft) → Keeps d → AreLines (all_lines d.deck.systems)
lines_of_deck d h = record { few = omega (arith, h.room); displays = omega (arith, h.displays); each = h.lines }

-- Each deck that is spelled is whole.
pub spelled_whole : (text : List ℕ) (d : Deck) → SpellsDeck text d → IsDeck d
spelled_whole text d h =
    let ss = statements h.lines in
    let start = first_draft h.lines in
    let w = says_keeps ss start h.draft h.says (none_read (system_names h.lines)) in
    let some : 0 < length h.draft.deck.systems = subst (λ (x : Deck). 0 < length x.systems) (sym h.is) h.system in
    let k =
    says_keep ss start h.draft (statements_bytes h.lines (spelled_bytes text h.lines h.spelled)) h.says
    (keeps_none (system_names h.lines)) in
    let made :
    IsDeck h.draft.deck = record {
      some = some;
      fits = w.fits;
      names = k.names;
      once = says_once ss start h.draft h.says once_none;
      orders = says_orders ss start h.draft h.says (names_of_statements h.lines start h.draft refl refl h.says) tt;
      lines = lines_of_deck h.draft k;
      named = k.entries;
      entries = w.entries;
      limit = w.limit;
      lists = w.lists;
      events = w.events;
    } in
    subst IsDeck h.is made

pub whole : (text : List ℕ) (r : Result Deck ReadError) → Gives r (reading text) → IfOk r IsDeck
whole text (Ok d) h = spelled_whole text d (reading_spells text d h)
whole text (Err e) h = tt
