-- Each command that is read removes another system of the deck: the names that SYSTEM statements give are, in order,
-- those of the systems.
use Rattle.std.proofs.Common.{◌≡◌, ℕ, zero, suc, ◌+◌, ◌<◌, Bool, true, false, cond, ltb, List, [], ◌∷◌, ◌++◌, length}
use Rattle.std.proofs.Common.{map, get_or, codes, Option, Some, None, refl, sym, ap, subst, ◌∙◌, arith, append_assoc}
use Rattle.std.proofs.Common.{length-append}
use Rattle.std.specs.Prelude.{◌||◌, ◌≢◌}
use Rattle.std.specs.List.{cons_option}
use Rattle.std.specs.Str.{bytes_eq}
use Rattle.std.proofs.lemmas.List.{map-append, length-map}
use Rattle.std.proofs.lemmas.List.Elements.{All-nil, All-push}
use Rattle.std.proofs.lemmas.List.Quantifiers.{position-Some}
use Rattle.grs_wire.specs.Decks.{IsOrderOf, AreOrders}
use Rattle.grs_wire.specs.declared.deck.Desk.{Desk}
use Rattle.grs_wire.specs.declared.deck.JobDef.{JobDef}
use Rattle.grs_wire.specs.declared.deck.Order.{Order}
use Rattle.grs_wire.specs.declared.deck.Order.TheVariants.{Star, Vary}
use Rattle.grs_wire.specs.declared.deck.SystemDef.{SystemDef}
use Rattle.deck_scan.proofs.Taking.{same_bytes}
use Rattle.deck_scan.specs.declared.token.Token.{Token}
use Rattle.deck_scan.specs.declared.token.Token.TheVariants.{Word}
use Rattle.deck_scan.specs.declared.token.TokenLine.{TokenLine}
use Rattle.deck_form.proofs.Systems.{named_here, none_behind, no_lines, spelled_name, given_name}
use Rattle.deck_form.proofs.FirstWords.{schedule_spelled, begins_with_schedule}
use Rattle.deck_form.proofs.Unknown.{one_spelled}
use Rattle.deck_form.specs.declared.command.GivenOrder.{GivenOrder}
use Rattle.deck_form.specs.declared.command.GivenOrder.TheVariants as orders
use Rattle.deck_form.specs.declared.form.Stmt.{Stmt}
use Rattle.deck_form.specs.declared.form.Stmt.TheVariants as stmts
use Rattle.deck_form.specs.Spelled.{Spells}
use Rattle.deck_form.specs.SystemNames.{name_given, begins_schedule, names_to_schedule, name_place}
use Rattle.grs_deck.proofs.Distinct.{map_same}
use Rattle.grs_deck.proofs.FitsLaws.{event_systems}
use Rattle.job_syntax.specs.Lines.{line_of}
use Rattle.grs_deck.specs.declared.judge.Draft.{Draft}
use Rattle.grs_deck.specs.Grow.{add_command, add_order, add_task, add_line, in_jobs, in_tasks, order_by, removal_of}
use Rattle.grs_deck.specs.Grow.{grow}
use Rattle.grs_deck.specs.Places.{name_now, place_ordered, system_id, event_of}
use Rattle.grs_deck.specs.Spells.{IsKnownOrder, MayStand, Says}

abbrev pub name_of : SystemDef → List ℕ
name_of s = s.name

-- ---- the names of statements to come

-- another statement than SCHEDULE doesn't begin with its word
pub no_schedule : (entries : ℕ) (l : TokenLine) (st : Stmt) → Spells false entries l st
    → (st ≡ stmts.Schedule → ⊥) → begins_schedule l ≡ false
no_schedule entries l st h other = go (begins_schedule l) refl
  where
    go : (b : Bool) → begins_schedule l ≡ b → begins_schedule l ≡ false
    go true e = absurd (other (schedule_spelled entries l st h e))
    go false e = e

-- another statement than SYSTEM and SCHEDULE gives no name
pub quiet_names : (entries : ℕ) (l : TokenLine) (ls : List TokenLine) (st : Stmt) → Spells false entries l st
    → (st ≡ stmts.Schedule → ⊥) → ((n : List ℕ) → st ≡ stmts.System n → ⊥)
    → names_to_schedule (l ∷ ls) ≡ names_to_schedule ls
quiet_names entries l ls st h other unnamed =
    named_here l ls (no_schedule entries l st h other) ∙ by_name (name_given l) refl
  where
    by_name : (o : Option (List ℕ)) → name_given l ≡ o
        → cons_option (name_given l) (names_to_schedule ls) ≡ names_to_schedule ls
    by_name None e = rw e refl
    by_name (Some n) e =
        absurd (unnamed n (one_spelled false entries l st (stmts.System n) h (spelled_name entries l n e).0))

-- the names that are still to come, behind SCHEDULE or not
abbrev pub to_come : Bool → List TokenLine → List (List ℕ)
to_come true ls = []
to_come false ls = names_to_schedule ls

-- the names of the systems so far, and those to come, are all names
abbrev pub AreNamed : Draft → List TokenLine → Type 0
AreNamed d ls = d.names ≡ map name_of d.deck.systems ++ to_come d.scheduled ls

-- a statement that gives none leaves them
same_names : (d : Draft) (l : TokenLine) (ls : List TokenLine) (ss : List SystemDef) → d.scheduled ≡ false
    → names_to_schedule (l ∷ ls) ≡ names_to_schedule ls → map name_of ss ≡ map name_of d.deck.systems
    → AreNamed d (l ∷ ls)
    → d.names ≡ map name_of ss ++ to_come (d.scheduled || false) ls
same_names d l ls ss early quiet same h = h ∙ rw (early, quiet, same) refl

order_names : (at : ℕ) (o : Option Order) (ss : List SystemDef) → map name_of (add_order at o ss) ≡ map name_of ss
order_names at None ss = refl
order_names at (Some o) ss = map_same name_of _ ss (λ s. refl)

names_first : (d : Draft) (l : TokenLine) (ls : List TokenLine) (st : Stmt) → d.scheduled ≡ false
    → Spells false d.deck.entries l st → MayStand d st → AreNamed d (l ∷ ls) → AreNamed (grow d st) ls
names_first d l ls (stmts.Complex c) early s right h =
    same_names d l ls d.deck.systems early (quiet_names d.deck.entries l ls (stmts.Complex c) s (λ e. cc) (λ n e. cc))
    refl h
names_first d l ls (stmts.Rnldef r) early s right h =
    same_names d l ls d.deck.systems early (quiet_names d.deck.entries l ls (stmts.Rnldef r) s (λ e. cc) (λ n e. cc))
    refl h
names_first d l ls (stmts.System n) early s right h =
    let schedule : begins_schedule l ≡ false = no_schedule d.deck.entries l (stmts.System n) s (λ e. cc) in
    let come : names_to_schedule (l ∷ ls) ≡ n ∷ names_to_schedule ls =
    named_here l ls schedule ∙ rw (given_name d.deck.entries l n s right.sized) refl in
    h
    ∙ rw (early, come, map-append name_of d.deck.systems (record { name = n; desk = []; jobs = [] } ∷ []))
    (sym (append_assoc (map name_of d.deck.systems) (n ∷ []) (names_to_schedule ls)))
names_first d l ls (stmts.Job n) early s right h =
    same_names d l ls (in_jobs (λ js. js ++ record { name = n; tasks = [] } ∷ []) d.deck.systems) early
    (quiet_names d.deck.entries l ls (stmts.Job n) s (λ e. cc) (λ m e. cc))
    (map_same name_of _ d.deck.systems (λ x. refl)) h
names_first d l ls (stmts.Task n) early s right h =
    same_names d l ls (in_jobs (add_task n) d.deck.systems) early
    (quiet_names d.deck.entries l ls (stmts.Task n) s (λ e. cc) (λ m e. cc))
    (map_same name_of _ d.deck.systems (λ x. refl)) h
names_first d l ls (stmts.Line x) early s right h =
    same_names d l ls (in_jobs (in_tasks (add_line (line_of x))) d.deck.systems) early
    (quiet_names d.deck.entries l ls (stmts.Line x) s (λ e. cc) (λ m e. cc))
    (map_same name_of _ d.deck.systems (λ y. refl)) h
names_first d l ls (stmts.Command c) early s right h =
    same_names d l ls (add_order c.at (order_by (place_ordered d.names c.order) c.order) d.deck.systems) early
    (quiet_names d.deck.entries l ls (stmts.Command c) s (λ e. cc) (λ m e. cc))
    (order_names c.at (order_by (place_ordered d.names c.order) c.order) d.deck.systems) h
names_first d l ls stmts.Schedule early s right h =
    h ∙ rw (early, none_behind l ls (begins_with_schedule l s.0 s.1)) refl
names_first d l ls (stmts.Event n a) early s right h = absurd s.1

names_event : (d : Draft) (l : TokenLine) (ls : List TokenLine) (st : Stmt) → d.scheduled ≡ true
    → Spells true d.deck.entries l st → AreNamed d (l ∷ ls) → AreNamed (grow d st) ls
names_event d l ls (stmts.Event n a) late s h = h ∙ rw (late, event_systems (event_of d.deck.systems n a) d.deck) refl
names_event d l ls _ late s h = absurd s

names_grow : (d : Draft) (l : TokenLine) (ls : List TokenLine) (st : Stmt) → Spells d.scheduled d.deck.entries l st
    → MayStand d st → AreNamed d (l ∷ ls) → AreNamed (grow d st) ls
names_grow d l ls st s right h = go d.scheduled refl
  where
    go : (b : Bool) → d.scheduled ≡ b → AreNamed (grow d st) ls
    go true e = names_event d l ls st e (subst (λ (b : Bool). Spells b d.deck.entries l st) e s) h
    go false e = names_first d l ls st e (subst (λ (b : Bool). Spells b d.deck.entries l st) e s) right h

-- ---- the commands

orders-jobs : (all n : ℕ) (f : List JobDef → List JobDef) (ss : List SystemDef) → AreOrders all n ss
    → AreOrders all n (in_jobs f ss)
orders-jobs all n f [] h = h
orders-jobs all n f (s ∷ []) h = h
orders-jobs all n f (s ∷ t ∷ ss) h = (h.0, orders-jobs all (n + 1) f (t ∷ ss) h.1)

orders-system : (all n : ℕ) (name : List ℕ) (ss : List SystemDef) → AreOrders all n ss
    → AreOrders all n (ss ++ record { name = name; desk = []; jobs = [] } ∷ [])
orders-system all n name [] h = (All-nil (λ (c : Desk). IsOrderOf all n c.order), tt)
orders-system all n name (s ∷ ss) h = (h.0, orders-system all (n + 1) name ss h.1)

orders-command : (all n : ℕ) (c : Desk) (ss : List SystemDef)
    → ((k : ℕ) → suc k ≡ length ss → IsOrderOf all (n + k) c.order) → AreOrders all n ss
    → AreOrders all n (add_command c ss)
orders-command all n c [] one h = tt
orders-command all n c (s ∷ []) one h =
    let same : n + 0 ≡ n = omega arith in (
      All-push (λ (d : Desk). IsOrderOf all n d.order) s.desk c h.0
          (subst (λ (m : ℕ). IsOrderOf all m c.order) same (one 0 refl)),
      tt,
    )
orders-command all n c (s ∷ t ∷ ss) one h = (h.0, orders-command all (n + 1) c (t ∷ ss) later h.1)
  where
    later : (k : ℕ) → suc k ≡ length (t ∷ ss) → IsOrderOf all ((n + 1) + k) c.order
    later k e =
        let same : n + suc k ≡ (n + 1) + k = omega arith in
        subst (λ (m : ℕ). IsOrderOf all m c.order) same (one (suc k) (ap suc e))

-- the last name so far is that of the last system
last_name : (ss : List SystemDef) (come : List (List ℕ)) (k : ℕ) → suc k ≡ length ss
    → get_or (map name_of ss ++ come) k [] ≡ name_now ss
last_name [] come k e = absurd (omega (arith, e))
last_name (s ∷ []) come zero e = refl
last_name (s ∷ []) come (suc k) e = absurd (omega (arith, e))
last_name (s ∷ t ∷ ss) come zero e = absurd (omega (arith, e))
last_name (s ∷ t ∷ ss) come (suc k) e = last_name (t ∷ ss) come k (omega (arith, e))

some_order : (o p : Order) → Some o ≡ Some p → o ≡ p
some_order o p e = cc

-- what is commanded is the change to star mode, or the removal of a system that isn't the last so far
order_fits : (d : Draft) (come : List (List ℕ)) (o : GivenOrder) → IsKnownOrder d o
    → d.names ≡ map name_of d.deck.systems ++ come → (p : Order) → order_by (place_ordered d.names o) o ≡ Some p
    → (k : ℕ) → suc k ≡ length d.deck.systems → IsOrderOf (length d.names) k p
unfolding name_place
order_fits d come orders.Star known names p is k e = subst (IsOrderOf (length d.names) k) (some_order Star p is) tt
order_fits d come (orders.Vary n) known names p is k e = by_place (name_place d.names n) refl
  where
    by_place : (o : Option ℕ) → name_place d.names n ≡ o → IsOrderOf (length d.names) k p
    by_place None none = absurd (let z : removal_of None ≡ Some p = ap removal_of (sym none) ∙ is in cc)
    by_place (Some m) found = go (ltb m 8) refl
      where
        removal : removal_of (Some m) ≡ Some p
        removal = ap removal_of (sym found) ∙ is

        at : (m < length d.names) × (bytes_eq n (get_or d.names m []) ≡ true)
        at = let q = position-Some (bytes_eq n) d.names m [] found in (q.0, q.1)

        other : m ≢ k
        other same =
            let there : get_or d.names m [] ≡ name_now d.deck.systems =
            ap (λ (j : ℕ). get_or d.names j []) same
            ∙ ap (λ (ns : List (List ℕ)). get_or ns k []) names
            ∙ last_name d.deck.systems come k e in
            known.1 (same_bytes n (get_or d.names m []) at.1 ∙ there)

        go : (b : Bool) → ltb m 8 ≡ b → IsOrderOf (length d.names) k p
        go false lt =
            absurd (let z : cond false (Some (Vary (system_id m))) None ≡ Some p =
            ap (λ (b : Bool). cond b (Some (Vary (system_id m))) None) (sym lt) ∙ removal in
            cc)
        go true lt =
            subst (IsOrderOf (length d.names) k) (some_order (Vary (system_id m)) p
            (ap (λ (b : Bool). cond b (Some (Vary (system_id m))) None) (sym lt) ∙ removal))
            (at.0, other)

orders_grow : (d : Draft) (l : TokenLine) (ls : List TokenLine) (st : Stmt) → MayStand d st → AreNamed d (l ∷ ls)
    → AreOrders (length d.names) 0 d.deck.systems → AreOrders (length d.names) 0 (grow d st).deck.systems
orders_grow d l ls (stmts.Complex c) right names h = h
orders_grow d l ls (stmts.Rnldef r) right names h = h
orders_grow d l ls (stmts.System n) right names h = orders-system (length d.names) 0 n d.deck.systems h
orders_grow d l ls (stmts.Job n) right names h =
    orders-jobs (length d.names) 0 (λ js. js ++ record { name = n; tasks = [] } ∷ []) d.deck.systems h
orders_grow d l ls (stmts.Task n) right names h = orders-jobs (length d.names) 0 (add_task n) d.deck.systems h
orders_grow d l ls (stmts.Line x) right names h =
    orders-jobs (length d.names) 0 (in_tasks (add_line (line_of x))) d.deck.systems h
orders_grow d l ls (stmts.Command c) right names h = go (order_by (place_ordered d.names c.order) c.order) refl
  where
    go : (o : Option Order) → order_by (place_ordered d.names c.order) c.order ≡ o
        → AreOrders (length d.names) 0
        (add_order c.at (order_by (place_ordered d.names c.order) c.order) d.deck.systems)
    go None is = rw is h
    go (Some p) is =
        rw is (orders-command (length d.names) 0 (record { at = c.at; order = p }) d.deck.systems
        (λ k e. let same : k ≡ 0 + k = omega arith in
        subst (λ (m : ℕ). IsOrderOf (length d.names) m p) same
        (order_fits d (to_come d.scheduled (l ∷ ls)) c.order right.known names p is k e))
        h)
orders_grow d l ls stmts.Schedule right names h = h
orders_grow d l ls (stmts.Event n a) right names h =
    subst (AreOrders (length d.names) 0) (sym (event_systems (event_of d.deck.systems n a) d.deck)) h

says_ordered : (ls : List TokenLine) (d e : Draft) → Says d ls e → AreNamed d ls
    → AreOrders (length d.names) 0 d.deck.systems → AreNamed e [] × AreOrders (length e.names) 0 e.deck.systems
says_ordered [] d e s names h =
    subst (λ (x : Draft). AreNamed x [] × AreOrders (length x.names) 0 x.deck.systems) s (names, h)
says_ordered (l ∷ ls) d e s names h =
    says_ordered ls (grow d s.0) e s.3 (names_grow d l ls s.0 s.1 s.2 names) (orders_grow d l ls s.0 s.2 names h)

no_more : (b : Bool) → to_come b [] ≡ []
no_more true = refl
no_more false = no_lines

-- Of statements that are all right each command removes another system of the deck.
pub says_orders : (ls : List TokenLine) (d e : Draft) → Says d ls e → AreNamed d ls
    → AreOrders (length d.names) 0 d.deck.systems → AreOrders (length e.deck.systems) 0 e.deck.systems
says_orders ls d e s names h =
    let all = says_ordered ls d e s names h in
    let are : e.names ≡ map name_of e.deck.systems ++ [] =
    all.0 ∙ ap (λ (ns : List (List ℕ)). map name_of e.deck.systems ++ ns) (no_more e.scheduled) in
    let many : length e.names ≡ length e.deck.systems =
    ap length are ∙ length-append (map name_of e.deck.systems) [] ∙ omega (arith, length-map e.deck.systems name_of) in
    subst (λ (n : ℕ). AreOrders n 0 e.deck.systems) many all.1
