-- What a call leaves of what the message has to hold.
use Rattle.grs_world.proofs.Common.{[], ◌&&◌, ◌++◌, ◌+◌, ◌-◌, ◌<◌, ◌∙◌, ◌∷◌, ◌≡◌, ◌≢◌, ◌≤◌, ap, append-nil, arith}
use Rattle.grs_world.proofs.Common.{Bodies, Bool, cleared, cond, drop, drop-append_seam, dropped, eqb-true, false}
use Rattle.grs_world.proofs.Common.{Fixed, has, length, length-append, List, live, map, map-append, MediumState}
use Rattle.grs_world.proofs.Common.{Message, Purged, put_at, put_here, put_other, refl, Remove, Req, RingEntry, rounds}
use Rattle.grs_world.proofs.Common.{RunItem, stamped, subst, suc, sym, SysId, true, turned_open, unseen, ℕ}
use Rattle.std.proofs.Common.{eqb, leb}
use Rattle.rsa_message.proofs.Stands.{Stands, none, gone, kept, Stands-cleared, Stands-append, Stands-stamped}
use Rattle.rsa_message.proofs.Stands.{unseen-drop, waits_for, waits_new, waits_seen, waits_live}
use Rattle.grs_wire.specs.declared.request.Fixed.TheVariants.{Asked}
use Rattle.grs_world.proofs.run.Runs.{GoodMessage, seen_at, message_log}
use Rattle.grs_world.proofs.run.Growing.{fixeds}

Stands-same : (U V : ℕ → ℕ → Bool) → ((j s : ℕ) → U j s ≡ V j s) → {k : ℕ} {qs : List Fixed} {es : List RingEntry}
    → Stands U k qs es → Stands V k qs es
Stands-same U V same none = none
Stands-same U V same (gone {k = k} h r) = gone (λ s. sym (same k s) ∙ h s) (Stands-same U V same r)
Stands-same U V same (kept {k = k} number body h r) = kept number body (λ s. h s ∙ same k s) (Stands-same U V same r)

pub length-fixeds : (xs : List RunItem) → length (fixeds xs) ≡ length xs
length-fixeds [] = refl
length-fixeds (x ∷ xs) = ap suc (length-fixeds xs)

log-parts : (before later log : List RunItem) → log ≡ before ++ later → fixeds log ≡ fixeds before ++ fixeds later
log-parts before later log e = ap fixeds e ∙ map-append (λ (x : RunItem). x.fixed) before later

seen-within : (before later log : List RunItem) → log ≡ before ++ later → length before ≤ length (fixeds log)
seen-within before later log e =
    let a : length (fixeds log) ≡ length before + length later =
    length-fixeds log ∙ ap length e ∙ length-append before later in
    omega arith

-- The entries given to c are what it has still to process, where this went with the message.
pub given-due : (m : MediumState) (c : SysId) (before : ℕ → List RunItem) (due log : List RunItem)
    → log ≡ before c.0 ++ due → has (live m) c.0 ≡ true → GoodMessage m (fixeds log) (seen_at before)
    → Bodies (fixeds due) (unseen c m.message.entries)
given-due m c before due log whole alive g =
    let z : seen_at before c.0 - 0 ≡ seen_at before c.0 = omega arith in
    let parts : drop (seen_at before c.0 - 0) (fixeds log) ≡ fixeds due =
    ap (λ k. drop k (fixeds log)) z
    ∙ (ap (drop (seen_at before c.0)) (log-parts (before c.0) due log whole)
    ∙ (ap (λ k. drop k (fixeds (before c.0) ++ fixeds due)) (sym (length-fixeds (before c.0)))
    ∙ drop-append_seam (fixeds (before c.0)) (fixeds due))) in
    subst (λ qs. Bodies qs (unseen c m.message.entries)) parts
    (unseen-drop c (seen_at before c.0) (waits_live (live m) (seen_at before) c.0 alive) g.stands)

pub given-later : (m : MediumState) (c : SysId) (before : ℕ → List RunItem) (later T : List RunItem)
    → rounds T ≡ before c.0 ++ later → has (live m) c.0 ≡ true → GoodMessage m (message_log T) (seen_at before)
    → Bodies (fixeds later) (unseen c m.message.entries)
given-later m c before later T whole alive g = given-due m c before later (rounds T) whole alive g

-- The same stands in another medium with these entries.
pub message-kept : (m m' : MediumState) (log : List Fixed) (seen : ℕ → ℕ) → m'.message.entries ≡ m.message.entries
    → m'.message.next ≡ m.message.next → live m' ≡ live m → GoodMessage m log seen → GoodMessage m' log seen
message-kept m m' log seen entries next alive g = record {
  stands =
      subst (λ (es : List RingEntry). Stands (waits_for (live m') seen) 0 log es) (sym entries)
      (subst (λ l. Stands (waits_for l seen) 0 log m.message.entries) (sym alive) g.stands);
  next = next ∙ g.next;
}

-- At the closed message c processes all that it was given.
pub message-closed : (m m' : MediumState) (c : SysId) (before due : ℕ → List RunItem) (all : List RunItem)
    → ((u : ℕ) → all ≡ before u ++ due u) →
    m'.message.entries ≡ cleared c m.message.entries → m'.message.next ≡ m.message.next → live m' ≡ live m
    → GoodMessage m (fixeds all) (seen_at before) → GoodMessage m' (fixeds all) (seen_at (put_at before c.0 all))
message-closed m m' c before due all parts entries next alive g =
    let seen = seen_at (put_at before c.0 all) in
    let U = waits_for (live m) (seen_at before) in
    let V = waits_for (live m) seen in
    let W = waits_for (live m') seen in
    let seen_c : seen c.0 ≡ length (fixeds all) =
    ap (λ (xs : List RunItem). length xs) (put_here before c.0 all) ∙ sym (length-fixeds all) in
    let at_c : (j : ℕ) → j < length (fixeds all)
    → V j c.0 ≡ false = λ j l. waits_seen (live m) seen j c.0 (rw seen_c l) in
    let apart : (j u : ℕ) → j < length (fixeds all) → u ≢ c.0
    → V j u
    ≡ U j u = λ j u l ne.
    ap (λ (xs : List RunItem). has (live m) u && leb (length xs) j) (put_other before c.0 all u ne) in
    record {
      stands =
          subst (λ (es : List RingEntry). Stands W 0 (fixeds all) es) (sym entries)
          (Stands-same V W (λ j u. ap (λ l. has l u && leb (seen u) j) (sym alive))
          (Stands-cleared U V c (length (fixeds all)) at_c apart (omega arith) g.stands));
      next = next ∙ g.next;
    }

-- Nothing happens to the message.
pub message-same : (m m' : MediumState) (log : List Fixed) (before : ℕ → List RunItem) (s : ℕ) → m'.message ≡ m.message
    → live m' ≡ live m → GoodMessage m log (seen_at before)
    → GoodMessage m' (log ++ []) (seen_at (put_at before s (before s)))
message-same m m' log before s same same_live g =
    let still : (u : ℕ)
    → seen_at (put_at before s (before s)) u
    ≡ seen_at before u = λ u. ap (λ (xs : List RunItem). length xs) (kept_at u (eqb u s) refl) in
    let U = waits_for (live m) (seen_at before) in
    let V = waits_for (live m') (seen_at (put_at before s (before s))) in
    let all_same : (j u : ℕ)
    → U j u
    ≡ V j u = λ j u.
    ap (λ l. has l u && leb (seen_at before u) j) (sym same_live)
    ∙ ap (λ k. has (live m') u && leb k j) (sym (still u)) in
    record {
      stands =
          subst (λ (x : Message). Stands V 0 (log ++ []) x.entries) (sym same)
          (subst (λ qs. Stands V 0 qs m.message.entries) (sym (append-nil log)) (Stands-same U V all_same g.stands));
      next = ap (λ (x : Message). x.next) same ∙ (g.next ∙ ap (λ qs. suc (length qs)) (sym (append-nil log)));
    }
  where
    kept_at : (u : ℕ) (b : Bool) → eqb u s ≡ b → cond (eqb u s) (before s) (before u) ≡ before u
    kept_at u true e = ap (λ b. cond b (before s) (before u)) e ∙ ap before (sym (eqb-true u s e))
    kept_at u false e = ap (λ b. cond b (before s) (before u)) e

-- Here c had its Turn.
pub message-turned :
    (m m' : MediumState) (c : SysId) (out : List Req) (flags : ℕ) (before later : ℕ → List RunItem) (T : List RunItem)
    → ((u : ℕ) → rounds T ≡ before u ++ later u)
    → m'.message ≡ turned_open m.message c out (live m) flags → live m' ≡ live m
    → GoodMessage m (message_log T) (seen_at before)
    → GoodMessage m' (message_log T ++ map Asked out) (seen_at (put_at before c.0 (rounds T)))
message-turned m m' c out flags before later T whole same same_live g =
    let log = message_log T in
    let seen = seen_at (put_at before c.0 (rounds T)) in
    let U = waits_for (live m) (seen_at before) in
    let V = waits_for (live m) seen in
    let W = waits_for (live m') seen in
    let seen_c : seen c.0 ≡ length log =
    ap (λ (xs : List RunItem). length xs) (put_here before c.0 (rounds T)) ∙ sym (length-fixeds (rounds T)) in
    let at_c : (j : ℕ) → j < length log → V j c.0 ≡ false = λ j l. waits_seen (live m) seen j c.0 (rw seen_c l) in
    let apart : (j u : ℕ) → j < length log → u ≢ c.0
    → V j u
    ≡ U j u = λ j u l ne.
    ap (λ (xs : List RunItem). has (live m) u && leb (length xs) j) (put_other before c.0 (rounds T) u ne) in
    let within : (u : ℕ) → has (live m) u ≡ true → seen u ≤ length log = λ u h. all_within u (eqb u c.0) refl in
    let stands :
    Stands V 0 (log ++ map Asked out) (cleared c m.message.entries ++ stamped (suc (length log)) c (live m) out) =
    Stands-append (length log) (map Asked out) (stamped (suc (length log)) c (live m) out) (omega arith)
    (Stands-cleared U V c (length log) at_c apart (omega arith) g.stands)
    (Stands-stamped V c (live m) (length log) out (λ j u l. waits_new (live m) seen (length log) within j u l)) in
    record {
      stands = subst (λ (x : Message). Stands W 0 (log ++ map Asked out) x.entries) (sym same)
          (subst (λ k. Stands W 0 (log ++ map Asked out) (cleared c m.message.entries ++ stamped k c (live m) out))
          (sym g.next) (Stands-same V W (λ j u. ap (λ l. has l u && leb (seen u) j) (sym same_live)) stands));
      next =
          ap (λ (x : Message). x.next) same
          ∙ (ap (λ k. k + length out) g.next
          ∙ (more_numbers (length log) (length out)
          ∙ ap suc (ap (λ k. length log + k) (sym (length-asked out)) ∙ sym (length-append log (map Asked out)))));
    }
  where
    more_numbers : (a b : ℕ) → suc a + b ≡ suc (a + b)
    more_numbers a b = omega arith

    length-asked : (qs : List Req) → length (map Asked qs) ≡ length qs
    length-asked [] = refl
    length-asked (q ∷ qs) = ap suc (length-asked qs)

    all_within : (u : ℕ) (b : Bool) → eqb u c.0 ≡ b
        → length (cond (eqb u c.0) (rounds T) (before u)) ≤ length (message_log T)
    all_within u true e =
        subst (λ b. length (cond b (rounds T) (before u)) ≤ length (message_log T)) (sym e)
        (seen-within (rounds T) [] (rounds T) (sym (append-nil (rounds T))))
    all_within u false e =
        subst (λ b. length (cond b (rounds T) (before u)) ≤ length (message_log T)) (sym e)
        (seen-within (before u) (later u) (rounds T) (whole u))

-- System t was removed by c: it leaves all masks, and the removal is to be processed by all that are live then.
pub message-removed : (m m' : MediumState) (c t : SysId) (before later : ℕ → List RunItem) (T : List RunItem)
    → ((u : ℕ) → rounds T ≡ before u ++ later u)
    → m'.message ≡ dropped m.message c t (live m') → has (live m') t.0 ≡ false
    → ((u : ℕ) → u ≢ t.0 → has (live m') u ≡ has (live m) u) → GoodMessage m (message_log T) (seen_at before)
    → GoodMessage m' (message_log T ++ Purged t ∷ []) (seen_at before)
unfolding dropped
message-removed m m' c t before later T whole is out others g =
    let log = message_log T in
    let U = waits_for (live m) (seen_at before) in
    let V = waits_for (live m') (seen_at before) in
    let at_t : (j : ℕ) → j < length log → V j t.0 ≡ false = λ j l. ap (λ b. b && leb (seen_at before t.0) j) out in
    let apart : (j u : ℕ) → j < length log → u ≢ t.0
    → V j u ≡ U j u = λ j u l ne. ap (λ b. b && leb (seen_at before u) j) (others u ne) in
    let within : (u : ℕ) → has (live m') u ≡ true
    → seen_at before u ≤ length log = λ u h. seen-within (before u) (later u) (rounds T) (whole u) in
    let new :
    Stands V (length log) (Purged t ∷ [])
    (record { number = m.message.next; from = c; body = Remove t; mask = live m' } ∷ []) =
    kept g.next refl (λ u. waits_new (live m') (seen_at before) (length log) within (length log) u (omega arith))
    none in
    let more : length (log ++ Purged t ∷ []) ≡ length log + 1 = length-append log (Purged t ∷ []) in
    record {
      stands =
          subst (λ (x : Message). Stands V 0 (log ++ Purged t ∷ []) x.entries) (sym is)
          (Stands-append (length log) (Purged t ∷ []) _ (omega arith)
          (Stands-cleared U V t (length log) at_t apart (omega arith) g.stands) new);
      next =
          ap (λ (x : Message). x.next) is
          ∙ (ap suc g.next
          ∙ ap suc (let e : suc (length log) ≡ length (log ++ Purged t ∷ []) = omega (arith, more) in e));
    }
