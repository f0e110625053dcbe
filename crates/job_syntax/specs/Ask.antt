-- ENQ, RESERVE, DEQ and WAIT.
use Rattle.std.specs.Prelude.{ℕ, Bool, true, false, ◌&&◌, List, codes, Option, Some, None, is_none, is_some}
use Rattle.std.specs.Prelude.{if◌then◌else◌}
use Rattle.std.specs.Str.{bytes_eq}
use Rattle.grs_base.specs.declared.line.Scope.{Scope}
use Rattle.grs_base.specs.declared.line.Scope.TheVariants as scopes
use Rattle.grs_base.specs.declared.resource.Ctl.{Ctl}
use Rattle.grs_base.specs.declared.resource.Ctl.TheVariants.{E, S}
use Rattle.grs_base.specs.declared.resource.Ret.{Ret}
use Rattle.grs_base.specs.declared.resource.Ret.TheVariants.{RetNone, RetHave}
use Rattle.deck_scan.specs.declared.token.Token.{Token}
use Rattle.job_syntax.specs.declared.options.Opts.{Opts}
use Rattle.job_syntax.specs.declared.ask.ResAsk.{ResAsk}
use Rattle.job_syntax.specs.declared.ask.EnqAsk.{EnqAsk}
use Rattle.deck_scan.specs.Next.{◌>>=◌, open_at, close_at, comma_at, any_word_at, name_at}
use Rattle.job_syntax.specs.Options.{options_at}

unfoldable pub ctl_at : List Token → Option (Ctl × List Token)
ctl_at ts = do
  w ← any_word_at ts
  if bytes_eq w.0 (codes "E") then Some (E, w.1) else if bytes_eq w.0 (codes "S") then Some (S, w.1) else None

unfoldable pub scope_at : List Token → Option (Scope × List Token)
scope_at ts = do
  w ← any_word_at ts
  if bytes_eq w.0 (codes "STEP") then Some (scopes.Step, w.1)
      else if bytes_eq w.0 (codes "SYSTEM") then Some (scopes.System, w.1)
      else if bytes_eq w.0 (codes "SYSTEMS") then Some (scopes.Systems, w.1)
      else None

-- ( name , name ,
unfoldable pub names_at : List Token → Option (List ℕ × List ℕ × List Token)
names_at ts = do
  a ← open_at ts
  q ← name_at a
  b ← comma_at q.1
  r ← name_at b
  c ← comma_at r.1
  Some (q.0, r.0, c)

-- A scope, the closing parenthesis, and the options.
unfoldable pub place_at : List Token → Option (Scope × Opts)
place_at ts = do
  s ← scope_at ts
  a ← close_at s.1
  o ← options_at a
  Some (s.0, o)

abbrev pub is_wide : Scope → Bool
is_wide scopes.Step = false
is_wide scopes.System = false
is_wide scopes.Systems = true

-- ENQ has RET or ECB, and RNL.
abbrev pub enq_may : ResAsk → Bool
enq_may a = is_none a.opts.unit

-- RESERVE has UCB and the scope SYSTEMS, RET or ECB, and RNL.
abbrev pub reserve_may : ResAsk → Bool
reserve_may a = is_wide a.scope && is_some a.opts.unit

abbrev pub is_deq_ret : Option Ret → Bool
is_deq_ret None = true
is_deq_ret (Some RetNone) = true
is_deq_ret (Some RetHave) = true
is_deq_ret (Some _) = false

-- DEQ has RET=NONE or RET=HAVE, UCB and RNL.
abbrev pub deq_may : ResAsk → Bool
deq_may a = is_deq_ret a.opts.ret

-- WAIT has RNL.
abbrev pub wait_may : ResAsk → Bool
wait_may a = is_none a.opts.ret && is_none a.opts.unit

-- Names, a control, a scope and options.
unfoldable pub controlled_at : List Token → Option EnqAsk
controlled_at ts = do
  n ← names_at ts
  c ← ctl_at n.2
  a ← comma_at c.1
  p ← place_at a
  Some (record { ctl = c.0; ask = record { q = n.0; r = n.1; scope = p.0; opts = p.1 } })

-- Names, a scope and options.
unfoldable pub uncontrolled_at : List Token → Option ResAsk
uncontrolled_at ts = do
  n ← names_at ts
  p ← place_at n.2
  Some (record { q = n.0; r = n.1; scope = p.0; opts = p.1 })

unfoldable pub enq_at : List Token → Option EnqAsk
enq_at ts = do
  e ← controlled_at ts
  if enq_may e.ask then Some e else None

unfoldable pub reserve_at : List Token → Option EnqAsk
reserve_at ts = do
  e ← controlled_at ts
  if reserve_may e.ask then Some e else None

unfoldable pub deq_at : List Token → Option ResAsk
deq_at ts = do
  a ← uncontrolled_at ts
  if deq_may a then Some a else None

unfoldable pub wait_at : List Token → Option ResAsk
wait_at ts = do
  a ← uncontrolled_at ts
  if wait_may a then Some a else None
