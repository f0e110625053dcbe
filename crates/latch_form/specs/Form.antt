-- What is read of the tokens of a line that is a call.
use Rattle.std.specs.Prelude.{ℕ, Bool, true, false, ◌&&◌, nat_le, List, [], ◌∷◌, codes, Option, Some, None, Result, Ok, Err}
use Rattle.std.specs.Prelude.{if◌then◌else◌}
use Rattle.std.specs.Str.{bytes_eq}
use Rattle.grs_base.specs.declared.fault.Kind.{Kind}
use Rattle.grs_base.specs.declared.fault.Kind.TheVariants.{UnknownStatement, BadOperand}
use Rattle.grs_base.specs.declared.resource.Ctl.{Ctl}
use Rattle.grs_base.specs.declared.resource.Ctl.TheVariants.{E, S}
use Rattle.deck_scan.specs.declared.token.Token.{Token}
use Rattle.deck_scan.specs.declared.token.Token.TheVariants.{Word, Unclosed}
use Rattle.deck_scan.specs.declared.token.TokenLine.{TokenLine}
use Rattle.deck_scan.specs.Next.{◌>>=◌, end_at, any_word_at}
use Rattle.deck_form.specs.Words.{short_at, written_number}
use Rattle.grs_latch.specs.Limits.{most_latches}
use Rattle.latch_form.specs.declared.form.Ask.{Ask}
use Rattle.latch_form.specs.declared.form.Ask.TheVariants.{Make, Obtain, Release, Purge}
use Rattle.latch_form.specs.declared.form.GivenCall.{GivenCall}
use Rattle.latch_form.specs.declared.form.Verb.{Verb}
use Rattle.latch_form.specs.declared.form.Verb.TheVariants.{Crt, Obt, Rel, Prg}
use Rattle.latch_form.specs.Drafts.{most_requestor}

unfoldable pub number_at : List Token → Option (ℕ × List Token)
number_at ts = do
  w ← any_word_at ts
  n ← written_number w.0
  Some (n, w.1)

unfoldable pub requestor_at : List Token → Option (ℕ × List Token)
requestor_at ts = do
  n ← number_at ts
  if nat_le n.0 most_requestor then Some (n.0, n.1) else None

abbrev pub ctl_of : List ℕ → Option Ctl
ctl_of w = if bytes_eq w (codes "E") then Some E else if bytes_eq w (codes "S") then Some S else None

unfoldable pub ctl_at : List Token → Option (Ctl × List Token)
ctl_at ts = do
  w ← any_word_at ts
  c ← ctl_of w.0
  Some (c, w.1)

abbrev pub sync_of : List ℕ → Option Bool
sync_of w = if bytes_eq w (codes "SYNC") then Some true else if bytes_eq w (codes "COND") then Some false else None

unfoldable pub sync_at : List Token → Option (Bool × List Token)
sync_at ts = do
  w ← any_word_at ts
  s ← sync_of w.0
  Some (s, w.1)

-- how many latches a set may have
abbrev pub is_count : ℕ → Bool
is_count n = nat_le 1 n && nat_le n most_latches

unfoldable pub make_at : List Token → Option Ask
make_at ts = do
  n ← number_at ts
  end ← end_at n.1
  if is_count n.0 then Some (Make n.0) else None

unfoldable pub obtain_at : List Token → Option Ask
obtain_at ts = do
  l ← number_at ts
  r ← requestor_at l.1
  c ← ctl_at r.1
  s ← sync_at c.1
  end ← end_at s.1
  Some (Obtain l.0 r.0 c.0 s.0)

unfoldable pub release_at : List Token → Option Ask
release_at ts = do
  l ← number_at ts
  r ← requestor_at l.1
  end ← end_at r.1
  Some (Release l.0 r.0)

unfoldable pub purge_at : List Token → Option Ask
purge_at ts = do
  r ← requestor_at ts
  end ← end_at r.1
  Some (Purge r.0)

abbrev pub ask_at : Verb → List Token → Option Ask
ask_at Crt ts = make_at ts
ask_at Obt ts = obtain_at ts
ask_at Rel ts = release_at ts
ask_at Prg ts = purge_at ts

abbrev pub verb_of : List ℕ → Option Verb
verb_of w =
    if bytes_eq w (codes "CRT") then Some Crt
    else if bytes_eq w (codes "OBT") then Some Obt
    else if bytes_eq w (codes "REL") then Some Rel
    else if bytes_eq w (codes "PRG") then Some Prg
    else None

unfoldable pub call_at : Verb → List Token → Option GivenCall
call_at v ts = do
  n ← short_at ts
  a ← ask_at v n.1
  Some (record { set = n.0; ask = a })

abbrev pub or_bad : Option GivenCall → Result GivenCall Kind
or_bad (Some c) = Ok c
or_bad None = Err BadOperand

abbrev pub formed : Option Verb → List Token → Result GivenCall Kind
formed None ts = Err UnknownStatement
formed (Some v) ts = or_bad (call_at v ts)

abbrev pub first_form : List Token → Result GivenCall Kind
first_form (Word w ∷ ts) = formed (verb_of w) ts
first_form (Unclosed ∷ ts) = Err BadOperand
first_form _ = Err UnknownStatement

unfoldable pub form : TokenLine → Result GivenCall Kind
form l = if l.joined then Err UnknownStatement else first_form l.tokens
