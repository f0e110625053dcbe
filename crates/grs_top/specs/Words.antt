-- Which words ask for what.
use Rattle.std.specs.Prelude.{ℕ, ◌+◌, ◌*◌, ◌-◌, ◌==◌, nat_le, not, ◌&&◌, cond, List, [], ◌∷◌, codes, Option, None, Some}
use Rattle.std.specs.Prelude.{if◌then◌else◌}
use Rattle.std.specs.Option.{option_map}
use Rattle.std.specs.Str.{bytes_eq}
use Rattle.grs_base.specs.Limits.{most_tasks}
use Rattle.deck_form.specs.Words.{written_number}
use Rattle.grs_base.specs.ShortNames.{is_digit}
use Rattle.grs_top.specs.StopWords.{stop_of}
use Rattle.grs_top.specs.declared.words.Invocation.{Invocation}
use Rattle.grs_top.specs.declared.words.Invocation.TheVariants.{OfText, Generate}
use Rattle.grs_top.specs.declared.words.Command.{Command}
use Rattle.grs_top.specs.declared.words.Command.TheVariants.{Replay, Run, Lists, Analyze, Notices, Latch, Stop, Audit}

-- the command of a word
abbrev pub command_named : List ℕ → Option Command
command_named word =
    if bytes_eq word (codes "replay") then Some Replay
    else (if bytes_eq word (codes "run") then Some Run
    else (if bytes_eq word (codes "lists") then Some Lists
    else (if bytes_eq word (codes "analyze") then Some Analyze
    else (if bytes_eq word (codes "notices") then Some Notices
    else (if bytes_eq word (codes "latch") then Some Latch
    else (if bytes_eq word (codes "audit") then Some Audit else None))))))

-- a number of which a deck can be made: 1 to 64
abbrev pub size_in : ℕ → Option ℕ
size_in n = cond (nat_le 1 n && nat_le n most_tasks) (Some n) None

-- the number that a word is, in one or two decimal digits of which the first is no zero
abbrev pub size_named : List ℕ → Option ℕ
size_named [] = None
size_named (unit ∷ []) = cond (is_digit unit) (size_in (unit - 48)) None
size_named (ten ∷ unit ∷ []) =
    cond (is_digit ten && not (ten == 48) && is_digit unit) (size_in ((ten - 48) * 10 + (unit - 48))) None
size_named (ten ∷ unit ∷ other ∷ more) = None

-- gen, and a number
abbrev pub invocation_of_two : List ℕ → List ℕ → Option Invocation
invocation_of_two word number = if bytes_eq word (codes "gen") then option_map Generate (size_named number) else None

-- stop, the name of a system, and how many events it makes before
abbrev pub stopping : List ℕ → Option ℕ → Option Invocation
stopping name None = None
stopping name (Some n) = option_map (λ x. OfText (Stop x)) (stop_of name n)

abbrev pub invocation_of_three : List ℕ → List ℕ → List ℕ → Option Invocation
invocation_of_three word name events =
    if bytes_eq word (codes "stop") then stopping name (written_number events) else None

-- What the words after the program's name ask for: one word alone that names a command, gen and a number, or stop with
-- the name of a system and a number.
abbrev pub invocation_of : List (List ℕ) → Option Invocation
invocation_of [] = None
invocation_of (word ∷ []) = option_map OfText (command_named word)
invocation_of (word ∷ number ∷ []) = invocation_of_two word number
invocation_of (word ∷ name ∷ events ∷ []) = invocation_of_three word name events
invocation_of (word ∷ name ∷ events ∷ other ∷ more) = None
