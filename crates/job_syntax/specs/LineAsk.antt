-- What a task line says, by its first word and the tokens behind it.
use Rattle.std.specs.Prelude.{ℕ, List, codes, Option, Some, None, if◌then◌else◌}
use Rattle.std.specs.Str.{bytes_eq}
use Rattle.deck_scan.specs.declared.token.Token.{Token}
use Rattle.job_syntax.specs.declared.line_ask.LineAsk.{LineAsk}
use Rattle.job_syntax.specs.declared.line_ask.LineAsk.TheVariants as asks
use Rattle.job_syntax.specs.declared.line_ask.LineWord.{LineWord}
use Rattle.job_syntax.specs.declared.line_ask.LineWord.TheVariants as words
use Rattle.deck_scan.specs.Next.{◌>>=◌}
use Rattle.job_syntax.specs.Ask.{enq_at, reserve_at, deq_at, wait_at}
use Rattle.job_syntax.specs.Display.{scan_at, display_at}

-- The word of a task line. D is short for DISPLAY.
unfoldable pub line_word : List ℕ → Option LineWord
line_word w =
    if bytes_eq w (codes "ENQ") then Some words.Enq
    else if bytes_eq w (codes "RESERVE") then Some words.Reserve
    else if bytes_eq w (codes "DEQ") then Some words.Deq
    else if bytes_eq w (codes "WAIT") then Some words.Wait
    else if bytes_eq w (codes "GQSCAN") then Some words.Gqscan
    else if bytes_eq w (codes "DISPLAY") then Some words.Display
    else if bytes_eq w (codes "D") then Some words.Display
    else None

-- What stands behind the first word.
unfoldable pub line_ask_at : LineWord → List Token → Option LineAsk
line_ask_at words.Enq ts = enq_at ts >>= λ e. Some (asks.Enq e)
line_ask_at words.Reserve ts = reserve_at ts >>= λ e. Some (asks.Reserve e)
line_ask_at words.Deq ts = deq_at ts >>= λ a. Some (asks.Deq a)
line_ask_at words.Wait ts = wait_at ts >>= λ a. Some (asks.Wait a)
line_ask_at words.Gqscan ts = scan_at ts >>= λ s. Some (asks.Gqscan s)
line_ask_at words.Display ts = display_at ts >>= λ s. Some (asks.Display s)
