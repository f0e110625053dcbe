-- The limits of a complex and of a deck.
use Rattle.std.specs.Prelude.{ℕ, ◌^◌, Bool, ◌&&◌, ◌||◌, ◌==◌, nat_le}

-- systems of a complex
abbrev pub most_systems : ℕ
most_systems = 8

-- bytes of a qname as it is written, trailing blanks too
abbrev pub most_qname_bytes : ℕ
most_qname_bytes = 8

-- bytes of an rname
abbrev pub most_rname_bytes : ℕ
most_rname_bytes = 255

-- entries of a name list
abbrev pub most_entries : ℕ
most_entries = 4096

-- the numbers of lock entries that there may be
abbrev pub is_entries : ℕ → Bool
is_entries n = n == 1 || n == 2 || n == 4 || n == 8 || n == 16 || n == 32 || n == 64

-- the greatest limit of concurrent requests of a task
abbrev pub most_limit : ℕ
most_limit = 4096

-- the limits of concurrent requests that there may be
abbrev pub is_limit : ℕ → Bool
is_limit n = nat_le 1 n && nat_le n most_limit

-- bytes of the name of a system, a job or a task
abbrev pub most_name_bytes : ℕ
most_name_bytes = 8

-- jobs of a system
abbrev pub most_jobs : ℕ
most_jobs = 64

-- tasks of a system, of all its jobs together
abbrev pub most_tasks : ℕ
most_tasks = 64

-- task lines of a deck
abbrev pub most_lines : ℕ
most_lines = 16384

-- task lines of a deck that show something: GQSCAN and DISPLAY
abbrev pub most_displays : ℕ
most_displays = 256

-- the last number of an event, of an entry of the message, and of an element (its rank)
abbrev pub last_number : ℕ
last_number = 2 ^ 57

-- commands of a system's desk
abbrev pub most_commands : ℕ
most_commands = 64

-- requests that a system puts into the message at one Turn
abbrev pub most_additions : ℕ
most_additions = 32
