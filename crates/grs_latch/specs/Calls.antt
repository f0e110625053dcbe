-- Sets of latches by name: what a call is answered, what it makes of the sets, and what is shown of them.
-- (z/OS MVS Programming: Authorized Assembler Services Reference, "ISGLCRT", "ISGLOBT", "ISGLREL" and "ISGLPRG".)
use Rattle.std.specs.Prelude.{◌≡◌, ℕ, zero, suc, Bool, false, ◌||◌, ◌==◌, ◌≤◌, ◌<◌, List, [], ◌∷◌, ◌++◌, length, map}
use Rattle.std.specs.Prelude.{replicate, if◌then◌else◌}
use Rattle.std.specs.Str.{bytes_eq}
use Rattle.grs_base.specs.Lists.{can_have, standing_of, owners}
use Rattle.grs_base.specs.declared.resource.TaskId.{TaskId}
use Rattle.grs_base.specs.declared.resource.Elem.{Elem}
use Rattle.grs_base.specs.declared.resource.Ctl.{Ctl}
use Rattle.grs_latch.specs.Latches.{Lists, task_of, obtain_code, obtained, release_code, released, code_at, changed_at}
use Rattle.grs_latch.specs.Latches.{release_grants, requests_of, purged, purge_grants}
use Rattle.grs_latch.specs.Limits.{most_sets, most_latches}
use Rattle.grs_latch.specs.declared.call.LatchCall.{LatchCall}
use Rattle.grs_latch.specs.declared.call.LatchCall.TheVariants.{Crt, Obt, Rel, Prg}
use Rattle.grs_latch.specs.declared.reply.LatchReply.{LatchReply}
use Rattle.grs_latch.specs.declared.reply.LatchRow.{LatchRow}
use Rattle.grs_latch.specs.declared.sets.NamedSet.{NamedSet}

-- the sets in order of making, each with its name
abbrev pub Sets : Type 0
Sets = List NamedSet

-- the set that a call names
abbrev pub name_of : LatchCall → List ℕ
name_of (Crt n count) = n
name_of (Obt n l r c sync) = n
name_of (Rel n l r) = n
name_of (Prg n r) = n

-- a reply by which nobody gets a latch
abbrev pub plain : ℕ → LatchReply
plain code = record { code = code; taken = 0; grants = [] }

-- what a purge is answered that takes so many requests out
abbrev pub purge_code : ℕ → ℕ
purge_code taken = if taken == 0 then 4 else 0

-- what a call is answered whose set has this place and these latches
abbrev pub reply_in : ℕ → LatchCall → Lists → LatchReply
reply_in at (Crt n count) ls = plain 4
reply_in at (Obt n l r c sync) ls =
    plain (code_at (λ es. obtain_code (standing_of es (task_of r)) (can_have es c)) l ls)
reply_in at (Rel n l r) ls = record {
  code = code_at (λ es. release_code (standing_of es (task_of r))) l ls;
  taken = 0;
  grants = release_grants at l l ls (task_of r);
}
reply_in at (Prg n r) ls = record {
  code = purge_code (requests_of ls (task_of r));
  taken = requests_of ls (task_of r);
  grants = purge_grants at 0 ls (task_of r);
}

-- what it makes of these latches
abbrev pub lists_after : LatchCall → Lists → Lists
lists_after (Crt n count) ls = ls
lists_after (Obt n l r c sync) ls = changed_at (λ es. obtained es (task_of r) c sync) l ls
lists_after (Rel n l r) ls = changed_at (λ es. released es (task_of r)) l ls
lists_after (Prg n r) ls = purged ls (task_of r)

-- what a call is answered where there is no set of its name: the set is made, or there is no such latch
abbrev pub reply_apart : LatchCall → LatchReply
reply_apart (Crt n count) = plain 0
reply_apart _ = plain 12

-- the set that it makes there, if any
abbrev pub made_by : LatchCall → Sets
made_by (Crt n count) = record { name = n; latches = replicate count [] } ∷ []
made_by _ = []

-- what a call is answered: by the first set of its name, of these, of which the first has this place
abbrev pub reply : ℕ → LatchCall → Sets → LatchReply
reply at c [] = reply_apart c
reply at c (s ∷ ss) = if bytes_eq s.name (name_of c) then reply_in at c s.latches else reply (suc at) c ss

-- the sets after a call
abbrev pub after : LatchCall → Sets → Sets
after c [] = made_by c
after c (s ∷ ss) =
    if bytes_eq s.name (name_of c)
    then record { name = s.name; latches = lists_after c s.latches } ∷ ss
    else s ∷ after c ss

-- whether a set has this name
abbrev pub is_there : List ℕ → Sets → Bool
is_there n [] = false
is_there n (s ∷ ss) = bytes_eq s.name n || is_there n ss

-- a call that may come: where no set has its name, one that makes a set gives it latches, and there is room for it
abbrev pub MayCome : LatchCall → Sets → Type 0
MayCome (Crt n count) ss = is_there n ss ≡ false → (1 ≤ count) × (count ≤ most_latches) × (length ss < most_sets)
MayCome _ ss = Unit {0}

-- the replies of calls, one behind the other, and the sets behind the last
abbrev pub replies : List LatchCall → Sets → List LatchReply
replies [] ss = []
replies (c ∷ cs) ss = reply 0 c ss ∷ replies cs (after c ss)

abbrev pub after_all : List LatchCall → Sets → Sets
after_all [] ss = ss
after_all (c ∷ cs) ss = after_all cs (after c ss)

-- the name of the set at a place
abbrev pub set_name : ℕ → Sets → List ℕ
set_name p [] = []
set_name zero (s ∷ ss) = s.name
set_name (suc p) (s ∷ ss) = set_name p ss

-- calls each of which may come behind those before it
abbrev pub AllCome : List LatchCall → Sets → Type 0
AllCome [] ss = Unit {0}
AllCome (c ∷ cs) ss = MayCome c ss × AllCome cs (after c ss)

-- what is shown of a latch that has requests
abbrev pub row_of : ℕ → ℕ → List Elem → LatchRow
row_of at l es = record { set = at; latch = l; elems = map (λ e. (e.task.task, e.ctl)) es; owners = owners es }

-- the rows of a latch, of latches from this number on, and of sets from this place on
abbrev pub rows_at : ℕ → ℕ → List Elem → List LatchRow
rows_at at l [] = []
rows_at at l (e ∷ es) = row_of at l (e ∷ es) ∷ []

abbrev pub rows_in : ℕ → ℕ → Lists → List LatchRow
rows_in at l [] = []
rows_in at l (es ∷ ls) = rows_at at l es ++ rows_in at (suc l) ls

abbrev pub rows_of : ℕ → Sets → List LatchRow
rows_of at [] = []
rows_of at (s ∷ ss) = rows_in at 0 s.latches ++ rows_of (suc at) ss
