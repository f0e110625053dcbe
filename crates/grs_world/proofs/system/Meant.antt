-- The resource that a line asks for is one of the whole complex, or one of its task's system alone; and own lists that
-- a line shows are those of its task's system.
use Rattle.grs_world.proofs.Common.{[], ◌||◌, ◌∙◌, ◌∷◌, ◌≡◌, Bool, Deck, eq-eqb, false, is_res_of, is_systems, Line}
use Rattle.grs_world.proofs.Common.{lines_of, List, map, Meaning, meanings, None, Option, option_map, refl, Res}
use Rattle.grs_world.proofs.Common.{scripts_of, slice_get, Some, subst, sym, SysId, TaskId, true, ℕ}
use Rattle.grs_legal.specs.Asks.{meaning_of, lines_in}
use Rattle.grs_base.specs.declared.line.Scope.{Scope}
use Rattle.grs_base.specs.declared.rnl.Lists.{Lists}
use Rattle.scope_resolve.specs.Resolve.{res_in}
use Rattle.grs_node.proofs.Places.{slice_get-map}
use Rattle.grs_base.specs.declared.line.Line.TheVariants as written
use Rattle.grs_base.specs.declared.line.Scope.TheVariants as scopes
use Rattle.grs_legal.specs.declared.meaning.Meaning.TheVariants as lines

-- whether a system's tasks ask for a resource
abbrev pub is_own : ℕ → Res → Bool
is_own s r = is_systems r || is_res_of s r

res_own : (scope : Scope) (s : SysId) (job : ℕ) (q r : List ℕ) → is_own s.0 (res_in scope s job q r) ≡ true
res_own scopes.Step s job q r = eq-eqb s.0 s.0 refl
res_own scopes.System s job q r = eq-eqb s.0 s.0 refl
res_own scopes.Systems s job q r = refl

-- whose own lists are looked at, if any are, is the system of this number
abbrev pub IsHome : ℕ → Option SysId → Type 0
IsHome s None = Unit {0}
IsHome s (Some u) = u.0 ≡ s

-- what is asked by a line of a task of system s is for such a resource, or shows its own lists
abbrev pub IsOwnLine : ℕ → Meaning → Type 0
IsOwnLine s (lines.Enq r c ret unit) = is_own s r ≡ true
IsOwnLine s (lines.Deq r have) = is_own s r ≡ true
IsOwnLine s (lines.Wait r) = Unit {0}
IsOwnLine s (lines.Shows d) = IsHome s d.home
IsOwnLine s lines.Nothing = Unit {0}

line_own : (lists : Lists) (t : TaskId) (l : Line) → IsOwnLine t.system.0 (meaning_of lists t l)
line_own lists t (written.Enq [] ret rnl) = tt
line_own lists t (written.Enq (i ∷ more) ret rnl) = res_own _ t.system t.job i.q i.r
line_own lists t (written.Reserve q r ctl unit ret rnl) = res_own _ t.system t.job q r
line_own lists t (written.Deq q r scope have unit rnl) = res_own _ t.system t.job q r
line_own lists t (written.Wait q r scope rnl) = tt
line_own lists t (written.Gqscan true filter) = tt
line_own lists t (written.Gqscan false filter) = refl
line_own lists t written.DisplayC = refl
line_own lists t (written.DisplayRes q r) = refl

pub lines_own : (deck : Deck) (t : TaskId) (ls : List Meaning) (k : ℕ) (l : Meaning) → lines_of deck t ≡ Some ls
    → slice_get ls k ≡ Some l → IsOwnLine t.system.0 l
lines_own deck t ls k l h at = of_task (lines_in (scripts_of deck t.system.0) t) h
  where
    of_line : (o : Option Line) → option_map (meaning_of deck.lists t) o ≡ Some l → IsOwnLine t.system.0 l
    of_line None e = absurd (cc)
    of_line (Some x) e =
        let same : meaning_of deck.lists t x ≡ l = cc in subst (IsOwnLine t.system.0) same (line_own deck.lists t x)

    of_task : (o : Option (List Line)) → meanings deck.lists t o ≡ Some ls → IsOwnLine t.system.0 l
    of_task None e = absurd (cc)
    of_task (Some xs) e =
        let same : map (meaning_of deck.lists t) xs ≡ ls = cc in
        of_line (slice_get xs k)
        (sym (slice_get-map (meaning_of deck.lists t) xs k) ∙ subst (λ zs. slice_get zs k ≡ Some l) (sym same) at)
