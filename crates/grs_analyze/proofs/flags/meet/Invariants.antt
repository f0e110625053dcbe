use Rattle.std.proofs.Common.{◌≡◌, ◌<◌, ◌≤◌, ◌&&◌, ℕ, false, length, get_or}
use Rattle.grs_analyze.proofs.flags.meet.Given as goal

abbrev pub invariant-loop-n : goal.invariant-loop-n
invariant-loop-n l = record {
  long : length l.flags ≡ length l.initial.flags;
  before : (n : ℕ) → n < l.n → get_or l.flags n false ≡ (get_or l.initial.flags n false && get_or l.others n false);
  behind : (n : ℕ) → l.n ≤ n → get_or l.flags n false ≡ get_or l.initial.flags n false;
  same : l.changed ≡ false → l.flags ≡ l.initial.flags;
}
