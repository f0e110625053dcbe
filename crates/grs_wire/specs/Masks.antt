-- Sets of systems as numbers. Everything else knows them by the first three words and their laws, and never by
-- their bits.
use Rattle.std.specs.Prelude.{ℕ, zero, suc, ◌^◌, Bool, true, cond, not, ◌&&◌, ◌||◌, eqb, nat_lt, bit_and, bit_or}
use Rattle.std.specs.Prelude.{bit_xor}
use Rattle.std.specs.Int.{bit_at}

-- whether s is in the set m
unfoldable pub has : ℕ → ℕ → Bool
has m s = eqb (bit_at m s) 1

-- m without s
unfoldable pub without : ℕ → ℕ → ℕ
without m s = bit_xor m (bit_and m (2 ^ s))

-- m with s
unfoldable pub with_also : ℕ → ℕ → ℕ
with_also m s = bit_or m (2 ^ s)

-- the set of s alone
abbrev pub only : ℕ → ℕ
only s = with_also 0 s

-- whether s is a live system: one of so many that isn't in the set of the removed
abbrev pub lives : ℕ → ℕ → ℕ → Bool
lives systems removed s = nat_lt s systems && not (has removed s)

-- the systems below n that aren't in the set m
abbrev pub others : ℕ → ℕ → ℕ
others zero m = 0
others (suc n) m = cond (has m n) (others n m) (with_also (others n m) n)

-- the set f without the systems below n that aren't in the set m
abbrev pub without_others : ℕ → ℕ → ℕ → ℕ
without_others zero m f = f
without_others (suc n) m f = cond (has m n) (without_others n m f) (without (without_others n m f) n)

-- the set f without the systems below n that are in the set m
abbrev pub without_all : ℕ → ℕ → ℕ → ℕ
without_all zero m f = f
without_all (suc n) m f = cond (has m n) (without (without_all n m f) n) (without_all n m f)

-- whether each system below n that isn't in the set m passes the test
abbrev pub all_others : ℕ → ℕ → (ℕ → Bool) → Bool
all_others zero m test = true
all_others (suc n) m test = all_others n m test && (has m n || test n)
