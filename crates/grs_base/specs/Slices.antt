-- How Systems resources are dealt out: each to one of 64 slices, and each slice to a lock entry.
use Rattle.std.specs.Prelude.{ℕ, ◌+◌, ◌*◌, ◌%◌, List, [], ◌∷◌}
use Rattle.grs_base.specs.Names.{padded}

-- a hash that goes on over bytes
abbrev pub hash_from : ℕ → List ℕ → ℕ
hash_from h [] = h
hash_from h (b ∷ bs) = hash_from ((h * 31 + b) % 65521) bs

-- the hash of a padded qname and an rname
abbrev pub hash_of : List ℕ → List ℕ → ℕ
hash_of q r = hash_from (hash_from 0 (padded q)) r

-- the slice of a resource of these names, from 0
abbrev pub slice_of : List ℕ → List ℕ → ℕ
slice_of q r = hash_of q r % 64

-- the lock entry of a slice, where there are so many entries
abbrev pub entry_of : ℕ → ℕ → ℕ
entry_of slice entries = slice % entries
