-- Worked values: the hashes, slices and lock entries of names, and what looks show.
use Rattle.std.proofs.Common.{◌≡◌, refl, codes, replicate}
use Rattle.grs_base.specs.Slices.{hash_from, hash_of, slice_of, entry_of}
use Rattle.grs_base.specs.Names.{padded}

behind_a : hash_from 0 (padded (codes "A")) ≡ 28017
behind_a = refl

hash_of_a_b : hash_of (codes "A") (codes "B") ≡ 16820
hash_of_a_b = refl

slice_of_a_b : slice_of (codes "A") (codes "B") ≡ 52
slice_of_a_b = refl

entry_of_16 : entry_of 52 16 ≡ 4
entry_of_16 = refl

entry_of_1 : entry_of 52 1 ≡ 0
entry_of_1 = refl

slice_of_p_q : slice_of (codes "P") (codes "Q") ≡ 13
slice_of_p_q = refl

slice_of_dataset : slice_of (codes "SYSDSN") (codes "PROD.MASTER") ≡ 21
slice_of_dataset = refl

-- a padded qname of eight bytes of 255, and an rname of as many as there may be
slice_of_longest : slice_of (replicate 8 255) (replicate 255 255) ≡ 53
slice_of_longest = refl
