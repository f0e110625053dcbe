-- Bytes of a text, as they stand in it or made.
use Rattle.std.specs.Prelude.{ℕ, List}
use Rattle.deck_scan.specs.declared.token.Kept.{Kept}
use Rattle.deck_scan.specs.declared.token.Kept.TheVariants.{There, Made}

abbrev pub part_bytes : Kept → List ℕ
part_bytes (There bytes) = bytes.now
part_bytes (Made bytes) = bytes
