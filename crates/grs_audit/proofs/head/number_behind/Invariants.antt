use Rattle.std.proofs.Common.{◌≡◌, ◌<◌, ◌^◌, length}
use Rattle.std.specs.Option.{option_map}
use Rattle.deck_form.specs.Words.{digits}
use Rattle.grs_audit.specs.Found.{capped}
use Rattle.grs_audit.proofs.head.number_behind.Given as goal

abbrev pub invariant-digits : goal.invariant-digits
invariant-digits l = record {
  same : option_map capped (digits l.number l.rest) ≡ option_map capped (digits l.before l.text);
  small : l.number < 2 ^ 64;
}

abbrev pub decreases-digits : goal.decreases-digits
decreases-digits l = length l.rest
