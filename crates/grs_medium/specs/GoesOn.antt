-- The message goes on: it waits for no removed system.
use Rattle.std.specs.Prelude.{◌≡◌, true, false, Some}
use Rattle.grs_base.specs.declared.resource.SysId.{SysId}
use Rattle.rsa_message.specs.Message.{any_unseen}
use Rattle.grs_medium.specs.Apply.{is_live}
use Rattle.grs_medium.specs.Medium.{MediumState}

-- The message waits for live systems alone: whoever has still to process an entry is live; and in ring mode it is open,
-- and stands at a live system where some system is live.
pub record WaitsForLive (m : MediumState) : Type 0 where
  pub masks : (s : SysId) → any_unseen s m.message.entries ≡ true → is_live m s ≡ true
  pub opened : m.star ≡ false → m.message.closed ≡ false
  pub holder : (s : SysId) → m.star ≡ false → is_live m s ≡ true
      → (h : SysId) × (m.message.holder ≡ Some h) × (is_live m h ≡ true)
