-- Which mail says that a lock entry has another manager than before.
use Rattle.std.specs.Prelude.{ℕ, Bool, false, ◌==◌, List}
use Rattle.std.specs.List.{list_any}
use Rattle.grs_wire.specs.declared.medium.Mail.{Mail}
use Rattle.grs_wire.specs.declared.medium.Mail.TheVariants.{Notice}

-- whether a mail is a notice that names this lock entry
abbrev pub names : ℕ → Mail → Bool
names e (Notice target moved) = list_any (λ m. m.entry == e) moved
names e mail = false

-- whether one of these mails is
abbrev pub noticed : ℕ → List Mail → Bool
noticed e ms = list_any (names e) ms
