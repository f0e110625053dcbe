-- Kinds of fault.
use Rattle.std.specs.Prelude.{ℕ}
use Rattle.grs_base.specs.declared.fault.Kind.{Kind}
use Rattle.grs_base.specs.declared.fault.Kind.TheVariants.{TooLong, BadByte, UnknownStatement, BadOperand, NameLength}
use Rattle.grs_base.specs.declared.fault.Kind.TheVariants.{Repeated, OutOfPlace, TooMany, UnknownName, NoSystem}

-- The number by which a report tells the kind, and by which the least of several is told.
abbrev pub number : Kind → ℕ
number TooLong = 1
number BadByte = 2
number UnknownStatement = 3
number BadOperand = 4
number NameLength = 5
number Repeated = 6
number OutOfPlace = 7
number TooMany = 8
number UnknownName = 9
number NoSystem = 10
