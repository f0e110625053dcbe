-- How a command ends.
use Rattle.std.specs.Prelude.{ℕ}
use Rattle.grs_top.specs.declared.status.Status.{Status}
use Rattle.grs_top.specs.declared.status.Status.TheVariants.{Done, Waits, Deck, Words, ReadFault, WriteFault}
use Rattle.grs_top.specs.declared.status.Status.TheVariants.{NoMemory, Bad}

-- the exit status of the program
abbrev pub number : Status → ℕ
number Done = 0
number Waits = 4
number Deck = 8
number Words = 12
number ReadFault = 16
number WriteFault = 20
number NoMemory = 24
number Bad = 28
